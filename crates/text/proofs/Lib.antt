-- The laws of the text layer, a file for each concept of specs/.
pub mod Told  -- what the code answers of a text is told whole
pub mod Field  -- how a text begins, its first field, how far a tag agrees with it
pub mod Number  -- the digits of a number, and how many they are
pub mod NumberSteps  -- a field read as a number, digit by digit
pub mod NumberTrip  -- from a number to its digits and back
pub mod Digits  -- the first digits of a field; a number has ten at most
pub mod Limits  -- the table of limits, one number, many numbers
pub mod Bounds  -- limits of the common kinds, as inequalities
pub mod Alike  -- many numbers by one limit: the greatest tells
pub mod Entry  -- a number read with the byte that must end it
pub mod Reading  -- one number after another, and the loop that reads them
pub mod Line  -- a whole line that is read, and how far a reading reaches
pub mod Laid  -- bytes laid into a lent slice, piece by piece
pub mod Writing  -- a line's text number by number, and the loop that writes it
pub mod Led  -- a text that another leads
pub mod EntryTrip  -- from a number with its ending byte to its text and back
pub mod NumbersTrip  -- from the numbers of a line to their text and back
pub mod LineTrip  -- from a line's numbers to its text and back
pub mod Two  -- a line of two numbers
pub mod Most  -- the greatest length of a line
pub mod Faults  -- a line is refused with 2 or 3 alone
pub mod Place  -- line and byte of a place, byte by byte
pub mod Cut  -- a text cut into its lines, after each line feed
pub mod FirstLine  -- a text's first line, and what stands after the first lines
pub mod LineAlone  -- a line reads the same whatever stands after it
pub mod PlaceInLine  -- a place is found again in the lines of the text
pub mod PlaceSamples  -- worked places, computed
pub mod Examples  -- worked fields and numbers, computed
pub mod LineExamples  -- worked lines, computed: where each is refused
pub mod CountExamples  -- worked lines with a number that may be left out, computed
