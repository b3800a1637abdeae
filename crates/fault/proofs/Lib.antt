-- The laws of places at fault.
pub mod Rules  -- rules, and texts that go wrong by them
pub mod Choice  -- one rule or another, told by a text's start
pub mod Going  -- readings one after another: what was read well leaves the rest of the text to decide
pub mod Stopped  -- where the number reader stops in a field
pub mod Numeral  -- a field that is no number: the number reader tells its place at fault and no other
pub mod Cut  -- a text cut off, with others after it: its first bytes and its first field
pub mod Entry  -- the text of a field with the byte that must end it
pub mod EntryPlace  -- where a field goes wrong, for each way in which its form can be wrong
pub mod EntryTold  -- what the reader of a field tells of it
pub mod OtherEnd  -- a field that two bytes may end, read with the one that does not
pub mod Short  -- a field after which numbers may be left out: which of the two rules is left
pub mod FirstNumber  -- the first number of a line: read, and refused
pub mod Numbers  -- the numbers of a line, one field after another
pub mod Line  -- a line of any form: taken, it goes on with the rest; refused, it has its place
pub mod LineSamples  -- worked fields and lines that go wrong
pub mod OneOf  -- a line of one of several kinds
pub mod Raised  -- raising a limit leaves a line's rule
pub mod Rest  -- what stands after a line
pub mod Count  -- how many lines a part may still have
pub mod Rows  -- the rows of a part, read
pub mod RowsRefused  -- the rows of a part, refused
pub mod Sayable  -- forms of which there are texts
pub mod Made  -- there are texts of them
pub mod Parts  -- the parts of a text, one after the other
pub mod Ended  -- a broken limit stands in a field that has ended, and nothing before its end is at fault
pub mod LineEnded  -- so of a line
pub mod RowsEnded  -- of rows
pub mod PartsEnded  -- and of a text
pub mod KindTold  -- what stands before a place tells of which kind of line a text begins
pub mod LineSettled  -- a line up to a place settles what its reader says
pub mod RowsSettled  -- so of rows
pub mod PartsSettled  -- and of a text
pub mod LineReach  -- a line that stops with 2: its reader comes as far as the field there
pub mod RowsReach  -- so of rows
pub mod PartsReach  -- and of a text
pub mod Tellings  -- what a reader can say of a text that goes wrong, and of one by the rules
pub mod Theorems  -- a refusal's place, of every form
pub mod Verdicts  -- and of a whole text, with line and byte
pub mod Longest  -- how long a text by the rules can be
pub mod Readers  -- and of the reader that a call cites
pub mod Examples  -- the forms of samples: where their texts go wrong
pub mod LimitExample  -- a text that breaks a limit, and is by the rules
pub mod ShortExample  -- a line with its count and one without, put together by the rules
pub mod TwiceExample  -- two parts of one kind of line: what is outside the first is not let through
