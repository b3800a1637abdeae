-- The laws of sheets and engine rows, a file for each concept.
pub mod Table  -- the code's table of limits is the sheet's
pub mod Held  -- numbers on several lines, line by line and in one run
pub mod Words  -- a sheet's words without its HULL number
pub mod WellMade  -- both forms are well made
pub mod FitRow  -- what a fitting line and a FIT row have
pub mod Fits  -- FIT rows and the fitting lines
pub mod FitLimits  -- with the same limits
pub mod Full  -- a sheet within the limits has all its numbers
pub mod SheetRows  -- a sheet's numbers and the rows of its text
pub mod Lined  -- a line as it is written
pub mod Renewed  -- a text of before with counts written in, line by line
pub mod RenewedRows  -- of FIT rows
pub mod RenewedForm  -- and of a sheet's rows
pub mod SheetText  -- the single text of a sheet, both ways; 2 or 3 alone
pub mod EngineText  -- the single text of engine rows, both ways; their columns; 2 or 3 alone
pub mod Writing  -- a sheet's text, line by line
pub mod Most  -- 658 bytes, and the sheet that reaches them
pub mod Calls  -- the single text as a caller sees it
pub mod Places  -- where a refused text is wrong: line and byte are where it goes wrong by the line rules
pub mod Refused  -- what comes first, which refusal has a place; a refused call leaves every lent byte
pub mod Listed  -- refusals of the list alone
pub mod BaseHull  -- 01's printed sheet as a text, with some of its lines given
pub mod Examples  -- worked texts of sheets, computed
pub mod EngineExamples  -- and of engine rows
pub mod PlaceFigures  -- where texts are wrong, computed: figures by hand, and a text stopped and spoilt at each byte
pub mod OldTexts  -- texts of before are read as they were
pub mod FitFigures  -- FIT lines of two numbers and of three, computed
pub mod LimitTable  -- the table of limits once more, and a text with the place of each number
pub mod Ends  -- both ends of every limit, computed
pub mod Answered  -- what the calls answer, computed
