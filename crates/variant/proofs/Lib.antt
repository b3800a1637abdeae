-- The laws of variants, a file for each concept.
pub mod Answered  -- what reading one text or two answers
pub mod WellMade  -- a variant's form is well made and sayable: its places are told, and no text of it is too long
pub mod Lines  -- the lines of a text that is written
pub mod Joins  -- the joined text, line by line
pub mod JoinedSheet  -- the joined text of two right texts is right, and says whose rows
pub mod Parents  -- the lines that a right parent may hand on
pub mod Given  -- what one text or two give: which is judged first, and that they are refused and read as a text is
pub mod Plainly  -- two right texts put as one
pub mod Once  -- a line that may be there, and is
pub mod Full  -- a variant that leaves no line out
pub mod Texts  -- parents and variants of 01's sheet
pub mod Figures  -- which text is refused and where, computed
pub mod Absent  -- what two right texts make, whichever lines are absent, computed
pub mod Exchanges  -- lines exchanged, twice, left out and stopped after, computed
