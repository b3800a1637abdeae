-- 01, Refusal numbers: the table, each by its name, in 01's order. There are no others, and 0 stands for none.
use Rattle.std.specs.Prelude.{ℕ}
use Rattle.answers.specs.declared.Refusal.{Refusal}
use Rattle.answers.specs.declared.Refusal.TheVariants.{BadMemory, BrokenLine, OutsideLimits, Full, NoHull, NoDesk, NoDraft}
use Rattle.answers.specs.declared.Refusal.TheVariants.{EditedSince, EditsSpent, BadRows, NoRow, NoLoad, NoPower, Untested}
use Rattle.answers.specs.declared.Refusal.TheVariants.{NoPersons, NoRoom, EmptyLine}

-- ---- the register's memory, and texts

abbrev pub bad_memory : ℕ
bad_memory = 1

abbrev pub broken_line : ℕ
broken_line = 2

abbrev pub outside_limits : ℕ
outside_limits = 3

-- ---- hulls, desks, drafts and saves

abbrev pub full : ℕ
full = 4

abbrev pub no_hull : ℕ
no_hull = 5

abbrev pub no_desk : ℕ
no_desk = 6

abbrev pub no_draft : ℕ
no_draft = 7

abbrev pub edited_since : ℕ
edited_since = 8

abbrev pub edits_spent : ℕ
edits_spent = 9

-- ---- plates

abbrev pub bad_rows : ℕ
bad_rows = 10

abbrev pub no_row : ℕ
no_row = 11

abbrev pub no_load : ℕ
no_load = 12

abbrev pub no_power : ℕ
no_power = 13

abbrev pub untested : ℕ
untested = 14

abbrev pub no_persons : ℕ
no_persons = 15

-- ---- lent buffers, and fitting lines

abbrev pub no_room : ℕ
no_room = 16

abbrev pub empty_line : ℕ
empty_line = 17

-- ---- the number of each of the code's refusals

abbrev pub number : Refusal → ℕ
number BadMemory = bad_memory
number BrokenLine = broken_line
number OutsideLimits = outside_limits
number Full = full
number NoHull = no_hull
number NoDesk = no_desk
number NoDraft = no_draft
number EditedSince = edited_since
number EditsSpent = edits_spent
number BadRows = bad_rows
number NoRow = no_row
number NoLoad = no_load
number NoPower = no_power
number Untested = untested
number NoPersons = no_persons
number NoRoom = no_room
number EmptyLine = empty_line
