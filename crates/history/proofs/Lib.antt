-- The theorems.
pub mod Tools  -- tests and options
pub mod WholeBlock  -- what is known of an event by its role; a block is whole; saves in a block
pub mod Order  -- what is kept keeps its place, and a block its order
pub mod Once  -- no call is taken twice
pub mod Model  -- the register as the office would draw it
pub mod ModelStep  -- what each call does to the drawing; runs
pub mod Rules  -- the rules by which a drawing moves
pub mod SomeRule  -- some rule fits every state and call
pub mod Moves  -- what work does to a sheet and its weight
pub mod Replay  -- a draft that is ready to be run again: after an open, work, and another desk's save
pub mod AllReady  -- every draft of a run is ready to be run again
pub mod Serial  -- the serial list gives the same hulls
pub mod Shown  -- what a memory shows of a drawing
pub mod Worked  -- work on a draft, shown
pub mod CallsShown  -- each call moves the memory as it moves the drawing
pub mod RunsShown  -- so does each run
pub mod HistoryTells  -- what a history tells of the drawing
pub mod TellsEvery  -- so it is of every rule and every run
pub mod HullsTold  -- and of its hulls, their weights too
pub mod Still  -- a hull whose edit number stands has stood
pub mod Saves  -- no save since an open, walked or counted; when a save is accepted, and what it does
pub mod RunsTold  -- sheets and weights of a run, by its history
pub mod Theorems  -- demand 3, in one record
pub mod InOrder  -- the same oldest first
pub mod Day  -- a day of calls, computed
pub mod DayTold  -- and what its history tells
pub mod Samples  -- the starred samples, in one statement
