-- The laws of the register's memory.
pub mod Parts  -- words and parts after a write
pub mod Each  -- a test of each number below n
pub mod Slots  -- slots that a write elsewhere leaves
pub mod Sound  -- what a well-formed memory has, slot by slot
pub mod Same  -- a slot that is as it was stays as it should be, and a memory with one desk changed
pub mod Fittings  -- a sheet stays within limits when a fitting line in it changes, and its weight right
pub mod OneSlot  -- a write within one slot
pub mod DeskChanges  -- what each change of a desk makes and leaves
pub mod Changes  -- and what fresh start, an entry and a save do
pub mod Keeps  -- every change keeps the memory well formed
pub mod Memories  -- computed: memories that are well formed and not, and where things stand
