-- The laws of the calls on the register.
pub mod Told  -- which answers have a place, and that it is the one the reader found
pub mod Wanted  -- answers beside those that are wanted, decided
pub mod Day  -- a day, computed
pub mod Unformed  -- calls in memories that are not well formed, computed
pub mod Answers  -- every call at its ends, and which refusal comes first, computed
pub mod SetFigures  -- a fitting line set and emptied, computed
pub mod WeightFigures  -- the boat's weight, computed
pub mod HeldWeight  -- plates go by the weight that is held, whatever the memory
pub mod Refusals  -- what calls share
pub mod Own  -- what only one call asks
pub mod SetFitting  -- what setting a fitting line does, by its numbers
pub mod Withdrawn  -- what put and take off did, setting a fitting line does
pub mod Keeps  -- a well-formed memory stays so
pub mod Effects  -- a refused call leaves all; what an accepted one makes
pub mod Makes  -- the change that each accepted call is
pub mod First  -- what comes first
pub mod Listed  -- refusals are of the list
