-- The laws of the plates, a file for each concept.
pub mod Whole  -- whole numbers as differences of two sums
pub mod Order  -- their order, the lesser and the greater
pub mod Volume  -- a station's product, and N by a running total
pub mod Weights  -- F, line by line
pub mod LineSet  -- M when a line is set
pub mod Loads  -- the loads as what adds and what takes away
pub mod Most  -- the most that the sums come to
pub mod Power  -- plate A's power, by the case that the code finds
pub mod Rising  -- it never falls as P grows
pub mod Watts  -- as the plate tells it
pub mod Former  -- the rule that 02 (ii) amends
pub mod Ends  -- each number is between its limit's ends
pub mod Within  -- what a sheet within the limits keeps to
pub mod Scale  -- M or none, as the code reads it; a weight that is right
pub mod Rounding  -- what the roundings give
pub mod Pounds  -- plate U's figures, and the largest within them
pub mod PoundsWorked  -- as the code works them
pub mod Persons  -- live load, and the least of the limits on persons
pub mod Engines  -- engine rows, one after the other, and an engine's weight
pub mod RowsRead  -- rows that were read are never refused
pub mod Answers  -- the answers, by what the code has found; refusals of the list, without a place
pub mod Boats  -- the boats of the computed cases
pub mod CasesA  -- cases of plate A
pub mod CasesC  -- of plate C
pub mod CasesU  -- of plate U
pub mod CasesF  -- of fittings, on all three
pub mod Heaviest  -- the heaviest boats
pub mod Weighed  -- the weight that is kept beside a sheet, and the plates by it
pub mod Samples  -- all of them computed, with 01's
