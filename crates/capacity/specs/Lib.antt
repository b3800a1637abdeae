-- What the plates are worked from and how, in the order of 01.
pub mod Whole  -- whole numbers, below zero too, and their rounding
pub mod Words  -- the words of a sheet by their names
pub mod Volume  -- N of the four stations, and Z, the water
pub mod Weights  -- F, the fittings, and M, the boat with them
pub mod PlateC  -- load and persons
pub mod PlateA  -- load and power
pub mod PlateU  -- pounds
pub mod Kinds  -- the plates as data
pub mod Highs  -- the most that each word may be, and what inner functions ask
pub mod Samples  -- 01's starred cases of a sheet
