-- What holds of every answer and every promise.
pub mod Outcomes  -- one outcome; refusals of the list
pub mod Told  -- what the code answers is told whole in numbers
pub mod Samples  -- the refusals by number and each answer figure by figure, computed
