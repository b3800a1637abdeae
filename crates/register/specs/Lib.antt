-- The calls on the register: what each answers and what it leaves in the memory.
pub mod Refusals  -- what refuses a call, in order, and what a refusal leaves
pub mod Calls  -- every call, as data, and its step
