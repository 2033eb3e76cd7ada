-- ==== the words of public contracts

-- what a clause sees of the table and of its seats
pub mod Seats
-- what a part has come to by its steps
pub mod Parts
-- what each step tells: of session words, and of the seat that made it
pub mod Tells
-- the seats as they are handed out, and as they come back
pub mod Handed
-- a table that is closed seat by seat
pub mod Closing
-- the rule of the table, and the words that a state has
pub mod Shown
-- where each word stands
pub mod Layout
-- ==== the words of private functions

-- all parts of a shape, as they are handed out
pub mod Fresh
