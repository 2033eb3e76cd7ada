-- what `put` and `take` leave of the rings
pub mod Rings
-- the level of a deadline
pub mod Levels
-- the bucket of each entry, and how many entries there are
pub mod Slots
-- what a turn makes of an entry, and the parts of a turn
pub mod Turns
-- a whole level passed, and a whole turn
pub mod Passes
-- entries that wait, under an insert and a removal
pub mod Waiting
-- the due ids: who is among them, and their order
pub mod DueIds
-- for each level a moment before which no bucket that holds an entry starts
pub mod Starts
