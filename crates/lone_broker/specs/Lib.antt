-- ==== the words of public contracts

-- what the broker keeps, and the board that this represents
pub mod Kept
-- what it holds, as a caller meets it
pub mod Held
-- which sessions wait for what, and who may be answerable; index.antt says what is in it
pub mod index
-- ==== the words of private functions

-- decisions that were carried out
pub mod Carried
-- from what a reply is computed
pub mod Replying
-- what is read of the named partitions as their logs are
pub mod Gathered
-- what a session's desk shows
pub mod Desks
-- a request that was handled
pub mod Handled
-- the looks of a request that is completed
pub mod Looks
-- what a step of one session leaves as it was
pub mod Steps
-- who waits for what, and which sessions can act
pub mod Watching
-- what the index is told
pub mod Telling
