-- ==== the words of public contracts

-- what a clause sees of a session
pub mod Sessions
-- the lines of a session's replies, where they are kept
pub mod Telling
-- what a session has received, and what it did with it
pub mod Received
-- a session that does nothing more for now
pub mod Resting
-- lines that can be played
pub mod Playable
-- a worker's part
pub mod Workers
-- what the account of lines that workers played is to the lines
pub mod WorkerRun
-- ==== the words of private functions

-- the lines that are played
pub mod ToPlay
-- how a session may end
pub mod Ending
-- the lines that are a worker's own
pub mod Own
-- all sessions and the clock in one hand
pub mod Joined
-- sessions and clock as they were dealt to workers
pub mod Dealt
-- sessions as they are dealt, one after the other
pub mod Dealing
-- what is had back from workers
pub mod Gathered
-- joined sessions that are closed
pub mod Closed
