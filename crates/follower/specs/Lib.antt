-- ==== the words of public contracts

-- what a replica is to contracts
pub mod Copies
-- logs, as whole batches one after the other
pub mod Logs
-- what holds of every copy
pub mod Kept
-- the body of a reply, and where a body departs from it
pub mod ReplyBody
-- what becomes of a reply
pub mod Verdict
-- the request for more
pub mod Asking
-- what a clause sees of a link
pub mod Flows
-- the course of a follower over the bytes that come
pub mod Course
-- copies of one log
pub mod CopyOf
-- a follower of a broker whose account is lawful
pub mod FromLawful
-- a worked session
pub mod Worked
-- dials
pub mod Dialling
-- the words with which a follower is started
pub mod Commands
-- a follower's run
pub mod Running
-- ==== the words of private functions

-- a reply that is being read
pub mod Standing
-- the batches of a reply as they are checked
pub mod Checking
-- a round, and the reads in it
pub mod Rounds
