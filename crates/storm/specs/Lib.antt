-- ==== the words of public contracts

-- the numbers that are drawn from a seed
pub mod Generator
-- where a request is sent and to which partition, and what comes before it
pub mod Places
-- what a request asks
pub mod Requests
-- the lines of a load
pub mod Lines
-- the frames of its requests, one after the other
pub mod RequestFrames
-- how long a request may wait, and how far the clock can go until none does
pub mod Waits
-- ==== the words of private functions

-- a request that can be sent as a frame
pub mod Sendable
-- a produce that another one is written over
pub mod Formed
