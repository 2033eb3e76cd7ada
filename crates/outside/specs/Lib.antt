-- ==== the words of public contracts

-- counts that stand still at the end of 64 bits
pub mod Count
-- a count of faults, and what rose in it
pub mod Causes
-- bytes and lists that are known where an object tells them
pub mod Told
-- an object that shows its bytes, or doesn't, and stays so
pub mod Alike
-- a link as it was accepted
pub mod NewLink
-- what an accept does to the links given and to their end
pub mod Accepting
-- which calls of an object in memory are to fail, and how many were made and failed
pub mod Plan
-- a source in memory
pub mod Supply
-- a sink in memory
pub mod Store
-- a link in memory
pub mod Wire
-- a port in memory
pub mod Quay
-- a clock in memory
pub mod Hand
-- the links and ports of the real network
pub mod Connected
-- what threads share of the world; shared.antt says what is in it
pub mod shared
-- ==== the words of private functions

-- the two halves of an object in memory
pub mod Halves
-- the links on a shelf
pub mod Chain
-- a reader or writer with a count of its faults
pub mod Counted
