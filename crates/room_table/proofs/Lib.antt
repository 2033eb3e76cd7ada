-- sums over the parts of all seats
pub mod Sums
-- the places of words
pub mod Places
-- what an event changes
pub mod Changes
-- a step of a seat with one part
pub mod Stepping
-- session words as numbers
pub mod Exchanges
-- the meeting of a scanner
pub mod MetPasses
-- the steps of a source
pub mod Sources
-- the steps of a pass
pub mod Callers
-- the steps of a scanner
pub mod Scanners
-- a seat of one part
pub mod Seatings
-- what each call requires
pub mod Ready
-- seats that are split off and joined
pub mod Handing
-- the table at its start
pub mod Starts
-- as many items as places
pub mod Pigeons
-- the seats that come back
pub mod Ends
-- the last of the seats
pub mod Popped
-- what the crates above may cite
pub mod Laws
