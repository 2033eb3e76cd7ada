-- what the crates above may cite
pub mod Laws
-- a list that is turned back to front
pub mod Turned
