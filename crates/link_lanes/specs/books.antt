-- ==== the words of public contracts

-- what a clause sees of a link that was served
pub mod Shown
-- the bytes that a session was sent, by the account
pub mod WasSent
-- a session over a link, by the account
pub mod LinkSession
-- how often a number stands in a list
pub mod Times
-- the book of a lane
pub mod LaneBook
-- a link that is served and retired
pub mod Serving
-- what the books of all lanes say together
pub mod Together
