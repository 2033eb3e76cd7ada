-- ==== the words of public contracts

-- the books of lanes; books.antt says what is in it
pub mod books
-- what a clause sees of a link
pub mod Seen
-- a run of lanes
pub mod LaneRun
-- ==== the words of private functions

-- what lanes share, and what a clause sees of servers and lanes
pub mod Halls
-- a server between two links, or with one in hand
pub mod Serving
-- the link that an accept gives
pub mod Accepted
-- a lane that goes on
pub mod Going
-- servers and lanes as they are made
pub mod Made
-- all that a run begins with
pub mod Begun
-- all lanes before and after their threads, and all servers once the queue is empty
pub mod Together
-- what the lanes come to once their threads are joined
pub mod Gathered
-- a hall that is closed
pub mod Closed
