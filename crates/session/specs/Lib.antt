-- ==== the words of public contracts

-- what a clause sees of a link, and what flowed over it
pub mod Flows
-- the bytes of the replies, whole or cut
pub mod Replies
-- why a session ended so
pub mod Causes
-- the frames of calls at the front of an input
pub mod Handled
-- when the bytes of a session were asked for
pub mod Asked
-- what a session was, from its link's bytes to its link's bytes
pub mod Served
-- a pass that goes on
pub mod Onwards
-- ==== the words of private functions

-- a request that is answered
pub mod Answering
-- a read that brings more, or shows how the session is to end
pub mod Reading
-- a session as it goes on, and as it is about to end
pub mod Standing
