-- ==== the words of private functions

-- what a thread has of the room
pub mod Seats
