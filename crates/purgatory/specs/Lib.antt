-- ==== the words of public contracts

-- what a clause sees of the room and of its passes, and what was made together
pub mod Rooms
-- a pass that goes on, what it keeps, and what it owes
pub mod Going
-- what a pass finds of its operation, and how it takes the end
pub mod Polled
-- what becomes of an operation that a pass registers, and why
pub mod Registered
-- how a room ends: what its winners won, and of how much its passes have taken the end
pub mod Ends
-- a room as it ended
pub mod Ended
-- what is so of a room that was closed
pub mod Closed
-- what is behind the room's locks; scans.antt says what is in it
pub mod scans
-- ==== the words of private functions

-- locks and their passes, as views show them
pub mod Turning
-- what a pass keeps beside its seat
pub mod Owned
-- what a pass owes, by gauge
pub mod Owing
-- what is so of every source
pub mod Sources
-- a pass that looks whether its debt of a gauge was paid
pub mod Paying
-- the seats with which a room is made
pub mod Making
-- a gauge that was raised
pub mod Raised
-- an operation that a pass describes, opens, sees listed, and checks
pub mod Listed
-- what each winner has won, noted by its number
pub mod Noted
-- the turns of all locks, held together
pub mod Holding
-- a room that nobody can act on any more, as it is kept
pub mod Still

-- ==== the words of the example
