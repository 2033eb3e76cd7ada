-- what the crates above may cite
pub mod Laws
-- passes that go on
pub mod Goes
-- how many operations a pass has won, and of how many it has taken the end, after a step
pub mod Counted
-- what a pass keeps beside its seat, after a step
pub mod Owners
-- a pass's own session word
pub mod Words
-- a pass that looks at the marks of its operation
pub mod Marks
-- a pass that writes its operation down
pub mod Describing
-- a pass that reads the gauges of its operation
pub mod Reading
-- a pass that leaves its operation, or wins it
pub mod Leaving
-- the room's locks, and what a pass has of them
pub mod Doors
-- the turns of all locks, held together
pub mod Holds
-- a room whose scanners' seats are back, as its passes' come back too
pub mod Stills
-- sums over seats, and over their numbers
pub mod Added
-- a room that was closed
pub mod Closes
-- how a room is made
pub mod Made
-- a gauge is raised
pub mod Raises
-- an operation from its opening to its end
pub mod Runs
-- the passes of the locks, as they are dealt out
pub mod Rings
