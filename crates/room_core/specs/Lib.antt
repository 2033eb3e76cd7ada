-- ==== the words of public contracts

-- the numbers that bound a room
pub mod Numbers
-- functions of a number, and one of their values given anew
pub mod Put
-- the state of the room: words by number, and a part for each source, caller and scanner
pub mod State
-- gauges, the clock, and which scanner scans which gauge
pub mod Gauges
-- a description's needs, when it is an operation, and its tally
pub mod Description
-- readings, and present values beyond them
pub mod Readings
-- the events of values: what is stored, asked, heard and begun
pub mod Scans
-- the events of a pass: describing, opening, seeing the end, taking
pub mod Passes
-- the events of a scanner that meets a pass: meeting, learning, listing
pub mod Meetings
-- the events of a check: reading, leaving, winning
pub mod Checks
-- when an event is allowed, and what it changes
pub mod Step
-- who has the duty to find an operation answerable
pub mod Duty
-- a session word as a number
pub mod Packing
-- the words of the room as numbers
pub mod Words
-- how often an exchange stands in a winner's wins, in a word and among what was taken
pub mod Wins
-- how many exchanges of a winner were taken, and how many stand in words
pub mod Counts
-- the operation that words describe
pub mod Described
-- the nine facts of a sound state
pub mod Sound
-- what lies outside the shape
pub mod Within
-- what is carried from event to event: soundness, and what keeps it
pub mod Carried
-- a state in which nothing is left to do
pub mod Quiet
-- the state at the start
pub mod Start
-- a whole run
pub mod Run
-- the part that a caller's tables show
pub mod CallerTables
-- the part that a scanner's tables show
pub mod ScannerTables
-- the state that the code's tables show
pub mod Tables
-- ==== the words of private functions

-- the sizes of a caller's tables
pub mod CallerSize
-- the sizes of the tables of a caller's operation
pub mod CallerWhole
-- the sizes of a scanner's tables
pub mod ScannerSize
-- the sizes of the code's tables
pub mod Sizes
-- the sizes of the tables of a pass's words
pub mod WordSizes
