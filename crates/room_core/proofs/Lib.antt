-- tables with one value given anew
pub mod Puts
-- sums over needs
pub mod Tallies
-- tests, and the phases and stages that they tell
pub mod Tests
-- who finds an operation, under other values, readings and parts
pub mod Finding
-- what is known by readings that were taken, or lost
pub mod Known
-- the facts of a sound state, of a state
pub mod Facts
-- what is carried, without the wins
pub mod Kept
-- an event that changes one caller alone
pub mod Callers
-- an event that changes one scanner alone
pub mod Scanners
-- an event's change of one word of a pass alone
pub mod Words
-- wins where nobody wins, and where one does
pub mod Winners
-- a win more
pub mod Prizes
-- a scanner that drops duties and entries
pub mod Dropping
-- a change of one table inside the shape
pub mod Outside
-- what lies outside the shape, at every event
pub mod Bounds
-- Store
pub mod Storing
-- Ask
pub mod Asking
-- Hush
pub mod Hushing
-- Hear
pub mod Hearing
-- Begin
pub mod Beginning
-- Relieve
pub mod Relieving
-- Describe
pub mod Describing
-- Open
pub mod Opening
-- Meet
pub mod Meetings
-- Learn
pub mod Learning
-- Mark
pub mod Marking
-- Marked
pub mod SeeingMarks
-- Read, by a pass
pub mod PassReading
-- Read, by a scanner
pub mod ScannerReading
-- Leave, by the owner
pub mod PassLeaving
-- Leave, by a scanner
pub mod ScannerLeaving
-- Win, by the owner
pub mod PassWinning
-- Win, by a scanner
pub mod ScannerWinning
-- Peek
pub mod Peeking
-- Idle
pub mod Idling
-- the start
pub mod Starting
-- every event, and every run
pub mod Steps
-- a sound and quiet state
pub mod Quiets
-- a won word stands once
pub mod Once
-- a write in a list
pub mod Views
-- the tables of the start
pub mod Idles
-- runs
pub mod Runs
-- a caller's part written in the list of callers
pub mod CallerViews
-- a test of each number below another
pub mod AllBelow
-- a tally as a loop counts it
pub mod Counting
-- readings as a loop over the needs looks for them
pub mod ReadingAll
-- places in the tables of the scanners and the descriptions
pub mod ScanPlaces
-- dead entries, dropped row by row
pub mod DeadEntries
-- a session word and its number
pub mod Packings
-- the numbers of winners
pub mod Few
-- sums of the first terms
pub mod Sums
-- how many exchanges a winner has won
pub mod Counts
-- the operation that words describe
pub mod Described
-- what the crates above may cite
pub mod Laws
