-- ==== the words of public contracts

-- what the one-thread broker keeps, and its account
pub mod Board
-- what accepting a request does to the histories
pub mod Entering
-- what the one-thread broker does with a request
pub mod Turns
-- how it scans the requests that wait
pub mod Completing
-- which sessions can act, and what one does
pub mod Acting
-- what a trace comes to on one thread
pub mod Play
-- nothing that waits is answerable, and no session can act
pub mod AtRest
-- small boards, written out
pub mod Worked
-- a whole trace, written out
pub mod WorkedPlay
-- the books of passes that threads have; books.antt says what is in them
pub mod books
-- ==== the words of lemmas that the crates above may cite

-- histories that go on, and what holds in every account that goes on from them
pub mod GoesOn
-- who left the entries of the histories
pub mod Kept
-- what a pass's entries have to do with the clock
pub mod Timely
-- what holds of a board between two steps
pub mod Sound
