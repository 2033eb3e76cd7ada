-- decisions that are carried out one after the other
pub mod DecisionSteps
-- what is decided of the partitions of a produce or a fetch, one after the other
pub mod ProduceParts
-- no partition's followers change
pub mod Followers
-- what became of the partitions of a request stands for logs that are there
pub mod ResultsStand
-- what is read of the logs for a reply, and how many bytes of records that are
pub mod ReadForReply
-- the reply to a request comes from what became of its partitions and their logs
pub mod Alike
-- logs without entries, one after the other
pub mod Openings
-- the parts of an account, one after the other, and the whole
pub mod Closings
-- what is kept stands for a board, and goes on to
pub mod Standing
-- how what is kept turns, step by step
pub mod Turning
-- the requests that wait, by their sessions
pub mod Waits
-- what a request that waits needs of the logs
pub mod Needs
-- what a session's line brings, and a session that ends
pub mod Bringing
-- what a clock line leaves where the moment rises
pub mod Risen
-- a request that was handled
pub mod Taking
-- a request that is completed
pub mod Completes
-- how much is left to do on a board
pub mod LessWork
-- what an accepted request gives
pub mod Handles
-- a session's calls
pub mod Seats
-- what is kept of the requests that wait, as the code shows it
pub mod Dues
-- what the code leaves of a request that is completed, and the broker before the first line
pub mod Finishing
-- a request that waits is answered
pub mod Answering
-- what a step of one session leaves as it was
pub mod Steps
-- who waits isn't answerable unless it is a suspect
pub mod Watching
-- what those who wait are told
pub mod Telling
-- a scan goes through the suspects, and the next to act is the least that can
pub mod Scanning
