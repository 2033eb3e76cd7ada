-- What the crates above may cite.

-- what a session did that was named, and one that was not
pub use Rattle.trace_workers.proofs.Going.{handled_of, nothing_of}
-- its one transcript, as it is told in an account
pub use Rattle.trace_workers.proofs.Transcripts.{alone, last_whole}
pub use Rattle.trace_workers.proofs.Resting.{rested, told_same}
-- the moments that lines tell, as lines come behind others
pub use Rattle.trace_workers.proofs.Moments.{latest_from, rising_after, risen, stayed}
-- the ticks of a history, and a pass that alone tells the clock
pub use Rattle.trace_workers.proofs.Clocks.{ticks_after, moment_is, none_more, own_alone, told_tick}
-- a session goes on by itself
pub use Rattle.trace_workers.proofs.Untouched.{taken_on, taken_past, clock_past}
-- only sessions below the count are named
pub use Rattle.trace_workers.proofs.Traced.{named_below}
-- a worker may go to another thread
pub use Rattle.trace_workers.proofs.SentWorker.{worker_is_send}
