-- What proofs of other crates may cite of a partition's replicas.

-- the log end, as a history grows by an entry, and the high watermark, as it goes on
pub use Rattle.partlog.proofs.in_sync.Growing.{end-appended, end-fetched, end-left}
pub use Rattle.partlog.proofs.in_sync.History.{high-grows, high-within}
-- those that lag, by the test, and as one of them leaves
pub use Rattle.partlog.proofs.in_sync.Leaving.{lags-left, lags-true, true-lags, late-first, late-least, late-rest, late-none, none-late, late-with}
-- how many are in sync
pub use Rattle.partlog.proofs.in_sync.Counting.{count-some, count-within}
pub use Rattle.partlog.proofs.in_sync.History.{count-of-all}
-- what is kept
pub use Rattle.partlog.proofs.in_sync.Counting.{stands-followers}
