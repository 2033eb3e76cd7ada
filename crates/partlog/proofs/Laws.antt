-- What proofs of other crates may cite of logs, their batches and their histories.

-- a history that goes on: its batches, and the bytes that they have
pub use Rattle.partlog.proofs.Appending.{batches-append, bytes_in-batches}
pub use Rattle.partlog.proofs.Below.{batches-take}
-- bounds
pub use Rattle.partlog.proofs.Bounds.{log_end-le-bytes, sum_by-filter-le}
-- what a history says of the replicas, as it goes on, its log end, and the high watermark
pub use Rattle.partlog.proofs.Replicas.{events-append, end-of-replicas, high-within, high-grows}
-- whoever was taken out lagged, as a history goes on and of a front of it, and as those who lag are taken out
pub use Rattle.partlog.proofs.Lagging.{late-nobody, late-push, late-append, late-follow, late-look, late-shrink, late-front, late-take, late-some-shrunk, late-all-shrunk}
-- those who lag, and that none does once all of them are taken out
pub use Rattle.partlog.proofs.Lagging.{none-lags, nobody-late, none-shrunk, all-none-lags, late-at-first}
-- what a state's batches show of the state, and that a prefix of a kept history is kept
pub use Rattle.partlog.proofs.Earlier.{kept-front, readable-now}
-- batches from a place on, and as many as fit
pub use Rattle.partlog.proofs.Fronts.{bytes_in-cons, fitting-more, fitting-none, past-le, full-past, full-fitting}
-- batches that each have bytes, and whose offsets rise to an end within a log's bounds
pub use Rattle.partlog.proofs.Rows.{IsFull, rising-batches}
pub use Rattle.partlog.proofs.Whole.{kept-end, kept-full}
-- what those who are taken out leave of a log: its records, bytes and batches, and that it is kept
pub use Rattle.partlog.proofs.Taken.{IsSameLog, same-shrunk, same-some-shrunk, same-all-shrunk}
