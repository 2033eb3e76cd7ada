-- What proofs of other crates may cite of batches.

-- how many records a batch tells, and a stamped one: its length, and that it is a batch of the same records
pub use Rattle.kbatch.proofs.Batches.{batch_count, stamped_len, batch_stamped}
-- bytes are a batch of one list of records at most
pub use Rattle.kbatch.proofs.Decoding.{batch_once}
-- a batch has no fault, and other bytes have one first fault
pub use Rattle.kbatch.proofs.Faults.{batch_none, first_is_one}
-- and each list of bytes is a batch, or has a first fault
pub use Rattle.kbatch.proofs.Total.{IsJudged, batch_or_fault}
