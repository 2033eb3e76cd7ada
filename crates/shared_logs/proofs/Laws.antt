-- What the crates above may cite.

-- the ticks of the closed clock, where one pass alone ticked
pub use Rattle.shared_logs.proofs.Added.{ticks_alone}
-- ---- the pass

-- it is the same over two steps, where it does nothing, and where only its seat went on
pub use Rattle.shared_logs.proofs.Same.{caught_up_self, grown_on, none_came, operation_on, operation_self, same_on, same_self, same_stepped, ticked_on, went_on, went_self}
-- ---- what a call left

-- in one turn of a partition or of the clock, none where the histories stay, and over two steps
pub use Rattle.shared_logs.proofs.Leaving.{asked_left, clock_left, ends_entered, ends_looked, found_within, left_on, left_one, left_self, left_stepped, looked_left}
-- the histories that it has seen go on from those before
pub use Rattle.shared_logs.proofs.Leaving.{asked_grown, clock_grown, looked_grown, one_grown}
-- ---- what a turn found

-- histories of the configuration, of which the partition's goes on by others' entries
pub use Rattle.shared_logs.proofs.Finding.{asked_finds, asked_histories, found_finds, found_histories, found_size, found_whole, looked_finds, looked_histories}
