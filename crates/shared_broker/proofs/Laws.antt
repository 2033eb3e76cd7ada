-- What the crates above may cite.

-- a pass may go to another thread
pub use Rattle.shared_broker.proofs.SentPass.{pass_is_send}
-- it saw what others did, who did nothing
pub use Rattle.shared_broker.proofs.Ranges.{caught_up_still}
