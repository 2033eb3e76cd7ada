-- What the crates above may cite.

-- no log of a lawful account has more records than a log may have bytes
pub use Rattle.audit.proofs.Bounded.{logs_bounded}
-- each entry of a lawful account was left by a decision that a lawful call carried out, or is a look
pub use Rattle.audit.proofs.EntryOfCall.{entry_owned, entry_shows}
-- what became of the partitions of a request, step by step
pub use Rattle.audit.proofs.ResultsStand.{steps_results}
-- the looks of a lawful call stand, and each call of a lawful account is lawful
pub use Rattle.audit.proofs.Prints.{looks_stand, all_lawful}
-- the calls that have a reply, as one more comes
pub use Rattle.audit.proofs.Replied.{answered_more, answered_same, zip_push}
-- what holds of a call that went well
pub use Rattle.audit.proofs.Ends.{on_ok}
