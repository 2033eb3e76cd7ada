-- What the crates above may cite.

-- the account of a run may be printed, and its sessions have few numbers
pub use Rattle.audit.proofs.retelling.Printing.{printable, numbers_below}
-- the account of a trace's run can be printed session by session
pub use Rattle.audit.proofs.retelling.Runs.{run_tellable}
-- what is printed of some sessions, and of others behind them
pub use Rattle.audit.proofs.retelling.Tellings.{HaveTold, told_on}
-- the partition of a name and an index is in a lawful account, its entries can be put into an empty log again, and its log end is bounded
pub use Rattle.audit.proofs.retelling.PartLogs.{HasPart, part_there}
