use Rattle.room_core.proofs.Described.{valid, tally_is}
use Rattle.room_core.proofs.theorems.described_operations_are_valid.Goals as goal

pub returns-clause-valid : goal.returns-clause-valid
returns-clause-valid c = valid

pub returns-clause-tally : goal.returns-clause-tally
returns-clause-tally c = tally_is
