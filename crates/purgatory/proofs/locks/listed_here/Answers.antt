use Rattle.std.proofs.Common.{[], refl}
use Rattle.purgatory.proofs.scans.Laws.{listed_goes}
use Rattle.purgatory.proofs.locks.listed_here.Goals as goal

pub returns-then-not-is_here-clause-went : goal.returns-then-not-is_here-clause-went
returns-then-not-is_here-clause-went c = record { table = refl; scanner = refl; newer = []; steps = refl }

pub returns-clause-went : goal.returns-clause-went
returns-clause-went c = listed_goes c.args.pass c.args.generation c.args.at c.args.turn.value.seat c.listed.result.value.seat c.listed.ensures.listed
