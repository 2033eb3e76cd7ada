use Rattle.std.proofs.Common.{arith}
use Rattle.storm.proofs.Drained.{wait_briefly, early}
use Rattle.storm.proofs.promises.loads_can_be_drained.Goals as goal

pub returns-clause-waits : goal.returns-clause-waits
returns-clause-waits c = wait_briefly

pub returns-clause-limit : goal.returns-clause-limit
returns-clause-limit c = λ seed n t few there. let late = early seed n t there in omega (arith, few, late)
