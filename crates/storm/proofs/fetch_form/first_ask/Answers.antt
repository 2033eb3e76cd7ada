use Rattle.std.proofs.Common.{pos, arith}
use Rattle.storm.proofs.WholeRequests.{any_fetch}
use Rattle.storm.proofs.fetch_form.first_ask.Goals as goal

pub returns-clause-sendable : goal.returns-clause-sendable
returns-clause-sendable c = any_fetch 0 0 (pos 0) 0 0 0 (omega arith) (omega arith) (record { sfits = omega arith }) (omega arith) (omega arith) (omega arith)
