use Rattle.shared_logs.proofs.Same.{refused_before}
use Rattle.shared_logs.proofs.call_turns.accepting.fetch.Goals as goal

pub returns-in_err-put_down-clause-refused : goal.returns-in_err-put_down-clause-refused
returns-in_err-put_down-clause-refused g c = refused_before c.from_residual.result c.args.pass.now
