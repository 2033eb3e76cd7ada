use Rattle.timing_wheel.proofs.Waiting.{AllWait-none}
use Rattle.timing_wheel.proofs.wheels.Wheels.new.Goals as goal

pub invariant_of-result : goal.invariant_of-result
invariant_of-result c = rw c.in_ok-entries.ensures (AllWait-none 0 c.args.entries)
