use Rattle.trace_workers.specs.Telling.{joined}
use Rattle.trace_workers.proofs.Parts.{pass_put}
use Rattle.trace_workers.proofs.played.kept_parts.Goals as goal

pub loop-number-preserved : goal.loop-number-preserved
loop-number-preserved c = record {
  kept = c.in_ok-put_pass.ensures.kept;
  desks = c.in_ok-put_pass.ensures.desks;
  lines = c.in_ok-put_pass.ensures.lines;
  text = pass_put c.args.account.now c.loop-number.number (joined c.args.account.now c.loop-number.parts) (joined c.args.account.now c.put_pass.new.parts) c.loop-number.invariant.text c.in_ok-put_pass.ensures.put;
}
