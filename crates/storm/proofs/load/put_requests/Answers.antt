use Rattle.storm.proofs.Fronts.{none_before, one_more}
use Rattle.storm.proofs.load.put_requests.Goals as goal

pub loop-i-init : goal.loop-i-init
loop-i-init c = none_before c.args.seed c.args.n c.args.lines.now _ c.in_ok-frames.ensures

pub loop-i-preserved : goal.loop-i-preserved
loop-i-preserved c =
    one_more c.args.seed c.args.n c.args.lines.now c.loop-i.i c.loop-i.lines _ _ _ c.loop-i.frames.state _ c.loop-i.invariant c.in_ok-feed_line.ensures.is c.in_ok-feed_line.ensures.drawn
    c.in_ok-push.ensures.ok c.in_ok-put_clock.ensures
