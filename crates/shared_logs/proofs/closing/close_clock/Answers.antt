use Rattle.std.proofs.Common.{◌∙◌, sym}
use Rattle.shared_logs.proofs.Gone.{clock_out, clock_passes, clocks_all}
use Rattle.shared_logs.proofs.closing.close_clock.Goals as goal

pub close-requires-clause-each : goal.close-requires-clause-each
close-requires-clause-each c = clock_passes c.args.lock c.args.hands c.loop-hand.passes (clocks_all c.args.hands c.loop-hand.passes _ c.loop-hand.invariant.all (sym c.loop-hand.invariant.len ∙ c.in-None.ensures.steps.0)) c.requires.hands

pub returns : goal.returns
returns c =
    let all = clocks_all c.args.hands c.loop-hand.passes _ c.loop-hand.invariant.all (sym c.loop-hand.invariant.len ∙ c.in-None.ensures.steps.0) in
    clock_out c.args.lock c.args.hands c.loop-hand.passes all c.requires.hands c.requires.passes c.close.result c.close.ensures.name c.close.ensures.each c.close.ensures.whose c.close.ensures.once
    c.into_parts-log.result.0 c.into_parts-log.result.2 c.into_parts-log.ensures.log c.into_parts-log.ensures.source c.into_parts-log.ensures.keeps
