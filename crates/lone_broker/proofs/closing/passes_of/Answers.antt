use Rattle.std.proofs.Common.{List, Option, reverse, option_to_list, ap, ◌∙◌}
use Rattle.audit.specs.declared.account.Transcript.{Transcript}
use Rattle.audit.specs.broker.Board.{put_before}
use Rattle.lone_broker.proofs.Closings.{passes_before, before_none, seat_taken}
use Rattle.lone_broker.proofs.closing.passes_of.Goals as goal

pub loop-desk-init : goal.loop-desk-init
loop-desk-init c =
    ap (λ (passes : List (List Transcript)). passes_before c.args.desks (reverse passes)) c.new-passes.ensures ∙ before_none c.args.desks

pub loop-desk-preserved : goal.loop-desk-preserved
loop-desk-preserved c =
    let later = reverse c.loop-desk.passes in
    ap (passes_before c.pop.new.self) (c.in_ok-put_before.ensures ∙ ap (λ (o : Option Transcript). put_before (option_to_list o) later) c.into_transcript.ensures)
    ∙ seat_taken c.loop-desk.desks c.pop.new.self c.in-Some.desk later c.in-Some.ensures.items
    ∙ c.loop-desk.invariant
