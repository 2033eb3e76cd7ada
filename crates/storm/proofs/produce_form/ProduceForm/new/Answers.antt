use Rattle.std.proofs.Common.{◌∙◌, ap, pos, subst, sym, arith}
use Rattle.storm.specs.Formed.{frame_with}
use Rattle.storm.specs.Sendable.{IsSendable}
use Rattle.storm.proofs.Formed.{formed_size}
use Rattle.storm.proofs.WholeRequests.{any_produce}
use Rattle.storm.proofs.produce_form.ProduceForm.new.Goals as goal

pub first_frame-requires : goal.first_frame-requires
first_frame-requires c =
    let (batch, formed, is) = c.in_ok-first_ask.ensures in
    let size = formed_size batch formed in
    subst (IsSendable 0) (sym is) (any_produce batch 0 0 (pos 0) 0 (omega arith) (omega arith) (record { sfits = omega arith }) (omega arith) (omega (arith, size)))

pub invariant_of-result : goal.invariant_of-result
invariant_of-result c =
    let (batch, formed, is) = c.in_ok-first_ask.ensures in
    (0, 0, pos 0, 0, batch, formed, c.in_ok-first_frame.ensures ∙ ap (frame_with 0) is)
