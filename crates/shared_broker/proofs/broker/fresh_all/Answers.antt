use Rattle.std.proofs.Common.{◌∙◌, List, [], ◌∷◌, ◌++◌, ap, subst, sym}
use Rattle.std.proofs.lemmas.List.{map-append}
use Rattle.std.proofs.lemmas.List.Elements.{All-tail}
use Rattle.std.specs.Prelude.{All}
use Rattle.std.specs.Vec.Iter.{into_iter_items}
use Rattle.shared_broker.specs.Fresh.{IsNewOf, pass_with}
use Rattle.shared_broker.specs.Passes.{PassView}
use Rattle.shared_broker.proofs.broker.fresh_all.Goals as goal

pub loop-seat-preserved : goal.loop-seat-preserved
loop-seat-preserved c =
    let i = c.loop-seat.invariant in
    let config = c.args.config.now in
    let seat = c.in-Some.seat in
    let next = into_iter_items c.next.new.self in
    record {
      passes = c.in_ok-push.ensures.ok ∙ ap (λ (p : PassView). c.loop-seat.passes ++ p ∷ []) c.fresh.ensures ∙ ap (λ (ps : List PassView). ps ++ pass_with config seat ∷ []) i.passes
          ∙ sym (map-append (pass_with config) c.loop-seat.yielded (seat ∷ []));
      left = All-tail (IsNewOf config) seat next (subst (All (IsNewOf config)) c.in-Some.ensures.steps.0 i.left);
    }
