use Rattle.std.proofs.Common.{◌≡◌, ◌∙◌, ℕ, ◌+◌, List, [], ◌∷◌, ◌++◌, ap, arith, length, subst, sym}
use Rattle.std.specs.Vec.Iter.{into_iter_items}
use Rattle.std.proofs.lemmas.List.{length_push}
use Rattle.std.proofs.lemmas.List.FromFn.{map-range_with_len_more}
use Rattle.turn_lock.specs.declared.pass.TurnPass.{TurnPass}
use Rattle.outside.specs.declared.shared.port.port_entry.PortEntry.{PortEntry}
use Rattle.outside.specs.shared.port.Desk.{Desk}
use Rattle.outside.specs.shared.port.Fresh.{fresh_pass, fresh_passes}
use Rattle.outside.specs.shared.port.Keys.{AreFreshFrom, IsPortPass, pass_view}
use Rattle.outside.specs.shared.port.PortViews.{PassView}
use Rattle.outside.proofs.shared.port.KeysMade.{new_pass, new_view}
use Rattle.outside.proofs.shared.port.making.port_passes.Goals as goal

pub overflow_cast-number : goal.overflow_cast-number
overflow_cast-number g c =
    let count = c.loop-key.invariant.count in
    let taken = ap (λ (l : List (TurnPass (Desk g.row.P.Denot g.row.P-Link.Denot) (PortEntry g.row.P-Link.Denot))). length l) c.in-Some.ensures.steps.0 in
    omega (arith, count, taken, c.len-number.ensures, c.requires.few)

pub invariant_of-push : goal.invariant_of-push
invariant_of-push g c =
    let id = c.requires.keys.0 in
    let terms = c.requires.keys.1 in
    let rest = (c.loop-key.invariant.each id terms c.requires.keys.2).0 in
    let first = subst (AreFreshFrom id terms (length c.loop-key.passes)) c.in-Some.ensures.steps.0 rest in
    subst (λ (n : ℕ). IsPortPass n c.in-Some.key) (sym c.len-number.ensures) (new_pass terms (length c.loop-key.passes) c.in-Some.key first.1)

pub loop-key-preserved : goal.loop-key-preserved
loop-key-preserved g c =
    let L : Type 0 = g.row.P-Link.Denot in
    let Key : Type 0 = TurnPass (Desk g.row.P.Denot L) (PortEntry L) in
    let i = c.loop-key.invariant in
    let passes = c.loop-key.passes in
    let taken = ap (λ (l : List Key). length l) c.in-Some.ensures.steps.0 in
    let gone = c.in-Some.ensures.steps.1 in
    let more = c.in_ok-push.ensures.ok in
    let longer = ap (λ (l : List (PassView L)). length l) more ∙ length_push passes _ in
    let len = i.len in
    let count = i.count in
    record {
      len = omega (arith, len, gone, taken);
      count = omega (arith, count, longer, taken);
      each = λ id terms start.
          let now = i.each id terms start in
          let n = length passes in
          let first = subst (AreFreshFrom id terms n) c.in-Some.ensures.steps.0 now.0 in
          let view = new_view id terms n c.in-Some.key first.0 first.1 in
          let front : passes ++ fresh_pass id terms n ∷ [] ≡ fresh_passes id terms (n + 1) =
          ap (λ (l : List (PassView L)). l ++ fresh_pass id terms n ∷ []) now.1 ∙ sym (map-range_with_len_more (fresh_pass id terms) 0 n n (omega arith)) in (
            subst (λ (k : ℕ). AreFreshFrom id terms k (into_iter_items c.next.new.self)) (sym longer) first.2,
            more ∙ ap (λ (p : PassView L). passes ++ p ∷ []) (ap (λ (k : ℕ). pass_view k c.in-Some.key) c.len-number.ensures ∙ view) ∙ front ∙ ap (fresh_passes id terms) (sym longer),
          );
    }
