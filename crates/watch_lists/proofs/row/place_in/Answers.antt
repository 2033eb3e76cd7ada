use Rattle.std.proofs.Common.{⊎_elim, ◌≡◌, ◌≢◌, ◌+◌, ◌-◌, ◌/◌, get_or, ap, ◌∙◌, arith}
use Rattle.std.proofs.lemmas.Bool.{cases_eq}
use Rattle.std.proofs.lemmas.List.{get_or_default}
use Rattle.watch_lists.specs.declared.watch.Watch.{Watch}
use Rattle.watch_lists.proofs.row.place_in.Goals as goal

pub loop-low-preserved-then-row-middle : goal.loop-low-preserved-then-row-middle
loop-low-preserved-then-row-middle c =
    let row = c.args.row.now in
    let low = c.loop-low.low in
    let high = c.loop-low.high in
    let middle = low + (high - low) / 2 in
    let read = c.if-row-middle.true in
    let i = c.loop-low.invariant in
    let l = c.loop-low-test.true in
    let ordered = i.ordered in
    let within = i.within in
    let there = λ (d : Watch). ap (λ (w : Watch). w.id) (get_or_default row middle d (record { key = 0; id = 0; generation = 0 }) (omega arith)) in
    record {
      ordered = omega arith;
      within = i.within;
      before = λ k d lt.
          ⊎_elim
          (λ (e : k ≡ middle). let at = ap (λ n. (get_or row n d).id) e ∙ there d in omega arith)
          (λ (e : k ≢ middle). let r = c.requires k middle d (omega arith) (omega arith) in let at = there d in omega arith)
          (cases_eq k middle);
      after = i.after;
    }

pub loop-low-preserved : goal.loop-low-preserved
loop-low-preserved c =
    let row = c.args.row.now in
    let low = c.loop-low.low in
    let high = c.loop-low.high in
    let middle = low + (high - low) / 2 in
    let read = c.if-row-middle.false in
    let i = c.loop-low.invariant in
    let l = c.loop-low-test.true in
    let ordered = i.ordered in
    let within = i.within in
    let there = λ (d : Watch). ap (λ (w : Watch). w.id) (get_or_default row middle d (record { key = 0; id = 0; generation = 0 }) (omega arith)) in
    record {
      ordered = omega arith;
      within = omega arith;
      before = i.before;
      after = λ k d le lt.
          ⊎_elim
          (λ (e : k ≡ middle). let at = ap (λ n. (get_or row n d).id) e ∙ there d in omega arith)
          (λ (e : k ≢ middle). let r = c.requires middle k d (omega arith) (omega arith) in let at = there d in omega arith)
          (cases_eq k middle);
    }
