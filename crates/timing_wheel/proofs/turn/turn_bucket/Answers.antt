use Rattle.std.proofs.Common.{◌≡◌, ◌<◌, ⊎_elim, inl, inr, ap, sym, ◌∙◌, None, Some, get_or, set, arith}
use Rattle.timing_wheel.specs.Place.{level_of}
use Rattle.timing_wheel.specs.Turn.{turned}
use Rattle.timing_wheel.specs.Wait.{Waits, bucket_of}
use Rattle.timing_wheel.proofs.Slots.{bucket_of-some}
use Rattle.timing_wheel.proofs.Turns.{part-then, first_come, size_falls, after_turned, level_from_number}
use Rattle.timing_wheel.proofs.turn.turn_bucket.Goals as goal

pub turn_entry-requires-clause-come : goal.turn_entry-requires-clause-come
turn_entry-requires-clause-come c =
    let f = first_come c.args.entries.now c.loop-id.entries c.args.place c.args.t c.number-number.result c.in-Some.id c.number-number.ensures.same c.requires.bucket c.requires.come c.loop-id.invariant.rest c.in-Some.ensures.some in
    rw f.1 f.2

pub loop-id-smaller : goal.loop-id-smaller
loop-id-smaller c =
    let f = first_come c.args.entries.now c.loop-id.entries c.args.place c.args.t c.number-number.result c.in-Some.id c.number-number.ensures.same c.requires.bucket c.requires.come c.loop-id.invariant.rest c.in-Some.ensures.some in
    let new = c.turn_entry.ensures.entry ∙ ap (λ slot. set c.loop-id.entries c.in-Some.id (turned c.args.t slot)) f.1 in
    rw new (size_falls c.args.t c.number-number.result c.loop-id.entries c.in-Some.id f.0 c.in-Some.ensures.within f.1 f.2 (f.3 ∙ sym c.number-number.ensures.same))

pub loop-id-preserved : goal.loop-id-preserved
loop-id-preserved c =
    let f = first_come c.args.entries.now c.loop-id.entries c.args.place c.args.t c.number-number.result c.in-Some.id c.number-number.ensures.same c.requires.bucket c.requires.come c.loop-id.invariant.rest c.in-Some.ensures.some in
    let new = c.turn_entry.ensures.entry ∙ ap (λ slot. set c.loop-id.entries c.in-Some.id (turned c.args.t slot)) f.1 in
    let level = level_from_number f.0 c.args.place c.requires.bucket f.3 in
    record {
      part = part-then c.args.t c.args.entries.now c.loop-id.entries c.turn_entry.new.entries c.args.due.now c.loop-id.due c.turn_entry.new.due c.loop-id.invariant.part c.turn_entry.ensures.part;
      rest = λ q x e.
          ⊎_elim
          (λ (o : get_or c.loop-id.entries q None ≡ Some x). c.loop-id.invariant.rest q x o)
          (λ (w : (level_of x < level_of f.0) × Waits c.args.t x). inr (omega (arith, w.0), w.1))
          (after_turned c.args.t c.loop-id.entries c.in-Some.id f.0 c.in-Some.ensures.within f.2 q x (ap (λ slots. get_or slots q None) (sym new) ∙ e));
    }

pub returns-clause-rest : goal.returns-clause-rest
returns-clause-rest c = λ q x e.
    ⊎_elim
    (λ (o : get_or c.args.entries.now q None ≡ Some x).
    inl (o, λ same. c.in_default.ensures.none q (ap bucket_of e ∙ bucket_of-some x ∙ ap Some (same ∙ sym c.number-number.ensures.same))))
    (λ (w : (level_of x < c.args.place.level) × Waits c.args.t x). inr w)
    (c.loop-id.invariant.rest q x e)
