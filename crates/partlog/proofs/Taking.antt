-- Where what is taken of the batches from one place on and up to another ends.
use Rattle.std.proofs.Common.{◌≡◌, ℕ, ◌+◌, ◌-◌, ◌≤◌, ◌<◌, min, Bool, false, List, length, take, drop, arith, sym, ap, subst, ◌∙◌}
use Rattle.std.proofs.lemmas.List.Sums.{sum_by-take-drop}
use Rattle.partlog.specs.Batches.{StoredBatch}
use Rattle.partlog.specs.Gauges.{bytes_in}
use Rattle.partlog.specs.Taken.{batches_past, fitting, batches_upto, taken, joined}
use Rattle.partlog.proofs.Rows.{IsFull}
use Rattle.partlog.proofs.Fronts.{fitting-behind, fitting-fitting, past-upto, past-next, full-past, full-fitting, taken-fitting, taken-first, taken-front, first-fits, first-too-long, joined-front, joined-past, IsFront}

module _ (bs : List StoredBatch) (from start upto limit : ℕ) (full : IsFull bs) (at : start + bytes_in (batches_past from bs) ≡ bytes_in bs) where
  abbrev seen : List StoredBatch
  seen = batches_past from (batches_upto upto bs)

  past : seen ≡ fitting (upto - start) (batches_past from bs)
  past = past-upto from start upto bs full at

  pub end-fits : (end room : ℕ) → room ≡ min limit (upto - start) → end ≡ bytes_in (fitting (start + room) bs) → end ≡ start + bytes_in (fitting limit seen)
  end-fits end room is ends =
      let same : fitting room (batches_past from bs) ≡ fitting limit seen =
      ap (λ n. fitting n (batches_past from bs)) is ∙ sym (fitting-fitting limit (upto - start) (batches_past from bs)) ∙ ap (λ l. fitting limit l) (sym past)
      in
      ends ∙ fitting-behind from start room bs at ∙ ap (λ l. start + bytes_in l) same

  pub end-some : (end : ℕ) (any : Bool) → end ≡ start + bytes_in (fitting limit seen) → start < end → end ≡ start + bytes_in (taken limit any seen)
  end-some end any ends some =
      ends ∙ ap (λ l. start + bytes_in l) (sym (taken-fitting limit any seen (omega arith)))

  -- the end of the first batch from the start on
  module _ (end next : ℕ) (ends : end ≡ start + bytes_in (fitting limit seen)) (nothing : end ≤ start) (first : next + bytes_in (batches_past (start + 1) bs) ≡ bytes_in bs) where
    alone : taken limit false seen ≡ take 1 (fitting (upto - start) (batches_past from bs))
    alone =
        let full_seen : IsFull seen = subst IsFull (sym past) (full-fitting (upto - start) (batches_past from bs) (full-past from bs full)) in
        taken-first limit seen full_seen (omega arith) ∙ ap (λ l. take 1 l) past

    next-is : next ≡ start + bytes_in (take 1 (batches_past from bs))
    next-is =
        let behind = ap bytes_in (past-next from start bs full at) in
        let parts = sum_by-take-drop (λ b. length b.bytes) (batches_past from bs) 1 in
        omega (arith, parts)

    pub next-within : next ≤ upto → next ≡ start + bytes_in (taken limit false seen)
    next-within within =
        let is = next-is in
        is ∙ ap (λ n. start + n) (sym (first-fits (upto - start) (batches_past from bs) (omega arith)) ∙ ap bytes_in (sym alone))

    pub next-beyond : upto < next → start ≡ start + bytes_in (taken limit false seen)
    next-beyond beyond =
        let is = next-is in
        let none = first-too-long start upto (batches_past from bs) (full-past from bs full) (omega arith) in
        omega (arith, none, ap bytes_in alone)

  pub taken-of : (any : Bool) → IsFront (taken limit any seen) (batches_past from bs)
  taken-of any =
      let front = taken-front limit (upto - start) any (batches_past from bs) in
      (front.0, ap (λ l. taken limit any l) past ∙ front.1)

  -- its bytes are those of the log from the start on
  pub taken-bytes : (any : Bool) → joined (taken limit any seen) ≡ take (bytes_in (taken limit any seen)) (drop start (joined bs))
  taken-bytes any =
      let front = taken-of any in
      ap joined front.1 ∙ joined-front front.0 (batches_past from bs) ∙ ap (λ l. take (bytes_in l) (joined (batches_past from bs))) (sym front.1) ∙ ap (λ l. take (bytes_in (taken limit any seen)) l) (joined-past from start bs at)

  pub taken-within : (any : Bool) → start + bytes_in (taken limit any seen) ≤ bytes_in bs
  taken-within any =
      let front = taken-of any in
      omega (arith, at, ap bytes_in front.1, sum_by-take-drop (λ b. length b.bytes) (batches_past from bs) front.0)
