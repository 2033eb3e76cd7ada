-- No number falls as a history grows.
use Rattle.std.proofs.Common.{◌≡◌, ℕ, ◌+◌, ◌≤◌, Bool, true, false, nat_le, cond, Option, refl, List, [], ◌∷◌, ◌++◌, length, take, drop, max, fold, arith, sym, ap, subst, ◌∙◌}
use Rattle.std.specs.List.{filter_map}
use Rattle.std.proofs.Math.Seq.{take-append_seam, take-take}
use Rattle.std.proofs.lemmas.Bool.{leb-true, le-leb, false≢true}
use Rattle.std.proofs.lemmas.List.{take-append-drop}
use Rattle.std.proofs.lemmas.List.Elements.{filter-append, filter_map-append}
use Rattle.std.proofs.lemmas.List.Sums.{fold-append, sum_by-append, sum_by-cons}
use Rattle.partlog.specs.declared.clock_event.ClockEvent.{ClockEvent}
use Rattle.partlog.specs.declared.event.PartEvent.{PartEvent}
use Rattle.partlog.specs.Added.{added_count, added_bytes, bytes_of, log_end_of}
use Rattle.partlog.specs.Batches.{StoredBatch, batches_after, batches_of, next_offset}
use Rattle.partlog.specs.Fallen.{NoneFell}
use Rattle.partlog.specs.Gauges.{bytes_in, batches_below, numbers_of}
use Rattle.partlog.specs.History.{History}
use Rattle.partlog.specs.Kept.{IsKept}
use Rattle.partlog.specs.Moment.{moment_of, tick_of}
use Rattle.partlog.specs.State.{state_of, state_before}
use Rattle.partlog.proofs.Appending.{batches-append}
use Rattle.partlog.proofs.Below.{batches-take}
use Rattle.partlog.proofs.Earlier.{kept-front}
use Rattle.partlog.proofs.Replicas.{high-grows}

fold-max-ge : (a : ℕ) (xs : List ℕ) → a ≤ fold max a xs
fold-max-ge a [] = omega arith
fold-max-ge a (x ∷ xs) = omega (arith, fold-max-ge (max a x) xs)

greatest-grows : {X : Type 0} (h : X → Option ℕ) (xs ys : List X) → fold max 0 (filter_map h xs) ≤ fold max 0 (filter_map h (xs ++ ys))
greatest-grows h xs ys =
    let more = ap (λ l. fold max 0 l) (filter_map-append h xs ys) ∙ fold-append max 0 (filter_map h xs) (filter_map h ys) in
    omega (arith, more, fold-max-ge (fold max 0 (filter_map h xs)) (filter_map h ys))

pub moment-grows : (events more : List ClockEvent) → moment_of events ≤ moment_of (events ++ more)
moment-grows events more = greatest-grows tick_of events more

below-grows : (low high : ℕ) (bs : List StoredBatch) → low ≤ high → bytes_in (batches_below low bs) ≤ bytes_in (batches_below high bs)
below-grows low high [] le = omega arith
below-grows low high (b ∷ bs) le =
    let rest = below-grows low high bs le in
    let first = sum_by-cons (λ (s : StoredBatch). length s.bytes) b (batches_below low bs) in
    let second = sum_by-cons (λ (s : StoredBatch). length s.bytes) b (batches_below high bs) in
    choose (nat_le (next_offset b) low) (nat_le (next_offset b) high) (λ e. le-leb (next_offset b) high (omega (arith, leb-true (next_offset b) low e))) rest first second
  where
    choose : (p q : Bool) → (p ≡ true → q ≡ true) → bytes_in (batches_below low bs) ≤ bytes_in (batches_below high bs) → bytes_in (b ∷ batches_below low bs) ≡ length b.bytes + bytes_in (batches_below low bs) → bytes_in (b ∷ batches_below high bs) ≡ length b.bytes + bytes_in (batches_below high bs) → bytes_in (cond p (b ∷ batches_below low bs) (batches_below low bs)) ≤ bytes_in (cond q (b ∷ batches_below high bs) (batches_below high bs))
    choose true true to rest first second = omega arith
    choose true false to rest first second = absurd (false≢true (to refl))
    choose false true to rest first second = omega arith
    choose false false to rest first second = rest

module _ (log bytes : List ℕ) (followers : ℕ) (events more : List PartEvent) (kept : IsKept log events) where
  abbrev was : History
  was = record { log = log; followers = followers; events = events }

  abbrev is : History
  is = record { log = log ++ bytes; followers = followers; events = events ++ more }

  abbrev rest : List StoredBatch
  rest = batches_after events more (drop (bytes_of events) (log ++ bytes))

  batches-grow : batches_of (events ++ more) (log ++ bytes) ≡ batches_of events log ++ rest
  batches-grow =
      let front : batches_of events (log ++ bytes) ≡ batches_of events log =
      sym (batches-take (length log) [] events (log ++ bytes) (omega (arith, kept.whole))) ∙ ap (batches_of events) (take-append_seam log bytes) in
      batches-append [] events more (log ++ bytes) ∙ ap (λ bs. bs ++ rest) front

  end-grows : log_end_of events ≤ log_end_of (events ++ more)
  end-grows = omega (arith, sum_by-append added_count events more)

  pub numbers-grow : NoneFell (numbers_of (state_of was)) (numbers_of (state_of is))
  numbers-grow =
      let low : ℕ = (state_of was).high in
      let high : ℕ = (state_of is).high in
      let rises = high-grows followers events more in
      let all = ap bytes_in batches-grow ∙ sum_by-append (λ (b : StoredBatch). length b.bytes) (batches_of events log) rest in
      let seen = ap (λ bs. bytes_in (batches_below high bs)) batches-grow ∙ ap bytes_in (filter-append (λ (b : StoredBatch). nat_le (next_offset b) high) (batches_of events log) rest) ∙ sum_by-append (λ (b : StoredBatch). length b.bytes) (batches_below high (batches_of events log)) (batches_below high rest) in
      let below = below-grows low high (batches_of events log) rises in
      record {
        end = end-grows;
        high = rises;
        visible = omega (arith, seen, below);
        bytes = omega (arith, all);
      }

-- also from one place of a history to a later one
pub numbers-grow-along : (h : History) (place later : ℕ) → IsKept h.log h.events → place ≤ later → NoneFell (numbers_of (state_before h place)) (numbers_of (state_before h later))
numbers-grow-along h place later kept le =
    let es : List PartEvent = take place h.events in
    let more : List PartEvent = drop place (take later h.events) in
    let n : ℕ = bytes_of es in
    let m : ℕ = bytes_of (take later h.events) in
    let events : es ++ more ≡ take later h.events = ap (λ l. l ++ more) (sym (take-take place later h.events le)) ∙ take-append-drop place (take later h.events) in
    let within : n ≤ m = omega (arith, ap bytes_of events, sum_by-append added_bytes es more) in
    let log : take n h.log ++ drop n (take m h.log) ≡ take m h.log = ap (λ l. l ++ drop n (take m h.log)) (sym (take-take n m h.log within)) ∙ take-append-drop n (take m h.log) in
    let Grown : List ℕ → List PartEvent → Type 0 = λ l fs. NoneFell (numbers_of (state_before h place)) (numbers_of (state_of (record { log = l; followers = h.followers; events = fs }))) in
    subst (λ l. Grown l (take later h.events)) log
    (subst (λ fs. Grown (take n h.log ++ drop n (take m h.log)) fs) events (numbers-grow (take n h.log) (drop n (take m h.log)) h.followers es more (kept-front h place kept)))
