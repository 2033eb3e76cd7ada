-- For each level a moment before which no bucket that holds an entry starts.
use Rattle.std.proofs.Common.{⊎_elim, ◌≡◌, ◌≢◌, ℕ, ◌+◌, ◌*◌, ◌/◌, ◌<◌, ◌≤◌, min, inl, inr, List, Option, Some, None, length, get_or, set, replicate, sym, ap, ◌∙◌, refl, subst, arith, get_or-set_same, get_or-set_other, length-set}
use Rattle.std.proofs.Math.Nat.{min-le_left, min-le_right}
use Rattle.std.proofs.lemmas.Nat.{div_below}
use Rattle.std.proofs.lemmas.List.{get_or_past, get_or-replicate, length-replicate}
use Rattle.std.proofs.lemmas.Bool.{cases_eq, cases_lt}
use Rattle.timing_wheel.specs.declared.timer.Timer.{Timer}
use Rattle.timing_wheel.specs.Place.{level_of, span_of}
use Rattle.timing_wheel.specs.Turn.{bucket_start}
use Rattle.timing_wheel.specs.Filed.{StartFrom}
use Rattle.timing_wheel.specs.Wait.{Waits, AllTurnedBelow}
use Rattle.timing_wheel.proofs.Levels.{tick_positive}

pub StartFrom-none : (level start n : ℕ) → StartFrom level start (replicate n None)
unfolding StartFrom
StartFrom-none level start n = λ q e is same.
    ⊎_elim
    (λ (l : q < n). let no : None ≡ Some e = sym (get_or-replicate n q None None l) ∙ is in absurd cc)
    (λ (l : n ≤ q). let no : None ≡ Some e = sym (get_or_past (replicate n None) q None (rw length-replicate l)) ∙ is in absurd cc)
    (cases_lt q n)

pub StartFrom-take : (level start : ℕ) (slots : List (Option Timer)) (id : ℕ) → StartFrom level start slots → StartFrom level start (set slots id None)
unfolding StartFrom
StartFrom-take level start slots id h = λ q e is level_is.
    ⊎_elim
    (λ (same : q ≡ id).
    ⊎_elim
    (λ (l : id < length slots). let no : None ≡ Some e = sym (get_or-set_same slots id None None l) ∙ ap (λ k. get_or (set slots id None) k None) (sym same) ∙ is in absurd cc)
    (λ (l : length slots ≤ id). let no : None ≡ Some e = sym (get_or_past (set slots id None) q None (rw length-set (omega arith))) ∙ is in absurd cc)
    (cases_lt id (length slots)))
    (λ (other : q ≢ id). h q e (sym (get_or-set_other slots id q None None other) ∙ is) level_is)
    (cases_eq q id)

-- the start of a level, where that of one level fell
lowered : (starts : List ℕ) (at start level : ℕ) → at < length starts → get_or (set starts at (min (get_or starts at 0) start)) level 0 ≤ get_or starts level 0
lowered starts at start level l =
    ⊎_elim
    (λ (same : level ≡ at).
    let e : get_or (set starts at (min (get_or starts at 0) start)) level 0 ≡ min (get_or starts at 0) start = ap (λ k. get_or (set starts at (min (get_or starts at 0) start)) k 0) same ∙ get_or-set_same starts at (min (get_or starts at 0) start) 0 l in
    let s : get_or starts level 0 ≡ get_or starts at 0 = ap (λ k. get_or starts k 0) same in
    let m = min-le_left (get_or starts at 0) start in
    omega arith)
    (λ (other : level ≢ at). let e = get_or-set_other starts at level (min (get_or starts at 0) start) 0 other in omega arith)
    (cases_eq level at)

-- an entry that is put may start its level earlier
pub StartFrom-put : (starts : List ℕ) (slots : List (Option Timer)) (id : ℕ) (timer : Timer) → level_of timer < length starts → id < length slots → (level : ℕ) → StartFrom level (get_or starts level 0) slots
    → StartFrom level (get_or (set starts (level_of timer) (min (get_or starts (level_of timer) 0) (bucket_start timer))) level 0) (set slots id (Some timer))
unfolding StartFrom
StartFrom-put starts slots id timer low l level h = λ q e is level_is.
    let at = level_of timer in
    let start = bucket_start timer in
    let new = set starts at (min (get_or starts at 0) start) in
    ⊎_elim
    (λ (same : q ≡ id).
    let there : Some timer ≡ Some e = sym (get_or-set_same slots id (Some timer) None l) ∙ ap (λ k. get_or (set slots id (Some timer)) k None) (sym same) ∙ is in
    let it : timer ≡ e = cc in
    let here : level ≡ at = sym level_is ∙ ap level_of (sym it) in
    let now : get_or new level 0 ≡ min (get_or starts at 0) start = ap (λ k. get_or new k 0) here ∙ get_or-set_same starts at (min (get_or starts at 0) start) 0 low in
    let m = min-le_right (get_or starts at 0) start in
    let begins : bucket_start timer ≡ bucket_start e = ap bucket_start it in
    omega arith)
    (λ (other : q ≢ id).
    let was = h q e (sym (get_or-set_other slots id q (Some timer) None other) ∙ is) level_is in
    let less = lowered starts at start level low in
    omega arith)
    (cases_eq q id)

pub StartFrom-earlier : (level start earlier : ℕ) (slots : List (Option Timer)) → StartFrom level start slots → earlier ≤ start → StartFrom level earlier slots
unfolding StartFrom
StartFrom-earlier level start earlier slots h less = λ q e is level_is. let was = h q e is level_is in omega arith

-- the entries of a level none of whose buckets starts wait at the later moment
pub level_waits : (level now t : ℕ) (slots : List (Option Timer)) → now ≤ t → StartFrom level (t + 1) slots → AllTurnedBelow level now t slots → AllTurnedBelow (level + 1) now t slots
unfolding StartFrom AllTurnedBelow
level_waits level now t slots later from below = λ id e is.
    ⊎_elim
    (λ (l : (level ≤ level_of e) × Waits now e).
    ⊎_elim
    (λ (same : level_of e ≡ level).
    let start : t + 1 ≤ bucket_start e = from id e is same in
    let put = l.1.was_put in
    let ahead : t / span_of e < e.deadline / span_of e = div_below t (span_of e) (e.deadline / span_of e) (tick_positive (level_of e)) (omega arith) in
    let waits : Waits t e = record { near = l.1.near; was_put = omega arith; ahead = ahead } in
    inr (omega arith, waits))
    (λ (other : level_of e ≢ level). let low = l.0 in inl (omega arith, l.1))
    (cases_eq (level_of e) level))
    (λ (w : (level_of e < level) × Waits t e). let low = w.0 in inr (omega arith, w.1))
    (below id e is)

-- the entries of a level that was turned
pub level_waits_after : (level now t : ℕ) (slots : List (Option Timer)) → AllTurnedBelow (level + 1) now t slots → (id : ℕ) (e : Timer) → get_or slots id None ≡ Some e → level_of e ≡ level → Waits t e
unfolding AllTurnedBelow
level_waits_after level now t slots below id e is same =
    ⊎_elim
    (λ (l : (level + 1 ≤ level_of e) × Waits now e). let low = l.0 in absurd (omega arith))
    (λ (w : (level_of e < level + 1) × Waits t e). w.1)
    (below id e is)
