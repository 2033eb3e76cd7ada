-- A whole level passed, and a whole turn.
use Rattle.std.proofs.Common.{⊎_elim, ◌≡◌, ℕ, ◌+◌, ◌-◌, ◌/◌, ◌%◌, ◌<◌, ◌≤◌, inl, List, Option, Some, None, [], ◌∷◌, length, get_or, map, suc, min, sym, ap, ◌∙◌, refl, arith, ◌↔◌, option_map, Bool, true, false, cond, leb, ◌&&◌}
use Rattle.std.proofs.Math.Nat.{pow-le-pow_right}
use Rattle.std.proofs.lemmas.Nat.{le-div, div-add-mod'}
use Rattle.std.proofs.lemmas.Bool.{cases_lt}
use Rattle.std.proofs.lemmas.List.{get_or-map, get_or_past, length-map}
use Rattle.std.proofs.lemmas.Bool.Decides.{nat_tests}
use Rattle.timing_wheel.specs.declared.timer.Timer.{Timer}
use Rattle.timing_wheel.specs.Place.{tick_of, level_of, span_of}
use Rattle.timing_wheel.specs.Turn.{turned, bucket_start}
use Rattle.timing_wheel.specs.Wait.{Waits, HasCome, AllWait, AllTurnedBelow}
use Rattle.timing_wheel.specs.Handover.{owed}
use Rattle.timing_wheel.proofs.Levels.{tick_positive, near_level, quotient_before}
use Rattle.timing_wheel.proofs.Turns.{put_again, turned-none, turned-due, turned-waits, owed-none, owed-past, waits_past}

quotient_grows : (u m t : ℕ) → 0 < u → m ≤ t → m / u ≤ t / u
quotient_grows u m t pos h = let a = div-add-mod' m u in le-div (m / u) t u pos (omega arith)

-- the bucket of a waiting entry is one of the next 19
pub waits_within : (now : ℕ) (e : Timer) → Waits now e → e.deadline / span_of e < now / span_of e + 20
waits_within now e w =
    let u = span_of e in
    let pos = tick_positive (level_of e) in
    let a = quotient_before u e.deadline e.put pos (near_level e w.near).1 in
    let b = quotient_grows u e.put now pos w.was_put in
    omega arith

-- an entry in the bucket that is passed has come
pub come_from_bucket : (now t tick step : ℕ) (e : Timer) → now ≤ t → tick ≡ span_of e → step < t / tick - now / tick → step < 20 → (e.deadline / span_of e) % 20 ≡ (now / tick + 1 + step) % 20 → Waits now e → now / tick + step < e.deadline / span_of e → HasCome t e
come_from_bucket now t tick step e later is within few same w past =
    let a = waits_within now e w in
    let n : now / tick ≡ now / span_of e = ap (λ u. now / u) is in
    let m : t / tick ≡ t / span_of e = ap (λ u. t / u) is in
    let put = w.was_put in
    record { near = w.near; was_put = omega arith; started = omega arith }

-- an entry that is past all buckets that were passed waits at the later moment
pub waits_after : (now t tick step : ℕ) (e : Timer) → now ≤ t → tick ≡ span_of e → min (t / tick - now / tick) 20 ≤ step → Waits now e → now / tick + step < e.deadline / span_of e → Waits t e
waits_after now t tick step e later is passed w past =
    let a = waits_within now e w in
    let n : now / tick ≡ now / span_of e = ap (λ u. now / u) is in
    let m : t / tick ≡ t / span_of e = ap (λ u. t / u) is in
    let put = w.was_put in
    record { near = w.near; was_put = omega arith; ahead = omega arith }

-- a whole turn

pub none_turned_yet : (now t : ℕ) (slots : List (Option Timer)) → AllWait now slots → AllTurnedBelow 0 now t slots
unfolding AllWait AllTurnedBelow
none_turned_yet now t slots h = λ id e is. inl (omega arith, h id e is)

pub all_turned : (now t : ℕ) (slots : List (Option Timer)) → AllTurnedBelow 8 now t slots → AllWait t slots
unfolding AllWait AllTurnedBelow
all_turned now t slots h = λ id e is.
    ⊎_elim
    (λ (l : (8 ≤ level_of e) × Waits now e). let low = (near_level e l.1.near).0 in let high = l.0 in absurd (omega arith))
    (λ (w : (level_of e < 8) × Waits t e). w.1)
    (h id e is)

map_stays : (f : Option Timer → Option Timer) (slots : List (Option Timer)) → f None ≡ None → ((id : ℕ) (e : Timer) → get_or slots id None ≡ Some e → f (Some e) ≡ Some e) → map f slots ≡ slots
map_stays f [] none h = refl
map_stays f (None ∷ slots) none h = rw (none, map_stays f slots none (λ id e is. h (suc id) e is)) refl
map_stays f (Some x ∷ slots) none h = rw (h 0 x refl, map_stays f slots none (λ id e is. h (suc id) e is)) refl

pub turned_stays : (t : ℕ) (slots : List (Option Timer)) → AllWait t slots → map (turned t) slots ≡ slots
unfolding AllWait
turned_stays t slots h = map_stays (turned t) slots (turned-none t) (λ id e is. turned-waits t e (h id e is))

owed_slot : (t : ℕ) (slot : Option Timer) → ((e : Timer) → slot ≡ Some e → Waits t e) → owed t slot ≡ 0
owed_slot t None h = owed-none t
owed_slot t (Some e) h = owed-past t e (waits_past t e (h e refl))

pub nothing_owed : (t : ℕ) (slots : List (Option Timer)) → AllWait t slots → (id : ℕ) → owed t (get_or slots id None) ≡ 0
unfolding AllWait
nothing_owed t slots h id = owed_slot t (get_or slots id None) (λ e is. h id e is)

pub tick_fits : (level : ℕ) → level < 8 → tick_of level ≤ 1280000000
tick_fits level low = pow-le-pow_right {n = 20} (omega arith) {i = level} {j = 7} (omega arith)

-- the deadlines after a turn

abbrev deadline_in : Option Timer → Option ℕ
deadline_in slot = option_map (λ entry. entry.deadline) slot

by_tests_deadline : (test : Bool) (deadline : ℕ) (x y : Option Timer) → deadline_in x ≡ Some deadline → deadline_in y ≡ Some deadline → deadline_in (cond test x y) ≡ Some deadline
by_tests_deadline true deadline x y a b = a
by_tests_deadline false deadline x y a b = b

not_due : (d t : ℕ) (x y : Option Timer) → t < d → cond (leb d t) x y ≡ y
not_due d t x y h = grind (arith, nat_tests)

turned_past : (t : ℕ) (timer : Timer) → t < timer.deadline → deadline_in (turned t (Some timer)) ≡ Some timer.deadline
unfolding turned
turned_past t timer h =
    ap deadline_in (not_due timer.deadline t None (cond (leb 1 (level_of timer) && leb (bucket_start timer) t) (Some (put_again t timer)) (Some timer)) h)
    ∙ by_tests_deadline (leb 1 (level_of timer) && leb (bucket_start timer) t) timer.deadline (Some (put_again t timer)) (Some timer) refl refl

-- the entries that aren't due keep their deadlines
pub turned_deadline : (t : ℕ) (slot : Option Timer) (deadline : ℕ) → (deadline_in (turned t slot) ≡ Some deadline) ↔ ((deadline_in slot ≡ Some deadline) × (t < deadline))
turned_deadline t None deadline =
    ((λ h. let no : None ≡ Some deadline = ap deadline_in (sym (turned-none t)) ∙ h in absurd cc), (λ h. let no : None ≡ Some deadline = h.0 in absurd cc))
turned_deadline t (Some timer) deadline =
    ⊎_elim
    (λ (past : t < timer.deadline). (
      (λ h. let same : Some timer.deadline ≡ Some deadline = sym (turned_past t timer past) ∙ h in let is : timer.deadline ≡ deadline = cc in (same, omega arith)),
      (λ h. turned_past t timer past ∙ h.0),
    ))
    (λ (due : timer.deadline ≤ t). (
      (λ h. let no : None ≡ Some deadline = ap deadline_in (sym (turned-due t timer due)) ∙ h in absurd cc),
      (λ h. let same : Some timer.deadline ≡ Some deadline = h.0 in let is : timer.deadline ≡ deadline = cc in let past = h.1 in absurd (omega arith)),
    ))
    (cases_lt t timer.deadline)

-- the same of each id
pub turned_deadlines : (t : ℕ) (slots : List (Option Timer)) (id deadline : ℕ) → (deadline_in (get_or (map (turned t) slots) id None) ≡ Some deadline) ↔ ((deadline_in (get_or slots id None) ≡ Some deadline) × (t < deadline))
turned_deadlines t slots id deadline =
    let at : get_or (map (turned t) slots) id None ≡ turned t (get_or slots id None) =
    ⊎_elim
    (λ (l : id < length slots). get_or-map (turned t) slots id None None l)
    (λ (l : length slots ≤ id). get_or_past (map (turned t) slots) id None (rw length-map l) ∙ sym (ap (turned t) (get_or_past slots id None l) ∙ turned-none t))
    (cases_lt id (length slots)) in
    rw at (turned_deadline t (get_or slots id None) deadline)
