-- What a turn makes of an entry, and the parts of a turn.
use Rattle.std.proofs.Common.{⊎_elim, ◌≡◌, ◌≢◌, ◌==◌, ℕ, ◌+◌, ◌*◌, ◌/◌, ◌<◌, ◌≤◌, ◌⊎◌, inl, inr, List, Option, Some, None, [], ◌∷◌, ◌++◌, length, get_or, set, is_some, cond, zero, suc, count_by, sym, ap, ◌∙◌, refl, zero-add, subst, ◌&&◌, arith, length-append, get_or-set_same, get_or-set_other, leb}
use Rattle.std.specs.List.{sum_by}
use Rattle.std.proofs.Math.Nat.{mul-le-mul_right, div-one}
use Rattle.std.proofs.Math.Seq.{map-set_same}
use Rattle.std.proofs.lemmas.Nat.{div-add-mod'}
use Rattle.std.proofs.lemmas.List.Sums.{sum_by-append, sum_by-set}
use Rattle.std.proofs.lemmas.Bool.{cases_eq, cases_lt}
use Rattle.std.proofs.lemmas.Bool.Decides.{nat_tests}
use Rattle.timing_wheel.specs.declared.timer.Timer.{Timer}
use Rattle.timing_wheel.specs.declared.place.Place.{Place}
use Rattle.timing_wheel.specs.Place.{tick_of, level_of, span_of, place_of}
use Rattle.timing_wheel.specs.Timers.{listed}
use Rattle.timing_wheel.specs.Turn.{turned, bucket_start}
use Rattle.timing_wheel.specs.DueList.{DueList}
use Rattle.timing_wheel.specs.Wait.{IsNear, Waits, HasCome, bucket_of, number_of}
use Rattle.timing_wheel.specs.Handover.{owed, IsPartOfTurn}
use Rattle.timing_wheel.proofs.Levels.{tick_positive, waits_when_put, lower_when_come}
use Rattle.timing_wheel.proofs.Slots.{listed-take, bucket_of-none, bucket_of-some}

-- the entry put again at moment t
abbrev pub put_again : ℕ → Timer → Timer
put_again t timer = record { deadline = timer.deadline; put = t }

-- an entry under a turn

pub turned-none : (t : ℕ) → turned t None ≡ None
unfolding turned
turned-none t = refl

pub turned-due : (t : ℕ) (timer : Timer) → timer.deadline ≤ t → turned t (Some timer) ≡ None
unfolding turned
turned-due t timer h = grind (arith, nat_tests)

by_tests_again : (t d start level : ℕ) (x y : Option Timer) → t < d → 1 ≤ level → start ≤ t → cond (leb d t) None (cond (leb 1 level && leb start t) x y) ≡ x
by_tests_again t d start level x y a b c = grind (arith, nat_tests)

by_tests_stays : (t d start level : ℕ) (x y : Option Timer) → t < d → t < start → cond (leb d t) None (cond (leb 1 level && leb start t) x y) ≡ y
by_tests_stays t d start level x y a b = grind (arith, nat_tests)

quotient_start : (d t u : ℕ) → d / u ≤ t / u → d / u * u ≤ t
quotient_start d t u h = let a = div-add-mod' t u in let b : d / u * u ≤ t / u * u = mul-le-mul_right u h in omega arith

quotient_past : (d t u : ℕ) → 0 < u → t / u < d / u → t < d / u * u
quotient_past d t u pos h = let a = div-add-mod' t u in let b : (t / u + 1) * u ≤ d / u * u = mul-le-mul_right u (omega arith) in omega arith

upper_level : (t d level : ℕ) → d / tick_of level ≤ t / tick_of level → t < d → 1 ≤ level
upper_level t d zero h past = let a : d ≤ t = rw (div-one d, div-one t) at h in absurd (omega arith)
upper_level t d (suc level) h past = omega arith

pub turned-again : (t : ℕ) (timer : Timer) → HasCome t timer → t < timer.deadline → turned t (Some timer) ≡ Some (put_again t timer)
unfolding turned
turned-again t timer come past = by_tests_again t timer.deadline (bucket_start timer) (level_of timer) _ _ past (upper_level t timer.deadline (level_of timer) come.started past) (quotient_start timer.deadline t (span_of timer) come.started)

-- the bucket of a waiting entry starts later
pub waits_ahead : (t : ℕ) (timer : Timer) → Waits t timer → t < bucket_start timer
waits_ahead t timer w = quotient_past timer.deadline t (span_of timer) (tick_positive (level_of timer)) w.ahead

pub waits_past : (t : ℕ) (timer : Timer) → Waits t timer → t < timer.deadline
waits_past t timer w =
    let u = span_of timer in
    let a = quotient_past timer.deadline t u (tick_positive (level_of timer)) w.ahead in
    let b = div-add-mod' timer.deadline u in
    omega arith

pub turned-waits : (t : ℕ) (timer : Timer) → Waits t timer → turned t (Some timer) ≡ Some timer
unfolding turned
turned-waits t timer w = by_tests_stays t timer.deadline (bucket_start timer) (level_of timer) _ _ (waits_past t timer w) (quotient_past timer.deadline t (span_of timer) (tick_positive (level_of timer)) w.ahead)

pub near_again : (t : ℕ) (timer : Timer) → HasCome t timer → t < timer.deadline → IsNear (put_again t timer)
near_again t timer come past = let put = come.was_put in let near = come.near.near in record { past = past; near = omega arith }

-- what is owed

pub owed-none : (t : ℕ) → owed t None ≡ 0
unfolding owed
owed-none t = refl

pub owed-due : (t : ℕ) (timer : Timer) → timer.deadline ≤ t → owed t (Some timer) ≡ 1
unfolding owed
owed-due t timer h = grind (arith, nat_tests)

pub owed-past : (t : ℕ) (timer : Timer) → t < timer.deadline → owed t (Some timer) ≡ 0
unfolding owed
owed-past t timer h = grind (arith, nat_tests)

-- the parts of a turn

pub part-none : (t : ℕ) (slots : List (Option Timer)) (due : DueList) → IsPartOfTurn t slots slots due due
part-none t slots due = record { turns = refl; hands = λ id. refl; together = refl; room = refl }

pub part-then : (t : ℕ) (a b c : List (Option Timer)) (x y z : DueList) → IsPartOfTurn t a b x y → IsPartOfTurn t b c y z → IsPartOfTurn t a c x z
part-then t a b c x y z p q = record {
  turns = q.turns ∙ p.turns;
  hands = λ id. q.hands id ∙ p.hands id;
  together = q.together ∙ p.together;
  room = q.room ∙ p.room;
}

count_push : (ids : List ℕ) (id q : ℕ) → count_by (λ x. x == q) (ids ++ id ∷ []) ≡ count_by (λ x. x == q) ids + cond (id == q) 1 0
count_push ids id q = sum_by-append (λ (x : ℕ). cond (x == q) 1 0) ids (id ∷ []) ∙ ap (λ k. count_by (λ x. x == q) ids + k) (zero-add (cond (id == q) 1 0))

pub counts_one : (id q : ℕ) → id ≡ q → cond {A = ℕ} (id == q) 1 0 ≡ 1
counts_one id q e = grind (arith, nat_tests)

pub counts_none : (id q : ℕ) → id ≢ q → cond {A = ℕ} (id == q) 1 0 ≡ 0
counts_none id q e = grind (arith, nat_tests)

-- a due entry is handed out
pub part-due : (t : ℕ) (slots : List (Option Timer)) (id : ℕ) (timer : Timer) (due : DueList) → id < length slots → get_or slots id None ≡ Some timer → timer.deadline ≤ t → IsPartOfTurn t slots (set slots id None) due (record due { ids = due.ids ++ id ∷ [] })
part-due t slots id timer due l is h = record {
  turns = map-set_same (turned t) slots id None None (turned-none t ∙ sym (ap (turned t) is ∙ turned-due t timer h));
  hands = λ q.
      let pushed = count_push due.ids id q in
      let before : owed t (get_or slots id None) ≡ 1 = ap (owed t) is ∙ owed-due t timer h in
      ⊎_elim
      (λ (e : id ≡ q).
      let after : owed t (get_or (set slots id None) q None) ≡ 0 = ap (owed t) (ap (λ k. get_or (set slots id None) k None) (sym e) ∙ get_or-set_same slots id None None l) ∙ owed-none t in
      let here : owed t (get_or slots q None) ≡ 1 = ap (λ k. owed t (get_or slots k None)) (sym e) ∙ before in
      let test = counts_one id q e in
      omega arith)
      (λ (e : id ≢ q).
      let after : owed t (get_or (set slots id None) q None) ≡ owed t (get_or slots q None) = ap (owed t) (get_or-set_other slots id q None None (λ z. e (sym z))) in
      let test = counts_none id q e in
      omega arith)
      (cases_eq id q);
  together = let a = listed-take slots id l (ap is_some is) in let b = length-append due.ids (id ∷ []) in omega arith;
  room = refl;
}

abbrev one : Option Timer → ℕ
one slot = cond (is_some slot) 1 0

-- an entry whose bucket has started is put again
pub part-again : (t : ℕ) (slots : List (Option Timer)) (id : ℕ) (timer : Timer) (due : DueList) → id < length slots → get_or slots id None ≡ Some timer → HasCome t timer → t < timer.deadline → IsPartOfTurn t slots (set slots id (Some (put_again t timer))) due due
part-again t slots id timer due l is come past =
    let again = Some (put_again t timer) in
    let near = near_again t timer come past in
    record {
      turns = map-set_same (turned t) slots id again None (turned-waits t (put_again t timer) (waits_when_put (put_again t timer) near) ∙ sym (ap (turned t) is ∙ turned-again t timer come past));
      hands = λ q.
          ⊎_elim
          (λ (e : id ≡ q).
          let after : owed t (get_or (set slots id again) q None) ≡ 0 = ap (owed t) (ap (λ k. get_or (set slots id again) k None) (sym e) ∙ get_or-set_same slots id again None l) ∙ owed-past t (put_again t timer) past in
          let here : owed t (get_or slots q None) ≡ 0 = ap (λ k. owed t (get_or slots k None)) (sym e) ∙ ap (owed t) is ∙ owed-past t timer past in
          omega arith)
          (λ (e : id ≢ q).
          let after : owed t (get_or (set slots id again) q None) ≡ owed t (get_or slots q None) = ap (owed t) (get_or-set_other slots id q again None (λ z. e (sym z))) in
          omega arith)
          (cases_eq id q);
      together =
          let e : listed (set slots id again) + one (get_or slots id None) ≡ listed slots + 1 = sum_by-set one slots id again None l in
          let f : one (get_or slots id None) ≡ 1 = ap one is in
          omega arith;
      room = refl;
    }

-- what stands after an entry was turned: what stood there, or an entry that waits on a lower level
pub after_turned : (t : ℕ) (slots : List (Option Timer)) (id : ℕ) (timer : Timer) → id < length slots → HasCome t timer → (q : ℕ) (x : Timer) → get_or (set slots id (turned t (Some timer))) q None ≡ Some x → (get_or slots q None ≡ Some x) ⊎ ((level_of x < level_of timer) × Waits t x)
after_turned t slots id timer l come q x is =
    let slot = turned t (Some timer) in
    ⊎_elim
    (λ (e : id ≡ q).
    let there : slot ≡ Some x = sym (get_or-set_same slots id slot None l) ∙ ap (λ k. get_or (set slots id slot) k None) e ∙ is in
    ⊎_elim
    (λ (past : t < timer.deadline).
    let same : Some (put_again t timer) ≡ Some x = sym (turned-again t timer come past) ∙ there in
    let is_again : put_again t timer ≡ x = cc in
    let near = near_again t timer come past in
    inr (subst (λ (y : Timer). (level_of y < level_of timer) × Waits t y) is_again (lower_when_come t timer come past, waits_when_put (put_again t timer) near)))
    (λ (due : timer.deadline ≤ t). let no : None ≡ Some x = sym (turned-due t timer due) ∙ there in absurd cc)
    (cases_lt t timer.deadline))
    (λ (e : id ≢ q). inl (sym (get_or-set_other slots id q slot None (λ z. e (sym z))) ∙ is))
    (cases_eq id q)

-- a bucket

-- the entry of an id that stands in a bucket
pub bucket_timer : (slot : Option Timer) (number : ℕ) → bucket_of slot ≡ Some number → (timer : Timer) × (slot ≡ Some timer) × (number_of (place_of timer) ≡ number)
bucket_timer None number e = let no : None ≡ Some number = sym bucket_of-none ∙ e in absurd cc
bucket_timer (Some timer) number e = let is : Some (number_of (place_of timer)) ≡ Some number = sym (bucket_of-some timer) ∙ e in (timer, refl, cc)

-- a number tells the level
pub level_from_number : (timer : Timer) (place : Place) → place.bucket < 20 → number_of (place_of timer) ≡ number_of place → level_of timer ≡ place.level
level_from_number timer place low e = omega arith

pub number_on_level : (timer : Timer) (place : Place) → level_of timer < place.level → number_of (place_of timer) < number_of place
number_on_level timer place l = omega arith

-- 1 where a bucket has the number
pub stands_in : ℕ → Option ℕ → ℕ
stands_in number None = 0
stands_in number (Some n) = cond (n == number) 1 0

stands_in-some : (number n : ℕ) → stands_in number (Some n) ≡ cond {A = ℕ} (n == number) 1 0
unfolding stands_in
stands_in-some number n = refl

stands_in-none : (number : ℕ) → stands_in number None ≡ 0
unfolding stands_in
stands_in-none number = refl

abbrev pub in_bucket : ℕ → Option Timer → ℕ
in_bucket number slot = stands_in number (bucket_of slot)

-- how many entries a bucket has
abbrev pub size_of : ℕ → List (Option Timer) → ℕ
size_of number slots = sum_by (in_bucket number) slots

in_bucket-turned : (t number : ℕ) (timer : Timer) → HasCome t timer → number_of (place_of timer) ≡ number → in_bucket number (turned t (Some timer)) ≡ 0
in_bucket-turned t number timer come e =
    ⊎_elim
    (λ (past : t < timer.deadline).
    let lower = lower_when_come t timer come past in
    let other : number_of (place_of (put_again t timer)) ≢ number = λ z. absurd (omega arith) in
    ap (in_bucket number) (turned-again t timer come past)
    ∙ ap (stands_in number) (bucket_of-some (put_again t timer))
    ∙ stands_in-some number (number_of (place_of (put_again t timer)))
    ∙ counts_none _ number other)
    (λ (due : timer.deadline ≤ t). ap (in_bucket number) (turned-due t timer due) ∙ ap (stands_in number) bucket_of-none ∙ stands_in-none number)
    (cases_lt t timer.deadline)

-- an entry that was turned leaves its bucket
pub size_falls : (t number : ℕ) (slots : List (Option Timer)) (id : ℕ) (timer : Timer) → id < length slots → get_or slots id None ≡ Some timer → HasCome t timer → number_of (place_of timer) ≡ number → size_of number (set slots id (turned t (Some timer))) < size_of number slots
size_falls t number slots id timer l is come e =
    let a : size_of number (set slots id (turned t (Some timer))) + in_bucket number (get_or slots id None) ≡ size_of number slots + in_bucket number (turned t (Some timer)) = sum_by-set (in_bucket number) slots id (turned t (Some timer)) None l in
    let before : in_bucket number (get_or slots id None) ≡ 1 = ap (in_bucket number) is ∙ ap (stands_in number) (bucket_of-some timer) ∙ stands_in-some number (number_of (place_of timer)) ∙ counts_one _ number e in
    let after = in_bucket-turned t number timer come e in
    omega arith

-- the entry of an id that stands in the bucket being emptied
pub first_come : (old slots : List (Option Timer)) (place : Place) (t number id : ℕ) → number ≡ number_of place → place.bucket < 20 → ((q : ℕ) (x : Timer) → get_or old q None ≡ Some x → number_of (place_of x) ≡ number_of place → HasCome t x) → ((q : ℕ) (x : Timer) → get_or slots q None ≡ Some x → (get_or old q None ≡ Some x) ⊎ ((level_of x < place.level) × Waits t x)) → bucket_of (get_or slots id None) ≡ Some number → (timer : Timer) × (get_or slots id None ≡ Some timer) × (HasCome t timer) × (number_of (place_of timer) ≡ number_of place)
first_come old slots place t number id same low come rest in_it =
    let b = bucket_timer (get_or slots id None) number in_it in
    let e : number_of (place_of b.0) ≡ number_of place = b.2 ∙ same in (
      b.0,
      b.1,
      ⊎_elim
          (λ (o : get_or old id None ≡ Some b.0). come id b.0 o e)
          (λ (w : (level_of b.0 < place.level) × Waits t b.0). let l = number_on_level b.0 place w.0 in absurd (omega arith))
          (rest id b.0 b.1),
      e,
    )
