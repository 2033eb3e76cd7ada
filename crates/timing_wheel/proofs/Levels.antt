-- The level of a deadline: it reaches it, no lower level does, and the bucket starts later than the moment of putting.
use Rattle.std.proofs.Common.{⊎_elim, zero, suc, ◌^◌, ◌≡◌, ◌≢◌, ℕ, ◌+◌, ◌-◌, ◌*◌, ◌/◌, ◌%◌, ◌<◌, ◌≤◌, sym, ap, ◌∙◌, refl, arith}
use Rattle.std.proofs.Math.Nat.{pow-suc, mul-le-mul_right, one-le-pow, div-one}
use Rattle.std.proofs.lemmas.Nat.{div_below, le-div, div-add-mod'}
use Rattle.std.proofs.lemmas.Bool.{cases_eq, cases_lt, cond_below, cond_above}
use Rattle.timing_wheel.specs.declared.timer.Timer.{Timer}
use Rattle.timing_wheel.specs.Place.{tick_of, end_of, least_from, level_of}
use Rattle.timing_wheel.specs.Wait.{IsNear, Waits, HasCome}

-- the end of a wheel, in quotients

pub quotient_before : (u d m : ℕ) → 0 < u → d < (m - m % u) + 20 * u → d / u < m / u + 20
quotient_before u d m pos h = div_below d u (m / u + 20) pos (let a = div-add-mod' m u in omega arith)

pub before_quotient : (u d m : ℕ) → 0 < u → d / u < m / u + 20 → d < (m - m % u) + 20 * u
before_quotient u d m pos h =
    let a = div-add-mod' m u in
    let b = div-add-mod' d u in
    let c : (d / u + 1) * u ≤ (m / u + 20) * u = mul-le-mul_right u (omega arith) in
    omega arith

pub tick_positive : (level : ℕ) → 0 < tick_of level
tick_positive level = one-le-pow level 20 (omega arith)

-- the search for the least level

least_here : (count level d p : ℕ) → d < end_of level p → least_from (suc count) level d p ≡ level
unfolding least_from
least_here count level d p h = sym (cond_below d (end_of level p) level (least_from count (level + 1) d p) h)

pub least_on : (count level d p : ℕ) → end_of level p ≤ d → least_from (suc count) level d p ≡ least_from count (level + 1) d p
unfolding least_from
least_on count level d p h = sym (cond_above d (end_of level p) level (least_from count (level + 1) d p) (least_from count (level + 1) d p) h refl)

least_none : (level d p : ℕ) → least_from 0 level d p ≡ level
unfolding least_from
least_none level d p = refl

pub least_reaches : (count level d p k : ℕ) → level ≤ k → k < level + count → d < end_of k p → (least_from count level d p ≤ k) × (d < end_of (least_from count level d p) p)
least_reaches zero level d p k low high h = absurd (omega arith)
least_reaches (suc count) level d p k low high h =
    ⊎_elim
    (λ (here : d < end_of level p). rw (least_here count level d p here) (low, here))
    (λ (on : end_of level p ≤ d).
    let other : level ≢ k = λ e. let same = ap (λ l. end_of l p) e in absurd (omega arith) in
    rw (least_on count level d p on) (least_reaches count (level + 1) d p k (omega arith) (omega arith) h))
    (cases_lt d (end_of level p))

pub least_not : (count level d p k : ℕ) → level ≤ k → k < least_from count level d p → end_of k p ≤ d
least_not zero level d p k low high = let e = least_none level d p in absurd (omega arith)
least_not (suc count) level d p k low high =
    ⊎_elim
    (λ (here : d < end_of level p). let e = least_here count level d p here in absurd (omega arith))
    (λ (on : end_of level p ≤ d).
    let e = least_on count level d p on in
    ⊎_elim
    (λ (q : level ≡ k). rw (← q) on)
    (λ (q : level ≢ k). least_not count (level + 1) d p k (omega arith) (omega arith))
    (cases_eq level k))
    (cases_lt d (end_of level p))

pub level_is : (timer : Timer) → level_of timer ≡ least_from 8 0 timer.deadline timer.put
unfolding level_of
level_is timer = refl

-- a near deadline has a level, whose wheel ends past it
pub near_level : (timer : Timer) → IsNear timer → (level_of timer < 8) × (timer.deadline < end_of (level_of timer) timer.put)
near_level timer near =
    let reach : timer.deadline < end_of 7 timer.put = omega (arith, near.past, near.near) in
    let r = least_reaches 8 0 timer.deadline timer.put 7 (omega arith) (omega arith) reach in
    rw (level_is timer) (omega (arith, r.0), r.1)

pub lower_ends : (timer : Timer) (k : ℕ) → k < level_of timer → end_of k timer.put ≤ timer.deadline
lower_ends timer k h = least_not 8 0 timer.deadline timer.put k (omega arith) (let e = level_is timer in omega arith)

pub level_below : (timer : Timer) (k : ℕ) → k < 8 → timer.deadline < end_of k timer.put → level_of timer ≤ k
level_below timer k low h = let e = level_is timer in let r = least_reaches 8 0 timer.deadline timer.put k (omega arith) (omega arith) h in omega (arith, r.0)

-- the search, as a loop goes over the levels

pub search_stops : (timer : Timer) (level : ℕ) → level < 8 → level_of timer ≡ least_from (8 - level) level timer.deadline timer.put → timer.put < timer.deadline → timer.deadline / tick_of level - timer.put / tick_of level < 20 → level_of timer ≡ level
search_stops timer level low is past h =
    let d = timer.deadline in
    let p = timer.put in
    let more : suc (8 - (level + 1)) ≡ 8 - level = omega arith in
    let reach : d < end_of level p = before_quotient (tick_of level) d p (tick_positive level) (omega arith) in
    is ∙ ap (λ n. least_from n level d p) (sym more) ∙ least_here (8 - (level + 1)) level d p reach

pub search_goes_on : (timer : Timer) (level : ℕ) → level < 8 → IsNear timer → level_of timer ≡ least_from (8 - level) level timer.deadline timer.put → 20 ≤ timer.deadline / tick_of level - timer.put / tick_of level → (level + 1 < 8) × (level_of timer ≡ least_from (8 - (level + 1)) (level + 1) timer.deadline timer.put)
search_goes_on timer level low near is h =
    let d = timer.deadline in
    let p = timer.put in
    let more : suc (8 - (level + 1)) ≡ 8 - level = omega arith in
    let beyond : end_of level p ≤ d =
    ⊎_elim
    (λ (t : d < end_of level p). let q = quotient_before (tick_of level) d p (tick_positive level) t in absurd (omega arith))
    (λ (t : end_of level p ≤ d). t)
    (cases_lt d (end_of level p)) in
    let next : level_of timer ≡ least_from (8 - (level + 1)) (level + 1) d p = is ∙ ap (λ n. least_from n level d p) (sym more) ∙ least_on (8 - (level + 1)) level d p beyond in
    let low' = (near_level timer near).0 in (
      ⊎_elim
          (λ (q : level ≡ 7).
          let none : least_from (8 - (level + 1)) (level + 1) d p ≡ 8 = ap (λ n. least_from (8 - (n + 1)) (n + 1) d p) q ∙ least_none 8 d p in
          absurd (omega arith))
          (λ (q : level ≢ 7). omega arith)
          (cases_eq level 7),
      next,
    )

-- the bucket starts later than the moment of putting

ahead_from_end : (u d m : ℕ) → 0 < u → (m - m % u) + 20 * u ≤ d → m / (u * 20) < d / (u * 20)
ahead_from_end u d m pos h =
    let q = m / (u * 20) in
    let a = div-add-mod' m (u * 20) in
    let b = div-add-mod' m u in
    let c : q * 20 ≤ m / u = le-div (q * 20) m u pos (omega arith) in
    let e : q * 20 * u ≤ m / u * u = mul-le-mul_right u c in
    let r = le-div (q + 1) d (u * 20) (omega arith) (omega arith) in
    omega arith

ahead_at : (timer : Timer) (level : ℕ) → level_of timer ≡ level → IsNear timer → timer.put / tick_of level < timer.deadline / tick_of level
ahead_at timer zero is near = rw (div-one timer.put, div-one timer.deadline) near.past
ahead_at timer (suc k) is near =
    rw (pow-suc 20 k) (ahead_from_end (20 ^ k) timer.deadline timer.put (tick_positive k) (lower_ends timer k (omega arith)))

pub waits_when_put : (timer : Timer) → IsNear timer → Waits timer.put timer
waits_when_put timer near = record {
  near = near;
  was_put = omega arith;
  ahead = ahead_at timer (level_of timer) refl near;
}

-- an entry whose bucket has started, put again, goes to a lower level

lower_at : (timer : Timer) (t level : ℕ) → level_of timer ≡ level → level < 8 → timer.deadline / tick_of level ≤ t / tick_of level → t < timer.deadline → level_of (record { deadline = timer.deadline; put = t }) < level
lower_at timer t zero is low h past =
    let a : timer.deadline ≤ t = rw (div-one timer.deadline, div-one t) at h in
    absurd (omega arith)
lower_at timer t (suc k) is low h past =
    let u = 20 ^ k in
    let pos : 0 < u = tick_positive k in
    let h' : timer.deadline / (u * 20) ≤ t / (u * 20) = rw (pow-suc 20 k) at h in
    let d = timer.deadline in
    let a = div-add-mod' d (u * 20) in
    let a' = div-add-mod' t (u * 20) in
    let b = div-add-mod' t u in
    let big : 0 < u * 20 = omega arith in
    let c : t / (u * 20) * 20 ≤ t / u = le-div (t / (u * 20) * 20) t u pos (omega arith) in
    let e : t / (u * 20) * 20 * u ≤ t / u * u = mul-le-mul_right u c in
    let f : (d / (u * 20) + 1) * (u * 20) ≤ (t / (u * 20) + 1) * (u * 20) = mul-le-mul_right (u * 20) (omega arith) in
    let reach : d < end_of k t = omega arith in
    omega (arith, level_below (record { deadline = d; put = t }) k (omega arith) reach)

pub lower_when_come : (t : ℕ) (timer : Timer) → HasCome t timer → t < timer.deadline → level_of (record { deadline = timer.deadline; put = t }) < level_of timer
lower_when_come t timer come past = lower_at timer t (level_of timer) refl (near_level timer come.near).0 come.started past
