-- Numbers in groups of seven bits: what is read is spelled so, what is spelled so is read, and each refusal.
use Rattle.std.proofs.Common.{◌≡◌, ℕ, zero, suc, ◌+◌, ◌-◌, ◌*◌, ◌/◌, ◌%◌, ◌^◌, ◌<◌, ◌≤◌, ◌⊎◌, ℤ, pos, negsuc, false, eqb, List, [], ◌∷◌, ◌++◌, length, take, Result, Ok, Err, refl, sym, ap, subst, ◌∙◌, arith, inl, inr}
use Rattle.std.proofs.lemmas.Bool.{cases_lt, cases_eq, lt-ltb, le-ltb, ne_eqb, eq-eqb}
use Rattle.std.proofs.lemmas.List.Elements.{All-nil, All-cons, All-head, All-tail}
use Rattle.std.proofs.lemmas.Nat.{div_below}
use Rattle.std.proofs.Math.Nat.{pow-suc, one-le-pow}
use Rattle.kbytes.specs.declared.fault.ByteFault.{ByteFault}
use Rattle.kbytes.specs.declared.fault.ByteFault.TheVariants.{Short, LongVarint}
use Rattle.kbytes.specs.Octets.{IsBytes}
use Rattle.kbytes.specs.Field.{zigzag, groups}
use Rattle.kbytes.specs.Fronts.{EndWithinVarint}
use Rattle.kbytes.specs.Reading.{groups_at, unzigzag}
use Rattle.kbytes.proofs.Groups.{with_higher, failed, found, found_same, same_found, not_zero, groups_at-last, groups_at-more, groups_at-long, groups_at-none}

-- ---- signs

pub zigzag-unzigzag : (n : ℕ) → zigzag (unzigzag n) ≡ n
zigzag-unzigzag n =
    elim (cases_eq (n % 2) 0) [
      | inl e ↦ rw (eq-eqb (n % 2) 0 e) (omega arith)
      | inr ne ↦ rw (ne_eqb (n % 2) 0 ne) (omega (arith, ne))
    ]

pub unzigzag-zigzag : (z : ℤ) → unzigzag (zigzag z) ≡ z
unzigzag-zigzag (pos n) =
    let even : 2 * n % 2 ≡ 0 = omega arith in
    let half : 2 * n / 2 ≡ n = omega arith in
    rw (eq-eqb (2 * n % 2) 0 even, half) refl
unzigzag-zigzag (negsuc n) =
    let odd : (2 * n + 1) % 2 ≡ 0 → ⊥ = λ e. omega (arith, e) in
    let half : (2 * n + 1) / 2 ≡ n = omega arith in
    rw (ne_eqb ((2 * n + 1) % 2) 0 odd, half) refl

-- ---- groups that are written and read again

pub groups-last : (more n : ℕ) → n < 128 → groups more n ≡ n ∷ []
unfolding groups
groups-last zero n lt = refl
groups-last (suc more) n lt = rw (lt-ltb n 128 lt) refl

pub groups-more : (more n : ℕ) → 128 ≤ n → groups (suc more) n ≡ (n % 128 + 128) ∷ groups more (n / 128)
unfolding groups
groups-more more n le = rw (le-ltb n 128 le) refl

pub groups_again : (at more n : ℕ) (rest : List ℕ) → n < 128 ^ suc more → groups_at at more (groups more n ++ rest) ≡ Ok (n, length (groups more n))
groups_again at zero n rest lt =
    let small : n < 128 = omega arith in
    rw (groups-last zero n small) (groups_at-last at zero n rest small)
groups_again at (suc more) n rest lt =
    elim (cases_lt n 128) [
      | inl small ↦ rw (groups-last (suc more) n small) (groups_at-last at (suc more) n rest small)
      | inr le ↦
          let high : n / 128 < 128 ^ suc more = div_below n 128 (128 ^ suc more) (omega arith) (omega (arith, pow-suc 128 (suc more), lt)) in
          let again = groups_again at more (n / 128) rest high in
          let some : eqb (n / 128) 0 ≡ false = ne_eqb (n / 128) 0 (λ e. omega (arith, e, le)) in
          let one : groups_at at (suc more) ((n % 128 + 128) ∷ (groups more (n / 128) ++ rest)) ≡ with_higher at (n % 128 + 128) (Ok (n / 128, length (groups more (n / 128)))) = groups_at-more at more (n % 128 + 128) (groups more (n / 128) ++ rest) (omega arith) ∙ ap (with_higher at (n % 128 + 128)) again in
          let two : with_higher at (n % 128 + 128) (Ok (n / 128, length (groups more (n / 128)))) ≡ Ok (n, suc (length (groups more (n / 128)))) = rw some (found_same (n % 128 + 128 - 128 + 128 * (n / 128)) (length (groups more (n / 128)) + 1) n (suc (length (groups more (n / 128)))) (omega arith) (omega arith)) in
          rw (groups-more more n le) (one ∙ two)
    ]

-- ---- groups that were read

-- k bytes at the front are the groups of n
pub record AreGroups (more n k : ℕ) (bytes : List ℕ) : Type 0 where
  pub text : groups more n ≡ take k bytes
  pub within : k ≤ length bytes
  pub below : n < 128 ^ suc more

with_higher_ok : (at b n k : ℕ) (read : Result (ℕ × ℕ) ByteFault) → with_higher at b read ≡ Ok (n, k) → (h : ℕ) × (j : ℕ) × (read ≡ found h j) × (0 < h) × (n ≡ b - 128 + 128 * h) × (k ≡ j + 1)
with_higher_ok at b n k (Err e) is = absurd cc
with_higher_ok at b n k (Ok (zero, j)) is = absurd cc
with_higher_ok at b n k (Ok (suc h, j)) is =
    let made : found (b - 128 + 128 * suc h) (j + 1) ≡ found n k = rw not_zero at is in
    let same = same_found (b - 128 + 128 * suc h) (j + 1) n k made in
    (suc h, j, refl, omega arith, sym same.0, sym same.1)

with_higher_err : (at b : ℕ) (e : ByteFault) (read : Result (ℕ × ℕ) ByteFault) → with_higher at b read ≡ Err e → (read ≡ Err e) ⊎ (e ≡ LongVarint at)
with_higher_err at b e (Err d) is = inl is
with_higher_err at b e (Ok (zero, j)) is = inr cc
with_higher_err at b e (Ok (suc h, j)) is =
    let made : found (b - 128 + 128 * suc h) (j + 1) ≡ Err e = rw not_zero at is in
    absurd cc

IsBytes-tail : (b : ℕ) (bytes : List ℕ) → IsBytes (b ∷ bytes) → IsBytes bytes
IsBytes-tail b bytes h i = h (suc i)

last_group : (more b n k : ℕ) (bytes : List ℕ) → b < 128 → found b 1 ≡ found n k → AreGroups more n k (b ∷ bytes)
last_group more b n k bytes lt is =
    let same = same_found b 1 n k is in
    let one : AreGroups more b 1 (b ∷ bytes) = record {
      text = groups-last more b lt;
      within = omega arith;
      below = omega (arith, lt, pow-suc 128 more, one-le-pow more 128 (omega arith));
    } in
    subst (λ (m : ℕ). AreGroups more n m (b ∷ bytes)) same.1 (subst (λ (m : ℕ). AreGroups more m 1 (b ∷ bytes)) same.0 one)

higher_groups : (more b n k h j : ℕ) (bytes : List ℕ) → 128 ≤ b → b < 256 → 0 < h → n ≡ b - 128 + 128 * h → k ≡ j + 1 → AreGroups more h j bytes → AreGroups (suc more) n k (b ∷ bytes)
higher_groups more b n k h j bytes le byte some n-is k-is rest =
    let low : n % 128 + 128 ≡ b = omega (arith, n-is) in
    let high : n / 128 ≡ h = omega (arith, n-is) in
    let large : 128 ≤ n = omega (arith, n-is) in
    let count : k ≡ suc j = omega (arith, k-is) in
    record {
      text = groups-more more n large ∙ rw (low, high, count) (ap (λ (bs : List ℕ). b ∷ bs) rest.text);
      within = omega (arith, k-is, rest.within);
      below = omega (arith, n-is, rest.below, pow-suc 128 (suc more));
    }

pub groups_takes : (at more n k : ℕ) (bytes : List ℕ) → IsBytes bytes → groups_at at more bytes ≡ Ok (n, k) → AreGroups more n k bytes
groups_takes at more n k [] fits is = let no : Err (Short at) ≡ found n k = sym (groups_at-none at more) ∙ is in absurd cc
groups_takes at zero n k (b ∷ bytes) fits is =
    elim (cases_lt b 128) [
      | inl lt ↦ last_group zero b n k bytes lt (sym (groups_at-last at zero b bytes lt) ∙ is)
      | inr le ↦ let no : Err (LongVarint at) ≡ found n k = sym (groups_at-long at b bytes le) ∙ is in absurd cc
    ]
groups_takes at (suc more) n k (b ∷ bytes) fits is =
    elim (cases_lt b 128) [
      | inl lt ↦ last_group (suc more) b n k bytes lt (sym (groups_at-last at (suc more) b bytes lt) ∙ is)
      | inr le ↦
          let x = with_higher_ok at b n k (groups_at at more bytes) (sym (groups_at-more at more b bytes le) ∙ is) in
          let rest = groups_takes at more x.0 x.1 bytes (IsBytes-tail b bytes fits) x.2 in
          higher_groups more b n k x.0 x.1 bytes le (fits 0) x.3 x.4 x.5 rest
    ]

-- ---- refusals

pub groups_refused : (at more : ℕ) (bytes : List ℕ) (e : ByteFault) → groups_at at more bytes ≡ Err e → (e ≡ Short at) ⊎ (e ≡ LongVarint at)
groups_refused at more [] e is = let same : failed e ≡ failed (Short at) = sym is ∙ groups_at-none at more in inl cc
groups_refused at zero (b ∷ bytes) e is =
    elim (cases_lt b 128) [
      | inl lt ↦ let no : found b 1 ≡ failed e = sym (groups_at-last at zero b bytes lt) ∙ is in absurd cc
      | inr le ↦ let same : failed (LongVarint at) ≡ failed e = sym (groups_at-long at b bytes le) ∙ is in inr cc
    ]
groups_refused at (suc more) (b ∷ bytes) e is =
    elim (cases_lt b 128) [
      | inl lt ↦ let no : found b 1 ≡ failed e = sym (groups_at-last at (suc more) b bytes lt) ∙ is in absurd cc
      | inr le ↦
          elim (with_higher_err at b e (groups_at at more bytes) (sym (groups_at-more at more b bytes le) ∙ is)) [
            | inl lower ↦ groups_refused at more bytes e lower
            | inr same ↦ inr same
          ]
    ]

pub short_from : (at more : ℕ) (bytes : List ℕ) → EndWithinVarint (suc more) bytes → groups_at at more bytes ≡ Err (Short at)
short_from at more [] h = groups_at-none at more
short_from at zero (b ∷ bytes) h = absurd (omega (arith, h.0))
short_from at (suc more) (b ∷ bytes) h =
    let rest = short_from at more bytes (omega (arith, h.0), All-tail (λ c. 128 ≤ c) b bytes h.1) in
    groups_at-more at more b bytes (All-head (λ c. 128 ≤ c) b bytes h.1) ∙ ap (with_higher at b) rest

pub short_to : (at more : ℕ) (bytes : List ℕ) → groups_at at more bytes ≡ Err (Short at) → EndWithinVarint (suc more) bytes
short_to at more [] is = (omega arith, All-nil (λ c. 128 ≤ c))
short_to at zero (b ∷ bytes) is =
    elim (cases_lt b 128) [
      | inl lt ↦ let no : found b 1 ≡ failed (Short at) = sym (groups_at-last at zero b bytes lt) ∙ is in absurd cc
      | inr le ↦ let no : failed (LongVarint at) ≡ failed (Short at) = sym (groups_at-long at b bytes le) ∙ is in absurd cc
    ]
short_to at (suc more) (b ∷ bytes) is =
    elim (cases_lt b 128) [
      | inl lt ↦ let no : found b 1 ≡ failed (Short at) = sym (groups_at-last at (suc more) b bytes lt) ∙ is in absurd cc
      | inr le ↦
          elim (with_higher_err at b (Short at) (groups_at at more bytes) (sym (groups_at-more at more b bytes le) ∙ is)) [
            | inl lower ↦
                let rest = short_to at more bytes lower in
                (omega (arith, rest.0), All-cons (λ c. 128 ≤ c) b bytes le rest.1)
            | inr same ↦ absurd cc
          ]
    ]
