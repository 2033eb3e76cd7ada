-- Numbers in groups of seven bits, read from the left.
use Rattle.std.proofs.Common.{◌≡◌, ℕ, zero, suc, ◌+◌, ◌-◌, ◌*◌, ◌%◌, ◌^◌, ◌<◌, ◌≤◌, false, eqb, List, [], ◌∷◌, length, get_or, drop, bit_and, bit_or, Result, Ok, Err, refl, sym, ap, ◌∙◌, add-one, arith}
use Rattle.std.specs.Prelude.{if◌then◌else◌, ◌==◌}
use Rattle.std.proofs.lemmas.Bool.{lt-ltb, le-ltb, ne_eqb}
use Rattle.std.proofs.lemmas.List.{drop_more, drop_all}
use Rattle.std.proofs.lemmas.Nat.{pow-add, and_mask, or_comm, or_shifted, shl_whole, mul-le}
use Rattle.std.proofs.Math.Nat.{add_comm, add-mul, mul_comm, mul_assoc}
use Rattle.kbytes.specs.declared.fault.ByteFault.{ByteFault}
use Rattle.kbytes.specs.declared.fault.ByteFault.TheVariants.{Short, LongVarint}
use Rattle.kbytes.specs.Reading.{◌>>=◌, groups_at}

-- a last byte
pub groups_at-last : (at more b : ℕ) (bs : List ℕ) → b < 128 → groups_at at more (b ∷ bs) ≡ Ok (b, 1)
unfolding groups_at
groups_at-last at zero b bs lt = rw (lt-ltb b 128 lt) refl
groups_at-last at (suc more) b bs lt = rw (lt-ltb b 128 lt) refl

-- the higher groups put to b, which is not the last byte
abbrev pub with_higher : ℕ → ℕ → Result (ℕ × ℕ) ByteFault → Result (ℕ × ℕ) ByteFault
with_higher at b read = read >>= λ high. if high.0 == 0 then Err (LongVarint at) else Ok (b - 128 + 128 * high.0, high.1 + 1)

pub groups_at-more : (at more b : ℕ) (bs : List ℕ) → 128 ≤ b → groups_at at (suc more) (b ∷ bs) ≡ with_higher at b (groups_at at more bs)
unfolding groups_at
groups_at-more at more b bs le = rw (le-ltb b 128 le) refl

pub groups_at-long : (at b : ℕ) (bs : List ℕ) → 128 ≤ b → groups_at at 0 (b ∷ bs) ≡ Err (LongVarint at)
unfolding groups_at
groups_at-long at b bs le = rw (le-ltb b 128 le) refl

pub groups_at-none : (at more : ℕ) → groups_at at more [] ≡ Err (Short at)
unfolding groups_at
groups_at-none at zero = refl
groups_at-none at (suc more) = refl

-- what is read where the groups up to a place give the number low, and the rest of them are still read
abbrev pub resumed : ℕ → ℕ → ℕ → Result (ℕ × ℕ) ByteFault → Result (ℕ × ℕ) ByteFault
resumed at low zero read = read
resumed at low (suc place) read = read >>= λ high. if high.0 == 0 then Err (LongVarint at) else Ok (low + high.0 * 2 ^ (7 * suc place), high.1 + suc place)

-- a number that was read, and how many bytes it takes
abbrev number : ℕ → ℕ → ℕ × ℕ
number n k = (n, k)

abbrev pub found : ℕ → ℕ → Result (ℕ × ℕ) ByteFault
found n k = Ok (n, k)

abbrev pub failed : ByteFault → Result (ℕ × ℕ) ByteFault
failed e = Err e

sevens : (place : ℕ) → 7 * suc place ≡ 7 + 7 * place
sevens place = omega arith

pub found_same : (a b c d : ℕ) → a ≡ c → b ≡ d → found a b ≡ found c d
found_same a b c d p q = cc

pub same_found : (a b c d : ℕ) → found a b ≡ found c d → (a ≡ c) × (b ≡ d)
same_found a b c d e =
    let pairs : number a b ≡ number c d = cc in
    (ap (λ (p : ℕ × ℕ). p.0) pairs, ap (λ (p : ℕ × ℕ). p.1) pairs)

pub not_zero : (n : ℕ) → eqb (suc n) 0 ≡ false
not_zero n = ne_eqb (suc n) 0 (λ e. omega (arith, e))

-- one group more: the bits of the place go up by seven
next_place : (place : ℕ) → 2 ^ (7 * suc place) ≡ 128 * 2 ^ (7 * place)
next_place place = ap (λ (k : ℕ). 2 ^ k) (sevens place) ∙ pow-add 2 7 (7 * place)

higher_sum : (p b h : ℕ) → 128 ≤ b → b < 256 → (b - 128 + 128 * h) * p ≡ (b % 128) * p + h * (128 * p)
higher_sum p b h le lt =
    let low : b % 128 ≡ b - 128 = omega arith in
    rw low (add-mul (b - 128) (128 * h) p ∙ ap (λ (n : ℕ). (b - 128) * p + n) (ap (λ (n : ℕ). n * p) (mul_comm 128 h) ∙ mul_assoc h 128 p))

resumed-step_ok : (at low place b h j : ℕ) → 128 ≤ b → b < 256 → low < 2 ^ (7 * place) → resumed at low place (with_higher at b (Ok (h, j))) ≡ resumed at (low + (b % 128) * 2 ^ (7 * place)) (suc place) (Ok (h, j))
resumed-step_ok at low zero b zero j le lt small = refl
resumed-step_ok at low zero b (suc h) j le lt small =
    rw not_zero (found_same (b - 128 + 128 * suc h) (j + 1) (low + b % 128 * 1 + suc h * 128) (j + 1) (omega arith) refl)
resumed-step_ok at low (suc place) b zero j le lt small = refl
resumed-step_ok at low (suc place) b (suc h) j le lt small =
    let n = b - 128 + 128 * suc h in
    let some : eqb n 0 ≡ false = ne_eqb n 0 (λ e. omega (arith, e)) in
    let value : low + n * 2 ^ (7 * suc place) ≡ low + b % 128 * 2 ^ (7 * suc place) + suc h * 2 ^ (7 * suc (suc place)) =
    omega (arith, higher_sum (2 ^ (7 * suc place)) b (suc h) le lt, ap (λ (p : ℕ). suc h * p) (next_place (suc place))) in
    rw (not_zero h, some) (found_same (low + n * 2 ^ (7 * suc place)) (j + 1 + suc place) (low + b % 128 * 2 ^ (7 * suc place) + suc h * 2 ^ (7 * suc (suc place))) (j + suc (suc place)) value (omega arith))

pub resumed-step : (at low place b : ℕ) (read : Result (ℕ × ℕ) ByteFault) → 128 ≤ b → b < 256 → low < 2 ^ (7 * place) → resumed at low place (with_higher at b read) ≡ resumed at (low + (b % 128) * 2 ^ (7 * place)) (suc place) read
resumed-step at low place b (Ok x) le lt small = resumed-step_ok at low place b x.0 x.1 le lt small
resumed-step at low zero b (Err e) le lt small = refl
resumed-step at low (suc place) b (Err e) le lt small = refl

-- a group put above the number so far
pub joined : (low place b : ℕ) → place < 10 → low < 2 ^ (7 * place) → bit_or low ((bit_and b 127 * 2 ^ (7 * place)) % 2 ^ 128) ≡ low + (b % 128) * 2 ^ (7 * place)
joined low place b lt small =
    let group : bit_and b 127 ≡ b % 128 = and_mask b 7 in
    let whole : ((b % 128) * 2 ^ (7 * place)) % 2 ^ 128 ≡ (b % 128) * 2 ^ (7 * place) = shl_whole (b % 128) 7 (7 * place) 128 (omega arith) (omega arith) in
    rw (group, whole) (or_comm low ((b % 128) * 2 ^ (7 * place)) ∙ or_shifted (b % 128) (7 * place) low small ∙ add_comm ((b % 128) * 2 ^ (7 * place)) low)

pub joined_small : (low place b : ℕ) → low < 2 ^ (7 * place) → low + (b % 128) * 2 ^ (7 * place) < 2 ^ (7 * suc place)
joined_small low place b small = rw (next_place place) (omega (arith, mul-le (b % 128) (2 ^ (7 * place)) 127 (2 ^ (7 * place)) (omega arith) (omega arith)))

resumed-last : (at low place b : ℕ) → b < 128 → low < 2 ^ (7 * place) → (0 < place → b ≡ 0 → ⊥) → resumed at low place (Ok (b, 1)) ≡ Ok (low + (b % 128) * 2 ^ (7 * place), place + 1)
resumed-last at low zero b lt small some = found_same b 1 (low + b % 128 * 1) 1 (omega arith) refl
resumed-last at low (suc place) b lt small some =
    let same : b % 128 ≡ b = omega arith in
    rw (ne_eqb b 0 (some (omega arith)), same) (found_same (low + b * 2 ^ (7 * suc place)) (1 + suc place) (low + b * 2 ^ (7 * suc place)) (suc place + 1) refl (omega arith))

resumed-none : (at low place : ℕ) (e : ByteFault) → resumed at low place (Err e) ≡ Err e
resumed-none at low zero e = refl
resumed-none at low (suc place) e = refl

zero_is_long : (at low place : ℕ) → 0 < place → resumed at low place (Ok (0, 1)) ≡ Err (LongVarint at)
zero_is_long at low zero some = absurd (omega arith)
zero_is_long at low (suc place) some = refl

-- the groups up to a place were read, and gave the number low
pub record IsHalfway (rest : List ℕ) (at last place low : ℕ) : Type 0 where
  pub within : place ≤ last
  pub small : low < 2 ^ (7 * place)
  pub resumes : resumed at low place (groups_at at (last - place) (drop place rest)) ≡ groups_at at last rest

at_byte : (rest : List ℕ) (at last place low : ℕ) → IsHalfway rest at last place low → place < length rest → resumed at low place (groups_at at (last - place) (get_or rest place 0 ∷ drop (place + 1) rest)) ≡ groups_at at last rest
at_byte rest at last place low h lt = rw (← drop_more rest place 0 lt) h.resumes

pub ends_in_zero : (rest : List ℕ) (at last place low : ℕ) → IsHalfway rest at last place low → place < length rest → get_or rest place 0 ≡ 0 → 0 < place → Err (LongVarint at) ≡ groups_at at last rest
ends_in_zero rest at last place low h lt is_zero some =
    let one = at_byte rest at last place low h lt in
    let two : groups_at at (last - place) (get_or rest place 0 ∷ drop (place + 1) rest) ≡ Ok (0, 1) = rw is_zero (groups_at-last at (last - place) 0 (drop (place + 1) rest) (omega arith)) in
    sym (zero_is_long at low place some) ∙ ap (resumed at low place) (sym two) ∙ one

pub ends_in_byte : (rest : List ℕ) (at last place low : ℕ) → IsHalfway rest at last place low → place < length rest → get_or rest place 0 < 128 → (0 < place → get_or rest place 0 ≡ 0 → ⊥) → Ok (low + (get_or rest place 0 % 128) * 2 ^ (7 * place), place + 1) ≡ groups_at at last rest
ends_in_byte rest at last place low h lt small some =
    let two = groups_at-last at (last - place) (get_or rest place 0) (drop (place + 1) rest) small in
    sym (resumed-last at low place (get_or rest place 0) small h.small some) ∙ ap (resumed at low place) (sym two) ∙ at_byte rest at last place low h lt

pub ends_too_long : (rest : List ℕ) (at last place low : ℕ) → IsHalfway rest at last place low → place < length rest → 128 ≤ get_or rest place 0 → place ≡ last → Err (LongVarint at) ≡ groups_at at last rest
ends_too_long rest at last place low h lt le e =
    let none : last - place ≡ 0 = omega arith in
    let two : groups_at at (last - place) (get_or rest place 0 ∷ drop (place + 1) rest) ≡ Err (LongVarint at) = rw none (groups_at-long at (get_or rest place 0) (drop (place + 1) rest) le) in
    sym (resumed-none at low place (LongVarint at)) ∙ ap (resumed at low place) (sym two) ∙ at_byte rest at last place low h lt

pub ends_short : (rest : List ℕ) (at last place low : ℕ) → IsHalfway rest at last place low → length rest ≤ place → Err (Short at) ≡ groups_at at last rest
ends_short rest at last place low h le =
    let two : groups_at at (last - place) (drop place rest) ≡ Err (Short at) = rw (drop_all place rest le) (groups_at-none at (last - place)) in
    sym (resumed-none at low place (Short at)) ∙ ap (resumed at low place) (sym two) ∙ h.resumes

pub goes_on : (rest : List ℕ) (at last place low : ℕ) → IsHalfway rest at last place low → place < length rest → 128 ≤ get_or rest place 0 → get_or rest place 0 < 256 → (place ≡ last → ⊥) → IsHalfway rest at last (place + 1) (low + (get_or rest place 0 % 128) * 2 ^ (7 * place))
goes_on rest at last place low h lt le byte more =
    let b = get_or rest place 0 in
    let left : last - place ≡ suc (last - (place + 1)) = omega arith in
    let two : groups_at at (last - place) (b ∷ drop (place + 1) rest) ≡ with_higher at b (groups_at at (last - (place + 1)) (drop (place + 1) rest)) = rw left (groups_at-more at (last - (place + 1)) b (drop (place + 1) rest) le) in
    let step = resumed-step at low place b (groups_at at (last - (place + 1)) (drop (place + 1) rest)) le byte h.small in
    record {
      within = omega (arith, h.within);
      small = rw add-one (joined_small low place b h.small);
      resumes = ap (λ (n : ℕ). resumed at (low + (b % 128) * 2 ^ (7 * place)) n (groups_at at (last - (place + 1)) (drop (place + 1) rest))) (add-one place) ∙ sym step ∙ ap (resumed at low place) (sym two) ∙ at_byte rest at last place low h lt;
    }
