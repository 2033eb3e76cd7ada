-- A number that is written in groups of seven bits, byte after byte.
use Rattle.std.proofs.Common.{◌≡◌, ℕ, suc, ◌+◌, ◌-◌, ◌/◌, ◌%◌, ◌^◌, ◌<◌, ◌≤◌, List, [], ◌∷◌, ◌++◌, length, take, set, sym, ap, subst, ◌∙◌, append_assoc, arith, inl, inr}
use Rattle.std.proofs.lemmas.Bool.{cases_lt}
use Rattle.std.proofs.lemmas.List.{take_more_set, length-set}
use Rattle.std.proofs.lemmas.Nat.{div_below}
use Rattle.std.proofs.Math.Nat.{pow-suc}
use Rattle.kbytes.specs.Field.{groups}
use Rattle.kbytes.proofs.Varints.{groups-last, groups-more}

-- the first bytes are written, and the groups of the rest follow
pub record IsPartly (bytes : List ℕ) (last number count rest : ℕ) : Type 0 where
  pub size : length bytes ≡ 10
  pub within : count ≤ last
  pub room : rest < 128 ^ suc (last - count)
  pub text : take count bytes ++ groups (last - count) rest ≡ groups last number

pub more_left : (bytes : List ℕ) (last number count rest : ℕ) → IsPartly bytes last number count rest → 128 ≤ rest → count < last
more_left bytes last number count rest h le =
    elim (cases_lt count last) [
      | inl lt ↦ lt
      | inr ge ↦
          let none : last - count ≡ 0 = omega arith in
          let small : rest < 128 ^ 1 = subst (λ (k : ℕ). rest < 128 ^ suc k) none h.room in
          absurd (omega arith)
    ]

pub partly_more : (bytes : List ℕ) (last number count rest b : ℕ) → IsPartly bytes last number count rest → count < length bytes → 128 ≤ rest → b ≡ rest % 128 + 128 → IsPartly (set bytes count b) last number (count + 1) (rest / 128)
partly_more bytes last number count rest b h lt le b-is =
    let more = more_left bytes last number count rest h le in
    let left : last - count ≡ suc (last - (count + 1)) = omega arith in
    let m = last - (count + 1) in
    let big : rest < 128 ^ suc (suc m) = subst (λ (k : ℕ). rest < 128 ^ suc k) left h.room in
    let byte : groups (last - count) rest ≡ b ∷ groups m (rest / 128) = rw (left, b-is) (groups-more m rest le) in
    record {
      size = length-set bytes count b ∙ h.size;
      within = omega (arith, more);
      room = div_below rest 128 (128 ^ suc m) (omega arith) (omega (arith, pow-suc 128 (suc m), big));
      text =
          ap (λ (t : List ℕ). t ++ groups m (rest / 128)) (take_more_set bytes count b lt)
          ∙ append_assoc (take count bytes) (b ∷ []) (groups m (rest / 128))
          ∙ ap (λ (t : List ℕ). take count bytes ++ t) (sym byte)
          ∙ h.text;
    }

pub partly_done : (bytes : List ℕ) (last number count rest : ℕ) → IsPartly bytes last number count rest → count < length bytes → rest < 128 → take (count + 1) (set bytes count rest) ≡ groups last number
partly_done bytes last number count rest h lt small =
    take_more_set bytes count rest lt ∙ ap (λ (t : List ℕ). take count bytes ++ t) (sym (groups-last (last - count) rest small)) ∙ h.text
