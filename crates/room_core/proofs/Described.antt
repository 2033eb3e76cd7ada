-- The operation that words describe: it is valid, and its tally is that over the words.
use Rattle.std.proofs.Common.{◌≡◌, ℕ, zero, suc, ◌+◌, ◌<◌, List, [], ◌∷◌, ◌++◌, length, sym, ap, subst, ◌∙◌, arith}
use Rattle.std.specs.Prelude.{map, ◌^◌}
use Rattle.std.specs.List.{range_with_len}
use Rattle.std.proofs.lemmas.List.FromFn.{length-map-range_with_len, get_or-map-range_with_len, map-range_with_len_more}
use Rattle.opcond.specs.declared.need.Need.{Need}
use Rattle.opcond.specs.Operation.{IsValid}
use Rattle.opcond.specs.Tally.{counted}
use Rattle.opcond.specs.Tally as listed
use Rattle.room_core.specs.declared.shape.Shape.{Shape}
use Rattle.room_core.specs.Description.{IsOperation, needs_of, need_of, gauge_of, tally, tally_below}
use Rattle.room_core.specs.Described.{operation_of, values_in}
use Rattle.room_core.proofs.Counting.{tally-none, tally-more}

-- a need more
tally-snoc : (value : ℕ → ℕ) (needs : List Need) (need : Need)
    → listed.tally (needs ++ need ∷ []) (map (λ (n : Need). value n.gauge) (needs ++ need ∷ [])) ≡ listed.tally needs (map (λ (n : Need). value n.gauge) needs) + counted need (value need.gauge)
tally-snoc value [] need = omega arith
tally-snoc value (x ∷ xs) need = omega (arith, tally-snoc value xs need)

tallies : (words value : ℕ → ℕ) (n : ℕ) → listed.tally (map (need_of words) (range_with_len 0 n)) (map (λ (x : Need). value x.gauge) (map (need_of words) (range_with_len 0 n))) ≡ tally_below words value n
tallies words value zero = sym (tally-none words value)
tallies words value (suc n) =
    let more : map (need_of words) (range_with_len 0 (n + 1)) ≡ map (need_of words) (range_with_len 0 n) ++ need_of words n ∷ [] = map-range_with_len_more (need_of words) 0 n n (omega arith) in
    let next : n + 1 ≡ suc n = omega arith in
    subst (λ m. listed.tally (map (need_of words) (range_with_len 0 m)) (map (λ (x : Need). value x.gauge) (map (need_of words) (range_with_len 0 m))) ≡ tally_below words value m) next
    (ap (λ xs. listed.tally xs (map (λ (x : Need). value x.gauge) xs)) more
    ∙ tally-snoc value (map (need_of words) (range_with_len 0 n)) (need_of words n)
    ∙ ap (λ t. t + counted (need_of words n) (value (gauge_of words n))) (tallies words value n)
    ∙ sym (tally-more words value n))

pub tally_is : (words value : ℕ → ℕ) → listed.tally (operation_of words).needs (values_in words value) ≡ tally words value
tally_is words value = tallies words value (needs_of words)

pub valid : (shape : Shape) (words : ℕ → ℕ) → IsOperation shape words → IsValid (operation_of words)
valid shape words op =
    let f : ℕ → Need = need_of words in
    let size : length (map f (range_with_len 0 (needs_of words))) ≡ needs_of words = length-map-range_with_len f 0 (needs_of words) in
    record {
      few = omega (arith, size, op.few);
      distinct = λ i j d l m e.
          op.distinct i j l (omega (arith, size))
          (sym (ap (λ (x : Need). x.gauge) (get_or-map-range_with_len f 0 (needs_of words) i i d (omega (arith, size)) (omega arith)))
          ∙ e ∙ ap (λ (x : Need). x.gauge) (get_or-map-range_with_len f 0 (needs_of words) j j d (omega (arith, size)) (omega arith)));
      caps = λ i d l.
          subst (λ (x : Need). x.cap < 2 ^ 31) (sym (get_or-map-range_with_len f 0 (needs_of words) i i d (omega (arith, size)) (omega arith))) (op.caps i (omega (arith, size)));
      least = op.least;
    }
