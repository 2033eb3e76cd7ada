-- Tallies, need by need.
use Rattle.std.proofs.Common.{◌≡◌, ℕ, zero, suc, ◌+◌, ◌<◌, ◌≤◌, List, [], ◌∷◌, length, get_or, set, arith}
use Rattle.opcond.specs.declared.need.Need.{Need}
use Rattle.opcond.specs.Tally.{counted, tally}

pub counted_rises : (need : Need) (v w : ℕ) → v ≤ w → counted need v ≤ counted need w
counted_rises need v w h = omega arith

pub tally-rises : (needs : List Need) (before after : List ℕ) → length before ≡ length after → ((i : ℕ) → get_or before i 0 ≤ get_or after i 0) → tally needs before ≤ tally needs after
tally-rises [] before after same higher = omega arith
tally-rises (need ∷ needs) [] [] same higher = omega arith
tally-rises (need ∷ needs) [] (w ∷ after) same higher = omega arith
tally-rises (need ∷ needs) (v ∷ before) [] same higher = absurd (omega arith)
tally-rises (need ∷ needs) (v ∷ before) (w ∷ after) same higher =
    omega (arith, counted_rises need v w (higher 0), tally-rises needs before after (omega arith) (λ i. higher (suc i)))

pub tally-set : (needs : List Need) (values : List ℕ) (i value : ℕ) (d : Need) → i < length needs → i < length values
    → tally needs (set values i value) + counted (get_or needs i d) (get_or values i 0) ≡ tally needs values + counted (get_or needs i d) value
tally-set [] values i value d l m = absurd (omega arith)
tally-set (need ∷ needs) [] i value d l m = absurd (omega arith)
tally-set (need ∷ needs) (v ∷ values) zero value d l m = omega arith
tally-set (need ∷ needs) (v ∷ values) (suc i) value d l m =
    let e : tally needs (set values i value) + counted (get_or needs i d) (get_or values i 0) ≡ tally needs values + counted (get_or needs i d) value = tally-set needs values i value d (omega arith) (omega arith) in
    omega (arith, e)
