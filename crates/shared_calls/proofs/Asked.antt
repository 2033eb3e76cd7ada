-- The partitions of some of the results.
use Rattle.std.proofs.Common.{ℕ, zero, suc, ◌<◌, List, [], ◌∷◌, length, drop, get_or, take, arith}
use Rattle.kanswer.specs.declared.accepted.Accepted.{Accepted}
use Rattle.kanswer.specs.declared.accepted.Accepted.TheVariants.{Refused, Appended, Seen}
use Rattle.kanswer.specs.Results.{parts_asked}
use Rattle.audit.specs.broker.Sound.{AllBelow}

module _ (n : ℕ) where
  abbrev pub AreBelow : List Accepted → Type 0
  AreBelow results = AllBelow n (parts_asked results)

  first_below : (x : Accepted) (xs : List Accepted) → AreBelow (x ∷ xs) → AreBelow (x ∷ [])
  first_below (Refused code) xs h = tt
  first_below (Appended part base count) xs h = (h.0, tt)
  first_below (Seen part start) xs h = (h.0, tt)

  others_below : (x : Accepted) (xs : List Accepted) → AreBelow (x ∷ xs) → AreBelow xs
  others_below (Refused code) xs h = h
  others_below (Appended part base count) xs h = h.1
  others_below (Seen part start) xs h = h.1

  both_below : (x : Accepted) (xs : List Accepted) → AreBelow (x ∷ []) → AreBelow xs → AreBelow (x ∷ xs)
  both_below (Refused code) xs h more = more
  both_below (Appended part base count) xs h more = (h.0, more)
  both_below (Seen part start) xs h more = (h.0, more)

  -- one of them
  pub one_below : (xs : List Accepted) (i : ℕ) (d : Accepted) → AreBelow xs → i < length xs → AreBelow (get_or xs i d ∷ [])
  one_below [] i d h lt = absurd (omega (arith, lt))
  one_below (x ∷ xs) zero d h lt = first_below x xs h
  one_below (x ∷ xs) (suc i) d h lt = one_below xs i d (others_below x xs h) (omega (arith, lt))

  -- the first of them, and those behind
  pub front_below : (k : ℕ) (xs : List Accepted) → AreBelow xs → AreBelow (take k xs)
  front_below zero xs h = tt
  front_below (suc k) [] h = tt
  front_below (suc k) (x ∷ xs) h = both_below x (take k xs) (first_below x xs h) (front_below k xs (others_below x xs h))

  pub rest_below : (k : ℕ) (xs : List Accepted) → AreBelow xs → AreBelow (drop k xs)
  rest_below zero xs h = h
  rest_below (suc k) [] h = tt
  rest_below (suc k) (x ∷ xs) h = rest_below k xs (others_below x xs h)
