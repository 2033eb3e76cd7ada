-- The greatest of the moments that were told, as the list goes on.
use Rattle.std.proofs.Common.{◌≡◌, ◌≤◌, List, [], ◌∷◌, ◌++◌, subst, sym, arith}
use Rattle.turn_lock.specs.StartsWith.{StartsWith}
use Rattle.outside.specs.declared.shared.clock.told_moment.ToldMoment.{ToldMoment}
use Rattle.outside.specs.shared.clock.Moments.{greatest}

-- a front has no greater one
pub greatest-front : (xs ys : List ToldMoment) → greatest xs ≤ greatest (xs ++ ys)
greatest-front [] ys = omega arith
greatest-front (x ∷ xs) ys = let rest = greatest-front xs ys in omega (arith, rest)

pub greatest_seen : (log seen : List ToldMoment) → StartsWith log seen → greatest seen ≤ greatest log
greatest_seen log seen starts = subst (λ (es : List ToldMoment). greatest seen ≤ greatest es) (sym starts.1) (greatest-front seen starts.0)

-- one that is no less than all before it
pub greatest_last : (xs : List ToldMoment) (x : ToldMoment) → greatest xs ≤ x.moment → greatest (xs ++ x ∷ []) ≡ x.moment
greatest_last [] x above = omega arith
greatest_last (y ∷ xs) x above = let rest = greatest_last xs x (omega (arith, above)) in omega (arith, rest, above)
