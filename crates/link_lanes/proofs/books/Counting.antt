-- Numbers in lists: appended, mapped, over several lists.
use Rattle.std.proofs.Common.{◌≡◌, ℕ, ◌+◌, ◌==◌, List, [], ◌∷◌, ◌++◌, map, refl, ap, ◌∙◌, arith}
use Rattle.std.specs.List.{flat_map}
use Rattle.link_lanes.specs.books.Times.{one_where, times, total}

pub times_append : (n : ℕ) (xs ys : List ℕ) → times n (xs ++ ys) ≡ times n xs + times n ys
times_append n [] ys = omega arith
times_append n (x ∷ xs) ys = omega (arith, times_append n xs ys)

-- one more at the end
pub times_push : (n : ℕ) (xs : List ℕ) (x : ℕ) → times n (xs ++ x ∷ []) ≡ times n xs + one_where (x == n)
times_push n xs x = omega (arith, times_append n xs (x ∷ []))

module _ {A : Type 0} where
  pub map_append : {B : Type 0} (f : A → B) (xs ys : List A) → map f (xs ++ ys) ≡ map f xs ++ map f ys
  map_append f [] ys = refl
  map_append f (x ∷ xs) ys = ap (λ zs. f x ∷ zs) (map_append f xs ys)

  -- the numbers of lists that are joined
  pub times_joined : {X : Type 0} (n : ℕ) (number : A → ℕ) (f : X → List A) (xs : List X) → times n (map number (flat_map f xs)) ≡ total (λ x. times n (map number (f x))) xs
  times_joined n number f [] = refl
  times_joined n number f (x ∷ xs) =
      ap (times n) (map_append number (f x) (flat_map f xs)) ∙ times_append n (map number (f x)) (map number (flat_map f xs))
      ∙ ap (λ (k : ℕ). times n (map number (f x)) + k) (times_joined n number f xs)

  -- sums of equal numbers are equal
  pub total_same : (f g : A → ℕ) (xs : List A) → ((x : A) → f x ≡ g x) → total f xs ≡ total g xs
  total_same f g [] same = refl
  total_same f g (x ∷ xs) same = omega (arith, same x, total_same f g xs same)

  pub total_sum : (f g : A → ℕ) (xs : List A) → total (λ x. f x + g x) xs ≡ total f xs + total g xs
  total_sum f g [] = refl
  total_sum f g (x ∷ xs) = omega (arith, total_sum f g xs)
