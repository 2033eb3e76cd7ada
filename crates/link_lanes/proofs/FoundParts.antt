-- What is found in a list and in parts of it.
use Rattle.std.proofs.Common.{◌≡◌, ◌⊎◌, inl, inr, ℕ, zero, suc, ◌+◌, ◌==◌, ◌||◌, Bool, true, false, cond, List, [], ◌∷◌, ◌++◌, Option, Some, None, All, Any, Contains, filter, filter_map, map, refl, ap, sym, subst, arith, eqb-true, eq-eqb}
use Rattle.std.specs.List.{AllByRecursion, cons_option, list_any}
use Rattle.std.proofs.lemmas.List.Elements.{All-cons, All-head, All-nil, All-tail}
use Rattle.link_lanes.specs.books.Times.{one_where}
use Rattle.link_lanes.proofs.PartSums.{having, part_of}

-- ---- some item, and an item of a list

module _ {A : Type 0} where
  pub any_here : (P : A → Type 0) (x : A) (xs : List A) → P x → Any P (x ∷ xs)
  any_here P x xs holds = (zero, x, omega arith, refl, holds)

  pub any_there : (P : A → Type 0) (x : A) (xs : List A) → Any P xs → Any P (x ∷ xs)
  any_there P x xs (k, y, within, is, holds) = (suc k, y, omega (arith, within), is, holds)

  any_weaker : (P Q : A → Type 0) (xs : List A) → ((x : A) → P x → Q x) → Any P xs → Any Q xs
  any_weaker P Q xs weaker (k, y, within, is, holds) = (k, y, within, is, weaker y holds)

  -- what holds of each item holds of some such item too
  pub any_with : (P Q R : A → Type 0) (xs : List A) → All P xs → ((x : A) → P x → Q x → R x) → Any Q xs → Any R xs
  any_with P Q R xs all both (k, y, within, is, holds) = (k, y, within, is, both y (subst P is (all k y within)) holds)

  contains_here : (x : A) (xs : List A) → Contains (x ∷ xs) x
  contains_here x xs = (zero, omega arith, refl)

  contains_there : (x y : A) (xs : List A) → Contains xs x → Contains (y ∷ xs) x
  contains_there x y xs (k, within, is) = (suc k, omega (arith, within), is)

  -- an item of a list that may have one more in front
  contains_more : (o : Option A) (xs : List A) (x : A) → Contains xs x → Contains (cons_option o xs) x
  contains_more None xs x there = there
  contains_more (Some y) xs x there = contains_there x y xs there

  contains_cases : (o : Option A) (xs : List A) (x : A) → Contains (cons_option o xs) x → (o ≡ Some x) ⊎ Contains xs x
  contains_cases None xs x there = inr there
  contains_cases (Some y) xs x (zero, within, is) = inl (ap Some is)
  contains_cases (Some y) xs x (suc k, within, is) = inr (k, omega (arith, within), is)

pub contains_map : {A B : Type 0} (f : A → B) (xs : List A) (x : A) → Contains xs x → Contains (map f xs) (f x)
contains_map f [] x (k, within, is) = absurd (omega (arith, within))
contains_map f (y ∷ xs) x (zero, within, is) = (zero, omega arith, ap f is)
contains_map f (y ∷ xs) x (suc k, within, is) = contains_there (f x) (f y) (map f xs) (contains_map f xs x (k, omega (arith, within), is))

-- what holds of all keys holds of each server's
pub all_keys : {S A : Type 0} (key : S → A) (P : A → Type 0) (servers : List S) (more : List A) → All P (map key servers ++ more) → All (λ server. P (key server)) servers
all_keys key P [] more all = All-nil (λ server. P (key server))
all_keys key P (server ∷ servers) more all =
    All-cons (λ s. P (key s)) server servers (All-head P (key server) (map key servers ++ more) all) (all_keys key P servers more (All-tail P (key server) (map key servers ++ more) all))

or_right : (a b : Bool) → b ≡ true → (a || b) ≡ true
or_right true b is = refl
or_right false b is = is

or_less : (a b c : Bool) → (b ≡ true → c ≡ true) → (a || b) ≡ true → (a || c) ≡ true
or_less true b c less found = refl
or_less false b c less found = less found

any_kept_more : {A : Type 0} (p : A → Bool) (kept : Bool) (x : A) (xs : List A) (all : Bool) → (list_any p xs ≡ true → all ≡ true) → list_any p (cond kept (x ∷ xs) xs) ≡ true → (p x || all) ≡ true
any_kept_more p true x xs all less found = or_less (p x) (list_any p xs) all less found
any_kept_more p false x xs all less found = or_right (p x) all (less found)

-- what is found among those that a test keeps is found among all
pub any_kept : {A : Type 0} (p test : A → Bool) (xs : List A) → list_any p (filter test xs) ≡ true → list_any p xs ≡ true
any_kept p test [] found = found
any_kept p test (x ∷ xs) found = any_kept_more p (test x) x (filter test xs) (list_any p xs) (any_kept p test xs) found

-- ---- what entries say

-- where one pass has a number, it is some pass's
module _ {P : Type 0} (number : P → ℕ) (n : ℕ) where
  abbrev Has : P → Type 0
  Has pass = number pass ≡ n

  has_more : (pass : P) (passes : List P) (is : Bool) → number pass == n ≡ is → one_where is + having number n passes ≡ 1 → (having number n passes ≡ 1 → Any Has passes) → Any Has (pass ∷ passes)
  has_more pass passes true is once rest = any_here Has pass passes (eqb-true (number pass) n is)
  has_more pass passes false is once rest = any_there Has pass passes (rest (omega (arith, once)))

  one_has : (passes : List P) → having number n passes ≡ 1 → Any Has passes
  one_has [] once = absurd (omega (arith, once))
  one_has (pass ∷ passes) once = has_more pass passes (number pass == n) refl once (one_has passes)

module _ {E A : Type 0} (by : E → ℕ) (f : E → Option A) where
  -- the entry itself
  found_here : (n : ℕ) (e : E) (es : List E) (x : A) → n ≡ by e → f e ≡ Some x → Contains (filter_map f (part_of by n (e ∷ es))) x
  found_here n e es x is says =
      subst (λ (b : Bool). Contains (filter_map f (cond b (e ∷ part_of by n es) (part_of by n es))) x) (sym (eq-eqb (by e) n (sym is)))
      (subst (λ (o : Option A). Contains (cons_option o (filter_map f (part_of by n es))) x) (sym says) (contains_here x (filter_map f (part_of by n es))))

  -- with one entry more
  found_there : (b : Bool) (e : E) (es : List E) (x : A) → Contains (filter_map f es) x → Contains (filter_map f (cond b (e ∷ es) es)) x
  found_there true e es x there = contains_more (f e) (filter_map f es) x there
  found_there false e es x there = there

  module _ {P : Type 0} (number : P → ℕ) (passes : List P) where
    abbrev IsFound : List E → A → Type 0
    IsFound es x = Any (λ pass. Contains (filter_map f (part_of by (number pass) es)) x) passes

    found_more : (e : E) (es : List E) (x : A) → having number (by e) passes ≡ 1 → (f e ≡ Some x) ⊎ Contains (filter_map f es) x → (Contains (filter_map f es) x → IsFound es x) → IsFound (e ∷ es) x
    found_more e es x once (inl says) rest =
        any_weaker (λ pass. number pass ≡ by e) (λ pass. Contains (filter_map f (part_of by (number pass) (e ∷ es))) x) passes
        (λ pass is. found_here (number pass) e es x is says) (one_has number (by e) passes once)
    found_more e es x once (inr there) rest =
        any_weaker (λ pass. Contains (filter_map f (part_of by (number pass) es)) x) (λ pass. Contains (filter_map f (part_of by (number pass) (e ∷ es))) x) passes
        (λ pass found. found_there (by e == number pass) e (part_of by (number pass) es) x found) (rest there)

    -- what an entry says stands among the entries of some pass
    pub found_in_part : (es : List E) → AllByRecursion (λ e. having number (by e) passes ≡ 1) es → (x : A) → Contains (filter_map f es) x → IsFound es x
    found_in_part [] once x (k, within, is) = absurd (omega (arith, within))
    found_in_part (e ∷ es) once x there = found_more e es x once.0 (contains_cases (f e) (filter_map f es) x there) (found_in_part es once.1 x)
