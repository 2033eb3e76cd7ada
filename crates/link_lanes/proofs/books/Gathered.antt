-- The transcripts of the account are those of the books, one lane's after the other's.
use Rattle.std.proofs.Common.{◌≡◌, ℕ, zero, suc, ◌+◌, Bool, List, [], ◌∷◌, ◌++◌, Option, Some, None, IsSome, Any, Contains, length, map, slice_get, refl, sym, ap, subst, ◌∙◌, arith, append-nil, append_assoc, length-append}
use Rattle.std.specs.List.{AllByRecursion, AllZip}
use Rattle.std.specs.Prelude.{option_to_list}
use Rattle.audit.specs.declared.account.SessionEnd.{SessionEnd}
use Rattle.audit.specs.declared.account.Transcript.{Transcript}
use Rattle.kbytes.proofs.Laws.{get_seam, some_is}
use Rattle.audit.specs.broker.books.Told.{last_is_cut, told, told_end}

-- ---- a list by its places

-- the k-th item of the second list is what f makes of the k-th item of the first
abbrev pub AreMadeOf : {A B : Type 0} → (A → B) → ℕ → List A → List B → Type 0
AreMadeOf f k [] ys = Unit {0}
AreMadeOf f k (x ∷ xs) ys = (slice_get ys k ≡ Some (f x)) × AreMadeOf f (k + 1) xs ys

pub made_of : {A B : Type 0} (f : A → B) (front : List B) (xs : List A) (ys : List B) → length ys ≡ length xs → AreMadeOf f (length front) xs (front ++ ys) → ys ≡ map f xs
made_of f front [] [] size made = refl
made_of f front [] (y ∷ ys) size made = absurd (omega (arith, size))
made_of f front (x ∷ xs) [] size made = absurd (omega (arith, size))
made_of {A} {B} f front (x ∷ xs) (y ∷ ys) size made =
    let here : y ≡ f x = some_is y (f x) (sym (get_seam front ys y) ∙ made.0) in
    let moved : AreMadeOf f (length (front ++ y ∷ [])) xs ((front ++ y ∷ []) ++ ys) =
    subst (λ (all : List B). AreMadeOf f (length (front ++ y ∷ [])) xs all) (sym (append_assoc front (y ∷ []) ys))
    (subst (λ (k : ℕ). AreMadeOf f k xs (front ++ y ∷ ys)) (omega (arith, length-append front (y ∷ []))) made.1) in
    ap (λ (z : B). z ∷ ys) here ∙ ap (λ (zs : List B). f x ∷ zs) (made_of f (front ++ y ∷ []) xs ys (omega (arith, size)) moved)

-- ---- a transcript with an end is told as it is

end_same : (cut : Bool) (end : Option SessionEnd) → IsSome end → told_end cut end ≡ end
end_same cut None some = absurd cc
end_same cut (Some end) some = refl

pub told_same : (t : Transcript) → IsSome t.end → told t ≡ t
told_same t some = ap (λ end. record t { end = end }) (end_same (last_is_cut t.calls) t.end some)

pub all_told_same : (ts : List Transcript) → AllByRecursion (λ (t : Transcript). IsSome t.end) ts → map told ts ≡ ts
all_told_same [] all = refl
all_told_same (t ∷ ts) all = ap (λ (u : Transcript). u ∷ map told ts) (told_same t all.0) ∙ ap (λ (us : List Transcript). t ∷ us) (all_told_same ts all.1)

-- what a pass has without an open transcript
pub none_open : (ended : List Transcript) (going : Option Transcript) → going ≡ None → ended ++ option_to_list going ≡ ended
none_open ended going none = ap (λ (g : Option Transcript). ended ++ option_to_list g) none ∙ append-nil ended

-- ---- something of some list

module _ {A : Type 0} (P : A → Type 0) where
  pub any_here : (x : A) (xs : List A) → P x → Any P (x ∷ xs)
  any_here x xs holds = (zero, x, omega arith, refl, holds)

  pub any_there : (x : A) (xs : List A) → Any P xs → Any P (x ∷ xs)
  any_there x xs any = (suc any.0, any.1, omega (arith, any.2), any.3, any.4)

  pub any_left : (xs ys : List A) → Any P xs → Any P (xs ++ ys)
  any_left [] ys any = absurd (omega (arith, any.2))
  any_left (x ∷ xs) ys (zero, y, within, is, holds) = any_here x (xs ++ ys) (subst P (sym is) holds)
  any_left (x ∷ xs) ys (suc k, y, within, is, holds) = any_there x (xs ++ ys) (any_left xs ys (k, y, omega (arith, within), is, holds))

  pub any_right : (xs ys : List A) → Any P ys → Any P (xs ++ ys)
  any_right [] ys any = any
  any_right (x ∷ xs) ys any = any_there x (xs ++ ys) (any_right xs ys any)

-- an item of the first list has its item of the second
pub zip_found : {A B : Type 0} (R : A → B → Type 0) (xs : List A) (ys : List B) (x : A) → AllZip R xs ys → Contains xs x → Any (R x) ys
zip_found R [] [] x all (k, within, is) = absurd (omega (arith, within))
zip_found R [] (y ∷ ys) x all found = absurd all
zip_found R (w ∷ xs) [] x all found = absurd all
zip_found {A} {B} R (w ∷ xs) (y ∷ ys) x all (zero, within, is) = any_here (R x) y ys (subst (λ (a : A). R a y) is all.0)
zip_found R (w ∷ xs) (y ∷ ys) x all (suc k, within, is) = any_there (R x) y ys (zip_found R xs ys x all.1 (k, omega (arith, within), is))

-- each item of the second list fits one of the first
pub zip_all : {A B : Type 0} (R : A → B → Type 0) (P : B → Type 0) (xs : List A) (ys : List B) → ((x : A) (y : B) → R x y → P y) → AllZip R xs ys → AllByRecursion P ys
zip_all R P [] [] f all = tt
zip_all R P [] (y ∷ ys) f all = absurd all
zip_all R P (x ∷ xs) [] f all = absurd all
zip_all R P (x ∷ xs) (y ∷ ys) f all = (f x y all.0, zip_all R P xs ys f all.1)

-- and the numbers of both are the same
pub zip_numbers : {A B : Type 0} (R : A → B → Type 0) (f : A → ℕ) (g : B → ℕ) (xs : List A) (ys : List B) → ((x : A) (y : B) → R x y → g y ≡ f x) → AllZip R xs ys → map g ys ≡ map f xs
zip_numbers R f g [] [] same all = refl
zip_numbers R f g [] (y ∷ ys) same all = absurd all
zip_numbers R f g (x ∷ xs) [] same all = absurd all
zip_numbers R f g (x ∷ xs) (y ∷ ys) same all =
    ap (λ (n : ℕ). n ∷ map g ys) (same x y all.0) ∙ ap (λ (ns : List ℕ). f x ∷ ns) (zip_numbers R f g xs ys same all.1)
