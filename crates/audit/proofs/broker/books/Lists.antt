-- The last item of a list, and what holds of the items behind others.
use Rattle.std.proofs.Common.{◌≡◌, List, [], ◌∷◌, ◌++◌, refl, sym, ap, ◌∙◌}
use Rattle.std.specs.List.{AllByRecursion, AllZip}

-- ---- the last item

tail_same : {X : Type 0} (x y : X) (xs ys : List X) → x ∷ xs ≡ y ∷ ys → xs ≡ ys
tail_same x y xs ys e = cc

head_same : {X : Type 0} (x y : X) (xs ys : List X) → x ∷ xs ≡ y ∷ ys → x ≡ y
head_same x y xs ys e = cc

none_behind : {X : Type 0} (xs : List X) (x : X) → [] ≡ xs ++ x ∷ [] → ⊥
none_behind [] x e = absurd cc
none_behind (y ∷ xs) x e = absurd cc

-- lists with one item behind are the same only where both parts are
pub push_same : {X : Type 0} (xs ys : List X) (x y : X) → xs ++ x ∷ [] ≡ ys ++ y ∷ [] → (xs ≡ ys) × (x ≡ y)
push_same [] [] x y e = (refl, cc)
push_same [] (z ∷ ys) x y e = absurd (none_behind ys y (tail_same x z [] (ys ++ y ∷ []) e))
push_same (z ∷ xs) [] x y e = absurd (none_behind xs x (sym (tail_same z y (xs ++ x ∷ []) [] e)))
push_same {X = X} (v ∷ xs) (z ∷ ys) x y e =
    let rest = push_same xs ys x y (tail_same v z (xs ++ x ∷ []) (ys ++ y ∷ []) e) in
    (ap (λ (w : X). w ∷ xs) (head_same v z (xs ++ x ∷ []) (ys ++ y ∷ []) e) ∙ ap (λ (ws : List X). z ∷ ws) rest.0, rest.1)

-- ---- all items

pub all_behind : {X : Type 0} (P : X → Type 0) (xs ys : List X) → AllByRecursion P (xs ++ ys) → AllByRecursion P ys
all_behind P [] ys all = all
all_behind P (x ∷ xs) ys all = all_behind P xs ys all.1

-- ---- two lists

pub zip_append : {X Y : Type 0} (R : X → Y → Type 0) (xs : List X) (ys : List Y) (vs : List X) (ws : List Y) → AllZip R xs ys → AllZip R vs ws → AllZip R (xs ++ vs) (ys ++ ws)
zip_append R [] [] vs ws a b = b
zip_append R [] (y ∷ ys) vs ws a b = absurd a
zip_append R (x ∷ xs) [] vs ws a b = absurd a
zip_append R (x ∷ xs) (y ∷ ys) vs ws a b = (a.0, zip_append R xs ys vs ws a.1 b)
