-- The calls that have a reply, as one more comes.
use Rattle.std.proofs.Common.{◌≡◌, true, false, cond, List, [], ◌∷◌, ◌++◌, ap, ◌∙◌, append-nil}
use Rattle.std.specs.List.{AllZip}
use Rattle.std.proofs.lemmas.List.Elements.{filter-append}
use Rattle.audit.specs.declared.account.Call.{Call}
use Rattle.audit.specs.Fits.{answered_of, is_answered}

pub answered_more : (calls : List Call) (call : Call) → is_answered call.how ≡ true → answered_of (calls ++ call ∷ []) ≡ answered_of calls ++ call ∷ []
answered_more calls call has =
    filter-append (λ (c : Call). is_answered c.how) calls (call ∷ []) ∙ ap (λ b. answered_of calls ++ cond b (call ∷ []) []) has

pub answered_same : (calls : List Call) (call : Call) → is_answered call.how ≡ false → answered_of (calls ++ call ∷ []) ≡ answered_of calls
answered_same calls call none =
    filter-append (λ (c : Call). is_answered c.how) calls (call ∷ []) ∙ ap (λ b. answered_of calls ++ cond b (call ∷ []) []) none ∙ append-nil (answered_of calls)

pub zip_push : {A B : Type 0} (R : A → B → Type 0) (xs : List A) (ys : List B) (x : A) (y : B) → AllZip R xs ys → R x y → AllZip R (xs ++ x ∷ []) (ys ++ y ∷ [])
zip_push R [] [] x y all one = (one, tt)
zip_push R [] (w ∷ ys) x y all one = absurd all
zip_push R (v ∷ xs) [] x y all one = absurd all
zip_push R (v ∷ xs) (w ∷ ys) x y all one = (all.0, zip_push R xs ys x y all.1 one)
