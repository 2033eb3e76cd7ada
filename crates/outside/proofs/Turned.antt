-- A list that is taken from its end, item by item, onto the end of another, which has it back to front.
use Rattle.std.proofs.Common.{◌≡◌, List, [], ◌∷◌, ◌++◌, reverse, refl, sym, ap, ◌∙◌, append_assoc, arith}
use Rattle.std.proofs.lemmas.List.{reverse-append}
use Rattle.std.proofs.lemmas.Grind.{common_steps}

-- where the whole is empty, so is its front
pub front_empty : {A : Type 0} (xs ys : List A) → xs ++ ys ≡ [] → xs ≡ []
front_empty [] ys none = refl
front_empty (x ∷ xs) ys none = grind (arith, common_steps, none)

-- one item is moved: what is left and what was moved are still the whole
pub moved : {A : Type 0} (before left turned new whole : List A) (x : A)
    → before ≡ left ++ x ∷ [] → new ≡ turned ++ x ∷ [] → before ++ reverse turned ≡ whole → left ++ reverse new ≡ whole
moved before left turned new whole x popped pushed all =
    ap (λ l. left ++ reverse l) pushed ∙ ap (λ l. left ++ l) (reverse-append turned (x ∷ []))
    ∙ sym (append_assoc left (x ∷ []) (reverse turned)) ∙ ap (λ l. l ++ reverse turned) (sym popped) ∙ all
