-- What the crates above may cite.
use Rattle.std.proofs.Common.{◌≡◌, ℕ, ◌+◌, ◌≤◌, List, ◌++◌, take, drop, Option, sym, ap, subst, ◌∙◌}
use Rattle.std.proofs.KnownBytes.{Appends-trans}
use Rattle.std.proofs.Math.Seq.{take-add}
use Rattle.std.proofs.lemmas.List.{take-take}
use Rattle.std.specs.Io.KnownBytes.{Appends}

-- a part that is written piece by piece: the next piece stands behind those before it
pub appends_on : (a b c : Option (List ℕ)) (part : List ℕ) (done n k : ℕ) → n ≤ k → Appends a b (take done part) → Appends b c (take n (take k (drop done part))) → Appends a c (take (done + n) part)
appends_on a b c part done n k le first second =
    let joined : take (done + n) part ≡ take done part ++ take n (take k (drop done part)) =
    take-add done n part ∙ ap (λ (xs : List ℕ). take done part ++ xs) (sym (take-take n k (drop done part) le)) in
    subst (λ (bytes : List ℕ). Appends a c bytes) (sym joined) (Appends-trans a b c (take done part) (take n (take k (drop done part))) first second)
