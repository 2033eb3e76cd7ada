-- No body is refused because memory ran out: that is no fault of a request.
use Rattle.std.proofs.Common.{◌≡◌, ℕ, List, length, subst, inl, inr}
use Rattle.kbytes.specs.Field.{fields}
use Rattle.kwire.specs.declared.frame.WireFault.{WireFault}
use Rattle.kwire.specs.declared.frame.WireFault.TheVariants.{NoMemory}
use Rattle.kwire.specs.Layouts.{Layout, End, ◌⨾◌, Many, IsFaultAt}
use Rattle.kwire.specs.Refusal.{IsRefused, NoHead, NoApi, NoVersion, NoField, MoreBytes, NamedTwice}

no_fault : (left : Layout) (named at : ℕ) (bytes : List ℕ) → IsFaultAt left named at bytes NoMemory → ⊥
no_fault End named at bytes fault = fault
no_fault (kind ⨾ next) named at bytes fault = let e = fault.1 in absurd cc
no_fault (Many kind things each next) named at bytes (inl fault) = let e = fault.1 in absurd cc
no_fault (Many kind things each next) named at bytes (inr many) = let e = many.told in absurd cc

pub refused_for : (body : List ℕ) (why : WireFault) → IsRefused body why → why ≡ NoMemory → ⊥
refused_for body why (NoHead first) e =
    no_fault first.left first.named (length (fields first.front)) first.rest (subst (λ (w : WireFault). IsFaultAt first.left first.named (length (fields first.front)) first.rest w) e first.fault)
refused_for body why (NoApi head none) e = absurd cc
refused_for body why (NoVersion head api key version other) e = absurd cc
refused_for body why (NoField api read head first) e =
    no_fault first.left first.named (length (fields first.front)) first.rest (subst (λ (w : WireFault). IsFaultAt first.left first.named (length (fields first.front)) first.rest w) e first.fault)
refused_for body why (MoreBytes api read head fs of rest some parts) e = absurd cc
refused_for body why (NamedTwice request spelled mention repeat) e = absurd cc
