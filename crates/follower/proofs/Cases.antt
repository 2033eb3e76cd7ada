-- What holds of an answer in one of its cases.
use Rattle.std.proofs.Common.{◌≡◌, ℕ, Option, Some, None}
use Rattle.std.specs.Prelude.{IfNone, IfSome, OnSome}

pub if_none : {A : Type 0} (P Q : Type 0) (r : Option A) → (P → Q) → IfNone r P → IfNone r Q
if_none P Q None f h = f h
if_none P Q (Some x) f h = tt

pub if_some : (place : ℕ) (P : Type 0) (Q : ℕ → Type 0) (r : Option ℕ) → ((at : ℕ) → at ≡ place → P → Q at) → IfSome r (λ at. at ≡ place) → OnSome r P → IfSome r Q
if_some place P Q None f is h = tt
if_some place P Q (Some at) f is h = f at is h

pub if_some_on : {A : Type 0} (P Q : A → Type 0) (r : Option A) → ((x : A) → P x → Q x) → IfSome r P → IfSome r Q
if_some_on P Q None f h = tt
if_some_on P Q (Some x) f h = f x h
