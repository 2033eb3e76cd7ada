-- What flowed over a link, over one call and over two.
use Rattle.std.proofs.Common.{◌≡◌, ℕ, ◌≤◌, List, [], ◌++◌, Option, is_some, refl, sym, ap, subst, ◌∙◌, arith, append-nil}
use Rattle.std.proofs.KnownBytes.{Appends-nil, Appends-trans, Appends-kept, Consumes-nil, Consumes-trans, Consumes-kept}
use Rattle.std.specs.Io.KnownBytes.{Appends, Consumes, Keeps}
use Rattle.outside.specs.Alike.{ShowsAlike}
use Rattle.session.specs.Flows.{HasFlowed, IsShownAlike, LinkView}

-- what it shows

alike_self : (v : LinkView) → IsShownAlike v v
alike_self v = record { taken = refl; left = refl; written = refl }

alike_on : (a b c : LinkView) → IsShownAlike a b → IsShownAlike b c → IsShownAlike a c
alike_on a b c f g = record { taken = g.taken ∙ f.taken; left = g.left ∙ f.left; written = g.written ∙ f.written }

same_alike : (a b : Option (List ℕ)) → b ≡ a → ShowsAlike a b
same_alike a b same = ap (λ (x : Option (List ℕ)). is_some x) same

-- what flowed

pub flowed_none : (v : LinkView) → HasFlowed [] [] v v
flowed_none v = record { taken = Appends-nil v.taken; left = Consumes-nil v.left; written = Appends-nil v.written; later = omega arith; alike = alike_self v }

pub flowed_on : (came more went further : List ℕ) (a b c : LinkView) → HasFlowed came went a b → HasFlowed more further b c → HasFlowed (came ++ more) (went ++ further) a c
flowed_on came more went further a b c f g = record {
  taken = Appends-trans a.taken b.taken c.taken came more f.taken g.taken;
  left = Consumes-trans a.left b.left c.left came more f.left g.left;
  written = Appends-trans a.written b.written c.written went further f.written g.written;
  later = omega (arith, f.later, g.later);
  alike = alike_on a b c f.alike g.alike;
}

same_appends : (a b : Option (List ℕ)) → b ≡ a → Appends a b []
same_appends a b same = subst (λ (x : Option (List ℕ)). Appends a x []) (sym same) (Appends-nil a)

same_consumes : (a b : Option (List ℕ)) → b ≡ a → Consumes a b []
same_consumes a b same = subst (λ (x : Option (List ℕ)). Consumes a x []) (sym same) (Consumes-nil a)

-- more was written, or read
pub flowed_out : (came went further : List ℕ) (a b c : LinkView) → HasFlowed came went a b → HasFlowed [] further b c → HasFlowed came (went ++ further) a c
flowed_out came went further a b c f g = subst (λ (x : List ℕ). HasFlowed x (went ++ further) a c) (append-nil came) (flowed_on came [] went further a b c f g)

pub flowed_in : (came more went : List ℕ) (a b c : LinkView) → HasFlowed came went a b → HasFlowed more [] b c → HasFlowed (came ++ more) went a c
flowed_in came more went a b c f g = subst (λ (x : List ℕ). HasFlowed (came ++ more) x a c) (append-nil went) (flowed_on came more went [] a b c f g)

pub flowed_still : (came went : List ℕ) (a b c : LinkView) → HasFlowed came went a b → HasFlowed [] [] b c → HasFlowed came went a c
flowed_still came went a b c f g = subst (λ (x : List ℕ). HasFlowed came x a c) (append-nil went) (flowed_out came went [] a b c f g)

-- ---- a write

pub wrote : (a b : LinkView) (bytes : List ℕ) → b.taken ≡ a.taken → b.left ≡ a.left → Appends a.written b.written bytes → ShowsAlike a.written b.written → a.faults ≤ b.faults
    → HasFlowed [] bytes a b
wrote a b bytes taken left written shown later = record {
  taken = same_appends a.taken b.taken taken;
  left = same_consumes a.left b.left left;
  written = written;
  later = later;
  alike = record { taken = same_alike a.taken b.taken taken; left = same_alike a.left b.left left; written = shown };
}

-- it was shut, and nothing else changed
pub shut_still : (a b : LinkView) → b.taken ≡ a.taken → b.left ≡ a.left → b.written ≡ a.written → b.faults ≡ a.faults → HasFlowed [] [] a b
shut_still a b taken left written faults = wrote a b [] taken left (same_appends a.written b.written written) (same_alike a.written b.written written) (omega (arith, faults))

-- ---- a read

pub read_some : (a b : LinkView) (bytes : List ℕ) → Appends a.taken b.taken bytes → Consumes a.left b.left bytes → ShowsAlike a.taken b.taken → ShowsAlike a.left b.left
    → b.written ≡ a.written → a.faults ≤ b.faults → HasFlowed bytes [] a b
read_some a b bytes taken left taken_told left_told written later = record {
  taken = taken;
  left = left;
  written = same_appends a.written b.written written;
  later = later;
  alike = record { taken = taken_told; left = left_told; written = same_alike a.written b.written written };
}

-- known bytes that are kept grow by none and lose none
pub kept_appends : (a b : Option (List ℕ)) → Keeps a b → Appends a b []
kept_appends a b kept = Appends-kept a a b [] (Appends-nil a) kept

pub kept_consumes : (a b : Option (List ℕ)) → Keeps a b → Consumes a b []
kept_consumes a b kept = Consumes-kept a a b [] (Consumes-nil a) kept
