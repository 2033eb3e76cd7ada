-- What flowed over a link, over one call and over two.
use Rattle.std.proofs.Common.{◌≡◌, ◌≤◌, List, [], ◌++◌, Option, ℕ, sym, subst, arith, append-nil}
use Rattle.std.proofs.KnownBytes.{Appends-nil, Appends-trans, Appends-kept, Consumes-nil, Consumes-trans, Consumes-kept}
use Rattle.std.specs.Io.KnownBytes.{Appends, Consumes, Keeps}
use Rattle.follower.specs.Flows.{HasFlowed, LinkView}

pub flowed_none : (v : LinkView) → HasFlowed [] [] v v
flowed_none v = record { taken = Appends-nil v.taken; left = Consumes-nil v.left; written = Appends-nil v.written; later = omega arith }

pub flowed_on : (came more went further : List ℕ) (a b c : LinkView) → HasFlowed came went a b → HasFlowed more further b c → HasFlowed (came ++ more) (went ++ further) a c
flowed_on came more went further a b c f g = record {
  taken = Appends-trans a.taken b.taken c.taken came more f.taken g.taken;
  left = Consumes-trans a.left b.left c.left came more f.left g.left;
  written = Appends-trans a.written b.written c.written went further f.written g.written;
  later = omega (arith, f.later, g.later);
}

same_appends : (a b : Option (List ℕ)) → b ≡ a → Appends a b []
same_appends a b same = subst (λ (x : Option (List ℕ)). Appends a x []) (sym same) (Appends-nil a)

same_consumes : (a b : Option (List ℕ)) → b ≡ a → Consumes a b []
same_consumes a b same = subst (λ (x : Option (List ℕ)). Consumes a x []) (sym same) (Consumes-nil a)

-- more was written, or read
pub flowed_out : (came went further : List ℕ) (a b c : LinkView) → HasFlowed came went a b → HasFlowed [] further b c → HasFlowed came (went ++ further) a c
flowed_out came went further a b c f g = subst (λ (x : List ℕ). HasFlowed x (went ++ further) a c) (append-nil came) (flowed_on came [] went further a b c f g)

pub flowed_in : (came more went : List ℕ) (a b c : LinkView) → HasFlowed came went a b → HasFlowed more [] b c → HasFlowed (came ++ more) went a c
flowed_in came more went a b c f g = subst (λ (x : List ℕ). HasFlowed (came ++ more) x a c) (append-nil went) (flowed_on came more went [] a b c f g)

-- ---- a write

pub wrote : (a b : LinkView) (bytes : List ℕ) → b.taken ≡ a.taken → b.left ≡ a.left → Appends a.written b.written bytes → a.faults ≤ b.faults → HasFlowed [] bytes a b
wrote a b bytes taken left written later = record { taken = same_appends a.taken b.taken taken; left = same_consumes a.left b.left left; written = written; later = later }

-- ---- a read

pub read_some : (a b : LinkView) (bytes : List ℕ) → Appends a.taken b.taken bytes → Consumes a.left b.left bytes → b.written ≡ a.written → a.faults ≤ b.faults → HasFlowed bytes [] a b
read_some a b bytes taken left written later = record { taken = taken; left = left; written = same_appends a.written b.written written; later = later }

-- known bytes that are kept grow by none and lose none
pub kept_appends : (a b : Option (List ℕ)) → Keeps a b → Appends a b []
kept_appends a b kept = Appends-kept a a b [] (Appends-nil a) kept

pub kept_consumes : (a b : Option (List ℕ)) → Keeps a b → Consumes a b []
kept_consumes a b kept = Consumes-kept a a b [] (Consumes-nil a) kept
