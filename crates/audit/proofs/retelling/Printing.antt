-- The account of a trace's run may be printed: no session was refused because memory ran out, and no two sessions have one number.
use Rattle.std.proofs.Common.{◌≡◌, ◌≢◌, ℕ, zero, suc, ◌+◌, ◌<◌, ◌≤◌, ◌⊎◌, Bool, true, false, List, [], ◌∷◌, length, drop, Option, Some, refl, sym, ap, subst, ◌∙◌, arith, inl, inr, MatchBool}
use Rattle.std.specs.Prelude.{All, AllPairs, slice_get}
use Rattle.std.specs.List.{AllByRecursion, flat_map}
use Rattle.std.proofs.lemmas.List.Kept.{AllPairs-cons}
use Rattle.audit.specs.declared.account.Account.{Account}
use Rattle.audit.specs.declared.account.SessionEnd.{SessionEnd}
use Rattle.audit.specs.declared.account.SessionEnd.TheVariants.{Refused}
use Rattle.audit.specs.declared.account.Transcript.{Transcript}
use Rattle.audit.specs.Fits.{EndFits}
use Rattle.audit.specs.IsLawful.{IsLawful}
use Rattle.audit.specs.Printable.{IsPrintable}
use Rattle.audit.specs.Printed.{transcripts_of}
use Rattle.audit.specs.RunOf.{IsRunOf, IsSessionOf}
use Rattle.kwire.specs.declared.frame.WireFault.TheVariants.{NoMemory}
use Rattle.kwire.proofs.Laws.{refused_for}
use Rattle.trace_file.specs.declared.line.Line.{Line}
use Rattle.trace_file.specs.Contents.{is_named, is_shut, sessions_of}

-- ---- the transcripts

-- a pass holds one transcript, of its number and with this property, or none
abbrev AreNumbered : (Transcript → Type 0) → ℕ → List (List Transcript) → Type 0
AreNumbered P n [] = Unit {0}
AreNumbered P n ([] ∷ passes) = AreNumbered P (n + 1) passes
AreNumbered P n ((t ∷ []) ∷ passes) = (t.number ≡ n) × P t × AreNumbered P (n + 1) passes
AreNumbered P n ((t ∷ u ∷ ts) ∷ passes) = ⊥

abbrev HoldsOne : (Transcript → Type 0) → ℕ → List (List Transcript) → ℕ → Type 0
HoldsOne P n passes i = (slice_get passes i ≡ Some []) ⊎ ((t : Transcript) × (slice_get passes i ≡ Some (t ∷ [])) × (t.number ≡ n + i) × P t)

numbered : (P : Transcript → Type 0) (n : ℕ) (passes : List (List Transcript)) → ((i : ℕ) → i < length passes → HoldsOne P n passes i) → AreNumbered P n passes
numbered P n [] each = tt
numbered P n (pass ∷ passes) each =
    let later : AreNumbered P (n + 1) passes = numbered P (n + 1) passes (λ i lt. shifted i (each (suc i) (omega (arith, lt)))) in
    by_pass pass (each 0 (omega arith)) later
  where
    shifted : (i : ℕ) → HoldsOne P n (pass ∷ passes) (suc i) → HoldsOne P (n + 1) passes i
    shifted i (inl none) = inl none
    shifted i (inr one) = inr (one.0, one.1, omega (arith, one.2), one.3)

    by_pass : (first : List Transcript) → HoldsOne P n (first ∷ passes) 0 → AreNumbered P (n + 1) passes → AreNumbered P n (first ∷ passes)
    by_pass [] holds later = later
    by_pass (t ∷ []) (inl none) later = absurd cc
    by_pass (t ∷ []) (inr one) later =
        let is : t ≡ one.0 = let e = one.1 in cc in
        (ap (λ (x : Transcript). x.number) is ∙ omega (arith, one.2), subst P (sym is) one.3, later)
    by_pass (t ∷ u ∷ ts) (inl none) later = absurd cc
    by_pass (t ∷ u ∷ ts) (inr one) later = let e = one.1 in absurd cc

all_so : (P : Transcript → Type 0) (n : ℕ) (passes : List (List Transcript)) → AreNumbered P n passes → AllByRecursion P (flat_map (λ ts. ts) passes)
all_so P n [] are = tt
all_so P n ([] ∷ passes) are = all_so P (n + 1) passes are
all_so P n ((t ∷ []) ∷ passes) are = (are.1, all_so P (n + 1) passes are.2)
all_so P n ((t ∷ u ∷ ts) ∷ passes) are = absurd are

none_below : (P : Transcript → Type 0) (m n : ℕ) (passes : List (List Transcript)) → m < n → AreNumbered P n passes → AllByRecursion (λ t. m ≢ t.number) (flat_map (λ ts. ts) passes)
none_below P m n [] lt are = tt
none_below P m n ([] ∷ passes) lt are = none_below P m (n + 1) passes (omega (arith, lt)) are
none_below P m n ((t ∷ []) ∷ passes) lt are = ((λ e. omega (arith, lt, e, are.0)), none_below P m (n + 1) passes (omega (arith, lt)) are.2)
none_below P m n ((t ∷ u ∷ ts) ∷ passes) lt are = absurd are

by_place : {X : Type 0} (P : X → Type 0) (xs : List X) → AllByRecursion P xs → All P xs
by_place P [] all k d lt = absurd (omega (arith, lt))
by_place P (x ∷ xs) all zero d lt = all.0
by_place P (x ∷ xs) all (suc k) d lt = by_place P xs all.1 k d (omega (arith, lt))

once : (P : Transcript → Type 0) (n : ℕ) (passes : List (List Transcript)) → AreNumbered P n passes → AllPairs (λ a b. a.number ≢ b.number) (flat_map (λ ts. ts) passes)
once P n [] are = λ i j d before within. absurd (omega (arith, within))
once P n ([] ∷ passes) are = once P (n + 1) passes are
once P n ((t ∷ []) ∷ passes) are =
    let rest = flat_map (λ (ts : List Transcript). ts) passes in
    let later : AllByRecursion (λ (u : Transcript). t.number ≢ u.number) rest = none_below P t.number (n + 1) passes (omega (arith, are.0)) are.2 in
    AllPairs-cons (λ (a b : Transcript). a.number ≢ b.number) t rest (by_place (λ (u : Transcript). t.number ≢ u.number) rest later) (once P (n + 1) passes are.2)
once P n ((t ∷ u ∷ ts) ∷ passes) are = absurd are

-- ---- the passes of a run

-- those behind the sessions have no transcript
abbrev AreBare : List (List Transcript) → Type 0
AreBare further = AllByRecursion (λ ts. ts ≡ []) further

bare_at : (passes further : List (List Transcript)) (n i : ℕ) → drop n passes ≡ further → AreBare further → n ≤ i → i < length passes → slice_get passes i ≡ Some []
bare_at [] further n i behind bare le lt = absurd (omega (arith, lt))
bare_at (pass ∷ passes) further zero i behind bare le lt = get (pass ∷ passes) i (subst AreBare (sym behind) bare) lt
  where
    get : (ps : List (List Transcript)) (k : ℕ) → AreBare ps → k < length ps → slice_get ps k ≡ Some []
    get [] k all within = absurd (omega (arith, within))
    get (p ∷ ps) zero all within = ap Some all.0
    get (p ∷ ps) (suc k) all within = get ps k all.1 (omega (arith, within))
bare_at (pass ∷ passes) further (suc n) zero behind bare le lt = absurd (omega (arith, le))
bare_at (pass ∷ passes) further (suc n) (suc i) behind bare le lt = bare_at passes further n i behind bare (omega (arith, le)) (omega (arith, lt))

named_holds : (P : Transcript → Type 0) (lines : List Line) (account : Account) (session : ℕ) (b : Bool) → is_named session lines ≡ b
    → (is_named session lines ≡ true → (of : IsSessionOf lines account session) → P of.transcript)
    → MatchBool b (IsSessionOf lines account session) (slice_get account.passes session ≡ Some []) → HoldsOne P 0 account.passes session
named_holds P lines account session true named so of = inr (of.transcript, of.alone, omega (arith, of.number), so named of)
named_holds P lines account session false named so none = inl none

-- each pass of a run has the transcript of its number, with a property that those of named sessions have, or none
numbered_run : (P : Transcript → Type 0) (lines : List Line) (port : ℕ) (further : List (List Transcript)) (added : List ℕ) (account : Account) → IsRunOf lines port further added account → AreBare further
    → ((session : ℕ) → is_named session lines ≡ true → (of : IsSessionOf lines account session) → P of.transcript) → AreNumbered P 0 account.passes
numbered_run P lines port further added account run bare so =
    numbered P 0 account.passes (λ i lt. elim (either_side i (sessions_of lines)) [
      | inl below ↦ named_holds P lines account i (is_named i lines) refl (so i) (run.sessions i below)
      | inr past ↦ inl (bare_at account.passes further (sessions_of lines) i run.behind bare past lt)
    ])
  where
    either_side : (i n : ℕ) → (i < n) ⊎ (n ≤ i)
    either_side zero zero = inr (omega arith)
    either_side zero (suc n) = inl (omega arith)
    either_side (suc i) zero = inr (omega arith)
    either_side (suc i) (suc n) = elim (either_side i n) [ inl lt ↦ inl (omega (arith, lt)) | inr le ↦ inr (omega (arith, le)) ]

-- ---- the account

abbrev IsTold : Transcript → Type 0
IsTold t = t.end ≢ Some (Refused NoMemory)

session_told : (lines : List Line) (account : Account) (session : ℕ) (of : IsSessionOf lines account session) → IsTold of.transcript
session_told lines account session of e =
    let refused = subst (λ (end : Option SessionEnd). EndFits of.fits.rest (is_shut session lines) of.transcript end) e of.fits.end in
    refused_for refused.0 NoMemory refused.4 refl

-- the account of a run is such as may be printed, where the passes behind its sessions have no transcript
pub printable : (lines : List Line) (port : ℕ) (further : List (List Transcript)) (added : List ℕ) (account : Account) → IsLawful account → IsRunOf lines port further added account
    → AreBare further → IsPrintable account
printable lines port further added account lawful run bare =
    let each = numbered_run IsTold lines port further added account run bare (λ session named of. session_told lines account session of) in record {
      lawful = lawful;
      told = all_so IsTold 0 account.passes each;
      once = once IsTold 0 account.passes each;
    }

-- and its sessions have numbers below this, as those of a trace have
pub numbers_below : (most : ℕ) (lines : List Line) (port : ℕ) (further : List (List Transcript)) (added : List ℕ) (account : Account) → IsRunOf lines port further added account → AreBare further
    → ((session : ℕ) → is_named session lines ≡ true → session < most) → AllByRecursion (λ t. t.number < most) (transcripts_of account)
numbers_below most lines port further added account run bare few =
    all_so (λ t. t.number < most) 0 account.passes (numbered_run (λ t. t.number < most) lines port further added account run bare
    (λ session named of. omega (arith, of.number, few session named)))
