-- What the sessions and the clock have of the lines, as one comes behind them.
use Rattle.std.proofs.Common.{◌≡◌, ◌∙◌, ◌||◌, ℕ, Bool, true, false, cond, List, [], ◌∷◌, ◌++◌, refl, sym, ap, subst}
use Rattle.std.specs.Prelude.{None, Option, Some}
use Rattle.std.specs.List.{list_any}
use Rattle.std.proofs.Math.Bool.{or-false}
use Rattle.std.proofs.lemmas.Bool.{eq-eqb, or_right}
use Rattle.std.proofs.lemmas.List.{append-nil}
use Rattle.std.proofs.lemmas.List.Concat.{flat_map-append}
use Rattle.std.proofs.lemmas.List.Folds.{list_any-append}
use Rattle.audit.specs.Histories.{ticks_of}
use Rattle.shared_broker.specs.Passes.{BrokerView, PassView}
use Rattle.trace_file.specs.Contents.{bytes_in, input_of, is_named, is_shut, names, rising_from, shuts}
use Rattle.trace_file.specs.declared.line.Line.{Line}
use Rattle.trace_file.specs.declared.line.Line.TheVariants.{Topic, Feed, Shut, Clock, End}
use Rattle.trace_workers.specs.Received.{HasReceived}
use Rattle.trace_workers.specs.Sessions.{IsSameSession, SessionView}
use Rattle.trace_workers.specs.Workers.{HasTaken, HasToldAll, IfClock}
use Rattle.trace_workers.proofs.Moments.{latest_from, rising_after}

-- ---- a line that doesn't name the session

no_bytes : (n : ℕ) (line : Line) → names n line ≡ false → bytes_in n line ≡ []
no_bytes n (Topic name partitions followers least) e = refl
no_bytes n (Feed s bytes) e = ap (λ (b : Bool). cond b bytes []) e
no_bytes n (Shut s) e = refl
no_bytes n (Clock t) e = refl
no_bytes n End e = refl

no_end : (n : ℕ) (line : Line) → names n line ≡ false → shuts n line ≡ false
no_end n (Topic name partitions followers least) e = refl
no_end n (Feed s bytes) e = refl
no_end n (Shut s) e = e
no_end n (Clock t) e = refl
no_end n End e = refl

input_with : (n : ℕ) (before : List Line) (line : Line) → input_of n (before ++ line ∷ []) ≡ input_of n before ++ bytes_in n line
input_with n before line =
    flat_map-append (bytes_in n) before (line ∷ []) ∙ ap (λ (bytes : List ℕ). input_of n before ++ bytes) (append-nil (bytes_in n line))

any_with : (p : Line → Bool) (before : List Line) (line : Line) → list_any p (before ++ line ∷ []) ≡ (list_any p before || p line)
any_with p before line = list_any-append p before (line ∷ []) ∙ ap (λ (b : Bool). list_any p before || b) (or-false (p line))

any_past : (p : Line → Bool) (before : List Line) (line : Line) → p line ≡ false → list_any p (before ++ line ∷ []) ≡ list_any p before
any_past p before line e =
    any_with p before line ∙ ap (λ (b : Bool). list_any p before || b) e ∙ or-false (list_any p before)

any_now : (p : Line → Bool) (before : List Line) (line : Line) → p line ≡ true → list_any p (before ++ line ∷ []) ≡ true
any_now p before line e = any_with p before line ∙ or_right (list_any p before) (p line) e

pub input_past : (n : ℕ) (before : List Line) (line : Line) → names n line ≡ false → input_of n (before ++ line ∷ []) ≡ input_of n before
input_past n before line e =
    input_with n before line ∙ ap (λ (bytes : List ℕ). input_of n before ++ bytes) (no_bytes n line e) ∙ append-nil (input_of n before)

pub taken_past : (broker : BrokerView) (before : List Line) (line : Line) (s : SessionView) → names s.number line ≡ false → HasTaken broker before s → HasTaken broker (before ++ line ∷ []) s
taken_past broker before line s e h = record {
  made = h.made;
  pass = h.pass;
  received = subst (λ (input : List ℕ). HasReceived input s) (sym (input_past s.number before line e)) h.received;
  shut = h.shut ∙ sym (any_past (shuts s.number) before line (no_end s.number line e));
  named = h.named ∙ sym (any_past (names s.number) before line e);
  ticked = h.ticked;
}

-- ---- a session goes on

pub taken_on : (broker : BrokerView) (lines : List Line) (s now : SessionView) → HasTaken broker lines s → IsSameSession s now → now.is_named ≡ s.is_named → now.is_shut ≡ s.is_shut
    → ((input : List ℕ) → HasReceived input s → HasReceived input now) → HasTaken broker lines now
taken_on broker lines s now h same named shut goes = record {
  made = same.made ∙ h.made;
  pass = same.pass ∙ h.pass ∙ sym same.number;
  received = subst (λ (n : ℕ). HasReceived (input_of n lines) now) (sym same.number) (goes (input_of s.number lines) h.received);
  shut = shut ∙ h.shut ∙ ap (λ (n : ℕ). is_shut n lines) (sym same.number);
  named = named ∙ h.named ∙ ap (λ (n : ℕ). is_named n lines) (sym same.number);
  ticked = same.ticked ∙ h.ticked;
}

-- a line brings it bytes
pub taken_fed : (broker : BrokerView) (before : List Line) (session : ℕ) (bytes : List ℕ) (s now : SessionView) → s.number ≡ session → HasTaken broker before s → IsSameSession s now
    → now.is_named ≡ true → now.is_shut ≡ false → is_shut session before ≡ false
    → ((input : List ℕ) → HasReceived input s → HasReceived (input ++ bytes) now) → HasTaken broker (before ++ Feed session bytes ∷ []) now
taken_fed broker before session bytes s now is h same named unshut was goes =
    let number : now.number ≡ session = same.number ∙ is in
    let line : Line = Feed session bytes in
    let input : input_of session (before ++ line ∷ []) ≡ input_of session before ++ bytes =
    input_with session before line ∙ ap (λ (b : Bool). input_of session before ++ cond b bytes []) (eq-eqb session session refl) in
    let came : HasReceived (input_of session before ++ bytes) now = subst (λ (n : ℕ). HasReceived (input_of n before ++ bytes) now) is (goes (input_of s.number before) h.received) in
    record {
      made = same.made ∙ h.made;
      pass = same.pass ∙ h.pass ∙ sym same.number;
      received = subst (λ (n : ℕ). HasReceived (input_of n (before ++ line ∷ [])) now) (sym number) (subst (λ (i : List ℕ). HasReceived i now) (sym input) came);
      shut = unshut ∙ sym was ∙ sym (any_past (shuts session) before line refl) ∙ ap (λ (n : ℕ). is_shut n (before ++ line ∷ [])) (sym number);
      named = named ∙ sym (any_now (names session) before line (eq-eqb session session refl)) ∙ ap (λ (n : ℕ). is_named n (before ++ line ∷ [])) (sym number);
      ticked = same.ticked ∙ h.ticked;
    }

-- a line ends its input
pub taken_shut : (broker : BrokerView) (before : List Line) (session : ℕ) (s now : SessionView) → s.number ≡ session → HasTaken broker before s → IsSameSession s now
    → now.is_named ≡ true → now.is_shut ≡ true → ((input : List ℕ) → HasReceived input s → HasReceived input now) → HasTaken broker (before ++ Shut session ∷ []) now
taken_shut broker before session s now is h same named shut goes =
    let number : now.number ≡ session = same.number ∙ is in
    let line : Line = Shut session in
    let input : input_of session (before ++ line ∷ []) ≡ input_of session before = input_with session before line ∙ append-nil (input_of session before) in
    let came : HasReceived (input_of session before) now = subst (λ (n : ℕ). HasReceived (input_of n before) now) is (goes (input_of s.number before) h.received) in
    record {
      made = same.made ∙ h.made;
      pass = same.pass ∙ h.pass ∙ sym same.number;
      received = subst (λ (n : ℕ). HasReceived (input_of n (before ++ line ∷ [])) now) (sym number) (subst (λ (i : List ℕ). HasReceived i now) (sym input) came);
      shut = shut ∙ sym (any_now (shuts session) before line (eq-eqb session session refl)) ∙ ap (λ (n : ℕ). is_shut n (before ++ line ∷ [])) (sym number);
      named = named ∙ sym (any_now (names session) before line (eq-eqb session session refl)) ∙ ap (λ (n : ℕ). is_named n (before ++ line ∷ [])) (sym number);
      ticked = same.ticked ∙ h.ticked;
    }

-- ---- the clock, as a line comes that tells no moment

abbrev pub TellsNothing : Line → Type 0
TellsNothing line = (m : ℕ) → rising_from m (line ∷ []) ≡ []

told_past : (broker : BrokerView) (before : List Line) (line : Line) (pass : PassView) → TellsNothing line → HasToldAll broker before pass → HasToldAll broker (before ++ line ∷ []) pass
told_past broker before line pass nothing h = record {
  made = h.made;
  ended = h.ended;
  going = h.going;
  waits = h.waits;
  told = λ (all : ticks_of pass.logs.clock ≡ pass.logs.ticked).
      h.told all
      ∙ sym (rising_after 0 before (line ∷ [])
      ∙ ap (λ (ts : List ℕ). rising_from 0 before ++ ts) (nothing (latest_from 0 before))
      ∙ append-nil (rising_from 0 before));
}

pub clock_past : (broker : BrokerView) (before : List Line) (line : Line) (clock : Option PassView) → TellsNothing line → IfClock (HasToldAll broker before) clock → IfClock (HasToldAll broker (before ++ line ∷ [])) clock
clock_past broker before line None nothing h = tt
clock_past broker before line (Some pass) nothing h = told_past broker before line pass nothing h
