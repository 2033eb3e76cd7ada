-- The keys of all passes at the close, and what the history has of each pass.
use Rattle.std.proofs.Common.{◌≡◌, ◌∙◌, ◌==◌, ℕ, ◌+◌, cond, List, [], ◌∷◌, ap, ap₂, length, refl, subst, sym, arith}
use Rattle.std.specs.Prelude.{All, count_by}
use Rattle.std.proofs.lemmas.List.Elements.{All-cons, All-head, All-nil, All-tail}
use Rattle.std.proofs.lemmas.List.Sums.{sum_by-cons}
use Rattle.turn_lock.specs.declared.lock.TurnLock.{TurnLock}
use Rattle.turn_lock.specs.declared.pass.TurnPass.{TurnPass}
use Rattle.turn_lock.specs.Locks.{IsReady, known, lock_id}
use Rattle.turn_lock.specs.Locks as locks
use Rattle.turn_lock.specs.OfPass.{of_pass}
use Rattle.turn_lock.specs.StartsWith.{StartsWith}
use Rattle.outside.specs.declared.shared.port.port_entry.PortEntry.{PortEntry}
use Rattle.outside.specs.shared.port.Desk.{Desk, name_of, words_of}
use Rattle.outside.specs.shared.port.Entries.{entered_by}
use Rattle.outside.specs.shared.port.Keys.{AreKeysOf, IsKeyOf, port_view}
use Rattle.outside.specs.shared.port.PortViews.{IsPassOf, PassView}

abbrev KeyOf : (P L : Type 0) → Type 0
KeyOf P L = TurnPass (Desk P L) (PortEntry L)

module _ {P L : Type 0} where
  pub keys_length : (passes : List (PassView L)) (keys : List (KeyOf P L)) → AreKeysOf passes keys → length keys ≡ length passes
  keys_length [] [] are = refl
  keys_length (p ∷ ps) (k ∷ ks) are = let rest = keys_length ps ks are.1 in omega (arith, rest)
  keys_length [] (k ∷ ks) are = absurd are
  keys_length (p ∷ ps) [] are = absurd are

  key_ready : (lock : TurnLock (Desk P L) (PortEntry L)) (pass : PassView L) (key : KeyOf P L) → IsPassOf (port_view lock) pass → IsKeyOf pass key → locks.IsPassOf name_of lock key × IsReady key
  key_ready lock pass key of_lock is = (
    (sym (ap (λ (p : PassView L). p.made) is.pass_is) ∙ of_lock.0, is.keeps.name_is ∙ ap words_of (sym (ap (λ (p : PassView L). p.terms) is.pass_is) ∙ of_lock.1)),
    is.keeps.ready,
  )

  -- they are of the lock, and have no turn out
  pub keys_ready : (lock : TurnLock (Desk P L) (PortEntry L)) (passes : List (PassView L)) (keys : List (KeyOf P L))
      → All (λ (pass : PassView L). IsPassOf (port_view lock) pass) passes → AreKeysOf passes keys → All (λ (key : KeyOf P L). locks.IsPassOf name_of lock key × IsReady key) keys
  keys_ready lock [] [] made are = All-nil (λ (key : KeyOf P L). locks.IsPassOf name_of lock key × IsReady key)
  keys_ready lock (p ∷ ps) (k ∷ ks) made are =
      All-cons (λ (key : KeyOf P L). locks.IsPassOf name_of lock key × IsReady key) k ks (key_ready lock p k (All-head (λ (pass : PassView L). IsPassOf (port_view lock) pass) p ps made) are.0)
      (keys_ready lock ps ks (All-tail (λ (pass : PassView L). IsPassOf (port_view lock) pass) p ps made) are.1)
  keys_ready lock [] (k ∷ ks) made are = absurd are
  keys_ready lock (p ∷ ps) [] made are = absurd are

  module _ (log : List (PortEntry L)) where
    abbrev Holds : KeyOf P L → Type 0
    Holds key = StartsWith log (known key).seen × (of_pass entered_by (known key).number log ≡ (known key).mine)

    -- the history begins with what each pass has seen
    pub all_seen : (passes : List (PassView L)) (keys : List (KeyOf P L)) → AreKeysOf passes keys → All Holds keys → All (λ (pass : PassView L). StartsWith log pass.seen) passes
    all_seen [] [] are each = All-nil (λ (pass : PassView L). StartsWith log pass.seen)
    all_seen (p ∷ ps) (k ∷ ks) are each =
        let here = All-head Holds k ks each in
        All-cons (λ (pass : PassView L). StartsWith log pass.seen) p ps (subst (λ (pass : PassView L). StartsWith log pass.seen) (sym are.0.pass_is) here.0) (all_seen ps ks are.1 (All-tail Holds k ks each))
    all_seen [] (k ∷ ks) are each = absurd are
    all_seen (p ∷ ps) [] are each = absurd are

    -- and has each pass's own entries
    pub all_own : (passes : List (PassView L)) (keys : List (KeyOf P L)) → AreKeysOf passes keys → All Holds keys → All (λ (pass : PassView L). of_pass entered_by pass.number log ≡ pass.own) passes
    all_own [] [] are each = All-nil (λ (pass : PassView L). of_pass entered_by pass.number log ≡ pass.own)
    all_own (p ∷ ps) (k ∷ ks) are each =
        let here = All-head Holds k ks each in
        let is = are.0 in
        let number : p.number ≡ (known k).number = ap (λ (pass : PassView L). pass.number) is.pass_is ∙ sym is.keeps.number_is in
        All-cons (λ (pass : PassView L). of_pass entered_by pass.number log ≡ pass.own) p ps
        (ap (λ (n : ℕ). of_pass entered_by n log) number ∙ here.1 ∙ sym (ap (λ (pass : PassView L). pass.own) is.pass_is)) (all_own ps ks are.1 (All-tail Holds k ks each))
    all_own [] (k ∷ ks) are each = absurd are
    all_own (p ∷ ps) [] are each = absurd are

  -- as many passes as keys have this number
  pub same_count : (number : ℕ) (passes : List (PassView L)) (keys : List (KeyOf P L)) → AreKeysOf passes keys
      → count_by (λ (pass : PassView L). pass.number == number) passes ≡ count_by (λ (key : KeyOf P L). (known key).number == number) keys
  same_count number [] [] are = refl
  same_count number (p ∷ ps) (k ∷ ks) are =
      let is = are.0 in
      let here : p.number ≡ (known k).number = ap (λ (pass : PassView L). pass.number) is.pass_is ∙ sym is.keeps.number_is in
      sum_by-cons (λ (pass : PassView L). cond (pass.number == number) 1 0) p ps ∙ ap₂ (λ (n : ℕ) (m : ℕ). cond (n == number) 1 0 + m) here (same_count number ps ks are.1)
      ∙ sym (sum_by-cons (λ (key : KeyOf P L). cond ((known key).number == number) 1 0) k ks)
  same_count number [] (k ∷ ks) are = absurd are
  same_count number (p ∷ ps) [] are = absurd are
