-- The keys of all passes at the close, and what each pass was told.
use Rattle.std.proofs.Common.{◌≡◌, ◌∙◌, ◌≤◌, ℕ, List, [], ◌∷◌, ap, length, refl, sym, arith}
use Rattle.std.specs.Prelude.{All}
use Rattle.std.proofs.lemmas.List.Elements.{All-cons, All-head, All-nil, All-tail}
use Rattle.turn_lock.specs.declared.lock.TurnLock.{TurnLock}
use Rattle.turn_lock.specs.declared.pass.TurnPass.{TurnPass}
use Rattle.turn_lock.specs.Locks.{IsReady, known, lock_id}
use Rattle.turn_lock.specs.Locks as locks
use Rattle.turn_lock.specs.StartsWith.{StartsWith}
use Rattle.outside.specs.declared.shared.clock.told_moment.ToldMoment.{ToldMoment}
use Rattle.outside.specs.shared.clock.ClockViews.{PassView}
use Rattle.outside.specs.shared.clock.Desk.{Desk, nameless}
use Rattle.outside.specs.shared.clock.Keys.{AreKeysOf}
use Rattle.outside.specs.shared.clock.Moments.{greatest}
use Rattle.outside.proofs.shared.clock.Greatest.{greatest_seen}

module _ {C : Type 0} where
  pub keys_length : (passes : List PassView) (keys : List (TurnPass (Desk C) ToldMoment)) → AreKeysOf passes keys → length keys ≡ length passes
  keys_length [] [] are = refl
  keys_length (p ∷ ps) (k ∷ ks) are = let rest = keys_length ps ks are.1 in omega (arith, rest)
  keys_length [] (k ∷ ks) are = absurd are
  keys_length (p ∷ ps) [] are = absurd are

  -- they are of the lock, and have no turn out
  pub keys_ready : (lock : TurnLock (Desk C) ToldMoment) (passes : List PassView) (keys : List (TurnPass (Desk C) ToldMoment))
      → All (λ (pass : PassView). pass.made ≡ lock_id lock) passes → AreKeysOf passes keys → All (λ (key : TurnPass (Desk C) ToldMoment). locks.IsPassOf nameless lock key × IsReady key) keys
  keys_ready lock [] [] made are = All-nil (λ (key : TurnPass (Desk C) ToldMoment). locks.IsPassOf nameless lock key × IsReady key)
  keys_ready lock (p ∷ ps) (k ∷ ks) made are =
      let here = are.0 in
      All-cons (λ (key : TurnPass (Desk C) ToldMoment). locks.IsPassOf nameless lock key × IsReady key) k ks ((sym (ap (λ (pass : PassView). pass.made) here.pass_is) ∙ All-head (λ (pass : PassView). pass.made ≡ lock_id lock) p ps made, here.keeps.name_is), here.keeps.ready)
      (keys_ready lock ps ks (All-tail (λ (pass : PassView). pass.made ≡ lock_id lock) p ps made) are.1)
  keys_ready lock [] (k ∷ ks) made are = absurd are
  keys_ready lock (p ∷ ps) [] made are = absurd are

  -- no pass was told a moment above the greatest of the history
  pub told_below : (own : TurnPass (Desk C) ToldMoment → Type 0) (log : List ToldMoment) (moment : ℕ) → greatest log ≤ moment → (passes : List PassView) (keys : List (TurnPass (Desk C) ToldMoment)) → AreKeysOf passes keys
      → All (λ (key : TurnPass (Desk C) ToldMoment). StartsWith log (known key).seen × own key) keys → All (λ (pass : PassView). pass.told ≤ moment) passes
  told_below own log moment last [] [] are starts = All-nil (λ (pass : PassView). pass.told ≤ moment)
  told_below own log moment last (p ∷ ps) (k ∷ ks) are starts =
      let here = are.0 in
      let told = ap (λ (pass : PassView). pass.told) here.pass_is in
      let seen = greatest_seen log (known k).seen (All-head (λ (key : TurnPass (Desk C) ToldMoment). StartsWith log (known key).seen × own key) k ks starts).0 in
      All-cons (λ (pass : PassView). pass.told ≤ moment) p ps (omega (arith, told, here.keeps.told_is, seen, last)) (told_below own log moment last ps ks are.1 (All-tail (λ (key : TurnPass (Desk C) ToldMoment). StartsWith log (known key).seen × own key) k ks starts))
  told_below own log moment last [] (k ∷ ks) are starts = absurd are
  told_below own log moment last (p ∷ ps) [] are starts = absurd are
