-- The passes of a new clock and the keys that they have.
use Rattle.std.proofs.Common.{◌≡◌, ◌∙◌, ℕ, suc, ◌+◌, List, [], ◌∷◌, ◌++◌, Option, Some, ap, refl, subst, sym, arith}
use Rattle.std.specs.Prelude.{slice_get}
use Rattle.atomic_table.specs.Seated.{TableId}
use Rattle.turn_lock.specs.declared.known.Known.{Known}
use Rattle.turn_lock.specs.declared.known.Stage.TheVariants.{Idle}
use Rattle.turn_lock.specs.declared.pass.TurnPass.{TurnPass}
use Rattle.turn_lock.specs.Locks.{AreFresh}
use Rattle.turn_lock.specs.Passes.{at_stage, fresh, known_of}
use Rattle.outside.specs.declared.shared.clock.told_moment.ToldMoment.{ToldMoment}
use Rattle.outside.specs.shared.clock.ClockViews.{PassView}
use Rattle.outside.specs.shared.clock.Desk.{Desk}
use Rattle.outside.specs.shared.clock.Fresh.{fresh_pass}
use Rattle.outside.specs.shared.clock.Keys.{AreFreshFrom, AreKeysOf, IsClockPass, IsKeyOf, pass_view}

module _ {C : Type 0} where
  -- a pass with a new key
  pub new_pass : (number : ℕ) (key : TurnPass (Desk C) ToldMoment) → key.seat.me ≡ (fresh [] number ∷ [], []) → IsClockPass number key 0
  new_pass number key me =
      let Mine : Type 0 = List (Known ToldMoment) × List (ℕ × Option (Desk C)) in
      record {
        ready = subst (λ (m : Mine). m ≡ (at_stage Idle (known_of m.0) ∷ [], [])) (sym me) refl;
        number_is = ap (λ (m : Mine). (known_of m.0).number) me;
        name_is = ap (λ (m : Mine). (known_of m.0).name) me;
        told_is = omega arith;
      }

  pub new_view : (id : TableId) (number : ℕ) (key : TurnPass (Desk C) ToldMoment) → key.seat.table_id ≡ id → key.seat.me ≡ (fresh [] number ∷ [], []) → pass_view number key 0 ≡ fresh_pass id number
  new_view id number key there me =
      let Mine : Type 0 = List (Known ToldMoment) × List (ℕ × Option (Desk C)) in
      let seen = ap (λ (m : Mine). (known_of m.0).seen) me in
      let own = ap (λ (m : Mine). (known_of m.0).mine) me in
      λ i. record { made = there i; number = number; told = 0; seen = seen i; own = own i }

  fresh_from_first : (id : TableId) (first : ℕ) (keys : List (TurnPass (Desk C) ToldMoment))
      → ((k : ℕ) (key : TurnPass (Desk C) ToldMoment) → slice_get keys k ≡ Some key → (key.seat.table_id ≡ id) × (key.seat.me ≡ (fresh [] (first + k) ∷ [], [])))
      → AreFreshFrom id first keys
  fresh_from_first id first [] each = tt
  fresh_from_first id first (key ∷ keys) each =
      let here = each 0 key refl in (
        here.0,
        here.1 ∙ ap (λ (k : ℕ). (fresh [] k ∷ [], [])) (omega arith),
        fresh_from_first id (first + 1) keys
            (λ k p at.
            let there = each (suc k) p at in
            (there.0, there.1 ∙ ap (λ (n : ℕ). (fresh [] n ∷ [], [])) (omega arith))),
      )

  -- the keys of a new lock
  pub fresh_keys : (id : TableId) (keys : List (TurnPass (Desk C) ToldMoment)) → AreFresh id [] keys → AreFreshFrom id 0 keys
  fresh_keys id keys each = fresh_from_first id 0 keys (λ k p at. let here = each k p at in (here.0, here.1 ∙ ap (λ (n : ℕ). (fresh [] n ∷ [], [])) (omega arith)))

  -- one more key at the end
  pub keys_push : (passes : List PassView) (keys : List (TurnPass (Desk C) ToldMoment)) (pass : PassView) (key : TurnPass (Desk C) ToldMoment)
      → AreKeysOf passes keys → IsKeyOf pass key → AreKeysOf (passes ++ pass ∷ []) (keys ++ key ∷ [])
  keys_push [] [] pass key all is = (is, tt)
  keys_push (p ∷ ps) (k ∷ ks) pass key all is = (all.0, keys_push ps ks pass key all.1 is)
  keys_push [] (k ∷ ks) pass key all is = absurd all
  keys_push (p ∷ ps) [] pass key all is = absurd all
