-- The passes of a new shared port and the keys that they have.
use Rattle.std.proofs.Common.{◌≡◌, ◌∙◌, ℕ, suc, ◌+◌, List, [], ◌∷◌, ◌++◌, Option, Some, ap, refl, subst, sym, arith}
use Rattle.std.specs.Prelude.{slice_get}
use Rattle.atomic_table.specs.Seated.{TableId}
use Rattle.turn_lock.specs.declared.known.Known.{Known}
use Rattle.turn_lock.specs.declared.known.Stage.TheVariants.{Idle}
use Rattle.turn_lock.specs.declared.pass.TurnPass.{TurnPass}
use Rattle.turn_lock.specs.Locks.{AreFresh, known}
use Rattle.turn_lock.specs.Passes.{at_stage, fresh, known_of}
use Rattle.outside.specs.declared.shared.port.port_entry.PortEntry.{PortEntry}
use Rattle.outside.specs.shared.port.Desk.{Desk, words_of}
use Rattle.outside.specs.shared.port.Fresh.{fresh_pass}
use Rattle.outside.specs.shared.port.History.{Terms}
use Rattle.outside.specs.shared.port.Keys.{AreFreshFrom, AreKeysOf, IsKeyOf, IsPortPass, pass_view, terms_in}
use Rattle.outside.specs.shared.port.PortViews.{PassView}

module _ {P L : Type 0} where
  -- a pass with a new key
  pub new_pass : (terms : Terms) (number : ℕ) (key : TurnPass (Desk P L) (PortEntry L)) → key.seat.me ≡ (fresh (words_of terms) number ∷ [], []) → IsPortPass number key
  new_pass terms number key me =
      let Mine : Type 0 = List (Known (PortEntry L)) × List (ℕ × Option (Desk P L)) in
      let name : (known key).name ≡ words_of terms = ap (λ (m : Mine). (known_of m.0).name) me in
      record {
        ready = subst (λ (m : Mine). m ≡ (at_stage Idle (known_of m.0) ∷ [], [])) (sym me) refl;
        number_is = ap (λ (m : Mine). (known_of m.0).number) me;
        name_is = name ∙ ap (λ (ws : List ℕ). words_of (terms_in ws)) (sym name);
      }

  pub new_view : (id : TableId) (terms : Terms) (number : ℕ) (key : TurnPass (Desk P L) (PortEntry L)) → key.seat.table_id ≡ id → key.seat.me ≡ (fresh (words_of terms) number ∷ [], []) → pass_view number key ≡ fresh_pass id terms number
  new_view id terms number key there me =
      let Mine : Type 0 = List (Known (PortEntry L)) × List (ℕ × Option (Desk P L)) in
      let name = ap (λ (m : Mine). terms_in (known_of m.0).name) me in
      let seen = ap (λ (m : Mine). (known_of m.0).seen) me in
      let own = ap (λ (m : Mine). (known_of m.0).mine) me in
      λ i. record { made = there i; terms = name i; number = number; seen = seen i; own = own i }

  fresh_from_first : (id : TableId) (terms : Terms) (first : ℕ) (keys : List (TurnPass (Desk P L) (PortEntry L)))
      → ((k : ℕ) (key : TurnPass (Desk P L) (PortEntry L)) → slice_get keys k ≡ Some key → (key.seat.table_id ≡ id) × (key.seat.me ≡ (fresh (words_of terms) (first + k) ∷ [], [])))
      → AreFreshFrom id terms first keys
  fresh_from_first id terms first [] each = tt
  fresh_from_first id terms first (key ∷ keys) each =
      let here = each 0 key refl in (
        here.0,
        here.1 ∙ ap (λ (k : ℕ). (fresh (words_of terms) k ∷ [], [])) (omega arith),
        fresh_from_first id terms (first + 1) keys
            (λ k p at.
            let there = each (suc k) p at in
            (there.0, there.1 ∙ ap (λ (n : ℕ). (fresh (words_of terms) n ∷ [], [])) (omega arith))),
      )

  -- the keys of a new lock
  pub fresh_keys : (id : TableId) (terms : Terms) (keys : List (TurnPass (Desk P L) (PortEntry L))) → AreFresh id (words_of terms) keys → AreFreshFrom id terms 0 keys
  fresh_keys id terms keys each = fresh_from_first id terms 0 keys (λ k p at. let here = each k p at in (here.0, here.1 ∙ ap (λ (n : ℕ). (fresh (words_of terms) n ∷ [], [])) (omega arith)))

  -- one more key at the end
  pub keys_push : (passes : List (PassView L)) (keys : List (TurnPass (Desk P L) (PortEntry L))) (pass : PassView L) (key : TurnPass (Desk P L) (PortEntry L))
      → AreKeysOf passes keys → IsKeyOf pass key → AreKeysOf (passes ++ pass ∷ []) (keys ++ key ∷ [])
  keys_push [] [] pass key all is = (is, tt)
  keys_push (p ∷ ps) (k ∷ ks) pass key all is = (all.0, keys_push ps ks pass key all.1 is)
  keys_push [] (k ∷ ks) pass key all is = absurd all
  keys_push (p ∷ ps) [] pass key all is = absurd all
