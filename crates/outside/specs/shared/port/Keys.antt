-- A shared port by its lock, and a pass by its pass of the lock.
use Rattle.std.specs.Prelude.{◌≡◌, ℕ, ◌+◌, List, [], ◌∷◌, ⊤}
use Rattle.atomic_table.specs.Seated.{TableId}
use Rattle.turn_lock.specs.declared.lock.TurnLock.{TurnLock}
use Rattle.turn_lock.specs.declared.pass.TurnPass.{TurnPass}
use Rattle.turn_lock.specs.Locks.{IsReady, known, lock_id, lock_passes}
use Rattle.turn_lock.specs.Passes.{fresh}
use Rattle.outside.specs.declared.shared.port.port_entry.PortEntry.{PortEntry}
use Rattle.outside.specs.shared.port.Desk.{Desk, words_of}
use Rattle.outside.specs.shared.port.History.{Terms}
use Rattle.outside.specs.shared.port.PortViews.{PassView, PortView}

-- the terms that such words stand for
abbrev pub terms_in : List ℕ → Terms
terms_in [] = record { before = 0; most = 0 }
terms_in (before ∷ []) = record { before = before; most = 0 }
terms_in (before ∷ most ∷ more) = record { before = before; most = most }

module _ {P L : Type 0} where
  -- the lock has the terms of the desk with which it was made
  abbrev pub port_view : TurnLock (Desk P L) (PortEntry L) → PortView
  port_view lock = record { id = lock_id lock; passes = lock_passes lock; terms = lock.board.shared.key.value.value.terms }

  abbrev pub pass_view : ℕ → TurnPass (Desk P L) (PortEntry L) → PassView L
  pass_view number key = record { made = key.seat.table_id; terms = terms_in (known key).name; number = number; seen = (known key).seen; own = (known key).mine }

  -- the key has this number, a name that is the words of terms, and no turn out
  pub record IsPortPass (number : ℕ) (key : TurnPass (Desk P L) (PortEntry L)) : Type 0 where
    pub ready : IsReady key
    pub number_is : (known key).number ≡ number
    pub name_is : (known key).name ≡ words_of (terms_in (known key).name)

  -- the keys of a new lock with these terms, with the numbers from the first one on
  abbrev pub AreFreshFrom : TableId → Terms → ℕ → List (TurnPass (Desk P L) (PortEntry L)) → Type 0
  AreFreshFrom id terms first [] = ⊤
  AreFreshFrom id terms first (key ∷ keys) = (key.seat.table_id ≡ id) × (key.seat.me ≡ (fresh (words_of terms) first ∷ [], [])) × AreFreshFrom id terms (first + 1) keys

  -- it is the key of a pass that is seen so
  pub record IsKeyOf (pass : PassView L) (key : TurnPass (Desk P L) (PortEntry L)) : Type 0 where
    pub number : ℕ
    pub pass_is : pass ≡ pass_view number key
    pub keeps : IsPortPass number key

  -- they are those of the passes, in their order
  abbrev pub AreKeysOf : List (PassView L) → List (TurnPass (Desk P L) (PortEntry L)) → Type 0
  AreKeysOf [] [] = ⊤
  AreKeysOf [] (key ∷ keys) = ⊥
  AreKeysOf (pass ∷ passes) [] = ⊥
  AreKeysOf (pass ∷ passes) (key ∷ keys) = IsKeyOf pass key × AreKeysOf passes keys
