-- A caller's part written in the list of callers, and values read from tables by pass.
use Rattle.std.proofs.Common.{◌≡◌, ℕ, ◌<◌, List, length, max, get_or, set, sym, subst, ap, arith, ◌∙◌, Some}
use Rattle.std.specs.Prelude.{All, Vec, slice_get}
use Rattle.std.specs.declared.alloc.Global.{Global}
use Rattle.std.proofs.lemmas.List.{get_or_default}
use Rattle.std.proofs.lemmas.List.Elements.{All-get_or}
use Rattle.std.proofs.lemmas.Option.{slice_get-get_or}
use Rattle.room_core.specs.declared.caller_part.CallerPart.{CallerPart}
use Rattle.room_core.specs.declared.parts.Phase.{Phase}
use Rattle.room_core.specs.declared.parts.Session.{Session}
use Rattle.room_core.specs.State.{Caller}
use Rattle.room_core.specs.ScannerTables.{row}
use Rattle.room_core.specs.CallerTables.{caller_at, caller_of, table}
use Rattle.room_core.specs.Put.{put}
use Rattle.room_core.proofs.Views.{part_set, put_as, table_set}

-- the part that stands at a place of the list
pub caller_here : (xs : List CallerPart) (i : ℕ) (old : CallerPart) → i < length xs → old ≡ get_or xs i old → caller_at (slice_get xs i) ≡ caller_of old
caller_here xs i old l e = ap caller_at (slice_get-get_or xs i old l ∙ ap Some (sym e))

-- where the new part is one function of the old one, so is the caller in the table
pub caller_set : (f : Caller → Caller) (xs : List CallerPart) (i : ℕ) (old new : CallerPart) → i < length xs → old ≡ get_or xs i old → caller_of new ≡ f (caller_of old) → (λ j. caller_at (slice_get (set xs i new) j)) ≡ put (λ k. caller_at (slice_get xs k)) i (f (caller_at (slice_get xs i)))
caller_set f xs i old new l e made =
    part_set caller_at xs i new l ∙ put_as (λ k. caller_at (slice_get xs k)) i _ _ (made ∙ ap f (sym (caller_here xs i old l e)))

-- the session word that stands past the table's end
abbrev pub no_session : Session
no_session = record { generation = 0; phase = Phase.Idle }

pub row_size : {A : Type 0} (xs : List (Vec A Global)) (i : ℕ) (old : Vec A Global) (n : ℕ) → i < length xs → old ≡ get_or xs i old → All (λ row. length row.items ≡ n) xs → length old.items ≡ n
row_size {A} xs i old n l e all =
    subst (λ (v : Vec A Global). length v.items ≡ n) (sym e) (All-get_or (λ (v : Vec A Global). length v.items ≡ n) xs i old l all)

-- a value that was read of a row that was read
pub row_here : {A : Type 0} (xs : List (Vec A Global)) (i : ℕ) (old : Vec A Global) (n at : ℕ) (x none : A) → i < length xs → old ≡ get_or xs i old → All (λ row. length row.items ≡ n) xs → at < n → x ≡ get_or old.items at x → x ≡ row (slice_get xs i) none at
row_here xs i old n at x none l e all below is =
    let size : length old.items ≡ n = row_size xs i old n l e all in
    is ∙ get_or_default old.items at x none (omega (arith, size)) ∙ ap (λ o. row o none at) (sym (slice_get-get_or xs i old l ∙ ap Some (sym e)))

-- a value written in a row is a value given anew in its table
pub row_set : {A : Type 0} (xs : List (Vec A Global)) (i : ℕ) (old new : Vec A Global) (at : ℕ) (x none : A) → i < length xs → old ≡ get_or xs i old → at < length old.items → new.items ≡ set old.items at x → (λ j. row (slice_get (set xs i new) j) none) ≡ put (λ k. row (slice_get xs k) none) i (put (row (slice_get xs i) none) at x)
row_set {A} xs i old new at x none l e below is =
    let here : row (slice_get xs i) none ≡ row (Some old) none = ap (λ o. row o none) (slice_get-get_or xs i old l ∙ ap Some (sym e)) in
    let written : row (Some new) none ≡ put (row (Some old) none) at x = ap (λ (ys : List A). λ k. get_or ys k none) is ∙ table_set old.items at x none below in
    part_set (λ o. row o none) xs i new l ∙ put_as (λ k. row (slice_get xs k) none) i _ _ (written ∙ ap (λ (f : ℕ → A). put f at x) (sym here))

-- the greater of what stood there and what was read
pub risen : (xs : List ℕ) (i now more value : ℕ) → i < length xs → now ≡ get_or xs i now → more ≡ max now value → table (set xs i more) 0 ≡ put (table xs 0) i (max (table xs 0 i) value)
risen xs i now more value l e m =
    table_set xs i more 0 l ∙ put_as (table xs 0) i _ _ (m ∙ ap (λ x. max x value) (e ∙ get_or_default xs i now 0 l))
