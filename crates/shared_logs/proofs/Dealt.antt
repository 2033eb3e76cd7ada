-- Locks and passes as they are dealt out.
use Rattle.std.proofs.Common.{◌≡◌, ◌∙◌, ℕ, zero, suc, ◌+◌, ◌*◌, ◌<◌, List, [], ◌∷◌, ◌++◌, Global, Option, Some, Vec, drop, get_or, length, map, ap, refl, subst, sym, arith}
use Rattle.std.specs.Prelude.{All, slice_get, slice_index}
use Rattle.std.specs.List.{range_with_len}
use Rattle.std.proofs.lemmas.List.{drop_all, drop_more, length-map, length_push, map_push}
use Rattle.std.proofs.lemmas.List.Elements.{All-cons, All-nil, All-push, All-weaker}
use Rattle.std.proofs.lemmas.List.FromFn.{length-map-range_with_len}
use Rattle.turn_lock.specs.declared.known.Known.{Known}
use Rattle.turn_lock.specs.declared.lock.TurnLock.{TurnLock}
use Rattle.turn_lock.specs.declared.pass.TurnPass.{TurnPass}
use Rattle.turn_lock.specs.Locks.{AreFresh, known, lock_name, lock_passes}
use Rattle.turn_lock.specs.Passes.{fresh, known_of}
use Rattle.shared_logs.specs.declared.entries.ClockEntry.{ClockEntry}
use Rattle.shared_logs.specs.declared.entries.LogEntry.{LogEntry}
use Rattle.shared_logs.specs.Desks.{MomentView, PartView, moment_name, part_name}
use Rattle.purgatory.specs.scans.Desks.{desk_name}
use Rattle.room_table.specs.Handed.{fresh_source, fresh_sources}
use Rattle.room_table.specs.Seats.{SourceView, TableView}
use Rattle.purgatory.specs.Making.{AreFrom}
use Rattle.purgatory.specs.Rooms.{LockView, RoomView}
use Rattle.shared_logs.specs.Dealt.{AreFirst, IsFreshHand, IsFreshOf, IsFreshRow, IsPartLock}
use Rattle.shared_logs.specs.Locked.{HaveAllPasses, lock_of, part_lock, shared_view}
use Rattle.shared_logs.specs.Shared.{AreShared, followers_in}

-- one more at the end
pub from_push : {A : Type 0} (P : ℕ → A → Type 0) (first : ℕ) (xs : List A) (x : A) → AreFrom P first xs → P (first + length xs) x → AreFrom P first (xs ++ x ∷ [])
from_push P first [] x a p = (subst (λ k. P k x) (omega arith) p, tt)
from_push P first (y ∷ ys) x a p = (a.0, from_push P (first + 1) ys x a.1 (subst (λ k. P k x) (omega arith) p))

-- a list that goes on, one more taken of it
pub from_next : {A : Type 0} (P : ℕ → A → Type 0) (first : ℕ) (xs ys : List A) (x : A) → xs ≡ x ∷ ys → AreFrom P first xs → P first x × AreFrom P (first + 1) ys
from_next P first xs ys x e a = subst (AreFrom P first) e a

module _ {T E : Type 0} where
  fresh_of : (lock : LockView) (number : ℕ) (pass : TurnPass T E) → pass.seat.table_id ≡ lock.id → pass.seat.me ≡ (fresh lock.name number ∷ [], []) → IsFreshOf lock number pass
  fresh_of lock number pass id me =
      let Mine : Type 0 = List (Known E) × List (ℕ × Option T) in
      let P : Mine → Type 0 = λ m. m ≡ (fresh (known_of m.0).name number ∷ [], []) in
      let name : (known pass).name ≡ lock.name = ap (λ (m : Mine). (known_of m.0).name) me in
      record { lock_is = λ i. record { id = id i; name = name i }; fresh_is = subst P (sym me) refl }

  keys_from : (lock : LockView) (first : ℕ) (passes : List (TurnPass T E))
      → ((k : ℕ) (pass : TurnPass T E) → slice_get passes k ≡ Some pass → (pass.seat.table_id ≡ lock.id) × (pass.seat.me ≡ (fresh lock.name (first + k) ∷ [], [])))
      → AreFrom (IsFreshOf lock) first passes
  keys_from lock first [] each = tt
  keys_from lock first (pass ∷ passes) each =
      let here = each 0 pass refl in (
        fresh_of lock first pass here.0 (here.1 ∙ ap (λ k. (fresh lock.name k ∷ [], [])) (omega arith)),
        keys_from lock (first + 1) passes
            (λ k p at.
            let there = each (suc k) p at in
            (there.0, there.1 ∙ ap (λ n. (fresh lock.name n ∷ [], [])) (omega arith))),
      )

  -- the passes of a new lock
  pub fresh_keys : (lock : LockView) (passes : List (TurnPass T E)) → AreFresh lock.id lock.name passes → AreFrom (IsFreshOf lock) 0 passes
  fresh_keys lock passes each = keys_from lock 0 passes (λ k p at. let here = each k p at in (here.0, here.1 ∙ ap (λ n. (fresh lock.name n ∷ [], [])) (omega arith)))

  -- a row with a pass of one more lock
  pub row_more : (locks : List LockView) (lock : LockView) (number : ℕ) (row longer : Vec (TurnPass T E) Global) (pass : TurnPass T E) → longer.items ≡ row.items ++ pass ∷ []
      → IsFreshRow locks number row → IsFreshOf lock number pass → IsFreshRow (locks ++ lock ∷ []) number longer
  row_more locks lock number row longer pass e is key = record {
    locks_are = ap (map lock_of) e ∙ map_push lock_of row.items pass ∙ ap (λ (ls : List LockView). ls ++ lock_of pass ∷ []) is.locks_are ∙ ap (λ (l : LockView). locks ++ l ∷ []) key.lock_is;
    fresh_are = subst (All (IsFreshHand number)) (sym e) (All-push (IsFreshHand number) row.items pass is.fresh_are key.fresh_is);
  }

  -- a row and a pass are taken, and the row goes on with the pass
  pub row_step : (locks : List LockView) (lock : LockView) (rows left done more : List (Vec (TurnPass T E) Global)) (row longer : Vec (TurnPass T E) Global) (passes rest : List (TurnPass T E)) (pass : TurnPass T E)
      → rows ≡ row ∷ left → passes ≡ pass ∷ rest → longer.items ≡ row.items ++ pass ∷ [] → more ≡ done ++ longer ∷ []
      → AreFrom (IsFreshRow locks) (length done) rows × AreFrom (IsFreshOf lock) (length done) passes × AreFrom (IsFreshRow (locks ++ lock ∷ [])) 0 done
      → AreFrom (IsFreshRow locks) (length more) left × AreFrom (IsFreshOf lock) (length more) rest × AreFrom (IsFreshRow (locks ++ lock ∷ [])) 0 more
  row_step locks lock rows left done more row longer passes rest pass r p l m h =
      let size : length done + 1 ≡ length more = sym (ap (λ (xs : List (Vec (TurnPass T E) Global)). length xs) m ∙ length_push done longer) in
      let a = from_next (IsFreshRow locks) (length done) rows left row r h.0 in
      let b = from_next (IsFreshOf lock) (length done) passes rest pass p h.1 in (
        subst (λ n. AreFrom (IsFreshRow locks) n left) size a.1,
        subst (λ n. AreFrom (IsFreshOf lock) n rest) size b.1,
        subst (AreFrom (IsFreshRow (locks ++ lock ∷ [])) 0) (sym m)
            (from_push (IsFreshRow (locks ++ lock ∷ [])) 0 done longer h.2 (row_more locks lock (0 + length done) row longer pass l (subst (λ n. IsFreshRow locks n row) (omega arith) a.0) (subst (λ n. IsFreshOf lock n pass) (omega arith) b.0))),
      )

-- the rows have a pass of one more partition's lock
pub rows_more : (locks more : List (TurnLock PartView LogEntry)) (lock : TurnLock PartView LogEntry) (rows : List (Vec (TurnPass PartView LogEntry) Global)) → more ≡ locks ++ lock ∷ []
    → AreFrom (IsFreshRow (map part_lock locks ++ part_lock lock ∷ [])) 0 rows → AreFrom (IsFreshRow (map part_lock more)) 0 rows
rows_more locks more lock rows m h = subst (λ (views : List LockView). AreFrom (IsFreshRow views) 0 rows) (sym (map_push part_lock locks lock) ∙ ap (map part_lock) (sym m)) h

-- a row of no passes
pub rows_none : (rows more : List (Vec (TurnPass PartView LogEntry) Global)) (row : Vec (TurnPass PartView LogEntry) Global) → row.items ≡ [] → more ≡ rows ++ row ∷ []
    → AreFrom (IsFreshRow []) 0 rows → AreFrom (IsFreshRow []) 0 more
rows_none rows more row none m a =
    let P : ℕ → Vec (TurnPass PartView LogEntry) Global → Type 0 = λ number r. IsFreshRow [] number r in
    let here : (number : ℕ) → P number row =
    λ number. record {
      locks_are = ap (map lock_of) none;
      fresh_are = subst (All (IsFreshHand number)) (sym none) (All-nil (IsFreshHand number));
    } in
    subst (AreFrom P 0) (sym m) (from_push P 0 rows row a (here (0 + length rows)))

-- all but the last, and the last
pub from_pop : {A : Type 0} (P : ℕ → A → Type 0) (first : ℕ) (xs : List A) (x : A) → AreFrom P first (xs ++ x ∷ []) → AreFrom P first xs × P (first + length xs) x
from_pop P first [] x a = (tt, subst (λ k. P k x) (omega arith) a.0)
from_pop P first (y ∷ ys) x a =
    let rest = from_pop P (first + 1) ys x a.1 in
    ((a.0, rest.0), subst (λ k. P k x) (omega arith) rest.1)

-- made by their numbers
pub from_made : {A : Type 0} (f : ℕ → A) (first n : ℕ) → AreFrom (λ k x. x ≡ f k) first (map f (range_with_len first n))
from_made f first zero = tt
from_made f first (suc n) = (refl, from_made f (first + 1) n)

pub from_weaker : {A : Type 0} (P Q : ℕ → A → Type 0) (first : ℕ) (xs : List A) → ((k : ℕ) (x : A) → P k x → Q k x) → AreFrom P first xs → AreFrom Q first xs
from_weaker P Q first [] w a = tt
from_weaker P Q first (x ∷ xs) w a = (w first x a.0, from_weaker P Q (first + 1) xs w a.1)

pub from_mapped : {A B : Type 0} (P : ℕ → B → Type 0) (f : A → B) (first : ℕ) (xs : List A) → AreFrom (λ k x. P k (f x)) first xs → AreFrom P first (map f xs)
from_mapped P f first [] a = tt
from_mapped P f first (x ∷ xs) a = (a.0, from_mapped P f (first + 1) xs a.1)

-- the item of a place
pub from_at : {A : Type 0} (P : ℕ → A → Type 0) (first : ℕ) (xs : List A) → AreFrom P first xs → (k : ℕ) (d : A) → k < length xs → P (first + k) (get_or xs k d)
from_at P first [] a k d less = absurd (omega (arith, less))
from_at P first (x ∷ xs) a zero d less = subst (λ n. P n x) (omega arith) a.0
from_at P first (x ∷ xs) a (suc k) d less = subst (λ n. P n (get_or xs k d)) (omega arith) (from_at P (first + 1) xs a.1 k d (omega (arith, less)))

pub from_start : {A : Type 0} (P : ℕ → A → Type 0) (xs : List A) → AreFrom P 0 xs → (k : ℕ) (d : A) → k < length xs → P k (get_or xs k d)
from_start P xs a k d less = subst (λ n. P n (get_or xs k d)) (omega arith) (from_at P 0 xs a k d less)

-- the first sources of a room
pub first_sources : (table : TableView) (sources : List SourceView) (last : SourceView) (gauges : ℕ) → table.shape.gauges ≡ gauges + 1 → sources ++ last ∷ [] ≡ fresh_sources table
    → AreFirst table gauges sources × (last ≡ fresh_source table gauges)
first_sources table sources last gauges shape e =
    let all = subst (AreFrom (λ gauge source. source ≡ fresh_source table gauge) 0) (sym e) (from_made (fresh_source table) 0 table.shape.gauges) in
    let some = from_pop (λ gauge source. source ≡ fresh_source table gauge) 0 sources last all in
    let len = length_push sources last in
    let whole = ap (λ (l : List SourceView). length l) e in
    let made = length-map-range_with_len (fresh_source table) 0 table.shape.gauges in
    let size : length sources ≡ gauges = omega (arith, len, whole, made, shape) in
    (record { count = size; each = some.0 }, some.1 ∙ ap (fresh_source table) (omega (arith, size)))

module _ (table : TableView) (followers : List ℕ) (passes : ℕ) where
  followers_from : (first : ℕ) (locks : List (TurnLock PartView LogEntry)) → AreFrom (IsPartLock table followers passes) first locks → first + length locks ≡ length followers
      → map (λ (lock : LockView). slice_index lock.name 0) (map part_lock locks) ≡ drop first followers
  followers_from first [] a e = sym (drop_all first followers (omega (arith, e)))
  followers_from first (lock ∷ locks) a e =
      ap (λ (name : List ℕ). slice_index name 0 ∷ map (λ (l : LockView). slice_index l.name 0) (map part_lock locks)) a.0.name
      ∙ ap (λ (xs : List ℕ). slice_index followers first ∷ xs) (followers_from (first + 1) locks a.1 (omega (arith, e)))
      ∙ sym (drop_more followers first 0 (omega (arith, e)))

  passes_from : (first : ℕ) (locks : List (TurnLock PartView LogEntry)) → AreFrom (IsPartLock table followers passes) first locks → All (λ (lock : TurnLock PartView LogEntry). lock_passes lock ≡ passes) locks
  passes_from first [] a = All-nil _
  passes_from first (lock ∷ locks) a = All-cons (λ (x : TurnLock PartView LogEntry). lock_passes x ≡ passes) lock locks a.0.passes_are (passes_from (first + 1) locks a.1)

module _ (room : RoomView) (followers : List ℕ) (passes : ℕ) (locks : List (TurnLock PartView LogEntry)) (clock : TurnLock MomentView ClockEntry) (named : AreFrom (IsPartLock room.table followers passes) 0 locks)
    (as_many : length locks ≡ length followers) where
  -- new logs have so many followers
  pub new_followers : followers_in (shared_view room locks clock) ≡ followers
  new_followers = followers_from room.table followers passes 0 locks named (omega (arith, as_many))

  pub new_shared : room.table.shape.gauges ≡ 3 * length followers + 1 → lock_name moment_name clock ≡ desk_name room.table (3 * length followers) → AreShared (shared_view room locks clock)
  new_shared gauges name =
      let size : length (map part_lock locks) ≡ length followers = length-map locks part_lock ∙ as_many in
      record {
        gauges = gauges ∙ ap (λ n. 3 * n + 1) (sym size);
        parts = λ part lock less.
            let views = from_mapped (λ k (view : LockView). view.name ≡ slice_index followers k ∷ desk_name room.table k) part_lock 0 locks
            (from_weaker (IsPartLock room.table followers passes) (λ k lock. lock_name part_name lock ≡ slice_index followers k ∷ desk_name room.table k) 0 locks (λ k lock is. is.name) named) in
            from_start (λ k (view : LockView). view.name ≡ slice_index followers k ∷ desk_name room.table k) (map part_lock locks) views part lock less
            ∙ ap (λ (all : List ℕ). slice_index all part ∷ desk_name room.table part) (sym new_followers);
        clock = name ∙ ap (λ n. desk_name room.table (3 * n)) (sym size);
      }

  pub new_passes : room.table.shape.passes ≡ passes → lock_passes clock ≡ passes → HaveAllPasses room locks clock
  new_passes size all = record {
    parts_have = All-weaker (λ (lock : TurnLock PartView LogEntry). lock_passes lock ≡ passes) (λ (lock : TurnLock PartView LogEntry). lock_passes lock ≡ room.table.shape.passes) (λ lock e. e ∙ sym size) locks (passes_from room.table followers passes 0 locks named);
    clock_has = all ∙ sym size;
  }
