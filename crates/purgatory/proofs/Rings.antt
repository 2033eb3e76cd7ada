-- The passes of the locks, as they are dealt out.
use Rattle.std.proofs.Common.{◌≡◌, ◌∙◌, ℕ, ◌+◌, List, [], ◌∷◌, ◌++◌, Option, Some, length, get_or, map, ap, refl, subst, sym, append_assoc}
use Rattle.std.specs.Prelude.{All}
use Rattle.std.proofs.lemmas.List.{length-map, length_push, map_push}
use Rattle.std.proofs.lemmas.List.Elements.{All-pop, All-push}
use Rattle.std.proofs.lemmas.Option.{slice_get-get_or}
use Rattle.turn_lock.specs.declared.known.Known.{Known}
use Rattle.turn_lock.specs.declared.lock.TurnLock.{TurnLock}
use Rattle.turn_lock.specs.declared.pass.TurnPass.{TurnPass}
use Rattle.turn_lock.specs.Locks.{AreFresh, IsReady, known, lock_id, lock_name}
use Rattle.turn_lock.specs.Passes.{at_stage, known_of}
use Rattle.turn_lock.specs.declared.known.Stage.TheVariants.{Idle}
use Rattle.purgatory.specs.Rooms.{LockView}
use Rattle.purgatory.specs.scans.Desks.{ClockView, ShardView, desk_name}
use Rattle.room_table.specs.Seats.{ScanView}
use Rattle.purgatory.specs.Making.{names_of}
use Rattle.purgatory.specs.Turning.{AreKeys, IsKeyOf, IsKeyring, clock_name, key_view, lock_view, lock_views, name_shown, shard_name}

-- a row with a pass more
pub ring_more : {T E : Type 0} (locks : List LockView) (lock : LockView) (row longer : List (TurnPass T E)) (pass : TurnPass T E) → longer ≡ row ++ pass ∷ []
    → IsKeyring locks row → IsKeyOf lock pass → IsKeyring (locks ++ lock ∷ []) longer
ring_more {T} {E} locks lock row longer pass e ring key = (
  ap (map key_view) e ∙ map_push key_view row pass ∙ ap (λ xs. xs ++ key_view pass ∷ []) ring.0 ∙ ap (λ (v : LockView). locks ++ v ∷ []) key.0,
  subst (All IsReady) (sym e) (All-push IsReady row pass ring.1 key.1),
)

-- the passes of a new lock
pub fresh_keys : {T E : Type 0} (name_of : T → List ℕ) (lock : TurnLock T E) (name : List ℕ) (passes : List (TurnPass T E)) → lock_name name_of lock ≡ name
    → AreFresh (lock_id lock) name passes → All (IsKeyOf (lock_view name_of lock)) passes
fresh_keys {T} {E} name_of lock name passes named ones k d l =
    let p : TurnPass T E = get_or passes k d in
    let at = ones k p (slice_get-get_or passes k d l) in
    let Mine : Type 0 = List (Known E) × List (ℕ × Option T) in
    let P : Mine → Type 0 = λ m. m ≡ (at_stage Idle (known_of m.0) ∷ [], []) in
    let is : name_shown (known p).stage (known p).name ≡ lock_name name_of lock = ap (λ (m : Mine). name_shown (known_of m.0).stage (known_of m.0).name) at.1 ∙ sym named in
    let same : key_view p ≡ lock_view name_of lock = λ i. record { id = at.0 i; name = is i } in
    (same, subst P (sym at.1) refl)

pub popped_len : {A : Type 0} (xs ys : List A) (x : A) → xs ≡ ys ++ x ∷ [] → length xs ≡ length ys + 1
popped_len xs ys x e = ap (λ l. length l) e ∙ length_push ys x

-- a row and a pass are taken, and the row goes on with the pass
pub ring_step : {T E : Type 0} (locks : List LockView) (lock : LockView) (rows left : List (List (TurnPass T E))) (row longer : List (TurnPass T E)) (passes rest : List (TurnPass T E)) (pass : TurnPass T E)
    (done more : List (List (TurnPass T E))) → rows ≡ left ++ row ∷ [] → passes ≡ rest ++ pass ∷ [] → longer ≡ row ++ pass ∷ [] → more ≡ done ++ longer ∷ []
    → All (IsKeyring locks) rows × All (IsKeyOf lock) passes × All (IsKeyring (locks ++ lock ∷ [])) done
    → All (IsKeyring locks) left × All (IsKeyOf lock) rest × All (IsKeyring (locks ++ lock ∷ [])) more
ring_step {T} {E} locks lock rows left row longer passes rest pass done more r p l m h =
    let a = All-pop (IsKeyring {T = T} {E = E} locks) rows left (Some row) r h.0 in
    let b = All-pop (IsKeyOf {T = T} {E = E} lock) passes rest (Some pass) p h.1 in (
      a.0,
      b.0,
      subst (All (IsKeyring (locks ++ lock ∷ []))) (sym m) (All-push (IsKeyring (locks ++ lock ∷ [])) done longer h.2 (ring_more locks lock row longer pass l a.1 b.1)),
    )

-- a row and a pass of the clock's lock are taken, and make a ring
pub keys_step : {T E U F : Type 0} (locks : List LockView) (lock : LockView) (rows left : List (List (TurnPass T E))) (row : List (TurnPass T E)) (passes rest : List (TurnPass U F)) (pass : TurnPass U F)
    (keys more : List (List LockView)) (ring : List LockView) → rows ≡ left ++ row ∷ [] → passes ≡ rest ++ pass ∷ [] → more ≡ keys ++ ring ∷ [] → ring ≡ map key_view row ++ key_view pass ∷ []
    → All (IsKeyring locks) rows × All (IsKeyOf lock) passes × All (λ (x : List LockView). x ≡ locks ++ lock ∷ []) keys
    → All (IsKeyring locks) left × All (IsKeyOf lock) rest × All (λ (x : List LockView). x ≡ locks ++ lock ∷ []) more
keys_step {T} {E} {U} {F} locks lock rows left row passes rest pass keys more ring r p m is h =
    let a = All-pop (IsKeyring {T = T} {E = E} locks) rows left (Some row) r h.0 in
    let b = All-pop (IsKeyOf {T = U} {E = F} lock) passes rest (Some pass) p h.1 in
    let P : List LockView → Type 0 = λ x. x ≡ locks ++ lock ∷ [] in (
      a.0,
      b.0,
      subst (All P) (sym m) (All-push P keys ring h.2 (is ∙ ap (λ xs. xs ++ key_view pass ∷ []) a.1.0 ∙ ap (λ (v : LockView). locks ++ v ∷ []) b.1.0)),
    )

pub ready_ring : {E F : Type 0} (locks : List LockView) (lock : LockView) (rows left : List (List (TurnPass ShardView E))) (row items : List (TurnPass ShardView E)) (passes rest : List (TurnPass ClockView F))
    (pass : TurnPass ClockView F) → rows ≡ left ++ row ∷ [] → passes ≡ rest ++ pass ∷ [] → length locks ≡ 16 → items ≡ row → All (IsKeyring locks) rows → All (IsKeyOf lock) passes → AreKeys items pass
ready_ring {E} {F} locks lock rows left row items passes rest pass r p sixteen is h k =
    let a = All-pop (IsKeyring {T = ShardView} {E = E} locks) rows left (Some row) r h in
    let b = All-pop (IsKeyOf {T = ClockView} {E = F} lock) passes rest (Some pass) p k in
    record {
      all = ap (λ l. length l) is ∙ sym (length-map row key_view) ∙ ap (λ (l : List LockView). length l) a.1.0 ∙ sixteen;
      each = λ k d less idle. subst (All IsReady) (sym is) a.1.1 k d less;
      last = λ idle. b.1.1;
    }

map_twice : {A B C : Type 0} (f : A → B) (g : B → C) (xs : List A) → map g (map f xs) ≡ map (λ x. g (f x)) xs
map_twice f g [] = refl
map_twice f g (x ∷ xs) = ap (λ ys. g (f x) ∷ ys) (map_twice f g xs)

module _ {E F : Type 0} (shards : List (TurnLock ShardView E)) (clock : TurnLock ClockView F) (seats front : List ScanView) (last : ScanView) (desk : ClockView) (e : seats ≡ front ++ last ∷ [])
    (names : map (λ (lock : TurnLock ShardView E). (lock_view shard_name lock).name) shards ≡ names_of front) (named : lock_name clock_name clock ≡ clock_name desk) (is : desk.seat ≡ last) where
  -- the names of all locks
  pub names_so : map (λ (lock : LockView). lock.name) (lock_views shards clock) ≡ names_of seats
  names_so =
      let name : LockView → List ℕ = λ lock. lock.name in
      let desk_of : ScanView → List ℕ = λ seat. desk_name seat.table seat.scanner in
      map_push name (map (lock_view shard_name) shards) (lock_view clock_name clock)
      ∙ ap (λ xs. xs ++ lock_name clock_name clock ∷ []) (map_twice (lock_view shard_name) name shards ∙ names)
      ∙ ap (λ n. names_of front ++ n ∷ []) (named ∙ ap desk_of is)
      ∙ sym (map_push desk_of front last)
      ∙ sym (ap names_of e)

  pub sixteen_so : length front ≡ 16 → length shards ≡ 16
  sixteen_so all =
      let desk_of : ScanView → List ℕ = λ seat. desk_name seat.table seat.scanner in
      sym (length-map shards (λ (lock : TurnLock ShardView E). (lock_view shard_name lock).name)) ∙ ap (λ (l : List (List ℕ)). length l) names ∙ length-map front desk_of ∙ all

-- the first of what is left of the scanners' seats is put behind a lock
pub names_step : {E : Type 0} (locks more : List (TurnLock ShardView E)) (lock : TurnLock ShardView E) (left rest : List ScanView) (seat : ScanView) (desk : ShardView) (all : List (List ℕ)) → more ≡ locks ++ lock ∷ []
    → left ≡ seat ∷ rest → lock_name shard_name lock ≡ shard_name desk → desk.seat ≡ seat
    → map (λ (x : TurnLock ShardView E). (lock_view shard_name x).name) locks ++ names_of left ≡ all → map (λ (x : TurnLock ShardView E). (lock_view shard_name x).name) more ++ names_of rest ≡ all
names_step {E} locks more lock left rest seat desk all m l named is e =
    let f : TurnLock ShardView E → List ℕ = λ x. (lock_view shard_name x).name in
    let desk_of : ScanView → List ℕ = λ s. desk_name s.table s.scanner in
    ap (λ xs. map f xs ++ names_of rest) m
    ∙ ap (λ xs. xs ++ names_of rest) (map_push f locks lock)
    ∙ append_assoc (map f locks) (lock_name shard_name lock ∷ []) (names_of rest)
    ∙ ap (λ n. map f locks ++ (n ∷ names_of rest)) (named ∙ ap desk_of is)
    ∙ ap (λ xs. map f locks ++ names_of xs) (sym l)
    ∙ e

pub rows_step : {E : Type 0} (locks more : List (TurnLock ShardView E)) (lock : TurnLock ShardView E) (rows : List (List (TurnPass ShardView E))) → more ≡ locks ++ lock ∷ []
    → All (IsKeyring (map (lock_view shard_name) locks ++ lock_view shard_name lock ∷ [])) rows → All (IsKeyring (map (lock_view shard_name) more)) rows
rows_step {E} locks more lock rows m h =
    let P : List LockView → Type 0 = λ views. All (IsKeyring {T = ShardView} {E = E} views) rows in
    subst P (sym (map_push (lock_view shard_name) locks lock) ∙ ap (map (lock_view shard_name)) (sym m)) h
