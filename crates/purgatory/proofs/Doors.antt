-- The room's locks, and what a pass has of them.
use Rattle.std.proofs.Common.{◌≡◌, ◌≢◌, ◌∙◌, ℕ, ◌<◌, ◌%◌, ◌-◌, List, [], ◌∷◌, ◌++◌, length, get_or, set, map, Option, cond, ap, refl, subst, sym, arith}
use Rattle.std.proofs.lemmas.Bool.{ne_eqb}
use Rattle.std.proofs.lemmas.List.{get_or-map, get_or_append_left, get_or_at, get_or_default, length-append, length-map, length-set, map-set, set-get_or}
use Rattle.std.proofs.lemmas.List.Elements.{All-set}
use Rattle.turn_lock.specs.declared.lock.TurnLock.{TurnLock}
use Rattle.turn_lock.specs.declared.pass.TurnPass.{TurnPass}
use Rattle.turn_lock.specs.declared.known.Known.{Known}
use Rattle.turn_lock.specs.declared.known.Stage.{Stage}
use Rattle.turn_lock.specs.Locks.{IsPassOf, IsReady, known, lock_name}
use Rattle.turn_lock.specs.Passes.{IsOut, known_of}
use Rattle.room_core.specs.declared.shape.Shape.{Shape}
use Rattle.room_core.specs.Gauges.{IsGaugeOf, clock_of, scanner_of}
use Rattle.room_core.specs.Numbers.{clock_scanner}
use Rattle.room_table.specs.Seats.{TableView}
use Rattle.purgatory.specs.scans.Desks.{ClockView, ShardView, desk_name, id_numbers, shape_numbers}
use Rattle.purgatory.specs.Rooms.{AreNamed, LockView}
use Rattle.purgatory.specs.Turning.{AreKeys, IsKey, clock_name, key_view, key_views, lock_view, lock_views, name_shown, shard_name}

-- the place of a shard among all
pub front_at : {A : Type 0} (f : A → LockView) (xs : List A) (last : LockView) (k : ℕ) (x : A) → k < length xs → get_or (map f xs ++ last ∷ []) k (f x) ≡ f (get_or xs k x)
front_at f xs last k x less =
    let size = length-map xs f in
    get_or_append_left (map f xs) (last ∷ []) (f x) k (omega (arith, less, size)) ∙ get_or-map f xs k x (f x) less

pub back_at : {A : Type 0} (f : A → LockView) (xs : List A) (last d : LockView) → length xs ≡ 16 → get_or (map f xs ++ last ∷ []) 16 d ≡ last
back_at f xs last d all = get_or_at (map f xs) last [] d 16 (length-map xs f ∙ all)

-- a name is shown only where no ticket is drawn
is_shown : (stage : Stage) (name : List ℕ) (x : ℕ) (xs : List ℕ) → name_shown stage name ≡ x ∷ xs → stage ≡ Stage.Idle
is_shown Stage.Idle name x xs e = refl
is_shown (Stage.Waits ticket) name x xs e = absurd (cc)
is_shown (Stage.Has ticket) name x xs e = absurd (cc)
is_shown Stage.Late name x xs e = absurd (cc)

module _ {T E : Type 0} (name_of : T → List ℕ) (lock : TurnLock T E) (pass : TurnPass T E) where
  -- lock and pass that show the same belong together
  pub belongs : (table : TableView) (k : ℕ) → key_view pass ≡ lock_view name_of lock → lock_name name_of lock ≡ desk_name table k → IsKey pass → IsPassOf name_of lock pass × IsReady pass
  belongs table k e named key =
      let name = ap (λ (v : LockView). v.name) e in
      let idle = is_shown (known pass).stage (known pass).name k (shape_numbers table.shape (id_numbers table.id)) (name ∙ named) in
      ((ap (λ (v : LockView). v.id) e, sym (ap (λ s. name_shown s (known pass).name) idle) ∙ name), key idle)

  pub ready_idle : IsReady pass → (known pass).stage ≡ Stage.Idle
  ready_idle ready = ap (λ (m : List (Known E) × List (ℕ × Option T)). (known_of m.0).stage) ready

  pub shows : IsPassOf name_of lock pass × IsReady pass → key_view pass ≡ lock_view name_of lock
  shows p =
      let name : name_shown (known pass).stage (known pass).name ≡ lock_name name_of lock = ap (λ s. name_shown s (known pass).name) (ready_idle p.1) ∙ p.0.1 in
      λ i. record { id = p.0.0 i; name = name i }

  -- a pass that has a turn out shows no name
  pub turns : (ticket : ℕ) → IsOut pass.seat ticket → IsKey pass
  turns ticket out idle =
      let has : (known pass).stage ≡ Stage.Has ticket = ap (λ (m : List (Known E) × List (ℕ × Option T)). (known_of m.0).stage) out.0 in
      let apart : Stage.Has ticket ≡ Stage.Idle = sym has ∙ idle in
      absurd (cc)

module _ {E F : Type 0} (table : TableView) (locks : List (TurnLock ShardView E)) (clock : TurnLock ClockView F) (sixteen : length locks ≡ 16) (named : AreNamed table (lock_views locks clock)) where
  -- the names of the locks
  pub shard_named : (k : ℕ) (lock : TurnLock ShardView E) → k < 16 → lock ≡ get_or locks k lock → lock_name shard_name lock ≡ desk_name table k
  shard_named k lock less is =
      ap (lock_name shard_name) is
      ∙ sym (ap (λ (v : LockView). v.name) (front_at (lock_view shard_name) locks (lock_view clock_name clock) k lock (omega (arith, less, sixteen))))
      ∙ named.each k (lock_view shard_name lock) (omega (arith, less))

  pub clock_named : lock_name clock_name clock ≡ desk_name table clock_scanner
  clock_named =
      let d = lock_view clock_name clock in
      sym (ap (λ (v : LockView). v.name) (back_at (lock_view shard_name) locks d d sixteen)) ∙ named.each 16 d (omega arith)

module _ {E F : Type 0} (table : TableView) (locks : List (TurnLock ShardView E)) (clock : TurnLock ClockView F) (keys : List (TurnPass ShardView E)) (last : TurnPass ClockView F)
    (same : key_views keys last ≡ lock_views locks clock) (sixteen : length locks ≡ 16) (named : AreNamed table (lock_views locks clock)) (ready : AreKeys keys last) where
  -- a shard's lock and the pass's of it
  pub shard_belongs : (k : ℕ) (lock : TurnLock ShardView E) (key : TurnPass ShardView E) → k < 16 → lock ≡ get_or locks k lock → key ≡ get_or keys k key → IsPassOf shard_name lock key × IsReady key
  shard_belongs k lock key less is has =
      let size = ready.all in
      let mine = front_at key_view keys (key_view last) k key (omega (arith, less, size)) in
      let its = front_at (lock_view shard_name) locks (lock_view clock_name clock) k lock (omega (arith, less, sixteen)) in
      let keys_size = length-map keys key_view in
      belongs shard_name lock key table k
      (ap key_view has ∙ sym mine
      ∙ get_or_default (map key_view keys ++ key_view last ∷ []) k (key_view key) (lock_view shard_name lock) (omega (arith, less, size, keys_size, length-append (map key_view keys) (key_view last ∷ [])))
      ∙ ap (λ (xs : List LockView). get_or xs k (lock_view shard_name lock)) same
      ∙ its ∙ sym (ap (lock_view shard_name) is))
      (shard_named table locks clock sixteen named k lock less is)
      (subst IsKey (sym has) (ready.each k key (omega (arith, less, size))))

  pub clock_belongs : IsPassOf clock_name clock last × IsReady last
  clock_belongs =
      let d = key_view last in
      belongs clock_name clock last table clock_scanner
      (sym (back_at key_view keys (key_view last) d ready.all)
      ∙ ap (λ (xs : List LockView). get_or xs 16 d) same
      ∙ back_at (lock_view shard_name) locks (lock_view clock_name clock) d sixteen)
      (clock_named table locks clock sixteen named)
      ready.last

  -- after a turn of a shard's lock
  pub shard_turned : (k : ℕ) (lock : TurnLock ShardView E) (old new : TurnPass ShardView E) → k < 16 → lock ≡ get_or locks k lock → old ≡ get_or keys k old
      → IsPassOf shard_name lock new × IsReady new → (key_views (set keys k new) last ≡ key_views keys last) × AreKeys (set keys k new) last
  shard_turned k lock old new less is had done =
      let size = ready.all in
      let before = shows shard_name lock old (shard_belongs k lock old less is had) in
      let after = shows shard_name lock new done in
      let view : key_view new ≡ get_or (map key_view keys) k (key_view old) =
      after ∙ sym before ∙ ap key_view had ∙ sym (get_or-map key_view keys k old (key_view old) (omega (arith, less, size))) in (
        ap (λ (xs : List LockView). xs ++ key_view last ∷ [])
            (map-set key_view keys k new ∙ ap (set (map key_view keys) k) view ∙ set-get_or (map key_view keys) k (key_view old)),
        record { all = length-set keys k new ∙ size; each = All-set IsKey keys k new (λ idle. done.1) ready.each; last = ready.last },
      )

  -- and of the clock's
  pub clock_turned : (new : TurnPass ClockView F) → IsPassOf clock_name clock new × IsReady new → (key_views keys new ≡ key_views keys last) × AreKeys keys new
  clock_turned new done = (
    ap (λ (v : LockView). map key_view keys ++ v ∷ []) (shows clock_name clock new done ∙ sym (shows clock_name clock last clock_belongs)),
    record { all = ready.all; each = ready.each; last = λ idle. done.1 },
  )

-- the scanner of a gauge that isn't the clock
pub shard_of : (shape : Shape) (gauge : ℕ) → shape.scanners ≡ 17 → gauge < shape.gauges → gauge ≢ clock_of shape → IsGaugeOf shape (gauge % 16) gauge
unfolding scanner_of
shard_of shape gauge all there n = record {
  there = there;
  scans =
      ap (λ b. cond b clock_scanner (gauge % (shape.scanners - 1))) (ne_eqb gauge (clock_of shape) n)
      ∙ ap (λ s. gauge % (s - 1)) all;
}
