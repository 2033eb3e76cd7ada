-- New logs, from the parts of a room.
use Rattle.std.proofs.Common.{◌≡◌, ◌∙◌, ℕ, zero, suc, ◌+◌, ◌*◌, List, [], ◌∷◌, ◌++◌, Global, Vec, length, map, ap, refl, subst, sym, arith}
use Rattle.std.specs.List.{range_with_len}
use Rattle.std.proofs.lemmas.List.{length-map}
use Rattle.std.proofs.lemmas.List.FromFn.{length-map-range_with_len}
use Rattle.turn_lock.specs.declared.lock.TurnLock.{TurnLock}
use Rattle.turn_lock.specs.declared.pass.TurnPass.{TurnPass}
use Rattle.turn_lock.specs.Locks.{AreFresh, lock_id, lock_name, lock_passes}
use Rattle.shared_logs.specs.declared.entries.ClockEntry.{ClockEntry}
use Rattle.shared_logs.specs.declared.entries.LogEntry.{LogEntry}
use Rattle.shared_logs.specs.Desks.{MomentView, PartView, moment_name}
use Rattle.room_core.specs.declared.shape.Shape.{Shape}
use Rattle.purgatory.specs.scans.Desks.{desk_name}
use Rattle.room_table.specs.Handed.{fresh_caller, fresh_callers, fresh_source, fresh_sources}
use Rattle.room_table.specs.Seats.{SourceView}
use Rattle.purgatory.specs.Making.{AreFrom}
use Rattle.purgatory.specs.Rooms.{PassView, RoomView, fresh_passes, room_shape, with_locks}
use Rattle.shared_logs.specs.Dealt.{AreDealt, AreFirst, IsFreshRow, IsFreshSeat, IsPartLock}
use Rattle.shared_logs.specs.Locked.{HaveAllPasses, moment_lock, part_lock, shared_view}
use Rattle.shared_logs.specs.Shared.{AreShared, followers_in}
use Rattle.shared_logs.proofs.Dealt.{first_sources, fresh_keys, new_followers, new_passes, new_shared}

seats_made : (room : RoomView) (first n : ℕ) → first + n ≡ room.table.shape.passes → AreFrom (IsFreshSeat room) first (map (with_locks room.locks) (map (fresh_caller room.table) (range_with_len first n)))
seats_made room first zero e = tt
seats_made room first (suc n) e = (record { there = omega (arith, e); is = refl }, seats_made room (first + 1) n (omega (arith, e)))

module _ (room : RoomView) (followers : List ℕ) (passes : ℕ) (shape : room.table.shape ≡ room_shape (3 * length followers + 1) passes) (sources left : List SourceView) (last : SourceView)
    (fresh : sources ≡ fresh_sources room.table) (popped : sources ≡ left ++ last ∷ []) where
  pub sources_dealt : AreFirst room.table (3 * length followers) left × (last ≡ fresh_source room.table (3 * length followers))
  sources_dealt = first_sources room.table left last (3 * length followers) (ap (λ (s : Shape). s.gauges) shape) (sym popped ∙ fresh)

  module _ (parts : List (TurnLock PartView LogEntry)) (clock : TurnLock MomentView ClockEntry) (as_many : length parts ≡ length followers) (named : AreFrom (IsPartLock room.table followers passes) 0 parts)
      (name : lock_name moment_name clock ≡ desk_name last.table last.gauge) (all : lock_passes clock ≡ passes) where
    pub followers_made : followers_in (shared_view room parts clock) ≡ followers
    followers_made = new_followers room followers passes parts clock named as_many

    pub shared_made : AreShared (shared_view room parts clock) × HaveAllPasses room parts clock
    shared_made =
        let clock_name : lock_name moment_name clock ≡ desk_name room.table (3 * length followers) =
        name ∙ ap (λ (source : SourceView). desk_name source.table source.gauge) sources_dealt.1 in
        (new_shared room followers passes parts clock named as_many (ap (λ (s : Shape). s.gauges) shape) clock_name, new_passes room followers passes parts clock named as_many (ap (λ (s : Shape). s.passes) shape) all)

    module _ (seats : List PassView) (rows : List (Vec (TurnPass PartView LogEntry) Global)) (keys : List (TurnPass MomentView ClockEntry)) (of_room : seats ≡ fresh_passes room) (rows_count : length rows ≡ passes)
        (of_rows : AreFrom (IsFreshRow (map part_lock parts)) 0 rows) (keys_count : length keys ≡ passes) (of_keys : AreFresh (lock_id clock) (desk_name last.table last.gauge) keys) where
      pub seats_count : length seats ≡ passes
      seats_count =
          ap (λ (l : List PassView). length l) of_room ∙ length-map (fresh_callers room.table) (with_locks room.locks) ∙ length-map-range_with_len (fresh_caller room.table) 0 room.table.shape.passes
          ∙ ap (λ (s : Shape). s.passes) shape

      pub made_dealt : AreDealt (shared_view room parts clock) 0 seats rows keys
      made_dealt = record {
        shared_is = shared_made.0;
        as_many_rows = rows_count ∙ sym seats_count;
        as_many_clocks = keys_count ∙ sym seats_count;
        seats_are = subst (AreFrom (IsFreshSeat room) 0) (sym of_room) (seats_made room 0 room.table.shape.passes (omega arith));
        rows_are = of_rows;
        clocks_are = fresh_keys (moment_lock clock) keys (subst (λ (n : List ℕ). AreFresh (lock_id clock) n keys) (sym name) of_keys);
      }
