-- A pass whose seat in the room went on.
use Rattle.std.proofs.Common.{◌≡◌, ℕ, List, map, Option, Some, None, refl}
use Rattle.room_table.specs.declared.part.CallerStep.TheVariants.{Idled, Peeked}
use Rattle.room_table.specs.Seats.{CallerView, caller_did, caller_now}
use Rattle.purgatory.specs.scans.Listing.{open_at}
use Rattle.turn_lock.specs.declared.pass.TurnPass.{TurnPass}
use Rattle.purgatory.specs.declared.outcome.Done.{Done}
use Rattle.purgatory.specs.Going.{GoesOn}
use Rattle.purgatory.specs.Polled.{HasPolled, won_at}
use Rattle.purgatory.specs.Rooms.{PassView}
use Rattle.purgatory.proofs.Laws.{goes_by, one_step}
use Rattle.shared_logs.specs.declared.entries.ClockEntry.{ClockEntry}
use Rattle.shared_logs.specs.declared.entries.LogEntry.{LogEntry}
use Rattle.shared_logs.specs.Desks.{MomentView, PartView}
use Rattle.shared_logs.specs.Coming.{HasStepped}
use Rattle.shared_logs.specs.Locked.{lock_of, pass_view}

pub stepped : (number : ℕ) (room after : PassView) (parts : List (TurnPass PartView LogEntry)) (clock : TurnPass MomentView ClockEntry) → GoesOn room.seat after.seat → after.locks ≡ room.locks
    → HasStepped (pass_view number room parts clock) (pass_view number after parts clock)
stepped number room after parts clock went locks = record {
  number = refl;
  made = λ i. record { room = record { table = went.table i; locks = locks i }; parts = map lock_of parts; clock = lock_of clock };
  went = went;
  parts = refl;
  clock = refl;
  ticked = refl;
}

pub polled_goes : (result : Option Done) (old new : CallerView) → HasPolled result old new → GoesOn old new
polled_goes None old new e = one_step old new (Peeked (open_at (caller_now old).generation)) e
polled_goes (Some done) old new e =
    let word = Peeked (won_at (caller_now old).generation done) in
    let peeked = caller_did old word in
    goes_by old peeked new Idled (one_step old peeked word refl) e
