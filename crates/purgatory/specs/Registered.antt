-- What becomes of an operation that a pass registers, and why.
use Rattle.std.specs.Prelude.{◌≡◌, ℕ, ◌+◌, ◌<◌, List, [], ◌∷◌, length}
use Rattle.opcond.specs.declared.need.Need.{Need}
use Rattle.opcond.specs.Operation.{Operation}
use Rattle.opcond.specs.Tally.{IsSatisfied}
use Rattle.room_core.specs.declared.parts.Stage.{Stage}
use Rattle.room_core.specs.Described.{operation_of}
use Rattle.room_core.specs.Gauges.{clock_of}
use Rattle.room_table.specs.declared.part.CallerStep.{CallerStep}
use Rattle.room_table.specs.Seats.{CallerView, caller_did, caller_now}
use Rattle.purgatory.specs.declared.outcome.Done.{Done}
use Rattle.purgatory.specs.declared.outcome.Registered.{Registered}
use Rattle.purgatory.specs.Going.{GoesOn}
use Rattle.purgatory.specs.Polled.{HasTaken, took}

-- the pass has read the gauge of each need, in order, and found these values
abbrev pub have_read : CallerView → List Need → List ℕ → CallerView
have_read seat [] values = seat
have_read seat (need ∷ needs) [] = seat
have_read seat (need ∷ needs) (value ∷ values) = have_read (caller_did seat (CallerStep.Read need.gauge value)) needs values

-- The operation is open at the next generation, and waits. Once the pass had seen it listed under each gauge and under the clock,
-- it read every gauge and the clock: these last readings don't satisfy the operation, and that of the clock is below the deadline.
pub record HasParked (op : Operation) (old new : CallerView) : Type 0 where
  pub before : CallerView
  pub values : List ℕ
  pub moment : ℕ
  pub came : GoesOn old before
  pub listed : (caller_now before).stage ≡ Stage.Checking
  pub each : length values ≡ length op.needs
  pub steps : new ≡ caller_did (have_read before op.needs values) (CallerStep.Left (clock_of old.table.shape) moment)
  pub unsatisfied : ¬ IsSatisfied op values
  pub early : moment < op.deadline
  pub waits : (caller_now new).stage ≡ Stage.Waiting
  pub generation : (caller_now new).generation ≡ (caller_now old).generation + 1
  pub operation : operation_of (caller_now new).description ≡ op
  pub taken : (caller_now new).taken ≡ (caller_now old).taken

-- The operation was opened at the next generation, and the pass found it won, and took that.
pub record HasEnded (op : Operation) (done : Done) (old new : CallerView) : Type 0 where
  pub before : CallerView
  pub came : GoesOn old before
  pub operation : operation_of (caller_now before).description ≡ op
  pub steps : new ≡ took before done
  pub taken : HasTaken ((caller_now old).generation + 1) done (caller_now old) (caller_now new)

abbrev pub HasRegistered : Operation → Registered → CallerView → CallerView → Type 0
HasRegistered op Registered.Parked old new = HasParked op old new
HasRegistered op (Registered.Won done) old new = HasEnded op done old new
