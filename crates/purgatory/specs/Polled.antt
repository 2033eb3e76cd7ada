-- What a pass finds of its operation, and how it takes the end.
use Rattle.std.specs.Prelude.{◌≡◌, ℕ, [], ◌∷◌, ◌++◌, Option, Some, None}
use Rattle.room_core.specs.declared.parts.Phase.{Phase}
use Rattle.room_core.specs.declared.parts.Session.{Session}
use Rattle.room_core.specs.declared.parts.Stage.{Stage}
use Rattle.room_core.specs.declared.parts.Taken.{Taken}
use Rattle.room_core.specs.State.{Caller}
use Rattle.room_table.specs.declared.part.CallerStep.{CallerStep}
use Rattle.room_table.specs.Seats.{CallerView, caller_did, caller_now}
use Rattle.purgatory.specs.scans.Listing.{open_at}
use Rattle.purgatory.specs.declared.outcome.Done.{Done}

-- a session word that is won so, at this generation
abbrev pub won_at : ℕ → Done → Session
won_at generation done = record { generation = generation; phase = Phase.Won done.how done.by }

-- the pass found its session word open
abbrev pub found_open : CallerView → CallerView
found_open seat = caller_did seat (CallerStep.Peeked (open_at (caller_now seat).generation))

-- it found the word won, and took that
abbrev pub took : CallerView → Done → CallerView
took seat done = caller_did (caller_did seat (CallerStep.Peeked (won_at (caller_now seat).generation done))) CallerStep.Idled

abbrev pub HasPolled : Option Done → CallerView → CallerView → Type 0
HasPolled None old new = new ≡ found_open old
HasPolled (Some done) old new = new ≡ took old done

-- what is taken of an operation
abbrev pub item_of : ℕ → Done → Taken
item_of generation done = record { generation = generation; how = done.how; by = done.by }

-- The pass is idle, and has taken one item more: how its operation of this generation ended, and by whom.
pub record HasTaken (at : ℕ) (done : Done) (old new : Caller) : Type 0 where
  pub idle : new.stage ≡ Stage.Idle
  pub generation : new.generation ≡ at
  pub taken : new.taken ≡ old.taken ++ item_of at done ∷ []
