-- Joined sessions that are closed.
use Rattle.std.specs.Prelude.{ℕ, ◌≡◌, ◌+◌, All, Bool, List, map}
use Rattle.shared_broker.specs.Closing.{IsAccountOf}
use Rattle.shared_broker.specs.Passes.{BrokerView}
use Rattle.trace_file.specs.declared.line.Line.{Line}
use Rattle.trace_workers.specs.declared.joined.Closing.{Closing}
use Rattle.trace_workers.specs.declared.played.Played.{Played}
use Rattle.trace_workers.specs.Joined.{JoinedView, HasCome, HasRun, passes_in}
use Rattle.trace_workers.specs.Sessions.{HasLines, KeepsLines, desk_of}

-- the account of its passes and the rest of its sessions, or all is as it was
abbrev pub HasClosed : BrokerView → JoinedView → Closing → Type 0
HasClosed broker joined (Closing.Closed played) = IsAccountOf broker (passes_in joined) played.account × (played.desks ≡ map desk_of joined.sessions)
HasClosed broker joined (Closing.Again again back) = (again ≡ broker) × (back ≡ joined)

-- the passes are all that the broker has
abbrev pub IsWhole : BrokerView → ℕ → Type 0
IsWhole broker count = broker.logs.room.table.shape.passes ≡ count + 1

-- after these lines all came to rest, and this is the account of that, with the rest of the sessions
pub record CameTo (broker : BrokerView) (lines : List Line) (count : ℕ) (drain : Bool) (played : Played) : Type 0 where
  pub joined : JoinedView
  pub run : HasRun broker lines count drain joined
  pub come : HasCome drain joined
  pub account_is : IsAccountOf broker (passes_in joined) played.account
  pub desks_are : played.desks ≡ map desk_of joined.sessions

-- the broker is closed after all came to rest, or all is handed back, and the run can go on
abbrev pub HasGoneOn : BrokerView → List Line → ℕ → Bool → Closing → Type 0
HasGoneOn broker lines count drain (Closing.Closed played) = CameTo broker lines count drain played
HasGoneOn broker lines count drain (Closing.Again again back) = (again ≡ broker) × HasRun broker lines count drain back

-- all sessions keep the lines of their replies, or none does, as this says: at their desks, or as they are handed back
abbrev pub StillKeep : Bool → Closing → Type 0
StillKeep keeps (Closing.Closed played) = All (HasLines keeps) played.desks
StillKeep keeps (Closing.Again again back) = All (KeepsLines keeps) back.sessions
