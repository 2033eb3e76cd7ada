-- All sessions of a run and the clock's pass, joined again, and what is true of them after lines.
use Rattle.std.specs.Prelude.{ℕ, ◌≡◌, ◌<◌, Bool, true, All, Any, List, [], ◌∷◌, ◌++◌, MatchBool, None, length, map}
use Rattle.audit.specs.Histories.{ticks_of}
use Rattle.shared_broker.specs.Passes.{BrokerView, PassView}
use Rattle.trace_file.specs.declared.line.Line.{Line}
use Rattle.trace_file.specs.declared.line.Line.TheVariants.{Clock}
use Rattle.trace_workers.specs.Resting.{Rests}
use Rattle.trace_workers.specs.Sessions.{KeepsLines, SessionView}
use Rattle.trace_workers.specs.Workers.{HasTaken, HasToldAll}
use Rattle.trace_workers.specs.WorkerRun.{AreSeconds, last_moment}

pub record JoinedView : Type 0 where
  pub sessions : List SessionView
  pub clock : PassView

-- the passes, that of the clock as the last
abbrev pub passes_in : JoinedView → List PassView
passes_in joined = map (λ (s : SessionView). s.pass) joined.sessions ++ joined.clock ∷ []

-- There are that many sessions, one of each number, and they have received what these lines bring them. The clock's pass has the number after theirs.
pub record HasJoined (broker : BrokerView) (lines : List Line) (count : ℕ) (joined : JoinedView) : Type 0 where
  pub sessions : All (HasTaken broker lines) joined.sessions
  pub size : length joined.sessions ≡ count
  pub each : (number : ℕ) → number < count → Any (λ (s : SessionView). s.number ≡ number) joined.sessions
  pub clock : HasToldAll broker lines joined.clock
  pub number : joined.clock.logs.number ≡ count

-- After the lines the clock was moved to these moments too: to none, or if the run is drained on by the second, as long as nobody else moves the clock.
pub record HasRun (broker : BrokerView) (lines : List Line) (count : ℕ) (drain : Bool) (joined : JoinedView) : Type 0 where
  pub added : List ℕ
  pub whole : HasJoined broker (lines ++ map Clock added) count joined
  pub told : MatchBool drain (ticks_of joined.clock.logs.clock ≡ joined.clock.logs.ticked → AreSeconds (last_moment lines) added) (added ≡ [])

-- all sessions keep the lines of their replies, or none does, as it was before
abbrev pub KeepAsBefore : JoinedView → JoinedView → Type 0
KeepAsBefore old new = (keeps : Bool) → All (KeepsLines keeps) old.sessions → All (KeepsLines keeps) new.sessions

abbrev pub NoneWait : JoinedView → Type 0
NoneWait joined = All (λ (s : SessionView). s.pass.waits ≡ None) joined.sessions

-- nobody can act any more, and if the run is drained nobody waits
pub record HasCome (drain : Bool) (joined : JoinedView) : Type 0 where
  pub rests : All Rests joined.sessions
  pub drained : drain ≡ true → NoneWait joined
