-- What the account of a trace's run is to the trace: its topics, what each session received, and its ticks.
use Rattle.std.specs.Prelude.{ℕ, ◌+◌, ◌≡◌, ◌≢◌, ◌<◌, List, [], ◌∷◌, ◌++◌, length, drop, Option, Some, slice_get, MatchBool}
use Rattle.std.specs.List.{AllByRecursion}
use Rattle.trace_file.specs.declared.line.Line.{Line}
use Rattle.audit.specs.declared.account.Account.{Account}
use Rattle.audit.specs.declared.account.Transcript.{Transcript}
use Rattle.audit.specs.declared.account.Call.{Call}
use Rattle.audit.specs.declared.account.CallHow.TheVariants.{Cut}
use Rattle.audit.specs.declared.account.SessionEnd.{SessionEnd}
use Rattle.audit.specs.declared.account.SessionEnd.TheVariants.{ReadFault, WriteFault, NoMemory}
use Rattle.trace_file.specs.Contents.{configuration_of, input_of, is_shut, is_named, sessions_of, rising_from}
use Rattle.audit.specs.Histories.{ticks_of, all_calls}
use Rattle.audit.specs.Fits.{Fits}

-- no fault of the outside and no running out of memory ends a session of a trace
abbrev pub IsTraceEnd : Option SessionEnd → Type 0
IsTraceEnd end = (end ≢ Some ReadFault) × (end ≢ Some WriteFault) × (end ≢ Some NoMemory)

abbrev pub IsNotCut : Call → Type 0
IsNotCut call = (won : Option ℕ) → call.how ≢ Cut won

-- the one transcript of a session that is named
pub record IsSessionOf (lines : List Line) (account : Account) (session : ℕ) : Type 0 where
  pub transcript : Transcript
  pub alone : slice_get account.passes session ≡ Some (transcript ∷ [])
  pub number : transcript.number ≡ session
  pub fits : Fits (input_of session lines) (is_shut session lines) transcript
  pub end : IsTraceEnd transcript.end

-- `further` are the passes behind those of the sessions (that of the clock, where the command has threads), and `added` the
-- ticks that the command adds to those of the lines
pub record IsRunOf (lines : List Line) (port : ℕ) (further : List (List Transcript)) (added : List ℕ) (account : Account) : Type 0 where
  pub config : account.config ≡ configuration_of port lines
  pub passes : length account.passes ≡ sessions_of lines + length further
  pub behind : drop (sessions_of lines) account.passes ≡ further
  -- a pass holds the transcript of its session where a line named it, and none otherwise
  pub sessions : (session : ℕ) → session < sessions_of lines
      → MatchBool (is_named session lines) (IsSessionOf lines account session) (slice_get account.passes session ≡ Some [])
  pub whole : AllByRecursion IsNotCut (all_calls account)
  pub ticks : ticks_of account.clock ≡ rising_from 0 lines ++ added
