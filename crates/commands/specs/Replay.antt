-- What a replay gives: its account is lawful, is that of the run of the trace that was read, and this is what is printed.
use Rattle.std.specs.Prelude.{ℕ, ◌≡◌, List, [], take, Option, Some, None, Bool, IfSome, ◌⊎◌}
use Rattle.audit.specs.declared.account.Account.{Account}
use Rattle.trace_file.specs.declared.line.Line.{Line}
use Rattle.trace_file.specs.declared.line.TheConstants.{REPLAY_PORT}
use Rattle.audit.specs.IsLawful.{IsLawful}
use Rattle.audit.specs.broker.Play.{IsPlay}
use Rattle.audit.specs.RunOf.{IsRunOf}
use Rattle.trace_file.specs.declared.line.LineFault.{LineFault}
use Rattle.trace_file.specs.Contents.{configuration_of}
use Rattle.trace_file.specs.FirstBad.{IsFirstBad}
use Rattle.trace_file.specs.Trace.{IsTrace}

-- what the replay of these lines gives
pub record IsReplayOf (lines : List Line) (account : Account) (text : List ℕ) : Type 0 where
  pub lawful : IsLawful account
  pub run : IsRunOf lines REPLAY_PORT [] [] account
  pub played : IsPlay (configuration_of REPLAY_PORT lines) lines account text
  -- and it plays to nothing else
  pub only : (other : Account) (more : List ℕ) → IsPlay (configuration_of REPLAY_PORT lines) lines other more → (other ≡ account) × (more ≡ text)

-- The lines are those of the text that was read; `left` is what the source had, if it shows its bytes, and that is this text.
pub record IsReplay (left : Option (List ℕ)) (account : Account) (text : List ℕ) : Type 0 where
  pub lines : List Line
  pub read : List ℕ
  pub trace : IsTrace read lines
  pub told : IfSome left (λ had. had ≡ read)
  pub replay : IsReplayOf lines account text

-- what a replay wrote that didn't finish: a prefix of the text to which the lines that were read play
pub record IsReplayFront (left : Option (List ℕ)) (written : List ℕ) : Type 0 where
  pub lines : List Line
  pub read : List ℕ
  pub trace : IsTrace read lines
  pub told : IfSome left (λ had. had ≡ read)
  pub account : Account
  pub text : List ℕ
  pub played : IsPlay (configuration_of REPLAY_PORT lines) lines account text
  pub count : ℕ
  pub front : written ≡ take count text

-- this line is the first bad one of what the source had, if it shows its bytes, where a trace is read or topics alone
abbrev pub IsFirstBadOf : Option (List ℕ) → Bool → LineFault → Type 0
IsFirstBadOf left only_topics fault = IfSome left (λ text. IsFirstBad text only_topics fault)

-- the source shows its bytes, and what it had is a trace
abbrev pub HasTrace : Option (List ℕ) → Type 0
HasTrace None = ⊥
HasTrace (Some text) = (lines : List Line) × IsTrace text lines

-- the codes of a run that writes nothing
abbrev pub IsSilent : ℕ → Type 0
IsSilent code = (code ≡ 1) ⊎ (code ≡ 2) ⊎ (code ≡ 3)
