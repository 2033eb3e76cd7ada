-- A transcript takes its place after those that are ended.
use Rattle.std.specs.Prelude.{◌≡◌, ◌≤◌, ℕ, List, [], ◌∷◌, ◌++◌, Option, Some, None, length}
use Rattle.audit.specs.declared.account.SessionEnd.{SessionEnd}
use Rattle.audit.specs.declared.account.TheConstants.{MOST_CALLS}
use Rattle.audit.specs.declared.account.Transcript.{Transcript}

abbrev pub HasFewCalls : Option Transcript → Type 0
HasFewCalls going = (transcript : Transcript) → going ≡ Some transcript → length transcript.calls ≤ MOST_CALLS

-- the open one, with that many calls, is ended in this way
pub record HasMoved (end : SessionEnd) (calls : ℕ) (ended : List Transcript) (going : Option Transcript) (later : List Transcript) (left : Option Transcript) : Type 0 where
  pub transcript : Transcript
  pub was : going ≡ Some transcript
  pub behind : later ≡ ended ++ record transcript { end = Some end } ∷ []
  pub none : left ≡ None
  pub count : calls ≡ length transcript.calls
