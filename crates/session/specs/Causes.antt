-- Why a session ended so.
use Rattle.std.specs.Prelude.{◌≡◌, ◌≢◌, ◌↔◌, ◌<◌, ◌+◌, ℕ, Bool, List, length, Some}
use Rattle.audit.specs.declared.account.SessionEnd.{SessionEnd}
use Rattle.audit.specs.declared.account.SessionEnd.TheVariants.{Closed, Truncated, FrameTooLong, Refused, CallsFull, ReadFault, WriteFault, NoMemory}
use Rattle.audit.specs.declared.account.TheConstants.{MOST_CALLS}
use Rattle.audit.specs.declared.account.Transcript.{Transcript}
use Rattle.audit.specs.Fits.{EndFits}

-- The rest of the input shows this end; a frame that comes after the last call that a pass may make is not looked at.
abbrev pub IsShown : List ℕ → Bool → Transcript → SessionEnd → Type 0
IsShown rest ended transcript Closed = EndFits rest ended transcript (Some Closed)
IsShown rest ended transcript (Truncated got) = EndFits rest ended transcript (Some (Truncated got))
IsShown rest ended transcript (FrameTooLong size) = EndFits rest ended transcript (Some (FrameTooLong size))
IsShown rest ended transcript (Refused why) = EndFits rest ended transcript (Some (Refused why)) × (transcript.first + length transcript.calls < MOST_CALLS)
IsShown rest ended transcript CallsFull = EndFits rest ended transcript (Some CallsFull)
IsShown rest ended transcript ReadFault = ⊥
IsShown rest ended transcript WriteFault = ⊥
IsShown rest ended transcript NoMemory = ⊥

-- A fault ends a session only where the link's count rose. Where it didn't, the session ends as the rest shows, or memory ran out.
pub record HasItsCause (rest : List ℕ) (ended : Bool) (transcript : Transcript) (rose : Type 0) (end : SessionEnd) : Type 0 where
  pub read : end ≡ ReadFault → rose
  pub write : end ≡ WriteFault → rose
  pub shown : (rose → ⊥) → end ≢ NoMemory → (other : SessionEnd) → (end ≡ other) ↔ IsShown rest ended transcript other
