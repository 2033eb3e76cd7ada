-- A read that brings more, or shows how the session is to end.
use Rattle.std.specs.Prelude.{◌≡◌, ◌≤◌, ◌⊎◌, ◌++◌, ℕ, true, List, [], Option, Some, None, length}
use Rattle.std.specs.Io.KnownBytes.{IsAtEnd}
use Rattle.audit.specs.declared.account.SessionEnd.{SessionEnd}
use Rattle.audit.specs.declared.account.SessionEnd.TheVariants.{NoMemory, ReadFault}
use Rattle.audit.specs.declared.account.Transcript.{Transcript}
use Rattle.outside.specs.Causes.{Rose}
use Rattle.session.specs.declared.intake.TheConstants.{MOST_READ}
use Rattle.session.specs.Causes.{IsShown}
use Rattle.session.specs.Flows.{HasFlowed, LinkView}

-- an input that ended with these bytes ends the session so
abbrev pub EndsInput : List ℕ → SessionEnd → Type 0
EndsInput rest end = (transcript : Transcript) → IsShown rest true transcript end

-- nothing came: the read failed, or the input has ended
abbrev pub HasStopped : SessionEnd → List ℕ → LinkView → LinkView → Type 0
HasStopped end inbox before now =
    HasFlowed [] [] before now
    × (((end ≡ ReadFault) × Rose before.faults now.faults) ⊎ (IsAtEnd now.left × EndsInput inbox end))

abbrev pub HasRead : Option SessionEnd → List ℕ → List ℕ → LinkView → LinkView → Type 0
HasRead None old new before now = (piece : List ℕ) × HasFlowed piece [] before now × (length piece ≤ MOST_READ) × (new ≡ old ++ piece)
HasRead (Some end) old new before now = HasStopped end old before now ⊎ ((piece : List ℕ) × HasFlowed piece [] before now × (length piece ≤ MOST_READ) × (end ≡ NoMemory))
