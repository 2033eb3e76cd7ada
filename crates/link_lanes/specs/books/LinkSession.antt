-- A session over a link, by the account of the run.
use Rattle.std.specs.Prelude.{◌≡◌, ◌≢◌, ◌⊎◌, ◌≤◌, ◌↔◌, ℕ, Bool, true, List, [], Option, Some, None, IfSome, ⊤}
use Rattle.audit.specs.declared.account.Account.{Account}
use Rattle.audit.specs.declared.account.SessionEnd.{SessionEnd}
use Rattle.audit.specs.declared.account.SessionEnd.TheVariants.{ReadFault, Refused, WriteFault}
use Rattle.audit.specs.declared.account.Transcript.{Transcript}
use Rattle.audit.specs.Fits.{Fits}
use Rattle.kwire.specs.declared.frame.WireFault.TheVariants.{NoMemory as OutOfMemory}
use Rattle.link_lanes.specs.books.Shown.{ShownLink}
use Rattle.link_lanes.specs.books.WasSent.{WasSent}

abbrev pub IsFault : SessionEnd → Type 0
IsFault end = (end ≡ ReadFault) ⊎ (end ≡ WriteFault)

-- where the link shows the bytes that were taken from it and those that are left, the transcript fits those that were taken; the input has ended exactly where
-- none is left
abbrev pub FitsLink : Option (List ℕ) → Option (List ℕ) → Transcript → Type 0
FitsLink None left transcript = ⊤
FitsLink (Some taken) None transcript = ⊤
FitsLink (Some taken) (Some left) transcript = (ended : Bool) × ((ended ≡ true) ↔ (left ≡ [])) × Fits taken ended transcript

-- The transcript has an end, which is a fault only where the link has failed; no request was refused because memory ran out. The link was shut. Where it shows its bytes, the transcript fits those that were
-- taken from it, and those that were written to it are the replies of the calls, or after a failed write those of all calls but the last and a proper prefix
-- of the last one's.
pub record IsSessionOver (account : Account) (link : ShownLink) (transcript : Transcript) : Type 0 where
  pub end : SessionEnd
  pub end_is : transcript.end ≡ Some end
  pub shut : link.is_shut ≡ true
  pub fault : IsFault end → 1 ≤ link.faults
  pub told : end ≢ Refused OutOfMemory
  pub fits : FitsLink link.taken link.left transcript
  pub sent : IfSome link.written (WasSent account end transcript.calls)
