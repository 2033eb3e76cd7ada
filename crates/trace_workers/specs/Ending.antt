-- How a session may end.
use Rattle.std.specs.Prelude.{◌≡◌, ℕ, Bool, List, Some}
use Rattle.audit.specs.declared.account.SessionEnd.{SessionEnd}
use Rattle.audit.specs.declared.account.Transcript.{Transcript}
use Rattle.audit.specs.Fits.{EndFits}
use Rattle.audit.specs.RunOf.{IsTraceEnd}
use Rattle.trace_workers.specs.Sessions.{SessionView}

-- this end fits what is left of the input; `shut` says that no more comes
abbrev pub MayEndSo : List ℕ → Bool → SessionEnd → Transcript → Type 0
MayEndSo rest shut end transcript = EndFits rest shut transcript (Some end) × IsTraceEnd (Some end)

-- so its transcript may end
abbrev pub EndsSo : SessionEnd → SessionView → Type 0
EndsSo end s = (transcript : Transcript) → s.pass.going ≡ Some transcript → MayEndSo s.inbox s.is_shut end transcript
