-- A session that does nothing more for now: its request waits, or it has ended, or no frame stands at the front of what it received, and more
-- may come.
use Rattle.std.specs.Prelude.{◌≡◌, ◌⊎◌, true, false, None, is_some}
use Rattle.audit.specs.Fits.{IsUnfinished}
use Rattle.trace_workers.specs.Sessions.{SessionView}

abbrev pub Rests : SessionView → Type 0
Rests s = (is_some s.pass.waits ≡ true) ⊎ (s.pass.going ≡ None) ⊎ (IsUnfinished s.inbox × (s.is_shut ≡ false))
