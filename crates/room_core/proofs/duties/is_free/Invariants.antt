use Rattle.std.proofs.Common.{◌≡◌, ℕ, ◌<◌, None, get_or}
use Rattle.room_core.proofs.duties.is_free.Given as goal

abbrev pub invariant-loop-pass : goal.invariant-loop-pass
invariant-loop-pass l = (k : ℕ) → k < l.pass → get_or l.duties k None ≡ None
