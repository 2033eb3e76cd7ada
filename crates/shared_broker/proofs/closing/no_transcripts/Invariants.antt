use Rattle.std.proofs.Common.{◌≡◌, length}
use Rattle.shared_broker.proofs.closing.no_transcripts.Given as goal

abbrev pub invariant-loop-pass : goal.invariant-loop-pass
invariant-loop-pass l = length l.passes ≡ l._pass
