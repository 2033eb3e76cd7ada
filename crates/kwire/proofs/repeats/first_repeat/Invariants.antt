use Rattle.kwire.proofs.MentionLoops.{NoneSoFar}
use Rattle.kwire.proofs.repeats.first_repeat.Given as goal

abbrev pub invariant-loop-place : goal.invariant-loop-place
invariant-loop-place l = NoneSoFar l.mentions l.place
