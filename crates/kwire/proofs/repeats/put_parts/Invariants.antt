use Rattle.std.proofs.Common.{take}
use Rattle.kwire.specs.Mentions.{parts_mentions}
use Rattle.kwire.proofs.MentionLoops.{PutBehind}
use Rattle.kwire.proofs.repeats.put_parts.Given as goal

abbrev pub invariant-loop-part : goal.invariant-loop-part
invariant-loop-part g l = PutBehind l.fn.mentions l.mentions (parts_mentions g.P.HasIndex.index l.entry l.topic (take l.part-index l.parts))
