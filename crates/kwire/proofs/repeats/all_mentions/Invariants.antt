use Rattle.std.proofs.Common.{◌≡◌, map, take}
use Rattle.kwire.specs.Mentions.{view, parts_mentions}
use Rattle.kwire.specs.Refusal.{mentions_from}
use Rattle.kwire.proofs.repeats.all_mentions.Given as goal

abbrev pub invariant-loop-entry : goal.invariant-loop-entry
invariant-loop-entry g l = map view l.mentions ≡ mentions_from (λ entry topic. parts_mentions g.T.Part.HasIndex.index entry (g.T.HasParts.name topic) (g.T.HasParts.parts topic)) 0 (take l.entry l.topics)
