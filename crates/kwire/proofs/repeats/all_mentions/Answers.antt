use Rattle.std.proofs.Common.{List, ◌++◌, take, sym, ap, ◌∙◌}
use Rattle.kwire.specs.Mentions.{parts_mentions}
use Rattle.kwire.specs.Refusal.{Mention, mentions_from}
use Rattle.kwire.proofs.MentionLoops.{topic_next}
use Rattle.kwire.proofs.repeats.all_mentions.Goals as goal

pub loop-entry-preserved : goal.loop-entry-preserved
loop-entry-preserved g c =
    let index = g.T.Part.HasIndex.index in
    let i = c.loop-entry.entry in
    let topic = c.index-topics-entry.result in
    let front = mentions_from (λ entry t. parts_mentions index entry (g.T.HasParts.name t) (g.T.HasParts.parts t)) 0 (take i c.args.topics.now) in
    c.in_ok-put_parts.ensures
    ∙ ap (λ (ms : List Mention). ms ++ parts_mentions index i c.name.result.now c.parts.result.now) c.loop-entry.invariant
    ∙ ap (λ name. front ++ parts_mentions index i name c.parts.result.now) c.name.ensures
    ∙ ap (λ parts. front ++ parts_mentions index i (g.T.HasParts.name topic) parts) c.parts.ensures
    ∙ ap (λ t. front ++ parts_mentions index i (g.T.HasParts.name t) (g.T.HasParts.parts t)) c.index-topics-entry.is
    ∙ sym (topic_next (λ entry t. parts_mentions index entry (g.T.HasParts.name t) (g.T.HasParts.parts t)) c.args.topics.now i topic c.loop-entry-test.true)
