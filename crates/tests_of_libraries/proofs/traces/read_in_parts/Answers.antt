use Rattle.std.proofs.Common.{◌++◌}
use Rattle.tests_of_libraries.proofs.traces.read_in_parts.Goals as goal

pub loop-part-preserved : goal.loop-part-preserved
loop-part-preserved g c =
    let i = c.loop-part.invariant in
    record { only_topics = i.only_topics; text = i.text ++ c.in-Some.part.now; taken = c.in_ok-reader.ensures i.only_topics i.text i.taken }
