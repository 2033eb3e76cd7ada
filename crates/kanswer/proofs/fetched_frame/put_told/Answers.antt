use Rattle.std.proofs.Common.{◌∙◌, ℕ, pos, Some, List, [], ◌∷◌, ◌++◌, length, sym, ap, subst, arith}
use Rattle.std.specs.List.{flat_map}
use Rattle.kbytes.specs.Field.{Field, field, fields, Int32, Array}
use Rattle.kwire.specs.declared.request.FetchTopic.{FetchTopic}
use Rattle.kwire.specs.Spelling.{fetched_topic_fields}
use Rattle.kwire.specs.IsSpellable.{AreInRange}
use Rattle.kwire.proofs.Laws.{put_start, put_on, then_field, on_ok}
use Rattle.kanswer.specs.ToldParts.{fetched_topic, fetched_of}
use Rattle.kanswer.proofs.ToldAt.{topics_length, topics_spelled}
use Rattle.kanswer.proofs.fetched_frame.put_told.Goals as goal

pub overflow_cast-answered : goal.overflow_cast-answered
overflow_cast-answered c =
    omega (arith, topics_length (λ (t : FetchTopic). t.parts) fetched_topic c.args.answered.now.topics.now c.args.accepted.now c.args.readings.now, c.requires.in_range.1.0)

pub put_array-requires : goal.put_array-requires
put_array-requires c =
    omega (arith, topics_length (λ (t : FetchTopic). t.parts) fetched_topic c.args.answered.now.topics.now c.args.accepted.now c.args.readings.now, c.requires.in_range.1.0)

pub put_topics-requires-clause-in_range : goal.put_topics-requires-clause-in_range
put_topics-requires-clause-in_range c =
    subst AreInRange (topics_spelled (λ (t : FetchTopic). t.parts) fetched_topic (fetched_topic_fields c.args.answered.now.version c.args.answered.now.isolation) c.args.answered.now.topics.now c.args.accepted.now c.args.readings.now) c.requires.in_range.1.1

pub returns : goal.returns
returns c =
    let old = c.args.out.now in
    let o1 = c.put_i32.new.out in
    let o2 = c.put_array.new.out in
    let o3 = c.put_topics.new.out in
    let topics = c.args.answered.now.topics.now in
    let kind = fetched_topic_fields c.args.answered.now.version c.args.answered.now.isolation in
    let told = fetched_of topics c.args.accepted.now c.args.readings.now in
    let size = topics_length (λ (t : FetchTopic). t.parts) fetched_topic topics c.args.accepted.now c.args.readings.now in
    let spelled = topics_spelled (λ (t : FetchTopic). t.parts) fetched_topic kind topics c.args.accepted.now c.args.readings.now in
    let p1 = then_field old old o1 [] (Int32 (pos 0)) (put_start old) c.in_ok-put_i32.ensures.ok in
    let p2 = then_field old o1 o2 (Int32 (pos 0) ∷ []) (Array (Some (length told))) p1 (c.in_ok-put_array.ensures.ok ∙ ap (λ (n : ℕ). o1 ++ field (Array (Some n))) (sym size)) in
    on_ok c.put_topics.result
    (λ is. put_on old o2 o3 (Int32 (pos 0) ∷ Array (Some (length told)) ∷ []) (flat_map kind told) p2 (is ∙ ap (λ (fs : List Field). o2 ++ fields fs) (sym spelled)))
    c.put_topics.ensures
