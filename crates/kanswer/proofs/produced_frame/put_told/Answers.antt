use Rattle.std.proofs.Common.{◌∙◌, ℕ, pos, Some, List, [], ◌∷◌, ◌++◌, length, sym, ap, subst, arith}
use Rattle.std.specs.List.{flat_map}
use Rattle.kbytes.specs.Field.{Field, field, fields, Int32, Array}
use Rattle.kwire.specs.declared.request.ProduceTopic.{ProduceTopic}
use Rattle.kwire.specs.Spelling.{produced_topic_fields}
use Rattle.kwire.specs.IsSpellable.{AreInRange}
use Rattle.kwire.proofs.Laws.{in_range_first, put_start, put_on, then_field, on_ok}
use Rattle.kanswer.specs.ToldParts.{produced_topic, produced_of}
use Rattle.kanswer.proofs.ToldAt.{topics_length, topics_spelled}
use Rattle.kanswer.proofs.produced_frame.put_told.Goals as goal

pub overflow_cast-answered : goal.overflow_cast-answered
overflow_cast-answered c =
    omega (arith, topics_length (λ (t : ProduceTopic). t.parts) (produced_topic c.args.answered.now.produce.config.now c.args.answered.now.produce.acks) c.args.answered.now.topics.now c.args.accepted.now c.args.readings.now, c.requires.in_range.0)

pub put_array-requires : goal.put_array-requires
put_array-requires c =
    omega (arith, topics_length (λ (t : ProduceTopic). t.parts) (produced_topic c.args.answered.now.produce.config.now c.args.answered.now.produce.acks) c.args.answered.now.topics.now c.args.accepted.now c.args.readings.now, c.requires.in_range.0)

pub put_topics-requires-clause-in_range : goal.put_topics-requires-clause-in_range
put_topics-requires-clause-in_range c =
    let topics = c.args.answered.now.topics.now in
    let tells = produced_topic c.args.answered.now.produce.config.now c.args.answered.now.produce.acks in
    let kind = produced_topic_fields c.args.answered.now.version in
    let told = produced_of c.args.answered.now.produce.config.now c.args.answered.now.produce.acks topics c.args.accepted.now c.args.readings.now in
    subst AreInRange (topics_spelled (λ (t : ProduceTopic). t.parts) tells kind topics c.args.accepted.now c.args.readings.now) (in_range_first (flat_map kind told) (Int32 (pos 0) ∷ []) c.requires.in_range.1)

pub returns : goal.returns
returns c =
    let old = c.args.out.now in
    let o1 = c.put_array.new.out in
    let o2 = c.put_topics.new.out in
    let o3 = c.put_i32.new.out in
    let topics = c.args.answered.now.topics.now in
    let tells = produced_topic c.args.answered.now.produce.config.now c.args.answered.now.produce.acks in
    let kind = produced_topic_fields c.args.answered.now.version in
    let told = produced_of c.args.answered.now.produce.config.now c.args.answered.now.produce.acks topics c.args.accepted.now c.args.readings.now in
    let size = topics_length (λ (t : ProduceTopic). t.parts) tells topics c.args.accepted.now c.args.readings.now in
    let spelled = topics_spelled (λ (t : ProduceTopic). t.parts) tells kind topics c.args.accepted.now c.args.readings.now in
    let p1 = then_field old old o1 [] (Array (Some (length told))) (put_start old) (c.in_ok-put_array.ensures.ok ∙ ap (λ (n : ℕ). old ++ field (Array (Some n))) (sym size)) in
    let p2 = put_on old o1 o2 (Array (Some (length told)) ∷ []) (flat_map kind told) p1 (c.in_ok-put_topics.ensures ∙ ap (λ (fs : List Field). o1 ++ fields fs) (sym spelled)) in
    on_ok c.put_i32.result (then_field old o2 o3 (Array (Some (length told)) ∷ flat_map kind told) (Int32 (pos 0)) p2) c.put_i32.ensures.ok
