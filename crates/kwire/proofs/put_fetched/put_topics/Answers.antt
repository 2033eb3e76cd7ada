use Rattle.std.proofs.Common.{ℤ, sym, subst}
use Rattle.std.specs.Int.{w8, w16}
use mir.Val.{of_z, to_z}
use Rattle.std.proofs.lemmas.Int.{to_z-of_z}
use Rattle.std.specs.List.{flat_map}
use Rattle.kwire.specs.Spelling.{fetched_topic_fields}
use Rattle.kwire.specs.IsSpellable.{AreInRange}
use Rattle.kwire.proofs.Spelled.{Put, put_start, put_item, put_all, in_range_item}
use Rattle.kwire.proofs.put_fetched.put_topics.Goals as goal

-- the version and the level as they are handed on
abbrev level : ℤ → ℤ
level z = to_z w8 (of_z w8 z)

abbrev version_of : ℤ → ℤ
version_of z = to_z w16 (of_z w16 z)

pub put_topic-requires : goal.put_topic-requires
put_topic-requires c =
    let whole = subst (λ (v : ℤ). AreInRange (flat_map (fetched_topic_fields v c.args.isolation) c.args.topics.now)) (sym (to_z-of_z w16 c.args.version c.ranges.version)) c.requires in
    let fits = subst (λ (z : ℤ). AreInRange (flat_map (fetched_topic_fields (version_of c.args.version) z) c.args.topics.now)) (sym (to_z-of_z w8 c.args.isolation c.ranges.isolation)) whole in
    in_range_item (fetched_topic_fields (version_of c.args.version) (level c.args.isolation)) c.args.topics.now c.loop-topic.topic-index c.topic-item.result c.loop-topic-test.true c.topic-item.is fits

pub loop-topic-init : goal.loop-topic-init
loop-topic-init c = put_start c.args.out.now

pub loop-topic-preserved : goal.loop-topic-preserved
loop-topic-preserved c =
    put_item (fetched_topic_fields (version_of c.args.version) (level c.args.isolation)) c.args.out.now c.loop-topic.out c.put_topic.new.out c.args.topics.now c.loop-topic.topic-index c.topic-item.result c.loop-topic-test.true c.topic-item.is c.loop-topic.invariant c.in_ok-put_topic.ensures

pub returns : goal.returns
returns c =
    subst (λ (v : ℤ). Put c.args.out.now c.loop-topic.out (flat_map (fetched_topic_fields v c.args.isolation) c.args.topics.now)) (to_z-of_z w16 c.args.version c.ranges.version)
    (subst (λ (z : ℤ). Put c.args.out.now c.loop-topic.out (flat_map (fetched_topic_fields (version_of c.args.version) z) c.args.topics.now)) (to_z-of_z w8 c.args.isolation c.ranges.isolation)
    (put_all (fetched_topic_fields (version_of c.args.version) (level c.args.isolation)) c.args.out.now c.loop-topic.out c.args.topics.now c.loop-topic.topic-index c.loop-topic-test.false c.loop-topic.invariant))
