use Rattle.std.proofs.Common.{ℤ, [], ◌∷◌, take, ◌+◌, sym, subst, arith}
use Rattle.std.proofs.lemmas.Int.{to_z-of_z}
use Rattle.std.specs.Int.{w32}
use Rattle.kanswer.specs.Decisions.{fetch_decisions, fetch_parts}
use Rattle.kanswer.proofs.Laws.{fetch_next_topic}
use Rattle.audit.specs.retelling.Retells.{Retells}
use Rattle.audit.proofs.retelling.ByPoints.{fetched_on}
use Rattle.audit.proofs.retelling.accepting.retell_fetch.Goals as goal

pub loop-topic-preserved : goal.loop-topic-preserved
loop-topic-preserved c =
    let pasts = c.args.scene.now.pasts.now in
    let points = c.args.scene.now.points.now in
    let config = c.args.scene.now.config.now in
    let ts = c.args.topics.now in
    let i = c.loop-topic.topic-index in
    let same = to_z-of_z w32 c.args.replica c.ranges.replica in
    let here = c.loop-topic.retold in
    let next = c.retell_fetch_topic.new.retold in
    let d = subst (λ (r : ℤ). Retells pasts points (fetch_decisions config r (fetch_parts (c.topic-item.result ∷ []))) here next) same c.in_ok-retell_fetch_topic.ensures in
    let before = subst (λ (r : ℤ). Retells pasts points (fetch_decisions config r (fetch_parts (take i ts))) c.args.retold.now here) same c.loop-topic.invariant in
    subst (λ (r : ℤ). Retells pasts points (fetch_decisions config r (fetch_parts (take (i + 1) ts))) c.args.retold.now next) (sym same)
    (fetched_on config c.args.replica pasts points (take i ts) (c.topic-item.result ∷ []) (take (i + 1) ts) c.args.retold.now here next (fetch_next_topic ts i c.topic-item.result (omega (arith, c.loop-topic-test.true)) c.topic-item.is) before d)
