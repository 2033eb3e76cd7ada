use Rattle.std.proofs.Common.{◌≡◌, ◌<◌, ℕ, ℤ, pos, sym, List, [], ◌∷◌, length, get_or, take, ◌+◌, ap, subst, ◌∙◌, arith}
use Rattle.std.proofs.lemmas.Int.{to_z-of_z}
use Rattle.std.proofs.lemmas.List.{get_or_default}
use Rattle.std.specs.Int.{w32}
use Rattle.kwire.specs.declared.request.FetchPart.{FetchPart}
use Rattle.kwire.specs.declared.request.FetchTopic.{FetchTopic}
use Rattle.kanswer.specs.Decisions.{fetch_decision, fetch_decisions, fetch_parts}
use Rattle.kanswer.proofs.Laws.{fetch_next}
use Rattle.kwire.specs.Configuration.{part_of}
use Rattle.audit.specs.retelling.Retells.{Retells}
use Rattle.audit.proofs.retelling.ByPoints.{fetched_on}
use Rattle.audit.proofs.retelling.accepting.retell_fetch_topic.Goals as goal

pub loop-asked-preserved : goal.loop-asked-preserved
loop-asked-preserved c =
    let pasts = c.args.scene.now.pasts.now in
    let points = c.args.scene.now.points.now in
    let config = c.args.scene.now.config.now in
    let topic = c.args.topic.now in
    let items : c.as_slice-asked-items.result.now ≡ topic.parts = c.as_slice-asked-items.ensures ∙ ap (λ (t : FetchTopic). t.parts) c.topic.view_is in
    let i = c.loop-asked.asked-index in
    let none : FetchPart = record { index = pos 0; offset = pos 0; log_start = pos 0; most = pos 0 } in
    let part : FetchPart = get_or c.as_slice-asked-items.result.now i none in
    let within : i < length topic.parts = omega (arith, c.loop-asked-test.true, ap length items) in
    let is : part ≡ get_or topic.parts i part = ap (λ (xs : List FetchPart). get_or xs i none) items ∙ get_or_default topic.parts i none part within in
    let same = to_z-of_z w32 c.args.replica c.ranges.replica in
    let here = c.loop-asked.retold in
    let next = c.retell_fetch_part.new.retold in
    let d = subst (λ (r : ℤ). Retells pasts points (fetch_decision config r (c.topic.inside.name.now, part) (part_of config c.topic.inside.name.now part.index) ∷ []) here next) same c.in_ok-retell_fetch_part.ensures in
    let before = subst (λ (r : ℤ). Retells pasts points (fetch_decisions config r (fetch_parts (record { name = topic.name; parts = take i topic.parts } ∷ []))) c.args.retold.now here) same c.loop-asked.invariant in
    let one = subst (λ (name : List ℕ). Retells pasts points (fetch_decision config c.args.replica (name, part) (part_of config name part.index) ∷ []) here next) (ap (λ (t : FetchTopic). t.name) c.topic.view_is) d in
    subst (λ (r : ℤ). Retells pasts points (fetch_decisions config r (fetch_parts (record { name = topic.name; parts = take (i + 1) topic.parts } ∷ []))) c.args.retold.now next) (sym same)
    (fetched_on config c.args.replica pasts points (record { name = topic.name; parts = take i topic.parts } ∷ []) (record { name = topic.name; parts = part ∷ [] } ∷ []) (record { name = topic.name; parts = take (i + 1) topic.parts } ∷ [])
    c.args.retold.now here next (fetch_next topic.name topic.parts i part within is) before one)
