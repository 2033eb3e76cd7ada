use Rattle.std.proofs.Common.{◌≡◌, ◌<◌, ℕ, pos, List, [], ◌∷◌, length, get_or, take, ◌+◌, ap, subst, ◌∙◌, arith}
use Rattle.kwire.specs.declared.request.FetchPart.{FetchPart}
use Rattle.kwire.specs.declared.request.FetchTopic.{FetchTopic}
use Rattle.kanswer.specs.Decisions.{fetch_decision}
use Rattle.kwire.specs.Configuration.{part_of}
use Rattle.lone_broker.specs.Carried.{IsCarried}
use Rattle.std.proofs.lemmas.List.{get_or_default}
use Rattle.kanswer.proofs.Laws.{fetch_next}
use Rattle.lone_broker.proofs.ProduceParts.{fetched_on}
use Rattle.lone_broker.proofs.Followers.{carried_followers}
use Rattle.lone_broker.proofs.accept.fetch_topic.Goals as goal

pub loop-part-preserved : goal.loop-part-preserved
loop-part-preserved c =
    let items : c.as_slice-part-items.result.now ≡ c.args.topic.now.parts = c.as_slice-part-items.ensures ∙ ap (λ (t : FetchTopic). t.parts) c.topic.view_is in
    let call = c.args.call.now in
    let config = call.config.now in
    let topic = c.args.topic.now in
    let i = c.loop-part.part-index in
    let none : FetchPart = record { index = pos 0; offset = pos 0; log_start = pos 0; most = pos 0 } in
    let part : FetchPart = get_or c.as_slice-part-items.result.now i none in
    let within : i < length topic.parts = omega (arith, c.loop-part-test.true, ap length items) in
    let is : part ≡ get_or topic.parts i part = ap (λ (xs : List FetchPart). get_or xs i none) items ∙ get_or_default topic.parts i none part within in
    let d = c.in_ok-fetch_one.ensures in
    let one = subst (λ (name : List ℕ). IsCarried call.visitor.who.by call.visitor.who.seq call.visitor.moment (fetch_decision config call.replica (name, part) (part_of config name part.index) ∷ []) c.loop-part.parts c.fetch_one.new.parts c.loop-part.came c.fetch_one.new.came) (ap (λ (t : FetchTopic). t.name) c.topic.view_is) d in
    record {
      followers = carried_followers call.visitor.who.by call.visitor.who.seq call.visitor.moment _ c.loop-part.parts c.fetch_one.new.parts c.loop-part.came c.fetch_one.new.came d ∙ c.loop-part.invariant.followers;
      carried = fetched_on config call.replica call.visitor.who.by call.visitor.who.seq call.visitor.moment (record { name = topic.name; parts = take i topic.parts } ∷ []) (record { name = topic.name; parts = part ∷ [] } ∷ []) (record { name = topic.name; parts = take (i + 1) topic.parts } ∷ []) c.args.parts.now c.loop-part.parts c.fetch_one.new.parts c.args.came.now c.loop-part.came c.fetch_one.new.came (fetch_next topic.name topic.parts i part within is) c.loop-part.invariant.carried one;
    }
