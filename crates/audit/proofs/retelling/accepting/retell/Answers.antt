use Rattle.std.proofs.Common.{◌≡◌, ℤ, List, refl, sym, ap, subst, ◌∙◌, rules}
use Rattle.std.proofs.lemmas.Int.{to_z-of_z}
use Rattle.std.specs.Int.{w16, w32}
use Rattle.std.specs.List.{AllZip}
use mir.Val.{SFits, to_z, of_z}
use Rattle.std.specs.Prelude.{Some, None, is_some}
use Rattle.std.specs.Option.{option_copied}
use Rattle.kwire.specs.declared.request.Ask.{Ask}
use Rattle.kwire.specs.declared.request.Ask.TheVariants.{Produce, Fetch}
use Rattle.kwire.specs.declared.request.Request.{Request}
use Rattle.kwire.specs.Views.{ask_of}
use Rattle.kwire.specs.declared.request.ProduceTopic.{ProduceTopic}
use Rattle.kwire.specs.declared.request.FetchTopic.{FetchTopic}
use Rattle.kanswer.specs.Decisions.{Decision, Decides, ProduceDecides, fetch_decisions, fetch_parts, produce_parts}
use Rattle.audit.proofs.Laws.{on_ok}
use Rattle.audit.proofs.retelling.accepting.retell.Goals as goal

pub returns-in-Produce : goal.returns-in-Produce
returns-in-Produce c =
    let fits : SFits w16 c.in-Produce.acks = search rules in
    let version_fits : SFits w16 c.in-Produce.version = search rules in
    let version = to_z w16 (of_z w16 c.in-Produce.version) in
    let config = c.args.scene.now.config.now in
    let transactional = c.in-Produce.transactional in
    let id = option_copied transactional in
    let ask : c.args.request.now.ask ≡ Produce c.in-Produce.version id c.in-Produce.acks c.in-Produce.timeout c.in-Produce.topics = sym (ap (λ (r : Request). r.ask) c.request.view_is) ∙ ap ask_of c.in-Produce.is in
    let some : is_some id ≡ is_some transactional = elim transactional as (λ o. is_some (option_copied o) ≡ is_some o) [ None ↦ refl | Some x ↦ refl ] in
    on_ok c.retell_produce.result c.retell_produce.ensures (λ p. (
      p.decisions,
      subst (λ (a : Ask). Decides config a p.decisions) (sym ask)
          (subst (λ (v : ℤ). AllZip (ProduceDecides config v id c.in-Produce.acks) (produce_parts c.in-Produce.topics) p.decisions) (to_z-of_z w16 c.in-Produce.version version_fits)
          (subst (λ (z : ℤ). AllZip (ProduceDecides config version id z) (produce_parts c.in-Produce.topics) p.decisions) (to_z-of_z w16 c.in-Produce.acks fits)
          (subst (λ (ts : List ProduceTopic). AllZip (ProduceDecides config version id (to_z w16 (of_z w16 c.in-Produce.acks))) (produce_parts ts) p.decisions) c.as_slice.ensures (p.decided id (some ∙ sym c.is_some.ensures))))),
      p.retold,
    ))

pub returns-in-Fetch : goal.returns-in-Fetch
returns-in-Fetch c =
    let fits : SFits w32 c.in-Fetch.replica = search rules in
    let config = c.args.scene.now.config.now in
    let ask : c.args.request.now.ask ≡ Fetch c.in-Fetch.version c.in-Fetch.replica c.in-Fetch.max_wait c.in-Fetch.min_bytes c.in-Fetch.max_bytes c.in-Fetch.isolation c.in-Fetch.topics = sym (ap (λ (r : Request). r.ask) c.request.view_is) ∙ ap ask_of c.in-Fetch.is in
    let ds : List Decision = fetch_decisions config (to_z w32 (of_z w32 c.in-Fetch.replica)) (fetch_parts c.as_slice-in-Fetch.result.now) in
    let same : ds ≡ fetch_decisions config c.in-Fetch.replica (fetch_parts c.in-Fetch.topics) =
    ap (λ (r : ℤ). fetch_decisions config r (fetch_parts c.as_slice-in-Fetch.result.now)) (to_z-of_z w32 c.in-Fetch.replica fits) ∙ ap (λ (ts : List FetchTopic). fetch_decisions config c.in-Fetch.replica (fetch_parts ts)) c.as_slice-in-Fetch.ensures in
    on_ok c.retell_fetch.result c.retell_fetch.ensures (λ k. (ds, subst (λ (a : Ask). Decides config a ds) (sym ask) same, k))
