use Rattle.std.proofs.Common.{◌≡◌, ℤ, List, refl, sym, ap, subst, ◌∙◌, rules, to_z, of_z, inl, inr}
use Rattle.std.proofs.lemmas.Int.{to_z-of_z}
use Rattle.std.specs.Int.{w16, w32}
use mir.Val.{SFits}
use Rattle.std.specs.Prelude.{Some, None, is_some}
use Rattle.std.specs.Option.{option_copied}
use Rattle.kanswer.specs.Answer.{asked_parts}
use Rattle.kanswer.specs.Decisions.{Decides, Decision, fetch_decisions, fetch_parts}
use Rattle.kwire.specs.declared.request.Ask.{Ask}
use Rattle.kwire.specs.declared.request.Ask.TheVariants.{Produce, Fetch}
use Rattle.kwire.specs.declared.request.FetchTopic.{FetchTopic}
use Rattle.kwire.specs.declared.request.Request.{Request}
use Rattle.kwire.specs.Views.{ask_of}
use Rattle.shared_calls.specs.Carried.{HasStopped}
use Rattle.shared_calls.specs.Stand.{HasFetched, HasProduced, IsStopped, stand}
use Rattle.shared_calls.proofs.One.{on_err_then, on_ok}
use Rattle.shared_calls.proofs.Whole.{NamesNothing, come_results, decided_produce, fetch_accepted, none_accepted, nothing_decided, nothing_read, produce_accepted}
use Rattle.shared_calls.proofs.accepting.carry_out.Goals as goal

pub returns-in-Produce-clause-accepted : goal.returns-in-Produce-clause-accepted
returns-in-Produce-clause-accepted g c =
    let p = c.in-Produce in
    let fits : SFits w16 p.acks = search rules in
    let version_fits : SFits w16 p.version = search rules in
    let config = c.args.call.now.config.now in
    let seq = c.args.call.now.by.now.seq in
    let request = c.args.request.now in
    let id = option_copied p.transactional in
    let ask : request.ask ≡ Produce p.version id p.acks p.timeout p.topics = sym (ap (λ (r : Request). r.ask) c.request.view_is) ∙ ap ask_of p.is in
    let some : is_some id ≡ is_some p.transactional = elim p.transactional as (λ o. is_some (option_copied o) ≡ is_some o) [ None ↦ refl | Some x ↦ refl ] in
    let new = c.produce_topics.new in
    on_ok c.produce_topics.result c.produce_topics.ensures.come (λ come decisions decided.
    produce_accepted c.args.call.now.is_read config seq request decisions c.args.pass.now c.args.points.now new.pass new.points c.args.came.now new.came c.requires.nothing p.version id p.acks p.timeout p.topics ask
    (decided_produce config request.ask decisions p.version id p.acks p.timeout p.topics c.as_slice.result.now (record { version = to_z w16 (of_z w16 p.version); is_transactional = c.is_some.result; acks = to_z w16 (of_z w16 p.acks) })
    (λ next. HasProduced config seq next (stand c.args.pass.now c.args.points.now c.args.came.now) (stand new.pass new.points new.came)) ask (some ∙ sym c.is_some.ensures) (to_z-of_z w16 p.version version_fits) (to_z-of_z w16 p.acks fits) c.as_slice.ensures come decided))

pub returns-in-Produce-clause-results : goal.returns-in-Produce-clause-results
returns-in-Produce-clause-results g c =
    let p = c.in-Produce in
    let fits : SFits w16 p.acks = search rules in
    let version_fits : SFits w16 p.version = search rules in
    let config = c.args.call.now.config.now in
    let seq = c.args.call.now.by.now.seq in
    let request = c.args.request.now in
    let id = option_copied p.transactional in
    let ask : request.ask ≡ Produce p.version id p.acks p.timeout p.topics = sym (ap (λ (r : Request). r.ask) c.request.view_is) ∙ ap ask_of p.is in
    let some : is_some id ≡ is_some p.transactional = elim p.transactional as (λ o. is_some (option_copied o) ≡ is_some o) [ None ↦ refl | Some x ↦ refl ] in
    let new = c.produce_topics.new in
    on_ok c.produce_topics.result c.produce_topics.ensures.come (λ come decisions decided.
    let h = decided_produce config request.ask decisions p.version id p.acks p.timeout p.topics c.as_slice.result.now (record { version = to_z w16 (of_z w16 p.version); is_transactional = c.is_some.result; acks = to_z w16 (of_z w16 p.acks) })
    (λ next. HasProduced config seq next (stand c.args.pass.now c.args.points.now c.args.came.now) (stand new.pass new.points new.came)) ask (some ∙ sym c.is_some.ensures) (to_z-of_z w16 p.version version_fits) (to_z-of_z w16 p.acks fits) c.as_slice.ensures come decided in
    come_results c.args.call.now.is_read config seq request decisions c.args.pass.now c.args.points.now new.pass new.points c.args.came.now new.came c.requires.nothing h.noted h.come)

pub returns-in-Produce-clause-stopped : goal.returns-in-Produce-clause-stopped
returns-in-Produce-clause-stopped g c =
    let p = c.in-Produce in
    let fits : SFits w16 p.acks = search rules in
    let version_fits : SFits w16 p.version = search rules in
    let config = c.args.call.now.config.now in
    let seq = c.args.call.now.by.now.seq in
    let request = c.args.request.now in
    let id = option_copied p.transactional in
    let ask : request.ask ≡ Produce p.version id p.acks p.timeout p.topics = sym (ap (λ (r : Request). r.ask) c.request.view_is) ∙ ap ask_of p.is in
    let some : is_some id ≡ is_some p.transactional = elim p.transactional as (λ o. is_some (option_copied o) ≡ is_some o) [ None ↦ refl | Some x ↦ refl ] in
    let new = c.produce_topics.new in
    on_err_then c.produce_topics.result c.produce_topics.ensures.stopped (λ stopped decisions decided.
    decided_produce config request.ask decisions p.version id p.acks p.timeout p.topics c.as_slice.result.now (record { version = to_z w16 (of_z w16 p.version); is_transactional = c.is_some.result; acks = to_z w16 (of_z w16 p.acks) })
    (λ next. IsStopped config seq next (stand c.args.pass.now c.args.points.now c.args.came.now) new.pass new.points) ask (some ∙ sym c.is_some.ensures) (to_z-of_z w16 p.version version_fits) (to_z-of_z w16 p.acks fits) c.as_slice.ensures stopped decided)

pub returns-in-Fetch-clause-accepted : goal.returns-in-Fetch-clause-accepted
returns-in-Fetch-clause-accepted g c =
    let f = c.in-Fetch in
    let fits : SFits w32 f.replica = search rules in
    let config = c.args.call.now.config.now in
    let seq = c.args.call.now.by.now.seq in
    let request = c.args.request.now in
    let ask : request.ask ≡ Fetch f.version f.replica f.max_wait f.min_bytes f.max_bytes f.isolation f.topics = sym (ap (λ (r : Request). r.ask) c.request.view_is) ∙ ap ask_of f.is in
    let new = c.fetch_topics.new in
    let D : ℤ → List FetchTopic → List Decision → Type 0 = λ r ts ds. HasFetched config seq ds r (asked_parts ts) (stand c.args.pass.now c.args.points.now c.args.came.now) c.reply_room-budget.result (stand new.pass new.points new.came) new.budget in
    on_ok c.fetch_topics.result c.fetch_topics.ensures.come (λ come decisions decided.
    let one = subst (λ (r : ℤ). D r c.as_slice-topics.result.now (fetch_decisions config r (fetch_parts c.as_slice-topics.result.now))) (to_z-of_z w32 f.replica fits) come in
    let two = subst (λ (ts : List FetchTopic). D f.replica ts (fetch_decisions config f.replica (fetch_parts ts))) c.as_slice-topics.ensures one in
    let same : decisions ≡ fetch_decisions config f.replica (fetch_parts f.topics) = subst (λ (a : Ask). Decides config a decisions) ask decided in
    fetch_accepted c.args.call.now.is_read config seq request decisions c.args.pass.now c.args.points.now new.pass new.points c.args.came.now new.came c.requires.nothing f.version f.replica f.max_wait f.min_bytes f.max_bytes f.isolation f.topics
    c.reply_room-budget.result new.budget ask c.reply_room-budget.ensures.read (subst (D f.replica f.topics) (sym same) two))

pub returns-in-Fetch-clause-results : goal.returns-in-Fetch-clause-results
returns-in-Fetch-clause-results g c =
    let f = c.in-Fetch in
    let fits : SFits w32 f.replica = search rules in
    let config = c.args.call.now.config.now in
    let seq = c.args.call.now.by.now.seq in
    let request = c.args.request.now in
    let ask : request.ask ≡ Fetch f.version f.replica f.max_wait f.min_bytes f.max_bytes f.isolation f.topics = sym (ap (λ (r : Request). r.ask) c.request.view_is) ∙ ap ask_of f.is in
    let new = c.fetch_topics.new in
    let D : ℤ → List FetchTopic → List Decision → Type 0 = λ r ts ds. HasFetched config seq ds r (asked_parts ts) (stand c.args.pass.now c.args.points.now c.args.came.now) c.reply_room-budget.result (stand new.pass new.points new.came) new.budget in
    on_ok c.fetch_topics.result c.fetch_topics.ensures.come (λ come decisions decided.
    let one = subst (λ (r : ℤ). D r c.as_slice-topics.result.now (fetch_decisions config r (fetch_parts c.as_slice-topics.result.now))) (to_z-of_z w32 f.replica fits) come in
    let two = subst (λ (ts : List FetchTopic). D f.replica ts (fetch_decisions config f.replica (fetch_parts ts))) c.as_slice-topics.ensures one in
    let same : decisions ≡ fetch_decisions config f.replica (fetch_parts f.topics) = subst (λ (a : Ask). Decides config a decisions) ask decided in
    let h = subst (D f.replica f.topics) (sym same) two in
    come_results c.args.call.now.is_read config seq request decisions c.args.pass.now c.args.points.now new.pass new.points c.args.came.now new.came c.requires.nothing h.noted h.come)

pub returns-in-Fetch-clause-stopped : goal.returns-in-Fetch-clause-stopped
returns-in-Fetch-clause-stopped g c =
    let f = c.in-Fetch in
    let fits : SFits w32 f.replica = search rules in
    let config = c.args.call.now.config.now in
    let seq = c.args.call.now.by.now.seq in
    let request = c.args.request.now in
    let ask : request.ask ≡ Fetch f.version f.replica f.max_wait f.min_bytes f.max_bytes f.isolation f.topics = sym (ap (λ (r : Request). r.ask) c.request.view_is) ∙ ap ask_of f.is in
    let new = c.fetch_topics.new in
    let D : List Decision → Type 0 = λ ds. HasStopped config seq ds c.args.pass.now c.args.points.now new.pass new.points in
    on_err_then c.fetch_topics.result c.fetch_topics.ensures.stopped (λ stopped decisions decided.
    let one = subst (λ (r : ℤ). D (fetch_decisions config r (fetch_parts c.as_slice-topics.result.now))) (to_z-of_z w32 f.replica fits) stopped in
    let two = subst (λ (ts : List FetchTopic). D (fetch_decisions config f.replica (fetch_parts ts))) c.as_slice-topics.ensures one in
    let same : decisions ≡ fetch_decisions config f.replica (fetch_parts f.topics) = subst (λ (a : Ask). Decides config a decisions) ask decided in
    subst D (sym same) two)

pub returns-in-Metadata-clause-accepted : goal.returns-in-Metadata-clause-accepted
returns-in-Metadata-clause-accepted g c decisions decided =
    let config = c.args.call.now.config.now in
    let request = c.args.request.now in
    let seen : NamesNothing (ask_of c.request.inside.ask) = elim c.in-Metadata.is [
      | inl m ↦ subst NamesNothing (sym (ap ask_of m.1)) tt
      | inr v ↦ subst NamesNothing (sym (ap ask_of v.1)) tt
    ] in
    let silent : NamesNothing request.ask = subst (λ (r : Request). NamesNothing r.ask) c.request.view_is seen in
    none_accepted c.args.call.now.is_read config c.args.call.now.by.now.seq request decisions c.args.pass.now c.args.points.now c.args.came.now c.requires.nothing (nothing_decided config request.ask decisions silent decided) (nothing_read request.ask silent)

pub returns-in-Metadata-2-clause-accepted : goal.returns-in-Metadata-2-clause-accepted
returns-in-Metadata-2-clause-accepted g c decisions decided =
    let config = c.args.call.now.config.now in
    let request = c.args.request.now in
    let seen : NamesNothing (ask_of c.request.inside.ask) = elim c.in-Metadata.is [
      | inl m ↦ subst NamesNothing (sym (ap ask_of m.1)) tt
      | inr v ↦ subst NamesNothing (sym (ap ask_of v.1)) tt
    ] in
    let silent : NamesNothing request.ask = subst (λ (r : Request). NamesNothing r.ask) c.request.view_is seen in
    none_accepted c.args.call.now.is_read config c.args.call.now.by.now.seq request decisions c.args.pass.now c.args.points.now c.args.came.now c.requires.nothing (nothing_decided config request.ask decisions silent decided) (nothing_read request.ask silent)
