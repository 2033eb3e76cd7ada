use Rattle.std.proofs.Common.{◌≡◌, length, map, sym, ap, ◌∙◌, subst, rules, to_z, of_z, inl, inr}
use Rattle.std.proofs.lemmas.Int.{to_z-of_z}
use Rattle.std.proofs.lemmas.List.{length-map}
use Rattle.std.specs.Int.{w32}
use mir.Val.{SFits}
use Rattle.kwire.specs.declared.request.Ask.TheVariants.{Fetch}
use Rattle.kwire.specs.declared.request.Request.{Request}
use Rattle.kwire.specs.Views.{ask_of}
use Rattle.kanswer.specs.Answer.{asked_parts}
use Rattle.audit.proofs.retelling.Reread.{IsNoFetch, asks_long, fetch_are, if_ok_then, other_are}
use Rattle.audit.proofs.retelling.rereading.reread.Goals as goal

pub read_fetch-requires-clause-results : goal.read_fetch-requires-clause-results
read_fetch-requires-clause-results c =
    let a = c.in-Fetch in
    let ask : c.args.request.now.ask ≡ Fetch a.version a.replica a.max_wait a.min_bytes a.max_bytes a.isolation a.topics = sym (ap (λ (r : Request). r.ask) c.request.view_is) ∙ ap ask_of a.is in
    let refs = c.as_slice-in-Fetch.result.now in
    let same = ap (map (λ asked. asked.now)) c.as_slice-in-Fetch.ensures ∙ c.in_ok-asked-in-Fetch.ensures ∙ ap asked_parts c.as_slice.ensures in
    asks_long c.args.request.now.ask a.version a.replica a.max_wait a.min_bytes a.max_bytes a.isolation a.topics (map (λ asked. asked.now) refs) (length c.args.accepted.now) ask same c.requires.results ∙ length-map refs (λ asked. asked.now)

pub read_fetch-requires-clause-places : goal.read_fetch-requires-clause-places
read_fetch-requires-clause-places c =
    let a = c.in-Fetch in
    let ask : c.args.request.now.ask ≡ Fetch a.version a.replica a.max_wait a.min_bytes a.max_bytes a.isolation a.topics = sym (ap (λ (r : Request). r.ask) c.request.view_is) ∙ ap ask_of a.is in
    let refs = c.as_slice-in-Fetch.result.now in
    let same = ap (map (λ asked. asked.now)) c.as_slice-in-Fetch.ensures ∙ c.in_ok-asked-in-Fetch.ensures ∙ ap asked_parts c.as_slice.ensures in
    asks_long c.args.request.now.ask a.version a.replica a.max_wait a.min_bytes a.max_bytes a.isolation a.topics (map (λ asked. asked.now) refs) (length c.args.places.now) ask same (c.requires.places ∙ c.requires.results) ∙ length-map refs (λ asked. asked.now)

pub returns-in_ok-asked-in-Fetch-clause-read : goal.returns-in_ok-asked-in-Fetch-clause-read
returns-in_ok-asked-in-Fetch-clause-read c =
    let a = c.in-Fetch in
    let fits : SFits w32 a.replica = search rules in
    let ask : c.args.request.now.ask ≡ Fetch a.version a.replica a.max_wait a.min_bytes a.max_bytes a.isolation a.topics = sym (ap (λ (r : Request). r.ask) c.request.view_is) ∙ ap ask_of a.is in
    let refs = c.as_slice-in-Fetch.result.now in
    let same = ap (map (λ asked. asked.now)) c.as_slice-in-Fetch.ensures ∙ c.in_ok-asked-in-Fetch.ensures ∙ ap asked_parts c.as_slice.ensures in
    if_ok_then c.read_fetch.result c.read_fetch.ensures.read (λ readings e shown are.
    fetch_are c.args.request.now.ask a.version (to_z w32 (of_z w32 a.replica)) a.replica a.max_wait a.min_bytes a.max_bytes a.isolation a.topics (map (λ asked. asked.now) refs) c.args.accepted.now readings shown c.of-budget.result
    ask (to_z-of_z w32 a.replica fits) same c.of-budget.ensures (e shown are))

pub returns-in-Produce-clause-read : goal.returns-in-Produce-clause-read
returns-in-Produce-clause-read c =
    let seen : IsNoFetch (ask_of c.request.inside.ask) = elim c.in-Produce.is [
      | inl p ↦ subst IsNoFetch (sym (ap ask_of p.5)) tt
      | inr o ↦ elim o [
        | inl m ↦ subst IsNoFetch (sym (ap ask_of m.1)) tt
        | inr v ↦ subst IsNoFetch (sym (ap ask_of v.1)) tt
      ]
    ] in
    let other : IsNoFetch c.args.request.now.ask = subst (λ (r : Request). IsNoFetch r.ask) c.request.view_is seen in
    if_ok_then c.read_numbers.result c.read_numbers.ensures.read (λ readings e. other_are c.args.pasts.now c.args.request.now.ask c.args.accepted.now c.args.places.now readings other c.requires.results e)
