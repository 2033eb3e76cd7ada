use Rattle.std.proofs.Common.{◌≡◌, sym, ap, ◌∙◌, subst, rules, to_z, of_z, inl, inr}
use Rattle.std.proofs.lemmas.Int.{to_z-of_z}
use Rattle.std.specs.Int.{w32}
use mir.Val.{SFits}
use Rattle.kwire.specs.declared.request.Ask.TheVariants.{Fetch}
use Rattle.kwire.specs.declared.request.Request.{Request}
use Rattle.kwire.specs.Views.{ask_of}
use Rattle.lone_broker.proofs.ReadForReply.{IsNoFetch, if_ok_then, fetch_read, fetch_size, numbers_read_are, numbers_room}
use Rattle.lone_broker.proofs.reply.gather.Goals as goal

pub returns-in-Fetch-clause-read : goal.returns-in-Fetch-clause-read
returns-in-Fetch-clause-read c =
    let a = c.in-Fetch in
    let fits : SFits w32 a.replica = search rules in
    let ask : c.args.request.now.ask ≡ Fetch a.version a.replica a.max_wait a.min_bytes a.max_bytes a.isolation a.topics = sym (ap (λ (r : Request). r.ask) c.request.view_is) ∙ ap ask_of a.is in
    if_ok_then c.read_fetch.result c.read_fetch.ensures.read (λ readings e. fetch_read c.args.parts.now c.args.request.now.ask a.version (to_z w32 (of_z w32 a.replica)) a.replica a.max_wait a.min_bytes a.max_bytes a.isolation a.topics c.as_slice.result.now c.args.accepted.now c.of-budget.result readings ask (to_z-of_z w32 a.replica fits) c.as_slice.ensures c.of-budget.ensures c.requires.size e)

pub returns-in-Fetch-clause-size : goal.returns-in-Fetch-clause-size
returns-in-Fetch-clause-size c =
    let a = c.in-Fetch in
    let ask : c.args.request.now.ask ≡ Fetch a.version a.replica a.max_wait a.min_bytes a.max_bytes a.isolation a.topics = sym (ap (λ (r : Request). r.ask) c.request.view_is) ∙ ap ask_of a.is in
    if_ok_then c.read_fetch.result c.read_fetch.ensures.read (λ readings e. fetch_size c.args.parts.now c.args.request.now.ask a.version (to_z w32 (of_z w32 a.replica)) a.replica a.max_wait a.min_bytes a.max_bytes a.isolation a.topics c.as_slice.result.now c.args.accepted.now c.of-budget.result readings ask c.as_slice.ensures c.requires.size e)

pub returns-in-Produce-clause-read : goal.returns-in-Produce-clause-read
returns-in-Produce-clause-read c =
    let seen : IsNoFetch (ask_of c.request.inside.ask) = elim c.in-Produce.is [
      | inl p ↦ subst IsNoFetch (sym (ap ask_of p.5)) tt
      | inr o ↦ elim o [
        | inl m ↦ subst IsNoFetch (sym (ap ask_of m.1)) tt
        | inr v ↦ subst IsNoFetch (sym (ap ask_of v.1)) tt
      ]
    ] in
    let other : IsNoFetch c.args.request.now.ask = subst (λ (r : Request). IsNoFetch r.ask) c.request.view_is seen in
    if_ok_then c.read_all_numbers.result c.read_all_numbers.ensures.read (λ readings e. numbers_read_are c.args.parts.now c.args.request.now.ask c.args.accepted.now readings other c.requires.size e)

pub returns-in-Produce-clause-room : goal.returns-in-Produce-clause-room
returns-in-Produce-clause-room c =
    if_ok_then c.read_all_numbers.result c.read_all_numbers.ensures.read (λ readings e. numbers_room c.args.parts.now c.args.accepted.now readings _ e)
