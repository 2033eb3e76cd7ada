use Rattle.std.proofs.Common.{[], ℕ, List, sym, subst}
use Rattle.session.specs.Flows.{LinkView, link_of}
use Rattle.session.specs.Standing.{IsServing, began}
use Rattle.session.proofs.Serving.{gives_up, opens}
use Rattle.session.proofs.answers.Room.run.Goals as goal

pub serve-requires-clause-serving : goal.serve-requires-clause-serving
serve-requires-clause-serving g c =
    let link : LinkView = link_of (g.L.Link.taken c.args.link.now) (g.L.Link.left c.args.link.now) (g.L.Link.written c.args.link.now) (g.L.Link.faults c.args.link.now) in
    let told = c.args.seat.now.told in
    let s = opens c.args.number told c.args.pass.now c.begin.new.pass link c.keeps.ensures.begun c.requires.none c.begin.ensures in
    let start = began c.args.number c.args.pass.now link in
    (start, subst (λ (inbox : List ℕ). IsServing start told c.begin.new.pass link inbox) (sym c.in-Ok.ensures) s)

pub returns-in_default-clause-ending : goal.returns-in_default-clause-ending
returns-in_default-clause-ending g c =
    let link : LinkView = link_of (g.L.Link.taken c.args.link.now) (g.L.Link.left c.args.link.now) (g.L.Link.written c.args.link.now) (g.L.Link.faults c.args.link.now) in
    let told = c.args.seat.now.told in
    let s = opens c.args.number told c.args.pass.now c.begin.new.pass link c.keeps.ensures.begun c.requires.none c.begin.ensures in
    gives_up (began c.args.number c.args.pass.now link) told c.begin.new.pass link link [] s

pub returns-clause-ending : goal.returns-clause-ending
returns-clause-ending g c =
    let link : LinkView = link_of (g.L.Link.taken c.args.link.now) (g.L.Link.left c.args.link.now) (g.L.Link.written c.args.link.now) (g.L.Link.faults c.args.link.now) in
    let told = c.args.seat.now.told in
    let s = opens c.args.number told c.args.pass.now c.begin.new.pass link c.keeps.ensures.begun c.requires.none c.begin.ensures in
    let start = began c.args.number c.args.pass.now link in
    c.serve.ensures.ending start (subst (λ (inbox : List ℕ). IsServing start told c.begin.new.pass link inbox) (sym c.in-Ok.ensures) s)
