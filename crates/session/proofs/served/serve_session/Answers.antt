use Rattle.std.proofs.Common.{sym, subst, arith}
use Rattle.session.specs.Flows.{LinkView, link_of}
use Rattle.session.specs.Onwards.{HasGoneOn}
use Rattle.session.specs.Standing.{began}
use Rattle.session.proofs.Flowing.{shut_still}
use Rattle.session.proofs.Going.{on_twice}
use Rattle.session.proofs.Serving.{ended_idle, ended_on, has_left_open, has_served, is_begun, may_end, same_idle}
use Rattle.session.proofs.served.serve_session.Goals as goal

pub finish-finished-requires-clause-begun : goal.finish-finished-requires-clause-begun
finish-finished-requires-clause-begun g c = is_begun _ _ _ _ _ c.run-end.ensures.ending

pub finish-finished-requires-clause-none : goal.finish-finished-requires-clause-none
finish-finished-requires-clause-none g c = c.run-end.ensures.ending.begun.waits

pub finish-finished-requires-clause-cut : goal.finish-finished-requires-clause-cut
finish-finished-requires-clause-cut g c = may_end _ _ _ _ _ c.run-end.ensures.ending

pub returns-in-Ok-clause-served : goal.returns-in-Ok-clause-served
returns-in-Ok-clause-served g c =
    let link : LinkView = link_of (g.L.Link.taken c.args.link.now) (g.L.Link.left c.args.link.now) (g.L.Link.written c.args.link.now) (g.L.Link.faults c.args.link.now) in
    let served : LinkView = link_of (g.L.Link.taken c.run-end.new.link) (g.L.Link.left c.run-end.new.link) (g.L.Link.written c.run-end.new.link) (g.L.Link.faults c.run-end.new.link) in
    let now : LinkView = link_of (g.L.Link.taken c.shut.new.self) (g.L.Link.left c.shut.new.self) (g.L.Link.written c.shut.new.self) (g.L.Link.faults c.shut.new.self) in
    let f = c.shut.ensures in
    has_served (began c.args.number c.args.pass.now link) c.run-end.new.seat.told c.run-end.result c.run-end.new.pass c.finish-finished.new.pass served now c.run-end.ensures.ending
    (shut_still served now f.taken f.left f.written f.faults) f.left f.faults c.in-Ok.ensures.ended

pub returns-in-Ok-clause-pass : goal.returns-in-Ok-clause-pass
returns-in-Ok-clause-pass g c =
    let told = c.run-end.new.seat.told in
    let pass = c.run-end.new.pass in
    let new = c.finish-finished.new.pass in
    on_twice told told c.args.pass.now pass new (omega arith) c.run-end.ensures.ending.begun.on (ended_on told c.run-end.result pass new c.in-Ok.ensures.ended)

pub returns-in-Ok-clause-none : goal.returns-in-Ok-clause-none
returns-in-Ok-clause-none g c = ended_idle c.run-end.result c.run-end.new.pass c.finish-finished.new.pass c.in-Ok.ensures.ended c.run-end.ensures.ending.begun.waits

pub returns-in-Err-clause-served : goal.returns-in-Err-clause-served
returns-in-Err-clause-served g c =
    let link : LinkView = link_of (g.L.Link.taken c.args.link.now) (g.L.Link.left c.args.link.now) (g.L.Link.written c.args.link.now) (g.L.Link.faults c.args.link.now) in
    let served : LinkView = link_of (g.L.Link.taken c.run-end.new.link) (g.L.Link.left c.run-end.new.link) (g.L.Link.written c.run-end.new.link) (g.L.Link.faults c.run-end.new.link) in
    let now : LinkView = link_of (g.L.Link.taken c.shut.new.self) (g.L.Link.left c.shut.new.self) (g.L.Link.written c.shut.new.self) (g.L.Link.faults c.shut.new.self) in
    let f = c.shut.ensures in
    has_left_open (began c.args.number c.args.pass.now link) c.run-end.new.seat.told c.run-end.result c.run-end.new.pass c.finish-finished.new.pass served now c.run-end.ensures.ending
    (shut_still served now f.taken f.left f.written f.faults) f.left f.faults c.in-Err.ensures.refused

pub returns-in-Err-clause-pass : goal.returns-in-Err-clause-pass
returns-in-Err-clause-pass g c = subst (HasGoneOn c.run-end.new.seat.told c.args.pass.now) (sym c.in-Err.ensures.refused) c.run-end.ensures.ending.begun.on

pub returns-in-Err-clause-none : goal.returns-in-Err-clause-none
returns-in-Err-clause-none g c = same_idle c.run-end.new.pass c.finish-finished.new.pass c.in-Err.ensures.refused c.run-end.ensures.ending.begun.waits
