use Rattle.std.proofs.Common.{Bool, sym, subst, ap}
use Rattle.audit.specs.declared.account.Call.{Call}
use Rattle.shared_broker.specs.Calling.{IsMadeOfReply}
use Rattle.shared_broker.specs.Passes.{PassView}
use Rattle.trace_workers.specs.Received.{HasReceived}
use Rattle.trace_workers.specs.Sessions.{SessionView}
use Rattle.trace_workers.proofs.Frames.{collected}
use Rattle.trace_workers.proofs.Going.{seen}
use Rattle.trace_workers.proofs.Telling.{kept_still}
use Rattle.trace_workers.proofs.session.TraceSession.collect.Goals as goal

pub shorten-requires-clause-received : goal.shorten-requires-clause-received
shorten-requires-clause-received g c =
    let i = c.self.inside in
    let s : SessionView = record { number = i.number; pass = i.pass; inbox = i.inbox; is_shut = i.is_shut; is_named = i.is_named; kept = i.kept } in
    let e = c.in-Reply.ensures in
    let new = c.ask_again.new.pass in
    let call : Call = record e.0.call { finish = e.0.finish; how = e.0.how } in
    let put = c.in_ok-put_line-in-Reply.ensures.line in
    let made = subst (λ (b : Bool). IsMadeOfReply b new call c.in-Reply.frame) c.is_some.ensures e.2 in
    let r = c.requires.received in
    (r.0, collected r.0 s new c.put_line.new.kept c.in-Reply.frame e.0 e.1 made put (subst (HasReceived r.0) (sym c.self.view_is) r.1))

pub returns-in_ok-shorten-in-Reply-clause-received : goal.returns-in_ok-shorten-in-Reply-clause-received
returns-in_ok-shorten-in-Reply-clause-received g c input h =
    let i = c.self.inside in
    let s : SessionView = record { number = i.number; pass = i.pass; inbox = i.inbox; is_shut = i.is_shut; is_named = i.is_named; kept = i.kept } in
    let e = c.in-Reply.ensures in
    let new = c.ask_again.new.pass in
    let call : Call = record e.0.call { finish = e.0.finish; how = e.0.how } in
    let put = c.in_ok-put_line-in-Reply.ensures.line in
    let made = subst (λ (b : Bool). IsMadeOfReply b new call c.in-Reply.frame) c.is_some.ensures e.2 in
    c.in_ok-shorten-in-Reply.ensures.received input (collected input s new c.put_line.new.kept c.in-Reply.frame e.0 e.1 made put (subst (HasReceived input) (sym c.self.view_is) h))

pub returns-in-NotYet-clause-received : goal.returns-in-NotYet-clause-received
returns-in-NotYet-clause-received g c input h =
    let i = c.self.inside in
    let s : SessionView = record { number = i.number; pass = i.pass; inbox = i.inbox; is_shut = i.is_shut; is_named = i.is_named; kept = i.kept } in
    let e = c.in-NotYet.ensures in
    let p = e.2 in
    let new = c.ask_again.new.pass in
    seen input s new s.kept (ap (λ (x : PassView). x.ended) p) (ap (λ (x : PassView). x.going) p) (ap (λ (x : PassView). x.waits) p)
    (λ calls k. kept_still s.kept s.number s.pass new calls (ap (λ (x : PassView). x.config) p) e.1.parts e.1.clock k) (subst (HasReceived input) (sym c.self.view_is) h)
