use Rattle.std.proofs.Common.{◌≡◌, ◌++◌, ℕ, Bool, List, drop, true, sym, subst, ap, ◌∙◌}
use Rattle.std.specs.Prelude.{is_some}
use Rattle.std.proofs.lemmas.Result.{on_ok_weaker}
use Rattle.kwire.specs.Frames.{framed, next_frame_of}
use Rattle.kwire.specs.declared.frame.Frame.TheVariants.{Whole}
use Rattle.shared_broker.specs.declared.calling.Handled.{Handled}
use Rattle.shared_broker.specs.Calling.{HasHandledAs}
use Rattle.shared_broker.specs.Passes.{PassView}
use Rattle.shared_broker.specs.Sessions.{is_cut_off}
use Rattle.trace_workers.specs.Ending.{EndsSo}
use Rattle.trace_workers.specs.Received.{HasReceived}
use Rattle.trace_workers.specs.Sessions.{SessionView}
use Rattle.trace_workers.proofs.Frames.{ends_so, handled, replied, unreplied}
use Rattle.trace_workers.proofs.Going.{uncut}
use Rattle.trace_workers.proofs.session.TraceSession.handle.Goals as goal

pub ask-requires-clause-whole : goal.ask-requires-clause-whole
ask-requires-clause-whole g c =
    let r = c.requires.received in
    ap (λ (x : SessionView). is_cut_off x.pass.going) c.self.view_is ∙ uncut r.0 c.args.self.now c.requires.begun r.1

pub end-requires-clause-shown : goal.end-requires-clause-shown
end-requires-clause-shown g c =
    let i = c.self.inside in
    let s : SessionView = record { number = i.number; pass = i.pass; inbox = i.inbox; is_shut = i.is_shut; is_named = i.is_named; kept = i.kept } in
    let back = sym c.self.view_is in
    let r = c.requires.received in
    let goes : is_some s.pass.going ≡ true = subst (λ (x : SessionView). is_some x.pass.going ≡ true) back c.requires.begun in
    let whole : next_frame_of s.inbox ≡ Whole c.args.end = subst (λ (x : SessionView). next_frame_of x.inbox ≡ Whole c.args.end) back c.requires.whole in
    let body = c.front_body-body.result.now in
    let parts : s.inbox ≡ framed body ++ drop c.args.end s.inbox = subst (λ (x : List ℕ). x ≡ framed body ++ drop c.args.end x) c.bytes.ensures c.front_body-body.ensures.parts in
    let e = c.in-Ended.ensures in
    let shows : EndsSo c.in-Ended.why s = ends_so r.0 s c.args.end body c.in-Ended.why goes (subst (HasReceived r.0) back r.1) whole c.front_body-body.ensures.small parts e.1 in
    subst (λ (p : PassView). EndsSo c.in-Ended.why (record s { pass = p })) (sym e.0) shows

pub shorten-requires-clause-received : goal.shorten-requires-clause-received
shorten-requires-clause-received g c =
    let i = c.self.inside in
    let s : SessionView = record { number = i.number; pass = i.pass; inbox = i.inbox; is_shut = i.is_shut; is_named = i.is_named; kept = i.kept } in
    let body = c.front_body-body.result.now in
    let new = c.ask.new.pass in
    let kept = c.put_line.new.kept in
    let parts : s.inbox ≡ framed body ++ drop c.args.end s.inbox = subst (λ (x : List ℕ). x ≡ framed body ++ drop c.args.end x) c.bytes.ensures c.front_body-body.ensures.parts in
    let put = c.in_ok-put_line-in-Reply.ensures.line in
    let call = replied s.number s.kept kept body c.in-Reply.frame s.pass new (subst (λ (b : Bool). HasHandledAs b body (Handled.Reply c.in-Reply.frame) s.pass new) c.is_some.ensures c.in-Reply.ensures) put in
    let r = c.requires.received in
    let input : List ℕ = r.0 in (
      input,
      subst (λ (inbox : List ℕ). HasReceived input (record s { pass = new; inbox = inbox; kept = kept })) (sym c.drop_front.ensures)
          (handled input s body c.args.end new kept c.front_body-body.ensures.small parts call (subst (HasReceived input) (sym c.self.view_is) r.1)),
    )

pub returns-in_ok-shorten-in-Reply-clause-received : goal.returns-in_ok-shorten-in-Reply-clause-received
returns-in_ok-shorten-in-Reply-clause-received g c input h =
    let i = c.self.inside in
    let s : SessionView = record { number = i.number; pass = i.pass; inbox = i.inbox; is_shut = i.is_shut; is_named = i.is_named; kept = i.kept } in
    let body = c.front_body-body.result.now in
    let new = c.ask.new.pass in
    let kept = c.put_line.new.kept in
    let parts : s.inbox ≡ framed body ++ drop c.args.end s.inbox = subst (λ (x : List ℕ). x ≡ framed body ++ drop c.args.end x) c.bytes.ensures c.front_body-body.ensures.parts in
    let put = c.in_ok-put_line-in-Reply.ensures.line in
    let call = replied s.number s.kept kept body c.in-Reply.frame s.pass new (subst (λ (b : Bool). HasHandledAs b body (Handled.Reply c.in-Reply.frame) s.pass new) c.is_some.ensures c.in-Reply.ensures) put in
    c.in_ok-shorten-in-Reply.ensures.received input
    (subst (λ (inbox : List ℕ). HasReceived input (record s { pass = new; inbox = inbox; kept = kept })) (sym c.drop_front.ensures)
    (handled input s body c.args.end new kept c.front_body-body.ensures.small parts call (subst (HasReceived input) (sym c.self.view_is) h)))

pub returns-in-Quiet-clause-received : goal.returns-in-Quiet-clause-received
returns-in-Quiet-clause-received g c input h =
    let i = c.self.inside in
    let s : SessionView = record { number = i.number; pass = i.pass; inbox = i.inbox; is_shut = i.is_shut; is_named = i.is_named; kept = i.kept } in
    let body = c.front_body-body.result.now in
    let new = c.ask.new.pass in
    let parts : s.inbox ≡ framed body ++ drop c.args.end s.inbox = subst (λ (x : List ℕ). x ≡ framed body ++ drop c.args.end x) c.bytes.ensures c.front_body-body.ensures.parts in
    let call = unreplied s.number s.kept c.is_some.result body c.ask.result s.pass new c.in-Quiet.is c.ask.ensures in
    subst (λ (inbox : List ℕ). HasReceived input (record s { pass = new; inbox = inbox })) (sym c.drop_front-in-Quiet.ensures)
    (handled input s body c.args.end new s.kept c.front_body-body.ensures.small parts call (subst (HasReceived input) (sym c.self.view_is) h))

pub returns-in-Ended-clause-received : goal.returns-in-Ended-clause-received
returns-in-Ended-clause-received g c =
    let i = c.self.inside in
    let s : SessionView = record { number = i.number; pass = i.pass; inbox = i.inbox; is_shut = i.is_shut; is_named = i.is_named; kept = i.kept } in
    on_ok_weaker c.end.result
    (λ (goes : (input : List ℕ) → HasReceived input (record s { pass = c.ask.new.pass }) → HasReceived input c.end.new.self) (input : List ℕ) (h : HasReceived input c.args.self.now).
    goes input (subst (λ (p : PassView). HasReceived input (record s { pass = p })) (sym c.in-Ended.ensures.0) (subst (HasReceived input) (sym c.self.view_is) h)))
    c.end.ensures.received
