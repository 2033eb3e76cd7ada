use Rattle.std.proofs.Common.{◌≡◌, ◌≢◌, ◌<◌, ◌∙◌, ◌++◌, [], ◌∷◌, ◌/◌, ℕ, List, Some, get_or, length, sym, ap, subst}
use Rattle.std.proofs.lemmas.Option.{same_Some}
use Rattle.std.proofs.lemmas.Result.{on_ok_weaker}
use Rattle.storm.specs.Lines.{feed_line}
use Rattle.trace_file.specs.declared.line.Line.{Line}
use Rattle.trace_file.specs.declared.line.Line.TheVariants.{Feed}
use Rattle.trace_file.specs.Contents.{is_shut}
use Rattle.trace_workers.specs.Resting.{Rests}
use Rattle.trace_workers.specs.Sessions.{SessionView}
use Rattle.trace_workers.specs.Own.{is_own_session}
use Rattle.trace_workers.specs.Workers.{AllRest, HasDone, WorkerView}
use Rattle.trace_workers.proofs.LoadLines.{may_send, request_own, sent_line}
use Rattle.trace_workers.proofs.Workers.{as_many_sessions, done_foreign}
use Rattle.trace_workers.proofs.worker.Worker.request.Goals as goal

pub returns-then-not-has_session-clause-done : goal.returns-then-not-has_session-clause-done
returns-then-not-has_session-clause-done g c before h =
    let worker = c.args.self.now in
    let x = c.args.frames.now.state in
    let foreign = request_own worker x c.args.i ∙ ap (is_own_session worker) (sym c.session_of-session.ensures) ∙ sym c.has_session.ensures.own ∙ c.if-not-has_session.true in
    done_foreign c.args.broker.now before (feed_line x c.args.i) worker c.has_session.ensures.below foreign h

pub feed-requires-clause-there : goal.feed-requires-clause-there
feed-requires-clause-there g c =
    let worker = c.args.self.now in
    let x = c.args.frames.now.state in
    let m = c.requires.may in
    let own = request_own worker x c.args.i ∙ ap (is_own_session worker) (sym c.session_of-session.ensures) ∙ sym c.has_session.ensures.own ∙ c.if-not-has_session.false in
    let may = may_send m.0 x c.args.i worker (m.2 own) in
    subst (λ (session : ℕ). session / worker.worker_count < length worker.sessions) (sym c.session_of-session.ensures) may.0

pub feed-requires-clause-done : goal.feed-requires-clause-done
feed-requires-clause-done g c =
    let worker = c.args.self.now in
    let x = c.args.frames.now.state in
    let m = c.requires.may in
    let own = request_own worker x c.args.i ∙ ap (is_own_session worker) (sym c.session_of-session.ensures) ∙ sym c.has_session.ensures.own ∙ c.if-not-has_session.false in
    let may = may_send m.0 x c.args.i worker (m.2 own) in
    (m.0, m.1, ap (λ (session : ℕ). is_shut session m.0) c.session_of-session.ensures ∙ may.1)

pub go_on_after-requires-clause-there : goal.go_on_after-requires-clause-there
go_on_after-requires-clause-there g c =
    let worker = c.args.self.now in
    let x = c.args.frames.now.state in
    let m = c.requires.may in
    let own = request_own worker x c.args.i ∙ ap (is_own_session worker) (sym c.session_of-session.ensures) ∙ sym c.has_session.ensures.own ∙ c.if-not-has_session.false in
    let may = may_send m.0 x c.args.i worker (m.2 own) in
    let there = subst (λ (session : ℕ). session / worker.worker_count < length worker.sessions) (sym c.session_of-session.ensures) may.0 in
    let count = ap (λ (w : WorkerView). w.worker_count) c.self.view_is in
    subst (λ (k : ℕ). c.session_of-session.result / k < length c.feed.new.self.sessions) (sym count)
    (subst (λ (n : ℕ). c.session_of-session.result / worker.worker_count < n) (sym (as_many_sessions worker c.feed.new.self c.feed.ensures.same)) there)

pub go_on_after-requires-clause-done : goal.go_on_after-requires-clause-done
go_on_after-requires-clause-done g c =
    let m = c.requires.may in
    (m.0 ++ Feed c.session_of-session.result c.frame.result.now ∷ [], c.in_ok-feed.ensures.done m.0 m.1)

pub returns-clause-done : goal.returns-clause-done
returns-clause-done g c =
    let broker = c.args.broker.now in
    let old = c.args.self.now in
    let x = c.args.frames.now.state in
    let session = c.session_of-session.result in
    let bytes = c.frame.result.now in
    let line : Feed session bytes ≡ feed_line x c.args.i = ap (λ (s : ℕ). Feed s bytes) c.session_of-session.ensures ∙ sent_line x c.args.i bytes (c.frame.ensures ∙ c.make.ensures.is) in
    on_ok_weaker c.go_on_after.result
    (λ (goes : (lines : List Line) → HasDone broker lines c.feed.new.self → HasDone broker lines c.go_on_after.new.self) (before : List Line) (h : HasDone broker before old).
    subst (λ (l : Line). HasDone broker (before ++ l ∷ []) c.go_on_after.new.self) line (goes (before ++ Feed session bytes ∷ []) (c.in_ok-feed.ensures.done before h)))
    c.go_on_after.ensures.done

pub returns-clause-rests : goal.returns-clause-rests
returns-clause-rests g c =
    let old = c.args.self.now in
    let new = c.feed.new.self in
    let place = c.session_of-session.result / c.self.inside.worker_count in
    let count = ap (λ (w : WorkerView). c.session_of-session.result / w.worker_count) c.self.view_is in
    on_ok_weaker c.go_on_after.result
    (λ (goes : ((at k : ℕ) (s : SessionView) → Some place ≡ Some at → k ≢ at → k < length new.sessions → Rests (get_or new.sessions k s)) → AllRest c.go_on_after.new.self) (before : AllRest old).
    goes (λ at k s is other less. subst Rests (sym (c.feed.ensures.alone k s (λ e. other (e ∙ sym count ∙ same_Some place at is))))
    (before k s (subst (λ (n : ℕ). k < n) (as_many_sessions old new c.feed.ensures.same) less))))
    c.go_on_after.ensures.rests
