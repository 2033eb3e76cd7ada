use Rattle.std.proofs.Common.{◌≡◌, ◌∙◌, ◌%◌, get_or, length, refl, ap}
use Rattle.std.specs.Prelude.{All, is_some}
use Rattle.std.proofs.lemmas.Nat.{mod_below}
use Rattle.std.proofs.lemmas.Result.{on_ok_weaker}
use Rattle.shared_broker.specs.Making.{fresh_pass}
use Rattle.shared_broker.specs.Passes.{BrokerView, PassView}
use Rattle.trace_workers.specs.Dealing.{fresh_session}
use Rattle.trace_workers.specs.Sessions.{SessionView}
use Rattle.trace_workers.specs.Workers.{AllKeep}
use Rattle.trace_workers.proofs.Deals.{session_dealt, session_keeps, with_more}
use Rattle.trace_workers.proofs.dealing.deal_session.Goals as goal

pub returns-clause-dealt : goal.returns-clause-dealt
returns-clause-dealt c =
    let workers = c.args.workers.now in
    let worker_count = length workers in
    let number = c.args.number in
    let at = number % worker_count in
    let d = c.index-workers-at.result in
    let worker = c.add_session.new.worker in
    on_ok_weaker c.add_session.result
    (λ (added : worker ≡ with_more (get_or workers at d) c.new.result) (broker : BrokerView) (fresh : c.args.pass ≡ fresh_pass broker number).
    let session = c.new.ensures ∙ ap (λ (p : PassView). record (fresh_session broker number c.in_ok-kept.kept) { pass = p }) fresh in
    session_dealt broker number worker_count at workers worker d c.in_ok-kept.kept c.in_ok-kept.ensures.fresh c.requires.some refl (added ∙ ap (with_more (get_or workers at d)) session))
    c.add_session.ensures

pub returns-clause-kept : goal.returns-clause-kept
returns-clause-kept c =
    let workers = c.args.workers.now in
    let number = c.args.number in
    let at = number % length workers in
    let d = c.index-workers-at.result in
    let worker = c.add_session.new.worker in
    let keeps = c.args.keeps_lines in
    on_ok_weaker c.add_session.result
    (λ (added : worker ≡ with_more (get_or workers at d) c.new.result) (all : All (AllKeep keeps) workers).
    session_keeps keeps workers at worker d c.new.result (mod_below number (length workers) c.requires.some) added (ap (λ (s : SessionView). is_some s.kept) c.new.ensures ∙ c.in_ok-kept.ensures.kept) all)
    c.add_session.ensures
