use Rattle.std.proofs.Common.{List, length, sym, subst, ◌∙◌}
use Rattle.std.specs.List.{AllByRecursion}
use Rattle.kanswer.specs.Results.{AreResults}
use Rattle.kanswer.specs.declared.accepted.Accepted.{Accepted}
use Rattle.lone_broker.specs.Replying.{HasLog}
use Rattle.lone_broker.proofs.Handles.{are_listed, delayed_is, handled_at_once, handled_waiting, have_logs, if_answered, if_parked, was_accepted}
use Rattle.lone_broker.proofs.handling.handle.Goals as goal

pub is_delayed-requires-clause-logs : goal.is_delayed-requires-clause-logs
is_delayed-requires-clause-logs c =
    let call = c.args.call.now in
    let later = c.accept.new.came in
    let a = was_accepted call.config.now c.args.request.now call.visitor.who.by call.visitor.who.seq call.visitor.moment c.args.clock.now c.args.parts.now c.accept.new.parts c.new-came.result later c.accepted.result.now c.requires.moment c.requires.asked c.requires.followers c.parts.ensures.declared c.new-came.ensures c.in_ok-accept.ensures c.accepted.ensures.results c.accepted.ensures.offsets in
    subst (λ (rs : List Accepted). AllByRecursion (HasLog (length c.accept.new.parts)) rs) (sym c.accepted.ensures.results) (have_logs call.config.now c.args.request.now call.visitor.who.by call.visitor.who.seq c.args.clock.now c.args.parts.now c.accept.new.parts later a)

pub is_delayed-requires-clause-results : goal.is_delayed-requires-clause-results
is_delayed-requires-clause-results c =
    let call = c.args.call.now in
    let later = c.accept.new.came in
    let a = was_accepted call.config.now c.args.request.now call.visitor.who.by call.visitor.who.seq call.visitor.moment c.args.clock.now c.args.parts.now c.accept.new.parts c.new-came.result later c.accepted.result.now c.requires.moment c.requires.asked c.requires.followers c.parts.ensures.declared c.new-came.ensures c.in_ok-accept.ensures c.accepted.ensures.results c.accepted.ensures.offsets in
    subst (AreResults c.args.request.now.ask) (sym c.accepted.ensures.results) (are_listed call.config.now c.args.request.now call.visitor.who.by call.visitor.who.seq c.args.clock.now c.args.parts.now c.accept.new.parts later a)

pub park-requires : goal.park-requires
park-requires c =
    let call = c.args.call.now in
    let later = c.accept.new.came in
    let a = was_accepted call.config.now c.args.request.now call.visitor.who.by call.visitor.who.seq call.visitor.moment c.args.clock.now c.args.parts.now c.accept.new.parts c.new-came.result later c.accepted.result.now c.requires.moment c.requires.asked c.requires.followers c.parts.ensures.declared c.new-came.ensures c.in_ok-accept.ensures c.accepted.ensures.results c.accepted.ensures.offsets in
    are_listed call.config.now c.args.request.now call.visitor.who.by call.visitor.who.seq c.args.clock.now c.args.parts.now c.accept.new.parts later a

pub returns-then-delayed : goal.returns-then-delayed
returns-then-delayed c =
    let call = c.args.call.now in
    let later = c.accept.new.came in
    let a = was_accepted call.config.now c.args.request.now call.visitor.who.by call.visitor.who.seq call.visitor.moment c.args.clock.now c.args.parts.now c.accept.new.parts c.new-came.result later c.accepted.result.now c.requires.moment c.requires.asked c.requires.followers c.parts.ensures.declared c.new-came.ensures c.in_ok-accept.ensures c.accepted.ensures.results c.accepted.ensures.offsets in
    let delayed = delayed_is call.config.now c.args.request.now call.visitor.who.by call.visitor.who.seq c.args.clock.now c.args.parts.now c.accept.new.parts later a c.in_ok-delayed.delayed c.accepted.result.now c.accepted.ensures.results c.in_ok-delayed.ensures ∙ c.if-delayed.true in
    if_parked c.park.result c.park.ensures.looked c.park.ensures.points c.park.ensures.how c.park.ensures.some (λ handled looked points how some.
    handled_waiting call.config.now c.args.request.now call.visitor.who.by call.visitor.who.seq c.args.clock.now c.args.parts.now c.accept.new.parts later a c.park.new.clock handled c.args.out.now delayed looked points how some)

pub answer_at_once-requires-clause-listed : goal.answer_at_once-requires-clause-listed
answer_at_once-requires-clause-listed c =
    let call = c.args.call.now in
    let later = c.accept.new.came in
    let a = was_accepted call.config.now c.args.request.now call.visitor.who.by call.visitor.who.seq call.visitor.moment c.args.clock.now c.args.parts.now c.accept.new.parts c.new-came.result later c.accepted.result.now c.requires.moment c.requires.asked c.requires.followers c.parts.ensures.declared c.new-came.ensures c.in_ok-accept.ensures c.accepted.ensures.results c.accepted.ensures.offsets in
    are_listed call.config.now c.args.request.now call.visitor.who.by call.visitor.who.seq c.args.clock.now c.args.parts.now c.accept.new.parts later a

pub answer_at_once-requires-clause-logs : goal.answer_at_once-requires-clause-logs
answer_at_once-requires-clause-logs c =
    let call = c.args.call.now in
    let later = c.accept.new.came in
    let a = was_accepted call.config.now c.args.request.now call.visitor.who.by call.visitor.who.seq call.visitor.moment c.args.clock.now c.args.parts.now c.accept.new.parts c.new-came.result later c.accepted.result.now c.requires.moment c.requires.asked c.requires.followers c.parts.ensures.declared c.new-came.ensures c.in_ok-accept.ensures c.accepted.ensures.results c.accepted.ensures.offsets in
    have_logs call.config.now c.args.request.now call.visitor.who.by call.visitor.who.seq c.args.clock.now c.args.parts.now c.accept.new.parts later a

pub returns-else-delayed : goal.returns-else-delayed
returns-else-delayed c =
    let call = c.args.call.now in
    let later = c.accept.new.came in
    let a = was_accepted call.config.now c.args.request.now call.visitor.who.by call.visitor.who.seq call.visitor.moment c.args.clock.now c.args.parts.now c.accept.new.parts c.new-came.result later c.accepted.result.now c.requires.moment c.requires.asked c.requires.followers c.parts.ensures.declared c.new-came.ensures c.in_ok-accept.ensures c.accepted.ensures.results c.accepted.ensures.offsets in
    let undelayed = delayed_is call.config.now c.args.request.now call.visitor.who.by call.visitor.who.seq c.args.clock.now c.args.parts.now c.accept.new.parts later a c.in_ok-delayed.delayed c.accepted.result.now c.accepted.ensures.results c.in_ok-delayed.ensures ∙ c.if-delayed.false in
    if_answered c.answer_at_once.result c.answer_at_once.ensures.points c.answer_at_once.ensures.how c.answer_at_once.ensures.none c.answer_at_once.ensures.printed (λ handled points how none printed.
    handled_at_once call.config.now c.args.request.now call.visitor.who.by call.visitor.who.seq c.args.clock.now c.args.parts.now c.accept.new.parts later a handled c.args.out.now c.answer_at_once.new.out undelayed points how none printed)
