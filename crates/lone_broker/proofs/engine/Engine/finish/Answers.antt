use Rattle.std.proofs.Common.{◌≡◌, ◌<◌, ◌-◌, ℕ, Some, None, length, sym, ap, subst, ◌∙◌, arith}
use Rattle.audit.specs.broker.Board.{next_call}
use Rattle.lone_broker.specs.Desks.{next_of}
use Rattle.lone_broker.specs.Kept.{Kept, StandsFor, parked_at}
use Rattle.lone_broker.specs.Looks.{finished}
use Rattle.lone_broker.specs.Steps.{IsFreed}
use Rattle.lone_broker.proofs.Completes.{done_seat}
use Rattle.lone_broker.proofs.Dues.{logs_there}
use Rattle.lone_broker.proofs.Finishing.{finish_is, finishes}
use Rattle.lone_broker.proofs.Standing.{all_written, parked_shown, seat_shown}
use Rattle.lone_broker.proofs.Steps.{finished_freed}
use Rattle.lone_broker.proofs.engine.Engine.finish.Goals as goal

pub look_at_parts-requires : goal.look_at_parts-requires
look_at_parts-requires c =
    let kept = c.args.self.now in
    let s = c.args.session in
    let there : s < length kept.parked = omega (arith, c.requires.there, c.requires.stands.1.kept_of.parked) in
    let sat : s < length kept.board.seats = omega (arith, c.requires.there, c.requires.stands.1.kept_of.seats) in
    let slot : parked_at kept s ≡ Some c.in-Some.parked = parked_shown kept _ c.as_slice.result.now s c.index-as_slice-session.result c.self.view_is c.as_slice.ensures there c.index-as_slice-session.is ∙ c.in-Some.is in
    let seat = seat_shown kept _ c.as_slice-2.result.now s c.index-as_slice-session-2.result c.self.view_is c.as_slice-2.ensures sat c.index-as_slice-session-2.is in
    logs_there kept s c.in-Some.parked c.as_slice-3.result.now c.as_mut_slice-parts.result.now c.requires.stands slot c.as_slice-3.ensures (c.as_mut_slice-parts.ensures.value ∙ ap (λ (k : Kept). k.board.parts) c.self.view_is)

pub returns-clause-finished : goal.returns-clause-finished
returns-clause-finished c =
    let kept = c.args.self.now in
    let s = c.args.session in
    let there : s < length kept.parked = omega (arith, c.requires.there, c.requires.stands.1.kept_of.parked) in
    let sat : s < length kept.board.seats = omega (arith, c.requires.there, c.requires.stands.1.kept_of.seats) in
    let slot : parked_at kept s ≡ Some c.in-Some.parked = parked_shown kept _ c.as_slice.result.now s c.index-as_slice-session.result c.self.view_is c.as_slice.ensures there c.index-as_slice-session.is ∙ c.in-Some.is in
    let seat = seat_shown kept _ c.as_slice-2.result.now s c.index-as_slice-session-2.result c.self.view_is c.as_slice-2.ensures sat c.index-as_slice-session-2.is in
    let i = c.self.inside in
    let counted : c.saturating_sub.result ≡ next_call kept.board s - 1 =
    c.saturating_sub.ensures ∙ ap (λ (n : ℕ). n - 1) (c.next_call.ensures.number s ∙ ap (next_of s) (sym seat)) in
    let size : length c.look_at_parts.new.parts ≡ length i.parts = c.look_at_parts.auto.parts ∙ ap length c.as_mut_slice-parts.ensures.value in
    let made = all_written i.config i.parts c.look_at_parts.new.parts i.clock c.look_at_clock.new.clock i.desks c.as_mut_slice.result.now i.parked c.as_mut_slice-2.result.now kept s (done_seat s c.look_at_parts.new.finish c.args.how) c.index-as_mut_slice-session.result c.finish-3.new.self None
    c.self.view_is sat size c.as_mut_slice.ensures.value c.index-as_mut_slice-session.is c.in_ok-finish.ensures c.as_mut_slice-2.ensures.value in
    let is = finish_is kept s c.saturating_sub.result c.args.how c.in-Some.parked.accepted c.as_slice-3.result.now i.parts c.as_mut_slice-parts.result.now c.look_at_parts.new.parts i.clock c.look_at_clock.new.clock c.new-finish.result c.look_at_clock.new.finish c.look_at_parts.new.finish
    (ap (λ (k : Kept). k.board.parts) c.self.view_is) (ap (λ (k : Kept). k.board.clock) c.self.view_is) counted c.as_slice-3.ensures c.in_ok-look_at_clock.ensures.clock c.new-finish.ensures c.in_ok-look_at_clock.ensures.points
    c.as_mut_slice-parts.ensures.value c.in_ok-look_at_parts.ensures.parts c.in_ok-look_at_parts.ensures.points in
    λ board w stands found. subst (λ (k : Kept). StandsFor k (finished board w c.args.how)) (sym (made ∙ is)) (finishes kept s c.args.how c.in-Some.parked c.requires.there slot board w stands found)

pub returns-clause-freed : goal.returns-clause-freed
returns-clause-freed c =
    let kept = c.args.self.now in
    let s = c.args.session in
    let there : s < length kept.parked = omega (arith, c.requires.there, c.requires.stands.1.kept_of.parked) in
    let sat : s < length kept.board.seats = omega (arith, c.requires.there, c.requires.stands.1.kept_of.seats) in
    let slot : parked_at kept s ≡ Some c.in-Some.parked = parked_shown kept _ c.as_slice.result.now s c.index-as_slice-session.result c.self.view_is c.as_slice.ensures there c.index-as_slice-session.is ∙ c.in-Some.is in
    let seat = seat_shown kept _ c.as_slice-2.result.now s c.index-as_slice-session-2.result c.self.view_is c.as_slice-2.ensures sat c.index-as_slice-session-2.is in
    let i = c.self.inside in
    let counted : c.saturating_sub.result ≡ next_call kept.board s - 1 =
    c.saturating_sub.ensures ∙ ap (λ (n : ℕ). n - 1) (c.next_call.ensures.number s ∙ ap (next_of s) (sym seat)) in
    let size : length c.look_at_parts.new.parts ≡ length i.parts = c.look_at_parts.auto.parts ∙ ap length c.as_mut_slice-parts.ensures.value in
    let made = all_written i.config i.parts c.look_at_parts.new.parts i.clock c.look_at_clock.new.clock i.desks c.as_mut_slice.result.now i.parked c.as_mut_slice-2.result.now kept s (done_seat s c.look_at_parts.new.finish c.args.how) c.index-as_mut_slice-session.result c.finish-3.new.self None
    c.self.view_is sat size c.as_mut_slice.ensures.value c.index-as_mut_slice-session.is c.in_ok-finish.ensures c.as_mut_slice-2.ensures.value in
    let is = finish_is kept s c.saturating_sub.result c.args.how c.in-Some.parked.accepted c.as_slice-3.result.now i.parts c.as_mut_slice-parts.result.now c.look_at_parts.new.parts i.clock c.look_at_clock.new.clock c.new-finish.result c.look_at_clock.new.finish c.look_at_parts.new.finish
    (ap (λ (k : Kept). k.board.parts) c.self.view_is) (ap (λ (k : Kept). k.board.clock) c.self.view_is) counted c.as_slice-3.ensures c.in_ok-look_at_clock.ensures.clock c.new-finish.ensures c.in_ok-look_at_clock.ensures.points
    c.as_mut_slice-parts.ensures.value c.in_ok-look_at_parts.ensures.parts c.in_ok-look_at_parts.ensures.points in
    subst (IsFreed s kept) (sym (made ∙ is)) (finished_freed kept s c.args.how c.in-Some.parked.accepted c.requires.stands c.requires.there)
