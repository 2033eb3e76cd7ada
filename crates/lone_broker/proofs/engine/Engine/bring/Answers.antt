use Rattle.std.proofs.Common.{◌<◌, List, ℕ, get_or, length, sym, ap, subst, ◌∙◌, arith}
use Rattle.trace_file.specs.declared.line.Line.{Line}
use Rattle.audit.specs.broker.Board.{next_call, seat_at}
use Rattle.audit.specs.broker.Play.{brought}
use Rattle.lone_broker.specs.Kept.{IsPlayable, Kept, StandsFor}
use Rattle.lone_broker.proofs.Bringing.{fed_seat, fed_stands, shut_seat, shut_stands}
use Rattle.lone_broker.specs.Steps.{IsBrought}
use Rattle.lone_broker.proofs.Standing.{desk_changed, reseated}
use Rattle.lone_broker.proofs.Steps.{is_reseated, no_less}
use Rattle.lone_broker.proofs.engine.Engine.bring.Goals as goal

pub returns-in_ok-feed-in-Feed-clause-brought : goal.returns-in_ok-feed-in-Feed-clause-brought
returns-in_ok-feed-in-Feed-clause-brought c =
    let i = c.self.inside in
    let kept = c.args.self.now in
    let s = c.in-Feed.session in
    let bytes = c.in-Feed.bytes in
    let few : s < 64 = subst IsPlayable c.in-Feed.is c.requires.playable in
    let there : s < length kept.board.seats = omega (arith, few, c.requires.stands.1.kept_of.seats) in
    let old = get_or c.as_mut_slice.result.now s c.index-as_mut_slice-session.result in
    let next = reseated kept s (fed_seat s bytes (seat_at kept.board s)) in
    let made = desk_changed i.config i.parts i.clock i.desks c.as_mut_slice.result.now i.parked kept s (fed_seat s bytes) c.index-as_mut_slice-session.result c.feed.new.self c.self.view_is there c.as_mut_slice.ensures.value c.index-as_mut_slice-session.is
    (c.in_ok-feed-in-Feed.ensures ∙ ap (λ (bs : List ℕ). fed_seat s bs old) c.as_slice.ensures) in
    λ board stands. subst (λ (k : Kept). StandsFor k (brought board c.args.line.now)) (sym made)
    (subst (λ (l : Line). StandsFor next (brought board l)) (sym c.in-Feed.is) (fed_stands kept s bytes few board stands))

pub returns-in_ok-feed-in-Feed-clause-alone : goal.returns-in_ok-feed-in-Feed-clause-alone
returns-in_ok-feed-in-Feed-clause-alone c =
    let i = c.self.inside in
    let kept = c.args.self.now in
    let s = c.in-Feed.session in
    let bytes = c.in-Feed.bytes in
    let few : s < 64 = subst IsPlayable c.in-Feed.is c.requires.playable in
    let there : s < length kept.board.seats = omega (arith, few, c.requires.stands.1.kept_of.seats) in
    let old = get_or c.as_mut_slice.result.now s c.index-as_mut_slice-session.result in
    let made = desk_changed i.config i.parts i.clock i.desks c.as_mut_slice.result.now i.parked kept s (fed_seat s bytes) c.index-as_mut_slice-session.result c.feed.new.self c.self.view_is there c.as_mut_slice.ensures.value c.index-as_mut_slice-session.is
    (c.in_ok-feed-in-Feed.ensures ∙ ap (λ (bs : List ℕ). fed_seat s bs old) c.as_slice.ensures) in
    let next = reseated kept s (fed_seat s bytes (seat_at kept.board s)) in
    subst (λ (k : Kept). IsBrought c.args.line.now kept k) (sym made)
    (subst (λ (l : Line). IsBrought l kept next) (sym c.in-Feed.is) (is_reseated kept s (fed_seat s bytes (seat_at kept.board s)) there (no_less (next_call kept.board s))))

pub returns-in-Shut-clause-brought : goal.returns-in-Shut-clause-brought
returns-in-Shut-clause-brought c =
    let i = c.self-in-Shut.inside in
    let kept = c.args.self.now in
    let s = c.in-Shut.session in
    let few : s < 64 = subst IsPlayable c.in-Shut.is c.requires.playable in
    let there : s < length kept.board.seats = omega (arith, few, c.requires.stands.1.kept_of.seats) in
    let next = reseated kept s (shut_seat s (seat_at kept.board s)) in
    let made = desk_changed i.config i.parts i.clock i.desks c.as_mut_slice-in-Shut.result.now i.parked kept s (shut_seat s) c.index-as_mut_slice-session-in-Shut.result c.shut.new.self c.self-in-Shut.view_is there c.as_mut_slice-in-Shut.ensures.value c.index-as_mut_slice-session-in-Shut.is c.shut.ensures in
    λ board stands. subst (λ (k : Kept). StandsFor k (brought board c.args.line.now)) (sym made)
    (subst (λ (l : Line). StandsFor next (brought board l)) (sym c.in-Shut.is) (shut_stands kept s few board stands))

pub returns-in-Shut-clause-alone : goal.returns-in-Shut-clause-alone
returns-in-Shut-clause-alone c =
    let i = c.self-in-Shut.inside in
    let kept = c.args.self.now in
    let s = c.in-Shut.session in
    let few : s < 64 = subst IsPlayable c.in-Shut.is c.requires.playable in
    let there : s < length kept.board.seats = omega (arith, few, c.requires.stands.1.kept_of.seats) in
    let made = desk_changed i.config i.parts i.clock i.desks c.as_mut_slice-in-Shut.result.now i.parked kept s (shut_seat s) c.index-as_mut_slice-session-in-Shut.result c.shut.new.self c.self-in-Shut.view_is there c.as_mut_slice-in-Shut.ensures.value c.index-as_mut_slice-session-in-Shut.is c.shut.ensures in
    let next = reseated kept s (shut_seat s (seat_at kept.board s)) in
    subst (λ (k : Kept). IsBrought c.args.line.now kept k) (sym made)
    (subst (λ (l : Line). IsBrought l kept next) (sym c.in-Shut.is) (is_reseated kept s (shut_seat s (seat_at kept.board s)) there (no_less (next_call kept.board s))))

pub returns-in_ok-tick-in-Clock-clause-brought : goal.returns-in_ok-tick-in-Clock-clause-brought
returns-in_ok-tick-in-Clock-clause-brought c =
    λ board stands. subst (λ (l : Line). StandsFor c.tick.new.self (brought board l)) (sym c.in-Clock.is) (c.in_ok-tick-in-Clock.ensures.brought board stands)

pub returns-in_ok-tick-in-Clock-clause-alone : goal.returns-in_ok-tick-in-Clock-clause-alone
returns-in_ok-tick-in-Clock-clause-alone c =
    subst (λ (l : Line). IsBrought l c.args.self.now c.tick.new.self) (sym c.in-Clock.is) c.in_ok-tick-in-Clock.ensures.alone
