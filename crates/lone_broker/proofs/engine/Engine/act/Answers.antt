use Rattle.std.proofs.Common.{◌≡◌, ◌<◌, length, sym, ap, ◌∙◌, to_z, of_z, rules, arith}
use Rattle.std.proofs.lemmas.Int.{to_z-of_z}
use Rattle.std.specs.Int.{w32}
use mir.Val.{SFits}
use Rattle.kwire.specs.Frames.{next_frame_of}
use Rattle.kwire.specs.declared.frame.Frame.TheVariants.{NotYet, TooLong}
use Rattle.audit.specs.declared.account.SessionEnd.TheVariants.{FrameTooLong}
use Rattle.audit.specs.broker.Board.{Seat, seat_at}
use Rattle.audit.specs.broker.Acting.{end_of_input}
use Rattle.audit.proofs.Laws.{on_ok}
use Rattle.lone_broker.proofs.Standing.{seat_shown}
use Rattle.lone_broker.proofs.Steps.{ended_acted}
use Rattle.lone_broker.proofs.Taking.{acts_at_end, acts_too_long, ends_acting}
use Rattle.lone_broker.proofs.engine.Engine.act.Goals as goal

pub take_frame-requires-clause-whole : goal.take_frame-requires-clause-whole
take_frame-requires-clause-whole c =
    let kept = c.args.self.now in
    let s = c.args.session in
    let sat : s < length kept.board.seats = omega (arith, c.requires.there, c.requires.stands.1.kept_of.seats) in
    let seat = seat_shown kept _ c.as_slice.result.now s c.index-as_slice-session.result c.self.view_is c.as_slice.ensures sat c.index-as_slice-session.is in
    ap (λ (x : Seat). next_frame_of x.inbox) seat ∙ sym c.front.ensures ∙ c.in-Whole.is

pub end_of_input-end-requires : goal.end_of_input-end-requires
end_of_input-end-requires c =
    ap next_frame_of c.left.ensures ∙ sym c.front.ensures ∙ c.in-NotYet.is

pub returns-in-NotYet-clause-acts : goal.returns-in-NotYet-clause-acts
returns-in-NotYet-clause-acts c =
    let kept = c.args.self.now in
    let s = c.args.session in
    let sat : s < length kept.board.seats = omega (arith, c.requires.there, c.requires.stands.1.kept_of.seats) in
    let seat = seat_shown kept _ c.as_slice.result.now s c.index-as_slice-session.result c.self.view_is c.as_slice.ensures sat c.index-as_slice-session.is in
    let none : next_frame_of (seat_at kept.board s).inbox ≡ NotYet = ap (λ (x : Seat). next_frame_of x.inbox) seat ∙ sym c.front.ensures ∙ c.in-NotYet.is in
    let end : c.end_of_input-end.result ≡ end_of_input (length (seat_at kept.board s).inbox) =
    c.end_of_input-end.ensures.end ∙ ap end_of_input (ap length c.left.ensures ∙ ap (λ (x : Seat). length x.inbox) (sym seat)) in
    on_ok c.end_session.result c.end_session.ensures.ended (λ turns.
    ends_acting kept c.end_session.new.self s c.end_of_input-end.result c.args.out.now c.end_session.new.out (λ waiting are. acts_at_end kept waiting s c.end_of_input-end.result none end) turns)

pub returns-in-NotYet-clause-alone : goal.returns-in-NotYet-clause-alone
returns-in-NotYet-clause-alone c =
    on_ok c.end_session.result c.end_session.ensures.alone (λ alone. ended_acted c.args.self.now c.end_session.new.self c.args.session alone c.requires.idle)

pub returns-in-TooLong-clause-acts : goal.returns-in-TooLong-clause-acts
returns-in-TooLong-clause-acts c =
    let kept = c.args.self.now in
    let s = c.args.session in
    let size = c.in-TooLong.size in
    let fits : SFits w32 size = search rules in
    let sat : s < length kept.board.seats = omega (arith, c.requires.there, c.requires.stands.1.kept_of.seats) in
    let seat = seat_shown kept _ c.as_slice.result.now s c.index-as_slice-session.result c.self.view_is c.as_slice.ensures sat c.index-as_slice-session.is in
    let long : next_frame_of (seat_at kept.board s).inbox ≡ TooLong size = ap (λ (x : Seat). next_frame_of x.inbox) seat ∙ sym c.front.ensures ∙ c.in-TooLong.is in
    on_ok c.end_session-in-TooLong.result c.end_session-in-TooLong.ensures.ended (λ turns.
    ends_acting kept c.end_session-in-TooLong.new.self s (FrameTooLong (to_z w32 (of_z w32 size))) c.args.out.now c.end_session-in-TooLong.new.out
    (λ waiting are. acts_too_long kept waiting s size (to_z w32 (of_z w32 size)) long (to_z-of_z w32 size fits)) turns)

pub returns-in-TooLong-clause-alone : goal.returns-in-TooLong-clause-alone
returns-in-TooLong-clause-alone c =
    on_ok c.end_session-in-TooLong.result c.end_session-in-TooLong.ensures.alone (λ alone. ended_acted c.args.self.now c.end_session-in-TooLong.new.self c.args.session alone c.requires.idle)
