use Rattle.std.proofs.Common.{◌≡◌, ◌<◌, ℕ, Some, List, length, sym, ap, ◌∙◌, arith, subst}
use Rattle.kwire.specs.Configuration.{Configuration}
use Rattle.kwire.specs.Spelling.{spelling}
use Rattle.kanswer.specs.Answer.{answer}
use Rattle.audit.specs.broker.Board.{Seat}
use Rattle.lone_broker.specs.Desks.{transcript_of}
use Rattle.lone_broker.specs.Kept.{Kept, last_frame, parked_at}
use Rattle.kwire.specs.Refusal.{IsRefused}
use Rattle.kwire.proofs.Laws.{not_both}
use Rattle.lone_broker.proofs.Dues.{answerable, frame_at, is_there}
use Rattle.lone_broker.proofs.ReadForReply.{if_ok_then}
use Rattle.lone_broker.proofs.Standing.{parked_shown, seat_shown}
use Rattle.lone_broker.proofs.engine.Engine.reply.Goals as goal

-- the frame was a request, and so isn't refused
pub unreachable-requires : goal.unreachable-requires
unreachable-requires c =
    let kept = c.args.self.now in
    let s = c.args.session in
    let there : s < length kept.parked = omega (arith, c.requires.there, c.requires.stands.1.kept_of.parked) in
    let sat : s < length kept.board.seats = omega (arith, c.requires.there, c.requires.stands.1.kept_of.seats) in
    let slot : parked_at kept s ≡ Some c.in-Some.parked = parked_shown kept _ c.as_slice.result.now s c.index-as_slice-session.result c.self.view_is c.as_slice.ensures there c.index-as_slice-session.is ∙ c.in-Some.is in
    let seat = seat_shown kept _ c.as_slice-2.result.now s c.index-as_slice-session-2.result c.self.view_is c.as_slice-2.ensures sat c.index-as_slice-session-2.is in
    let t = is_there kept c.requires.stands.0.waiting s c.in-Some.parked c.requires.stands.1.kept_of slot in
    let framed : c.last_frame-frame.result.now ≡ frame_at kept s = c.last_frame-frame.ensures s ∙ ap (λ (x : Seat). last_frame (transcript_of s x).calls) (sym seat) in
    not_both (frame_at kept s) t.w.request c.in-Err.why t.kept_of.asked
    (subst (λ (f : List ℕ). IsRefused f c.in-Err.why) framed (c.in-Err.ensures.refused c.in_default-why.not-NoMemory))

pub reply_frame-requires-clause-size : goal.reply_frame-requires-clause-size
reply_frame-requires-clause-size c =
    let kept = c.args.self.now in
    let s = c.args.session in
    let there : s < length kept.parked = omega (arith, c.requires.there, c.requires.stands.1.kept_of.parked) in
    let sat : s < length kept.board.seats = omega (arith, c.requires.there, c.requires.stands.1.kept_of.seats) in
    let slot : parked_at kept s ≡ Some c.in-Some.parked = parked_shown kept _ c.as_slice.result.now s c.index-as_slice-session.result c.self.view_is c.as_slice.ensures there c.index-as_slice-session.is ∙ c.in-Some.is in
    let seat = seat_shown kept _ c.as_slice-2.result.now s c.index-as_slice-session-2.result c.self.view_is c.as_slice-2.ensures sat c.index-as_slice-session-2.is in
    let done = answerable kept s c.in-Some.parked c.last_frame-frame.result.now c.in-Ok.request c.as_slice-accepted.result.now c.as_slice-3.result.now c.requires.stands slot
    (c.last_frame-frame.ensures s ∙ ap (λ (x : Seat). last_frame (transcript_of s x).calls) (sym seat)) c.in-Ok.ensures.request c.as_slice-accepted.ensures (c.as_slice-3.ensures ∙ ap (λ (k : Kept). k.board.parts) c.self.view_is) in
    done.size

pub reply_frame-requires-clause-logs : goal.reply_frame-requires-clause-logs
reply_frame-requires-clause-logs c =
    let kept = c.args.self.now in
    let s = c.args.session in
    let there : s < length kept.parked = omega (arith, c.requires.there, c.requires.stands.1.kept_of.parked) in
    let sat : s < length kept.board.seats = omega (arith, c.requires.there, c.requires.stands.1.kept_of.seats) in
    let slot : parked_at kept s ≡ Some c.in-Some.parked = parked_shown kept _ c.as_slice.result.now s c.index-as_slice-session.result c.self.view_is c.as_slice.ensures there c.index-as_slice-session.is ∙ c.in-Some.is in
    let seat = seat_shown kept _ c.as_slice-2.result.now s c.index-as_slice-session-2.result c.self.view_is c.as_slice-2.ensures sat c.index-as_slice-session-2.is in
    let done = answerable kept s c.in-Some.parked c.last_frame-frame.result.now c.in-Ok.request c.as_slice-accepted.result.now c.as_slice-3.result.now c.requires.stands slot
    (c.last_frame-frame.ensures s ∙ ap (λ (x : Seat). last_frame (transcript_of s x).calls) (sym seat)) c.in-Ok.ensures.request c.as_slice-accepted.ensures (c.as_slice-3.ensures ∙ ap (λ (k : Kept). k.board.parts) c.self.view_is) in
    done.logs

pub reply_frame-requires-clause-offsets : goal.reply_frame-requires-clause-offsets
reply_frame-requires-clause-offsets c =
    let kept = c.args.self.now in
    let s = c.args.session in
    let there : s < length kept.parked = omega (arith, c.requires.there, c.requires.stands.1.kept_of.parked) in
    let sat : s < length kept.board.seats = omega (arith, c.requires.there, c.requires.stands.1.kept_of.seats) in
    let slot : parked_at kept s ≡ Some c.in-Some.parked = parked_shown kept _ c.as_slice.result.now s c.index-as_slice-session.result c.self.view_is c.as_slice.ensures there c.index-as_slice-session.is ∙ c.in-Some.is in
    let seat = seat_shown kept _ c.as_slice-2.result.now s c.index-as_slice-session-2.result c.self.view_is c.as_slice-2.ensures sat c.index-as_slice-session-2.is in
    let done = answerable kept s c.in-Some.parked c.last_frame-frame.result.now c.in-Ok.request c.as_slice-accepted.result.now c.as_slice-3.result.now c.requires.stands slot
    (c.last_frame-frame.ensures s ∙ ap (λ (x : Seat). last_frame (transcript_of s x).calls) (sym seat)) c.in-Ok.ensures.request c.as_slice-accepted.ensures (c.as_slice-3.ensures ∙ ap (λ (k : Kept). k.board.parts) c.self.view_is) in
    done.offsets

pub returns : goal.returns
returns c =
    let kept = c.args.self.now in
    let s = c.args.session in
    let there : s < length kept.parked = omega (arith, c.requires.there, c.requires.stands.1.kept_of.parked) in
    let sat : s < length kept.board.seats = omega (arith, c.requires.there, c.requires.stands.1.kept_of.seats) in
    let slot : parked_at kept s ≡ Some c.in-Some.parked = parked_shown kept _ c.as_slice.result.now s c.index-as_slice-session.result c.self.view_is c.as_slice.ensures there c.index-as_slice-session.is ∙ c.in-Some.is in
    let seat = seat_shown kept _ c.as_slice-2.result.now s c.index-as_slice-session-2.result c.self.view_is c.as_slice-2.ensures sat c.index-as_slice-session-2.is in
    let done = answerable kept s c.in-Some.parked c.last_frame-frame.result.now c.in-Ok.request c.as_slice-accepted.result.now c.as_slice-3.result.now c.requires.stands slot
    (c.last_frame-frame.ensures s ∙ ap (λ (x : Seat). last_frame (transcript_of s x).calls) (sym seat)) c.in-Ok.ensures.request c.as_slice-accepted.ensures (c.as_slice-3.ensures ∙ ap (λ (k : Kept). k.board.parts) c.self.view_is) in
    let config : c.self.inside.config ≡ kept.board.config = ap (λ (k : Kept). k.board.config) c.self.view_is in
    if_ok_then c.reply_frame.result c.reply_frame.ensures (λ reply told board w stands found.
    done.replied board w stands found reply (λ shown shows. told shown shows ∙ ap (λ (x : Configuration). spelling (answer x c.in-Ok.request shown)) config))
