use Rattle.std.proofs.Common.{◌≡◌, ◌≢◌, ◌<◌, ℕ, List, get_or, length, sym, ap, subst, ◌∙◌, arith}
use Rattle.audit.specs.declared.account.SessionEnd.TheVariants.{CallsFull, Refused}
use Rattle.audit.specs.declared.account.TheConstants.{MOST_CALLS}
use Rattle.audit.specs.declared.account.Point.{Point}
use Rattle.kwire.specs.IsRequest.{IsRequest}
use Rattle.kwire.specs.Refusal.{IsRefused}
use Rattle.kwire.proofs.Laws.{whole_within}
use Rattle.partlog.specs.History.{History}
use Rattle.audit.specs.broker.Acting.{Acts}
use Rattle.audit.specs.broker.Board.{Seat, next_call, seat_at}
use Rattle.lone_broker.specs.Desks.{front_body, next_of}
use Rattle.lone_broker.specs.Handled.{IsHandled}
use Rattle.lone_broker.specs.Kept.{Kept, TurnsBy}
use Rattle.audit.proofs.Laws.{on_ok}
use Rattle.lone_broker.proofs.DecisionSteps.{on_ok_both}
use Rattle.lone_broker.proofs.Standing.{all_written, moved, seat_shown}
use Rattle.lone_broker.specs.Steps.{IsActed}
use Rattle.lone_broker.proofs.Steps.{ended_acted, handled_acted}
use Rattle.lone_broker.proofs.Taking.{call_of, ends_acting, full_acts, handled_turns, noted, refused_acts}
use Rattle.lone_broker.proofs.engine.Engine.take_frame.Goals as goal

pub returns-then-seq-clause-acts : goal.returns-then-seq-clause-acts
returns-then-seq-clause-acts c =
    let kept = c.args.self.now in
    let s = c.args.session in
    let end = c.args.end in
    let there : s < length kept.parked = omega (arith, c.requires.there, c.requires.stands.1.kept_of.parked) in
    let sat : s < length kept.board.seats = omega (arith, c.requires.there, c.requires.stands.1.kept_of.seats) in
    let seat = seat_shown kept _ c.as_slice.result.now s c.index-as_slice-session.result c.self.view_is c.as_slice.ensures sat c.index-as_slice-session.is in
    let counted : c.next_call-seq.result ≡ next_call kept.board s = c.next_call-seq.ensures.number s ∙ ap (next_of s) (sym seat) in
    on_ok c.end_session.result c.end_session.ensures.ended (λ turns.
    ends_acting kept c.end_session.new.self s CallsFull c.args.out.now c.end_session.new.out (λ waiting are. full_acts kept waiting s end c.requires.whole (sym counted ∙ c.if-seq.true)) turns)

pub returns-then-seq-clause-alone : goal.returns-then-seq-clause-alone
returns-then-seq-clause-alone c =
    on_ok c.end_session.result c.end_session.ensures.alone (λ alone. ended_acted c.args.self.now c.end_session.new.self c.args.session alone c.requires.idle)

pub body-requires-clause-within : goal.body-requires-clause-within
body-requires-clause-within c =
    let kept = c.args.self.now in
    let s = c.args.session in
    let end = c.args.end in
    let there : s < length kept.parked = omega (arith, c.requires.there, c.requires.stands.1.kept_of.parked) in
    let sat : s < length kept.board.seats = omega (arith, c.requires.there, c.requires.stands.1.kept_of.seats) in
    let seat = seat_shown kept _ c.as_slice.result.now s c.index-as_slice-session.result c.self.view_is c.as_slice.ensures sat c.index-as_slice-session.is in
    let counted : c.next_call-seq.result ≡ next_call kept.board s = c.next_call-seq.ensures.number s ∙ ap (next_of s) (sym seat) in
    omega (arith, whole_within (seat_at kept.board s).inbox end c.requires.whole, ap (λ (x : Seat). length x.inbox) seat)

pub returns-in-Err-clause-acts : goal.returns-in-Err-clause-acts
returns-in-Err-clause-acts c =
    let kept = c.args.self.now in
    let s = c.args.session in
    let end = c.args.end in
    let there : s < length kept.parked = omega (arith, c.requires.there, c.requires.stands.1.kept_of.parked) in
    let sat : s < length kept.board.seats = omega (arith, c.requires.there, c.requires.stands.1.kept_of.seats) in
    let seat = seat_shown kept _ c.as_slice.result.now s c.index-as_slice-session.result c.self.view_is c.as_slice.ensures sat c.index-as_slice-session.is in
    let counted : c.next_call-seq.result ≡ next_call kept.board s = c.next_call-seq.ensures.number s ∙ ap (next_of s) (sym seat) in
    let why = c.in-Err.why in
    let room : next_call kept.board s ≢ MOST_CALLS = λ e. c.if-seq.false (counted ∙ e) in
    let frame : c.as_slice-2.result.now ≡ front_body (seat_at kept.board s) end = c.as_slice-2.ensures ∙ c.in_ok-body.ensures ∙ ap (λ (x : Seat). front_body x end) (sym seat) in
    on_ok_both c.refuse.result c.refuse.ensures.why c.refuse.ensures.ended (λ memory turns.
    ends_acting kept c.refuse.new.self s (Refused why) c.args.out.now c.refuse.new.out
    (λ waiting are. refused_acts kept waiting s end why c.requires.whole room (subst (λ (x : List ℕ). IsRefused x why) frame (c.in-Err.ensures.refused memory))) turns)

pub returns-in-Err-clause-alone : goal.returns-in-Err-clause-alone
returns-in-Err-clause-alone c =
    on_ok c.refuse.result c.refuse.ensures.alone (λ alone. ended_acted c.args.self.now c.refuse.new.self c.args.session alone c.requires.idle)

pub note-requires-clause-within : goal.note-requires-clause-within
note-requires-clause-within c =
    let kept = c.args.self.now in
    let s = c.args.session in
    let end = c.args.end in
    let there : s < length kept.parked = omega (arith, c.requires.there, c.requires.stands.1.kept_of.parked) in
    let sat : s < length kept.board.seats = omega (arith, c.requires.there, c.requires.stands.1.kept_of.seats) in
    let seat = seat_shown kept _ c.as_slice.result.now s c.index-as_slice-session.result c.self.view_is c.as_slice.ensures sat c.index-as_slice-session.is in
    let counted : c.next_call-seq.result ≡ next_call kept.board s = c.next_call-seq.ensures.number s ∙ ap (next_of s) (sym seat) in
    let now = seat_shown kept _ c.as_mut_slice.result.now s c.index-as_mut_slice-session.result c.self.view_is c.as_mut_slice.ensures.value sat c.index-as_mut_slice-session.is in
    omega (arith, whole_within (seat_at kept.board s).inbox end c.requires.whole, ap (λ (x : Seat). length x.inbox) (now ∙ c.index-as_mut_slice-session.is))

pub note-requires-clause-room : goal.note-requires-clause-room
note-requires-clause-room c =
    let kept = c.args.self.now in
    let s = c.args.session in
    let end = c.args.end in
    let there : s < length kept.parked = omega (arith, c.requires.there, c.requires.stands.1.kept_of.parked) in
    let sat : s < length kept.board.seats = omega (arith, c.requires.there, c.requires.stands.1.kept_of.seats) in
    let seat = seat_shown kept _ c.as_slice.result.now s c.index-as_slice-session.result c.self.view_is c.as_slice.ensures sat c.index-as_slice-session.is in
    let counted : c.next_call-seq.result ≡ next_call kept.board s = c.next_call-seq.ensures.number s ∙ ap (next_of s) (sym seat) in
    let now = seat_shown kept _ c.as_mut_slice.result.now s c.index-as_mut_slice-session.result c.self.view_is c.as_mut_slice.ensures.value sat c.index-as_mut_slice-session.is in
    let at : seat_at kept.board s ≡ get_or c.as_mut_slice.result.now s c.index-as_mut_slice-session.result = now ∙ c.index-as_mut_slice-session.is in
    let same : next_call kept.board s ≡ next_of s (get_or c.as_mut_slice.result.now s c.index-as_mut_slice-session.result) = ap (next_of s) at in
    omega (arith, same, counted, c.next_call-seq.ensures.few, c.if-seq.false)

pub returns-clause-acts : goal.returns-clause-acts
returns-clause-acts c =
    let kept = c.args.self.now in
    let s = c.args.session in
    let end = c.args.end in
    let there : s < length kept.parked = omega (arith, c.requires.there, c.requires.stands.1.kept_of.parked) in
    let sat : s < length kept.board.seats = omega (arith, c.requires.there, c.requires.stands.1.kept_of.seats) in
    let seat = seat_shown kept _ c.as_slice.result.now s c.index-as_slice-session.result c.self.view_is c.as_slice.ensures sat c.index-as_slice-session.is in
    let counted : c.next_call-seq.result ≡ next_call kept.board s = c.next_call-seq.ensures.number s ∙ ap (next_of s) (sym seat) in
    let i = c.self.inside in
    let body = front_body (seat_at kept.board s) end in
    let done = c.in_ok-handled.handled in
    let request = c.in-Ok.request in
    let frame : c.in_ok-body.body ≡ body = c.in_ok-body.ensures ∙ ap (λ (x : Seat). front_body x end) (sym seat) in
    let asked : IsRequest body request = subst (λ (x : List ℕ). IsRequest x request) (c.as_slice-2.ensures ∙ frame) c.in-Ok.ensures.request in
    let size : length c.handle.new.parts ≡ length i.parts = c.handle.auto.parts ∙ ap length c.as_mut_slice-parts.ensures.value in
    let made = all_written i.config i.parts c.handle.new.parts i.clock c.handle.new.clock i.desks c.as_mut_slice.result.now i.parked c.as_mut_slice-2.result.now kept s (noted s end (call_of c.in_ok-body.body done.accept c.new.result done.how)) c.index-as_mut_slice-session.result c.note.new.self done.parked
    c.self.view_is sat size c.as_mut_slice.ensures.value c.index-as_mut_slice-session.is c.in_ok-note.ensures c.as_mut_slice-2.ensures.value in
    let K : List ℕ → List Point → Kept = λ b none. moved kept c.handle.new.parts c.handle.new.clock s (noted s end (call_of b done.accept none done.how) (seat_at kept.board s)) done.parked in
    let same = made ∙ ap (λ (b : List ℕ). K b c.new.result) frame ∙ ap (K body) c.new.ensures in
    let h0 = subst (λ (ps : List History). IsHandled i.config s c.next_call-seq.result request ps c.handle.new.parts i.clock c.handle.new.clock done c.args.out.now c.handle.new.out) c.as_mut_slice-parts.ensures.value c.in_ok-handled.ensures in
    let h : IsHandled kept.board.config s c.next_call-seq.result request kept.board.parts c.handle.new.parts kept.board.clock c.handle.new.clock done c.args.out.now c.handle.new.out =
    subst (λ (k : Kept). IsHandled k.board.config s c.next_call-seq.result request k.board.parts c.handle.new.parts k.board.clock c.handle.new.clock done c.args.out.now c.handle.new.out) c.self.view_is h0 in
    subst (λ (k : Kept). TurnsBy (λ board. Acts board s) kept k c.args.out.now c.handle.new.out) (sym same)
    (handled_turns kept s end c.next_call-seq.result request c.handle.new.parts c.handle.new.clock done c.args.out.now c.handle.new.out c.requires.there c.requires.idle c.requires.whole counted c.if-seq.false asked h)

pub returns-clause-alone : goal.returns-clause-alone
returns-clause-alone c =
    let kept = c.args.self.now in
    let s = c.args.session in
    let end = c.args.end in
    let there : s < length kept.parked = omega (arith, c.requires.there, c.requires.stands.1.kept_of.parked) in
    let sat : s < length kept.board.seats = omega (arith, c.requires.there, c.requires.stands.1.kept_of.seats) in
    let seat = seat_shown kept _ c.as_slice.result.now s c.index-as_slice-session.result c.self.view_is c.as_slice.ensures sat c.index-as_slice-session.is in
    let counted : c.next_call-seq.result ≡ next_call kept.board s = c.next_call-seq.ensures.number s ∙ ap (next_of s) (sym seat) in
    let i = c.self.inside in
    let body = front_body (seat_at kept.board s) end in
    let done = c.in_ok-handled.handled in
    let request = c.in-Ok.request in
    let frame : c.in_ok-body.body ≡ body = c.in_ok-body.ensures ∙ ap (λ (x : Seat). front_body x end) (sym seat) in
    let asked : IsRequest body request = subst (λ (x : List ℕ). IsRequest x request) (c.as_slice-2.ensures ∙ frame) c.in-Ok.ensures.request in
    let size : length c.handle.new.parts ≡ length i.parts = c.handle.auto.parts ∙ ap length c.as_mut_slice-parts.ensures.value in
    let made = all_written i.config i.parts c.handle.new.parts i.clock c.handle.new.clock i.desks c.as_mut_slice.result.now i.parked c.as_mut_slice-2.result.now kept s (noted s end (call_of c.in_ok-body.body done.accept c.new.result done.how)) c.index-as_mut_slice-session.result c.note.new.self done.parked
    c.self.view_is sat size c.as_mut_slice.ensures.value c.index-as_mut_slice-session.is c.in_ok-note.ensures c.as_mut_slice-2.ensures.value in
    let K : List ℕ → List Point → Kept = λ b none. moved kept c.handle.new.parts c.handle.new.clock s (noted s end (call_of b done.accept none done.how) (seat_at kept.board s)) done.parked in
    let same = made ∙ ap (λ (b : List ℕ). K b c.new.result) frame ∙ ap (K body) c.new.ensures in
    let h0 = subst (λ (ps : List History). IsHandled i.config s c.next_call-seq.result request ps c.handle.new.parts i.clock c.handle.new.clock done c.args.out.now c.handle.new.out) c.as_mut_slice-parts.ensures.value c.in_ok-handled.ensures in
    let h : IsHandled kept.board.config s c.next_call-seq.result request kept.board.parts c.handle.new.parts kept.board.clock c.handle.new.clock done c.args.out.now c.handle.new.out =
    subst (λ (k : Kept). IsHandled k.board.config s c.next_call-seq.result request k.board.parts c.handle.new.parts k.board.clock c.handle.new.clock done c.args.out.now c.handle.new.out) c.self.view_is h0 in
    subst (IsActed s kept) (sym same)
    (handled_acted kept s end c.next_call-seq.result request c.handle.new.parts c.handle.new.clock done c.args.out.now c.handle.new.out body c.requires.stands c.requires.there asked h body)
