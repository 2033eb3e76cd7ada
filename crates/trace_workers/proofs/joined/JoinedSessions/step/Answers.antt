use Rattle.std.proofs.Common.{◌≡◌, ◌≢◌, ◌∙◌, ◌<◌, ℕ, Bool, List, true, false, get_or, length, sym, ap, subst}
use Rattle.std.proofs.lemmas.List.{get_or-set_same, length-set}
use Rattle.std.specs.Prelude.{All}
use Rattle.std.proofs.lemmas.List.Elements.{All-set}
use Rattle.std.proofs.lemmas.Result.{IfOk-weaker, on_ok_weaker}
use Rattle.trace_file.specs.declared.line.Line.{Line}
use Rattle.trace_workers.specs.Received.{HasReceived}
use Rattle.trace_workers.specs.Resting.{Rests}
use Rattle.trace_workers.specs.Sessions.{IsSameSession, KeepsLines, SessionView}
use Rattle.trace_workers.specs.Joined.{JoinedView, HasJoined}
use Rattle.trace_workers.proofs.JoinedOn.{lent_on, one_written, step_joined}
use Rattle.trace_workers.proofs.Moving.{moved_at}
use Rattle.trace_workers.proofs.joined.JoinedSessions.step.Goals as goal

pub returns-clause-size : goal.returns-clause-size
returns-clause-size g c =
    let i = c.self.inside in
    let joined : JoinedView = record { sessions = i.sessions; clock = i.clock } in
    lent_on (λ (old new : JoinedView). length new.sessions ≡ length old.sessions) joined c.args.self.now c.as_mut_slice.result.now c.args.at c.step.new.self c.self.view_is c.as_mut_slice.ensures.value (length-set i.sessions c.args.at c.step.new.self)

pub returns-clause-whole : goal.returns-clause-whole
returns-clause-whole g c =
    let i = c.self.inside in
    let joined : JoinedView = record { sessions = i.sessions; clock = i.clock } in
    let broker = c.args.broker.now in
    let at = c.args.at in
    let d = c.index-as_mut_slice-at.result in
    let s = c.step.new.self in
    let lent = c.as_mut_slice.result.now in
    let value = c.as_mut_slice.ensures.value in
    let there = subst (λ (l : JoinedView). at < length l.sessions) (sym c.self.view_is) c.requires.there in
    let same = subst (λ (xs : List SessionView). IsSameSession (get_or xs at d) s) value c.step.ensures.same in
    let named = subst (λ (xs : List SessionView). s.is_named ≡ (get_or xs at d).is_named) value c.step.ensures.named in
    let shut = subst (λ (xs : List SessionView). s.is_shut ≡ (get_or xs at d).is_shut) value c.step.ensures.shut in
    on_ok_weaker c.step.result
    (λ (goes : (input : List ℕ) → HasReceived input (get_or lent at d) → HasReceived input s) (lines : List Line) (count : ℕ).
    lent_on (λ (old new : JoinedView). HasJoined broker lines count old → HasJoined broker lines count new) joined c.args.self.now lent at s c.self.view_is value
    (step_joined broker lines count joined at d s there same named shut
    (subst (λ (xs : List SessionView). (input : List ℕ) → HasReceived input (get_or xs at d) → HasReceived input s) value goes)))
    c.step.ensures.received

pub returns-clause-kept : goal.returns-clause-kept
returns-clause-kept g c keeps =
    let i = c.self.inside in
    let joined : JoinedView = record { sessions = i.sessions; clock = i.clock } in
    let at = c.args.at in
    let d = c.index-as_mut_slice-at.result in
    let s = c.step.new.self in
    let value = c.as_mut_slice.ensures.value in
    let there = subst (λ (l : JoinedView). at < length l.sessions) (sym c.self.view_is) c.requires.there in
    let same = subst (λ (xs : List SessionView). IsSameSession (get_or xs at d) s) value c.step.ensures.same in
    lent_on (λ (old new : JoinedView). All (KeepsLines keeps) old.sessions → All (KeepsLines keeps) new.sessions) joined c.args.self.now c.as_mut_slice.result.now at s c.self.view_is value
    (λ all. All-set (KeepsLines keeps) i.sessions at s (same.kept ∙ all at d there) all)

pub returns-clause-rests : goal.returns-clause-rests
returns-clause-rests g c =
    let i = c.self.inside in
    let at = c.args.at in
    let s = c.step.new.self in
    let there = subst (λ (l : JoinedView). at < length l.sessions) (sym c.self.view_is) c.requires.there in
    IfOk-weaker c.step.result (λ (did : Bool). did ≡ false → Rests s) _
    (λ did rests none e. subst Rests (sym (ap (λ (xs : List SessionView). get_or xs at e) (one_written i.sessions c.as_mut_slice.result.now at s c.as_mut_slice.ensures.value) ∙ get_or-set_same i.sessions at s e there)) (rests none))
    c.step.ensures.rests

pub returns-clause-moved : goal.returns-clause-moved
returns-clause-moved g c =
    let i = c.self.inside in
    let joined : JoinedView = record { sessions = i.sessions; clock = i.clock } in
    let at = c.args.at in
    let d = c.index-as_mut_slice-at.result in
    let s = c.step.new.self in
    let lent = c.as_mut_slice.result.now in
    let value = c.as_mut_slice.ensures.value in
    let there = subst (λ (l : JoinedView). at < length l.sessions) (sym c.self.view_is) c.requires.there in
    IfOk-weaker c.step.result (λ (did : Bool). did ≡ true → s.pass.going ≢ (get_or lent at d).pass.going) _
    (λ did moved some.
    lent_on (λ (old new : JoinedView). (e : SessionView) → get_or new.sessions at e ≢ get_or old.sessions at e) joined c.args.self.now lent at s c.self.view_is value
    (moved_at i.sessions at d s there (subst (λ (xs : List SessionView). s.pass.going ≢ (get_or xs at d).pass.going) value (moved some))))
    c.step.ensures.moved
