use Rattle.std.proofs.Common.{◌≡◌, ℕ, ◌+◌, ◌-◌, ◌∙◌, sym, ap, subst, arith, List, length, take, drop, rules, ℤ}
use Rattle.std.proofs.lemmas.Int.{to_z-of_z}
use Rattle.std.specs.Int.{w32}
use mir.Val.{SFits}
use Rattle.kbatch.specs.Batch.{IsBatch}
use Rattle.partlog.specs.declared.event.PartEvent.TheVariants.{Append, Follow, Shrink}
use Rattle.partlog.specs.Added.{bytes_of, log_end_of}
use Rattle.partlog.specs.Appended.{appended}
use Rattle.partlog.specs.Follower.{IsFollower}
use Rattle.partlog.specs.History.{History}
use Rattle.partlog.specs.Kept.{IsKept}
use Rattle.partlog.specs.Lagging.{LagsAt}
use Rattle.partlog.specs.State.{front_of}
use Rattle.audit.specs.Histories.{history_of}
use Rattle.audit.proofs.Laws.{on_ok}
use Rattle.audit.proofs.retelling.Entries.{event_there, cut_is, put, put_batch, put_room, put_grown}
use Rattle.audit.proofs.retelling.playing.play.Goals as goal

pub put_again-requires-clause-batch : goal.put_again-requires-clause-batch
put_again-requires-clause-batch c =
    let h : History = history_of c.args.part.now in
    let e = c.in-Append in
    let at = event_there h.events c.as_slice.result.now c.args.place _ (Append e.by e.seq e.count e.len) c.as_slice.ensures c.requires.within e.is in
    let kept = subst (λ (f : History). IsKept f.log f.events) c.requires.before c.log-start.ensures.kept in
    let start : length c.log-start.result.now ≡ bytes_of (take c.args.place h.events) = sym c.log-start.ensures.whole ∙ ap (λ (f : History). bytes_of f.events) c.requires.before in
    let cut = cut_is (length c.log-start.result.now) (bytes_of (take c.args.place h.events)) e.len c.as_slice-in-Append.result.now h.log start c.as_slice-in-Append.ensures in
    let was = put h c.requires.playable c.args.place e.by e.seq e.count e.len at kept in
    (was.records, subst (λ (bs : List ℕ). IsBatch bs was.records) (sym cut) (put_batch h c.requires.playable c.args.place e.by e.seq e.count e.len at kept))

pub put_again-requires-clause-room : goal.put_again-requires-clause-room
put_again-requires-clause-room c =
    let h : History = history_of c.args.part.now in
    let e = c.in-Append in
    let at = event_there h.events c.as_slice.result.now c.args.place _ (Append e.by e.seq e.count e.len) c.as_slice.ensures c.requires.within e.is in
    let kept = subst (λ (f : History). IsKept f.log f.events) c.requires.before c.log-start.ensures.kept in
    let start : length c.log-start.result.now ≡ bytes_of (take c.args.place h.events) = sym c.log-start.ensures.whole ∙ ap (λ (f : History). bytes_of f.events) c.requires.before in
    let cut = cut_is (length c.log-start.result.now) (bytes_of (take c.args.place h.events)) e.len c.as_slice-in-Append.result.now h.log start c.as_slice-in-Append.ensures in
    omega (arith, ap length cut, start, ap length c.log-start.ensures.bytes, put_room h c.requires.playable c.args.place e.by e.seq e.count e.len at kept)

pub follow_again-requires-clause-follower : goal.follow_again-requires-clause-follower
follow_again-requires-clause-follower c =
    let h : History = history_of c.args.part.now in
    let e = c.in-Follow in
    let fits : SFits w32 e.replica = search rules in
    let at = event_there h.events c.as_slice.result.now c.args.place _ (Follow e.by e.seq e.replica e.offset e.t) c.as_slice.ensures c.requires.within e.is in
    let is = (c.requires.playable.each c.args.place (Follow e.by e.seq e.replica e.offset e.t) at).0 in
    subst (λ (z : ℤ). IsFollower z c.args.log.now.followers) (sym (to_z-of_z w32 e.replica fits)) (subst (λ (f : History). IsFollower e.replica f.followers) (sym c.requires.before) is)

pub follow_again-requires-clause-within : goal.follow_again-requires-clause-within
follow_again-requires-clause-within c =
    let h : History = history_of c.args.part.now in
    let e = c.in-Follow in
    let at = event_there h.events c.as_slice.result.now c.args.place _ (Follow e.by e.seq e.replica e.offset e.t) c.as_slice.ensures c.requires.within e.is in
    let is = (c.requires.playable.each c.args.place (Follow e.by e.seq e.replica e.offset e.t) at).1 in
    omega (arith, is, ap (λ (f : History). log_end_of f.events) c.requires.before)

pub shrink_again-requires : goal.shrink_again-requires
shrink_again-requires c =
    let h : History = history_of c.args.part.now in
    let e = c.in-Shrink in
    let fits : SFits w32 e.replica = search rules in
    let at = event_there h.events c.as_slice.result.now c.args.place _ (Shrink e.by e.replica e.t) c.as_slice.ensures c.requires.within e.is in
    let late : LagsAt h.followers (take c.args.place h.events) e.t e.replica = c.requires.playable.each c.args.place (Shrink e.by e.replica e.t) at in
    subst (λ (z : ℤ). LagsAt c.args.log.now.followers c.args.log.now.events e.t z) (sym (to_z-of_z w32 e.replica fits))
    (subst (λ (f : History). LagsAt f.followers f.events e.t e.replica) (sym c.requires.before) late)

pub returns-in-Append : goal.returns-in-Append
returns-in-Append c =
    let h : History = history_of c.args.part.now in
    let e = c.in-Append in
    let at = event_there h.events c.as_slice.result.now c.args.place _ (Append e.by e.seq e.count e.len) c.as_slice.ensures c.requires.within e.is in
    let kept = subst (λ (f : History). IsKept f.log f.events) c.requires.before c.log-start.ensures.kept in
    let start : length c.log-start.result.now ≡ bytes_of (take c.args.place h.events) = sym c.log-start.ensures.whole ∙ ap (λ (f : History). bytes_of f.events) c.requires.before in
    let cut = cut_is (length c.log-start.result.now) (bytes_of (take c.args.place h.events)) e.len c.as_slice-in-Append.result.now h.log start c.as_slice-in-Append.ensures in
    let bytes : List ℕ = take ((length c.log-start.result.now + e.len) - length c.log-start.result.now) (drop (length c.log-start.result.now) c.as_slice-in-Append.result.now) in
    on_ok c.put_again.result c.put_again.ensures (λ is.
    is ∙ ap (λ (f : History). appended f e.by e.seq bytes) c.requires.before ∙ ap (appended (front_of h c.args.place) e.by e.seq) cut
    ∙ put_grown h c.requires.playable c.args.place e.by e.seq e.count e.len at kept)
