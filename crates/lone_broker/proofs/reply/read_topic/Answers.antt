use Rattle.std.proofs.Common.{◌≡◌, ◌<◌, ◌+◌, ℕ, ℤ, List, [], ◌∷◌, ◌++◌, length, get_or, drop, All, append_assoc, sym, ap, subst, ◌∙◌, arith}
use Rattle.std.proofs.lemmas.List.{drop_more}
use Rattle.std.proofs.lemmas.List.Elements.{All-push}
use Rattle.std.proofs.lemmas.List.Sums.{sum_by_push}
use Rattle.partlog.specs.History.{History}
use Rattle.kwire.specs.declared.request.FetchPart.{FetchPart}
use Rattle.kanswer.specs.declared.accepted.Accepted.{Accepted}
use Rattle.kanswer.specs.declared.accepted.Reading.{Reading}
use Rattle.kanswer.specs.declared.accepted.Budget.{Budget}
use Rattle.kanswer.specs.BytesRead.{bytes_read}
use Rattle.kanswer.specs.LogReadings.{HasCarriable}
use Rattle.lone_broker.specs.Gathered.{reading_now, left_now, readings_now, left_behind}
use Rattle.lone_broker.proofs.reply.read_topic.Goals as goal

next_read : (parts : List History) (replica : ℤ) (asked : List FetchPart) (accepted : List Accepted) (i : ℕ) (d : FetchPart) (e : Accepted) (b left : Budget) (before now whole : List Reading) (one : Reading)
    → i < length asked → length accepted ≡ length asked
    → one ≡ reading_now parts replica (get_or asked i d) (get_or accepted i e) b
    → left ≡ left_now parts replica (get_or asked i d) (get_or accepted i e) b
    → now ≡ before ++ one ∷ []
    → before ++ readings_now parts replica (drop i asked) (drop i accepted) b ≡ whole
    → now ++ readings_now parts replica (drop (i + 1) asked) (drop (i + 1) accepted) left ≡ whole
next_read parts replica asked accepted i d e b left before now whole one lt size is left_is push so_far =
    let a = get_or asked i d in
    let x = get_or accepted i e in
    let rest : Budget → List Reading = λ y. readings_now parts replica (drop (i + 1) asked) (drop (i + 1) accepted) y in
    let split : readings_now parts replica (drop i asked) (drop i accepted) b ≡ reading_now parts replica a x b ∷ rest (left_now parts replica a x b) =
    ap (λ (parted : List FetchPart). readings_now parts replica parted (drop i accepted) b) (drop_more asked i d lt)
    ∙ ap (λ (became : List Accepted). readings_now parts replica (a ∷ drop (i + 1) asked) became b) (drop_more accepted i e (omega arith)) in
    ap (λ (rs : List Reading). rs ++ rest left) push
    ∙ append_assoc before (one ∷ []) (rest left)
    ∙ ap (λ (r : Reading). before ++ r ∷ rest left) is
    ∙ ap (λ (y : Budget). before ++ reading_now parts replica a x b ∷ rest y) left_is
    ∙ ap (λ (rs : List Reading). before ++ rs) (sym split)
    ∙ so_far

next_left : (parts : List History) (replica : ℤ) (asked : List FetchPart) (accepted : List Accepted) (i : ℕ) (d : FetchPart) (e : Accepted) (b left whole : Budget)
    → i < length asked → length accepted ≡ length asked
    → left ≡ left_now parts replica (get_or asked i d) (get_or accepted i e) b
    → left_behind parts replica (drop i asked) (drop i accepted) b ≡ whole
    → left_behind parts replica (drop (i + 1) asked) (drop (i + 1) accepted) left ≡ whole
next_left parts replica asked accepted i d e b left whole lt size left_is so_far =
    ap (λ (y : Budget). left_behind parts replica (drop (i + 1) asked) (drop (i + 1) accepted) y) left_is
    ∙ sym (ap (λ (parted : List FetchPart). left_behind parts replica parted (drop i accepted) b) (drop_more asked i d lt)
    ∙ ap (λ (became : List Accepted). left_behind parts replica (get_or asked i d ∷ drop (i + 1) asked) became b) (drop_more accepted i e (omega arith)))
    ∙ so_far

pub loop-at-preserved : goal.loop-at-preserved
loop-at-preserved c =
    let parts = c.args.reader.now.parts.now in
    let replica = c.args.reader.now.replica in
    let asked = c.args.asked.now in
    let accepted = c.args.accepted.now in
    let before = c.loop-at.readings in
    let one = c.in_ok-read_one.field-0 in
    let was = c.loop-at.invariant in
    let now = c.in_ok-read_one.ensures in
    let push = c.in_ok-push.ensures.ok in
    record {
      read = next_read parts replica asked accepted c.loop-at.at _ _ c.loop-at.budget c.read_one.new.budget before c.push.new.self _ one c.loop-at-test.true c.requires.size now.read now.left push was.read;
      left = next_left parts replica asked accepted c.loop-at.at _ _ c.loop-at.budget c.read_one.new.budget _ c.loop-at-test.true c.requires.size now.left was.left;
      offsets = λ all. subst (λ (rs : List Reading). All HasCarriable rs) (sym push) (All-push HasCarriable before one (was.offsets all) now.offset);
      room = omega (arith, ap bytes_read push, sum_by_push (λ (r : Reading). length r.records) before one, now.room, was.room);
    }
