use Rattle.std.proofs.Common.{◌≡◌, ◌∙◌, List, ◌∷◌, ◌++◌, length, ap, arith, rules, subst, sym}
use Rattle.std.specs.List.{AllZip}
use Rattle.std.specs.Vec.Iter.{into_iter_items}
use Rattle.shared_broker.specs.declared.closing.Sheet.{Sheet}
use Rattle.shared_broker.specs.Closed.{IsJoined, gathered}
use Rattle.shared_broker.specs.Passes.{PassView}
use Rattle.shared_broker.proofs.ClosingSheets.{as_many, next_joined, together_step}
use Rattle.shared_broker.proofs.closing.put_together.Goals as goal
use Rattle.shared_logs.specs.Shared.{LogPassView}

pub loop-seat-init : goal.loop-seat-init
loop-seat-init c =
    let logs = c.args.logs in
    let sheets = c.args.sheets in
    let seats_are : into_iter_items c.into_iter-seat-iterator.result ≡ logs = c.into_iter-seat-iterator.ensures.into_iter_gives.0 ∙ c.into_vec-seat-items.ensures in
    let left_are : into_iter_items c.into_iter-left.result ≡ sheets = c.into_iter-left.ensures.rest ∙ c.into_vec.ensures in
    record {
      seats_len = search rules;
      sheets_len = search rules;
      same = ap (λ (l : List Sheet). length l) left_are ∙ as_many logs sheets c.requires ∙ sym (ap (λ (l : List LogPassView). length l) seats_are);
      joined = subst (λ (l : List LogPassView). AllZip IsJoined l (into_iter_items c.into_iter-left.result)) (sym seats_are) (subst (AllZip IsJoined logs) (sym left_are) c.requires);
      all = ap (λ (ps : List PassView). ps ++ gathered (into_iter_items c.into_iter-seat-iterator.result) (into_iter_items c.into_iter-left.result)) c.new-passes.ensures
          ∙ ap (λ (l : List LogPassView). gathered l (into_iter_items c.into_iter-left.result)) seats_are ∙ ap (gathered logs) left_are;
    }

pub invariant_of-push : goal.invariant_of-push
invariant_of-push c =
    let seats = into_iter_items c.loop-seat.seat-iterator in
    let sheets = into_iter_items c.loop-seat.left in
    let n = (next_joined seats (into_iter_items c.next.new.self) sheets (into_iter_items c.next-in-loop-seat.new.self) c.in-Some.seat c.in-Some-next.sheet c.in-Some.ensures.steps.0 c.in-Some-next.ensures.cases.0 c.loop-seat.invariant.joined).0 in
    (n.stands, n.first)

pub loop-seat-preserved : goal.loop-seat-preserved
loop-seat-preserved c =
    let i = c.loop-seat.invariant in
    let seats = into_iter_items c.loop-seat.seat-iterator in
    let seats_next = into_iter_items c.next.new.self in
    let sheets = into_iter_items c.loop-seat.left in
    let sheets_next = into_iter_items c.next-in-loop-seat.new.self in
    let seat : seats ≡ c.in-Some.seat ∷ seats_next = c.in-Some.ensures.steps.0 in
    let sheet : sheets ≡ c.in-Some-next.sheet ∷ sheets_next = c.in-Some-next.ensures.cases.0 in
    let seat_gone = c.in-Some.ensures.steps.1 in
    let sheet_gone = c.in-Some-next.ensures.cases.1 in
    let seat_taken = ap (λ (l : List LogPassView). length l) seat in
    let sheet_taken = ap (λ (l : List Sheet). length l) sheet in
    let seats_len = i.seats_len in
    let sheets_len = i.sheets_len in
    let same = i.same in
    record {
      seats_len = omega (arith, seats_len, seat_gone, seat_taken);
      sheets_len = omega (arith, sheets_len, sheet_gone, sheet_taken);
      same = omega (arith, same, seat_taken, sheet_taken);
      joined = (next_joined seats seats_next sheets sheets_next c.in-Some.seat c.in-Some-next.sheet seat sheet i.joined).1;
      all = together_step seats seats_next sheets sheets_next c.in-Some.seat c.in-Some-next.sheet seat sheet i.joined c.loop-seat.passes c.push.new.self (gathered c.args.logs c.args.sheets) c.in_ok-push.ensures.ok i.all;
    }
