use Rattle.std.proofs.Common.{◌≡◌, ◌∙◌, ◌+◌, ◌++◌, List, [], ◌∷◌, Global, Vec, ap, arith, length, subst, sym}
use Rattle.std.specs.Vec.Iter.{into_iter_items}
use Rattle.std.proofs.lemmas.List.{length_push}
use Rattle.std.proofs.lemmas.List.FromFn.{map-range_with_len_more}
use Rattle.turn_lock.specs.declared.pass.TurnPass.{TurnPass}
use Rattle.shared_logs.specs.declared.entries.ClockEntry.{ClockEntry}
use Rattle.shared_logs.specs.declared.entries.LogEntry.{LogEntry}
use Rattle.shared_logs.specs.Desks.{MomentView, PartView}
use Rattle.purgatory.specs.Rooms.{PassView}
use Rattle.shared_logs.specs.Dealt.{AreDealt}
use Rattle.shared_logs.specs.Locked.{IsLogPass, pass_view}
use Rattle.shared_logs.specs.Making.{fresh_log_passes, fresh_pass}
use Rattle.shared_logs.specs.Shared.{LogPassView}
use Rattle.shared_logs.proofs.NewPasses.{first_dealt, new_pass, new_view, rest_dealt}
use Rattle.shared_logs.proofs.making.log_passes.Goals as goal

pub invariant_of-push : goal.invariant_of-push
invariant_of-push c =
    let shared = c.requires.0 in
    let dealt = (c.loop-room.invariant.each shared c.requires.1).0 in
    let first = first_dealt shared (length c.loop-room.passes) (into_iter_items c.loop-room.room-iterator) (into_iter_items c.next.new.self) c.in-Some.room
    (into_iter_items c.loop-room.rows_left) (into_iter_items c.next-in-loop-room.new.self) c.in-Some-next.parts
    (into_iter_items c.loop-room.clocks_left) (into_iter_items c.next-in-loop-room-2.new.self) c.in-Some-next-2.clock
    c.in-Some.ensures.steps.0 c.in-Some-next.ensures.cases.0 c.in-Some-next-2.ensures.cases.0 dealt in
    subst (λ n. IsLogPass n c.in-Some.room c.in-Some-next.parts.items c.in-Some-next-2.clock 0 0) (sym c.len-number.ensures)
    (new_pass shared (length c.loop-room.passes) c.in-Some.room c.in-Some-next.parts c.in-Some-next-2.clock first.0 first.1 first.2 dealt.shared_is)

pub loop-room-preserved : goal.loop-room-preserved
loop-room-preserved c =
    let i = c.loop-room.invariant in
    let passes = c.loop-room.passes in
    let seats = into_iter_items c.loop-room.room-iterator in
    let seats_left = into_iter_items c.next.new.self in
    let rows = into_iter_items c.loop-room.rows_left in
    let rows_left = into_iter_items c.next-in-loop-room.new.self in
    let clocks = into_iter_items c.loop-room.clocks_left in
    let clocks_left = into_iter_items c.next-in-loop-room-2.new.self in
    let seat : seats ≡ c.in-Some.room ∷ seats_left = c.in-Some.ensures.steps.0 in
    let row : rows ≡ c.in-Some-next.parts ∷ rows_left = c.in-Some-next.ensures.cases.0 in
    let clock : clocks ≡ c.in-Some-next-2.clock ∷ clocks_left = c.in-Some-next-2.ensures.cases.0 in
    let seat_gone = c.in-Some.ensures.steps.1 in
    let row_gone = c.in-Some-next.ensures.cases.1 in
    let clock_gone = c.in-Some-next-2.ensures.cases.1 in
    let seat_taken = ap (λ (l : List PassView). length l) seat in
    let row_taken = ap (λ (l : List (Vec (TurnPass PartView LogEntry) Global)). length l) row in
    let clock_taken = ap (λ (l : List (TurnPass MomentView ClockEntry)). length l) clock in
    let more = c.in_ok-push.ensures.ok in
    let longer = ap (λ (l : List LogPassView). length l) more ∙ length_push passes _ in
    let seats_len = i.seats_len in
    let rows_len = i.rows_len in
    let clocks_len = i.clocks_len in
    let count = i.count in
    record {
      seats_len = omega (arith, seats_len, seat_gone, seat_taken);
      rows_len = omega (arith, rows_len, row_gone, row_taken);
      clocks_len = omega (arith, clocks_len, clock_gone, clock_taken);
      count = omega (arith, count, longer, seat_taken);
      each = λ shared start.
          let now = i.each shared start in
          let n = length passes in
          let first = first_dealt shared n seats seats_left c.in-Some.room rows rows_left c.in-Some-next.parts clocks clocks_left c.in-Some-next-2.clock seat row clock now.0 in
          let view = new_view shared n c.in-Some.room c.in-Some-next.parts c.in-Some-next-2.clock first.0 first.1 first.2 in
          let front : passes ++ fresh_pass shared n ∷ [] ≡ fresh_log_passes shared (n + 1) =
          ap (λ (l : List LogPassView). l ++ fresh_pass shared n ∷ []) now.1 ∙ sym (map-range_with_len_more (fresh_pass shared) 0 n n (omega arith)) in (
            subst (λ k. AreDealt shared k seats_left rows_left clocks_left) (sym longer)
                (rest_dealt shared n seats seats_left c.in-Some.room rows rows_left c.in-Some-next.parts clocks clocks_left c.in-Some-next-2.clock seat row clock now.0),
            more ∙ ap (λ (p : LogPassView). passes ++ p ∷ []) (ap (λ k. pass_view k c.in-Some.room c.in-Some-next.parts.items c.in-Some-next-2.clock) c.len-number.ensures ∙ view) ∙ front ∙ ap (fresh_log_passes shared) (sym longer),
          );
    }
