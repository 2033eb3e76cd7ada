use Rattle.std.proofs.Common.{◌≡◌, ◌∙◌, ◌+◌, ◌-◌, ◌^◌, ◌∷◌, ap, arith, length, min, subst, sym}
use Rattle.std.specs.Prelude.{slice_index}
use Rattle.std.proofs.lemmas.List.{get_or-set_same}
use Rattle.room_core.specs.Scans.{HasNoDuty}
use Rattle.purgatory.specs.scans.Desks.{ShardView}
use Rattle.room_table.specs.Closing.{ClosingView, with_scanner}
use Rattle.room_table.specs.Seats.{ScanView, scanner_now}
use Rattle.purgatory.specs.declared.holding.Held.{Held}
use Rattle.purgatory.specs.Holding.{IsHeldFor}
use Rattle.purgatory.proofs.Holds.{all_taken, may_turn, more_held, more_won, name_at, named_seat, same_back}
use Rattle.purgatory.proofs.holding.+hold_from.Goals as goal

pub turn-turn-requires : goal.turn-turn-requires
turn-turn-requires g t c =
    let l = c.locks.inside in
    let most = c.requires.at in
    let other = c.if-at.false in
    record {
      pass = may_turn c.args.table l.shards.items l.clock c.args.locks.now c.args.shards.now.items c.args.at c.locks.view_is c.locks.invariant c.requires.room.named c.requires.shards (omega (arith, most, other))
          c.index-lock.result.now c.index_mut.result.now c.index-lock.ensures c.index_mut.ensures.value;
    }

pub take_scanner-requires : goal.take_scanner-requires
take_scanner-requires g t c =
    let l = c.locks.inside in
    let most = c.requires.at in
    let other = c.if-at.false in
    let seat = c.turn-turn.result.value.seat in
    let name = name_at c.args.table l.shards.items l.clock c.args.locks.now c.args.shards.now.items c.args.at c.locks.view_is c.locks.invariant c.requires.room.named c.requires.shards (omega (arith, most, other))
    c.index-lock.result.now c.index_mut.result.now c.index-lock.ensures c.index_mut.ensures.value in
    let none = subst (λ (d : ShardView). HasNoDuty (scanner_now d.seat)) c.value-desk.ensures c.wins-won.ensures.keeps.no_duty in
    let is = named_seat c.args.table c.args.at seat (c.turn-turn.ensures.name ∙ name) none in
    ap (λ (s : ScanView). s.table) (c.into_seat.ensures.seat ∙ ap (λ (d : ShardView). d.seat) c.take.ensures) ∙ is.table_is ∙ sym (ap (λ (x : ClosingView). x.table) c.in-Still.ensures.held.ended.0)

pub returns-in-Untaken-clause-held : goal.returns-in-Untaken-clause-held
returns-in-Untaken-clause-held g t c =
    let l = c.locks.inside in
    let most = c.requires.at in
    let other = c.if-at.false in
    let seat = c.turn-turn.result.value.seat in
    let name = name_at c.args.table l.shards.items l.clock c.args.locks.now c.args.shards.now.items c.args.at c.locks.view_is c.locks.invariant c.requires.room.named c.requires.shards (omega (arith, most, other))
    c.index-lock.result.now c.index_mut.result.now c.index-lock.ensures c.index_mut.ensures.value in
    let none = subst (λ (d : ShardView). HasNoDuty (scanner_now d.seat)) c.value-desk.ensures c.wins-won.ensures.keeps.no_duty in
    let is = named_seat c.args.table c.args.at seat (c.turn-turn.ensures.name ∙ name) none in
    let won = c.wins-won.ensures.count ∙ ap (λ (d : ShardView). length (scanner_now d.seat).wins) c.value-desk.ensures in
    let wins = c.hold_from.new.wins in
    let room = c.requires.wins in
    let noted : slice_index wins c.args.at ≡ length (scanner_now seat).wins =
    c.in-Untaken.ensures.wins.below c.args.at (omega arith) ∙ get_or-set_same c.args.wins.now c.args.at c.wins-won.result 0 (omega (arith, room, most, other)) ∙ won in
    let sum = c.with.ensures.won in
    let sum_is : c.with.result.won ≡ min (c.args.count.won + length (scanner_now seat).wins) (2 ^ 64 - 1) = omega (arith, sum, won) in
    let h = c.in-Untaken.ensures.held in
    record {
      seats = seat ∷ h.seats;
      are_held = more_held c.args.table c.args.at wins seat h.seats is noted h.are_held;
      ended = more_won c.args.table c.args.at c.args.count.won c.args.count.taken wins seat c.with.result.won sum_is h.seats c.in-Untaken.table
          (subst (λ n. IsHeldFor c.args.table c.with.result.won n h.seats (Held.Untaken c.in-Untaken.table)) c.with.ensures.taken h.ended);
    }

pub returns-in-Untaken-clause-back : goal.returns-in-Untaken-clause-back
returns-in-Untaken-clause-back g t c =
    let l = c.locks.inside in
    let most = c.requires.at in
    let other = c.if-at.false in
    let back = c.in-Untaken.ensures.back in
    record {
      shards = same_back c.args.table l.shards.items l.clock c.args.locks.now c.args.shards.now.items c.args.at c.locks.view_is c.locks.invariant c.requires.room.named c.requires.shards (omega (arith, most, other))
          c.index-lock.result.now c.index_mut.result.now c.index-lock.ensures c.index_mut.ensures.value c.turn-turn.new.pass c.end.new.pass c.hold_from.new.shards.items back.shards c.end.ensures.pass;
      clock = back.clock;
    }

pub returns-in-Still-clause-held : goal.returns-in-Still-clause-held
returns-in-Still-clause-held g t c =
    let l = c.locks.inside in
    let most = c.requires.at in
    let other = c.if-at.false in
    let seat = c.turn-turn.result.value.seat in
    let name = name_at c.args.table l.shards.items l.clock c.args.locks.now c.args.shards.now.items c.args.at c.locks.view_is c.locks.invariant c.requires.room.named c.requires.shards (omega (arith, most, other))
    c.index-lock.result.now c.index_mut.result.now c.index-lock.ensures c.index_mut.ensures.value in
    let none = subst (λ (d : ShardView). HasNoDuty (scanner_now d.seat)) c.value-desk.ensures c.wins-won.ensures.keeps.no_duty in
    let is = named_seat c.args.table c.args.at seat (c.turn-turn.ensures.name ∙ name) none in
    let won = c.wins-won.ensures.count ∙ ap (λ (d : ShardView). length (scanner_now d.seat).wins) c.value-desk.ensures in
    let wins = c.hold_from.new.wins in
    let room = c.requires.wins in
    let noted : slice_index wins c.args.at ≡ length (scanner_now seat).wins =
    c.in-Still.ensures.wins.below c.args.at (omega arith) ∙ get_or-set_same c.args.wins.now c.args.at c.wins-won.result 0 (omega (arith, room, most, other)) ∙ won in
    let sum = c.with.ensures.won in
    let sum_is : c.with.result.won ≡ min (c.args.count.won + length (scanner_now seat).wins) (2 ^ 64 - 1) = omega (arith, sum, won) in
    let same : c.into_seat.result ≡ seat = c.into_seat.ensures.seat ∙ ap (λ (d : ShardView). d.seat) c.take.ensures in
    let h = c.in-Still.ensures.held in
    record {
      seats = seat ∷ h.seats;
      are_held = more_held c.args.table c.args.at wins seat h.seats is noted h.are_held;
      ended = all_taken c.args.table c.args.at c.args.count.won c.args.count.taken wins seat c.with.result.won sum_is h.seats c.in-Still.closing c.take_scanner.new.self c.requires.taken
          (subst (λ n. IsHeldFor c.args.table c.with.result.won n h.seats (Held.Still c.in-Still.closing)) c.with.ensures.taken h.ended)
          (c.take_scanner.ensures ∙ ap (with_scanner c.in-Still.closing) same);
    }
