use Rattle.std.proofs.Common.{◌≡◌, ◌∙◌, ◌+◌, ◌-◌, ◌^◌, [], ◌∷◌, ap, arith, length, min, refl, set, subst}
use Rattle.std.proofs.lemmas.List.{get_or-set_same}
use Rattle.room_core.specs.Scans.{HasNoDuty}
use Rattle.purgatory.specs.scans.Desks.{ClockView}
use Rattle.room_table.specs.Seats.{scanner_now}
use Rattle.purgatory.proofs.Holds.{last_held, more_won, named_seat}
use Rattle.purgatory.proofs.holding.hold_clock.Goals as goal

pub returns-then-count-clause-held : goal.returns-then-count-clause-held
returns-then-count-clause-held g c =
    let table = c.args.table in
    let seat = c.turn-turn.result.value.seat in
    let wins = set c.args.wins.now 16 c.wins-won.result in
    let desk = c.value-desk.ensures in
    let won = c.wins-won.ensures.count ∙ ap (λ (d : ClockView). length (scanner_now d.seat).wins) desk in
    let none = subst (λ (d : ClockView). HasNoDuty (scanner_now d.seat)) desk c.wins-won.ensures.keeps.no_duty in
    let room = c.requires.wins in
    let sum = c.with-count.ensures.won in
    let sum_is : c.with-count.result.won ≡ min (c.args.count.won + length (scanner_now seat).wins) (2 ^ 64 - 1) = omega (arith, sum, won) in
    let more = c.if-count.true in
    let taken = c.with-count.ensures.taken in
    record {
      seats = seat ∷ [];
      are_held = last_held table wins seat (named_seat table 16 seat (c.turn-turn.ensures.name ∙ c.requires.name) none)
          (get_or-set_same c.args.wins.now 16 c.wins-won.result 0 (omega (arith, room)) ∙ won);
      ended = more_won table 16 c.args.count.won c.args.count.taken wins seat c.with-count.result.won sum_is [] table (refl, omega (arith, more, taken));
    }
