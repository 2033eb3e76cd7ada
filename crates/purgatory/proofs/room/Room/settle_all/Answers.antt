use Rattle.std.proofs.Common.{⊎_elim, ◌≡◌, ◌∙◌, ◌<◌, ◌≤◌, ap, arith}
use Rattle.std.proofs.lemmas.Bool.{cases_lt}
use Rattle.room_table.specs.Seats.{caller_now}
use Rattle.purgatory.proofs.Goes.{goes_far, kept_far}
use Rattle.purgatory.proofs.room.Room.settle_all.Goals as goal

pub loop-gauge-preserved : goal.loop-gauge-preserved
loop-gauge-preserved g c =
    let i = c.loop-gauge.invariant in
    let old = c.args.owner.now in
    let now = c.loop-gauge.owner in
    let new = c.settle_gauge.new.owner in
    let at = c.loop-gauge.gauge in
    let pays = c.settle_gauge.ensures.pays in
    let test = c.loop-gauge-test.true in
    record {
      went = goes_far old now new i.went pays.went;
      kept = kept_far (caller_now old) (caller_now now) (caller_now new) i.kept pays.kept;
      paid = λ gauge less.
          ⊎_elim
          (λ (lower : gauge < at). pays.others gauge (λ same. omega (arith, same, lower)) ∙ i.paid gauge lower)
          (λ (m : at ≤ gauge). let same : gauge ≡ at = omega (arith, less, m) in ap (caller_now new).owed same ∙ c.settle_gauge.ensures.paid)
          (cases_lt gauge at);
      none = λ gauge past. pays.others gauge (λ same. omega (arith, same, past, test)) ∙ i.none gauge past;
      keys = c.settle_gauge.ensures.keys ∙ i.keys;
    }
