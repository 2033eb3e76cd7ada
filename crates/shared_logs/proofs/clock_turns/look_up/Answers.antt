use Rattle.std.proofs.Common.{◌≡◌, ◌≤◌, ℕ, [], ◌∷◌, ◌++◌, ap, length, subst, sym, ◌∙◌}
use Rattle.partlog.specs.declared.clock_event.ClockEvent.TheVariants.{Look}
use Rattle.partlog.specs.Moment.{moment_of}
use Rattle.turn_lock.specs.Locks.{known, lock_name}
use Rattle.shared_logs.specs.Desks.{MomentView, moment_name}
use Rattle.shared_logs.specs.Keeps.{MomentKeeps}
use Rattle.shared_logs.proofs.Keys.{BeganClock, clock_turned, moment_seen}
use Rattle.shared_logs.proofs.Telling.{if_ok_with}
use Rattle.shared_logs.proofs.clock_turns.look_up.Goals as goal

pub returns-clause-looked : goal.returns-clause-looked
returns-clause-looked g c =
    let k = c.requires.key in
    let d = c.look-place.ensures in
    let who = c.args.who in
    let before = known c.args.key.now in
    let key = known c.late_turn-turn.new.key in
    let name = lock_name moment_name c.args.lock.now in
    let found = c.value_mut.result.now in
    let left = c.look-place.new.self in
    let t = c.late_turn-turn.ensures in
    let began : BeganClock before key name c.late_turn-turn.result.ticket found =
    subst (BeganClock before key name c.late_turn-turn.result.ticket) (sym c.value_mut.ensures.value) (record { found_is = t.found; begun_is = t.begun; named = t.name; keeps = t.keeps }) in
    let keeps : MomentKeeps left = subst MomentKeeps c.value.ensures c.now-moment.ensures.keeps in
    let turn = clock_turned before key (known c.end.new.pass) name who.by c.late_turn-turn.result.ticket found left began c.end.ensures.seen k.2 k.0.1 d.added d.name keeps in
    let moment = c.now-moment.ensures.moment ∙ ap (λ (m : MomentView). moment_of m.events) c.value.ensures ∙ c.look-place.ensures.moment in
    if_ok_with c.look-place.result d.looked d.place
    (λ (e : left ≡ record { events = found.events ++ Look who.by who.seq ∷ []; tickers = found.tickers; source = found.source }) (place : ℕ) (p : place ≡ length found.events). record {
      found = found;
      left = left;
      turn = turn;
      entry = ap (λ (m : MomentView). m.events) e ∙ ap (λ (by : ℕ). found.events ++ Look by who.seq ∷ []) (sym k.2);
      place_is = p;
      moment_is = moment;
      late = subst (λ (n : ℕ). c.args.least ≤ n) (sym (moment ∙ ap (λ (m : MomentView). moment_of m.events) c.value_mut.ensures.value)) t.late;
      limit = c.now-moment.ensures.limit;
    })

pub returns-clause-moment : goal.returns-clause-moment
returns-clause-moment g c =
    moment_seen (known c.late_turn-turn.new.key) (known c.end.new.pass) c.look-place.new.self c.now-moment.result c.end.ensures.seen
    (c.now-moment.ensures.moment ∙ ap (λ (m : MomentView). moment_of m.events) c.value.ensures)
