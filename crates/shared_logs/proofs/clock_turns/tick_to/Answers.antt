use Rattle.std.proofs.Common.{ap, subst, sym, ◌∙◌}
use Rattle.std.specs.Prelude.{Bool, ℕ}
use Rattle.partlog.specs.Moment.{moment_of}
use Rattle.turn_lock.specs.Locks.{known, lock_name}
use Rattle.shared_logs.specs.Desks.{MomentView, moment_name}
use Rattle.shared_logs.specs.Keeps.{MomentKeeps}
use Rattle.shared_logs.specs.Ticked.{HasTicked}
use Rattle.shared_logs.proofs.Keys.{BeganClock, clock_turned, moment_seen}
use Rattle.shared_logs.proofs.Telling.{if_ok}
use Rattle.shared_logs.proofs.clock_turns.tick_to.Goals as goal

pub returns-clause-told : goal.returns-clause-told
returns-clause-told g c =
    let k = c.requires.key in
    let d = c.tick-rose.ensures in
    let before = known c.args.key.now in
    let key = known c.clock_turn-turn.new.key in
    let name = lock_name moment_name c.args.lock.now in
    let found = c.value_mut.result.now in
    let left = c.tick-rose.new.self in
    let t = c.clock_turn-turn.ensures in
    let began : BeganClock before key name c.clock_turn-turn.result.ticket found =
    subst (BeganClock before key name c.clock_turn-turn.result.ticket) (sym c.value_mut.ensures.value) (record { found_is = t.found; begun_is = t.begun; named = t.name; keeps = t.keeps }) in
    let keeps : MomentKeeps left = subst MomentKeeps c.value.ensures c.now-moment.ensures.keeps in
    let turn = clock_turned before key (known c.end.new.pass) name c.args.tick.by c.clock_turn-turn.result.ticket found left began c.end.ensures.seen k.number_is k.of_lock.1 d.added d.name keeps in
    if_ok c.tick-rose.result d.ticked
    (λ (rose : Bool) (h : HasTicked c.args.tick.by c.args.tick.moment rose found left). record {
      found = found;
      left = left;
      turn = turn;
      told = subst (λ (by : ℕ). HasTicked by c.args.tick.moment rose found left) (sym k.number_is) h;
    })

pub returns-clause-moment : goal.returns-clause-moment
returns-clause-moment g c =
    moment_seen (known c.clock_turn-turn.new.key) (known c.end.new.pass) c.tick-rose.new.self c.now-moment.result c.end.ensures.seen
    (c.now-moment.ensures.moment ∙ ap (λ (m : MomentView). moment_of m.events) c.value.ensures)
