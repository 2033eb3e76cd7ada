use Rattle.std.proofs.Common.{ℕ, subst, sym}
use Rattle.std.specs.Prelude.{OnOk}
use Rattle.partlog.specs.History.{History}
use Rattle.partlog.specs.Kept.{IsKept}
use Rattle.partlog.specs.Lagging.{NoneLags}
use Rattle.turn_lock.specs.Locks.{known, lock_name}
use Rattle.shared_logs.specs.Desks.{part_name}
use Rattle.shared_logs.specs.Shrunk.{HasShrunkSome}
use Rattle.shared_logs.proofs.Keys.{BeganPart, part_turned}
use Rattle.shared_logs.proofs.Telling.{left_seen}
use Rattle.shared_logs.proofs.part_turns.shrink_in.Goals as goal

pub returns-clause-shrunk : goal.returns-clause-shrunk
returns-clause-shrunk g c =
    let k = c.requires.key.1 in
    let d = c.shrink-shrunk.ensures in
    let before = known c.args.key.now in
    let key = known c.part_turn-turn.new.key in
    let name = lock_name part_name c.args.lock.now in
    let found = c.value_mut.result.now in
    let left = c.shrink-shrunk.new.self in
    let t = c.part_turn-turn.ensures in
    let began : BeganPart before key name c.part_turn-turn.result.ticket found =
    subst (BeganPart before key name c.part_turn-turn.result.ticket) (sym c.value_mut.ensures.value) (record { found_is = t.found; begun_is = t.begun; named = t.name; keeps = t.keeps }) in
    let by = c.args.visit.now.visitor.who.by in
    let keeps : IsKept left.history.log left.history.events = d.whole in
    let turn = part_turned before key (known c.end.new.pass) name by c.part_turn-turn.result.ticket found left began c.end.ensures.seen k.number_is k.of_lock.1 d.added d.name keeps in
    record {
      found = found;
      left = left;
      turn = turn;
      taken = subst (λ (n : ℕ). HasShrunkSome n c.args.t found.history left.history) (sym k.number_is) d.some;
    }

pub returns-clause-none_lags : goal.returns-clause-none_lags
returns-clause-none_lags g c =
    let k = c.requires.key.1 in
    let d = c.shrink-shrunk.ensures in
    let before = known c.args.key.now in
    let key = known c.part_turn-turn.new.key in
    let name = lock_name part_name c.args.lock.now in
    let found = c.value_mut.result.now in
    let left = c.shrink-shrunk.new.self in
    let t = c.part_turn-turn.ensures in
    let began : BeganPart before key name c.part_turn-turn.result.ticket found =
    subst (BeganPart before key name c.part_turn-turn.result.ticket) (sym c.value_mut.ensures.value) (record { found_is = t.found; begun_is = t.begun; named = t.name; keeps = t.keeps }) in
    let by = c.args.visit.now.visitor.who.by in
    let keeps : IsKept left.history.log left.history.events = d.whole in
    let turn = part_turned before key (known c.end.new.pass) name by c.part_turn-turn.result.ticket found left began c.end.ensures.seen k.number_is k.of_lock.1 d.added d.name keeps in
    subst (λ (h : History). OnOk c.shrink-shrunk.result (NoneLags h.followers h.events c.args.t)) (sym (left_seen before (known c.end.new.pass) found left turn)) d.none_lags
