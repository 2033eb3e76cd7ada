use Rattle.std.proofs.Common.{◌≡◌, [], append-nil, refl, rules, subst, sym}
use Rattle.std.proofs.lemmas.List.Elements.{All-nil}
use Rattle.partlog.specs.History.{History}
use Rattle.turn_lock.specs.AddedBy.{AddedBy}
use Rattle.turn_lock.specs.Locks.{known, lock_name}
use Rattle.shared_logs.specs.Desks.{part_name}
use Rattle.shared_logs.specs.Entries.{entry_by, log_entries}
use Rattle.shared_logs.specs.Sought.{HasSought}
use Rattle.shared_logs.proofs.Keys.{BeganPart, part_turned}
use Rattle.shared_logs.proofs.Telling.{left_seen}
use Rattle.shared_logs.proofs.part_turns.find_in.Goals as goal

pub returns-clause-sought : goal.returns-clause-sought
returns-clause-sought g c =
    let k = c.requires.key in
    let t = c.part_turn-turn.ensures in
    let before = known c.args.key.now in
    let after = known c.end.new.pass in
    let name = lock_name part_name c.args.lock.now in
    let found = c.part_turn-turn.result.value in
    let began : BeganPart before (known c.part_turn-turn.new.key) name c.part_turn-turn.result.ticket found = record { found_is = t.found; begun_is = t.begun; named = t.name; keeps = t.keeps } in
    let none : AddedBy entry_by before.number (log_entries found.history) (log_entries found.history) = ([], sym (append-nil (log_entries found.history)), All-nil (λ e. entry_by e ≡ before.number)) in
    let turn = part_turned before (known c.part_turn-turn.new.key) after name before.number c.part_turn-turn.result.ticket found found began c.end.ensures.seen refl k.0.1 none refl t.keeps.kept in
    let told : HasSought c.args.offset c.args.bytes.now found.history c.place_in-found.result = search rules in
    subst (λ (h : History). HasSought c.args.offset c.args.bytes.now h c.place_in-found.result) (sym (left_seen before after found found turn)) told
