use Rattle.std.proofs.Common.{◌≡◌, ℕ, ◌≤◌, ◌∙◌, ap, length, rules, subst, sym}
use Rattle.std.specs.Prelude.{◌/◌, IfOk}
use Rattle.partlog.specs.Gauges.{numbers_of}
use Rattle.partlog.specs.History.{History}
use Rattle.partlog.specs.Looked.{looked}
use Rattle.partlog.specs.State.{state_of}
use Rattle.kanswer.specs.declared.accepted.Accepted.TheVariants.{Seen}
use Rattle.kanswer.specs.Waiting.{gauge_value}
use Rattle.turn_lock.specs.Locks.{known, lock_name}
use Rattle.shared_logs.specs.Desks.{PartView, part_name}
use Rattle.shared_logs.specs.declared.turns.Read.{Read}
use Rattle.shared_logs.specs.Asked.{HasRead}
use Rattle.shared_logs.proofs.Keys.{BeganPart, part_turned}
use Rattle.shared_logs.proofs.Telling.{if_ok_three, left_seen}
use Rattle.shared_logs.proofs.part_turns.read_from.Goals as goal

pub returns-clause-looked : goal.returns-clause-looked
returns-clause-looked g c =
    let k = c.requires.key in
    let d = c.read_at-read.ensures in
    let who = c.args.visit.now.visitor.who in
    let before = known c.args.key.now in
    let key = known c.late_turn-turn.new.key in
    let name = lock_name part_name c.args.lock.now in
    let found = c.value_mut.result.now in
    let left = c.read_at-read.new.desk in
    let t = c.late_turn-turn.ensures in
    let began : BeganPart before key name c.late_turn-turn.result.ticket found =
    subst (BeganPart before key name c.late_turn-turn.result.ticket) (sym c.value_mut.ensures.value) (record { found_is = t.found; begun_is = t.begun; named = t.name; keeps = t.keeps }) in
    let turn = part_turned before key (known c.end.new.pass) name c.args.visit.now.visitor.who.by c.late_turn-turn.result.ticket found left began c.end.ensures.seen k.2 k.0.1 d.added d.name d.whole in
    let late = subst (λ (desk : PartView). c.args.rest.now.late.value ≤ gauge_value c.args.rest.now.late.gauge (state_of desk.history)) (sym c.value_mut.ensures.value) t.late in
    if_ok_three c.read_at-read.result d.looked d.place d.numbers
    (λ (e : left.history ≡ looked found.history who.by who.seq) (x : Read) (p : x.looked.place ≡ length found.history.events) (n : x.looked.numbers ≡ numbers_of (state_of found.history)). record {
      found = found;
      left = left;
      turn = turn;
      entry = e ∙ ap (λ (by : ℕ). looked found.history by who.seq) (sym k.2);
      place_is = p;
      numbers_are = n;
      late = late;
    })

pub returns-clause-read : goal.returns-clause-read
returns-clause-read g c =
    let k = c.requires.key in
    let d = c.read_at-read.ensures in
    let who = c.args.visit.now.visitor.who in
    let before = known c.args.key.now in
    let key = known c.late_turn-turn.new.key in
    let name = lock_name part_name c.args.lock.now in
    let found = c.value_mut.result.now in
    let left = c.read_at-read.new.desk in
    let t = c.late_turn-turn.ensures in
    let began : BeganPart before key name c.late_turn-turn.result.ticket found =
    subst (BeganPart before key name c.late_turn-turn.result.ticket) (sym c.value_mut.ensures.value) (record { found_is = t.found; begun_is = t.begun; named = t.name; keeps = t.keeps }) in
    let turn = part_turned before key (known c.end.new.pass) name c.args.visit.now.visitor.who.by c.late_turn-turn.result.ticket found left began c.end.ensures.seen k.2 k.0.1 d.added d.name d.whole in
    let told : IfOk c.read_at-read.result (λ read. IfOk read.records (λ records.
    HasRead c.args.rest.now.replica c.args.rest.now.asked.now (Seen (c.args.rest.now.late.gauge / 3) c.args.rest.now.start) (state_of left.history) read.looked.numbers records c.args.budget.now c.read_at-read.new.budget)) = search rules in
    subst
    (λ (h : History). IfOk c.read_at-read.result (λ read. IfOk read.records (λ records.
    HasRead c.args.rest.now.replica c.args.rest.now.asked.now (Seen (c.args.rest.now.late.gauge / 3) c.args.rest.now.start) (state_of h) read.looked.numbers records c.args.budget.now c.read_at-read.new.budget)))
    (sym (left_seen before (known c.end.new.pass) found left turn)) told
