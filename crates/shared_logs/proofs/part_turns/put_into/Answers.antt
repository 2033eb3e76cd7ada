use Rattle.std.proofs.Common.{◌≡◌, ℕ, ◌∙◌, subst, sym}
use Rattle.std.specs.Prelude.{slice_index}
use Rattle.partlog.specs.Gauges.{numbers_of}
use Rattle.partlog.specs.State.{state_of}
use Rattle.kanswer.specs.Sent.{sent_outcome}
use Rattle.kanswer.specs.Entered.{HasEntered}
use Rattle.turn_lock.specs.Locks.{known, lock_name}
use Rattle.shared_logs.specs.Desks.{part_name}
use Rattle.shared_logs.specs.declared.turns.Put.{Put}
use Rattle.shared_logs.proofs.Keys.{BeganPart, part_turned}
use Rattle.shared_logs.proofs.Telling.{if_ok_both, part_is}
use Rattle.shared_logs.proofs.part_turns.put_into.Goals as goal

pub returns-clause-asked : goal.returns-clause-asked
returns-clause-asked g c =
    let k = c.requires.key in
    let d = c.put_at-put.ensures in
    let who = c.args.visit.now.visitor.who in
    let moment = c.args.visit.now.visitor.moment in
    let before = known c.args.key.now in
    let key = known c.part_turn-turn.new.key in
    let name = lock_name part_name c.args.lock.now in
    let found = c.value_mut.result.now in
    let left = c.put_at-put.new.desk in
    let t = c.part_turn-turn.ensures in
    let began : BeganPart before key name c.part_turn-turn.result.ticket found =
    subst (BeganPart before key name c.part_turn-turn.result.ticket) (sym c.value_mut.ensures.value) (record { found_is = t.found; begun_is = t.begun; named = t.name; keeps = t.keeps }) in
    let turn = part_turned before key (known c.end.new.pass) name c.args.visit.now.visitor.who.by c.part_turn-turn.result.ticket found left began c.end.ensures.seen k.number_is k.of_lock.1 d.added d.name d.whole in
    let sent = c.args.sent.now in
    let part = part_is found c.args.visit.now.room.now.table (slice_index name 0) c.args.part (began.named ∙ k.name) in
    if_ok_both c.put_at-put.result d.entered d.numbers
    (λ (put : Put) (e : HasEntered who.by who.seq moment (sent_outcome found.part sent) found.history left.history put.entered) (n : put.numbers ≡ numbers_of (state_of left.history)). record {
      found = found;
      left = left;
      turn = turn;
      entry = subst (λ (by : ℕ). HasEntered by who.seq moment (sent_outcome c.args.part sent) found.history left.history put.entered) (sym k.number_is)
          (subst (λ (p : ℕ). HasEntered who.by who.seq moment (sent_outcome p sent) found.history left.history put.entered) part e);
      numbers_are = n;
    })
