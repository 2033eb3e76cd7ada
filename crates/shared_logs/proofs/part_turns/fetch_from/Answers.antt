use Rattle.std.proofs.Common.{◌≡◌, ℕ, ◌∙◌, rules, subst, sym}
use Rattle.std.specs.Prelude.{IfOk, slice_index}
use Rattle.partlog.specs.Gauges.{numbers_of}
use Rattle.partlog.specs.History.{History}
use Rattle.partlog.specs.State.{state_of}
use Rattle.kanswer.specs.Decisions.{fetch_outcome}
use Rattle.kanswer.specs.Entered.{HasEntered}
use Rattle.turn_lock.specs.Locks.{known, lock_name}
use Rattle.shared_logs.specs.Desks.{part_name}
use Rattle.shared_logs.specs.declared.turns.Fetched.{Fetched}
use Rattle.shared_logs.specs.Asked.{HasRead}
use Rattle.shared_logs.proofs.Keys.{BeganPart, part_turned}
use Rattle.shared_logs.proofs.Telling.{followers_are, if_ok_both, left_seen, part_is}
use Rattle.shared_logs.proofs.part_turns.fetch_from.Goals as goal

pub returns-clause-asked : goal.returns-clause-asked
returns-clause-asked g c =
    let k = c.requires.key in
    let d = c.fetch_at-fetched.ensures in
    let who = c.args.visit.now.visitor.who in
    let moment = c.args.visit.now.visitor.moment in
    let before = known c.args.key.now in
    let key = known c.part_turn-turn.new.key in
    let name = lock_name part_name c.args.lock.now in
    let found = c.value_mut.result.now in
    let left = c.fetch_at-fetched.new.desk in
    let t = c.part_turn-turn.ensures in
    let began : BeganPart before key name c.part_turn-turn.result.ticket found =
    subst (BeganPart before key name c.part_turn-turn.result.ticket) (sym c.value_mut.ensures.value) (record { found_is = t.found; begun_is = t.begun; named = t.name; keeps = t.keeps }) in
    let turn = part_turned before key (known c.end.new.pass) name c.args.visit.now.visitor.who.by c.part_turn-turn.result.ticket found left began c.end.ensures.seen k.number_is k.of_lock.1 d.added d.name d.whole in
    let asked = c.args.wanted.now.asked.now in
    let part = part_is found c.args.visit.now.room.now.table (slice_index name 0) c.args.wanted.now.part (began.named ∙ k.name) in
    let followers = followers_are found name began.named in
    let entered : IfOk c.fetch_at-fetched.result (λ (f : Fetched). HasEntered who.by who.seq moment (fetch_outcome found.history.followers c.args.wanted.now.replica asked found.part) found.history left.history f.entered) = search rules in
    if_ok_both c.fetch_at-fetched.result entered d.numbers
    (λ (f : Fetched) (e : HasEntered who.by who.seq moment (fetch_outcome found.history.followers c.args.wanted.now.replica asked found.part) found.history left.history f.entered) (n : f.numbers ≡ numbers_of (state_of left.history)). record {
      found = found;
      left = left;
      turn = turn;
      entry = subst (λ (by : ℕ). HasEntered by who.seq moment (fetch_outcome (slice_index name 0) c.args.wanted.now.replica asked c.args.wanted.now.part) found.history left.history f.entered) (sym k.number_is)
          (subst (λ (p : ℕ). HasEntered who.by who.seq moment (fetch_outcome (slice_index name 0) c.args.wanted.now.replica asked p) found.history left.history f.entered) part
          (subst (λ (m : ℕ). HasEntered who.by who.seq moment (fetch_outcome m c.args.wanted.now.replica asked found.part) found.history left.history f.entered) followers e));
      numbers_are = n;
    })

pub returns-clause-read : goal.returns-clause-read
returns-clause-read g c =
    let k = c.requires.key in
    let d = c.fetch_at-fetched.ensures in
    let who = c.args.visit.now.visitor.who in
    let before = known c.args.key.now in
    let key = known c.part_turn-turn.new.key in
    let name = lock_name part_name c.args.lock.now in
    let found = c.value_mut.result.now in
    let left = c.fetch_at-fetched.new.desk in
    let t = c.part_turn-turn.ensures in
    let began : BeganPart before key name c.part_turn-turn.result.ticket found =
    subst (BeganPart before key name c.part_turn-turn.result.ticket) (sym c.value_mut.ensures.value) (record { found_is = t.found; begun_is = t.begun; named = t.name; keeps = t.keeps }) in
    let turn = part_turned before key (known c.end.new.pass) name c.args.visit.now.visitor.who.by c.part_turn-turn.result.ticket found left began c.end.ensures.seen k.number_is k.of_lock.1 d.added d.name d.whole in
    let read : IfOk c.fetch_at-fetched.result (λ fetched. IfOk fetched.records (λ records.
    HasRead c.args.wanted.now.replica c.args.wanted.now.asked.now fetched.entered.became (state_of left.history) fetched.numbers records c.args.budget.now c.fetch_at-fetched.new.budget)) = search rules in
    subst
    (λ (h : History). IfOk c.fetch_at-fetched.result (λ fetched. IfOk fetched.records (λ records.
    HasRead c.args.wanted.now.replica c.args.wanted.now.asked.now fetched.entered.became (state_of h) fetched.numbers records c.args.budget.now c.fetch_at-fetched.new.budget)))
    (sym (left_seen before (known c.end.new.pass) found left turn)) read
