use Rattle.std.proofs.Common.{◌≡◌, ◌≤◌, ◌+◌, ℕ, ℤ, Bool, List, ◌-◌, ◌||◌, ltb, length, filter, ap, ◌∙◌, arith, rules}
use Rattle.std.proofs.lemmas.Int.{to_z-of_z}
use Rattle.std.specs.Int.{w32}
use mir.Val.{SFits}
use Rattle.partlog.specs.declared.numbers.Numbers.{Numbers}
use Rattle.partlog.specs.Gauges.{bytes_in}
use Rattle.partlog.specs.History.{History}
use Rattle.partlog.specs.State.{PartState, state_at, front_of}
use Rattle.partlog.specs.Taken.{batches_past, joined, taken}
use Rattle.partlog.proofs.Laws.{kept-full, kept-front}
use Rattle.kanswer.specs.declared.accepted.Budget.{Budget}
use Rattle.kanswer.specs.Answer.{is_readable, read_of}
use Rattle.kanswer.proofs.Laws.{full_read, some_bytes, seen_room}
use Rattle.audit.proofs.retelling.rereading.read_at.Goals as goal

pub returns-clause-records : goal.returns-clause-records
returns-clause-records c =
    let fits : SFits w32 c.args.reader.now.replica = search rules in
    let b = c.args.budget.now in
    let state : PartState = state_at c.args.entry.now.past.now c.args.entry.now.place in
    c.in_ok-records.ensures ∙ c.readable_at-readable.ensures
    ∙ ap (λ (replica : ℤ). joined (taken c.limit_of.result b.any (filter (is_readable replica state) (batches_past c.args.start state.batches)))) (to_z-of_z w32 c.args.reader.now.replica fits)
    ∙ ap (λ (limit : ℕ). joined (taken limit b.any (filter (is_readable c.args.reader.now.replica state) (batches_past c.args.start state.batches)))) c.limit_of.ensures

pub returns-clause-lowered : goal.returns-clause-lowered
returns-clause-lowered c =
    let past : History = c.args.entry.now.past.now in
    let b = c.args.budget.now in
    let state : PartState = state_at past c.args.entry.now.place in
    let front : History = front_of past (c.args.entry.now.place + 1) in
    let bs = read_of c.args.reader.now.replica c.args.asked.now c.args.start state b in
    let full = full_read c.args.reader.now.replica c.args.asked.now c.args.start state b (kept-full front.log front.events (kept-front past (c.args.entry.now.place + 1) c.at-numbers.ensures.kept)) in
    let size : c.len.result ≡ length (joined bs) = c.len.ensures ∙ ap (λ (l : List ℕ). length l) (returns-clause-records c) in
    c.lowered.ensures
    ∙ ap (λ (n : ℕ). let budget : Budget = record { left = b.left - n; any = b.any || ltb 0 n } in budget) size
    ∙ ap (λ (some : Bool). let budget : Budget = record { left = b.left - length (joined bs); any = b.any || some } in budget) (some_bytes bs full)

pub returns-clause-room : goal.returns-clause-room
returns-clause-room c =
    let b = c.args.budget.now in
    let state : PartState = state_at c.args.entry.now.past.now c.args.entry.now.place in
    let few : bytes_in state.batches ≤ 67108864 = omega (arith, c.at-numbers.ensures.bytes, ap (λ (n : Numbers). n.bytes) c.at-numbers.ensures.numbers) in
    seen_room c.args.reader.now.replica c.args.asked.now c.args.start state b c.lowered.result c.in_ok-records.records few (returns-clause-records c) (returns-clause-lowered c)
