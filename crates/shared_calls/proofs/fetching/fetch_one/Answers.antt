use Rattle.std.proofs.Common.{◌≡◌, ◌<◌, ℕ, ℤ, pos, List, [], ◌∷◌, length, get_or, Option, Some, None, sym, ap, subst, ◌∙◌, arith, rules, to_z, of_z}
use Rattle.std.proofs.lemmas.Int.{to_z-of_z}
use Rattle.std.specs.Int.{w32}
use mir.Val.{SFits}
use Rattle.partlog.specs.History.{History}
use Rattle.partlog.specs.State.{state_of}
use Rattle.kanswer.specs.Decisions.{fetch_decision, fetch_outcome}
use Rattle.kwire.specs.Configuration.{followers_of, part_of}
use Rattle.audit.specs.broker.Board.{history_at}
use Rattle.shared_logs.specs.Asked.{HasAsked, HasRead}
use Rattle.shared_logs.specs.Shared.{followers_in}
use Rattle.shared_calls.specs.Carried.{HasStopped}
use Rattle.shared_calls.specs.Stand.{HasFetched, records_as, stand}
use Rattle.shared_calls.proofs.Bounds.{batches_bounded}
use Rattle.shared_calls.proofs.One.{asked_fetched, asked_stopped, bytes_more, even_more, from_ok, on_err, on_ok, read_room, records_read, refusal_stopped, refused_fetched}
use Rattle.shared_calls.proofs.Turning.{asked_there, caught_stopped, inside_of, logs_size}
use Rattle.shared_calls.proofs.fetching.fetch_one.Goals as goal

pub returns-in_default-clause-come : goal.returns-in_default-clause-come
returns-in_default-clause-come g c =
    let config = c.args.call.now.config.now in
    let asked = c.args.named.now.part.now in
    let fits : SFits w32 asked.index = search rules in
    let none : part_of config c.args.named.now.topic.now asked.index ≡ None = ap (part_of config c.args.named.now.topic.now) (sym (to_z-of_z w32 asked.index fits)) ∙ sym c.in_default.ensures.number in
    let old = stand c.args.pass.now c.args.points.now c.args.came.now in
    let new = stand c.args.pass.now c.args.points.now c.note.new.self in
    let D : Option ℕ → Type 0 = λ o. HasFetched config c.args.call.now.by.now.seq (fetch_decision config c.args.call.now.replica (c.args.named.now.topic.now, asked) o ∷ []) c.args.call.now.replica (asked ∷ []) old c.args.budget.now new c.args.budget.now in
    on_ok c.note.result c.note.ensures (λ e. subst D (sym none)
    (refused_fetched config c.args.call.now.by.now.seq c.args.call.now.replica asked (pos 3) c.args.pass.now c.args.points.now c.args.came.now c.note.new.self c.read_nothing.result c.args.budget.now e))

pub returns-in_default-clause-stopped : goal.returns-in_default-clause-stopped
returns-in_default-clause-stopped g c =
    let config = c.args.call.now.config.now in
    let asked = c.args.named.now.part.now in
    let fits : SFits w32 asked.index = search rules in
    let none : part_of config c.args.named.now.topic.now asked.index ≡ None = ap (part_of config c.args.named.now.topic.now) (sym (to_z-of_z w32 asked.index fits)) ∙ sym c.in_default.ensures.number in
    let D : Option ℕ → Type 0 = λ o. HasStopped config c.args.call.now.by.now.seq (fetch_decision config c.args.call.now.replica (c.args.named.now.topic.now, asked) o ∷ []) c.args.pass.now c.args.points.now c.args.pass.now c.args.points.now in
    on_err c.note.result (subst D (sym none) (refusal_stopped config c.args.call.now.by.now.seq (pos 3) c.args.pass.now c.args.points.now))

pub fetch-requires-clause-there : goal.fetch-requires-clause-there
fetch-requires-clause-there g c = omega (arith, c.in-Some.ensures.within, logs_size c.args.call.now.config.now c.args.call.now.by.now.logs.now c.requires.followers)

pub returns-in_err-fetched-clause-stopped : goal.returns-in_err-fetched-clause-stopped
returns-in_err-fetched-clause-stopped g c =
    let config = c.args.call.now.config.now in
    let seq = c.args.call.now.by.now.seq in
    let next = fetch_decision config c.args.call.now.replica (c.args.named.now.topic.now, c.args.named.now.part.now) (part_of config c.args.named.now.topic.now c.args.named.now.part.now.index) ∷ [] in
    on_err c.from_residual.result
    (subst (HasStopped config seq next c.args.pass.now c.args.points.now c.fetch.new.pass) (sym c.in_err-fetched.ensures.none)
    (caught_stopped config c.args.pass.now c.fetch.new.pass c.in_err-fetched.ensures.refused c.fetch.ensures.seen.0 c.fetch.ensures.seen.1 seq next c.args.points.now))

pub returns-clause-come : goal.returns-clause-come
returns-clause-come g c =
    let config = c.args.call.now.config.now in
    let seq = c.args.call.now.by.now.seq in
    let logs = c.args.call.now.by.now.logs.now in
    let asked = c.args.named.now.part.now in
    let part = c.in-Some.part in
    let replica = c.args.call.now.replica in
    let old = c.args.pass.now in
    let new = c.fetch.new.pass in
    let fetched = c.in_ok-fetched.fetched in
    let replica_fits : SFits w32 replica = search rules in
    let same = to_z-of_z w32 replica replica_fits in
    let fits : SFits w32 asked.index = search rules in
    let there : part_of config c.args.named.now.topic.now asked.index ≡ Some part = ap (part_of config c.args.named.now.topic.now) (sym (to_z-of_z w32 asked.index fits)) ∙ sym c.in-Some.ensures.number in
    let within : part < length logs.parts = omega (arith, c.in-Some.ensures.within, logs_size config logs c.requires.followers) in
    let inside = inside_of config logs old part c.fetch.ensures.seen.0 c.requires.made within in
    let outcome = fetch_outcome (get_or (followers_of config.topics) part 0) replica asked part in
    let h1 = subst (λ (r : ℤ). HasAsked part seq (fetch_outcome (get_or (followers_in logs) part 0) r asked part) old new fetched.entered fetched.numbers) same c.in_ok-fetched.ensures.asked in
    let h = subst (λ (ns : List ℕ). HasAsked part seq (fetch_outcome (get_or ns part 0) replica asked part) old new fetched.entered fetched.numbers) c.requires.followers h1 in
    let left = asked_there part seq outcome old new fetched.entered fetched.numbers h inside in
    let D : Option ℕ → Type 0 = λ o. HasFetched config seq (fetch_decision config replica (c.args.named.now.topic.now, asked) o ∷ []) replica (asked ∷ []) (stand old c.args.points.now c.args.came.now) c.args.budget.now (stand new c.fetch.new.points c.note_fetched.new.came) c.fetch.new.budget in
    on_ok c.note_fetched.result c.note_fetched.ensures.noted (λ n.
    let read1 = from_ok (λ records. HasRead (to_z w32 (of_z w32 c.args.call.now.replica)) c.args.named.now.part.now fetched.entered.became (state_of (history_at c.fetch.new.pass.parts c.in-Some.part)) fetched.numbers records c.args.budget.now c.fetch.new.budget) fetched.records n.0 n.1 c.in_ok-fetched.ensures.read in
    let read2 = subst (λ (r : ℤ). HasRead r asked fetched.entered.became (state_of (history_at new.parts part)) fetched.numbers n.0 c.args.budget.now c.fetch.new.budget) same read1 in
    let read = subst (λ (x : History). HasRead replica asked fetched.entered.became (state_of x) fetched.numbers n.0 c.args.budget.now c.fetch.new.budget) left read2 in
    subst D (sym there)
    (asked_fetched config part seq outcome old new fetched.entered fetched.numbers h c.fetch.ensures.seen.0 c.fetch.ensures.seen.1 inside c.args.points.now c.fetch.new.points c.in_ok-fetched.ensures.points
    c.args.came.now c.note_fetched.new.came (records_as fetched.entered.became n.0) n.2 replica asked c.args.budget.now c.fetch.new.budget
    (records_read replica asked fetched.entered.became (state_of h.left) fetched.numbers n.0 c.args.budget.now c.fetch.new.budget read) read.lowered))

pub returns-clause-even : goal.returns-clause-even
returns-clause-even g c =
    let fetched = c.in_ok-fetched.fetched in
    on_ok c.note_fetched.result c.note_fetched.ensures.noted (λ n. even_more c.args.came.now c.note_fetched.new.came fetched.entered.became (record { numbers = fetched.numbers; records = records_as fetched.entered.became n.0 }) n.2)

pub returns-clause-room : goal.returns-clause-room
returns-clause-room g c =
    let fetched = c.in_ok-fetched.fetched in
    let part = c.in-Some.part in
    let new = c.fetch.new.pass in
    let here = history_at new.parts part in
    on_ok c.note_fetched.result c.note_fetched.ensures.noted (λ n.
    let read = from_ok (λ records. HasRead (to_z w32 (of_z w32 c.args.call.now.replica)) c.args.named.now.part.now fetched.entered.became (state_of (history_at c.fetch.new.pass.parts c.in-Some.part)) fetched.numbers records c.args.budget.now c.fetch.new.budget) fetched.records n.0 n.1 c.in_ok-fetched.ensures.read in
    omega (
      arith,
      bytes_more c.args.came.now c.note_fetched.new.came fetched.entered.became (record { numbers = fetched.numbers; records = records_as fetched.entered.became n.0 }) n.2,
      read_room (to_z w32 (of_z w32 c.args.call.now.replica)) c.args.named.now.part.now fetched.entered.became (state_of here) fetched.numbers n.0 c.args.budget.now c.fetch.new.budget (batches_bounded here (c.fetch.ensures.seen.1.kept part)) read,
    ))

pub returns-clause-stopped : goal.returns-clause-stopped
returns-clause-stopped g c =
    let config = c.args.call.now.config.now in
    let seq = c.args.call.now.by.now.seq in
    let logs = c.args.call.now.by.now.logs.now in
    let asked = c.args.named.now.part.now in
    let part = c.in-Some.part in
    let replica = c.args.call.now.replica in
    let old = c.args.pass.now in
    let new = c.fetch.new.pass in
    let fetched = c.in_ok-fetched.fetched in
    let replica_fits : SFits w32 replica = search rules in
    let same = to_z-of_z w32 replica replica_fits in
    let fits : SFits w32 asked.index = search rules in
    let there : part_of config c.args.named.now.topic.now asked.index ≡ Some part = ap (part_of config c.args.named.now.topic.now) (sym (to_z-of_z w32 asked.index fits)) ∙ sym c.in-Some.ensures.number in
    let within : part < length logs.parts = omega (arith, c.in-Some.ensures.within, logs_size config logs c.requires.followers) in
    let inside = inside_of config logs old part c.fetch.ensures.seen.0 c.requires.made within in
    let outcome = fetch_outcome (get_or (followers_of config.topics) part 0) replica asked part in
    let h1 = subst (λ (r : ℤ). HasAsked part seq (fetch_outcome (get_or (followers_in logs) part 0) r asked part) old new fetched.entered fetched.numbers) same c.in_ok-fetched.ensures.asked in
    let h = subst (λ (ns : List ℕ). HasAsked part seq (fetch_outcome (get_or ns part 0) replica asked part) old new fetched.entered fetched.numbers) c.requires.followers h1 in
    let D : Option ℕ → Type 0 = λ o. HasStopped config seq (fetch_decision config replica (c.args.named.now.topic.now, asked) o ∷ []) old c.args.points.now new c.fetch.new.points in
    on_err c.note_fetched.result (subst D (sym there)
    (asked_stopped config part seq outcome old new fetched.entered fetched.numbers h c.fetch.ensures.seen.0 c.fetch.ensures.seen.1 inside c.args.points.now c.fetch.new.points c.in_ok-fetched.ensures.points))
