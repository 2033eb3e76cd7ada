use Rattle.std.proofs.Common.{◌≢◌, ◌∙◌, ℕ, ap, arith, sym}
use Rattle.std.proofs.lemmas.Bool.{false≢true}
use Rattle.room_table.specs.Seats.{caller_now}
use Rattle.purgatory.proofs.Goes.{keeps_far}
use Rattle.purgatory.proofs.Marks.{clock_marked, clock_unmarked, listing_far, listing_open}
use Rattle.purgatory.proofs.room.Room.list_deadline.Goals as goal

pub returns-then-sees_mark-clause-none : goal.returns-then-sees_mark-clause-none
returns-then-sees_mark-clause-none g c =
    let goes = c.loop.invariant.goes in
    let now = c.loop.owner in
    let new = c.sees_mark.new.self in
    let m = c.sees_mark.ensures in
    let count = ap (λ (words : ℕ → ℕ). words 2) goes.keeps.account.description in
    let begins = clock_marked now new m.0 m.1 (m.2.0 c.if-sees_mark.true) (λ i less. goes.marks i (c.requires.seen i (omega (arith, less, count)))) in
    record {
      keeps = keeps_far c.args.owner.now now new goes.keeps begins.keeps;
      checking = begins.checking;
    }

pub returns-in-Some-poll-clause-some : goal.returns-in-Some-poll-clause-some
returns-in-Some-poll-clause-some g c =
    let goes = c.loop.invariant.goes in
    let now = c.loop.owner in
    let new = c.sees_mark.new.self in
    let m = c.sees_mark.ensures in
    let other : m.0 ≢ (caller_now now).generation = λ e. false≢true (sym c.if-sees_mark.false ∙ m.2.1 e) in
    record {
      before = new;
      keeps = (listing_far c.args.owner.now now new goes (clock_unmarked now new m.0 m.1 other goes.clock)).keeps;
      steps = c.in-Some-poll.ensures;
    }

pub loop-preserved : goal.loop-preserved
loop-preserved g c =
    let goes = c.loop.invariant.goes in
    let now = c.loop.owner in
    let new = c.sees_mark.new.self in
    let m = c.sees_mark.ensures in
    let other : m.0 ≢ (caller_now now).generation = λ e. false≢true (sym c.if-sees_mark.false ∙ m.2.1 e) in
    let next = clock_unmarked now new m.0 m.1 other goes.clock in
    record {
      goes =
          listing_far c.args.owner.now new c.poll.new.self
          (listing_far c.args.owner.now now new goes next)
          (listing_open new c.poll.new.self c.in_default.ensures next.listing next.clock);
      keys = c.list_deadline.ensures ∙ c.loop.invariant.keys;
    }
