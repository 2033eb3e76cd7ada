use Rattle.std.proofs.Common.{◌∙◌, ap, arith}
use Rattle.room_table.specs.Seats.{SourceView, caller_now, source_now}
use Rattle.purgatory.proofs.Goes.{goes_far, kept_far}
use Rattle.purgatory.proofs.Raises.{asks, asks_again}
use Rattle.purgatory.proofs.raising.ask_for_it.Goals as goal

pub returns-then-asked-value-clause-owner : goal.returns-then-asked-value-clause-owner
returns-then-asked-value-clause-owner g c =
    let i = c.loop.invariant in
    asks_again c.args.owner.now c.loop.owner c.ask-read.new.self c.args.gauge c.ask-read.result c.args.value i.went i.kept i.others
    (asks c.loop.owner c.ask-read.new.self c.args.gauge c.ask-read.result c.ask-read.ensures) (omega arith)

pub loop-preserved : goal.loop-preserved
loop-preserved g c =
    let i = c.loop.invariant in
    let h = asks c.loop.owner c.ask-read.new.self c.args.gauge c.ask-read.result c.ask-read.ensures in
    let step = c.hush-asked.ensures.step in
    record {
      table = ap (λ (v : SourceView). v.table) step ∙ i.table;
      number = ap (λ (v : SourceView). v.gauge) step ∙ i.number;
      stored = ap (λ (v : SourceView). (source_now v).stored) step ∙ i.stored;
      went = goes_far c.args.owner.now c.loop.owner c.ask-read.new.self i.went h.went;
      kept = kept_far (caller_now c.args.owner.now) (caller_now c.loop.owner) (caller_now c.ask-read.new.self) i.kept h.kept;
      others = λ other n. h.others other n ∙ i.others other n;
    }
