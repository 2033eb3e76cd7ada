use Rattle.std.proofs.Common.{◌∙◌, ap, arith, refl, subst, sym}
use Rattle.room_core.specs.Gauges.{IsPass}
use Rattle.room_core.specs.Meetings.{IsMet}
use Rattle.room_table.specs.declared.part.ScannerStep.{ScannerStep}
use Rattle.room_table.specs.Seats.{TableView, scanner_now}
use Rattle.purgatory.proofs.scans.Goes.{goes_by, stays}
use Rattle.purgatory.proofs.scans.Looking.{learned_kept, learned_one, learns_looked, looked_far, looked_same}
use Rattle.purgatory.proofs.scans.inspector.Inspector.learn_more.Goals as goal

pub loop-at-init : goal.loop-at-init
loop-at-init c = record {
  after = omega arith;
  went = stays c.args.self.now;
  looked = looked_same (scanner_now c.args.self.now);
  learned = c.requires.before;
  kept = λ i less. refl;
}

pub learn-requires-clause-table : goal.learn-requires-clause-table
learn-requires-clause-table c = c.loop-at.invariant.went.table ∙ c.requires.table

pub learn-requires-clause-pass : goal.learn-requires-clause-pass
learn-requires-clause-pass c = subst (λ (t : TableView). IsPass t.shape c.args.pass) (sym c.loop-at.invariant.went.table) c.requires.pass

pub learn-requires-clause-met : goal.learn-requires-clause-met
learn-requires-clause-met c = subst (λ m. IsMet m c.args.pass) (sym c.loop-at.invariant.looked.meeting) c.requires.met

pub loop-at-preserved : goal.loop-at-preserved
loop-at-preserved c =
    let old = c.args.self.now in
    let now = c.loop-at.self in
    let new = c.learn.new.self in
    let at = c.loop-at.at in
    let word = c.learn.result in
    let i = c.loop-at.invariant in
    let is = ap scanner_now c.learn.ensures in
    let after = i.after in
    record {
      after = omega (arith, after);
      went = goes_by old now new (ScannerStep.Learned at word) i.went c.learn.ensures;
      looked = looked_far (scanner_now old) (scanner_now now) (scanner_now new) i.looked (learns_looked (scanner_now now) (scanner_now new) at word is);
      learned = learned_one (scanner_now now) (scanner_now new) at word is i.learned;
      kept = λ n less. learned_kept (scanner_now now) (scanner_now new) at word n is (omega (arith, after, less)) ∙ i.kept n less;
    }

pub returns-clause-learned : goal.returns-clause-learned
returns-clause-learned c = λ n less. c.loop-at.invariant.learned n (omega (arith, less))
