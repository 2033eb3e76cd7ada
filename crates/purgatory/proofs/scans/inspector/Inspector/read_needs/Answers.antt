use Rattle.std.proofs.Common.{⊎_elim, ◌≡◌, ◌∙◌, ◌<◌, ◌≤◌, arith, rules, subst, sym}
use Rattle.std.proofs.lemmas.Bool.{cases_lt}
use Rattle.room_core.specs.Checks.{IsRead}
use Rattle.room_core.specs.Description.{gauge_of, needs_of}
use Rattle.room_core.specs.Gauges.{IsGauge}
use Rattle.room_core.specs.Meetings.{IsMet, words_of}
use Rattle.room_table.specs.Seats.{TableView, scanner_now}
use Rattle.purgatory.proofs.scans.Goes.{goes_far, stays}
use Rattle.purgatory.proofs.scans.Looking.{all_kept, read_far, read_kept, read_same, words_kept}
use Rattle.purgatory.proofs.scans.inspector.Inspector.read_needs.Goals as goal

pub loop-need-init : goal.loop-need-init
loop-need-init c = record {
  went = stays c.args.self.now;
  more = read_same (scanner_now c.args.self.now);
  read = λ i less. absurd (omega (arith, less));
  there = λ i less. absurd (omega (arith, less));
}

pub read_need-requires : goal.read_need-requires
read_need-requires c =
    let old = scanner_now c.args.self.now in
    let now = scanner_now c.loop-need.self in
    let i = c.loop-need.invariant in
    let count : needs_of (words_of now) ≡ needs_of (words_of old) = words_kept old now 2 i.more.learned in
    let needs = c.requires.needs in
    record {
      table = i.went.table ∙ c.requires.table;
      met = (c.requires.met.0, subst (λ m. IsMet m c.requires.met.0) (sym i.more.looked.meeting) c.requires.met.1);
      learned = all_kept old now i.more.learned c.requires.learned;
      need = omega (arith, count, needs);
    }

pub loop-need-preserved : goal.loop-need-preserved
loop-need-preserved c =
    let old = c.args.self.now in
    let now = c.loop-need.self in
    let new = c.read_need.new.self in
    let i = c.loop-need.invariant in
    let need = c.loop-need.need in
    let is : gauge_of (words_of (scanner_now now)) need ≡ gauge_of (words_of (scanner_now old)) need = words_kept (scanner_now old) (scanner_now now) _ i.more.learned in
    record {
      went = goes_far old now new i.went c.read_need.ensures.went;
      more = read_far (scanner_now old) (scanner_now now) (scanner_now new) i.more c.read_need.ensures.more;
      read = λ n less.
          ⊎_elim
          (λ (l : n < need). read_kept (scanner_now now) (scanner_now new) c.args.last _ c.read_need.ensures.more (i.read n l))
          (λ (m : need ≤ n).
          let same : n ≡ need = omega (arith, less, m) in
          subst (λ j. IsRead (scanner_now new).readings c.args.last (gauge_of (words_of (scanner_now old)) j)) (sym same)
          (subst (λ g. IsRead (scanner_now new).readings c.args.last g) is (c.read_need.ensures.read (search rules))))
          (cases_lt n need);
      there = λ n less.
          ⊎_elim
          (λ (l : n < need). i.there n l)
          (λ (m : need ≤ n).
          let same : n ≡ need = omega (arith, less, m) in
          subst (λ j. IsGauge old.table.shape (gauge_of (words_of (scanner_now old)) j)) (sym same)
          (subst (λ g. IsGauge old.table.shape g) is (subst (λ (t : TableView). IsGauge t.shape (gauge_of (words_of (scanner_now now)) need)) i.went.table (c.read_need.ensures.there (search rules)))))
          (cases_lt n need);
    }

pub returns-then-not-read_need-clause-went : goal.returns-then-not-read_need-clause-went
returns-then-not-read_need-clause-went c = goes_far c.args.self.now c.loop-need.self c.read_need.new.self c.loop-need.invariant.went c.read_need.ensures.went
