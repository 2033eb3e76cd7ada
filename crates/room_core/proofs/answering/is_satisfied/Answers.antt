use Rattle.std.proofs.Common.{◌≡◌, ℕ, ◌+◌, ◌*◌, ◌-◌, ◌≤◌, None, arith, ◌∙◌}
use Rattle.std.proofs.lemmas.List.{get_or_past}
use Rattle.opcond.specs.Tally.{counted}
use Rattle.room_core.specs.CallerTables.{table}
use Rattle.room_core.specs.Description.{gauge_of, need_of, tally_below}
use Rattle.room_core.specs.Readings.{read_only}
use Rattle.room_core.proofs.Counting.{left-none, tally-lesser, tally-more, tally-none}
use Rattle.room_core.proofs.answering.is_satisfied.Goals as goal

step : (least sum part left more after taken : ℕ) → left ≡ least - sum → after ≡ left - taken → taken ≡ part → more ≡ sum + part → after ≡ least - more
step least sum part left more after taken a b c d = omega arith

pub loop-i-init : goal.loop-i-init
loop-i-init c =
    let none : tally_below (table c.args.words.now 0) (read_only (table c.args.readings.now None)) 0 ≡ 0 = tally-none (table c.args.words.now 0) (read_only (table c.args.readings.now None)) in
    (omega (arith, none), omega (arith, c.min-needs.ensures))

pub loop-i-preserved : goal.loop-i-preserved
loop-i-preserved c =
    let words = table c.args.words.now 0 in
    let value = read_only (table c.args.readings.now None) in
    let more : tally_below words value (c.loop-i.i + 1) ≡ tally_below words value c.loop-i.i + counted (need_of words c.loop-i.i) (value (gauge_of words c.loop-i.i)) = tally-more words value c.loop-i.i in
    let part : c.part_of.result ≡ counted (need_of words c.loop-i.i) (value (gauge_of words c.loop-i.i)) = c.part_of.ensures in
    let before : c.loop-i.left ≡ words 0 - tally_below words value c.loop-i.i = c.loop-i.invariant.0 in
    let left : c.saturating_sub-left.result ≡ c.loop-i.left - c.part_of.result = c.saturating_sub-left.ensures in
    (step (words 0) (tally_below words value c.loop-i.i) (counted (need_of words c.loop-i.i) (value (gauge_of words c.loop-i.i))) _ _ _ _ before left part more, c.loop-i.invariant.1)

pub returns : goal.returns
returns c =
    let words = table c.args.words.now 0 in
    let value = read_only (table c.args.readings.now None) in
    let none = λ (i : ℕ) (l : 64 ≤ i). get_or_past c.args.words.now (5 + 3 * i) 0 (omega (arith, c.requires)) in
    let over : c.loop-i.i ≡ c.min-needs.result = omega (arith, c.loop-i.auto.i-end, c.loop-i-test.false) in
    let same : tally_below words value (words 2) ≡ tally_below words value c.loop-i.i = tally-lesser words value none (words 2) c.loop-i.i (over ∙ c.min-needs.ensures) in
    left-none (words 0) (tally_below words value (words 2)) c.loop-i.left (omega (arith, same, c.loop-i.invariant.0))
