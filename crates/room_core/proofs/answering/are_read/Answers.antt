use Rattle.std.proofs.Common.{◌≡◌, ℕ, ◌+◌, ◌*◌, ◌<◌, ◌≤◌, true, None, arith, sym, subst, ◌∙◌}
use Rattle.std.proofs.lemmas.List.{get_or_past}
use Rattle.room_core.specs.CallerTables.{table}
use Rattle.room_core.specs.Checks.{IsRead}
use Rattle.room_core.specs.Description.{gauge_of}
use Rattle.room_core.proofs.ReadingAll.{read-all, read-more}
use Rattle.room_core.proofs.answering.are_read.Goals as goal

pub loop-i-init : goal.loop-i-init
loop-i-init c = (λ i l. absurd (omega arith), omega (arith, c.min-needs.ensures))

pub loop-i-preserved : goal.loop-i-preserved
loop-i-preserved c =
    let here : IsRead (table c.args.readings.now None) c.args.last (gauge_of (table c.args.words.now 0) c.loop-i.i) = subst (IsRead (table c.args.readings.now None) c.args.last) c.gauge_of.ensures (c.is_read.ensures.0 c.if-not-is_read.false) in
    (read-more (table c.args.readings.now None) c.args.last (table c.args.words.now 0) c.loop-i.i c.loop-i.invariant.0 here, c.loop-i.invariant.1)

pub returns-then-not-is_read : goal.returns-then-not-is_read
returns-then-not-is_read c =
    let within : c.loop-i.i < table c.args.words.now 0 2 = omega (arith, c.min-needs.ensures, c.loop-i-test.true) in (
      λ e. absurd (cc),
      λ all.
          let here : IsRead (table c.args.readings.now None) c.args.last c.gauge_of.result = subst (IsRead (table c.args.readings.now None) c.args.last) (sym c.gauge_of.ensures) (all c.loop-i.i within) in
          let yes : c.is_read.result ≡ true = c.is_read.ensures.1 here in
          absurd (cc),
    )

pub returns : goal.returns
returns c =
    let over : c.loop-i.i ≡ c.min-needs.result = omega (arith, c.loop-i.auto.i-end, c.loop-i-test.false) in
    let none = λ (i : ℕ) (l : 64 ≤ i). get_or_past c.args.words.now (3 + 3 * i) 0 (omega (arith, c.requires)) in
    (λ e. read-all (table c.args.readings.now None) c.args.last (table c.args.words.now 0) none c.loop-i.i (over ∙ c.min-needs.ensures) c.loop-i.invariant.0, λ all. cc)
