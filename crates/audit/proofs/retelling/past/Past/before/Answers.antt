use Rattle.std.proofs.Common.{length, ap, sym, ◌∙◌, arith}
use Rattle.partlog.specs.Gauges.{numbers_of}
use Rattle.partlog.specs.History.{History}
use Rattle.partlog.specs.State.{state_before}
use Rattle.audit.proofs.retelling.Befores.{found_before, none_behind, not_above, past_is_whole}
use Rattle.audit.proofs.retelling.past.Past.before.Goals as goal

pub returns-in-Some-clause-numbers : goal.returns-in-Some-clause-numbers
returns-in-Some-clause-numbers c =
    let f = found_before c.self.inside.log c.self.inside.numbers c.args.place c.in-Some.numbers.now c.self.invariant c.in-Some.ensures in
    f.1 ∙ ap (λ (h : History). numbers_of (state_before h c.args.place)) c.self.view_is

pub returns-in-Some-clause-end : goal.returns-in-Some-clause-end
returns-in-Some-clause-end c =
    let h : History = c.self.inside.log in
    let kept = c.numbers-whole.ensures.kept in
    let f = found_before h c.self.inside.numbers c.args.place c.in-Some.numbers.now c.self.invariant c.in-Some.ensures in
    let low = not_above h c.args.place c.in-Some.numbers.now c.numbers-whole.result (sym kept.whole) (c.numbers_never_fall.ensures.along h c.args.place (length h.events) kept f.0) f.1 c.numbers-whole.ensures.numbers in
    omega (arith, low.end, c.numbers-whole.ensures.end)

pub returns-in-Some-clause-high : goal.returns-in-Some-clause-high
returns-in-Some-clause-high c =
    let h : History = c.self.inside.log in
    let kept = c.numbers-whole.ensures.kept in
    let f = found_before h c.self.inside.numbers c.args.place c.in-Some.numbers.now c.self.invariant c.in-Some.ensures in
    let low = not_above h c.args.place c.in-Some.numbers.now c.numbers-whole.result (sym kept.whole) (c.numbers_never_fall.ensures.along h c.args.place (length h.events) kept f.0) f.1 c.numbers-whole.ensures.numbers in
    omega (arith, low.high, c.numbers-whole.ensures.high, c.numbers-whole.ensures.end)

pub returns-in-Some-clause-bytes : goal.returns-in-Some-clause-bytes
returns-in-Some-clause-bytes c =
    let h : History = c.self.inside.log in
    let kept = c.numbers-whole.ensures.kept in
    let f = found_before h c.self.inside.numbers c.args.place c.in-Some.numbers.now c.self.invariant c.in-Some.ensures in
    let low = not_above h c.args.place c.in-Some.numbers.now c.numbers-whole.result (sym kept.whole) (c.numbers_never_fall.ensures.along h c.args.place (length h.events) kept f.0) f.1 c.numbers-whole.ensures.numbers in
    omega (arith, low.bytes, c.numbers-whole.ensures.bytes)

pub returns-in-None-clause-numbers : goal.returns-in-None-clause-numbers
returns-in-None-clause-numbers c =
    let h : History = c.self.inside.log in
    let past = none_behind h c.self.inside.numbers c.args.place c.self.invariant c.in-None.ensures in
    c.numbers-whole.ensures.numbers ∙ ap numbers_of (sym (past_is_whole h c.args.place (sym c.numbers-whole.ensures.kept.whole) past))
    ∙ ap (λ (g : History). numbers_of (state_before g c.args.place)) c.self.view_is
