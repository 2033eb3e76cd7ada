use Rattle.std.proofs.Common.{◌+◌, length, ap, sym, ◌∙◌, arith}
use Rattle.partlog.specs.Gauges.{numbers_of}
use Rattle.partlog.specs.History.{History}
use Rattle.partlog.specs.State.{state_at}
use Rattle.audit.proofs.retelling.Befores.{found_before, none_behind, not_above, past_is_whole, behind_first, none_behind_first}
use Rattle.audit.proofs.retelling.past.Past.at.Goals as goal

pub returns-in-Some-clause-numbers : goal.returns-in-Some-clause-numbers
returns-in-Some-clause-numbers c =
    let look = c.in-Some.ensures.lookup in
    let is = behind_first c.as_slice.result.now c.self.inside.numbers c.args.place c.in-Some.numbers.now c.as_slice.ensures look.3.0 look.1 in
    let f = found_before c.self.inside.log c.self.inside.numbers (c.args.place + 1) c.in-Some.numbers.now c.self.invariant is in
    f.1 ∙ ap (λ (h : History). numbers_of (state_at h c.args.place)) c.self.view_is

pub returns-in-Some-clause-high : goal.returns-in-Some-clause-high
returns-in-Some-clause-high c =
    let h : History = c.self.inside.log in
    let kept = c.numbers-whole.ensures.kept in
    let look = c.in-Some.ensures.lookup in
    let is = behind_first c.as_slice.result.now c.self.inside.numbers c.args.place c.in-Some.numbers.now c.as_slice.ensures look.3.0 look.1 in
    let f = found_before h c.self.inside.numbers (c.args.place + 1) c.in-Some.numbers.now c.self.invariant is in
    let low = not_above h (c.args.place + 1) c.in-Some.numbers.now c.numbers-whole.result (sym kept.whole) (c.numbers_never_fall.ensures.along h (c.args.place + 1) (length h.events) kept f.0) f.1 c.numbers-whole.ensures.numbers in
    omega (arith, low.high, c.numbers-whole.ensures.high, c.numbers-whole.ensures.end)

pub returns-in-Some-clause-bytes : goal.returns-in-Some-clause-bytes
returns-in-Some-clause-bytes c =
    let h : History = c.self.inside.log in
    let kept = c.numbers-whole.ensures.kept in
    let look = c.in-Some.ensures.lookup in
    let is = behind_first c.as_slice.result.now c.self.inside.numbers c.args.place c.in-Some.numbers.now c.as_slice.ensures look.3.0 look.1 in
    let f = found_before h c.self.inside.numbers (c.args.place + 1) c.in-Some.numbers.now c.self.invariant is in
    let low = not_above h (c.args.place + 1) c.in-Some.numbers.now c.numbers-whole.result (sym kept.whole) (c.numbers_never_fall.ensures.along h (c.args.place + 1) (length h.events) kept f.0) f.1 c.numbers-whole.ensures.numbers in
    omega (arith, low.bytes, c.numbers-whole.ensures.bytes)

pub returns-in-None-clause-numbers : goal.returns-in-None-clause-numbers
returns-in-None-clause-numbers c =
    let h : History = c.self.inside.log in
    let none = none_behind_first c.as_slice.result.now c.self.inside.numbers c.args.place c.as_slice.ensures c.in-None.ensures.lookup.3 in
    let past = none_behind h c.self.inside.numbers (c.args.place + 1) c.self.invariant none in
    c.numbers-whole.ensures.numbers ∙ ap numbers_of (sym (past_is_whole h (c.args.place + 1) (sym c.numbers-whole.ensures.kept.whole) past))
    ∙ ap (λ (g : History). numbers_of (state_at g c.args.place)) c.self.view_is
