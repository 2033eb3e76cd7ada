use Rattle.std.proofs.Common.{◌≡◌, ap, sym, ◌∙◌, None, Some, get_or, set}
use Rattle.std.proofs.lemmas.List.{set-set}
use Rattle.timing_wheel.specs.Turn.{turned}
use Rattle.timing_wheel.specs.Wait.{HasCome}
use Rattle.timing_wheel.proofs.Turns.{put_again, part-due, part-again, turned-due, turned-again, turned-none}
use Rattle.timing_wheel.proofs.turn.turn_entry.Goals as goal

pub returns-then-timer-t-clause-entry : goal.returns-then-timer-t-clause-entry
returns-then-timer-t-clause-entry c =
    let old = c.args.entries.now in
    let is = sym c.take.ensures.entry ∙ c.in-Some.is in
    c.take.ensures.rest ∙ ap (set old c.args.id) (sym (ap (turned c.args.t) is ∙ turned-due c.args.t c.in-Some.timer c.if-timer-t.true))

pub returns-then-timer-t-clause-part : goal.returns-then-timer-t-clause-part
returns-then-timer-t-clause-part c =
    let old = c.args.entries.now in
    let is = sym c.take.ensures.entry ∙ c.in-Some.is in
    rw (c.take.ensures.rest, c.push.ensures) (part-due c.args.t old c.args.id c.in-Some.timer c.args.due.now c.requires.within is c.if-timer-t.true)

pub returns-else-timer-t-clause-entry : goal.returns-else-timer-t-clause-entry
returns-else-timer-t-clause-entry c =
    let old = c.args.entries.now in
    let is : get_or old c.args.id None ≡ Some c.in-Some.timer = sym c.take.ensures.entry ∙ c.in-Some.is in
    let come : HasCome c.args.t c.in-Some.timer = rw is at c.requires.come in
    let again = Some (put_again c.args.t c.in-Some.timer) in
    c.put.ensures ∙ ap (λ xs. set xs c.args.id again) c.take.ensures.rest ∙ set-set old c.args.id None again ∙ ap (set old c.args.id) (sym (ap (turned c.args.t) is ∙ turned-again c.args.t c.in-Some.timer come c.if-timer-t.false))

pub returns-else-timer-t-clause-part : goal.returns-else-timer-t-clause-part
returns-else-timer-t-clause-part c =
    let old = c.args.entries.now in
    let is : get_or old c.args.id None ≡ Some c.in-Some.timer = sym c.take.ensures.entry ∙ c.in-Some.is in
    let come : HasCome c.args.t c.in-Some.timer = rw is at c.requires.come in
    let again = Some (put_again c.args.t c.in-Some.timer) in
    let new = c.put.ensures ∙ ap (λ xs. set xs c.args.id again) c.take.ensures.rest ∙ set-set old c.args.id None again in
    rw new (part-again c.args.t old c.args.id c.in-Some.timer c.args.due.now c.requires.within is come c.if-timer-t.false)

pub returns-in_default-clause-entry : goal.returns-in_default-clause-entry
returns-in_default-clause-entry c =
    let old = c.args.entries.now in
    let is : get_or old c.args.id None ≡ None = sym c.take.ensures.entry ∙ c.in_default.is in
    c.take.ensures.rest ∙ ap (set old c.args.id) (sym (ap (turned c.args.t) is ∙ turned-none c.args.t))
