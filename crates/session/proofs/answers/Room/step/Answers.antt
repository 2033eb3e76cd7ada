use Rattle.std.proofs.Common.{ℕ, ℤ, ◌<◌, List, [], length, drop, take, rules, sym, subst, ◌∙◌}
use Rattle.std.specs.Int.{w32}
use Rattle.std.proofs.lemmas.Int.{to_z-of_z}
use Rattle.audit.specs.declared.account.SessionEnd.TheVariants.{FrameTooLong}
use Rattle.session.specs.Flows.{HasFlowed, LinkView, link_of}
use Rattle.session.specs.Standing.{IsEnding, IsServing}
use Rattle.session.proofs.Flowing.{wrote}
use Rattle.session.proofs.Serving.{hushed, read_on, replied, replied_in_part, stops, too_long}
use Rattle.session.proofs.answers.Room.step.Goals as goal

pub returns-in-TooLong-clause-stepped : goal.returns-in-TooLong-clause-stepped
returns-in-TooLong-clause-stepped g c start h =
    let link : LinkView = link_of (g.L.Link.taken c.args.link.now) (g.L.Link.left c.args.link.now) (g.L.Link.written c.args.link.now) (g.L.Link.faults c.args.link.now) in
    let end = too_long start c.args.seat.now.told c.args.pass.now link link c.args.intake.now.inbox h c.in-TooLong.size (sym c.next.ensures ∙ c.in-TooLong.is) in
    subst (λ (size : ℤ). IsEnding start c.args.seat.now.told (FrameTooLong size) c.args.pass.now link) (sym (to_z-of_z w32 c.in-TooLong.size (search rules))) end

pub returns-in-NotYet-clause-stepped : goal.returns-in-NotYet-clause-stepped
returns-in-NotYet-clause-stepped g c start h =
    let link : LinkView = link_of (g.L.Link.taken c.args.link.now) (g.L.Link.left c.args.link.now) (g.L.Link.written c.args.link.now) (g.L.Link.faults c.args.link.now) in
    let now : LinkView = link_of (g.L.Link.taken c.read.new.link) (g.L.Link.left c.read.new.link) (g.L.Link.written c.read.new.link) (g.L.Link.faults c.read.new.link) in
    read_on start c.args.seat.now.told c.args.pass.now link now c.args.intake.now.inbox h (sym c.next.ensures ∙ c.in-NotYet.is) c.read.result c.read.new.self.inbox c.read.ensures

pub returns-in-Ok-clause-stepped : goal.returns-in-Ok-clause-stepped
returns-in-Ok-clause-stepped g c start h =
    let t = c.args.seat.now.told in
    let u = c.answer.new.seat.told in
    let new = c.answer.new.pass in
    let inbox = c.args.intake.now.inbox in
    let before : LinkView = link_of (g.L.Link.taken c.args.link.now) (g.L.Link.left c.args.link.now) (g.L.Link.written c.args.link.now) (g.L.Link.faults c.args.link.now) in
    let now : LinkView = link_of (g.L.Link.taken c.write_whole.new.link) (g.L.Link.left c.write_whole.new.link) (g.L.Link.written c.write_whole.new.link) (g.L.Link.faults c.write_whole.new.link) in
    let a = c.in-Reply.ensures.answered in
    let e = c.in-Ok.ensures in
    let flow : HasFlowed [] c.in-Reply.frame before now =
    subst (λ (bytes : List ℕ). HasFlowed [] bytes before now) c.as_slice.ensures (wrote before now c.as_slice.result.now e.taken e.left e.whole e.written_told e.cause.later) in
    subst (IsServing start u new now) (sym c.pass.ensures)
    (replied start t u c.args.pass.now new c.answer.ensures.later before inbox c.body.result.now (drop c.in-Whole.end inbox) c.body.ensures.small c.body.ensures.parts h a.0 c.in-Reply.frame now a.1 flow)

pub returns-in-Reply-clause-stepped : goal.returns-in-Reply-clause-stepped
returns-in-Reply-clause-stepped g c start h =
    let t = c.args.seat.now.told in
    let u = c.answer.new.seat.told in
    let new = c.answer.new.pass in
    let inbox = c.args.intake.now.inbox in
    let before : LinkView = link_of (g.L.Link.taken c.args.link.now) (g.L.Link.left c.args.link.now) (g.L.Link.written c.args.link.now) (g.L.Link.faults c.args.link.now) in
    let now : LinkView = link_of (g.L.Link.taken c.write_whole.new.link) (g.L.Link.left c.write_whole.new.link) (g.L.Link.written c.write_whole.new.link) (g.L.Link.faults c.write_whole.new.link) in
    let a = c.in-Reply.ensures.answered in
    let e = c.in-Err.ensures in
    let cut = e.cut in
    replied_in_part start t u c.args.pass.now new c.answer.ensures.later before inbox c.body.result.now (drop c.in-Whole.end inbox) c.body.ensures.small c.body.ensures.parts h a.0 c.in-Reply.frame cut.0 now a.1
    (subst (λ (bytes : List ℕ). cut.0 < length bytes) c.as_slice.ensures cut.1)
    (subst (λ (bytes : List ℕ). HasFlowed [] (take cut.0 bytes) before now) c.as_slice.ensures (wrote before now (take cut.0 c.as_slice.result.now) e.taken e.left cut.2 e.written_told e.cause.later)) e.cause.failed

pub returns-in-Quiet-clause-stepped : goal.returns-in-Quiet-clause-stepped
returns-in-Quiet-clause-stepped g c start h =
    let t = c.args.seat.now.told in
    let u = c.answer.new.seat.told in
    let new = c.answer.new.pass in
    let inbox = c.args.intake.now.inbox in
    let before : LinkView = link_of (g.L.Link.taken c.args.link.now) (g.L.Link.left c.args.link.now) (g.L.Link.written c.args.link.now) (g.L.Link.faults c.args.link.now) in
    let a = c.in-Quiet.ensures.answered in
    subst (IsServing start u new before) (sym c.pass-in-Quiet.ensures)
    (hushed start t u c.args.pass.now new c.answer.ensures.later before inbox c.body.result.now (drop c.in-Whole.end inbox) c.body.ensures.small c.body.ensures.parts h a.0 a.1 a.2)

pub returns-clause-stepped : goal.returns-clause-stepped
returns-clause-stepped g c start h =
    let t = c.args.seat.now.told in
    let u = c.answer.new.seat.told in
    let inbox = c.args.intake.now.inbox in
    let before : LinkView = link_of (g.L.Link.taken c.args.link.now) (g.L.Link.left c.args.link.now) (g.L.Link.written c.args.link.now) (g.L.Link.faults c.args.link.now) in
    stops start t u c.args.pass.now c.answer.new.pass c.answer.ensures.later before inbox c.body.result.now (drop c.in-Whole.end inbox) c.body.ensures.small c.body.ensures.parts h c.in-Whole.end (sym c.next.ensures ∙ c.in-Whole.is)
    c.in-Ended.why c.in-Ended.ensures.answered
