use Rattle.std.proofs.Common.{◌≡◌, ◌<◌, ℕ, true, List, [], length, take, Some, ap, ◌∙◌, subst, arith, inl, inr}
use Rattle.std.specs.Io.KnownBytes.{Appends, Consumes}
use Rattle.session.specs.Flows.{LinkView, link_of}
use Rattle.audit.specs.Fits.{EndFits, end_of_input}
use Rattle.session.proofs.Flowing.{read_some}
use Rattle.session.proofs.Shown.{ends_shown}
use Rattle.session.proofs.intake.Intake.read.Goals as goal

pub returns-in-Ok-eq0 : goal.returns-in-Ok-eq0
returns-in-Ok-eq0 g c =
    let e = c.in-Ok-eq0.ensures in
    let n = c.in-Ok-eq0.field-0 in
    let into = c.read.new.into in
    let a : LinkView = link_of (g.L.Link.taken c.args.link.now) (g.L.Link.left c.args.link.now) (g.L.Link.written c.args.link.now) (g.L.Link.faults c.args.link.now) in
    let b : LinkView = link_of (g.L.Link.taken c.read.new.self) (g.L.Link.left c.read.new.self) (g.L.Link.written c.read.new.self) (g.L.Link.faults c.read.new.self) in
    let none : n ≡ 0 = c.in-Ok-eq0.field-0-test in
    let taken : Appends a.taken b.taken [] = subst (λ (k : ℕ). Appends a.taken b.taken (take k into)) none e.taken in
    let left : Consumes a.left b.left [] = subst (λ (k : ℕ). Consumes a.left b.left (take k into)) none e.bytes.0 in
    let some : 0 < length into = omega (arith, c.read.auto.into, c.deref_mut.ensures.len) in
    inl (
      read_some a b [] taken left e.taken_told e.left_told e.written e.cause.later,
      inr (
        e.bytes.1 none some,
        λ t. ends_shown t c.args.self.now.inbox c.end_of_input.result (c.end_of_input.ensures.end ∙ ap (λ (rest : List ℕ). end_of_input (length rest)) c.bytes.ensures)
            (subst (λ (rest : List ℕ). EndFits rest true t (Some c.end_of_input.result)) c.bytes.ensures (c.end_of_input.ensures.fits t)),
      ),
    )
