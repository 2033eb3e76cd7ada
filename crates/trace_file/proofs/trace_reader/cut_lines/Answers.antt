use Rattle.std.proofs.Common.{◌≤◌, get_or, eq-eqb, arith, inl, inr}
use Rattle.std.proofs.lemmas.Bool.{cases_lt, eqb-true}
use Rattle.trace_file.proofs.Begun.{begun_cut, feeds_none, first_cut, lines_cut, whole_cut}
use Rattle.trace_file.proofs.trace_reader.cut_lines.Goals as goal

pub returns-in_err-first-clause-none : goal.returns-in_err-first-clause-none
returns-in_err-first-clause-none c =
    let text = c.args.part.now in
    rw c.from_residual.ensures (feeds_none text (λ k lt is. c.in_err-first.ensures k (omega arith) lt (eq-eqb (get_or text k 0) 10 is)))

pub returns-clause-whole : goal.returns-clause-whole
returns-clause-whole c =
    let f = c.in_ok-first.ensures in
    let l = c.in_ok-last.ensures in
    let le : c.in_ok-first.first ≤ c.in_ok-last.last =
    elim (cases_lt c.in_ok-last.last c.in_ok-first.first) [ inl lt ↦ absurd (f.0.before c.in_ok-last.last (omega arith) lt l.1) | inr le ↦ le ] in
    whole_cut c.args.part.now c.in_ok-first.first c.in_ok-last.last le l.0.high

pub returns-clause-first : goal.returns-clause-first
returns-clause-first c =
    let f = c.in_ok-first.ensures in
    first_cut c.args.part.now c.in_ok-first.first f.0.high (eqb-true (get_or c.args.part.now c.in_ok-first.first 0) 10 f.1)

pub returns-clause-lines : goal.returns-clause-lines
returns-clause-lines c =
    let f = c.in_ok-first.ensures in
    let l = c.in_ok-last.ensures in
    let le : c.in_ok-first.first ≤ c.in_ok-last.last =
    elim (cases_lt c.in_ok-last.last c.in_ok-first.first) [ inl lt ↦ absurd (f.0.before c.in_ok-last.last (omega arith) lt l.1) | inr le ↦ le ] in
    lines_cut c.args.part.now c.in_ok-first.first c.in_ok-last.last le l.0.high (eqb-true (get_or c.args.part.now c.in_ok-last.last 0) 10 l.1)

pub returns-clause-begun : goal.returns-clause-begun
returns-clause-begun c =
    let text = c.args.part.now in
    let l = c.in_ok-last.ensures in
    begun_cut text c.in_ok-last.last (λ k le lt is. l.0.after k le lt (eq-eqb (get_or text k 0) 10 is))
