use Rattle.std.proofs.Common.{◌≡◌, true, false, arith, rules}
use Rattle.trace_file.specs.LineFaults.{IsPieceFault}
use Rattle.trace_file.proofs.Refused.{few_lines, bad_here, open_here, trace_here}
use Rattle.trace_file.proofs.Taking.{none_left}
use Rattle.trace_file.proofs.reading.Reading.ended.Goals as goal

pub overflow_cast-line : goal.overflow_cast-line
overflow_cast-line c =
    let r = c.requires in
    omega (arith, c.len.ensures, r.2, few_lines (IsPieceFault r.0 c.args.self.lines) r.1 c.args.self.lines c.args.self.fault r.3.lines)

pub overflow_add-line : goal.overflow_add-line
overflow_add-line c =
    let r = c.requires in
    omega (arith, c.len.ensures, r.2, few_lines (IsPieceFault r.0 c.args.self.lines) r.1 c.args.self.lines c.args.self.fault r.3.lines)

pub returns-in-Some-clause-bad : goal.returns-in-Some-clause-bad
returns-in-Some-clause-bad c = λ only text size read. bad_here text only c.args.self _ c.in-Some.kind size read c.in-Some.is (omega (arith, c.len.ensures))

pub returns-then-not-is_ended-clause-bad : goal.returns-then-not-is_ended-clause-bad
returns-then-not-is_ended-clause-bad c =
    let unended : c.args.self.order.ended ≡ false = search rules in
    λ only text size read. open_here text only c.args.self _ size read (none_left c.args.self.fault c.in_default.not-Some) (omega (arith, c.len.ensures)) unended

pub returns-clause-trace : goal.returns-clause-trace
returns-clause-trace c =
    let ended : c.args.self.order.ended ≡ true = search rules in
    λ only text size read. trace_here text only c.args.self size read (none_left c.args.self.fault c.in_default.not-Some) ended
