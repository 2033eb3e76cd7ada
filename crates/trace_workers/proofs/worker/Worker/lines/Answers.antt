use Rattle.std.proofs.Common.{◌≡◌, ◌∙◌, ◌++◌, [], ◌∷◌, List, true, take, refl, sym, ap, subst, arith}
use Rattle.std.proofs.lemmas.List.{take_more}
use Rattle.trace_file.specs.Contents.{sessions_of}
use Rattle.trace_file.specs.declared.line.Line.{Line}
use Rattle.trace_workers.specs.Workers.{HasDone}
use Rattle.trace_workers.specs.Own.{MayTake, is_own}
use Rattle.trace_workers.proofs.Workers.{has_all_on, same_on, same_self}
use Rattle.trace_workers.proofs.Moving.{fresh_rests}
use Rattle.trace_workers.proofs.Taking.{may_take}
use Rattle.trace_workers.proofs.Traced.{few_lines}
use Rattle.trace_workers.proofs.worker.Worker.lines.Goals as goal

pub overflow_cast-at : goal.overflow_cast-at
overflow_cast-at g c = let t = c.requires.traced in omega (arith, few_lines t.0 c.args.lines.now t.1)

pub line-requires : goal.line-requires
line-requires g c =
    let lines = c.args.lines.now in
    let worker = c.loop-at.self in
    let at = c.loop-at.at in
    let line = c.index-lines-at.result in
    let all = has_all_on (sessions_of lines) c.args.self.now worker c.loop-at.invariant.same c.requires.all in
    record {
      may = (
        take at lines,
        c.loop-at.invariant.done,
        λ own. subst (λ (l : Line). MayTake (take at lines) l worker) (sym c.index-lines-at.is)
            (may_take lines worker at line c.requires.traced all c.loop-at-test.true (subst (λ (l : Line). is_own worker l ≡ true) c.index-lines-at.is own)),
      );
    }

pub loop-at-init : goal.loop-at-init
loop-at-init g c = record {
  same = same_self c.args.self.now;
  running = refl;
  done = c.requires.begun;
  rests = fresh_rests c.args.broker.now c.args.self.now c.requires.begun;
}

pub loop-at-preserved : goal.loop-at-preserved
loop-at-preserved g c =
    let lines = c.args.lines.now in
    let broker = c.args.broker.now in
    let at = c.loop-at.at in
    let line = c.index-lines-at.result in
    let more = take_more lines at line c.loop-at-test.true ∙ ap (λ (l : Line). take at lines ++ l ∷ []) (sym c.index-lines-at.is) in
    record {
      same = same_on c.args.self.now c.loop-at.self c.line.new.self c.loop-at.invariant.same c.line.ensures.same;
      running = c.line.ensures.running ∙ c.loop-at.invariant.running;
      done = subst (λ (done : List Line). HasDone broker done c.line.new.self) (sym more) (c.in_ok-line.ensures.done (take at lines) c.loop-at.invariant.done);
      rests = c.in_ok-line.ensures.rests c.loop-at.invariant.rests;
    }
