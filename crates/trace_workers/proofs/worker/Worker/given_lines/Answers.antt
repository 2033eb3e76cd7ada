use Rattle.std.proofs.Common.{◌≡◌, ◌∙◌, ◌++◌, [], ◌∷◌, List, append_assoc, length, length-append, refl, sym, ap, subst, rules, arith}
use Rattle.std.proofs.lemmas.List.{append-nil, nil_from_length}
use Rattle.std.specs.Vec.Iter.{into_iter_items}
use Rattle.trace_file.specs.Contents.{sessions_of}
use Rattle.trace_file.specs.declared.line.Line.{Line}
use Rattle.trace_workers.specs.Workers.{HasDone}
use Rattle.trace_workers.proofs.Workers.{has_all_on, same_on, same_self}
use Rattle.trace_workers.proofs.Moving.{fresh_rests}
use Rattle.trace_workers.proofs.Taking.{may_take_next}
use Rattle.trace_workers.proofs.Traced.{few_lines}
use Rattle.trace_workers.proofs.worker.Worker.given_lines.Goals as goal

pub overflow_add-at : goal.overflow_add-at
overflow_add-at g c =
    let i = c.loop-line.invariant in
    let front = c.loop-line.yielded in
    let line = c.in-Some.line in
    let next = into_iter_items c.next.new.self in
    let t = c.requires.traced in
    let whole : front ++ line ∷ next ≡ c.args.lines = ap (λ (ls : List Line). front ++ ls) (sym c.in-Some.ensures.steps.0) ∙ i.whole in
    let size = ap length whole in
    let long = length-append front (line ∷ next) in
    let at = i.at in
    omega (arith, few_lines t.0 c.args.lines t.1, size, long, at)

pub given_line-requires : goal.given_line-requires
given_line-requires g c =
    let i = c.loop-line.invariant in
    let lines = c.args.lines in
    let worker = c.loop-line.self in
    let front = c.loop-line.yielded in
    let line = c.in-Some.line in
    let next = into_iter_items c.next.new.self in
    let whole : front ++ line ∷ next ≡ lines = ap (λ (ls : List Line). front ++ ls) (sym c.in-Some.ensures.steps.0) ∙ i.whole in
    let all = has_all_on (sessions_of lines) c.args.self.now worker i.same c.requires.all in
    record { may = (front, i.done, λ own. may_take_next lines front next line worker c.requires.traced all whole own) }

pub loop-line-init : goal.loop-line-init
loop-line-init g c = record {
  at = refl;
  len = search rules;
  whole = c.into_iter-line-iterator.ensures.into_iter_gives.0 ∙ c.into_vec-line-items.ensures;
  same = same_self c.args.self.now;
  running = refl;
  done = c.requires.begun;
  rests = fresh_rests c.args.broker.now c.args.self.now c.requires.begun;
}

pub loop-line-preserved : goal.loop-line-preserved
loop-line-preserved g c =
    let i = c.loop-line.invariant in
    let front = c.loop-line.yielded in
    let line = c.in-Some.line in
    let next = into_iter_items c.next.new.self in
    let steps = c.in-Some.ensures.steps.0 in
    let gone = c.in-Some.ensures.steps.1 in
    let whole : front ++ line ∷ next ≡ c.args.lines = ap (λ (ls : List Line). front ++ ls) (sym steps) ∙ i.whole in
    let at = i.at in
    let len = i.len in
    let shorter = ap length steps in
    let longer = length-append front (line ∷ []) in
    record {
      at = omega (arith, at, longer);
      len = omega (arith, len, gone, shorter);
      whole = append_assoc front (line ∷ []) next ∙ whole;
      same = same_on c.args.self.now c.loop-line.self c.given_line.new.self i.same c.given_line.ensures.same;
      running = c.given_line.ensures.running ∙ i.running;
      done = c.in_ok-given_line.ensures.done front i.done;
      rests = c.in_ok-given_line.ensures.rests i.rests;
    }

pub returns : goal.returns
returns g c =
    let i = c.loop-line.invariant in
    let front = c.loop-line.yielded in
    let rest = into_iter_items c.loop-line.line-iterator in
    let len = i.len in
    let over = c.in-None.ensures.steps.0 in
    let none : rest ≡ [] = nil_from_length rest (omega (arith, len, over)) in
    let all : front ≡ c.args.lines = sym (append-nil front) ∙ ap (λ (ls : List Line). front ++ ls) (sym none) ∙ i.whole in
    record {
      same = i.same;
      running = i.running;
      done = subst (λ (ls : List Line). HasDone c.args.broker.now ls c.loop-line.self) all i.done;
      rests = i.rests;
    }
