use Rattle.std.proofs.Common.{◌≡◌, ℕ, ◌<◌, ◌∙◌, ◌++◌, [], ◌∷◌, refl, ap, subst, arith}
use Rattle.storm.specs.Generator.{state_after}
use Rattle.storm.specs.Lines.{feed_line, front_lines, storm_lines, topic_line}
use Rattle.storm.specs.Places.{draws_of}
use Rattle.storm.proofs.Laws.{drawn_more, none_drawn}
use Rattle.trace_file.specs.Contents.{sessions_of}
use Rattle.trace_file.specs.declared.line.Line.TheVariants.{End}
use Rattle.trace_workers.specs.Workers.{HasDone, WorkerView}
use Rattle.trace_workers.proofs.LoadLines.{may_take_request, passed_more}
use Rattle.trace_workers.proofs.Moving.{fresh_rests}
use Rattle.trace_workers.proofs.Workers.{done_foreign, has_all_on, same_on, same_self}
use Rattle.trace_workers.proofs.worker.Worker.load_lines.Goals as goal

pub loop-i-init : goal.loop-i-init
loop-i-init g c =
    let worker = c.args.self.now in
    let broker = c.args.broker.now in
    let below = subst (λ (w : WorkerView). w.number < w.worker_count) c.self.view_is c.self.invariant in
    record {
      same = same_self worker;
      running = refl;
      drawn = c.in_ok-frames.ensures ∙ none_drawn c.args.load.seed;
      done = done_foreign broker [] topic_line worker below refl c.requires.begun;
      rests = fresh_rests broker worker c.requires.begun;
    }

pub request-requires-clause-may : goal.request-requires-clause-may
request-requires-clause-may g c =
    let seed = c.args.load.seed in
    let n = c.args.load.requests in
    let worker = c.loop-i.self in
    let i = c.loop-i.invariant in
    let all = has_all_on (sessions_of (storm_lines seed n)) c.args.self.now worker i.same c.requires.all in
    (front_lines seed n c.loop-i.i, i.done, may_take_request seed n c.loop-i.i c.loop-i.frames.state worker c.requires.traced all c.loop-i-test.true i.drawn)

pub tick_after-requires-clause-done : goal.tick_after-requires-clause-done
tick_after-requires-clause-done g c =
    let front = front_lines c.args.load.seed c.args.load.requests c.loop-i.i in
    let line = feed_line c.loop-i.frames.state c.loop-i.i in
    (front ++ line ∷ [], c.in_ok-request.ensures.done front c.loop-i.invariant.done)

pub loop-i-preserved : goal.loop-i-preserved
loop-i-preserved g c =
    let seed = c.args.load.seed in
    let n = c.args.load.requests in
    let broker = c.args.broker.now in
    let k = c.loop-i.i in
    let x = c.loop-i.frames.state in
    let i = c.loop-i.invariant in
    let front = front_lines seed n k in
    let fed = c.in_ok-request.ensures.done front i.done in
    record {
      same = same_on c.args.self.now c.request.new.self c.tick_after.new.self (same_on c.args.self.now c.loop-i.self c.request.new.self i.same c.request.ensures.same) c.tick_after.ensures.same;
      running = c.tick_after.ensures.running ∙ c.request.ensures.running ∙ i.running;
      drawn = c.request.ensures.drawn ∙ ap (λ y. state_after y (draws_of k)) i.drawn ∙ drawn_more seed k;
      done = passed_more broker seed n k x c.tick_after.new.self i.drawn (c.in_ok-tick_after.ensures.done (front ++ feed_line x k ∷ []) fed);
      rests = c.in_ok-tick_after.ensures.rests (c.in_ok-request.ensures.rests i.rests);
    }

pub returns-clause-done : goal.returns-clause-done
returns-clause-done g c =
    let seed = c.args.load.seed in
    let n = c.args.load.requests in
    let i = c.loop-i.invariant in
    let below = subst (λ (w : WorkerView). w.number < w.worker_count) c.self.view_is c.self.invariant in
    let number = i.same.number in
    let count = i.same.worker_count in
    let over = c.loop-i-test.false in
    let within = c.loop-i.auto.i-end in
    let all : c.loop-i.i ≡ n = omega (arith, over, within) in
    let done = subst (λ (k : ℕ). HasDone c.args.broker.now (front_lines seed n k) c.loop-i.self) all i.done in
    done_foreign c.args.broker.now (front_lines seed n n) End c.loop-i.self (omega (arith, number, count, below)) refl done
