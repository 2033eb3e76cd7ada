use Rattle.std.proofs.Common.{◌≡◌, ◌∙◌, ◌/◌, ◌++◌, [], ◌∷◌, ℕ, List, None, Some, sym, subst}
use Rattle.std.proofs.lemmas.Option.{same_Some}
use Rattle.std.specs.Prelude.{OnOk}
use Rattle.trace_file.specs.declared.line.Line.{Line}
use Rattle.trace_file.specs.declared.line.Line.TheVariants.{Feed}
use Rattle.trace_workers.specs.Own.{named_place}
use Rattle.trace_workers.specs.Workers.{HasDone}
use Rattle.trace_workers.proofs.worker.Worker.take.Goals as goal

pub returns-in-Feed-clause-done : goal.returns-in-Feed-clause-done
returns-in-Feed-clause-done g c =
    let broker = c.args.broker.now in
    let old = c.args.self.now in
    let new = c.feed.new.self in
    subst (λ (line : Line). OnOk c.feed.result ((before : List Line) → HasDone broker before old → HasDone broker (before ++ line ∷ []) new)) (sym c.in-Feed.is)
    (subst (λ (bytes : List ℕ). OnOk c.feed.result ((before : List Line) → HasDone broker before old → HasDone broker (before ++ Feed c.in-Feed.session bytes ∷ []) new)) c.as_slice.ensures c.feed.ensures.done)

pub returns-in-Shut-clause-done : goal.returns-in-Shut-clause-done
returns-in-Shut-clause-done g c =
    subst (λ (line : Line). (before : List Line) → HasDone c.args.broker.now before c.args.self.now → HasDone c.args.broker.now (before ++ line ∷ []) c.shut.new.self) (sym c.in-Shut.is) c.shut.ensures.done

pub returns-in-Clock-clause-done : goal.returns-in-Clock-clause-done
returns-in-Clock-clause-done g c =
    subst (λ (line : Line). OnOk c.tick.result ((before : List Line) → HasDone c.args.broker.now before c.args.self.now → HasDone c.args.broker.now (before ++ line ∷ []) c.tick.new.self)) (sym c.in-Clock.is) c.tick.ensures.done

pub returns-in-Feed-clause-alone : goal.returns-in-Feed-clause-alone
returns-in-Feed-clause-alone g c place named k s other =
    let old = c.args.self.now in
    let there = subst (λ (line : Line). named_place old line ≡ Some place) c.in-Feed.is named in
    c.feed.ensures.alone k s (λ e. other (e ∙ same_Some (c.in-Feed.session / old.worker_count) place there))

pub returns-in-Shut-clause-alone : goal.returns-in-Shut-clause-alone
returns-in-Shut-clause-alone g c place named k s other =
    let old = c.args.self.now in
    let there = subst (λ (line : Line). named_place old line ≡ Some place) c.in-Shut.is named in
    c.shut.ensures.alone k s (λ e. other (e ∙ same_Some (c.in-Shut.session / old.worker_count) place there))

pub returns-in-Clock-clause-alone : goal.returns-in-Clock-clause-alone
returns-in-Clock-clause-alone g c place named =
    let nowhere : None ≡ Some place = subst (λ (line : Line). named_place c.args.self.now line ≡ Some place) c.in-Clock.is named in
    absurd cc
