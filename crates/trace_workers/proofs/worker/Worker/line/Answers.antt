use Rattle.std.proofs.Common.{◌≡◌, ◌≢◌, ◌<◌, ◌∙◌, ◌++◌, [], ◌∷◌, ℕ, List, Option, Some, get_or, length, sym, subst}
use Rattle.std.specs.Prelude.{IfSome}
use Rattle.std.proofs.lemmas.Result.{on_ok_weaker}
use Rattle.trace_file.specs.declared.line.Line.{Line}
use Rattle.trace_workers.specs.Resting.{Rests}
use Rattle.trace_workers.specs.Sessions.{SessionView}
use Rattle.trace_workers.specs.Workers.{AllRest, HasDone}
use Rattle.trace_workers.proofs.Taking.{place_there}
use Rattle.trace_workers.proofs.Workers.{as_many_sessions, done_foreign}
use Rattle.trace_workers.proofs.worker.Worker.line.Goals as goal

pub returns-then-not-has-clause-done : goal.returns-then-not-has-clause-done
returns-then-not-has-clause-done g c before h =
    done_foreign c.args.broker.now before c.args.line.now c.args.self.now c.has.ensures.below (sym c.has.ensures.own ∙ c.if-not-has.true) h

pub go_on_after-requires : goal.go_on_after-requires
go_on_after-requires g c =
    let m = c.requires.may in
    let line = c.args.line.now in
    let old = c.args.self.now in
    let new = c.take.new.self in
    let own = sym c.has.ensures.own ∙ c.if-not-has.false in
    record {
      there = subst (λ (place : Option ℕ). IfSome place (λ (at : ℕ). at < length new.sessions)) (sym c.named_place-named.ensures)
          (place_there m.0 line old new (m.2 own) (as_many_sessions old new c.take.ensures.same));
      done = (m.0 ++ line ∷ [], c.in_ok-take.ensures.done m.0 m.1);
    }

pub returns-clause-done : goal.returns-clause-done
returns-clause-done g c =
    let broker = c.args.broker.now in
    let line = c.args.line.now in
    on_ok_weaker c.go_on_after.result
    (λ (goes : (lines : List Line) → HasDone broker lines c.take.new.self → HasDone broker lines c.go_on_after.new.self) (before : List Line) (h : HasDone broker before c.args.self.now).
    goes (before ++ line ∷ []) (c.in_ok-take.ensures.done before h))
    c.go_on_after.ensures.done

pub returns-clause-rests : goal.returns-clause-rests
returns-clause-rests g c =
    let old = c.args.self.now in
    let new = c.take.new.self in
    let named = c.named_place-named.result in
    on_ok_weaker c.go_on_after.result
    (λ (goes : ((at k : ℕ) (s : SessionView) → named ≡ Some at → k ≢ at → k < length new.sessions → Rests (get_or new.sessions k s)) → AllRest c.go_on_after.new.self) (before : AllRest old).
    goes (λ at k s is other less. subst Rests (sym (c.take.ensures.alone at (sym c.named_place-named.ensures ∙ is) k s other))
    (before k s (subst (λ (n : ℕ). k < n) (as_many_sessions old new c.take.ensures.same) less))))
    c.go_on_after.ensures.rests
