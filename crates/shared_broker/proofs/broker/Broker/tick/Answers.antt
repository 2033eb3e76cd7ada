use Rattle.std.proofs.Common.{Result, Ok, Err, subst}
use Rattle.std.proofs.lemmas.Result.{on_ok_weaker}
use Rattle.std.specs.Prelude.{OnErr, OnOk}
use Rattle.shared_broker.specs.Passes.{PassView}
use Rattle.shared_broker.specs.Sessions.{HasPartlyToldClock, HasToldClock}
use Rattle.shared_broker.specs.Standing.{Stands}
use Rattle.shared_broker.proofs.SessionsStand.{partly_stands, pass_of, told_stands}
use Rattle.shared_broker.proofs.Ticking.{partly_told, told_clock}
use Rattle.shared_broker.proofs.broker.Broker.tick.Goals as goal

either : {T E : Type 0} {P Q R : Type 0} (r : Result T E) → OnOk r P → OnErr r Q → (P → R) → (Q → R) → R
either (Ok x) p q f g = f p
either (Err e) p q f g = g q

on_err_then : {T E : Type 0} {P Q : Type 0} (r : Result T E) → OnErr r P → (P → Q) → OnErr r Q
on_err_then (Ok x) p f = tt
on_err_then (Err e) p f = f p

pub invariant_of-pass : goal.invariant_of-pass
invariant_of-pass g c =
    let i = c.pass.inside in
    let s = c.settle.ensures in (
      either c.tick-told.result c.tick-told.ensures.told c.tick-told.ensures.refused
          (told_stands i.config.value i.logs c.tick-told.new.pass c.settle.new.pass i.ended i.going i.waits c.pass.invariant.0 s.seen.1 s.stepped s.kept s.paid c.args.t)
          (partly_stands i.config.value i.logs c.tick-told.new.pass c.settle.new.pass i.ended i.going i.waits c.pass.invariant.0 s.seen.1 s.stepped s.kept s.paid c.args.t),
      c.pass.invariant.1,
    )

pub returns-clause-stood : goal.returns-clause-stood
returns-clause-stood g c = subst Stands c.pass.view_is c.pass.invariant.0

pub returns-clause-told : goal.returns-clause-told
returns-clause-told g c =
    let i = c.pass.inside in
    let old : PassView = pass_of i.config.value i.logs i.ended i.going i.waits in
    on_ok_weaker c.tick-told.result
    (λ told. subst (λ (p : PassView). HasToldClock c.args.t p (record old { logs = c.settle.new.pass })) c.pass.view_is (told_clock c.args.t old c.tick-told.new.pass c.settle.new.pass c.settle.ensures.stepped told))
    c.tick-told.ensures.told

pub returns-clause-refused : goal.returns-clause-refused
returns-clause-refused g c =
    let i = c.pass.inside in
    let old : PassView = pass_of i.config.value i.logs i.ended i.going i.waits in
    on_err_then c.tick-told.result c.tick-told.ensures.refused
    (λ told. subst (λ (p : PassView). HasPartlyToldClock c.args.t p (record old { logs = c.settle.new.pass })) c.pass.view_is (partly_told c.args.t old c.tick-told.new.pass c.settle.new.pass c.settle.ensures.stepped told))
