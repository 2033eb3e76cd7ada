use Rattle.std.proofs.Common.{ℕ, Some, Ok, Err, refl, sym, subst}
use Rattle.shared_broker.specs.Calling.{HasHandledAs}
use Rattle.shared_broker.specs.declared.calling.Became.{Became}
use Rattle.shared_broker.specs.declared.calling.Handled.{Handled}
use Rattle.shared_broker.specs.Passes.{PassView}
use Rattle.audit.specs.declared.account.Call.{Call}
use Rattle.shared_broker.specs.Serving.{IsWritten, fresh_call}
use Rattle.shared_broker.proofs.LastCalls.{lent_last, set_back}
use Rattle.shared_broker.proofs.ServedPass.{IsServed, pass_going, pass_handled, pass_stands, pass_waits, served_as, served_last, written_there}
use Rattle.shared_broker.proofs.broker.Broker.serve.Goals as goal

pub serve_call-requires-clause-written : goal.serve_call-requires-clause-written
serve_call-requires-clause-written g c =
    let a = c.args in
    let v : PassView = record { config = c.pass.inside.config.value; logs = c.pass.inside.logs; ended = c.pass.inside.ended; going = c.pass.inside.going; waits = c.pass.inside.waits } in
    let r = c.requires.written in
    let found = lent_last v.going c.in-Some.going c.in-Some.is r.2.transcript (fresh_call r.0) (pass_going a.self.now r.0 a.current.now.request.now a.current.now.seq r.1 v a.pass.now c.pass.view_is r.2 c.requires.made)
    c.as_mut_slice.result.now c.as_mut_slice.ensures.value c.in-Some-last_mut.call.now c.in-Some-last_mut.ensures.item.1 in (
      r.1.ended,
      r.2.transcript,
      subst (λ (k : Call). IsWritten a.self.now.config a.current.now.seq a.current.now.request.now v.logs k r.1.ended r.2.transcript) (sym found) (written_there a.self.now r.0 a.current.now.request.now a.current.now.seq r.1 v a.pass.now c.pass.view_is r.2 c.requires.made),
    )

pub invariant_of-pass : goal.invariant_of-pass
invariant_of-pass g c =
    let a = c.args in
    let v : PassView = record { config = c.pass.inside.config.value; logs = c.pass.inside.logs; ended = c.pass.inside.ended; going = c.pass.inside.going; waits = c.pass.inside.waits } in
    let r = c.requires.written in (
      pass_stands a.self.now r.0 a.current.now.request.now a.current.now.seq r.1 v a.pass.now c.pass.view_is r.2 c.requires.made a.current.now.is_sent c.serve_call.new.logs (Some (set_back c.in-Some.going c.as_mut_slice.result.now c.serve_call.new.call)) (Ok (Became.Answered c.in-Ok-Answered.reply)) (served_as a.current.now.is_sent a.self.now a.current.now.seq a.current.now.request.now v c.serve_call.new.logs (Some (set_back c.in-Some.going c.as_mut_slice.result.now c.serve_call.new.call)) c.in-Ok-Answered.field-0 (Became.Answered c.in-Ok-Answered.reply) c.in-Ok-Answered.field-0-is (subst (IsServed a.current.now.is_sent a.self.now a.current.now.seq a.current.now.request.now v c.serve_call.new.logs (Some (set_back c.in-Some.going c.as_mut_slice.result.now c.serve_call.new.call))) c.in-Ok-Answered.is (served_last a.current.now.is_sent a.self.now a.current.now.seq a.current.now.request.now v c.serve_call.new.logs c.serve_call.result c.in-Some.going c.in-Some.is c.as_mut_slice.result.now c.as_mut_slice.ensures.value c.in-Some-last_mut.call.now c.serve_call.new.call c.in-Some-last_mut.ensures.item.1 c.serve_call.ensures.served))) c.pass.inside.waits (pass_waits a.self.now r.0 a.current.now.request.now a.current.now.seq r.1 v a.pass.now c.pass.view_is r.2 c.requires.made) c.serve_call.ensures.seen,
      c.pass.invariant.1,
    )

pub returns-in-Ok-Answered : goal.returns-in-Ok-Answered
returns-in-Ok-Answered g c frame before w =
    let a = c.args in
    let v : PassView = record { config = c.pass.inside.config.value; logs = c.pass.inside.logs; ended = c.pass.inside.ended; going = c.pass.inside.going; waits = c.pass.inside.waits } in
    pass_handled a.self.now frame a.current.now.request.now a.current.now.seq before v a.pass.now c.pass.view_is w c.requires.made a.current.now.is_sent c.serve_call.new.logs (Some (set_back c.in-Some.going c.as_mut_slice.result.now c.serve_call.new.call)) (Ok (Became.Answered c.in-Ok-Answered.reply)) (served_as a.current.now.is_sent a.self.now a.current.now.seq a.current.now.request.now v c.serve_call.new.logs (Some (set_back c.in-Some.going c.as_mut_slice.result.now c.serve_call.new.call)) c.in-Ok-Answered.field-0 (Became.Answered c.in-Ok-Answered.reply) c.in-Ok-Answered.field-0-is (subst (IsServed a.current.now.is_sent a.self.now a.current.now.seq a.current.now.request.now v c.serve_call.new.logs (Some (set_back c.in-Some.going c.as_mut_slice.result.now c.serve_call.new.call))) c.in-Ok-Answered.is (served_last a.current.now.is_sent a.self.now a.current.now.seq a.current.now.request.now v c.serve_call.new.logs c.serve_call.result c.in-Some.going c.in-Some.is c.as_mut_slice.result.now c.as_mut_slice.ensures.value c.in-Some-last_mut.call.now c.serve_call.new.call c.in-Some-last_mut.ensures.item.1 c.serve_call.ensures.served))) c.pass.inside.waits (pass_waits a.self.now frame a.current.now.request.now a.current.now.seq before v a.pass.now c.pass.view_is w c.requires.made)

pub invariant_of-pass-in-Ok-Quiet : goal.invariant_of-pass-in-Ok-Quiet
invariant_of-pass-in-Ok-Quiet g c =
    let a = c.args in
    let v : PassView = record { config = c.pass.inside.config.value; logs = c.pass.inside.logs; ended = c.pass.inside.ended; going = c.pass.inside.going; waits = c.pass.inside.waits } in
    let r = c.requires.written in (
      pass_stands a.self.now r.0 a.current.now.request.now a.current.now.seq r.1 v a.pass.now c.pass.view_is r.2 c.requires.made a.current.now.is_sent c.serve_call.new.logs (Some (set_back c.in-Some.going c.as_mut_slice.result.now c.serve_call.new.call)) (Ok Became.Quiet) (served_as a.current.now.is_sent a.self.now a.current.now.seq a.current.now.request.now v c.serve_call.new.logs (Some (set_back c.in-Some.going c.as_mut_slice.result.now c.serve_call.new.call)) c.in-Ok-Quiet.field-0 Became.Quiet c.in-Ok-Quiet.field-0-is (subst (IsServed a.current.now.is_sent a.self.now a.current.now.seq a.current.now.request.now v c.serve_call.new.logs (Some (set_back c.in-Some.going c.as_mut_slice.result.now c.serve_call.new.call))) c.in-Ok-Quiet.is (served_last a.current.now.is_sent a.self.now a.current.now.seq a.current.now.request.now v c.serve_call.new.logs c.serve_call.result c.in-Some.going c.in-Some.is c.as_mut_slice.result.now c.as_mut_slice.ensures.value c.in-Some-last_mut.call.now c.serve_call.new.call c.in-Some-last_mut.ensures.item.1 c.serve_call.ensures.served))) c.pass.inside.waits (pass_waits a.self.now r.0 a.current.now.request.now a.current.now.seq r.1 v a.pass.now c.pass.view_is r.2 c.requires.made) c.serve_call.ensures.seen,
      c.pass.invariant.1,
    )

pub returns-in-Ok-Quiet : goal.returns-in-Ok-Quiet
returns-in-Ok-Quiet g c frame before w =
    let a = c.args in
    let v : PassView = record { config = c.pass.inside.config.value; logs = c.pass.inside.logs; ended = c.pass.inside.ended; going = c.pass.inside.going; waits = c.pass.inside.waits } in
    pass_handled a.self.now frame a.current.now.request.now a.current.now.seq before v a.pass.now c.pass.view_is w c.requires.made a.current.now.is_sent c.serve_call.new.logs (Some (set_back c.in-Some.going c.as_mut_slice.result.now c.serve_call.new.call)) (Ok Became.Quiet) (served_as a.current.now.is_sent a.self.now a.current.now.seq a.current.now.request.now v c.serve_call.new.logs (Some (set_back c.in-Some.going c.as_mut_slice.result.now c.serve_call.new.call)) c.in-Ok-Quiet.field-0 Became.Quiet c.in-Ok-Quiet.field-0-is (subst (IsServed a.current.now.is_sent a.self.now a.current.now.seq a.current.now.request.now v c.serve_call.new.logs (Some (set_back c.in-Some.going c.as_mut_slice.result.now c.serve_call.new.call))) c.in-Ok-Quiet.is (served_last a.current.now.is_sent a.self.now a.current.now.seq a.current.now.request.now v c.serve_call.new.logs c.serve_call.result c.in-Some.going c.in-Some.is c.as_mut_slice.result.now c.as_mut_slice.ensures.value c.in-Some-last_mut.call.now c.serve_call.new.call c.in-Some-last_mut.ensures.item.1 c.serve_call.ensures.served))) c.pass.inside.waits (pass_waits a.self.now frame a.current.now.request.now a.current.now.seq before v a.pass.now c.pass.view_is w c.requires.made)

pub invariant_of-pass-in-Ok-Parked : goal.invariant_of-pass-in-Ok-Parked
invariant_of-pass-in-Ok-Parked g c =
    let a = c.args in
    let v : PassView = record { config = c.pass.inside.config.value; logs = c.pass.inside.logs; ended = c.pass.inside.ended; going = c.pass.inside.going; waits = c.pass.inside.waits } in
    let r = c.requires.written in (
      pass_stands a.self.now r.0 a.current.now.request.now a.current.now.seq r.1 v a.pass.now c.pass.view_is r.2 c.requires.made a.current.now.is_sent c.serve_call.new.logs (Some (set_back c.in-Some.going c.as_mut_slice.result.now c.serve_call.new.call)) (Ok (Became.Parked c.in-Ok-Parked.parked)) (served_as a.current.now.is_sent a.self.now a.current.now.seq a.current.now.request.now v c.serve_call.new.logs (Some (set_back c.in-Some.going c.as_mut_slice.result.now c.serve_call.new.call)) c.in-Ok-Parked.field-0 (Became.Parked c.in-Ok-Parked.parked) c.in-Ok-Parked.field-0-is (subst (IsServed a.current.now.is_sent a.self.now a.current.now.seq a.current.now.request.now v c.serve_call.new.logs (Some (set_back c.in-Some.going c.as_mut_slice.result.now c.serve_call.new.call))) c.in-Ok-Parked.is (served_last a.current.now.is_sent a.self.now a.current.now.seq a.current.now.request.now v c.serve_call.new.logs c.serve_call.result c.in-Some.going c.in-Some.is c.as_mut_slice.result.now c.as_mut_slice.ensures.value c.in-Some-last_mut.call.now c.serve_call.new.call c.in-Some-last_mut.ensures.item.1 c.serve_call.ensures.served))) (Some c.in-Ok-Parked.parked) refl c.serve_call.ensures.seen,
      c.pass.invariant.1,
    )

pub returns-in-Ok-Parked : goal.returns-in-Ok-Parked
returns-in-Ok-Parked g c frame before w =
    let a = c.args in
    let v : PassView = record { config = c.pass.inside.config.value; logs = c.pass.inside.logs; ended = c.pass.inside.ended; going = c.pass.inside.going; waits = c.pass.inside.waits } in
    let end : PassView = record v { logs = c.serve_call.new.logs; going = (Some (set_back c.in-Some.going c.as_mut_slice.result.now c.serve_call.new.call)); waits = Some c.in-Ok-Parked.parked } in
    subst (λ (t : ℕ). HasHandledAs a.current.now.is_sent frame (Handled.Parked t) before end) (sym c.deadline-deadline.ensures) (pass_handled a.self.now frame a.current.now.request.now a.current.now.seq before v a.pass.now c.pass.view_is w c.requires.made a.current.now.is_sent c.serve_call.new.logs (Some (set_back c.in-Some.going c.as_mut_slice.result.now c.serve_call.new.call)) (Ok (Became.Parked c.in-Ok-Parked.parked)) (served_as a.current.now.is_sent a.self.now a.current.now.seq a.current.now.request.now v c.serve_call.new.logs (Some (set_back c.in-Some.going c.as_mut_slice.result.now c.serve_call.new.call)) c.in-Ok-Parked.field-0 (Became.Parked c.in-Ok-Parked.parked) c.in-Ok-Parked.field-0-is (subst (IsServed a.current.now.is_sent a.self.now a.current.now.seq a.current.now.request.now v c.serve_call.new.logs (Some (set_back c.in-Some.going c.as_mut_slice.result.now c.serve_call.new.call))) c.in-Ok-Parked.is (served_last a.current.now.is_sent a.self.now a.current.now.seq a.current.now.request.now v c.serve_call.new.logs c.serve_call.result c.in-Some.going c.in-Some.is c.as_mut_slice.result.now c.as_mut_slice.ensures.value c.in-Some-last_mut.call.now c.serve_call.new.call c.in-Some-last_mut.ensures.item.1 c.serve_call.ensures.served))) (Some c.in-Ok-Parked.parked) refl)

pub invariant_of-pass-in-Err : goal.invariant_of-pass-in-Err
invariant_of-pass-in-Err g c =
    let a = c.args in
    let v : PassView = record { config = c.pass.inside.config.value; logs = c.pass.inside.logs; ended = c.pass.inside.ended; going = c.pass.inside.going; waits = c.pass.inside.waits } in
    let r = c.requires.written in (
      pass_stands a.self.now r.0 a.current.now.request.now a.current.now.seq r.1 v a.pass.now c.pass.view_is r.2 c.requires.made a.current.now.is_sent c.serve_call.new.logs (Some (set_back c.in-Some.going c.as_mut_slice.result.now c.serve_call.new.call)) (Err c.in-Err.field-0) (served_last a.current.now.is_sent a.self.now a.current.now.seq a.current.now.request.now v c.serve_call.new.logs (Err c.in-Err.field-0) c.in-Some.going c.in-Some.is c.as_mut_slice.result.now c.as_mut_slice.ensures.value c.in-Some-last_mut.call.now c.serve_call.new.call c.in-Some-last_mut.ensures.item.1 c.in-Err.ensures.served) c.pass.inside.waits (pass_waits a.self.now r.0 a.current.now.request.now a.current.now.seq r.1 v a.pass.now c.pass.view_is r.2 c.requires.made) c.serve_call.ensures.seen,
      c.pass.invariant.1,
    )

pub returns-in-Err : goal.returns-in-Err
returns-in-Err g c frame before w =
    let a = c.args in
    let v : PassView = record { config = c.pass.inside.config.value; logs = c.pass.inside.logs; ended = c.pass.inside.ended; going = c.pass.inside.going; waits = c.pass.inside.waits } in
    pass_handled a.self.now frame a.current.now.request.now a.current.now.seq before v a.pass.now c.pass.view_is w c.requires.made a.current.now.is_sent c.serve_call.new.logs (Some (set_back c.in-Some.going c.as_mut_slice.result.now c.serve_call.new.call)) (Err c.in-Err.field-0) (served_last a.current.now.is_sent a.self.now a.current.now.seq a.current.now.request.now v c.serve_call.new.logs (Err c.in-Err.field-0) c.in-Some.going c.in-Some.is c.as_mut_slice.result.now c.as_mut_slice.ensures.value c.in-Some-last_mut.call.now c.serve_call.new.call c.in-Some-last_mut.ensures.item.1 c.in-Err.ensures.served) c.pass.inside.waits (pass_waits a.self.now frame a.current.now.request.now a.current.now.seq before v a.pass.now c.pass.view_is w c.requires.made)
