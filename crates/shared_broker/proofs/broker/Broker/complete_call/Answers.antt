use Rattle.std.proofs.Common.{◌≡◌, ℕ, List, refl, sym, subst}
use Rattle.audit.specs.declared.account.Call.{Call}
use Rattle.kanswer.specs.Results.{parts_asked}
use Rattle.kwire.specs.IsRequest.{IsRequest}
use Rattle.audit.specs.broker.Sound.{AllBelow}
use Rattle.shared_broker.specs.Serving.{HasFinished, IsLastKept, finished_as}
use Rattle.shared_broker.proofs.KeptCalls.{finished_kept, kept_became, kept_cut, kept_listed, kept_sits, kept_there}
use Rattle.shared_broker.proofs.broker.Broker.complete_call.Goals as goal
use Rattle.shared_broker.proofs.broker.Broker.complete_call.Goals.{in-Produce-1, in-Fetch-1, in-Metadata+in-Some-1, in-Metadata+in-None-1, in-Versions-1}

pub returns-in_default-clause-finished : goal.returns-in_default-clause-finished
returns-in_default-clause-finished g c =
    let a = c.args in
    (kept_cut a.self.now.config a.seq a.won.now.parked.now a.logs.now a.call.now c.requires.paid a.won.now.done.by, refl)

pub complete-requires-clause-there : goal.complete-requires-clause-there
complete-requires-clause-there g c =
    let a = c.args in
    let was = c.requires.waits in
    subst (λ n. AllBelow n (parts_asked a.won.now.parked.now.accepted)) c.requires.size (kept_there a.self.now.config a.seq a.won.now.parked.now a.logs.now a.call.now was.0 was.1 was.2)

pub complete-requires-clause-listed : goal.complete-requires-clause-listed
complete-requires-clause-listed g c =
    let a = c.args in
    let was = c.requires.waits in
    let asked = subst (λ (body : List ℕ). IsRequest body c.in-Ok.request) c.as_slice.ensures c.in-Ok.ensures.request in
    kept_listed a.self.now.config a.seq a.won.now.parked.now a.logs.now a.call.now was.0 was.1 was.2 c.in-Ok.request asked

pub complete-requires-clause-became : goal.complete-requires-clause-became
complete-requires-clause-became g c =
    let a = c.args in
    let was = c.requires.waits in
    let asked = subst (λ (body : List ℕ). IsRequest body c.in-Ok.request) c.as_slice.ensures c.in-Ok.ensures.request in
    kept_became a.self.now.config a.seq a.won.now.parked.now a.logs.now a.call.now was.0 was.1 was.2 c.in-Ok.request asked

pub complete-requires-clause-waits : goal.complete-requires-clause-waits
complete-requires-clause-waits g c =
    let a = c.args in
    let was = c.requires.waits in
    let asked = subst (λ (body : List ℕ). IsRequest body c.in-Ok.request) c.as_slice.ensures c.in-Ok.ensures.request in
    (a.call.now, was.0, was.1, kept_sits a.self.now.config a.seq a.won.now.parked.now a.logs.now a.call.now was.0 was.1 was.2 c.in-Ok.request asked)

pub returns-clause-finished : goal.returns-clause-finished
returns-clause-finished g c =
    let a = c.args in
    let asked = subst (λ (body : List ℕ). IsRequest body c.in-Ok.request) c.as_slice.ensures c.in-Ok.ensures.request in
    let made = finished_kept a.self.now.config a.seq a.won.now.parked.now a.logs.now a.call.now c.in-Ok.request asked a.won.now.done c.complete.new.logs (finished_as a.call.now c.complete.new.finish c.complete.new.how) a.won.now.is_sent c.complete.result (c.complete.ensures.finished a.call.now) in
    let at : (after : Call) → after ≡ finished_as a.call.now c.complete.new.finish c.complete.new.how
    → HasFinished a.won.now.is_sent a.self.now.config a.seq a.won.now.done (IsLastKept a.self.now.config a.seq a.won.now.parked.now a.logs.now a.call.now) c.complete.result a.logs.now c.complete.new.logs a.call.now after =
    λ after is. subst (λ (k : Call). HasFinished a.won.now.is_sent a.self.now.config a.seq a.won.now.done (IsLastKept a.self.now.config a.seq a.won.now.parked.now a.logs.now a.call.now) c.complete.result a.logs.now c.complete.new.logs a.call.now k) (sym is) made in
    elim c.match-request.branch [
      | in-Produce-1 w ↦ at c.match-request.call w.call-is
      | in-Fetch-1 w ↦ at c.match-request.call w.call-is
      | in-Metadata+in-Some-1 w ↦ at c.match-request.call w.call-is
      | in-Metadata+in-None-1 w ↦ at c.match-request.call w.call-is
      | in-Versions-1 w ↦ at c.match-request.call w.call-is
    ]
