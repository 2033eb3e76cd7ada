use Rattle.std.proofs.Common.{◌≡◌, ◌-◌, ◌<◌, ℕ, List, Option, Some, None, Err, refl, ◌∙◌, ap}
use Rattle.std.proofs.lemmas.Result.{err_from_is_err_and}
use Rattle.kbatch.specs.declared.decode.Stop.{Stop}
use Rattle.kbatch.specs.declared.decode.Stop.TheVariants.{Unread, NoMemory}
use Rattle.kbatch.specs.declared.record.Record.{Record}
use Rattle.kbatch.specs.Walk.{key_at}
use Rattle.kbatch.specs.Decode.{Decodes, body_at, record_at, list_at}
use Rattle.kbatch.proofs.ListsLoop.{all_with, list_goes_on, list_fails, list_done}
use Rattle.kbatch.proofs.decode.records.Goals as goal

no_frame : (bytes : List ℕ) → key_at bytes ≡ None → record_at bytes ≡ None
unfolding record_at
no_frame bytes none = rw none refl

no_body : (bytes body after : List ℕ) → key_at bytes ≡ Some (body, after) → body_at body ≡ None → record_at bytes ≡ None
unfolding record_at
no_body bytes body after framed none = rw (framed, none) refl

whole : (bytes body after : List ℕ) (r : Record) → key_at bytes ≡ Some (body, after) → body_at body ≡ Some r → record_at bytes ≡ Some (r, after)
unfolding record_at
whole bytes body after r framed read = rw (framed, read) refl

stopped : (stop : Stop) (count i : ℕ) (done : List Record) (bytes body after : List ℕ) (total : Option (List Record)) → i < count → key_at bytes ≡ Some (body, after) → Decodes {X = Record} (Err stop) (body_at body) → all_with record_at done (count - i) bytes ≡ total → Decodes {X = List Record} (Err stop) total
stopped Unread count i done bytes body after total lt framed read so_far =
    list_fails record_at count i done bytes total lt (no_body bytes body after framed read) so_far
stopped NoMemory count i done bytes body after total lt framed read so_far = tt

pub returns-in_default : goal.returns-in_default
returns-in_default c =
    list_fails record_at c.args.count c.loop.counter c.loop.records c.loop.rest.now (list_at record_at c.args.count c.args.bytes.now) c.loop-test.true (no_frame c.loop.rest.now c.in_default.ensures) c.loop.invariant

pub returns-in_err-record : goal.returns-in_err-record
returns-in_err-record c =
    let p = err_from_is_err_and c.from_residual.result c.from_residual.ensures.1 in
    rw (p.1 ∙ ap (λ (e : Stop). Err e) p.2) (stopped c.in_err-record.field-0.0 c.args.count c.loop.counter c.loop.records c.loop.rest.now c.in-Some.body.now c.in-Some.after.now (list_at record_at c.args.count c.args.bytes.now) c.loop-test.true c.in-Some.ensures c.in_err-record.ensures c.loop.invariant)

pub loop-preserved : goal.loop-preserved
loop-preserved c =
    let r : Record = c.in_ok-record.field-0 in
    rw c.in_ok-push.ensures.ok (list_goes_on record_at c.args.count c.loop.counter c.loop.records c.loop.rest.now (list_at record_at c.args.count c.args.bytes.now) r c.in-Some.after.now c.loop-test.true (whole c.loop.rest.now c.in-Some.body.now c.in-Some.after.now r c.in-Some.ensures c.in_ok-record.ensures) c.loop.invariant)

pub returns : goal.returns
returns c =
    list_done record_at c.args.count c.loop.counter c.loop.records c.loop.rest.now (list_at record_at c.args.count c.args.bytes.now) c.loop-test.false c.loop.invariant
