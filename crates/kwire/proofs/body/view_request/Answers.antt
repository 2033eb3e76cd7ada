use Rattle.std.proofs.Common.{◌≡◌, ◌≢◌, ◌∙◌, ℤ, true, false, refl, sym, subst}
use Rattle.kwire.specs.Apis.{is_read_in}
use Rattle.kwire.specs.declared.frame.WireFault.TheVariants.{NoMemory as OutOfMemory}
use Rattle.kbytes.specs.Octets.{IsBytes}
use Rattle.kwire.specs.IsRequest.{IsRequest, named_of}
use Rattle.kwire.specs.Refusal.{IsRefused}
use Rattle.kwire.specs.Reading.{IsReadBody, IsNoBody}
use Rattle.std.specs.Prelude.{AllPairs}
use Rattle.kwire.proofs.BodyLaws.{HeadRead, head_read, head_refused, head_known, no_api, no_version, other_version, not_versions, key_back, version_back, fault_is, err_with, if_err, if_ok, read_whole, read_refused}
use Rattle.kwire.proofs.body.view_request.Goals as goal
use Rattle.kwire.proofs.body.view_request.Goals.{In_ok-head}

pub returns-in_err-head-clause-refused : goal.returns-in_err-head-clause-refused
returns-in_err-head-clause-refused c =
    let why = c.in_err-head.field-0.0 in
    err_with c.from_residual.result why (λ w. w ≢ OutOfMemory → IsRefused c.args.body.now w) c.from_residual.ensures.1
    (λ other. head_refused c.args.body.now c.new-reader.result why (λ i. (c.type_inv.body i).fits) c.new-reader.ensures.bytes c.new-reader.ensures.at (fault_is _ why c.in_err-head.ensures other))

abbrev the_head : (c : In_ok-head) → HeadRead c.args.body.now c.in_ok-head.head.key c.in_ok-head.head.version c.in_ok-head.head.correlation c.read_head.new.reader
the_head c = head_read c.args.body.now c.new-reader.result c.read_head.new.reader c.in_ok-head.head.key c.in_ok-head.head.version c.in_ok-head.head.correlation (λ i. (c.type_inv.body i).fits) c.new-reader.ensures.bytes c.new-reader.ensures.at c.in_ok-head.ensures

pub returns-in_default-clause-refused : goal.returns-in_default-clause-refused
returns-in_default-clause-refused c = λ other. no_api c.args.body.now c.in_ok-head.head.key c.in_ok-head.head.version c.in_ok-head.head.correlation c.read_head.new.reader (the_head (goal.at.returns-in_default-clause-refused c).In_ok-head) (c.in_default.ensures.none refl)

pub returns-then-is_read_in-clause-request : goal.returns-then-is_read_in-clause-request
returns-then-is_read_in-clause-request c =
    let body = c.args.body.now in
    let key = c.in_ok-head.head.key in
    let version = c.in_ok-head.head.version in
    let correlation = c.in_ok-head.head.correlation in
    let d = c.read_head.new.reader in
    let api = c.in-Some.api in
    let bytes : IsBytes body = λ i. (c.type_inv.body i).fits in
    let h = the_head (goal.at.returns-then-is_read_in-clause-request c).In_ok-head in
    let key_is = sym (key_back body key version correlation d h) ∙ c.in-Some.ensures.some in
    let read_in = subst (λ (v : ℤ). is_read_in api v ≡ true) (version_back body key version correlation d h) (sym c.is_read_in.ensures ∙ c.if-is_read_in.true) in
    let known = head_known body key version correlation d api h key_is in
    if_ok c.read_body.result (IsReadBody api version d) (λ request. request.correlation ≡ correlation) (λ request. AllPairs (λ a b. a ≢ b) (named_of request.ask)) (IsRequest body) (λ request read same once. read_whole body bytes api version read_in correlation d known request same read once)
    c.read_body.ensures.read c.read_body.ensures.correlation c.read_body.ensures.once

pub returns-then-is_read_in-clause-refused : goal.returns-then-is_read_in-clause-refused
returns-then-is_read_in-clause-refused c =
    let body = c.args.body.now in
    let key = c.in_ok-head.head.key in
    let version = c.in_ok-head.head.version in
    let correlation = c.in_ok-head.head.correlation in
    let d = c.read_head.new.reader in
    let api = c.in-Some.api in
    let bytes : IsBytes body = λ i. (c.type_inv.body i).fits in
    let h = the_head (goal.at.returns-then-is_read_in-clause-refused c).In_ok-head in
    let key_is = sym (key_back body key version correlation d h) ∙ c.in-Some.ensures.some in
    let read_in = subst (λ (v : ℤ). is_read_in api v ≡ true) (version_back body key version correlation d h) (sym c.is_read_in.ensures ∙ c.if-is_read_in.true) in
    let known = head_known body key version correlation d api h key_is in
    if_err c.read_body.result (λ why. why ≢ OutOfMemory → IsNoBody api version correlation d why) (λ why. why ≢ OutOfMemory → IsRefused body why) (λ why refused other. read_refused body bytes api version read_in correlation d known why (refused other)) c.read_body.ensures.refused

pub returns-in-Versions-clause-request : goal.returns-in-Versions-clause-request
returns-in-Versions-clause-request c =
    let body = c.args.body.now in
    let key = c.in_ok-head.head.key in
    let version = c.in_ok-head.head.version in
    let correlation = c.in_ok-head.head.correlation in
    let d = c.read_head.new.reader in
    let api = c.in-Some.api in
    let h = the_head (goal.at.returns-in-Versions-clause-request c).In_ok-head in
    let other = subst (λ (v : ℤ). is_read_in api v ≡ false) (version_back body key version correlation d h) (sym c.is_read_in.ensures ∙ c.if-is_read_in.false) in
    other_version body key version correlation d api h c.in-Some.ensures.some other c.in-Versions.is

pub returns-in-Produce : goal.returns-in-Produce
returns-in-Produce c =
    let body = c.args.body.now in
    let key = c.in_ok-head.head.key in
    let version = c.in_ok-head.head.version in
    let correlation = c.in_ok-head.head.correlation in
    let d = c.read_head.new.reader in
    let api = c.in-Some.api in
    let h = the_head (goal.at.returns-in-Produce c).In_ok-head in
    let other = subst (λ (v : ℤ). is_read_in api v ≡ false) (version_back body key version correlation d h) (sym c.is_read_in.ensures ∙ c.if-is_read_in.false) in
    record { request = tt; refused = λ _. no_version body key version correlation d api h c.in-Some.ensures.some other (not_versions api c.in-Produce.is) }
