use Rattle.std.specs.Prelude.{negsuc}
use Rattle.std.proofs.Common.{◌≡◌, ◌+◌, ◌<◌, ◌≤◌, ℕ, [], ◌++◌, length, sym, ap, subst, ◌∙◌, arith, max, min}
use Rattle.std.specs.Int.{w32, w64}
use Rattle.std.proofs.lemmas.Int.{to_z-of_z}
use Rattle.kwire.specs.declared.reply.FetchedPart.{FetchedPart}
use Rattle.follower.specs.Copies.{Copy}
use Rattle.follower.specs.Kept.{IsKept}
use Rattle.follower.specs.ReplyBody.{IsReplyBody}
use Rattle.follower.specs.Verdict.{Brings, HasTaken, IsRefused, Reaches, asked_by, at_least_zero}
use Rattle.partlog.specs.declared.part_log.TheConstants.{MOST_LOG_BYTES}
use Rattle.follower.proofs.Taking.{brings_of, kept_on, stuck_refused}
use Rattle.follower.proofs.replica.Replica.examine.Goals as goal

pub returns-in-Err-check_batches-clause-refused : goal.returns-in-Err-check_batches-clause-refused
returns-in-Err-check_batches-clause-refused c =
    let copy : Copy = record { topic = c.self.inside.topic; index = c.self.inside.index; id = c.self.inside.id; log = c.self.inside.log; end = c.self.inside.end; high = c.self.inside.high } in
    let told : FetchedPart = record { index = c.told.inside.index; code = c.told.inside.code; high = c.told.inside.high; start = negsuc 0; records = c.told.inside.records.now } in
    let reply : IsReplyBody (asked_by copy c.args.correlation) c.args.body.now told =
    subst (IsReplyBody (asked_by copy c.args.correlation) c.args.body.now) (sym c.told.view_is)
    (rw (to_z-of_z w32 c.args.correlation c.ranges.correlation, c.as_slice.ensures, to_z-of_z w32 c.self.inside.index c.self.invariant.index) at c.in-Ok.ensures.told) in
    let b = brings_of copy c.args.correlation c.args.body.now told reply c.if-told-ne-NONE.false in
    subst (λ (k : Copy). IsRefused k c.args.correlation c.args.body.now c.in-Err-check_batches.fault) c.self.view_is
    (stuck_refused copy c.args.correlation c.args.body.now b c.in-Err-check_batches.fault c.in-Err-check_batches.ensures.stuck)

pub returns-then-told-len-clause-refused : goal.returns-then-told-len-clause-refused
returns-then-told-len-clause-refused c =
    let copy : Copy = record { topic = c.self.inside.topic; index = c.self.inside.index; id = c.self.inside.id; log = c.self.inside.log; end = c.self.inside.end; high = c.self.inside.high } in
    let told : FetchedPart = record { index = c.told.inside.index; code = c.told.inside.code; high = c.told.inside.high; start = negsuc 0; records = c.told.inside.records.now } in
    let reply : IsReplyBody (asked_by copy c.args.correlation) c.args.body.now told =
    subst (IsReplyBody (asked_by copy c.args.correlation) c.args.body.now) (sym c.told.view_is)
    (rw (to_z-of_z w32 c.args.correlation c.ranges.correlation, c.as_slice.ensures, to_z-of_z w32 c.self.inside.index c.self.invariant.index) at c.in-Ok.ensures.told) in
    let b = brings_of copy c.args.correlation c.args.body.now told reply c.if-told-ne-NONE.false in
    let reached = c.in-Ok-check_batches.ensures.batches in
    subst (λ (k : Copy). (x : Brings k c.args.correlation c.args.body.now) × (e : ℕ) × Reaches k.end x.told.records e [] × (MOST_LOG_BYTES < length k.log + length x.told.records)) c.self.view_is
    (b, c.in-Ok-check_batches.checked.end, reached.reached, omega (arith, c.if-told-len.true, c.len.ensures, c.self.invariant.most))

pub returns-clause-brought : goal.returns-clause-brought
returns-clause-brought c =
    let copy : Copy = record { topic = c.self.inside.topic; index = c.self.inside.index; id = c.self.inside.id; log = c.self.inside.log; end = c.self.inside.end; high = c.self.inside.high } in
    let told : FetchedPart = record { index = c.told.inside.index; code = c.told.inside.code; high = c.told.inside.high; start = negsuc 0; records = c.told.inside.records.now } in
    let reply : IsReplyBody (asked_by copy c.args.correlation) c.args.body.now told =
    subst (IsReplyBody (asked_by copy c.args.correlation) c.args.body.now) (sym c.told.view_is)
    (rw (to_z-of_z w32 c.args.correlation c.ranges.correlation, c.as_slice.ensures, to_z-of_z w32 c.self.inside.index c.self.invariant.index) at c.in-Ok.ensures.told) in
    let b = brings_of copy c.args.correlation c.args.body.now told reply c.if-told-ne-NONE.false in
    let reached = c.in-Ok-check_batches.ensures.batches in
    let few : length copy.log + length told.records ≤ MOST_LOG_BYTES = omega (arith, c.if-told-len.false, c.len.ensures, c.self.invariant.most) in
    let high : c.max.result ≡ max copy.high (min (at_least_zero told.high) c.in-Ok-check_batches.checked.end) =
    c.max.ensures ∙ ap (max copy.high) (c.min.ensures ∙ ap (λ (n : ℕ). min n c.in-Ok-check_batches.checked.end) (c.at_least_zero.ensures ∙ ap at_least_zero (to_z-of_z w64 told.high reply.fits.1.1.1.1.1.1.1.0))) in
    subst (λ (k : Copy). HasTaken k c.args.correlation c.args.body.now c.in-Ok-check_batches.checked.count (record k { log = k.log ++ told.records; end = c.in-Ok-check_batches.checked.end; high = c.max.result })) c.self.view_is
    (record {
      brings = b;
      end = c.in-Ok-check_batches.checked.end;
      reached = reached.reached;
      few = few;
      count_is = reached.count_is;
      new_is = ap (λ (h : ℕ). record copy { log = copy.log ++ told.records; end = c.in-Ok-check_batches.checked.end; high = h }) high;
    })

pub returns-clause-kept : goal.returns-clause-kept
returns-clause-kept c =
    let copy : Copy = record { topic = c.self.inside.topic; index = c.self.inside.index; id = c.self.inside.id; log = c.self.inside.log; end = c.self.inside.end; high = c.self.inside.high } in
    let told : FetchedPart = record { index = c.told.inside.index; code = c.told.inside.code; high = c.told.inside.high; start = negsuc 0; records = c.told.inside.records.now } in
    let reply : IsReplyBody (asked_by copy c.args.correlation) c.args.body.now told =
    subst (IsReplyBody (asked_by copy c.args.correlation) c.args.body.now) (sym c.told.view_is)
    (rw (to_z-of_z w32 c.args.correlation c.ranges.correlation, c.as_slice.ensures, to_z-of_z w32 c.self.inside.index c.self.invariant.index) at c.in-Ok.ensures.told) in
    let b = brings_of copy c.args.correlation c.args.body.now told reply c.if-told-ne-NONE.false in
    let reached = c.in-Ok-check_batches.ensures.batches in
    let few : length copy.log + length told.records ≤ MOST_LOG_BYTES = omega (arith, c.if-told-len.false, c.len.ensures, c.self.invariant.most) in
    let high : c.max.result ≡ max copy.high (min (at_least_zero told.high) c.in-Ok-check_batches.checked.end) =
    c.max.ensures ∙ ap (max copy.high) (c.min.ensures ∙ ap (λ (n : ℕ). min n c.in-Ok-check_batches.checked.end) (c.at_least_zero.ensures ∙ ap at_least_zero (to_z-of_z w64 told.high reply.fits.1.1.1.1.1.1.1.0))) in
    subst (λ (k : Copy). IsKept (record k { log = k.log ++ told.records; end = c.in-Ok-check_batches.checked.end; high = c.max.result })) c.self.view_is
    (subst (λ (h : ℕ). IsKept (record copy { log = copy.log ++ told.records; end = c.in-Ok-check_batches.checked.end; high = h })) (sym high)
    (kept_on copy told.records c.in-Ok-check_batches.checked.count c.in-Ok-check_batches.checked.end (at_least_zero told.high) c.self.invariant reached few))
