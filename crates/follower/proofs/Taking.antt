-- A copy that takes what a reply brings, and one that doesn't.
use Rattle.std.proofs.Common.{◌≡◌, ℕ, ◌+◌, ◌≤◌, ℤ, pos, negsuc, List, [], ◌∷◌, ◌++◌, length, Result, Err, sym, ap, subst, ◌∙◌, append-nil, arith, length-append, max, min}
use Rattle.std.specs.Prelude.{◌↔◌, FitsSigned, IsErrOf}
use Rattle.std.specs.Int.{w16, cast_unsigned}
use Rattle.std.proofs.lemmas.Grind.{flat_map-append}
use Rattle.kbatch.specs.Kept.{count_of}
use Rattle.partlog.specs.declared.part_log.TheConstants.{MOST_LOG_BYTES}
use Rattle.follower.specs.Checking.{HasReached, IsStuck}
use Rattle.follower.specs.Copies.{Copy}
use Rattle.follower.specs.Kept.{IsKept}
use Rattle.follower.specs.Logs.{FollowOn, joined}
use Rattle.follower.specs.Verdict.{Brings, HasTaken, IsElsewhere, IsRefused, Reaches, asked_by}
use Rattle.follower.specs.ReplyBody.{IsReplyBody}
use Rattle.kwire.specs.declared.reply.FetchedPart.{FetchedPart}
use Rattle.follower.specs.declared.fault.TakeFault.{TakeFault}
use Rattle.follower.specs.declared.fault.TakeFault.TheVariants.{BadReply, Refused, BadBatch, Gap, ReplicaFull, NoMemory}
use Rattle.follower.proofs.Verdicts.{one_refusal, taken_or_refused}

-- ---- batches after batches

pub follow_append : (from mid end : ℕ) (xs ys : List (List ℕ)) → FollowOn from xs mid → FollowOn mid ys end → FollowOn from (xs ++ ys) end
follow_append from mid end [] ys p q = subst (λ (n : ℕ). FollowOn n ys end) (sym p) q
follow_append from mid end (x ∷ xs) ys p q = (p.0, p.1, follow_append (from + count_of x) mid end xs ys p.2 q)

pub joined_append : (xs ys : List (List ℕ)) → joined (xs ++ ys) ≡ joined xs ++ joined ys
joined_append xs ys = flat_map-append (λ (b : List ℕ). b) xs ys

pub follow_grows : (from end : ℕ) (batches : List (List ℕ)) → FollowOn from batches end → from ≤ end
follow_grows from end [] all = omega (arith, all)
follow_grows from end (batch ∷ batches) all = omega (arith, follow_grows (from + count_of batch) end batches all.2)

-- a copy goes on with whole batches
pub kept_on : (copy : Copy) (records : List ℕ) (count end told : ℕ) → IsKept copy → HasReached copy.end records count end [] → length copy.log + length records ≤ MOST_LOG_BYTES
    → IsKept (record copy { log = copy.log ++ records; end = end; high = max copy.high (min told end) })
kept_on copy records count end told kept reached few =
    let way = reached.reached in
    let parts : records ≡ joined way.batches = way.parts ∙ append-nil (joined way.batches) in
    record {
      named = kept.named;
      numbered = kept.numbered;
      fits = kept.fits;
      index = kept.index;
      batches = record {
        batches = kept.batches.batches ++ way.batches;
        bytes = ap (λ (bytes : List ℕ). bytes ++ records) kept.batches.bytes ∙ ap (λ (bytes : List ℕ). joined kept.batches.batches ++ bytes) parts ∙ sym (joined_append kept.batches.batches way.batches);
        each = follow_append 0 copy.end end kept.batches.batches way.batches kept.batches.each way.each;
      };
      most = omega (arith, few, length-append copy.log records);
      dense = omega (arith, kept.dense, reached.dense, length-append copy.log records);
      high = omega (arith, kept.high, follow_grows copy.end end way.batches way.each);
    }

-- ---- what is refused

pub stuck_refused : (copy : Copy) (correlation : ℤ) (body : List ℕ) (b : Brings copy correlation body) (f : TakeFault) → IsStuck copy.end b.told.records (length body) f → IsRefused copy correlation body f
stuck_refused copy correlation body b (BadReply at) s = absurd s.why
stuck_refused copy correlation body b (Refused code) s = absurd s.why
stuck_refused copy correlation body b (BadBatch at why) s = (b, s.end, s.rest, s.reached, s.some, s.why.1, omega (arith, s.why.0, s.place_is))
stuck_refused copy correlation body b (Gap kept found) s =
    (b, s.rest, subst (λ (n : ℕ). Reaches copy.end b.told.records n s.rest) (sym s.why.0) s.reached, subst (λ (n : ℕ). IsElsewhere n s.rest found) (sym s.why.0) s.why.1)
stuck_refused copy correlation body b ReplicaFull s = absurd s.why
stuck_refused copy correlation body b NoMemory s = absurd s.why

-- ---- each refusal comes exactly where it applies

abbrev refused_with : {A : Type 0} → TakeFault → Result A TakeFault
refused_with f = Err f

pub refused_exactly : {A : Type 0} (copy : Copy) (correlation : ℤ) (body : List ℕ) (result : Result A TakeFault) (is f : TakeFault) → result ≡ Err is → IsRefused copy correlation body is
    → IsErrOf result f ↔ IsRefused copy correlation body f
refused_exactly {A} copy correlation body result is f came why = (
  λ told. let both : refused_with {A = A} is ≡ refused_with f = sym came ∙ told in let same : is ≡ f = cc in subst (IsRefused copy correlation body) same why,
  λ other. came ∙ ap (refused_with {A = A}) (one_refusal copy correlation body is f why other),
)

-- ---- what was told

pub zero_code : (code : ℤ) → FitsSigned w16 code → cast_unsigned w16 code ≡ 0 → code ≡ pos 0
zero_code (pos n) fits is = ap pos is
zero_code (negsuc n) fits is = absurd (omega (arith, fits.sfits, is))

abbrev pub brings_of : (copy : Copy) (correlation : ℤ) (body : List ℕ) (told : FetchedPart) → IsReplyBody (asked_by copy correlation) body told → cast_unsigned w16 told.code ≡ 0 → Brings copy correlation body
brings_of copy correlation body told reply is = record { told = told; reply = reply; fine = zero_code told.code reply.fits.1.1.1.1.1.1.0 is }

-- where it was taken, or might have been, no refusal applies
pub never_refused : {A : Type 0} (copy : Copy) (correlation : ℤ) (body : List ℕ) (count : ℕ) (new : Copy) (result : Result A TakeFault) (f : TakeFault) → HasTaken copy correlation body count new → (IsErrOf result f → ⊥)
    → IsErrOf result f ↔ IsRefused copy correlation body f
never_refused copy correlation body count new result f taken never = (λ told. absurd (never told), λ why. absurd (taken_or_refused copy correlation body count new f taken why))
