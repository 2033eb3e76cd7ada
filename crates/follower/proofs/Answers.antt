-- What the reply of a broker to a copy's request comes to: it is refused with a code, or brings batches that follow on at the copy's end.
use Rattle.std.proofs.Common.{◌≡◌, ℕ, ◌<◌, ◌≤◌, ◌^◌, ℤ, pos, negsuc, List, [], ◌∷◌, ◌++◌, length, take, drop, inl, inr, refl, sym, ap, subst, ◌∙◌, append_assoc, append-nil, arith, length-append}
use Rattle.std.specs.Prelude.{FitsSigned}
use Rattle.std.specs.Int.{w16, w32, w64}
use Rattle.std.proofs.lemmas.List.{append_cancel_left, take_at, drop_at}
use Rattle.kbytes.specs.Field.{fields, integer}
use Rattle.kbytes.proofs.Laws.{wide_32}
use Rattle.kwire.specs.Configuration.{Configuration}
use Rattle.kwire.specs.Frames.{IsFrameBody, framed}
use Rattle.kwire.specs.IsSpellable.{IsSpellable}
use Rattle.kwire.specs.Spelling.{spelling}
use Rattle.kwire.specs.declared.reply.FetchedPart.{FetchedPart}
use Rattle.kwire.specs.declared.reply.FetchedTopic.{FetchedTopic}
use Rattle.kwire.specs.declared.reply.Told.TheVariants.{Fetched}
use Rattle.kwire.specs.declared.request.FetchPart.{FetchPart}
use Rattle.kwire.proofs.Laws.{fetched_spellable}
use Rattle.kanswer.specs.Answer.{answer, batches_as, fetched_as, first_budget, read_of}
use Rattle.kanswer.specs.declared.accepted.Accepted.{Accepted}
use Rattle.kanswer.specs.declared.accepted.Accepted.TheVariants.{Refused as RefusedWith, Seen}
use Rattle.partlog.specs.Batches.{StoredBatch}
use Rattle.partlog.specs.State.{PartState}
use Rattle.partlog.specs.Taken.{joined as stored_bytes}
use Rattle.follower.specs.Asking.{IsAskable, request_of}
use Rattle.follower.specs.Copies.{Copy}
use Rattle.follower.specs.CopyOf.{IsRunOf}
use Rattle.follower.specs.FromLawful.{MayBeRefused}
use Rattle.follower.specs.Logs.{joined}
use Rattle.follower.specs.ReplyBody.{IsReplyBody, reply_fields}
use Rattle.follower.specs.Verdict.{Brings, IsRefused, Reaches, asked_by}
use Rattle.follower.specs.declared.fault.TakeFault.TheVariants.{Refused}
use Rattle.follower.proofs.Fields.{same_integer}
use Rattle.follower.proofs.Stored.{AreStored, follow_rows, joined_rows, rows}

-- ---- one frame at the front

pub first_frame : (a b rest more : List ℕ) → IsFrameBody a → length b < 2 ^ 31 → framed a ++ rest ≡ framed b ++ more → (a ≡ b) × (rest ≡ more)
first_frame a b rest more small short same =
    let head : List ℕ = integer w32 (pos (length a)) in
    let other : List ℕ = integer w32 (pos (length b)) in
    let both : head ++ (a ++ rest) ≡ other ++ (b ++ more) = sym (append_assoc head a rest) ∙ same ∙ append_assoc other b more in
    let sizes : pos (length a) ≡ pos (length b) =
    same_integer w32 wide_32 (pos (length a)) (pos (length b)) (a ++ rest) (b ++ more) (record { sfits = omega (arith, small) }) (record { sfits = omega (arith, short) }) both in
    let size : length a ≡ length b = cc in
    let behind : a ++ rest ≡ b ++ more = append_cancel_left head (a ++ rest) (b ++ more) (both ∙ ap (λ (z : ℤ). integer w32 z ++ (b ++ more)) (sym sizes)) in (
      sym (take_at a rest (length b) size) ∙ ap (take (length b)) behind ∙ take_at b more (length b) refl,
      sym (drop_at a rest (length b) size) ∙ ap (drop (length b)) behind ∙ drop_at b more (length b) refl,
    )

-- ---- the reply's fields

abbrev pub asked_part : Copy → FetchPart
asked_part copy = record { index = copy.index; offset = pos copy.end; log_start = negsuc 0; most = pos 1048576 }

-- what is told in a version that doesn't tell where the log starts
abbrev pub told_as : Copy → Accepted → PartState → FetchedPart
told_as copy result state =
    record (fetched_as (asked_part copy) result state (batches_as copy.id (asked_part copy) result state (first_budget (pos 1048576)))) { start = negsuc 0 }

abbrev pub body_of : Copy → ℤ → FetchedPart → List ℕ
body_of copy correlation told = fields (reply_fields (asked_by copy correlation) told)

pub spelled_as : (config : Configuration) (copy : Copy) (correlation : ℤ) (result : Accepted) (state : PartState)
    → spelling (answer config (request_of copy correlation) (record { result = result; state = state } ∷ [])) ≡ framed (body_of copy correlation (told_as copy result state))
spelled_as config copy correlation (RefusedWith code) state = refl
spelled_as config copy correlation result state = refl

-- what is told is in range
record IsTellable (copy : Copy) (told : FetchedPart) : Type 0 where
  index : told.index ≡ copy.index
  start : told.start ≡ negsuc 0
  code : FitsSigned w16 told.code
  high : FitsSigned w64 told.high
  records : length told.records ≤ 67108864

reply_of : (copy : Copy) (correlation : ℤ) (told : FetchedPart) → IsAskable copy correlation → IsTellable copy told → IsReplyBody (asked_by copy correlation) (body_of copy correlation told) told
reply_of copy correlation told ask is = record {
  index = is.index;
  start = is.start;
  fits = (
    ask.number,
    (
      record { sfits = omega arith },
      (
        omega arith,
        (omega (arith, ask.named), (omega arith, (subst (FitsSigned w32) (sym is.index) ask.index, (is.code, (is.high, (is.high, (tt, (omega (arith, is.records), tt)))))))),
      ),
    ),
  );
  spelled = refl;
}

pub body_short : (copy : Copy) (correlation : ℤ) (told : FetchedPart) → IsAskable copy correlation → length told.records ≤ 67108864 → length (body_of copy correlation told) < 2 ^ 31
body_short copy correlation told ask few =
    let one : FetchedTopic = record { name = copy.topic; parts = told ∷ [] } in
    let is : IsSpellable (record { correlation = correlation; told = Fetched (pos 4) (pos 0) (one ∷ []) }) =
    fetched_spellable correlation (pos 4) (pos 0) (one ∷ []) (omega arith) (record { name = omega (arith, ask.named); few = omega arith; parts = (omega (arith, few), tt) }, tt)
    (omega (arith, few, ap (λ (bytes : List ℕ). length bytes) (append-nil (told.records ++ [])), ap (λ (bytes : List ℕ). length bytes) (append-nil told.records))) in
    omega (arith, is.short, length-append (integer w32 (pos (length (body_of copy correlation told)))) (body_of copy correlation told), wide_32.len (length (body_of copy correlation told)))

-- ---- what it comes to

-- these codes are numbers of 16 bits, and no code of success
small_code : (code : ℤ) → MayBeRefused (Refused code) → FitsSigned w16 code × (code ≡ pos 0 → ⊥)
small_code code (inl one) = (subst (FitsSigned w16) (sym one) (record { sfits = omega arith }), λ none. let no : pos 1 ≡ pos 0 = sym one ∙ none in absurd cc)
small_code code (inr (inl three)) = (subst (FitsSigned w16) (sym three) (record { sfits = omega arith }), λ none. let no : pos 3 ≡ pos 0 = sym three ∙ none in absurd cc)
small_code code (inr (inr nine)) = (subst (FitsSigned w16) (sym nine) (record { sfits = omega arith }), λ none. let no : pos 9 ≡ pos 0 = sym nine ∙ none in absurd cc)

pub refused_so : (copy : Copy) (correlation code : ℤ) (state : PartState) → IsAskable copy correlation → MayBeRefused (Refused code) → IsRefused copy correlation (body_of copy correlation (told_as copy (RefusedWith code) state)) (Refused code)
refused_so copy correlation code state ask may =
    let small = small_code code may in
    let reply = reply_of copy correlation (told_as copy (RefusedWith code) state) ask (record { index = refl; start = refl; code = small.0; high = record { sfits = omega arith }; records = omega arith }) in
    (told_as copy (RefusedWith code) state, reply, refl, small.1)

-- batches that are read, which are some of these
pub record IsRead (bs run : List StoredBatch) (from last : ℕ) : Type 0 where
  pub before : List (List ℕ)
  pub after : List (List ℕ)
  pub parts : rows bs ≡ before ++ (rows run ++ after)
  pub end : ℕ
  pub each : AreStored from run end
  pub within : end ≤ last

run_short : (before run after : List (List ℕ)) → length (joined run) ≤ length (joined (before ++ (run ++ after)))
run_short [] [] after = omega arith
run_short [] (r ∷ run) after = omega (arith, run_short [] run after, length-append r (joined run), length-append r (joined (run ++ after)))
run_short (b ∷ before) run after = omega (arith, run_short before run after, length-append b (joined (before ++ (run ++ after))))

-- some of these batches are brought, up to an end no later than this
pub record HasBrought (bs : List StoredBatch) (copy : Copy) (correlation : ℤ) (body : List ℕ) (last : ℕ) : Type 0 where
  pub brings : Brings copy correlation body
  pub end : ℕ
  pub reached : Reaches copy.end brings.told.records end []
  pub run : IsRunOf (rows bs) brings.told.records
  pub within : end ≤ last
  pub short : length body < 2 ^ 31

pub seen_so : (bs run : List StoredBatch) (copy : Copy) (correlation : ℤ) (last part start : ℕ) (state : PartState) → IsAskable copy correlation → length (joined (rows bs)) ≤ 67108864 → state.high ≤ 67108864
    → read_of copy.id (asked_part copy) start state (first_budget (pos 1048576)) ≡ run → IsRead bs run copy.end last → HasBrought bs copy correlation (body_of copy correlation (told_as copy (Seen part start) state)) last
seen_so bs run copy correlation last part start state ask few short was read =
    let told : FetchedPart = told_as copy (Seen part start) state in
    let bytes : told.records ≡ joined (rows run) = ap stored_bytes was ∙ joined_rows run in
    let within : length (joined (rows run)) ≤ length (joined (rows bs)) =
    subst (λ (l : List (List ℕ)). length (joined (rows run)) ≤ length (joined l)) (sym read.parts) (run_short read.before (rows run) read.after) in
    let size : length told.records ≤ 67108864 = omega (arith, ap (λ (b : List ℕ). length b) bytes, within, few) in
    let reply = reply_of copy correlation told ask (record { index = refl; start = refl; code = record { sfits = omega arith }; high = record { sfits = omega (arith, short) }; records = size }) in
    record {
      brings = record { told = told; reply = reply; fine = refl };
      end = read.end;
      reached = record { batches = rows run; each = follow_rows copy.end read.end run read.each; parts = bytes ∙ sym (append-nil (joined (rows run))) };
      run = record { before = read.before; run = rows run; after = read.after; parts = read.parts; bytes = bytes };
      within = read.within;
      short = body_short copy correlation told ask size;
    }
