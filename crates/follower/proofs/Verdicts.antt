-- A reply is taken in one way, or refused for one cause, and not both.
use Rattle.std.proofs.Common.{◌≡◌, ◌≢◌, ℕ, ◌+◌, ◌≤◌, ℤ, pos, List, [], ◌∷◌, ◌++◌, length, take, drop, Bool, true, false, inl, inr, refl, sym, ap, subst, ◌∙◌, append_assoc, append-nil, arith, length-append, max, min}
use Rattle.std.specs.Prelude.{◌+ℤ◌}
use Rattle.std.specs.Int.{w32, from_be_bytes, cast_signed}
use Rattle.std.specs.Ordering.{int_eq}
use Rattle.std.proofs.lemmas.Bool.Decides.{Decides-int_eq}
use Rattle.std.proofs.lemmas.Bool.{cases_lt}
use Rattle.std.proofs.lemmas.List.{append_cancel_left, take_at, take-append-le, drop-append-le, length-drop}
use Rattle.kbatch.specs.Fault.{IsFirstFault}
use Rattle.kbatch.specs.Kept.{count_of, kept_length}
use Rattle.kbatch.specs.declared.fault.BatchFault.{BatchFault}
use Rattle.kbatch.specs.declared.fault.BatchFault.TheVariants as batch
use Rattle.kbatch.proofs.Laws.{batch_none, first_is_one}
use Rattle.kwire.specs.declared.codes.TheConstants.{NONE}
use Rattle.kwire.specs.declared.reply.FetchedPart.{FetchedPart}
use Rattle.follower.specs.Copies.{Copy}
use Rattle.follower.specs.Logs.{FollowOn, IsSomeBatch, base_of, joined}
use Rattle.follower.specs.ReplyBody.{GoesWrongAt, IsReplyBody}
use Rattle.follower.specs.Verdict.{Brings, HasTaken, IsElsewhere, IsNext, IsNoBatch, IsPiece, IsRefused, Reaches, asked_by, at_least_zero}
use Rattle.follower.specs.declared.fault.TakeFault.{TakeFault}
use Rattle.follower.specs.declared.fault.TakeFault.TheVariants.{BadReply, Refused, BadBatch, Gap, ReplicaFull, NoMemory}
use Rattle.follower.proofs.Fields.{one_place, one_told, reply_or_wrong}

-- ---- the piece at the front

pub same_piece : (bytes : List ℕ) (n m : ℕ) → IsPiece bytes n → IsPiece bytes m → n ≡ m
same_piece bytes n m p q = same_pos n m (sym p.told ∙ q.told)
  where
    same_pos : (n m : ℕ) → pos n ≡ pos m → n ≡ m
    same_pos n m e = cc

pub batch_size : (bytes : List ℕ) → IsSomeBatch bytes → 61 ≤ length bytes
batch_size bytes is =
    elim (cases_lt (length bytes) 61) [
      | inl short ↦ absurd (batch_none bytes is.0 is.1 batch.Short short)
      | inr long ↦ long
    ]

stable : (y z : ℤ) → (y ≢ z → ⊥) → y ≡ z
stable y z never = by_test (int_eq y z) refl
  where
    by_test : (b : Bool) → int_eq y z ≡ b → y ≡ z
    by_test true e = (Decides-int_eq y z).0 e
    by_test false e = absurd (never (λ same. let other : true ≡ false = sym ((Decides-int_eq y z).1 same) ∙ e in absurd cc))

-- a batch has the length that its header tells
batch_told : (bytes : List ℕ) → IsSomeBatch bytes → kept_length bytes +ℤ pos 12 ≡ pos (length bytes)
batch_told bytes is =
    stable (kept_length bytes +ℤ pos 12) (pos (length bytes)) (λ other. batch_none bytes is.0 is.1 (batch.Length (kept_length bytes)) (refl, other))

-- what a header tells is in the first twelve bytes
told_in_front : (bytes after : List ℕ) → 12 ≤ length bytes → kept_length (bytes ++ after) ≡ kept_length bytes
unfolding kept_length
told_in_front bytes after enough =
    ap (λ (t : List ℕ). cast_signed w32 (from_be_bytes w32 t))
    (ap (take 4) (drop-append-le 8 bytes after (omega (arith, enough))) ∙ take-append-le 4 (drop 8 bytes) after (omega (arith, enough, length-drop 8 bytes)))

pub batch_piece : (rest batch after : List ℕ) → rest ≡ batch ++ after → IsSomeBatch batch → IsPiece rest (length batch)
batch_piece rest batch after parts is =
    let size = batch_size batch is in
    let front : IsPiece (batch ++ after) (length batch) = record {
      head = omega (arith, size, length-append batch after);
      told = ap (λ (z : ℤ). z +ℤ pos 12) (told_in_front batch after (omega (arith, size))) ∙ batch_told batch is;
      within = omega (arith, length-append batch after);
    } in
    subst (λ (bytes : List ℕ). IsPiece bytes (length batch)) (sym parts) front

-- a batch at the front that has to be the next one
next_is_piece : (end : ℕ) (rest : List ℕ) (next : IsNext end rest) → IsPiece rest (length next.0)
next_is_piece end rest next = batch_piece rest next.0 next.1 next.2 next.3

taken_is_next : (end : ℕ) (rest : List ℕ) (next : IsNext end rest) (size : ℕ) → IsPiece rest size → take size rest ≡ next.0
taken_is_next end rest next size piece =
    let same : size ≡ length next.0 = same_piece rest size (length next.0) piece (next_is_piece end rest next) in
    ap (take size) next.2 ∙ take_at next.0 next.1 size (sym same)

pub none_in_nothing : (end : ℕ) → IsNext end [] → ⊥
none_in_nothing end next =
    let len : 0 ≡ length next.0 + length next.1 = ap (λ (bytes : List ℕ). length bytes) next.2 ∙ length-append next.0 next.1 in
    absurd (omega (arith, len, batch_size next.0 next.3))

pub no_batch_next : (end : ℕ) (rest : List ℕ) (why : BatchFault) → IsNoBatch rest why → IsNext end rest → ⊥
no_batch_next end rest why (inl none) next = none.0 (length next.0) (next_is_piece end rest next)
no_batch_next end rest why (inr some) next =
    let piece : take some.0 rest ≡ next.0 = taken_is_next end rest next some.0 some.1 in
    batch_none next.0 next.3.0 next.3.1 why (subst (λ (bytes : List ℕ). IsFirstFault bytes why) piece some.2).0

pub elsewhere_next : (end : ℕ) (rest : List ℕ) (found : ℤ) → IsElsewhere end rest found → IsNext end rest → ⊥
elsewhere_next end rest found other next = other.4 (other.3 ∙ ap base_of (taken_is_next end rest next other.0 other.1) ∙ next.4)

-- ---- batches one after the other

-- two rows of batches at the front of the same bytes are the same, or after one of them another batch may come
data Compared (xs : List (List ℕ)) (d : ℕ) (r : List ℕ) (ys : List (List ℕ)) (e : ℕ) (s : List ℕ) : Type 0 where
  alike : xs ≡ ys → d ≡ e → r ≡ s → Compared xs d r ys e s
  longer : IsNext d r → Compared xs d r ys e s
  shorter : IsNext e s → Compared xs d r ys e s

compared_on : (x y : List ℕ) (xs : List (List ℕ)) (d : ℕ) (r : List ℕ) (ys : List (List ℕ)) (e : ℕ) (s : List ℕ) → x ≡ y → Compared xs d r ys e s → Compared (x ∷ xs) d r (y ∷ ys) e s
compared_on x y xs d r ys e s same (alike all end rest) = alike (ap (λ (b : List ℕ). b ∷ xs) same ∙ ap (λ (bs : List (List ℕ)). y ∷ bs) all) end rest
compared_on x y xs d r ys e s same (longer next) = longer next
compared_on x y xs d r ys e s same (shorter next) = shorter next

compare : (from : ℕ) (xs : List (List ℕ)) (d : ℕ) (r : List ℕ) (ys : List (List ℕ)) (e : ℕ) (s : List ℕ) → FollowOn from xs d → FollowOn from ys e → joined xs ++ r ≡ joined ys ++ s → Compared xs d r ys e s
compare from [] d r [] e s p q same = alike refl (sym p ∙ q) same
compare from [] d r (y ∷ ys) e s p q same = longer (y, joined ys ++ s, same ∙ append_assoc y (joined ys) s, q.0, q.1 ∙ ap pos p)
compare from (x ∷ xs) d r [] e s p q same = shorter (x, joined xs ++ r, sym same ∙ append_assoc x (joined xs) r, p.0, p.1 ∙ ap pos q)
compare from (x ∷ xs) d r (y ∷ ys) e s p q same =
    let whole = joined (y ∷ ys) ++ s in
    let one : IsPiece whole (length x) = batch_piece whole x (joined xs ++ r) (sym same ∙ append_assoc x (joined xs) r) p.0 in
    let two : IsPiece whole (length y) = batch_piece whole y (joined ys ++ s) (append_assoc y (joined ys) s) q.0 in
    let size : length x ≡ length y = same_piece whole (length x) (length y) one two in
    let both : x ++ (joined xs ++ r) ≡ y ++ (joined ys ++ s) = sym (append_assoc x (joined xs) r) ∙ same ∙ append_assoc y (joined ys) s in
    let first : x ≡ y = sym (take_at x (joined xs ++ r) (length y) (size)) ∙ ap (take (length y)) both ∙ take_at y (joined ys ++ s) (length y) refl in
    let behind : joined xs ++ r ≡ joined ys ++ s = append_cancel_left y (joined xs ++ r) (joined ys ++ s) (ap (λ (b : List ℕ). b ++ (joined xs ++ r)) (sym first) ∙ both) in
    let others : FollowOn (from + count_of x) ys e = subst (λ (b : List ℕ). FollowOn (from + count_of b) ys e) (sym first) q.2 in
    compared_on x y xs d r ys e s first (compare (from + count_of x) xs d r ys e s p.2 others behind)

-- two rows of batches of the same bytes are the same
pub same_rows : (from : ℕ) (xs : List (List ℕ)) (d : ℕ) (ys : List (List ℕ)) (e : ℕ) → FollowOn from xs d → FollowOn from ys e → joined xs ≡ joined ys → (xs ≡ ys) × (d ≡ e)
same_rows from xs d ys e p q same =
    elim (compare from xs d [] ys e [] p q (append-nil (joined xs) ∙ same ∙ sym (append-nil (joined ys)))) [
      | alike all end rest ↦ (all, end)
      | longer next ↦ absurd (none_in_nothing d next)
      | shorter next ↦ absurd (none_in_nothing e next)
    ]

-- ---- one verdict

-- the reply brings records, of which the batches up to here may be taken, and no further one
pub record Goes (copy : Copy) (correlation : ℤ) (body : List ℕ) (end : ℕ) (rest : List ℕ) : Type 0 where
  pub told : FetchedPart
  pub reply : IsReplyBody (asked_by copy correlation) body told
  pub fine : told.code ≡ NONE
  pub reached : Reaches copy.end told.records end rest
  pub stuck : IsNext end rest → ⊥

-- as far as one can is one place
pub record IsSameWay (told other : FetchedPart) (d e : ℕ) (r s : List ℕ) (xs ys : List (List ℕ)) : Type 0 where
  pub told_is : told ≡ other
  pub end : d ≡ e
  pub rest : r ≡ s
  pub batches : xs ≡ ys

module _ (copy : Copy) (correlation : ℤ) (body : List ℕ) where
  pub one_way : (d e : ℕ) (r s : List ℕ) (g : Goes copy correlation body d r) (h : Goes copy correlation body e s) → IsSameWay g.told h.told d e r s g.reached.batches h.reached.batches
  one_way d e r s g h =
      let told = one_told (asked_by copy correlation) body g.told h.told g.reply h.reply in
      let same : joined g.reached.batches ++ r ≡ joined h.reached.batches ++ s = sym g.reached.parts ∙ ap (λ (t : FetchedPart). t.records) told ∙ h.reached.parts in
      elim (compare copy.end g.reached.batches d r h.reached.batches e s g.reached.each h.reached.each same) [
        | alike all end rest ↦ record { told_is = told; end = end; rest = rest; batches = all }
        | longer next ↦ absurd (g.stuck next)
        | shorter next ↦ absurd (h.stuck next)
      ]

  abbrev goes : (b : Brings copy correlation body) (end : ℕ) (rest : List ℕ) → Reaches copy.end b.told.records end rest → (IsNext end rest → ⊥) → Goes copy correlation body end rest
  goes b end rest reached stuck = record { told = b.told; reply = b.reply; fine = b.fine; reached = reached; stuck = stuck }

  abbrev full_goes : (b : Brings copy correlation body) (end : ℕ) → Reaches copy.end b.told.records end [] → Goes copy correlation body end []
  full_goes b end reached = goes b end [] reached (none_in_nothing end)

  -- the outcome of a reply that brings records
  one_cause : (rest : List ℕ) (why other : BatchFault) → IsNoBatch rest why → IsNoBatch rest other → why ≡ other
  one_cause rest why other (inl p) (inl q) = p.1 ∙ sym q.1
  one_cause rest why other (inl p) (inr q) = absurd (p.0 q.0 q.1)
  one_cause rest why other (inr p) (inl q) = absurd (q.0 p.0 p.1)
  one_cause rest why other (inr p) (inr q) =
      let same = same_piece rest q.0 p.0 q.1 p.1 in
      first_is_one (take p.0 rest) why other p.2 (subst (λ (n : ℕ). IsFirstFault (take n rest) other) same q.2)

  cause_or_elsewhere : (kept : ℕ) (rest : List ℕ) (why : BatchFault) (found : ℤ) → IsNoBatch rest why → IsElsewhere kept rest found → ⊥
  cause_or_elsewhere kept rest why found (inl p) q = p.0 q.0 q.1
  cause_or_elsewhere kept rest why found (inr p) q =
      let same = same_piece rest p.0 q.0 p.1 q.1 in
      batch_none (take q.0 rest) q.2.0 q.2.1 why (subst (λ (n : ℕ). IsFirstFault (take n rest) why) same p.2).0

  one_found : (kept other : ℕ) (rest : List ℕ) (found there : ℤ) → IsElsewhere kept rest found → IsElsewhere other rest there → found ≡ there
  one_found kept other rest found there p q = p.3 ∙ ap (λ (n : ℕ). base_of (take n rest)) (same_piece rest p.0 q.0 p.1 q.1) ∙ sym q.3

  nothing_elsewhere : (kept : ℕ) (found : ℤ) → IsElsewhere kept [] found → ⊥
  nothing_elsewhere kept found p = absurd (omega (arith, p.1.head))

  -- a code that refuses tells nothing else
  code_or_fine : (code : ℤ) (told other : FetchedPart) → IsReplyBody (asked_by copy correlation) body told → told.code ≡ code → code ≢ NONE → IsReplyBody (asked_by copy correlation) body other → other.code ≡ NONE → ⊥
  code_or_fine code told other p is bad q fine = bad (sym is ∙ ap (λ (t : FetchedPart). t.code) (one_told (asked_by copy correlation) body told other p q) ∙ fine)

  gap_of : (kept other : ℕ) (found there : ℤ) → kept ≡ other → found ≡ there → Gap kept found ≡ Gap other there
  gap_of kept other found there one two = ap (λ (n : ℕ). Gap n found) one ∙ ap (λ (z : ℤ). Gap other z) two

  bad_of : (at place : ℕ) (why other : BatchFault) → at ≡ place → why ≡ other → BadBatch at why ≡ BadBatch place other
  bad_of at place why other one two = ap (λ (n : ℕ). BadBatch n why) one ∙ ap (λ (f : BatchFault). BadBatch place f) two

  bad_once : (at place : ℕ) (why other : BatchFault) → IsRefused copy correlation body (BadBatch at why) → IsRefused copy correlation body (BadBatch place other) → BadBatch at why ≡ BadBatch place other
  bad_once at place why other p q =
      let way = one_way p.1 q.1 p.2 q.2 (goes p.0 p.1 p.2 p.3 (no_batch_next p.1 p.2 why p.5)) (goes q.0 q.1 q.2 q.3 (no_batch_next q.1 q.2 other q.5)) in
      let size : length p.2 ≡ length q.2 = ap (λ (bytes : List ℕ). length bytes) way.rest in
      bad_of at place why other (omega (arith, p.6, q.6, size)) (one_cause q.2 why other (subst (λ (bytes : List ℕ). IsNoBatch bytes why) way.rest p.5) q.5)

  bad_or_gap : (at kept : ℕ) (why : BatchFault) (found : ℤ) → IsRefused copy correlation body (BadBatch at why) → IsRefused copy correlation body (Gap kept found) → ⊥
  bad_or_gap at kept why found p q =
      let way = one_way p.1 kept p.2 q.1 (goes p.0 p.1 p.2 p.3 (no_batch_next p.1 p.2 why p.5)) (goes q.0 kept q.1 q.2 (elsewhere_next kept q.1 found q.3)) in
      cause_or_elsewhere kept q.1 why found (subst (λ (bytes : List ℕ). IsNoBatch bytes why) way.rest p.5) q.3

  bad_or_full : (at : ℕ) (why : BatchFault) (b : Brings copy correlation body) (end : ℕ) → IsRefused copy correlation body (BadBatch at why) → Reaches copy.end b.told.records end [] → ⊥
  bad_or_full at why b end p all =
      p.4 (one_way p.1 end p.2 [] (goes p.0 p.1 p.2 p.3 (no_batch_next p.1 p.2 why p.5)) (full_goes b end all)).rest

  gap_once : (kept other : ℕ) (found there : ℤ) → IsRefused copy correlation body (Gap kept found) → IsRefused copy correlation body (Gap other there) → Gap kept found ≡ Gap other there
  gap_once kept other found there p q =
      let way = one_way kept other p.1 q.1 (goes p.0 kept p.1 p.2 (elsewhere_next kept p.1 found p.3)) (goes q.0 other q.1 q.2 (elsewhere_next other q.1 there q.3)) in
      gap_of kept other found there way.end (one_found kept other q.1 found there (subst (λ (bytes : List ℕ). IsElsewhere kept bytes found) way.rest p.3) q.3)

  gap_or_full : (kept : ℕ) (found : ℤ) (b : Brings copy correlation body) (end : ℕ) → IsRefused copy correlation body (Gap kept found) → Reaches copy.end b.told.records end [] → ⊥
  gap_or_full kept found b end p all =
      let way = one_way kept end p.1 [] (goes p.0 kept p.1 p.2 (elsewhere_next kept p.1 found p.3)) (full_goes b end all) in
      nothing_elsewhere kept found (subst (λ (bytes : List ℕ). IsElsewhere kept bytes found) way.rest p.3)

  code_once : (code other : ℤ) → IsRefused copy correlation body (Refused code) → IsRefused copy correlation body (Refused other) → Refused code ≡ Refused other
  code_once code other p q = ap Refused (sym p.2 ∙ ap (λ (t : FetchedPart). t.code) (one_told (asked_by copy correlation) body p.0 q.0 p.1 q.1) ∙ q.2)

  no_reply : (at : ℕ) (told : FetchedPart) → GoesWrongAt (asked_by copy correlation) body at → IsReplyBody (asked_by copy correlation) body told → ⊥
  no_reply at told wrong reply = reply_or_wrong (asked_by copy correlation) body told at reply wrong

  pub one_refusal : (f g : TakeFault) → IsRefused copy correlation body f → IsRefused copy correlation body g → f ≡ g
  one_refusal (BadReply at) (BadReply place) p q = ap BadReply (one_place (asked_by copy correlation) body at place p q)
  one_refusal (BadReply at) (Refused code) p q = absurd (no_reply at q.0 p q.1)
  one_refusal (BadReply at) (BadBatch place why) p q = absurd (no_reply at q.0.told p q.0.reply)
  one_refusal (BadReply at) (Gap kept found) p q = absurd (no_reply at q.0.told p q.0.reply)
  one_refusal (BadReply at) ReplicaFull p q = absurd (no_reply at q.0.told p q.0.reply)
  one_refusal (BadReply at) NoMemory p q = absurd q
  one_refusal (Refused code) (BadReply at) p q = absurd (no_reply at p.0 q p.1)
  one_refusal (Refused code) (Refused other) p q = code_once code other p q
  one_refusal (Refused code) (BadBatch at why) p q = absurd (code_or_fine code p.0 q.0.told p.1 p.2 p.3 q.0.reply q.0.fine)
  one_refusal (Refused code) (Gap kept found) p q = absurd (code_or_fine code p.0 q.0.told p.1 p.2 p.3 q.0.reply q.0.fine)
  one_refusal (Refused code) ReplicaFull p q = absurd (code_or_fine code p.0 q.0.told p.1 p.2 p.3 q.0.reply q.0.fine)
  one_refusal (Refused code) NoMemory p q = absurd q
  one_refusal (BadBatch at why) (BadReply place) p q = absurd (no_reply place p.0.told q p.0.reply)
  one_refusal (BadBatch at why) (Refused code) p q = absurd (code_or_fine code q.0 p.0.told q.1 q.2 q.3 p.0.reply p.0.fine)
  one_refusal (BadBatch at why) (BadBatch place other) p q = bad_once at place why other p q
  one_refusal (BadBatch at why) (Gap kept found) p q = absurd (bad_or_gap at kept why found p q)
  one_refusal (BadBatch at why) ReplicaFull p q = absurd (bad_or_full at why q.0 q.1 p q.2)
  one_refusal (BadBatch at why) NoMemory p q = absurd q
  one_refusal (Gap kept found) (BadReply place) p q = absurd (no_reply place p.0.told q p.0.reply)
  one_refusal (Gap kept found) (Refused code) p q = absurd (code_or_fine code q.0 p.0.told q.1 q.2 q.3 p.0.reply p.0.fine)
  one_refusal (Gap kept found) (BadBatch at why) p q = absurd (bad_or_gap at kept why found q p)
  one_refusal (Gap kept found) (Gap other there) p q = gap_once kept other found there p q
  one_refusal (Gap kept found) ReplicaFull p q = absurd (gap_or_full kept found q.0 q.1 p q.2)
  one_refusal (Gap kept found) NoMemory p q = absurd q
  one_refusal ReplicaFull (BadReply place) p q = absurd (no_reply place p.0.told q p.0.reply)
  one_refusal ReplicaFull (Refused code) p q = absurd (code_or_fine code q.0 p.0.told q.1 q.2 q.3 p.0.reply p.0.fine)
  one_refusal ReplicaFull (BadBatch at why) p q = absurd (bad_or_full at why p.0 p.1 q p.2)
  one_refusal ReplicaFull (Gap kept found) p q = absurd (gap_or_full kept found p.0 p.1 q p.2)
  one_refusal ReplicaFull ReplicaFull p q = refl
  one_refusal ReplicaFull NoMemory p q = absurd q
  one_refusal NoMemory g p q = absurd p

  pub taken_or_refused : (count : ℕ) (new : Copy) (f : TakeFault) → HasTaken copy correlation body count new → IsRefused copy correlation body f → ⊥
  taken_or_refused count new (BadReply at) t p = no_reply at t.brings.told p t.brings.reply
  taken_or_refused count new (Refused code) t p = code_or_fine code p.0 t.brings.told p.1 p.2 p.3 t.brings.reply t.brings.fine
  taken_or_refused count new (BadBatch at why) t p = bad_or_full at why t.brings t.end p t.reached
  taken_or_refused count new (Gap kept found) t p = gap_or_full kept found t.brings t.end p t.reached
  taken_or_refused count new ReplicaFull t p =
      let way = one_way t.end p.1 [] [] (full_goes t.brings t.end t.reached) (full_goes p.0 p.1 p.2) in
      let size : length t.brings.told.records ≡ length p.0.told.records = ap (λ (told : FetchedPart). length told.records) way.told_is in
      absurd (omega (arith, t.few, p.3, size))
  taken_or_refused count new NoMemory t p = absurd p

  becomes : (told other : FetchedPart) (d e : ℕ) → told ≡ other → d ≡ e
      → record copy { log = copy.log ++ told.records; end = d; high = max copy.high (min (at_least_zero told.high) d) } ≡ record copy { log = copy.log ++ other.records; end = e; high = max copy.high (min (at_least_zero other.high) e) }
  becomes told other d e one two =
      ap (λ (t : FetchedPart). record copy { log = copy.log ++ t.records; end = d; high = max copy.high (min (at_least_zero t.high) d) }) one
      ∙ ap (λ (n : ℕ). record copy { log = copy.log ++ other.records; end = n; high = max copy.high (min (at_least_zero other.high) n) }) two

  pub one_taking : (count others : ℕ) (new other : Copy) → HasTaken copy correlation body count new → HasTaken copy correlation body others other → (count ≡ others) × (new ≡ other)
  one_taking count others new other p q =
      let way = one_way p.end q.end [] [] (full_goes p.brings p.end p.reached) (full_goes q.brings q.end q.reached) in (
        p.count_is ∙ ap (λ (bs : List (List ℕ)). length bs) way.batches ∙ sym q.count_is,
        p.new_is ∙ becomes p.brings.told q.brings.told p.end q.end way.told_is way.end ∙ sym q.new_is,
      )
