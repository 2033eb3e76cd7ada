-- The entry at a place of a history, put behind the front before it, gives the next front.
use Rattle.std.proofs.Common.{◌≡◌, ℕ, ◌+◌, ◌-◌, ◌<◌, ◌≤◌, List, [], ◌∷◌, ◌++◌, length, take, drop, get_or, Some, refl, sym, ap, subst, ◌∙◌, arith}
use Rattle.std.specs.Prelude.{slice_get}
use Rattle.std.proofs.lemmas.Option.{slice_get-get_or}
use Rattle.std.proofs.lemmas.List.{take_all}
use Rattle.std.proofs.Math.Seq.{take-add}
use Rattle.kbatch.specs.Batch.{IsBatch}
use Rattle.kbatch.specs.Head.{Head, head_bytes}
use Rattle.kbatch.specs.Kept.{count_of}
use Rattle.kbatch.specs.Record.{records_from}
use Rattle.kbatch.specs.Stamp.{stamped}
use Rattle.kbatch.proofs.Laws.{batch_stamped, batch_count}
use Rattle.partlog.specs.declared.event.PartEvent.{PartEvent}
use Rattle.partlog.specs.declared.event.PartEvent.TheVariants.{Append}
use Rattle.partlog.specs.Added.{bytes_of, log_end_of}
use Rattle.partlog.specs.Appended.{appended}
use Rattle.partlog.specs.History.{History}
use Rattle.partlog.specs.Kept.{IsKept}
use Rattle.partlog.specs.State.{front_of}
use Rattle.partlog.proofs.Laws.{kept-end}
use Rattle.audit.specs.retelling.Playable.{IsPlayable, IsPut, put_at}
use Rattle.audit.proofs.retelling.LawfulParts.{one_more, put_long, size}

pub event_there : (es xs : List PartEvent) (place : ℕ) (d event : PartEvent) → xs ≡ es → place < length es → get_or xs place d ≡ event → slice_get es place ≡ Some event
event_there es xs place d event same lt is =
    slice_get-get_or es place d lt ∙ ap Some (ap (λ (l : List PartEvent). get_or l place d) (sym same) ∙ is)

pub cut_is : (start n len : ℕ) (xs ys : List ℕ) → start ≡ n → xs ≡ ys → take ((start + len) - start) (drop start xs) ≡ take len (drop n ys)
cut_is start n len xs ys same are =
    let long : (start + len) - start ≡ len = omega arith in
    ap (λ (m : ℕ). take m (drop start xs)) long ∙ ap (λ (s : ℕ). take len (drop s xs)) same ∙ ap (λ (l : List ℕ). take len (drop n l)) are

-- to stamp again is to change nothing
head_again : (base : ℕ) (head : Head) (rest : List ℕ) → stamped base (stamped base (head_bytes head ++ rest)) ≡ stamped base (head_bytes head ++ rest)
unfolding head_bytes
head_again base head rest = refl

module _ (h : History) (playable : IsPlayable h) (k by seq count len : ℕ) (at : slice_get h.events k ≡ Some (Append by seq count len)) (kept : IsKept (front_of h k).log (front_of h k).events) where
  pub put : IsPut h k count len
  put = playable.each k (Append by seq count len) at

  abbrev base : ℕ
  base = log_end_of (take k h.events)

  abbrev bytes : List ℕ
  bytes = put_at h k len

  pub put_batch : IsBatch bytes put.records
  put_batch =
      let end = kept-end (front_of h k).log (take k h.events) kept in
      subst (λ (bs : List ℕ). IsBatch bs put.records) (sym put.stands) (batch_stamped base put.batch put.records (omega (arith, end)) put.is)

  pub put_room : bytes_of (take k h.events) + length bytes ≤ 67108864
  put_room = omega (arith, put.room, put_long h playable.whole k by seq count len at)

  again : stamped base bytes ≡ bytes
  again =
      let b = put.is in
      ap (stamped base) put.stands ∙ ap (λ (bs : List ℕ). stamped base (stamped base bs)) b.parts ∙ head_again base b.head (records_from 0 put.records)
      ∙ ap (stamped base) (sym b.parts) ∙ sym put.stands

  pub put_grown : appended (front_of h k) by seq bytes ≡ front_of h (k + 1)
  put_grown =
      let e : PartEvent = Append by seq count len in
      let n : ℕ = bytes_of (take k h.events) in
      let made : List ℕ → List PartEvent → History = λ log events. record { log = log; followers = h.followers; events = events } in
      let counted : count_of bytes ≡ count = batch_count bytes put.records put_batch ∙ sym put.counted in
      let long = put_long h playable.whole k by seq count len at in
      let log : take n h.log ++ stamped base bytes ≡ take (bytes_of (take (k + 1) h.events)) h.log =
      ap (λ (bs : List ℕ). take n h.log ++ bs) again ∙ sym (take-add n len h.log) ∙ ap (λ (m : ℕ). take m h.log) (sym (size h playable.whole k e at)) in
      let events : take k h.events ++ Append by seq (count_of bytes) (length bytes) ∷ [] ≡ take (k + 1) h.events =
      ap (λ (c : ℕ). take k h.events ++ Append by seq c (length bytes) ∷ []) counted ∙ ap (λ (l : ℕ). take k h.events ++ Append by seq count l ∷ []) long ∙ sym (one_more h.events k e at) in
      ap (λ (l : List ℕ). made l (take k h.events ++ Append by seq (count_of bytes) (length bytes) ∷ [])) log ∙ ap (made (take (bytes_of (take (k + 1) h.events)) h.log)) events

-- a front of everything is the whole
pub whole_front : (h : History) (k : ℕ) → length h.log ≡ bytes_of h.events → length h.events ≤ k → front_of h k ≡ h
whole_front h k whole le =
    let made : List ℕ → List PartEvent → History = λ log events. record { log = log; followers = h.followers; events = events } in
    ap (λ (es : List PartEvent). made (take (bytes_of es) h.log) es) (take_all k h.events le)
    ∙ ap (λ (l : List ℕ). made l h.events) (take_all (bytes_of h.events) h.log (omega (arith, whole)))
