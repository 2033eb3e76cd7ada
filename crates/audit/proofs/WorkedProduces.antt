-- Produces of one batch to one partition: each has the base offset at its own place, and no other.
use Rattle.std.proofs.Common.{◌≡◌, ◌≢◌, ℕ, ◌+◌, ◌≤◌, pos, negsuc, false, List, [], ◌∷◌, ◌++◌, length, take, drop, Some, None, inl, inr, refl, sym, ap, subst, ◌∙◌, arith}
use Rattle.std.proofs.lemmas.Bool.{le-ltb}
use Rattle.std.proofs.lemmas.List.{take_at, drop_at, take_all, length-append}
use Rattle.std.specs.Prelude.{nat_lt, slice_index}
use Rattle.std.specs.Fmt.{digits}
use Rattle.hex.specs.Hex.{encode_with}
use Rattle.std.specs.List.{flat_map}
use Rattle.kbatch.specs.Batch.{IsBatch}
use Rattle.kbatch.specs.Stamp.{stamped}
use Rattle.kbatch.specs.declared.record.Record.{Record}
use Rattle.audit.specs.declared.account.Account.{Account}
use Rattle.audit.specs.declared.account.CallHow.TheVariants.{Satisfied, Cut}
use Rattle.kanswer.specs.declared.accepted.Accepted.TheVariants.{Appended}
use Rattle.kwire.specs.declared.reply.Reply.{Reply}
use Rattle.kanswer.specs.Decisions.{Decision, AskLog, Outcome, Put, append_outcome}
use Rattle.audit.specs.Fits.{IsReplyOf, HasReplies, sent}
use Rattle.audit.specs.LawfulCall.{Step, AsksLog, IsEntry, IsAccepted, IsLawfulCall, shown_as_accepted, shown_as_completed}
use Rattle.audit.specs.Histories.{clock_part, before_point}
use Rattle.kwire.specs.IsRequest.{IsRequest}
use Rattle.audit.specs.Printed.{IsPrintOf, session_text, summary_of}
use Rattle.audit.specs.Worked.{at, produce_of, replicated, replicated_call, produce_call, produced_reply, produce_transcript, swapped_print}
use Rattle.kanswer.proofs.Laws.{batch_sized}
use Rattle.audit.proofs.Prints.{print_once}
use Rattle.audit.proofs.ReplyOnce.{completed_at, replies_once}

-- what becomes of the produce that found the log end so
abbrev pub put : ℕ → ℕ → Step
put base place = record { result = Appended 0 base 1; point = Some (at 0 place) }

abbrev pub asked : ℕ → List ℕ → Decision
asked least batch = AskLog 0 (append_outcome (pos 3) least 0 1 batch)

module _ (plain batch : List ℕ) (one : Record) (is_batch : IsBatch batch (one ∷ [])) where
  abbrev account : Account
  account = replicated plain batch

  sized : (base : ℕ) → length (stamped base batch) ≡ length batch
  sized base = batch_sized batch (one ∷ []) is_batch base

  small : length batch ≤ 1048588
  small = is_batch.most

  abbrev log : List ℕ
  log = stamped 0 batch ++ stamped 1 batch

  -- ---- the first append

  first_room : (least : ℕ) → nat_lt 2 least ≡ false → append_outcome (pos 3) least 0 1 batch (before_point account (at 0 0)) ≡ record { result = Appended 0 0 1; entry = Put 1 batch }
  first_room least enough = rw (enough, le-ltb 67108864 (0 + length batch) (omega (arith, small))) refl

  first_bytes : take (length batch) (take (0 + length batch) log) ≡ stamped 0 batch
  first_bytes =
      let all : take (0 + length batch) log ≡ stamped 0 batch = take_at (stamped 0 batch) (stamped 1 batch) (0 + length batch) (omega (arith, sized 0)) in
      ap (take (length batch)) all ∙ take_all (length batch) (stamped 0 batch) (omega (arith, sized 0))

  first_entry : IsEntry account (at 0 0) (Put 1 batch)
  first_entry = ap (λ (bytes : List ℕ). record { base = 0; count = 1; bytes = bytes } ∷ []) first_bytes

  first_step : (least : ℕ) → nat_lt 2 least ≡ false → AsksLog account 0 (append_outcome (pos 3) least 0 1 batch) (put 0 0)
  first_step least enough = record {
    point = at 0 0;
    left = refl;
    there = refl;
    result = ap (λ (o : Outcome). o.result) (sym (first_room least enough));
    entry = subst (λ (o : Outcome). IsEntry account (at 0 0) o.entry) (sym (first_room least enough)) first_entry;
  }

  -- ---- the second

  second_room : append_outcome (pos 3) 0 0 1 batch (before_point account (at 0 1)) ≡ record { result = Appended 0 1 1; entry = Put 1 batch }
  second_room =
      let bytes = 0 + length (take (length batch) (take (0 + length batch) log)) in
      let long : bytes ≤ length batch = omega (arith, ap length first_bytes, sized 0) in
      rw (le-ltb 67108864 (bytes + length batch) (omega (arith, long, small))) refl

  whole_log : take (0 + length batch + length batch) log ≡ log
  whole_log = take_all (0 + length batch + length batch) log (omega (arith, length-append (stamped 0 batch) (stamped 1 batch), sized 0, sized 1))

  second_front : take (length batch) (take (0 + length batch + length batch) log) ≡ take (length batch) (take (0 + length batch) log)
  second_front = ap (take (length batch)) whole_log ∙ take_at (stamped 0 batch) (stamped 1 batch) (length batch) (sized 0) ∙ sym first_bytes

  second_bytes : take (length batch) (drop (length batch) (take (0 + length batch + length batch) log)) ≡ stamped 1 batch
  second_bytes =
      ap (λ (bytes : List ℕ). take (length batch) (drop (length batch) bytes)) whole_log ∙ ap (take (length batch)) (drop_at (stamped 0 batch) (stamped 1 batch) (length batch) (sized 0))
      ∙ take_all (length batch) (stamped 1 batch) (omega (arith, sized 1))

  second_entry : IsEntry account (at 0 1) (Put 1 batch)
  second_entry =
      ap (λ (bytes : List ℕ). record { base = 0; count = 1; bytes = bytes } ∷ record { base = 1; count = 1; bytes = take (length batch) (drop (length batch) (take (0 + length batch + length batch) log)) } ∷ []) second_front
      ∙ ap (λ (bytes : List ℕ). record { base = 0; count = 1; bytes = take (length batch) (take (0 + length batch) log) } ∷ record { base = 1; count = 1; bytes = bytes } ∷ []) second_bytes

  second_step : AsksLog account 0 (append_outcome (pos 3) 0 0 1 batch) (put 1 1)
  second_step = record {
    point = at 0 1;
    left = refl;
    there = refl;
    result = ap (λ (o : Outcome). o.result) (sym second_room);
    entry = subst (λ (o : Outcome). IsEntry account (at 0 1) o.entry) (sym second_room) second_entry;
  }

  -- ---- their replies

  pub first_reply : IsRequest plain (produce_of (pos 1) batch) → IsReplyOf (replicated plain batch) (produce_call plain 0) (produced_reply 0)
  first_reply is = record {
    whole = record {
      request = produce_of (pos 1) batch;
      steps = put 0 0 ∷ [];
      looks = [];
      accepted = record { asked = is; decisions = asked 0 batch ∷ []; decided = (inr (one ∷ [], is_batch, refl), tt); each = (first_step 0 refl, tt) };
      entries = record { points = refl; clock = refl };
    };
    shown = shown_as_accepted account (put 0 0 ∷ []);
    shows = refl;
    answered = refl;
  }

  pub second_reply : IsRequest plain (produce_of (pos 1) batch) → IsReplyOf (replicated plain batch) (produce_call plain 1) (produced_reply 1)
  second_reply is = record {
    whole = record {
      request = produce_of (pos 1) batch;
      steps = put 1 1 ∷ [];
      looks = [];
      accepted = record { asked = is; decisions = asked 0 batch ∷ []; decided = (inr (one ∷ [], is_batch, refl), tt); each = (second_step, tt) };
      entries = record { points = refl; clock = refl };
    };
    shown = shown_as_accepted account (put 1 1 ∷ []);
    shows = refl;
    answered = refl;
  }

  -- ---- the first, where it waits for the follower

  abbrev waiting : (all : List ℕ) (place : ℕ) → IsRequest all (produce_of (negsuc 0) batch) → IsAccepted (replicated plain batch) (replicated_call all place)
  waiting all place is = record {
    request = produce_of (negsuc 0) batch;
    steps = put 0 0 ∷ [];
    looks = at clock_part 0 ∷ [];
    accepted = record { asked = is; decisions = asked 1 batch ∷ []; decided = (inr (one ∷ [], is_batch, refl), tt); each = (first_step 1 refl, tt) };
    entries = record { points = refl; clock = (at clock_part 0, refl, (refl, 0, 0, refl)) };
  }

  pub replicated_lawful : (all : List ℕ) → IsRequest all (produce_of (negsuc 0) batch) → IsLawfulCall (replicated plain batch) (replicated_call all 4)
  replicated_lawful all is = inl (record { whole = waiting all 4 is; completed = (refl, ((refl, 0, 0, refl), tt), omega arith) })

  pub alone_unlawful : (all : List ℕ) → IsRequest all (produce_of (negsuc 0) batch) → IsLawfulCall (replicated plain batch) (replicated_call all 2) → ⊥
  alone_unlawful all is lawful =
      elim lawful [
        | inl w ↦ let few : 1 ≤ 0 = (completed_at (replicated plain batch) (replicated_call all 2) (waiting all 2 is) w).2 in absurd (omega (arith, few))
        | inr c ↦ let how : Satisfied 0 ≡ Cut None = c.how in absurd cc
      ]

  pub replicated_reply : (all : List ℕ) → IsRequest all (produce_of (negsuc 0) batch) → IsReplyOf (replicated plain batch) (replicated_call all 4) (produced_reply 0)
  replicated_reply all is = record { whole = waiting all 4 is; shown = shown_as_completed account (put 0 0 ∷ []) (at 0 4 ∷ []); shows = refl; answered = refl }

  -- ---- neither has the other's

  both_replies : IsRequest plain (produce_of (pos 1) batch) → HasReplies (replicated plain batch) (produce_call plain 0 ∷ produce_call plain 1 ∷ []) (produced_reply 0 ∷ produced_reply 1 ∷ [])
  both_replies is = (first_reply is, (second_reply is, tt))

  other_bytes : sent (produced_reply 0 ∷ produced_reply 1 ∷ []) ≡ sent (produced_reply 1 ∷ produced_reply 0 ∷ []) → ⊥
  other_bytes e = let offset : 0 ≡ 1 = ap (λ (bytes : List ℕ). slice_index bytes 32) e in absurd (omega (arith, offset))

  pub swapped_sent : (replies : List Reply) → IsRequest plain (produce_of (pos 1) batch) → HasReplies (replicated plain batch) (produce_call plain 0 ∷ produce_call plain 1 ∷ []) replies
      → sent replies ≢ sent (produced_reply 1 ∷ produced_reply 0 ∷ [])
  swapped_sent replies is h e =
      other_bytes (ap sent (replies_once account (produce_call plain 0 ∷ produce_call plain 1 ∷ []) (produced_reply 0 ∷ produced_reply 1 ∷ []) replies (both_replies is) h) ∙ e)

  abbrev right_print : List ℕ
  right_print =
      flat_map session_text ((produce_transcript plain 0, produced_reply 0 ∷ []) ∷ (produce_transcript plain 1, produced_reply 1 ∷ []) ∷ []) ++ summary_of (replicated plain batch)

  print_is : IsRequest plain (produce_of (pos 1) batch) → IsPrintOf (replicated plain batch) right_print
  print_is is = record {
    replies = (produced_reply 0 ∷ []) ∷ (produced_reply 1 ∷ []) ∷ [];
    sent = ((first_reply is, tt), ((second_reply is, tt), tt));
    spelled = refl;
  }

  other_text : right_print ≡ swapped_print plain batch → ⊥
  unfolding digits encode_with
  other_text e = let digit : 48 ≡ 49 = ap (λ (text : List ℕ). slice_index text 73) e in absurd (omega (arith, digit))

  pub swapped_printed : IsRequest plain (produce_of (pos 1) batch) → IsPrintOf (replicated plain batch) (swapped_print plain batch) → ⊥
  swapped_printed is p = other_text (print_once (replicated plain batch) right_print (swapped_print plain batch) (print_is is) p)
