-- A link that is served and retired: the lane's book has it.
use Rattle.std.proofs.Common.{◌≡◌, ℕ, ◌+◌, ◌≤◌, ◌==◌, max, List, [], ◌∷◌, ◌++◌, Option, Some, None, IfSome, sym, ap, subst, ◌∙◌, arith, inl, inr}
use Rattle.std.proofs.Math.Nat.{max-le}
use Rattle.std.specs.List.{AllZip}
use Rattle.audit.specs.declared.account.SessionEnd.{SessionEnd}
use Rattle.audit.specs.declared.account.Transcript.{Transcript}
use Rattle.audit.proofs.broker.Laws.{carried_on}
use Rattle.audit.specs.broker.GoesOn.{Carried}
use Rattle.kwire.specs.Configuration.{Configuration}
use Rattle.link_lanes.specs.books.LaneBook.{IsLaneBook, IsTranscriptOf, LaneBook, retired_numbers}
use Rattle.link_lanes.specs.books.LinkSession.{IsSessionOver}
use Rattle.link_lanes.specs.books.Serving.{IsFreshLink, served_after, shut_link}
use Rattle.link_lanes.specs.books.Shown.{ShownLink}
use Rattle.link_lanes.specs.books.Times.{one_where, times}
use Rattle.link_lanes.proofs.books.Counting.{map_append, times_push}
use Rattle.link_lanes.proofs.books.Over.{transcript_over}
use Rattle.audit.proofs.Laws.{zip_push}
use Rattle.session.specs.Flows.{LinkView}
use Rattle.session.specs.Onwards.{HasGoneOn, latest}
use Rattle.session.specs.Served.{HasServed, IsKept, ended_so}
use Rattle.shared_broker.specs.Passes.{BrokerView, PassView}

-- ---- what is known of a transcript stays known as the pass sees more

module _ (told : ℕ) (old new : PassView) (on : HasGoneOn told old new) where
  over_on : (link : ShownLink) (t : Transcript) → Carried old.config old.logs.parts old.logs.clock (λ account. IsSessionOver account link t)
      → Carried new.config new.logs.parts new.logs.clock (λ account. IsSessionOver account link t)
  over_on link t h =
      let same : new.config ≡ old.config = ap (λ (b : BrokerView). b.config) on.made in
      subst (λ (config : Configuration). Carried config new.logs.parts new.logs.clock (λ account. IsSessionOver account link t)) (sym same)
      (carried_on old.config old.logs.parts new.logs.parts old.logs.clock new.logs.clock (λ account. IsSessionOver account link t) on.grown h)

  transcript_on : (one : ℕ × ShownLink) (t : Transcript) → IsTranscriptOf old one t → IsTranscriptOf new one t
  transcript_on one t h = record { number = h.number; ended = h.ended; told = h.told; over = over_on one.1 t h.over }

  transcripts_on : (all : List (ℕ × ShownLink)) (ts : List Transcript) → AllZip (IsTranscriptOf old) all ts → AllZip (IsTranscriptOf new) all ts
  transcripts_on [] [] h = tt
  transcripts_on [] (t ∷ ts) h = absurd h
  transcripts_on (one ∷ all) [] h = absurd h
  transcripts_on (one ∷ all) (t ∷ ts) h = (transcript_on one t h.0, transcripts_on all ts h.1)

-- ---- the transcript was ended

some_is_none : {A : Type 0} (x : A) → Some x ≡ None → ⊥
some_is_none {A} x same = subst (λ (o : Option A). IfSome o (λ _. ⊥) → ⊥) same (λ f. f) tt

kept_ended : (answer end : SessionEnd) (t : Transcript) (old new : PassView) → IsKept answer end t old new → new.going ≡ None → new.ended ≡ old.ended ++ ended_so end t ∷ []
kept_ended answer end t old new (inl kept) none = kept.1
kept_ended answer end t old new (inr still) none = absurd (some_is_none t (sym still.2 ∙ none))

-- ---- the book

ticked_within : (a b told most : ℕ) → b ≤ max a most → a ≤ told → told ≤ most → b ≤ most
ticked_within a b told most within le le' =
    let least : max a most ≤ most = max-le (omega (arith, le, le')) (omega arith) in omega (arith, within, least)

module _ (broker : BrokerView) (book : LaneBook) (n told : ℕ) (answer : SessionEnd) (new : PassView) (before now : LinkView)
    (is : IsLaneBook broker (n ∷ []) book) (later : book.told ≤ told) (fresh : IsFreshLink before) (h : HasServed n answer book.pass new before now)
    (on : HasGoneOn told book.pass new) (quiet : new.waits ≡ None) (idle : new.going ≡ None) where
  abbrev link : ShownLink
  link = shut_link now

  abbrev after : LaneBook
  after = served_after book new told n link

  numbers_after : retired_numbers after ≡ retired_numbers book ++ n ∷ []
  numbers_after = map_append (λ (one : ℕ × ShownLink). one.0) book.retired ((n, link) ∷ [])

  balance : (m : ℕ) → times m book.accepted + times m book.taken ≡ times m book.put + times m (retired_numbers after) + 0
  balance m =
      let pushed : times m (retired_numbers after) ≡ times m (retired_numbers book) + one_where (n == m) =
      ap (times m) numbers_after ∙ times_push m (retired_numbers book) n in
      omega (arith, pushed, is.balanced m)

  pub booked : IsLaneBook broker [] after
  booked = record {
    made = on.made ∙ is.made;
    idle = idle;
    quiet = quiet;
    ticked = ticked_within (latest book.pass) (latest new) book.told told on.ticked is.ticked later;
    served = subst (AllZip (IsTranscriptOf new) (book.retired ++ (n, link) ∷ [])) (sym (kept_ended answer h.end h.transcript book.pass new h.kept idle))
        (zip_push (IsTranscriptOf new) book.retired book.pass.ended (n, link) (ended_so h.end h.transcript)
        (transcripts_on told book.pass new on book.retired book.pass.ended is.served)
        (transcript_over n answer book.pass new before now fresh h));
    balanced = balance;
  }
