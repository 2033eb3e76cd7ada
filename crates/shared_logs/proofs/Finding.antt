-- The histories that a turn finds are the configuration's, and what came to its partition is others'.
use Rattle.std.proofs.Common.{◌≡◌, ◌≢◌, ℕ, ◌+◌, ◌<◌, List, length, map, Some, refl, sym, ap, subst, ◌∙◌, arith, inl, inr, length-append}
use Rattle.std.proofs.lemmas.List.{length-map}
use Rattle.std.proofs.lemmas.List.Sums.{sum_by_push}
use Rattle.std.specs.Prelude.{slice_get}
use Rattle.std.specs.List.{AllByRecursion}
use Rattle.partlog.specs.declared.event.PartEvent.{PartEvent}
use Rattle.partlog.specs.declared.event.PartEvent.TheVariants.{Append, Follow, Look}
use Rattle.kbatch.specs.Stamp.{stamped}
use Rattle.partlog.specs.declared.numbers.Numbers.{Numbers}
use Rattle.partlog.specs.Added.{added_bytes, log_end_of}
use Rattle.partlog.specs.History.{History}
use Rattle.partlog.specs.Looked.{looked}
use Rattle.partlog.specs.Moment.{moment_of}
use Rattle.partlog.specs.State.{PartState as State, state_of}
use Rattle.audit.specs.declared.account.Call.{Call}
use Rattle.audit.specs.declared.account.Transcript.{Transcript}
use Rattle.kbytes.proofs.Laws.{get_behind, get_set_other, get_set_same, get_there, same_or_not, some_is}
use Rattle.kanswer.specs.Decisions.{AskLog, Entry, Outcome, Put, Followed, Looked}
use Rattle.kwire.specs.Configuration.{Configuration}
use Rattle.kanswer.specs.declared.entered.Entered.{Entered}
use Rattle.audit.specs.broker.Board.{empty_history, history_at}
use Rattle.kanswer.specs.WithEntry.{entered}
use Rattle.audit.specs.broker.GoesOn.{AllWhole, IsWhole, Longer}
use Rattle.audit.specs.broker.Sound.{AreHistories}
use Rattle.audit.specs.broker.Timely.{pass_of}
use Rattle.audit.proofs.broker.Laws.{IsFair, IsSized, all_from_get, entered_followers, set_same}
use Rattle.audit.specs.broker.books.Turns.{Finds}
use Rattle.shared_logs.specs.Asked.{HasAsked, HasLooked, LeftOne}
use Rattle.shared_logs.specs.Seen.{HasSeen}
use Rattle.shared_logs.specs.Shared.{LogPassView, followers_in}
use Rattle.shared_logs.specs.Amid.{amid}
use Rattle.shared_logs.proofs.Leaving.{found_within}

-- ---- the bytes of what stood before an entry

whole_before : (h : History) (number seq t : ℕ) (entry : Entry) → IsSized entry → IsWhole (entered h number seq t entry) → IsWhole h
whole_before h number seq t (Put count batch) sized whole =
    let e : PartEvent = Append number seq count (length batch) in
    let base = log_end_of h.events in
    omega (arith, sum_by_push added_bytes h.events e, length-append h.log (stamped base batch), sized base, whole)
whole_before h number seq t (Followed replica offset) sized whole =
    let e : PartEvent = Follow number seq replica offset t in
    omega (arith, sum_by_push added_bytes h.events e, whole)
whole_before h number seq t Looked sized whole =
    let e : PartEvent = Look number seq in
    omega (arith, sum_by_push added_bytes h.events e, whole)

-- ---- one turn

module _ (config : Configuration) (part : ℕ) (old new : LogPassView) (found : List History) (left : History) (turn : LeftOne part old new found left) (before : HasSeen old) (after : HasSeen new) (inside : part < length old.parts)
    (histories : AreHistories config old.parts old.clock) (followers : left.followers ≡ (history_at found part).followers) (whole : IsWhole left → IsWhole (history_at found part)) where
  abbrev here : History
  here = history_at found part

  there : part < length found
  there = found_within part old new found left turn inside

  found_there : slice_get found part ≡ Some here
  found_there = get_there found part (empty_history 0) there

  left_there : slice_get new.parts part ≡ Some left
  left_there = ap (λ (parts : List History). slice_get parts part) turn.parts ∙ get_set_same found part left there

  same_followers : map (λ (h : History). h.followers) found ≡ map (λ (h : History). h.followers) old.parts
  same_followers =
      sym (set_same (λ (h : History). h.followers) found part here left found_there followers) ∙ sym (ap (map (λ (h : History). h.followers)) turn.parts)
      ∙ after.followers ∙ ap followers_in turn.same.made ∙ sym before.followers

  pub found_size : length found ≡ length old.parts
  found_size = sym (length-map found (λ (h : History). h.followers)) ∙ ap length same_followers ∙ length-map old.parts (λ (h : History). h.followers)

  pub found_whole : AllWhole found
  found_whole p h e = elim (same_or_not p part) [
    | inl same ↦
        let is : here ≡ h = some_is here h (sym found_there ∙ sym (ap (slice_get found) same) ∙ e) in
        subst IsWhole is (whole (after.whole part left left_there))
    | inr other ↦ after.whole p h (ap (λ (parts : List History). slice_get parts p) turn.parts ∙ get_set_other found part p left other ∙ e)
  ]

  -- what was found are histories of the configuration
  pub found_histories : AreHistories config found old.clock
  found_histories = record {
    whole = found_whole;
    few = omega (arith, histories.few, found_size);
    followers = same_followers ∙ histories.followers;
    ticks = histories.ticks;
  }

  -- ---- what came to the partition

  abbrev seen : History
  seen = history_at old.parts part

  seen_there : slice_get old.parts part ≡ Some seen
  seen_there = get_there old.parts part (empty_history 0) inside

  longer : Longer seen here
  longer =
      let l = turn.others.grown.each part seen seen_there in
      subst (Longer seen) (some_is l.0 here (sym l.1 ∙ found_there)) l.2

  others : AllByRecursion (λ event. pass_of event ≢ old.number) longer.more
  others = all_from_get (λ (event : PartEvent). pass_of event ≢ old.number) longer.more (λ i event e whose.
      let at : slice_get here.events (length seen.events + i) ≡ Some event =
      ap (λ (events : List PartEvent). slice_get events (length seen.events + i)) longer.events ∙ get_behind seen.events longer.more i ∙ e in
      let less : length seen.events + i < length seen.events = turn.others.within.entries part (length seen.events + i) event at whose in
      absurd (omega (arith, less)))

  pub found_finds : (front : List Transcript) (transcript : Transcript) (call : Call) → Finds (amid config front transcript old call) part here
  found_finds front transcript call = record {
    seen = seen;
    there = seen_there;
    longer = longer;
    others = others;
    whole = found_whole part here found_there;
  }

-- ---- of a call's turn

module _ (config : Configuration) (part seq : ℕ) (outcome : State → Outcome) (old new : LogPassView) (came : Entered) (numbers : Numbers) (h : HasAsked part seq outcome old new came numbers) (before : HasSeen old) (after : HasSeen new)
    (fair : IsFair (length old.parts) (AskLog part outcome)) (histories : AreHistories config old.parts old.clock) where
  abbrev found_here : History
  found_here = history_at h.found part

  followers_kept : h.left.followers ≡ found_here.followers
  followers_kept = ap (λ (x : History). x.followers) h.entry.history ∙ entered_followers found_here old.number seq (moment_of old.clock) (outcome (state_of found_here)).entry

  whole_here : IsWhole h.left → IsWhole found_here
  whole_here whole = whole_before found_here old.number seq (moment_of old.clock) (outcome (state_of found_here)).entry (fair.1 (state_of found_here)).0 (subst IsWhole h.entry.history whole)

  pub asked_histories : AreHistories config h.found old.clock
  asked_histories = found_histories config part old new h.found h.left h.turn before after fair.0 histories followers_kept whole_here

  pub asked_finds : (front : List Transcript) (transcript : Transcript) (call : Call) → Finds (amid config front transcript old call) part found_here
  asked_finds = found_finds config part old new h.found h.left h.turn before after fair.0 histories followers_kept whole_here

module _ (config : Configuration) (part seq gauge least : ℕ) (old new : LogPassView) (place : ℕ) (numbers : Numbers) (h : HasLooked part seq gauge least old new place numbers) (before : HasSeen old) (after : HasSeen new)
    (inside : part < length old.parts) (histories : AreHistories config old.parts old.clock) where
  pub looked_histories : AreHistories config h.found old.clock
  looked_histories = found_histories config part old new h.found (looked (history_at h.found part) old.number seq) h.turn before after inside histories refl (whole_before (history_at h.found part) old.number seq (moment_of old.clock) Looked tt)

  pub looked_finds : (front : List Transcript) (transcript : Transcript) (call : Call) → Finds (amid config front transcript old call) part (history_at h.found part)
  looked_finds = found_finds config part old new h.found (looked (history_at h.found part) old.number seq) h.turn before after inside histories refl (whole_before (history_at h.found part) old.number seq (moment_of old.clock) Looked tt)
