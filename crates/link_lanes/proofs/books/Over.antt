-- A session over a link, in every account that goes on from what its pass has seen.
use Rattle.std.proofs.Common.{◌≡◌, ◌≢◌, ℕ, ◌≤◌, Bool, true≢false, List, ◌++◌, Option, Some, None, IfSome, is_some, refl, sym, ap, subst, ◌∙◌, inl, inr}
use Rattle.std.specs.Io.KnownBytes.{Appends}
use Rattle.audit.specs.declared.account.Account.{Account}
use Rattle.audit.specs.declared.account.Call.{Call}
use Rattle.audit.specs.declared.account.SessionEnd.{SessionEnd}
use Rattle.audit.specs.declared.account.SessionEnd.TheVariants.{Closed, Truncated, FrameTooLong, Refused, CallsFull, ReadFault, WriteFault, NoMemory}
use Rattle.audit.specs.declared.account.Transcript.{Transcript}
use Rattle.audit.specs.Fits.{EndFits, Fits}
use Rattle.audit.specs.broker.GoesOn.{GoesOn}
use Rattle.kwire.proofs.Laws.{refused_for}
use Rattle.kwire.specs.declared.frame.WireFault.TheVariants.{NoMemory as OutOfMemory}
use Rattle.outside.specs.Causes.{Rose}
use Rattle.outside.specs.Told.{IsBare}
use Rattle.link_lanes.specs.books.LaneBook.{IsTranscriptOf}
use Rattle.link_lanes.specs.books.LinkSession.{FitsLink, IsFault, IsSessionOver}
use Rattle.link_lanes.specs.books.Serving.{IsFreshLink, shut_link}
use Rattle.link_lanes.specs.books.WasSent.{AreSent, AreSentInPart, WasSent}
use Rattle.session.specs.Flows.{HasEndedSo, LinkView}
use Rattle.session.specs.Replies.{AreCutReplies, AreReplies, IsWritten}
use Rattle.session.specs.Served.{HasServed, ended_so}
use Rattle.shared_broker.specs.Passes.{PassView}

-- ---- what was written is what the account says

module _ (pass : PassView) (account : Account) (on : GoesOn pass.config pass.logs.parts pass.logs.clock account) where
  sent_whole : (calls : List Call) (bytes : List ℕ) → AreReplies pass calls bytes → AreSent account calls bytes
  sent_whole calls bytes h = record { replies = h.replies; replied = h.replied account on; bytes_are = h.bytes_are }

  sent_in_part : (calls : List Call) (bytes : List ℕ) → AreCutReplies pass calls bytes → AreSentInPart account calls bytes
  sent_in_part calls bytes h = record {
    earlier = h.earlier;
    last = h.last;
    calls_are = h.calls_are;
    whole = h.whole;
    before = sent_whole h.earlier h.whole h.before;
    reply = h.reply;
    replied = h.replied account on;
    part = h.part;
    missing = h.missing;
    spelled = h.spelled;
    proper = h.proper;
    bytes_are = h.bytes_are;
  }

  was_sent : (end : SessionEnd) (calls : List Call) (bytes : List ℕ) → IsWritten end pass calls bytes → WasSent account end calls bytes
  was_sent Closed calls bytes h = sent_whole calls bytes h
  was_sent (Truncated got) calls bytes h = sent_whole calls bytes h
  was_sent (FrameTooLong size) calls bytes h = sent_whole calls bytes h
  was_sent (Refused why) calls bytes h = sent_whole calls bytes h
  was_sent CallsFull calls bytes h = sent_whole calls bytes h
  was_sent ReadFault calls bytes h = sent_whole calls bytes h
  was_sent WriteFault calls bytes h = sent_in_part calls bytes h
  was_sent NoMemory calls bytes h = sent_whole calls bytes h

-- ---- bytes that a link shows that was fresh

-- they are those that flowed
shown_bytes : (old : Option (List ℕ)) (bytes flowed : List ℕ) → IsBare old → is_some (Some bytes) ≡ is_some old → Appends old (Some bytes) flowed → bytes ≡ flowed
shown_bytes None bytes flowed bare alike appends = absurd (true≢false alike)
shown_bytes (Some xs) bytes flowed bare alike appends = appends ∙ ap (λ (ys : List ℕ). ys ++ flowed) bare

fits_shown : (old taken left : Option (List ℕ)) (input : List ℕ) (ended : Bool) (t : Transcript) → IsBare old → is_some taken ≡ is_some old → Appends old taken input
    → HasEndedSo left ended → Fits input ended t → FitsLink taken left t
fits_shown old None left input ended t bare alike appends so fits = tt
fits_shown old (Some taken) None input ended t bare alike appends so fits = tt
fits_shown old (Some taken) (Some left) input ended t bare alike appends so fits =
    (ended, so, subst (λ (bytes : List ℕ). Fits bytes ended t) (sym (shown_bytes old taken input bare alike appends)) fits)

sent_shown : (P : List ℕ → Type 0) (old written : Option (List ℕ)) (output : List ℕ) → IsBare old → is_some written ≡ is_some old → Appends old written output → P output → IfSome written P
sent_shown P old None output bare alike appends holds = tt
sent_shown P old (Some written) output bare alike appends holds = subst P (sym (shown_bytes old written output bare alike appends)) holds

-- ---- the session

-- a link that had not failed has failed
has_failed : (before now : ℕ) → before ≡ 0 → Rose before now → 1 ≤ now
has_failed before now none rose = subst (λ (n : ℕ). Rose n now) none rose

fault_counts : (end : SessionEnd) (n : ℕ) → (end ≡ ReadFault → 1 ≤ n) → (end ≡ WriteFault → 1 ≤ n) → IsFault end → 1 ≤ n
fault_counts end n read write (inl is) = read is
fault_counts end n read write (inr is) = write is

-- no session is refused because memory ran out
never_for_memory : (rest : List ℕ) (ended : Bool) (t : Transcript) (end : SessionEnd) → EndFits rest ended t (Some end) → end ≢ Refused OutOfMemory
never_for_memory rest ended t end fits is =
    let refused = subst (λ (e : SessionEnd). EndFits rest ended t (Some e)) is fits in
    refused_for refused.0 OutOfMemory refused.4 refl

some_same : (a b : SessionEnd) → Some a ≡ Some b → a ≡ b
some_same a b e = cc

module _ (n : ℕ) (answer : SessionEnd) (old new : PassView) (before now : LinkView) (fresh : IsFreshLink before) (h : HasServed n answer old new before now) where
  told_now : h.end ≢ Refused OutOfMemory
  told_now = never_for_memory h.fits.rest h.ended (ended_so h.end h.transcript) h.end h.fits.end

  over_now : (account : Account) → GoesOn new.config new.logs.parts new.logs.clock account
      → IsSessionOver account (shut_link now) (ended_so h.end h.transcript)
  over_now account on = record {
    end = h.end;
    end_is = refl;
    shut = refl;
    fault = fault_counts h.end now.faults (λ is. has_failed before.faults now.faults fresh.faultless (h.cause.read is)) (λ is. has_failed before.faults now.faults fresh.faultless (h.cause.write is));
    told = told_now;
    fits = fits_shown before.taken now.taken now.left h.input h.ended (ended_so h.end h.transcript) fresh.untaken h.flowed.alike.taken h.flowed.taken h.ended_is h.fits;
    sent = sent_shown (WasSent account h.end h.transcript.calls) before.written now.written h.output fresh.unwritten h.flowed.alike.written h.flowed.written
        (was_sent new account on h.end h.transcript.calls h.output h.written);
  }

  pub transcript_over : IsTranscriptOf new (n, shut_link now) (ended_so h.end h.transcript)
  transcript_over = record { number = h.number_is; ended = refl; told = λ is. told_now (some_same h.end (Refused OutOfMemory) is); over = over_now }
