-- A worked session: a replica whose number the leader doesn't know asked once, and was refused with the code for that.
use Rattle.std.proofs.Common.{◌≡◌, ℕ, zero, suc, ℤ, pos, Bool, true, false, cond, List, [], ◌∷◌, ◌++◌, map, Option, Some, None, unwrap_or, inl, inr, refl, sym, ap, subst, ◌∙◌, append-nil, arith}
use Rattle.std.proofs.lemmas.Bool.{ne_eqb}
use Rattle.std.specs.Prelude.{slice_get, count_by}
use Rattle.std.specs.List.{AllByRecursion, flat_map}
use Rattle.std.specs.List.Sorted.{IsStrictlyIncreasing}
use Rattle.kbytes.proofs.Laws.{some_is}
use Rattle.kwire.specs.Frames.{framed}
use Rattle.kwire.specs.declared.reply.Reply.{Reply}
use Rattle.kanswer.specs.Answer.{answer}
use Rattle.kanswer.specs.declared.accepted.Accepted.TheVariants.{Refused as RefusedWith}
use Rattle.partlog.specs.declared.event.PartEvent.{PartEvent}
use Rattle.partlog.specs.declared.event.PartEvent.TheVariants.{Follow, Look, Shrink}
use Rattle.partlog.specs.State.{PartState}
use Rattle.audit.specs.Histories.{Owner, at_point, call_of, calls_of, clock_owner_of, event_at, owners_in, owners_of, points_of}
use Rattle.audit.specs.IsLawful.{IsLawful, is_point, places_in}
use Rattle.audit.specs.LawfulCall.{IsAccepted, IsLawfulCall, shown_as_accepted}
use Rattle.audit.specs.Worked.{at, followed}
use Rattle.audit.specs.declared.account.Call.{Call}
use Rattle.follower.specs.Asking.{IsAskable, asked_body, asked_frame, request_of}
use Rattle.follower.specs.FromLawful.{IsFollowing}
use Rattle.follower.specs.Verdict.{IsRefused}
use Rattle.follower.specs.Worked.{stranger, stranger_call, stranger_session, turned_away}
use Rattle.follower.specs.declared.fault.TakeFault.TheVariants.{Refused}
use Rattle.follower.proofs.Answers.{body_of, refused_so, spelled_as, told_as}
use Rattle.follower.proofs.Requests.{asked_whole}
use Rattle.follower.proofs.Sessions.{asked_framed}

abbrev owned_by : ℕ → ℕ → Option (Option Owner)
owned_by by seq = Some (Some (record { by = by; seq = seq }))

nobody : (by seq : ℕ) → ◌≡◌ {A = Option (Option Owner)} None (owned_by by seq) → ⊥
nobody by seq e = absurd cc

same_pass : (a b by seq : ℕ) → owned_by a b ≡ owned_by by seq → a ≡ by
same_pass a b by seq e = ap (λ (o : Option (Option Owner)). (unwrap_or (unwrap_or o None) (record { by = 0; seq = 0 })).by) e

same_call : (a b by seq : ℕ) → owned_by a b ≡ owned_by by seq → b ≡ seq
same_call a b by seq e = ap (λ (o : Option (Option Owner)). (unwrap_or (unwrap_or o None) (record { by = 0; seq = 0 })).seq) e

abbrev Found : ℕ → ℕ → ℕ → ℕ → Type 0
Found part place by seq = (call : Call) × (call_of turned_away by seq ≡ Some call) × (count_by (is_point part place) (points_of call) ≡ 1)

in_first : (place by seq : ℕ) → slice_get (owners_of turned_away 0) place ≡ owned_by by seq → Found 0 place by seq
in_first zero by seq e = (
  stranger_call,
  subst (λ (n : ℕ). call_of turned_away by n ≡ Some stranger_call) (same_call 0 0 by seq e) (subst (λ (n : ℕ). call_of turned_away n 0 ≡ Some stranger_call) (same_pass 0 0 by seq e) refl),
  refl,
)
in_first (suc place) by seq e = absurd (nobody by seq e)

in_none : (part place by seq : ℕ) → (b : Bool) → slice_get (cond b (map clock_owner_of turned_away.clock) (owners_in None)) place ≡ owned_by by seq → ⊥
in_none part place by seq b e = elim b as (λ c. slice_get (cond c (map clock_owner_of turned_away.clock) (owners_in None)) place ≡ owned_by by seq → ⊥) [ true ↦ nobody by seq | false ↦ nobody by seq ] e

entry_left : (part place by seq : ℕ) → slice_get (owners_of turned_away part) place ≡ owned_by by seq → Found part place by seq
entry_left zero place by seq e = in_first place by seq e
entry_left (suc part) place by seq e = absurd (in_none (suc part) place by seq _ e)

-- its one entry is a look
no_event : (e : PartEvent) → ◌≡◌ {A = Option PartEvent} None (Some e) → ⊥
no_event e is = absurd cc

only_look : (part place : ℕ) (e : PartEvent) → event_at turned_away (at part place) ≡ Some e → Look 0 0 ≡ e
only_look zero zero e is = some_is (Look 0 0) e is
only_look zero (suc place) e is = absurd (no_event e is)
only_look (suc part) place e is = absurd (no_event e is)

no_leave : (by t : ℕ) (replica : ℤ) → Look 0 0 ≡ Shrink by replica t → ⊥
no_leave by t replica e = absurd cc

no_fetch : (by seq offset t : ℕ) (replica : ℤ) → Look 0 0 ≡ Follow by seq replica offset t → ⊥
no_fetch by seq offset t replica e = absurd cc

no_call : (call : Call) → ◌≡◌ {A = Option Call} None (Some call) → ⊥
no_call call e = absurd cc

-- what holds of the one call holds of every call
one : (P : ℕ → ℕ → Call → Type 0) → P 0 0 stranger_call → (pass seq : ℕ) (call : Call) → call_of turned_away pass seq ≡ Some call → P pass seq call
one P a zero zero call e = subst (P 0 0) (some_is stranger_call call e) a
one P a zero (suc seq) call e = absurd (no_call call e)
one P a (suc pass) seq call e = absurd (no_call call e)

rising_none : IsStrictlyIncreasing []
rising_none k lt = absurd (omega (arith, lt))

rising_one : (a : ℕ) → IsStrictlyIncreasing (a ∷ [])
rising_one a k lt = absurd (omega (arith, lt))

in_order : (pass part : ℕ) → IsStrictlyIncreasing (places_in part (flat_map points_of (calls_of turned_away pass)))
in_order zero zero = rising_one 0
in_order zero (suc part) = rw (ne_eqb 0 (suc part) (λ e. omega (arith, e))) rising_none
in_order (suc pass) part = rising_none

ask : IsAskable stranger (pos 0)
ask = record { number = record { sfits = omega arith }; id = record { sfits = omega arith }; index = record { sfits = omega arith }; end = omega arith; named = omega arith }

abbrev whole : IsAccepted turned_away stranger_call
whole = record {
  request = request_of stranger (pos 0);
  steps = record { result = RefusedWith (pos 9); point = Some (at 0 0) } ∷ [];
  looks = [];
  accepted = record {
    asked = inl (asked_whole stranger (pos 0) ask);
    decisions = _;
    decided = refl;
    each = (record { point = at 0 0; left = refl; there = refl; result = refl; entry = (0, 0, refl) }, tt);
  };
  entries = record { points = refl; clock = refl };
}

lawful_call : IsLawfulCall turned_away stranger_call
lawful_call = inl (record { whole = whole; completed = (refl, refl, refl) })

lawful : IsLawful turned_away
lawful = record {
  entries = record {
    left = entry_left;
    points = one (λ pass seq call. AllByRecursion (λ point. slice_get (owners_of turned_away point.part) point.place ≡ owned_by pass seq) (points_of call)) (refl, tt);
    ticks = rising_one 0;
    shrinks = λ part place by t replica is. absurd (no_leave by t replica (only_look part place (Shrink by replica t) is));
    follows = λ part place by seq offset t replica is. absurd (no_fetch by seq offset t replica (only_look part place (Follow by seq replica offset t) is));
    earlier = λ part place by seq offset t replica is. absurd (no_fetch by seq offset t replica (only_look part place (Follow by seq replica offset t) is));
  };
  order = in_order;
  logs = record { followers = refl; whole = (refl, tt) };
  calls = one (λ pass seq call. IsLawfulCall turned_away call) lawful_call;
  wins = λ winner. refl;
  ends = ((refl, (tt, tt), tt), tt);
}

-- its reply
abbrev state : PartState
state = at_point turned_away (at 0 0)

abbrev reply : Reply
reply = answer followed (request_of stranger (pos 0)) (shown_as_accepted turned_away whole.steps)

abbrev pub body : List ℕ
body = body_of stranger (pos 0) (told_as stranger (RefusedWith (pos 9)) state)

pub following : IsFollowing turned_away stranger_session stranger (framed body) (asked_frame stranger (pos 0))
following = record {
  lawful = lawful;
  few = omega arith;
  session_of = record { pass = 0; before = []; after = []; there = refl };
  small = (omega arith, tt);
  unread = [];
  asked = asked_framed stranger (pos 0) ∙ sym (append-nil (framed (asked_body stranger (pos 0)))) ∙ sym (append-nil (framed (asked_body stranger (pos 0)) ++ []));
  replies = reply ∷ [];
  replied = (record { whole = whole; shown = shown_as_accepted turned_away whole.steps; shows = refl; answered = refl }, tt);
  untaken = [];
  answered = ap (λ (bytes : List ℕ). bytes ++ []) (spelled_as followed stranger (pos 0) (RefusedWith (pos 9)) state);
  kept = record {
    named = omega arith;
    numbered = omega arith;
    fits = record { sfits = omega arith };
    index = record { sfits = omega arith };
    batches = record { batches = []; bytes = refl; each = refl };
    most = omega arith;
    dense = omega arith;
    high = omega arith;
  };
  prefix = λ number part is there. (part.log, refl);
}

pub turned_so : IsRefused stranger (pos 0) body (Refused (pos 9))
turned_so = refused_so stranger (pos 0) (pos 9) state ask (inr (inr refl))
