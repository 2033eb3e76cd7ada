-- Whole rounds, one after the other, and the one that breaks off.
use Rattle.std.proofs.Common.{◌≡◌, ◌≢◌, ℕ, ◌+◌, ◌<◌, ◌≤◌, pos, List, [], ◌∷◌, ◌++◌, length, take, drop, inl, inr, refl, sym, ap, subst, ◌∙◌, append_assoc, append-nil, arith, length-append}
use Rattle.std.specs.List.{AllByRecursion, flat_map}
use Rattle.std.proofs.lemmas.Grind.{flat_map-append}
use Rattle.std.proofs.lemmas.List.{take-append-drop, length-take}
use Rattle.kwire.specs.Frames.{IsFrameBody, framed}
use Rattle.outside.specs.Causes.{Rose}
use Rattle.follower.specs.Asking.{asked_frame}
use Rattle.follower.specs.Copies.{Copy}
use Rattle.follower.specs.Course.{BreaksSo, HasFollowed, HasGone}
use Rattle.follower.specs.Flows.{HasFlowed, LinkView}
use Rattle.follower.specs.Rounds.{EndsBy, HasBroken, HasMore, HasRound, HasStopped, HasTakenFront, IsGoing, IsRefusedFront, StopsSo}
use Rattle.follower.specs.Verdict.{HasTaken, IsRefused}
use Rattle.follower.specs.declared.fault.FollowEnd.{FollowEnd}
use Rattle.follower.specs.declared.fault.FollowEnd.TheVariants as ends
use Rattle.follower.specs.declared.fault.TakeFault.{TakeFault}
use Rattle.follower.specs.declared.fault.TakeFault.TheVariants as causes
use Rattle.follower.proofs.Flowing.{flowed_none, flowed_on}
use Rattle.follower.proofs.Verdicts.{one_taking}
use Rattle.follower.proofs.Filling.{stops_on}

-- ---- a reply that isn't taken

pub refused_front : (end : FollowEnd) (fault : TakeFault) (round : ℕ) (copy : Copy) (inbox body more : List ℕ) → EndsBy fault end → inbox ≡ framed body ++ more → IsFrameBody body
    → (fault ≢ causes.NoMemory → IsRefused copy (pos round) body fault) → IsRefusedFront end round copy inbox
refused_front ends.Done fault round copy inbox body more by parts small why = absurd by
refused_front ends.Closed fault round copy inbox body more by parts small why = absurd by
refused_front (ends.Truncated got) fault round copy inbox body more by parts small why = absurd by
refused_front (ends.FrameTooLong size) fault round copy inbox body more by parts small why = absurd by
refused_front (ends.Take other) fault round copy inbox body more by parts small why = (body, more, parts, small, subst (IsRefused copy (pos round) body) (sym by.0) (why by.1))
refused_front ends.ReadFault fault round copy inbox body more by parts small why = absurd by
refused_front ends.WriteFault fault round copy inbox body more by parts small why = absurd by
refused_front ends.NoMemory fault round copy inbox body more by parts small why = tt

-- ---- how a round breaks off

stop_breaks : (end : FollowEnd) (round : ℕ) (copy : Copy) (last rest : List ℕ) (before now : LinkView) → last ≡ asked_frame copy (pos round) → StopsSo end rest before now → BreaksSo end round copy last rest before now
stop_breaks ends.Done round copy last rest before now is why = why
stop_breaks ends.Closed round copy last rest before now is why = (is, why.0, why.1)
stop_breaks (ends.Truncated got) round copy last rest before now is why = (is, why.0.0, why.0.1, why.0.2, why.1)
stop_breaks (ends.FrameTooLong size) round copy last rest before now is why = (is, why)
stop_breaks (ends.Take fault) round copy last rest before now is why = absurd why
stop_breaks ends.ReadFault round copy last rest before now is why = (is, why.0, why.1)
stop_breaks ends.WriteFault round copy last rest before now is why = absurd why
stop_breaks ends.NoMemory round copy last rest before now is why = inr is

refusal_breaks : (end : FollowEnd) (round : ℕ) (copy : Copy) (last rest : List ℕ) (before now : LinkView) → last ≡ asked_frame copy (pos round) → IsRefusedFront end round copy rest → BreaksSo end round copy last rest before now
refusal_breaks ends.Done round copy last rest before now is why = why
refusal_breaks ends.Closed round copy last rest before now is why = absurd why
refusal_breaks (ends.Truncated got) round copy last rest before now is why = absurd why
refusal_breaks (ends.FrameTooLong size) round copy last rest before now is why = absurd why
refusal_breaks (ends.Take fault) round copy last rest before now is why = (is, why.0, why.1, why.2, why.3, why.4)
refusal_breaks ends.ReadFault round copy last rest before now is why = absurd why
refusal_breaks ends.WriteFault round copy last rest before now is why = absurd why
refusal_breaks ends.NoMemory round copy last rest before now is why = inr is

-- a request was written, and then more came, or no whole frame did
written_then : (frame piece : List ℕ) (a b c : LinkView) → HasFlowed [] frame a b → HasFlowed piece [] b c → HasFlowed piece frame a c
written_then frame piece a b c f g = subst (λ (bytes : List ℕ). HasFlowed piece bytes a c) (append-nil frame) (flowed_on [] piece frame [] a b c f g)

pub broken_reading : (end : FollowEnd) (round : ℕ) (copy : Copy) (inbox : List ℕ) (a b c : LinkView) → HasFlowed [] (asked_frame copy (pos round)) a b → HasStopped end inbox b c → HasBroken end round copy inbox a c
broken_reading end round copy inbox a b c wrote stopped = record {
  piece = stopped.piece;
  last = asked_frame copy (pos round);
  flowed = written_then (asked_frame copy (pos round)) stopped.piece a b c wrote stopped.flowed;
  why = stop_breaks end round copy (asked_frame copy (pos round)) (inbox ++ stopped.piece) a c refl (stops_on end (inbox ++ stopped.piece) a b c wrote.later stopped.why);
}

pub broken_taking : (end : FollowEnd) (round : ℕ) (copy : Copy) (inbox filled : List ℕ) (a b c : LinkView) → HasFlowed [] (asked_frame copy (pos round)) a b → HasMore inbox filled b c → IsRefusedFront end round copy filled → HasBroken end round copy inbox a c
broken_taking end round copy inbox filled a b c wrote more refused = record {
  piece = more.piece;
  last = asked_frame copy (pos round);
  flowed = written_then (asked_frame copy (pos round)) more.piece a b c wrote more.flowed;
  why = refusal_breaks end round copy (asked_frame copy (pos round)) (inbox ++ more.piece) a c refl (subst (IsRefusedFront end round copy) more.inbox refused);
}

pub round_made : (round : ℕ) (old new : Copy) (inbox filled left : List ℕ) (a b c : LinkView) → HasFlowed [] (asked_frame old (pos round)) a b → HasMore inbox filled b c → HasTakenFront round old new filled left
    → HasRound round old new inbox left a c
round_made round old new inbox filled left a b c wrote more front = record {
  piece = more.piece;
  flowed = written_then (asked_frame old (pos round)) more.piece a b c wrote more.flowed;
  body = front.body;
  small = front.small;
  parts = sym more.inbox ∙ front.parts;
  count = front.count;
  taken = front.taken;
}

pub broken_asking : (round : ℕ) (copy : Copy) (inbox : List ℕ) (v : LinkView) → HasBroken ends.NoMemory round copy inbox v v
broken_asking round copy inbox v = record { piece = []; last = []; flowed = flowed_none v; why = inl refl }

missing_some : (frame : List ℕ) (count : ℕ) → count < length frame → drop count frame ≢ []
missing_some frame count less none =
    let all : length frame ≡ length (take count frame) + length (drop count frame) = sym (ap (λ (bytes : List ℕ). length bytes) (take-append-drop count frame)) ∙ length-append (take count frame) (drop count frame) in
    let zero_left : length (drop count frame) ≡ 0 = ap (λ (bytes : List ℕ). length bytes) none in
    absurd (omega (arith, less, all, zero_left, length-take count frame))

pub broken_writing : (round : ℕ) (copy : Copy) (inbox frame : List ℕ) (count : ℕ) (a b : LinkView) → frame ≡ asked_frame copy (pos round) → count < length frame → HasFlowed [] (take count frame) a b → Rose a.faults b.faults
    → HasBroken ends.WriteFault round copy inbox a b
broken_writing round copy inbox frame count a b is less flowed rose = record {
  piece = [];
  last = take count frame;
  flowed = flowed;
  why = (drop count frame, sym is ∙ sym (take-append-drop count frame), missing_some frame count less, rose);
}

-- ---- rounds one after the other

pub gone_push : (round place : ℕ) (old mid new : Copy) (bodies : List (List ℕ)) (asked body : List ℕ) (count : ℕ) → place ≡ round + length bodies → HasGone round old bodies asked mid
    → HasTaken mid (pos place) body count new → HasGone round old (bodies ++ body ∷ []) (asked ++ asked_frame mid (pos place)) new
gone_push round place old mid new [] asked body count is gone taken =
    let here : place ≡ round = omega (arith, is) in
    let frame : asked_frame mid (pos place) ≡ asked_frame old (pos round) = ap (λ (n : ℕ). asked_frame mid (pos n)) here ∙ ap (λ (k : Copy). asked_frame k (pos round)) gone.1 in (
      count,
      new,
      [],
      subst (λ (k : Copy). HasTaken k (pos round) body count new) gone.1 (subst (λ (n : ℕ). HasTaken mid (pos n) body count new) here taken),
      ap (λ (bytes : List ℕ). bytes ++ asked_frame mid (pos place)) gone.0 ∙ frame ∙ sym (append-nil (asked_frame old (pos round))),
      (refl, refl),
    )
gone_push round place old mid new (first ∷ bodies) asked body count is gone taken = (
  gone.0,
  gone.1,
  gone.2 ++ asked_frame mid (pos place),
  gone.3,
  ap (λ (bytes : List ℕ). bytes ++ asked_frame mid (pos place)) gone.4 ∙ append_assoc (asked_frame old (pos round)) gone.2 (asked_frame mid (pos place)),
  gone_push (round + 1) place gone.1 mid new bodies gone.2 body count (omega (arith, is)) gone.5 taken,
)

each_push : (bodies : List (List ℕ)) (body : List ℕ) → AllByRecursion IsFrameBody bodies → IsFrameBody body → AllByRecursion IsFrameBody (bodies ++ body ∷ [])
each_push [] body all small = (small, tt)
each_push (first ∷ bodies) body all small = (all.0, each_push bodies body all.1 small)

pub going_none : (copy : Copy) (v : LinkView) → IsGoing copy v 0 copy v []
going_none copy v = record { input = []; output = []; flowed = flowed_none v; bodies = []; parts = refl; each = tt; round_is = refl; gone = (refl, refl) }

pub going_on : (old mid new : Copy) (round : ℕ) (inbox left : List ℕ) (a b c : LinkView) → IsGoing old a round mid b inbox → HasRound round mid new inbox left b c → IsGoing old a (round + 1) new c left
going_on old mid new round inbox left a b c going made =
    let bodies = going.bodies ++ made.body ∷ [] in
    let frames = flat_map framed going.bodies in
    let joined : flat_map framed bodies ≡ frames ++ framed made.body =
    flat_map-append framed going.bodies (made.body ∷ []) ∙ ap (λ (bytes : List ℕ). frames ++ bytes) (append-nil (framed made.body)) in
    record {
      input = going.input ++ made.piece;
      output = going.output ++ asked_frame mid (pos round);
      flowed = flowed_on going.input made.piece going.output (asked_frame mid (pos round)) a b c going.flowed made.flowed;
      bodies = bodies;
      parts = ap (λ (bytes : List ℕ). bytes ++ made.piece) going.parts ∙ append_assoc frames inbox made.piece ∙ ap (λ (bytes : List ℕ). frames ++ bytes) made.parts
          ∙ sym (append_assoc frames (framed made.body) left) ∙ ap (λ (bytes : List ℕ). bytes ++ left) (sym joined);
      each = each_push going.bodies made.body going.each made.small;
      round_is = omega (arith, going.round_is, length-append going.bodies (made.body ∷ []));
      gone = gone_push 0 round old mid new going.bodies going.output made.body made.count (omega (arith, going.round_is)) going.gone made.taken;
    }

breaks_on : (end : FollowEnd) (round : ℕ) (copy : Copy) (last rest : List ℕ) (a b c : LinkView) → a.faults ≤ b.faults → BreaksSo end round copy last rest b c → BreaksSo end round copy last rest a c
breaks_on ends.Done round copy last rest a b c le why = why
breaks_on ends.Closed round copy last rest a b c le why = why
breaks_on (ends.Truncated got) round copy last rest a b c le why = why
breaks_on (ends.FrameTooLong size) round copy last rest a b c le why = why
breaks_on (ends.Take fault) round copy last rest a b c le why = why
breaks_on ends.ReadFault round copy last rest a b c le why = (why.0, why.1, omega (arith, le, why.2))
breaks_on ends.WriteFault round copy last rest a b c le why = (why.0, why.1, why.2, omega (arith, le, why.3))
breaks_on ends.NoMemory round copy last rest a b c le why = why

pub followed_done : (rounds : ℕ) (old new : Copy) (inbox : List ℕ) (a b : LinkView) → IsGoing old a rounds new b inbox → HasFollowed rounds old new ends.Done a b
followed_done rounds old new inbox a b going = record {
  input = going.input;
  output = going.output;
  flowed = going.flowed;
  bodies = going.bodies;
  rest = inbox;
  parts = going.parts;
  each = going.each;
  asked = going.output;
  gone = going.gone;
  ends = inl (record { end_is = refl; all = going.round_is; written = refl });
}

pub followed_broken : (rounds round : ℕ) (old new : Copy) (end : FollowEnd) (inbox : List ℕ) (a b c : LinkView) → round < rounds → IsGoing old a round new b inbox → HasBroken end round new inbox b c → HasFollowed rounds old new end a c
followed_broken rounds round old new end inbox a b c fewer going broken = record {
  input = going.input ++ broken.piece;
  output = going.output ++ broken.last;
  flowed = flowed_on going.input broken.piece going.output broken.last a b c going.flowed broken.flowed;
  bodies = going.bodies;
  rest = inbox ++ broken.piece;
  parts = ap (λ (bytes : List ℕ). bytes ++ broken.piece) going.parts ∙ append_assoc (flat_map framed going.bodies) inbox broken.piece;
  each = going.each;
  asked = going.output;
  gone = going.gone;
  ends = inr (record {
    fewer = omega (arith, fewer, going.round_is);
    last = broken.last;
    written = refl;
    why = subst (λ (n : ℕ). BreaksSo end n new broken.last (inbox ++ broken.piece) a c) (sym going.round_is)
        (breaks_on end round new broken.last (inbox ++ broken.piece) a b c going.flowed.later broken.why);
  });
}

-- the bodies decide the rest
pub one_course : (round : ℕ) (old new other : Copy) (bodies : List (List ℕ)) (asked frames : List ℕ) → HasGone round old bodies asked new → HasGone round old bodies frames other → (asked ≡ frames) × (new ≡ other)
one_course round old new other [] asked frames p q = (p.0 ∙ sym q.0, p.1 ∙ sym q.1)
one_course round old new other (body ∷ bodies) asked frames p q =
    let same : p.1 ≡ q.1 = (one_taking old (pos round) body p.0 q.0 p.1 q.1 p.3 q.3).1 in
    let rest = one_course (round + 1) p.1 new other bodies p.2 q.2 p.5 (subst (λ (k : Copy). HasGone (round + 1) k bodies q.2 other) (sym same) q.5) in
    (p.4 ∙ ap (λ (bytes : List ℕ). asked_frame old (pos round) ++ bytes) rest.0 ∙ sym q.4, rest.1)
