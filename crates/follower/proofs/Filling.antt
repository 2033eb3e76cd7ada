-- Bytes that come piece by piece, until a whole frame is there or none comes.
use Rattle.std.proofs.Common.{◌≡◌, ℕ, ◌+◌, ◌<◌, ◌≤◌, cond, ltb, ℤ, pos, negsuc, List, [], ◌++◌, length, take, inl, inr, sym, ap, subst, ◌∙◌, append_assoc, append-nil, arith}
use Rattle.std.specs.Int.{w32, from_be_bytes, cast_signed}
use Rattle.std.proofs.lemmas.Bool.{cases_lt, lt-ltb, le-ltb}
use Rattle.kwire.specs.Frames.{frame_of_size, next_frame_of}
use Rattle.kwire.specs.declared.frame.Frame.TheVariants.{Whole, NotYet, TooLong}
use Rattle.kwire.specs.declared.framing.TheConstants.{MOST_FRAME_BYTES}
use Rattle.outside.specs.Causes.{Rose}
use Rattle.follower.specs.Flows.{LinkView}
use Rattle.follower.specs.Rounds.{HasMore, HasStopped, StopsSo}
use Rattle.follower.specs.declared.fault.FollowEnd.{FollowEnd}
use Rattle.follower.specs.declared.fault.FollowEnd.TheVariants as ends
use Rattle.follower.proofs.Flowing.{flowed_in, flowed_none}

-- ---- where no whole frame is there, few bytes are

size_few : (available : ℕ) (size : ℤ) → frame_of_size available size ≡ NotYet → available < MOST_FRAME_BYTES + 4
size_few available (negsuc n) e = absurd cc
size_few available (pos n) e =
    elim (cases_lt MOST_FRAME_BYTES n) [
      | inl large ↦ let other : TooLong (pos n) ≡ NotYet = rw (lt-ltb MOST_FRAME_BYTES n large) at e in absurd cc
      | inr small ↦
          let this : cond (ltb available (4 + n)) NotYet (Whole (4 + n)) ≡ NotYet = rw (le-ltb MOST_FRAME_BYTES n small) at e in
          elim (cases_lt available (4 + n)) [
            | inl short ↦ omega (arith, short, small)
            | inr enough ↦ let other : Whole (4 + n) ≡ NotYet = rw (le-ltb available (4 + n) enough) at this in absurd cc
          ]
    ]

pub not_yet_few : (stream : List ℕ) → next_frame_of stream ≡ NotYet → length stream < MOST_FRAME_BYTES + 4
not_yet_few stream e =
    elim (cases_lt (length stream) 4) [
      | inl few ↦ omega (arith, few)
      | inr enough ↦ size_few (length stream) (cast_signed w32 (from_be_bytes w32 (take 4 stream))) (rw (le-ltb (length stream) 4 enough) at e)
    ]

-- ---- pieces

pub more_none : (inbox : List ℕ) (v : LinkView) → HasMore inbox inbox v v
more_none inbox v = record { piece = []; flowed = flowed_none v; inbox = sym (append-nil inbox) }

pub more_on : (old mid new : List ℕ) (a b c : LinkView) → HasMore old mid a b → HasMore mid new b c → HasMore old new a c
more_on old mid new a b c f g = record {
  piece = f.piece ++ g.piece;
  flowed = flowed_in f.piece g.piece [] a b c f.flowed g.flowed;
  inbox = g.inbox ∙ ap (λ (bytes : List ℕ). bytes ++ g.piece) f.inbox ∙ append_assoc old f.piece g.piece;
}

rose_on : (a b c : ℕ) → a ≤ b → Rose b c → Rose a c
rose_on a b c le rose = omega (arith, le, rose)

pub stops_on : (end : FollowEnd) (rest : List ℕ) (a b c : LinkView) → a.faults ≤ b.faults → StopsSo end rest b c → StopsSo end rest a c
stops_on ends.Done rest a b c le why = why
stops_on ends.Closed rest a b c le why = why
stops_on (ends.Truncated got) rest a b c le why = why
stops_on (ends.FrameTooLong size) rest a b c le why = why
stops_on (ends.Take fault) rest a b c le why = why
stops_on ends.ReadFault rest a b c le why = (why.0, rose_on a.faults b.faults c.faults le why.1)
stops_on ends.WriteFault rest a b c le why = why
stops_on ends.NoMemory rest a b c le why = why

pub stopped_on : (end : FollowEnd) (old mid : List ℕ) (a b c : LinkView) → HasMore old mid a b → HasStopped end mid b c → HasStopped end old a c
stopped_on end old mid a b c f g = record {
  piece = f.piece ++ g.piece;
  flowed = flowed_in f.piece g.piece [] a b c f.flowed g.flowed;
  why = subst (λ (bytes : List ℕ). StopsSo end bytes a c) (ap (λ (bytes : List ℕ). bytes ++ g.piece) f.inbox ∙ append_assoc old f.piece g.piece) (stops_on end (mid ++ g.piece) a b c f.flowed.later g.why);
}

-- nothing more came
pub stopped_here : (end : FollowEnd) (old mid : List ℕ) (a b : LinkView) → HasMore old mid a b → StopsSo end mid a b → HasStopped end old a b
stopped_here end old mid a b f why = record { piece = f.piece; flowed = f.flowed; why = subst (λ (bytes : List ℕ). StopsSo end bytes a b) f.inbox why }
