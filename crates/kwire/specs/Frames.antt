-- Frames of a stream: a size, and that many bytes (Kafka protocol guide, "Network").
use Rattle.std.specs.Prelude.{ℕ, ◌+◌, ◌≡◌, ◌≤◌, ℤ, pos, negsuc, List, ◌++◌, length, take, nat_lt, if◌then◌else◌}
use Rattle.std.specs.Int.{w32, from_be_bytes, cast_signed}
use Rattle.std.specs.List.{flat_map, AllByRecursion}
use Rattle.kbytes.specs.Field.{Int32, field}
use Rattle.kwire.specs.declared.frame.Frame.{Frame}
use Rattle.kwire.specs.declared.frame.Frame.TheVariants.{Whole, NotYet, TooLong}
use Rattle.kwire.specs.declared.framing.TheConstants.{MOST_FRAME_BYTES}

-- the frame of a body
abbrev pub framed : List ℕ → List ℕ
framed body = field (Int32 (pos (length body))) ++ body

-- the most bytes that a body may have
abbrev pub IsFrameBody : List ℕ → Type 0
IsFrameBody body = length body ≤ MOST_FRAME_BYTES

-- a frame of this size at the front of so many bytes
abbrev pub frame_of_size : ℕ → ℤ → Frame
frame_of_size available (negsuc n) = TooLong (negsuc n)
frame_of_size available (pos n) =
    if nat_lt MOST_FRAME_BYTES n then TooLong (pos n) else (if nat_lt available (4 + n) then NotYet else Whole (4 + n))

-- what stands at the front
abbrev pub next_frame_of : List ℕ → Frame
next_frame_of stream =
    if nat_lt (length stream) 4 then NotYet else frame_of_size (length stream) (cast_signed w32 (from_be_bytes w32 (take 4 stream)))

-- a whole frame stands at the front
abbrev pub BeginsWhole : List ℕ → Type 0
BeginsWhole stream = (size : ℕ) × (next_frame_of stream ≡ Whole size)

abbrev pub BeginsTooLong : List ℕ → Type 0
BeginsTooLong stream = (size : ℤ) × (next_frame_of stream ≡ TooLong size)

-- the whole frames at the front of a stream have these bodies, and the rest doesn't begin with one
pub record AreFramesOf (stream : List ℕ) (bodies : List (List ℕ)) (rest : List ℕ) : Type 0 where
  pub whole : stream ≡ flat_map framed bodies ++ rest
  pub each : AllByRecursion IsFrameBody bodies
  pub no_more : BeginsWhole rest → ⊥
