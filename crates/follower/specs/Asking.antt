-- The request with which a replica asks its leader for more (Kafka protocol guide, Fetch v4).
use Rattle.std.specs.Prelude.{◌≤◌, ◌<◌, ◌^◌, ℕ, ℤ, pos, negsuc, List, [], ◌∷◌, None, FitsSigned, length}
use Rattle.std.specs.Int.{w32}
use Rattle.kbytes.specs.Field.{fields}
use Rattle.kwire.specs.Frames.{framed}
use Rattle.kwire.specs.IsRequest.{request_fields}
use Rattle.kwire.specs.declared.request.Ask.TheVariants.{Fetch}
use Rattle.kwire.specs.declared.request.Request.{Request}
use Rattle.kwire.specs.declared.config.TheConstants.{MOST_NAME_BYTES}
use Rattle.follower.specs.Copies.{Copy}
use Rattle.follower.specs.declared.replica.TheConstants.{ASKED_VERSION, LONGEST_WAIT, MOST_ASKED}

-- it names no client, waits at most half a second for one byte, and asks for what follows the copy's end
abbrev pub request_of : Copy → ℤ → Request
request_of copy correlation = record {
  correlation = correlation;
  client = None;
  ask = Fetch ASKED_VERSION copy.id LONGEST_WAIT (pos 1) MOST_ASKED (pos 0) (record {
    name = copy.topic;
    parts = record { index = copy.index; offset = pos copy.end; log_start = negsuc 0; most = MOST_ASKED } ∷ [];
  } ∷ []);
}

-- the body of its frame, and the frame
abbrev pub asked_body : Copy → ℤ → List ℕ
asked_body copy correlation = fields (request_fields (request_of copy correlation))

unfoldable pub asked_frame : Copy → ℤ → List ℕ
asked_frame copy correlation = framed (asked_body copy correlation)

-- its numbers are those of their fields
pub record IsAskable (copy : Copy) (correlation : ℤ) : Type 0 where
  pub number : FitsSigned w32 correlation
  pub id : FitsSigned w32 copy.id
  pub index : FitsSigned w32 copy.index
  pub end : copy.end < 2 ^ 63
  pub named : length copy.topic ≤ MOST_NAME_BYTES
