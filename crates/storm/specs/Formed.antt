-- A request of the load as a form: the next one of its kind is written over it, field by field.
use Rattle.std.specs.Prelude.{◌≡◌, ℕ, ◌+◌, ℤ, pos, negsuc, List, [], ◌∷◌, ◌++◌, length, take, drop, codes, Some, None}
use Rattle.kbatch.specs.declared.record.Record.{Record}
use Rattle.kbatch.specs.Written.{written_with}
use Rattle.kbytes.specs.Field.{fields}
use Rattle.kwire.specs.declared.request.Ask.{Ask}
use Rattle.kwire.specs.declared.request.Ask.TheVariants.{Produce, Fetch}
use Rattle.kwire.specs.Frames.{framed}
use Rattle.kwire.specs.IsRequest.{request_fields}
use Rattle.storm.specs.declared.asking.TheConstants.{DIGITS, PRODUCE_VERSION, FETCH_VERSION, MOST_FETCHED, MOST_OF_PARTITION}
use Rattle.storm.specs.Requests.{request_with}

-- the bytes with these ones, so many, from a place on
abbrev pub over_at : ℕ → ℕ → List ℕ → List ℕ → List ℕ
over_at place size bytes all = take place all ++ (bytes ++ drop (place + size) all)

abbrev pub frame_with : ℕ → Ask → List ℕ
frame_with i ask = framed (fields (request_fields (request_with i ask)))

-- a fetch with any numbers
abbrev pub fetch_with : ℕ → ℤ → ℕ → ℕ → ℕ → Ask
fetch_with p replica wait least offset =
    Fetch FETCH_VERSION replica (pos wait) (pos least) MOST_FETCHED (pos 0) (record {
      name = codes "storm";
      parts = record { index = pos p; offset = pos offset; log_start = negsuc 0; most = MOST_OF_PARTITION } ∷ [];
    } ∷ [])

abbrev pub IsFetchForm : List ℕ → Type 0
IsFetchForm frame = (i : ℕ) × (p : ℕ) × (replica : ℤ) × (wait : ℕ) × (least : ℕ) × (offset : ℕ) × (frame ≡ frame_with i (fetch_with p replica wait least offset))

-- a produce with any bytes as its batch
abbrev pub produce_with : List ℕ → ℕ → ℤ → ℕ → Ask
produce_with bytes p acks timeout =
    Produce PRODUCE_VERSION None acks (pos timeout) (record { name = codes "storm"; parts = record { index = pos p; records = Some bytes } ∷ [] } ∷ [])

abbrev pub record_with : List ℕ → Record
record_with value = record { attributes = pos 0; time = pos 0; key = None; value = Some value; headers = [] }

-- the batch of one record with a value of so many bytes, and with any crc
abbrev pub IsFormed : List ℕ → Type 0
IsFormed batch = (crc : ℕ) × (value : List ℕ) × (length value ≡ DIGITS) × (batch ≡ written_with crc (record_with value ∷ []))

abbrev pub IsProduceForm : List ℕ → Type 0
IsProduceForm frame = (i : ℕ) × (p : ℕ) × (acks : ℤ) × (timeout : ℕ) × (batch : List ℕ) × IsFormed batch × (frame ≡ frame_with i (produce_with batch p acks timeout))
