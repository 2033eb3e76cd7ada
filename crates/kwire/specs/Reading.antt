-- Reading by a layout from the left, as the code does it: the fields, how many partitions are named then, and the place after
-- the fields; or the first fault.
use Rattle.std.specs.Prelude.{ℕ, zero, suc, ◌≡◌, ◌≢◌, ◌⊎◌, ℤ, List, [], ◌∷◌, ◌++◌, Option, Some, None, Result, Ok, Err, nat_lt, if◌then◌else◌}
use Rattle.std.specs.List.{list_any}
use Rattle.std.specs.Ordering.{int_eq}
use Rattle.std.specs.Int.{w8, w16, w32, w64}
use Rattle.kbytes.specs.declared.fault.ByteFault.{ByteFault}
use Rattle.kbytes.specs.declared.fault.ByteFault.TheVariants.{Short, BadLength, LongVarint}
use Rattle.kbytes.specs.Cursor.{Cursor, rest_of}
use Rattle.kbytes.specs.Reading.{◌>>=◌, integer_at, sized_at, string_at, array_at}
use Rattle.kbytes.specs.Field.{Field, Int8, Int16, Int32, Int64, String, NullableString, Records, Array}
use Rattle.kwire.specs.declared.request.TheConstants.{MOST_NAMED}
use Rattle.kwire.specs.declared.frame.WireFault.{WireFault}
use Rattle.kwire.specs.declared.frame.WireFault.TheVariants.{BadRequest, UnknownApi, Unsupported, TooMany, Twice, NoMemory}
use Rattle.kwire.specs.declared.api.Api.{Api}
use Rattle.kwire.specs.declared.request.Request.{Request}
use Rattle.kwire.specs.Apis.{ask_layout}
use Rattle.kwire.specs.IsRequest.{api_of, version_of, ask_fields, AllFitVersion}
use Rattle.kwire.specs.Refusal.{Mention, mentions_of, IsFirstRepeat}
use Rattle.kwire.specs.Layouts.{Kind, INT8_OF, INT16, INT32, INT64, STRING, NULLABLE_STRING, RECORDS, ARRAY, NULLABLE_ARRAY, Layout, End, ◌⨾◌, Many, count_of, total, named_with}

abbrev pub place_of_fault : ByteFault → ℕ
place_of_fault (Short at) = at
place_of_fault (BadLength at value) = at
place_of_fault (LongVarint at) = at

-- a field, and the place after it
abbrev pub ReadField : Type 0
ReadField = Result (Field × Cursor) WireFault

-- a field that doesn't read is a bad request at its place
abbrev pub wire : {X : Type 0} → (X → Field) → Result (X × Cursor) ByteFault → ReadField
wire kind (Ok x) = Ok (kind x.0, x.1)
wire kind (Err fault) = Err (BadRequest (place_of_fault fault))

abbrev pub one_of : ℕ → List ℤ → Result (ℤ × Cursor) ByteFault → ReadField
one_of at values (Ok x) = if list_any (int_eq x.0) values then Ok (Int8 x.0, x.1) else Err (BadRequest at)
one_of at values (Err fault) = Err (BadRequest (place_of_fault fault))

abbrev pub not_null : ℕ → Result (Option ℕ × Cursor) ByteFault → ReadField
not_null at (Ok (Some n, d)) = Ok (Array (Some n), d)
not_null at (Ok (None, d)) = Err (BadRequest at)
not_null at (Err fault) = Err (BadRequest (place_of_fault fault))

abbrev pub field_at : Kind → Cursor → ReadField
field_at (INT8_OF values) c = one_of c.at values (integer_at w8 c)
field_at INT16 c = wire Int16 (integer_at w16 c)
field_at INT32 c = wire Int32 (integer_at w32 c)
field_at INT64 c = wire Int64 (integer_at w64 c)
field_at STRING c = wire String (string_at c)
field_at NULLABLE_STRING c = wire NullableString (sized_at w16 c)
field_at RECORDS c = wire Records (sized_at w32 c)
field_at ARRAY c = not_null c.at (array_at c)
field_at NULLABLE_ARRAY c = wire Array (array_at c)

abbrev pub ReadFields : Type 0
ReadFields = Result (List Field × ℕ × Cursor) WireFault

-- at most 64 topics, and at most 64 partitions
abbrev pub within : ℕ → Result (Unit {0}) WireFault
within count = if nat_lt MOST_NAMED count then Err (TooMany count) else Ok tt

-- so many items, and what follows them
unfoldable pub times_at : (ℕ → Cursor → ReadFields) → (ℕ → Cursor → ReadFields) → ℕ → ℕ → Cursor → ReadFields
times_at each next zero named c = next named c
times_at each next (suc n) named c =
    each named c >>= λ first. times_at each next n first.1 first.2 >>= λ others. Ok (first.0 ++ others.0, others.1, others.2)

-- where so many partitions were named before
unfoldable pub layout_at : Layout → ℕ → Cursor → ReadFields
layout_at End named c = Ok ([], named, c)
layout_at (kind ⨾ next) named c =
    field_at kind c >>= λ first. layout_at next named first.1 >>= λ others. Ok (first.0 ∷ others.0, others.1, others.2)
layout_at (Many kind things each next) named c =
    field_at kind c >>= λ count. within (total things named (count_of count.0)) >>= λ _.
    times_at (layout_at each) (layout_at next) (count_of count.0) (named_with things named (count_of count.0)) count.1 >>= λ others.
    Ok (count.0 ∷ others.0, others.1, others.2)

-- this fault is what reading gives, unless it is out of memory
abbrev pub IsFaultOf : {X : Type 0} → Result X WireFault → WireFault → Type 0
IsFaultOf read (BadRequest at) = read ≡ Err (BadRequest at)
IsFaultOf read (UnknownApi key) = read ≡ Err (UnknownApi key)
IsFaultOf read (Unsupported key version) = read ≡ Err (Unsupported key version)
IsFaultOf read (TooMany count) = read ≡ Err (TooMany count)
IsFaultOf read (Twice topic partition) = read ≡ Err (Twice topic partition)
IsFaultOf read NoMemory = Unit {0}

-- the fields alone, of a whole layout
abbrev pub fields_at : Layout → Cursor → Result (List Field × Cursor) WireFault
fields_at layout c = layout_at layout 0 c >>= λ read. Ok (read.0, read.2)

-- a value whose spelling reading gives, with where the reader then stands; or its fault
abbrev pub Reads : {X Y : Type 0} → (X → Y) → Cursor → Result X WireFault → Result (Y × Cursor) WireFault → Type 0
Reads spelled new (Ok x) read = read ≡ Ok (spelled x, new)
Reads spelled new (Err fault) read = IsFaultOf read fault

-- the same, with how many partitions are named then
abbrev pub ReadsItem : {X : Type 0} → (X → List Field) → ℕ → Cursor → Result X WireFault → ReadFields → Type 0
ReadsItem spelled named new (Ok x) read = read ≡ Ok (spelled x, named, new)
ReadsItem spelled named new (Err fault) read = IsFaultOf read fault

-- what stands after a header was read, and nothing is left
pub record IsReadBody (api : Api) (version : ℤ) (c : Cursor) (request : Request) : Type 0 where
  pub place : Cursor
  pub read : fields_at (NULLABLE_STRING ⨾ ask_layout api version) c ≡ Ok (NullableString request.client ∷ ask_fields request.ask, place)
  pub over : rest_of place ≡ []
  pub asked : api_of request.ask ≡ api
  pub version_is : version_of request.ask ≡ version
  pub fitting : AllFitVersion request.ask

-- bytes stand after what was read
pub record IsReadShort (api : Api) (version : ℤ) (c : Cursor) (why : WireFault) : Type 0 where
  pub all : List Field
  pub place : Cursor
  pub read : fields_at (NULLABLE_STRING ⨾ ask_layout api version) c ≡ Ok (all, place)
  pub more : rest_of place ≢ []
  pub told : why ≡ BadRequest place.at

-- a partition was named twice
pub record IsReadTwice (api : Api) (version correlation : ℤ) (c : Cursor) (why : WireFault) : Type 0 where
  pub request : Request
  pub same : request.correlation ≡ correlation
  pub read : IsReadBody api version c request
  pub mention : Mention
  pub repeat : IsFirstRepeat (mentions_of request.ask) mention
  pub told : why ≡ Twice mention.entry mention.index

-- why there is no request after a header
abbrev pub IsNoBody : Api → ℤ → ℤ → Cursor → WireFault → Type 0
IsNoBody api version correlation c why =
    (fields_at (NULLABLE_STRING ⨾ ask_layout api version) c ≡ Err why) ⊎ IsReadShort api version c why ⊎ IsReadTwice api version correlation c why
