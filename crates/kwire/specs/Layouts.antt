-- Layouts: which fields stand one after the other, each of a kind of Kafka's protocol guide ("Protocol Primitive Types").
-- Reading by a layout ends at the first field that doesn't read or isn't allowed.
use Rattle.std.specs.Prelude.{ℕ, zero, suc, ◌+◌, ◌≡◌, ◌<◌, ◌≤◌, ◌⊎◌, ℤ, List, [], ◌∷◌, ◌++◌, length, Option, Some, None, Contains}
use Rattle.kbytes.specs.Field.{Field, Int8, Int16, Int32, Uint32, Int64, String, NullableString, Records, Array, Varint, Varlong, field, fields}
use Rattle.kbytes.specs.FitsField.{FitsField}
use Rattle.kwire.specs.declared.frame.WireFault.{WireFault}
use Rattle.kwire.specs.declared.frame.WireFault.TheVariants.{BadRequest, TooMany}
use Rattle.kwire.specs.declared.request.TheConstants.{MOST_NAMED}

infixr 5 ◌⨾◌
-- the kinds of fields; an INT8_OF is an INT8 that is one of these values, an ARRAY the count of an array's items
pub data Kind : Type 0 where
  INT8_OF : List ℤ → Kind
  INT16 INT32 INT64 : Kind
  STRING NULLABLE_STRING RECORDS ARRAY NULLABLE_ARRAY : Kind

-- a field of this kind
abbrev pub IsOf : Kind → Field → Type 0
IsOf (INT8_OF values) f = (z : ℤ) × (f ≡ Int8 z) × Contains values z
IsOf INT16 f = (z : ℤ) × (f ≡ Int16 z)
IsOf INT32 f = (z : ℤ) × (f ≡ Int32 z)
IsOf INT64 f = (z : ℤ) × (f ≡ Int64 z)
IsOf STRING f = (bytes : List ℕ) × (f ≡ String bytes)
IsOf NULLABLE_STRING f = (bytes : Option (List ℕ)) × (f ≡ NullableString bytes)
IsOf RECORDS f = (bytes : Option (List ℕ)) × (f ≡ Records bytes)
IsOf ARRAY f = (count : ℕ) × (f ≡ Array (Some count))
IsOf NULLABLE_ARRAY f = (count : Option ℕ) × (f ≡ Array count)

-- what the items of an array are, of which at most 64 are named; a request has one array of topics
pub data Things : Type 0 where
  Topics Partitions : Things

-- a field, and what follows it; or the count of an array, the layout of each of its items, and what follows them
pub data Layout : Type 0 where
  End : Layout
  ◌⨾◌ : Kind → Layout → Layout
  Many : Kind → Things → Layout → Layout → Layout

-- one layout, and then another
unfoldable pub followed_by : Layout → Layout → Layout
followed_by End next = next
followed_by (kind ⨾ first) next = kind ⨾ followed_by first next
followed_by (Many kind things each first) next = Many kind things each (followed_by first next)

-- so many items, and what follows them
unfoldable pub times : ℕ → Layout → Layout → Layout
times zero each next = next
times (suc n) each next = followed_by each (times n each next)

-- how many items a count says; null says none
abbrev pub count_of : Field → ℕ
count_of (Array (Some n)) = n
count_of (Array None) = 0
count_of (Int8 z) = 0
count_of (Int16 z) = 0
count_of (Int32 z) = 0
count_of (Uint32 n) = 0
count_of (Int64 z) = 0
count_of (String bytes) = 0
count_of (NullableString bytes) = 0
count_of (Records bytes) = 0
count_of (Varint z) = 0
count_of (Varlong z) = 0

-- the topics or the partitions that are named with so many more, where so many partitions were named before
abbrev pub total : Things → ℕ → ℕ → ℕ
total Topics named more = more
total Partitions named more = named + more

-- the partitions that are named then
abbrev pub named_with : Things → ℕ → ℕ → ℕ
named_with Topics named more = named
named_with Partitions named more = named + more

-- this field may come next, where so many partitions were named before
abbrev pub MayCome : Layout → ℕ → Field → Type 0
MayCome End named f = ⊥
MayCome (kind ⨾ next) named f = IsOf kind f × FitsField f
MayCome (Many kind things each next) named f = IsOf kind f × FitsField f × (total things named (count_of f) ≤ MOST_NAMED)

-- what is left of the layout after it
abbrev pub left_after : Layout → Field → Layout
left_after End f = End
left_after (kind ⨾ next) f = next
left_after (Many kind things each next) f = times (count_of f) each next

-- the partitions that are named with it
abbrev pub named_after : Layout → ℕ → Field → ℕ
named_after End named f = named
named_after (kind ⨾ next) named f = named
named_after (Many kind things each next) named f = named_with things named (count_of f)

-- these fields may come one after the other; then this is left of the layout, and so many partitions were named
abbrev pub LeadTo : Layout → ℕ → List Field → Layout → ℕ → Type 0
LeadTo layout named [] left all = (layout ≡ left) × (named ≡ all)
LeadTo layout named (f ∷ fs) left all = MayCome layout named f × LeadTo (left_after layout f) (named_after layout named f) fs left all

-- all fields of a layout
pub record AreOf (layout : Layout) (fs : List Field) : Type 0 where
  pub named : ℕ
  pub lead : LeadTo layout 0 fs End named

-- a field of this kind stands at the front of the bytes
pub record Begin (kind : Kind) (bytes : List ℕ) (f : Field) : Type 0 where
  pub is : IsOf kind f
  pub fits : FitsField f
  pub rest : List ℕ
  pub parts : bytes ≡ field f ++ rest

abbrev pub NoneBegins : Kind → List ℕ → Type 0
NoneBegins kind bytes = (f : Field) → Begin kind bytes f → ⊥

-- a count stands at the front that names too many
pub record NamesTooMany (kind : Kind) (things : Things) (named : ℕ) (bytes : List ℕ) (why : WireFault) : Type 0 where
  pub count : Field
  pub begins : Begin kind bytes count
  pub many : MOST_NAMED < total things named (count_of count)
  pub told : why ≡ TooMany (total things named (count_of count))

-- the field that should come next isn't at the front of the bytes that are left at a place, or is a count that names too many
abbrev pub IsFaultAt : Layout → ℕ → ℕ → List ℕ → WireFault → Type 0
IsFaultAt End named at bytes why = ⊥
IsFaultAt (kind ⨾ next) named at bytes why = NoneBegins kind bytes × (why ≡ BadRequest at)
IsFaultAt (Many kind things each next) named at bytes why =
    (NoneBegins kind bytes × (why ≡ BadRequest at)) ⊎ NamesTooMany kind things named bytes why

-- the fields of the front may come, and after them is the first fault
pub record IsFirstFault (layout : Layout) (bytes : List ℕ) (why : WireFault) : Type 0 where
  pub front : List Field
  pub left : Layout
  pub named : ℕ
  pub rest : List ℕ
  pub lead : LeadTo layout 0 front left named
  pub parts : bytes ≡ fields front ++ rest
  pub fault : IsFaultAt left named (length (fields front)) rest why
