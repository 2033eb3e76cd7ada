-- The body of a reply to a fetch of one partition (Kafka protocol guide, Fetch v4), and where a body departs from it.
use Rattle.std.specs.Prelude.{◌≡◌, ◌≢◌, ℕ, ℤ, pos, negsuc, List, [], ◌∷◌, ◌++◌, length, Some, None}
use Rattle.std.specs.List.{AllByRecursion}
use Rattle.kbytes.specs.Field.{Field, Int16, Int32, Int64, String, Records, Array, field, fields}
use Rattle.kbytes.specs.FitsField.{FitsField}
use Rattle.kwire.specs.Spelling.{told_fields}
use Rattle.kwire.specs.declared.reply.FetchedPart.{FetchedPart}
use Rattle.kwire.specs.declared.reply.Told.{Told}
use Rattle.kwire.specs.declared.reply.Told.TheVariants.{Fetched}
use Rattle.follower.specs.declared.replica.TheConstants.{ASKED_VERSION}

-- what was asked: the reply's correlation id, and its one partition
pub record Asked : Type 0 where
  pub correlation : ℤ
  pub topic : List ℕ
  pub index : ℤ

-- what is told of the partition alone, at the isolation level 0
abbrev pub told_alone : Asked → FetchedPart → Told
told_alone asked told = Fetched ASKED_VERSION (pos 0) (record { name = asked.topic; parts = told ∷ [] } ∷ [])

abbrev pub reply_fields : Asked → FetchedPart → List Field
reply_fields asked told = Int32 asked.correlation ∷ told_fields (told_alone asked told)

-- the body is that of such a reply, which tells this of the partition
pub record IsReplyBody (asked : Asked) (body : List ℕ) (told : FetchedPart) : Type 0 where
  pub index : told.index ≡ asked.index
  -- the version doesn't tell where the log starts
  pub start : told.start ≡ negsuc 0
  pub fits : AllByRecursion FitsField (reply_fields asked told)
  pub spelled : body ≡ fields (reply_fields asked told)

-- The fields of such a reply, each by those before it: the correlation id, no throttle time, one topic and its name, one partition and its
-- index, a code, a high watermark, the last stable offset, which is the same, null for the aborted transactions, and records. Nothing comes
-- after these.
abbrev pub MayFollow : Asked → List Field → Field → Type 0
MayFollow asked [] f = f ≡ Int32 asked.correlation
MayFollow asked (a ∷ []) f = f ≡ Int32 (pos 0)
MayFollow asked (a ∷ b ∷ []) f = f ≡ Array (Some 1)
MayFollow asked (a ∷ b ∷ c ∷ []) f = f ≡ String asked.topic
MayFollow asked (a ∷ b ∷ c ∷ d ∷ []) f = f ≡ Array (Some 1)
MayFollow asked (a ∷ b ∷ c ∷ d ∷ e ∷ []) f = f ≡ Int32 asked.index
MayFollow asked (a ∷ b ∷ c ∷ d ∷ e ∷ g ∷ []) f = (code : ℤ) × (f ≡ Int16 code)
MayFollow asked (a ∷ b ∷ c ∷ d ∷ e ∷ g ∷ code ∷ []) f = (high : ℤ) × (f ≡ Int64 high)
MayFollow asked (a ∷ b ∷ c ∷ d ∷ e ∷ g ∷ code ∷ high ∷ []) f = f ≡ high
MayFollow asked (a ∷ b ∷ c ∷ d ∷ e ∷ g ∷ code ∷ high ∷ stable ∷ []) f = f ≡ Array None
MayFollow asked (a ∷ b ∷ c ∷ d ∷ e ∷ g ∷ code ∷ high ∷ stable ∷ aborted ∷ []) f = (records : List ℕ) × (f ≡ Records (Some records))
MayFollow asked (a ∷ b ∷ c ∷ d ∷ e ∷ g ∷ code ∷ high ∷ stable ∷ aborted ∷ records ∷ more) f = ⊥

-- each of these fields may follow those before it, the first of them these
abbrev pub Agree : Asked → List Field → List Field → Type 0
Agree asked before [] = Unit {0}
Agree asked before (f ∷ fs) = MayFollow asked before f × FitsField f × Agree asked (before ++ f ∷ []) fs

-- so many fields are all of them
abbrev pub all_fields : ℕ
all_fields = 11

-- The fields in front stand as they have to, and then comes none that may follow them, or bytes after them all. The place is that of the first
-- byte of the field that doesn't read or differs.
pub record GoesWrongAt (asked : Asked) (body : List ℕ) (at : ℕ) : Type 0 where
  pub front : List Field
  pub rest : List ℕ
  pub agree : Agree asked [] front
  pub parts : body ≡ fields front ++ rest
  pub place : at ≡ length (fields front)
  pub wrong : (f : Field) (after : List ℕ) → rest ≡ field f ++ after → FitsField f → MayFollow asked front f → ⊥
  pub more : length front ≡ all_fields → rest ≢ []
