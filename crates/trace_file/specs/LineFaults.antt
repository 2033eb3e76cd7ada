-- What is wrong with a line: with its text alone, or with the place where it stands. The kinds are looked for in the order in
-- which they stand here, and the first that applies is the line's.
use Rattle.std.specs.Prelude.{ℕ, ◌≡◌, ◌≢◌, ◌≤◌, ◌==◌, ◌⊎◌, Bool, List, [], ◌∷◌, length, codes, Option, Some, None, Ok, MatchOption, IsTrue, if◌then◌else◌}
use Rattle.std.specs.Bool.{nat_eq}
use Rattle.std.specs.Cmp.Lexicographic.{pointwise}
use Rattle.std.specs.Fmt.{decimal}
use Rattle.std.specs.List.{flat_map, All, AllZip}
use Rattle.hex.specs.Hex.{decode_of}
use Rattle.kwire.specs.Configuration.{IsNewTopic}
use Rattle.trace_file.specs.declared.line.Line.{Line}
use Rattle.trace_file.specs.declared.line.Line.TheVariants.{Topic}
use Rattle.trace_file.specs.declared.line.LineKind.{LineKind}
use Rattle.trace_file.specs.declared.line.LineKind.TheVariants as kinds
use Rattle.trace_file.specs.declared.line.TheConstants.{LAST_MOMENT, LAST_SESSION, MOST_NUMBER}
use Rattle.trace_file.specs.Contents.{topic_in}
use Rattle.trace_file.specs.IsInOrder.{MayFollow, DeclaresOrEnds}
use Rattle.trace_file.specs.IsLine.{words_of, IsLine}

-- what a word may be: any, a number up to this one, or pairs of hex digits
pub data Part : Type 0 where
  Name : Part
  Number : ℕ → Part
  Digits : Part

-- the words after that of a topic's line, of which it may have a fourth
abbrev pub topic_form : ℕ → List Part
topic_form count = Name ∷ Number MOST_NUMBER ∷ Number MOST_NUMBER ∷ (if count == 4 then Number MOST_NUMBER ∷ [] else [])

-- the words that stand after a first word, where a line may begin with it and have so many after it
abbrev pub form_of : List ℕ → ℕ → Option (List Part)
form_of word count =
    if pointwise nat_eq word (codes "topic") then Some (topic_form count)
    else if pointwise nat_eq word (codes "bytes") then Some (Number LAST_SESSION ∷ Digits ∷ [])
    else if pointwise nat_eq word (codes "close") then Some (Number LAST_SESSION ∷ [])
    else if pointwise nat_eq word (codes "clock") then Some (Number LAST_MOMENT ∷ [])
    else if pointwise nat_eq word (codes "end") then Some []
    else None

-- so many words, and none is empty
pub record AreFilled (words : List (List ℕ)) (count : ℕ) : Type 0 where
  pub count_is : length words ≡ count
  pub filled : All (λ word. word ≢ []) words

-- where a number has to stand, one of the range stands
abbrev pub IsNumberFor : List ℕ → Part → Type 0
IsNumberFor word Name = Unit {0}
IsNumberFor word (Number most) = (n : ℕ) × (n ≤ most) × (word ≡ decimal n)
IsNumberFor word Digits = Unit {0}

-- where hex digits have to stand, pairs of them stand
abbrev pub IsHexFor : List ℕ → Part → Type 0
IsHexFor word Name = Unit {0}
IsHexFor word (Number most) = Unit {0}
IsHexFor word Digits = (bytes : List ℕ) × (decode_of word ≡ Ok bytes)

-- what is wrong with the words after a first one that is known
abbrev pub IsRestFault : List (List ℕ) → List Part → LineKind → Type 0
IsRestFault words parts kinds.Word = ⊥
IsRestFault words parts kinds.Form = ¬ AreFilled words (length parts)
IsRestFault words parts kinds.Number = AreFilled words (length parts) × ¬ AllZip IsNumberFor words parts
IsRestFault words parts kinds.Hex = AreFilled words (length parts) × AllZip IsNumberFor words parts × ¬ AllZip IsHexFor words parts
IsRestFault words parts kinds.BadTopic = ⊥
IsRestFault words parts kinds.Order = ⊥
IsRestFault words parts kinds.NoEnd = ⊥
IsRestFault words parts kinds.TooLong = ⊥

abbrev pub IsWordsFault : List (List ℕ) → LineKind → Type 0
IsWordsFault [] kind = ⊥
IsWordsFault (word ∷ words) kind = MatchOption (form_of word (length words)) (kind ≡ kinds.Word) (λ parts. IsRestFault words parts kind)

-- what is wrong with the text of a line
abbrev pub IsLineFault : List ℕ → LineKind → Type 0
IsLineFault piece kind = IsWordsFault (words_of piece) kind

-- a line that may stand after those before it; where topics alone are declared, it is one or the end
pub record MayStand (only_topics : Bool) (before : List Line) (line : Line) : Type 0 where
  pub follows : All (λ earlier. MayFollow earlier line) before
  pub declares : IsTrue only_topics → DeclaresOrEnds line

-- a line's topic, if it is one, may be declared beside those before it
abbrev pub IsNewLine : List Line → Line → Type 0
IsNewLine before line = (name : List ℕ) (partitions followers least : ℕ) → line ≡ Topic name partitions followers least
    → IsNewTopic (flat_map topic_in before) name partitions followers least

-- what is wrong with the place of a line whose text is right
abbrev pub IsPlaceFault : Bool → List Line → Line → LineKind → Type 0
IsPlaceFault only_topics before line kinds.Order = ¬ MayStand only_topics before line
IsPlaceFault only_topics before line kinds.BadTopic = MayStand only_topics before line × ¬ IsNewLine before line
IsPlaceFault only_topics before line kinds.Word = ⊥
IsPlaceFault only_topics before line kinds.Form = ⊥
IsPlaceFault only_topics before line kinds.Number = ⊥
IsPlaceFault only_topics before line kinds.Hex = ⊥
IsPlaceFault only_topics before line kinds.NoEnd = ⊥
IsPlaceFault only_topics before line kinds.TooLong = ⊥

-- what is wrong with a piece of text that stands after these good lines
abbrev pub IsPieceFault : Bool → List Line → List ℕ → LineKind → Type 0
IsPieceFault only_topics before piece kind =
    IsLineFault piece kind ⊎ ((line : Line) × IsLine piece line × IsPlaceFault only_topics before line kind)
