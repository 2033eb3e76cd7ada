-- The words of a line, and the one line that they spell.
use Rattle.std.proofs.Common.{◌≡◌, ◌≢◌, ℕ, ◌≤◌, List, [], ◌∷◌, get_or, refl, sym, ap, ◌∙◌, arith, inl, inr}
use Rattle.std.specs.Prelude.{codes, Result, Ok, Err, nat_eq, if◌then◌else◌}
use Rattle.std.specs.Fmt.{decimal}
use Rattle.std.specs.Cmp.Lexicographic.{pointwise, other_text}
use Rattle.std.specs.Str.Parse.{digits_value}
use Rattle.hex.specs.Hex.{decode_of}
use Rattle.hex.specs.declared.error.FromHexError.{FromHexError}
use Rattle.trace_file.specs.declared.line.Line.{Line}
use Rattle.trace_file.specs.declared.line.Line.TheVariants.{Topic, Feed, Shut, Clock, End}
use Rattle.trace_file.specs.declared.line.TheConstants.{LAST_MOMENT}
use Rattle.trace_file.proofs.Numbers.{decimal_value}
use Rattle.trace_file.specs.IsLine.{AreLeast, IsTopicLine, IsFeedLine, IsShutLine, IsClockLine, AreWordsOf}

-- the first word of a line
abbrev pub kind_of : Line → List ℕ
kind_of (Topic name partitions followers least) = codes "topic"
kind_of (Feed session bytes) = codes "bytes"
kind_of (Shut session) = codes "close"
kind_of (Clock t) = codes "clock"
kind_of End = codes "end"

pub first_word : (kind : List ℕ) (words : List (List ℕ)) (line : Line) → AreWordsOf (kind ∷ words) line → kind ≡ kind_of line
first_word kind words (Topic name partitions followers least) h = let e = h.spelled in cc
first_word kind words (Feed session bytes) h = let e = h.spelled in cc
first_word kind words (Shut session) h = let e = h.spelled in cc
first_word kind words (Clock t) h = let e = h.spelled in cc
first_word kind words End h = cc

-- what a first word says of the line
pub a_topic : (words : List (List ℕ)) (line : Line) → AreWordsOf (codes "topic" ∷ words) line
    → (name : List ℕ) × (partitions : ℕ) × (followers : ℕ) × (least : ℕ) × IsTopicLine (codes "topic" ∷ words) name partitions followers least
a_topic words (Topic name partitions followers least) h = (name, partitions, followers, least, h)
a_topic words (Feed session bytes) h = absurd (other_text (codes "topic") (codes "bytes") refl (first_word (codes "topic") words (Feed session bytes) h))
a_topic words (Shut session) h = absurd (other_text (codes "topic") (codes "close") refl (first_word (codes "topic") words (Shut session) h))
a_topic words (Clock t) h = absurd (other_text (codes "topic") (codes "clock") refl (first_word (codes "topic") words (Clock t) h))
a_topic words End h = absurd (other_text (codes "topic") (codes "end") refl (first_word (codes "topic") words End h))

pub a_feed : (words : List (List ℕ)) (line : Line) → AreWordsOf (codes "bytes" ∷ words) line → (session : ℕ) × (bytes : List ℕ) × IsFeedLine (codes "bytes" ∷ words) session bytes
a_feed words (Topic name partitions followers least) h = absurd (other_text (codes "bytes") (codes "topic") refl (first_word (codes "bytes") words (Topic name partitions followers least) h))
a_feed words (Feed session bytes) h = (session, bytes, h)
a_feed words (Shut session) h = absurd (other_text (codes "bytes") (codes "close") refl (first_word (codes "bytes") words (Shut session) h))
a_feed words (Clock t) h = absurd (other_text (codes "bytes") (codes "clock") refl (first_word (codes "bytes") words (Clock t) h))
a_feed words End h = absurd (other_text (codes "bytes") (codes "end") refl (first_word (codes "bytes") words End h))

pub a_shut : (words : List (List ℕ)) (line : Line) → AreWordsOf (codes "close" ∷ words) line → (session : ℕ) × IsShutLine (codes "close" ∷ words) session
a_shut words (Topic name partitions followers least) h = absurd (other_text (codes "close") (codes "topic") refl (first_word (codes "close") words (Topic name partitions followers least) h))
a_shut words (Feed session bytes) h = absurd (other_text (codes "close") (codes "bytes") refl (first_word (codes "close") words (Feed session bytes) h))
a_shut words (Shut session) h = (session, h)
a_shut words (Clock t) h = absurd (other_text (codes "close") (codes "clock") refl (first_word (codes "close") words (Clock t) h))
a_shut words End h = absurd (other_text (codes "close") (codes "end") refl (first_word (codes "close") words End h))

pub a_clock : (words : List (List ℕ)) (line : Line) → AreWordsOf (codes "clock" ∷ words) line → (t : ℕ) × IsClockLine (codes "clock" ∷ words) t
a_clock words (Topic name partitions followers least) h = absurd (other_text (codes "clock") (codes "topic") refl (first_word (codes "clock") words (Topic name partitions followers least) h))
a_clock words (Feed session bytes) h = absurd (other_text (codes "clock") (codes "bytes") refl (first_word (codes "clock") words (Feed session bytes) h))
a_clock words (Shut session) h = absurd (other_text (codes "clock") (codes "close") refl (first_word (codes "clock") words (Shut session) h))
a_clock words (Clock t) h = (t, h)
a_clock words End h = absurd (other_text (codes "clock") (codes "end") refl (first_word (codes "clock") words End h))

-- several words with another first one are no line
pub no_kind : (kind word : List ℕ) (words : List (List ℕ)) (line : Line) → kind ≢ codes "topic" → kind ≢ codes "bytes" → kind ≢ codes "close" → kind ≢ codes "clock"
    → AreWordsOf (kind ∷ word ∷ words) line → ⊥
no_kind kind word words (Topic name partitions followers least) a b c d h = a (first_word kind (word ∷ words) (Topic name partitions followers least) h)
no_kind kind word words (Feed session bytes) a b c d h = b (first_word kind (word ∷ words) (Feed session bytes) h)
no_kind kind word words (Shut session) a b c d h = c (first_word kind (word ∷ words) (Shut session) h)
no_kind kind word words (Clock t) a b c d h = d (first_word kind (word ∷ words) (Clock t) h)
no_kind kind word words End a b c d h = absurd cc

-- one word is no line but the end
pub lone_end : (word : List ℕ) (line : Line) → AreWordsOf (word ∷ []) line → word ≡ codes "end"
lone_end word (Topic name partitions followers least) h = let e = h.spelled in absurd cc
lone_end word (Feed session bytes) h = let e = h.spelled in absurd cc
lone_end word (Shut session) h = let e = h.spelled in absurd cc
lone_end word (Clock t) h = let e = h.spelled in absurd cc
lone_end word End h = cc

-- the bytes of digits that decode
bytes_in : Result (List ℕ) FromHexError → List ℕ
bytes_in (Ok bytes) = bytes
bytes_in (Err e) = []

-- the line that words with these five at the front would be
line_by : List ℕ → List ℕ → List ℕ → List ℕ → List ℕ → Line
line_by kind a b c d =
    if pointwise nat_eq kind (codes "topic") then Topic a (digits_value 10 b) (digits_value 10 c) (digits_value 10 d)
    else if pointwise nat_eq kind (codes "bytes") then Feed (digits_value 10 a) (bytes_in (decode_of b))
    else if pointwise nat_eq kind (codes "close") then Shut (digits_value 10 a)
    else if pointwise nat_eq kind (codes "clock") then Clock (digits_value 10 a)
    else End

line_in : List (List ℕ) → Line
line_in words = line_by (get_or words 0 []) (get_or words 1 []) (get_or words 2 []) (get_or words 3 []) (get_or words 4 (codes "1"))

value_is : (n : ℕ) → n ≤ LAST_MOMENT → digits_value 10 (decimal n) ≡ n
value_is n h = (decimal_value n (omega arith)).1

-- the last word of a topic's line, or 1 without it
least_in : (least : ℕ) (words : List (List ℕ)) → AreLeast words least → least ≤ LAST_MOMENT → digits_value 10 (get_or words 0 (codes "1")) ≡ least
least_in least words (inl none) le = ap (λ (ws : List (List ℕ)). digits_value 10 (get_or ws 0 (codes "1"))) none.0 ∙ sym none.1
least_in least words (inr one) le = ap (λ (ws : List (List ℕ)). digits_value 10 (get_or ws 0 (codes "1"))) one ∙ value_is least le

is_line_in : (words : List (List ℕ)) (line : Line) → AreWordsOf words line → line_in words ≡ line
unfolding line_in line_by bytes_in
is_line_in words (Topic name p f m) h =
    ap line_in h.spelled ∙ rw (value_is p (omega (arith, h.partitions_fit)), value_is f (omega (arith, h.followers_fit)))
    (ap (Topic name p f) (least_in m h.last h.least_is (omega (arith, h.least_fits))))
is_line_in words (Feed s bytes) h = ap line_in h.spelled ∙ rw (value_is s (omega (arith, h.in_range)), h.digits) refl
is_line_in words (Shut s) h = ap line_in h.spelled ∙ rw (value_is s (omega (arith, h.in_range))) refl
is_line_in words (Clock t) h = ap line_in h.spelled ∙ rw (value_is t h.in_range) refl
is_line_in words End h = ap line_in h

-- words spell one line
pub words_say : (words : List (List ℕ)) (a b : Line) → AreWordsOf words a → AreWordsOf words b → a ≡ b
words_say words a b x y = sym (is_line_in words a x) ∙ is_line_in words b y
