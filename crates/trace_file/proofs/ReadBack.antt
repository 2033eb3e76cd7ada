-- A line that is written is read back.
use Rattle.std.proofs.Common.{◌≡◌, ℕ, ◌<◌, ◌≤◌, Bool, true, false, nat_le, ◌&&◌, eqb, List, [], ◌∷◌, ◌++◌, length, get_or, Ok, refl, sym, ap, subst, ◌∙◌, arith, append_assoc, cond, inl, inr}
use Rattle.std.specs.Prelude.{codes}
use Rattle.std.specs.Fmt.{decimal}
use Rattle.std.specs.List.{All, list_all, slice_split}
use Rattle.std.proofs.lemmas.Bool.{ne_eqb, cases_lt, lt-ltb, le-ltb}
use Rattle.std.proofs.lemmas.List.{get_or_default}
use Rattle.std.proofs.lemmas.List.Elements.{All-cons, All-append}
use Rattle.std.proofs.lemmas.List.Sums.{AllPass-from_list_all}
use Rattle.std.proofs.lemmas.List.Splits.{slice_split_at, slice_split_none}
use Rattle.std.proofs.lemmas.Str.Parse.{digit_at}
use Rattle.hex.specs.Hex.{is_hex_digit, encode_lower, decode_of, IsBytes}
use Rattle.hex.proofs.HexLemmas.{decode_of-encode_lower, decode_of-ok}
use Rattle.kwire.specs.Configuration.{is_name_byte}
use Rattle.trace_file.specs.declared.line.Line.{Line}
use Rattle.trace_file.specs.declared.line.Line.TheVariants.{Topic, Feed, Shut, Clock, End}
use Rattle.trace_file.specs.declared.line.TheConstants.{LAST_MOMENT}
use Rattle.trace_file.specs.IsLine.{words_of, AreLeast, IsLine}
use Rattle.trace_file.specs.PrintedLine.{line_of, least_words, text_of, IsWritable}
use Rattle.trace_file.specs.Trace.{pieces_of}
use Rattle.trace_file.proofs.Cuts.{pieces_of-cut}
use Rattle.trace_file.proofs.Numbers.{decimal_value}

-- a word without this byte
abbrev Lacks : ℕ → List ℕ → Type 0
Lacks byte word = All (λ c. eqb c byte ≡ false) word

-- a word without spaces and line feeds
abbrev IsWord : List ℕ → Type 0
IsWord word = Lacks 32 word × Lacks 10 word

-- bytes that pass a test which this byte doesn't
lacks_by : (test : ℕ → Bool) (byte : ℕ) (word : List ℕ) → test byte ≡ false → All (λ c. test c ≡ true) word → Lacks byte word
lacks_by test byte word fails all k d lt =
    ne_eqb (get_or word k d) byte (λ is. let passes = all k d lt in let same = ap test is in absurd cc)

word_by : (test : ℕ → Bool) (word : List ℕ) → test 32 ≡ false → test 10 ≡ false → All (λ c. test c ≡ true) word → IsWord word
word_by test word space feed all = (lacks_by test 32 word space all, lacks_by test 10 word feed all)

abbrev is_low_letter : ℕ → Bool
is_low_letter c = nat_le 97 c && nat_le c 122

kind_word : (word : List ℕ) → list_all is_low_letter word ≡ true → IsWord word
kind_word word all = word_by is_low_letter word refl refl (AllPass-from_list_all is_low_letter word all)

number_word : (n : ℕ) → n ≤ LAST_MOMENT → IsWord (decimal n)
number_word n le =
    let digits = (decimal_value n (omega arith)).0 in (
      λ k d lt. let at = digit_at (decimal n) k digits lt in ne_eqb (get_or (decimal n) k d) 32 (λ is. absurd (omega (arith, at.0, same_at (decimal n) k d lt, is))),
      λ k d lt. let at = digit_at (decimal n) k digits lt in ne_eqb (get_or (decimal n) k d) 10 (λ is. absurd (omega (arith, at.0, same_at (decimal n) k d lt, is))),
    )
  where
    same_at : (word : List ℕ) (k d : ℕ) → k < length word → get_or word k d ≡ get_or word k 0
    same_at word k d lt = get_or_default word k d 0 lt

hex_word : (bytes : List ℕ) → IsBytes bytes → IsWord (encode_lower bytes)
hex_word bytes are = word_by is_hex_digit (encode_lower bytes) refl refl (decode_of-ok (encode_lower bytes) bytes (decode_of-encode_lower bytes are)).1

-- what is decoded is one word
pub decoded_word : (digits bytes : List ℕ) → decode_of digits ≡ Ok bytes → words_of digits ≡ digits ∷ []
decoded_word digits bytes is = slice_split_none (λ c. eqb c 32) digits (lacks_by is_hex_digit 32 digits refl (decode_of-ok digits bytes is).1)

name_word : (name : List ℕ) → list_all is_name_byte name ≡ true → IsWord name
name_word name all = word_by is_name_byte name refl refl (AllPass-from_list_all is_name_byte name all)

-- words separated by one space
joined : List (List ℕ) → List ℕ
joined [] = []
joined (word ∷ []) = word
joined (word ∷ next ∷ words) = word ++ 32 ∷ joined (next ∷ words)

line_of-joined : (words : List (List ℕ)) → line_of words ≡ joined words ++ 10 ∷ []
unfolding joined
line_of-joined [] = refl
line_of-joined (word ∷ []) = refl
line_of-joined (word ∷ next ∷ words) =
    ap (λ (xs : List ℕ). word ++ 32 ∷ xs) (line_of-joined (next ∷ words)) ∙ sym (append_assoc word (32 ∷ joined (next ∷ words)) (10 ∷ []))

-- every word is one
AreWords : List (List ℕ) → Type 0
AreWords [] = Unit {0}
AreWords (word ∷ words) = IsWord word × AreWords words

joined_words : (word : List ℕ) (words : List (List ℕ)) → AreWords (word ∷ words) → words_of (joined (word ∷ words)) ≡ word ∷ words
unfolding joined AreWords
joined_words word [] h = slice_split_none (λ c. eqb c 32) word h.0.0
joined_words word (next ∷ words) h =
    slice_split_at (λ c. eqb c 32) word 32 (joined (next ∷ words)) h.0.0 refl ∙ ap (λ (ws : List (List ℕ)). word ∷ ws) (joined_words next words h.1)

joined_lacks : (words : List (List ℕ)) → AreWords words → Lacks 10 (joined words)
unfolding joined AreWords
joined_lacks [] h = λ k d lt. absurd (omega arith)
joined_lacks (word ∷ []) h = h.0.1
joined_lacks (word ∷ next ∷ words) h =
    All-append (λ c. eqb c 10 ≡ false) word (32 ∷ joined (next ∷ words)) h.0.1 (All-cons (λ c. eqb c 10 ≡ false) 32 (joined (next ∷ words)) refl (joined_lacks (next ∷ words) h.1))

-- the text of words is one piece, with these words
words_back : (word : List ℕ) (words : List (List ℕ)) (rest : List ℕ) → AreWords (word ∷ words)
    → (piece : List ℕ) × (words_of piece ≡ word ∷ words) × (pieces_of (line_of (word ∷ words) ++ rest) ≡ piece ∷ pieces_of rest)
words_back word words rest h =
    let piece = joined (word ∷ words) in
    let text : line_of (word ∷ words) ++ rest ≡ piece ++ 10 ∷ rest = ap (λ (xs : List ℕ). xs ++ rest) (line_of-joined (word ∷ words)) ∙ append_assoc piece (10 ∷ []) rest in
    let cut = ap (slice_split (λ c. eqb c 10)) text ∙ slice_split_at (λ c. eqb c 10) piece 10 rest (joined_lacks (word ∷ words) h) refl in
    (piece, joined_words word words h, pieces_of-cut (line_of (word ∷ words) ++ rest) piece rest cut)

-- the words of a topic's least number of in-sync replicas are words, and tell it
least_back : (least : ℕ) → 0 < least → least ≤ LAST_MOMENT → AreWords (least_words least) × AreLeast (least_words least) least
unfolding AreWords
least_back least some le =
    elim (cases_lt 1 least) [
      | inl more ↦
          let is : least_words least ≡ decimal least ∷ [] = ap (λ (b : Bool). cond b (decimal least ∷ []) []) (lt-ltb 1 least more) in
          (subst AreWords (sym is) (number_word least le, tt), inr is)
      | inr one ↦
          let is : least_words least ≡ [] = ap (λ (b : Bool). cond b (decimal least ∷ []) []) (le-ltb 1 least one) in
          (subst AreWords (sym is) tt, inl (is, omega (arith, some, one)))
    ]

pub line_back : (line : Line) (rest : List ℕ) → IsWritable line → (piece : List ℕ) × IsLine piece line × (pieces_of (text_of line ++ rest) ≡ piece ∷ pieces_of rest)
unfolding AreWords
line_back (Topic name p f m) rest h =
    let last = least_back m h.3 (omega (arith, h.4)) in
    let back = words_back (codes "topic") (name ∷ decimal p ∷ decimal f ∷ least_words m) rest
    (kind_word (codes "topic") refl, (name_word name h.0.bytes, (number_word p (omega (arith, h.1)), (number_word f (omega (arith, h.2)), last.0))))
    in (
      back.0,
      record { last = least_words m; spelled = back.1; named = h.0.some; partitions_fit = h.1; followers_fit = h.2; least_is = last.1; least_fits = h.4 },
      back.2,
    )
line_back (Feed s bytes) rest h =
    let back = words_back (codes "bytes") (decimal s ∷ encode_lower bytes ∷ []) rest (kind_word (codes "bytes") refl, (number_word s (omega (arith, h.0)), (hex_word bytes h.2, tt)))
    in (back.0, record { hex = encode_lower bytes; spelled = back.1; digits = decode_of-encode_lower bytes h.2; some = h.1; in_range = h.0 }, back.2)
line_back (Shut s) rest h =
    let back = words_back (codes "close") (decimal s ∷ []) rest (kind_word (codes "close") refl, (number_word s (omega (arith, h)), tt))
    in (back.0, record { spelled = back.1; in_range = h }, back.2)
line_back (Clock t) rest h =
    let back = words_back (codes "clock") (decimal t ∷ []) rest (kind_word (codes "clock") refl, (number_word t h, tt))
    in (back.0, record { spelled = back.1; in_range = h }, back.2)
line_back End rest h =
    let back = words_back (codes "end") [] rest (kind_word (codes "end") refl, tt)
    in (back.0, back.1, back.2)
