-- What is wrong with a piece of text is one thing, and a line has nothing wrong.
use Rattle.std.proofs.Common.{◌≡◌, ◌≢◌, ℕ, ◌<◌, ◌≤◌, Bool, List, [], ◌∷◌, length, Ok, refl, sym, ap, ◌∙◌, subst, arith, inl, inr, ◌⊎◌}
use Rattle.std.specs.Prelude.{Option, Some, None, MatchOption, codes}
use Rattle.std.specs.Fmt.{decimal}
use Rattle.hex.specs.Hex.{decode_of}
use Rattle.std.specs.List.{All, AllZip}
use Rattle.std.proofs.lemmas.Fmt.{decimal_nonempty}
use Rattle.std.proofs.lemmas.List.Elements.{All-cons}
use Rattle.trace_file.specs.declared.line.Line.{Line}
use Rattle.trace_file.specs.declared.line.Line.TheVariants.{Topic, Feed, Shut, Clock, End}
use Rattle.trace_file.specs.declared.line.LineKind.{LineKind}
use Rattle.trace_file.specs.declared.line.LineKind.TheVariants as kinds
use Rattle.trace_file.specs.declared.line.TheConstants.{LAST_MOMENT, LAST_SESSION, MOST_NUMBER}
use Rattle.trace_file.specs.IsLine.{words_of, AreLeast, AreWordsOf, IsLine}
use Rattle.trace_file.specs.LineFaults.{Part, Number, Digits, form_of, topic_form, AreFilled, IsNumberFor, IsHexFor, IsRestFault, IsWordsFault, IsLineFault, MayStand, IsNewLine, IsPlaceFault, IsPieceFault}
use Rattle.trace_file.proofs.Lines.{words_say}
use Rattle.trace_file.proofs.FewBytes.{decoded_len}

-- words that are all right have no fault
unfaulty : (words : List (List ℕ)) (parts : List Part) (kind : LineKind) → AreFilled words (length parts) → AllZip IsNumberFor words parts → AllZip IsHexFor words parts → IsRestFault words parts kind → ⊥
unfaulty words parts kinds.Word filled numbers hex fault = fault
unfaulty words parts kinds.Form filled numbers hex fault = fault filled
unfaulty words parts kinds.Number filled numbers hex fault = fault.1 numbers
unfaulty words parts kinds.Hex filled numbers hex fault = fault.2 hex
unfaulty words parts kinds.BadTopic filled numbers hex fault = fault
unfaulty words parts kinds.Order filled numbers hex fault = fault
unfaulty words parts kinds.NoEnd filled numbers hex fault = fault
unfaulty words parts kinds.TooLong filled numbers hex fault = fault

none_empty : All (λ (word : List ℕ). word ≢ []) []
none_empty k d lt = absurd (omega arith)

one_more : (word : List ℕ) (words : List (List ℕ)) → word ≢ [] → All (λ w. w ≢ []) words → All (λ w. w ≢ []) (word ∷ words)
one_more word words some rest = All-cons (λ (w : List ℕ). w ≢ []) word words some rest

long_some : (word : List ℕ) → 0 < length word → word ≢ []
long_some word long is = absurd (omega (arith, ap length is))

number_some : (n : ℕ) → n ≤ LAST_MOMENT → decimal n ≢ []
number_some n le = long_some (decimal n) (decimal_nonempty n (omega arith))

two_filled : (first second : List ℕ) → first ≢ [] → second ≢ [] → AreFilled (first ∷ second ∷ []) 2
two_filled first second a b = record { count_is = refl; filled = one_more first (second ∷ []) a (one_more second [] b none_empty) }

-- bytes for what is no session
pub session_fault : (first digits : List ℕ) → first ≢ [] → digits ≢ [] → ((n : ℕ) → n ≤ LAST_SESSION → first ≢ decimal n)
    → IsWordsFault (codes "bytes" ∷ first ∷ digits ∷ []) kinds.Number
session_fault first digits a b none = (two_filled first digits a b, λ h. none h.0.0 h.0.1 h.0.2)

-- bytes whose digits aren't decoded
pub hex_fault : (first digits : List ℕ) (n : ℕ) → first ≢ [] → digits ≢ [] → n ≤ LAST_SESSION → first ≡ decimal n → ((bytes : List ℕ) → decode_of digits ≢ Ok bytes)
    → IsWordsFault (codes "bytes" ∷ first ∷ digits ∷ []) kinds.Hex
hex_fault first digits n a b le is none = (two_filled first digits a b, ((n, le, is), (tt, tt)), λ h. none h.1.0.0 h.1.0.1)

-- nor has a topic's line, with its last word or without
topic_unfaulty : (name : List ℕ) (p f m : ℕ) (last : List (List ℕ)) (kind : LineKind) → 0 < length name → p ≤ MOST_NUMBER → f ≤ MOST_NUMBER → m ≤ MOST_NUMBER → AreLeast last m
    → IsWordsFault (codes "topic" ∷ name ∷ decimal p ∷ decimal f ∷ last) kind → ⊥
topic_unfaulty name p f m last kind named partitions followers least (inl none) fault =
    unfaulty (name ∷ decimal p ∷ decimal f ∷ []) (topic_form 3) kind
    (record {
      count_is = refl;
      filled = one_more name (decimal p ∷ decimal f ∷ []) (long_some name named)
          (one_more (decimal p) (decimal f ∷ []) (number_some p (omega (arith, partitions))) (one_more (decimal f) [] (number_some f (omega (arith, followers))) none_empty));
    })
    (tt, ((p, partitions, refl), ((f, followers, refl), tt))) (tt, (tt, (tt, tt)))
    (subst (λ (ws : List (List ℕ)). IsWordsFault (codes "topic" ∷ name ∷ decimal p ∷ decimal f ∷ ws) kind) none.0 fault)
topic_unfaulty name p f m last kind named partitions followers least (inr one) fault =
    unfaulty (name ∷ decimal p ∷ decimal f ∷ decimal m ∷ []) (topic_form 4) kind
    (record {
      count_is = refl;
      filled = one_more name (decimal p ∷ decimal f ∷ decimal m ∷ []) (long_some name named)
          (one_more (decimal p) (decimal f ∷ decimal m ∷ []) (number_some p (omega (arith, partitions)))
          (one_more (decimal f) (decimal m ∷ []) (number_some f (omega (arith, followers))) (one_more (decimal m) [] (number_some m (omega (arith, least))) none_empty)));
    })
    (tt, ((p, partitions, refl), ((f, followers, refl), ((m, least, refl), tt)))) (tt, (tt, (tt, (tt, tt))))
    (subst (λ (ws : List (List ℕ)). IsWordsFault (codes "topic" ∷ name ∷ decimal p ∷ decimal f ∷ ws) kind) one fault)

-- a line has nothing wrong
words_unfaulty : (words : List (List ℕ)) (line : Line) (kind : LineKind) → AreWordsOf words line → IsWordsFault words kind → ⊥
words_unfaulty words (Topic name p f m) kind h fault =
    topic_unfaulty name p f m h.last kind h.named h.partitions_fit h.followers_fit h.least_fits h.least_is (subst (λ (ws : List (List ℕ)). IsWordsFault ws kind) h.spelled fault)
words_unfaulty words (Feed s bytes) kind h fault =
    unfaulty (decimal s ∷ h.hex ∷ []) (Number LAST_SESSION ∷ Digits ∷ []) kind
    (record {
      count_is = refl;
      filled = one_more (decimal s) (h.hex ∷ []) (number_some s (omega (arith, h.in_range)))
          (one_more h.hex [] (long_some h.hex (omega (arith, h.some, decoded_len h.hex bytes h.digits))) none_empty);
    })
    ((s, omega (arith, h.in_range), refl), (tt, tt)) (tt, ((bytes, h.digits), tt)) (subst (λ (ws : List (List ℕ)). IsWordsFault ws kind) h.spelled fault)
words_unfaulty words (Shut s) kind h fault =
    unfaulty (decimal s ∷ []) (Number LAST_SESSION ∷ []) kind
    (record { count_is = refl; filled = one_more (decimal s) [] (number_some s (omega (arith, h.in_range))) none_empty })
    ((s, omega (arith, h.in_range), refl), tt) (tt, tt) (subst (λ (ws : List (List ℕ)). IsWordsFault ws kind) h.spelled fault)
words_unfaulty words (Clock t) kind h fault =
    unfaulty (decimal t ∷ []) (Number LAST_MOMENT ∷ []) kind
    (record { count_is = refl; filled = one_more (decimal t) [] (number_some t h.in_range) none_empty })
    ((t, h.in_range, refl), tt) (tt, tt) (subst (λ (ws : List (List ℕ)). IsWordsFault ws kind) h.spelled fault)
words_unfaulty words End kind h fault =
    unfaulty [] [] kind (record { count_is = refl; filled = none_empty }) tt tt (subst (λ (ws : List (List ℕ)). IsWordsFault ws kind) h fault)

pub line_unfaulty : (piece : List ℕ) (line : Line) (kind : LineKind) → IsLine piece line → IsLineFault piece kind → ⊥
line_unfaulty piece line kind h fault = words_unfaulty (words_of piece) line kind h fault

-- the three faults of words after a known one
three : (words : List (List ℕ)) (parts : List Part) (kind : LineKind) → IsRestFault words parts kind
    → ((kind ≡ kinds.Form) × ¬ AreFilled words (length parts)) ⊎ ((kind ≡ kinds.Number) × AreFilled words (length parts) × ¬ AllZip IsNumberFor words parts)
    ⊎ ((kind ≡ kinds.Hex) × AreFilled words (length parts) × AllZip IsNumberFor words parts)
three words parts kinds.Word fault = absurd fault
three words parts kinds.Form fault = inl (refl, fault)
three words parts kinds.Number fault = inr (inl (refl, fault.0, fault.1))
three words parts kinds.Hex fault = inr (inr (refl, fault.0, fault.1))
three words parts kinds.BadTopic fault = absurd fault
three words parts kinds.Order fault = absurd fault
three words parts kinds.NoEnd fault = absurd fault
three words parts kinds.TooLong fault = absurd fault

rest_kind : (words : List (List ℕ)) (parts : List Part) (a b : LineKind) → IsRestFault words parts a → IsRestFault words parts b → a ≡ b
rest_kind words parts a b x y =
    elim (three words parts a x) [
      | inl p ↦ elim (three words parts b y) [ inl q ↦ p.0 ∙ sym q.0 | inr (inl q) ↦ absurd (p.1 q.1) | inr (inr q) ↦ absurd (p.1 q.1) ]
      | inr (inl p) ↦ elim (three words parts b y) [ inl q ↦ absurd (q.1 p.1) | inr (inl q) ↦ p.0 ∙ sym q.0 | inr (inr q) ↦ absurd (p.2 q.2) ]
      | inr (inr p) ↦ elim (three words parts b y) [ inl q ↦ absurd (q.1 p.1) | inr (inl q) ↦ absurd (q.2 p.2) | inr (inr q) ↦ p.0 ∙ sym q.0 ]
    ]

form_kind : (words : List (List ℕ)) (form : Option (List Part)) (a b : LineKind) → MatchOption form (a ≡ kinds.Word) (λ parts. IsRestFault words parts a)
    → MatchOption form (b ≡ kinds.Word) (λ parts. IsRestFault words parts b) → a ≡ b
form_kind words None a b x y = x ∙ sym y
form_kind words (Some parts) a b x y = rest_kind words parts a b x y

words_kind : (words : List (List ℕ)) (a b : LineKind) → IsWordsFault words a → IsWordsFault words b → a ≡ b
words_kind [] a b x y = absurd x
words_kind (word ∷ words) a b x y = form_kind words (form_of word (length words)) a b x y

-- the two faults of a line's place
two : (only_topics : Bool) (before : List Line) (line : Line) (kind : LineKind) → IsPlaceFault only_topics before line kind
    → ((kind ≡ kinds.Order) × ¬ MayStand only_topics before line) ⊎ ((kind ≡ kinds.BadTopic) × MayStand only_topics before line × ¬ IsNewLine before line)
two only_topics before line kinds.Word fault = absurd fault
two only_topics before line kinds.Form fault = absurd fault
two only_topics before line kinds.Number fault = absurd fault
two only_topics before line kinds.Hex fault = absurd fault
two only_topics before line kinds.BadTopic fault = inr (refl, fault.0, fault.1)
two only_topics before line kinds.Order fault = inl (refl, fault)
two only_topics before line kinds.NoEnd fault = absurd fault
two only_topics before line kinds.TooLong fault = absurd fault

place_kind : (only_topics : Bool) (before : List Line) (line : Line) (a b : LineKind) → IsPlaceFault only_topics before line a → IsPlaceFault only_topics before line b → a ≡ b
place_kind only_topics before line a b x y =
    elim (two only_topics before line a x) [
      | inl p ↦ elim (two only_topics before line b y) [ inl q ↦ p.0 ∙ sym q.0 | inr q ↦ absurd (p.1 q.1) ]
      | inr p ↦ elim (two only_topics before line b y) [ inl q ↦ absurd (q.1 p.1) | inr q ↦ p.0 ∙ sym q.0 ]
    ]

-- a line that may stand at its place has nothing wrong
pub piece_unfaulty : (only_topics : Bool) (before : List Line) (piece : List ℕ) (line : Line) (kind : LineKind) → IsLine piece line → MayStand only_topics before line → IsNewLine before line
    → IsPieceFault only_topics before piece kind → ⊥
piece_unfaulty only_topics before piece line kind h may new (inl fault) = line_unfaulty piece line kind h fault
piece_unfaulty only_topics before piece line kind h may new (inr fault) =
    let same : fault.0 ≡ line = words_say (words_of piece) fault.0 line fault.1 h in
    elim (two only_topics before line kind (subst (λ (l : Line). IsPlaceFault only_topics before l kind) same fault.2)) [ inl p ↦ p.1 may | inr p ↦ p.2 new ]

-- and what is wrong is one thing
pub piece_kind : (only_topics : Bool) (before : List Line) (piece : List ℕ) (a b : LineKind) → IsPieceFault only_topics before piece a → IsPieceFault only_topics before piece b → a ≡ b
piece_kind only_topics before piece a b (inl x) (inl y) = words_kind (words_of piece) a b x y
piece_kind only_topics before piece a b (inl x) (inr y) = absurd (line_unfaulty piece y.0 a y.1 x)
piece_kind only_topics before piece a b (inr x) (inl y) = absurd (line_unfaulty piece x.0 b x.1 y)
piece_kind only_topics before piece a b (inr x) (inr y) =
    let same : y.0 ≡ x.0 = words_say (words_of piece) y.0 x.0 y.1 x.1 in
    place_kind only_topics before x.0 a b x.2 (subst (λ (l : Line). IsPlaceFault only_topics before l b) same y.2)
