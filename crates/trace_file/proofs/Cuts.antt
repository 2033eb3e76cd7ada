-- Cutting a text at a byte.
use Rattle.std.proofs.Common.{◌≡◌, ◌≢◌, ℕ, ◌+◌, ◌<◌, ◌≤◌, Bool, true, false, cond, eqb, List, [], ◌∷◌, ◌++◌, length, get_or, take, drop, refl, sym, ap, ◌∙◌, eq-eqb, arith}
use Rattle.std.proofs.lemmas.Bool.{ne_eqb}
use Rattle.std.proofs.lemmas.List.{take-append-drop, drop_more, get_or-take, get_or_default, length-take-le}
use Rattle.std.proofs.lemmas.List.Splits.{slice_split_at, slice_split_none, length-slice_split}
use Rattle.std.specs.List.{slice_split, onto_first, All}
use Rattle.trace_file.specs.Trace.{pieces_of, without_empty_end}

-- the byte isn't among the first of a text
none_before : (text : List ℕ) (byte i : ℕ) → i ≤ length text → ((k : ℕ) → k < i → get_or text k 0 ≢ byte) → All (λ c. eqb c byte ≡ false) (take i text)
none_before text byte i le none = λ k d lt.
    let within : k < i = omega (arith, length-take-le i text le) in
    let long : k < length text = omega arith in
    let at : get_or (take i text) k d ≡ get_or text k 0 = get_or-take i text k d within ∙ get_or_default text k d 0 long in
    ne_eqb (get_or (take i text) k d) byte (λ e. none k within (sym at ∙ e))

pub cut_found : (text : List ℕ) (byte i : ℕ) → i < length text → ((k : ℕ) → k < i → get_or text k 0 ≢ byte) → get_or text i 0 ≡ byte
    → slice_split (λ c. eqb c byte) text ≡ take i text ∷ slice_split (λ c. eqb c byte) (drop (i + 1) text)
cut_found text byte i lt none here =
    let parts : text ≡ take i text ++ get_or text i 0 ∷ drop (i + 1) text = sym (take-append-drop i text) ∙ ap (λ (xs : List ℕ). take i text ++ xs) (drop_more text i 0 lt) in
    ap (slice_split (λ c. eqb c byte)) parts
    ∙ slice_split_at (λ c. eqb c byte) (take i text) (get_or text i 0) (drop (i + 1) text) (none_before text byte i (omega arith) none) (eq-eqb (get_or text i 0) byte here)

pub cut_nowhere : (text : List ℕ) (byte : ℕ) → ((k : ℕ) → k < length text → get_or text k 0 ≢ byte) → slice_split (λ c. eqb c byte) text ≡ text ∷ []
cut_nowhere text byte none =
    slice_split_none (λ c. eqb c byte) text (λ k d lt. ne_eqb (get_or text k d) byte (λ e. none k lt (get_or_default text k 0 d lt ∙ e)))

-- there is always a first part
pub first_part : (p : ℕ → Bool) (text : List ℕ) → (part : List ℕ) × (parts : List (List ℕ)) × (slice_split p text ≡ part ∷ parts)
first_part p [] = ([], [], refl)
first_part p (c ∷ cs) = by_test (p c) (first_part p cs)
  where
    by_test : (b : Bool) → ((part : List ℕ) × (parts : List (List ℕ)) × (slice_split p cs ≡ part ∷ parts)) → (part : List ℕ) × (parts : List (List ℕ)) × (cond b ([] ∷ slice_split p cs) (onto_first c (slice_split p cs)) ≡ part ∷ parts)
    by_test true found = ([], slice_split p cs, refl)
    by_test false found = (c ∷ found.0, found.1, ap (onto_first c) found.2)

-- what was cut isn't one part alone
pub not_alone : (p : ℕ → Bool) (text front behind part : List ℕ) → slice_split p text ≡ front ∷ slice_split p behind → slice_split p text ≡ part ∷ [] → ⊥
not_alone p text front behind part e alone =
    let next = first_part p behind in
    let both : front ∷ (next.0 ∷ next.1) ≡ part ∷ [] = ap (λ (parts : List (List ℕ)). front ∷ parts) (sym next.2) ∙ sym e ∙ alone in
    absurd cc

pub pieces_of-cut : (text piece behind : List ℕ) → slice_split (λ c. eqb c 10) text ≡ piece ∷ slice_split (λ c. eqb c 10) behind → pieces_of text ≡ piece ∷ pieces_of behind
pieces_of-cut text piece behind e =
    let next = first_part (λ c. eqb c 10) behind in
    ap without_empty_end e ∙ ap (λ (parts : List (List ℕ)). without_empty_end (piece ∷ parts)) next.2 ∙ ap (λ (parts : List (List ℕ)). piece ∷ without_empty_end parts) (sym next.2)

pub pieces_of-last : (text : List ℕ) → length text ≢ 0 → slice_split (λ c. eqb c 10) text ≡ text ∷ [] → pieces_of text ≡ text ∷ []
pieces_of-last text some e = ap without_empty_end e ∙ ap (λ (b : Bool). cond b [] (text ∷ [])) (ne_eqb (length text) 0 some)

-- what is cut has a part at least
pub some_parts : (p : ℕ → Bool) (text : List ℕ) → 0 < length (slice_split p text)
some_parts p text = omega (arith, length-slice_split p text)
