-- A text that is cut after line feeds, and read in shares.
use Rattle.std.proofs.Common.{◌≡◌, ℕ, ◌+◌, ◌-◌, ◌*◌, ◌<◌, ◌≤◌, Bool, true, false, cond, eqb, List, [], ◌∷◌, ◌++◌, length, get_or, take, drop, refl, sym, ap, subst, ◌∙◌, arith, append-nil, length-drop, Bor}
use Rattle.std.specs.Prelude.{Result, Ok}
use Rattle.std.proofs.lemmas.List.{flat_map_more, take-append-drop, drop_more, take_more, take_all, get_or-drop}
use Rattle.std.proofs.lemmas.List.Splits.{slice_split-cons_yes}
use Rattle.std.specs.List.{AllZip, slice_split, onto_first}
use Rattle.kbytes.specs.declared.no_memory.NoMemory.{NoMemory}
use Rattle.trace_file.specs.declared.reading.PartLines.{PartLines}
use Rattle.trace_file.specs.Shares.{IsShareRead, pieces_in}
use Rattle.trace_file.specs.TextRead.{AreLinesOf}
use Rattle.trace_file.specs.Trace.{pieces_of, without_empty_end}
use Rattle.trace_file.proofs.Cuts.{first_part}

-- ---- the cut

-- a text is cut at the byte that ends its front, whatever stands behind
split_seam : (p : ℕ → Bool) (front behind : List ℕ) (c : ℕ) → p c ≡ true → slice_split p (front ++ c ∷ behind) ≡ slice_split p front ++ slice_split p behind
split_seam p [] behind c cuts = slice_split-cons_yes p c behind cuts
split_seam p (x ∷ front) behind c cuts = by_test (p x) (split_seam p front behind c cuts)
  where
    onto_more : slice_split p (front ++ c ∷ behind) ≡ slice_split p front ++ slice_split p behind → onto_first x (slice_split p (front ++ c ∷ behind)) ≡ onto_first x (slice_split p front) ++ slice_split p behind
    onto_more e =
        let first = first_part p front in
        ap (onto_first x) e ∙ ap (λ (parts : List (List ℕ)). onto_first x (parts ++ slice_split p behind)) first.2 ∙ ap (λ (parts : List (List ℕ)). onto_first x parts ++ slice_split p behind) (sym first.2)

    by_test : (b : Bool) → slice_split p (front ++ c ∷ behind) ≡ slice_split p front ++ slice_split p behind
        → cond b ([] ∷ slice_split p (front ++ c ∷ behind)) (onto_first x (slice_split p (front ++ c ∷ behind))) ≡ cond b ([] ∷ slice_split p front) (onto_first x (slice_split p front)) ++ slice_split p behind
    by_test true e = ap (λ (parts : List (List ℕ)). [] ∷ parts) e
    by_test false e = onto_more e

-- only the last part can be left out
end_behind : (parts more : List (List ℕ)) (part : List ℕ) → without_empty_end (parts ++ part ∷ more) ≡ parts ++ without_empty_end (part ∷ more)
end_behind [] more part = refl
end_behind (p ∷ []) more part = refl
end_behind (p ∷ q ∷ parts) more part = ap (λ (ps : List (List ℕ)). p ∷ ps) (end_behind (q ∷ parts) more part)

pub pieces_fed : (front behind : List ℕ) → pieces_of (front ++ 10 ∷ behind) ≡ slice_split (λ c. eqb c 10) front ++ pieces_of behind
pieces_fed front behind =
    let parts = slice_split (λ c. eqb c 10) front in
    let first = first_part (λ c. eqb c 10) behind in
    ap without_empty_end (split_seam (λ c. eqb c 10) front behind 10 refl)
    ∙ ap (λ (more : List (List ℕ)). without_empty_end (parts ++ more)) first.2
    ∙ end_behind parts first.1 first.0
    ∙ ap (λ (more : List (List ℕ)). parts ++ without_empty_end more) (sym first.2)

-- cut after a line feed, a text has the pieces of its front and then those behind
pub pieces_seam : (front behind : List ℕ) → pieces_of (front ++ 10 ∷ behind) ≡ pieces_of (front ++ 10 ∷ []) ++ pieces_of behind
pieces_seam front behind =
    pieces_fed front behind ∙ ap (λ (ps : List (List ℕ)). ps ++ pieces_of behind) (sym (pieces_fed front [] ∙ append-nil (slice_split (λ c. eqb c 10) front)))

pieces_cut : (text : List ℕ) (i : ℕ) → i < length text → get_or text i 0 ≡ 10 → pieces_of text ≡ pieces_of (take (i + 1) text) ++ pieces_of (drop (i + 1) text)
pieces_cut text i lt here =
    let front = take i text in
    let behind = drop (i + 1) text in
    let fed : take (i + 1) text ≡ front ++ 10 ∷ [] = take_more text i 0 lt ∙ ap (λ (c : ℕ). front ++ c ∷ []) here in
    let whole : text ≡ front ++ 10 ∷ behind = sym (take-append-drop i text) ∙ ap (λ (rest : List ℕ). front ++ rest) (drop_more text i 0 lt) ∙ ap (λ (c : ℕ). front ++ c ∷ behind) here in
    ap pieces_of whole ∙ pieces_seam front behind ∙ ap (λ (t : List ℕ). pieces_of t ++ pieces_of behind) (sym fed)

pub pieces_cut_from : (text : List ℕ) (place at : ℕ) → at < length (take (length text - place) (drop place text)) → get_or (take (length text - place) (drop place text)) at 0 ≡ 10
    → pieces_of text ≡ pieces_of (take (place + at + 1) text) ++ pieces_of (drop (place + at + 1) text)
pieces_cut_from text place at lt here =
    let rest : take (length text - place) (drop place text) ≡ drop place text = take_all (length text - place) (drop place text) (omega (arith, length-drop place text)) in
    let within : at < length (drop place text) = subst (λ (l : List ℕ). at < length l) rest lt in
    pieces_cut text (place + at) (omega (arith, within, length-drop place text))
    (sym (get_or-drop place text at 0) ∙ ap (λ (l : List ℕ). get_or l at 0) (sym rest) ∙ here)

pub pieces_push : (shares : List (Bor (List ℕ))) (share : Bor (List ℕ)) → pieces_in (shares ++ share ∷ []) ≡ pieces_in shares ++ pieces_of share.now
pieces_push shares share = sym (flat_map_more (λ (s : Bor (List ℕ)). pieces_of s.now) [] shares share)

-- each share has more bytes than this
pub one_more : (shares size after rest text : ℕ) → shares * (size + 1) + rest ≤ text → size + after < rest → (shares + 1) * (size + 1) + after ≤ text
one_more shares size after rest text few shorter = omega (arith, next shares (size + 1), few, shorter)
  where
    next : (n m : ℕ) → (n + 1) * m ≡ m + n * m
    next n m = omega arith

-- ---- all shares

-- one share more was read
pub one_more_read : (shares : List (Bor (List ℕ))) (reads : List (Result PartLines NoMemory)) (share : Bor (List ℕ)) (read : Result PartLines NoMemory) → AllZip IsShareRead shares reads
    → IsShareRead share read → AllZip IsShareRead (shares ++ share ∷ []) (reads ++ read ∷ [])
one_more_read [] [] share read before more = (more, tt)
one_more_read [] (r ∷ reads) share read before more = absurd before
one_more_read (s ∷ shares) [] share read before more = absurd before
one_more_read (s ∷ shares) (r ∷ reads) share read before more = (before.0, one_more_read shares reads share read before.1 more)

-- the first share that is left, and its lines
pub next_share : (shares : List (Bor (List ℕ))) (part : PartLines) (rest : List (Result PartLines NoMemory)) → AllZip IsShareRead shares (Ok part ∷ rest)
    → (share : Bor (List ℕ)) × (more : List (Bor (List ℕ))) × (shares ≡ share ∷ more) × AreLinesOf (pieces_of share.now) part × AllZip IsShareRead more rest
next_share [] part rest h = absurd h
next_share (share ∷ more) part rest h = (share, more, refl, h.0, h.1)

pub no_share : (shares : List (Bor (List ℕ))) → AllZip IsShareRead shares [] → shares ≡ []
no_share [] h = refl
no_share (share ∷ shares) h = absurd h
