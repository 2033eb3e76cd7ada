-- Items that are read one after the other: those that were read, and what reading the others gives.
use Rattle.std.proofs.Common.{◌≡◌, ℕ, suc, ◌+◌, ◌-◌, ◌<◌, List, [], ◌∷◌, ◌++◌, length, map, Result, Ok, Err, refl, sym, ap, subst, ◌∙◌, append_assoc, arith}
use Rattle.std.specs.Prelude.{IsErrAnd}
use Rattle.std.specs.List.{flat_map, AllByRecursion}
use Rattle.std.proofs.lemmas.List.{append-nil, length_push}
use Rattle.std.proofs.lemmas.Grind.{flat_map-append}
use Rattle.kbytes.specs.Cursor.{Cursor}
use Rattle.kbytes.specs.Reading.{◌>>=◌}
use Rattle.kbytes.specs.Field.{Field}
use Rattle.kwire.specs.declared.frame.WireFault.{WireFault}
use Rattle.kwire.specs.declared.frame.WireFault.TheVariants.{BadRequest, UnknownApi, Unsupported, TooMany, Twice, NoMemory}
use Rattle.kwire.specs.Layouts.{End}
use Rattle.kwire.specs.Reading.{ReadFields, times_at, layout_at, IsFaultOf, ReadsItem}

abbrev pub got : List Field → ℕ → Cursor → ReadFields
got fs named c = Ok (fs, named, c)

-- these fields, and those that reading gives
abbrev pub after : List Field → ReadFields → ReadFields
after front read = read >>= λ others. Ok (front ++ others.0, others.1, others.2)

after_none : (read : ReadFields) → read ≡ after [] read
after_none (Ok x) = refl
after_none (Err e) = refl

after_more : (front fs : List Field) (read : ReadFields) → after front (after fs read) ≡ after (front ++ fs) read
after_more front fs (Ok x) = ap (λ all. got all x.1 x.2) (sym (append_assoc front fs x.0))
after_more front fs (Err e) = refl

module _ {X : Type 0} (each : ℕ → Cursor → ReadFields) (spelled : X → List Field) where
  abbrev pub ItemsSoFar : ℕ → ℕ → Cursor → List X → ℕ → Cursor → Type 0
  ItemsSoFar n before start items named c = times_at each (layout_at End) n before start ≡ after (flat_map spelled items) (times_at each (layout_at End) (n - length items) named c)

  pub items_start : (n before : ℕ) (c : Cursor) → ItemsSoFar n before c [] before c
  items_start n before c = after_none (times_at each (layout_at End) n before c) ∙ ap (λ (k : ℕ). after [] (times_at each (layout_at End) k before c)) (omega arith)

  abbrev one_more : ℕ → ℕ → Cursor → ReadFields
  one_more left named c = each named c >>= λ first. after first.0 (times_at each (layout_at End) left first.1 first.2)

  one_left : (n before : ℕ) (start : Cursor) (items : List X) (named : ℕ) (c : Cursor) → length items < n → ItemsSoFar n before start items named c
      → times_at each (layout_at End) n before start ≡ after (flat_map spelled items) (one_more (n - (length items + 1)) named c)
  unfolding times_at
  one_left n before start items named c lt so_far =
      let left : n - length items ≡ suc (n - (length items + 1)) = omega arith in
      so_far ∙ ap (λ (k : ℕ). after (flat_map spelled items) (times_at each (layout_at End) k named c)) left

  pub items_more : (n before : ℕ) (start : Cursor) (items : List X) (named : ℕ) (c : Cursor) (x : X) (more : ℕ) (d : Cursor) → length items < n → ItemsSoFar n before start items named c
      → each named c ≡ Ok (spelled x, more, d) → ItemsSoFar n before start (items ++ x ∷ []) more d
  items_more n before start items named c x more d lt so_far is =
      let front = flat_map spelled items in
      let len : n - (length items + 1) ≡ n - length (items ++ x ∷ []) = omega (arith, length_push items x) in
      let all : front ++ spelled x ≡ flat_map spelled (items ++ x ∷ []) = sym (flat_map-append spelled items (x ∷ []) ∙ ap (λ (fs : List Field). front ++ fs) (append-nil (spelled x))) in
      one_left n before start items named c lt so_far
      ∙ ap (λ (read : ReadFields). after front (read >>= λ first. after first.0 (times_at each (layout_at End) (n - (length items + 1)) first.1 first.2))) is
      ∙ after_more front (spelled x) (times_at each (layout_at End) (n - (length items + 1)) more d)
      ∙ ap (λ (fs : List Field). after fs (times_at each (layout_at End) (n - (length items + 1)) more d)) all
      ∙ ap (λ (k : ℕ). after (flat_map spelled (items ++ x ∷ [])) (times_at each (layout_at End) k more d)) len

  pub items_refused : (n before : ℕ) (start : Cursor) (items : List X) (named : ℕ) (c : Cursor) (e : WireFault) → length items < n → ItemsSoFar n before start items named c
      → each named c ≡ Err e → times_at each (layout_at End) n before start ≡ Err e
  items_refused n before start items named c e lt so_far is =
      one_left n before start items named c lt so_far
      ∙ ap (λ (read : ReadFields). after (flat_map spelled items) (read >>= λ first. after first.0 (times_at each (layout_at End) (n - (length items + 1)) first.1 first.2))) is

  pub items_whole : (n before : ℕ) (start : Cursor) (items : List X) (named : ℕ) (c : Cursor) → length items ≡ n → ItemsSoFar n before start items named c
      → times_at each (layout_at End) n before start ≡ Ok (flat_map spelled items, named, c)
  unfolding times_at layout_at
  items_whole n before start items named c len so_far =
      let none : n - length items ≡ 0 = omega arith in
      so_far ∙ ap (λ (k : ℕ). after (flat_map spelled items) (times_at each (layout_at End) k named c)) none ∙ ap (λ (fs : List Field). got fs named c) (append-nil (flat_map spelled items))

-- one more that is so
pub all_pushed : {X : Type 0} (P : X → Type 0) (xs : List X) (x : X) → AllByRecursion P xs → P x → AllByRecursion P (xs ++ x ∷ [])
all_pushed P [] x all is = (is, tt)
all_pushed P (y ∷ xs) x all is = (all.0, all_pushed P xs x all.1 is)

-- a fault of one item is the fault of all
pub fault_on : {X Y : Type 0} (one : Result X WireFault) (all : Result Y WireFault) → ((e : WireFault) → one ≡ Err e → all ≡ Err e) → (e : WireFault) → IsFaultOf one e → IsFaultOf all e
fault_on one all on (BadRequest at) h = on (BadRequest at) h
fault_on one all on (UnknownApi key) h = on (UnknownApi key) h
fault_on one all on (Unsupported key version) h = on (Unsupported key version) h
fault_on one all on (TooMany count) h = on (TooMany count) h
fault_on one all on (Twice topic partition) h = on (Twice topic partition) h
fault_on one all on NoMemory h = tt

-- a fault that was handed on
pub handed_on : {X : Type 0} (spelled : X → List Field) (r : Result X WireFault) (e : WireFault) (named : ℕ) (new : Cursor) (all : ReadFields) → IsErrAnd r (λ f. f ≡ e) → IsFaultOf all e → ReadsItem spelled named new r all
handed_on spelled (Ok x) e named new all is h = absurd is
handed_on spelled (Err f) e named new all is h = subst (IsFaultOf all) (sym is) h

-- items that are seen as others
pub flat_mapped : {X Y : Type 0} (see : X → Y) (spelled : Y → List Field) (xs : List X) → flat_map (λ x. spelled (see x)) xs ≡ flat_map spelled (map see xs)
flat_mapped see spelled [] = refl
flat_mapped see spelled (x ∷ xs) = ap (λ (fs : List Field). spelled (see x) ++ fs) (flat_mapped see spelled xs)
