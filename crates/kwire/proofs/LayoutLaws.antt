-- Layouts: one after another, and that reading by a layout gives its fields, or the first fault.
use Rattle.std.proofs.Common.{◌≡◌, ℕ, zero, suc, ◌+◌, Bool, true, false, cond, ltb, List, [], ◌∷◌, ◌++◌, length, Ok, Err, refl, sym, ap, subst, ◌∙◌, append_assoc, arith, inl, inr}
use Rattle.std.proofs.lemmas.Bool.{ltb-false}
use Rattle.std.proofs.lemmas.Bool.Decides.{Decides-ltb}
use Rattle.std.proofs.lemmas.List.{length-append}
use Rattle.kbytes.specs.Octets.{IsBytes}
use Rattle.kbytes.specs.Cursor.{Cursor, rest_of}
use Rattle.kbytes.specs.Reading.{◌>>=◌, Spells}
use Rattle.kbytes.specs.Field.{Field, field, fields}
use Rattle.kwire.specs.declared.frame.WireFault.{WireFault}
use Rattle.kwire.specs.declared.frame.WireFault.TheVariants.{TooMany}
use Rattle.kwire.specs.declared.request.TheConstants.{MOST_NAMED}
use Rattle.kwire.specs.Layouts.{Kind, Things, Layout, End, ◌⨾◌, Many, followed_by, times, count_of, total, named_with, MayCome, left_after, named_after, LeadTo, IsFaultAt}
use Rattle.kwire.specs.Reading.{ReadField, ReadFields, field_at, within, times_at, layout_at}
use Rattle.kwire.proofs.Places.{Covers, fields-append, covers_nothing, covers_both, covers_field}
use Rattle.kwire.proofs.KindLaws.{SoundField, IsReadField, field_sound}

-- ---- one layout after another

pub seq_assoc : (a b c : Layout) → followed_by (followed_by a b) c ≡ followed_by a (followed_by b c)
unfolding followed_by
seq_assoc End b c = refl
seq_assoc (kind ⨾ a) b c = ap (λ (l : Layout). kind ⨾ l) (seq_assoc a b c)
seq_assoc (Many kind things each a) b c = ap (Many kind things each) (seq_assoc a b c)

times_then : (n : ℕ) (each next c : Layout) → followed_by (times n each next) c ≡ times n each (followed_by next c)
unfolding times
times_then zero each next c = refl
times_then (suc n) each next c = seq_assoc each (times n each next) c ∙ ap (followed_by each) (times_then n each next c)

pub seq_end : (a : Layout) → followed_by a End ≡ a
unfolding followed_by
seq_end End = refl
seq_end (kind ⨾ a) = ap (λ (l : Layout). kind ⨾ l) (seq_end a)
seq_end (Many kind things each a) = ap (Many kind things each) (seq_end a)

pub lead_both : (fs gs : List Field) (l mid end : Layout) (n m all : ℕ) → LeadTo l n fs mid m → LeadTo mid m gs end all → LeadTo l n (fs ++ gs) end all
lead_both [] gs l mid end n m all h k =
    subst (λ (x : Layout). LeadTo x n gs end all) (sym h.0) (subst (λ (x : ℕ). LeadTo mid x gs end all) (sym h.1) k)
lead_both (f ∷ fs) gs l mid end n m all h k = (h.0, lead_both fs gs (left_after l f) mid end (named_after l n f) m all h.1 k)

-- ---- what reading gives

-- from one cursor to another stand fields that lead through the layout, whatever follows it
pub record Went (layout : Layout) (named : ℕ) (c : Cursor) (fs : List Field) (all : ℕ) (d : Cursor) : Type 0 where
  pub leads : (next : Layout) → LeadTo (followed_by layout next) named fs next all
  pub covers : Covers c d fs

-- the first fault of the layout, whatever follows it
pub record Stopped (layout : Layout) (named : ℕ) (c : Cursor) (why : WireFault) : Type 0 where
  pub front : List Field
  pub left : Layout
  pub all : ℕ
  pub rest : List ℕ
  pub leads : (next : Layout) → LeadTo (followed_by layout next) named front (followed_by left next) all
  pub parts : rest_of c ≡ fields front ++ rest
  pub fault : (next : Layout) → IsFaultAt (followed_by left next) all (c.at + length (fields front)) rest why

abbrev pub Sound : Layout → ℕ → Cursor → ReadFields → Type 0
Sound layout named c (Ok x) = Went layout named c x.0 x.1 x.2
Sound layout named c (Err why) = Stopped layout named c why

-- ---- parts that were read, and then others

pub went_both : (a b : Layout) (n m all : ℕ) (c d e : Cursor) (fs gs : List Field) → Went a n c fs m d → Went b m d gs all e → Went (followed_by a b) n c (fs ++ gs) all e
went_both a b n m all c d e fs gs one two = record {
  leads = λ next. subst (λ (l : Layout). LeadTo l n (fs ++ gs) next all) (sym (seq_assoc a b next)) (lead_both fs gs (followed_by a (followed_by b next)) (followed_by b next) next n m all (one.leads (followed_by b next)) (two.leads next));
  covers = covers_both c d e fs gs one.covers two.covers;
}

place_behind : (c d : Cursor) (fs gs : List Field) → Covers c d fs → d.at + length (fields gs) ≡ c.at + length (fields (fs ++ gs))
place_behind c d fs gs covers =
    let at : d.at ≡ c.at + length (fields fs) = ap (λ (e : Cursor). e.at) covers.at in
    let len : length (fields (fs ++ gs)) ≡ length (fields fs) + length (fields gs) = ap length (fields-append fs gs) ∙ length-append (fields fs) (fields gs) in
    omega (arith, at, len)

pub stopped_behind : (a b : Layout) (n m : ℕ) (c d : Cursor) (fs : List Field) (why : WireFault) → Went a n c fs m d → Stopped b m d why → Stopped (followed_by a b) n c why
stopped_behind a b n m c d fs why one two = record {
  front = fs ++ two.front;
  left = two.left;
  all = two.all;
  rest = two.rest;
  leads = λ next. subst (λ (l : Layout). LeadTo l n (fs ++ two.front) (followed_by two.left next) two.all) (sym (seq_assoc a b next))
      (lead_both fs two.front (followed_by a (followed_by b next)) (followed_by b next) (followed_by two.left next) n m two.all (one.leads (followed_by b next)) (two.leads next));
  parts = one.covers.parts ∙ ap (λ (t : List ℕ). fields fs ++ t) two.parts ∙ sym (append_assoc (fields fs) (fields two.front) two.rest) ∙ ap (λ (t : List ℕ). t ++ two.rest) (sym (fields-append fs two.front));
  fault = λ next. subst (λ (at : ℕ). IsFaultAt (followed_by two.left next) two.all at two.rest why) (place_behind c d fs two.front one.covers) (two.fault next);
}

fault_then : (left next : Layout) (all at : ℕ) (rest : List ℕ) (why : WireFault) → IsFaultAt left all at rest why → IsFaultAt (followed_by left next) all at rest why
unfolding followed_by
fault_then End next all at rest why h = absurd h
fault_then (kind ⨾ left) next all at rest why h = h
fault_then (Many kind things each left) next all at rest why h = h

stopped_before : (a b : Layout) (n : ℕ) (c : Cursor) (why : WireFault) → Stopped a n c why → Stopped (followed_by a b) n c why
stopped_before a b n c why one = record {
  front = one.front;
  left = followed_by one.left b;
  all = one.all;
  rest = one.rest;
  leads = λ next.
      subst (λ (l : Layout). LeadTo l n one.front (followed_by (followed_by one.left b) next) one.all) (sym (seq_assoc a b next))
      (subst (λ (l : Layout). LeadTo (followed_by a (followed_by b next)) n one.front l one.all) (sym (seq_assoc one.left b next)) (one.leads (followed_by b next)));
  parts = one.parts;
  fault = λ next. subst (λ (l : Layout). IsFaultAt l one.all (c.at + length (fields one.front)) one.rest why) (sym (seq_assoc one.left b next)) (one.fault (followed_by b next));
}

-- these fields, and those that reading gives
abbrev joined : List Field → ReadFields → ReadFields
joined fs read = read >>= λ others. Ok (fs ++ others.0, others.1, others.2)

sound_both : (a b : Layout) (n m : ℕ) (c d : Cursor) (fs : List Field) → Went a n c fs m d → (read : ReadFields) → Sound b m d read → Sound (followed_by a b) n c (joined fs read)
sound_both a b n m c d fs one (Ok (gs, all, e)) two = went_both a b n m all c d e fs gs one two
sound_both a b n m c d fs one (Err why) two = stopped_behind a b n m c d fs why one two

pub covers_bytes : (c d : Cursor) (fs : List Field) → Covers c d fs → IsBytes c.bytes → IsBytes d.bytes
covers_bytes c d fs covers bytes = subst IsBytes (sym (ap (λ (e : Cursor). e.bytes) covers.at)) bytes

-- ---- one field, and what follows it

nothing_went : (named : ℕ) (c : Cursor) → Went End named c [] named c
unfolding followed_by
nothing_went named c = record { leads = λ next. (refl, refl); covers = covers_nothing c }

stops_here : (layout : Layout) (named : ℕ) (c : Cursor) (why : WireFault) → IsFaultAt layout named c.at (rest_of c) why → Stopped layout named c why
stops_here layout named c why fault = record {
  front = [];
  left = layout;
  all = named;
  rest = rest_of c;
  leads = λ next. (refl, refl);
  parts = refl;
  fault = λ next.
      let at : c.at ≡ c.at + 0 = omega arith in
      subst (λ (k : ℕ). IsFaultAt (followed_by layout next) named k (rest_of c) why) at (fault_then layout next named c.at (rest_of c) why fault);
}

-- a field that may come first, and then what is left of the layout
module _ (layout left : Layout) (named m : ℕ) (c d : Cursor) (f : Field) (spells : Spells c d f) (comes : (next : Layout) → MayCome (followed_by layout next) named f)
    (leaves : (next : Layout) → left_after (followed_by layout next) f ≡ followed_by left next) (counts : (next : Layout) → named_after (followed_by layout next) named f ≡ m) where
  lead_first : (next end : Layout) (gs : List Field) (all : ℕ) → LeadTo (followed_by left next) m gs end all → LeadTo (followed_by layout next) named (f ∷ gs) end all
  lead_first next end gs all h =
      (comes next, subst (λ (l : Layout). LeadTo l (named_after (followed_by layout next) named f) gs end all) (sym (leaves next)) (subst (λ (k : ℕ). LeadTo (followed_by left next) k gs end all) (sym (counts next)) h))

  sound_first : (read : ReadFields) → Sound left m d read → Sound layout named c (read >>= λ others. Ok (f ∷ others.0, others.1, others.2))
  sound_first (Ok (gs, all, e)) h = record {
    leads = λ next. lead_first next next gs all (h.leads next);
    covers = covers_both c d e (f ∷ []) gs (covers_field c d f spells) h.covers;
  }
  sound_first (Err why) h = record {
    front = f ∷ h.front;
    left = h.left;
    all = h.all;
    rest = h.rest;
    leads = λ next. lead_first next (followed_by h.left next) h.front h.all (h.leads next);
    parts = spells.parts ∙ ap (λ (t : List ℕ). field f ++ t) h.parts ∙ sym (append_assoc (field f) (fields h.front) h.rest);
    fault = λ next. subst (λ (at : ℕ). IsFaultAt (followed_by h.left next) h.all at h.rest why) (place_behind c d (f ∷ []) h.front (covers_field c d f spells)) (h.fault next);
  }

spells_bytes : (c d : Cursor) (f : Field) → Spells c d f → IsBytes c.bytes → IsBytes d.bytes
spells_bytes c d f spells bytes = subst IsBytes (sym spells.bytes) bytes

-- ---- items

-- reading by a layout is sound
abbrev pub IsSound : Layout → (ℕ → Cursor → ReadFields) → Type 0
IsSound layout read = (named : ℕ) (c : Cursor) → IsBytes c.bytes → Sound layout named c (read named c)

module _ (each next : Layout) (read_each read_next : ℕ → Cursor → ReadFields) (each_sound : IsSound each read_each) (next_sound : IsSound next read_next) where
  one_and_others : (n : ℕ) → IsSound (times n each next) (times_at read_each read_next n) → (named : ℕ) (c : Cursor) → IsBytes c.bytes → (read : ReadFields) → Sound each named c read
      → Sound (followed_by each (times n each next)) named c (read >>= λ first. joined first.0 (times_at read_each read_next n first.1 first.2))
  one_and_others n others named c bytes (Ok (fs, m, d)) h =
      sound_both each (times n each next) named m c d fs h (times_at read_each read_next n m d) (others m d (covers_bytes c d fs h.covers bytes))
  one_and_others n others named c bytes (Err why) h = stopped_before each (times n each next) named c why h

  times_sound : (n : ℕ) → IsSound (times n each next) (times_at read_each read_next n)
  unfolding times times_at
  times_sound zero named c bytes = next_sound named c bytes
  times_sound (suc n) named c bytes = one_and_others n (times_sound n) named c bytes (read_each named c) (each_sound named c bytes)

-- ---- layouts

field_first : (kind : Kind) (next : Layout) → IsSound next (layout_at next) → (named : ℕ) (c : Cursor) → IsBytes c.bytes → (read : ReadField) → SoundField kind c read
    → Sound (kind ⨾ next) named c (read >>= λ first. layout_at next named first.1 >>= λ others. Ok (first.0 ∷ others.0, others.1, others.2))
unfolding followed_by
field_first kind next next_sound named c bytes (Ok (f, d)) h =
    sound_first (kind ⨾ next) next named named c d f h.spells (λ k. (h.is, h.fits)) (λ k. refl) (λ k. refl) (layout_at next named d) (next_sound named d (spells_bytes c d f h.spells bytes))
field_first kind next next_sound named c bytes (Err why) h = stops_here (kind ⨾ next) named c why (h.1, h.0)

module _ (kind : Kind) (things : Things) (each next : Layout) (each_sound : IsSound each (layout_at each)) (next_sound : IsSound next (layout_at next)) where
  abbrev read_items : ℕ → Field × Cursor → ReadFields
  read_items named count =
      times_at (layout_at each) (layout_at next) (count_of count.0) (named_with things named (count_of count.0)) count.1 >>= λ others. Ok (count.0 ∷ others.0, others.1, others.2)

  count_tested : (named : ℕ) (c d : Cursor) (f : Field) → IsBytes c.bytes → IsReadField kind c f d → (many : Bool) → ltb MOST_NAMED (total things named (count_of f)) ≡ many
      → Sound (Many kind things each next) named c (cond many (Err (TooMany (total things named (count_of f)))) (read_items named (f, d)))
  unfolding followed_by
  count_tested named c d f bytes h true t =
      stops_here (Many kind things each next) named c (TooMany (total things named (count_of f)))
      (inr (record { count = f; begins = record { is = h.is; fits = h.fits; rest = rest_of d; parts = h.spells.parts }; many = (Decides-ltb MOST_NAMED (total things named (count_of f))).0 t; told = refl }))
  count_tested named c d f bytes h false t =
      sound_first (Many kind things each next) (times (count_of f) each next) named (named_with things named (count_of f)) c d f h.spells
      (λ k. (h.is, h.fits, ltb-false MOST_NAMED (total things named (count_of f)) t)) (λ k. sym (times_then (count_of f) each next k)) (λ k. refl)
      (times_at (layout_at each) (layout_at next) (count_of f) (named_with things named (count_of f)) d)
      (times_sound each next (layout_at each) (layout_at next) each_sound next_sound (count_of f) (named_with things named (count_of f)) d (spells_bytes c d f h.spells bytes))

  bind_cond : (many : Bool) (why : WireFault) (read : ReadFields) → (cond many (Err why) (Ok tt) >>= λ (_ : Unit {0}). read) ≡ cond many (Err why) read
  bind_cond true why read = refl
  bind_cond false why read = refl

  count_first : (named : ℕ) (c : Cursor) → IsBytes c.bytes → (read : ReadField) → SoundField kind c read
      → Sound (Many kind things each next) named c (read >>= λ count. within (total things named (count_of count.0)) >>= λ _. read_items named count)
  count_first named c bytes (Ok (f, d)) h =
      let many = ltb MOST_NAMED (total things named (count_of f)) in
      subst (Sound (Many kind things each next) named c) (sym (bind_cond many (TooMany (total things named (count_of f))) (read_items named (f, d))))
      (count_tested named c d f bytes h many refl)
  count_first named c bytes (Err why) h = stops_here (Many kind things each next) named c why (inl (h.1, h.0))

pub sound : (layout : Layout) → IsSound layout (layout_at layout)
unfolding layout_at
sound End named c bytes = nothing_went named c
sound (kind ⨾ next) named c bytes = field_first kind next (sound next) named c bytes (field_at kind c) (field_sound kind c bytes)
sound (Many kind things each next) named c bytes = count_first kind things each next (sound each) (sound next) named c bytes (field_at kind c) (field_sound kind c bytes)
