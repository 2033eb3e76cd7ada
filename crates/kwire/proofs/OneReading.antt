-- No bytes spell two values of a layout, or a value and a fault, or have two first faults.
use Rattle.std.proofs.Common.{◌≡◌, ◌⊎◌, ℕ, ◌+◌, ◌<◌, ◌≤◌, Ok, Err, List, [], ◌∷◌, ◌++◌, length, refl, sym, ap, subst, ◌∙◌, append_assoc, arith, inl, inr}
use Rattle.kbytes.specs.Octets.{IsBytes}
use Rattle.kbytes.specs.Cursor.{Cursor, rest_of}
use Rattle.kbytes.specs.Field.{Field, field, fields}
use Rattle.kbytes.specs.FitsField.{FitsField}
use Rattle.std.proofs.lemmas.List.{length-append}
use Rattle.kwire.specs.declared.frame.WireFault.{WireFault}
use Rattle.kwire.specs.declared.frame.WireFault.TheVariants.{TooMany}
use Rattle.kwire.specs.declared.request.TheConstants.{MOST_NAMED}
use Rattle.kwire.specs.Layouts.{Kind, Layout, End, ◌⨾◌, Many, count_of, total, IsOf, MayCome, left_after, named_after, LeadTo, Begin, IsFaultAt, AreOf, IsFirstFault, followed_by}
use Rattle.kwire.specs.Reading.{ReadFields, layout_at}
use Rattle.kwire.proofs.KindLaws.{first_same}
use Rattle.kwire.proofs.LayoutLaws.{Went, Stopped, Sound, sound, seq_end}

-- ---- the first field

abbrev begins : (kind : Kind) (f : Field) (rest : List ℕ) → IsOf kind f → FitsField f → Begin kind (field f ++ rest) f
begins kind f rest is fits = record { is = is; fits = fits; rest = rest; parts = refl }

abbrev begins_as : (kind : Kind) (bytes : List ℕ) (g : Field) (rest : List ℕ) → bytes ≡ field g ++ rest → IsOf kind g → FitsField g → Begin kind bytes g
begins_as kind bytes g rest at is fits = record { is = is; fits = fits; rest = rest; parts = at }

-- two fields that may come are the same
come_same : (layout : Layout) (named : ℕ) (f g : Field) (r s : List ℕ) → MayCome layout named f → MayCome layout named g → field f ++ r ≡ field g ++ s → (f ≡ g) × (r ≡ s)
come_same End named f g r s h k e = absurd h
come_same (kind ⨾ next) named f g r s h k e = first_same kind (field f ++ r) f g (begins kind f r h.0 h.1) (begins_as kind (field f ++ r) g s e k.0 k.1)
come_same (Many kind things each next) named f g r s h k e = first_same kind (field f ++ r) f g (begins kind f r h.0 h.1) (begins_as kind (field f ++ r) g s e k.0 k.1)

-- where a field may come is no fault
come_no_fault : (layout : Layout) (named at : ℕ) (f : Field) (r : List ℕ) (why : WireFault) → MayCome layout named f → IsFaultAt layout named at (field f ++ r) why → ⊥
come_no_fault End named at f r why h k = absurd h
come_no_fault (kind ⨾ next) named at f r why h k = k.0 f (begins kind f r h.0 h.1)
come_no_fault (Many kind things each next) named at f r why h (inl k) = k.0 f (begins kind f r h.0 h.1)
come_no_fault (Many kind things each next) named at f r why h (inr k) =
    let same = first_same kind (field f ++ r) f k.count (begins kind f r h.0 h.1) k.begins in
    let few : total things named (count_of f) ≤ MOST_NAMED = h.2 in
    let many : MOST_NAMED < total things named (count_of f) = subst (λ (g : Field). MOST_NAMED < total things named (count_of g)) (sym same.0) k.many in
    absurd (omega (arith, few, many))

-- two faults at a place are the same
fault_same : (layout : Layout) (named at : ℕ) (bytes : List ℕ) (v w : WireFault) → IsFaultAt layout named at bytes v → IsFaultAt layout named at bytes w → v ≡ w
fault_same End named at bytes v w h k = absurd h
fault_same (kind ⨾ next) named at bytes v w h k = h.1 ∙ sym k.1
fault_same (Many kind things each next) named at bytes v w (inl h) (inl k) = h.1 ∙ sym k.1
fault_same (Many kind things each next) named at bytes v w (inl h) (inr k) = absurd (h.0 k.count k.begins)
fault_same (Many kind things each next) named at bytes v w (inr h) (inl k) = absurd (k.0 h.count h.begins)
fault_same (Many kind things each next) named at bytes v w (inr h) (inr k) =
    let same = first_same kind bytes h.count k.count h.begins k.begins in
    h.told ∙ ap (λ (f : Field). TooMany (total things named (count_of f))) same.0 ∙ sym k.told

-- ---- the fields

split : (f : Field) (fs : List Field) (r : List ℕ) → fields (f ∷ fs) ++ r ≡ field f ++ (fields fs ++ r)
split f fs r = append_assoc (field f) (fields fs) r

nothing_comes : (layout : Layout) (named : ℕ) (f : Field) → layout ≡ End → MayCome layout named f → ⊥
nothing_comes layout named f end h = subst (λ (l : Layout). MayCome l named f) end h

no_fault_there : (layout : Layout) (named at : ℕ) (bytes : List ℕ) (why : WireFault) → layout ≡ End → IsFaultAt layout named at bytes why → ⊥
no_fault_there layout named at bytes why end h = subst (λ (l : Layout). IsFaultAt l named at bytes why) end h

-- two lists of fields that lead to the end are the same
pub same_fields : (fs gs : List Field) (layout : Layout) (named m n : ℕ) (r s : List ℕ) → LeadTo layout named fs End m → LeadTo layout named gs End n → fields fs ++ r ≡ fields gs ++ s → (fs ≡ gs) × (r ≡ s)
same_fields [] [] layout named m n r s h k e = (refl, e)
same_fields [] (g ∷ gs) layout named m n r s h k e = absurd (nothing_comes layout named g h.0 k.0)
same_fields (f ∷ fs) [] layout named m n r s h k e = absurd (nothing_comes layout named f k.0 h.0)
same_fields (f ∷ fs) (g ∷ gs) layout named m n r s h k e =
    let first = come_same layout named f g (fields fs ++ r) (fields gs ++ s) h.0 k.0 (sym (split f fs r) ∙ e ∙ split g gs s) in
    let there = subst (λ (x : Field). LeadTo (left_after layout x) (named_after layout named x) gs End n) (sym first.0) k.1 in
    let others = same_fields fs gs (left_after layout f) (named_after layout named f) m n r s h.1 there first.1 in
    (ap (λ (x : Field). x ∷ fs) first.0 ∙ ap (λ (xs : List Field). g ∷ xs) others.0, others.1)

-- fields that lead to the end have no fault
pub no_fault : (fs gs : List Field) (layout left : Layout) (named m n at : ℕ) (r s : List ℕ) (why : WireFault) → LeadTo layout named fs End m → LeadTo layout named gs left n → IsFaultAt left n at s why
    → fields fs ++ r ≡ fields gs ++ s → ⊥
no_fault [] [] layout left named m n at r s why h k fault e = no_fault_there left n at s why (sym k.0 ∙ h.0) fault
no_fault [] (g ∷ gs) layout left named m n at r s why h k fault e = nothing_comes layout named g h.0 k.0
no_fault (f ∷ fs) [] layout left named m n at r s why h k fault e =
    let bytes : s ≡ field f ++ (fields fs ++ r) = sym e ∙ split f fs r in
    let here = subst (λ (l : Layout). IsFaultAt l n at s why) (sym k.0) fault in
    let there = subst (λ (x : ℕ). IsFaultAt layout x at s why) (sym k.1) here in
    come_no_fault layout named at f (fields fs ++ r) why h.0 (subst (λ (t : List ℕ). IsFaultAt layout named at t why) bytes there)
no_fault (f ∷ fs) (g ∷ gs) layout left named m n at r s why h k fault e =
    let first = come_same layout named f g (fields fs ++ r) (fields gs ++ s) h.0 k.0 (sym (split f fs r) ∙ e ∙ split g gs s) in
    let there = subst (λ (x : Field). LeadTo (left_after layout x) (named_after layout named x) gs left n) (sym first.0) k.1 in
    no_fault fs gs (left_after layout f) left (named_after layout named f) m n at r s why h.1 there fault first.1

here_fault : (layout left : Layout) (named n at : ℕ) (bytes : List ℕ) (why : WireFault) → layout ≡ left → named ≡ n → IsFaultAt left n at bytes why → IsFaultAt layout named at bytes why
here_fault layout left named n at bytes why same count fault =
    subst (λ (x : ℕ). IsFaultAt layout x at bytes why) (sym count) (subst (λ (l : Layout). IsFaultAt l n at bytes why) (sym same) fault)

place_on : (start : ℕ) (f : Field) (fs : List Field) → start + length (fields (f ∷ fs)) ≡ (start + length (field f)) + length (fields fs)
place_on start f fs = omega (arith, length-append (field f) (fields fs))

-- two first faults are the same
pub same_fault : (fs gs : List Field) (layout here there : Layout) (named m n start : ℕ) (r s : List ℕ) (v w : WireFault) → LeadTo layout named fs here m → LeadTo layout named gs there n
    → IsFaultAt here m (start + length (fields fs)) r v → IsFaultAt there n (start + length (fields gs)) s w → fields fs ++ r ≡ fields gs ++ s → v ≡ w
same_fault [] [] layout here there named m n start r s v w h k one two e =
    fault_same layout named (start + 0) r v w (here_fault layout here named m (start + 0) r v h.0 h.1 one)
    (subst (λ (t : List ℕ). IsFaultAt layout named (start + 0) t w) (sym e) (here_fault layout there named n (start + 0) s w k.0 k.1 two))
same_fault [] (g ∷ gs) layout here there named m n start r s v w h k one two e =
    absurd (come_no_fault layout named (start + 0) g (fields gs ++ s) v k.0
    (subst (λ (t : List ℕ). IsFaultAt layout named (start + 0) t v) (e ∙ split g gs s) (here_fault layout here named m (start + 0) r v h.0 h.1 one)))
same_fault (f ∷ fs) [] layout here there named m n start r s v w h k one two e =
    absurd (come_no_fault layout named (start + 0) f (fields fs ++ r) w h.0
    (subst (λ (t : List ℕ). IsFaultAt layout named (start + 0) t w) (sym e ∙ split f fs r) (here_fault layout there named n (start + 0) s w k.0 k.1 two)))
same_fault (f ∷ fs) (g ∷ gs) layout here there named m n start r s v w h k one two e =
    let first = come_same layout named f g (fields fs ++ r) (fields gs ++ s) h.0 k.0 (sym (split f fs r) ∙ e ∙ split g gs s) in
    let next = subst (λ (x : Field). LeadTo (left_after layout x) (named_after layout named x) gs there n) (sym first.0) k.1 in
    let mine = subst (λ (x : ℕ). IsFaultAt here m x r v) (place_on start f fs) one in
    let other : IsFaultAt there n ((start + length (field f)) + length (fields gs)) s w =
    subst (λ (x : Field). IsFaultAt there n ((start + length (field x)) + length (fields gs)) s w) (sym first.0) (subst (λ (x : ℕ). IsFaultAt there n x s w) (place_on start g gs) two) in
    same_fault fs gs (left_after layout f) here there (named_after layout named f) m n (start + length (field f)) r s v w h.1 next mine other first.1

-- ---- layouts

pub fields_once : (layout : Layout) (fs gs : List Field) (rest more : List ℕ) → AreOf layout fs → AreOf layout gs → fields fs ++ rest ≡ fields gs ++ more → (fs ≡ gs) × (rest ≡ more)
fields_once layout fs gs rest more h k e = same_fields fs gs layout 0 h.named k.named rest more h.lead k.lead e

pub fault_once : (layout : Layout) (bytes : List ℕ) (v w : WireFault) → IsFirstFault layout bytes v → IsFirstFault layout bytes w → v ≡ w
fault_once layout bytes v w h k = same_fault h.front k.front layout h.left k.left 0 h.named k.named 0 h.rest k.rest v w h.lead k.lead (from_start h.left h.named h.front h.rest v h.fault) (from_start k.left k.named k.front k.rest w k.fault) (sym h.parts ∙ k.parts)
  where
    from_start : (left : Layout) (named : ℕ) (front : List Field) (rest : List ℕ) (why : WireFault) → IsFaultAt left named (length (fields front)) rest why → IsFaultAt left named (0 + length (fields front)) rest why
    from_start left named front rest why fault = let at : length (fields front) ≡ 0 + length (fields front) = omega arith in subst (λ (x : ℕ). IsFaultAt left named x rest why) at fault

pub not_fault : (layout : Layout) (fs : List Field) (rest : List ℕ) (why : WireFault) → AreOf layout fs → IsFirstFault layout (fields fs ++ rest) why → ⊥
not_fault layout fs rest why h k = no_fault fs k.front layout k.left 0 h.named k.named (length (fields k.front)) rest k.rest why h.lead k.lead k.fault k.parts

abbrev pub start_of : List ℕ → Cursor
start_of bytes = record { bytes = bytes; at = 0 }

-- fields that were read from the front are those of the layout
pub read_are_of : (layout : Layout) (named : ℕ) (c d : Cursor) (fs : List Field) → Went layout 0 c fs named d → AreOf layout fs
read_are_of layout named c d fs went = record { named = named; lead = subst (λ (l : Layout). LeadTo l 0 fs End named) (seq_end layout) (went.leads End) }

-- a fault that was found from the front is the first one
pub stopped_first : (layout : Layout) (bytes : List ℕ) (why : WireFault) → Stopped layout 0 (start_of bytes) why → IsFirstFault layout bytes why
stopped_first layout bytes why stopped =
    let at : 0 + length (fields stopped.front) ≡ length (fields stopped.front) = omega arith in
    record {
      front = stopped.front;
      left = stopped.left;
      named = stopped.all;
      rest = stopped.rest;
      lead = subst (λ (l : Layout). LeadTo l 0 stopped.front stopped.left stopped.all) (seq_end layout) (subst (λ (l : Layout). LeadTo (followed_by layout End) 0 stopped.front l stopped.all) (seq_end stopped.left) (stopped.leads End));
      parts = stopped.parts;
      fault = subst (λ (x : ℕ). IsFaultAt stopped.left stopped.all x stopped.rest why) at (subst (λ (l : Layout). IsFaultAt l stopped.all (0 + length (fields stopped.front)) stopped.rest why) (seq_end stopped.left) (stopped.fault End));
    }

pub fields_or_fault : (layout : Layout) (bytes : List ℕ) → IsBytes bytes → ((fs : List Field) × (rest : List ℕ) × AreOf layout fs × (bytes ≡ fields fs ++ rest)) ⊎ ((why : WireFault) × IsFirstFault layout bytes why)
fields_or_fault layout bytes fits = by_reading (layout_at layout 0 (start_of bytes)) (sound layout 0 (start_of bytes) fits)
  where
    by_reading : (read : ReadFields) → Sound layout 0 (start_of bytes) read → ((fs : List Field) × (rest : List ℕ) × AreOf layout fs × (bytes ≡ fields fs ++ rest)) ⊎ ((why : WireFault) × IsFirstFault layout bytes why)
    by_reading (Ok (fs, named, d)) went = inl (fs, rest_of d, read_are_of layout named (start_of bytes) d fs went, went.covers.parts)
    by_reading (Err why) stopped = inr (why, stopped_first layout bytes why stopped)
