-- A partition is named twice exactly where one of the mentions was mentioned before.
use Rattle.std.proofs.Common.{◌≡◌, ◌≢◌, ◌||◌, Decides, Bool, Option, ℕ, zero, suc, ◌+◌, ◌<◌, ℤ, true, false, List, [], ◌∷◌, ◌++◌, length, get_or, map, Some, None, refl, sym, ap, subst, ◌∙◌, arith, inl, inr}
use Rattle.std.specs.Prelude.{Contains}
use Rattle.std.specs.List.{flat_map, AllByRecursion, AllPairs, list_any}
use Rattle.std.specs.Cmp.Lexicographic.{pointwise}
use Rattle.std.specs.Ordering.{int_eq}
use Rattle.std.specs.Bool.{nat_eq}
use Rattle.std.proofs.lemmas.Bool.{cases_Bool, and_parts, and_from, true≢false}
use Rattle.std.proofs.lemmas.Bool.Decides.{Decides-int_eq, Decides-eqb}
use Rattle.std.proofs.lemmas.Slice.Eq.{slice_eq-Decides}
use Rattle.std.proofs.lemmas.List.{map-append, length-append, length-map}
use Rattle.kwire.specs.declared.request.Ask.{Ask}
use Rattle.kwire.specs.declared.request.Ask.TheVariants.{Produce, Fetch, Metadata, Versions}
use Rattle.kwire.specs.declared.request.ProducePart.{ProducePart}
use Rattle.kwire.specs.declared.request.ProduceTopic.{ProduceTopic}
use Rattle.kwire.specs.declared.request.FetchPart.{FetchPart}
use Rattle.kwire.specs.declared.request.FetchTopic.{FetchTopic}
use Rattle.kwire.specs.IsRequest.{Named, named_of}
use Rattle.kwire.specs.Refusal.{Mention, named, mentions_from, mentions_of, IsFirstRepeat}
use Rattle.kwire.specs.Mentions.{is_same, repeat_after}

-- ---- the mentions are the named partitions

module _ {X Y : Type 0} (name : X → List ℕ) (parts : X → List Y) (index : Y → ℤ) where
  abbrev mentions_in : ℕ → X → List Mention
  mentions_in entry topic = map (λ part. record { entry = entry; topic = name topic; index = index part }) (parts topic)

  abbrev named_in : X → List Named
  named_in topic = map (λ part. record { topic = name topic; index = index part }) (parts topic)

  part_names : (entry : ℕ) (topic : List ℕ) (ys : List Y) → map named (map (λ part. record { entry = entry; topic = topic; index = index part }) ys) ≡ map (λ part. record { topic = topic; index = index part }) ys
  part_names entry topic [] = refl
  part_names entry topic (y ∷ ys) = ap (λ (ns : List Named). record { topic = topic; index = index y } ∷ ns) (part_names entry topic ys)

  topic_names : (entry : ℕ) (topics : List X) → map named (mentions_from mentions_in entry topics) ≡ flat_map named_in topics
  topic_names entry [] = refl
  topic_names entry (topic ∷ topics) =
      map-append named (mentions_in entry topic) (mentions_from mentions_in (entry + 1) topics)
      ∙ ap (λ (ns : List Named). ns ++ map named (mentions_from mentions_in (entry + 1) topics)) (part_names entry (name topic) (parts topic))
      ∙ ap (λ (ns : List Named). named_in topic ++ ns) (topic_names (entry + 1) topics)

pub names_are : (ask : Ask) → map named (mentions_of ask) ≡ named_of ask
names_are (Produce version transactional acks timeout topics) = topic_names (λ (t : ProduceTopic). t.name) (λ (t : ProduceTopic). t.parts) (λ (p : ProducePart). p.index) 0 topics
names_are (Fetch version replica max_wait min_bytes max_bytes isolation topics) = topic_names (λ (t : FetchTopic). t.name) (λ (t : FetchTopic). t.parts) (λ (p : FetchPart). p.index) 0 topics
names_are (Metadata topics) = refl
names_are (Versions version) = refl

-- ---- no two are the same

same_text : (xs ys : List ℕ) → Decides (pointwise nat_eq xs ys) (xs ≡ ys)
same_text xs ys = slice_eq-Decides Decides-eqb xs ys (pointwise nat_eq xs ys) refl

same_named : (a b : Mention) → is_same a b ≡ true → named a ≡ named b
same_named a b e =
    let both = and_parts (pointwise nat_eq a.topic b.topic) (int_eq a.index b.index) e in
    let topics : a.topic ≡ b.topic = (same_text a.topic b.topic).0 both.0 in
    let indices : a.index ≡ b.index = (Decides-int_eq a.index b.index).0 both.1 in
    ap (λ (t : List ℕ). record { topic = t; index = a.index }) topics ∙ ap (λ (i : ℤ). record { topic = b.topic; index = i }) indices

named_same : (a b : Mention) → named a ≡ named b → is_same a b ≡ true
named_same a b e =
    and_from (pointwise nat_eq a.topic b.topic) (int_eq a.index b.index)
    ((same_text a.topic b.topic).1 (ap (λ (n : Named). n.topic) e))
    ((Decides-int_eq a.index b.index).1 (ap (λ (n : Named). n.index) e))

-- it is none of these
abbrev Apart : Mention → List Mention → Type 0
Apart m before = AllByRecursion (λ b. named m ≢ named b) before

abbrev ApartAll : List Mention → List Mention → Type 0
ApartAll ms before = AllByRecursion (λ m. Apart m before) ms

-- each is none of those before it
abbrev Once : List Mention → Type 0
Once [] = Unit {0}
Once (m ∷ ms) = AllByRecursion (λ x. named x ≢ named m) ms × Once ms

none_apart : (m : Mention) (before : List Mention) → list_any (is_same m) before ≡ false → Apart m before
none_apart m [] e = tt
none_apart m (b ∷ before) e =
    elim (cases_Bool (is_same m b)) [
      | inl same ↦ let other : true ≡ false = rw same at e in absurd (true≢false other)
      | inr differs ↦
          let others : list_any (is_same m) before ≡ false = rw differs at e in
          ((λ n. true≢false (sym (named_same m b n) ∙ differs)), none_apart m before others)
    ]

apart_none : (m : Mention) (before : List Mention) → Apart m before → list_any (is_same m) before ≡ false
apart_none m [] h = refl
apart_none m (b ∷ before) h =
    elim (cases_Bool (is_same m b)) [
      | inl same ↦ absurd (h.0 (same_named m b same))
      | inr differs ↦ rw differs (apart_none m before h.1)
    ]

all_split : (m : Mention) (before ms : List Mention) → ApartAll ms (m ∷ before) → AllByRecursion (λ x. named x ≢ named m) ms × ApartAll ms before
all_split m before [] h = (tt, tt)
all_split m before (x ∷ ms) h = let others = all_split m before ms h.1 in ((h.0.0, others.0), (h.0.1, others.1))

split_all : (m : Mention) (before ms : List Mention) → AllByRecursion (λ x. named x ≢ named m) ms → ApartAll ms before → ApartAll ms (m ∷ before)
split_all m before [] h g = tt
split_all m before (x ∷ ms) h g = ((h.0, g.0), split_all m before ms h.1 g.1)

once_of : (before ms : List Mention) → repeat_after before ms ≡ None → ApartAll ms before × Once ms
once_of before [] e = (tt, tt)
once_of before (m ∷ ms) e =
    elim (cases_Bool (list_any (is_same m) before)) [
      | inl repeated ↦ let other : Some m ≡ None = rw repeated at e in absurd cc
      | inr new ↦
          let others : repeat_after (m ∷ before) ms ≡ None = rw new at e in
          let h = once_of (m ∷ before) ms others in
          let parts = all_split m before ms h.0 in
          ((none_apart m before new, parts.1), (parts.0, h.1))
    ]

none_of : (before ms : List Mention) → ApartAll ms before → Once ms → repeat_after before ms ≡ None
none_of before [] h g = refl
none_of before (m ∷ ms) h g = rw (apart_none m before h.0) (none_of (m ∷ before) ms (split_all m before ms g.0 h.1) g.1)

-- ---- as pairs of places

abbrev Differ : Named → Named → Type 0
Differ a b = a ≢ b

all_at : (m : Mention) (ms : List Mention) → AllByRecursion (λ x. named x ≢ named m) ms → (j : ℕ) (d : Named) → j < length (map named ms) → named m ≢ get_or (map named ms) j d
all_at m [] h j d lt = absurd (omega arith)
all_at m (x ∷ ms) h zero d lt = λ e. h.0 (sym e)
all_at m (x ∷ ms) h (suc j) d lt = all_at m ms h.1 j d (omega arith)

at_all : (m : Mention) (ms : List Mention) → ((j : ℕ) (d : Named) → j < length (map named ms) → named m ≢ get_or (map named ms) j d) → AllByRecursion (λ x. named x ≢ named m) ms
at_all m [] h = tt
at_all m (x ∷ ms) h = ((λ e. h 0 (named m) (omega arith) (sym e)), at_all m ms (λ j d lt. h (suc j) d (omega arith)))

once_pairs : (ms : List Mention) → Once ms → AllPairs Differ (map named ms)
once_pairs [] h i j d lt within = absurd (omega arith)
once_pairs (m ∷ ms) h zero zero d lt within = absurd (omega arith)
once_pairs (m ∷ ms) h zero (suc j) d lt within = all_at m ms h.0 j d (omega arith)
once_pairs (m ∷ ms) h (suc i) zero d lt within = absurd (omega arith)
once_pairs (m ∷ ms) h (suc i) (suc j) d lt within = once_pairs ms h.1 i j d (omega arith) (omega arith)

pairs_once : (ms : List Mention) → AllPairs Differ (map named ms) → Once ms
pairs_once [] h = tt
pairs_once (m ∷ ms) h = (at_all m ms (λ j d lt. h 0 (suc j) d (omega arith) (omega arith)), pairs_once ms (λ i j d lt within. h (suc i) (suc j) d (omega arith) (omega arith)))

all_apart_nothing : (ms : List Mention) → ApartAll ms []
all_apart_nothing [] = tt
all_apart_nothing (m ∷ ms) = (tt, all_apart_nothing ms)

-- none is repeated exactly where no two mentions name the same
none_apart_from : (ms : List Mention) → AllPairs Differ (map named ms) → repeat_after [] ms ≡ None
none_apart_from ms h = none_of [] ms (all_apart_nothing ms) (pairs_once ms h)

apart_from_none : (ms : List Mention) → repeat_after [] ms ≡ None → AllPairs Differ (map named ms)
apart_from_none ms e = once_pairs ms (once_of [] ms e).1

pub none_repeated : (ask : Ask) → AllPairs Differ (named_of ask) → repeat_after [] (mentions_of ask) ≡ None
none_repeated ask h = none_apart_from (mentions_of ask) (subst (AllPairs Differ) (sym (names_are ask)) h)

pub no_two : (ask : Ask) → repeat_after [] (mentions_of ask) ≡ None → AllPairs Differ (named_of ask)
no_two ask e = subst (AllPairs Differ) (names_are ask) (apart_from_none (mentions_of ask) e)

-- ---- the first that is named again

abbrev no_mention : Option Mention
no_mention = None

-- the last one first, and then those before them
abbrev back : List Mention → List Mention → List Mention
back [] before = before
back (x ∷ front) before = back front (x ∷ before)

-- the mentions are those before it, it, and others; none before it is repeated, and it is among those before it
pub record IsFound (before ms : List Mention) (m : Mention) : Type 0 where
  pub front : List Mention
  pub others : List Mention
  pub parts : ms ≡ front ++ m ∷ others
  pub fresh : repeat_after before front ≡ None
  pub again : list_any (is_same m) (back front before) ≡ true

found_of : (before ms : List Mention) (m : Mention) → repeat_after before ms ≡ Some m → IsFound before ms m
found_of before [] m e = let other : no_mention ≡ Some m = e in absurd cc
found_of before (x ∷ ms) m e =
    elim (cases_Bool (list_any (is_same x) before)) [
      | inl repeated ↦
          let there : Some x ≡ Some m = rw repeated at e in
          let same : x ≡ m = cc in
          record { front = []; others = ms; parts = ap (λ (y : Mention). y ∷ ms) same; fresh = refl; again = subst (λ (y : Mention). list_any (is_same y) before ≡ true) same repeated }
      | inr new ↦
          let there : repeat_after (x ∷ before) ms ≡ Some m = rw new at e in
          let h = found_of (x ∷ before) ms m there in
          record { front = x ∷ h.front; others = h.others; parts = ap (λ (ys : List Mention). x ∷ ys) h.parts; fresh = rw new h.fresh; again = h.again }
    ]

of_found : (before front others : List Mention) (m : Mention) → repeat_after before front ≡ None → list_any (is_same m) (back front before) ≡ true → repeat_after before (front ++ m ∷ others) ≡ Some m
of_found before [] others m fresh again = rw again refl
of_found before (x ∷ front) others m fresh again =
    elim (cases_Bool (list_any (is_same x) before)) [
      | inl repeated ↦ let other : Some x ≡ no_mention = rw repeated at fresh in absurd cc
      | inr new ↦
          let there : repeat_after (x ∷ before) front ≡ None = rw new at fresh in
          rw new (of_found (x ∷ before) front others m there again)
    ]

any_behind : (p : Mention → Bool) (front before : List Mention) → list_any p (back front before) ≡ (list_any p front || list_any p before)
any_behind p [] before = refl
any_behind p (x ∷ front) before = any_behind p front (x ∷ before) ∙ turned (list_any p front) (p x) (list_any p before)
  where
    turned : (a b c : Bool) → (a || (b || c)) ≡ ((b || a) || c)
    turned true true c = refl
    turned true false c = refl
    turned false true c = refl
    turned false false c = refl

or_nothing : (a : Bool) → (a || false) ≡ a
or_nothing true = refl
or_nothing false = refl

any_back : (p : Mention → Bool) (front : List Mention) → list_any p (back front []) ≡ list_any p front
any_back p front = any_behind p front [] ∙ or_nothing (list_any p front)

any_named : (m : Mention) (ms : List Mention) → list_any (is_same m) ms ≡ true → Contains (map named ms) (named m)
any_named m [] e = absurd (true≢false (sym e))
any_named m (x ∷ ms) e =
    elim (cases_Bool (is_same m x)) [
      | inl same ↦ (0, omega arith, sym (same_named m x same))
      | inr differs ↦
          let there : list_any (is_same m) ms ≡ true = rw differs at e in
          let h = any_named m ms there in
          (suc h.0, omega (arith, h.1), h.2)
    ]

named_any : (m : Mention) (ms : List Mention) → Contains (map named ms) (named m) → list_any (is_same m) ms ≡ true
named_any m [] h = absurd (omega (arith, h.1))
named_any m (x ∷ ms) h = among m x ms h.0 h.1 h.2 (is_same m x) refl (λ k lt e. named_any m ms (k, lt, e))
  where
    among : (m x : Mention) (ms : List Mention) (k : ℕ) → k < length (map named (x ∷ ms)) → get_or (map named (x ∷ ms)) k (named m) ≡ named m → (b : Bool) → is_same m x ≡ b
        → ((k : ℕ) → k < length (map named ms) → get_or (map named ms) k (named m) ≡ named m → list_any (is_same m) ms ≡ true) → (b || list_any (is_same m) ms) ≡ true
    among m x ms k lt e true same others = refl
    among m x ms zero lt e false differs others = absurd (true≢false (sym (named_same m x (sym e)) ∙ differs))
    among m x ms (suc k) lt e false differs others = others k (omega (arith, lt)) e

pub first_repeat_of : (ms : List Mention) (m : Mention) → repeat_after [] ms ≡ Some m → IsFirstRepeat ms m
first_repeat_of ms m e =
    let h = found_of [] ms m e in
    record { before = h.front; after = h.others; parts = h.parts; fresh = apart_from_none h.front h.fresh; again = any_named m h.front (sym (any_back (is_same m) h.front) ∙ h.again) }

pub repeat_of_first : (ms : List Mention) (m : Mention) → IsFirstRepeat ms m → repeat_after [] ms ≡ Some m
repeat_of_first ms m h =
    ap (repeat_after []) h.parts ∙ of_found [] h.before h.after m (none_apart_from h.before h.fresh) (any_back (is_same m) h.before ∙ named_any m h.before h.again)

-- ---- one partition is named at most

-- as many are named as the entries have
pub named_count : {X Y Z : Type 0} (parts : X → List Y) (name : X → Y → Z) (topics : List X)
    → length (flat_map (λ topic. map (name topic) (parts topic)) topics) ≡ length (flat_map parts topics)
named_count parts name [] = refl
named_count parts name (topic ∷ topics) =
    let rest = named_count parts name topics in
    omega (arith, length-append (map (name topic) (parts topic)) (flat_map (λ t. map (name t) (parts t)) topics), length-append (parts topic) (flat_map parts topics), length-map (parts topic) (name topic), rest)
