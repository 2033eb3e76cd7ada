-- Types whose values are the fields of a layout: each list of such fields is that of one value.
use Rattle.std.proofs.Common.{◌≡◌, ℕ, zero, suc, ◌+◌, ℤ, negsuc, Bool, true, false, List, [], ◌∷◌, ◌++◌, length, Option, Some, None, unwrap_or, option_map, refl, sym, ap, subst, ◌∙◌, append_assoc, arith}
use Rattle.std.specs.Prelude.{⊤}
use Rattle.std.specs.List.{flat_map, AllByRecursion}
use Rattle.std.proofs.lemmas.List.{append-nil}
use Rattle.kbytes.specs.Field.{Field, Int8, Int16, Int32, Int64, String, NullableString, Array}
use Rattle.kbytes.specs.FitsField.{FitsField}
use Rattle.kwire.specs.declared.api.Api.{Api}
use Rattle.kwire.specs.declared.api.Api.TheVariants.{Produce as ProduceApi, Fetch as FetchApi, Metadata as MetadataApi, Versions as VersionsApi}
use Rattle.kwire.specs.declared.request.Ask.{Ask}
use Rattle.kwire.specs.declared.request.Ask.TheVariants.{Produce, Fetch, Metadata, Versions}
use Rattle.kwire.specs.declared.request.ProducePart.{ProducePart}
use Rattle.kwire.specs.declared.request.ProduceTopic.{ProduceTopic}
use Rattle.kwire.specs.declared.request.FetchPart.{FetchPart}
use Rattle.kwire.specs.declared.request.FetchTopic.{FetchTopic}
use Rattle.kwire.specs.Layouts.{Kind, INT8_OF, INT16, INT32, INT64, STRING, NULLABLE_STRING, RECORDS, ARRAY, NULLABLE_ARRAY, Things, Topics, Partitions, Layout, End, ◌⨾◌, Many, followed_by, times, count_of, named_with, IsOf, LeadTo}
use Rattle.kwire.specs.Apis.{versions_of_api, has_log_start, only, produce_part_layout, produce_topic_layout, fetch_part_layout, fetch_topic_layout, isolation_levels, name_layout, ask_layout}
use Rattle.kwire.specs.IsRequest.{api_of, version_of, produce_part_fields, produce_topic_fields, fetch_part_fields, fetch_topic_fields, name_fields, ask_fields, only_field, FitsVersion, AllFitVersion}

-- ---- the first field of a layout

pub record First (kind : Kind) (next : Layout) (named all : ℕ) (fs : List Field) : Type 0 where
  pub f : Field
  pub others : List Field
  pub parts : fs ≡ f ∷ others
  pub is : IsOf kind f
  pub fits : FitsField f
  pub lead : LeadTo next named others End all

pub first_of : (kind : Kind) (next : Layout) (named all : ℕ) (fs : List Field) → LeadTo (kind ⨾ next) named fs End all → First kind next named all fs
first_of kind next named all [] h = let e : kind ⨾ next ≡ End = h.0 in absurd cc
first_of kind next named all (f ∷ fs) h = record { f = f; others = fs; parts = refl; is = h.0.0; fits = h.0.1; lead = h.1 }

pub record Count (kind : Kind) (things : Things) (each next : Layout) (named all : ℕ) (fs : List Field) : Type 0 where
  pub f : Field
  pub others : List Field
  pub parts : fs ≡ f ∷ others
  pub is : IsOf kind f
  pub lead : LeadTo (times (count_of f) each next) (named_with things named (count_of f)) others End all

count_first : (kind : Kind) (things : Things) (each next : Layout) (named all : ℕ) (fs : List Field) → LeadTo (Many kind things each next) named fs End all → Count kind things each next named all fs
count_first kind things each next named all [] h = let e : Many kind things each next ≡ End = h.0 in absurd cc
count_first kind things each next named all (f ∷ fs) h = record { f = f; others = fs; parts = refl; is = h.0.0; lead = h.1 }

-- a count that isn't null
pub record Counted (things : Things) (each next : Layout) (named all : ℕ) (fs : List Field) : Type 0 where
  pub count : ℕ
  pub others : List Field
  pub parts : fs ≡ Array (Some count) ∷ others
  pub lead : LeadTo (times count each next) (named_with things named count) others End all

counted_first : (things : Things) (each next : Layout) (named all : ℕ) (fs : List Field) → LeadTo (Many ARRAY things each next) named fs End all → Counted things each next named all fs
counted_first things each next named all fs h =
    let c = count_first ARRAY things each next named all fs h in
    record {
      count = c.is.0;
      others = c.others;
      parts = c.parts ∙ ap (λ (f : Field). f ∷ c.others) c.is.1;
      lead = subst (λ (f : Field). LeadTo (times (count_of f) each next) (named_with things named (count_of f)) c.others End all) c.is.1 c.lead;
    }

-- ---- values that are spelled by the fields of a layout

-- the fields begin with those of a value
pub record Starts {X : Type 0} (fits : X → Type 0) (spelled : X → List Field) (next : Layout) (all : ℕ) (fs : List Field) : Type 0 where
  pub value : X
  pub fitting : fits value
  pub others : List Field
  pub named : ℕ
  pub parts : fs ≡ spelled value ++ others
  pub lead : LeadTo next named others End all

abbrev pub HasValues : {X : Type 0} → Layout → (X → Type 0) → (X → List Field) → Type 0
HasValues layout fits spelled = (next : Layout) (named all : ℕ) (fs : List Field) → LeadTo (followed_by layout next) named fs End all → Starts fits spelled next all fs

-- no value's fields begin another's, of values that fit
abbrev pub AreApart : {X : Type 0} → (X → Type 0) → (X → List Field) → Type 0
AreApart {X} fits spelled = (x y : X) → fits x → fits y → (gs hs : List Field) → spelled x ++ gs ≡ spelled y ++ hs → (x ≡ y) × (gs ≡ hs)

abbrev any : {X : Type 0} → X → Type 0
any x = ⊤

-- ---- items

pub record StartsMany {X : Type 0} (fits : X → Type 0) (spelled : X → List Field) (n : ℕ) (next : Layout) (all : ℕ) (fs : List Field) : Type 0 where
  pub values : List X
  pub fitting : AllByRecursion fits values
  pub others : List Field
  pub named : ℕ
  pub parts : fs ≡ flat_map spelled values ++ others
  pub whole : length values ≡ n
  pub lead : LeadTo next named others End all

items_of : {X : Type 0} (layout : Layout) (fits : X → Type 0) (spelled : X → List Field) → HasValues layout fits spelled → (n : ℕ) (next : Layout) (named all : ℕ) (fs : List Field) → LeadTo (times n layout next) named fs End all → StartsMany fits spelled n next all fs
unfolding times
items_of layout fits spelled has zero next named all fs h = record { values = []; fitting = tt; others = fs; named = named; parts = refl; whole = refl; lead = h }
items_of layout fits spelled has (suc n) next named all fs h =
    let first = has (times n layout next) named all fs h in
    let rest = items_of layout fits spelled has n next first.named all first.others first.lead in
    record {
      values = first.value ∷ rest.values;
      fitting = (first.fitting, rest.fitting);
      others = rest.others;
      named = rest.named;
      parts = first.parts ∙ ap (λ (gs : List Field). spelled first.value ++ gs) rest.parts ∙ sym (append_assoc (spelled first.value) (flat_map spelled rest.values) rest.others);
      whole = ap suc rest.whole;
      lead = rest.lead;
    }

items_apart : {X : Type 0} (fits : X → Type 0) (spelled : X → List Field) → AreApart fits spelled → (xs ys : List X) → AllByRecursion fits xs → AllByRecursion fits ys → (gs hs : List Field) → length xs ≡ length ys → flat_map spelled xs ++ gs ≡ flat_map spelled ys ++ hs → (xs ≡ ys) × (gs ≡ hs)
items_apart fits spelled apart [] [] f g gs hs len e = (refl, e)
items_apart fits spelled apart [] (y ∷ ys) f g gs hs len e = absurd (omega (arith, len))
items_apart fits spelled apart (x ∷ xs) [] f g gs hs len e = absurd (omega (arith, len))
items_apart fits spelled apart (x ∷ xs) (y ∷ ys) f g gs hs len e =
    let first = apart x y f.0 g.0 (flat_map spelled xs ++ gs) (flat_map spelled ys ++ hs) (sym (append_assoc (spelled x) (flat_map spelled xs) gs) ∙ e ∙ append_assoc (spelled y) (flat_map spelled ys) hs) in
    let rest = items_apart fits spelled apart xs ys f.1 g.1 gs hs (omega (arith, len)) first.1 in
    (ap (λ (z : _). z ∷ xs) first.0 ∙ ap (λ (zs : List _). y ∷ zs) rest.0, rest.1)

-- ---- lists of fields

pub tails : (f g : Field) (fs gs : List Field) → f ∷ fs ≡ g ∷ gs → (f ≡ g) × (fs ≡ gs)
tails f g fs gs e = (cc, cc)

count_same : (m n : ℕ) → Array (Some m) ≡ Array (Some n) → m ≡ n
count_same m n e = cc

text_same : (s t : List ℕ) → String s ≡ String t → s ≡ t
text_same s t e = cc

-- ---- a topic's name and its partitions

module _ {P : Type 0} (part : Layout) (fits : P → Type 0) (spelled : P → List Field) (has : HasValues part fits spelled) (apart : AreApart fits spelled) where
  abbrev pub parts_fit : List ℕ × List P → Type 0
  parts_fit topic = AllByRecursion fits topic.1

  abbrev pub named_parts : List ℕ × List P → List Field
  named_parts topic = String topic.0 ∷ Array (Some (length topic.1)) ∷ flat_map spelled topic.1

  pub topic_has : HasValues (STRING ⨾ Many ARRAY Partitions part End) parts_fit named_parts
  unfolding followed_by
  topic_has next named all fs h =
      let name = first_of STRING (Many ARRAY Partitions part next) named all fs h in
      let count = counted_first Partitions part next named all name.others name.lead in
      let items = items_of part fits spelled has count.count next (named + count.count) all count.others count.lead in
      record {
        value = (name.is.0, items.values);
        fitting = items.fitting;
        others = items.others;
        named = items.named;
        parts = name.parts ∙ ap (λ (f : Field). f ∷ name.others) name.is.1
            ∙ ap (λ (gs : List Field). String name.is.0 ∷ gs) (count.parts ∙ ap (λ (n : ℕ). Array (Some n) ∷ count.others) (sym items.whole) ∙ ap (λ (gs : List Field). Array (Some (length items.values)) ∷ gs) items.parts);
        lead = items.lead;
      }

  pub topic_apart : AreApart parts_fit named_parts
  topic_apart x y f g gs hs e =
      let name = tails (String x.0) (String y.0) _ _ e in
      let count = tails (Array (Some (length x.1))) (Array (Some (length y.1))) _ _ name.1 in
      let items = items_apart fits spelled apart x.1 y.1 f g gs hs (count_same (length x.1) (length y.1) count.0) count.1 in
      (ap (λ (s : List ℕ). (s, x.1)) (text_same x.0 y.0 name.0) ∙ ap (λ (ps : List P). (y.0, ps)) items.0, items.1)

-- the same values in another shape
module _ {X Y : Type 0} (layout : Layout) (fits : X → Type 0) (spelled : X → List Field) (into : X → Y) (back : Y → X) (same : (y : Y) → into (back y) ≡ y) (other_fits : Y → Type 0) (fits_into : (x : X) → fits x → other_fits (into x)) (fits_back : (y : Y) → other_fits y → fits (back y)) (other : Y → List Field) (spelled_same : (x : X) → other (into x) ≡ spelled x) (other_same : (y : Y) → spelled (back y) ≡ other y) where
  pub has_in : HasValues layout fits spelled → HasValues layout other_fits other
  has_in has next named all fs h =
      let s = has next named all fs h in
      record { value = into s.value; fitting = fits_into s.value s.fitting; others = s.others; named = s.named; parts = s.parts ∙ ap (λ (gs : List Field). gs ++ s.others) (sym (spelled_same s.value)); lead = s.lead }

  pub apart_in : AreApart fits spelled → AreApart other_fits other
  apart_in apart x y f g gs hs e =
      let there = apart (back x) (back y) (fits_back x f) (fits_back y g) gs hs (ap (λ (fs : List Field). fs ++ gs) (other_same x) ∙ e ∙ ap (λ (fs : List Field). fs ++ hs) (sym (other_same y))) in
      (sym (same x) ∙ ap into there.0 ∙ same y, there.1)

-- ---- the parts of requests

produce_part_has : HasValues produce_part_layout any produce_part_fields
unfolding followed_by
produce_part_has next named all fs h =
    let index = first_of INT32 (RECORDS ⨾ next) named all fs h in
    let records = first_of RECORDS next named all index.others index.lead in
    record {
      value = record { index = index.is.0; records = records.is.0 };
      fitting = tt;
      others = records.others;
      named = named;
      parts = index.parts ∙ ap (λ (f : Field). f ∷ index.others) index.is.1 ∙ ap (λ (gs : List Field). Int32 index.is.0 ∷ gs) (records.parts ∙ ap (λ (f : Field). f ∷ records.others) records.is.1);
      lead = records.lead;
    }

produce_part_apart : AreApart any produce_part_fields
produce_part_apart x y f g gs hs e =
    let index : x.index ≡ y.index = cc in
    let records : x.records ≡ y.records = cc in
    (ap (λ (z : ℤ). record { index = z; records = x.records }) index ∙ ap (λ (r : Option (List ℕ)). record { index = y.index; records = r }) records, cc)

fetch_part_by : (b : Bool) (index offset : ℤ) (next : Layout) (named all : ℕ) (fs : List Field) → LeadTo (followed_by (only b INT64 (INT32 ⨾ End)) next) named fs End all
    → Starts {X = FetchPart} (λ part. (b ≡ false → part.log_start ≡ negsuc 0) × (part.index ≡ index) × (part.offset ≡ offset)) (λ part. only_field b (Int64 part.log_start) (Int32 part.most ∷ [])) next all fs
unfolding followed_by
fetch_part_by true index offset next named all fs h =
    let start = first_of INT64 (INT32 ⨾ next) named all fs h in
    let most = first_of INT32 next named all start.others start.lead in
    record {
      value = record { index = index; offset = offset; log_start = start.is.0; most = most.is.0 };
      fitting = (λ untold. absurd cc, refl, refl);
      others = most.others;
      named = named;
      parts = start.parts ∙ ap (λ (f : Field). f ∷ start.others) start.is.1 ∙ ap (λ (gs : List Field). Int64 start.is.0 ∷ gs) (most.parts ∙ ap (λ (f : Field). f ∷ most.others) most.is.1);
      lead = most.lead;
    }
fetch_part_by false index offset next named all fs h =
    let most = first_of INT32 next named all fs h in
    record {
      value = record { index = index; offset = offset; log_start = negsuc 0; most = most.is.0 };
      fitting = (λ untold. refl, refl, refl);
      others = most.others;
      named = named;
      parts = most.parts ∙ ap (λ (f : Field). f ∷ most.others) most.is.1;
      lead = most.lead;
    }

fetch_part_has : (version : ℤ) → HasValues (fetch_part_layout version) (FitsVersion version) (fetch_part_fields version)
unfolding followed_by
fetch_part_has version next named all fs h =
    let rest = followed_by (only (has_log_start version) INT64 (INT32 ⨾ End)) next in
    let index = first_of INT32 (INT64 ⨾ rest) named all fs h in
    let offset = first_of INT64 rest named all index.others index.lead in
    let by = fetch_part_by (has_log_start version) index.is.0 offset.is.0 next named all offset.others offset.lead in
    let tail : FetchPart → List Field = λ part. only_field (has_log_start version) (Int64 part.log_start) (Int32 part.most ∷ []) in
    record {
      value = by.value;
      fitting = by.fitting.0;
      others = by.others;
      named = by.named;
      parts = index.parts ∙ ap (λ (f : Field). f ∷ index.others) index.is.1 ∙ ap (λ (gs : List Field). Int32 index.is.0 ∷ gs) (offset.parts ∙ ap (λ (f : Field). f ∷ offset.others) offset.is.1
          ∙ ap (λ (gs : List Field). Int64 offset.is.0 ∷ gs) by.parts)
          ∙ ap (λ (z : ℤ). Int32 z ∷ Int64 offset.is.0 ∷ tail by.value ++ by.others) (sym by.fitting.1)
          ∙ ap (λ (z : ℤ). Int32 by.value.index ∷ Int64 z ∷ tail by.value ++ by.others) (sym by.fitting.2);
      lead = by.lead;
    }

fetch_part_made : (x y : FetchPart) → x.index ≡ y.index → x.offset ≡ y.offset → x.log_start ≡ y.log_start → x.most ≡ y.most → x ≡ y
fetch_part_made x y one two three four =
    ap (λ (z : ℤ). record { index = z; offset = x.offset; log_start = x.log_start; most = x.most }) one
    ∙ ap (λ (z : ℤ). record { index = y.index; offset = z; log_start = x.log_start; most = x.most }) two
    ∙ ap (λ (z : ℤ). record { index = y.index; offset = y.offset; log_start = z; most = x.most }) three
    ∙ ap (λ (z : ℤ). record { index = y.index; offset = y.offset; log_start = y.log_start; most = z }) four

int32_is : (a b : ℤ) → Int32 a ≡ Int32 b → a ≡ b
int32_is a b e = cc

int64_is : (a b : ℤ) → Int64 a ≡ Int64 b → a ≡ b
int64_is a b e = cc

rest_apart : (b : Bool) (x y : FetchPart) → (b ≡ false → x.log_start ≡ negsuc 0) → (b ≡ false → y.log_start ≡ negsuc 0) → (gs hs : List Field)
    → only_field b (Int64 x.log_start) (Int32 x.most ∷ []) ++ gs ≡ only_field b (Int64 y.log_start) (Int32 y.most ∷ []) ++ hs → (x.log_start ≡ y.log_start) × (x.most ≡ y.most) × (gs ≡ hs)
rest_apart true x y f g gs hs e =
    let start = tails (Int64 x.log_start) (Int64 y.log_start) (Int32 x.most ∷ gs) (Int32 y.most ∷ hs) e in
    let most = tails (Int32 x.most) (Int32 y.most) gs hs start.1 in
    (int64_is x.log_start y.log_start start.0, int32_is x.most y.most most.0, most.1)
rest_apart false x y f g gs hs e =
    let most = tails (Int32 x.most) (Int32 y.most) gs hs e in
    (f refl ∙ sym (g refl), int32_is x.most y.most most.0, most.1)

fetch_part_apart : (version : ℤ) → AreApart (FitsVersion version) (fetch_part_fields version)
fetch_part_apart version x y f g gs hs e =
    let tail : FetchPart → List Field → List Field = λ part more. only_field (has_log_start version) (Int64 part.log_start) (Int32 part.most ∷ []) ++ more in
    let index = tails (Int32 x.index) (Int32 y.index) (Int64 x.offset ∷ tail x gs) (Int64 y.offset ∷ tail y hs) e in
    let offset = tails (Int64 x.offset) (Int64 y.offset) (tail x gs) (tail y hs) index.1 in
    let rest = rest_apart (has_log_start version) x y f g gs hs offset.1 in
    (fetch_part_made x y (int32_is x.index y.index index.0) (int64_is x.offset y.offset offset.0) rest.0 rest.1, rest.2)

name_has : HasValues name_layout any name_fields
unfolding followed_by
name_has next named all fs h =
    let name = first_of STRING next named all fs h in
    record { value = name.is.0; fitting = tt; others = name.others; named = named; parts = name.parts ∙ ap (λ (f : Field). f ∷ name.others) name.is.1; lead = name.lead }

name_apart : AreApart any name_fields
name_apart x y f g gs hs e = (cc, cc)

all_any : {X : Type 0} (xs : List X) → AllByRecursion any xs
all_any [] = tt
all_any (x ∷ xs) = (tt, all_any xs)

abbrev produce_topic : List ℕ × List ProducePart → ProduceTopic
produce_topic t = record { name = t.0; parts = t.1 }

produce_topic_has : HasValues produce_topic_layout any produce_topic_fields
produce_topic_has = has_in produce_topic_layout (parts_fit produce_part_layout any produce_part_fields produce_part_has produce_part_apart) (named_parts produce_part_layout any produce_part_fields produce_part_has produce_part_apart) produce_topic (λ topic. (topic.name, topic.parts)) (λ topic. refl) any (λ x f. tt) (λ y f. all_any y.parts) produce_topic_fields (λ t. refl) (λ t. refl)
    (topic_has produce_part_layout any produce_part_fields produce_part_has produce_part_apart)

produce_topic_apart : AreApart any produce_topic_fields
produce_topic_apart = apart_in produce_topic_layout (parts_fit produce_part_layout any produce_part_fields produce_part_has produce_part_apart) (named_parts produce_part_layout any produce_part_fields produce_part_has produce_part_apart) produce_topic (λ topic. (topic.name, topic.parts)) (λ topic. refl) any (λ x f. tt) (λ y f. all_any y.parts) produce_topic_fields (λ t. refl) (λ t. refl)
    (topic_apart produce_part_layout any produce_part_fields produce_part_has produce_part_apart)

abbrev fetch_topic : List ℕ × List FetchPart → FetchTopic
fetch_topic t = record { name = t.0; parts = t.1 }

abbrev topic_fits : ℤ → FetchTopic → Type 0
topic_fits version topic = AllByRecursion (FitsVersion version) topic.parts

fetch_topic_has : (version : ℤ) → HasValues (fetch_topic_layout version) (topic_fits version) (fetch_topic_fields version)
fetch_topic_has version =
    let layout = fetch_part_layout version in let fits = FitsVersion version in let spelled = fetch_part_fields version in
    has_in (fetch_topic_layout version) (parts_fit layout fits spelled (fetch_part_has version) (fetch_part_apart version)) (named_parts layout fits spelled (fetch_part_has version) (fetch_part_apart version)) fetch_topic (λ topic. (topic.name, topic.parts)) (λ topic. refl) (topic_fits version) (λ x f. f) (λ y f. f) (fetch_topic_fields version) (λ t. refl) (λ t. refl)
    (topic_has layout fits spelled (fetch_part_has version) (fetch_part_apart version))

fetch_topic_apart : (version : ℤ) → AreApart (topic_fits version) (fetch_topic_fields version)
fetch_topic_apart version =
    let layout = fetch_part_layout version in let fits = FitsVersion version in let spelled = fetch_part_fields version in
    apart_in (fetch_topic_layout version) (parts_fit layout fits spelled (fetch_part_has version) (fetch_part_apart version)) (named_parts layout fits spelled (fetch_part_has version) (fetch_part_apart version)) fetch_topic (λ topic. (topic.name, topic.parts)) (λ topic. refl) (topic_fits version) (λ x f. f) (λ y f. f) (fetch_topic_fields version) (λ t. refl) (λ t. refl)
    (topic_apart layout fits spelled (fetch_part_has version) (fetch_part_apart version))

-- ---- what is asked

-- these fields are those of something that is asked of the api
pub record Asked (api : Api) (v : ℤ) (fs : List Field) : Type 0 where
  pub ask : Ask
  pub parts : fs ≡ ask_fields ask
  pub asked : api_of ask ≡ api
  pub version_is : version_of ask ≡ v
  pub fitting : AllFitVersion ask

ended : {X : Type 0} (fits : X → Type 0) (spelled : X → List Field) (n all : ℕ) (fs : List Field) (m : StartsMany fits spelled n End all fs) → fs ≡ flat_map spelled m.values
ended fits spelled n all fs m = m.parts ∙ ap (λ (gs : List Field). flat_map spelled m.values ++ gs) (nothing_left m.others m.lead) ∙ append-nil (flat_map spelled m.values)
  where
    nothing_left : (gs : List Field) → LeadTo End m.named gs End all → gs ≡ []
    nothing_left [] h = refl
    nothing_left (g ∷ gs) h = absurd h.0

-- whatever of metadata and of the api versions has one version alone
abbrev pub HasOneVersion : Api → ℤ → Type 0
HasOneVersion ProduceApi v = ⊤
HasOneVersion FetchApi v = ⊤
HasOneVersion MetadataApi v = v ≡ (versions_of_api MetadataApi).greatest
HasOneVersion VersionsApi v = ⊤

pub ask_of_fields : (api : Api) (v : ℤ) (all : ℕ) (fs : List Field) → HasOneVersion api v → LeadTo (ask_layout api v) 0 fs End all → Asked api v fs
ask_of_fields ProduceApi v all fs one h =
    let transactional = first_of NULLABLE_STRING (INT16 ⨾ INT32 ⨾ Many ARRAY Topics produce_topic_layout End) 0 all fs h in
    let acks = first_of INT16 (INT32 ⨾ Many ARRAY Topics produce_topic_layout End) 0 all transactional.others transactional.lead in
    let timeout = first_of INT32 (Many ARRAY Topics produce_topic_layout End) 0 all acks.others acks.lead in
    let count = counted_first Topics produce_topic_layout End 0 all timeout.others timeout.lead in
    let topics = items_of produce_topic_layout any produce_topic_fields produce_topic_has count.count End 0 all count.others count.lead in
    record {
      ask = Produce v transactional.is.0 acks.is.0 timeout.is.0 topics.values;
      parts = transactional.parts ∙ ap (λ (f : Field). f ∷ transactional.others) transactional.is.1
          ∙ ap (λ (gs : List Field). NullableString transactional.is.0 ∷ gs) (acks.parts ∙ ap (λ (f : Field). f ∷ acks.others) acks.is.1
          ∙ ap (λ (gs : List Field). Int16 acks.is.0 ∷ gs) (timeout.parts ∙ ap (λ (f : Field). f ∷ timeout.others) timeout.is.1
          ∙ ap (λ (gs : List Field). Int32 timeout.is.0 ∷ gs) (count.parts ∙ ap (λ (n : ℕ). Array (Some n) ∷ count.others) (sym topics.whole)
          ∙ ap (λ (gs : List Field). Array (Some (length topics.values)) ∷ gs) (ended any produce_topic_fields count.count all count.others topics))));
      asked = refl;
      version_is = refl;
      fitting = tt;
    }
ask_of_fields FetchApi v all fs one h =
    let replica = first_of INT32 (INT32 ⨾ INT32 ⨾ INT32 ⨾ INT8_OF isolation_levels ⨾ Many ARRAY Topics (fetch_topic_layout v) End) 0 all fs h in
    let wait = first_of INT32 (INT32 ⨾ INT32 ⨾ INT8_OF isolation_levels ⨾ Many ARRAY Topics (fetch_topic_layout v) End) 0 all replica.others replica.lead in
    let least = first_of INT32 (INT32 ⨾ INT8_OF isolation_levels ⨾ Many ARRAY Topics (fetch_topic_layout v) End) 0 all wait.others wait.lead in
    let most = first_of INT32 (INT8_OF isolation_levels ⨾ Many ARRAY Topics (fetch_topic_layout v) End) 0 all least.others least.lead in
    let isolation = first_of (INT8_OF isolation_levels) (Many ARRAY Topics (fetch_topic_layout v) End) 0 all most.others most.lead in
    let count = counted_first Topics (fetch_topic_layout v) End 0 all isolation.others isolation.lead in
    let topics = items_of (fetch_topic_layout v) (topic_fits v) (fetch_topic_fields v) (fetch_topic_has v) count.count End 0 all count.others count.lead in
    record {
      ask = Fetch v replica.is.0 wait.is.0 least.is.0 most.is.0 isolation.is.0 topics.values;
      parts = replica.parts ∙ ap (λ (f : Field). f ∷ replica.others) replica.is.1
          ∙ ap (λ (gs : List Field). Int32 replica.is.0 ∷ gs) (wait.parts ∙ ap (λ (f : Field). f ∷ wait.others) wait.is.1
          ∙ ap (λ (gs : List Field). Int32 wait.is.0 ∷ gs) (least.parts ∙ ap (λ (f : Field). f ∷ least.others) least.is.1
          ∙ ap (λ (gs : List Field). Int32 least.is.0 ∷ gs) (most.parts ∙ ap (λ (f : Field). f ∷ most.others) most.is.1
          ∙ ap (λ (gs : List Field). Int32 most.is.0 ∷ gs) (isolation.parts ∙ ap (λ (f : Field). f ∷ isolation.others) isolation.is.1
          ∙ ap (λ (gs : List Field). Int8 isolation.is.0 ∷ gs) (count.parts ∙ ap (λ (n : ℕ). Array (Some n) ∷ count.others) (sym topics.whole)
          ∙ ap (λ (gs : List Field). Array (Some (length topics.values)) ∷ gs) (ended (topic_fits v) (fetch_topic_fields v) count.count all count.others topics))))));
      asked = refl;
      version_is = refl;
      fitting = topics.fitting;
    }
ask_of_fields MetadataApi v all fs one h =
    let count = count_first NULLABLE_ARRAY Topics name_layout End 0 all fs h in
    let there = subst (λ (f : Field). LeadTo (times (count_of f) name_layout End) 0 count.others End all) count.is.1 count.lead in
    let parts = count.parts ∙ ap (λ (f : Field). f ∷ count.others) count.is.1 in
    names_of count.is.0 all fs count.others parts there
  where
    names_of : (count : Option ℕ) (all : ℕ) (fs others : List Field) → fs ≡ Array count ∷ others → LeadTo (times (count_of (Array count)) name_layout End) 0 others End all → Asked MetadataApi v fs
    names_of None all fs others parts lead =
        let names = items_of name_layout any name_fields name_has 0 End 0 all others lead in
        record { ask = Metadata None; parts = parts ∙ ap (λ (gs : List Field). Array None ∷ gs) (ended any name_fields 0 all others names ∙ ap (flat_map name_fields) (empty names.values names.whole)); asked = refl; version_is = sym one; fitting = tt }
      where
        empty : (xs : List (List ℕ)) → length xs ≡ 0 → xs ≡ []
        empty [] e = refl
        empty (x ∷ xs) e = absurd (omega (arith, e))
    names_of (Some n) all fs others parts lead =
        let names = items_of name_layout any name_fields name_has n End 0 all others lead in
        record {
          ask = Metadata (Some names.values);
          parts = parts ∙ ap (λ (k : ℕ). Array (Some k) ∷ others) (sym names.whole) ∙ ap (λ (gs : List Field). Array (Some (length names.values)) ∷ gs) (ended any name_fields n all others names);
          asked = refl;
          version_is = sym one;
          fitting = tt;
        }
ask_of_fields VersionsApi v all [] one h = record { ask = Versions v; parts = refl; asked = refl; version_is = refl; fitting = tt }
ask_of_fields VersionsApi v all (f ∷ fs) one h = absurd h.0

-- ---- the same fields are those of one ask

no_more : (fs : List Field) → fs ≡ fs ++ []
no_more fs = sym (append-nil fs)

abbrev no_count : Option ℕ
no_count = None

names_apart : (a b : Option (List (List ℕ))) → Array (option_map length a) ∷ flat_map name_fields (unwrap_or a []) ≡ Array (option_map length b) ∷ flat_map name_fields (unwrap_or b []) → a ≡ b
names_apart None None e = refl
names_apart None (Some ys) e = let other : no_count ≡ Some (length ys) = cc in absurd cc
names_apart (Some xs) None e = let other : no_count ≡ Some (length xs) = cc in absurd cc
names_apart (Some xs) (Some ys) e =
    let heads = tails (Array (Some (length xs))) (Array (Some (length ys))) (flat_map name_fields xs) (flat_map name_fields ys) e in
    ap Some (items_apart any name_fields name_apart xs ys (all_any xs) (all_any ys) [] [] (count_same (length xs) (length ys) heads.0) (sym (no_more (flat_map name_fields xs)) ∙ heads.1 ∙ no_more (flat_map name_fields ys))).0

produce_same : (v : ℤ) (t u : Option (List ℕ)) (a b c d : ℤ) (xs ys : List ProduceTopic) → ask_fields (Produce v t a c xs) ≡ ask_fields (Produce v u b d ys) → Produce v t a c xs ≡ Produce v u b d ys
produce_same v t u a b c d xs ys e =
    let one = tails (NullableString t) (NullableString u) _ _ e in
    let two = tails (Int16 a) (Int16 b) _ _ one.1 in
    let three = tails (Int32 c) (Int32 d) _ _ two.1 in
    let four = tails (Array (Some (length xs))) (Array (Some (length ys))) _ _ three.1 in
    let topics = items_apart any produce_topic_fields produce_topic_apart xs ys (all_any xs) (all_any ys) [] [] (count_same (length xs) (length ys) four.0) (sym (no_more (flat_map produce_topic_fields xs)) ∙ four.1 ∙ no_more (flat_map produce_topic_fields ys)) in
    let t_is : t ≡ u = cc in
    let a_is : a ≡ b = cc in
    let c_is : c ≡ d = cc in
    ap (λ (x : Option (List ℕ)). Produce v x a c xs) t_is ∙ ap (λ (x : ℤ). Produce v u x c xs) a_is ∙ ap (λ (x : ℤ). Produce v u b x xs) c_is ∙ ap (Produce v u b d) topics.0

fetch_same : (v a b c d i m n o p j : ℤ) (xs ys : List FetchTopic) → AllByRecursion (topic_fits v) xs → AllByRecursion (topic_fits v) ys → ask_fields (Fetch v a b c d i xs) ≡ ask_fields (Fetch v m n o p j ys)
    → Fetch v a b c d i xs ≡ Fetch v m n o p j ys
fetch_same v a b c d i m n o p j xs ys f g e =
    let one = tails (Int32 a) (Int32 m) _ _ e in
    let two = tails (Int32 b) (Int32 n) _ _ one.1 in
    let three = tails (Int32 c) (Int32 o) _ _ two.1 in
    let four = tails (Int32 d) (Int32 p) _ _ three.1 in
    let five = tails (Int8 i) (Int8 j) _ _ four.1 in
    let six = tails (Array (Some (length xs))) (Array (Some (length ys))) _ _ five.1 in
    let topics = items_apart (topic_fits v) (fetch_topic_fields v) (fetch_topic_apart v) xs ys f g [] [] (count_same (length xs) (length ys) six.0) (sym (no_more (flat_map (fetch_topic_fields v) xs)) ∙ six.1 ∙ no_more (flat_map (fetch_topic_fields v) ys)) in
    let a_is : a ≡ m = cc in
    let b_is : b ≡ n = cc in
    let c_is : c ≡ o = cc in
    let d_is : d ≡ p = cc in
    let i_is : i ≡ j = cc in
    ap (λ (x : ℤ). Fetch v x b c d i xs) a_is ∙ ap (λ (x : ℤ). Fetch v m x c d i xs) b_is ∙ ap (λ (x : ℤ). Fetch v m n x d i xs) c_is ∙ ap (λ (x : ℤ). Fetch v m n o x i xs) d_is ∙ ap (λ (x : ℤ). Fetch v m n o p x xs) i_is ∙ ap (Fetch v m n o p j) topics.0

pub ask_apart : (a b : Ask) → api_of a ≡ api_of b → version_of a ≡ version_of b → AllFitVersion a → AllFitVersion b → ask_fields a ≡ ask_fields b → a ≡ b
ask_apart (Produce v t a c xs) (Produce w u b d ys) same is f g e =
    let here : Produce v t a c xs ≡ Produce w t a c xs = ap (λ (x : ℤ). Produce x t a c xs) is in
    here ∙ produce_same w t u a b c d xs ys (sym (ap ask_fields here) ∙ e)
ask_apart (Produce v t a c xs) (Fetch w m n o p j ys) same is f g e = absurd cc
ask_apart (Produce v t a c xs) (Metadata y) same is f g e = absurd cc
ask_apart (Produce v t a c xs) (Versions y) same is f g e = absurd cc
ask_apart (Fetch v a b c d i xs) (Produce w u m o ys) same is f g e = absurd cc
ask_apart (Fetch v a b c d i xs) (Fetch w m n o p j ys) same is f g e =
    let here : Fetch v a b c d i xs ≡ Fetch w a b c d i xs = ap (λ (x : ℤ). Fetch x a b c d i xs) is in
    here ∙ fetch_same w a b c d i m n o p j xs ys (subst (λ (x : ℤ). AllByRecursion (topic_fits x) xs) is f) g (sym (ap ask_fields here) ∙ e)
ask_apart (Fetch v a b c d i xs) (Metadata y) same is f g e = absurd cc
ask_apart (Fetch v a b c d i xs) (Versions y) same is f g e = absurd cc
ask_apart (Metadata x) (Produce w u m o ys) same is f g e = absurd cc
ask_apart (Metadata x) (Fetch w m n o p j ys) same is f g e = absurd cc
ask_apart (Metadata x) (Metadata y) same is f g e = ap Metadata (names_apart x y e)
ask_apart (Metadata x) (Versions y) same is f g e = absurd cc
ask_apart (Versions x) (Produce w u m o ys) same is f g e = absurd cc
ask_apart (Versions x) (Fetch w m n o p j ys) same is f g e = absurd cc
ask_apart (Versions x) (Metadata y) same is f g e = absurd cc
ask_apart (Versions x) (Versions y) same is f g e = ap Versions is
