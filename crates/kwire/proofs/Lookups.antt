-- Partitions looked up among the topics, one topic after the other.
use Rattle.std.proofs.Common.{◌≡◌, ℕ, suc, ◌+◌, ◌-◌, ◌<◌, ◌≤◌, ltb, ℤ, pos, negsuc, ◌<ℤ◌, true, false, cond, List, [], ◌∷◌, length, get_or, take, drop, Option, Some, None, refl, sym, ap, subst, ◌∙◌, add-one, drop-cons, arith, inl, inr}
use Rattle.std.specs.Prelude.{replicate, slice_index}
use Rattle.std.specs.Prelude.{IfSome}
use Rattle.std.proofs.lemmas.Bool.{cases_lt, lt-ltb, le-ltb}
use Rattle.std.proofs.lemmas.Int.{ints}
use Rattle.std.specs.Cmp.Lexicographic.{pointwise}
use Rattle.std.specs.Bool.{nat_eq}
use Rattle.std.proofs.lemmas.Option.{unwrap_or-slice_get}
use Rattle.std.specs.List.{flat_map}
use Rattle.std.proofs.lemmas.List.{drop_all, length-replicate, get_or_append_left, get_or-append_right, get_or-replicate}
use Rattle.std.proofs.lemmas.List.Sums.{sum_by-take-drop, sum_by-cons}
use Rattle.kwire.specs.declared.config.Topic.{Topic}
use Rattle.kwire.specs.Configuration.{partitions_of, followers_of, min_insyncs_of, min_insync_at, part_from}

module _ (topics : List Topic) (i : ℕ) (topic : Topic) (lt : i < length topics) (is : topic ≡ get_or topics i topic) where
  pub topic_here : drop i topics ≡ topic ∷ drop (i + 1) topics
  topic_here = rw (add-one, drop-cons topics i topic lt) (ap (λ (t : Topic). t ∷ drop (suc i) topics) (sym is))

  pub sum_here : partitions_of (drop i topics) ≡ topic.partitions + partitions_of (drop (i + 1) topics)
  sum_here = ap partitions_of topic_here ∙ sum_by-cons (λ (t : Topic). t.partitions) topic (drop (i + 1) topics)

  pub sum_next : partitions_of (take (i + 1) topics) ≡ partitions_of (take i topics) + topic.partitions
  sum_next =
      omega (arith, sum_here, sum_by-take-drop (λ (t : Topic). t.partitions) topics i, sum_by-take-drop (λ (t : Topic). t.partitions) topics (i + 1))

  pub sum_within : partitions_of (take i topics) + topic.partitions ≤ partitions_of topics
  sum_within = omega (arith, sum_here, sum_by-take-drop (λ (t : Topic). t.partitions) topics i)

  pub part_next : (before number : ℕ) (name : List ℕ) → pointwise nat_eq topic.name name ≡ false → part_from before (drop i topics) name (pos number) ≡ part_from (before + topic.partitions) (drop (i + 1) topics) name (pos number)
  part_next before number name other = ap (λ (ts : List Topic). part_from before ts name (pos number)) topic_here ∙ rw other refl

  pub part_here : (before number : ℕ) (name : List ℕ) → pointwise nat_eq topic.name name ≡ true → part_from before (drop i topics) name (pos number) ≡ cond (ltb number topic.partitions) (Some (before + number)) None
  part_here before number name same = ap (λ (ts : List Topic). part_from before ts name (pos number)) topic_here ∙ rw same refl

pub part_past : (topics : List Topic) (i before number : ℕ) (name : List ℕ) → length topics ≤ i → part_from before (drop i topics) name (pos number) ≡ None
part_past topics i before number name le = ap (λ (ts : List Topic). part_from before ts name (pos number)) (drop_all i topics le)

-- no partition has a number below 0
pub part_negative : (topics : List Topic) (name : List ℕ) (z : ℤ) → z <ℤ pos 0 → part_from 0 topics name z ≡ None
part_negative [] name z lt = refl
part_negative (topic ∷ topics) name (negsuc n) lt = refl
part_negative (topic ∷ topics) name (pos n) lt = absurd (omega (arith, ints, lt))

pub part_within : (before n all : ℕ) (topic : Topic) (r : Option ℕ) → before + topic.partitions ≤ all → r ≡ cond (ltb n topic.partitions) (Some (before + n)) None → IfSome r (λ part. part < all)
part_within before n all topic r le is =
    subst (λ (o : Option ℕ). IfSome o (λ part. part < all)) (sym is)
    (elim (cases_lt n topic.partitions) [
      | inl lt ↦ rw (lt-ltb n topic.partitions lt) (omega arith)
      | inr ge ↦ rw (le-ltb n topic.partitions ge) tt
    ])

pub below_64 : (r : Option ℕ) (all : ℕ) → all ≤ 64 → IfSome r (λ part. part < all) → IfSome r (λ part. part < 64)
below_64 None all le h = tt
below_64 (Some part) all le h = omega (arith, h)

-- ---- a number of each topic, told of each of its partitions

abbrev by_partition : (Topic → ℕ) → List Topic → List ℕ
by_partition number topics = flat_map (λ topic. replicate topic.partitions (number topic)) topics

module _ (number : Topic → ℕ) (topics : List Topic) (i : ℕ) (topic : Topic) (lt : i < length topics) (is : topic ≡ get_or topics i topic) where
  number_here : (left : ℕ) → left < topic.partitions → get_or (by_partition number (drop i topics)) left 0 ≡ number topic
  number_here left less =
      ap (λ (ts : List Topic). get_or (by_partition number ts) left 0) (topic_here topics i topic lt is)
      ∙ get_or_append_left (replicate topic.partitions (number topic)) (by_partition number (drop (i + 1) topics)) 0 left (omega (arith, length-replicate topic.partitions (number topic), less))
      ∙ get_or-replicate topic.partitions left (number topic) 0 less

  number_next : (left : ℕ) → topic.partitions ≤ left → get_or (by_partition number (drop i topics)) left 0 ≡ get_or (by_partition number (drop (i + 1) topics)) (left - topic.partitions) 0
  number_next left more =
      ap (λ (ts : List Topic). get_or (by_partition number ts) left 0) (topic_here topics i topic lt is)
      ∙ get_or-append_right (replicate topic.partitions (number topic)) (by_partition number (drop (i + 1) topics)) topic.partitions left 0 (length-replicate topic.partitions (number topic)) more

module _ (topics : List Topic) (i : ℕ) (topic : Topic) (lt : i < length topics) (is : topic ≡ get_or topics i topic) where
  pub followers_here : (left : ℕ) → left < topic.partitions → slice_index (followers_of (drop i topics)) left ≡ topic.followers
  followers_here left less = number_here (λ t. t.followers) topics i topic lt is left less

  pub followers_next : (left : ℕ) → topic.partitions ≤ left → slice_index (followers_of (drop i topics)) left ≡ slice_index (followers_of (drop (i + 1) topics)) (left - topic.partitions)
  followers_next left more = number_next (λ t. t.followers) topics i topic lt is left more

  pub min_insync_here : (left : ℕ) → left < topic.partitions → min_insync_at (drop i topics) left ≡ topic.min_insync
  min_insync_here left less = unwrap_or-slice_get (min_insyncs_of (drop i topics)) left 0 ∙ number_here (λ t. t.min_insync) topics i topic lt is left less

  pub min_insync_next : (left : ℕ) → topic.partitions ≤ left → min_insync_at (drop i topics) left ≡ min_insync_at (drop (i + 1) topics) (left - topic.partitions)
  min_insync_next left more =
      unwrap_or-slice_get (min_insyncs_of (drop i topics)) left 0 ∙ number_next (λ t. t.min_insync) topics i topic lt is left more
      ∙ sym (unwrap_or-slice_get (min_insyncs_of (drop (i + 1) topics)) (left - topic.partitions) 0)

pub min_insync_past : (topics : List Topic) (i left : ℕ) → length topics ≤ i → min_insync_at (drop i topics) left ≡ 0
min_insync_past topics i left le = ap (λ (ts : List Topic). min_insync_at ts left) (drop_all i topics le)
