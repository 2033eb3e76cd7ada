-- What is told of the partition or the topic at a place.
use Rattle.std.proofs.Common.{◌≡◌, ℕ, zero, suc, ◌+◌, ◌<◌, List, [], ◌∷◌, ◌++◌, length, get_or, take, drop, sum_by, refl, sym, ap, subst, ◌∙◌, arith}
use Rattle.std.proofs.lemmas.List.{drop-drop, drop_more}
use Rattle.std.proofs.lemmas.List.Sums.{sum_by-cons, sum_by-take-drop}
use Rattle.std.specs.List.{flat_map}
use Rattle.kbytes.specs.Field.{Field}
use Rattle.kanswer.specs.declared.accepted.Accepted.{Accepted}
use Rattle.kanswer.specs.declared.accepted.Reading.{Reading}
use Rattle.kanswer.specs.ToldParts.{parts_by, topics_by}

module _ {A B : Type 0} (f : A → Accepted → Reading → B) where
  pub parts_length : (parts : List A) (results : List Accepted) (readings : List Reading) → length results ≡ length parts → length readings ≡ length parts → length (parts_by f parts results readings) ≡ length parts
  parts_length [] results readings e1 e2 = refl
  parts_length (asked ∷ parts) [] readings e1 e2 = absurd cc
  parts_length (asked ∷ parts) (result ∷ results) [] e1 e2 = absurd cc
  parts_length (asked ∷ parts) (result ∷ results) (reading ∷ readings) e1 e2 = ap suc (parts_length parts results readings (omega (arith, e1)) (omega (arith, e2)))

  pub part_at : (parts : List A) (results : List Accepted) (readings : List Reading) (at : ℕ) (p : A) (a : Accepted) (r : Reading) → at < length parts → length results ≡ length parts → length readings ≡ length parts
      → p ≡ get_or parts at p → r ≡ get_or readings at r → f p (get_or results at a) r ≡ get_or (parts_by f parts results readings) at (f p (get_or results at a) r)
  part_at [] results readings at p a r lt e1 e2 is same = absurd (omega arith)
  part_at (asked ∷ parts) [] readings at p a r lt e1 e2 is same = absurd cc
  part_at (asked ∷ parts) (result ∷ results) [] at p a r lt e1 e2 is same = absurd cc
  part_at (asked ∷ parts) (result ∷ results) (reading ∷ readings) zero p a r lt e1 e2 is same = ap (λ (x : A). f x result r) is ∙ ap (f asked result) same
  part_at (asked ∷ parts) (result ∷ results) (reading ∷ readings) (suc at) p a r lt e1 e2 is same =
      part_at parts results readings at p a r (omega (arith, lt)) (omega (arith, e1)) (omega (arith, e2)) is same

module _ {A P : Type 0} (parts : A → List P) where
  abbrev size : A → ℕ
  size topic = length (parts topic)

  -- what stands before it are as many as the topics before it name
  placed : (topics : List A) (i from : ℕ) → from + sum_by size (drop i topics) ≡ sum_by size topics → from ≡ sum_by size (take i topics)
  placed topics i from e = omega (arith, e, sum_by-take-drop size topics i)

  -- there is room for what the next topic names
  pub topic_room : (topics : List A) (i from n : ℕ) (t : A) → i < length topics → t ≡ get_or topics i t → n ≡ size t → from + sum_by size (drop i topics) ≡ sum_by size topics
      → from + n + sum_by size (drop (i + 1) topics) ≡ sum_by size topics
  topic_room topics i from n t lt is named e =
      omega (arith, e, named, ap (sum_by size) (drop_more topics i t lt), sum_by-cons size (get_or topics i t) (drop (i + 1) topics), ap size is)

  module _ {B : Type 0} (f : A → List Accepted → List Reading → B) where
    pub topics_length : (topics : List A) (results : List Accepted) (readings : List Reading) → length (topics_by size f topics results readings) ≡ length topics
    topics_length [] results readings = refl
    topics_length (topic ∷ topics) results readings = ap suc (topics_length topics (drop (size topic) results) (drop (size topic) readings))

    topic_from : (topics : List A) (results : List Accepted) (readings : List Reading) (i from n : ℕ) (t : A) → i < length topics → t ≡ get_or topics i t → n ≡ size t → from ≡ sum_by size (take i topics)
        → f t (take n (drop from results)) (take n (drop from readings)) ≡ get_or (topics_by size f topics results readings) i (f t (take n (drop from results)) (take n (drop from readings)))
    topic_from [] results readings i from n t lt is named e = absurd (omega arith)
    topic_from (topic ∷ topics) results readings zero from n t lt is named e =
        ap (λ (k : ℕ). f t (take n (drop k results)) (take n (drop k readings))) e
        ∙ ap (λ (k : ℕ). f t (take k results) (take k readings)) named
        ∙ ap (λ (x : A). f x (take (size x) results) (take (size x) readings)) is
    topic_from (topic ∷ topics) results readings (suc i) from n t lt is named e =
        let m : ℕ = size topic in
        let k : ℕ = sum_by size (take i topics) in
        let behind : from ≡ m + k = e ∙ sum_by-cons size topic (take i topics) in
        let told : List B = topics_by size f topics (drop m results) (drop m readings) in
        let here : List Accepted → List Reading → B = λ rs ds. f t (take n rs) (take n ds) in
        subst (λ (rs : List Accepted). here rs (drop from readings) ≡ get_or told i (here rs (drop from readings))) (drop-drop k m results ∙ ap (λ (x : ℕ). drop x results) (sym behind))
        (subst (λ (ds : List Reading). here (drop k (drop m results)) ds ≡ get_or told i (here (drop k (drop m results)) ds)) (drop-drop k m readings ∙ ap (λ (x : ℕ). drop x readings) (sym behind))
        (topic_from topics (drop m results) (drop m readings) i k n t (omega (arith, lt)) is named refl))

    pub topic_at : (topics : List A) (results : List Accepted) (readings : List Reading) (i from n : ℕ) (t : A) → i < length topics → t ≡ get_or topics i t → n ≡ size t → from + sum_by size (drop i topics) ≡ sum_by size topics
        → f t (take n (drop from results)) (take n (drop from readings)) ≡ get_or (topics_by size f topics results readings) i (f t (take n (drop from results)) (take n (drop from readings)))
    topic_at topics results readings i from n t lt is named e = topic_from topics results readings i from n t lt is named (placed topics i from e)

    -- the fields of what is told are those of each topic
    pub topics_spelled : (kind : B → List Field) (topics : List A) (results : List Accepted) (readings : List Reading)
        → flat_map kind (topics_by size f topics results readings) ≡ flat_map (λ fields. fields) (topics_by size (λ t rs ds. kind (f t rs ds)) topics results readings)
    topics_spelled kind [] results readings = refl
    topics_spelled kind (topic ∷ topics) results readings =
        ap (λ (fs : List Field). kind (f topic (take (size topic) results) (take (size topic) readings)) ++ fs) (topics_spelled kind topics (drop (size topic) results) (drop (size topic) readings))
