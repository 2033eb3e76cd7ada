-- Lines at the front of a trace.
use Rattle.std.proofs.Common.{◌≡◌, ℕ, suc, ◌<◌, Bool, true, List, [], ◌∷◌, ◌++◌, length, get_or, refl, sym, ap, ◌∙◌, subst, arith, inl, inr, ◌⊎◌, Contains}
use Rattle.std.specs.List.{flat_map, list_any, AllPairs}
use Rattle.std.proofs.lemmas.List.{append_assoc, get_or_append_left, get_or_at, length-append}
use Rattle.std.proofs.lemmas.List.Elements.{All-push, Contains-push}
use Rattle.std.proofs.lemmas.List.Quantifiers.{all_pairs_push}
use Rattle.std.proofs.lemmas.Grind.{flat_map-append}
use Rattle.kwire.specs.Configuration.{IsNewTopic}
use Rattle.kwire.specs.declared.config.Topic as topics
use Rattle.trace_file.specs.declared.line.Line.{Line}
use Rattle.trace_file.specs.declared.line.Line.TheVariants.{Topic, Feed, Shut, Clock, End}
use Rattle.trace_file.specs.declared.reading.Reading.{Reading}
use Rattle.trace_file.specs.Contents.{topic_in}
use Rattle.trace_file.specs.IsInOrder.{MayFollow, AreNewTopics, DeclaresOrEnds, IsInOrder}
use Rattle.trace_file.specs.LineFaults.{MayStand, IsNewLine}
use Rattle.trace_file.specs.FirstBad.{MayBegin}
use Rattle.trace_file.specs.Sees.{is_end, Sees, AreRead}

-- a list with one more item, cut before an item: that item is the last one, or it stood before
cut_push : {A : Type 0} (xs front back : List A) (x y : A) → xs ++ x ∷ [] ≡ front ++ y ∷ back → ((xs ≡ front) × (x ≡ y)) ⊎ ((rest : List A) × (xs ≡ front ++ y ∷ rest))
cut_push [] [] back x y e = inl (refl, cc)
cut_push [] (z ∷ []) back x y e = absurd cc
cut_push [] (z ∷ z' ∷ front) back x y e = absurd cc
cut_push (w ∷ xs) [] back x y e = inr (xs, let h : w ≡ y = cc in ap (λ v. v ∷ xs) h)
cut_push (w ∷ xs) (z ∷ front) back x y e =
    let head : w ≡ z = cc in
    let tail : xs ++ x ∷ [] ≡ front ++ y ∷ back = cc in
    elim (cut_push xs front back x y tail) [
      | inl p ↦ inl (let same = p.0 in cc, p.1)
      | inr p ↦ inr (p.0, let same = p.1 in cc)
    ]

new_more : (lines : List Line) (line : Line) → AreNewTopics lines → IsNewLine lines line → AreNewTopics (lines ++ line ∷ [])
new_more lines line before new front back name partitions followers least e =
    elim (cut_push lines front back line (Topic name partitions followers least) e) [
      | inl p ↦ subst (λ (ls : List Line). IsNewTopic (flat_map topic_in ls) name partitions followers least) p.0 (new name partitions followers least p.1)
      | inr p ↦ before front p.0 name partitions followers least p.1
    ]

empty_cut : (front back : List Line) (line : Line) → [] ≡ front ++ line ∷ back → ⊥
empty_cut [] back line e = absurd cc
empty_cut (l ∷ front) back line e = absurd cc

-- no lines may begin a trace
pub begin_none : (only_topics : Bool) → MayBegin only_topics []
begin_none only_topics = record {
  pairs = λ i j d lt within. absurd (omega arith);
  topics = λ front back name partitions followers least e. absurd (empty_cut front back (Topic name partitions followers least) e);
  declares = λ only k d lt. absurd (omega arith);
}

-- with one more line that may stand next
pub begin_more : (only_topics : Bool) (lines : List Line) (line : Line) → MayBegin only_topics lines → MayStand only_topics lines line → IsNewLine lines line
    → MayBegin only_topics (lines ++ line ∷ [])
begin_more only_topics lines line h may new = record {
  pairs = all_pairs_push MayFollow lines line h.pairs (λ k d lt. may.follows k d lt);
  topics = new_more lines line h.topics new;
  declares = λ only. All-push DeclaresOrEnds lines line (h.declares only) (may.declares only);
}

-- and each line may stand next where it does
pub begin_parts : (only_topics : Bool) (front back : List Line) (line : Line) → MayBegin only_topics (front ++ line ∷ back) → MayStand only_topics front line × IsNewLine front line
begin_parts only_topics front back line h =
    let here : (d : Line) → get_or (front ++ line ∷ back) (length front) d ≡ line = λ d. get_or_at front line back d (length front) refl in
    let within : length front < length (front ++ line ∷ back) = omega (arith, length-append front (line ∷ back)) in (
      record {
        follows = λ k d lt.
            let there : get_or (front ++ line ∷ back) k d ≡ get_or front k d = get_or_append_left front (line ∷ back) d k lt in
            let pair = h.pairs k (length front) d lt within in
            subst (λ (l : Line). MayFollow (get_or front k d) l) (here d) (subst (λ (l : Line). MayFollow l (get_or (front ++ line ∷ back) (length front) d)) there pair);
        declares = λ only. subst DeclaresOrEnds (here line) (h.declares only (length front) line within);
      },
      λ name partitions followers least is. h.topics front back name partitions followers least (ap (λ (l : Line). front ++ l ∷ back) is),
    )

-- what was read, with one more line
pub read_more : (only_topics : Bool) (before after : Reading) (line : Line) → AreRead only_topics before → MayStand only_topics before.lines line → IsNewLine before.lines line
    → after.lines ≡ before.lines ++ line ∷ [] → after.config.topics ≡ before.config.topics ++ topic_in line → Sees after.order (before.lines ++ line ∷ []) → AreRead only_topics after
read_more only_topics before after line h may new lines config sees =
    let more : flat_map topic_in (before.lines ++ line ∷ []) ≡ flat_map topic_in before.lines ++ topic_in line =
    flat_map-append topic_in before.lines (line ∷ []) ∙ ap (λ (ts : List topics.Topic). flat_map topic_in before.lines ++ ts) (alone (topic_in line))
    in record {
      good = subst (MayBegin only_topics) (sym lines) (begin_more only_topics before.lines line h.good may new);
      config = config ∙ ap (λ (ts : List topics.Topic). ts ++ topic_in line) h.config ∙ sym more ∙ ap (flat_map topic_in) (sym lines);
      sees = subst (Sees after.order) (sym lines) sees;
    }
  where
    alone : (ts : List topics.Topic) → ts ++ [] ≡ ts
    alone [] = refl
    alone (t ∷ ts) = ap (λ (us : List topics.Topic). t ∷ us) (alone ts)

pairs_tail : (line : Line) (lines : List Line) → AllPairs MayFollow (line ∷ lines) → AllPairs MayFollow lines
pairs_tail line lines h i j d lt within = h (suc i) (suc j) d (omega arith) (omega arith)

-- the end stands last
pub ends_last : (lines : List Line) → AllPairs MayFollow lines → list_any is_end lines ≡ true → (before : List Line) × (lines ≡ before ++ End ∷ [])
ends_last [] h found = absurd cc
ends_last (Topic name partitions followers least ∷ lines) h found =
    let later = ends_last lines (pairs_tail (Topic name partitions followers least) lines h) found in (Topic name partitions followers least ∷ later.0, ap (λ (ls : List Line). Topic name partitions followers least ∷ ls) later.1)
ends_last (Feed session bytes ∷ lines) h found =
    let later = ends_last lines (pairs_tail (Feed session bytes) lines h) found in (Feed session bytes ∷ later.0, ap (λ (ls : List Line). Feed session bytes ∷ ls) later.1)
ends_last (Shut session ∷ lines) h found =
    let later = ends_last lines (pairs_tail (Shut session) lines h) found in (Shut session ∷ later.0, ap (λ (ls : List Line). Shut session ∷ ls) later.1)
ends_last (Clock t ∷ lines) h found =
    let later = ends_last lines (pairs_tail (Clock t) lines h) found in (Clock t ∷ later.0, ap (λ (ls : List Line). Clock t ∷ ls) later.1)
ends_last (End ∷ []) h found = ([], refl)
ends_last (End ∷ next ∷ lines) h found = absurd ((h 0 1 End (omega arith) (omega arith)).end_last refl)

-- where the end came, the lines are in order
pub begin_ends : (only_topics : Bool) (lines : List Line) → MayBegin only_topics lines → list_any is_end lines ≡ true → IsInOrder lines
begin_ends only_topics lines h found =
    let last = ends_last lines h.pairs found in record { pairs = h.pairs; topics = h.topics; before_end = last.0; ended = last.1 }

-- a trace has its end
pub end_there : (lines : List Line) → IsInOrder lines → Contains lines End
end_there lines h = subst (λ (ls : List Line). Contains ls End) (sym h.ended) (Contains-push h.before_end End)
