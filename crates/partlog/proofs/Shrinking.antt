-- All who lag are taken out, one after the other.
use Rattle.std.proofs.Common.{◌≡◌, ℕ, zero, suc, pos, ◌<◌, List, [], ◌∷◌, ◌++◌, length, take, drop, map, arith, refl, ap, sym, ◌∙◌, append-nil, append_assoc}
use Rattle.std.proofs.lemmas.List.{take-append-drop}
use Rattle.partlog.specs.declared.event.PartEvent.{PartEvent}
use Rattle.partlog.specs.declared.event.PartEvent.TheVariants.{Shrink}
use Rattle.partlog.specs.History.{History}
use Rattle.partlog.specs.Lagging.{IsLeastLate, NoneLags}
use Rattle.partlog.specs.Shrunk.{shrunk, late_at, shrinks_at, all_shrunk, some_shrunk}
use Rattle.partlog.proofs.Lagging.{nobody-late, late-at-first}

-- so many of those who lagged at first are out, and these are left
pub record IsShrinking (old now : History) (by t : ℕ) : Type 0 where
  pub count : ℕ
  pub taken : now ≡ some_shrunk count old by t
  pub left : drop count (shrinks_at old by t) ≡ shrinks_at now by t

one_more : (n : ℕ) (es : List PartEvent) (e : PartEvent) (rest : List PartEvent) → drop n es ≡ e ∷ rest → (take (suc n) es ≡ take n es ++ e ∷ []) × (drop (suc n) es ≡ rest)
one_more zero [] e rest is = absurd cc
one_more zero (f ∷ es) e rest is =
    let same : f ≡ e = cc in
    let after : es ≡ rest = cc in
    (ap (λ (x : PartEvent). x ∷ []) same, after)
one_more (suc n) [] e rest is = absurd cc
one_more (suc n) (f ∷ es) e rest is =
    let more = one_more n es e rest is in
    (ap (λ (l : List PartEvent). f ∷ l) more.0, more.1)

module _ (old : History) (by t : ℕ) where
  pub shrinking-first : IsShrinking old old by t
  shrinking-first = record {
    count = 0;
    taken = ap (λ (es : List PartEvent). record old { events = es }) (sym (append-nil old.events));
    left = refl;
  }

  -- the least of those who lag is taken out
  module _ (now : History) (was : IsShrinking old now by t) where
    module _ (replica : ℕ) (first : IsLeastLate now.followers now.events t replica) where
      abbrev next : History
      next = shrunk now by (pos replica) t

      pub fewer : length (late_at next t) < length (late_at now t)
      fewer = omega (arith, ap length (late-at-first now by t replica first))

      pub shrinking-more : IsShrinking old next by t
      shrinking-more =
          let e : PartEvent = Shrink by (pos replica) t in
          let parts = one_more was.count (shrinks_at old by t) e (shrinks_at next by t) (was.left ∙ ap (λ (rs : List ℕ). map (λ r. Shrink by (pos r) t) rs) (late-at-first now by t replica first)) in
          record {
            count = suc was.count;
            taken = ap (λ (h : History). shrunk h by (pos replica) t) was.taken
                ∙ ap (λ (es : List PartEvent). record old { events = es }) (append_assoc old.events (take was.count (shrinks_at old by t)) (e ∷ []) ∙ ap (λ (es : List PartEvent). old.events ++ es) (sym parts.0));
            left = parts.1;
          }

    -- none is left
    pub shrinking-last : NoneLags now.followers now.events t → now ≡ all_shrunk old by t
    shrinking-last nobody =
        let nothing : drop was.count (shrinks_at old by t) ≡ [] = was.left ∙ ap (λ (rs : List ℕ). map (λ r. Shrink by (pos r) t) rs) (nobody-late now by t nobody) in
        let all : take was.count (shrinks_at old by t) ≡ shrinks_at old by t =
        sym (append-nil (take was.count (shrinks_at old by t))) ∙ ap (λ (es : List PartEvent). take was.count (shrinks_at old by t) ++ es) (sym nothing) ∙ take-append-drop was.count (shrinks_at old by t) in
        was.taken ∙ ap (λ (es : List PartEvent). record old { events = old.events ++ es }) all
