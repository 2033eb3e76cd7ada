-- One more lane is dismissed: its pass of the queue joins the first one.
use Rattle.std.proofs.Common.{◌≡◌, ◌∙◌, ℕ, ◌+◌, List, [], ◌∷◌, ◌++◌, ap, arith, flat_map, sym}
use Rattle.std.proofs.lemmas.List.{append-nil, append_assoc}
use Rattle.std.proofs.lemmas.List.Concat.{flat_map-append}
use Rattle.std.proofs.lemmas.List.Sums.{sum_by_push}
use Rattle.outside.specs.declared.shared.queue.numbered.Numbered.{Numbered}
use Rattle.outside.specs.shared.queue.Passes.{joined}
use Rattle.outside.specs.shared.queue.QueueViews as queue
use Rattle.link_lanes.specs.Gathered.{with_all}
use Rattle.link_lanes.specs.Halls.{LaneView}

module _ {L : Type 0} where
  more_links : (what : LaneView L → List (Numbered L)) (links : List (Numbered L)) (lanes : List (LaneView L)) (lane : LaneView L)
      → (links ++ flat_map what lanes) ++ what lane ≡ links ++ flat_map what (lanes ++ lane ∷ [])
  more_links what links lanes lane =
      append_assoc links (flat_map what lanes) (what lane)
      ∙ ap (λ (items : List (Numbered L)). links ++ (flat_map what lanes ++ items)) (sym (append-nil (what lane)))
      ∙ ap (λ (items : List (Numbered L)). links ++ items) (sym (flat_map-append what lanes (lane ∷ [])))

  pub one_more : (first : queue.PassView L) (lanes : List (LaneView L)) (lane : LaneView L) → joined (with_all first lanes) lane.hand ≡ with_all first (lanes ++ lane ∷ [])
  one_more first lanes lane =
      let before = with_all first lanes in
      let after = with_all first (lanes ++ lane ∷ []) in
      let parts : before.parts + lane.hand.parts ≡ after.parts = omega (arith, sum_by_push (λ (one : LaneView L). one.hand.parts) lanes lane) in
      let put : before.put ++ lane.hand.put ≡ after.put = more_links (λ (one : LaneView L). one.hand.put) first.put lanes lane in
      let taken : before.taken ++ lane.hand.taken ≡ after.taken = more_links (λ (one : LaneView L). one.hand.taken) first.taken lanes lane in
      ap (λ (n : ℕ). record { made = first.made; parts = n; put = before.put ++ lane.hand.put; taken = before.taken ++ lane.hand.taken }) parts
      ∙ ap (λ (items : List (Numbered L)). record { made = first.made; parts = after.parts; put = items; taken = before.taken ++ lane.hand.taken }) put
      ∙ ap (λ (items : List (Numbered L)). record { made = first.made; parts = after.parts; put = after.put; taken = items }) taken
