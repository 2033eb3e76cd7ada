-- The lanes as they are lent to threads and come back.
use Rattle.std.proofs.Common.{◌≡◌, ◌∙◌, false, List, ◌++◌, length, take, drop, sym, ap, subst}
use Rattle.std.proofs.lemmas.List.{take_at}
use Rattle.link_lanes.specs.books.Shown.{ShownLink}
use Rattle.link_lanes.specs.Going.{HasGone}
use Rattle.link_lanes.specs.Halls.{HallView, LaneView}
use Rattle.link_lanes.specs.Together.{AreReady, HaveGone}

module _ {L : Type 0} (see : L → ShownLink) (hall : HallView) where
  -- one of them, by what its thread was given and gave back
  pub gone_as_lent : (old new was now : LaneView L) → was ≡ old → now ≡ new → (now.is_stopped ≡ false → HasGone see hall was now) → new.is_stopped ≡ false → HasGone see hall old new
  gone_as_lent old new was now old_is new_is gone running =
      subst (λ (o : LaneView L). HasGone see hall o new) old_is (subst (HasGone see hall was) new_is (gone (ap (λ (l : LaneView L). l.is_stopped) new_is ∙ running)))

  -- all of them, as they stand in their list again
  pub gone_again : (lanes lent new : List (LaneView L)) → lent ≡ lanes → HaveGone see hall lent new → HaveGone see hall lanes (take (length lanes) (new ++ drop (length new) lanes))
  gone_again lanes lent new is gone =
      let all : take (length lanes) (new ++ drop (length new) lanes) ≡ new = take_at new (drop (length new) lanes) (length lanes) (gone.size ∙ ap length is) in
      subst (HaveGone see hall lanes) (sym all) (subst (λ (ls : List (LaneView L)). HaveGone see hall ls new) is gone)

  pub ready_lent : (lanes lent : List (LaneView L)) → lent ≡ lanes → AreReady see hall lanes → AreReady see hall lent
  ready_lent lanes lent is ready = subst (AreReady see hall) (sym is) ready
