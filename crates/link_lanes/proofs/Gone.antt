-- A lane that goes on.
use Rattle.std.proofs.Common.{◌≡◌, ◌∙◌, ℕ, Option, Some, None, IfNone, List, [], ◌∷◌, ◌++◌, refl, sym, ap, subst, append-nil, append_assoc}
use Rattle.std.proofs.lemmas.List.{map-append}
use Rattle.link_lanes.specs.books.Shown.{ShownLink}
use Rattle.outside.specs.declared.shared.queue.numbered.Numbered.{Numbered}
use Rattle.outside.specs.shared.queue.Passes.{put_by, taken_by}
use Rattle.outside.specs.shared.queue.QueueViews as queue
use Rattle.link_lanes.specs.Going.{HasGone, HasGoneFrom, HasServedOn, IsReady, moved}
use Rattle.link_lanes.specs.Halls.{HallView, LaneView, ServerView, numbers}
use Rattle.link_lanes.specs.Serving.{IsServing}
use Rattle.link_lanes.proofs.Served.{on_and_on, put_on, same_on, taken_on}

pub none_holds : {A P : Type 0} (answer : Option A) → ((x : A) → answer ≡ Some x → ⊥) → IfNone answer P → P
none_holds None not holds = holds
none_holds (Some x) not holds = absurd (not x refl)

module _ {L : Type 0} (see : L → ShownLink) (hall : HallView) where
  numbers_append : (xs ys : List (Numbered L)) → numbers (xs ++ ys) ≡ numbers xs ++ numbers ys
  numbers_append xs ys = map-append (λ (item : Numbered L). item.number) xs ys

  moved_not : (hand : queue.PassView L) → hand ≡ moved hand [] []
  moved_not hand =
      ap (λ (xs : List (Numbered L)). record { made = hand.made; parts = hand.parts; put = xs; taken = hand.taken }) (sym (append-nil hand.put))
      ∙ ap (λ (xs : List (Numbered L)). record { made = hand.made; parts = hand.parts; put = hand.put ++ []; taken = xs }) (sym (append-nil hand.taken))

  moved_put : (hand : queue.PassView L) (item : Numbered L) → put_by hand item ≡ moved hand (item ∷ []) []
  moved_put hand item = ap (λ (xs : List (Numbered L)). record { made = hand.made; parts = hand.parts; put = hand.put ++ item ∷ []; taken = xs }) (sym (append-nil hand.taken))

  moved_taken : (hand : queue.PassView L) (item : Numbered L) → taken_by hand item ≡ moved hand [] (item ∷ [])
  moved_taken hand item = ap (λ (xs : List (Numbered L)). record { made = hand.made; parts = hand.parts; put = xs; taken = hand.taken ++ item ∷ [] }) (sym (append-nil hand.put))

  moved_twice : (hand : queue.PassView L) (p1 p2 t1 t2 : List (Numbered L)) → moved (moved hand p1 t1) p2 t2 ≡ moved hand (p1 ++ p2) (t1 ++ t2)
  moved_twice hand p1 p2 t1 t2 =
      ap (λ (xs : List (Numbered L)). record { made = hand.made; parts = hand.parts; put = xs; taken = (hand.taken ++ t1) ++ t2 }) (append_assoc hand.put p1 p2)
      ∙ ap (λ (xs : List (Numbered L)). record { made = hand.made; parts = hand.parts; put = hand.put ++ (p1 ++ p2); taken = xs }) (append_assoc hand.taken t1 t2)

  -- it did nothing
  pub gone_nowhere : (lane : LaneView L) → HasGone see hall lane lane
  gone_nowhere lane = record { put = []; taken = []; hand = moved_not lane.hand; server = same_on see hall lane.server }

  -- its server went on, and its pass of the queue is as it was
  pub gone_serving : (held : List ℕ) (old new : LaneView L) → new.hand ≡ old.hand → HasServedOn see hall held [] [] [] old.server new.server → HasGoneFrom see hall held old new
  gone_serving held old new hand server = record { put = []; taken = []; hand = hand ∙ moved_not old.hand; server = server }

  -- it put the link that it had in hand into the queue
  pub gone_putting : (item : Numbered L) (old new : LaneView L) → new.hand ≡ put_by old.hand item → new.server ≡ old.server → HasGoneFrom see hall (item.number ∷ []) old new
  gone_putting item old new hand same = record {
    put = item ∷ [];
    taken = [];
    hand = hand ∙ moved_put old.hand item;
    server = subst (λ (s : ServerView L). HasServedOn see hall (item.number ∷ []) [] (item.number ∷ []) [] old.server s) (sym same) (put_on see hall item.number old.server);
  }

  -- it took a link from the queue, and then went on
  pub gone_taking : (item : Numbered L) (old mid new : LaneView L) → mid.hand ≡ taken_by old.hand item → mid.server ≡ old.server → HasGoneFrom see hall (item.number ∷ []) mid new → HasGone see hall old new
  gone_taking item old mid new hand same then = record {
    put = then.put;
    taken = item ∷ then.taken;
    hand = then.hand ∙ ap (λ (h : queue.PassView L). moved h then.put then.taken) (hand ∙ moved_taken old.hand item) ∙ moved_twice old.hand [] then.put (item ∷ []) then.taken;
    server =
        on_and_on see hall [] (item.number ∷ []) [] [] (numbers then.put) (item.number ∷ []) (numbers then.taken) old.server old.server new.server
        (taken_on see hall item.number old.server)
        (subst (λ (s : ServerView L). HasServedOn see hall (item.number ∷ []) [] (numbers then.put) (numbers then.taken) s new.server) same then.server);
  }

  -- it took a link from the port, and then went on
  pub gone_accepting : (held : List ℕ) (old mid new : LaneView L) → mid.hand ≡ old.hand → HasServedOn see hall [] held [] [] old.server mid.server → HasGoneFrom see hall held mid new → HasGone see hall old new
  gone_accepting held old mid new hand served then = record {
    put = then.put;
    taken = then.taken;
    hand = then.hand ∙ ap (λ (h : queue.PassView L). moved h then.put then.taken) hand;
    server = on_and_on see hall [] held [] [] (numbers then.put) [] (numbers then.taken) old.server mid.server new.server served then.server;
  }

  -- a lane as a function finds it is the one that it was handed
  pub gone_from : (held : List ℕ) (old old' new : LaneView L) → old' ≡ old → HasGoneFrom see hall held old' new → HasGoneFrom see hall held old new
  gone_from held old old' new olds gone = subst (λ (o : LaneView L). HasGoneFrom see hall held o new) olds gone

  pub gone_to : (held : List ℕ) (old new new' : LaneView L) → new.hand ≡ new'.hand → new.server ≡ new'.server → HasGoneFrom see hall held old new → HasGoneFrom see hall held old new'
  gone_to held old new new' hands servers gone = record {
    put = gone.put;
    taken = gone.taken;
    hand = sym hands ∙ gone.hand;
    server = subst (λ (s : ServerView L). HasServedOn see hall held [] (numbers gone.put) (numbers gone.taken) old.server s) servers gone.server;
  }

  -- one step after the other
  pub gone_further : (old mid new : LaneView L) → HasGone see hall old mid → HasGone see hall mid new → HasGone see hall old new
  gone_further old mid new first then = record {
    put = first.put ++ then.put;
    taken = first.taken ++ then.taken;
    hand = then.hand ∙ ap (λ (h : queue.PassView L). moved h then.put then.taken) first.hand ∙ moved_twice old.hand first.put then.put first.taken then.taken;
    server =
        subst (λ (p : List ℕ). HasServedOn see hall [] [] p (numbers (first.taken ++ then.taken)) old.server new.server) (sym (numbers_append first.put then.put))
        (subst (λ (t : List ℕ). HasServedOn see hall [] [] (numbers first.put ++ numbers then.put) t old.server new.server) (sym (numbers_append first.taken then.taken))
        (on_and_on see hall [] [] [] (numbers first.put) (numbers then.put) (numbers first.taken) (numbers then.taken) old.server mid.server new.server first.server then.server));
  }

  -- the server of a lane that is ready, as a function finds it
  pub ready_within : (old old' : LaneView L) (ready : IsReady see hall old) → old' ≡ old → IsServing see hall ready.at [] ready.put ready.taken old'.server
  ready_within old old' ready olds = subst (λ (l : LaneView L). IsServing see hall ready.at [] ready.put ready.taken l.server) (sym olds) ready.server

  -- with a link that its server accepted, or that it took from the queue
  pub ready_holding : (held : List ℕ) (old old' : LaneView L) (ready : IsReady see hall old) (server : ServerView L) → old' ≡ old → HasServedOn see hall [] held [] [] old'.server server
      → (at : ℕ) × (put : List ℕ) × (taken : List ℕ) × IsServing see hall at held put taken server
  ready_holding held old old' ready server olds served =
      (ready.at, ready.put ++ [], ready.taken ++ [], served ready.at ready.put ready.taken (ready_within old old' ready olds))

  pub ready_taking : (n : ℕ) (old old' : LaneView L) (ready : IsReady see hall old) → old' ≡ old → (at : ℕ) × (put : List ℕ) × (taken : List ℕ) × IsServing see hall at (n ∷ []) put taken old'.server
  ready_taking n old old' ready olds =
      (ready.at, ready.put ++ [], ready.taken ++ n ∷ [], taken_on see hall n old'.server ready.at ready.put ready.taken (ready_within old old' ready olds))

  -- a lane that was ready is ready again
  pub ready_again : (old new : LaneView L) → IsReady see hall old → HasGone see hall old new → IsReady see hall new
  ready_again old new ready gone = record {
    at = ready.at;
    put = ready.put ++ numbers gone.put;
    taken = ready.taken ++ numbers gone.taken;
    server = gone.server ready.at ready.put ready.taken ready.server;
    hand = ap (λ (h : queue.PassView L). h.made) gone.hand ∙ ready.hand;
  }

  -- ---- the same, where a step answers whether it ended

  none_weaker : {A : Type 0} (answer : Option A) (P Q : Type 0) → (P → Q) → IfNone answer P → IfNone answer Q
  none_weaker None P Q f p = f p
  none_weaker (Some x) P Q f p = tt

  pub none_gone_accepting : {A : Type 0} (held : List ℕ) (old old' mid new : LaneView L) (answer : Option A) → old' ≡ old → mid.hand ≡ old'.hand → HasServedOn see hall [] held [] [] old'.server mid.server
      → IfNone answer (HasGoneFrom see hall held mid new) → IfNone answer (HasGone see hall old new)
  none_gone_accepting held old old' mid new answer olds hand served =
      none_weaker answer (HasGoneFrom see hall held mid new) (HasGone see hall old new) (λ then. gone_from [] old old' new olds (gone_accepting held old' mid new hand served then))

  pub none_gone_taking : {A : Type 0} (item : Numbered L) (old old' mid new : LaneView L) (answer : Option A) → old' ≡ old → mid.hand ≡ taken_by old'.hand item → mid.server ≡ old'.server
      → IfNone answer (HasGoneFrom see hall (item.number ∷ []) mid new) → IfNone answer (HasGone see hall old new)
  none_gone_taking item old old' mid new answer olds hand same =
      none_weaker answer (HasGoneFrom see hall (item.number ∷ []) mid new) (HasGone see hall old new) (λ then. gone_from [] old old' new olds (gone_taking item old' mid new hand same then))
