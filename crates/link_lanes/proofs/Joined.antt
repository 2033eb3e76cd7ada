-- The lanes once their threads are joined.
use Rattle.std.proofs.Common.{◌≡◌, ◌∙◌, ◌<◌, ◌-◌, ℕ, zero, suc, ◌+◌, false, List, [], ◌∷◌, ◌++◌, All, map, length, get_or, refl, sym, ap, subst, arith, sum_by, flat_map}
use Rattle.std.proofs.lemmas.List.{map-append}
use Rattle.std.proofs.lemmas.List.FromFn.{get_or-map-range_with_len, length-map-range_with_len}
use Rattle.std.proofs.lemmas.List.Sums.{sum_by-cons}
use Rattle.std.specs.List.{range_with_len}
use Rattle.link_lanes.specs.books.LaneBook.{LaneBook}
use Rattle.link_lanes.specs.books.Shown.{ShownLink}
use Rattle.link_lanes.specs.books.Times.{times, total}
use Rattle.outside.specs.declared.shared.queue.numbered.Numbered.{Numbered}
use Rattle.outside.specs.declared.shared.queue.queue_pass.TheConstants.{PARTS}
use Rattle.outside.specs.shared.queue.QueueViews as queue
use Rattle.link_lanes.specs.Begun.{AreNew}
use Rattle.link_lanes.specs.Gathered.{AreGathered, with_all}
use Rattle.link_lanes.specs.Going.{IsReady}
use Rattle.link_lanes.specs.Halls.{HallView, LaneView, ServerView, book_of, numbers}
use Rattle.link_lanes.specs.Made.{new_lane, new_server, new_servers}
use Rattle.link_lanes.specs.Serving.{IsServing}
use Rattle.link_lanes.specs.Together.{AreIdle, AreReady, HaveBooks, HaveGone}
use Rattle.link_lanes.proofs.Counting.{times_append}
use Rattle.link_lanes.proofs.Gone.{gone_nowhere}
use Rattle.link_lanes.proofs.Made.{new_serving}

module _ {L : Type 0} where
  abbrev pub server_in : LaneView L → ServerView L
  server_in lane = lane.server

  abbrev put_in : LaneView L → List (Numbered L)
  put_in lane = lane.hand.put

  abbrev taken_in : LaneView L → List (Numbered L)
  taken_in lane = lane.hand.taken

  abbrev parts_in : LaneView L → ℕ
  parts_in lane = lane.hand.parts

  -- the numbers of what several lanes have, as a sum over their books
  numbers_over : (see : L → ShownLink) (n : ℕ) (what : LaneView L → List (Numbered L)) (of : LaneBook → List ℕ) (book : LaneView L → LaneBook) (lanes : List (LaneView L))
      → ((lane : LaneView L) → of (book lane) ≡ numbers (what lane))
      → times n (numbers (flat_map what lanes)) ≡ total (λ (b : LaneBook). times n (of b)) (map book lanes)
  numbers_over see n what of book [] same = refl
  numbers_over see n what of book (lane ∷ lanes) same =
      let first : times n (of (book lane)) ≡ times n (numbers (what lane)) = ap (times n) (same lane) in
      let all : times n (numbers (what lane ++ flat_map what lanes)) ≡ times n (numbers (what lane)) + times n (numbers (flat_map what lanes)) =
      ap (times n) (map-append (λ (item : Numbered L). item.number) (what lane) (flat_map what lanes)) ∙ times_append n (numbers (what lane)) (numbers (flat_map what lanes)) in
      omega (arith, first, all, numbers_over see n what of book lanes same)

  -- one part each
  parts_together : (lanes : List (LaneView L)) → ((k : ℕ) (d : LaneView L) → k < length lanes → (get_or lanes k d).hand.parts ≡ 1) → sum_by parts_in lanes ≡ length lanes
  parts_together [] each = refl
  parts_together (lane ∷ lanes) each =
      let here : lane.hand.parts ≡ 1 = each zero lane (omega arith) in
      omega (arith, sum_by-cons parts_in lane lanes, here, parts_together lanes (λ k d less. each (suc k) d (omega (arith, less))))

  module _ (see : L → ShownLink) (hall : HallView) where
    abbrev book_in : LaneView L → LaneBook
    book_in lane = book_of see lane.server (numbers lane.hand.put) (numbers lane.hand.taken)

    have_books : (at : ℕ) (lanes : List (LaneView L))
        → ((k : ℕ) (d : LaneView L) → k < length lanes → IsServing see hall (at + k) [] (numbers (get_or lanes k d).hand.put) (numbers (get_or lanes k d).hand.taken) (get_or lanes k d).server)
        → HaveBooks see hall at (map book_in lanes) (map server_in lanes)
    have_books at [] each = tt
    have_books at (lane ∷ lanes) each = (
      refl,
      subst (λ (k : ℕ). IsServing see hall k [] (numbers lane.hand.put) (numbers lane.hand.taken) lane.server) (omega arith) (each zero lane (omega arith)),
      have_books (at + 1) lanes
          (λ k d less. subst (λ (i : ℕ). IsServing see hall i [] (numbers (get_or lanes k d).hand.put) (numbers (get_or lanes k d).hand.taken) (get_or lanes k d).server) (omega arith) (each (suc k) d (omega (arith, less)))),
    )

    -- ---- new lanes

    module _ (lanes : List (LaneView L)) (first : queue.PassView L) (new : AreNew hall lanes first) where
      map_twice : (f : LaneView L → ServerView L) (ns : List ℕ) → map (new_lane hall.queue) (map (new_server {L = L} hall) ns) ≡ map (λ (n : ℕ). new_lane hall.queue (new_server hall n)) ns
      map_twice f [] = refl
      map_twice f (n ∷ ns) = ap (λ (ls : List (LaneView L)). new_lane hall.queue (new_server hall n) ∷ ls) (map_twice f ns)

      lanes_by_number : lanes ≡ map (λ (n : ℕ). new_lane hall.queue (new_server hall n)) (range_with_len 0 new.count)
      lanes_by_number = new.lanes_are ∙ map_twice server_in (range_with_len 0 new.count)

      pub how_many : length lanes ≡ new.count
      how_many = ap length lanes_by_number ∙ length-map-range_with_len (λ (n : ℕ). new_lane hall.queue (new_server {L = L} hall n)) 0 new.count

      lane_at : (k : ℕ) (d : LaneView L) → k < length lanes → get_or lanes k d ≡ new_lane hall.queue (new_server hall k)
      lane_at k d less =
          ap (λ (ls : List (LaneView L)). get_or ls k d) lanes_by_number
          ∙ get_or-map-range_with_len (λ (n : ℕ). new_lane hall.queue (new_server {L = L} hall n)) 0 new.count k k d (omega (arith, less, how_many)) (omega arith)

      new_ready : (k : ℕ) → IsReady see hall (new_lane hall.queue (new_server {L = L} hall k))
      new_ready k = record { at = k; put = []; taken = []; server = new_serving see hall k; hand = refl }

      pub all_ready : AreReady see hall lanes
      all_ready k d less = (subst (IsReady see hall) (sym (lane_at k d less)) (new_ready k), ap (λ (l : LaneView L). l.is_stopped) (lane_at k d less))

      pub first_of_queue : queue.IsPassOf hall.queue first
      first_of_queue = ap (λ (p : queue.PassView L). p.made) new.first_is

      -- the lanes that did nothing
      pub none_gone : HaveGone see hall lanes lanes
      none_gone = record { size = refl; each = λ k d less running. gone_nowhere see hall (get_or lanes k d) }

      -- ---- what they come to

      module _ (now : List (LaneView L)) (gone : HaveGone see hall lanes now) where
        hand_of : (k : ℕ) (d : LaneView L) → k < length now → (get_or now k d).is_stopped ≡ false → queue.IsPassOf hall.queue (get_or now k d).hand
        hand_of k d less running =
            let within : k < length lanes = omega (arith, less, gone.size) in
            ap (λ (h : queue.PassView L). h.made) (gone.each k d within running).hand ∙ ap (λ (l : LaneView L). l.hand.made) (lane_at k d within)

        pub hands_of_queue : All (λ (lane : LaneView L). lane.is_stopped ≡ false → queue.IsPassOf hall.queue lane.hand) now
        hands_of_queue k d less running = hand_of k d less running

        module _ (running : All (λ (lane : LaneView L). lane.is_stopped ≡ false) now) where
          served_so : (k : ℕ) (d : LaneView L) → k < length now
              → IsServing see hall (0 + k) [] (numbers (get_or now k d).hand.put) (numbers (get_or now k d).hand.taken) (get_or now k d).server
          served_so k d less =
              let within : k < length lanes = omega (arith, less, gone.size) in
              let on = gone.each k d within (running k d less) in
              let old = lane_at k d within in
              let was : IsServing see hall k [] [] [] (get_or lanes k d).server = subst (λ (l : LaneView L). IsServing see hall k [] [] [] l.server) (sym old) (new_serving see hall k) in
              let put : (get_or now k d).hand.put ≡ on.put = ap (λ (h : queue.PassView L). h.put) on.hand ∙ ap (λ (l : LaneView L). l.hand.put ++ on.put) old in
              let taken : (get_or now k d).hand.taken ≡ on.taken = ap (λ (h : queue.PassView L). h.taken) on.hand ∙ ap (λ (l : LaneView L). l.hand.taken ++ on.taken) old in
              subst (λ (i : ℕ). IsServing see hall i [] (numbers (get_or now k d).hand.put) (numbers (get_or now k d).hand.taken) (get_or now k d).server) (omega arith)
              (subst (λ (xs : List (Numbered L)). IsServing see hall k [] (numbers xs) (numbers (get_or now k d).hand.taken) (get_or now k d).server) (sym put)
              (subst (λ (xs : List (Numbered L)). IsServing see hall k [] (numbers on.put) (numbers xs) (get_or now k d).server) (sym taken)
              (on.server k [] [] was)))

          one_part : (k : ℕ) (d : LaneView L) → k < length now → (get_or now k d).hand.parts ≡ 1
          one_part k d less =
              let within : k < length lanes = omega (arith, less, gone.size) in
              ap (λ (h : queue.PassView L). h.parts) (gone.each k d within (running k d less)).hand ∙ ap (λ (l : LaneView L). l.hand.parts) (lane_at k d within)

          all_parts : (with_all first now).parts ≡ PARTS
          all_parts =
              let rest : first.parts ≡ PARTS - new.count = ap (λ (p : queue.PassView L). p.parts) new.first_is in
              let each = parts_together now one_part in
              omega (arith, rest, each, gone.size, how_many, new.few)

          pub gathered_so : (servers : List (ServerView L)) (joined : queue.PassView L) → servers ≡ map server_in now → joined ≡ with_all first now → AreGathered see hall servers joined
          gathered_so servers joined servers_are joined_is =
              subst (λ (ss : List (ServerView L)). AreGathered see hall ss joined) (sym servers_are)
              (subst (AreGathered see hall (map server_in now)) (sym joined_is) record {
                books = map book_in now;
                have = have_books 0 now served_so;
                queue_is = first_of_queue;
                whole = all_parts;
                put = λ n. ap (λ (p : queue.PassView L). times n (numbers (p.put ++ flat_map put_in now))) new.first_is ∙ numbers_over see n put_in (λ (b : LaneBook). b.put) book_in now (λ lane. refl);
                taken = λ n. ap (λ (p : queue.PassView L). times n (numbers (p.taken ++ flat_map taken_in now))) new.first_is ∙ numbers_over see n taken_in (λ (b : LaneBook). b.taken) book_in now (λ lane. refl);
              })

      -- ---- lanes that served nothing

      nothing_put : (what : LaneView L → List (Numbered L)) (ss : List (ServerView L)) → ((s : ServerView L) → what (new_lane hall.queue s) ≡ []) → flat_map what (map (new_lane hall.queue) ss) ≡ []
      nothing_put what [] none = refl
      nothing_put what (s ∷ ss) none = ap (λ (xs : List (Numbered L)). xs ++ flat_map what (map (new_lane hall.queue) ss)) (none s) ∙ nothing_put what ss none

      pub idle_so : (servers : List (ServerView L)) → servers ≡ map server_in lanes → AreIdle see hall servers
      idle_so servers are =
          let running : All (λ (lane : LaneView L). lane.is_stopped ≡ false) lanes = λ k d less. (all_ready k d less).1 in
          let gathered = gathered_so lanes none_gone running servers (with_all first lanes) are refl in
          let first_put : first.put ≡ [] = ap (λ (p : queue.PassView L). p.put) new.first_is in
          let first_taken : first.taken ≡ [] = ap (λ (p : queue.PassView L). p.taken) new.first_is in
          let no_put : first.put ++ flat_map put_in lanes ≡ [] =
          ap (λ (xs : List (Numbered L)). xs ++ flat_map put_in lanes) first_put ∙ ap (flat_map put_in) new.lanes_are ∙ nothing_put put_in (new_servers hall new.count) (λ s. refl) in
          let no_taken : first.taken ++ flat_map taken_in lanes ≡ [] =
          ap (λ (xs : List (Numbered L)). xs ++ flat_map taken_in lanes) first_taken ∙ ap (flat_map taken_in) new.lanes_are ∙ nothing_put taken_in (new_servers hall new.count) (λ s. refl) in
          record {
            books = gathered.books;
            have = gathered.have;
            handed_on = λ n. sym (gathered.put n) ∙ ap (λ (xs : List (Numbered L)). times n (numbers xs)) (no_put ∙ sym no_taken) ∙ gathered.taken n;
          }

      pub none_asked : (servers : List (ServerView L)) → servers ≡ map server_in lanes → All (λ (server : ServerView L). server.key.own ≡ []) servers
      none_asked servers are = subst (All (λ (server : ServerView L). server.key.own ≡ [])) (sym (are ∙ ap (map server_in) new.lanes_are)) (own_none (new_servers hall new.count) none_by_number)
        where
          none_by_number : (k : ℕ) (d : ServerView L) → k < length (new_servers {L = L} hall new.count) → (get_or (new_servers {L = L} hall new.count) k d).key.own ≡ []
          none_by_number k d less =
              ap (λ (s : ServerView L). s.key.own)
              (get_or-map-range_with_len (new_server {L = L} hall) 0 new.count k k d (omega (arith, less, length-map-range_with_len (new_server {L = L} hall) 0 new.count)) (omega arith))

          own_none : (ss : List (ServerView L)) → ((k : ℕ) (d : ServerView L) → k < length ss → (get_or ss k d).key.own ≡ []) → All (λ (server : ServerView L). server.key.own ≡ []) (map server_in (map (new_lane hall.queue) ss))
          own_none [] each k d less = absurd (omega (arith, less))
          own_none (s ∷ ss) each zero d less = each zero s (omega arith)
          own_none (s ∷ ss) each (suc k) d less = own_none ss (λ i e l. each (suc i) e (omega (arith, l))) k d (omega (arith, less))
