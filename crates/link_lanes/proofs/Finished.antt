-- The last server serves what is left in the queue: then all that was put was taken.
use Rattle.std.proofs.Common.{◌≡◌, ◌∙◌, ℕ, suc, ◌+◌, ◌==◌, List, [], ◌∷◌, ◌++◌, length, refl, sym, ap, subst, arith, sum_by, Any}
use Rattle.std.proofs.lemmas.List.{map-append}
use Rattle.std.proofs.lemmas.List.Sorted.{sum_by-IsPermutation}
use Rattle.std.proofs.lemmas.List.Sums.{sum_by-cons}
use Rattle.std.specs.Prelude.{IsPermutation}
use Rattle.link_lanes.specs.books.LaneBook.{LaneBook}
use Rattle.link_lanes.specs.books.Shown.{ShownLink}
use Rattle.link_lanes.specs.books.Times.{one_where, times, total}
use Rattle.outside.specs.declared.shared.queue.numbered.Numbered.{Numbered}
use Rattle.outside.specs.shared.queue.QueueViews as queue
use Rattle.link_lanes.specs.Gathered.{AreGathered}
use Rattle.link_lanes.specs.Going.{HasGone, IsReady}
use Rattle.link_lanes.specs.Halls.{HallView, LaneView, ServerView, book_of, numbers}
use Rattle.link_lanes.specs.Serving.{IsServing}
use Rattle.link_lanes.specs.Together.{AreIdle, HaveBooks}
use Rattle.link_lanes.proofs.Counting.{times_append}

-- ---- sums

total_push : {A : Type 0} (f : A → ℕ) (xs : List A) (x : A) → total f (xs ++ x ∷ []) ≡ total f xs + f x
total_push f [] x = omega arith
total_push f (y ∷ ys) x = omega (arith, total_push f ys x)

module _ {L : Type 0} where
  times_numbers : (n : ℕ) (items : List (Numbered L)) → times n (numbers items) ≡ sum_by (λ (item : Numbered L). one_where (item.number == n)) items
  times_numbers n [] = refl
  times_numbers n (item ∷ items) = omega (arith, sum_by-cons (λ (it : Numbered L). one_where (it.number == n)) item items, times_numbers n items)

  -- a number stands as often in links in another order
  times_moved : (n : ℕ) (xs ys : List (Numbered L)) → IsPermutation xs ys → times n (numbers xs) ≡ times n (numbers ys)
  times_moved n xs ys h = times_numbers n xs ∙ sym (sum_by-IsPermutation (λ (it : Numbered L). one_where (it.number == n)) xs ys h) ∙ sym (times_numbers n ys)

  times_more : (n : ℕ) (xs ys : List (Numbered L)) → times n (numbers (xs ++ ys)) ≡ times n (numbers xs) + times n (numbers ys)
  times_more n xs ys = ap (times n) (map-append (λ (it : Numbered L). it.number) xs ys) ∙ times_append n (numbers xs) (numbers ys)

  -- ---- the last of the servers

  module _ (see : L → ShownLink) (hall : HallView) where
    record HaveLast (at : ℕ) (books : List LaneBook) (front : List (ServerView L)) (last : ServerView L) : Type 0 where
      pub earlier : List LaneBook
      pub book : LaneBook
      pub books_are : books ≡ earlier ++ book ∷ []
      pub have : HaveBooks see hall at earlier front
      pub serving : IsServing see hall (at + length front) [] book.put book.taken last

    split_last : (at : ℕ) (books : List LaneBook) (front : List (ServerView L)) (last : ServerView L) → HaveBooks see hall at books (front ++ last ∷ []) → HaveLast at books front last
    split_last at [] [] last h = absurd h
    split_last at (book ∷ []) [] last h =
        record { earlier = []; book = book; books_are = refl; have = tt; serving = subst (λ (k : ℕ). IsServing see hall k [] book.put book.taken last) (omega arith) h.1 }
    split_last at (book ∷ more ∷ books) [] last h = absurd h.2
    split_last at [] (server ∷ front) last h = absurd h
    split_last at (book ∷ books) (server ∷ front) last h =
        let rest = split_last (at + 1) books front last h.2 in
        record {
          earlier = book ∷ rest.earlier;
          book = rest.book;
          books_are = ap (λ (bs : List LaneBook). book ∷ bs) rest.books_are;
          have = (h.0, h.1, rest.have);
          serving = subst (λ (k : ℕ). IsServing see hall k [] rest.book.put rest.book.taken last) (omega arith) rest.serving;
        }

    join_last : (at : ℕ) (books : List LaneBook) (front : List (ServerView L)) (last : ServerView L) (put taken : List ℕ) → HaveBooks see hall at books front
        → IsServing see hall (at + length front) [] put taken last → HaveBooks see hall at (books ++ book_of see last put taken ∷ []) (front ++ last ∷ [])
    join_last at [] [] last put taken have serving = (refl, subst (λ (k : ℕ). IsServing see hall k [] put taken last) (omega arith) serving, tt)
    join_last at [] (server ∷ front) last put taken have serving = absurd have
    join_last at (book ∷ books) [] last put taken have serving = absurd have
    join_last at (book ∷ books) (server ∷ front) last put taken have serving =
        (have.0, have.1, join_last (at + 1) books front last put taken have.2 (subst (λ (k : ℕ). IsServing see hall k [] put taken last) (omega arith) serving))

    module _ (front : List (ServerView L)) (last : ServerView L) (first : queue.PassView L) (gathered : AreGathered see hall (front ++ last ∷ []) first) where
      abbrev split : HaveLast 0 gathered.books front last
      split = split_last 0 gathered.books front last gathered.have

      pub last_ready : (lane : LaneView L) → lane.server ≡ last → lane.hand ≡ first → IsReady see hall lane
      last_ready lane server hand = record {
        at = 0 + length front;
        put = split.book.put;
        taken = split.book.taken;
        server = subst (IsServing see hall (0 + length front) [] split.book.put split.book.taken) (sym server) split.serving;
        hand = ap (λ (h : queue.PassView L). h.made) hand ∙ gathered.queue_is;
      }

      module _ (old new : LaneView L) (old_server : old.server ≡ last) (old_hand : old.hand ≡ first) (gone : HasGone see hall old new)
          (empty : queue.IsWhole new.hand → IsPermutation new.hand.put new.hand.taken) where
        abbrev put_now : List ℕ
        put_now = split.book.put ++ numbers gone.put

        abbrev taken_now : List ℕ
        taken_now = split.book.taken ++ numbers gone.taken

        serving_now : IsServing see hall (0 + length front) [] put_now taken_now new.server
        serving_now = gone.server (0 + length front) split.book.put split.book.taken (subst (IsServing see hall (0 + length front) [] split.book.put split.book.taken) (sym old_server) split.serving)

        whole_now : queue.IsWhole new.hand
        whole_now = ap (λ (h : queue.PassView L). h.parts) (gone.hand) ∙ ap (λ (h : queue.PassView L). h.parts) old_hand ∙ gathered.whole

        put_is : new.hand.put ≡ first.put ++ gone.put
        put_is = ap (λ (h : queue.PassView L). h.put) gone.hand ∙ ap (λ (h : queue.PassView L). h.put ++ gone.put) old_hand

        taken_is : new.hand.taken ≡ first.taken ++ gone.taken
        taken_is = ap (λ (h : queue.PassView L). h.taken) gone.hand ∙ ap (λ (h : queue.PassView L). h.taken ++ gone.taken) old_hand

        handed : (n : ℕ) → total (λ (book : LaneBook). times n book.put) (split.earlier ++ book_of see new.server put_now taken_now ∷ [])
            ≡ total (λ (book : LaneBook). times n book.taken) (split.earlier ++ book_of see new.server put_now taken_now ∷ [])
        handed n =
            let all_put = gathered.put n ∙ ap (total (λ (book : LaneBook). times n book.put)) split.books_are ∙ total_push (λ (book : LaneBook). times n book.put) split.earlier split.book in
            let all_taken = gathered.taken n ∙ ap (total (λ (book : LaneBook). times n book.taken)) split.books_are ∙ total_push (λ (book : LaneBook). times n book.taken) split.earlier split.book in
            let put = ap (λ (xs : List (Numbered L)). times n (numbers xs)) put_is ∙ times_more n first.put gone.put in
            let taken = ap (λ (xs : List (Numbered L)). times n (numbers xs)) taken_is ∙ times_more n first.taken gone.taken in
            let even = times_moved n new.hand.put new.hand.taken (empty whole_now) in
            let put_last = times_append n split.book.put (numbers gone.put) in
            let taken_last = times_append n split.book.taken (numbers gone.taken) in
            let put_sum = total_push (λ (book : LaneBook). times n book.put) split.earlier (book_of see new.server put_now taken_now) in
            let taken_sum = total_push (λ (book : LaneBook). times n book.taken) split.earlier (book_of see new.server put_now taken_now) in
            omega (arith, all_put, all_taken, put, taken, even, put_last, taken_last, put_sum, taken_sum)

        pub idle_now : AreIdle see hall (front ++ new.server ∷ [])
        idle_now = record {
          books = split.earlier ++ book_of see new.server put_now taken_now ∷ [];
          have = join_last 0 split.earlier front new.server put_now taken_now split.have serving_now;
          handed_on = handed;
        }

-- the last of a list has what it has
pub any_last : {A : Type 0} (P : A → Type 0) (xs : List A) (x : A) → P x → Any P (xs ++ x ∷ [])
any_last P [] x h = (0, x, omega arith, refl, h)
any_last P (y ∷ ys) x h = let rest = any_last P ys x h in (suc rest.0, rest.1, omega (arith, rest.2), rest.3, rest.4)
