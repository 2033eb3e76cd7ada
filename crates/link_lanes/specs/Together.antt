-- All lanes of a hall, before and after their threads, and all servers once the queue is empty.
use Rattle.std.specs.Prelude.{◌≡◌, ◌<◌, ◌+◌, ℕ, false, List, [], ◌∷◌, length, slice_index_or}
use Rattle.link_lanes.specs.books.LaneBook.{LaneBook}
use Rattle.link_lanes.specs.books.Shown.{ShownLink}
use Rattle.link_lanes.specs.books.Times.{times, total}
use Rattle.link_lanes.specs.Going.{HasGone, IsReady}
use Rattle.link_lanes.specs.Halls.{HallView, LaneView, ServerView, book_of}
use Rattle.link_lanes.specs.Serving.{IsServing}

module _ {L : Type 0} where
  -- each sits in the hall with no link in hand, and none was stopped
  abbrev pub AreReady : (L → ShownLink) → HallView → List (LaneView L) → Type 0
  AreReady see hall lanes = (k : ℕ) (d : LaneView L) → k < length lanes → IsReady see hall (slice_index_or lanes k d) × ((slice_index_or lanes k d).is_stopped ≡ false)

  -- each that wasn't stopped has gone on until it had no link in hand
  pub record HaveGone (see : L → ShownLink) (hall : HallView) (old new : List (LaneView L)) : Type 0 where
    pub size : length new ≡ length old
    pub each : (k : ℕ) (d : LaneView L) → k < length old → (slice_index_or new k d).is_stopped ≡ false → HasGone see hall (slice_index_or old k d) (slice_index_or new k d)

  -- the servers, by their numbers, with these books
  abbrev pub HaveBooks : (L → ShownLink) → HallView → ℕ → List LaneBook → List (ServerView L) → Type 0
  HaveBooks see hall at [] [] = Unit {0}
  HaveBooks see hall at [] (server ∷ servers) = ⊥
  HaveBooks see hall at (book ∷ books) [] = ⊥
  HaveBooks see hall at (book ∷ books) (server ∷ servers) =
      (book ≡ book_of see server book.put book.taken) × IsServing see hall at [] book.put book.taken server × HaveBooks see hall (at + 1) books servers

  -- all links that were put into the queue were taken from it
  pub record AreIdle (see : L → ShownLink) (hall : HallView) (servers : List (ServerView L)) : Type 0 where
    pub books : List LaneBook
    pub have : HaveBooks see hall 0 books servers
    pub handed_on : (n : ℕ) → total (λ (book : LaneBook). times n book.put) books ≡ total (λ (book : LaneBook). times n book.taken) books
