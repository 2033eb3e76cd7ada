-- A lane serves a link and retires it.
use Rattle.std.specs.Prelude.{◌≡◌, ℕ, true, [], ◌∷◌, ◌++◌}
use Rattle.outside.specs.Told.{IsBare}
use Rattle.link_lanes.specs.books.LaneBook.{LaneBook}
use Rattle.link_lanes.specs.books.Shown.{ShownLink, shown_link}
use Rattle.session.specs.Flows.{LinkView}
use Rattle.shared_broker.specs.Passes.{PassView}

-- nothing was taken from it or written to it, and it has not failed
pub record IsFreshLink (link : LinkView) : Type 0 where
  pub untaken : IsBare link.taken
  pub unwritten : IsBare link.written
  pub faultless : link.faults ≡ 0

-- the link as it is once it was shut
abbrev pub shut_link : LinkView → ShownLink
shut_link link = shown_link link.taken link.left link.written link.faults true

-- the book with one more link that was retired
abbrev pub served_after : LaneBook → PassView → ℕ → ℕ → ShownLink → LaneBook
served_after book new told n link = record book { pass = new; told = told; retired = book.retired ++ (n, link) ∷ [] }
