-- The books of a hall's servers that have no link in hand, and what the history of its port has of them.
use Rattle.std.proofs.Common.{◌≡◌, ◌∙◌, ◌⊎◌, inl, inr, ℕ, zero, suc, ◌+◌, ◌≤◌, List, [], ◌∷◌, ◌++◌, Option, Some, None, All, Any, Contains, filter_map, map, refl, ap, sym, subst, arith}
use Rattle.std.proofs.lemmas.List.Elements.{All-append, All-cons, All-contains_itself, All-head, All-map, All-nil, All-tail, All-weaker, recursion_from_All}
use Rattle.std.specs.List.{AllByRecursion, cons_option}
use Rattle.audit.specs.declared.account.Account.{Account}
use Rattle.link_lanes.specs.books.LaneBook.{IsLaneBook, LaneBook, retired_numbers}
use Rattle.link_lanes.specs.books.Shown.{ShownLink}
use Rattle.link_lanes.specs.books.Times.{once_below, times, total}
use Rattle.link_lanes.specs.books.Together.{AreAllBooks, AreInOrder}
use Rattle.outside.specs.declared.shared.port.port_entry.PortEntry.{PortEntry}
use Rattle.outside.specs.declared.shared.port.port_entry.PortEntry.TheVariants.{Opened, Faulted}
use Rattle.outside.specs.shared.port.Entries.{accepted, accepted_number, opened, opened_number, retired, retired_link}
use Rattle.outside.specs.shared.port.History.{PortFacts}
use Rattle.outside.specs.shared.port.PortViews as port
use Rattle.link_lanes.specs.Closed.{HasOpened, HaveClosed, keys_of, passes_of, seats_of}
use Rattle.link_lanes.specs.Halls.{HallView, ServerView, book_of}
use Rattle.link_lanes.specs.Seen.{seen_with}
use Rattle.link_lanes.specs.Serving.{IsServing}
use Rattle.link_lanes.specs.Together.{AreIdle, HaveBooks}
use Rattle.link_lanes.proofs.FoundParts.{any_here, any_there, contains_map}
use Rattle.link_lanes.proofs.NumberTimes.{last_is, none_below, times_range}
use Rattle.link_lanes.proofs.PartSums.{total_same, total_zero}
use Rattle.link_lanes.proofs.PortParts.{found_own, own_adds_up}
use Rattle.shared_broker.specs.Closing.{IsAccountOf}
use Rattle.shared_broker.specs.Passes as broker
use Rattle.outside.specs.shared.clock.ClockViews as clock

-- ---- servers and their books

module _ {L : Type 0} (see : L → ShownLink) (hall : HallView) where
  -- each book is that of a lane with no link in hand
  each_is_book : (at : ℕ) (books : List LaneBook) (servers : List (ServerView L)) → HaveBooks see hall at books servers → AllByRecursion (IsLaneBook hall.broker []) books
  each_is_book at [] [] have = tt
  each_is_book at [] (server ∷ servers) have = absurd have
  each_is_book at (book ∷ books) [] have = absurd have
  each_is_book at (book ∷ books) (server ∷ servers) have =
      (subst (IsLaneBook hall.broker []) (sym have.0) have.1.book, each_is_book (at + 1) books servers have.2)

  -- the books are in the order of their numbers
  are_in_order : (at : ℕ) (books : List LaneBook) (servers : List (ServerView L)) → HaveBooks see hall at books servers → AreInOrder at books
  are_in_order at [] [] have = tt
  are_in_order at [] (server ∷ servers) have = absurd have
  are_in_order at (book ∷ books) [] have = absurd have
  are_in_order at (book ∷ books) (server ∷ servers) have =
      (ap (λ (b : LaneBook). b.pass.logs.number) have.0 ∙ have.1.number, are_in_order (at + 1) books servers have.2)

  -- their passes are the servers'
  same_passes : (at : ℕ) (books : List LaneBook) (servers : List (ServerView L)) → HaveBooks see hall at books servers → passes_of servers ≡ map (λ (book : LaneBook). book.pass) books
  same_passes at [] [] have = refl
  same_passes at [] (server ∷ servers) have = absurd have
  same_passes at (book ∷ books) [] have = absurd have
  same_passes at (book ∷ books) (server ∷ servers) have =
      ap (λ (passes : List broker.PassView). server.pass ∷ passes) (same_passes (at + 1) books servers have.2)
      ∙ ap (λ (b : LaneBook). b.pass ∷ map (λ (book : LaneBook). book.pass) books) (sym have.0)

  -- no lane was told a later moment than the clock gave last
  none_told_later : (moment at : ℕ) (books : List LaneBook) (servers : List (ServerView L)) → HaveBooks see hall at books servers
      → All (λ (seat : clock.PassView). seat.told ≤ moment) (seats_of servers) → AllByRecursion (λ (book : LaneBook). book.told ≤ moment) books
  none_told_later moment at [] [] have within = tt
  none_told_later moment at [] (server ∷ servers) have within = absurd have
  none_told_later moment at (book ∷ books) [] have within = absurd have
  none_told_later moment at (book ∷ books) (server ∷ servers) have within =
      let IsTold : clock.PassView → Type 0 = λ seat. seat.told ≤ moment in (
        subst (λ (b : LaneBook). b.told ≤ moment) (sym have.0) (All-head IsTold server.seat (seats_of servers) within),
        none_told_later moment (at + 1) books servers have.2 (All-tail IsTold server.seat (seats_of servers) within),
      )

  module _ (opener : port.PassView L) where
    -- what is counted of the keys is counted of the books and of the pass that opened the port
    total_of_books : (of_key : port.PassView L → ℕ) (of_book : LaneBook → ℕ)
        → ((at : ℕ) (put taken : List ℕ) (server : ServerView L) → IsServing see hall at [] put taken server → of_book (book_of see server put taken) ≡ of_key server.key)
        → (at : ℕ) (books : List LaneBook) (servers : List (ServerView L)) → HaveBooks see hall at books servers → total of_key (keys_of servers ++ opener ∷ []) ≡ total of_book books + of_key opener
    total_of_books of_key of_book same at [] [] have = omega arith
    total_of_books of_key of_book same at [] (server ∷ servers) have = absurd have
    total_of_books of_key of_book same at (book ∷ books) [] have = absurd have
    total_of_books of_key of_book same at (book ∷ books) (server ∷ servers) have =
        let here : of_book book ≡ of_key server.key = ap of_book have.0 ∙ same at book.put book.taken server have.1 in
        let rest = total_of_books of_key of_book same (at + 1) books servers have.2 in
        omega (arith, here, rest)

    -- what holds of some key, but not of that pass, holds of some book
    any_book : (OfKey : port.PassView L → Type 0) (OfBook : LaneBook → Type 0) → ((server : ServerView L) (put taken : List ℕ) → OfKey server.key → OfBook (book_of see server put taken))
        → (OfKey opener → ⊥) → (at : ℕ) (books : List LaneBook) (servers : List (ServerView L)) → HaveBooks see hall at books servers → Any OfKey (keys_of servers ++ opener ∷ []) → Any OfBook books
    any_book OfKey OfBook each other at [] [] have (zero, key, within, is, holds) = absurd (other (subst OfKey (sym is) holds))
    any_book OfKey OfBook each other at [] [] have (suc k, key, within, is, holds) = absurd (omega (arith, within))
    any_book OfKey OfBook each other at [] (server ∷ servers) have any = absurd have
    any_book OfKey OfBook each other at (book ∷ books) [] have any = absurd have
    any_book OfKey OfBook each other at (book ∷ books) (server ∷ servers) have (zero, key, within, is, holds) =
        any_here OfBook book books (subst OfBook (sym have.0) (each server book.put book.taken (subst OfKey (sym is) holds)))
    any_book OfKey OfBook each other at (book ∷ books) (server ∷ servers) have (suc k, key, within, is, holds) =
        any_there OfBook book books (any_book OfKey OfBook each other (at + 1) books servers have.2 (k, key, omega (arith, within), is, holds))

-- ---- the pass that opened the port

module _ {L : Type 0} (number : ℕ) (opener : port.PassView L) (servers : List (ServerView L)) where
  -- its entries say nothing but that it opened the port, or that this failed
  says_nothing : {A : Type 0} (read : PortEntry L → Option A) → HasOpened number opener servers → read (Opened opener.number number) ≡ None → read (Faulted opener.number) ≡ None
      → filter_map read opener.own ≡ []
  says_nothing read (inl own) one other = ap (filter_map read) own ∙ ap (λ o. cons_option o []) one
  says_nothing read (inr failed) one other = ap (filter_map read) failed.0 ∙ ap (λ o. cons_option o []) other

-- ---- a hall that is closed

module _ {L : Type 0} (see : L → ShownLink) (hall : HallView) (servers : List (ServerView L)) (opener : port.PassView L) (number : ℕ) (account : Account) (facts : PortFacts L) (moment : ℕ)
    (idle : AreIdle see hall servers) (closed : HaveClosed hall servers opener account facts moment) (opening : HasOpened number opener servers) where
  abbrev keys : List (port.PassView L)
  keys = keys_of servers ++ opener ∷ []

  abbrev entries : List (PortEntry L)
  entries = closed.port_is.entries

  -- the numbers that the servers accepted are those that the port gave
  all_accepted : (n : ℕ) → total (λ (book : LaneBook). times n book.accepted) idle.books ≡ once_below facts.given n
  all_accepted n =
      let all = own_adds_up hall.port facts keys closed.port_is accepted_number (times n) refl (λ x xs. omega arith) in
      let parts = total_of_books see hall opener (λ (key : port.PassView L). times n (accepted key.own)) (λ (book : LaneBook). times n book.accepted) (λ at put taken server serving. refl) 0 idle.books servers idle.have in
      let none = ap (times n) (says_nothing number opener servers accepted_number opening refl refl) in
      let given = ap (times n) closed.port_is.history.numbers ∙ times_range n facts.given in
      omega (arith, all, parts, none, given)

  -- the numbers that the port took back are those that the servers retired
  all_back : (n : ℕ) → times n (map (λ (one : ℕ × ShownLink). one.0) (map (seen_with see) (retired entries))) ≡ total (λ (book : LaneBook). times n (retired_numbers book)) idle.books
  all_back n =
      let counted : List (ℕ × L) → ℕ = λ links. times n (map (λ (one : ℕ × ShownLink). one.0) (map (seen_with see) links)) in
      let all = own_adds_up hall.port facts keys closed.port_is retired_link counted refl (λ x xs. omega arith) in
      let parts = total_of_books see hall opener (λ (key : port.PassView L). counted (retired key.own)) (λ (book : LaneBook). times n (retired_numbers book)) (λ at put taken server serving. refl) 0 idle.books servers idle.have in
      let none = ap counted (says_nothing number opener servers retired_link opening refl refl) in
      omega (arith, all, parts, none)

  -- each link that the port took back is in the book of a server
  in_some_book : (link : ℕ × L) → Contains (retired entries) link → Any (λ (book : LaneBook). Contains book.retired (seen_with see link)) idle.books
  in_some_book link there =
      any_book see hall opener (λ (key : port.PassView L). Contains (retired key.own) link) (λ (book : LaneBook). Contains book.retired (seen_with see link))
      (λ server put taken found. contains_map (seen_with see) (retired server.key.own) link found)
      (λ found. let found_in_none : Contains [] link = subst (λ (links : List (ℕ × L)). Contains links link) (says_nothing number opener servers retired_link opening refl refl) found in
      absurd (let within = found_in_none.1 in omega (arith, within)))
      0 idle.books servers idle.have (found_own hall.port facts keys closed.port_is retired_link link there)

  -- and so is each, as a clause sees it
  all_found : AllByRecursion (λ (one : ℕ × ShownLink). Any (λ (book : LaneBook). Contains book.retired one) idle.books) (map (seen_with see) (retired entries))
  all_found =
      let InBook : ℕ × ShownLink → Type 0 = λ one. Any (λ (book : LaneBook). Contains book.retired one) idle.books in
      recursion_from_All InBook (map (seen_with see) (retired entries))
      (All-map InBook (seen_with see) (retired entries)
      (All-weaker (Contains (retired entries)) (λ (link : ℕ × L). InBook (seen_with see link)) in_some_book (retired entries) (All-contains_itself (retired entries))))

  -- the books of the servers are all books of this account
  pub all_books : AreAllBooks hall.broker idle.books account facts.given (map (seen_with see) (retired entries))
  all_books = record {
    each = each_is_book see hall 0 idle.books servers idle.have;
    order = are_in_order see hall 0 idle.books servers idle.have;
    closed = subst (λ (passes : List broker.PassView). IsAccountOf hall.broker passes account) (same_passes see hall 0 idle.books servers idle.have) closed.broker_is;
    accepted = all_accepted;
    handed_on = idle.handed_on;
    back = all_back;
    found = all_found;
  }

  -- no lane was told a later moment than the clock gave last
  pub all_told : AllByRecursion (λ (book : LaneBook). book.told ≤ moment) idle.books
  all_told = none_told_later see hall moment 0 idle.books servers idle.have closed.clock_is

  -- what the history says of openings is what this pass says
  all_opened : (n : ℕ) → times n (opened entries) ≡ times n (opened opener.own)
  all_opened n =
      let all = own_adds_up hall.port facts keys closed.port_is opened_number (times n) refl (λ x xs. omega arith) in
      let parts = total_of_books see hall opener (λ (key : port.PassView L). times n (opened key.own)) (λ (book : LaneBook). 0) (λ at put taken server serving. sym (ap (times n) serving.unopened)) 0 idle.books servers idle.have in
      let none = total_zero idle.books in
      omega (arith, all, parts, none)

  -- where no server asked the port, it gave no link
  none_given : (opener.own ≡ Faulted opener.number ∷ []) → All (λ (server : ServerView L). server.key.own ≡ []) servers → facts.given ≡ 0
  none_given own none =
      let of_key : port.PassView L → ℕ = λ key. times 0 (accepted key.own) in
      let IsNone : port.PassView L → Type 0 = λ key. of_key key ≡ 0 in
      let all = own_adds_up hall.port facts keys closed.port_is accepted_number (times 0) refl (λ x xs. omega arith) in
      let nothing = total_same of_key (λ (key : port.PassView L). 0) keys
      (All-append IsNone (keys_of servers) (opener ∷ [])
      (All-map IsNone (λ (server : ServerView L). server.key) servers
      (All-weaker (λ (server : ServerView L). server.key.own ≡ []) (λ (server : ServerView L). IsNone server.key) (λ server empty. ap (λ (es : List (PortEntry L)). times 0 (accepted es)) empty) servers none))
      (All-cons IsNone opener [] (ap (λ (es : List (PortEntry L)). times 0 (accepted es)) own) (All-nil IsNone)))
      ∙ total_zero keys in
      let given = ap (times 0) closed.port_is.history.numbers ∙ times_range 0 facts.given in
      none_below facts.given (omega (arith, all, nothing, given))

  -- a port that gave a link was opened with the number that was asked for
  pub opened_so : HasOpened number opener servers → (facts.given ≡ 0) ⊎ (facts.opened_with ≡ Some number)
  opened_so (inl own) =
      inr (closed.port_is.history.opened ∙ last_is number (opened entries) (λ n. all_opened n ∙ ap (λ (es : List (PortEntry L)). times n (opened es)) own))
  opened_so (inr failed) = inl (none_given failed.0 failed.1)
