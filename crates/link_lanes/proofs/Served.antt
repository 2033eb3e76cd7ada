-- A server that enters something at the port, serves a link, or whose lane puts or takes one.
use Rattle.std.proofs.Common.{◌≡◌, ◌∙◌, ◌≤◌, ℕ, ◌+◌, Bool, true, false, List, [], ◌∷◌, ◌++◌, Option, Some, None, is_some, cond, map, refl, sym, ap, subst, arith, append-nil, append_assoc}
use Rattle.std.specs.List.{AllZip}
use Rattle.std.proofs.lemmas.List.{map-append}
use Rattle.std.proofs.lemmas.List.Elements.{filter_map-append}
use Rattle.audit.specs.declared.account.SessionEnd.{SessionEnd}
use Rattle.link_lanes.specs.books.LaneBook.{IsLaneBook, IsTranscriptOf, LaneBook, retired_numbers}
use Rattle.link_lanes.specs.books.Serving.{IsFreshLink, served_after, shut_link}
use Rattle.link_lanes.specs.books.Shown.{ShownLink}
use Rattle.link_lanes.specs.books.Times.{times}
use Rattle.outside.specs.shared.port.Asked.{HasEntered, HasHandedBack, accept_entries}
use Rattle.outside.specs.declared.shared.port.accepting.Accepting.{Accepting}
use Rattle.outside.specs.declared.shared.port.accepting.Accepting.TheVariants as accepting
use Rattle.outside.specs.declared.shared.port.port_entry.PortEntry.{PortEntry}
use Rattle.outside.specs.declared.shared.port.port_entry.PortEntry.TheVariants.{Ended, Faulted, Retired}
use Rattle.outside.specs.shared.port.Entries.{accepted, accepted_number, has_ended, has_faulted, opened, opened_number, retired, retired_link}
use Rattle.outside.specs.shared.port.PortViews as port
use Rattle.link_lanes.specs.Accepted.{numbers_in}
use Rattle.link_lanes.specs.Going.{HasServedOn}
use Rattle.link_lanes.specs.Halls.{HallView, ServerView, book_of}
use Rattle.link_lanes.specs.Seen.{seen_with}
use Rattle.link_lanes.specs.Serving.{IsServing}
use Rattle.link_lanes.proofs.Counting.{times_append}
use Rattle.session.specs.Flows.{LinkView}
use Rattle.session.specs.Onwards.{HasGoneOn}
use Rattle.session.specs.Served.{HasServed}
use Rattle.outside.specs.shared.clock.ClockViews as clock
use Rattle.shared_broker.specs.Passes as broker

pub none_there : {A : Type 0} (o : Option A) → is_some o ≡ false → o ≡ None
none_there None none = refl
none_there (Some x) none = absurd cc

-- the law of a link that was served
abbrev pub LinkIsBooked : Type 0
LinkIsBooked =
    (b : broker.BrokerView) (book : LaneBook) (n told : ℕ) (answer : SessionEnd) (new : broker.PassView) (before now : LinkView)
    → IsLaneBook b (n ∷ []) book → book.told ≤ told → IsFreshLink before → HasServed n answer book.pass new before now → HasGoneOn told book.pass new
    → new.waits ≡ None → new.going ≡ None → IsLaneBook b [] (served_after book new told n (shut_link now))

module _ {L : Type 0} (see : L → ShownLink) (hall : HallView) where
  -- ---- what its lane puts and takes

  with_more : (at : ℕ) (held now put more taken others : List ℕ) (server : ServerView L)
      → ((n : ℕ) → times n held + times n others ≡ times n more + times n now)
      → IsServing see hall at held put taken server → IsServing see hall at now (put ++ more) (taken ++ others) server
  with_more at held now put more taken others server even is = record {
    seat = is.seat;
    key = is.key;
    number = is.number;
    key_number = is.key_number;
    unopened = is.unopened;
    book = record {
      made = is.book.made;
      idle = is.book.idle;
      quiet = is.book.quiet;
      ticked = is.book.ticked;
      served = is.book.served;
      balanced = λ n. omega (arith, is.book.balanced n, even n, times_append n put more, times_append n taken others);
    };
  }

  -- a link in hand goes into the queue
  pub put_on : (n : ℕ) (server : ServerView L) → HasServedOn see hall (n ∷ []) [] (n ∷ []) [] server server
  put_on n server at put taken is = with_more at (n ∷ []) [] put (n ∷ []) taken [] server (λ m. omega arith) is

  -- a link of the queue comes into its hands
  pub taken_on : (n : ℕ) (server : ServerView L) → HasServedOn see hall [] (n ∷ []) [] (n ∷ []) server server
  taken_on n server at put taken is = with_more at [] (n ∷ []) put [] taken (n ∷ []) server (λ m. omega arith) is

  pub same_on : (server : ServerView L) → HasServedOn see hall [] [] [] [] server server
  same_on server at put taken is = with_more at [] [] put [] taken [] server (λ m. omega arith) is

  -- nothing is put and taken
  pub as_it_was : (at : ℕ) (held put taken : List ℕ) (server : ServerView L) → IsServing see hall at held put taken server → IsServing see hall at held (put ++ []) (taken ++ []) server
  as_it_was at held put taken server is = with_more at held held put [] taken [] server (λ m. omega arith) is

  -- one after the other
  pub on_and_on : (h0 h1 h2 p1 p2 t1 t2 : List ℕ) (a b c : ServerView L) → HasServedOn see hall h0 h1 p1 t1 a b → HasServedOn see hall h1 h2 p2 t2 b c
      → HasServedOn see hall h0 h2 (p1 ++ p2) (t1 ++ t2) a c
  on_and_on h0 h1 h2 p1 p2 t1 t2 a b c first then at put taken is =
      subst (λ (p : List ℕ). IsServing see hall at h2 p (taken ++ (t1 ++ t2)) c) (append_assoc put p1 p2)
      (subst (λ (t : List ℕ). IsServing see hall at h2 ((put ++ p1) ++ p2) t c) (append_assoc taken t1 t2) (then at (put ++ p1) (taken ++ t1) (first at put taken is)))

  -- a server and a hall as a function finds them are those that it was handed
  pub found : (hall' : HallView) (at : ℕ) (held put taken : List ℕ) (old old' : ServerView L) → hall' ≡ hall → old' ≡ old → IsServing see hall at held put taken old → IsServing see hall' at held put taken old'
  found hall' at held put taken old old' halls olds is =
      subst (λ (h : HallView). IsServing see h at held put taken old') (sym halls) (subst (IsServing see hall at held put taken) (sym olds) is)

  pub served_from : (h0 h1 p t : List ℕ) (old old' new : ServerView L) → old' ≡ old → HasServedOn see hall h0 h1 p t old' new → HasServedOn see hall h0 h1 p t old new
  served_from h0 h1 p t old old' new olds on = subst (λ (o : ServerView L). HasServedOn see hall h0 h1 p t o new) olds on

  -- ---- what it enters at the port

  module _ (at : ℕ) (put taken news : List ℕ) (old : ServerView L) (key : port.PassView L) (more : List (PortEntry L))
      (own : key.own ≡ old.key.own ++ more) (made : key.made ≡ old.key.made) (terms : key.terms ≡ old.key.terms) (number : key.number ≡ old.key.number)
      (no_opening : opened more ≡ []) (no_retirement : retired more ≡ []) (are_new : accepted more ≡ news) where
    abbrev after : ServerView L
    after = record { pass = old.pass; seat = old.seat; key = key }

    accepted_after : accepted key.own ≡ accepted old.key.own ++ news
    accepted_after = ap accepted own ∙ filter_map-append accepted_number old.key.own more ∙ ap (λ (ns : List ℕ). accepted old.key.own ++ ns) are_new

    retired_after : retired key.own ≡ retired old.key.own
    retired_after = ap retired own ∙ filter_map-append retired_link old.key.own more ∙ ap (λ (rs : List (ℕ × L)). retired old.key.own ++ rs) no_retirement ∙ append-nil (retired old.key.own)

    opened_after : opened key.own ≡ opened old.key.own
    opened_after = ap opened own ∙ filter_map-append opened_number old.key.own more ∙ ap (λ (ns : List ℕ). opened old.key.own ++ ns) no_opening ∙ append-nil (opened old.key.own)

    links_after : (book_of see after put taken).retired ≡ (book_of see old put taken).retired
    links_after = ap (map (seen_with see)) retired_after

    balanced_after : IsServing see hall at [] put taken old → (n : ℕ)
        → times n (accepted key.own) + times n taken ≡ times n put + times n (retired_numbers (book_of see after put taken)) + times n news
    balanced_after is n =
        let same : times n (retired_numbers (book_of see after put taken)) ≡ times n (retired_numbers (book_of see old put taken)) =
        ap (λ (rs : List (ℕ × ShownLink)). times n (map (λ (one : ℕ × ShownLink). one.0) rs)) links_after in
        let grown : times n (accepted key.own) ≡ times n (accepted old.key.own) + times n news = ap (times n) accepted_after ∙ times_append n (accepted old.key.own) news in
        omega (arith, is.book.balanced n, same, grown)

    pub entered : IsServing see hall at [] put taken old → IsServing see hall at news put taken after
    entered is = record {
      seat = is.seat;
      key = (made ∙ is.key.0, terms ∙ is.key.1);
      number = is.number;
      key_number = number ∙ is.key_number;
      unopened = opened_after ∙ is.unopened;
      book = record {
        made = is.book.made;
        idle = is.book.idle;
        quiet = is.book.quiet;
        ticked = is.book.ticked;
        served = subst (λ (rs : List (ℕ × ShownLink)). AllZip (IsTranscriptOf old.pass) rs old.pass.ended) (sym links_after) is.book.served;
        balanced = balanced_after is;
      };
    }

-- ---- what an accept enters is the number of the link, if it gives one

-- entries that open nothing, retire nothing, and accept links of these numbers
record EnterOnly {L : Type 0} (news : List ℕ) (more : List (PortEntry L)) : Type 0 where
  pub no_opening : opened more ≡ []
  pub no_retirement : retired more ≡ []
  pub are_new : accepted more ≡ news

module _ {L : Type 0} where
  nothing_entered : EnterOnly {L = L} [] []
  nothing_entered = record { no_opening = refl; no_retirement = refl; are_new = refl }

  ended_once : (by : ℕ) (before : Bool) → EnterOnly {L = L} [] (cond before [] (Ended by ∷ []))
  ended_once by true = nothing_entered
  ended_once by false = record { no_opening = refl; no_retirement = refl; are_new = refl }

  faulted_once : (by : ℕ) (before : Bool) → EnterOnly {L = L} [] (cond before [] (Faulted by ∷ []))
  faulted_once by true = nothing_entered
  faulted_once by false = record { no_opening = refl; no_retirement = refl; are_new = refl }

  entered_by_accept : (answer : Accepting L) (by : ℕ) (found : List (PortEntry L)) → EnterOnly (numbers_in answer) (accept_entries answer by found)
  entered_by_accept (accepting.Link number link) by found = record { no_opening = refl; no_retirement = refl; are_new = refl }
  entered_by_accept accepting.Full by found = nothing_entered
  entered_by_accept accepting.Ended by found = ended_once by (has_ended found)
  entered_by_accept accepting.Faulted by found = faulted_once by (has_faulted found)
  entered_by_accept accepting.NoMemory by found = nothing_entered

module _ {L : Type 0} (see : L → ShownLink) (hall : HallView) where
  -- an accept brings a link into its hands
  pub accepted_on : (answer : Accepting L) (by : ℕ) (old : ServerView L) (key : port.PassView L) → HasEntered (λ found. accept_entries answer by found) old.key key
      → HasServedOn see hall [] (numbers_in answer) [] [] old (record { pass = old.pass; seat = old.seat; key = key })
  accepted_on answer by old key h at put taken is =
      let found = h.found in
      let only = entered_by_accept answer by found in
      as_it_was see hall at (numbers_in answer) put taken (record { pass = old.pass; seat = old.seat; key = key })
      (entered see hall at put taken (numbers_in answer) old key (accept_entries answer by found)
      (ap (λ (k : port.PassView L). k.own) h.after_is) (ap (λ (k : port.PassView L). k.made) h.after_is) (ap (λ (k : port.PassView L). k.terms) h.after_is) (ap (λ (k : port.PassView L). k.number) h.after_is)
      only.no_opening only.no_retirement only.are_new is)

  -- ---- a link is served and retired

  module _ (booked : LinkIsBooked) (n : ℕ) (answer : SessionEnd) (old : ServerView L) (pass : broker.PassView) (seat : clock.PassView) (key : port.PassView L) (before now : LinkView) (link : L)
      (fresh : IsFreshLink before) (served : HasServed n answer old.pass pass before now) (on : HasGoneOn seat.told old.pass pass) (quiet : pass.waits ≡ None) (idle : pass.going ≡ None)
      (made : seat.made ≡ old.seat.made) (later : old.seat.told ≤ seat.told) (seen : see link ≡ shut_link now) (back : HasHandedBack n link old.key key) where
    abbrev done : ServerView L
    done = record { pass = pass; seat = seat; key = key }

    abbrev entry : PortEntry L
    entry = Retired old.key.number n back.0

    abbrev way : HasEntered (λ found. entry ∷ []) old.key key
    way = back.2

    own_is : key.own ≡ old.key.own ++ entry ∷ []
    own_is = ap (λ (k : port.PassView L). k.own) way.after_is

    accepted_same : accepted key.own ≡ accepted old.key.own
    accepted_same = ap accepted own_is ∙ filter_map-append accepted_number old.key.own (entry ∷ []) ∙ append-nil (accepted old.key.own)

    opened_same : opened key.own ≡ opened old.key.own
    opened_same = ap opened own_is ∙ filter_map-append opened_number old.key.own (entry ∷ []) ∙ append-nil (opened old.key.own)

    one_more_retired : retired key.own ≡ retired old.key.own ++ (n, link) ∷ []
    one_more_retired =
        ap retired own_is ∙ filter_map-append retired_link old.key.own (entry ∷ []) ∙ ap (λ (l : L). retired old.key.own ++ (n, l) ∷ []) back.1

    links_are : map (seen_with see) (retired key.own) ≡ map (seen_with see) (retired old.key.own) ++ (n, shut_link now) ∷ []
    links_are =
        ap (map (seen_with see)) one_more_retired ∙ map-append (seen_with see) (retired old.key.own) ((n, link) ∷ [])
        ∙ ap (λ (l : ShownLink). map (seen_with see) (retired old.key.own) ++ (n, l) ∷ []) seen

    book_is : (put taken : List ℕ) → served_after (book_of see old put taken) pass seat.told n (shut_link now) ≡ book_of see done put taken
    book_is put taken =
        ap (λ (ns : List ℕ). record { pass = pass; told = seat.told; accepted = ns; put = put; taken = taken; retired = map (seen_with see) (retired old.key.own) ++ (n, shut_link now) ∷ [] }) (sym accepted_same)
        ∙ ap (λ (rs : List (ℕ × ShownLink)). record { pass = pass; told = seat.told; accepted = accepted key.own; put = put; taken = taken; retired = rs }) (sym links_are)

    pub served_on : HasServedOn see hall (n ∷ []) [] [] [] old done
    served_on at put taken is =
        as_it_was see hall at [] put taken done record {
          seat = made ∙ is.seat;
          key = (ap (λ (k : port.PassView L). k.made) way.after_is ∙ is.key.0, ap (λ (k : port.PassView L). k.terms) way.after_is ∙ is.key.1);
          number = on.number ∙ is.number;
          key_number = ap (λ (k : port.PassView L). k.number) way.after_is ∙ is.key_number;
          unopened = opened_same ∙ is.unopened;
          book = subst (IsLaneBook hall.broker []) (book_is put taken) (booked hall.broker (book_of see old put taken) n seat.told answer pass before now is.book later fresh served on quiet idle);
        }
