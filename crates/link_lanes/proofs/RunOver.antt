-- A run of lanes that is over: what the laws of lanes' books and the history of its port make of the hall that is closed.
use Rattle.std.proofs.Common.{◌≡◌, ◌∙◌, ◌⊎◌, inl, inr, ℕ, ◌≤◌, Bool, true, false, true≢false, ◌==◌, List, [], ◌∷◌, ◌++◌, All, Any, map, ap, sym, subst}
use Rattle.std.proofs.lemmas.List.Elements.{All-contains, Contains-push}
use Rattle.std.specs.List.{AllByRecursion, range_with_len}
use Rattle.audit.specs.declared.account.Account.{Account}
use Rattle.kwire.specs.Configuration.{Configuration}
use Rattle.link_lanes.specs.books.LaneBook.{LaneBook}
use Rattle.link_lanes.specs.books.Shown.{ShownLink}
use Rattle.link_lanes.specs.books.Together.{AreAllBooks, AreServed}
use Rattle.outside.specs.declared.shared.port.port_entry.PortEntry.{PortEntry}
use Rattle.outside.specs.declared.shared.port.port_entry.PortEntry.TheVariants.{Faulted}
use Rattle.outside.specs.shared.port.Entries.{accepted, entered_by, has_ended, has_faulted, is_end, is_fault, retired}
use Rattle.outside.specs.shared.port.History.{PortFacts, Terms}
use Rattle.outside.specs.shared.port.PortViews as port
use Rattle.link_lanes.specs.declared.lane.LaneEnd.TheVariants.{Over, Failed}
use Rattle.link_lanes.specs.Closed.{HasOpened, HasStopped, HaveClosed, keys_of}
use Rattle.link_lanes.specs.Going.{HasEnded}
use Rattle.link_lanes.specs.Halls.{HallView, ServerView}
use Rattle.link_lanes.specs.LaneRun.{IsLaneRun}
use Rattle.link_lanes.specs.Seen.{seen_with}
use Rattle.link_lanes.specs.Together.{AreIdle}
use Rattle.link_lanes.proofs.AllBooks.{all_books, all_told, opened_so}
use Rattle.link_lanes.proofs.FoundParts.{all_keys, any_kept, any_with}
use Rattle.link_lanes.proofs.PartSums.{part_of}
use Rattle.link_lanes.proofs.PortParts.{all_given, found_still}
use Rattle.outside.specs.Causes.{Rose}
use Rattle.partlog.specs.Moment.{moment_of}
use Rattle.shared_broker.specs.Passes as broker

-- what the contract of `books_are_served` says: all books together give each link its transcript
abbrev pub BooksAreServed : Type 0
BooksAreServed =
    (shared : broker.BrokerView) (books : List LaneBook) (account : Account) (given : ℕ) (links : List (ℕ × ShownLink))
    → AreAllBooks shared books account given links → AreServed account given links

-- and no tick is past a moment that no lane was told a later one than
abbrev pub BooksTick : Type 0
BooksTick =
    (shared : broker.BrokerView) (books : List LaneBook) (account : Account) (given moment : ℕ) (links : List (ℕ × ShownLink))
    → AreAllBooks shared books account given links → AllByRecursion (λ (book : LaneBook). book.told ≤ moment) books → moment_of account.clock ≤ moment

module _ {L : Type 0} (hall : HallView) (servers : List (ServerView L)) (opener : port.PassView L) (account : Account) (facts : PortFacts L) (moment : ℕ)
    (closed : HaveClosed hall servers opener account facts moment) where
  abbrev entries : List (PortEntry L)
  entries = closed.port_is.entries

  -- the history begins with what this server saw
  abbrev Saw : ServerView L → Type 0
  Saw server = (rest : List (PortEntry L)) × (entries ≡ server.key.seen ++ rest)

  each_saw : All Saw servers
  each_saw = all_keys (λ (server : ServerView L). server.key) (λ (key : port.PassView L). (rest : List (PortEntry L)) × (entries ≡ key.seen ++ rest)) servers (opener ∷ []) closed.port_is.seen

  -- some server saw the history so
  some_saw : (So : List (PortEntry L) → Type 0) → Any (λ (server : ServerView L). So server.key.seen) servers → Any (λ (server : ServerView L). Saw server × So server.key.seen) servers
  some_saw So any = any_with Saw (λ (server : ServerView L). So server.key.seen) (λ (server : ServerView L). Saw server × So server.key.seen) servers each_saw (λ server saw so. (saw, so)) any

  -- a server saw that as many links were given as may be, or that no more come
  over_as_seen : (seen rest : List (PortEntry L)) → entries ≡ seen ++ rest → (accepted seen ≡ range_with_len 0 hall.port.terms.most) ⊎ (has_ended seen ≡ true)
      → (facts.given ≡ hall.port.terms.most) ⊎ (facts.is_ended ≡ true)
  over_as_seen seen rest grown (inl full) =
      inl (all_given entries seen rest grown hall.port.terms.most facts.given closed.port_is.history.limit closed.port_is.history.numbers full)
  over_as_seen seen rest grown (inr ended) = inr (closed.port_is.history.ended ∙ found_still entries seen rest grown is_end ended)

  -- a port that didn't fail gave as many links as it may, or no more come
  over_so : (failed : Bool) → HasStopped hall opener failed servers → failed ≡ false → (facts.given ≡ hall.port.terms.most) ⊎ (facts.is_ended ≡ true)
  over_so true stopped is = absurd (true≢false is)
  over_so false (inr opening) is = absurd (true≢false (sym opening.0))
  over_so false (inl any) is =
      let saw = some_saw (HasEnded hall.port.terms.most Over) any in
      over_as_seen saw.1.key.seen saw.4.0.0 saw.4.0.1 saw.4.1

  -- the history has the fault of the pass that couldn't open the port
  opening_failed : opener.own ≡ Faulted opener.number ∷ [] → has_faulted entries ≡ true
  opening_failed own =
      let its : part_of entered_by opener.number entries ≡ opener.own =
      All-contains (λ (key : port.PassView L). part_of entered_by key.number entries ≡ key.own) (keys_of servers ++ opener ∷ []) opener closed.port_is.own (Contains-push (keys_of servers) opener) in
      any_kept is_fault (λ entry. entered_by entry == opener.number) entries (ap has_faulted (its ∙ own))

  -- the count of a port that failed rose
  risen_so : (failed : Bool) → HasStopped hall opener failed servers → failed ≡ true → Rose hall.port.terms.before facts.faults
  risen_so false stopped is = absurd (true≢false (sym is))
  risen_so true (inr opening) is = closed.port_is.history.cause (opening_failed opening.1)
  risen_so true (inl any) is =
      let saw = some_saw (HasEnded hall.port.terms.most Failed) any in
      closed.port_is.history.cause (found_still entries saw.1.key.seen saw.4.0.0 saw.4.0.1 is_fault saw.4.1)

-- a run whose hall is closed
pub lane_run : {L : Type 0} (see : L → ShownLink) (hall : HallView) (servers : List (ServerView L)) (opener : port.PassView L) (config : Configuration) (number most before : ℕ)
    (account : Account) (facts : PortFacts L) (moment : ℕ) (failed : Bool)
    → BooksAreServed → BooksTick
    → hall.broker.config ≡ config → hall.port.terms ≡ record { before = before; most = most }
    → AreIdle see hall servers → HaveClosed hall servers opener account facts moment → HasOpened number opener servers → HasStopped hall opener failed servers
    → IsLaneRun see (record { config = config; number = number; most = most; before = before }) account facts moment failed
lane_run see hall servers opener config number most before account facts moment failed served ticks config_is terms_are idle closed opening stopped =
    let books = all_books see hall servers opener number account facts moment idle closed opening in
    let links = map (seen_with see) (retired closed.port_is.entries) in
    let most_is : hall.port.terms.most ≡ most = ap (λ (terms : Terms). terms.most) terms_are in
    let before_is : hall.port.terms.before ≡ before = ap (λ (terms : Terms). terms.before) terms_are in
    let history = closed.port_is.history in
    record {
      lawful = closed.broker_is.lawful;
      config = closed.broker_is.config ∙ config_is;
      opened = opened_so see hall servers opener number account facts moment idle closed opening opening;
      limit = subst (λ (n : ℕ). facts.given ≤ n) most_is history.limit;
      links = retired closed.port_is.entries;
      count = history.count;
      told = history.links;
      served = served hall.broker idle.books account facts.given links books;
      ticks = ticks hall.broker idle.books account facts.given moment links books (all_told see hall servers opener number account facts moment idle closed opening);
      over = λ fine. subst (λ (n : ℕ). (facts.given ≡ n) ⊎ (facts.is_ended ≡ true)) most_is (over_so hall servers opener account facts moment closed failed stopped fine);
      cause = λ is. subst (λ (n : ℕ). Rose n facts.faults) before_is (risen_so hall servers opener account facts moment closed failed stopped is);
    }
