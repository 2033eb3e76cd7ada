-- The books of all passes, by the passes' numbers, come to a lawful account.
use Rattle.std.proofs.Common.{⊎_elim, inl, inr, ◌≡◌, ◌≢◌, ◌⊎◌, ◌∙◌, ℕ, zero, suc, ◌+◌, ◌<◌, ◌≤◌, Bool, true, false, cond, List, [], ◌∷◌, Option, Some, None, unwrap_or, length, map, refl, sym, ap, subst, arith}
use Rattle.std.proofs.lemmas.Bool.{cases_eq, eq-eqb, ne_eqb}
use Rattle.std.proofs.lemmas.List.{length-map}
use Rattle.std.proofs.lemmas.List.Elements.{All-cons, All-head, All-nil, All-tail}
use Rattle.std.proofs.lemmas.List.FromFn.{length-range_with_len, sum_by-map-range_with_len_more}
use Rattle.std.proofs.lemmas.List.Sums.{sum_by-cons}
use Rattle.std.specs.Prelude.{All, count_by, slice_get, slice_index, sum_by, ◌==◌}
use Rattle.std.specs.List.{AllByRecursion, range_with_len}
use Rattle.partlog.specs.declared.clock_event.ClockEvent.{ClockEvent}
use Rattle.partlog.specs.History.{History}
use Rattle.partlog.specs.Moment.{moment_of}
use Rattle.partlog.specs.State.{state_of}
use Rattle.opcond.specs.Operation.{Operation}
use Rattle.opcond.specs.Tally.{IsOverdue, IsSatisfied}
use Rattle.audit.specs.declared.account.Transcript.{Transcript}
use Rattle.audit.specs.IsLawful.{IsLawful}
use Rattle.audit.specs.LawfulCall.{Step, part_in}
use Rattle.kbytes.proofs.Laws.{some_is}
use Rattle.kanswer.specs.declared.accepted.Accepted.{Accepted}
use Rattle.kanswer.specs.declared.accepted.Accepted.TheVariants.{Refused, Appended, Seen}
use Rattle.kanswer.specs.ByPart.{AreByPart, IsByPart}
use Rattle.kanswer.specs.Waiting.{needs_of, results_of, values_of}
use Rattle.kanswer.proofs.Laws.{values_by_part}
use Rattle.kwire.specs.declared.request.Ask.{Ask}
use Rattle.kwire.specs.Configuration.{followers_of}
use Rattle.audit.specs.broker.books.Book.{Book}
use Rattle.audit.specs.broker.books.IsBook.{IsBook}
use Rattle.audit.specs.broker.books.Owned.{OwnWithin}
use Rattle.audit.specs.broker.books.Told.{told}
use Rattle.audit.specs.broker.books.Together.{AreTogether, GoesWith, IsAnswerableIn, account_of, shown_in, won_by}
use Rattle.audit.proofs.broker.books.Laws.{books_lawful, won_all}
use Rattle.audit.specs.broker.Board.{Waiting, history_at}
use Rattle.audit.specs.broker.Completing.{present}
use Rattle.kwire.specs.DeclaredTopics.{AreDeclared}
use Rattle.audit.specs.broker.Sound.{AreHistories}
use Rattle.audit.proofs.broker.Laws.{get_map, map_get, parts_size}
use Rattle.purgatory.specs.Rooms.{winners}
use Rattle.purgatory.proofs.Laws.{sum_keyed}
use Rattle.room_core.specs.declared.parts.Stage.{Stage}
use Rattle.room_core.specs.Counts.{sum_below}
use Rattle.room_core.specs.Described.{operation_of as described}
use Rattle.room_core.specs.State.{Caller}
use Rattle.room_table.specs.Seats.{caller_now}
use Rattle.shared_broker.specs.declared.parked.Parked.{Parked}
use Rattle.shared_broker.specs.Passes.{BrokerView, PassView, book_of, made_with, transcripts_of}
use Rattle.shared_broker.specs.Standing.{HoldsBook, IsKeptOf, Sits, Stands}
use Rattle.audit.specs.broker.Board.{gauge_now}
use Rattle.shared_logs.specs.Closing.{AreClosed, IsUnanswerable, taken_from}
use Rattle.shared_logs.specs.Coming.{OthersCame}
use Rattle.shared_logs.specs.Shared.{LogPassView, followers_in}

-- ---- items and their places

pub of_all : {X : Type 0} (P : X → Type 0) (xs : List X) (i : ℕ) (x : X) → All P xs → slice_get xs i ≡ Some x → P x
of_all P [] i x all e = absurd cc
of_all P (y ∷ xs) zero x all e = subst P (some_is y x e) (All-head P y xs all)
of_all P (y ∷ xs) (suc i) x all e = of_all P xs i x (All-tail P y xs all) e

pub all_of : {X : Type 0} (P : X → Type 0) (xs : List X) → ((i : ℕ) (x : X) → slice_get xs i ≡ Some x → P x) → All P xs
all_of P [] each = All-nil P
all_of P (y ∷ xs) each = All-cons P y xs (each 0 y refl) (all_of P xs (λ i x e. each (suc i) x e))

-- two lists with the same items are one
pub same_items : {X : Type 0} (xs ys : List X) → length xs ≡ length ys → ((i : ℕ) → i < length xs → slice_get xs i ≡ slice_get ys i) → xs ≡ ys
same_items [] [] size each = refl
same_items [] (y ∷ ys) size each = absurd (omega (arith, size))
same_items (x ∷ xs) [] size each = absurd (omega (arith, size))
same_items (x ∷ xs) (y ∷ ys) size each =
    ap (λ (z : _). z ∷ xs) (some_is x y (each 0 (omega arith))) ∙ ap (λ (zs : List _). y ∷ zs) (same_items xs ys (omega (arith, size)) (λ i lt. each (suc i) (omega (arith, lt))))

range_item : (a n i x : ℕ) → slice_get (range_with_len a n) i ≡ Some x → (i < n) × (x ≡ a + i)
range_item a zero i x e = absurd cc
range_item a (suc n) zero x e = (omega arith, sym (some_is a x e) ∙ omega arith)
range_item a (suc n) (suc i) x e =
    let rest = range_item (a + 1) n i x e in
    (omega (arith, rest.0), omega (arith, rest.1))

range_there : (a n i : ℕ) → i < n → slice_get (range_with_len a n) i ≡ Some (a + i)
range_there a zero i lt = absurd (omega (arith, lt))
range_there a (suc n) zero lt = ap Some (omega arith)
range_there a (suc n) (suc i) lt = range_there (a + 1) n i (omega (arith, lt)) ∙ ap Some (omega arith)

-- ---- the book of a number, and what waits in it

abbrev is_number : ℕ → PassView → Bool
is_number k pass = pass.logs.number == k

bit : Bool → ℕ
bit b = cond b 1 0

abbrev pub book_at : ℕ → List PassView → Book
book_at k [] = record { config = record { port = 0; topics = [] }; number = 0; parts = []; clock = []; transcripts = [] }
book_at k (pass ∷ passes) = cond (is_number k pass) (book_of pass) (book_at k passes)

abbrev waiting_from : (book : Book) (o : Option Parked) → HoldsBook book o → Option Waiting
waiting_from book None h = None
waiting_from book (Some parked) h = Some h.w

waiting_book : (book : Book) (o : Option Parked) (h : HoldsBook book o) → IsBook book (waiting_from book o h)
waiting_book book None h = h
waiting_book book (Some parked) h = h.book_is

abbrev waits_at : ℕ → (passes : List PassView) → AllByRecursion Stands passes → Option Waiting
waits_at k [] all = None
waits_at k (pass ∷ passes) all = cond (is_number k pass) (waiting_from (book_of pass) pass.waits (all.0).book) (waits_at k passes all.1)

record IsOwn (passes : List PassView) (all : AllByRecursion Stands passes) (pass : PassView) : Type 0 where
  stands : Stands pass
  book : book_at pass.logs.number passes ≡ book_of pass
  waits : waits_at pass.logs.number passes all ≡ waiting_from (book_of pass) pass.waits stands.book

count_there : (passes : List PassView) (i : ℕ) (pass : PassView) → slice_get passes i ≡ Some pass → 1 ≤ count_by (is_number pass.logs.number) passes
count_there [] i pass e = absurd cc
count_there (p ∷ passes) zero pass e =
    let same : is_number pass.logs.number p ≡ true = eq-eqb p.logs.number pass.logs.number (ap (λ (q : PassView). q.logs.number) (some_is p pass e)) in
    omega (arith, sum_by-cons (λ (q : PassView). cond (is_number pass.logs.number q) 1 0) p passes, ap {B = ℕ} (λ (b : Bool). cond b 1 0) same)
count_there (p ∷ passes) (suc i) pass e = omega (arith, sum_by-cons (λ (q : PassView). cond (is_number pass.logs.number q) 1 0) p passes, count_there passes i pass e)

-- a pass whose number no other has
own : (passes : List PassView) (all : AllByRecursion Stands passes) (i : ℕ) (pass : PassView) → slice_get passes i ≡ Some pass → count_by (is_number pass.logs.number) passes ≡ 1 → IsOwn passes all pass
own [] all i pass e one = absurd cc
own (p ∷ passes) all zero pass e one =
    let same : is_number p.logs.number p ≡ true = eq-eqb p.logs.number p.logs.number refl in
    subst (IsOwn (p ∷ passes) all) (some_is p pass e) (record {
      stands = all.0;
      book = ap (λ (b : Bool). cond b (book_of p) (book_at p.logs.number passes)) same;
      waits = ap (λ (b : Bool). cond b (waiting_from (book_of p) p.waits (all.0).book) (waits_at p.logs.number passes all.1)) same;
    })
own (p ∷ passes) all (suc i) pass e one =
    let count = sum_by-cons (λ (q : PassView). cond (is_number pass.logs.number q) 1 0) p passes in
    let there = count_there passes i pass e in
    ⊎_elim
    (λ (same : p.logs.number ≡ pass.logs.number). absurd (omega (arith, one, count, there, ap {B = ℕ} (λ (b : Bool). cond b 1 0) (eq-eqb p.logs.number pass.logs.number same))))
    (λ (other : p.logs.number ≢ pass.logs.number).
    let no : is_number pass.logs.number p ≡ false = ne_eqb p.logs.number pass.logs.number other in
    let o = own passes all.1 i pass e (omega (arith, one, count, ap {B = ℕ} (λ (b : Bool). cond b 1 0) no)) in
    record {
      stands = o.stands;
      book = ap (λ (b : Bool). cond b (book_of p) (book_at pass.logs.number passes)) no ∙ o.book;
      waits = ap (λ (b : Bool). cond b (waiting_from (book_of p) p.waits (all.0).book) (waits_at pass.logs.number passes all.1)) no ∙ o.waits;
    })
    (cases_eq p.logs.number pass.logs.number)

-- where a number stands
placed : (k : ℕ) (passes : List PassView) → 1 ≤ count_by (is_number k) passes → (i : ℕ) × (pass : PassView) × (slice_get passes i ≡ Some pass) × (pass.logs.number ≡ k)
placed k [] some = absurd (omega (arith, some))
placed k (p ∷ passes) some =
    let count = sum_by-cons (λ (q : PassView). cond (is_number k q) 1 0) p passes in
    ⊎_elim
    (λ (same : p.logs.number ≡ k). (0, p, refl, same))
    (λ (other : p.logs.number ≢ k).
    let rest = placed k passes (omega (arith, some, count, ap {B = ℕ} (λ (b : Bool). cond b 1 0) (ne_eqb p.logs.number k other))) in
    (suc rest.0, rest.1, rest.2, rest.3))
    (cases_eq p.logs.number k)

-- ---- what waits isn't answerable

shown_by_part : (finals : List History) (steps : List Step) → AreByPart (λ part. state_of (history_at finals part)) (shown_in finals steps)
shown_by_part finals [] = tt
shown_by_part finals (step ∷ steps) = (one step.result, shown_by_part finals steps)
  where
    one : (result : Accepted) → IsByPart (λ part. state_of (history_at finals part)) result (present finals (part_in result))
    one (Refused code) = tt
    one (Appended part base count) = refl
    one (Seen part start) = refl

shown_results : (finals : List History) (steps : List Step) → results_of (shown_in finals steps) ≡ map (λ (step : Step). step.result) steps
shown_results finals [] = refl
shown_results finals (step ∷ steps) = ap (λ (rs : List Accepted). step.result ∷ rs) (shown_results finals steps)

module _ (finals : List History) (clock : List ClockEvent) where
  kept_still : (book : Book) (parked : Parked) (h : IsKeptOf book parked) → IsUnanswerable finals clock parked.op → IsAnswerableIn finals clock h.w → ⊥
  kept_still book parked h un answerable =
      let w = h.w in
      let ask : Ask = w.request.ask in
      let needs : needs_of ask (results_of (shown_in finals w.steps)) ≡ parked.op.needs =
      ap (needs_of ask) (shown_results finals w.steps ∙ h.results) ∙ sym (ap (λ (op : Operation). op.needs) h.became) in
      let values : values_of ask (shown_in finals w.steps) ≡ map (gauge_now finals) parked.op.needs =
      values_by_part (λ part. state_of (history_at finals part)) ask (shown_in finals w.steps) (shown_by_part finals w.steps) ∙ ap (map (gauge_now finals)) needs in
      ⊎_elim
      (λ (s : IsSatisfied w.operation (values_of ask (shown_in finals w.steps))).
      un.unsatisfied (subst (IsSatisfied parked.op) values (subst (λ (op : Operation). IsSatisfied op (values_of ask (shown_in finals w.steps))) h.operation s)))
      (λ (o : IsOverdue w.operation (moment_of clock)). absurd (omega (arith, o, un.early, ap (λ (op : Operation). op.deadline) h.operation)))
      answerable

  still_from : (book : Book) (o : Option Parked) (h : HoldsBook book o) (caller : Caller) → Sits caller o → (caller.stage ≡ Stage.Waiting → IsUnanswerable finals clock (described caller.description)) → (w : Waiting)
      → waiting_from book o h ≡ Some w → IsAnswerableIn finals clock w → ⊥
  still_from book None h caller sits un w e answerable = absurd cc
  still_from book (Some parked) h caller sits un w e answerable =
      kept_still book parked h (subst (IsUnanswerable finals clock) sits.1 (un sits.0)) (subst (IsAnswerableIn finals clock) (sym (some_is h.w w e)) answerable)

-- ---- sums

sum_of_map : {A B : Type 0} (f : A → B) (g : B → ℕ) (xs : List A) → sum_by g (map f xs) ≡ sum_by (λ x. g (f x)) xs
sum_of_map f g [] = refl
sum_of_map f g (x ∷ xs) = omega (arith, sum_by-cons g (f x) (map f xs), sum_by-cons (λ y. g (f y)) x xs, sum_of_map f g xs)

sum_of_range : (f : ℕ → Book) (g : Book → ℕ) (n : ℕ) → sum_by g (map f (range_with_len 0 n)) ≡ sum_below (λ k. g (f k)) n
unfolding sum_below
sum_of_range f g zero = refl
sum_of_range f g (suc n) =
    let size : suc n ≡ n + 1 = omega arith in
    let more : sum_by g (map f (range_with_len 0 (n + 1))) ≡ sum_by g (map f (range_with_len 0 n)) + g (f n) = sum_by-map-range_with_len_more g f 0 n n (omega arith) in
    ap (λ (m : ℕ). sum_by g (map f (range_with_len 0 m))) size ∙ more ∙ ap (λ (s : ℕ). s + g (f n)) (sum_of_range f g n)

index_or : (xs : List ℕ) (i : ℕ) → unwrap_or (slice_get xs i) 0 ≡ slice_index xs i
index_or [] i = refl
index_or (x ∷ xs) zero = refl
index_or (x ∷ xs) (suc i) = index_or xs i

index_beyond : (xs : List ℕ) (i : ℕ) → length xs ≤ i → unwrap_or (slice_get xs i) 0 ≡ 0
index_beyond [] i le = refl
index_beyond (x ∷ xs) zero le = absurd (omega (arith, le))
index_beyond (x ∷ xs) (suc i) le = index_beyond xs i (omega (arith, le))

-- ---- all passes

abbrev pub logs_of : List PassView → List LogPassView
logs_of passes = map (λ (pass : PassView). pass.logs) passes

module _ (broker : BrokerView) (passes : List PassView) (all : AllByRecursion Stands passes) (made : All (λ (pass : PassView). made_with pass ≡ broker) passes) (topics : AreDeclared broker.config.topics)
    (followers : followers_in broker.logs ≡ followers_of broker.config.topics) (finals : List History) (clock : List ClockEvent) (numbers : List ℕ) (closed : AreClosed broker.logs (logs_of passes) finals clock numbers) where
  abbrev n : ℕ
  n = length passes

  abbrev pub books : List Book
  books = map (λ k. book_at k passes) (range_with_len 0 n)

  one_of : (k : ℕ) → k < n → count_by (is_number k) passes ≡ 1
  one_of k lt = sym (sum_of_map (λ (pass : PassView). pass.logs) (λ (logs : LogPassView). cond (logs.number == k) 1 0) passes) ∙ closed.one k (omega (arith, lt, length-map passes (λ (pass : PassView). pass.logs)))

  made_histories : AreHistories broker.config finals clock
  made_histories =
      let same = closed.logs.followers ∙ followers in
      record { whole = closed.logs.whole; few = omega (arith, parts_size broker.config.topics finals same, topics.few); followers = same; ticks = closed.logs.ticks }

  pub came : (i : ℕ) (pass : PassView) → slice_get passes i ≡ Some pass → OthersCame pass.logs.number pass.logs.parts pass.logs.clock finals clock
  came i pass e = of_all (λ (logs : LogPassView). OthersCame logs.number logs.parts logs.clock finals clock) (logs_of passes) i pass.logs closed.each (map_get (λ (p : PassView). p.logs) passes i pass e)

  -- the book of a number below that of passes is that of one of them
  record IsFrom (k : ℕ) : Type 0 where
    place : ℕ
    pass : PassView
    there : slice_get passes place ≡ Some pass
    number : pass.logs.number ≡ k
    stands : Stands pass
    book : book_at k passes ≡ book_of pass
    waits : waits_at k passes all ≡ waiting_from (book_of pass) pass.waits stands.book

  from : (k : ℕ) → k < n → IsFrom k
  from k lt =
      let one = one_of k lt in
      let at = placed k passes (omega (arith, one)) in
      let o = own passes all at.0 at.1 at.2 (subst (λ (m : ℕ). count_by (is_number m) passes ≡ 1) (sym at.3) one) in
      record {
        place = at.0;
        pass = at.1;
        there = at.2;
        number = at.3;
        stands = o.stands;
        book = subst (λ (m : ℕ). book_at m passes ≡ book_of at.1) at.3 o.book;
        waits = subst (λ (m : ℕ). waits_at m passes all ≡ waiting_from (book_of at.1) at.1.waits o.stands.book) at.3 o.waits;
      }

  book_there : (k : ℕ) (book : Book) → slice_get books k ≡ Some book → (k < n) × (book_at k passes ≡ book)
  book_there k book e =
      let found = get_map (λ j. book_at j passes) (range_with_len 0 n) k book e in
      let item = range_item 0 n k found.0 found.1 in
      let same : found.0 ≡ k = omega (arith, item.1) in
      (item.0, subst (λ (j : ℕ). book_at j passes ≡ book) same found.2)

  goes_of : (k : ℕ) (f : IsFrom k) → GoesWith broker.config finals clock k (book_of f.pass) (waiting_from (book_of f.pass) f.pass.waits f.stands.book)
  goes_of k f =
      let c = came f.place f.pass f.there in
      record {
        number = f.number;
        same = ap (λ (b : BrokerView). b.config) (of_all (λ (pass : PassView). made_with pass ≡ broker) passes f.place f.pass made f.there);
        grown = c.grown;
        within = subst (λ (m : ℕ). OwnWithin m f.pass.logs.parts f.pass.logs.clock finals clock) f.number c.within;
        still = still_from finals clock (book_of f.pass) f.pass.waits f.stands.book (caller_now f.pass.logs.seat) f.stands.sits
            (of_all (λ (logs : LogPassView). (caller_now logs.seat).stage ≡ Stage.Waiting → IsUnanswerable finals clock (described (caller_now logs.seat).description)) (logs_of passes) f.place f.pass.logs closed.still
            (map_get (λ (p : PassView). p.logs) passes f.place f.pass f.there));
      }

  goes : (k : ℕ) (book : Book) → slice_get books k ≡ Some book → GoesWith broker.config finals clock k book (waits_at k passes all)
  goes k book e =
      let at = book_there k book e in
      let f = from k at.0 in
      subst (λ (b : Book). GoesWith broker.config finals clock k b (waits_at k passes all)) (sym f.book ∙ at.1)
      (subst (GoesWith broker.config finals clock k (book_of f.pass)) (sym f.waits) (goes_of k f))

  is_book : (k : ℕ) (book : Book) → slice_get books k ≡ Some book → IsBook book (waits_at k passes all)
  is_book k book e =
      let at = book_there k book e in
      let f = from k at.0 in
      subst (λ (b : Book). IsBook b (waits_at k passes all)) (sym f.book ∙ at.1) (subst (IsBook (book_of f.pass)) (sym f.waits) (waiting_book (book_of f.pass) f.pass.waits f.stands.book))

  books_size : length books ≡ n
  books_size = length-map (range_with_len 0 n) (λ k. book_at k passes) ∙ length-range_with_len 0 n

  -- each winner's number is that of the calls that it completed
  sums : (winner : ℕ) → All (λ (pass : PassView). pass.logs.number < n) passes → sum_by (λ (logs : LogPassView). taken_from winner logs.seat) (logs_of passes) ≡ sum_by (won_by winner) books
  sums winner below =
      let h : ℕ → ℕ = λ k. won_by winner (book_at k passes) in
      let same : All (λ (pass : PassView). taken_from winner pass.logs.seat ≡ h pass.logs.number) passes = all_of (λ (pass : PassView). taken_from winner pass.logs.seat ≡ h pass.logs.number) passes (λ i pass e.
      let o = own passes all i pass e (one_of pass.logs.number (of_all (λ (p : PassView). p.logs.number < n) passes i pass below e)) in
      o.stands.taken winner ∙ ap (won_by winner) (sym o.book)) in
      sum_of_map (λ (pass : PassView). pass.logs) (λ (logs : LogPassView). taken_from winner logs.seat) passes
      ∙ sum_keyed (λ (pass : PassView). pass.logs.number) h n passes (λ (pass : PassView). taken_from winner pass.logs.seat) below same one_of
      ∙ sym (sum_of_range (λ k. book_at k passes) (won_by winner) n)

  counted : (winner : ℕ) → (winner < winners broker.logs.room.table) ⊎ (winners broker.logs.room.table ≤ winner) → unwrap_or (slice_get numbers winner) 0 ≡ sum_by (λ (logs : LogPassView). taken_from winner logs.seat) (logs_of passes)
  counted winner (inl lt) = index_or numbers winner ∙ closed.wins winner lt
  counted winner (inr le) = index_beyond numbers winner (omega (arith, le, closed.size)) ∙ sym (closed.others winner le)

  together : All (λ (pass : PassView). pass.logs.number < n) passes → AreTogether broker.config books (λ k. waits_at k passes all) finals clock numbers
  together below = record {
    histories = made_histories;
    each = goes;
    known = λ part place by seq e. omega (arith, closed.known part place by seq e, books_size, length-map passes (λ (pass : PassView). pass.logs));
    known_entries = λ part place event e. omega (arith, closed.known_entries part place event e, books_size, length-map passes (λ (pass : PassView). pass.logs));
    late = closed.late;
    counts = λ winner. counted winner (split winner (winners broker.logs.room.table)) ∙ sums winner below ∙ sym (won_all books winner);
  }
    where
      split : (a b : ℕ) → (a < b) ⊎ (b ≤ a)
      split a zero = inr (omega arith)
      split zero (suc b) = inl (omega arith)
      split (suc a) (suc b) = ⊎_elim (λ (l : a < b). inl (omega (arith, l))) (λ (g : b ≤ a). inr (omega (arith, g))) (split a b)

  pub lawful : All (λ (pass : PassView). pass.logs.number < n) passes → IsLawful (account_of broker.config books finals clock numbers)
  lawful below = books_lawful broker.config books (λ k. waits_at k passes all) finals clock numbers (together below) is_book

  -- lists that stand by the passes' numbers are those of the books
  pub told_passes : (lists : List (List Transcript)) → length lists ≡ n → All (λ (pass : PassView). slice_get lists pass.logs.number ≡ Some (map told (transcripts_of pass))) passes → lists ≡ map (λ (book : Book). map told book.transcripts) books
  told_passes lists size put =
      let g : Book → List Transcript = λ book. map told book.transcripts in
      same_items lists (map g books) (size ∙ sym books_size ∙ sym (length-map books g)) (λ k lt.
      let f = from k (omega (arith, lt, size)) in
      let left : slice_get lists k ≡ Some (map told (transcripts_of f.pass)) =
      subst (λ (m : ℕ). slice_get lists m ≡ Some (map told (transcripts_of f.pass))) f.number
      (of_all (λ (pass : PassView). slice_get lists pass.logs.number ≡ Some (map told (transcripts_of pass))) passes f.place f.pass put f.there) in
      let place : slice_get (range_with_len 0 n) k ≡ Some k = range_there 0 n k (omega (arith, lt, size)) ∙ ap Some (omega arith) in
      let right : slice_get (map g books) k ≡ Some (g (book_at k passes)) = map_get g books k (book_at k passes) (map_get (λ j. book_at j passes) (range_with_len 0 n) k k place) in
      left ∙ sym (right ∙ ap (λ (book : Book). Some (g book)) f.book))
