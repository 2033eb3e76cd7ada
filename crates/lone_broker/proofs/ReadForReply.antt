-- What is read of the logs for a reply, and how many bytes of records that are.
use Rattle.std.proofs.Common.{◌≡◌, ◌≤◌, ◌<◌, ◌+◌, ◌-◌, ◌||◌, ℕ, suc, ℤ, Bool, true, false, List, [], ◌∷◌, ◌++◌, length, get_or, take, drop, map, sum_by, Option, Result, Ok, Err, IfOk, OnOk, length-append, refl, sym, ap, subst, ◌∙◌, arith}
use Rattle.std.specs.Prelude.{unwrap_or, ⊤}
use Rattle.std.specs.List.{flat_map}
use Rattle.std.proofs.lemmas.Option.{slice_get-get_or}
use Rattle.std.proofs.lemmas.List.{append_assoc, drop-drop, drop_more}
use Rattle.std.proofs.lemmas.List.Sums.{sum_by-cons, sum_by-drop_more}
use Rattle.partlog.specs.History.{History}
use Rattle.partlog.specs.State.{state_of}
use Rattle.partlog.specs.declared.numbers.Numbers.{Numbers}
use Rattle.partlog.specs.Gauges.{numbers_of}
use Rattle.partlog.specs.Taken.{joined}
use Rattle.kwire.specs.declared.request.Ask.{Ask}
use Rattle.kwire.specs.declared.request.Ask.TheVariants.{Produce, Fetch, Metadata, Versions}
use Rattle.kwire.specs.declared.request.FetchPart.{FetchPart}
use Rattle.kwire.specs.declared.request.FetchTopic.{FetchTopic}
use Rattle.kanswer.specs.declared.accepted.Accepted.{Accepted}
use Rattle.kanswer.specs.declared.accepted.Accepted.TheVariants.{Refused, Appended, Seen}
use Rattle.kanswer.specs.declared.accepted.Reading.{Reading}
use Rattle.kanswer.specs.declared.accepted.Budget.{Budget}
use Rattle.audit.specs.broker.Board.{history_at, empty_history}
use Rattle.kanswer.specs.Answer.{read_of, batches_as, budget_after, first_budget}
use Rattle.kanswer.specs.LogReadings.{AreReadings, HasNumbers, ProduceReadings, HasRecords, FetchReadings, named_count, budget_of}
use Rattle.lone_broker.specs.Gathered.{numbers_now, state_now, shown_in_logs, reading_now, left_now, readings_now, left_behind}
use Rattle.kanswer.specs.BytesRead.{bytes_read}
use Rattle.lone_broker.specs.Replying.{HasLog}

-- ---- one partition

pub if_ok_two : {T E : Type 0} {P R : T → Type 0} {Q : Type 0} (r : Result T E) → IfOk r P → OnOk r Q → ((x : T) → P x → Q → R x) → IfOk r R
if_ok_two (Ok x) p q f = f x p q
if_ok_two (Err e) p q f = tt

pub if_ok_both : {T E : Type 0} {P Q R : T → Type 0} (r : Result T E) → IfOk r P → IfOk r Q → ((x : T) → P x → Q x → R x) → IfOk r R
if_ok_both (Ok x) p q f = f x p q
if_ok_both (Err e) p q f = tt

pub if_ok_then : {T E : Type 0} {P R : T → Type 0} (r : Result T E) → IfOk r P → ((x : T) → P x → R x) → IfOk r R
if_ok_then (Ok x) p f = f x p
if_ok_then (Err e) p f = tt

seen_at : (parts : List History) (part : ℕ) (h : History) → part < length parts → h ≡ get_or parts part h → history_at parts part ≡ h
seen_at parts part h lt is = ap (λ (o : Option History). unwrap_or o (empty_history 0)) (slice_get-get_or parts part h lt) ∙ sym is

pub seen_left : (parts : List History) (r replica : ℤ) (asked : FetchPart) (became : Accepted) (part start : ℕ) (h : History) (b new : Budget) → r ≡ replica → became ≡ Seen part start → HasLog (length parts) became → h ≡ get_or parts part h
    → new ≡ budget_after (read_of r asked start (state_of h) b) b → new ≡ left_now parts replica asked became b
seen_left parts r replica asked became part start h b new who is has at e =
    let lt : part < length parts = subst (HasLog (length parts)) is has in
    e
    ∙ ap (λ (z : ℤ). budget_after (read_of z asked start (state_of h) b) b) who
    ∙ ap (λ (x : History). budget_after (read_of replica asked start (state_of x) b) b) (sym (seen_at parts part h lt at))
    ∙ ap (λ (a : Accepted). left_now parts replica asked a b) (sym is)

pub seen_read : (parts : List History) (r replica : ℤ) (asked : FetchPart) (became : Accepted) (part start : ℕ) (h : History) (b : Budget) (reading : Reading) → r ≡ replica → became ≡ Seen part start → HasLog (length parts) became → h ≡ get_or parts part h
    → reading.numbers ≡ numbers_of (state_of h) → reading.records ≡ joined (read_of r asked start (state_of h) b) → reading ≡ reading_now parts replica asked became b
seen_read parts r replica asked became part start h b reading who is has at numbers records =
    let lt : part < length parts = subst (HasLog (length parts)) is has in
    let read = λ (n : Numbers) (bytes : List ℕ). let one : Reading = record { numbers = n; records = bytes } in one in
    ap (λ (n : Numbers). read n reading.records) numbers
    ∙ ap (read (numbers_of (state_of h))) (records ∙ ap (λ (z : ℤ). joined (read_of z asked start (state_of h) b)) who)
    ∙ ap (λ (x : History). reading_now_of x) (sym (seen_at parts part h lt at))
    ∙ ap (λ (a : Accepted). reading_now parts replica asked a b) (sym is)
  where
    reading_now_of : History → Reading
    reading_now_of x = record { numbers = numbers_of (state_of x); records = joined (read_of replica asked start (state_of x) b) }

-- ---- partitions one after the other

pub readings-append : (parts : List History) (replica : ℤ) (asked more : List FetchPart) (accepted : List Accepted) (b : Budget)
    → readings_now parts replica (asked ++ more) accepted b ≡ readings_now parts replica asked (take (length asked) accepted) b ++ readings_now parts replica more (drop (length asked) accepted) (left_behind parts replica asked (take (length asked) accepted) b)
readings-append parts replica [] more accepted b = refl
readings-append parts replica (a ∷ asked) [] [] b = refl
readings-append parts replica (a ∷ asked) (m ∷ more) [] b = refl
readings-append parts replica (a ∷ asked) more (x ∷ accepted) b =
    ap (λ (rs : List Reading). reading_now parts replica a x b ∷ rs) (readings-append parts replica asked more accepted (left_now parts replica a x b))

pub readings-length : (parts : List History) (replica : ℤ) (asked : List FetchPart) (accepted : List Accepted) (b : Budget) → length accepted ≡ length asked → length (readings_now parts replica asked accepted b) ≡ length accepted
readings-length parts replica [] [] b e = refl
readings-length parts replica [] (x ∷ accepted) b e = absurd (omega arith)
readings-length parts replica (a ∷ asked) [] b e = refl
readings-length parts replica (a ∷ asked) (x ∷ accepted) b e = ap (λ (n : ℕ). suc n) (readings-length parts replica asked accepted (left_now parts replica a x b) (omega arith))

abbrev budget_at : ℕ → Bool → Budget
budget_at left any = record { left = left; any = any }

none_after : (b : Budget) → budget_after [] b ≡ b
none_after b =
    let same : (any : Bool) → (any || false) ≡ any = λ any. elim any as (λ y. (y || false) ≡ y) [ true ↦ refl | false ↦ refl ] in
    let left : b.left - 0 ≡ b.left = omega arith in
    ap (λ (n : ℕ). budget_at n (b.any || false)) left ∙ ap (λ (y : Bool). budget_at b.left y) (same b.any)

left_after : (parts : List History) (replica : ℤ) (asked : FetchPart) (became : Accepted) (b : Budget) → left_now parts replica asked became b ≡ budget_after (batches_as replica asked became (state_now parts became) b) b
left_after parts replica asked (Refused code) b = sym (none_after b)
left_after parts replica asked (Appended part base count) b = sym (none_after b)
left_after parts replica asked (Seen part start) b = refl

records_now : (parts : List History) (replica : ℤ) (asked : FetchPart) (became : Accepted) (b : Budget) → HasRecords replica asked became (reading_now parts replica asked became b) (state_now parts became) b
records_now parts replica asked (Refused code) b = tt
records_now parts replica asked (Appended part base count) b = tt
records_now parts replica asked (Seen part start) b = (refl, refl)

pub now_are_readings : (parts : List History) (replica : ℤ) (asked : List FetchPart) (accepted : List Accepted) (b : Budget) → length accepted ≡ length asked → FetchReadings replica asked accepted (readings_now parts replica asked accepted b) (shown_in_logs parts accepted) b
now_are_readings parts replica [] [] b e = tt
now_are_readings parts replica [] (x ∷ accepted) b e = absurd (omega arith)
now_are_readings parts replica (a ∷ asked) [] b e = absurd (omega arith)
now_are_readings parts replica (a ∷ asked) (x ∷ accepted) b e =
    let rest = now_are_readings parts replica asked accepted (left_now parts replica a x b) (omega arith) in (
      refl,
      records_now parts replica a x b,
      subst (λ (n : Budget). FetchReadings replica asked accepted (readings_now parts replica asked accepted (left_now parts replica a x b)) (shown_in_logs parts accepted) n) (left_after parts replica a x b) rest,
    )

flat_length : (topics : List FetchTopic) → length (flat_map (λ topic. topic.parts) topics) ≡ sum_by (λ topic. length topic.parts) topics
flat_length [] = refl
flat_length (t ∷ topics) =
    length-append t.parts (flat_map (λ topic. topic.parts) topics) ∙ ap (λ (n : ℕ). length t.parts + n) (flat_length topics) ∙ sym (sum_by-cons (λ (topic : FetchTopic). length topic.parts) t topics)

-- ---- the whole request

-- so many partitions as became something
fetch_count : (ask : Ask) (version replica max_wait min_bytes max_bytes isolation : ℤ) (topics : List FetchTopic) (accepted : List Accepted) → ask ≡ Fetch version replica max_wait min_bytes max_bytes isolation topics
    → length accepted ≡ named_count ask → length accepted ≡ length (flat_map (λ topic. topic.parts) topics)
fetch_count ask version replica max_wait min_bytes max_bytes isolation topics accepted is size = size ∙ ap named_count is ∙ sym (flat_length topics)

pub fetch_size : (parts : List History) (ask : Ask) (version r replica max_wait min_bytes max_bytes isolation : ℤ) (topics items : List FetchTopic) (accepted : List Accepted) (b : Budget) (readings : List Reading) → ask ≡ Fetch version replica max_wait min_bytes max_bytes isolation topics
    → items ≡ topics → length accepted ≡ named_count ask → readings ≡ readings_now parts r (flat_map (λ topic. topic.parts) items) accepted b → length readings ≡ length accepted
fetch_size parts ask version r replica max_wait min_bytes max_bytes isolation topics items accepted b readings is same size e =
    let count = fetch_count ask version replica max_wait min_bytes max_bytes isolation topics accepted is size in
    ap (λ (rs : List Reading). length rs) e
    ∙ readings-length parts r (flat_map (λ topic. topic.parts) items) accepted b (count ∙ ap (λ (ts : List FetchTopic). length (flat_map (λ topic. topic.parts) ts)) (sym same))

pub fetch_read : (parts : List History) (ask : Ask) (version r replica max_wait min_bytes max_bytes isolation : ℤ) (topics items : List FetchTopic) (accepted : List Accepted) (b : Budget) (readings : List Reading) → ask ≡ Fetch version replica max_wait min_bytes max_bytes isolation topics
    → r ≡ replica → items ≡ topics → b ≡ budget_of ask → length accepted ≡ named_count ask → readings ≡ readings_now parts r (flat_map (λ topic. topic.parts) items) accepted b
    → AreReadings ask accepted readings (shown_in_logs parts accepted)
fetch_read parts ask version r replica max_wait min_bytes max_bytes isolation topics items accepted b readings is who same eb size e =
    let count = fetch_count ask version replica max_wait min_bytes max_bytes isolation topics accepted is size in
    let all : readings ≡ readings_now parts replica (flat_map (λ topic. topic.parts) topics) accepted (first_budget max_bytes) =
    e
    ∙ ap (λ (z : ℤ). readings_now parts z (flat_map (λ topic. topic.parts) items) accepted b) who
    ∙ ap (λ (ts : List FetchTopic). readings_now parts replica (flat_map (λ topic. topic.parts) ts) accepted b) same
    ∙ ap (λ (x : Budget). readings_now parts replica (flat_map (λ topic. topic.parts) topics) accepted x) (eb ∙ ap budget_of is)
    in
    subst (λ (a : Ask). AreReadings a accepted readings (shown_in_logs parts accepted)) (sym is)
    (subst (λ (rs : List Reading). FetchReadings replica (flat_map (λ topic. topic.parts) topics) accepted rs (shown_in_logs parts accepted) (first_budget max_bytes)) (sym all)
    (now_are_readings parts replica (flat_map (λ topic. topic.parts) topics) accepted (first_budget max_bytes) count))

numbers_are : (parts : List History) (accepted : List Accepted) → ProduceReadings accepted (map (numbers_now parts) accepted) (shown_in_logs parts accepted)
numbers_are parts [] = tt
numbers_are parts (x ∷ accepted) = (refl, numbers_of_one x, numbers_are parts accepted)
  where
    numbers_of_one : (x : Accepted) → HasNumbers x (numbers_now parts x) (state_now parts x)
    numbers_of_one (Refused code) = tt
    numbers_of_one (Appended part base count) = refl
    numbers_of_one (Seen part start) = tt

no_records : (parts : List History) (x : Accepted) → length (numbers_now parts x).records ≡ 0
no_records parts (Refused code) = refl
no_records parts (Appended part base count) = refl
no_records parts (Seen part start) = refl

numbers_bytes : (parts : List History) (accepted : List Accepted) → bytes_read (map (numbers_now parts) accepted) ≡ 0
numbers_bytes parts [] = refl
numbers_bytes parts (x ∷ accepted) =
    omega (arith, sum_by-cons (λ (reading : Reading). length reading.records) (numbers_now parts x) (map (numbers_now parts) accepted), no_records parts x, numbers_bytes parts accepted)

abbrev pub IsNoFetch : Ask → Type 0
IsNoFetch (Produce version transactional acks timeout topics) = ⊤
IsNoFetch (Fetch version replica max_wait min_bytes max_bytes isolation topics) = ⊥
IsNoFetch (Metadata topics) = ⊤
IsNoFetch (Versions version) = ⊤

none_shown : (parts : List History) (accepted : List Accepted) → length accepted ≡ 0 → shown_in_logs parts accepted ≡ []
none_shown parts [] e = refl
none_shown parts (x ∷ accepted) e = absurd (omega (arith, e))

pub numbers_read_are : (parts : List History) (ask : Ask) (accepted : List Accepted) (readings : List Reading) → IsNoFetch ask → length accepted ≡ named_count ask → readings ≡ map (numbers_now parts) accepted
    → AreReadings ask accepted readings (shown_in_logs parts accepted)
numbers_read_are parts (Produce version transactional acks timeout topics) accepted readings other size e =
    subst (λ (rs : List Reading). ProduceReadings accepted rs (shown_in_logs parts accepted)) (sym e) (numbers_are parts accepted)
numbers_read_are parts (Fetch version replica max_wait min_bytes max_bytes isolation topics) accepted readings other size e = absurd other
numbers_read_are parts (Metadata topics) accepted readings other size e = none_shown parts accepted size
numbers_read_are parts (Versions version) accepted readings other size e = none_shown parts accepted size

-- ---- topic after topic

pub topic_size : (topics : List FetchTopic) (i : ℕ) (t : FetchTopic) → i < length topics → t ≡ get_or topics i t
    → sum_by (λ topic. length topic.parts) (drop i topics) ≡ length t.parts + sum_by (λ topic. length topic.parts) (drop (i + 1) topics)
topic_size topics i t lt is =
    sum_by-drop_more (λ (topic : FetchTopic). length topic.parts) topics i t lt
    ∙ ap (λ (x : FetchTopic). length x.parts + sum_by (λ (topic : FetchTopic). length topic.parts) (drop (i + 1) topics)) (sym is)

pub topic_read : (parts : List History) (r : ℤ) (topics : List FetchTopic) (items : List FetchPart) (accepted : List Accepted) (i from n : ℕ) (t : FetchTopic) (b left : Budget) (before now whole : List Reading)
    → i < length topics → t ≡ get_or topics i t → items ≡ t.parts → n ≡ length t.parts
    → now ≡ before ++ readings_now parts r items (take (from + n - from) (drop from accepted)) b
    → left ≡ left_behind parts r items (take (from + n - from) (drop from accepted)) b
    → before ++ readings_now parts r (flat_map (λ topic. topic.parts) (drop i topics)) (drop from accepted) b ≡ whole
    → now ++ readings_now parts r (flat_map (λ topic. topic.parts) (drop (i + 1) topics)) (drop (from + n) accepted) left ≡ whole
topic_read parts r topics items accepted i from n t b left before now whole lt is same len e1 e2 so_far =
    let more : List FetchPart = flat_map (λ (topic : FetchTopic). topic.parts) (drop (i + 1) topics) in
    let here : List Accepted = drop from accepted in
    let k : from + n - from ≡ length items = omega (arith, ap (λ (ps : List FetchPart). length ps) same) in
    let size : n ≡ length items = len ∙ ap (λ (ps : List FetchPart). length ps) (sym same) in
    let cut : take (from + n - from) here ≡ take (length items) here = ap (λ (m : ℕ). take m here) k in
    let rest : drop (from + n) accepted ≡ drop (length items) here = ap (λ (m : ℕ). drop (from + m) accepted) size ∙ sym (drop-drop (length items) from accepted) in
    let first : List Reading = readings_now parts r items (take (length items) here) b in
    let behind : Budget = left_behind parts r items (take (length items) here) b in
    let now_is : now ≡ before ++ first = e1 ∙ ap (λ (xs : List Accepted). before ++ readings_now parts r items xs b) cut in
    let left_is : left ≡ behind = e2 ∙ ap (λ (xs : List Accepted). left_behind parts r items xs b) cut in
    let flat : flat_map (λ (topic : FetchTopic). topic.parts) (drop i topics) ≡ items ++ more =
    ap (λ (ts : List FetchTopic). flat_map (λ (topic : FetchTopic). topic.parts) ts) (drop_more topics i t lt) ∙ ap (λ (x : FetchTopic). x.parts ++ more) (sym is) ∙ ap (λ (ps : List FetchPart). ps ++ more) (sym same) in
    let split : readings_now parts r (flat_map (λ (topic : FetchTopic). topic.parts) (drop i topics)) here b ≡ first ++ readings_now parts r more (drop (length items) here) behind =
    ap (λ (ps : List FetchPart). readings_now parts r ps here b) flat ∙ readings-append parts r items more here b in
    ap (λ (xs : List Accepted). now ++ readings_now parts r more xs left) rest
    ∙ ap (λ (x : Budget). now ++ readings_now parts r more (drop (length items) here) x) left_is
    ∙ ap (λ (rs : List Reading). rs ++ readings_now parts r more (drop (length items) here) behind) now_is
    ∙ append_assoc before first (readings_now parts r more (drop (length items) here) behind)
    ∙ ap (λ (rs : List Reading). before ++ rs) (sym split)
    ∙ so_far

pub numbers_room : (parts : List History) (accepted : List Accepted) (readings : List Reading) (room : ℕ) → readings ≡ map (numbers_now parts) accepted → bytes_read readings ≤ room
numbers_room parts accepted readings room e = omega (arith, ap bytes_read e, numbers_bytes parts accepted)
