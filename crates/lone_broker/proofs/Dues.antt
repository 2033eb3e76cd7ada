-- What is kept of the requests that wait, as the code shows it.
use Rattle.std.proofs.Common.{◌≡◌, ◌↔◌, ℕ, ◌<◌, ◌+◌, Bool, true, false, cond, List, [], ◌∷◌, ◌++◌, length, get_or, take, map, Option, Some, None, All, refl, sym, ap, subst, ◌∙◌, append_assoc}
use Rattle.std.proofs.lemmas.List.{take_more}
use Rattle.std.proofs.lemmas.List.Elements.{filter_map-append}
use Rattle.std.specs.Prelude.{IsTrue}
use Rattle.std.specs.List.{AllByRecursion}
use Rattle.partlog.specs.History.{History}
use Rattle.partlog.specs.Moment.{moment_of}
use Rattle.kwire.specs.Configuration.{partitions_of}
use Rattle.kwire.specs.IsRequest.{IsRequest}
use Rattle.kwire.specs.Spelling.{spelling}
use Rattle.kwire.specs.declared.request.Request.{Request}
use Rattle.kwire.proofs.Laws.{same_request}
use Rattle.kanswer.specs.Answer.{answer}
use Rattle.kanswer.specs.LogReadings.{IsCarriable, named_count}
use Rattle.kanswer.specs.Results.{IsBounded, part_asked, parts_asked}
use Rattle.kanswer.specs.Waiting.{Shown}
use Rattle.kanswer.specs.declared.accepted.Accepted.{Accepted}
use Rattle.kanswer.specs.declared.accepted.Accepted.TheVariants.{Refused, Appended, Seen}
use Rattle.opcond.specs.Tally.{IsOverdue, IsSatisfied}
use Rattle.audit.specs.declared.account.CallHow.TheVariants.{Expired, Satisfied}
use Rattle.audit.specs.declared.account.Point.{Point}
use Rattle.audit.specs.broker.Board.{Board, Waiting, transcript_at}
use Rattle.audit.specs.broker.Completing.{is_overdue_now, is_satisfied_now, look_all, shown_now}
use Rattle.lone_broker.specs.Kept.{AreKept, IsKeptOf, Kept, MatchesWaiting, StandsFor, Stands, last_frame, parked_at, waiting_in, with_waiting}
use Rattle.audit.specs.broker.Board.{gauge_now}
use Rattle.lone_broker.specs.Looks.{HasGauge, due_as, due_in}
use Rattle.lone_broker.specs.Replying.{HasLog, ShowsLogs}
use Rattle.lone_broker.specs.declared.parked.Parked.{Parked}
use Rattle.lone_broker.proofs.Completes.{look_append, overdue_is, satisfied_is}
use Rattle.lone_broker.proofs.Followers.{parts_size}
use Rattle.lone_broker.proofs.Needs.{kept_gauges, now_shows}
use Rattle.lone_broker.proofs.Standing.{by_waiting}
use Rattle.kbytes.proofs.Laws.{some_is}

-- ---- one that waits

abbrev pub frame_at : Kept → ℕ → List ℕ
frame_at kept session = last_frame (transcript_at kept.board session).calls

abbrev pub count_of : Kept → ℕ
count_of kept = partitions_of kept.board.config.topics

pub record IsThere (kept : Kept) (waiting : List Waiting) (session : ℕ) (parked : Parked) : Type 0 where
  pub w : Waiting
  pub found : waiting_in waiting session ≡ Some w
  pub kept_of : IsKeptOf (count_of kept) (frame_at kept session) parked w

there_as : (kept : Kept) (waiting : List Waiting) (session : ℕ) (parked : Parked) (o : Option Waiting) → waiting_in waiting session ≡ o → MatchesWaiting (count_of kept) (frame_at kept session) (Some parked) o → IsThere kept waiting session parked
there_as kept waiting session parked None is m = absurd m
there_as kept waiting session parked (Some w) is m = record { w = w; found = is; kept_of = m }

pub is_there : (kept : Kept) (waiting : List Waiting) (session : ℕ) (parked : Parked) → AreKept kept waiting → parked_at kept session ≡ Some parked → IsThere kept waiting session parked
is_there kept waiting session parked are slot =
    there_as kept waiting session parked (waiting_in waiting session) refl
    (subst (λ (o : Option Parked). MatchesWaiting (count_of kept) (frame_at kept session) o (waiting_in waiting session)) slot (are.waits session))

pub nobody_there : (kept : Kept) (session : ℕ) → parked_at kept session ≡ None → (board : Board) → StandsFor kept board → waiting_in board.waiting session ≡ None
nobody_there kept session slot =
    by_waiting (λ board. waiting_in board.waiting session ≡ None) kept (λ waiting are. none_as (waiting_in waiting session)
    (subst (λ (o : Option Parked). MatchesWaiting (count_of kept) (frame_at kept session) o (waiting_in waiting session)) slot (are.waits session)))
  where
    none_as : (o : Option Waiting) → MatchesWaiting (count_of kept) (frame_at kept session) None o → o ≡ None
    none_as None m = refl
    none_as (Some w) m = absurd m

pub as_many_parts : (kept : Kept) (waiting : List Waiting) → AreKept kept waiting → count_of kept ≡ length kept.board.parts
as_many_parts kept waiting are = sym (parts_size kept.board.config.topics kept.board.parts are.followers)

-- ---- its gauges, and whether it is due

pub gauges_there : (kept : Kept) (session : ℕ) (parked : Parked) (parts : List History) → Stands kept → parked_at kept session ≡ Some parked → parts ≡ kept.board.parts → AllByRecursion (HasGauge (length parts)) parked.op.needs
gauges_there kept session parked parts stands slot same =
    let are = stands.1.kept_of in
    let t = is_there kept stands.0.waiting session parked are slot in
    subst (λ (ps : List History). AllByRecursion (HasGauge (length ps)) parked.op.needs) (sym same)
    (kept_gauges (count_of kept) (length kept.board.parts) (frame_at kept session) parked t.w t.kept_of (as_many_parts kept stands.0.waiting are))

pub due_at : (board : Board) (w : Waiting) (sat over : Bool) → is_satisfied_now board w ≡ sat → is_overdue_now board w ≡ over → due_as board w ≡ cond sat (Some (Satisfied 0)) (cond over (Some (Expired 0)) None)
due_at board w sat over a b =
    ap (λ (x : Bool). cond x (Some (Satisfied 0)) (cond (is_overdue_now board w) (Some (Expired 0)) None)) a
    ∙ ap (λ (x : Bool). cond sat (Some (Satisfied 0)) (cond x (Some (Expired 0)) None)) b

pub due_reached : (kept : Kept) (session : ℕ) (parked : Parked) (parts : List History) (sat : Bool) → parked_at kept session ≡ Some parked → parts ≡ kept.board.parts
    → (IsTrue sat ↔ IsSatisfied parked.op (map (gauge_now parts) parked.op.needs)) → sat ≡ true → (board : Board) → StandsFor kept board → Some (Satisfied 0) ≡ due_in board (waiting_in board.waiting session)
due_reached kept session parked parts sat slot same tells reached =
    by_waiting (λ board. Some (Satisfied 0) ≡ due_in board (waiting_in board.waiting session)) kept (λ waiting are.
    let t = is_there kept waiting session parked are slot in
    let board = with_waiting kept waiting in
    let told = subst (λ (ps : List History). IsTrue sat ↔ IsSatisfied parked.op (map (gauge_now ps) parked.op.needs)) same tells in
    let is : is_satisfied_now board t.w ≡ true = satisfied_is board (count_of kept) (frame_at kept session) parked t.w sat t.kept_of (λ e. told.0 e) (λ h. told.1 h) ∙ reached in
    sym (ap (due_in board) t.found ∙ ap (λ (x : Bool). cond x (Some (Satisfied 0)) (cond (is_overdue_now board t.w) (Some (Expired 0)) None)) is))

pub due_late : (kept : Kept) (session : ℕ) (parked : Parked) (parts : List History) (sat over : Bool) (now : ℕ) → parked_at kept session ≡ Some parked → parts ≡ kept.board.parts
    → (IsTrue sat ↔ IsSatisfied parked.op (map (gauge_now parts) parked.op.needs)) → sat ≡ false → now ≡ moment_of kept.board.clock → (IsTrue over ↔ IsOverdue parked.op now)
    → (board : Board) → StandsFor kept board → cond over (Some (Expired 0)) None ≡ due_in board (waiting_in board.waiting session)
due_late kept session parked parts sat over now slot same tells unreached at late =
    by_waiting (λ board. cond over (Some (Expired 0)) None ≡ due_in board (waiting_in board.waiting session)) kept (λ waiting are.
    let t = is_there kept waiting session parked are slot in
    let board = with_waiting kept waiting in
    let told = subst (λ (ps : List History). IsTrue sat ↔ IsSatisfied parked.op (map (gauge_now ps) parked.op.needs)) same tells in
    let a : is_satisfied_now board t.w ≡ false = satisfied_is board (count_of kept) (frame_at kept session) parked t.w sat t.kept_of (λ e. told.0 e) (λ h. told.1 h) ∙ unreached in
    let b : is_overdue_now board t.w ≡ over = overdue_is board (count_of kept) (frame_at kept session) parked t.w now over t.kept_of at (λ e. late.0 e) (λ h. late.1 h) in
    sym (ap (due_in board) t.found ∙ due_at board t.w false over a b))

-- ---- its reply

bounded_carries : (r : Accepted) → IsBounded r → IsCarriable r
bounded_carries (Refused code) h = tt
bounded_carries (Appended part base count) h = h.2
bounded_carries (Seen part start) h = tt

-- what a reply to it needs
pub record IsAnswerable (kept : Kept) (session : ℕ) (parked : Parked) (frame : List ℕ) (request : Request) (accepted : List Accepted) (parts : List History) : Type 0 where
  pub size : length accepted ≡ named_count request.ask
  pub logs : AllByRecursion (HasLog (length parts)) accepted
  pub offsets : All IsCarriable accepted
  pub replied : (board : Board) (w : Waiting) → StandsFor kept board → waiting_in board.waiting session ≡ Some w → (reply : List ℕ)
      → ((shown : List Shown) → ShowsLogs parts accepted shown → reply ≡ spelling (answer kept.board.config request shown))
      → reply ≡ spelling (answer board.config w.request (shown_now board w.steps))

pub same_waiting : (v w : Waiting) (o : Option Waiting) → o ≡ Some v → o ≡ Some w → v ≡ w
same_waiting v w o a b = some_is v w (sym a ∙ b)

pub answerable : (kept : Kept) (session : ℕ) (parked : Parked) (frame : List ℕ) (request : Request) (accepted : List Accepted) (parts : List History) → Stands kept → parked_at kept session ≡ Some parked
    → frame ≡ frame_at kept session → IsRequest frame request → accepted ≡ parked.accepted → parts ≡ kept.board.parts → IsAnswerable kept session parked frame request accepted parts
answerable kept session parked frame request accepted parts stands slot framed asked same_results same_parts =
    let are = stands.1.kept_of in
    let t = is_there kept stands.0.waiting session parked are slot in
    let one : t.w.request ≡ request = same_request (frame_at kept session) t.w.request request t.kept_of.asked (subst (λ (f : List ℕ). IsRequest f request) framed asked) in
    record {
      size = ap (λ (rs : List Accepted). length rs) same_results ∙ t.kept_of.listed.each ∙ ap (λ (r : Request). named_count r.ask) one;
      logs = subst (λ (rs : List Accepted). AllByRecursion (HasLog (length parts)) rs) (sym same_results)
          (subst (λ (n : ℕ). AllByRecursion (HasLog n) parked.accepted) (as_many_parts kept stands.0.waiting are ∙ ap (λ (ps : List History). length ps) (sym same_parts)) t.kept_of.there);
      offsets = subst (All IsCarriable) (sym same_results) (λ i d lt. bounded_carries (get_or parked.accepted i d) (t.kept_of.listed.bounded i d lt));
      replied = λ board w st found reply told. by_waiting (λ b. waiting_in b.waiting session ≡ Some w → reply ≡ spelling (answer b.config w.request (shown_now b w.steps))) kept (λ waiting ar at.
          let u = is_there kept waiting session parked ar slot in
          let b = with_waiting kept waiting in
          let same : u.w ≡ w = same_waiting u.w w (waiting_in waiting session) u.found at in
          let mine : request ≡ u.w.request = same_request (frame_at kept session) request u.w.request (subst (λ (f : List ℕ). IsRequest f request) framed asked) u.kept_of.asked in
          let shows : ShowsLogs parts accepted (shown_now b u.w.steps) =
          subst (λ (ps : List History). ShowsLogs ps accepted (shown_now b u.w.steps)) (sym same_parts)
          (now_shows b u.w.steps accepted (u.kept_of.results ∙ sym same_results)) in
          told (shown_now b u.w.steps) shows ∙ ap (λ (r : Request). spelling (answer kept.board.config r (shown_now b u.w.steps))) mine ∙ ap (λ (x : Waiting). spelling (answer kept.board.config x.request (shown_now b x.steps))) same) board st found;
    }

-- ---- looks, one partition more

pub look_more : (by seq : ℕ) (accepted : List Accepted) (i : ℕ) (d : Accepted) (start parts after : List History) (first finish more : List Point) → i < length accepted
    → parts ≡ (look_all by seq (parts_asked (take i accepted)) start).1 → finish ≡ first ++ (look_all by seq (parts_asked (take i accepted)) start).0
    → after ≡ (look_all by seq (parts_asked (get_or accepted i d ∷ [])) parts).1 → more ≡ finish ++ (look_all by seq (parts_asked (get_or accepted i d ∷ [])) parts).0
    → (after ≡ (look_all by seq (parts_asked (take (i + 1) accepted)) start).1) × (more ≡ first ++ (look_all by seq (parts_asked (take (i + 1) accepted)) start).0)
look_more by seq accepted i d start parts after first finish more lt e1 e2 e3 e4 =
    let front : List ℕ = parts_asked (take i accepted) in
    let one : List ℕ = parts_asked (get_or accepted i d ∷ []) in
    let both : parts_asked (take (i + 1) accepted) ≡ front ++ one = ap parts_asked (take_more accepted i d lt) ∙ filter_map-append part_asked (take i accepted) (get_or accepted i d ∷ []) in
    let split = look_append by seq front one start in
    let so_far = look_all by seq front start in (
      e3 ∙ ap (λ (ps : List History). (look_all by seq one ps).1) e1 ∙ sym split.1 ∙ ap (λ (ks : List ℕ). (look_all by seq ks start).1) (sym both),
      e4 ∙ ap (λ (ps : List History). finish ++ (look_all by seq one ps).0) e1 ∙ ap (λ (xs : List Point). xs ++ (look_all by seq one so_far.1).0) e2
          ∙ append_assoc first so_far.0 (look_all by seq one so_far.1).0 ∙ ap (λ (xs : List Point). first ++ xs) (sym split.0) ∙ ap (λ (ks : List ℕ). first ++ (look_all by seq ks start).0) (sym both),
    )

pub logs_there : (kept : Kept) (session : ℕ) (parked : Parked) (accepted : List Accepted) (parts : List History) → Stands kept → parked_at kept session ≡ Some parked → accepted ≡ parked.accepted → parts ≡ kept.board.parts → AllByRecursion (HasLog (length parts)) accepted
logs_there kept session parked accepted parts stands slot same_results same_parts =
    let are = stands.1.kept_of in
    let t = is_there kept stands.0.waiting session parked are slot in
    subst (λ (rs : List Accepted). AllByRecursion (HasLog (length parts)) rs) (sym same_results)
    (subst (λ (n : ℕ). AllByRecursion (HasLog n) parked.accepted) (as_many_parts kept stands.0.waiting are ∙ ap (λ (ps : List History). length ps) (sym same_parts)) t.kept_of.there)
