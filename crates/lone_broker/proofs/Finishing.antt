-- What the code leaves of a request that is completed, and of the broker before the first line.
use Rattle.std.proofs.Common.{◌≡◌, ℕ, zero, suc, ◌-◌, ◌<◌, List, [], ◌∷◌, ◌++◌, map, replicate, Option, Some, None, unwrap_or, refl, sym, ap, subst, ◌∙◌}
use Rattle.std.proofs.lemmas.List.{length-replicate}
use Rattle.std.specs.Prelude.{slice_get}
use Rattle.partlog.specs.declared.clock_event.ClockEvent.{ClockEvent}
use Rattle.partlog.specs.History.{History}
use Rattle.kwire.specs.Configuration.{Configuration, followers_of, partitions_of}
use Rattle.kanswer.specs.Results.{parts_asked}
use Rattle.kanswer.specs.declared.accepted.Accepted.{Accepted}
use Rattle.audit.specs.LawfulCall.{Step}
use Rattle.audit.specs.declared.account.CallHow.{CallHow}
use Rattle.audit.specs.declared.account.Point.{Point}
use Rattle.audit.specs.broker.Board.{Board, Seat, Waiting, empty_history, empty_seat, next_call, opening, seat_at, transcript_at}
use Rattle.audit.specs.broker.Completing.{look_all}
use Rattle.kwire.specs.DeclaredTopics.{AreDeclared}
use Rattle.lone_broker.specs.Kept.{Kept, MatchesWaiting, StandsFor, last_frame, parked_at, waiting_in}
use Rattle.lone_broker.specs.Looks.{clock_after, clock_points, finished}
use Rattle.lone_broker.specs.declared.parked.Parked.{Parked}
use Rattle.lone_broker.proofs.Completes.{done_seat, finished_of, finished_stands}
use Rattle.lone_broker.proofs.Dues.{is_there, same_waiting}
use Rattle.lone_broker.proofs.Standing.{by_waiting, kept_as, moved, stands_of}

-- it waits no more
pub finishes : (kept : Kept) (session : ℕ) (how : CallHow) (parked : Parked) → session < 64 → parked_at kept session ≡ Some parked → (board : Board) (w : Waiting) → StandsFor kept board → waiting_in board.waiting session ≡ Some w
    → StandsFor (finished_of kept session how parked.accepted) (finished board w how)
finishes kept session how parked there slot board w stands =
    by_waiting (λ b. waiting_in b.waiting session ≡ Some w → StandsFor (finished_of kept session how parked.accepted) (finished b w how)) kept (λ waiting are found.
    let t = is_there kept waiting session parked are slot in
    let same : t.w ≡ w = same_waiting t.w w (waiting_in waiting session) t.found found in
    finished_stands kept waiting session how w parked.accepted are there found (subst (λ (x : Waiting). map (λ (step : Step). step.result) x.steps ≡ parked.accepted) same t.kept_of.results)) board stands

-- what the looks leave
pub finish_is : (kept : Kept) (session seq : ℕ) (how : CallHow) (accepted listed : List Accepted) (parts lent after : List History) (clock later : List ClockEvent) (none first all : List Point) → parts ≡ kept.board.parts → clock ≡ kept.board.clock → seq ≡ next_call kept.board session - 1
    → listed ≡ accepted → later ≡ clock_after how session seq clock → none ≡ [] → first ≡ none ++ clock_points how clock → lent ≡ parts → after ≡ (look_all session seq (parts_asked listed) lent).1
    → all ≡ first ++ (look_all session seq (parts_asked listed) lent).0
    → moved kept after later session (done_seat session all how (seat_at kept.board session)) None ≡ finished_of kept session how accepted
finish_is kept session seq how accepted listed parts lent after clock later none first all is_parts is_clock counted same e1 e2 e3 e4 e5 e6 =
    let K : List History → List ClockEvent → List Point → Kept = λ ps cs points. moved kept ps cs session (done_seat session points how (seat_at kept.board session)) None in
    let G : ℕ → List Accepted → List History → List ClockEvent → Kept = λ n rs ps cs. K (look_all session n (parts_asked rs) ps).1 (clock_after how session n cs) (clock_points how cs ++ (look_all session n (parts_asked rs) ps).0) in
    let front : first ≡ clock_points how clock = e3 ∙ ap (λ (xs : List Point). xs ++ clock_points how clock) e2 in
    ap (λ (ps : List History). K ps later all) e5 ∙ ap (λ (cs : List ClockEvent). K (look_all session seq (parts_asked listed) lent).1 cs all) e1
    ∙ ap (K (look_all session seq (parts_asked listed) lent).1 (clock_after how session seq clock)) (e6 ∙ ap (λ (xs : List Point). xs ++ (look_all session seq (parts_asked listed) lent).0) front)
    ∙ ap (λ (ps : List History). G seq listed ps clock) (e4 ∙ is_parts)
    ∙ ap (λ (rs : List Accepted). G seq rs kept.board.parts clock) same
    ∙ ap (G seq accepted kept.board.parts) is_clock
    ∙ ap (λ (n : ℕ). G n accepted kept.board.parts kept.board.clock) counted

-- ---- before the first line

abbrev pub nothing : Option Parked
nothing = None

none_at : (n s : ℕ) → unwrap_or (slice_get (replicate n nothing) s) nothing ≡ nothing
none_at zero s = refl
none_at (suc n) zero = refl
none_at (suc n) (suc s) = none_at n s

first_followers : (followers : List ℕ) → map (λ (h : History). h.followers) (map empty_history followers) ≡ followers
first_followers [] = refl
first_followers (f ∷ followers) = ap (λ (ns : List ℕ). f ∷ ns) (first_followers followers)

abbrev first_kept : Configuration → Kept
first_kept config = kept_as config (map empty_history (followers_of config.topics)) [] (replicate 64 empty_seat) (replicate 64 nothing)

first_stands : (config : Configuration) → AreDeclared config.topics → StandsFor (first_kept config) (opening config)
first_stands config declared = stands_of (first_kept config) [] (record {
  waits = λ s. subst (λ (o : Option Parked). MatchesWaiting (partitions_of config.topics) (last_frame (transcript_at (first_kept config).board s).calls) o None) (sym (none_at 64 s)) tt;
  seats = length-replicate 64 empty_seat;
  parked = length-replicate 64 nothing;
  followers = first_followers (followers_of config.topics);
  declared = declared;
})

pub opening_stands : (config : Configuration) (parts : List History) (clock : List ClockEvent) (seats : List Seat) (parked : List (Option Parked)) → AreDeclared config.topics → parts ≡ map empty_history (followers_of config.topics) → clock ≡ []
    → seats ≡ replicate 64 empty_seat → parked ≡ replicate 64 nothing → StandsFor (kept_as config parts clock seats parked) (opening config)
opening_stands config parts clock seats parked declared is_parts is_clock is_seats is_parked =
    subst (λ (k : Kept). StandsFor k (opening config)) (sym (
    ap (λ (ps : List History). kept_as config ps clock seats parked) is_parts
    ∙ ap (λ (cs : List ClockEvent). kept_as config (map empty_history (followers_of config.topics)) cs seats parked) is_clock
    ∙ ap (λ (ss : List Seat). kept_as config (map empty_history (followers_of config.topics)) [] ss parked) is_seats
    ∙ ap (kept_as config (map empty_history (followers_of config.topics)) [] (replicate 64 empty_seat)) is_parked
    )) (first_stands config declared)
