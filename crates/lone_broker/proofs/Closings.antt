-- The parts of an account, one after the other, and the whole.
use Rattle.std.proofs.Common.{◌≡◌, ℕ, ◌+◌, Bool, cond, Option, Some, None, unwrap_or, List, [], ◌∷◌, ◌++◌, map, sum_by, refl, sym, ap, ◌∙◌, arith, append-nil, Result, Ok, Err, IfOk}
use Rattle.std.proofs.lemmas.List.Sums.{sum_by-append, sum_by-cons}
use Rattle.std.specs.Prelude.{count_by, option_to_list}
use Rattle.std.specs.List.{flat_map}
use Rattle.audit.specs.IsLawful.{is_won_by}
use Rattle.audit.specs.declared.account.Call.{Call}
use Rattle.partlog.specs.History.{History}
use Rattle.partlog.specs.declared.clock_event.ClockEvent.{ClockEvent}
use Rattle.audit.specs.declared.account.Account.{Account}
use Rattle.audit.specs.declared.account.PartAccount.{PartAccount}
use Rattle.audit.specs.declared.account.Transcript.{Transcript}
use Rattle.audit.specs.Histories.{part_account}
use Rattle.audit.specs.broker.Board.{Seat, Waiting, new_transcript, put_before, passes_of, account_of}
use Rattle.kwire.specs.Configuration.{Configuration}
use Rattle.audit.specs.Histories.{calls_in}
use Rattle.lone_broker.specs.Desks.{transcript_of}

-- the lists of these seats before those of others
abbrev pub passes_before : List Seat → List (List Transcript) → List (List Transcript)
passes_before [] passes = passes
passes_before (seat ∷ seats) passes = put_before (option_to_list seat.transcript) (passes_before seats passes)

pub before_none : (seats : List Seat) → passes_before seats [] ≡ passes_of seats
before_none [] = refl
before_none (seat ∷ seats) = ap (put_before (option_to_list seat.transcript)) (before_none seats)

before_one : (seats : List Seat) (seat : Seat) (passes : List (List Transcript)) → passes_before (seats ++ seat ∷ []) passes ≡ passes_before seats (put_before (option_to_list seat.transcript) passes)
before_one [] seat passes = refl
before_one (first ∷ seats) seat passes = ap (put_before (option_to_list first.transcript)) (before_one seats seat passes)

pub seat_taken : (seats left : List Seat) (seat : Seat) (passes : List (List Transcript)) → seats ≡ left ++ seat ∷ []
    → passes_before left (put_before (option_to_list seat.transcript) passes) ≡ passes_before seats passes
seat_taken seats left seat passes is = sym (ap (λ (ss : List Seat). passes_before ss passes) is ∙ before_one left seat passes)

abbrev made_of : Configuration → List PartAccount → List ClockEvent → List (List Transcript) → List ℕ → Account
made_of config parts clock passes wins = record { config = config; parts = parts; clock = clock; passes = passes; wins = wins }

-- ---- how many calls were won

-- by the sessions one after the other
abbrev pub won_in : Seat → ℕ
won_in seat = count_by (is_won_by 0) (transcript_of 0 seat).calls

count_both : {X : Type 0} (p : X → Bool) (xs ys : List X) → count_by p (xs ++ ys) ≡ count_by p xs + count_by p ys
count_both p xs ys = sum_by-append (λ x. cond (p x) 1 0) xs ys

calls_before : (transcripts : List Transcript) (passes : List (List Transcript)) → flat_map calls_in (put_before transcripts passes) ≡ calls_in transcripts ++ flat_map calls_in passes
calls_before [] [] = refl
calls_before [] (pass ∷ passes) = refl
calls_before (t ∷ transcripts) passes = refl

calls_of_one : (o : Option Transcript) → calls_in (option_to_list o) ≡ (unwrap_or o (new_transcript 0)).calls
calls_of_one None = refl
calls_of_one (Some t) = append-nil t.calls

pub won_all : (seats : List Seat) → sum_by won_in seats ≡ count_by (is_won_by 0) (flat_map calls_in (passes_of seats))
won_all [] = refl
won_all (seat ∷ seats) =
    let here : List Call = calls_in (option_to_list seat.transcript) in
    let rest : List Call = flat_map calls_in (passes_of seats) in
    let all : count_by (is_won_by 0) (flat_map calls_in (passes_of (seat ∷ seats))) ≡ count_by (is_won_by 0) here + count_by (is_won_by 0) rest =
    ap (count_by (is_won_by 0)) (calls_before (option_to_list seat.transcript) (passes_of seats)) ∙ count_both (is_won_by 0) here rest in
    let one : count_by (is_won_by 0) here ≡ won_in seat = ap (count_by (is_won_by 0)) (calls_of_one seat.transcript) in
    omega (arith, sum_by-cons won_in seat seats, won_all seats, all, one)

pub account_made : (config : Configuration) (parts : List History) (seats : List Seat) (waiting : List Waiting) (accounts : List PartAccount) (clock events : List ClockEvent) (passes : List (List Transcript)) (wins : List ℕ) (won : ℕ)
    → accounts ≡ map part_account parts → events ≡ clock → passes ≡ passes_of seats → wins ≡ won ∷ [] → won ≡ count_by (is_won_by 0) (flat_map calls_in (passes_of seats))
    → made_of config accounts events passes wins ≡ account_of (record { config = config; parts = parts; clock = clock; seats = seats; waiting = waiting })
account_made config parts seats waiting accounts clock events passes wins won copied still listed one counted =
    ap (λ (x : List PartAccount). made_of config x events passes wins) copied
    ∙ ap (λ (x : List ClockEvent). made_of config (map part_account parts) x passes wins) still
    ∙ ap (λ (x : List (List Transcript)). made_of config (map part_account parts) clock x wins) listed
    ∙ ap (made_of config (map part_account parts) clock (passes_of seats)) (one ∙ ap (λ (n : ℕ). n ∷ []) counted)

pub if_ok_each : {T E W : Type 0} (P : W → T → Type 0) (r : Result T E) → ((w : W) → IfOk r (P w)) → IfOk r (λ x. (w : W) → P w x)
if_ok_each P (Ok x) f = f
if_ok_each P (Err e) f = tt
