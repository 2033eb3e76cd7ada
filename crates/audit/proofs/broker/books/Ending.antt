-- How the transcripts of a pass follow on, and how the calls of one end.
use Rattle.std.proofs.Common.{◌≡◌, ℕ, ◌+◌, Bool, true, false, List, [], ◌∷◌, ◌++◌, length, map, Option, Some, None, refl, sym, ap, subst, ◌∙◌, arith, length-append}
use Rattle.std.proofs.lemmas.List.{map-append}
use Rattle.std.specs.List.{AllByRecursion}
use Rattle.audit.specs.declared.account.Call.{Call}
use Rattle.audit.specs.declared.account.CallHow.{CallHow}
use Rattle.audit.specs.declared.account.CallHow.TheVariants.{Quiet, AtOnce, Satisfied, Expired, Parked, Cut}
use Rattle.audit.specs.declared.account.SessionEnd.{SessionEnd}
use Rattle.audit.specs.declared.account.SessionEnd.TheVariants.{NoMemory}
use Rattle.audit.specs.declared.account.Transcript.{Transcript}
use Rattle.audit.specs.Histories.{calls_in}
use Rattle.audit.specs.IsLawful.{EndsAs, EndWell, FollowOn}
use Rattle.audit.specs.broker.books.IsBook.{with_call}
use Rattle.audit.specs.broker.books.Told.{is_cut, last_is_cut, told, told_end}
use Rattle.audit.specs.broker.books.Underway.{IsPast}

-- ---- transcripts follow on

pub follow_front : (before : ℕ) (xs ys : List Transcript) → FollowOn before (xs ++ ys) → FollowOn before xs
follow_front before [] ys h = tt
follow_front before (t ∷ xs) ys h = (h.0, h.1, follow_front (before + length t.calls) xs ys h.2)

calls_so_far : (before : ℕ) (t : Transcript) (xs : List Transcript) → before + length t.calls + length (calls_in xs) ≡ before + length (calls_in (t ∷ xs))
calls_so_far before t xs = omega (arith, length-append t.calls (calls_in xs))

pub follow_behind : (before : ℕ) (xs ys : List Transcript) → FollowOn before (xs ++ ys) → FollowOn (before + length (calls_in xs)) ys
follow_behind before [] ys h = let nothing : before ≡ before + length (calls_in []) = omega arith in subst (λ (n : ℕ). FollowOn n ys) nothing h
follow_behind before (t ∷ xs) ys h = subst (λ (n : ℕ). FollowOn n ys) (calls_so_far before t xs) (follow_behind (before + length t.calls) xs ys h.2)

pub follow_on : (before : ℕ) (xs ys : List Transcript) → FollowOn before xs → FollowOn (before + length (calls_in xs)) ys → FollowOn before (xs ++ ys)
follow_on before [] ys h more = let nothing : before + length (calls_in []) ≡ before = omega arith in subst (λ (n : ℕ). FollowOn n ys) nothing more
follow_on before (t ∷ xs) ys h more = (h.0, h.1, follow_on (before + length t.calls) xs ys h.2 (subst (λ (n : ℕ). FollowOn n ys) (sym (calls_so_far before t xs)) more))

-- ---- calls end well

pub last_cut : (calls : List Call) (call : Call) → last_is_cut (calls ++ call ∷ []) ≡ is_cut call.how
last_cut [] call = refl
last_cut (c ∷ []) call = refl
last_cut (c ∷ d ∷ calls) call = last_cut (d ∷ calls) call

past_ends : (how : CallHow) (later : List Call) (end : Option SessionEnd) → IsPast how → EndsAs how later end
past_ends Quiet later end past = tt
past_ends AtOnce later end past = tt
past_ends (Satisfied by) later end past = tt
past_ends (Expired by) later end past = tt
past_ends Parked later end past = absurd past
past_ends (Cut won) later end past = absurd past

abbrev ArePast : List Call → Type 0
ArePast calls = AllByRecursion (λ call. IsPast call.how) calls

past_well : (calls : List Call) (end : Option SessionEnd) → ArePast calls → EndWell calls end
past_well [] end past = tt
past_well (call ∷ calls) end past = (past_ends call.how calls end past.0, past_well calls end past.1)

well_more : (calls : List Call) (call : Call) (end : Option SessionEnd) → ArePast calls → EndsAs call.how [] end → EndWell (calls ++ call ∷ []) end
well_more [] call end past last = (last, tt)
well_more (c ∷ calls) call end past last = (past_ends c.how (calls ++ call ∷ []) end past.0, well_more calls call end past.1 last)

-- whatever becomes of the last call of a transcript that goes on
any_ends : (how : CallHow) → EndsAs how [] (told_end (is_cut how) None)
any_ends Quiet = tt
any_ends AtOnce = tt
any_ends (Satisfied by) = tt
any_ends (Expired by) = tt
any_ends Parked = (refl, refl)
any_ends (Cut won) = (refl, refl)

-- a call with another behind it waits no more
not_last : (how : CallHow) (next : Call) (later : List Call) (end : Option SessionEnd) → EndsAs how (next ∷ later) end → IsPast how
not_last Quiet next later end ends = tt
not_last AtOnce next later end ends = tt
not_last (Satisfied by) next later end ends = tt
not_last (Expired by) next later end ends = tt
not_last Parked next later end ends = let none : next ∷ later ≡ [] = ends.0 in absurd cc
not_last (Cut won) next later end ends = let none : next ∷ later ≡ [] = ends.0 in absurd cc

pub past_before : (calls : List Call) (call : Call) (end : Option SessionEnd) → EndWell (calls ++ call ∷ []) end → ArePast calls
past_before [] call end well = tt
past_before (c ∷ []) call end well = (not_last c.how call [] end well.0, tt)
past_before (c ∷ d ∷ calls) call end well = (not_last c.how d (calls ++ call ∷ []) end well.0, past_before (d ∷ calls) call end well.1)

past_alone : (how : CallHow) → (how ≡ Parked → ⊥) → is_cut how ≡ false → IsPast how
past_alone Quiet unparked uncut = tt
past_alone AtOnce unparked uncut = tt
past_alone (Satisfied by) unparked uncut = tt
past_alone (Expired by) unparked uncut = tt
past_alone Parked unparked uncut = absurd (unparked refl)
past_alone (Cut won) unparked uncut = absurd cc

pub all_past : (calls : List Call) (end : Option SessionEnd) → EndWell calls end → AllByRecursion (λ call. call.how ≡ Parked → ⊥) calls → last_is_cut calls ≡ false → ArePast calls
all_past [] end well unparked uncut = tt
all_past (call ∷ []) end well unparked uncut = (past_alone call.how unparked.0 uncut, tt)
all_past (call ∷ next ∷ calls) end well unparked uncut = (not_last call.how next calls end well.0, all_past (next ∷ calls) end well.1 unparked.1 uncut)

-- ---- a transcript is ended

pub ended_well : (calls : List Call) (end : SessionEnd) → EndWell calls (told_end (last_is_cut calls) None) → AllByRecursion (λ call. call.how ≡ Parked → ⊥) calls → (last_is_cut calls ≡ true → end ≡ NoMemory) → EndWell calls (Some end)
ended_well calls end well unparked cut = by_test (last_is_cut calls) refl
  where
    by_test : (b : Bool) → last_is_cut calls ≡ b → EndWell calls (Some end)
    by_test true is =
        let same : told_end (last_is_cut calls) None ≡ Some end = ap (λ (b : Bool). told_end b None) is ∙ ap Some (sym (cut is)) in
        subst (EndWell calls) same well
    by_test false is = past_well calls (Some end) (all_past calls (told_end (last_is_cut calls) None) well unparked is)

-- ---- a transcript that goes on, with one call more

pub told_calls : (transcripts : List Transcript) → calls_in (map told transcripts) ≡ calls_in transcripts
told_calls [] = refl
told_calls (t ∷ transcripts) = ap (λ (calls : List Call). t.calls ++ calls) (told_calls transcripts)

-- the transcripts up to the last one, and that one
pub follow_last : (front : List Transcript) (last : Transcript) → FollowOn 0 (map told front) → last.first ≡ length (calls_in front) → EndWell last.calls (told_end (last_is_cut last.calls) last.end)
    → FollowOn 0 (map told (front ++ last ∷ []))
follow_last front last follow first well =
    let count : last.first ≡ 0 + length (calls_in (map told front)) = omega (arith, first, ap length (told_calls front)) in
    subst (FollowOn 0) (sym (map-append told front (last ∷ []))) (follow_on 0 (map told front) (told last ∷ []) follow (count, well, tt))

pub last_follows : (front : List Transcript) (last : Transcript) → FollowOn 0 (map told (front ++ last ∷ []))
    → FollowOn 0 (map told front) × (last.first ≡ length (calls_in front)) × EndWell last.calls (told_end (last_is_cut last.calls) last.end)
last_follows front last follow =
    let h : FollowOn 0 (map told front ++ told last ∷ []) = subst (FollowOn 0) (map-append told front (last ∷ [])) follow in
    let behind = follow_behind 0 (map told front) (told last ∷ []) h in
    (follow_front 0 (map told front) (told last ∷ []) h, omega (arith, behind.0, ap length (told_calls front)), behind.1)

pub follow_call : (front : List Transcript) (transcript : Transcript) (call : Call) → FollowOn 0 (map told front) → transcript.first ≡ length (calls_in front) → transcript.end ≡ None → ArePast transcript.calls
    → FollowOn 0 (map told (with_call front transcript call))
follow_call front transcript call follow first going past =
    let end : told_end (is_cut call.how) None ≡ told_end (last_is_cut (transcript.calls ++ call ∷ [])) transcript.end =
    ap (λ (b : Bool). told_end b None) (sym (last_cut transcript.calls call)) ∙ ap (told_end (last_is_cut (transcript.calls ++ call ∷ []))) (sym going) in
    follow_last front (record transcript { calls = transcript.calls ++ call ∷ [] }) follow first
    (well_more transcript.calls call (told_end (last_is_cut (transcript.calls ++ call ∷ [])) transcript.end) past (subst (EndsAs call.how []) end (any_ends call.how)))
