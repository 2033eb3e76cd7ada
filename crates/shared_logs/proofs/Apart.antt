-- Passes taken apart, and put together again.
use Rattle.std.proofs.Common.{◌≡◌, ◌∙◌, suc, ◌<◌, List, [], ◌∷◌, ◌++◌, drop, get_or, length, take, ap, refl, subst, sym, arith, append_assoc}
use Rattle.turn_lock.specs.declared.pass.TurnPass.{TurnPass}
use Rattle.shared_logs.specs.declared.entries.LogEntry.{LogEntry}
use Rattle.shared_logs.specs.Desks.{PartView}
use Rattle.purgatory.specs.Rooms.{PassView}
use Rattle.shared_logs.specs.declared.hands.Hand.{Hand}
use Rattle.shared_logs.specs.Apart.{AreJoined, AreRests, IsJoined, IsRest, gathered, joined}
use Rattle.shared_logs.specs.Shared.{LogPassView}

-- one more at the end is the first of the passes
gathered_more : (seats : List PassView) (hands : List Hand) (seat : PassView) (hand : Hand) → AreJoined seats hands
    → gathered (seats ++ seat ∷ []) (hands ++ hand ∷ []) ≡ joined seat hand ∷ gathered seats hands
gathered_more [] [] seat hand all = refl
gathered_more [] (h ∷ hands) seat hand all = absurd all
gathered_more (s ∷ seats) [] seat hand all = absurd all
gathered_more (s ∷ seats) (h ∷ hands) seat hand all = ap (λ (passes : List LogPassView). passes ++ joined s h ∷ []) (gathered_more seats hands seat hand all.1)

joined_more : (seats : List PassView) (hands : List Hand) (seat : PassView) (hand : Hand) → AreJoined seats hands → IsJoined seat hand
    → AreJoined (seats ++ seat ∷ []) (hands ++ hand ∷ [])
joined_more [] [] seat hand all is = (is, tt)
joined_more [] (h ∷ hands) seat hand all is = absurd all
joined_more (s ∷ seats) [] seat hand all is = absurd all
joined_more (s ∷ seats) (h ∷ hands) seat hand all is = (all.0, joined_more seats hands seat hand all.1 is)

pub as_many : (seats : List PassView) (hands : List Hand) → AreJoined seats hands → length seats ≡ length hands
as_many [] [] all = refl
as_many [] (h ∷ hands) all = absurd all
as_many (s ∷ seats) [] all = absurd all
as_many (s ∷ seats) (h ∷ hands) all = ap suc (as_many seats hands all.1)

joined_less : (seats : List PassView) (hands : List Hand) (seat : PassView) (hand : Hand) → AreJoined (seats ++ seat ∷ []) (hands ++ hand ∷ [])
    → AreJoined seats hands × IsJoined seat hand
joined_less [] [] seat hand all = (tt, all.0)
joined_less [] (h ∷ []) seat hand all = absurd all.1
joined_less [] (h ∷ i ∷ hands) seat hand all = absurd all.1
joined_less (s ∷ []) [] seat hand all = absurd all.1
joined_less (s ∷ t ∷ seats) [] seat hand all = absurd all.1
joined_less (s ∷ seats) (h ∷ hands) seat hand all =
    let rest = joined_less seats hands seat hand all.1 in
    ((all.0, rest.0), rest.1)

-- a pass is taken apart
module _ (passes left : List LogPassView) (pass : LogPassView) (seats seats_more : List PassView) (seat : PassView) (hands hands_more : List Hand) (hand : Hand) (p : passes ≡ left ++ pass ∷ []) (s : seats_more ≡ seats ++ seat ∷ [])
    (h : hands_more ≡ hands ++ hand ∷ []) (is : pass ≡ joined seat hand) (whole : IsJoined seat hand) where
  pub apart_step : (all : List LogPassView) → AreJoined seats hands → all ≡ passes ++ gathered seats hands → (all ≡ left ++ gathered seats_more hands_more) × AreJoined seats_more hands_more
  apart_step all j e = (
    e ∙ ap (λ (l : List LogPassView). l ++ gathered seats hands) p ∙ append_assoc left (pass ∷ []) (gathered seats hands)
        ∙ ap (λ (x : LogPassView). left ++ (x ∷ gathered seats hands)) is
        ∙ ap (λ (l : List LogPassView). left ++ l) (sym (gathered_more seats hands seat hand j))
        ∙ ap (λ (l : List PassView). left ++ gathered l (hands ++ hand ∷ [])) (sym s)
        ∙ ap (λ (l : List Hand). left ++ gathered seats_more l) (sym h),
    subst (λ (l : List PassView). AreJoined l hands_more) (sym s) (subst (λ (l : List Hand). AreJoined (seats ++ seat ∷ []) l) (sym h) (joined_more seats hands seat hand j whole)),
  )

-- a pass is put together again
module _ (seats seats_left : List PassView) (seat : PassView) (hands hands_left : List Hand) (hand : Hand) (s : seats ≡ seats_left ++ seat ∷ [])
    (h : hands ≡ hands_left ++ hand ∷ []) (all : AreJoined seats hands) where
  pub last_joined : AreJoined seats_left hands_left × IsJoined seat hand
  last_joined = joined_less seats_left hands_left seat hand (subst (λ (l : List PassView). AreJoined l (hands_left ++ hand ∷ [])) s (subst (λ (l : List Hand). AreJoined seats l) h all))

  pub together_step : (passes more : List LogPassView) (pass : LogPassView) (whole : List LogPassView) → more ≡ passes ++ pass ∷ [] → pass ≡ joined seat hand → whole ≡ passes ++ gathered seats hands → whole ≡ more ++ gathered seats_left hands_left
  together_step passes more pass whole m is e =
      e ∙ ap (λ (l : List PassView). passes ++ gathered l hands) s ∙ ap (λ (l : List Hand). passes ++ gathered (seats_left ++ seat ∷ []) l) h
      ∙ ap (λ (l : List LogPassView). passes ++ l) (gathered_more seats_left hands_left seat hand last_joined.0)
      ∙ sym (append_assoc passes (joined seat hand ∷ []) (gathered seats_left hands_left))
      ∙ ap (λ (x : LogPassView). (passes ++ x ∷ []) ++ gathered seats_left hands_left) (sym is)
      ∙ ap (λ (l : List LogPassView). l ++ gathered seats_left hands_left) (sym m)

-- of one hand more
pub rests_more : (hands : List Hand) (firsts : List (TurnPass PartView LogEntry)) (rests : List Hand) (hand : Hand) (first : TurnPass PartView LogEntry) (rest : Hand) → AreRests hands firsts rests → IsRest hand first rest
    → AreRests (hands ++ hand ∷ []) (firsts ++ first ∷ []) (rests ++ rest ∷ [])
rests_more [] [] [] hand first rest all is = (is, tt)
rests_more (h ∷ hands) (f ∷ firsts) (r ∷ rests) hand first rest all is = (all.0, rests_more hands firsts rests hand first rest all.1 is)
rests_more [] [] (r ∷ rests) hand first rest all is = absurd all
rests_more [] (f ∷ firsts) rests hand first rest all is = absurd all
rests_more (h ∷ hands) [] rests hand first rest all is = absurd all
rests_more (h ∷ hands) (f ∷ firsts) [] hand first rest all is = absurd all

pub rests_step : (hands : List Hand) (firsts firsts_more : List (TurnPass PartView LogEntry)) (rests all_rests : List Hand) (hand : Hand) (first : TurnPass PartView LogEntry) (rest : Hand)
    → firsts_more ≡ firsts ++ first ∷ [] → all_rests ≡ rests ++ rest ∷ [] → AreRests hands firsts rests → IsRest hand first rest → AreRests (hands ++ hand ∷ []) firsts_more all_rests
rests_step hands firsts firsts_more rests all_rests hand first rest f r all is =
    subst (λ (l : List (TurnPass PartView LogEntry)). AreRests (hands ++ hand ∷ []) l all_rests) (sym f)
    (subst (λ (l : List Hand). AreRests (hands ++ hand ∷ []) (firsts ++ first ∷ []) l) (sym r) (rests_more hands firsts rests hand first rest all is))

-- the first of a list, taken out
pub first_removed : {A : Type 0} (xs ys : List A) (r : A) → 0 < length xs → r ≡ get_or xs 0 r → ys ≡ take 0 xs ++ drop 1 xs → xs ≡ r ∷ ys
first_removed [] ys r some v e = absurd (omega (arith, some))
first_removed (x ∷ xs) ys r some v e = λ i. sym v i ∷ sym e i
