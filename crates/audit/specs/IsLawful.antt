-- A lawful account: every entry is one of its call's and every call did what the states that it found asked of it.
use Rattle.std.specs.Prelude.{ℕ, ℤ, ◌+◌, ◌≡◌, ◌<◌, ◌&&◌, Contains, Bool, false, List, [], ◌∷◌, length, map, filter, count_by, ◌==◌, Option, Some, None, unwrap_or, slice_get}
use Rattle.std.specs.List.{flat_map, AllByRecursion}
use Rattle.std.specs.List.Sorted.{IsStrictlyIncreasing}
use Rattle.partlog.specs.declared.event.PartEvent.TheVariants.{Follow, Shrink}
use Rattle.partlog.specs.Added.{bytes_of}
use Rattle.audit.specs.declared.account.Account.{Account}
use Rattle.audit.specs.declared.account.PartAccount.{PartAccount}
use Rattle.audit.specs.declared.account.Transcript.{Transcript}
use Rattle.audit.specs.declared.account.Call.{Call}
use Rattle.audit.specs.declared.account.CallHow.{CallHow}
use Rattle.audit.specs.declared.account.CallHow.TheVariants.{Quiet, AtOnce, Satisfied, Expired, Parked, Cut}
use Rattle.audit.specs.declared.account.SessionEnd.{SessionEnd}
use Rattle.audit.specs.declared.account.SessionEnd.TheVariants.{NoMemory}
use Rattle.audit.specs.declared.account.Point.{Point}
use Rattle.kwire.specs.Configuration.{followers_of}
use Rattle.audit.specs.Histories.{AreNotLater, HadLagged, IsToldMoment, owners_of, ticks_of, calls_of, call_of, all_calls, event_at, points_of}
use Rattle.audit.specs.LawfulCall.{IsLawfulCall}

-- a point names this place
abbrev pub is_point : ℕ → ℕ → Point → Bool
is_point part place point = (point.part == part) && (point.place == place)

-- the places in one history, in the order of the points
abbrev pub places_in : ℕ → List Point → List ℕ
places_in part points = map (λ point. point.place) (filter (λ point. point.part == part) points)

-- the log is the bytes of its appends, and nothing stands behind them
abbrev pub IsWholeLog : PartAccount → Type 0
IsWholeLog part = length part.log ≡ bytes_of part.events

-- whether a call was completed by this winner
abbrev pub is_won_as : ℕ → CallHow → Bool
is_won_as winner Quiet = false
is_won_as winner AtOnce = false
is_won_as winner (Satisfied by) = by == winner
is_won_as winner (Expired by) = by == winner
is_won_as winner Parked = false
is_won_as winner (Cut None) = false
is_won_as winner (Cut (Some by)) = by == winner

abbrev pub is_won_by : ℕ → Call → Bool
is_won_by winner call = is_won_as winner call.how

-- a parked call is the last of its transcript, which has no end; a cut one is the last, and the end is running out of memory
abbrev pub EndsAs : CallHow → List Call → Option SessionEnd → Type 0
EndsAs Quiet later end = Unit {0}
EndsAs AtOnce later end = Unit {0}
EndsAs (Satisfied by) later end = Unit {0}
EndsAs (Expired by) later end = Unit {0}
EndsAs Parked later end = (later ≡ []) × (end ≡ None)
EndsAs (Cut won) later end = (later ≡ []) × (end ≡ Some NoMemory)

abbrev pub EndWell : List Call → Option SessionEnd → Type 0
EndWell [] end = Unit {0}
EndWell (call ∷ calls) end = EndsAs call.how calls end × EndWell calls end

-- each transcript of a pass goes on where the one before it ended
abbrev pub FollowOn : ℕ → List Transcript → Type 0
FollowOn before [] = Unit {0}
FollowOn before (transcript ∷ transcripts) =
    (transcript.first ≡ before) × EndWell transcript.calls transcript.end
    × FollowOn (before + length transcript.calls) transcripts

-- every entry is one of its call's, and every point is an entry of its call; followers left as they lagged
pub record HasEntries (account : Account) : Type 0 where
  -- every entry but a tick and a follower's leave names a call that exists, and exactly one point of that call is its place
  pub left : (part place by seq : ℕ) → slice_get (owners_of account part) place ≡ Some (Some (record { by = by; seq = seq }))
      → (call : Call) × (call_of account by seq ≡ Some call) × (count_by (is_point part place) (points_of call) ≡ 1)
  -- every point is the place of an entry that names its own call
  pub points : (pass seq : ℕ) (call : Call) → call_of account pass seq ≡ Some call
      → AllByRecursion (λ point. slice_get (owners_of account point.part) point.place ≡ Some (Some (record { by = pass; seq = seq }))) (points_of call)
  -- the ticks rise, and none is 0
  pub ticks : IsStrictlyIncreasing (0 ∷ ticks_of account.clock)
  -- whoever was taken out lagged then, and the moment was told by the clock
  pub shrinks : (part place by t : ℕ) (replica : ℤ) → event_at account (record { part = part; place = place }) ≡ Some (Shrink by replica t)
      → HadLagged (slice_get account.parts part) place t replica × Contains (ticks_of account.clock) t
  -- a follower fetched at the moment 0, or at one that was told by the clock
  pub follows : (part place by seq offset t : ℕ) (replica : ℤ) → event_at account (record { part = part; place = place }) ≡ Some (Follow by seq replica offset t)
      → IsToldMoment account.clock t
  -- that moment is no earlier than any at which an earlier call of its pass saw the clock
  pub earlier : (part place by seq offset t : ℕ) (replica : ℤ) → event_at account (record { part = part; place = place }) ≡ Some (Follow by seq replica offset t)
      → (before : ℕ) (call : Call) → before < seq → call_of account by before ≡ Some call → AreNotLater account.clock t (points_of call)

-- one part for each partition of the configuration, with its number of followers and the bytes of its appends
pub record HasLogs (account : Account) : Type 0 where
  pub followers : map (λ part. part.followers) account.parts ≡ followers_of account.config.topics
  pub whole : AllByRecursion IsWholeLog account.parts

pub record IsLawful (account : Account) : Type 0 where
  -- every entry is one of its call's, and followers left as they lagged
  pub entries : HasEntries account
  -- along the calls of one pass the places in each single history rise
  pub order : (pass part : ℕ) → IsStrictlyIncreasing (places_in part (flat_map points_of (calls_of account pass)))
  -- the logs are those of the configuration's partitions
  pub logs : HasLogs account
  -- each call was accepted and completed as the states that it found ask
  pub calls : (pass seq : ℕ) (call : Call) → call_of account pass seq ≡ Some call → IsLawfulCall account call
  -- each winner's count is that of the calls that it completed
  pub wins : (winner : ℕ) → unwrap_or (slice_get account.wins winner) 0 ≡ count_by (is_won_by winner) (all_calls account)
  -- the calls of a pass are numbered through, and each transcript ends as its last call says
  pub ends : AllByRecursion (FollowOn 0) account.passes
