-- What the worked accounts print.
use Rattle.std.proofs.Common.{◌≡◌, ◌<◌, ℕ, zero, suc, List, [], ◌∷◌, Some, None, AllPairs, arith, refl}
use Rattle.std.specs.Prelude.{codes}
use Rattle.std.specs.Fmt.{digits}
use Rattle.audit.specs.declared.account.SessionEnd.TheVariants.{Closed, NoMemory, Truncated}
use Rattle.audit.specs.declared.account.CallHow.TheVariants.{AtOnce}
use Rattle.audit.specs.declared.account.Transcript.{Transcript}
use Rattle.audit.specs.Printed.{link_line, session_text, storm_summary_of, summary_of}
use Rattle.audit.specs.ServePrint.{IsServePrint}
use Rattle.audit.specs.Worked.{at, two_links, cut_call, expired_call, filled, lines_of, parked_call, three_waits}

pub waits_summary : (one both : List ℕ) → summary_of (three_waits one both) ≡ lines_of (codes "part 0 end 0 high 0 batches 0 bytes 0"
    ∷ codes "part 1 end 0 high 0 batches 0 bytes 0" ∷ codes "session 0 calls 1 replies 1 parked 0"
    ∷ codes "session 1 calls 1 replies 0 parked 1" ∷ codes "session 2 calls 1 replies 0 parked 0" ∷ codes "done" ∷ [])
unfolding digits
waits_summary one both = refl

pub filled_summary : summary_of filled ≡ lines_of (codes "part 0 end 1 high 1 batches 1 bytes 1" ∷ codes "part 1 end 0 high 0 batches 0 bytes 0" ∷ codes "done" ∷ [])
unfolding digits
filled_summary = refl

pub waits_storm : (one both : List ℕ) → storm_summary_of (three_waits one both) ≡ lines_of (codes "part 0 end 0 batches 0 bytes 0"
    ∷ codes "part 1 end 0 batches 0 bytes 0" ∷ codes "sessions 3 calls 3 replies 1 parked 1" ∷ codes "done" ∷ [])
unfolding digits
waits_storm one both = refl

pub filled_storm : storm_summary_of filled ≡ lines_of (codes "part 0 end 1 batches 1 bytes 1"
    ∷ codes "part 1 end 0 batches 0 bytes 0" ∷ codes "sessions 0 calls 0 replies 0 parked 0" ∷ codes "done" ∷ [])
unfolding digits
filled_storm = refl

pub closed_link : (one : List ℕ) → link_line (record { number = 4; first = 0; calls = expired_call one ∷ []; end = Some Closed }) ≡ lines_of (codes "link 4 calls 1 replies 1 closed" ∷ [])
unfolding digits
closed_link one = refl

pub open_link : (one : List ℕ) → link_line (record { number = 5; first = 0; calls = parked_call one ∷ []; end = None }) ≡ lines_of (codes "link 5 calls 1 replies 0" ∷ [])
unfolding digits
open_link one = refl

pub cut_text : (both : List ℕ) → session_text (record { number = 2; first = 0; calls = cut_call both ∷ []; end = Some NoMemory }, []) ≡ lines_of (codes "end 2 no-memory" ∷ [])
unfolding digits
cut_text both = refl

abbrev links_rising : List ℕ → List Transcript
links_rising one =
    record { number = 0; first = 1; calls = []; end = Some (Truncated 3) }
    ∷ record { number = 1; first = 0; calls = record { frame = one; accept = at 0 3 ∷ []; finish = []; how = AtOnce } ∷ []; end = Some Closed } ∷ []

up : (one : List ℕ) → AllPairs (λ a b. a.number < b.number) (links_rising one)
up one zero zero d lt within = absurd (omega (arith, lt))
up one zero (suc zero) d lt within = omega arith
up one zero (suc (suc j)) d lt within = absurd (omega (arith, within))
up one (suc i) zero d lt within = absurd (omega (arith, lt))
up one (suc i) (suc zero) d lt within = absurd (omega (arith, lt))
up one (suc i) (suc (suc j)) d lt within = absurd (omega (arith, within))

pub two_served : (one : List ℕ) → IsServePrint (two_links one) (lines_of (codes "link 0 calls 0 replies 0 truncated 3" ∷ codes "link 1 calls 1 replies 1 closed"
    ∷ codes "part 0 end 1 high 1 batches 1 bytes 1" ∷ codes "part 1 end 0 high 0 batches 0 bytes 0" ∷ codes "done" ∷ []))
unfolding digits
two_served one = record {
  links = links_rising one;
  order = record { each = record { moves = (0, 1) ∷ []; below = (omega arith, omega arith, tt); is = refl }; rising = up one };
  spelled = refl;
}
