-- What the calls of the worked accounts are.
use Rattle.std.proofs.Common.{◌≡◌, ℕ, ◌≤◌, negsuc, List, [], ◌∷◌, Some, None, inl, inr, refl, ap, arith}
use Rattle.audit.specs.declared.account.CallHow.TheVariants.{Satisfied, Parked, Cut}
use Rattle.kanswer.specs.declared.accepted.Accepted.TheVariants.{Seen}
use Rattle.kwire.specs.declared.reply.Reply.{Reply}
use Rattle.kwire.specs.declared.reply.Told.{Told}
use Rattle.kwire.specs.declared.reply.Told.TheVariants as told
use Rattle.kwire.specs.declared.reply.FetchedPart.{FetchedPart}
use Rattle.kwire.specs.declared.reply.FetchedTopic.{FetchedTopic}
use Rattle.kanswer.specs.Decisions.{Decision, fetch_decision}
use Rattle.audit.specs.Fits.{IsReplyOf, HasReplies}
use Rattle.audit.specs.LawfulCall.{Step, IsAccepted, IsLawfulCall, shown_as_accepted}
use Rattle.audit.specs.Histories.{clock_part}
use Rattle.kwire.specs.IsRequest.{IsRequest}
use Rattle.audit.specs.Worked.{at, two_parts, from_start, fetch_one, fetch_both, fetch_now, expired_call, parked_call, cut_call, astray_call, three_waits, told_later, filled, satisfied_call, cut_as_satisfied, cut_unwon, read_call, reply_of}
use Rattle.audit.proofs.Prints.{looks_stand}
use Rattle.audit.proofs.ReplyOnce.{completed_at, reply_once}

-- what is decided of the partition
abbrev asked : ℕ → Decision
asked index = fetch_decision two_parts (negsuc 0) (116 ∷ [], from_start index) (Some index)

abbrev seen : ℕ → ℕ → Step
seen part place = record { result = Seen part 0; point = Some (at part place) }

-- ---- three waits

abbrev expired_accepted : (one both : List ℕ) → IsRequest one fetch_one → IsAccepted (three_waits one both) (expired_call one)
expired_accepted one both is = record {
  request = fetch_one;
  steps = seen 0 0 ∷ [];
  looks = at clock_part 0 ∷ [];
  accepted = record {
    asked = is;
    decisions = asked 0 ∷ [];
    decided = refl;
    each = (record { point = at 0 0; left = refl; there = refl; result = refl; entry = (0, 0, refl) }, tt);
  };
  entries = record { points = refl; clock = (at clock_part 0, refl, (refl, 0, 0, refl)) };
}

pub expired_lawful : (one both : List ℕ) → IsRequest one fetch_one → IsLawfulCall (three_waits one both) (expired_call one)
expired_lawful one both is = inl (record {
  whole = expired_accepted one both is;
  completed = (refl, ((refl, 0, 0, refl), ((refl, 0, 0, refl), tt)), omega arith);
})

abbrev parked_accepted : (one both : List ℕ) → IsRequest one fetch_one → IsAccepted (three_waits one both) (parked_call one)
parked_accepted one both is = record {
  request = fetch_one;
  steps = seen 0 4 ∷ [];
  looks = at clock_part 5 ∷ [];
  accepted = record {
    asked = is;
    decisions = asked 0 ∷ [];
    decided = refl;
    each = (record { point = at 0 4; left = refl; there = refl; result = refl; entry = (1, 0, refl) }, tt);
  };
  entries = record { points = refl; clock = (at clock_part 5, refl, (refl, 1, 0, refl)) };
}

pub parked_lawful : (one both : List ℕ) → IsRequest one fetch_one → IsLawfulCall (three_waits one both) (parked_call one)
parked_lawful one both is = inl (record {
  whole = parked_accepted one both is;
  completed = (refl, refl, λ answerable. elim answerable [ inl satisfied ↦ absurd (omega (arith, satisfied)) | inr overdue ↦ absurd (omega (arith, overdue)) ]);
})

abbrev cut_accepted : (one both : List ℕ) → IsRequest both fetch_both → IsAccepted (three_waits one both) (cut_call both)
cut_accepted one both is = record {
  request = fetch_both;
  steps = seen 0 1 ∷ seen 1 0 ∷ [];
  looks = at clock_part 1 ∷ [];
  accepted = record {
    asked = is;
    decisions = asked 0 ∷ asked 1 ∷ [];
    decided = refl;
    each = (
      record { point = at 0 1; left = refl; there = refl; result = refl; entry = (2, 0, refl) },
      (record { point = at 1 0; left = refl; there = refl; result = refl; entry = (2, 0, refl) }, tt),
    );
  };
  entries = record { points = refl; clock = (at clock_part 1, refl, (refl, 2, 0, refl)) };
}

pub cut_lawful : (one both : List ℕ) → IsRequest both fetch_both → IsLawfulCall (three_waits one both) (cut_call both)
cut_lawful one both is = inl (record {
  whole = cut_accepted one both is;
  completed = (refl, inr (record { first = ((refl, 2, 0, refl), (1, ((refl, 2, 0, refl), tt))); overdue = omega arith }));
})

-- nobody left the last of its looks
pub astray_unlawful : (one both : List ℕ) → IsLawfulCall (three_waits one both) (astray_call both) → ⊥
astray_unlawful one both lawful =
    let stand = looks_stand (three_waits one both) (astray_call both) lawful in
    elim stand.1.1.0 [ inl look ↦ let none = look.3 in absurd cc | inr look ↦ let other = look.0 in absurd (omega (arith, other)) ]

-- at 200 it is overdue
abbrev late_accepted : (one both : List ℕ) → IsRequest one fetch_one → IsAccepted (told_later one both) (parked_call one)
late_accepted one both is = record {
  request = fetch_one;
  steps = seen 0 4 ∷ [];
  looks = at clock_part 5 ∷ [];
  accepted = record {
    asked = is;
    decisions = asked 0 ∷ [];
    decided = refl;
    each = (record { point = at 0 4; left = refl; there = refl; result = refl; entry = (1, 0, refl) }, tt);
  };
  entries = record { points = refl; clock = (at clock_part 5, refl, (refl, 1, 0, refl)) };
}

pub late_unlawful : (one both : List ℕ) → IsRequest one fetch_one → IsLawfulCall (told_later one both) (parked_call one) → ⊥
late_unlawful one both is lawful =
    elim lawful [
      | inl w ↦ (completed_at (told_later one both) (parked_call one) (late_accepted one both is) w).2 (inr (omega arith))
      | inr c ↦ let how : Parked ≡ Cut None = c.how in absurd cc
    ]

-- ---- a partition that was filled

abbrev waiting_accepted : (one : List ℕ) (place : ℕ) → IsRequest one fetch_one → IsAccepted filled (satisfied_call one place)
waiting_accepted one place is = record {
  request = fetch_one;
  steps = seen 0 0 ∷ [];
  looks = at clock_part 0 ∷ [];
  accepted = record {
    asked = is;
    decisions = asked 0 ∷ [];
    decided = refl;
    each = (record { point = at 0 0; left = refl; there = refl; result = refl; entry = (0, 0, refl) }, tt);
  };
  entries = record { points = refl; clock = (at clock_part 0, refl, (refl, 0, 0, refl)) };
}

pub satisfied_lawful : (one : List ℕ) → IsRequest one fetch_one → IsLawfulCall filled (satisfied_call one 3)
satisfied_lawful one is = inl (record {
  whole = waiting_accepted one 3 is;
  completed = (refl, ((refl, 0, 0, refl), tt), omega arith);
})

-- nothing had come as it looked
pub early_unlawful : (one : List ℕ) → IsRequest one fetch_one → IsLawfulCall filled (satisfied_call one 1) → ⊥
early_unlawful one is lawful =
    elim lawful [
      | inl w ↦ let few : 1 ≤ 0 = (completed_at filled (satisfied_call one 1) (waiting_accepted one 1 is) w).2 in absurd (omega (arith, few))
      | inr c ↦ let how : Satisfied 0 ≡ Cut None = c.how in absurd cc
    ]

-- cut off behind the first of its two looks
pub satisfied_cut_lawful : (both : List ℕ) → IsRequest both fetch_both → IsLawfulCall filled (cut_as_satisfied both)
satisfied_cut_lawful both is = inl (record {
  whole = record {
    request = fetch_both;
    steps = seen 0 0 ∷ seen 1 0 ∷ [];
    looks = at clock_part 0 ∷ [];
    accepted = record {
      asked = is;
      decisions = asked 0 ∷ asked 1 ∷ [];
      decided = refl;
      each = (
        record { point = at 0 0; left = refl; there = refl; result = refl; entry = (0, 0, refl) },
        (record { point = at 1 0; left = refl; there = refl; result = refl; entry = (0, 0, refl) }, tt),
      );
    };
    entries = record { points = refl; clock = (at clock_part 0, refl, (refl, 0, 0, refl)) };
  };
  completed = (refl, inl (record { first = (1, ((refl, 0, 0, refl), tt)); satisfied = λ all. absurd all.1 }));
})

pub unwon_unlawful : (both : List ℕ) → IsLawfulCall filled (cut_unwon both) → ⊥
unwon_unlawful both lawful = elim lawful [ inl w ↦ let none = w.completed in absurd cc | inr c ↦ let none = c.unfinished in absurd cc ]

-- ---- what was read of it

pub empty_read : (now : List ℕ) → IsRequest now fetch_now → IsReplyOf filled (read_call now 0) (reply_of 0 [])
empty_read now is = record {
  whole = record {
    request = fetch_now;
    steps = seen 0 0 ∷ [];
    looks = [];
    accepted = record {
      asked = is;
      decisions = asked 0 ∷ [];
      decided = refl;
      each = (record { point = at 0 0; left = refl; there = refl; result = refl; entry = (0, 0, refl) }, tt);
    };
    entries = record { points = refl; clock = refl };
  };
  shown = shown_as_accepted filled (seen 0 0 ∷ []);
  shows = refl;
  answered = refl;
}

pub full_read : (now : List ℕ) → IsRequest now fetch_now → IsReplyOf filled (read_call now 3) (reply_of 1 (9 ∷ []))
full_read now is = record {
  whole = record {
    request = fetch_now;
    steps = seen 0 3 ∷ [];
    looks = [];
    accepted = record {
      asked = is;
      decisions = asked 0 ∷ [];
      decided = refl;
      each = (record { point = at 0 3; left = refl; there = refl; result = refl; entry = (0, 0, refl) }, tt);
    };
    entries = record { points = refl; clock = refl };
  };
  shown = shown_as_accepted filled (seen 0 3 ∷ []);
  shows = refl;
  answered = refl;
}

records_in : List FetchedPart → List ℕ
records_in [] = []
records_in (part ∷ parts) = part.records

records_of : List FetchedTopic → List ℕ
records_of [] = []
records_of (topic ∷ topics) = records_in topic.parts

records_told : Told → List ℕ
records_told (told.Fetched version isolation topics) = records_of topics
records_told other = []

other_reply : reply_of 1 (9 ∷ []) ≡ reply_of 0 [] → ⊥
unfolding records_in records_of records_told
other_reply e = let one : ◌≡◌ {A = List ℕ} (9 ∷ []) [] = ap (λ (reply : Reply). records_told reply.told) e in absurd cc

-- neither is the other's
pub swapped_reads : (now : List ℕ) → IsRequest now fetch_now → HasReplies filled (read_call now 0 ∷ read_call now 3 ∷ []) (reply_of 1 (9 ∷ []) ∷ reply_of 0 [] ∷ []) → ⊥
swapped_reads now is h = other_reply (reply_once filled (read_call now 0) (reply_of 1 (9 ∷ [])) (reply_of 0 []) h.0 (empty_read now is))
