-- The worked requests have bodies, and the worked batch is one of one record.
use Rattle.std.proofs.Common.{◌≢◌, ◌<◌, ◌^◌, pos, negsuc, [], ◌∷◌, length, Some, None, inl, refl, arith}
use Rattle.std.specs.Prelude.{AllPairs}
use Rattle.kbytes.specs.Field.{groups}
use Rattle.kbatch.specs.Batch.{IsBatch}
use Rattle.kbatch.specs.Crc.{bits_of, after_bit, crc32c_of}
use Rattle.kbatch.specs.Head.{head_bytes}
use Rattle.kbatch.specs.Record.{body_bytes}
use Rattle.kbatch.specs.declared.record.Record.{Record}
use Rattle.kwire.specs.IsRequest.{IsRequest, Named}
use Rattle.kwire.specs.Layouts.{followed_by, times}
use Rattle.audit.specs.broker.WorkedPlay.{batch, produce, follow, poll, body_of}

alone : (a : Named) → AllPairs (λ x y. x ≢ y) (a ∷ [])
alone a i j d lt within = absurd (omega (arith, lt, within))

pub follow_body : IsRequest (body_of follow) follow
unfolding followed_by times
follow_body = inl (record {
  whole = record { spelled = refl; version = refl; laid_out = record { named = 1; lead = (((_, refl), record { sfits = omega arith }), (((_, refl), record { sfits = omega arith }), (((_, refl), record { sfits = omega arith }), (((_, refl), tt), (((_, refl), record { sfits = omega arith }), (((_, refl), record { sfits = omega arith }), (((_, refl), record { sfits = omega arith }), (((_, refl), record { sfits = omega arith }), (((_, refl, (0, omega arith, refl)), record { sfits = omega arith }), (((_, refl), omega arith, omega arith), (((_, refl), omega arith), (((_, refl), omega arith, omega arith), (((_, refl), record { sfits = omega arith }), (((_, refl), record { sfits = omega arith }), (((_, refl), record { sfits = omega arith }), (refl, refl)))))))))))))))) }; fitting = ((λ untold. refl, tt), tt) };
  once = alone (record { topic = 116 ∷ []; index = pos 0 });
})

pub poll_body : IsRequest (body_of poll) poll
unfolding followed_by times
poll_body = inl (record {
  whole = record { spelled = refl; version = refl; laid_out = record { named = 1; lead = (((_, refl), record { sfits = omega arith }), (((_, refl), record { sfits = omega arith }), (((_, refl), record { sfits = omega arith }), (((_, refl), tt), (((_, refl), record { sfits = omega arith }), (((_, refl), record { sfits = omega arith }), (((_, refl), record { sfits = omega arith }), (((_, refl), record { sfits = omega arith }), (((_, refl, (0, omega arith, refl)), record { sfits = omega arith }), (((_, refl), omega arith, omega arith), (((_, refl), omega arith), (((_, refl), omega arith, omega arith), (((_, refl), record { sfits = omega arith }), (((_, refl), record { sfits = omega arith }), (((_, refl), record { sfits = omega arith }), (refl, refl)))))))))))))))) }; fitting = ((λ untold. refl, tt), tt) };
  once = alone (record { topic = 116 ∷ []; index = pos 0 });
})

small : length batch < 2 ^ 31
small = omega arith

pub produce_body : IsRequest (body_of produce) produce
unfolding followed_by times
produce_body = inl (record {
  whole = record { spelled = refl; version = refl; laid_out = record { named = 1; lead = (((_, refl), record { sfits = omega arith }), (((_, refl), record { sfits = omega arith }), (((_, refl), record { sfits = omega arith }), (((_, refl), tt), (((_, refl), tt), (((_, refl), record { sfits = omega arith }), (((_, refl), record { sfits = omega arith }), (((_, refl), omega arith, omega arith), (((_, refl), omega arith), (((_, refl), omega arith, omega arith), (((_, refl), record { sfits = omega arith }), (((_, refl), small), (refl, refl))))))))))))) }; fitting = tt };
  once = alone (record { topic = 116 ∷ []; index = pos 0 });
})

-- the record
abbrev pub letter : Record
letter = record { attributes = pos 0; time = pos 0; key = None; value = Some (99 ∷ []); headers = [] }

pub one_batch : IsBatch batch (letter ∷ [])
unfolding head_bytes body_bytes groups bits_of after_bit crc32c_of
one_batch = record {
  head = record {
    base_offset = pos 0;
    batch_length = pos 57;
    leader_epoch = pos 0;
    magic = pos 2;
    crc = 4239194264;
    attributes = pos 0;
    last_offset_delta = pos 0;
    base_timestamp = pos 0;
    max_timestamp = pos 0;
    producer_id = negsuc 0;
    producer_epoch = negsuc 0;
    base_sequence = negsuc 0;
    count = pos 1;
  };
  in_range = record {
    base_offset = record { sfits = omega arith };
    batch_length = record { sfits = omega arith };
    leader_epoch = record { sfits = omega arith };
    magic = record { sfits = omega arith };
    crc = omega arith;
    attributes = record { sfits = omega arith };
    last_offset_delta = record { sfits = omega arith };
    base_timestamp = record { sfits = omega arith };
    max_timestamp = record { sfits = omega arith };
    producer_id = record { sfits = omega arith };
    producer_epoch = record { sfits = omega arith };
    base_sequence = record { sfits = omega arith };
    count = record { sfits = omega arith };
  };
  each = (record { attributes = record { sfits = omega arith }; time = record { sfits = omega arith } }, tt);
  parts = refl;
  most = omega arith;
  batch_length = refl;
  magic = refl;
  crc = refl;
  plain = refl;
  no_transaction = λ set. set refl;
  no_control = λ set. set refl;
  count = refl;
  some_record = omega arith;
  last = refl;
}
