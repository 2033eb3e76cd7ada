-- What the requests of a load ask, by the state of the generator from which a request's numbers are drawn.
use Rattle.std.specs.Prelude.{ℕ, ◌+◌, ◌-◌, ℤ, pos, negsuc, List, [], ◌∷◌, ◌++◌, length, replicate, codes, Some, None}
use Rattle.std.specs.Fmt.{decimal}
use Rattle.kbatch.specs.declared.record.Record.{Record}
use Rattle.kbatch.specs.Written.{written}
use Rattle.kwire.specs.declared.request.Ask.{Ask}
use Rattle.kwire.specs.declared.request.Ask.TheVariants.{Produce, Fetch}
use Rattle.kwire.specs.declared.request.Request.{Request}
use Rattle.storm.specs.declared.asking.Wish.{Wish}
use Rattle.storm.specs.declared.asking.TheConstants.{DIGITS, PRODUCE_VERSION, FETCH_VERSION, PROMPT_TIMEOUT, LONGEST_WAIT, MOST_AWAITED, MOST_FETCHED, MOST_OF_PARTITION}
use Rattle.storm.specs.declared.kind.Kind.{Kind}
use Rattle.storm.specs.declared.kind.Kind.TheVariants.{AwaitedProduce, FollowerFetch, PromptProduce, ConsumerFetch}
use Rattle.storm.specs.Generator.{draw}
use Rattle.storm.specs.Places.{block_of, partition_of, batches_before, kind_of}

-- the number's digits, with zeros before them
abbrev pub value_of : ℕ → List ℕ
value_of i = replicate (DIGITS - length (decimal i)) 48 ++ decimal i

abbrev pub record_of : ℕ → Record
record_of i = record { attributes = pos 0; time = pos 0; key = None; value = Some (value_of i); headers = [] }

-- one record for one partition
abbrev pub produce_of : ℕ → ℤ → ℕ → Ask
produce_of i acks timeout =
    Produce PRODUCE_VERSION None acks (pos timeout) (record {
      name = codes "storm";
      parts = record { index = pos (partition_of i); records = Some (written (record_of i ∷ [])) } ∷ [];
    } ∷ [])

-- a fetch of one partition
abbrev pub fetch_of : ℕ → Wish → Ask
fetch_of i wish =
    Fetch FETCH_VERSION wish.replica (pos wish.wait) (pos wish.least) MOST_FETCHED (pos 0) (record {
      name = codes "storm";
      parts = record { index = pos (partition_of i); offset = pos wish.offset; log_start = negsuc 0; most = MOST_OF_PARTITION } ∷ [];
    } ∷ [])

-- the follower fetches from the offset at which the block's partitions end
abbrev pub follower_wish : ℕ → ℕ → Wish
follower_wish x block = record { replica = pos 1; wait = 1 + draw x 0 LONGEST_WAIT; least = 1; offset = batches_before block }

-- a consumer fetches from an offset up to that
abbrev pub consumer_wish : ℕ → ℕ → Wish
consumer_wish x block = record {
  replica = negsuc 0;
  wait = 1 + draw x 0 LONGEST_WAIT;
  least = 1 + draw x 1 MOST_AWAITED;
  offset = draw x 2 (batches_before block + 1);
}

abbrev pub ask_by : Kind → ℕ → ℕ → Ask
ask_by AwaitedProduce x i = produce_of i (negsuc 0) (1 + draw x 0 LONGEST_WAIT)
ask_by FollowerFetch x i = fetch_of i (follower_wish x (block_of i))
ask_by PromptProduce x i = produce_of i (pos 1) PROMPT_TIMEOUT
ask_by ConsumerFetch x i = fetch_of i (consumer_wish x (block_of i))

abbrev pub ask_of : ℕ → ℕ → Ask
ask_of x i = ask_by (kind_of (block_of i)) x i

-- the request's number is its correlation id, and its client isn't named
abbrev pub request_with : ℕ → Ask → Request
request_with i ask = record { correlation = pos i; client = None; ask = ask }
