-- The frames of a load are bytes, and short.
use Rattle.std.proofs.Common.{rules, ◌≡◌, ℕ, ◌+◌, ◌<◌, ◌≤◌, ℤ, pos, negsuc, List, [], ◌∷◌, length, codes, arith}
use Rattle.std.specs.Int.{w32}
use Rattle.std.proofs.lemmas.List.{length-append}
use Rattle.kbytes.specs.Octets.{IsBytes}
use Rattle.kbytes.specs.Field.{Field, fields}
use Rattle.kbatch.specs.Written.{written}
use Rattle.kwire.specs.declared.request.Ask.{Ask}
use Rattle.kwire.specs.Frames.{framed}
use Rattle.kwire.specs.IsRequest.{request_fields}
use Rattle.storm.specs.declared.asking.TheConstants.{PROMPT_TIMEOUT, LONGEST_WAIT}
use Rattle.storm.specs.declared.kind.Kind.{Kind}
use Rattle.storm.specs.declared.kind.Kind.TheVariants.{AwaitedProduce, FollowerFetch, PromptProduce, ConsumerFetch}
use Rattle.storm.specs.Generator.{draw}
use Rattle.storm.specs.Places.{partition_of, block_of, kind_of}
use Rattle.storm.specs.Requests.{record_of, follower_wish, consumer_wish, ask_by, request_with}
use Rattle.storm.specs.Lines.{frame_from}
use Rattle.storm.specs.Formed.{produce_with, fetch_with}
use Rattle.storm.proofs.Octets.{each_is, sized_is, fields_are, batch_long, batch_are}

-- the frame of a produce is the longest
pub record IsShort (frame : List ℕ) : Type 0 where
  pub some : 0 < length frame
  pub most : length frame ≤ 129
  pub bytes : IsBytes frame

abbrev frame_with : ℕ → Ask → List ℕ
frame_with i ask = framed (fields (request_fields (request_with i ask)))

named_is : IsBytes (codes "storm")
named_is = each_is (codes "storm") (omega arith, (omega arith, (omega arith, (omega arith, (omega arith, tt)))))

framed_are : (body : List ℕ) → IsBytes body → IsBytes (framed body)
framed_are body are = sized_is w32 body are

short_produce : (bytes : List ℕ) (i p : ℕ) (acks : ℤ) (timeout : ℕ) → length bytes ≡ 84 → IsBytes bytes → IsShort (frame_with i (produce_with bytes p acks timeout))
short_produce bytes i p acks timeout long are =
    let all : List Field = request_fields (request_with i (produce_with bytes p acks timeout)) in record {
      some = omega arith;
      most = omega (arith, long, length-append bytes []);
      bytes = framed_are (fields all) (fields_are all (search (rules, named_is, are)));
    }

short_fetch : (i p : ℕ) (replica : ℤ) (wait least offset : ℕ) → IsShort (frame_with i (fetch_with p replica wait least offset))
short_fetch i p replica wait least offset =
    let all : List Field = request_fields (request_with i (fetch_with p replica wait least offset)) in record {
      some = omega arith;
      most = omega arith;
      bytes = framed_are (fields all) (fields_are all (search (rules, named_is)));
    }

of_kind : (kind : Kind) (x i : ℕ) → i < 200000 → IsShort (frame_with i (ask_by kind x i))
of_kind AwaitedProduce x i few = short_produce (written (record_of i ∷ [])) i (partition_of i) (negsuc 0) (1 + draw x 0 LONGEST_WAIT) (batch_long i few) (batch_are i few)
of_kind FollowerFetch x i few = let w = follower_wish x (block_of i) in short_fetch i (partition_of i) w.replica w.wait w.least w.offset
of_kind PromptProduce x i few = short_produce (written (record_of i ∷ [])) i (partition_of i) (pos 1) PROMPT_TIMEOUT (batch_long i few) (batch_are i few)
of_kind ConsumerFetch x i few = let w = consumer_wish x (block_of i) in short_fetch i (partition_of i) w.replica w.wait w.least w.offset

pub frame_short : (x i : ℕ) → i < 200000 → IsShort (frame_from x i)
frame_short x i few = of_kind (kind_of (block_of i)) x i few
