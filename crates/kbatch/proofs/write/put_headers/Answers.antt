use Rattle.std.proofs.Common.{◌<◌, ◌^◌, length, sym, subst}
use Rattle.kbatch.specs.declared.record.Header.{Header}
use Rattle.kbatch.specs.Record.{header_bytes}
use Rattle.kbatch.proofs.Puts.{header_short}
use Rattle.kbatch.proofs.write.put_headers.Goals as goal

pub put_header-requires : goal.put_header-requires
put_header-requires c =
    subst (λ (h : Header). length (header_bytes h) < 2 ^ 31) (sym c.header-item.is) (header_short c.args.headers.now c.loop-header.header-index c.header-item.result c.loop-header-test.true c.requires)
