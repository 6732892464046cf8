-- The blocks are passed, and then the bytes behind them.
use Rattle.std.proofs.Common.{◌*◌, arith}
use Rattle.std.proofs.lemmas.List.{take_rest}
use Rattle.utf8.specs.Reading.{Passed}
use Rattle.utf8.proofs.Places.{pass_then, pass_run, pass_blocks}
use Rattle.utf8.proofs.ascii_len.Goals as goal

pub returns : goal.returns
returns c =
    let t = c.args.text.now in
    let n = c.ascii_blocks-start.result in
    let blocks : Passed t 0 (64 * n) = pass_blocks t n (omega arith) (rw c.as_chunks.ensures.front at c.ascii_blocks-start.ensures.ascii) in
    pass_then blocks (pass_run t (64 * n) c.ascii_bytes.result (omega arith) (rw (take_rest t (64 * n)) at c.ascii_bytes.ensures.ascii))
