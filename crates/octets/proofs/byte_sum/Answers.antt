-- Each turn moves a block to the total, and what is left is the rest.
use Rattle.std.proofs.Common.{◌≡◌, ℕ, ◌*◌, ◌/◌, ◌<◌, [], length, arith}
use Rattle.std.proofs.lemmas.List.Sums.{sum_by-take-drop}
use Rattle.octets.proofs.Sums.{sum_is, sum_blocks}
use Rattle.octets.proofs.byte_sum.Goals as goal

pub loop-block-preserved : goal.loop-block-preserved
loop-block-preserved c =
    let b = c.args.bytes.now in
    let l = c.loop-block in
    let there : l.block-index < length b / 256 = omega arith in
    let block = rw c.as_chunks.ensures.front at c.block_sum.ensures in
    omega (arith, block, l.invariant, sum_blocks 256 (length b / 256) b [] l.block-index there)

pub returns : goal.returns
returns c =
    let b = c.args.bytes.now in
    let l = c.loop-block in
    let all : l.block-index ≡ length b / 256 = omega arith in
    let blocks = rw all at l.invariant in
    let rest = rw c.as_chunks.ensures.back at c.block_sum-2.ensures in
    omega (arith, blocks, rest, sum_is b, sum_by-take-drop (λ (x : ℕ). x) b (length b / 256 * 256))
