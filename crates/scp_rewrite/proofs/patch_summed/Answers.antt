-- Whether the image is read/write is read before the stores; the checksum is stored only where it is not.
use Rattle.std.proofs.Common.{sym, ◌∙◌, rules}
use Rattle.scp_rewrite.proofs.Patching.{summed_kept, summed_put}
use Rattle.scp_rewrite.proofs.patch_summed.Goals as goal

pub returns-then-read_write : goal.returns-then-read_write
returns-then-read_write c =
    let mark = c.is_read_write-read_write.ensures in
    summed_kept _ _ _ c.patch-sum.ensures.image_after (sym mark ∙ c.if-read_write.true)

pub returns : goal.returns
returns c =
    let mark = c.is_read_write-read_write.ensures in
    summed_put _ _ _ c.patch-sum.ensures.image_after (sym mark ∙ c.if-read_write.false) (search rules) c.patch-sum.ensures.value
    c.put_le32.ensures.bytes_after
