-- Where the header is not refused the blocks lie in the image.
use Rattle.dsk_check.proofs.Accepting.{roomy}
use Rattle.dsk_check.proofs.check.Goals as goal

pub blocks_fault-requires : goal.blocks_fault-requires
blocks_fault-requires c = roomy c.args.image.now c.in_ok-check_header.ensures
