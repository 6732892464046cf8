-- The offsets are reckoned from the block's index.
use Rattle.dsk_write.proofs.Sizes.{located}
use Rattle.dsk_write.proofs.locate_block.Goals as goal

pub returns : goal.returns
returns c =
    located c.args.layout c.requires.0 c.requires.1 c.from.ensures c.from-2.ensures c.from-3.ensures c.track_data-size.ensures.0
    c.track_size.ensures.0
