-- The information block and then its data are one store of the whole block; both lie in what is lent.
use Rattle.dsk_write.proofs.Puts.{block_put}
use Rattle.dsk_write.proofs.put_block.Goals as goal

pub returns : goal.returns
returns c =
    let a = c.args in
    block_put a.image.now a.layout a.content.now a.track a.side c.requires.roomy c.locate_block-offsets.ensures c.put_info.ensures
    c.copy.ensures.out_after
