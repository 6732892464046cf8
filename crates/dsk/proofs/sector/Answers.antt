-- A sector below its block's number of sectors has its data in the image.
use native.Mathlib.Omega.{arith}
use Rattle.dsk.proofs.FoundLaws.{sector_read}
use Rattle.dsk.proofs.sector.Goals as goal

pub read_sector-requires : goal.read_sector-requires
read_sector-requires c =
    let a = c.args in
    sector_read a.image.now a.track a.side a.index c.in_ok-at.ensures (omega arith)
