-- The first byte picks the row, and the other bytes are tested by it.
use Rattle.std.proofs.Common.{true, false, sym, inl, inr, arith}
use Rattle.utf8.proofs.Rows.{size_ascii, size_none, two_bytes, three_bytes, four_bytes}
use Rattle.utf8.proofs.size_of.Goals as goal

pub returns-in-0-to-127 : goal.returns-in-0-to-127
returns-in-0-to-127 c = (omega arith, sym (size_ascii _ _ (omega arith)))

pub returns-in-194-to-223 : goal.returns-in-194-to-223
returns-in-194-to-223 c = (omega arith, sym (two_bytes _ _ 0 0 _ {x = true} (omega arith) (omega arith) (cc)))

pub returns-in-224-to-239 : goal.returns-in-224-to-239
returns-in-224-to-239 c = (omega arith, sym (three_bytes _ _ _ 0 _ {x = true} (omega arith) (omega arith) (cc)))

pub returns-in-240-to-244 : goal.returns-in-240-to-244
returns-in-240-to-244 c = (omega arith, sym (four_bytes _ _ _ _ _ {x = true} (omega arith) (omega arith) (cc)))

pub returns-in_default : goal.returns-in_default
returns-in_default c = size_none _ _ (inl (omega arith)) (omega arith)

pub returns-in_default-2 : goal.returns-in_default-2
returns-in_default-2 c = two_bytes _ _ 0 0 _ {x = false} (omega arith) (omega arith) (cc)

pub returns-in_default-3 : goal.returns-in_default-3
returns-in_default-3 c = three_bytes _ _ _ 0 _ {x = false} (omega arith) (omega arith) (cc)

pub returns-in_default-4 : goal.returns-in_default-4
returns-in_default-4 c = four_bytes _ _ _ _ _ {x = false} (omega arith) (omega arith) (cc)

pub returns-in_default-5 : goal.returns-in_default-5
returns-in_default-5 c = size_none _ _ (inr (omega arith)) (omega arith)
