-- Storing the values from i on makes what is to be made.
use Rattle.copies.proofs.CopyLaws.{Copying}
use Rattle.copies.proofs.copy.Given as goal

abbrev pub invariant-loop-i : goal.invariant-loop-i
invariant-loop-i g l = Copying l.initial.out l.values l.at l.out l.i
