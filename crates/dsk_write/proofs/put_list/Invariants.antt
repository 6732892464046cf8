-- The loop's invariant: storing the entries from sector k on makes what storing all of them makes.
use Prim.Native.Nat.{ℕ, ◌+◌, ◌*◌}
use Rattle.dsk_write.specs.Images.{entry_bytes}
use Rattle.dsk_write.proofs.Stores.{Storing}
use Rattle.dsk_write.proofs.put_list.Given as goal

abbrev pub invariant-loop-k : goal.invariant-loop-k
invariant-loop-k l = Storing (entry_bytes l.track l.side l.layout.code) (λ (j : ℕ). l.at + 8 * j) l.layout.sectors l.initial.image l.image l.k
