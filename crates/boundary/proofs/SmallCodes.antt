-- A refusal within the limits of a code: the limits are kept by each test of a chain, and by each index of a search.
use Prim.Native.Nat.{ℕ, ◌<◌}
use mathlib.Core.Bool.{Bool}
use native.Mathlib.Omega.{arith}
use Rattle.refusals.specs.Refusals.{Fault, none, refusal, refuse_if, first_of}
use Rattle.refusals.specs.Search.{first_from}
use Rattle.refusals.proofs.Finding.{Each, holds_if, holds_first, holds_from}

-- within the limits of a code
abbrev pub Small : Fault → Type 0
Small f = (f.number < 256) × (f.position < 72_057_594_037_927_936)

pub small_none : Small none
small_none = (omega arith, omega arith)

pub small_first : (f rest : Fault) → Small f → Small rest → Small (first_of f rest)
small_first = holds_first Small

-- a refusal at a small position p, and one of position 0
pub small_at : (t : Bool) (rest : Fault) (n p : ℕ) → n < 256 → p < 65_536 → Small rest → Small (refuse_if t (refusal n p) rest)
small_at t rest n p h q k = holds_if Small t (refusal n p) rest (omega arith, omega arith) k

pub small_if : (t : Bool) (rest : Fault) (n : ℕ) → n < 256 → Small rest → Small (refuse_if t (refusal n 0) rest)
small_if t rest n h k = small_at t rest n 0 h (omega arith) k

pub small_from : (f : ℕ → Fault) (i n : ℕ) → Each (λ j. Small (f j)) i n → Small (first_from f i n)
small_from = holds_from Small small_none
