-- Refusals and their order (RO-1, RO-2). What a test finds is a number and a position; number 0 is nothing.
use Rattle.std.specs.Prelude.{ℕ, Bool, true, false, not, cond, eqb, Result, Ok, Err}
use Rattle.refusals.specs.declared.Reason.{Reason}
use Rattle.refusals.specs.declared.Reason.TheVariants as reason
use Rattle.refusals.specs.declared.Refusal.{Refusal}

-- RO-1: what a test finds: a number of the table of refusals, or 0 for nothing, and a position.
pub record Fault : Type 0 where
  pub number : ℕ
  pub position : ℕ

-- RO-1: the refusal of number n at position p; RO-7 says which position each number has.
abbrev pub refusal : ℕ → ℕ → Fault
refusal n p = record { number = n; position = p }

-- RO-1: no refusal: number 0 at position 0.
abbrev pub none : Fault
none = refusal 0 0

-- RO-1: nothing is refused: the number is 0.
abbrev pub passes : Fault → Bool
passes f = eqb f.number 0

-- RO-2: one test of a chain: the refusal f where the test holds, else what comes after.
unfoldable pub refuse_if : Bool → Fault → Fault → Fault
refuse_if true f rest = f
refuse_if false f rest = rest

-- RO-2: the first of two findings: f where it refuses, else what comes after.
unfoldable pub first_of : Fault → Fault → Fault
first_of f rest = refuse_if (not (passes f)) f rest

-- RO-1: what is found, unless f refuses.
abbrev pub unless : {A : Type 0} → Fault → A → (Fault → A) → A
unless f found refused = cond (passes f) found (refused f)

-- ---- the table

-- R-1 to R-19, R-30 to R-35, R-41: the number of each reason.
abbrev pub number_of : Reason → ℕ
number_of reason.Size = 1
number_of reason.Sign = 2
number_of reason.Width = 3
number_of reason.Revolutions = 4
number_of reason.Span = 5
number_of reason.Heads = 6
number_of reason.Footer = 7
number_of reason.String = 8
number_of reason.Slot = 9
number_of reason.Track = 10
number_of reason.Flux = 11
number_of reason.Sum = 12
number_of reason.Absent = 13
number_of reason.Revolution = 14
number_of reason.Places = 15
number_of reason.Time = 16
number_of reason.Words = 17
number_of reason.Shared = 18
number_of reason.Text = 19
number_of reason.DskSign = 30
number_of reason.DskGeometry = 31
number_of reason.DskLength = 32
number_of reason.DskBlock = 33
number_of reason.DskSectors = 34
number_of reason.DskData = 35
number_of reason.DskLayout = 41

-- RO-1: a refusal for a reason, at a position.
abbrev pub refusal_at : Reason → ℕ → Refusal
refusal_at r p = record { reason = r; position = p }

-- RO-1: a refusal as the table has it: its reason's number, and its position.
abbrev pub in_table : Refusal → Fault
in_table r = refusal (number_of r.reason) r.position

-- RO-1: what a test found: nothing, or its refusal by number.
abbrev pub fault_of : Result Unit Refusal → Fault
fault_of (Ok u) = none
fault_of (Err r) = in_table r

-- RO-1: what a call found, or its refusal by number.
abbrev pub found : {A : Type 0} → Result A Refusal → Result A Fault
found (Ok x) = Ok x
found (Err r) = Err (in_table r)
