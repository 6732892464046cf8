-- The zero words behind the last closing word: they are the open time, close nothing and have their ticks.
use mathlib.Core.Path.{◌≡◌, refl, ◌∙◌}
use mathlib.Core.List.{List}
use mathlib.Core.Bool.{not}
use Prim.Native.Nat.{ℕ, zero, suc, ◌+◌, ◌-◌, ◌*◌, ◌≤◌}
use native.Mathlib.Decide.{ℕ_discrete}
use native.Mathlib.Omega.{arith}
use lib.Dec.{eqb}
use lib.ListN.{length, get_or, drop}
use borrow.Author.Tests.{eq-eqb}
use Rattle.std.specs.Int.{from_bool}
use Rattle.flux.specs.Reading.{zero_ticks, open_time, closing_words, total_ticks}
use Rattle.flux.proofs.WordLaws.{WordAt, closing_more, closing_end, open_zero, open_close, open_end, total_zero, total_end}

-- all words from number n on are zero
pub record OpenFrom (ws : List ℕ) (n : ℕ) : Type 0 where
  pub within : n ≤ length ws
  pub time : (p : ℕ) → open_time p (drop n ws) ≡ p + zero_ticks * (length ws - n)
  pub none : closing_words (drop n ws) ≡ 0
  pub ticks : total_ticks (drop n ws) ≡ zero_ticks * (length ws - n)

pub nothing_left : (ws : List ℕ) {n : ℕ} → n ≡ length ws → OpenFrom ws n
nothing_left ws {n} e =
    let end : length ws ≤ n = omega arith in
    let ticks = total_end ws n end in
    record {
      within = omega arith;
      time = λ p. let time = open_end ws n end p in omega arith;
      none = closing_end ws n end;
      ticks = omega arith;
    }

module _ {ws : List ℕ} {i w : ℕ} (at : WordAt ws i w) (z : w ≡ 0) (rest : OpenFrom ws (i + 1)) where
  pub one_more : OpenFrom ws i
  one_more =
      let there = at.there in
      let count : from_bool (not (eqb w 0)) ≡ 0 = simp (eq-eqb w 0 z) in
      let closing = closing_more at in
      let none = rest.none in
      let total = total_zero at z in
      let ticks = rest.ticks in
      record {
        within = omega arith;
        time = λ p. let here = open_zero at z p in let more = rest.time (p + zero_ticks) in omega arith;
        none = omega arith;
        ticks = omega arith;
      }

-- the last closing word ends the open time before it
module _ {ws : List ℕ} {m w : ℕ} (at : WordAt ws m w) (n : w ≡ 0 → ⊥) where
  pub closed_by : (d i p : ℕ) → i + d ≡ m → open_time p (drop i ws) ≡ open_time 0 (drop (m + 1) ws)
  closed_by zero i p e = let same : i ≡ m = omega arith in rw same (open_close at n p)
  closed_by (suc d) i p e =
      let below = at.there in
      let here : WordAt ws i (get_or ws i 0) = record { there = omega arith; same = refl } in
      elim (ℕ_discrete (get_or ws i 0) 0) [
        | yes z ↦ open_zero here z p ∙ closed_by d (i + 1) (p + zero_ticks) (omega arith)
        | no z ↦ open_close here z p ∙ closed_by d (i + 1) 0 (omega arith)
      ]

  pub open_behind : OpenFrom ws (m + 1) → open_time 0 ws ≡ zero_ticks * (length ws - (m + 1))
  open_behind rest =
      let before = closed_by m 0 0 (omega arith) in
      let time = rest.time 0 in
      before ∙ time ∙ omega arith

-- where no word closes an interval, all of them are
pub all_open : {ws : List ℕ} → OpenFrom ws 0 → open_time 0 ws ≡ zero_ticks * (length ws - 0)
all_open rest = rest.time 0 ∙ omega arith
