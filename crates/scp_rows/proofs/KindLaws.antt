-- The question of a number is that of its kind.
use Prim.Native.Nat.{ℕ}
use mathlib.Core.Path.{◌≡◌, refl}
use mathlib.Core.Bool.{Bool, true, false, cond}
use lib.Dec.{eqb}
use Rattle.scp_book.specs.Book.{Question}
use Rattle.scp_book.specs.Book as book
use Rattle.scp_rows.specs.Rows.{question_of, kind_of}
use Rattle.scp_rows.specs.declared.Kind.{Kind}
use Rattle.scp_rows.specs.declared.Kind.TheVariants as kind

-- the question of a kind
abbrev pub question_at : Kind → ℕ → ℕ → Question
question_at kind.Validate t k = book.validate
question_at kind.Header t k = book.header
question_at kind.Footer t k = book.footer
question_at kind.Track t k = book.track t
question_at kind.Revolution t k = book.revolution t k
question_at kind.Flux t k = book.flux t k
question_at kind.Speed t k = book.speed t k
question_at kind.TrackSpeed t k = book.track_speed t

module _ (t k : ℕ) where
  pick : (x : Bool) (a c : Kind) {p q : Question} → question_at a t k ≡ p → question_at c t k ≡ q → question_at (cond x a c) t k ≡ cond x p q
  pick true a c e f = e
  pick false a c e f = f

  pub question_is : (n : ℕ) → question_at (kind_of n) t k ≡ question_of n t k
  unfolding question_of kind_of
  question_is n =
      pick (eqb n 1) _ _ refl
      (pick (eqb n 2) _ _ refl
      (pick (eqb n 3) _ _ refl
      (pick (eqb n 4) _ _ refl
      (pick (eqb n 5) _ _ refl
      (pick (eqb n 6) _ _ refl
      (pick (eqb n 7) _ _ refl refl))))))
