-- A test that answers `Ok` found nothing, and one that answers `Err` refuses: what follows for a chain of two tests, for a search by a loop,
-- and for an answer that comes after.
use Prim.Native.Nat.{ℕ, ◌+◌, ◌-◌, ◌<◌}
use mathlib.Core.Path.{◌≡◌, refl, sym, ap, ◌∙◌}
use mathlib.Core.Bool.{Bool, true, false, cond}
use native.Mathlib.Omega.{arith}
use borrow.Author.Tests.{eqb-true, eqb-false}
use Rattle.std.specs.Prelude.{Result, Ok, Err}
use Rattle.refusals.specs.declared.Reason.{Reason}
use Rattle.refusals.specs.declared.Reason.TheVariants as reason
use Rattle.refusals.specs.declared.Refusal.{Refusal}
use Rattle.refusals.specs.Refusals.{Fault, none, passes, first_of, unless, number_of, in_table}
use Rattle.refusals.specs.Search.{first_from}
use Rattle.refusals.proofs.Answers.{unless_refused, unless_found}
use Rattle.refusals.proofs.Chain.{first_here, first_next}
use Rattle.refusals.proofs.Loops.{found_here, found_next}

-- no reason has number 0
pub numbered : (r : Reason) → number_of r ≡ 0 → ⊥
numbered reason.Size e = omega arith
numbered reason.Sign e = omega arith
numbered reason.Width e = omega arith
numbered reason.Revolutions e = omega arith
numbered reason.Span e = omega arith
numbered reason.Heads e = omega arith
numbered reason.Footer e = omega arith
numbered reason.String e = omega arith
numbered reason.Slot e = omega arith
numbered reason.Track e = omega arith
numbered reason.Flux e = omega arith
numbered reason.Sum e = omega arith
numbered reason.Absent e = omega arith
numbered reason.Revolution e = omega arith
numbered reason.Places e = omega arith
numbered reason.Time e = omega arith
numbered reason.Words e = omega arith
numbered reason.Shared e = omega arith
numbered reason.Text e = omega arith
numbered reason.DskSign e = omega arith
numbered reason.DskGeometry e = omega arith
numbered reason.DskLength e = omega arith
numbered reason.DskBlock e = omega arith
numbered reason.DskSectors e = omega arith
numbered reason.DskData e = omega arith
numbered reason.DskLayout e = omega arith

-- what refuses passes no test
pub refuses : (e : Refusal) {f : Fault} → in_table e ≡ f → f.number ≡ 0 → ⊥
refuses e q z = numbered e.reason (ap (λ (x : Fault). x.number) q ∙ z)

-- ---- two findings, one after the other

-- the first refuses
pub stopped : (e : Refusal) (f rest : Fault) → in_table e ≡ f → in_table e ≡ first_of f rest
stopped e f rest q = first_here f rest q (λ z. numbered e.reason z)

-- the first passes
pub passed : {r : Fault} (f rest : Fault) → none ≡ f → r ≡ rest → r ≡ first_of f rest
passed f rest q s = first_next f rest q refl s

-- ---- a loop that searches upwards from i below n

module _ (f : ℕ → Fault) {i n : ℕ} {r : Fault} (inv : first_from f i (n - i) ≡ r) (below : i < n) where
  -- the test at i refuses
  pub found_at : (e : Refusal) → in_table e ≡ f i → in_table e ≡ r
  found_at e q = found_here f inv below q (λ z. numbered e.reason z)

  -- the test at i passes
  pub found_past : none ≡ f i → first_from f (i + 1) (n - (i + 1)) ≡ r
  found_past q = found_next f inv below q refl

-- ---- an answer, unless it is refused

module _ {A : Type 0} (q : Fault) (found : A) (refused : Fault → A) where
  pub unless_err : (e : Refusal) → in_table e ≡ q → refused (in_table e) ≡ unless q found refused
  unless_err e p = unless_refused q found refused p (λ z. numbered e.reason z)

  pub unless_ok : {x : A} → none ≡ q → x ≡ found → x ≡ unless q found refused
  unless_ok p s = unless_found q found refused (ap (λ (x : Fault). x.number) (sym p)) s

-- ---- what is found or refused

module _ {A : Type 0} (q : Fault) (x : A) where
  -- what is found is what there is, and nothing refuses
  pub told_ok : {y : A} → ◌≡◌ {A = Result A Fault} (Ok y) (unless q (Ok x) Err) → (q.number ≡ 0) × (y ≡ x)
  told_ok {y} h = go (passes q) refl h
    where
      go : (t : Bool) → passes q ≡ t → ◌≡◌ {A = Result A Fault} (Ok y) (cond t (Ok x) (Err q)) → (q.number ≡ 0) × (y ≡ x)
      go true p h = (eqb-true q.number 0 p, cc)
      go false p h = let z : ◌≡◌ {A = ℕ} 0 1 = cc in absurd (omega arith)

  -- what is refused is refused by q
  pub told_err : {f : Fault} → ◌≡◌ {A = Result A Fault} (Err f) (unless q (Ok x) Err) → (f ≡ q) × (f.number ≡ 0 → ⊥)
  told_err {f} h = go (passes q) refl h
    where
      go : (t : Bool) → passes q ≡ t → ◌≡◌ {A = Result A Fault} (Err f) (cond t (Ok x) (Err q)) → (f ≡ q) × (f.number ≡ 0 → ⊥)
      go true p h = let z : ◌≡◌ {A = ℕ} 0 1 = cc in absurd (omega arith)
      go false p h =
          let e : f ≡ q = cc in
          (e, λ z. eqb-false q.number 0 p (ap (λ (x : Fault). x.number) (sym e) ∙ z))
