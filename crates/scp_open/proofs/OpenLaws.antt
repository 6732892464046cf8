-- What opening answers, by what refuses.
use Prim.Native.Nat.{ℕ, min}
use mathlib.Core.Path.{◌≡◌, refl, ap, ◌∙◌}
use mathlib.Core.List.{List}
use mathlib.Core.Bool.{Bool, true, false}
use lib.Dec.{leb}
use native.Mathlib.Omega.{arith}
use borrow.Author.Tests.{le-leb, leb-true, leb-false}
use Rattle.refusals.specs.Refusals.{Fault, first_of}
use Rattle.scp_fields.specs.declared.Edition.{Edition}
use Rattle.scp_footer.specs.Footer.{footer_fault}
use Rattle.scp_header.specs.HeaderFault.{header_fault}
use Rattle.scp_fields.specs.Editions.{slots}
use Rattle.refusals.specs.Search.{first_from}
use Rattle.scp_tracks.specs.Tracks.{track_fault, walk_end, tracks_fault_in, tracks_fault}
use Rattle.scp_open.specs.Opening.{open_fault, fault_in}

-- a walk ends at the lesser of two ends
pub walk_least : (v : Edition) (j : ℕ) {n : ℕ} → n ≡ slots v → min j n ≡ walk_end v j
walk_least v j e = rw e (by (leb j (slots v)) refl)
  where
    by : (t : Bool) → leb j (slots v) ≡ t → min j (slots v) ≡ walk_end v j
    by true q = let h = leb-true j (slots v) q in rw q (omega arith)
    by false q = let h = leb-false j (slots v) q in rw q (omega arith)

module _ (v : Edition) (b : List ℕ) where
  -- a walk over all slots
  whole_walk : {n : ℕ} → n ≡ slots v → tracks_fault_in v b 0 n ≡ tracks_fault v b
  whole_walk {n} e =
      let end : walk_end v (slots v) ≡ slots v = simp (le-leb (slots v) (slots v) (omega arith)) in
      ap (tracks_fault_in v b 0) e ∙ ap (first_from (track_fault v b) 0) (omega arith)

  -- with the footer and over all slots, what refuses is what opening finds
  pub whole_fault : {f : Fault} {n : ℕ} → n ≡ slots v → f ≡ fault_in v b true 0 n → f ≡ open_fault v b
  unfolding open_fault
  whole_fault s e = e ∙ ap (λ (tracks : Fault). first_of (header_fault v b) (first_of (footer_fault v b) tracks)) (whole_walk s)
