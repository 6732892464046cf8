-- What the numbers of the flux of a record say of its revolution; and that flux which lies in an image within the limit has them.
use Prim.Native.Nat.{ℕ, ◌+◌, ◌*◌, ◌%◌, ◌≤◌}
use mathlib.Core.Path.{◌≡◌, ap, ap₂, ◌∙◌}
use mathlib.Core.List.{List}
use mathlib.Core.Bool.{Bool, true, false, cond}
use native.Mathlib.Omega.{arith}
use lib.ListN.{length}
use borrow.Author.Tests.{ne_eqb, le-ltb}
use Rattle.std.specs.Prelude.{Result, Ok, Err}
use Rattle.refusals.specs.Refusals.{Fault, refusal}
use Rattle.flux.specs.Coding.{bad_flux_size, flux_limit}
use Rattle.flux.specs.Answers.{Answer, refused, gives, words_refused}
use Rattle.flux_summary.specs.declared.Summary.{Summary}
use Rattle.flux_summary.specs.Summaries.{summary_of, summary_numbers, summarizing}
use Rattle.copies.proofs.Parts.{part_length}
use Rattle.scp_tracks.specs.declared.RevolutionData.{RevolutionData}
use Rattle.scp_lookup.specs.Lookups.{flux_of}
use Rattle.scp_revolution.specs.declared.DescribedRevolution.{DescribedRevolution}
use Rattle.scp_revolution.specs.Described.{words_in, described, described_on}

module _ (b : List ℕ) (d : RevolutionData) where
  -- the revolution as its flux has numbers or not
  abbrev by : Bool → Result DescribedRevolution Fault
  by x = cond x (Err (refusal 17 0)) (Ok (described b d))

  abbrev summed : Bool → Answer
  summed x = cond x (refused words_refused 0) (gives (summary_of (words_in b d)))

  given_by : (m : Summary) (x : Bool) → gives (summary_numbers m) ≡ summed x
      → Ok
      (record { duration = d.duration; words = d.words; offset = d.offset; intervals = m.intervals; «open» = m.«open»; total = m.total })
      ≡ by x
  given_by m true e = let z : ◌≡◌ {A = ℕ} 0 1 = cc in absurd (omega arith)
  given_by m false e = cc

  refused_by : (r : Fault) (x : Bool) → refused r.number r.position ≡ summed x → Err r ≡ by x
  refused_by r true e =
      let number : r.number ≡ 17 = cc in
      let position : r.position ≡ 0 = cc in
      ap₂ (λ (n p : ℕ). Err (refusal n p)) number position
  refused_by r false e = let z : ◌≡◌ {A = ℕ} 0 1 = cc in absurd (omega arith)

  -- the numbers of the flux are those of the revolution
  pub given : (m : Summary) → gives (summary_numbers m) ≡ summarizing (flux_of b d)
      → Ok
      (record { duration = d.duration; words = d.words; offset = d.offset; intervals = m.intervals; «open» = m.«open»; total = m.total })
      ≡ described_on b (Ok d)
  given m = given_by m (bad_flux_size (length (flux_of b d)))

  pub not_given : (r : Fault) → refused r.number r.position ≡ summarizing (flux_of b d)
      → Err r ≡ described_on b (Ok d)
  not_given r = refused_by r (bad_flux_size (length (flux_of b d)))

whole_size : (n : ℕ) → 2 * n ≤ flux_limit → bad_flux_size (2 * n) ≡ false
whole_size n h = simp (ne_eqb (2 * n % 2) 1 (λ e. omega arith), le-ltb flux_limit (2 * n) h)

-- flux that lies in an image within the limit is whole words, and not too many
pub whole_flux : (b : List ℕ) (d : RevolutionData) → d.offset.0 + 2 * d.words ≤ length b → length b ≤ flux_limit
    → bad_flux_size (length (flux_of b d)) ≡ false
whole_flux b d within most =
    ap bad_flux_size (part_length b d.offset.0 (2 * d.words) within) ∙ whole_size d.words (omega arith)
