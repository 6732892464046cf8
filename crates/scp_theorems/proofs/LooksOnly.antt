-- What a direct call tests and answers is read from the length, the header, one entry and that track's header; so it is the same of two
-- images that are the same there. The entry is read only where the table has the track, its header only where that is not 0, and a record
-- only where 14 does not refuse it; then it lies in the header.
use Prim.Native.Nat.{ℕ, ◌+◌, ◌*◌, ◌<◌, ◌≤◌}
use mathlib.Core.Path.{◌≡◌, refl, sym, ap, ap₂, ◌∙◌}
use mathlib.Core.Logic.{◌≢◌}
use mathlib.Core.List.{List}
use mathlib.Core.Bool.{Bool, true, false, cond}
use native.Mathlib.Omega.{arith}
use lib.ListN.{length}
use lib.Dec.{eqb, leb}
use borrow.Author.Tests.{eqb-true, eqb-false, leb-false}
use Rattle.std.specs.Prelude.{Result, Ok, Err}
use Rattle.octets.specs.Numbers.{byte_at, le32_at}
use Rattle.octets.proofs.Numbers.{le_same}
use Rattle.refusals.specs.Refusals.{Fault, refusal, passes, refuse_if, first_of}
use Rattle.refusals.specs.Search.{any_from}
use Rattle.refusals.proofs.Answers.{unless_refused}
use Rattle.refusals.proofs.Chain.{refuse_here, refuse_next}
use Rattle.refusals.proofs.Finding.{same_from}
use Rattle.copies.proofs.Parts.{part_length, part_same}
use Rattle.scp_fields.specs.declared.Edition.{Edition}
use Rattle.scp_fields.specs.Editions.{slots}
use Rattle.scp_fields.specs.Header.{revolutions, footer_bit, track_entry, data_end}
use Rattle.scp_header.specs.HeaderTests.{bad_size}
use Rattle.scp_header.specs.HeaderFault.{header_fault}
use Rattle.scp_tracks.specs.Tracks.{revolution_at, count_at, distance_at, bad_slot, bad_mark, bad_track, flux_past, bad_flux, track_fault_at, track_fault}
use Rattle.scp_tracks.specs.Revolutions.{data_of}
use Rattle.scp_tracks.specs.declared.RevolutionData.{RevolutionData}
use Rattle.scp_lookup.specs.Lookups.{part_of, start_of}
use Rattle.scp.specs.Answers.{Answer, refused, unless, track_values, revolution_values}
use Rattle.scp_direct.specs.Direct.{direct_track_question, direct_revolution_question, direct_found, direct_track, direct_revolution, direct_part, direct_start}
use Rattle.scp_direct.proofs.DirectLaws.{direct_there, direct_below, direct_is_found, direct_within}
use Rattle.scp_theorems.specs.Direct.{SameBytes, SameTrack, SameLook, LooksOnly}

-- an answer that the question q lets through is the same where q does
same_unless : (q : Fault) (a d : Answer) → (passes q ≡ true → a ≡ d) → unless q a ≡ unless q d
same_unless q a d h = by (passes q) refl
  where
    by : (x : Bool) → passes q ≡ x → cond x a (refused q.number q.position) ≡ cond x d (refused q.number q.position)
    by true p = h p
    by false p = refl

module _ (v : Edition) (t : ℕ) (b c : List ℕ) (s : SameTrack v t b c) where
  -- a byte of the header
  at : (i : ℕ) → i < 16 → byte_at b i ≡ byte_at c i
  at i h = s.header i (omega arith) (omega arith)

  same_header : header_fault v b ≡ header_fault v c
  unfolding header_fault bad_size
  same_header =
      cc (
        s.size,
        at 0 (omega arith),
        at 1 (omega arith),
        at 2 (omega arith),
        at 5 (omega arith),
        at 6 (omega arith),
        at 7 (omega arith),
        at 8 (omega arith),
        at 9 (omega arith),
        at 10 (omega arith),
      )

  same_revolutions : revolutions b ≡ revolutions c
  same_revolutions = at 5 (omega arith)

  same_end : data_end v b ≡ data_end v c
  unfolding footer_bit
  same_end = cc (s.size, at 8 (omega arith))

  same_slot : bad_slot b t ≡ bad_slot c t
  same_slot = cc (at 6 (omega arith), at 7 (omega arith), at 10 (omega arith))

  abbrev e : ℕ
  e = track_entry b t

  -- ---- a track that the table has

  module _ (h : t < slots v) where
    same_entry : e ≡ track_entry c t
    same_entry = le_same 4 b c (16 + 4 * t) (s.entry h)

    -- ---- and that is present

    module _ (n : e ≢ 0) where
      -- a byte of its header
      header_at : (i : ℕ) → e ≤ i → i < e + (4 + 12 * revolutions b) → byte_at b i ≡ byte_at c i
      header_at i low high = s.track h n i low (omega arith)

      same_mark : bad_mark b e t ≡ bad_mark c e t
      same_mark =
          cc (
            header_at e (omega arith) (omega arith),
            header_at (e + 1) (omega arith) (omega arith),
            header_at (e + 2) (omega arith) (omega arith),
            header_at (e + 3) (omega arith) (omega arith),
          )

      -- a number of one of its records
      same_number : (k i : ℕ) → k < revolutions b → revolution_at e k ≤ i → i ≤ revolution_at e k + 8 → le32_at b i ≡ le32_at c i
      same_number k i l low high = le_same 4 b c i (λ j a z. header_at j (omega arith) (omega arith))

      same_count : (k : ℕ) → k < revolutions b → count_at b e k ≡ count_at c e k
      same_count k l = same_number k (revolution_at e k + 4) l (omega arith) (omega arith)

      same_distance : (k : ℕ) → k < revolutions b → distance_at b e k ≡ distance_at c e k
      same_distance k l = same_number k (revolution_at e k + 8) l (omega arith) (omega arith)

      same_past : (end k : ℕ) → k < revolutions b → flux_past end b e k ≡ flux_past end c e k
      same_past end k l = cc (same_count k l, same_distance k l)

      same_flux : bad_flux v b e ≡ bad_flux v c e
      same_flux =
          same_from (flux_past (data_end v b) b e) (flux_past (data_end v b) c e) 0 (revolutions b) (λ k a z. same_past (data_end v b) k (omega arith))
          ∙ ap (λ (end : ℕ). any_from (flux_past end c e) 0 (revolutions b)) same_end
          ∙ ap (any_from (flux_past (data_end v c) c e) 0) same_revolutions

      same_fault : track_fault v b t ≡ track_fault v c t
      unfolding track_fault_at bad_track
      same_fault = by same_slot same_mark same_flux ∙ ap (λ (x : ℕ). track_fault_at v c x t) same_entry
        where
          by : bad_slot b t ≡ bad_slot c t → bad_mark b e t ≡ bad_mark c e t → bad_flux v b e ≡ bad_flux v c e
              → track_fault_at v b e t ≡ track_fault_at v c e t
          by slot mark flux = cc (slot, mark, flux, same_end, same_revolutions)

      same_data : (k : ℕ) → k < revolutions b → data_of b e k ≡ data_of c (track_entry c t) k
      same_data k l =
          cc (same_number k (revolution_at e k) l (omega arith) (omega arith), same_count k l, same_distance k l, same_entry)

      same_values : (k : ℕ) → k < revolutions b → revolution_values b t k ≡ revolution_values c t k
      same_values k l =
          cc (same_number k (revolution_at e k) l (omega arith) (omega arith), same_count k l, same_distance k l, same_entry)

  -- ---- the questions

  -- what comes after the test of the entry
  present : t < slots v → (y : Bool) → eqb e 0 ≡ y
      → refuse_if y (refusal 13 0) (track_fault v b t) ≡ refuse_if (eqb (track_entry c t) 0) (refusal 13 0) (track_fault v c t)
  unfolding refuse_if
  present h true p = refuse_here (eqb (track_entry c t) 0) _ _ (ap (λ (x : ℕ). eqb x 0) (sym (same_entry h)) ∙ p) refl
  present h false p =
      refuse_next (eqb (track_entry c t) 0) _ _ (ap (λ (x : ℕ). eqb x 0) (sym (same_entry h)) ∙ p) (same_fault h (eqb-false e 0 p))

  -- and after that of the number
  in_table : (x : Bool) → leb (slots v) t ≡ x
      → refuse_if x (refusal 13 0) (refuse_if (eqb e 0) (refusal 13 0) (track_fault v b t))
      ≡ refuse_if x (refusal 13 0) (refuse_if (eqb (track_entry c t) 0) (refusal 13 0) (track_fault v c t))
  unfolding refuse_if
  in_table true p = refl
  in_table false p = present (leb-false (slots v) t p) (eqb e 0) refl

  same_track : direct_track_question v b t ≡ direct_track_question v c t
  unfolding direct_track_question
  same_track = ap₂ first_of same_header (in_table (leb (slots v) t) refl)

  same_question : (k : ℕ) → direct_revolution_question v b t k ≡ direct_revolution_question v c t k
  unfolding direct_revolution_question
  same_question k = cc (same_track, same_revolutions)

  -- ---- the answers

  pub same_track_answer : direct_track v b t ≡ direct_track v c t
  unfolding direct_track
  same_track_answer =
      same_unless (direct_track_question v b t) (track_values b t) (track_values c t) (λ p.
      cc (same_entry (direct_there v b t (eqb-true _ 0 p)).slot, same_revolutions))
      ∙ ap (λ (q : Fault). unless q (track_values c t)) same_track

  pub same_revolution : (k : ℕ) → direct_revolution v b t k ≡ direct_revolution v c t k
  unfolding direct_revolution
  same_revolution k =
      same_unless (direct_revolution_question v b t k) (revolution_values b t k) (revolution_values c t k) (λ p.
      let held = direct_below v b t k (eqb-true _ 0 p) in
      same_values held.0.slot held.0.entry k held.1)
      ∙ ap (λ (q : Fault). unless q (revolution_values c t k)) (same_question k)

  -- ---- the flux

  module _ (k : ℕ) where
    -- the revolution is refused in both, or found with the same numbers, and its flux lies in both
    pub data Looked : Type 0 where
      neither : Err (direct_revolution_question v b t k) ≡ direct_found v b t k
          → Err (direct_revolution_question v b t k) ≡ direct_found v c t k → Looked
      both : (d : RevolutionData) → Ok d ≡ direct_found v b t k → Ok d ≡ direct_found v c t k → Looked

    looked : Looked
    unfolding direct_found
    looked = by (passes (direct_revolution_question v b t k)) refl
      where
        by : (x : Bool) → passes (direct_revolution_question v b t k) ≡ x → Looked
        by true p =
            let z = eqb-true _ 0 p in
            let held = direct_below v b t k z in
            let zc = ap (λ (q : Fault). q.number) (sym (same_question k)) ∙ z in
            both (data_of b e k) (direct_is_found v b t k z)
            (ap Ok (same_data held.0.slot held.0.entry k held.1) ∙ direct_is_found v c t k zc)
        by false p =
            let n = eqb-false _ 0 p in
            neither (unless_refused (direct_revolution_question v b t k) _ Err refl n)
            (unless_refused (direct_revolution_question v c t k) _ Err (same_question k) n)

    same_start : direct_start v b t k ≡ direct_start v c t k
    same_start = elim looked [ neither x y ↦ ap start_of (sym x ∙ y) | both d x y ↦ ap start_of (sym x ∙ y) ]

    part_size : (d : RevolutionData) (a : List ℕ) → d.offset.0 + 2 * d.words ≤ length a → length (part_of a (Ok d)) ≡ 2 * d.words
    part_size d a h = part_length a d.offset.0 (2 * d.words) h

    same_size : length (direct_part v b t k) ≡ length (direct_part v c t k)
    same_size =
        elim looked [
          | neither x y ↦ ap (λ (r : Result RevolutionData Fault). length (part_of b r)) (sym x) ∙ ap (λ (r : Result RevolutionData Fault). length (part_of c r)) y
          | both d x y ↦
              ap (λ (r : Result RevolutionData Fault). length (part_of b r)) (sym x) ∙ part_size d b (direct_within v b t k d x)
              ∙ sym (part_size d c (direct_within v c t k d y)) ∙ ap (λ (r : Result RevolutionData Fault). length (part_of c r)) y
        ]

    same_part : SameBytes b c (direct_start v b t k) (length (direct_part v b t k)) → direct_part v b t k ≡ direct_part v c t k
    same_part bytes =
        elim looked [
          | neither x y ↦ ap (part_of b) (sym x) ∙ ap (part_of c) y
          | both d x y ↦
              (let start : direct_start v b t k ≡ d.offset.0 = ap start_of (sym x) in
              let size : length (direct_part v b t k) ≡ 2 * d.words =
              ap (λ (r : Result RevolutionData Fault). length (part_of b r)) (sym x) ∙ part_size d b (direct_within v b t k d x) in
              ap (part_of b) (sym x)
              ∙ part_same (2 * d.words) b c d.offset.0 d.offset.0 (direct_within v b t k d x) (direct_within v c t k d y) (λ j l.
              bytes (d.offset.0 + j) (omega arith) (omega arith))
              ∙ ap (part_of c) y)
        ]

  pub same_look : SameLook v t b c
  same_look =
      record {
        track = same_track_answer;
        revolution = same_revolution;
        refuses = same_question;
        start = same_start;
        size = same_size;
        flux = λ k bytes. cc (same_question k, same_start k, same_part k bytes);
      }

pub looks_only : LooksOnly
looks_only = same_look
