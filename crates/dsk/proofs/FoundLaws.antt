-- What finding a block or a sector says: where it is found its numbers are the definition's, and its data lie in its block and in the image.
use Prim.Native.Nat.{ℕ, ◌+◌, ◌<◌, ◌≤◌}
use mathlib.Core.Path.{◌≡◌, refl, sym, ap, ◌∙◌}
use mathlib.Core.List.{List}
use mathlib.Core.Bool.{true, ◌||◌}
use native.Mathlib.Omega.{arith}
use lib.ListN.{length, take, drop, length-drop}
use lib.Seq.{length-take-le}
use lib.Dec.{leb}
use borrow.Author.Tests.{eq-eqb, lt-leb, le-leb, leb-false}
use Rattle.std.specs.Prelude.{Result, Ok, Err}
use Rattle.refusals.specs.Refusals.{Fault}
use Rattle.refusals.specs.declared.Refusal.{Refusal}
use Rattle.refusals.specs.Refusals.{none, refusal, refuse_if, in_table}
use Rattle.refusals.proofs.Finding.{not_refused, is_refusal}
use Rattle.refusals.proofs.Answers.{unless_refused, unless_found}
use Rattle.dsk_fields.specs.Fields.{info_size, tracks, sides, track_size, block_of, sectors, data_size, data_at}
use Rattle.dsk_fields.proofs.Parts.{info_byte}
use Rattle.dsk_check.specs.Faults.{dsk_fault}
use Rattle.dsk_check.proofs.Results.{refuses, passed_on, was_found, was_refused}
use Rattle.dsk_check.proofs.Accepting.{obeys, accepts, block_within, data_within}
use Rattle.dsk.specs.Questions.{block_question, sector_question}
use Rattle.dsk.specs.Answers.{validate_answer, found_block, track_block, block_answer, sector_info, sector_answer, part_of, start_of}
use Rattle.dsk.specs.Theorems.{AcceptsExactly, DataHolds, DataWhole}
use Rattle.dsk.specs.declared.SectorInfo.{SectorInfo}
use Rattle.dsk.proofs.Asking.{BlockThere, then_check, then_absent, then_rest, block_passes, there, refused_alike}

-- ---- a block

module _ (b : List ℕ) (t s : ℕ) where
  -- its Track Information Block lies in the image
  pub info_within : BlockThere b t s → block_of b t s + info_size ≤ length b
  info_within h =
      let v = obeys b h.accepted in
      let w = block_within b v h.track h.side in
      let z = v.size_least in
      omega arith

  -- a block that is found is there, at its offset
  pub record FoundAt (e : ℕ) : Type 0 where
    pub present : BlockThere b t s
    pub same : e ≡ block_of b t s

  found_at : {e : ℕ} → Ok e ≡ found_block b t s → FoundAt e
  unfolding found_block
  found_at {e} h = let f = was_found (block_question b t s) _ h in record { present = there b t s none f.1; same = f.0 }

  pub found_within : {e : ℕ} → Ok e ≡ found_block b t s → e + info_size ≤ length b
  found_within h =
      let f = found_at h in
      let w = info_within f.present in
      let e = f.same in
      omega arith

  -- what finding it answers, by the tests
  pub find_refused : (r : Refusal) → in_table r ≡ dsk_fault b → Err (in_table r) ≡ found_block b t s
  unfolding found_block
  find_refused r e = passed_on (block_question b t s) _ r (then_check b t s none e (refuses r refl))

  pub find_absent : none ≡ dsk_fault b → (t < tracks b → sides b ≤ s) → Err (refusal 13 0) ≡ found_block b t s
  unfolding found_block
  find_absent z h =
      unless_refused (block_question b t s) _ Err (then_absent b t s none (ap (λ (f : Fault). f.number) (sym z)) (absent h)) (is_refusal 12 refl)
    where
      absent : (t < tracks b → sides b ≤ s) → leb (tracks b) t || leb (sides b) s ≡ true
      absent h = grind arith

  pub find_there : none ≡ dsk_fault b → t < tracks b → s < sides b → Ok (block_of b t s) ≡ found_block b t s
  unfolding found_block
  find_there z h k =
      let here : BlockThere b t s = record { accepted = ap (λ (f : Fault). f.number) (sym z); track = h; side = k } in
      unless_found (block_question b t s) _ Err (block_passes b t s here) refl

  -- what the call on it answers, by what finding it answers
  pub block_refused : {f : Fault} → Err f ≡ found_block b t s → Err f ≡ block_answer b t s
  unfolding found_block block_answer
  block_refused h = let f = was_refused (block_question b t s) _ h in unless_refused (block_question b t s) _ Err f.0 (λ z. f.1 (ap (λ (x : Fault). x.number) (sym f.0) ∙ z))

  pub block_is : {e : ℕ} → Ok e ≡ found_block b t s → Ok (track_block (take info_size (drop e b)) 0) ≡ block_answer b t s
  unfolding block_answer
  block_is {e} h =
      let f = found_at h in
      let own : track_block (take info_size (drop e b)) 0 ≡ track_block b e =
      cc (info_byte b e 0x14 (omega arith), info_byte b e 0x15 (omega arith), info_byte b e 0x16 (omega arith), info_byte b e 0x17 (omega arith)) in
      unless_found (block_question b t s) _ Err (block_passes b t s f.present) (ap Ok (own ∙ ap (track_block b) f.same))

-- ---- a sector

module _ (b : List ℕ) (t s k : ℕ) where
  -- the sector is there
  pub record SectorThere : Type 0 where
    pub block : BlockThere b t s
    pub below : k < sectors b (block_of b t s)

  pub sector_passes : SectorThere → (sector_question b t s k).number ≡ 0
  unfolding refuse_if
  sector_passes h =
      ap (λ (x : Fault). x.number) (sym (then_rest b t s _ h.block)) ∙ simp (lt-leb (sectors b (block_of b t s)) k h.below)

  pub sector_there : (sector_question b t s k).number ≡ 0 → SectorThere
  sector_there z =
      let h = there b t s _ z in
      let rest = ap (λ (x : Fault). x.number) (then_rest b t s _ h) ∙ z in
      record { block = h; below = leb-false (sectors b (block_of b t s)) k (not_refused (leb (sectors b (block_of b t s)) k) 13 0 none rest).0 }

  -- its index is small, and its data start in the image
  pub few : SectorThere → k < 29
  few h =
      let block = h.block in
      let count = ((obeys b block.accepted).blocks t s block.track block.side).count in
      let l = h.below in
      omega arith

  -- its data end in the image
  data_ends : SectorThere → data_at b (block_of b t s) k + data_size b (block_of b t s) ≤ block_of b t s + track_size b
  data_ends h =
      let block = h.block in
      data_within b (obeys b block.accepted) block.track block.side k h.below

  block_ends : SectorThere → block_of b t s + track_size b ≤ length b
  block_ends h =
      let block = h.block in
      block_within b (obeys b block.accepted) block.track block.side

  data_starts : {e : ℕ} → SectorThere → e ≡ block_of b t s → data_at b e k ≤ length b
  data_starts {e} h q =
      let inside = data_ends h in
      let within = block_ends h in
      let starts : data_at b (block_of b t s) k ≤ length b = omega arith in
      rw q starts

  pub sector_within : {d : SectorInfo} → Ok d ≡ sector_answer b t s k → d.offset + d.length ≤ length b
  unfolding sector_answer sector_info
  sector_within {d} h =
      let f = was_found (sector_question b t s k) _ h in
      let here = sector_there f.1 in
      let inside = data_ends here in
      let within = block_ends here in
      let offset = ap (λ (x : SectorInfo). x.offset) f.0 in
      let size = ap (λ (x : SectorInfo). x.length) f.0 in
      omega arith

  -- what the call on it answers, by what finding its block answers
  pub sector_refused : {f : Fault} → Err f ≡ found_block b t s → Err f ≡ sector_answer b t s k
  unfolding found_block sector_answer
  sector_refused {f} h =
      let q = was_refused (block_question b t s) _ h in
      unless_refused (sector_question b t s k) _ Err (q.0 ∙ refused_alike b t s _ q.1) (λ z. q.1 (ap (λ (x : Fault). x.number) (sym q.0) ∙ z))

  pub no_sector : {e : ℕ} → Ok e ≡ found_block b t s → sectors b e ≤ k → Err (refusal 14 0) ≡ sector_answer b t s k
  unfolding sector_answer
  no_sector {e} h l =
      let f = found_at b t s h in
      let found : refusal 14 0 ≡ refuse_if (leb (sectors b (block_of b t s)) k) (refusal 14 0) none =
      unfold refuse_if in sym (simp (le-leb (sectors b (block_of b t s)) k (rw f.same at l))) in
      unless_refused (sector_question b t s k) _ Err (found ∙ then_rest b t s _ f.present) (is_refusal 13 refl)

  here : {e : ℕ} → Ok e ≡ found_block b t s → k < sectors b e → SectorThere
  here h l = let f = found_at b t s h in record { block = f.present; below = rw f.same at l }

  pub sector_read : {e : ℕ} → Ok e ≡ found_block b t s → k < sectors b e
      → (e + info_size ≤ length b) × (data_at b e k ≤ length b) × (k < 29)
  sector_read h l = (found_within b t s h, data_starts (here h l) (found_at b t s h).same, few (here h l))

  pub sector_is : {e : ℕ} → Ok e ≡ found_block b t s → k < sectors b e → Ok (sector_info b e k) ≡ sector_answer b t s k
  unfolding sector_answer
  sector_is h l =
      unless_found (sector_question b t s k) _ Err (sector_passes (here h l)) (ap (λ (e : ℕ). Ok (sector_info b e k)) (found_at b t s h).same)

  pub sector_found : SectorThere → sector_answer b t s k ≡ Ok (sector_info b (block_of b t s) k)
  unfolding sector_answer
  sector_found h = simp (eq-eqb (sector_question b t s k).number 0 (sector_passes h))

  -- a part of n bytes from i on, which lie in the image
  part_length : (i n : ℕ) → i + n ≤ length b → length (take n (drop i b)) ≡ n
  part_length i n h =
      let l = length-drop i b in
      let room : n ≤ length (drop i b) = omega arith in
      length-take-le n (drop i b) room

  pub data_holds : (sector_question b t s k).number ≡ 0 → DataHolds b t s k
  unfolding sector_info
  data_holds z =
      let h = sector_there z in
      let inside = data_ends h in
      let within = block_ends h in
      let ends : data_at b (block_of b t s) k + data_size b (block_of b t s) ≤ length b = omega arith in
      record {
        start = ap start_of (sector_found h);
        behind = omega arith;
        inside = inside;
        within = within;
        whole = ap (λ (x : Result SectorInfo Fault). length (part_of b x)) (sector_found h) ∙ part_length (data_at b (block_of b t s) k) (data_size b (block_of b t s)) ends;
      }

pub data_whole : DataWhole
data_whole b t s k = data_holds b t s k

-- ---- validating

pub accepts_exactly : AcceptsExactly
unfolding validate_answer
accepts_exactly b = (
  λ h. obeys b (was_found (dsk_fault b) _ (sym h)).1,
  λ v. simp (eq-eqb (dsk_fault b).number 0 (accepts b v)),
)
