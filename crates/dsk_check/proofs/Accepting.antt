-- An image is accepted exactly if it obeys: each test of a refusal fails exactly if its rule holds.
use Prim.Native.Nat.{ℕ, ◌+◌, ◌*◌, ◌<◌, ◌≤◌}
use mathlib.Core.Path.{◌≡◌, refl, sym, ap}
use mathlib.Core.List.{List}
use mathlib.Core.Bool.{and-eq-true_iff}
use native.Mathlib.Omega.{arith}
use lib.ListN.{length, drop}
use lib.Dec.{eqb, ltb}
use borrow.Author.Tests.{ltb-false, le-ltb, eqb-true, eq-eqb, not-false}
use Rattle.refusals.specs.Refusals.{Fault, none}
use Rattle.refusals.proofs.Finding.{neither, from_none, none_from, not_refused, pass, both_clear, clear_both, from_clear, clear_from, Clear, clear_first, clear_from_all}
use Rattle.dsk_fields.specs.Fields.{block_text, says_at, info_size, tracks, sides, track_size, block_index, block_of, track_number, size_code, sectors, data_size}
use Rattle.dsk_header.specs.HeaderFault.{head_fault}
use Rattle.dsk_header.proofs.HeaderLaws.{Headed, headed, head_clear}
use Rattle.dsk_check.specs.Faults.{bad_block, larger_code, bad_sectors, bad_data, block_fault_at, block_fault, track_fault, blocks_fault, dsk_fault}
use Rattle.dsk_check.specs.Steps.{Roomy}
use Rattle.dsk_check.specs.Validity.{BlockHolds, Valid, ValidatesExactly}
use Rattle.dsk_fields.proofs.Texts.{begins_part, part_begins}
use Rattle.dsk_fields.proofs.Strides.{stride, block_ends}

-- ---- a block

module _ (b : List ℕ) (e t s i : ℕ) where
  block_good : (block_fault_at b e t s i).number ≡ 0 → BlockHolds b e t s
  unfolding block_fault_at bad_block bad_sectors
  block_good z =
      let mark = not_refused (bad_block b e t s) 32 i _ z in
      let list = not_refused (bad_sectors b e) 33 i _ mark.1 in
      let room = (not_refused (bad_data b e) 34 i none list.1).0 in
      let marks = (and-eq-true_iff (says_at b e block_text) _).0 (not-false _ mark.0) in
      let numbers = (and-eq-true_iff (eqb (track_number b e) t) _).0 marks.1 in
      let count = neither (ltb 29 (sectors b e)) _ list.0 in
      let codes = neither (ltb 6 (size_code b e)) _ count.1 in
      record {
        name = begins_part block_text (drop e b) marks.0;
        track = eqb-true _ t numbers.0;
        side = eqb-true _ s numbers.1;
        count = ltb-false 29 _ count.0;
        code = ltb-false 6 _ codes.0;
        codes = λ k l. ltb-false (size_code b e) _ (from_none (larger_code b e) 0 (sectors b e) codes.1 k (omega arith) (omega arith));
        room = ltb-false (track_size b) _ room;
      }

  good_block : BlockHolds b e t s → (block_fault_at b e t s i).number ≡ 0
  unfolding block_fault_at bad_block bad_sectors
  good_block h =
      let codes = none_from (larger_code b e) 0 (sectors b e) (λ k a z. le-ltb _ _ (h.codes k (omega arith))) in
      pass (bad_block b e t s) _ _ (simp (part_begins block_text (drop e b) h.name, eq-eqb _ _ h.track, eq-eqb _ _ h.side))
      (pass (bad_sectors b e) _ _ (simp (le-ltb _ _ h.count, le-ltb _ _ h.code, codes))
      (pass (bad_data b e) _ none (le-ltb _ _ h.room) refl))

-- ---- all blocks

module _ (b : List ℕ) where
  blocks_good : (blocks_fault b).number ≡ 0 → (t s : ℕ) → t < tracks b → s < sides b → BlockHolds b (block_of b t s) t s
  blocks_good z t s h k =
      let track = from_clear (track_fault b) 0 (tracks b) z t (omega arith) (omega arith) in
      let block = from_clear (block_fault b t) 0 (sides b) track s (omega arith) (omega arith) in
      block_good b (block_of b t s) t s (block_index b t s) block

  good_blocks : ((t s : ℕ) → t < tracks b → s < sides b → BlockHolds b (block_of b t s) t s) → (blocks_fault b).number ≡ 0
  good_blocks hold = clear_from (track_fault b) 0 (tracks b) (λ t a z. clear_from (block_fault b t) 0 (sides b) (λ s c y.
      good_block b (block_of b t s) t s (block_index b t s) (hold t s (omega arith) (omega arith))))

-- ---- the image

module _ (b : List ℕ) where
  pub obeys : (dsk_fault b).number ≡ 0 → Valid b
  unfolding dsk_fault
  obeys z =
      let both = both_clear (head_fault b) (blocks_fault b) z in
      let head = headed b both.0 in
      record {
        sign = head.sign;
        one_or_two = head.one_or_two;
        tracks_least = head.some;
        size_least = head.size;
        whole = head.whole;
        blocks = blocks_good b both.1;
      }

  pub accepts : Valid b → (dsk_fault b).number ≡ 0
  unfolding dsk_fault
  accepts v =
      let head : Headed b = record { sign = v.sign; one_or_two = v.one_or_two; some = v.tracks_least; size = v.size_least; whole = v.whole } in
      clear_both (head_fault b) (blocks_fault b) (head_clear b head) (good_blocks b v.blocks)

  clear_dsk : Clear (dsk_fault b)
  unfolding dsk_fault
  clear_dsk = clear_first (head_fault b) (blocks_fault b) (clear_from_all (track_fault b) 0 (tracks b))

pub validates_exactly : ValidatesExactly
validates_exactly b = (λ e. obeys b (ap (λ (f : Fault). f.number) e), λ v. clear_dsk b (accepts b v))

-- an image whose header is not refused has room for its blocks
pub roomy : (b : List ℕ) → none ≡ head_fault b → Roomy b
roomy b e = let h = headed b (ap (λ (f : Fault). f.number) (sym e)) in record { whole = h.whole; least = h.size }

-- ---- where a block and its sector data lie in an image that is accepted

module _ (b : List ℕ) (v : Valid b) {t s : ℕ} (h : t < tracks b) (k : s < sides b) where
  pub block_within : block_of b t s + track_size b ≤ length b
  block_within = block_ends b v.whole h k

  -- the data of sector n end at or below the end of the block
  pub data_within : (n : ℕ) → n < sectors b (block_of b t s) → block_of b t s + info_size + n * data_size b (block_of b t s) + data_size b (block_of b t s) ≤ block_of b t s + track_size b
  data_within n l =
      let m = stride (data_size b (block_of b t s)) l in
      let r = (v.blocks t s h k).room in
      omega arith
