-- The stores that make each part of the image; and what writing answers and leaves in each of its cases.
use Prim.Native.Nat.{ℕ, ◌+◌, ◌-◌, ◌*◌, ◌/◌, ◌%◌, ◌≤◌}
use mathlib.Core.Path.{◌≡◌, refl, ap, ap₂, ◌∙◌}
use mathlib.Core.List.{List, [], ◌∷◌, ◌++◌}
use native.Mathlib.Omega.{arith}
use lib.ListN.{length, take, drop, replicate, length-replicate, length-drop}
use lib.Seq.{sets, length-take-le}
use Rattle.octets.specs.Numbers.{le_bytes}
use Rattle.copies.specs.Copying.{copied_at}
use Rattle.copies.proofs.CopyLaws.{copy_fits}
use Rattle.dsk_fields.specs.Fields.{info_size, block_text}
use Rattle.dsk_layout.specs.declared.Layout.{Layout}
use Rattle.dsk_layout.specs.Layouts.{track_data, track_length}
use Rattle.dsk_write.specs.Images.{opening_text, geometry_bytes, header_bytes, number_bytes, list_bytes, info_bytes, block_offset, block_bytes}
use Rattle.dsk_write.specs.declared.BlockOffsets.{BlockOffsets}
use Rattle.dsk_write.specs.Steps.{Roomy, Located}
use Rattle.dsk_write.proofs.Stores.{then_put, then_copy}
use Rattle.dsk_write.proofs.Sizes.{header_said, info_said, info_length}

-- xs, and then zeros up to 256 bytes
then_zeros : (d : List ℕ) {e f : List ℕ} (i : ℕ) (xs : List ℕ) (j n : ℕ) → e ≡ sets d i xs → f ≡ copied_at e j (replicate n 0) → i + length xs ≡ j
    → length xs + n ≡ 256 → i + 256 ≤ length d → f ≡ sets d i (xs ++ replicate (info_size - length xs) 0)
then_zeros d i xs j n p q r s h =
    let z = length-replicate {A = ℕ} n 0 in
    let e : n ≡ info_size - length xs = omega arith in
    then_copy d i xs j (replicate n 0) p q r (omega arith) ∙ ap (λ (m : ℕ). sets d i (xs ++ replicate m 0)) e

module _ (d : List ℕ) {e f g h : List ℕ} (room : 256 ≤ length d) where
  pub header_put : (c : List ℕ) (l : Layout) {low high : ℕ} → length c ≡ 14 → low ≡ track_length l % 256 → high ≡ track_length l / 256 % 256
      → e ≡ copied_at d 0 opening_text → f ≡ copied_at e 34 c → g ≡ copied_at f 48 (l.tracks ∷ l.sides ∷ low ∷ high ∷ [])
      → h ≡ copied_at g 52 (replicate 204 0) → h ≡ sets d 0 (header_bytes c l)
  unfolding header_bytes le_bytes
  header_put c l {low} {high} n p q pe pf pg ph =
      let opening : e ≡ sets d 0 opening_text = pe ∙ copy_fits d opening_text 0 (omega arith) in
      let creator : f ≡ sets d 0 (opening_text ++ c) = then_copy d 0 opening_text 34 c opening pf refl (omega arith) in
      let same : l.tracks ∷ l.sides ∷ low ∷ high ∷ [] ≡ geometry_bytes l = ap₂ (λ (x y : ℕ). l.tracks ∷ l.sides ∷ x ∷ y ∷ []) p q in
      let behind : 0 + length (opening_text ++ c) ≡ 48 = omega arith in
      let geometry : g ≡ sets d 0 (opening_text ++ c ++ geometry_bytes l) =
      then_copy d 0 (opening_text ++ c) 48 (geometry_bytes l) creator (pg ∙ ap (copied_at f 48) same) behind (omega arith) in
      let said = header_said c l n in
      then_zeros d 0 (opening_text ++ c ++ geometry_bytes l) 52 204 geometry ph (omega arith) (omega arith) (omega arith)

-- the Track Information Block
module _ (d : List ℕ) {e f g h : List ℕ} (at : ℕ) (room : at + 256 ≤ length d) where
  pub info_put : (l : Layout) (t s : ℕ) {used : ℕ} → l.sectors ≤ 29 → used ≡ 24 + 8 * l.sectors
      → e ≡ copied_at d at (block_text ++ (0 ∷ 0 ∷ 0 ∷ 0 ∷ [])) → f ≡ copied_at e (at + 16) (number_bytes l t s)
      → g ≡ sets f (at + 24) (list_bytes l t s) → h ≡ copied_at g (at + used) (replicate (256 - used) 0)
      → h ≡ sets d at (info_bytes l t s)
  unfolding info_bytes
  info_put l t s {used} few u pe pf pg ph =
      let head : List ℕ = block_text ++ (0 ∷ 0 ∷ 0 ∷ 0 ∷ []) in
      let name : e ≡ sets d at head = pe ∙ copy_fits d head at (omega arith) in
      let numbers : f ≡ sets d at (head ++ number_bytes l t s) = then_copy d at head (at + 16) (number_bytes l t s) name pf refl (omega arith) in
      let listed : g ≡ sets d at (head ++ number_bytes l t s ++ list_bytes l t s) =
      then_put d at (head ++ number_bytes l t s) (at + 24) (list_bytes l t s) numbers pg refl in
      let size = info_said l t s in
      let behind : at + length (head ++ number_bytes l t s ++ list_bytes l t s) ≡ at + used = omega arith in
      let whole : length (head ++ number_bytes l t s ++ list_bytes l t s) + (256 - used) ≡ 256 = omega arith in
      then_zeros d at (head ++ number_bytes l t s ++ list_bytes l t s) (at + used) (256 - used) listed ph behind whole room

-- a block and its data
module _ (d : List ℕ) {e f : List ℕ} (l : Layout) (content : List ℕ) (t s : ℕ) where
  pub block_put : {o : BlockOffsets} → Roomy l (length content) (length d) → Located l t s o
      → e ≡ sets d o.block (info_bytes l t s) → f ≡ copied_at e (o.block + info_size) (take (o.content + o.size - o.content) (drop o.content content))
      → f ≡ sets d (block_offset l t s) (block_bytes l content t s)
  unfolding block_bytes
  block_put {o} roomy located pe pf =
      let i = t * l.sides + s in
      let n = length-drop o.content content in
      let size : o.content + o.size - o.content ≡ track_data l = omega (arith, located.size) in
      let part : length (take (track_data l) (drop o.content content)) ≡ track_data l =
      length-take-le (track_data l) (drop o.content content) (omega (arith, roomy.all, located.within)) in
      let info = info_length l t s roomy.few in
      let both : f ≡ sets d o.block (info_bytes l t s ++ take (track_data l) (drop o.content content)) =
      then_copy d o.block (info_bytes l t s) (o.block + info_size) (take (track_data l) (drop o.content content)) pe
      (pf ∙ ap (λ (x : ℕ). copied_at e (o.block + info_size) (take x (drop o.content content))) size) (omega arith) (omega (arith, roomy.room, located.room)) in
      both ∙ ap (λ (x : ℕ). sets d x (info_bytes l t s ++ take (track_data l) (drop o.content content))) located.block
      ∙ ap (λ (x : ℕ). sets d (block_offset l t s) (info_bytes l t s ++ take (track_data l) (drop x content))) located.content
