-- The loop's invariant: storing the entries from sector k on makes what storing all of them makes.
use Prim.Native.Nat.{ℕ, ◌+◌, ◌*◌, ◌≤◌}
use mathlib.Core.Path.{◌≡◌, ap, ◌∙◌}
use native.Mathlib.Omega.{arith}
use lib.ListN.{length}
use lib.Seq.{sets}
use Rattle.copies.specs.Copying.{copied_at}
use Rattle.copies.proofs.CopyLaws.{copy_fits}
use Rattle.dsk_write.specs.Images.{entry_bytes, list_bytes}
use Rattle.dsk_write.proofs.Stores.{store_next, store_end}
use Rattle.dsk_write.proofs.put_list.Goals as goal

pub loop-k-preserved : goal.loop-k-preserved
loop-k-preserved c =
    let a = c.args in
    let l = c.loop-k in
    let entry = entry_bytes a.track a.side a.layout.code l.k in
    let room : a.at + 8 * l.k + 8 ≤ length l.image = omega arith in
    let next : a.at + 8 * l.k + 8 ≡ a.at + 8 * (l.k + 1) = omega arith in
    store_next (entry_bytes a.track a.side a.layout.code) (λ (j : ℕ). a.at + 8 * j) a.layout.sectors a.image.now l.invariant c.loop-k-test.true next
    (c.copy.ensures.out_after ∙ ap (λ (j : ℕ). copied_at l.image (a.at + 8 * j) entry) c.from.ensures ∙ copy_fits l.image entry (a.at + 8 * l.k) room)

pub returns : goal.returns
returns c =
    let a = c.args in
    let l = c.loop-k in
    let first : a.at + 8 * 0 ≡ a.at = omega arith in
    store_end (entry_bytes a.track a.side a.layout.code) (λ (j : ℕ). a.at + 8 * j) a.layout.sectors a.image.now l.invariant c.loop-k-test.false
    ∙ ap (λ (i : ℕ). sets a.image.now i (list_bytes a.layout a.track a.side)) first
