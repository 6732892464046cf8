-- The sum is moved by the bytes put less those that were there, which are summed before they go.
use Rattle.std.proofs.Common.{◌≡◌, ℕ, ◌+◌, ◌-◌, length, take, drop, ap, ◌∙◌, arith, rules}
use Rattle.octets.specs.Sums.{byte_sum}
use Rattle.copies.proofs.CopyLaws.{copy_fits}
use Rattle.scp_rewrite.proofs.store.Goals as goal

pub returns : goal.returns
returns c =
    let a = c.args in
    let size : a.at + length a.bytes.now - a.at ≡ length a.bytes.now = omega arith in
    let old = c.byte_sum-old.ensures ∙ ap (λ (n : ℕ). byte_sum (take n (drop a.at a.image.now))) size in
    record {
      bytes = c.copy.ensures.out_after ∙ copy_fits a.image.now a.bytes.now a.at (search rules);
      sum =
          let new = c.byte_sum-new.ensures in
          let below = c.byte_sum-old.type_inv in
          omega arith;
    }
