-- The distance of the stored checksum from the true sum: moving the one by the change of the other keeps it, and it is 0 exactly if
-- they are the same, as both are below 2^32.
use Rattle.std.proofs.Common.{◌≡◌, ℕ, ◌+◌, ◌-◌, ◌%◌, ◌<◌, ◌↔◌, List, arith}
use Rattle.octets.specs.Numbers.{Octets}
use Rattle.octets.proofs.Numbers.{le_bound}
use Rattle.scp_fields.specs.Header.{checksum_at, stored_sum, true_sum}
use Rattle.scp_rewrite.specs.Rewriting.{moved}
use Rattle.scp_rewrite.specs.OneRewrite.{distance}

true_bound : (b : List ℕ) → true_sum b < 4_294_967_296
unfolding true_sum
true_bound b = omega arith

moved_distance : (s x y : ℕ) → x < 4_294_967_296 → y < 4_294_967_296
    → (moved s x y + 4_294_967_296 - x) % 4_294_967_296 ≡ (s + 4_294_967_296 - y) % 4_294_967_296
moved_distance s x y h l = omega arith

pub distance_kept : (b q : List ℕ) → stored_sum q ≡ moved (stored_sum b) (true_sum q) (true_sum b) → distance q ≡ distance b
unfolding distance
distance_kept b q e = rw e (moved_distance (stored_sum b) (true_sum q) (true_sum b) (true_bound q) (true_bound b))

pub sound_distance : (b : List ℕ) → Octets b → (stored_sum b ≡ true_sum b) ↔ (distance b ≡ 0)
unfolding distance
sound_distance b h =
    let stored : stored_sum b < 4_294_967_296 = le_bound 4 b checksum_at h in
    let true-sum = true_bound b in
    (λ e. omega arith, λ e. omega arith)
