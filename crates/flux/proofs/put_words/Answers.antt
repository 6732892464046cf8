-- Of each time the zero words are written, and then the remainder.
use mathlib.Core.Path.{◌≡◌, refl, sym, ap, ◌∙◌}
use mathlib.Core.List.{List, [], ◌∷◌, ◌++◌, append_assoc}
use Prim.Native.Nat.{ℕ, ◌+◌, ◌*◌, ◌/◌, ◌%◌, ◌-◌, ◌<◌, ◌≤◌}
use native.Mathlib.Omega.{arith}
use lib.ListN.{length, get_or, drop, replicate, length-append, length-replicate}
use borrow.Rule.Slice.PartMut.{put_mid, mid_of, mid_len}
use borrow.Author.Rules.{rules}
use Rattle.std.specs.Int.{w16, to_be_bytes}
use Rattle.octets.specs.Numbers.{be16_bytes}
use Rattle.flux.specs.Coding.{bytes_of}
use Rattle.flux.specs.Reading.{zero_ticks}
use Rattle.flux.specs.Writing.{words_for}
use Rattle.flux.proofs.TimeLaws.{bytes_next, bytes_end}
use Rattle.flux.proofs.Wrote.{Wrote, retell, below_run, put_lent, whole_is}
use Rattle.flux.proofs.put_words.Goals as goal

-- the two bytes of a word, the upper first
upper_first : (w : ℕ) → w < 65_536 → to_be_bytes w16 w ≡ be16_bytes w
upper_first w h = ap (λ (b : ℕ). b ∷ w % 256 ∷ []) (omega arith)

-- at the time of number i of the times ts, whose words go from n on: the zero words are next, then the remainder, and then the words of the later times
module _ (ts : List ℕ) {d₀ d : List ℕ} {n i : ℕ} (there : i < length ts) (room : length (bytes_of (words_for ts)) ≤ length d₀)
    (h : Wrote d₀ d n (bytes_of (words_for (drop i ts))) (bytes_of (words_for ts))) where
  abbrev time : ℕ
  time = get_or ts i 0

  abbrev zeros : List ℕ
  zeros = replicate (2 * (time / zero_ticks)) 0

  abbrev later : List ℕ
  later = bytes_of (words_for (drop (i + 1) ts))

  next : Wrote d₀ d n (zeros ++ (be16_bytes (time % zero_ticks) ++ later)) (bytes_of (words_for ts))
  next = retell (bytes_next ts i there) h

  -- both have room
  fit : n + 2 * (time / zero_ticks) + 2 ≤ length d
  fit =
      let b = below_run (zeros ++ be16_bytes (time % zero_ticks)) later room (retell (sym (append_assoc zeros (be16_bytes (time % zero_ticks)) later)) next) in
      let l = length-append zeros (be16_bytes (time % zero_ticks)) in
      let e = length-replicate {A = ℕ} (2 * (time / zero_ticks)) 0 in
      omega arith

  -- the zero words are written, and the remainder is next
  zeros_put : {m : ℕ} {part : List ℕ} → m ≡ n + 2 * (time / zero_ticks) → part ≡ replicate (length (mid_of n (m - n) d)) 0
      → Wrote d₀ (put_mid n (m - n) d part) m (be16_bytes (time % zero_ticks) ++ later) (bytes_of (words_for ts))
  zeros_put {m} {part} end e =
      let f = fit in
      let l = mid_len n m d (omega arith) in
      let z = length-replicate {A = ℕ} (2 * (time / zero_ticks)) 0 in
      put_lent zeros room next (omega arith) (e ∙ ap (λ (k : ℕ). replicate k 0) (omega arith))

pub slice_bounds-fill-end : goal.slice_bounds-fill-end
slice_bounds-fill-end c = let b = fit c.args.times.now c.loop-time-test.true c.requires c.loop-time.invariant in search rules

pub slice_bounds-copy_from_slice-end : goal.slice_bounds-copy_from_slice-end
slice_bounds-copy_from_slice-end c = let b = fit c.args.times.now c.loop-time-test.true c.requires c.loop-time.invariant in search rules

pub loop-time-preserved : goal.loop-time-preserved
loop-time-preserved c =
    let h = zeros_put c.args.times.now c.loop-time-test.true c.requires c.loop-time.invariant refl (c.fill.ensures.after (λ y e. e)) in
    put_lent (be16_bytes _) c.requires h refl (c.copy_from_slice.ensures.after ∙ c.to_be_bytes.ensures ∙ upper_first _ (omega arith))

pub returns : goal.returns
returns c = whole_is (retell (bytes_end _ _ c.loop-time-test.false) c.loop-time.invariant)
