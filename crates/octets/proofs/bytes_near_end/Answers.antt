-- The byte put at k is that of the offset and k; the others stay.
use Rattle.std.proofs.Common.{◌≡◌, ◌+◌, ◌-◌, ◌<◌, ℕ, length, List, take, drop, set, get_or, ap, sym, ◌∙◌, arith, length-set, rules, get_or-set_other, get_or-set_same}
use Rattle.std.proofs.lemmas.List.{get_or-drop, get_or_past, length-drop}
use lib.Seq.{take-length}
use Rattle.std.specs.List.{slice_range}
use native.Mathlib.Decide.{ℕ_discrete}
use Rattle.octets.specs.Numbers.{byte_at}
use Rattle.octets.proofs.bytes_near_end.Goals as goal
use Rattle.octets.proofs.bytes_near_end.Goals.{then-k-rest, else-k-rest}

-- what is left from an index on
to_end : (at : ℕ) (xs : List ℕ) → take (length xs - at) (drop at xs) ≡ drop at xs
to_end at xs = ap (λ (n : ℕ). take n (drop at xs)) (sym (length-drop at xs)) ∙ take-length (drop at xs)

-- one more value is put where f has it
put_next : (f : ℕ → ℕ) (at : ℕ) (xs : List ℕ) (k : ℕ) {x : ℕ} → k < length xs → ((j : ℕ) → j < k → get_or xs j 0 ≡ f (at + j)) → x ≡ f (at + k)
    → (j : ℕ) → j < k + 1 → get_or (set xs k x) j 0 ≡ f (at + j)
put_next f at xs k {x} room before here j h =
    elim (ℕ_discrete j k) [
      | yes e ↦ rw e (get_or-set_same xs k x 0 room ∙ here)
      | no n ↦ get_or-set_other xs k j x 0 n ∙ before j (omega arith)
    ]

pub loop-k-preserved : goal.loop-k-preserved
loop-k-preserved g c =
    let l = c.loop-k.invariant in
    let size = l.0 in
    let below = c.loop-k-test.true in
    let room : c.loop-k.k < length c.loop-k.found = omega arith in
    let there : c.in-Some.rest.now ≡ drop c.args.at c.args.bytes.now = let part : c.in-Some.rest.now ≡ slice_range c.args.bytes.now c.args.at (length c.args.bytes.now) = search (rules, c.in-Some.ensures.lookup) in part ∙ to_end c.args.at c.args.bytes.now in
    let here : c.if-k-rest.next ≡ byte_at c.args.bytes.now (c.args.at + c.loop-k.k) =
    (elim c.if-k-rest.branch [ then-k-rest w ↦ w.next-is | else-k-rest w ↦ w.next-is ∙ sym (get_or_past c.in-Some.rest.now c.loop-k.k 0 w.if-k-rest.false) ])
    ∙ ap (λ (b : List ℕ). byte_at b c.loop-k.k) there ∙ get_or-drop c.args.at c.args.bytes.now c.loop-k.k 0 in
    (length-set c.loop-k.found c.loop-k.k c.if-k-rest.next ∙ l.0, put_next (byte_at c.args.bytes.now) c.args.at c.loop-k.found c.loop-k.k room l.1 here)

pub returns-after-loop-k : goal.returns-after-loop-k
returns-after-loop-k g c i h = c.loop-k.invariant.1 i (let size = c.loop-k.invariant.0 in let past = c.loop-k-test.false in omega arith)
