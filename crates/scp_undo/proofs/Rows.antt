-- Rewrites as rows: row i tells replay the i-th of them, as its track and revolution are there and its duration has 32 bits.
use Prim.Native.Nat.{ℕ, zero, suc, ◌+◌, ◌*◌, ◌%◌, ◌<◌, ◌≤◌}
use mathlib.Core.Path.{◌≡◌, refl, ap, ap₂, ◌∙◌}
use mathlib.Core.List.{List, [], ◌∷◌, ◌++◌, append_assoc}
use mathlib.Core.Bool.{Bool, true, false, cond}
use native.Mathlib.Omega.{arith}
use lib.ListN.{length, take, get_or, length-append}
use lib.Seq.{get_or-append-add, drop-append_seam, take-append_seam}
use borrow.Author.Tests.{le-leb}
use Rattle.octets.specs.Numbers.{Octets}
use Rattle.refusals.specs.Refusals.{passes}
use Rattle.scp_fields.specs.declared.Edition.{Edition}
use Rattle.scp_fields.specs.declared.Edition.TheVariants.{V1_4, V1_6}
use Rattle.scp_fields.specs.Editions.{edition_of}
use Rattle.scp_fields.proofs.EditionLaws.{slots_most}
use Rattle.scp_sharing.specs.RewriteFault.{rewrite_fault}
use Rattle.scp_sharing.proofs.Accepted.{accepted}
use Rattle.copies.specs.Copying.{part}
use Rattle.scp_book.specs.Book.{Call, ask, rewrite, after}
use Rattle.scp_book.specs.Claim.{Fits, AllFit}
use Rattle.scp_book.proofs.EverySequence.{step}
use Rattle.scp_book.proofs.Appending.{fit_append}
use Rattle.sequence.specs.Calls.{call_size, capped, field, call_at, calls_from}
use Rattle.sequence.proofs.CallLaws.{call_rewrite}
use Rattle.scp_undo.specs.Undoing.{put_back, undo_of, undo, made_of, made}
use Rattle.scp_undo.specs.Replaying.{number_of, rewrite_rows, rewrite_words, HasRows, UndoHasRows}
use Rattle.scp_undo.proofs.TakesBack.{back_fits, undo_fits}

-- ---- rewrites that a row holds

-- A rewrite whose numbers have 32 bits.
abbrev Narrow : Call → Type 0
Narrow (ask v q) = ⊥
Narrow (rewrite v t k d ws) = (t ≤ 4_294_967_295) × (k ≤ 4_294_967_295) × (d < 4_294_967_296)

abbrev AllNarrow : List Call → Type 0
AllNarrow [] = Unit {0}
AllNarrow (c ∷ cs) = Narrow c × AllNarrow cs

narrow_append : (cs ds : List Call) → AllNarrow cs → AllNarrow ds → AllNarrow (cs ++ ds)
narrow_append [] ds f g = g
narrow_append (c ∷ cs) ds f g = (f.0, narrow_append cs ds f.1 g)

-- an accepted rewrite's are, and so those of what takes it back
accepted_narrow : (v : Edition) (b : List ℕ) (t k d : ℕ) (ws : List ℕ) → Octets b → passes (rewrite_fault v b t k ws) ≡ true
    → d < 4_294_967_296 → Narrow (rewrite v t k d ws)
accepted_narrow v b t k d ws h ok small =
    let asks = (accepted v b t k ws ok).asks in
    let slot = asks.present.0 in
    let most = slots_most v in
    let below = asks.below in
    let turns = h 5 in
    (omega arith, omega arith, small)

module _ (b : List ℕ) (h : Octets b) where
  of_narrow : (c : Call) → Fits c → AllNarrow (undo_of b c) × (AllNarrow (made_of b c) × AllFit (made_of b c))
  unfolding undo_of made_of
  of_narrow (ask v q) f = (tt, (tt, tt))
  of_narrow (rewrite v t k d ws) f = by (passes (rewrite_fault v b t k ws)) refl
    where
      by : (x : Bool) → passes (rewrite_fault v b t k ws) ≡ x
          → AllNarrow (cond x (put_back v b t k ∷ []) [])
          × (AllNarrow (cond x (rewrite v t k d ws ∷ []) []) × AllFit (cond x (rewrite v t k d ws ∷ []) []))
      by true e =
          let back = back_fits v b t k h in
          ((accepted_narrow v b t k _ ws h e back.0, tt), ((accepted_narrow v b t k d ws h e f.0, tt), (f, tt)))
      by false e = (tt, (tt, tt))

all_narrow : (b : List ℕ) (cs : List Call) → Octets b → AllFit cs → AllNarrow (undo b cs) × (AllNarrow (made b cs) × AllFit (made b cs))
unfolding undo made
all_narrow b [] h f = (tt, (tt, tt))
all_narrow b (c ∷ cs) h f =
    let one = of_narrow b h c f.0 in
    let rest = all_narrow (after b c) cs ((step b c f.0).keeps.octets h) f.1 in (
      narrow_append (undo (after b c) cs) (undo_of b c) rest.0 one.0,
      (narrow_append (made_of b c) (made (after b c) cs) one.1.0 rest.1.0, fit_append (made_of b c) (made (after b c) cs) one.1.1 rest.1.1),
    )

-- ---- one row

edition_named : (v : Edition) → edition_of (number_of v) ≡ v
unfolding edition_of number_of
edition_named V1_4 = refl
edition_named V1_6 = refl

within : (n : ℕ) → n ≤ 4_294_967_295 → capped n ≡ n
within n h = simp (le-leb n 4_294_967_295 h)

-- row i, with the rows before it and those behind it, and its words with those before and behind them
module _ (v : Edition) (t k d : ℕ) (ws before behind earlier later : List ℕ) (i : ℕ) (at : length before ≡ call_size * i) where
  abbrev rows : List ℕ
  rows = before ++ ((8 ∷ t ∷ k ∷ d ∷ length earlier ∷ length ws ∷ number_of v ∷ []) ++ behind)

  abbrev all : List ℕ
  all = earlier ++ (ws ++ later)

  number : (j : ℕ) → field rows i j ≡ get_or ((8 ∷ t ∷ k ∷ d ∷ length earlier ∷ length ws ∷ number_of v ∷ []) ++ behind) j 0
  number j = rw (← at) (get_or-append-add before _ j 0)

  its_words : part all (field rows i 4) (field rows i 5) ≡ ws
  its_words =
      rw (number 4, number 5) (ap (take (length ws)) (drop-append_seam earlier (ws ++ later)) ∙ take-append_seam ws later)

  row_tells : Narrow (rewrite v t k d ws) → call_at rows all i ≡ rewrite v t k d ws
  row_tells h =
      let kind : get_or rows (call_size * i) 0 ≡ 8 = rw (← at) (ap (λ (j : ℕ). get_or rows j 0) (omega arith) ∙ get_or-append-add before _ 0 0) in
      let edition : edition_of (field rows i 6) ≡ v = ap edition_of (number 6) ∙ edition_named v in
      let track : capped (field rows i 1) ≡ t = ap (λ (n : ℕ). capped n) (number 1) ∙ within t h.0 in
      let revolution : capped (field rows i 2) ≡ k = ap (λ (n : ℕ). capped n) (number 2) ∙ within k h.1 in
      let small = h.2 in
      let modulo : d % 4_294_967_296 ≡ d = omega arith in
      let duration : field rows i 3 % 4_294_967_296 ≡ d = ap (λ (n : ℕ). n % 4_294_967_296) (number 3) ∙ modulo in
      call_rewrite rows all i kind ∙ cc (edition, track, revolution, duration, its_words)

-- ---- all rows

rows_tell : (cs : List Call) (before earlier : List ℕ) (i : ℕ) → length before ≡ call_size * i → AllNarrow cs
    → calls_from (before ++ rewrite_rows (length earlier) cs) (earlier ++ rewrite_words cs) i (length cs) ≡ cs
unfolding calls_from rewrite_rows rewrite_words
rows_tell [] before earlier i at h = refl
rows_tell (ask v q ∷ cs) before earlier i at h = absurd h.0
rows_tell (rewrite v t k d ws ∷ cs) before earlier i at h =
    let row : List ℕ = 8 ∷ t ∷ k ∷ d ∷ length earlier ∷ length ws ∷ number_of v ∷ [] in
    let size : length (before ++ row) ≡ call_size * (i + 1) = length-append before row ∙ (omega arith) in
    let more = length-append earlier ws in
    let rest = rows_tell cs (before ++ row) (earlier ++ ws) (i + 1) size h.1 in
    let behind = rewrite_rows (length earlier + length ws) cs in
    let first = row_tells v t k d ws before behind earlier (rewrite_words cs) i at h.0 in
    ap₂ (λ (c : Call) (ds : List Call). c ∷ ds) first (rw (more, append_assoc before row behind, append_assoc earlier ws (rewrite_words cs)) at rest)

-- seven numbers each
rows_length : (start : ℕ) (cs : List Call) → AllNarrow cs → length (rewrite_rows start cs) ≡ call_size * length cs
unfolding rewrite_rows
rows_length start [] h = refl
rows_length start (ask v q ∷ cs) h = absurd h.0
rows_length start (rewrite v t k d ws ∷ cs) h = let rest = rows_length (start + length ws) cs h.1 in omega arith

-- ---- how large their numbers are

octets_append : (a b : List ℕ) → Octets a → Octets b → Octets (a ++ b)
octets_append [] b f g i = g i
octets_append (x ∷ a) b f g zero = f zero
octets_append (x ∷ a) b f g (suc i) = octets_append a b (λ j. f (suc j)) g i

words_octets : (cs : List Call) → AllFit cs → Octets (rewrite_words cs)
unfolding rewrite_words
words_octets [] f i = omega arith
words_octets (ask v q ∷ cs) f i = words_octets cs f.1 i
words_octets (rewrite v t k d ws ∷ cs) f i = octets_append ws (rewrite_words cs) f.0.1 (words_octets cs f.1) i

-- every number of a list has 64 bits
abbrev Wide : List ℕ → Type 0
Wide [] = Unit {0}
Wide (x ∷ xs) = (x < 18_446_744_073_709_551_616) × Wide xs

wide_at : (xs : List ℕ) → Wide xs → (i : ℕ) → get_or xs i 0 < 18_446_744_073_709_551_616
wide_at [] f i = omega arith
wide_at (x ∷ xs) f zero = f.0
wide_at (x ∷ xs) f (suc i) = wide_at xs f.1 i

number_wide : (v : Edition) → number_of v < 18_446_744_073_709_551_616
unfolding number_of
number_wide V1_4 = omega arith
number_wide V1_6 = omega arith

rows_wide : (start : ℕ) (cs : List Call) → AllNarrow cs → start + length (rewrite_words cs) < 18_446_744_073_709_551_616
    → Wide (rewrite_rows start cs)
unfolding rewrite_rows rewrite_words
rows_wide start [] h m = tt
rows_wide start (ask v q ∷ cs) h m = absurd h.0
rows_wide start (rewrite v t k d ws ∷ cs) h m =
    let size = length-append ws (rewrite_words cs) in
    let track = h.0.0 in
    let revolution = h.0.1 in
    let duration = h.0.2 in
    let rest = rows_wide (start + length ws) cs h.1 (omega arith) in
    (omega arith, (omega arith, (omega arith, (omega arith, (omega arith, (omega arith, (number_wide v, rest)))))))

-- ---- what takes calls back

has_rows : (cs : List Call) → AllNarrow cs → AllFit cs → HasRows cs
has_rows cs narrow fit =
    let size = rows_length 0 cs narrow in
    record {
      calls = ap (calls_from (rewrite_rows 0 cs) (rewrite_words cs) 0) (omega arith) ∙ rows_tell cs [] [] 0 refl narrow;
      words = words_octets cs fit;
      numbers = λ few. wide_at (rewrite_rows 0 cs) (rows_wide 0 cs narrow (omega arith));
    }

pub undo_has_rows : UndoHasRows
undo_has_rows b cs h fit =
    let narrow = all_narrow b cs h fit in
    let back = undo_fits b cs h fit in (
      has_rows (undo b cs) narrow.0 back,
      has_rows (made b cs ++ undo b cs) (narrow_append (made b cs) (undo b cs) narrow.1.0 narrow.0)
          (fit_append (made b cs) (undo b cs) narrow.1.1 back),
    )
