-- Why as many words: a rewrite never makes a revolution longer, so one that got shorter stays so, whatever comes after.
use Prim.Native.Nat.{ℕ, ◌*◌, ◌/◌, ◌<◌, ◌≤◌}
use mathlib.Core.Path.{◌≡◌, refl, ap, ◌∙◌}
use mathlib.Core.List.{List, [], ◌∷◌, ◌++◌}
use mathlib.Core.Bool.{Bool, true, false, ◌&&◌, cond, or-true, and-eq-true_iff}
use native.Mathlib.Omega.{arith}
use lib.ListN.{length}
use lib.Dec.{eqb}
use borrow.Author.Tests.{lt-ltb, eqb-true}
use Rattle.refusals.specs.Refusals.{passes, refuse_if}
use Rattle.scp_fields.specs.declared.Edition.{Edition}
use Rattle.scp_fields.specs.Header.{track_entry}
use Rattle.scp_tracks.specs.Tracks.{count_at}
use Rattle.scp_sharing.specs.RewriteFault.{words_then_shared, rewrite_fault}
use Rattle.scp_sharing.proofs.Asked.{Asked, asked_rest}
use Rattle.scp_sharing.proofs.Accepted.{accepted}
use Rattle.scp_rewrite.specs.Rewriting.{after_rewrite}
use Rattle.scp_rewrite.specs.OneRewrite.{Reading, reading, put}
use Rattle.scp_rewrite.proofs.Kept.{Kept}
use Rattle.scp_rewrite.proofs.Keeping.{same_revolutions, same_entry, opens_kept}
use Rattle.scp_rewrite.proofs.AfterRewrite.{every_rewrite}
use Rattle.scp_book.specs.Book.{Call, ask, rewrite, after, final_bytes, noted}
use Rattle.scp_book.specs.Claim.{Fits, AllFit}
use Rattle.scp_book.proofs.EverySequence.{Held, held_on, step}
use Rattle.scp_book.proofs.Appending.{final_append, fit_append}
use Rattle.scp_undo.specs.Layout.{Each, AsMany}
use Rattle.scp_undo.specs.Undoing.{undo, OnlyAsMany, BackExactly, FewerRefused}
use Rattle.scp_undo.proofs.Restoring.{words_length}
use Rattle.scp_undo.proofs.TakesBack.{undo_fits, takes_back}

-- ---- counts only fall

noted_falls : (b : List ℕ) (c : Call) (t k : ℕ) → (noted b c t k (reading b t k)).count ≤ (reading b t k).count
unfolding noted reading
noted_falls b (ask v q) t k = omega arith
noted_falls b (rewrite v u j d ws) t k = by (passes (rewrite_fault v b u j ws) && (eqb u t && eqb j k)) refl
  where
    by : (x : Bool) → passes (rewrite_fault v b u j ws) && (eqb u t && eqb j k) ≡ x
        → (cond x (put (reading b t k) d ws) (reading b t k)).count ≤ (reading b t k).count
    by true e =
        let ok = (and-eq-true_iff (passes (rewrite_fault v b u j ws)) (eqb u t && eqb j k)).0 e in
        let own = (and-eq-true_iff (eqb u t) (eqb j k)).0 ok.1 in
        let room = (accepted v b u j ws ok.0).room in
        let half : length ws / 2 ≤ count_at b (track_entry b u) j = omega arith in
        rw (← eqb-true u t own.0, ← eqb-true j k own.1) half
    by false e = omega arith

falls : (b : List ℕ) (c : Call) → Fits c → (t k : ℕ) → Held b t k → (reading (after b c) t k).count ≤ (reading b t k).count
falls b c h t k held = rw ((step b c h).notes t k held) (noted_falls b c t k)

held_before : {b q : List ℕ} {t k : ℕ} → Kept b q → Held q t k → Held b t k
held_before {t = t} g h =
    let within = rw g.last at h.within in
    record { within = within; entry = rw (g.entries t within) at h.entry; below = rw g.turns at h.below }

all_fall : (b : List ℕ) (cs : List Call) → AllFit cs → (t k : ℕ) → Held b t k → (reading (final_bytes b cs) t k).count ≤ (reading b t k).count
unfolding final_bytes
all_fall b [] h t k held = omega arith
all_fall b (c ∷ cs) h t k held =
    let first = falls b c h.0 t k held in
    let rest = all_fall (after b c) cs h.1 t k (held_on (step b c h.0).keeps held) in
    omega arith

-- ---- so where no count has fallen, each rewrite had as many words

-- the revolution of an accepted rewrite
own_held : (v : Edition) (b : List ℕ) (t k : ℕ) → Asked v b t k → Held b t k
own_held v b t k s =
    record { within = (s.opens.tracks t s.present.0 s.present.1).to; entry = s.present.1; below = s.below }

-- no count of the bytes b is another in the bytes q
abbrev Counts : List ℕ → List ℕ → Type 0
Counts b q = (t k : ℕ) → Held b t k → (reading q t k).count ≡ (reading b t k).count

call_as_many : (b : List ℕ) (c : Call) → Fits c → Counts b (after b c) → AsMany b c
unfolding after
call_as_many b (ask v q) h same = tt
call_as_many b (rewrite v t k d ws) h same = λ ok.
    let a = accepted v b t k ws ok in
    let even = a.even in
    let put : (reading (after_rewrite v b t k d ws) t k).count ≡ length ws / 2 =
    ap (λ (r : Reading). r.count) ((every_rewrite v b t k d ws h.0).reads ok).own in
    let kept = same t k (own_held v b t k a.asks) in
    omega arith

counts_as_many : (b : List ℕ) (cs ds : List Call) → AllFit cs → AllFit ds → Counts b (final_bytes b (cs ++ ds)) → Each AsMany b cs
unfolding final_bytes
counts_as_many b [] ds f g same = tt
counts_as_many b (c ∷ cs) ds f g same =
    (call_as_many b c f.0 first, counts_as_many (after b c) cs ds f.1 g rest)
  where
    q : List ℕ
    q = after b c

    keeps : Kept b q
    keeps = (step b c f.0).keeps

    -- the counts of q lie between those of b and those at the end
    between : (t k : ℕ) → Held b t k
        → ((reading q t k).count ≡ (reading b t k).count) × ((reading (final_bytes q (cs ++ ds)) t k).count ≡ (reading q t k).count)
    between t k held =
        let more = falls b c f.0 t k held in
        let less = all_fall q (cs ++ ds) (fit_append cs ds f.1 g) t k (held_on keeps held) in
        let ends = same t k held in
        (omega arith, omega arith)

    first : Counts b q
    first t k held = (between t k held).0

    rest : Counts q (final_bytes q (cs ++ ds))
    rest t k held = (between t k (held_before keeps held)).1

pub only_as_many : OnlyAsMany
only_as_many b cs ds fit fits e = counts_as_many b cs ds fit fits (λ t k held. ap (λ (q : List ℕ). (reading q t k).count) e)

pub back_exactly : BackExactly
back_exactly b cs h fit = (
  λ e. only_as_many b cs (undo b cs) fit (undo_fits b cs h fit) (final_append b cs (undo b cs) ∙ e),
  λ many. (takes_back b cs h fit many).bytes,
)

-- ---- one rewrite with fewer words

pub fewer_refused : FewerRefused
unfolding after reading rewrite_fault words_then_shared refuse_if
fewer_refused v b t k d ws small ok less =
    let q = after_rewrite v b t k d ws in
    let a = accepted v b t k ws ok in
    let f = (every_rewrite v b t k d ws small).accepted ok in
    let entry = same_entry v b q t k d ws a f t a.asks.present.0 in
    let count : count_at q (track_entry q t) k ≡ length ws / 2 = rw entry f.count in
    let long : length (reading b t k).words ≡ 2 * count_at b (track_entry b t) k = words_length v b t k a.asks in
    let more : 2 * count_at q (track_entry q t) k < length (reading b t k).words = omega arith in
    let asks : Asked v q t k =
    record {
      opens = opens_kept v b q t k d ws a f;
      present = (a.asks.present.0, rw entry a.asks.present.1);
      below = rw (same_revolutions v b q t k d ws a f) a.asks.below;
    } in
    asked_rest v q t k (words_then_shared v q (track_entry q t) t k (length (reading b t k).words)) asks ∙ simp (lt-ltb _ _ more, or-true)
