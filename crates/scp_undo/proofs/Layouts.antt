-- A rewrite with as many words as its revolution holds keeps the layout. It is used by its frame alone: no entry, offset or count moves, its own
-- count being set to what it was; what is claimed is made of these, and of the strings, which are claimed themselves.
use Prim.Native.Nat.{ℕ, zero, suc, ◌+◌, ◌*◌, ◌<◌, ◌≤◌}
use mathlib.Core.Path.{◌≡◌, refl, sym, ap, subst, ◌∙◌}
use mathlib.Core.Logic.{◌↔◌}
use mathlib.Core.List.{List, [], ◌∷◌}
use mathlib.Core.Bool.{Bool, true, false, ◌&&◌, ◌||◌, cond}
use native.Mathlib.Decide.{ℕ_discrete}
use native.Mathlib.Omega.{arith}
use lib.ListN.{length}
use lib.Dec.{eqb, leb}
use borrow.Author.Tests.{leb-false, eqb-false, eq-eqb}
use Rattle.refusals.specs.Refusals.{Fault, none, refusal, passes, refuse_if, first_of}
use Rattle.scp_fields.specs.declared.Edition.{Edition}
use Rattle.scp_fields.specs.Editions.{slots}
use Rattle.scp_fields.specs.Header.{revolutions, has_footer, track_entry}
use Rattle.scp_fields.specs.Footer.{string_slots, string_entry}
use Rattle.scp_tracks.specs.Tracks.{record_offset, revolution_at, count_at, flux_at}
use Rattle.scp_open.specs.Opening.{open_fault}
use Rattle.scp_open.proofs.Opens.{opens_exactly}
use Rattle.scp_lookup.specs.Questions.{track_then}
use Rattle.scp_sharing.specs.declared.Extent.{Extent}
use Rattle.scp_sharing.specs.declared.Stand.{Stand}
use Rattle.scp_sharing.specs.Extents.{extent, between, meets, any_of, joined}
use Rattle.scp_sharing.specs.Claims.{flux_extent, stand_at, hit, header_claims, flux_claim, flux_claims, track_claim, track_claim_at, track_claims, string_claim, string_claim_at, string_claims, footer_claims, claims, shared}
use Rattle.scp_sharing.specs.Sharing.{Present, ClaimedTwice}
use Rattle.scp_sharing.specs.RewriteFault.{words_then_shared, rewrite_fault}
use Rattle.scp_sharing.proofs.SharedBytes.{shared_exactly}
use Rattle.scp_sharing.proofs.Accepted.{Accepted, accepted}
use Rattle.scp_rewrite.specs.Rewriting.{after_rewrite}
use Rattle.scp_rewrite.specs.OneRewrite.{reading, Rewrites, RewriteDoes}
use Rattle.scp_rewrite.proofs.Keeping.{same_has_footer, same_revolutions, same_entry, same_string, same_length, same_offset, same_count, opens_kept}
use Rattle.scp_rewrite.proofs.AfterRewrite.{every_rewrite}
use Rattle.scp_book.specs.Book.{Call, ask, rewrite, after, final_bytes}
use Rattle.scp_book.specs.Claim.{Fits, Names}
use Rattle.scp_undo.specs.Layout.{AsMany, SameLayout, LayoutStays}

-- ---- lists of extents

joined_same : (f g : ℕ → List Extent) (i n : ℕ) → ((j : ℕ) → i ≤ j → j < i + n → f j ≡ g j) → joined f i n ≡ joined g i n
unfolding joined
joined_same f g i zero h = refl
joined_same f g i (suc n) h =
    cc (h i (omega arith) (omega arith), joined_same f g (i + 1) n (λ j l m. h j (omega arith) (omega arith)))

-- A rewrite of the numbers at file offset i and of the flux x.
abbrev stand_on : ℕ → Extent → Stand
stand_on i x = record { numbers = extent i 8; flux = x }

-- ---- a chain of tests

-- what refuses a call on a revolution of an image that opens: its track is above the last or absent, it is beyond the last, or what comes after
abbrev chain : Bool → Bool → Bool → Fault → Fault
chain high absent beyond rest = refuse_if high (refusal 13 0) (refuse_if absent (refusal 13 0) (refuse_if beyond (refusal 14 0) rest))

chain_same : (high absent was beyond : Bool) (r s : Fault) → (high ≡ false → absent ≡ was)
    → (high ≡ false → was ≡ false → beyond ≡ false → r ≡ s) → chain high absent beyond r ≡ chain high was beyond s
unfolding refuse_if
chain_same true absent was beyond r s e h = refl
chain_same false absent true beyond r s e h = rw (e refl)
chain_same false absent false true r s e h = rw (e refl)
chain_same false absent false false r s e h = rw (e refl) (h refl refl refl)

-- ---- one accepted rewrite

module _ (v : Edition) (b q : List ℕ) (t k d : ℕ) (ws : List ℕ) (a : Accepted v b t k ws) (f : Rewrites b q t k d ws)
    (same : length ws ≡ 2 * count_at b (track_entry b t) k) where
  turns : revolutions q ≡ revolutions b
  turns = same_revolutions v b q t k d ws a f

  entry : (u : ℕ) → u < slots v → track_entry q u ≡ track_entry b u
  entry = same_entry v b q t k d ws a f

  offset : (u j : ℕ) → Present v b u → j < revolutions b → flux_at q (track_entry b u) j ≡ flux_at b (track_entry b u) j
  offset = same_offset v b q t k d ws a f

  count : (u j : ℕ) → Present v b u → j < revolutions b → count_at q (track_entry b u) j ≡ count_at b (track_entry b u) j
  count u j p l =
      elim (ℕ_discrete u t) [
        | yes x ↦ elim (ℕ_discrete j k) [
          | yes y ↦ rw (x, y) (rw f.count (omega arith))
          | no y ↦ same_count v b q t k d ws a f u j p l (λ z. y z.1)
        ]
        | no x ↦ same_count v b q t k d ws a f u j p l (λ z. x z.0)
      ]

  flux : (u j : ℕ) → Present v b u → j < revolutions b → flux_extent q (track_entry b u) j ≡ flux_extent b (track_entry b u) j
  flux u j p l = cc (offset u j p l, count u j p l)

  present : (u : ℕ) → Present v b u → Present v q u
  present u p = (p.0, rw (entry u p.0) p.1)

  -- ---- what is claimed where revolution k₁ of track t₁ is rewritten

  module _ (t₁ k₁ : ℕ) where
    flux_claim_lem : (u j : ℕ) → Present v b u → j < revolutions b
        → flux_claim q t₁ k₁ u (track_entry b u) j ≡ flux_claim b t₁ k₁ u (track_entry b u) j
    unfolding flux_claim
    flux_claim_lem u j p l = ap (λ (x : Extent). cond (eqb u t₁ && eqb j k₁) [] (x ∷ [])) (flux u j p l)

    flux_claims_lem : (u : ℕ) → Present v b u → flux_claims q t₁ k₁ u (track_entry b u) ≡ flux_claims b t₁ k₁ u (track_entry b u)
    flux_claims_lem u p =
        ap (joined (flux_claim q t₁ k₁ u (track_entry b u)) 0) turns
        ∙ joined_same _ _ 0 (revolutions b) (λ j l m. flux_claim_lem u j p (omega arith))

    header_claims_lem : (u e : ℕ) → header_claims q t₁ k₁ u e ≡ header_claims b t₁ k₁ u e
    unfolding header_claims
    header_claims_lem u e =
        ap
        (λ (n : ℕ). cond (eqb u t₁) (between e (revolution_at e k₁) ∷ between (revolution_at e k₁ + 8) (e + record_offset n) ∷ [])
        (extent e (record_offset n) ∷ []))
        turns

    track_claim_lem : (u : ℕ) → u < slots v → track_claim_at q t₁ k₁ u ≡ track_claim_at b t₁ k₁ u
    unfolding track_claim
    track_claim_lem u l =
        ap (track_claim q t₁ k₁ u) (entry u l)
        ∙ elim (ℕ_discrete (track_entry b u) 0) [
          | yes z ↦ simp (eq-eqb (track_entry b u) 0 z)
          | no n ↦ cc (header_claims_lem u (track_entry b u), flux_claims_lem u (l, n))
        ]

    string_claim_lem : has_footer v b ≡ true → (j : ℕ) → j < string_slots → string_claim_at q j ≡ string_claim_at b j
    unfolding string_claim
    string_claim_lem has j l =
        ap (string_claim q) (same_string v b q t k d ws a f has j l)
        ∙ elim (ℕ_discrete (string_entry b j) 0) [
          | yes z ↦ simp (eq-eqb (string_entry b j) 0 z)
          | no n ↦ cc (same_length v b q t k d ws a f has j l n)
        ]

    footer_claims_lem : footer_claims v q ≡ footer_claims v b
    unfolding footer_claims
    footer_claims_lem = by (has_footer v b) refl
      where
        by : (x : Bool) → has_footer v b ≡ x → footer_claims v q ≡ footer_claims v b
        by true has =
            let strings : string_claims q ≡ string_claims b =
            joined_same _ _ 0 string_slots (λ j l m. string_claim_lem has j (omega arith)) in
            cc (same_has_footer v b q t k d ws a f, f.size, strings)
        by false has = cc (same_has_footer v b q t k d ws a f)

    same_claims : claims v q t₁ k₁ ≡ claims v b t₁ k₁
    unfolding claims
    same_claims =
        let tracks : track_claims v q t₁ k₁ ≡ track_claims v b t₁ k₁ =
        joined_same _ _ 0 (slots v) (λ u l m. track_claim_lem u (omega arith)) in
        cc (tracks, footer_claims_lem)

    module _ (p : Present v b t₁) (l : k₁ < revolutions b) where
      same_stand : stand_at q (track_entry q t₁) k₁ ≡ stand_at b (track_entry b t₁) k₁
      same_stand = ap (λ (e : ℕ). stand_at q e k₁) (entry t₁ p.0) ∙ ap (stand_on (revolution_at (track_entry b t₁) k₁)) (flux t₁ k₁ p l)

      same_shared : shared v q (stand_at q (track_entry q t₁) k₁) t₁ k₁ ≡ shared v b (stand_at b (track_entry b t₁) k₁) t₁ k₁
      unfolding shared
      same_shared =
          let s = stand_at b (track_entry b t₁) k₁ in
          ap (λ (x : Stand). shared v q x t₁ k₁) same_stand
          ∙ ap (λ (xs : List Extent). meets s.numbers s.flux || any_of (hit s) xs) same_claims

      same_twice : ClaimedTwice v q t₁ k₁ ↔ ClaimedTwice v b t₁ k₁
      same_twice =
          let was = shared_exactly v b t₁ k₁ p l in
          let is = shared_exactly v q t₁ k₁ (present t₁ p) (rw turns l) in
          (λ c. was.0 (sym same_shared ∙ is.1 c), λ c. is.0 (same_shared ∙ was.1 c))

      same_rest : (n : ℕ) → words_then_shared v q (track_entry q t₁) t₁ k₁ n ≡ words_then_shared v b (track_entry b t₁) t₁ k₁ n
      unfolding words_then_shared
      same_rest n = cc (entry t₁ p.0, count t₁ k₁ p l, same_shared)

    -- ---- what refuses it

    same_fault : (ns : List ℕ) → rewrite_fault v q t₁ k₁ ns ≡ rewrite_fault v b t₁ k₁ ns
    unfolding rewrite_fault track_then first_of refuse_if
    same_fault ns =
        let was : open_fault v b ≡ none = (opens_exactly v b).1 a.asks.opens in
        let is : open_fault v q ≡ none = (opens_exactly v q).1 (opens_kept v b q t k d ws a f) in
        rw (was, is, turns)
        (chain_same (leb (slots v) t₁) (eqb (track_entry q t₁) 0) (eqb (track_entry b t₁) 0) (leb (revolutions b) k₁) _ _
        (λ low. ap (λ (e : ℕ). eqb e 0) (entry t₁ (leb-false (slots v) t₁ low)))
        (λ low there below.
        same_rest (leb-false (slots v) t₁ low, eqb-false (track_entry b t₁) 0 there) (leb-false (revolutions b) k₁ below) (length ns)))

  layout_kept : SameLayout v b q
  unfolding reading
  layout_kept =
      record {
        tracks = entry;
        per_track = turns;
        offsets = λ u j p l. rw (entry u p.0) (offset u j p l);
        counts = λ u j p l. rw (entry u p.0) (count u j p l);
        claimed = same_claims;
        sharing = same_twice;
        refusals = same_fault;
      }

-- ---- calls

pub layout_still : (v : Edition) (b : List ℕ) → SameLayout v b b
layout_still v b =
    record {
      tracks = λ t l. refl;
      per_track = refl;
      offsets = λ t k p l. refl;
      counts = λ t k p l. refl;
      claimed = λ t k. refl;
      sharing = λ t k p l. (λ c. c, λ c. c);
      refusals = λ t k ws. refl;
    }

layout_both : {v : Edition} {b p q : List ℕ} → SameLayout v b p → SameLayout v p q → SameLayout v b q
layout_both {v} {b} {p} x y =
    record {
      tracks = λ t l. y.tracks t l ∙ x.tracks t l;
      per_track = y.per_track ∙ x.per_track;
      offsets = λ t k h l. y.offsets t k (on t h) (rw x.per_track l) ∙ x.offsets t k h l;
      counts = λ t k h l. y.counts t k (on t h) (rw x.per_track l) ∙ x.counts t k h l;
      claimed = λ t k. y.claimed t k ∙ x.claimed t k;
      sharing = λ t k h l.
          let first = x.sharing t k h l in
          let second = y.sharing t k (on t h) (rw x.per_track l) in
          (λ c. first.0 (second.0 c), λ c. second.1 (first.1 c));
      refusals = λ t k ws. y.refusals t k ws ∙ x.refusals t k ws;
    }
  where
    on : (t : ℕ) → Present v b t → Present v p t
    on t h = (h.0, rw (x.tracks t h.0) h.1)

-- A rewrite by the edition v, accepted or refused.
pub rewrite_layout : (v : Edition) (b : List ℕ) (t k d : ℕ) (ws : List ℕ) → Fits (rewrite v t k d ws) → AsMany b (rewrite v t k d ws)
    → SameLayout v b (after_rewrite v b t k d ws)
unfolding reading
rewrite_layout v b t k d ws h many = by (passes (rewrite_fault v b t k ws)) refl
  where
    does : RewriteDoes v b t k d ws
    does = every_rewrite v b t k d ws h.0

    by : (x : Bool) → passes (rewrite_fault v b t k ws) ≡ x → SameLayout v b (after_rewrite v b t k d ws)
    by true e = layout_kept v b (after_rewrite v b t k d ws) t k d ws (accepted v b t k ws e) (does.accepted e) (many e)
    by false e = subst (SameLayout v b) (sym (does.refused e)) (layout_still v b)

call_layout : (v : Edition) (b : List ℕ) (c : Call) → Fits c → Names v c → AsMany b c → SameLayout v b (after b c)
unfolding after
call_layout v b (ask w q) h n many = layout_still v b
call_layout v b (rewrite w t k d ws) h n many =
    subst (λ (x : Edition). SameLayout x b (after_rewrite w b t k d ws)) n (rewrite_layout w b t k d ws h many)

pub layout_stays : LayoutStays
unfolding final_bytes
layout_stays v b [] h n many = layout_still v b
layout_stays v b (c ∷ cs) h n many =
    layout_both (call_layout v b c h.0 n.0 many.0) (layout_stays v (after b c) cs h.1 n.1 many.1)
