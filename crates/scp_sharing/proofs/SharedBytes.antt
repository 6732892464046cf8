-- The sharing rule by extents is the rule by bytes: each claim of the list is a claim by bytes, as an extent is hit exactly if it has a byte
-- that the rewrite stands on. Its own track header outside the 8 bytes is two extents, before and behind them.
use Prim.Native.Nat.{ℕ, ◌+◌, ◌≤◌, ◌<◌}
use mathlib.Core.Path.{◌≡◌, refl, sym, subst, ◌∙◌}
use mathlib.Core.Logic.{◌≢◌, inl, inr}
use mathlib.Core.List.{List}
use mathlib.Core.Bool.{Bool, true, false, ◌&&◌, ◌||◌, or-true, true≢false}
use native.Mathlib.Decide.{ℕ_discrete, dec_le}
use native.Mathlib.Omega.{arith}
use lib.Dec.{eqb}
use borrow.Author.Tests.{eq-eqb, ne_eqb}
use Rattle.octets.specs.Numbers.{le16_at}
use Rattle.refusals.proofs.Finding.{either, any_true, any_intro}
use Rattle.scp_fields.specs.declared.Edition.{Edition}
use Rattle.scp_fields.specs.Editions.{slots, table_end}
use Rattle.scp_fields.specs.Header.{footer_size, revolutions, has_footer, track_entry}
use Rattle.scp_fields.specs.Footer.{footer_at, string_slots, string_entry}
use Rattle.scp_tracks.specs.Tracks.{header_size, revolution_at}
use Rattle.scp_sharing.specs.Extents.{extent, between, meets, In, any_of, joined}
use Rattle.scp_sharing.specs.Claims.{flux_extent, stand_at, hit, header_claims, flux_claim, flux_claims, track_claim_at, track_claims, string_claim_at, string_claims, footer_claims, claims, shared}
use Rattle.scp_sharing.specs.Sharing.{Present, InNumbers, InHeader, Stands, Claimed, front, own_header, other_header, other_flux, footer, string, ClaimedTwice, by_others, by_itself, SharedExactly}
use Rattle.scp_sharing.specs.declared.Extent.{Extent}
use Rattle.scp_sharing.specs.declared.Stand.{Stand}
use Rattle.scp_sharing.proofs.Meeting.{meets_true, meets_byte, hit_true, hit_byte}
use Rattle.scp_sharing.proofs.ClaimLaws.{any_joined, header_own, header_other, flux_own, flux_other, track_none, track_parts, string_none, string_there, footer_none, footer_parts, claims_parts}

-- Revolution j of track u is another than revolution k of track t.
pub other_pair : (u j t k : ℕ) → ((u ≡ t) × (j ≡ k) → ⊥) → eqb u t && eqb j k ≡ false
other_pair u j t k n =
    elim (ℕ_discrete u t) [
      | yes p ↦ elim (ℕ_discrete j k) [ yes q ↦ absurd (n (p, q)) | no q ↦ rw (eq-eqb u t p, ne_eqb j k q) ]
      | no p ↦ rw (ne_eqb u t p)
    ]

module _ (p : Extent → Bool) (f : ℕ → List Extent) (n : ℕ) where
  -- a test that an extent of one index passes is passed by one of all
  one_passes : (j : ℕ) → j < n → any_of p (f j) ≡ true → any_of p (joined f 0 n) ≡ true
  one_passes j l e = any_joined p f 0 n ∙ any_intro (λ i. any_of p (f i)) 0 n j (omega arith) (omega arith) e

  passes_one : any_of p (joined f 0 n) ≡ true → (j : ℕ) × (j < n) × (any_of p (f j) ≡ true)
  passes_one e =
      let r = any_true (λ i. any_of p (f i)) 0 n (sym (any_joined p f 0 n) ∙ e) in
      (r.0, omega arith, r.3)

-- what fails does not pass
fails : {x : Bool} → x ≡ true → x ≡ false → ⊥
fails e f = true≢false (sym e ∙ f)

module _ (v : Edition) (b : List ℕ) (t k : ℕ) where
  abbrev at : ℕ
  at = revolution_at (track_entry b t) k

  abbrev stand : Stand
  stand = stand_at b (track_entry b t) k

  -- its own track header before the 8 bytes, and behind them
  abbrev before : Extent
  before = between (track_entry b t) at

  abbrev behind : Extent
  behind = between (at + 8) (track_entry b t + header_size b)

  -- a claim is hit
  abbrev Hit : List Extent → Type 0
  Hit xs = any_of (hit stand) xs ≡ true

  -- ---- a byte claimed twice is found

  track_found : (u : ℕ) → Present v b u
      → any_of (hit stand) (header_claims b t k u (track_entry b u)) || any_of (hit stand) (flux_claims b t k u (track_entry b u)) ≡ true
      → Hit (claims v b t k)
  track_found u p e =
      let one = track_parts (hit stand) b t k u (track_entry b u) p.1 ∙ e in
      let all = one_passes (hit stand) (track_claim_at b t k) (slots v) u p.0 one in
      claims_parts (hit stand) v b t k ∙ simp (all, or-true)

  footer_found : has_footer v b ≡ true → hit stand (extent (footer_at b) footer_size) || any_of (hit stand) (string_claims b) ≡ true
      → Hit (claims v b t k)
  footer_found f e =
      let all = footer_parts (hit stand) v b f ∙ e in
      claims_parts (hit stand) v b t k ∙ simp (all, or-true)

  before_own : (i : ℕ) → InHeader b t i → ¬ (at + 8 ≤ i) → (InNumbers b t k i → ⊥) → i < at
  before_own i h l o = elim (dec_le at i) [ yes g ↦ absurd (o (g, omega arith)) | no g ↦ omega arith ]

  own_found : k < revolutions b → (i : ℕ) → Stands b t k i → InHeader b t i → (InNumbers b t k i → ⊥)
      → hit stand before || hit stand behind ≡ true
  own_found below i s h o =
      elim (dec_le (at + 8) i) [
        | yes l ↦ simp (hit_true stand behind i s (l, omega arith), or-true)
        | no l ↦ (let m = before_own i h l o in simp (hit_true stand before i s (h.0, omega arith)))
      ]

  claim_found : Present v b t → k < revolutions b → (i : ℕ) → Stands b t k i → Claimed v b t k i → Hit (claims v b t k)
  claim_found present below i s (front l) =
      claims_parts (hit stand) v b t k ∙ simp (hit_true stand (extent 0 (table_end v)) i s (omega arith))
  claim_found present below i s (own_header h o) =
      let e = header_own (hit stand) b t k t (track_entry b t) refl ∙ own_found below i s h o in
      track_found t present (simp e)
  claim_found present below i s (other_header u p n h) =
      let x = extent (track_entry b u) (header_size b) in
      let e = header_other (hit stand) b t k u (track_entry b u) n ∙ hit_true stand x i s h in
      track_found u p (simp e)
  claim_found present below i s (other_flux u j p l n h) =
      let e = track_entry b u in
      let one = flux_other (hit stand) b t k u e j (other_pair u j t k n) ∙ hit_true stand (flux_extent b e j) i s h in
      let all = one_passes (hit stand) (flux_claim b t k u e) (revolutions b) j l one in
      track_found u p (simp (all, or-true))
  claim_found present below i s (footer f h) = footer_found f (simp (hit_true stand (extent (footer_at b) footer_size) i s h))
  claim_found present below i s (string j f l n h) =
      let o = string_entry b j in
      let one = string_there (hit stand) b o n ∙ hit_true stand (extent o (3 + le16_at b o)) i s h in
      let all = one_passes (hit stand) (string_claim_at b) string_slots j l one in
      footer_found f (simp (all, or-true))

  -- ---- what is found is claimed twice

  -- an extent that is hit has a byte claimed twice if others claim its bytes
  hit_claimed : (x : Extent) → hit stand x ≡ true → ((i : ℕ) → In i x → Claimed v b t k i) → ClaimedTwice v b t k
  hit_claimed x e claim = let r = hit_byte stand x e in by_others r.0 r.1 (claim r.0 r.2)

  header_claimed : k < revolutions b → (u : ℕ) → Present v b u → Hit (header_claims b t k u (track_entry b u)) → ClaimedTwice v b t k
  header_claimed below u p e =
      elim (ℕ_discrete u t) [
        | yes q ↦ own (subst (λ (x : ℕ). Hit (header_claims b t k x (track_entry b x))) q e)
        | no q ↦ hit_claimed (extent (track_entry b u) (header_size b))
            (sym (header_other (hit stand) b t k u (track_entry b u) q) ∙ e) (λ i. other_header u p q)
      ]
    where
      own : Hit (header_claims b t k t (track_entry b t)) → ClaimedTwice v b t k
      own f =
          elim (either (hit stand before) (hit stand behind) (sym (header_own (hit stand) b t k t (track_entry b t) refl) ∙ f)) [
            | inl l ↦ hit_claimed before l (λ i h. own_header (omega arith) (omega arith))
            | inr l ↦ hit_claimed behind l (λ i h. own_header (omega arith) (omega arith))
          ]

  flux_claimed : (u j : ℕ) → Present v b u → j < revolutions b → Hit (flux_claim b t k u (track_entry b u) j) → ClaimedTwice v b t k
  flux_claimed u j p l e = by (eqb u t && eqb j k) refl
    where
      by : (x : Bool) → eqb u t && eqb j k ≡ x → ClaimedTwice v b t k
      by true q = absurd (fails e (flux_own (hit stand) b t k u (track_entry b u) j q))
      by false q =
          let n : (u ≡ t) × (j ≡ k) → ⊥ = λ r. true≢false (sym (rw (eq-eqb u t r.0, eq-eqb j k r.1)) ∙ q) in
          hit_claimed (flux_extent b (track_entry b u) j) (sym (flux_other (hit stand) b t k u (track_entry b u) j q) ∙ e)
          (λ i. other_flux u j p l n)

  track_claimed : k < revolutions b → (u : ℕ) → u < slots v → Hit (track_claim_at b t k u) → ClaimedTwice v b t k
  track_claimed below u l e =
      elim (ℕ_discrete (track_entry b u) 0) [
        | yes z ↦ absurd (fails e (track_none (hit stand) b t k u (track_entry b u) z))
        | no n ↦ parts n (sym (track_parts (hit stand) b t k u (track_entry b u) n) ∙ e)
      ]
    where
      parts : track_entry b u ≢ 0
          → any_of (hit stand) (header_claims b t k u (track_entry b u)) || any_of (hit stand) (flux_claims b t k u (track_entry b u)) ≡ true
          → ClaimedTwice v b t k
      parts n h =
          elim (either (any_of (hit stand) (header_claims b t k u (track_entry b u))) _ h) [
            | inl h ↦ header_claimed below u (l, n) h
            | inr h ↦
                (let r = passes_one (hit stand) (flux_claim b t k u (track_entry b u)) (revolutions b) h in
                flux_claimed u r.0 (l, n) r.1 r.2)
          ]

  string_claimed : (j : ℕ) → has_footer v b ≡ true → j < string_slots → Hit (string_claim_at b j) → ClaimedTwice v b t k
  string_claimed j f l e =
      let o = string_entry b j in
      elim (ℕ_discrete (string_entry b j) 0) [
        | yes z ↦ absurd (fails e (string_none (hit stand) b o z))
        | no n ↦ hit_claimed (extent o (3 + le16_at b o)) (sym (string_there (hit stand) b o n) ∙ e) (λ i. string j f l n)
      ]

  footer_claimed : Hit (footer_claims v b) → ClaimedTwice v b t k
  footer_claimed e = by (has_footer v b) refl
    where
      by : (x : Bool) → has_footer v b ≡ x → ClaimedTwice v b t k
      by false f = absurd (fails e (footer_none (hit stand) v b f))
      by true f =
          elim (either (hit stand (extent (footer_at b) footer_size)) _ (sym (footer_parts (hit stand) v b f) ∙ e)) [
            | inl l ↦ hit_claimed (extent (footer_at b) footer_size) l (λ i. footer f)
            | inr l ↦ (let r = passes_one (hit stand) (string_claim_at b) string_slots l in string_claimed r.0 f r.1 r.2)
          ]

  found_claimed : k < revolutions b → Hit (claims v b t k) → ClaimedTwice v b t k
  found_claimed below e =
      elim (either (hit stand (extent 0 (table_end v))) _ (sym (claims_parts (hit stand) v b t k) ∙ e)) [
        | inl l ↦ hit_claimed (extent 0 (table_end v)) l (λ i h. front (omega arith))
        | inr e₁ ↦ elim (either (any_of (hit stand) (track_claims v b t k)) _ e₁) [
          | inl l ↦
              (let r = passes_one (hit stand) (track_claim_at b t k) (slots v) l in
              track_claimed below r.0 r.1 r.2)
          | inr e₂ ↦ footer_claimed e₂
        ]
      ]

pub shared_exactly : SharedExactly
unfolding shared
shared_exactly v b t k present below =
    let s = stand_at b (track_entry b t) k in (
      λ e. elim (either (meets s.numbers s.flux) _ e) [
        | inl l ↦ (let r = meets_byte s.numbers s.flux l in by_itself r.0 r.1 r.2)
        | inr l ↦ found_claimed v b t k below l
      ],
      λ c. elim c [
        | by_others i on claim ↦ simp (claim_found v b t k present below i on claim, or-true)
        | by_itself i p q ↦ simp (meets_true s.numbers s.flux i p q)
      ],
    )
