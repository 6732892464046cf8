-- Each return meets the tests before it, in the definition's order; each test is followed on by one law.
use mathlib.Core.Path.{refl, sym, ap, ◌∙◌}
use Prim.Native.Nat.{◌<◌}
use native.Mathlib.Omega.{arith}
use lib.Dec.{ltb}
use borrow.Author.Rules.{rules}
use borrow.Author.Tests.{eq-eqb, ne_eqb, ltb-false}
use Rattle.scp_tracks.specs.Tracks.{track_fault_at}
use Rattle.scp_tracks.proofs.RevolutionLaws.{track_inside}
use Rattle.refusals.specs.Refusals.{refusal, in_table}
use Rattle.refusals.proofs.Chain.{refuse_here, refuse_next}
use Rattle.refusals.proofs.Finding.{neither}
use Rattle.scp_fields.specs.Header.{start_track, end_track}
use Rattle.scp_tracks.proofs.track_fault.Goals as goal

pub returns-then-entry-eq0 : goal.returns-then-entry-eq0
unfolding track_fault_at
returns-then-entry-eq0 c = refuse_here _ _ _ (eq-eqb _ _ c.if-entry-eq0.true) refl

pub returns-then-bad_slot : goal.returns-then-bad_slot
unfolding track_fault_at
returns-then-bad_slot c =
    refuse_next _ _ _ (ne_eqb _ _ c.if-entry-eq0.false)
    (refuse_here _ _ _ (sym c.bad_slot.ensures ∙ c.if-bad_slot.true) (ap in_table c.at.ensures ∙ ap (refusal 9) c.from.ensures))

pub returns-then-bad_track : goal.returns-then-bad_track
unfolding track_fault_at
returns-then-bad_track c =
    refuse_next _ _ _ (ne_eqb _ _ c.if-entry-eq0.false)
    (refuse_next _ _ _ (sym c.bad_slot.ensures ∙ c.if-bad_slot.false)
    (refuse_here _ _ _ (sym c.bad_track.ensures ∙ c.if-bad_track.true) (ap in_table c.at-then-bad_track.ensures ∙ ap (refusal 10) c.from-then-bad_track.ensures)))

pub bad_track-requires : goal.bad_track-requires
bad_track-requires c =
    let b = c.args.image.now in
    let slot = sym c.bad_slot.ensures ∙ c.if-bad_slot.false in
    let past = (neither (ltb (end_track b) c.args.t) _ (neither (ltb c.args.t (start_track b)) _ slot).1).0 in
    let last = ltb-false (end_track b) c.args.t past in
    let byte : end_track b < 256 = search rules in
    (c.data_end-end.ensures, search rules, omega arith)

pub bad_flux-requires : goal.bad_flux-requires
bad_flux-requires c =
    let inside = track_inside _ _ _ _ (sym c.bad_track.ensures ∙ c.if-bad_track.false) in
    let «end» = c.data_end-end.ensures in
    (omega arith, omega arith)

pub returns-then-bad_flux : goal.returns-then-bad_flux
unfolding track_fault_at
returns-then-bad_flux c =
    refuse_next _ _ _ (ne_eqb _ _ c.if-entry-eq0.false)
    (refuse_next _ _ _ (sym c.bad_slot.ensures ∙ c.if-bad_slot.false)
    (refuse_next _ _ _ (sym c.bad_track.ensures ∙ c.if-bad_track.false)
    (refuse_here _ _ _ (sym (rw c.data_end-end.ensures at c.bad_flux.ensures) ∙ c.if-bad_flux.true) (ap in_table c.at-then-bad_flux.ensures ∙ ap (refusal 11) c.from-then-bad_flux.ensures))))

pub returns : goal.returns
unfolding track_fault_at
returns c =
    refuse_next _ _ _ (ne_eqb _ _ c.if-entry-eq0.false)
    (refuse_next _ _ _ (sym c.bad_slot.ensures ∙ c.if-bad_slot.false)
    (refuse_next _ _ _ (sym c.bad_track.ensures ∙ c.if-bad_track.false)
    (refuse_next _ _ _ (sym (rw c.data_end-end.ensures at c.bad_flux.ensures) ∙ c.if-bad_flux.false) refl)))
