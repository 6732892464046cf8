-- The longest and the shortest duration are those of the definition, and so are their speeds.
use mathlib.Core.Path.{◌≡◌, sym, ap, ◌∙◌}
use Prim.Native.Nat.{ℕ, ◌+◌, ◌-◌, max}
use borrow.Author.Rules.{rules}
use lib.Ieee.{Float}
use borrow.Author.Tests.{eq-eqb, ne_eqb}
use Rattle.std.proofs.Common.{Some}
use Rattle.scp_fields.specs.Header.{revolutions}
use Rattle.scp_tracks.specs.Tracks.{duration_at}
use Rattle.scp_tracks.specs.declared.RevolutionData.{RevolutionData}
use Rattle.scp_speed.specs.Durations.{longest_from, shorter, shortest_from}
use Rattle.scp_speed.specs.Speeds.{rpm_of, speeds_of}
use Rattle.scp_speed.specs.declared.TrackSpeeds.{TrackSpeeds}
use Rattle.scp_speed.proofs.Lengths.{max_none, longest_next, longest_end, shortest_next, shortest_end}
use Rattle.scp_speed.proofs.track_speeds.Goals as goal

-- two speeds that are equal
speeds_same : {x x' y y' : Float} → x ≡ x' → y ≡ y'
    → ◌≡◌ {A = TrackSpeeds} (record { slowest = x; fastest = y }) (record { slowest = x'; fastest = y' })
speeds_same ex ey = cc

pub loop-k-init : goal.loop-k-init
loop-k-init c =
    let f = duration_at c.args.image.now c.args.header in
    let n : c.revolutions-n.result - 0 ≡ revolutions c.args.image.now = search rules in
    (max_none ∙ ap (longest_from f 0) n, ap (shortest_from f 0) n)

pub loop-k-preserved : goal.loop-k-preserved
loop-k-preserved c =
    let f = duration_at c.args.image.now c.args.header in
    let l = c.loop-k in
    let read : c.revolution_data-duration.result.duration ≡ f l.k = ap (λ (d : RevolutionData). d.duration) c.revolution_data-duration.ensures.0 in
    let more = c.max-most.ensures ∙ ap (max l.most) read in
    let less = c.shorter_of-least.ensures ∙ ap (shorter l.least) read in (
      ap (λ (m : ℕ). max m (longest_from f (l.k + 1) (c.revolutions-n.result - (l.k + 1)))) more ∙ longest_next f l.most l.k _ c.loop-k-test.true l.invariant.0,
      ap (λ (m : ℕ). shorter m (shortest_from f (l.k + 1) (c.revolutions-n.result - (l.k + 1)))) less ∙ shortest_next f l.least l.k _ c.loop-k-test.true l.invariant.1,
    )

pub returns-then-most-eq0 : goal.returns-then-most-eq0
unfolding speeds_of
returns-then-most-eq0 c =
    let f = duration_at c.args.image.now c.args.header in
    let most = longest_end f c.loop-k.most c.loop-k.k _ (search rules) c.loop-k.invariant.0 in
    sym (simp (eq-eqb _ _ (sym most ∙ c.if-most-eq0.true)))

pub returns : goal.returns
unfolding speeds_of
returns c =
    let f = duration_at c.args.image.now c.args.header in
    let most = longest_end f c.loop-k.most c.loop-k.k _ (search rules) c.loop-k.invariant.0 in
    let least = shortest_end f c.loop-k.least c.loop-k.k _ (search rules) c.loop-k.invariant.1 in
    ap Some (speeds_same (c.rpm.ensures ∙ ap rpm_of most) (c.rpm-2.ensures ∙ ap rpm_of least))
    ∙ sym (simp (ne_eqb _ _ (λ z. c.if-most-eq0.false (most ∙ z))))
