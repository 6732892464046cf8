-- Each return meets the tests before it, in the definition's order.
use Prim.Native.Nat.{ℕ, ◌+◌}
use mathlib.Core.Path.{◌≡◌, refl, sym, ap, ◌∙◌}
use borrow.Author.Tests.{eq-eqb, ne_eqb}
use Rattle.copies.specs.Copying.{part}
use Rattle.utf8.specs.Table.{well_formed}
use Rattle.scp_footer.specs.Footer.{bad_string_of, bad_string, string_bytes, string_fault_at}
use Rattle.refusals.specs.Refusals.{refusal, in_table}
use Rattle.refusals.proofs.Chain.{refuse_here, refuse_next, turned_off, turned_on}
use Rattle.scp_footer.proofs.string_fault_at.Goals as goal

pub returns-then-o-eq0 : goal.returns-then-o-eq0
unfolding string_fault_at
returns-then-o-eq0 c = refuse_here _ _ _ (eq-eqb _ _ c.if-o-eq0.true) refl

pub returns-then-bad_string_of : goal.returns-then-bad_string_of
unfolding string_fault_at
returns-then-bad_string_of c =
    let a = c.args in
    let judged : c.bad_string_of.result ≡ bad_string a.edition a.image.now a.o =
    c.bad_string_of.ensures ∙ ap (bad_string_of a.edition a.image.now a.o) (c.from-n.ensures ∙ c.le16.ensures) in
    refuse_next _ _ _ (ne_eqb _ _ c.if-o-eq0.false)
    (refuse_here _ _ _ (sym judged ∙ c.if-bad_string_of.true) (ap in_table c.at.ensures ∙ ap (refusal 8) c.from.ensures))

pub returns-then-well_formed_part : goal.returns-then-well_formed_part
unfolding string_fault_at
returns-then-well_formed_part c =
    let a = c.args in
    let judged : c.bad_string_of.result ≡ bad_string a.edition a.image.now a.o =
    c.bad_string_of.ensures ∙ ap (bad_string_of a.edition a.image.now a.o) (c.from-n.ensures ∙ c.le16.ensures) in
    let told : c.well_formed_part.result ≡ well_formed (string_bytes a.image.now a.o) =
    c.well_formed_part.ensures ∙ ap (λ (n : ℕ). well_formed (part a.image.now (a.o + 2) n)) (c.from-n.ensures ∙ c.le16.ensures) in
    refuse_next _ _ _ (ne_eqb _ _ c.if-o-eq0.false)
    (refuse_next _ _ _ (sym judged ∙ c.if-bad_string_of.false)
    (refuse_next _ _ _ (turned_off (sym told ∙ c.if-well_formed_part.true)) refl))

pub returns : goal.returns
unfolding string_fault_at
returns c =
    let a = c.args in
    let judged : c.bad_string_of.result ≡ bad_string a.edition a.image.now a.o =
    c.bad_string_of.ensures ∙ ap (bad_string_of a.edition a.image.now a.o) (c.from-n.ensures ∙ c.le16.ensures) in
    let told : c.well_formed_part.result ≡ well_formed (string_bytes a.image.now a.o) =
    c.well_formed_part.ensures ∙ ap (λ (n : ℕ). well_formed (part a.image.now (a.o + 2) n)) (c.from-n.ensures ∙ c.le16.ensures) in
    refuse_next _ _ _ (ne_eqb _ _ c.if-o-eq0.false)
    (refuse_next _ _ _ (sym judged ∙ c.if-bad_string_of.false)
    (refuse_here _ _ _ (turned_on (sym told ∙ c.if-well_formed_part.false)) (ap in_table c.at-2.ensures ∙ ap (refusal 19) c.from-2.ensures)))
