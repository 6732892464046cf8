-- What is left of the second list, where the places are too few and where they are enough.
use mathlib.Core.Path.{sym, ◌∙◌}
use borrow.Author.Tests.{leb-true, leb-false}
use Rattle.flux.proofs.ReadInto.{short_keeps, enough_fills}
use Rattle.flux.proofs.read_into.Goals as goal

pub returns-else-enough_places-clause-closings_after : goal.returns-else-enough_places-clause-closings_after
returns-else-enough_places-clause-closings_after c =
    let a = c.args in
    short_keeps a.flux.now a.places (sym c.bad_flux_size.ensures ∙ c.if-bad_flux_size.false) a.closings.now
    (leb-false _ _ (sym c.enough_places.ensures ∙ c.if-enough_places.false))

pub returns-then-enough_places-clause-closings_after : goal.returns-then-enough_places-clause-closings_after
returns-then-enough_places-clause-closings_after c =
    let a = c.args in
    c.fill.ensures.closings_after
    ∙ enough_fills a.flux.now a.places (sym c.bad_flux_size.ensures ∙ c.if-bad_flux_size.false) a.closings.now
    (leb-true _ _ (sym c.enough_places.ensures ∙ c.if-enough_places.true))
