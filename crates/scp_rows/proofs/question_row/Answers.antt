-- The kind of each branch picks its question.
use mathlib.Core.Path.{sym, ap, ◌∙◌}
use Rattle.scp_book.specs.Book.{Question, asked}
use Rattle.scp_rows.specs.Rows.{row_of}
use Rattle.scp_rows.specs.declared.Kind.{Kind}
use Rattle.scp_rows.proofs.KindLaws.{question_at, question_is}
use Rattle.scp_rows.proofs.question_row.Goals as goal

pub returns-in-Validate : goal.returns-in-Validate
unfolding asked
returns-in-Validate c =
    let a = c.args in
    let same = ap (λ (x : Kind). question_at x a.track a.revolution) (sym c.in-Validate.is ∙ c.from.ensures) ∙ question_is a.track a.revolution a.kind in
    c.validate_row.ensures ∙ ap (λ (q : Question). row_of (asked a.edition a.image.now q)) same

pub returns-in-Header : goal.returns-in-Header
unfolding asked
returns-in-Header c =
    let a = c.args in
    let same = ap (λ (x : Kind). question_at x a.track a.revolution) (sym c.in-Header.is ∙ c.from.ensures) ∙ question_is a.track a.revolution a.kind in
    c.header_row.ensures ∙ ap (λ (q : Question). row_of (asked a.edition a.image.now q)) same

pub returns-in-Footer : goal.returns-in-Footer
unfolding asked
returns-in-Footer c =
    let a = c.args in
    let same = ap (λ (x : Kind). question_at x a.track a.revolution) (sym c.in-Footer.is ∙ c.from.ensures) ∙ question_is a.track a.revolution a.kind in
    c.footer_row.ensures ∙ ap (λ (q : Question). row_of (asked a.edition a.image.now q)) same

pub returns-in-Track : goal.returns-in-Track
unfolding asked
returns-in-Track c =
    let a = c.args in
    let same = ap (λ (x : Kind). question_at x a.track a.revolution) (sym c.in-Track.is ∙ c.from.ensures) ∙ question_is a.track a.revolution a.kind in
    c.track_row.ensures ∙ ap (λ (q : Question). row_of (asked a.edition a.image.now q)) same

pub returns-in-Revolution : goal.returns-in-Revolution
unfolding asked
returns-in-Revolution c =
    let a = c.args in
    let same = ap (λ (x : Kind). question_at x a.track a.revolution) (sym c.in-Revolution.is ∙ c.from.ensures) ∙ question_is a.track a.revolution a.kind in
    c.revolution_row.ensures ∙ ap (λ (q : Question). row_of (asked a.edition a.image.now q)) same

pub returns-in-Flux : goal.returns-in-Flux
unfolding asked
returns-in-Flux c =
    let a = c.args in
    let same = ap (λ (x : Kind). question_at x a.track a.revolution) (sym c.in-Flux.is ∙ c.from.ensures) ∙ question_is a.track a.revolution a.kind in
    c.flux_row.ensures ∙ ap (λ (q : Question). row_of (asked a.edition a.image.now q)) same

pub returns-in-Speed : goal.returns-in-Speed
unfolding asked
returns-in-Speed c =
    let a = c.args in
    let same = ap (λ (x : Kind). question_at x a.track a.revolution) (sym c.in-Speed.is ∙ c.from.ensures) ∙ question_is a.track a.revolution a.kind in
    c.speed_row.ensures ∙ ap (λ (q : Question). row_of (asked a.edition a.image.now q)) same

pub returns-in-TrackSpeed : goal.returns-in-TrackSpeed
unfolding asked
returns-in-TrackSpeed c =
    let a = c.args in
    let same = ap (λ (x : Kind). question_at x a.track a.revolution) (sym c.in-TrackSpeed.is ∙ c.from.ensures) ∙ question_is a.track a.revolution a.kind in
    c.track_speed_row.ensures ∙ ap (λ (q : Question). row_of (asked a.edition a.image.now q)) same
