-- What `starts_with` says is what the definition says.
use mathlib.Core.Path.{ap, ◌∙◌}
use mathlib.Core.Bool.{not}
use Rattle.dsk_fields.specs.Fields.{sign_text}
use Rattle.dsk_fields.proofs.Texts.{begins_is}
use Rattle.dsk_header.proofs.bad_sign.Goals as goal

pub returns : goal.returns
returns c = ap not (c.starts_with.ensures.value ∙ begins_is sign_text c.args.image.now)
