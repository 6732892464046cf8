-- What refuses a call on a track or a revolution, in its order: 1 to 11 and 19, then 13, then 14 (RO-6).
use Rattle.std.specs.Prelude.{ℕ, List, eqb, leb}
use Rattle.refusals.specs.Refusals.{Fault, none, refusal, refuse_if, first_of}
use Rattle.scp_fields.specs.declared.Edition.{Edition}
use Rattle.scp_fields.specs.Editions.{slots}
use Rattle.scp_fields.specs.Header.{revolutions, track_entry}
use Rattle.scp_open.specs.Opening.{open_fault}

-- R-13: 13 where track t is above the edition's last or has entry 0, then the rest.
abbrev pub absent_then : Edition → List ℕ → ℕ → Fault → Fault
absent_then v b t rest = refuse_if (leb (slots v) t) (refusal 13 0) (refuse_if (eqb (track_entry b t) 0) (refusal 13 0) rest)

-- RO-6: a call on track t: 1 to 11 and 19, then 13, then the rest.
unfoldable pub track_then : Edition → List ℕ → ℕ → Fault → Fault
track_then v b t rest = first_of (open_fault v b) (absent_then v b t rest)

-- RO-6: the question for track t: 1 to 11 and 19, then 13.
abbrev pub track_question : Edition → List ℕ → ℕ → Fault
track_question v b t = track_then v b t none

-- RO-6, R-14: a call on revolution k of track t: 1 to 11 and 19, then 13, then 14 where k is not below R, then the rest.
abbrev pub revolution_then : Edition → List ℕ → ℕ → ℕ → Fault → Fault
revolution_then v b t k rest = track_then v b t (refuse_if (leb (revolutions b) k) (refusal 14 0) rest)

-- RO-6: the question for revolution k of track t: 1 to 11 and 19, then 13, then 14.
abbrev pub revolution_question : Edition → List ℕ → ℕ → ℕ → Fault
revolution_question v b t k = revolution_then v b t k none
