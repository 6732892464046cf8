-- The book of a sequence of calls on one image (S-1 to S-8): it is fed the first image, then the calls in order, each with its other
-- arguments; it keeps the bytes, and reads offsets, counts and claims off them.
use Rattle.std.specs.Prelude.{ℕ, List, [], ◌∷◌, ◌&&◌, cond, eqb}
use Rattle.refusals.specs.Refusals.{passes}
use Rattle.scp_fields.specs.declared.Edition.{Edition}
use Rattle.scp.specs.Answers.{Answer, validate_answer, header_answer, footer_answer, track_answer, revolution_answer, flux_answer, speed_answer, track_speed_answer}
use Rattle.scp_sharing.specs.RewriteFault.{rewrite_fault}
use Rattle.scp_rewrite.specs.Rewriting.{after_rewrite}
use Rattle.scp_rewrite.specs.Answering.{rewrite_answer}
use Rattle.scp_rewrite.specs.OneRewrite.{Reading, put}

-- ---- calls

-- S-1: validating, and the questions for header, footer, track, revolution, its flux, its speed, and a track's speeds.
pub data Question : Type 0 where
  validate : Question
  header : Question
  footer : Question
  track : ℕ → Question
  revolution : ℕ → ℕ → Question
  flux : ℕ → ℕ → Question
  speed : ℕ → ℕ → Question
  track_speed : ℕ → Question

-- S-1, V-5: a call asks a question, or rewrites a revolution of a track with a new duration and new words; each names the edition it is meant by.
pub data Call : Type 0 where
  ask : Edition → Question → Call
  rewrite : Edition → ℕ → ℕ → ℕ → List ℕ → Call

-- ---- answers and bytes

-- S-4: what the rules answer to a question about the bytes b, by the edition v.
unfoldable pub asked : Edition → List ℕ → Question → Answer
asked v b validate = validate_answer v b
asked v b header = header_answer v b
asked v b footer = footer_answer v b
asked v b (track t) = track_answer v b t
asked v b (revolution t k) = revolution_answer v b t k
asked v b (flux t k) = flux_answer v b t k
asked v b (speed t k) = speed_answer v b t k
asked v b (track_speed t) = track_speed_answer v b t

-- S-4, C-9: what the rules answer to a call on the bytes b.
unfoldable pub answer : List ℕ → Call → Answer
answer b (ask v q) = asked v b q
answer b (rewrite v t k d ws) = rewrite_answer v b t k ws

-- S-2: the bytes after a call: validations, questions and refused rewrites leave them.
unfoldable pub after : List ℕ → Call → List ℕ
after b (ask v q) = b
after b (rewrite v t k d ws) = after_rewrite v b t k d ws

-- S-2, S-3: the bytes after a list of calls; each call gets the image as the last one left it.
unfoldable pub final_bytes : List ℕ → List Call → List ℕ
final_bytes b [] = b
final_bytes b (c ∷ cs) = final_bytes (after b c) cs

-- S-2, S-4: the answers to a list of calls, in order.
unfoldable pub answers : List ℕ → List Call → List Answer
answers b [] = []
answers b (c ∷ cs) = answer b c ∷ answers (after b c) cs

-- ---- how a revolution is to read

-- S-8: r, with what a call on the bytes b puts into revolution k of track t; only an accepted rewrite of that revolution puts anything.
unfoldable pub noted : List ℕ → Call → ℕ → ℕ → Reading → Reading
noted b (ask v q) t k r = r
noted b (rewrite v u j d ws) t k r = cond (passes (rewrite_fault v b u j ws) && (eqb u t && eqb j k)) (put r d ws) r

-- S-8: after the calls: as its last accepted rewrite put it, or as before, r, if it had none.
unfoldable pub last_put : List ℕ → List Call → ℕ → ℕ → Reading → Reading
last_put b [] t k r = r
last_put b (c ∷ cs) t k r = last_put (after b c) cs t k (noted b c t k r)
