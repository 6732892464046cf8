-- A rewrite's answer (A-13).
use Rattle.std.specs.Prelude.{ℕ, List, [], Result, Ok, Err}
use Rattle.refusals.specs.Refusals.{Fault}
use Rattle.scp_fields.specs.declared.Edition.{Edition}
use Rattle.scp.specs.Answers.{Answer, refused, numbers, unless}
use Rattle.scp_sharing.specs.RewriteFault.{rewrite_fault}

-- A-13: the answer of each case.
abbrev pub of_rewritten : Result Unit Fault → Answer
of_rewritten (Ok u) = numbers []
of_rewritten (Err r) = refused r.number r.position

-- A-13, W-7: no values, unless it is refused.
abbrev pub rewrite_answer : Edition → List ℕ → ℕ → ℕ → List ℕ → Answer
rewrite_answer v b t k ws = unless (rewrite_fault v b t k ws) (numbers [])
