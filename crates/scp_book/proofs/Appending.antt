-- Calls behind others, and the first ones of a list.
use Prim.Native.Nat.{ℕ, zero, suc}
use mathlib.Core.Path.{◌≡◌, refl, ap}
use mathlib.Core.List.{List, [], ◌∷◌, ◌++◌}
use lib.ListN.{take}
use Rattle.scp_fields.specs.declared.Edition.{Edition}
use Rattle.scp_book.specs.Book.{Call, answer, after, final_bytes, answers}
use Rattle.scp_book.specs.Claim.{AllFit, AllName}

pub final_append : (b : List ℕ) (cs ds : List Call) → final_bytes b (cs ++ ds) ≡ final_bytes (final_bytes b cs) ds
unfolding final_bytes
final_append b [] ds = refl
final_append b (c ∷ cs) ds = final_append (after b c) cs ds

pub answers_append : (b : List ℕ) (cs ds : List Call) → answers b (cs ++ ds) ≡ answers b cs ++ answers (final_bytes b cs) ds
unfolding final_bytes answers
answers_append b [] ds = refl
answers_append b (c ∷ cs) ds = ap (◌∷◌ (answer b c)) (answers_append (after b c) cs ds)

pub fit_append : (cs ds : List Call) → AllFit cs → AllFit ds → AllFit (cs ++ ds)
fit_append [] ds f g = g
fit_append (c ∷ cs) ds f g = (f.0, fit_append cs ds f.1 g)

pub fit_take : (n : ℕ) (cs : List Call) → AllFit cs → AllFit (take n cs)
fit_take zero cs f = tt
fit_take (suc n) [] f = tt
fit_take (suc n) (c ∷ cs) f = (f.0, fit_take n cs f.1)

pub name_append : (v : Edition) (cs ds : List Call) → AllName v cs → AllName v ds → AllName v (cs ++ ds)
name_append v [] ds f g = g
name_append v (c ∷ cs) ds f g = (f.0, name_append v cs ds f.1 g)
