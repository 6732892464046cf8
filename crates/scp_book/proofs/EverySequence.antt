-- Demand 3, by induction over the calls: what one call keeps, the calls after it keep, too, and each revolution is noted call by call. A track
-- that one edition finds lies up to the end track, which no call changes, so that every edition that opens the image finds it. What a call
-- does by its own edition is put together only where one is named throughout.
use Prim.Native.Nat.{ℕ, ◌<◌, ◌≤◌}
use mathlib.Core.Path.{◌≡◌, refl, sym, ap, subst, ◌∙◌}
use mathlib.Core.Logic.{◌≢◌, inl, inr}
use mathlib.Core.List.{List, [], ◌∷◌}
use Rattle.octets.specs.Numbers.{byte_at, Octets}
use Rattle.scp_fields.specs.declared.Edition.{Edition}
use Rattle.scp_fields.specs.Header.{checksum_at, revolutions, end_track, track_entry}
use Rattle.scp_open.specs.Validity.{Opens}
use Rattle.scp_open.proofs.Opens.{opens_exactly}
use Rattle.scp.specs.Answers.{Answer}
use Rattle.scp_sharing.specs.Extents.{extent, In}
use Rattle.scp_rewrite.specs.OneRewrite.{reading}
use Rattle.scp_rewrite.proofs.Kept.{Kept, still, both}
use Rattle.scp_rewrite.proofs.Checksums.{sound_distance}
use Rattle.scp_rewrite.proofs.AfterRewrite.{rewrite_stays, rewrite_opens, rewrite_keeps, rewrite_rest, rewrite_reads, every_rewrite}
use Rattle.scp_book.specs.Book as book
use Rattle.scp_book.specs.Book.{Call, ask, rewrite, after, final_bytes, noted, last_put}
use Rattle.scp_book.specs.Claim.{Fits, AllFit, Does, EachDoes, Puts, SomePuts, Names, AllName, OneEdition, Sequence, EverySequence}

-- ---- one call

-- Track t is one of the table's up to the end track, and has revolution k; any edition that opens the image finds it.
pub record Held (b : List ℕ) (t k : ℕ) : Type 0 where
  pub within : t ≤ end_track b
  pub entry : track_entry b t ≢ 0
  pub below : k < revolutions b

-- What one call does, whatever edition it names.
pub record Step (b : List ℕ) (c : Call) : Type 0 where
  pub does : Does b c
  pub keeps : Kept b (after b c)
  pub rest : (i : ℕ) → (Puts b c i → ⊥) → (In i (extent checksum_at 4) → ⊥) → byte_at (after b c) i ≡ byte_at b i
  pub notes : (t k : ℕ) → Held b t k → reading (after b c) t k ≡ noted b c t k (reading b t k)

pub step : (b : List ℕ) (c : Call) → Fits c → Step b c
unfolding after noted
step b (ask v q) h = record { does = refl; keeps = still b; rest = λ i n o. refl; notes = λ t k l. refl }
step b (rewrite v t k d ws) h =
    record {
      does = every_rewrite v b t k d ws h.0;
      keeps = rewrite_keeps v b t k d ws h.0 h.1;
      rest = rewrite_rest v b t k d ws h.0;
      notes = λ u j l. rewrite_reads v b t k d ws h.0 u j l.within l.entry l.below;
    }

-- What a call does by the edition v, if it names it or changes nothing.
record StepBy (v : Edition) (b : List ℕ) (c : Call) : Type 0 where
  stays : (Opens v b → ⊥) → after b c ≡ b
  opens : Opens v b → Opens v (after b c)

step_by : (v : Edition) (b : List ℕ) (c : Call) → Fits c → Names v c → StepBy v b c
unfolding after
step_by v b (ask w q) h e = record { stays = λ n. refl; opens = λ o. o }
step_by v b (rewrite w t k d ws) h e =
    subst (λ (x : Edition). StepBy x b (rewrite w t k d ws)) e
    (record { stays = rewrite_stays w b t k d ws h.0; opens = rewrite_opens w b t k d ws h.0 })

-- ---- the sequence

each_does : (b : List ℕ) (cs : List Call) → AllFit cs → EachDoes b cs
each_does b [] h = tt
each_does b (c ∷ cs) h = ((step b c h.0).does, each_does (after b c) cs h.1)

all_kept : (b : List ℕ) (cs : List Call) → AllFit cs → Kept b (final_bytes b cs)
unfolding final_bytes
all_kept b [] h = still b
all_kept b (c ∷ cs) h = both (step b c h.0).keeps (all_kept (after b c) cs h.1)

all_rest : (b : List ℕ) (cs : List Call) → AllFit cs → (i : ℕ) → (SomePuts b cs i → ⊥) → (In i (extent checksum_at 4) → ⊥)
    → byte_at (final_bytes b cs) i ≡ byte_at b i
unfolding final_bytes
all_rest b [] h i n o = refl
all_rest b (c ∷ cs) h i n o = all_rest (after b c) cs h.1 i (λ p. n (inr p)) o ∙ (step b c h.0).rest i (λ p. n (inl p)) o

-- what is held stays held
pub held_on : {b q : List ℕ} {t k : ℕ} → Kept b q → Held b t k → Held q t k
held_on {t = t} g h =
    record { within = rw g.last h.within; entry = rw (g.entries t h.within) h.entry; below = rw g.turns h.below }

all_noted : (b : List ℕ) (cs : List Call) → AllFit cs → (t k : ℕ) → Held b t k
    → reading (final_bytes b cs) t k ≡ last_put b cs t k (reading b t k)
unfolding final_bytes last_put
all_noted b [] h t k l = refl
all_noted b (c ∷ cs) h t k l =
    let s = step b c h.0 in
    all_noted (after b c) cs h.1 t k (held_on s.keeps l) ∙ ap (last_put (after b c) cs t k) (s.notes t k l)

-- ---- where one edition is named throughout

module _ (v : Edition) where
  all_stays : (b : List ℕ) (cs : List Call) → AllFit cs → AllName v cs → (Opens v b → ⊥) → final_bytes b cs ≡ b
  unfolding final_bytes
  all_stays b [] h e n = refl
  all_stays b (c ∷ cs) h e n = rw ((step_by v b c h.0 e.0).stays n) (all_stays b cs h.1 e.1 n)

  all_open : (b : List ℕ) (cs : List Call) → AllFit cs → AllName v cs → Opens v b → Opens v (final_bytes b cs)
  unfolding final_bytes
  all_open b [] h e o = o
  all_open b (c ∷ cs) h e o = all_open (after b c) cs h.1 e.1 ((step_by v b c h.0 e.0).opens o)

  one_edition_lem : (b : List ℕ) (cs : List Call) → AllFit cs → AllName v cs → OneEdition v b (final_bytes b cs)
  one_edition_lem b cs h e =
      record {
        refused_stays = λ n. all_stays b cs h e (λ o. n ((opens_exactly v b).1 o));
        stays_open = λ z. (opens_exactly v (final_bytes b cs)).1 (all_open b cs h e ((opens_exactly v b).0 z));
      }

pub every_sequence : EverySequence
every_sequence b cs h fit =
    let g = all_kept b cs fit in
    let x = sound_distance b h in
    let y = sound_distance (final_bytes b cs) (g.octets h) in
    record {
      bytes = refl;
      answers = refl;
      calls = each_does b cs fit;
      size = g.size;
      rest = all_rest b cs fit;
      reads = λ v e t k p l.
          let within = (((opens_exactly v b).0 e).tracks t p.0 p.1).to in
          all_noted b cs fit t k (record { within = within; entry = p.1; below = l });
      read_only = g.read_only;
      sound = λ e. (λ z. y.1 (g.read_only e ∙ x.0 z), λ z. x.1 (sym (g.read_only e) ∙ y.0 z));
      read_written = g.read_written;
      one_edition = λ v e. one_edition_lem v b cs fit e;
    }

-- Said of bytes and answers that are those of the book.
pub sequence_left : (b : List ℕ) (cs : List Call) → Octets b → AllFit cs → {q : List ℕ} {said : List Answer} → q ≡ final_bytes b cs
    → said ≡ book.answers b cs → Sequence b cs q said
sequence_left b cs h fit e f = rw (e, f) (every_sequence b cs h fit)
