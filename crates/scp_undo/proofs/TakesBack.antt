-- An accepted rewrite with as many words as its revolution held, and the one that takes it back, leave the image as it was; so, by induction
-- over the calls, all of them do, the last one being taken back first. The layout stays, so each is accepted, as what refuses a rewrite
-- depends on the number of its words alone.
use Prim.Native.Nat.{ℕ, ◌*◌}
use mathlib.Core.Path.{◌≡◌, refl, sym, ap, ◌∙◌}
use mathlib.Core.List.{List, [], ◌∷◌, ◌++◌, append-nil, append_assoc}
use mathlib.Core.Bool.{Bool, true, false, cond}
use lib.ListN.{length, take}
use Rattle.octets.specs.Numbers.{Octets}
use Rattle.octets.proofs.Numbers.{le_bound, take_octets, drop_octets}
use Rattle.refusals.specs.Refusals.{passes}
use Rattle.scp_fields.specs.declared.Edition.{Edition}
use Rattle.scp_fields.specs.Header.{track_entry}
use Rattle.scp_tracks.specs.Tracks.{count_at, flux_at}
use Rattle.scp_lookup.specs.Questions.{revolution_then}
use Rattle.scp_sharing.specs.RewriteFault.{words_then_shared, rewrite_fault}
use Rattle.scp_sharing.proofs.Asked.{Asked}
use Rattle.scp_sharing.proofs.Accepted.{accepted}
use Rattle.scp_rewrite.specs.Rewriting.{after_rewrite}
use Rattle.scp_rewrite.specs.OneRewrite.{Reading, reading, RewriteDoes}
use Rattle.scp_rewrite.proofs.Kept.{both}
use Rattle.scp_rewrite.proofs.AfterRewrite.{rewrite_keeps, every_rewrite}
use Rattle.scp_book.specs.Book.{Call, ask, rewrite, after, final_bytes}
use Rattle.scp_book.specs.Claim.{Fits, AllFit, AllName}
use Rattle.scp_book.proofs.EverySequence.{step, every_sequence}
use Rattle.scp_book.proofs.Appending.{final_append, fit_append, fit_take, name_append}
use Rattle.scp_undo.specs.Layout.{Each, AsMany, SameLayout}
use Rattle.scp_undo.specs.Undoing.{put_back, undo_of, undo, LaterFirst, made_of, made, Accepts, TakesBack}
use Rattle.scp_undo.proofs.Layouts.{rewrite_layout}
use Rattle.scp_undo.proofs.Restoring.{words_length, restored}

-- ---- what puts back fits, whatever was there

pub back_fits : (v : Edition) (b : List ℕ) (t k : ℕ) → Octets b → Fits (put_back v b t k)
unfolding reading
back_fits v b t k h =
    let e = track_entry b t in
    (le_bound 4 b _ h, take_octets (2 * count_at b e k) _ (drop_octets (flux_at b e k) b h))

of_fits : (b : List ℕ) (c : Call) → Octets b → AllFit (undo_of b c)
unfolding undo_of
of_fits b (ask v q) h = tt
of_fits b (rewrite v t k d ws) h = by (passes (rewrite_fault v b t k ws))
  where
    by : (x : Bool) → AllFit (cond x (put_back v b t k ∷ []) [])
    by true = (back_fits v b t k h, tt)
    by false = tt

pub undo_fits : (b : List ℕ) (cs : List Call) → Octets b → AllFit cs → AllFit (undo b cs)
unfolding undo
undo_fits b [] h f = tt
undo_fits b (c ∷ cs) h f =
    fit_append (undo (after b c) cs) (undo_of b c) (undo_fits (after b c) cs ((step b c f.0).keeps.octets h) f.1) (of_fits b c h)

-- ---- calls behind others

each_append : (P : List ℕ → Call → Type 0) (b : List ℕ) (cs ds : List Call) → Each P b cs → Each P (final_bytes b cs) ds → Each P b (cs ++ ds)
unfolding final_bytes
each_append P b [] ds f g = g
each_append P b (c ∷ cs) ds f g = (f.0, each_append P (after b c) cs ds f.1 g)

pub later_first : LaterFirst
unfolding final_bytes undo
later_first b [] ds = sym (append-nil (undo b ds))
later_first b (c ∷ cs) ds =
    ap (λ (us : List Call). us ++ undo_of b c) (later_first (after b c) cs ds)
    ∙ append_assoc (undo (final_bytes (after b c) cs) ds) (undo (after b c) cs) (undo_of b c)

-- ---- how calls are taken back by others

-- The calls us take back the calls cs, made on the bytes b.
record Back (b : List ℕ) (cs us : List Call) : Type 0 where
  accepted : Each Accepts (final_bytes b cs) us
  as_many : Each AsMany (final_bytes b cs) us
  one_edition : (v : Edition) → AllName v cs → AllName v us
  bytes : final_bytes (final_bytes b cs) us ≡ b
  again : undo (final_bytes b cs) us ≡ made b cs

-- none, and one call more before them
back_none : (b : List ℕ) → Back b [] []
unfolding final_bytes undo made
back_none b = record { accepted = tt; as_many = tt; one_edition = λ v n. tt; bytes = refl; again = refl }

back_more : (b : List ℕ) (c : Call) (cs us vs : List Call) → Back b (c ∷ []) us → Back (after b c) cs vs → Back b (c ∷ cs) (vs ++ us)
unfolding final_bytes made
back_more b c cs us vs x y =
    let z = final_bytes (after b c) cs in
    let first : undo (final_bytes z vs) us ≡ made_of b c = rw y.bytes (x.again ∙ append-nil (made_of b c)) in
    record {
      accepted = each_append Accepts z vs us y.accepted (rw y.bytes x.accepted);
      as_many = each_append AsMany z vs us y.as_many (rw y.bytes x.as_many);
      one_edition = λ v n. name_append v vs us (y.one_edition v n.1) (x.one_edition v (n.0, tt));
      bytes = final_append z vs us ∙ ap (λ (p : List ℕ). final_bytes p us) y.bytes ∙ x.bytes;
      again = later_first z vs us ∙ cc (first, y.again);
    }

-- ---- one accepted rewrite

module _ (v : Edition) (b : List ℕ) (t k d : ℕ) (ws : List ℕ) (fits : Fits (rewrite v t k d ws)) (ok : passes (rewrite_fault v b t k ws) ≡ true)
    (same : length ws ≡ 2 * (reading b t k).count) (h : Octets b) where
  -- the image that it makes, and what is put back
  abbrev q : List ℕ
  q = after_rewrite v b t k d ws

  abbrev was : Reading
  was = reading b t k

  asks : Asked v b t k
  asks = (accepted v b t k ws ok).asks

  does : RewriteDoes v b t k d ws
  does = every_rewrite v b t k d ws fits.0

  layout : SameLayout v b q
  layout = rewrite_layout v b t k d ws fits (λ e. same)

  -- as many words are accepted where these were
  former_accepted : rewrite_fault v b t k was.words ≡ rewrite_fault v b t k ws
  unfolding rewrite_fault
  former_accepted =
      ap (λ (n : ℕ). revolution_then v b t k (words_then_shared v b (track_entry b t) t k n)) (words_length v b t k asks ∙ sym same)

  back_accepted : passes (rewrite_fault v q t k was.words) ≡ true
  back_accepted = rw (layout.refusals t k was.words, former_accepted) ok

  back_many : length was.words ≡ 2 * (reading q t k).count
  back_many = words_length v b t k asks ∙ ap (λ (n : ℕ). 2 * n) (sym (layout.counts t k asks.present asks.below))

  back_bytes : after_rewrite v q t k was.duration was.words ≡ b
  back_bytes =
      let back = back_fits v b t k h in
      let there = rewrite_keeps v b t k d ws fits.0 fits.1 in
      let here = rewrite_keeps v q t k was.duration was.words back.0 back.1 in
      restored v b q (after_rewrite v q t k was.duration was.words) t k d ws asks same (does.accepted ok) layout
      ((every_rewrite v q t k was.duration was.words back.0).accepted back_accepted) (both there here) h

  back_rewrite : Back b (rewrite v t k d ws ∷ []) (put_back v b t k ∷ [])
  unfolding final_bytes after undo undo_of made made_of
  back_rewrite =
      record {
        accepted = (back_accepted, tt);
        as_many = (λ e. back_many, tt);
        one_edition = λ w n. (n.0, tt);
        bytes = back_bytes;
        again = rw (back_accepted, ok) (ap (λ (r : Reading). rewrite v t k r.duration r.words ∷ []) (does.reads ok).own);
      }

-- ---- one call, and all calls

back_call : (b : List ℕ) (c : Call) → Octets b → Fits c → AsMany b c → Back b (c ∷ []) (undo_of b c)
unfolding final_bytes after undo undo_of made made_of
back_call b (ask v q) h fits many = record { accepted = tt; as_many = tt; one_edition = λ w n. tt; bytes = refl; again = refl }
back_call b (rewrite v t k d ws) h fits many = by (passes (rewrite_fault v b t k ws)) refl
  where
    by : (x : Bool) → passes (rewrite_fault v b t k ws) ≡ x → Back b (rewrite v t k d ws ∷ []) (cond x (put_back v b t k ∷ []) [])
    by true e = back_rewrite v b t k d ws fits e (many e) h
    by false e =
        record {
          accepted = tt;
          as_many = tt;
          one_edition = λ w n. tt;
          bytes = (every_rewrite v b t k d ws fits.0).refused e;
          again = rw e;
        }

all_back : (b : List ℕ) (cs : List Call) → Octets b → AllFit cs → Each AsMany b cs → Back b cs (undo b cs)
unfolding undo
all_back b [] h fit many = back_none b
all_back b (c ∷ cs) h fit many =
    back_more b c cs (undo_of b c) (undo (after b c) cs) (back_call b c h fit.0 many.0)
    (all_back (after b c) cs ((step b c fit.0).keeps.octets h) fit.1 many.1)

pub takes_back : TakesBack
takes_back b cs h fit many =
    let back = all_back b cs h fit many in
    record {
      accepted = back.accepted;
      as_many = back.as_many;
      fit = undo_fits b cs h fit;
      one_edition = back.one_edition;
      bytes = back.bytes;
      read_only = λ w n. (every_sequence b _ h (on_the_way_lem n)).read_only w;
      read_written = λ w n. (every_sequence b _ h (on_the_way_lem n)).read_written w;
      again = back.again;
    }
  where
    on_the_way_lem : (n : ℕ) → AllFit (take n (cs ++ undo b cs))
    on_the_way_lem n = fit_take n (cs ++ undo b cs) (fit_append cs (undo b cs) fit (undo_fits b cs h fit))
