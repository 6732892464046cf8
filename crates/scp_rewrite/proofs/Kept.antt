-- What a call keeps of an image, whatever edition it names; what one call keeps and the next keeps, both keep.
use Rattle.std.proofs.Common.{◌≡◌, ℕ, ◌≤◌, true, false, List, length, refl, ◌∙◌}
use Rattle.octets.specs.Numbers.{byte_at, Octets}
use Rattle.scp_fields.specs.Header.{checksum_at, revolutions, end_track, read_write, track_entry}
use Rattle.scp_sharing.specs.Extents.{extent, In}
use Rattle.scp_rewrite.specs.OneRewrite.{distance}

-- From the bytes b to the bytes q.
pub record Kept (b q : List ℕ) : Type 0 where
  pub size : length q ≡ length b
  pub mark : read_write q ≡ read_write b
  pub turns : revolutions q ≡ revolutions b
  pub last : end_track q ≡ end_track b
  pub entries : (u : ℕ) → u ≤ end_track b → track_entry q u ≡ track_entry b u
  pub octets : Octets b → Octets q
  pub read_only : read_write b ≡ false → distance q ≡ distance b
  pub read_written : read_write b ≡ true → (i : ℕ) → In i (extent checksum_at 4) → byte_at q i ≡ byte_at b i

pub still : (b : List ℕ) → Kept b b
still b =
    record {
      size = refl;
      mark = refl;
      turns = refl;
      last = refl;
      entries = λ u l. refl;
      octets = λ h. h;
      read_only = λ e. refl;
      read_written = λ e i h. refl;
    }

pub both : {b p q : List ℕ} → Kept b p → Kept p q → Kept b q
both x y =
    record {
      size = y.size ∙ x.size;
      mark = y.mark ∙ x.mark;
      turns = y.turns ∙ x.turns;
      last = y.last ∙ x.last;
      entries = λ u l. y.entries u (rw x.last l) ∙ x.entries u l;
      octets = λ h. y.octets (x.octets h);
      read_only = λ e. y.read_only (x.mark ∙ e) ∙ x.read_only e;
      read_written = λ e i h. y.read_written (x.mark ∙ e) i h ∙ x.read_written e i h;
    }
