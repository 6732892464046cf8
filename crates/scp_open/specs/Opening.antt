-- Opening: refusals 1 to 11 and 19 in their order (RO-3, RO-4), and the opened image (T-1).
use Rattle.std.specs.Prelude.{ℕ, List, Bool, cond, Result, Ok, Err}
use Rattle.refusals.specs.Refusals.{Fault, none, unless, first_of}
use Rattle.scp_fields.specs.declared.Edition.{Edition}
use Rattle.scp_fields.specs.Header.{version, disk, revolutions, start_track, end_track, flags, width, heads, stored_sum, entries}
use Rattle.scp_header.specs.HeaderFault.{header_fault}
use Rattle.scp_footer.specs.Footer.{footer_fault}
use Rattle.scp_tracks.specs.Tracks.{tracks_fault_in, tracks_fault}
use Rattle.scp_open.specs.declared.Header.{Header}
use Rattle.scp_open.specs.declared.Opened.{Opened}

-- RO-3, RO-4, T-1: what refuses the image: 1 to 6, then 7, then the strings with 8 and 19, then the tracks with 9 to 11.
unfoldable pub open_fault : Edition → List ℕ → Fault
open_fault v b = first_of (header_fault v b) (first_of (footer_fault v b) (tracks_fault v b))

-- RO-3, DI-1: what refuses the footer, where it is tested.
abbrev pub footer_fault_if : Edition → List ℕ → Bool → Fault
footer_fault_if v b footer = cond footer (footer_fault v b) none

-- RO-3, RO-4, DI-1: what refuses the header, the footer where it is tested, and the tracks from i up to j, which is left out.
abbrev pub fault_in : Edition → List ℕ → Bool → ℕ → ℕ → Fault
fault_in v b footer i j = first_of (header_fault v b) (first_of (footer_fault_if v b footer) (tracks_fault_in v b i j))

-- T-1: the header as it is handed out.
unfoldable pub header_of : List ℕ → Header
header_of b =
    record {
      version = version b;
      disk = disk b;
      revolutions = revolutions b;
      start = start_track b;
      end = end_track b;
      flags = flags b;
      width = width b;
      heads = heads b;
      checksum = stored_sum b;
    }

-- T-1: an opened image: its header and its table.
abbrev pub opened_image : Edition → List ℕ → Opened
opened_image v b = record { header = header_of b; table = entries v b }

-- T-1: what opening gives: the opened image, or what refuses it.
unfoldable pub opened_of : Edition → List ℕ → Result Opened Fault
opened_of v b = unless (open_fault v b) (Ok (opened_image v b)) Err
