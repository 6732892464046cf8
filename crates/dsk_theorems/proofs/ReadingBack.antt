-- What was written is accepted and read back, all sectors joined are the data, and so two inputs that give the same image are the same.
use Prim.Native.Nat.{ℕ, ◌+◌, ◌*◌, ◌<◌, ◌≤◌}
use mathlib.Core.Path.{◌≡◌, refl, sym, ap, ◌∙◌, subst}
use mathlib.Core.Logic.{inl, inr}
use mathlib.Core.List.{List, [], append-nil}
use mathlib.Core.Bool.{Bool, true, false}
use native.Mathlib.Nat.{add-zero, zero-add, zero-mul, mul_assoc}
use native.Mathlib.Omega.{arith}
use lib.ListN.{length, take, drop}
use lib.Seq.{take_all}
use lib.Dec.{ltb}
use borrow.Author.Tests.{ltb-false}
use Rattle.std.specs.Prelude.{Result, Ok, Err}
use Rattle.refusals.specs.Refusals.{Fault, none, refusal, refuse_if, unless}
use Rattle.refusals.proofs.Answers.{unless_found}
use Rattle.dsk_fields.specs.Fields.{info_size, tracks, sides, track_size, block_of, size_code, sectors, data_size, data_at, sector_size}
use Rattle.dsk_check.specs.Faults.{dsk_fault}
use Rattle.dsk_check.specs.Validity.{BlockHolds, Valid}
use Rattle.dsk_check.proofs.Accepting.{accepts}
use Rattle.dsk.specs.Questions.{block_question}
use Rattle.dsk.specs.Answers.{geometry_answer, block_answer, sector_info, sector_answer, part_of, data_part}
use Rattle.dsk.specs.declared.DiskGeometry.{DiskGeometry}
use Rattle.dsk.specs.declared.TrackBlock.{TrackBlock}
use Rattle.dsk.proofs.Asking.{BlockThere, block_passes}
use Rattle.dsk.proofs.FoundLaws.{SectorThere, sector_found, accepts_exactly}
use Rattle.dsk_layout.specs.declared.Layout.{Layout}
use Rattle.dsk_layout.specs.Layouts.{layout_of, track_data, track_length, block_count, bad_layout, Writable}
use Rattle.dsk_layout.proofs.LayoutLaws.{writable, refuses_exactly}
use Rattle.dsk_write.specs.Images.{joined_from, block_offset, image_bytes}
use Rattle.dsk_write.specs.Writing.{write_fault, write_answer}
use Rattle.dsk_write.proofs.Sizes.{data_within, image_length_lem}
use Rattle.dsk_write.proofs.Outcome.{gives_length}
use Rattle.dsk_theorems.specs.Theorems.{Writes, WritesExactly, all_sectors, ReadsBack, RoundTrip, SameInput, WritesApart, LeavesApart}
use Rattle.dsk_theorems.proofs.Slices.{joined_same, stretches}
use Rattle.dsk_theorems.proofs.Reading.{tracks_at, sides_at, size_at, sign_at, creator_at, Stands, name_at, track_at, side_at, code_at, count_at, gap_at, filler_at, entry, sector_at, written_is, written_length, stands}
use Rattle.dsk_theorems.proofs.Reading as reading

module _ (c : List ℕ) (l : Layout) (d rest : List ℕ) (w : Writable l (length c) (length d)) where
  -- the image, and what follows it
  abbrev b : List ℕ
  b = reading.written c l d rest w

  few : l.sectors ≤ 29
  few = w.sectors_most

  tracks_are : tracks b ≡ l.tracks
  tracks_are = tracks_at c l _ w.creator

  sides_are : sides b ≡ l.sides
  sides_are = sides_at c l _ w.creator

  size_is : track_size b ≡ track_length l
  size_is = size_at c l _ w.creator w.track_most

  place_is : (t s : ℕ) → block_of b t s ≡ block_offset l t s
  place_is t s =
      ap (λ (x : ℕ). info_size + (t * x + s) * track_size b) sides_are ∙ ap (λ (x : ℕ). info_size + (t * l.sides + s) * x) size_is

  there : (t s : ℕ) → t < l.tracks → s < l.sides → Stands b l d (block_of b t s) t s (t * l.sides + s)
  there t s h k = subst (λ (e : ℕ). Stands b l d e t s (t * l.sides + s)) (sym (place_is t s)) (stands c l d rest w t s h k)

  -- ---- it is accepted

  holds : (t s : ℕ) → t < l.tracks → s < l.sides → BlockHolds b (block_of b t s) t s
  holds t s h k =
      let e = block_of b t s in
      let i = t * l.sides + s in
      let at = there t s h k in
      let code = code_at b l d e t s i few at in
      let count = count_at b l d e t s i few at in
      let small = w.code_most in
      let most = few in
      let size : sectors b e * sector_size (size_code b e) ≡ track_data l =
      ap (λ (x : ℕ). x * sector_size (size_code b e)) count ∙ ap (λ (x : ℕ). l.sectors * sector_size x) code in
      let all = size_is in
      record {
        name = name_at b l d e t s i few at;
        track = track_at b l d e t s i few at;
        side = side_at b l d e t s i few at;
        count = omega arith;
        code = omega arith;
        codes = λ j q. let own = (entry b l d e t s i few at j (omega arith)).code in omega arith;
        room = omega arith;
      }

  valid : Valid b
  valid =
      let size = size_is in
      let whole : tracks b * sides b * track_size b ≡ block_count l * track_length l =
      ap (λ (x : ℕ). x * sides b * track_size b) tracks_are ∙ ap (λ (x : ℕ). l.tracks * x * track_size b) sides_are ∙ ap (λ (x : ℕ). block_count l * x) size_is in
      let n = written_length c l d rest w in
      let some = w.tracks_least in
      let tr = tracks_are in
      let sd = sides_are in
      record {
        sign = sign_at c l _ w.creator;
        one_or_two = elim w.one_or_two [ inl e ↦ inl (sides_are ∙ e) | inr e ↦ inr (sides_are ∙ e) ];
        tracks_least = omega arith;
        size_least = omega arith;
        whole = omega arith;
        blocks = λ t s h k. holds t s (omega arith) (omega arith);
      }

  -- ---- what the calls answer

  geometry_is : geometry_answer b ≡ Ok (record { tracks = l.tracks; sides = l.sides; size = track_length l })
  unfolding geometry_answer
  geometry_is =
      sym (unless_found (dsk_fault b) _ Err (accepts b valid) (ap Ok (cc (tracks_are, sides_are, size_is))))

  block_there : (t s : ℕ) → t < l.tracks → s < l.sides → BlockThere b t s
  block_there t s h k =
      let tr = tracks_are in
      let sd = sides_are in
      record { accepted = accepts b valid; track = omega arith; side = omega arith }

  block_is : (t s : ℕ) → t < l.tracks → s < l.sides
      → block_answer b t s ≡ Ok (record { sectors = l.sectors; code = l.code; gap = l.gap; filler = l.filler })
  unfolding block_answer
  block_is t s h k =
      let e = block_of b t s in
      let i = t * l.sides + s in
      let at = there t s h k in
      sym (unless_found (block_question b t s) _ Err (block_passes b t s (block_there t s h k))
      (ap Ok (cc (count_at b l d e t s i few at, code_at b l d e t s i few at, gap_at b l d e t s i few at, filler_at b l d e t s i few at))))

  sector_there : (t s k : ℕ) → t < l.tracks → s < l.sides → k < l.sectors → SectorThere b t s k
  sector_there t s k h g below =
      let count = count_at b l d (block_of b t s) t s (t * l.sides + s) few (there t s h g) in
      record { block = block_there t s h g; below = omega arith }

  sector_is : (t s k : ℕ) → t < l.tracks → s < l.sides → k < l.sectors
      → sector_answer b t s k
      ≡ Ok (record {
        cylinder = t;
        head = s;
        id = k + 1;
        code = l.code;
        status1 = 0;
        status2 = 0;
        offset = block_offset l t s + info_size + k * sector_size l.code;
        length = sector_size l.code;
      })
  unfolding sector_info
  sector_is t s k h g below =
      let e = block_of b t s in
      let i = t * l.sides + s in
      let at = there t s h g in
      let own = entry b l d e t s i few at k below in
      let code = code_at b l d e t s i few at in
      let size : data_size b e ≡ sector_size l.code = ap sector_size code in
      let start : data_at b e k ≡ block_offset l t s + info_size + k * sector_size l.code =
      ap (λ (x : ℕ). x + info_size + k * data_size b e) (place_is t s) ∙ ap (λ (x : ℕ). block_offset l t s + info_size + k * x) size in
      sector_found b t s k (sector_there t s k h g below)
      ∙ ap Ok (cc (own.track, own.side, own.id, own.code, own.first, own.second, start, size))

  data_is : (t s k : ℕ) → t < l.tracks → s < l.sides → k < l.sectors
      → data_part b t s k ≡ take (sector_size l.code) (drop (((t * l.sides + s) * l.sectors + k) * sector_size l.code) d)
  data_is t s k h g below =
      let i = t * l.sides + s in
      let content = w.content in
      let inside = data_within l h g in
      ap (part_of b) (sector_is t s k h g below)
      ∙ sector_at b l d (block_offset l t s) t s i few (stands c l d rest w t s h g) k below (omega arith)

  -- ---- all sectors joined

  -- those of a block, of a track, and of all tracks
  block_joined : (t s : ℕ) → t < l.tracks → s < l.sides
      → joined_from (data_part b t s) 0 l.sectors ≡ take (track_data l) (drop ((t * l.sides + s) * track_data l) d)
  block_joined t s h k =
      let size = sector_size l.code in
      let a = (t * l.sides + s) * l.sectors in
      let e : (a + 0) * size ≡ (t * l.sides + s) * track_data l =
      ap (λ (x : ℕ). x * size) (add-zero a) ∙ mul_assoc (t * l.sides + s) l.sectors size in
      joined_same (data_part b t s) (λ j. take size (drop ((a + j) * size) d)) 0 l.sectors (λ j q. data_is t s j h k (omega arith))
      ∙ stretches d size a 0 l.sectors ∙ ap (λ (x : ℕ). take (track_data l) (drop x d)) e

  track_joined : (t : ℕ) → t < l.tracks
      → joined_from (λ s. joined_from (data_part b t s) 0 l.sectors) 0 l.sides ≡ take (l.sides * track_data l) (drop (t * (l.sides * track_data l)) d)
  track_joined t h =
      let e : (t * l.sides + 0) * track_data l ≡ t * (l.sides * track_data l) =
      ap (λ (x : ℕ). x * track_data l) (add-zero (t * l.sides)) ∙ mul_assoc t l.sides (track_data l) in
      joined_same (λ s. joined_from (data_part b t s) 0 l.sectors) (λ s. take (track_data l) (drop ((t * l.sides + s) * track_data l) d)) 0 l.sides
      (λ s k. block_joined t s h (omega arith))
      ∙ stretches d (track_data l) (t * l.sides) 0 l.sides ∙ ap (λ (x : ℕ). take (l.sides * track_data l) (drop x d)) e

  all_joined : all_sectors b l ≡ d
  all_joined =
      let size = l.sides * track_data l in
      let zero : (0 + 0) * size ≡ 0 = omega (arith, zero-mul size) in
      let n = w.content in
      let m = mul_assoc l.tracks l.sides (track_data l) in
      let all : length d ≤ l.tracks * size = omega arith in
      joined_same (λ t. joined_from (λ s. joined_from (data_part b t s) 0 l.sectors) 0 l.sides) (λ t. take size (drop ((0 + t) * size) d)) 0 l.tracks
      (λ t h. track_joined t (omega arith) ∙ ap (λ (x : ℕ). take size (drop (x * size) d)) (sym (zero-add t)))
      ∙ stretches d size 0 0 l.tracks ∙ ap (λ (x : ℕ). take (l.tracks * size) (drop x d)) zero ∙ take_all (l.tracks * size) d all

  reads_back : ReadsBack b c l d
  reads_back =
      record {
        accepted = (accepts_exactly b).1 valid;
        geometry = geometry_is;
        blocks = block_is;
        sectors = sector_is;
        contents = data_is;
        joined = all_joined;
        creator = creator_at c l _ w.creator;
      }

-- ---- when it is written

answered : (c : List ℕ) (l : Layout) (d : List ℕ) (places n : ℕ) → write_answer c l d places ≡ Ok n → Writes c l d places n
unfolding write_answer write_fault
answered c l d places n e = by (bad_layout l (length c) (length d)) refl (ltb places (length (image_bytes c l d))) refl e
  where
    by : (x : Bool) → bad_layout l (length c) (length d) ≡ x → (y : Bool) → ltb places (length (image_bytes c l d)) ≡ y
        → unless (refuse_if x (refusal 41 0) (refuse_if y (refusal 15 0) none)) (Ok (length (image_bytes c l d))) Err ≡ Ok n
        → Writes c l d places n
    by true q y r h = unfold refuse_if in cc
    by false q true r h = unfold refuse_if in cc
    by false q false r h =
        unfold refuse_if in
        (let w = writable l (length c) (length d) q in
        let whole : length (image_bytes c l d) ≡ n = cc in
        let size = image_length_lem c l d w in
        let fits = ltb-false places (length (image_bytes c l d)) r in
        record { writable = w; size = omega arith; fits = omega arith })

pub writes_exactly : WritesExactly
writes_exactly c l d places n = (
  answered c l d places n,
  λ w.
      let size = w.size in
      let fits = w.fits in
      sym (gives_length c l d places ((refuses_exactly l (length c) (length d)).1 w.writable) w.size (omega arith)),
)

-- ---- what was written

pub round_trip : RoundTrip
round_trip c l d old n e =
    let w = (answered c l d (length old) n e).writable in
    let rest = drop (length (image_bytes c l d)) old in
    subst (λ (x : List ℕ). ReadsBack x c l d) (sym (written_is c l d rest w)) (reads_back c l d rest w)

-- ---- apart

-- what reads back in two ways is the same
same_answer : {A : Type 0} {x y : A} → ◌≡◌ {A = Result A Fault} (Ok x) (Ok y) → x ≡ y
same_answer e = cc

same_layout : (l m : Layout) → l.tracks ≡ m.tracks → l.sides ≡ m.sides → l.sectors ≡ m.sectors → l.code ≡ m.code → l.gap ≡ m.gap
    → l.filler ≡ m.filler → l ≡ m
same_layout l m t s n c g f =
    let same
    : layout_of l.tracks l.sides l.sectors l.code l.gap l.filler
    ≡ layout_of m.tracks m.sides m.sectors m.code m.gap m.filler
    = cc in
    same

-- an image by itself
image_reads : (c : List ℕ) (l : Layout) (d : List ℕ) → Writable l (length c) (length d) → ReadsBack (image_bytes c l d) c l d
image_reads c l d w =
    subst (λ (x : List ℕ). ReadsBack x c l d) (sym (written_is c l d [] w) ∙ append-nil (image_bytes c l d)) (reads_back c l d [] w)

apart : (b c : List ℕ) (l : Layout) (d : List ℕ) (c₂ : List ℕ) (l₂ : Layout) (d₂ : List ℕ) → 1 ≤ l.tracks → 1 ≤ l.sides
    → ReadsBack b c l d → ReadsBack b c₂ l₂ d₂ → SameInput c l d c₂ l₂ d₂
apart b c l d c₂ l₂ d₂ t s p q =
    let geometry = same_answer (sym p.geometry ∙ q.geometry) in
    let tracks = ap (λ (g : DiskGeometry). g.tracks) geometry in
    let sides = ap (λ (g : DiskGeometry). g.sides) geometry in
    let block = same_answer (sym (p.blocks 0 0 (omega arith) (omega arith)) ∙ q.blocks 0 0 (omega arith) (omega arith)) in
    let sectors = ap (λ (g : TrackBlock). g.sectors) block in
    let code = ap (λ (g : TrackBlock). g.code) block in
    let gap = ap (λ (g : TrackBlock). g.gap) block in
    let filler = ap (λ (g : TrackBlock). g.filler) block in
    let same : l ≡ l₂ = same_layout l l₂ tracks sides sectors code gap filler in
    record { creator = sym p.creator ∙ q.creator; layout = same; content = sym p.joined ∙ ap (all_sectors b) same ∙ q.joined }

one_side : (l : Layout) {m n : ℕ} → Writable l m n → 1 ≤ l.sides
one_side l w = elim w.one_or_two [ inl e ↦ omega arith | inr e ↦ omega arith ]

pub writes_apart : WritesApart
writes_apart c l d c₂ l₂ d₂ w w₂ same =
    apart (image_bytes c l d) c l d c₂ l₂ d₂ w.tracks_least (one_side l w) (image_reads c l d w)
    (subst (λ (x : List ℕ). ReadsBack x c₂ l₂ d₂) (sym same) (image_reads c₂ l₂ d₂ w₂))

pub leaves_apart : LeavesApart
leaves_apart c l d old n c₂ l₂ d₂ old₂ n₂ e e₂ same =
    let w = (answered c l d (length old) n e).writable in
    apart _ c l d c₂ l₂ d₂ w.tracks_least (one_side l w) (round_trip c l d old n e)
    (subst (λ (x : List ℕ). ReadsBack x c₂ l₂ d₂) (sym same) (round_trip c₂ l₂ d₂ old₂ n₂ e₂))
