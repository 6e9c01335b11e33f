-- A body's writer, found again, writes the longer body: its last marker stored, and the rows that the packer has.
-- Assumes nothing.
use Prim.Native.Nat.{ℕ, ◌+◌, ◌-◌, ◌*◌, ◌/◌, ◌%◌, ◌≤◌, ◌<◌}
use mathlib.Core.Bool.{Bool, true, false, false≢true}
use mathlib.Core.Path.{◌≡◌, refl, sym, ap, ◌∙◌, subst}
use mathlib.Core.List.{List, foldl}
use native.Mathlib.Omega.{arith}
use lib.ListN.{length, take, set, length-set}
use lib.Seq.{drop-set-lt}
use Rattle.meaning.specs.Limits.{most_rows}
use Rattle.meaning.specs.Segment.{Segment, segment_count, rows_in, has_row, word_of}
use Rattle.meaning.specs.Ewah.{marker}
use Rattle.meaning.specs.Canonical.{Draft, blank, draft, put, body, ewah_of}
use Rattle.meaning.specs.declared.Format.TheVariants.{Ewah}
use Rattle.laws.proofs.RowWords.{word-ext, word_lt}
use Rattle.laws.proofs.Lengthen.{front_same}
use Rattle.ewah_write.specs.declared.writer.Writer.{Writer}
use Rattle.ewah_write.specs.Drafts.{Tracks, Writing}
use Rattle.body_write.specs.Bodies.{Stands, Written}
use Rattle.row_write.specs.declared.output.Output.{Output}
use Rattle.row_write.specs.Sending.{all_of}
use Rattle.batches.proofs.Following.{follow-old, follow-new}
use Rattle.resume.specs.declared.Place.{Place}
use Rattle.resume.specs.Resume.{whole_of, PlaceOf}
use Rattle.extend.specs.Longer.{longer, Fits, Reopened, BatchNext, MarkerStored}

-- ---- the last marker

-- where words are in use, it is one of them
pub placed : {w : Writer} → Writing w → 0 < w.used → w.at < w.used
placed {w} t some = go t.0 t.1
  where
    go : (d : Draft) → Tracks w d → w.at < w.used
    go blank t = absurd (omega (arith, t.same.0))
    go (draft done v c ds) t = omega (arith, t.same.0, t.same.1)

pub none-stored : (out : List ℕ) (w : Writer) → w.used ≡ 0 → MarkerStored out out w
none-stored out w none = record { words = rw none; kept = refl; long = refl }

pub marker-stored : (out : List ℕ) (w : Writer) (m : ℕ) → m ≡ marker w.last.value w.last.clean w.last.dirty
    → w.at < w.used → MarkerStored out (set out w.at m) w
marker-stored out w m is h = record {
  words = ap (λ (x : ℕ). take w.used (set out w.at x)) is;
  kept = drop-set-lt w.used out w.at m h;
  long = length-set out w.at m;
}

-- ---- the place, reopened

module _ {R : ℕ} {q : ℕ → Bool} {out : List ℕ} {p : Place} (at : PlaceOf R q out p) (plain : List ℕ) (k : ℕ)
    (few : R + k ≤ most_rows) (o : Output) (is : Reopened R p o) where
  -- the longer body's rows, and those of its segments that were whole before
  abbrev rows : ℕ → Bool
  rows = longer R q plain

  abbrev whole : List Segment
  whole = take (R / 32) (all_of Ewah (R + k) (longer R q plain))

  -- the draft of these is the shorter body's
  draft-same : whole_of R q ≡ foldl put blank whole
  draft-same =
      ap (λ (ss : List Segment). foldl put blank ss)
      (front_same R k q rows (λ r h. sym (follow-old R q (has_row 32 plain) r h)))

  stands : Stands Ewah o.writer whole
  stands = record {
    tracks = subst (λ (d : Draft). Tracks o.writer d) draft-same
        (subst (λ (w : Writer). Tracks w (whole_of R q)) (sym is.0) at.tracks);
  }

  -- the rows in the packer are those behind the whole segments
  part_same : o.packer.word ≡ word_of o.packer.have (λ j. rows (R / 32 * 32 + j))
  part_same =
      is.1 ∙ at.part-is
      ∙ word-ext (R % 32) (λ j. q (R / 32 * 32 + j)) (λ j. rows (R / 32 * 32 + j))
      (λ j h. sym (follow-old R q (has_row 32 plain) (R / 32 * 32 + j) (omega arith)))
      ∙ ap (λ (n : ℕ). word_of n (λ j. rows (R / 32 * 32 + j))) (sym is.2)

  -- so the batch comes next, if the buffer has the words of the whole segments where they are stored
  next : {store : Bool} (old : List ℕ) {out' : List ℕ} → (store ≡ true → Fits R q k plain old) → length out' ≡ length old
      → (store ≡ true → Written Ewah (rows_in 32 (R + k) (R / 32 - 1)) old out' o.writer whole)
      → (store ≡ false → out' ≡ old) → BatchNext R rows old store out' o plain k
  unfolding segment_count
  next old room long stored kept = record {
    packed = record {
      whole = R / 32;
      rows = omega (arith, is.2);
      low = rw part_same (word_lt o.packer.have (λ j. rows (R / 32 * 32 + j)));
      begun = part_same;
      sent = record {
        few = few;
        room = room;
        within = omega arith;
        long = long;
        up = record { stands = stands; stored = stored; kept = kept };
      };
    };
    within = omega arith;
    next = λ j h. follow-new R q (has_row 32 plain) (R + j) (omega arith) ∙ ap (has_row 32 plain) (omega arith);
  }

  -- to be measured
  pub measured-next : (old : List ℕ) → BatchNext R (longer R q plain) old false old o plain k
  measured-next old = next old (λ e. absurd (false≢true e)) refl (λ e. absurd (false≢true e)) (λ e. refl)

  -- to be stored, behind the last marker as the writer has it
  pub stored_next : {out' : List ℕ} → Fits R q k plain out → MarkerStored out out' p.writer
      → BatchNext R (longer R q plain) out true out' o plain k
  unfolding ewah_of
  stored_next {out'} room m = next out (λ e. room) m.long (λ e. written) (λ e. absurd (false≢true (sym e)))
    where
      written : Written Ewah (rows_in 32 (R + k) (R / 32 - 1)) out out' o.writer whole
      written = record {
        stands = stands;
        words = ap (λ (w : Writer). take w.used out') is.0 ∙ m.words ∙ at.words ∙ ap body draft-same;
        kept = rw is.0 m.kept;
      }
