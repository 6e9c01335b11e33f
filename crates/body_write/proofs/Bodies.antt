-- The words of the segments that were put, in either format: how many they are, and that they are the canonical
-- body's.
-- Assumes nothing.
use Prim.Native.Nat.{ℕ, ◌≤◌, ◌<◌}
use mathlib.Core.Path.{◌≡◌, refl}
use mathlib.Core.List.{List, [], ◌++◌, foldl, foldl-append}
use native.Mathlib.Omega.{arith}
use lib.ListN.{length}
use Rattle.meaning.specs.Limits.{most_dirty}
use Rattle.meaning.specs.Segment.{Segment, last_rows}
use Rattle.meaning.specs.Canonical.{blank, body, put, ewah_of}
use Rattle.meaning.specs.Wah.{wah_draft, run_words, wah_body, wah_put, wah_of}
use Rattle.meaning.specs.Format.{width, most_run, words_of}
use Rattle.meaning.specs.declared.Format.{Format}
use Rattle.meaning.specs.declared.Format.TheVariants.{Ewah, Wah}
use Rattle.laws.proofs.Least.{puts-grow}
use Rattle.ewah_write.specs.declared.writer.Writer.{Writer}
use Rattle.wah_write.proofs.Runs as runs
use Rattle.body_write.specs.Bodies.{so_far, Stands}
use Rattle.body_write.proofs.OfEwah.{ewah-used}
use Rattle.body_write.proofs.OfWah.{wah-used}

-- ---- the words

pub words-none : (F : Format) (real : ℕ) → so_far F real [] ≡ []
words-none Ewah real = unfold ewah_of body in refl
words-none Wah real = unfold wah_body run_words in refl

-- of R rows
pub words-all : (F : Format) (R : ℕ) (ss : List Segment) → words_of F R ss ≡ so_far F (last_rows (width F) R) ss
words-all Ewah R ss = refl
words-all Wah R ss = unfold wah_of in refl

-- more segments take no fewer words
pub words-grow : (F : Format) (a b : ℕ) (ss ts : List Segment) → length (so_far F a ss) ≤ length (so_far F b (ss ++ ts))
words-grow Ewah a b ss ts = unfold ewah_of in rw (foldl-append put blank ss ts) (puts-grow (foldl put blank ss) ts)
words-grow Wah a b ss ts =
    let d = foldl wah_put (wah_draft [] 0 0) ss in
    rw (foldl-append wah_put (wah_draft [] 0 0) ss ts)
    (omega (arith, runs.body-length a d, runs.body-length b (foldl wah_put d ts), runs.puts-grow ts d))

-- ---- the state

pub used-is : {F : Format} {w : Writer} {ss : List Segment} (real : ℕ) → Stands F w ss
    → w.used ≡ length (so_far F real ss)
used-is {F} {w} {ss} real t = go F t
  where
    go : (F : Format) → Stands F w ss → w.used ≡ length (so_far F real ss)
    go Ewah t = (ewah-used t).0
    go Wah t = (wah-used real t).0

-- its fields are in range
pub fields-low : {F : Format} {w : Writer} {ss : List Segment} → Stands F w ss
    → (w.last.value < 2) × (w.last.clean ≤ most_run F) × (w.last.dirty ≤ most_dirty)
fields-low {F} {w} {ss} t = go F t
  where
    go : (F : Format) → Stands F w ss
        → (w.last.value < 2) × (w.last.clean ≤ most_run F) × (w.last.dirty ≤ most_dirty)
    go Ewah t = let r = t.tracks.in-range in (r.value_low, r.clean-low, r.dirty-low)
    go Wah t = let r = t.tracks.in-fill in (r.value_low, r.clean-low, omega (arith, r.no-dirty))
