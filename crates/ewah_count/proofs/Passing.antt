-- A count that goes from marker to marker, up to the last segment of R rows: what it has counted where it stands, what
-- it may read there, and what it returns. The set bits of a marker's run and of its dirty words are two numbers,
-- however they were counted.
-- Assumes nothing.
use Prim.Native.Nat.{ℕ, zero, suc, ◌+◌, ◌-◌, ◌*◌, ◌≤◌, ◌<◌}
use mathlib.Core.Path.{◌≡◌, refl, sym, ap, ap₂, ◌∙◌}
use mathlib.Core.List.{List, [], ◌∷◌}
use lib.ListN.{length, take, drop, get_or, replicate, length-drop}
use lib.Pow.{pow_pos}
use lib.Seq.{take-length, drop-drop, get_or-drop}
use borrow.Rule.Slice.PartMut.{mid_len}
use native.Mathlib.Decide.{dec_le}
use native.Mathlib.Omega.{arith}
use Rattle.meaning.specs.Limits.{most_rows, most_segments}
use Rattle.meaning.specs.Rows.{count_below}
use Rattle.meaning.specs.Segment.{ones, fill, segment_count, last_rows, last_limit, pads}
use Rattle.meaning.specs.Piece.{last_dirty}
use Rattle.meaning.specs.Format.{rows_of}
use Rattle.meaning.specs.declared.Format.TheVariants.{Ewah}
use Rattle.meaning.specs.Ewah.{pieces, segments, ewah_rows}
use Rattle.laws.specs.Laws.{EwahFacts}
use Rattle.laws.proofs.Walk.{At, Step, at-start, at-end}
use Rattle.laws.proofs.Asked.{rows-count, ones_step}
use Rattle.laws.proofs.Counting.{ones-append, ones-take-le}
use Rattle.laws.proofs.Decoded.{pieces_none}
use Rattle.laws.proofs.Parts.{part-is}
use Rattle.laws.proofs.RowWords.{segments-few}
use Rattle.ewah.specs.Markers.{FieldsOf}
use Rattle.ewah.specs.declared.marker.Marker.{Marker}
use Rattle.ewah.proofs.MarkerStep.{read_step}
use Rattle.ewah_count.specs.Pads.{pads_set}
use Rattle.laws.proofs.Pads.{pads-none, pads-all}
use Rattle.ewah_count.proofs.LastSegment.{behind-words, last_word, behind-run, pads-clean, pads-dirty}

-- of no words none are set
pub none-set : (ws : List ℕ) → length ws ≡ 0 → ones 32 ws ≡ 0
unfolding ones
none-set [] e = refl
none-set (x ∷ ws) e = absurd (omega arith)

-- ---- where the count stands

-- at the marker at word i, or at the end, with so many of the segments left: n bits of those behind are set. Where none
-- is left, m is the marker of the last
pub record Passed (R : ℕ) (b : List ℕ) (i left n m : ℕ) : Type 0 where
  pub sound : EwahFacts R b
  pub few : segment_count 32 R ≤ most_segments
  pub behind : ℕ
  pub all : behind + left ≡ segment_count 32 R
  pub stands : At b i 0 behind
  pub counted : n ≡ ones 32 (take behind (segments b))
  -- a dirty word that is last sets no pad bit
  pub clear : last_dirty (pieces 0 (drop i b)) < last_limit 32 R
  pub padded : left ≡ 0 → pads 32 R (segments b) ≡ pads_set R m

pub none_passed : (R : ℕ) (b : List ℕ) (left : ℕ) → R ≤ most_rows → EwahFacts R b → left ≡ segment_count 32 R
    → Passed R b 0 left 0 0
unfolding ones
none_passed R b left h s e = record {
  sound = s;
  few = segments-few R h;
  behind = 0;
  all = omega arith;
  stands = at-start b s.ended;
  counted = refl;
  clear = s.pads;
  padded = λ z. none (omega (arith, s.count));
}
  where
    none : length (segments b) * 32 - R ≡ 0 → pads 32 R (segments b) ≡ pads_set R 0
    none z = unfold pads_set count_below in rw z (omega arith)

module _ {R : ℕ} {b : List ℕ} {i left n m : ℕ} (p : Passed R b i left n m) where
  -- where a segment is left there is a marker
  pub marker-there : 0 < left → i < length b
  marker-there h = elim (dec_le (length b) i) [
    | yes g ↦ absurd (omega (arith, at-end b i p.behind p.stands g, p.all, p.sound.count))
    | no g ↦ omega arith
  ]

  -- at the end all rows are counted, and the pad bits of a run of ones
  pub all-passed : left ≡ 0 → n ≡ count_below R (ewah_rows b) + pads_set R m
  unfolding rows_of ewah_rows
  all-passed z =
      let e : p.behind ≡ length (segments b) = omega (arith, p.all, p.sound.count) in
      p.counted
      ∙ ap (λ (o : ℕ). ones 32 (take o (segments b))) e
      ∙ ap (ones 32) (take-length (segments b))
      ∙ rows-count Ewah R b p.sound.count
      ∙ ap (λ (k : ℕ). count_below R (ewah_rows b) + k) (p.padded z)

-- ---- one marker on

-- the marker at word i was read
pub record Read (R : ℕ) (b : List ℕ) (i left n last : ℕ) (m : Marker) : Type 0 where
  pub passed : Passed R b i left n last
  pub some : 0 < left
  pub fields : FieldsOf (get_or b i 0) m
  pub over : Step b i passed.behind m.value m.clean m.dirty

pub marker-read : {R : ℕ} {b : List ℕ} {i left n last : ℕ} {m : Marker} → Passed R b i left n last → 0 < left
    → FieldsOf (get_or b i 0) m → Read R b i left n last m
marker-read {b = b} {i = i} {m = m} p h f =
    record { passed = p; some = h; fields = f; over = read_step b i p.behind m p.stands (marker-there p h) f }

module _ {R : ℕ} {b : List ℕ} {i left n last : ℕ} {m : Marker} (g : Read R b i left n last m) where
  -- its dirty words are there
  pub dirty-fit : i + 1 + m.dirty ≤ length b
  dirty-fit = g.over.fits

  -- its segments are no more than those left
  pub segments-fit : m.clean + m.dirty ≤ left
  segments-fit = omega (arith, g.over.counts, g.passed.all, g.passed.sound.count)

  pub dirty-few : m.dirty ≤ most_segments
  dirty-few = omega (arith, segments-fit, g.passed.all, g.passed.few)

  -- as code lends them too
  pub part-few : length (take (i + 1 + m.dirty - (i + 1)) (drop (i + 1) b)) ≤ most_segments
  part-few = omega (arith, mid_len (i + 1) (i + 1 + m.dirty) b g.over.fits, dirty-few)

  -- ---- a dirty word that is last sets no pad bit

  abbrev rest : List ℕ
  rest = drop (i + 1) b

  limit-pos : 0 < last_limit 32 R
  unfolding last_limit
  limit-pos = pow_pos (last_rows 32 R)

  words-clear : last_dirty (pieces m.dirty rest) < last_limit 32 R
  words-clear =
      rw g.fields.dirty-is (rw (behind-run b i (marker-there g.passed g.some)) at g.passed.clear)

  next-clear : last_dirty (pieces 0 (drop (i + 1 + m.dirty) b)) < last_limit 32 R
  next-clear =
      rw (drop-drop m.dirty (i + 1) b) at (behind-words (last_limit 32 R) limit-pos m.dirty rest words-clear)

  -- ---- the pad bits, where the last segment is its own

  module _ (end : m.clean + m.dirty ≡ left) where
    -- in its run
    run-pads : m.dirty ≡ 0 → pads 32 R (segments b) ≡ m.value * (length (segments b) * 32 - R)
    run-pads z =
        go m.value g.fields.in-range.value_low (g.over.run_at (m.clean - 1) (omega (arith, g.some)))
      where
        k : ℕ
        k = g.passed.behind + (m.clean - 1)

        ends : length (segments b) ≡ suc k
        ends = omega (arith, g.passed.all, g.passed.sound.count, g.some)

        go : (v : ℕ) → v < 2 → get_or (segments b) k 0 ≡ fill 32 v → pads 32 R (segments b) ≡ v * (length (segments b) * 32 - R)
        go zero h f = pads-none 32 (omega arith) R (segments b) k g.passed.sound.count ends (rw f (unfold fill in limit-pos)) ∙ omega arith
        go (suc zero) h f = pads-all 32 (omega arith) R (segments b) k g.passed.sound.count ends f ∙ omega arith
        go (suc (suc v)) h f = absurd (omega arith)

    -- no piece is behind it
    none-behind : pieces 0 (drop m.dirty rest) ≡ []
    none-behind =
        rw (drop-drop m.dirty (i + 1) b)
        (pieces_none 0 (drop (i + 1 + m.dirty) b)
        (ap length g.over.next.rest
        ∙ length-drop (g.passed.behind + m.clean + m.dirty) (segments b)
        ∙ omega (arith, g.passed.all, g.passed.sound.count)))

    -- in its dirty words
    words-pads : (d : ℕ) → m.dirty ≡ suc d → pads 32 R (segments b) ≡ 0
    words-pads d e =
        let k = g.passed.behind + m.clean + d in
        let ends : length (segments b) ≡ suc k = omega (arith, g.passed.all, g.passed.sound.count) in
        let low : get_or rest d 0 < last_limit 32 R =
        last_word (last_limit 32 R) limit-pos d rest (omega (arith, length-drop (i + 1) b, dirty-fit))
        (rw e at none-behind) (rw e at words-clear) in
        pads-none 32 (omega arith) R (segments b) k g.passed.sound.count ends
        (rw (g.over.dirty-at d (omega arith)) (rw (get_or-drop (i + 1) b d 0) at low))

    its-pads : pads 32 R (segments b) ≡ pads_set R (get_or b i 0)
    its-pads = go m.dirty refl
      where
        go : (d : ℕ) → m.dirty ≡ d → pads 32 R (segments b) ≡ pads_set R (get_or b i 0)
        go zero e =
            run-pads e
            ∙ ap₂ (λ (v k : ℕ). v * (k * 32 - R)) g.fields.value-is g.passed.sound.count
            ∙ sym (pads-clean R (get_or b i 0) (sym g.fields.dirty-is ∙ e))
        go (suc d) e = words-pads d e ∙ sym (pads-dirty R (get_or b i 0) (omega (arith, g.fields.dirty-is)))

  -- ---- with the set bits of its run and of its dirty words

  module _ (r w : ℕ)
      (run : r ≡ ones 32 (replicate m.clean (fill 32 m.value)))
      (dirty : w ≡ ones 32 (take (i + 1 + m.dirty - (i + 1)) (drop (i + 1) b))) where
    up-to-next : n + (r + w) ≡ ones 32 (take (g.passed.behind + m.clean + m.dirty) (segments b))
    up-to-next =
        omega (
          arith,
          g.passed.counted,
          run,
          dirty,
          ap (ones 32) (part-is b (i + 1) m.dirty),
          ones-append 32 (replicate m.clean (fill 32 m.value)) (take m.dirty (drop (i + 1) b)),
          ones_step b i g.passed.behind m.value m.clean m.dirty g.over,
        )

    pub at_most : n + (r + w) ≤ most_segments * 32
    at_most =
        omega (
          arith,
          up-to-next,
          ones-take-le 32 (segments b) (g.passed.behind + m.clean + m.dirty),
          g.passed.sound.count,
          g.passed.few,
        )

    pub passed-next : Passed R b (i + 1 + m.dirty) (left - m.clean - m.dirty) (n + (r + w)) (get_or b i 0)
    passed-next = record {
      sound = g.passed.sound;
      few = g.passed.few;
      behind = g.passed.behind + m.clean + m.dirty;
      all = omega (arith, g.passed.all, segments-fit);
      stands = g.over.next;
      counted = up-to-next;
      clear = next-clear;
      padded = λ z. its-pads (omega (arith, segments-fit));
    }
