-- The words of a block as they are written: the last one of each row in turn, and so the block's segments.
-- Assumes nothing.
use Prim.Native.Nat.{ℕ, suc, ◌+◌, ◌-◌, ◌*◌, ◌%◌, ◌^◌, ◌≤◌, ◌<◌}
use mathlib.Core.Bool.{Bool, true, false, true≢false}
use mathlib.Core.Path.{◌≡◌, refl, sym, ap, ◌∙◌}
use mathlib.Core.List.{List}
use lib.ListN.{length, get_or, set, length-set}
use lib.Pow.{pow-lt, pow_pos}
use lib.Seq.{get_or-set_same, get_or-set_other}
use native.Mathlib.Decide.{ℕ_discrete}
use native.Mathlib.Nat.{mod-eq_of_lt}
use native.Mathlib.Omega.{arith}
use Rattle.meaning.specs.Limits.{block_segments}
use Rattle.meaning.specs.Segment.{kind, all_set, rows_in, segment_count}
use Rattle.meaning.specs.Format.{width}
use Rattle.meaning.specs.declared.Format.{Format}
use Rattle.laws.proofs.Cut.{rows_inside, rows-some, rows-le}
use Rattle.laws.proofs.Formats.{width-pos}
use Rattle.pairs.specs.Spellings.{WordsSpelled, Spelled}

-- ---- row by row

module _ (F : Format) (z : List ℕ) (w mask : ℕ) where
  -- one row more, whose word became x
  module _ (z' : List ℕ) (count x : ℕ) (g : WordsSpelled F z count w mask z') where
    abbrev at : ℕ
    at = count * block_segments + w

    pub spelled-more : at < length z'
        → ((real : ℕ) → 1 ≤ real → real ≤ width F → mask ≡ all_set real
        → kind (width F) x ≡ kind real (get_or z' at 0 % 2 ^ real))
        → WordsSpelled F z (count + 1) w mask (set z' at x)
    spelled-more l h = record {
      long = length-set z' at x ∙ g.long;
      words = words;
      others = λ i n. other i (n count (omega arith)) ∙ g.others i (λ b s. n b (omega arith));
    }
      where
        other : (i : ℕ) → (i ≡ at → ⊥) → get_or (set z' at x) i 0 ≡ get_or z' i 0
        other i n = get_or-set_other z' at i x 0 n

        words : (b real : ℕ) → b < count + 1 → 1 ≤ real → real ≤ width F → mask ≡ all_set real
            → kind (width F) (get_or (set z' at x) (b * block_segments + w) 0)
            ≡ kind real (get_or z (b * block_segments + w) 0 % 2 ^ real)
        words b real s some most e = elim (ℕ_discrete b count) [
          | yes t ↦ rw t
              (ap (kind (width F)) (get_or-set_same z' at x 0 l) ∙ h real some most e
              ∙ ap (λ (y : ℕ). kind real (y % 2 ^ real)) (g.others at (λ k f q. absurd (omega arith))))
          | no t ↦
              ap (kind (width F)) (other (b * block_segments + w) (λ q. absurd (omega arith)))
              ∙ g.words b real (omega arith) some most e
        ]

-- ---- the block

pub spelled-run : (F : Format) (R o n : ℕ) (z : List ℕ) (count : ℕ) (even : Bool) → even ≡ true
    → Spelled F R o n even z count z
spelled-run F R o n z count even t = record {
  long = refl;
  run = λ e. refl;
  block = λ f. absurd (true≢false (sym t ∙ f));
  others = λ i h. refl;
}

-- only w ones are as many as w ones
all-rows : (w k : ℕ) → k ≤ w → all_set k ≡ all_set w → k ≡ w
unfolding all_set
all-rows w k h e = elim (ℕ_discrete k w) [
  | yes t ↦ t
  | no t ↦ absurd (omega (arith, pow-lt {i = k} {j = w} (omega arith), pow_pos k))
]

module _ (F : Format) (R o n : ℕ) (within : o + n ≤ segment_count (width F) R) where
  abbrev pos : 0 < width F
  pos = width-pos F

  -- the word of a segment without pad bits
  whole : (i x : ℕ) → rows_in (width F) R i ≡ width F → x < 2 ^ width F
      → kind (width F) x ≡ kind (rows_in (width F) R i) (x % 2 ^ rows_in (width F) R i)
  whole i x e h = rw (e, mod-eq_of_lt h)

  -- as those before the last are
  inner : (i : ℕ) → suc i < n → rows_in (width F) R (o + i) ≡ width F
  inner i h = rows_inside (width F) pos R (o + i) (omega arith)

  module _ (z : List ℕ) (count : ℕ) (even : Bool) where
    -- a block without pad bits
    pub spelled_same : all_set (rows_in (width F) R (o + n - 1)) ≡ all_set (width F) → Spelled F R o n even z count z
    spelled_same e = record {
      long = refl;
      run = λ t. refl;
      block = λ t b i h l. whole (o + i) (get_or z (b * block_segments + i) 0) (rows i l);
      others = λ i h. refl;
    }
      where
        rows : (i : ℕ) → i < n → rows_in (width F) R (o + i) ≡ width F
        rows i l = elim (ℕ_discrete (suc i) n) [
          | yes t ↦
              let s : o + n - 1 ≡ o + i = omega arith in
              all-rows (width F) (rows_in (width F) R (o + i)) (rows-le (width F) pos R (o + i)) (rw s at e)
          | no t ↦ inner i (omega arith)
        ]

    -- and one with pad bits
    pub spelled-last : (z' : List ℕ) (w mask : ℕ) → even ≡ false → 1 ≤ n → n ≤ block_segments → w ≡ n - 1
        → mask ≡ all_set (rows_in (width F) R (o + n - 1)) → WordsSpelled F z count w mask z'
        → Spelled F R o n even z count z'
    spelled-last z' w mask t some most p q g = record {
      long = g.long;
      run = λ e. absurd (true≢false (sym e ∙ t));
      block = λ f. block;
      others = λ i h. g.others i (λ b l e. h b w l (omega arith) e);
    }
      where
        block : (b i : ℕ) → b < count → i < n → get_or z (b * block_segments + i) 0 < 2 ^ width F
            → kind (width F) (get_or z' (b * block_segments + i) 0)
            ≡ kind (rows_in (width F) R (o + i)) (get_or z (b * block_segments + i) 0 % 2 ^ rows_in (width F) R (o + i))
        block b i h l low = elim (ℕ_discrete (suc i) n) [
          | yes s ↦
              let e : o + n - 1 ≡ o + i = omega arith in
              let last : w ≡ i = omega arith in
              rw last at
              (g.words b (rows_in (width F) R (o + i)) h (rows-some (width F) pos R (o + i) (omega arith))
              (rows-le (width F) pos R (o + i)) (q ∙ ap (λ (k : ℕ). all_set (rows_in (width F) R k)) e))
          | no s ↦
              ap (kind (width F)) (g.others (b * block_segments + i) (λ k f q. absurd (omega arith)))
              ∙ whole (o + i) (get_or z (b * block_segments + i) 0) (inner i (omega arith)) low
        ]
