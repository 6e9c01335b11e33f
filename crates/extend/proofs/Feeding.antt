-- The words of a batch on their way into an output, one after the other: how far they are, and what comes next.
-- Assumes nothing.
use Prim.Native.Nat.{ℕ, ◌+◌, ◌-◌, ◌*◌, ◌≤◌, ◌<◌, min}
use mathlib.Core.Bool.{Bool}
use mathlib.Core.Path.{◌≡◌, refl, ap, subst, ◌∙◌}
use mathlib.Core.List.{List}
use native.Mathlib.Omega.{arith}
use lib.ListN.{length, get_or}
use Rattle.meaning.specs.Segment.{has_row, is_set, bit_at}
use Rattle.meaning.specs.declared.Format.TheVariants.{Ewah}
use Rattle.laws.specs.Demands.{PlainRows}
use Rattle.laws.proofs.RowWords.{has-at, begins, rows_fit}
use Rattle.row_write.specs.declared.output.Output.{Output}
use Rattle.row_write.specs.Packing.{Packed, Coming, Takes, PutOn}
use Rattle.extend.specs.Longer.{BatchNext}

-- since the output was o, i of the words were put, and `left` of the rows are to come
pub record Fed (out₀ : List ℕ) (o : Output) (plain : List ℕ) (rows : ℕ) (store : Bool) (out : List ℕ) (v : Output)
    (left i : ℕ) : Type 0 where
  pub inside : i ≤ length plain
  pub left_is : left ≡ rows - i * 32
  pub few : v.packer.have < 32
  pub long : length out ≡ length out₀
  pub packed : (R : ℕ) (q : ℕ → Bool) (old : List ℕ) → BatchNext R q old store out₀ o plain rows
      → Packed Ewah (R + rows) q old store out (R + (rows - left)) v

-- none of them yet
pub fed-none : {plain : List ℕ} {rows : ℕ} {store : Bool} (out : List ℕ) (o : Output) → o.packer.have < 32
    → Fed out o plain rows store out o rows 0
fed-none {plain} {rows} {store} out o few = record {
  inside = omega arith;
  left_is = omega arith;
  few = few;
  long = refl;
  packed = λ R q old b.
      subst (λ (d : ℕ). Packed Ewah (R + rows) q old store out d o) (omega arith) b.packed;
}

-- row j of word i
has-bit : (plain : List ℕ) (i j : ℕ) → j < 32 → has_row 32 plain (i * 32 + j) ≡ is_set (get_or plain i 0) j
unfolding is_set bit_at
has-bit plain i j h = has-at 32 (omega arith) plain i j h

module _ {out₀ : List ℕ} {o : Output} {plain : List ℕ} {rows : ℕ} {store : Bool} {out : List ℕ} {v : Output}
    {left i : ℕ} (f : Fed out₀ o plain rows store out v left i) (valid : PlainRows rows plain) where
  -- the next word, of which k rows are put
  module _ (h : i < length plain) (k : ℕ) (k-is : k ≡ min left 32) where
    -- its first row is the batch's row i * 32
    begin : rows - left ≡ i * 32
    begin = omega (arith, f.left_is, begins 32 (omega arith) rows i (omega (arith, valid.count)))

    -- its rows come next,
    fed-coming : {R : ℕ} {q : ℕ → Bool} {old : List ℕ} → BatchNext R q old store out₀ o plain rows
        → Coming Ewah (R + rows) q old store out (R + (rows - left)) v (is_set (get_or plain i 0)) k
    fed-coming {R} {q} {old} b = record {
      packed = f.packed R q old b;
      within = omega (arith, k-is, f.left_is);
      next = λ j l.
          ap q (omega (arith, begin)) ∙ b.next (i * 32 + j) (omega (arith, begin, k-is, f.left_is))
          ∙ has-bit plain i j (omega (arith, k-is));
    }

    pub fed-takes : {R : ℕ} {q : ℕ → Bool} {old : List ℕ} → BatchNext R q old store out₀ o plain rows
        → Takes Ewah store out v (is_set (get_or plain i 0)) k
    fed-takes {R} {q} {old} b = (R + rows, q, old, R + (rows - left), fed-coming b)

    -- and then are put
    pub fed-next : (out' : List ℕ) (r : Output) → length out' ≡ length out → r.packer.have < 32
        → PutOn Ewah store out out' v (is_set (get_or plain i 0)) k r
        → Fed out₀ o plain rows store out' r (left - k) (i + 1)
    fed-next out' r same few p = record {
      inside = omega arith;
      left_is = omega (arith, k-is, f.left_is);
      few = few;
      long = same ∙ f.long;
      packed = λ R q old b.
          subst (λ (d : ℕ). Packed Ewah (R + rows) q old store out' d r) (omega (arith, k-is, f.left_is))
          (p.on (R + rows) q old (R + (rows - left)) (fed-coming b));
    }

  -- all of them
  pub fed-all : length plain ≤ i → {R : ℕ} {q : ℕ → Bool} {old : List ℕ} → BatchNext R q old store out₀ o plain rows
      → Packed Ewah (R + rows) q old store out (R + rows) v
  fed-all h {R} {q} {old} b =
      let none : left ≡ 0 = omega (arith, f.left_is, f.inside, valid.count, rows_fit 32 (omega arith) rows) in
      subst (λ (d : ℕ). Packed Ewah (R + rows) q old store out d v) (omega (arith, none)) (f.packed R q old b)
