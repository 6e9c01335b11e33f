-- The rows of a block: what an operation made of the words that were gathered are the segments of the answer's bodies.
-- Assumes nothing.
use Prim.Native.Nat.{ℕ, zero, suc, ◌+◌, ◌*◌, ◌^◌, ◌≤◌, ◌<◌}
use mathlib.Core.Bool.{Bool, true, false, ◌&&◌}
use mathlib.Core.Path.{◌≡◌, refl, sym, ap, ap₂, ◌∙◌}
use mathlib.Core.List.{List}
use lib.ListN.{length, get_or, take, drop, length-map, length-drop, length-replicate, get_or-replicate, get_or-map}
use lib.Seq.{get_or-take, get_or-drop, length-take-le}
use native.Mathlib.Omega.{arith}
use Rattle.meaning.specs.Segment.{Segment, clean, kind, is_set, segment_count, all_set}
use Rattle.meaning.specs.Format.{width}
use Rattle.meaning.specs.declared.Format.{Format}
use Rattle.meaning.specs.Index.{format_of, row_count}
use Rattle.column_meaning.specs.Column.{pair_value}
use Rattle.meaning.specs.declared.Pairing.{Pairing}
use Rattle.meaning.specs.Limits.{block_segments, block_words}
use Rattle.laws.proofs.Evaluated.{part-is}
use Rattle.adder.specs.Digits.{number_at, Paired}
use Rattle.block_read.specs.Taken.{word_at}
use Rattle.walk.specs.Queries.{place_body}
use Rattle.block_write.specs.Rowed.{row_segments, CleanWord}
use Rattle.blocks.specs.Blocks.{Chosen, BlockOf}
use Rattle.blocks.proofs.Values.{number_of, place, place-low, words-at, number_same}
use Rattle.blocks.proofs.Segmented.{segs, segs-length, segment-clear, word_low}
use Rattle.blocks.proofs.Runs.{rows_kind, clean-kind}
use Rattle.new_index.specs.Writers.{row_of}
use Rattle.pairs.specs.Passes.{Columns}
use Rattle.pairs.specs.Spellings.{Spelled}
use Rattle.pairs.proofs.Blocks.{PairWords, sets, block-segment}

-- the answer has no bit behind a segment's width, since what exists has none
module _ {op : (n x y : ℕ) → ℕ} {index first : List ℕ} {N o n : ℕ} {even : Bool} {x y z : List ℕ} (some : 1 ≤ length first)
    (bx : BlockOf index first o n even x) (p : Paired op x y N z) (i : ℕ) (h : i < n)
    (low : place even i < block_segments) where
  abbrev at : ℕ
  at = place even i

  exists-clear : (j : ℕ) → width (format_of index) ≤ j → j < 32 → is_set (get_or z (place even i) 0) j ≡ false
  unfolding word_at
  exists-clear j l k =
      let e : 0 * block_segments + at ≡ at = omega arith in
      let word = rw e at (bx.has 0 i (omega arith) h) in
      p.exists at j low
      ∙ ap (λ (a : Bool). a && is_set (get_or y at 0) j)
      (ap (λ (a : ℕ). is_set a j) word ∙ segment-clear (format_of index) (place_body index first 0) (o + i) j l k)

  pair-clear : (b : ℕ) → b ≤ N → (j : ℕ) → width (format_of index) ≤ j → j < 32
      → is_set (get_or z (b * block_segments + place even i) 0) j ≡ false
  pair-clear zero g j l k = let e : 0 * block_segments + at ≡ at = omega arith in rw e (exists-clear j l k)
  pair-clear (suc b) g j l k =
      let e : suc b ≡ b + 1 = omega arith in
      let number = op N (number_at x N at j) (number_at y N at j) in
      rw e (p.digits b at j (omega arith) low ∙ ap (λ (a : Bool). a && is_set number b) (exists-clear j l k))

  pub pair-low : (b : ℕ) → b ≤ N → get_or z (b * block_segments + place even i) 0 < 2 ^ width (format_of index)
  pair-low b g =
      word_low (format_of index) (get_or z (b * block_segments + at) 0) (p.low b at g low) (pair-clear b g)

-- ---- the answer

module _ (op : Pairing) {index first second : List ℕ} {N near o n : ℕ} {even : Bool} {x y z z' : List ℕ}
    (cs : Columns index first second N) (ch : Chosen near (segment_count (width (format_of index)) (row_count index)) o n even)
    (bx : BlockOf index first o n even x) (by : BlockOf index second o n even y)
    (p : Paired (pair_value op) x y N z) (sp : Spelled (format_of index) (row_count index) o n even z (N + 1) z')
    (cl : even ≡ true → (b : ℕ) → b ≤ N → CleanWord (format_of index) (get_or z (b * block_segments) 0)) where
  abbrev F : Format
  F = format_of index

  abbrev R : ℕ
  R = row_count index

  f1 : 1 ≤ length first
  f1 = omega (arith, cs.first_some)

  f2 : 1 ≤ length second
  f2 = omega (arith, cs.second-some)

  -- the words of one segment
  module _ (i : ℕ) (h : i < n) where
    abbrev w : ℕ
    w = place even i

    abbrev X : ℕ → ℕ
    X k = word_at even x (k * block_segments) i

    abbrev Y : ℕ → ℕ
    Y k = word_at even y (k * block_segments) i

    abbrev Z : ℕ → ℕ
    Z k = word_at even z (k * block_segments) i

    front : (v : List ℕ) → word_at even v (0 * block_segments) i ≡ get_or v w 0
    unfolding word_at
    front v = ap (λ (q : ℕ). get_or v q 0) (omega arith)

    later : (b : ℕ) → Z (suc b) ≡ get_or z ((b + 1) * block_segments + w) 0
    unfolding word_at
    later b = ap (λ (q : ℕ). get_or z q 0) (omega arith)

    w-low : w < block_segments
    w-low = place-low even i n h ch.in_block

    digits : (b j : ℕ) → b < N → j < width F
        → is_set (Z (suc b)) j ≡ is_set (Z 0) j && is_set (pair_value op N (number_of X N j) (number_of Y N j)) b
    digits b j l k =
        ap (λ (t : ℕ). is_set t j) (later b)
        ∙ p.digits b w j l w-low
        ∙ ap₂ (λ (s t : Bool). s && t) (ap (λ (t : ℕ). is_set t j) (sym (front z)))
        (ap₂ (λ (s t : ℕ). is_set (pair_value op N s t) b) (sym (number_same x even N i j)) (sym (number_same y even N i j)))

    pair-words : PairWords op (width F) N X Y Z
    pair-words = record { exists = λ j k. rw (front x, front y, front z) (p.exists w j w-low); digits = digits }

    -- what the word of body b is written as
    written : (b : ℕ) → b ≤ N → kind (width F) (word_at even z' (b * block_segments) i) ≡ rows_kind F R (o + i) (Z b)
    unfolding word_at
    written b l = go even refl
      where
        go : (t : Bool) → even ≡ t
            → kind (width F) (word_at t z' (b * block_segments) i)
            ≡ rows_kind F R (o + i) (word_at t z (b * block_segments) i)
        go true q =
            let e : b * block_segments + 0 ≡ b * block_segments = omega arith in
            let in_rows : o + i < segment_count (width F) R = omega (arith, ch.within) in
            rw (e, sp.run q) (clean-kind F R (o + i) in_rows (get_or z (b * block_segments) 0) (cl q b l))
        go false q = sp.block q b i (omega arith) h (rw q at (pair-low f1 bx p i h w-low b l))

  -- ---- the rows that go to the writers

  abbrev T : ℕ → List Segment
  T b = segs F R (sets op index first second N b)

  -- row b of the block, from its first word on
  abbrev row_at : ℕ → List ℕ
  row_at b = drop (b * block_segments) z'

  row-at : (t : Bool) → even ≡ t → (b i : ℕ) → i < n
      → get_or (row_of F z' n t b) i (clean 0) ≡ kind (width F) (word_at t z' (b * block_segments) i)
  unfolding row_of row_segments word_at kind all_set
  row-at true q b i h =
      get_or-replicate n i (kind (width F) (get_or (take 1 (row_at b)) 0 0)) (clean 0) h
      ∙ ap (kind (width F)) (get_or-take 1 (row_at b) 0 0 (omega arith) ∙ get_or-drop (b * block_segments) z' 0 0)
  row-at false q b i h =
      get_or-map (kind (width F)) (take n (row_at b)) i 0
      ∙ ap (kind (width F)) (get_or-take n (row_at b) i 0 h ∙ get_or-drop (b * block_segments) z' i 0)

  row-length : (t : Bool) → even ≡ t → (b : ℕ) → b ≤ N → length (row_of F z' n t b) ≡ n
  unfolding row_of row_segments
  row-length true q b l = length-replicate n (kind (width F) (get_or (take 1 (row_at b)) 0 0))
  row-length false q b l =
      let long : length z' ≡ block_words = sp.long ∙ p.long in
      length-map (take n (row_at b)) (kind (width F))
      ∙ length-take-le n (row_at b) (omega (arith, length-drop (b * block_segments) z', ch.in_block q, cs.few))

  pub row-part : (b : ℕ) → b ≤ N → row_of F z' n even b ≡ take n (drop o (T b))
  row-part b l =
      sym (part-is (T b) (row_of F z' n even b) o n (row-length even refl b l)
      (omega (arith, ch.within, segs-length F R (sets op index first second N b)))
      (λ i h. segment i h ∙ sym (row-at even refl b i h ∙ written i h b l)))
    where
      segment : (i : ℕ) (h : i < n) → get_or (T b) (o + i) (clean 0) ≡ rows_kind F R (o + i) (Z i h b)
      segment i h =
          block-segment op index first second N f1 f2 cs.first_fits cs.second_fits (o + i) (X i h) (Y i h) (Z i h)
          (words-at bx i h) (words-at by i h) (pair-words i h) b l (omega (arith, ch.within))
