-- The parts of a row: runs and dirty words, one behind the other.
-- Assumes nothing.
use Prim.Native.Nat.{ℕ, ◌+◌, ◌-◌, ◌≤◌, ◌<◌}
use mathlib.Core.Bool.{Bool, true, false, cond}
use mathlib.Core.Path.{◌≡◌, refl, sym, ap, ◌∙◌}
use mathlib.Core.List.{List, [], ◌++◌}
use native.Mathlib.Decide.{dec_le}
use native.Mathlib.Omega.{arith}
use borrow.Rule.Slice.PartMut.{put_mid}
use lib.ListN.{length, take, drop, get_or, set, replicate, length-set}
use lib.Seq.{get_or-set_same, get_or-set_other}
use borrow.Author.Rules.{rules}
use Rattle.std.proofs.lemmas.List.{places, get_or-replicate, get_or-take, get_or-drop}
use Rattle.meaning.specs.Limits.{block_segments}
use Rattle.meaning.specs.Segment.{fill}
use Rattle.meaning.specs.Format.{width, segments_of}
use Rattle.meaning.specs.declared.Format.{Format}
use Rattle.laws.specs.Ahead.{Ahead}
use Rattle.ewah.specs.declared.cursor.Cursor.{Cursor}
use Rattle.ewah.specs.declared.cursor.Piece.TheVariants.{Clean, Dirty}
use Rattle.ewah.specs.Cursors.{InOrder, left_of, pieces_from}
use Rattle.bodies.specs.Walks.{word_of, span_of, Passes}
use Rattle.block_read.specs.Taken.{word_at, HasAhead, SpanTaken, RowTaken}
use Rattle.bodies.proofs.Spans.{span-some, run-word, dirty-segment, piece-word}

-- ---- a part of a row that was written

module _ (x y : List ℕ) (at n : ℕ) (h : at + n ≤ length x) (m : length y ≡ n) where
  pub part-before : (i : ℕ) → i < at → get_or (put_mid at n x y) i 0 ≡ get_or x i 0
  part-before i l = search (rules, places)

  pub part-inside : (i : ℕ) → i < n → get_or (put_mid at n x y) (at + i) 0 ≡ get_or y i 0
  part-inside i l = search (rules, places)

  pub part-behind : (i : ℕ) → at + n ≤ i → get_or (put_mid at n x y) i 0 ≡ get_or x i 0
  part-behind i l = search (rules, places)

  pub part-long : length (put_mid at n x y) ≡ length x
  part-long = search (rules, places)

-- the length of such a part
pub part-length : (x : List ℕ) (at end : ℕ) → at ≤ end → end ≤ length x → length (take (end - at) (drop at x)) ≡ end - at
part-length x at end l h = search (rules, places)

-- ---- one span

module _ (F : Format) (b : List ℕ) (c : Cursor) (n : ℕ) (x : List ℕ) (r : Cursor) where
  -- those of a clean run
  pub run-taken : (v left : ℕ) → c.piece ≡ Clean v left → n ≤ left → x ≡ replicate n (fill (width F) v) → Passes F b c n r
      → SpanTaken F b c n x r
  run-taken v left e h is go = record {
    goes = go;
    words = λ o a i l.
        ap (λ (y : List ℕ). get_or y i 0) is ∙ get_or-replicate n i (fill (width F) v) 0 l
        ∙ sym (run-word F b o c a v left e i (omega arith));
  }

  -- dirty words
  pub dirty-taken : (w : ℕ) → c.piece ≡ Dirty w → InOrder F b c → n ≤ c.dirty + 1 → c.next + (n - 1) ≤ length b
      → (m : ℕ) → m ≡ n → x ≡ take m (drop (c.next - 1) b) → Passes F b c n r → SpanTaken F b c n x r
  dirty-taken w e k h l m mn is go = record {
    goes = go;
    words = λ o a i q.
        ap (λ (y : List ℕ). get_or y i 0) is ∙ get_or-take m (drop (c.next - 1) b) i 0 (omega arith) ∙ get_or-drop (c.next - 1) b i 0 ∙ sym (dirty-segment F b o c a w e k i (omega arith) (omega arith));
  }

-- one piece's word, stored, is a row of segments alike
pub even-taken : (F : Format) (b : List ℕ) (c : Cursor) (n : ℕ) (x : List ℕ) (v : ℕ) (r : Cursor) → 1 ≤ length x
    → v ≡ word_of F c.piece → n ≤ left_of c.piece → Passes F b c n r → RowTaken F b c n true x 0 (set x 0 v) r
unfolding word_at
even-taken F b c n x v r h e l go = record {
  goes = go;
  words = λ o a i q. get_or-set_same x 0 v 0 (omega arith) ∙ e ∙ sym (piece-word F b o c a i (omega arith));
  long = length-set x 0 v;
  before = λ i q. absurd (omega arith);
  behind = λ i q. get_or-set_other x 0 i v 0 (omega arith);
}

-- ---- span after span

module _ {F : Format} {b : List ℕ} {c₀ : Cursor} where
  -- the next span is at least one segment
  pub span-here : {done n : ℕ} {x : List ℕ} {c : Cursor} → SpanTaken F b c₀ done x c → HasAhead F b c₀ n → done < n → 1 ≤ span_of c
  span-here {done = done} {c = c} p h l = span-some F b (h.0 + done) c (p.goes.on h.0 h.1) p.goes.at-end (omega (arith, h.2))

  -- the words y behind the first `done`, up to `end`, are the next span
  pub taken_more : (done : ℕ) (x : List ℕ) (c : Cursor) (end m : ℕ) (y : List ℕ) (r : Cursor) → done ≤ end → end ≤ length x
      → m ≡ end - done → length y ≡ m → SpanTaken F b c₀ done x c → SpanTaken F b c m y r
      → SpanTaken F b c₀ end (put_mid done (end - done) x y) r
  taken_more done x c end m y r le h n long p d = record {
    goes = record {
      in_order = d.goes.in_order;
      on = λ o a. let e : o + done + m ≡ o + end = omega arith in rw e at (d.goes.on (o + done) (p.goes.on o a));
      at-end = d.goes.at-end;
    };
    words = words;
  }
    where
      words : (o : ℕ) → Ahead F b o (pieces_from F b c₀) → (i : ℕ) → i < end
          → get_or (put_mid done (end - done) x y) i 0 ≡ get_or (segments_of F b) (o + i) 0
      words o a i l = elim (dec_le done i) [
        | yes g ↦
            let f : o + done + (i - done) ≡ o + i = omega arith in
            let k : done + (i - done) ≡ i = omega arith in
            rw k at (part-inside x y done (end - done) (omega arith) (long ∙ n) (i - done) (omega arith))
            ∙ rw f at (d.words (o + done) (p.goes.on o a) (i - done) (omega arith))
        | no g ↦ part-before x y done (end - done) (omega arith) (long ∙ n) i (omega arith) ∙ p.words o a i (omega arith)
      ]

-- ---- a row

-- a word of a row lies within it
within-row : (even : Bool) (n i : ℕ) → (even ≡ false → n ≤ block_segments) → i < n → cond even 0 i < block_segments
within-row true n i few l = omega arith
within-row false n i few l = omega (arith, few refl)

module _ (F : Format) (b : List ℕ) (c : Cursor) (n : ℕ) (r : Cursor) where
  -- spans are a row of segments that may differ
  pub row-taken : (x y : List ℕ) → n ≤ block_segments → n ≤ length x → length y ≡ n → SpanTaken F b c n y r
      → RowTaken F b c n false x 0 (y ++ drop n x) r
  unfolding word_at
  row-taken x y h m e s = record {
    goes = s.goes;
    words = λ o a i l. let z : 0 + i ≡ i = omega arith in rw z (search (rules, places) ∙ s.words o a i l);
    long = search (rules, places);
    before = λ i l. absurd (omega arith);
    behind = λ i l. search (rules, places);
  }

  -- a row by itself, put back into a block of rows, is a row of the block
  pub row-of-block : (even : Bool) (x y : List ℕ) (at end : ℕ) → end ≡ at + block_segments → end ≤ length x
      → (even ≡ false → n ≤ block_segments) → RowTaken F b c n even (take (end - at) (drop at x)) 0 y r
      → RowTaken F b c n even x at (put_mid at (end - at) x y) r
  unfolding word_at
  row-of-block even x y at end e h few t = record {
    goes = t.goes;
    words = λ o a i l.
        part-inside x y at (end - at) fits long (cond even 0 i) (omega (arith, within-row even n i few l))
        ∙ let z : 0 + cond even 0 i ≡ cond even 0 i = omega arith in rw z at (t.words o a i l);
    long = part-long x y at (end - at) fits long;
    before = part-before x y at (end - at) fits long;
    behind = λ i l. part-behind x y at (end - at) fits long i (omega arith);
  }
    where
      fits : at + (end - at) ≤ length x
      fits = omega arith

      long : length y ≡ end - at
      long = t.long ∙ part-length x at end (omega arith) h
