-- The places of a list, gathered one after the other.
-- Assumes nothing.
use Prim.Native.Nat.{ℕ, ◌+◌, ◌*◌, ◌≤◌, ◌<◌}
use mathlib.Core.Bool.{Bool, true, false, cond}
use mathlib.Core.Path.{◌≡◌, refl, ◌∙◌}
use mathlib.Core.List.{List}
use native.Mathlib.Nat.{le_refl}
use native.Mathlib.Omega.{arith}
use borrow.Author.Count.{below_more}
use lib.ListN.{length, get_or, set, length-set}
use Rattle.meaning.specs.Limits.{block_segments, block_words}
use Rattle.meaning.specs.Format.{segments_of}
use Rattle.meaning.specs.declared.Format.{Format}
use Rattle.ewah.specs.declared.cursor.Cursor.{Cursor}
use Rattle.block_read.specs.Taken.{word_at, RowTaken}
use Rattle.walk.specs.Queries.{cursor_of, CursorAt, place_body}
use Rattle.walk.proofs.Places.{put-here, put-others}
use Rattle.gather.specs.Gathered.{StandsBefore, StandingBefore, Gathered}

-- ---- place after place

-- a word of a row lies within it
within-row : (even : Bool) (n i : ℕ) → (even ≡ false → n ≤ block_segments) → i < n → cond even 0 i < block_segments
within-row true n i few l = omega arith
within-row false n i few l = omega (arith, few refl)

module _ (F : Format) (index list : List ℕ) (was : List Cursor) (n : ℕ) (even : Bool) (x₀ : List ℕ) where
  -- the first m places went on, and their rows are taken; later places stay, and the words behind these rows
  pub record Gathering (m : ℕ) (cs : List Cursor) (x : List ℕ) : Type 0 where
    pub long : length cs ≡ length was
    pub rows_long : length x ≡ block_words
    pub later : (k : ℕ) → m ≤ k → cursor_of cs k ≡ cursor_of was k
    pub on : (k : ℕ) → k < m → (o : ℕ) → CursorAt F (place_body index list k) o (cursor_of was k)
        → CursorAt F (place_body index list k) (o + n) (cursor_of cs k)
    pub words : (k : ℕ) → k < m → (o : ℕ) → CursorAt F (place_body index list k) o (cursor_of was k) → (i : ℕ) → i < n
        → word_at even x (k * block_segments) i ≡ get_or (segments_of F (place_body index list k)) (o + i) 0
    pub rest : (i : ℕ) → m * block_segments ≤ i → get_or x i 0 ≡ get_or x₀ i 0

  -- no place did
  pub gathering-none : length x₀ ≡ block_words → Gathering 0 was x₀
  gathering-none b = record {
    long = refl;
    rows_long = b;
    later = λ k l. refl;
    on = λ k l. absurd (omega arith);
    words = λ k l. absurd (omega arith);
    rest = λ i l. refl;
  }

  module _ (m : ℕ) (cs : List Cursor) (x : List ℕ) (g : Gathering m cs x) where
    -- the next place stands where it stood
    still : (o : ℕ) → CursorAt F (place_body index list m) o (cursor_of was m)
        → CursorAt F (place_body index list m) o (cursor_of cs m)
    still o a = rw (g.later m (le_refl m)) a

    pub stands-before : m < length list → StandingBefore F index list was n
        → StandsBefore F (place_body index list m) (cursor_of cs m) n
    stands-before h st = (st.0, still st.0 (st.1 m h), st.2 m h)

    -- one place more did
    pub gathering-more : m < length cs → (even ≡ false → n ≤ block_segments) → (c : Cursor) (x' : List ℕ)
        → RowTaken F (place_body index list m) (cursor_of cs m) n even x (m * block_segments) x' c → Gathering (m + 1) (set cs m c) x'
    gathering-more h few c x' p = record {
      long = length-set cs m c ∙ g.long;
      rows_long = p.long ∙ g.rows_long;
      later = λ k l. others k (omega arith) ∙ g.later k (omega arith);
      on = below_more _ m
          (λ k l o a. rw (others k (omega arith)) (g.on k l o a))
          (λ o a. rw (put-here cs m c h) (record { in_order = p.goes.in_order; ahead = p.goes.on o (still o a).ahead; at-end = p.goes.at-end }));
      words = below_more _ m
          (λ k l o a i h. stays k l i h ∙ g.words k l o a i h)
          (λ o a i h. p.words o (still o a).ahead i h);
      rest = λ i l. p.behind i (omega arith) ∙ g.rest i (omega arith);
    }
      where
        -- the cursors of the other places
        others : (k : ℕ) → (k ≡ m → ⊥) → cursor_of (set cs m c) k ≡ cursor_of cs k
        others = put-others cs m c

        -- the words of earlier rows
        stays : (k : ℕ) → k < m → (i : ℕ) → i < n → word_at even x' (k * block_segments) i ≡ word_at even x (k * block_segments) i
        stays k l i h =
            unfold word_at in p.before (k * block_segments + cond even 0 i) (omega (arith, within-row even n i few h))

    -- all places did
    pub gathering-all : m ≡ length list → Gathered F index list was n even x₀ cs x
    gathering-all e = record {
      long = g.long;
      on = λ o st k l. g.on k (omega arith) o (st k l);
      words = λ o st k i l h. g.words k (omega arith) o (st k l) i h;
      rows_long = g.rows_long;
      rest = λ i l. g.rest i (omega arith);
    }
