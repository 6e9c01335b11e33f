-- The pass over two columns: what holds where it has passed o segments, and at its end.
-- Assumes nothing.
use Prim.Native.Nat.{ℕ, ◌+◌, ◌-◌, ◌*◌, ◌^◌, ◌≤◌, ◌<◌}
use mathlib.Core.Bool.{Bool, true}
use mathlib.Core.Path.{◌≡◌, refl, sym, ap, ◌∙◌, subst}
use mathlib.Core.List.{List, [], ◌++◌}
use lib.ListN.{length, get_or, take, drop}
use native.Mathlib.Omega.{arith}
use Rattle.meaning.specs.Segment.{Segment, rows_in, all_set}
use Rattle.meaning.specs.Format.{width, most_run, words_of, canonical}
use Rattle.meaning.specs.declared.Format.{Format}
use Rattle.meaning.specs.Index.{format_of, row_count}
use Rattle.column_meaning.specs.Column.{pair_value}
use Rattle.meaning.specs.declared.Pairing.{Pairing}
use Rattle.meaning.specs.Limits.{block_segments, most_segments, most_value_column}
use Rattle.laws.proofs.Formats.{segments-most}
use Rattle.adder.specs.Digits.{Paired}
use Rattle.ewah.specs.declared.cursor.Cursor.{Cursor}
use Rattle.ewah.specs.Cursors.{left_of}
use Rattle.ewah_write.specs.declared.writer.Writer.{Writer}
use Rattle.body_write.specs.Bodies.{Stands, Growing, RoomFor, UpTo}
use Rattle.body_write.proofs.UpTo.{up_none, up-growing, up_room, up_more, up-used, up-all}
use Rattle.walk.specs.Queries.{cursor_of}
use Rattle.block_write.specs.Rowed.{CleanWord}
use Rattle.blocks.specs.Blocks.{Chosen, BlockOf, Placed}
use Rattle.blocks.proofs.Segmented.{segs, segs-length}
use Rattle.blocks.proofs.Walks.{S, all_alike, run-low}
use Rattle.new_index.specs.Writers.{row_of, writer_of, region, Laid, EmittedAll}
use Rattle.new_index.proofs.Regions.{region-length, emitted-part}
use Rattle.pairs.specs.Passes.{Columns, body_of, PassedTo}
use Rattle.pairs.specs.Spellings.{Spelled}
use Rattle.pairs.proofs.Blocks.{sets}
use Rattle.pairs.proofs.Rows.{pair-low, row-part}
use Rattle.pairs.proofs.Evenly.{clean-words}

-- the segments of body i
abbrev own_segments : (op : Pairing) (index first second : List ℕ) (n i : ℕ) → List Segment
own_segments op index first second n i = segs (format_of index) (row_count index) (sets op index first second n i)

body_is : (op : Pairing) (index first second : List ℕ) (n i : ℕ)
    → words_of (format_of index) (row_count index) (own_segments op index first second n i)
    ≡ body_of op index first second n i
body_is op index first second n i = unfold canonical in refl

module _ (op : Pairing) (index first second : List ℕ) (n : ℕ) (starts old : List ℕ) (store : Bool) where
  -- both lists' cursors stand at segment o, and of each body the first o segments are put, in its part of the buffer
  pub record Passing (out : List ℕ) (at₁ at₂ : List Cursor) (ws : List Writer) (o : ℕ) : Type 0 where
    pub here : o ≤ S index
    pub first-walking : Placed index first at₁ o
    pub second-walking : Placed index second at₂ o
    pub writers-long : length ws ≡ most_value_column
    pub bodies : (i : ℕ) → i ≤ n
        → UpTo (format_of index) (row_count index) (own_segments op index first second n i) store
        (region starts old i) (region starts out i) (writer_of ws i) o
    pub long : length out ≡ length old
    pub front : take (get_or starts 0 0) out ≡ take (get_or starts 0 0) old
    pub back : drop (get_or starts (n + 1) 0) out ≡ drop (get_or starts (n + 1) 0) old

  pub passing-none : (at₁ at₂ : List Cursor) (ws : List Writer) → Columns index first second n → Placed index first at₁ 0
      → Placed index second at₂ 0 → length ws ≡ most_value_column → {f : Format} → f ≡ format_of index
      → ((i : ℕ) → i < most_value_column → Stands f (writer_of ws i) []) → Passing old at₁ at₂ ws 0
  passing-none at₁ at₂ ws cs a b h e g = record {
    here = omega arith;
    first-walking = a;
    second-walking = b;
    writers-long = h;
    bodies = λ i l.
        up_none (row_count index) (own_segments op index first second n i) store (region starts old i)
        (subst (λ (F : Format). Stands F (writer_of ws i) []) e (g i (omega (arith, cs.few))));
    long = refl;
    front = refl;
    back = refl;
  }

-- what a writer of the format f may be given: m segments of each body
abbrev pub MayEmit : (starts out : List ℕ) (ws : List Writer) (z : List ℕ) (n m : ℕ) (even store : Bool) → Format → Type 0
MayEmit starts out ws z n m even store f =
    (m ≤ most_run f)
    × ((i : ℕ) → i < n + 1 → Growing f (writer_of ws i) m)
    × (even ≡ true → (i : ℕ) → i < n + 1 → CleanWord f (get_or z (i * block_segments) 0))
    × (store ≡ true → (i : ℕ) → i < n + 1
    → RoomFor f (row_of f z m even i) (writer_of ws i) (length (region starts out i)))

module _ {op : Pairing} {index first second : List ℕ} {n : ℕ} {starts old : List ℕ} {store : Bool}
    {out : List ℕ} {at₁ at₂ : List Cursor} {ws : List Writer} {o : ℕ} (cs : Columns index first second n) (g : Passing op index first second n starts old store out at₁ at₂ ws o) where
  abbrev F : Format
  F = format_of index

  abbrev R : ℕ
  R = row_count index

  abbrev T : ℕ → List Segment
  T i = own_segments op index first second n i

  long : (i : ℕ) → length (T i) ≡ S index
  long i = segs-length F R (sets op index first second n i)

  -- ---- one block more: m segments, where no piece ends before `near`
  module _ {near m : ℕ} {even : Bool} (ch : Chosen near (S index) o m even)
      (near1 : (k : ℕ) → k < length first → near ≤ left_of (cursor_of at₁ k).piece)
      (near2 : even ≡ true → (k : ℕ) → k < length second → near ≤ left_of (cursor_of at₂ k).piece) where
    m-low : m ≤ most_run F
    m-low = run-low g.first-walking (omega (arith, cs.first_some)) ch near1

    module _ {x y z z' : List ℕ} (bx : BlockOf index first o m even x) (by : BlockOf index second o m even y)
        (p : Paired (pair_value op) x y n z) (sp : Spelled (format_of index) (row_count index) o m even z (n + 1) z') where
      run-clean : even ≡ true → (i : ℕ) → i ≤ n → CleanWord (format_of index) (get_or z (i * block_segments) 0)
      run-clean e i h =
          clean-words F (pair_value op) n x y z
          (all_alike g.first-walking cs.facts cs.first-listed ch.some ch.within bx'
          (λ j l. omega (arith, ch.in-runs e, near1 j l)))
          (all_alike g.second-walking cs.facts cs.second-listed ch.some ch.within (rw e at by)
          (λ j l. omega (arith, ch.in-runs e, near2 e j l)))
          p (pair-low (omega (arith, cs.first_some)) bx' p 0 (omega (arith, ch.some)) (omega arith)) i h
        where
          bx' : BlockOf index first o m true x
          bx' = rw e at bx

      row_is : (i : ℕ) → i ≤ n → row_of F z' m even i ≡ take m (drop o (T i))
      row_is i h = row-part op cs ch bx by p sp run-clean i h

      few : o + m ≤ most_segments
      few = omega (arith, ch.within, segments-most F R cs.facts.head.few-rows)

      -- by a writer of the index's format
      pub may-emit : {f : Format} → f ≡ format_of index → Laid starts (n + 1) (length old)
          → (store ≡ true → (i : ℕ) → i ≤ n → length (body_of op index first second n i) ≤ length (region starts old i))
          → MayEmit starts out ws z' n m even store f
      may-emit {f} is laid fits =
          subst (MayEmit starts out ws z' n m even store) (sym is) (m-low, growing, cleans, room)
        where
          growing : (i : ℕ) → i < n + 1 → Growing F (writer_of ws i) m
          growing i h = up-growing (g.bodies i (omega arith)) m few

          cleans : even ≡ true → (i : ℕ) → i < n + 1 → CleanWord F (get_or z' (i * block_segments) 0)
          cleans e i h = rw (sp.run e) (run-clean e i (omega arith))

          room : store ≡ true → (i : ℕ) → i < n + 1
              → RoomFor F (row_of F z' m even i) (writer_of ws i) (length (region starts out i))
          room e i h =
              let l : i ≤ n = omega arith in
              up_room (g.bodies i l) m few _ (row_is i l)
              (length (region starts out i))
              (omega (
                arith,
                fits e i l,
                ap length (body_is op index first second n i),
                region-length starts old (n + 1) i laid h,
                region-length starts out (n + 1) i (rw g.long laid) h,
              ))

      pub passing-more : {f : Format} → f ≡ format_of index → {mask : ℕ}
          → mask ≡ all_set (rows_in (width (format_of index)) (row_count index) (o + m - 1))
          → {out' : List ℕ} {at₁' at₂' : List Cursor} {ys : List Writer}
          → ((real : ℕ) → mask ≡ 2 ^ real - 1
          → EmittedAll f real starts out out' (take (n + 1) ws) ys (length (take (n + 1) ws)) (row_of f z' m even) store)
          → Placed index first at₁' (o + m) → Placed index second at₂' (o + m)
          → Passing op index first second n starts old store out' at₁' at₂' (ys ++ drop (n + 1) ws) (o + m)
      unfolding all_set
      passing-more {f} is {mask} rows {out'} {at₁'} {at₂'} {ys} put w1 w2 = record {
        here = ch.within;
        first-walking = w1;
        second-walking = w2;
        writers-long = em.writers-long ∙ g.writers-long;
        bodies = λ i h.
            up_more (g.bodies i h) m few _ (row_is i h) ch.some ch.within (em.each i (omega arith));
        long = em.long ∙ g.long;
        front = em.front ∙ g.front;
        back = em.back ∙ g.back;
      }
        where
          real : ℕ
          real = rows_in (width F) R (o + m - 1)

          em : EmittedAll F real starts out out' ws (ys ++ drop (n + 1) ws) (n + 1) (row_of F z' m even) store
          em =
              subst (λ (G : Format). EmittedAll G real starts out out' ws (ys ++ drop (n + 1) ws) (n + 1) (row_of G z' m even) store) is
              (emitted-part (omega (arith, g.writers-long, cs.few)) (put real rows))

  -- ---- the end
  module _ (l : S index ≤ o) where
    end : o ≡ S index
    end = omega (arith, g.here)

    pub passing-all : PassedTo op index first second n starts old out ws store
    passing-all = record {
      long = g.long;
      writers-long = g.writers-long;
      used = λ i h. up-used (g.bodies i h) (long i) end ∙ ap length (body_is op index first second n i);
      stored = λ e i h.
          subst (λ (b : List ℕ). region starts out i ≡ b ++ drop (length b) (region starts old i))
          (body_is op index first second n i) (up-all (g.bodies i h) (long i) end e);
      front = g.front;
      back = g.back;
    }
