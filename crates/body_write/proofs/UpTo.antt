-- A body of R rows on its way: its first o segments are put, and written where they are stored; more of them follow,
-- up to the words of all.
-- Assumes nothing.
use Prim.Native.Nat.{ℕ, zero, suc, ◌+◌, ◌-◌, ◌≤◌, ◌<◌}
use mathlib.Core.Bool.{Bool, true}
use mathlib.Core.Path.{◌≡◌, refl, sym, ap, ◌∙◌, subst}
use mathlib.Core.List.{List, [], ◌∷◌, ◌++◌}
use native.Mathlib.Omega.{arith}
use lib.ListN.{length, take, drop, length-append, length-take, take-append-drop}
use lib.Seq.{take-add, take_all}
use Rattle.meaning.specs.Limits.{most_segments}
use Rattle.meaning.specs.Segment.{Segment, segment_count, last_rows, rows_in}
use Rattle.meaning.specs.Format.{width, words_of}
use Rattle.meaning.specs.declared.Format.{Format}
use Rattle.laws.proofs.Cut.{rows_inside, rows_end}
use Rattle.laws.proofs.Formats.{width-pos}
use Rattle.ewah_write.specs.declared.writer.Writer.{Writer}
use Rattle.body_write.specs.Bodies.{so_far, Stands, Growing, RoomFor, Emitted, Written, UpTo}
use Rattle.body_write.proofs.Bodies.{words-none, words-all, words-grow, used-is}
use Rattle.body_write.proofs.Joined.{written_none, written-more, written_all}

pub up_none : {F : Format} {w : Writer} (R : ℕ) (ss : List Segment) (store : Bool) (old : List ℕ) → Stands F w []
    → UpTo F R ss store old old w 0
up_none {F} R ss store old t = record {
  stands = t;
  stored = λ e. written_none (rows_in (width F) R (0 - 1)) old t;
  kept = λ e. refl;
}

module _ {F : Format} {R : ℕ} {ss : List Segment} {store : Bool} {old out : List ℕ} {w : Writer} {o : ℕ}
    (g : UpTo F R ss store old out w o) where
  -- ---- n segments more
  pub up-growing : (n : ℕ) → o + n ≤ most_segments → Growing F w n
  up-growing n few = (take o ss, g.stands, omega (arith, few, length-take o ss))

  module _ (n : ℕ) (few : o + n ≤ most_segments) (part : List Segment) (is : part ≡ take n (drop o ss)) where
    put_is : take o ss ++ part ≡ take (o + n) ss
    put_is = ap (λ (ts : List Segment). take o ss ++ ts) is ∙ sym (take-add o n ss)

    put-few : length (take o ss) + length part ≤ most_segments
    put-few = omega (arith, few, length-append (take o ss) part, ap length put_is, length-take (o + n) ss)

    -- they take no more words than all do
    pub up_room : (room : ℕ) → length (words_of F R ss) ≤ room → RoomFor F part w room
    up_room room h = (take o ss, g.stands, put-few, omega (arith, h, within_all))
      where
        within_all : length (so_far F (width F) (take o ss ++ part)) ≤ length (words_of F R ss)
        within_all =
            let k = o + n in
            let last = last_rows (width F) R in
            omega (
              arith,
              ap (λ (ts : List Segment). length (so_far F (width F) ts)) put_is,
              words-grow F (width F) last (take k ss) (drop k ss),
              ap (λ (ts : List Segment). length (so_far F last ts)) (take-append-drop k ss),
              ap length (words-all F R ss),
            )

    -- before the last segment all are whole
    words-before : (o : ℕ) → o < segment_count (width F) R
        → so_far F (rows_in (width F) R (o - 1)) (take o ss) ≡ so_far F (width F) (take o ss)
    words-before zero h = words-none F (rows_in (width F) R (0 - 1)) ∙ sym (words-none F (width F))
    words-before (suc o) h =
        let e : suc o - 1 ≡ o = omega arith in
        ap (λ (real : ℕ). so_far F real (take (suc o) ss))
        (ap (rows_in (width F) R) e ∙ rows_inside (width F) (width-pos F) R o h)

    pub up_more : 1 ≤ n → o + n ≤ segment_count (width F) R → {out' : List ℕ} {v : Writer}
        → Emitted F (rows_in (width F) R (o + n - 1)) out out' w part store v → UpTo F R ss store old out' v (o + n)
    up_more some within {out'} {v} em = record {
      stands = subst (Stands F v) put_is (em.grown (take o ss) g.stands put-few);
      stored = λ e.
          subst (Written F (rows_in (width F) R (o + n - 1)) old out' v) put_is
          (written-more part (whole e) (em.stored e) put-few);
      kept = λ e. em.kept e ∙ g.kept e;
    }
      where
        whole : store ≡ true → Written F (width F) old out w (take o ss)
        whole e =
            let b = g.stored e in
            record { stands = b.stands; words = b.words ∙ words-before o (omega arith); kept = b.kept }

  -- ---- the end
  module _ (long : length ss ≡ segment_count (width F) R) (end : o ≡ segment_count (width F) R) where
    -- the last segment has the rows that are left
    words-end : so_far F (rows_in (width F) R (o - 1)) (take o ss) ≡ words_of F R ss
    words-end =
        ap (so_far F (rows_in (width F) R (o - 1))) (take_all o ss (omega arith))
        ∙ go ss long
        ∙ sym (words-all F R ss)
      where
        go : (ts : List Segment) → length ts ≡ segment_count (width F) R
            → so_far F (rows_in (width F) R (o - 1)) ts ≡ so_far F (last_rows (width F) R) ts
        go [] n = words-none F (rows_in (width F) R (o - 1)) ∙ sym (words-none F (last_rows (width F) R))
        go (t ∷ ts) n =
            ap (λ (real : ℕ). so_far F real (t ∷ ts)) (rows_end (width F) (width-pos F) R (o - 1) (omega arith))

    pub up-used : w.used ≡ length (words_of F R ss)
    up-used = used-is (rows_in (width F) R (o - 1)) g.stands ∙ ap length words-end

    pub up-all : store ≡ true → out ≡ words_of F R ss ++ drop (length (words_of F R ss)) old
    up-all e =
        written_all (g.stored e)
        ∙ ap (λ (b : List ℕ). b ++ drop w.used old) words-end
        ∙ ap (λ (k : ℕ). words_of F R ss ++ drop k old) up-used
