-- Asked from piece to piece, a body gives each of them once, in order; their set rows add up, and the nth set row lies where the
-- running sum passes n: `PiecesMet` holds.
-- Assumes nothing.
use Prim.Native.Nat.{ℕ, suc, ◌+◌, ◌-◌, ◌*◌, ◌/◌, ◌%◌, ◌≤◌, ◌<◌, min}
use mathlib.Core.Bool.{Bool}
use mathlib.Core.Path.{◌≡◌, refl, sym, ap, ap₂, ◌∙◌, subst}
use mathlib.Core.List.{List, [], ◌∷◌, map}
use lib.Dec.{eqb, leb}
use lib.ListN.{length, get_or}
use native.Mathlib.Omega.{arith}
use native.Mathlib.Decide.{dec_le}
use borrow.Author.Tests.{lt-leb, leb-false}
use native.Mathlib.Nat.{add-mul, mul-le-mul_right, le-div_iff_mul-le, div-lt_iff_lt-mul, mul-div_cancel, mod-lt}
use Rattle.meaning.specs.Rows.{bit, sum_below, count_below, nth_below}
use Rattle.meaning.specs.Segment.{is_set, has_row, fill, segment_count}
use Rattle.meaning.specs.Refusal.{Outcome, answer, sound}
use Rattle.meaning.specs.Piece.{Piece, piece_size, NoneEmpty, flat}
use Rattle.meaning.specs.Format.{width, most_run, pieces_of, segments_of, rows_of, body_fault}
use Rattle.meaning.specs.Extent.{Span, Extent, spans_from, span_at, extent_of, extents_of, given, row_answer}
use Rattle.meaning.specs.Index.{format_of, row_count, body_at, rows_at}
use Rattle.meaning.specs.Answer.{ask_row, ask_count, ask_nth, rows_fault, check_body, body_row, body_count, body_nth, bitmap_refusal, row, count, nth}
use Rattle.laws.specs.Laws.{SoundFacts}
use Rattle.laws.specs.Demands.{IsNth}
use Rattle.laws.specs.PieceLaws.{Meets, all-given, then_next, set_in, set_in_all, PassesAt, here, later, PieceLaws, PiecesMet}
use Rattle.meaning.specs.declared.Format.{Format}
use Rattle.meaning.specs.declared.Row.{Row}
use Rattle.laws.proofs.RowWords.{eqb-bit, rows_fit, begins}
use Rattle.laws.proofs.Pieces.{flat-length}
use Rattle.laws.proofs.Counting.{count_add}
use Rattle.laws.proofs.Formats.{width-pos, spells, sound-means, facts-some, facts-count}
use Rattle.laws.proofs.Outcomes.{refuse-no, refuse-answer, then-sound, then-answer}
use Rattle.laws.proofs.BitmapPart.{part-laws}
use Rattle.laws.proofs.Counted.{count-upto, nth-holds}
use Rattle.laws.proofs.Even.{bit-fill}
use Rattle.laws.proofs.Ends.{pieces-fine}
use Rattle.laws.proofs.Spans.{span_of, span-here, span-later, segment-within, own-within, Alike, alike}

-- ---- the extents of pieces of any width follow each other

-- from row r on they go, each behind the one before, up to the last of R rows
abbrev Tiles : (R r : ℕ) → List Extent → Type 0
Tiles R r [] = r ≡ R
Tiles R r (e ∷ es) = (e.first ≡ r) × (r ≤ e.last) × Tiles R (suc e.last) es

module _ (w : ℕ) (pos : 0 < w) (R : ℕ) where
  -- of a piece before which `before` segments come, with the pieces ps behind it
  record Placed (before : ℕ) (p : Piece) (ps : List Piece) : Type 0 where
    low : before * w < R
    some : before * w ≤ (extent_of w R (span_of before (piece_size p))).last
    next : min R ((before + piece_size p) * w) ≡ suc (extent_of w R (span_of before (piece_size p))).last
    rest : before + piece_size p + length (flat w ps) ≡ segment_count w R

  placed : (before : ℕ) (p : Piece) (ps : List Piece) → 1 ≤ piece_size p → before + length (flat w (p ∷ ps)) ≡ segment_count w R
      → Placed before p ps
  placed before p ps s n =
      let low : before * w < R = begins w pos R before (omega (arith, flat-length w p ps)) in
      let far = add-mul before (piece_size p) w in
      let size : 1 * w ≤ piece_size p * w = mul-le-mul_right w s in
      record {
        low = low;
        some = omega (arith, far, size);
        next = omega (arith, far, size);
        rest = omega (arith, flat-length w p ps);
      }

  no_more : (before : ℕ) → before + length (flat w []) ≡ segment_count w R → min R (before * w) ≡ R
  unfolding flat
  no_more before n =
      let z : before * w ≡ segment_count w R * w = ap (λ (k : ℕ). k * w) (omega arith) in
      omega (arith, rows_fit w pos R)

  tiles-from : (before : ℕ) (ps : List Piece) → NoneEmpty ps → before + length (flat w ps) ≡ segment_count w R
      → Tiles R (min R (before * w)) (map (extent_of w R) (spans_from before ps))
  unfolding spans_from
  tiles-from before [] s n = no_more before n
  tiles-from before (p ∷ ps) s n =
      let d = placed before p ps s.0 n in
      let here-is : min R (before * w) ≡ before * w = omega (arith, d.low) in
      let on = tiles-from (before + piece_size p) ps s.1 d.rest in
      rw here-is (refl, d.some, subst (λ (r : ℕ). Tiles R r (map (extent_of w R) (spans_from (before + piece_size p) ps))) d.next on)

  -- a walk from piece to piece meets them
  module _ (ask : ℕ → Outcome Row) (told : ℕ → Row) (asked : (r : ℕ) → r < R → ask r ≡ answer (told r)) where
    meets-from : (before : ℕ) (ps : List Piece) → NoneEmpty ps → before + length (flat w ps) ≡ segment_count w R
        → ((r : ℕ) → before * w ≤ r → given (told r) ≡ extent_of w R (span_at before ps (r / w)))
        → Meets R ask (min R (before * w)) (map (extent_of w R) (spans_from before ps))
    unfolding spans_from
    meets-from before [] s n e = all-given (min R (before * w)) (no_more before n)
    meets-from before (p ∷ ps) s n e =
        let here-is : min R (before * w) ≡ before * w = omega (arith, d.low) in
        rw here-is
        (subst (λ (x : Extent). Meets R ask (before * w) (x ∷ others)) it
        (then_next (before * w) (told (before * w)) others d.low (asked (before * w) d.low)
        (subst (λ (r : ℕ). Meets R ask r others) after (meets-from next ps s.1 d.rest behind))))
      where
        next : ℕ
        next = before + piece_size p

        others : List Extent
        others = map (extent_of w R) (spans_from next ps)

        d : Placed before p ps
        d = placed before p ps s.0 n

        behind : (r : ℕ) → next * w ≤ r → given (told r) ≡ extent_of w R (span_at next ps (r / w))
        behind r h =
            e r (omega (arith, add-mul before (piece_size p) w))
            ∙ ap (extent_of w R) (span-later (r / w) before p ps ((le-div_iff_mul-le pos).1 h))

        it : given (told (before * w)) ≡ extent_of w R (span_of before (piece_size p))
        it =
            e (before * w) (omega arith)
            ∙ ap (λ (i : ℕ). extent_of w R (span_at before (p ∷ ps) i)) (mul-div_cancel before pos)
            ∙ ap (extent_of w R) (span-here before before p ps (omega (arith, s.0)))

        after : min R (next * w) ≡ suc (told (before * w)).last
        after = d.next ∙ ap (λ (x : Extent). suc x.last) (sym it)

answer-same : {A : Type 0} (t u : A) → answer t ≡ answer u → t ≡ u
answer-same t u e = cc

-- and nothing else is met so
met-same : (R : ℕ) (ask : ℕ → Outcome Row) {q r : ℕ} {es fs : List Extent} → Meets R ask q es → Meets R ask r fs → q ≡ r → es ≡ fs
met-same R ask (all-given q e) (all-given r f) i = refl
met-same R ask (all-given q e) (then_next r t fs l a m) i = absurd (omega arith)
met-same R ask (then_next q t es l a m) (all-given r f) i = absurd (omega arith)
met-same R ask (then_next q t es l a m) (then_next r u fs k b n) i =
    let same : t ≡ u = answer-same t u (sym a ∙ ap ask i ∙ b) in
    ap₂ (λ (x : Row) (xs : List Extent). given x ∷ xs) same (met-same R ask m n (ap (λ (x : Row). suc x.last) same))

-- ---- their set rows

module _ (R : ℕ) (p : ℕ → Bool) where
  -- up to the end of an extent
  set-in : (e : Extent) → e.first ≤ e.last → count_below e.first p + set_in p e ≡ count_below (suc e.last) p
  unfolding set_in
  set-in e h =
      let k : e.first + (suc e.last - e.first) ≡ suc e.last = omega arith in
      omega (arith, count_add e.first (suc e.last - e.first) p, ap (λ (n : ℕ). count_below n p) k)

  sum-from : (r : ℕ) (es : List Extent) → Tiles R r es → count_below r p + set_in_all p es ≡ count_below R p
  unfolding set_in_all
  sum-from r [] e = rw e (omega arith)
  sum-from r (e ∷ es) (i, h, m) =
      let at : count_below r p ≡ count_below e.first p = ap (λ (n : ℕ). count_below n p) (sym i) in
      omega (arith, sum-from (suc e.last) es m, set-in e (omega arith))

  -- the nth set row lies where their running sum passes n
  passes-from : (n q : ℕ) → IsNth R p n q → (r : ℕ) (es : List Extent) → Tiles R r es → r ≤ q → PassesAt p n q (count_below r p) es
  passes-from n q a r [] e g = absurd (omega (arith, a.below))
  passes-from n q a r (e ∷ es) (i, h, m) g =
      let at : count_below r p ≡ count_below e.first p = ap (λ (n : ℕ). count_below n p) (sym i) in
      let to : count_below r p + set_in p e ≡ count_below (suc e.last) p = omega (arith, set-in e (omega arith)) in
      elim (dec_le q e.last) [
        | yes k ↦
            here (count_below r p) e es (omega (arith, count-upto p r q g, a.before)) (omega (arith, count-upto p (suc q) (suc e.last) (omega arith), one)) (omega arith) k
        | no k ↦
            later (count_below r p) e es (omega (arith, count-upto p (suc e.last) q (omega arith), a.before))
            (subst (λ (z : ℕ). PassesAt p n q z es) (sym to) (passes-from n q a (suc e.last) es m (omega arith)))
      ]
    where
      one : count_below (suc q) p ≡ n + 1
      one = unfold count_below sum_below bit in omega (arith, a.before, ap bit a.set)

-- ---- of a sound body, whose rows, count and nth set row are asked for

module _ (F : Format) (R : ℕ) (b : List ℕ) (facts : SoundFacts F R b) where
  segments : 0 + length (flat (width F) (pieces_of F b)) ≡ segment_count (width F) R
  segments = omega (arith, ap length (spells F b), facts-count F R b facts)

  -- the segments of the piece that a row lies in, and that the row is one of theirs
  abbrev own : ℕ → Span
  own r = span_at 0 (pieces_of F b) (r / width F)

  among-own : (r : ℕ) → r < R → ((own r).from * width F ≤ r) × (r < ((own r).from + (own r).size) * width F)
  among-own r h =
      let f = own-within F R b facts r h in
      ((le-div_iff_mul-le (width-pos F)).0 f.low, (div-lt_iff_lt-mul (width-pos F)).0 f.high)

  inside : (r : ℕ) → r < R → ((row_answer F R b r).first ≤ r) × (r ≤ (row_answer F R b r).last) × ((row_answer F R b r).last < R)
  unfolding row_answer
  inside r h = let i = among-own r h in (i.0, omega (arith, i.1), omega arith)

  -- a row of segments that are all the same clean one
  row-value : (x : Span) (a : Alike (width F) 0 (pieces_of F b) x) (q : ℕ)
      → x.from * width F ≤ q → q < (x.from + x.size) * width F → rows_of F b q ≡ eqb a.v 1
  unfolding rows_of has_row
  row-value x a q lo hi =
      let i = q / width F in
      let z : i - 0 ≡ i = omega arith in
      let its : get_or (segments_of F b) i 0 ≡ fill (width F) a.v =
      ap₂ (λ (xs : List ℕ) (k : ℕ). get_or xs k 0) (sym (spells F b)) (sym z)
      ∙ a.each i ((le-div_iff_mul-le (width-pos F)).1 lo) ((div-lt_iff_lt-mul (width-pos F)).1 hi) in
      ap (λ (y : ℕ). is_set y (q % width F)) its
      ∙ sym (eqb-bit (is_set (fill (width F) a.v) (q % width F)))
      ∙ ap (λ (k : ℕ). eqb k 1) (bit-fill (width F) a.v (q % width F) a.is-value (mod-lt q (width-pos F)))

  one_value : (r : ℕ) → r < R → (row_answer F R b r).first + width F ≤ (row_answer F R b r).last
      → (q : ℕ) → (row_answer F R b r).first ≤ q → q ≤ (row_answer F R b r).last → rows_of F b q ≡ (row_answer F R b r).set
  unfolding row_answer
  one_value r h l q lo hi =
      let i = among-own r h in
      let a = alike (r / width F) (width F) (most_run F) 0 (pieces_of F b) (pieces-fine F b) (omega arith) (omega (arith, segment-within F R b facts r h, ap length (spells F b))) many in
      row-value (own r) a q lo (omega (arith, i.1)) ∙ sym (row-value (own r) a r i.0 i.1)
    where
      many : 2 ≤ (own r).size
      many = elim (dec_le 2 (own r).size) [
        | yes k ↦ k
        | no k ↦
            let few : (own r).size * width F ≤ 1 * width F = mul-le-mul_right (width F) (omega arith) in
            absurd (omega (arith, few, add-mul (own r).from (own r).size (width F), width-pos F))
      ]

  module _ (ask : ℕ → Outcome Row) (counted : Outcome ℕ) (nth_of : ℕ → Outcome ℕ) (asks : (r : ℕ) → ask r ≡ ask_row F R b r)
      (counts : counted ≡ ask_count R (rows_of F b)) (nths : (n : ℕ) → nth_of n ≡ ask_nth R (rows_of F b) n) where
    told : (r : ℕ) → r < R → ask r ≡ answer (row_answer F R b r)
    unfolding ask_row
    told r h = asks r ∙ refuse-no (leb R r) 8 0 0 (answer (row_answer F R b r)) (lt-leb R r h)

    -- an answer is of a real row
    real : (r : ℕ) (t : Row) → ask r ≡ answer t → (r < R) × (row_answer F R b r ≡ t)
    unfolding ask_row
    real r t e =
        let p = refuse-answer (leb R r) 8 0 0 (answer (row_answer F R b r)) t (sym (asks r) ∙ e) in
        (leb-false R r p.0, answer-same _ _ p.1)

    all-met : Meets R ask 0 (extents_of F R b)
    unfolding row_answer
    all-met =
        subst (λ (r : ℕ). Meets R ask r (extents_of F R b)) (omega arith)
        (meets-from (width F) (width-pos F) R ask (row_answer F R b) told 0 (pieces_of F b) (facts-some F R b facts) segments (λ r h. refl))

    tiles : Tiles R 0 (extents_of F R b)
    tiles =
        subst (λ (r : ℕ). Tiles R r (extents_of F R b)) (omega arith)
        (tiles-from (width F) (width-pos F) R 0 (pieces_of F b) (facts-some F R b facts) segments)

    none : count_below 0 (rows_of F b) ≡ 0
    unfolding count_below sum_below
    none = refl

    sum : ask_count R (rows_of F b) ≡ answer (set_in_all (rows_of F b) (extents_of F R b))
    unfolding ask_count
    sum = ap answer (omega (arith, none, sum-from R (rows_of F b) 0 (extents_of F R b) tiles))

    nth-told : (n : ℕ) → n < count_below R (rows_of F b) → nth_of n ≡ answer (nth_below R (rows_of F b) n)
    unfolding ask_nth
    nth-told n h =
        let many = count_below R (rows_of F b) in
        nths n ∙ refuse-no (leb many n) 8 0 0 (answer (nth_below R (rows_of F b) n)) (lt-leb many n h)

    laws : PieceLaws F R b ask counted nth_of
    laws = record {
      inside = λ r h. let i = inside r h in (row_answer F R b r, told r h, i.0, i.1, i.2);
      meets = all-met;
      only = λ es m. met-same R ask m all-met refl;
      adds = counts ∙ sum;
      passes = λ n l.
          let r = nth_below R (rows_of F b) n in
          let h : n < count_below R (rows_of F b) = omega (arith, none, sum-from R (rows_of F b) 0 (extents_of F R b) tiles) in (
            r,
            nth-told n h,
            subst (λ (z : ℕ). PassesAt (rows_of F b) n r z (extents_of F R b)) none
                (passes-from R (rows_of F b) n r (nth-holds R (rows_of F b) n h).is 0 (extents_of F R b) tiles (omega arith)),
          );
      alike = λ r t e.
          let a = real r t e in
          subst (λ (x : Row). x.first + width F ≤ x.last → (q : ℕ) → x.first ≤ q → q ≤ x.last → rows_of F b q ≡ x.set) a.1
          (one_value r a.0);
    }

of-body : (F : Format) (R : ℕ) (b : List ℕ) → check_body F R b ≡ sound → PieceLaws F R b (body_row F R b) (body_count F R b) (body_nth F R b)
unfolding check_body body_row body_count body_nth
of-body F R b e =
    laws F R b ((sound-means F R b).0 (then-answer (rows_fault R) (body_fault F 0 0 R b) tt e).1) (body_row F R b) (body_count F R b) (body_nth F R b)
    (λ r. then-sound (check_body F R b) (ask_row F R b r) e)
    (then-sound (check_body F R b) (ask_count R (rows_of F b)) e)
    (λ n. then-sound (check_body F R b) (ask_nth R (rows_of F b) n) e)

of-bitmap : (index : List ℕ) (k : ℕ) → bitmap_refusal index k ≡ sound
    → PieceLaws (format_of index) (row_count index) (body_at index k) (row index k) (count index k) (nth index k)
unfolding row count nth rows_at
of-bitmap index k e =
    let a = part-laws.known index k e in
    let R = row_count index in
    let p = rows_of (format_of index) (body_at index k) in
    laws (format_of index) R (body_at index k) (a.facts.bodies k a.below) (row index k) (count index k) (nth index k)
    (λ r. then-sound (bitmap_refusal index k) (ask_row (format_of index) R (body_at index k) r) e)
    (then-sound (bitmap_refusal index k) (ask_count R p) e)
    (λ n. then-sound (bitmap_refusal index k) (ask_nth R p n) e)

pub pieces-met : PiecesMet
pieces-met = record { of-body = of-body; of-bitmap = of-bitmap }
