-- Rows on their way through the packer to the writer: what each step does to them.
-- Assumes nothing.
use Prim.Native.Nat.{ℕ, suc, ◌+◌, ◌-◌, ◌*◌, ◌%◌, ◌^◌, ◌≤◌, ◌<◌}
use mathlib.Core.Bool.{Bool, true}
use mathlib.Core.Path.{◌≡◌, refl, sym, ap, subst, ◌∙◌}
use mathlib.Core.List.{List, [], ◌∷◌}
use lib.Arith.{digits_mod}
use lib.Dec.{eqb}
use lib.ListN.{length, get_or, replicate, length-replicate, get_or-replicate}
use native.Mathlib.Nat.{suc-mul, add-mul, mul-le-mul_right, zero-mul, mod-eq_of_lt}
use native.Mathlib.Decide.{dec_le}
use native.Mathlib.Omega.{arith}
use Rattle.meaning.specs.Limits.{most_rows}
use Rattle.meaning.specs.Segment.{clean, kind, is_set, word_of, segment_count, rows_in}
use Rattle.meaning.specs.Format.{width, canonical}
use Rattle.meaning.specs.declared.Format.{Format}
use Rattle.meaning.specs.declared.Format.TheVariants.{Ewah, Wah}
use Rattle.laws.proofs.Formats.{width-pos}
use Rattle.laws.proofs.Cut.{rows-le}
use Rattle.laws.proofs.Even.{even-clean}
use Rattle.laws.proofs.RowWords.{bit-eqb}
use Rattle.ewah_write.specs.declared.writer.Writer.{Writer}
use Rattle.body_write.specs.Bodies.{Stands, Growing, Emitted}
use Rattle.repack.specs.declared.packer.Packer.{Packer}
use Rattle.repack.specs.declared.packer.Taken.{Taken}
use Rattle.repack.specs.Packing.{Holds, Added, Split}
use Rattle.repack.proofs.PlainSegments.{from-word, starts-inside}
use Rattle.repack.proofs.RowsPut.{word-from}
use Rattle.repack.proofs.RowsWritten.{cell-is}
use Rattle.row_write.specs.declared.output.Output.{Output}
use Rattle.row_write.specs.Sending.{all_of, Sent}
use Rattle.row_write.specs.Packing.{Packed, Coming, Takes, PutOn, Rewritten}
use Rattle.row_write.proofs.Sending.{Next, next_one, segment-at, sent-start, sent-growing, sent-on, sent-words, sent-all}
use Rattle.row_write.proofs.Walking.{starts-below}

-- ---- segments of R rows

module _ (F : Format) (R : ℕ) (q : ℕ → Bool) where
  abbrev w : ℕ
  w = width F

  abbrev pos : 0 < width F
  pos = width-pos F

  -- a segment by the word of its rows
  segment-rows : (i y : ℕ) → i < segment_count (width F) R → y ≡ word_of (rows_in (width F) R i) (λ j. q (i * width F + j))
      → get_or (all_of F R q) i (clean 0) ≡ kind (rows_in (width F) R i) y
  unfolding rows_in
  segment-rows i y h e =
      let a = rows_in w R i in
      let cell = cell-is w R q a i (rows-le w pos R i) (λ j g. omega arith) (λ j g k. omega arith) in
      segment-at F R q i h ∙ ap (kind a) (sym (e ∙ cell ∙ sym (from-word w R q i h)))

  -- one that has all its rows
  module _ (i : ℕ) (h : suc i * width F ≤ R) where
    pub whole-inside : i < segment_count (width F) R
    whole-inside = starts-below w pos R i (omega (arith, suc-mul i w, pos))

    pub whole-rows : rows_in (width F) R i ≡ width F
    unfolding rows_in
    whole-rows = omega (arith, suc-mul i w)

    pub whole-kind : (y : ℕ) → y ≡ word_of (width F) (λ j. q (i * width F + j))
        → get_or (all_of F R q) i (clean 0) ≡ kind (width F) y
    whole-kind y e = rw whole-rows at (segment-rows i y whole-inside (rw whole-rows e))

    -- all of whose rows have one value
    pub whole-clean : (v : ℕ) → v < 2 → ((j : ℕ) → j < width F → q (i * width F + j) ≡ eqb v 1)
        → get_or (all_of F R q) i (clean 0) ≡ clean v
    whole-clean v l e = even-clean w pos R q i (eqb v 1) whole-inside e ∙ ap clean (bit-eqb v l)

  -- the last one, which has some of its rows
  module _ (i n : ℕ) (h : R ≡ i * width F + n) (some : 0 < n) (few : n < width F) where
    pub part-inside : i < segment_count (width F) R
    part-inside = starts-below w pos R i (omega arith)

    pub part-rows : rows_in (width F) R i ≡ n
    unfolding rows_in
    part-rows = omega arith

    pub part-kind : (y : ℕ) → y ≡ word_of n (λ j. q (i * width F + j)) → get_or (all_of F R q) i (clean 0) ≡ kind n y
    part-kind y e = rw part-rows at (segment-rows i y part-inside (rw part-rows e))

    pub part-last : i + 1 ≡ segment_count (width F) R
    part-last = elim (dec_le (suc (suc i)) (segment_count w R)) [
      | yes g ↦ absurd (omega (arith, starts-inside w R pos (suc i) g, suc-mul i w))
      | no g ↦ omega (arith, part-inside)
    ]

  -- there are no others where R rows are whole segments
  all_whole : (i : ℕ) → R ≡ i * width F → i ≤ segment_count (width F) R → i ≡ segment_count (width F) R
  all_whole i e h = elim (dec_le (suc i) (segment_count w R)) [
    | yes g ↦ absurd (omega (arith, starts-inside w R pos i g))
    | no g ↦ omega arith
  ]

-- ---- steps

module _ (F : Format) (R : ℕ) (q : ℕ → Bool) (old : List ℕ) (store : Bool) where
  -- no rows yet
  pub packed_start : (o : Output) → R ≤ most_rows → (store ≡ true → length (canonical F R q) ≤ length old)
      → o.packer.word ≡ 0 → o.packer.have ≡ 0 → Stands F o.writer [] → Packed F R q old store old 0 o
  packed_start o few room none empty t = record {
    whole = 0;
    rows = omega (arith, empty, zero-mul (width F));
    low = rw (empty, none) (omega arith);
    begun = none ∙ sym (ap (λ (n : ℕ). word_of n (λ j. q (0 * width F + j))) empty ∙ (unfold word_of in refl));
    sent = sent-start F R q old store o.writer few room t;
  }

  -- k rows more, the bits of x, in the packer alone
  pub packed-added : {out : List ℕ} {d : ℕ} {o : Output} {x k : ℕ} (r : Output)
      → Coming F R q old store out d o (is_set x) k → x < 2 ^ k → Added o.packer x k r.packer → r.writer ≡ o.writer
      → Packed F R q old store out (d + k) r
  packed-added {d = d} {o = o} {x = x} {k = k} r c low a same =
      let p = c.packed in
      record {
        whole = p.whole;
        rows = omega (arith, p.rows, a.have);
        low = a.low;
        begun = a.holds q (p.whole * width F) p.begun
            (word-from k x _ low (λ j h. ap q (omega (arith, p.rows)) ∙ c.next j h));
        sent = rw same p.sent;
      }

  module _ {out : List ℕ} {d : ℕ} {o : Output} (p : Packed F R q old store out d o) (all : d ≤ R) where
    -- a whole segment that the packer has
    module _ (cut : Taken) (h : width F ≤ o.packer.have) (s : Split (width F) o.packer cut) where
      inside : suc p.whole * width F ≤ R
      inside = omega (arith, p.rows, suc-mul p.whole (width F))

      pub take_next : Next F R q p.whole (kind (width F) cut.segment ∷ [])
      take_next =
          next_one F R q p.whole _ (whole-inside F R q p.whole inside)
          (whole-kind F R q p.whole inside cut.segment (s.holds q (p.whole * width F) p.begun).0)

      pub take-growing : Growing F o.writer 1
      take-growing = sent-growing p.sent 1 take_next.1

      pub packed-taken : (out' : List ℕ) (r : Output) → length out' ≡ length out → r.packer ≡ cut.rest
          → Emitted F (width F) out out' o.writer (kind (width F) cut.segment ∷ []) store r.writer
          → Packed F R q old store out' d r
      packed-taken out' r long rest e =
          let back : p.whole + 1 - 1 ≡ p.whole = omega arith in
          let real = sym (whole-rows F R q p.whole inside) ∙ ap (rows_in (width F) R) (sym back) in
          let on : p.whole * width F + width F ≡ (p.whole + 1) * width F = omega (arith, add-mul p.whole 1 (width F)) in
          record {
            whole = p.whole + 1;
            rows = omega (arith, p.rows, on, s.have, ap (λ (k : Packer). k.have) rest);
            low = rw rest s.low;
            begun = subst (λ (k : Packer). Holds q ((p.whole + 1) * width F) k) (sym rest)
                (subst (λ (m : ℕ). Holds q m cut.rest) on (s.holds q (p.whole * width F) p.begun).1);
            sent = sent-on p.sent (width F) _ out' r.writer take_next real long e;
          }

  -- n whole segments of one value, where none is begun
  module _ {out : List ℕ} {d : ℕ} {o : Output} (v n : ℕ) (low : v < 2) (some : 1 ≤ n) (none : o.packer.have ≡ 0)
      (c : Coming F R q old store out d o (λ j. eqb v 1) (n * width F)) where
    abbrev at : ℕ
    at = c.packed.whole

    ends : (at + n) * width F ≡ d + n * width F
    ends = add-mul at n (width F) ∙ omega (arith, c.packed.rows, none)

    pub run-next : Next F R q at (replicate n (clean v))
    run-next = (omega (arith, long), omega (arith, long, last), each)
      where
        long : length (replicate n (clean v)) ≡ n
        long = length-replicate n (clean v)

        -- segment i ends below R
        below : (i : ℕ) → i < n → suc (at + i) * width F ≤ R
        below i h =
            let l : suc (at + i) ≤ at + n = omega arith in
            omega (arith, mul-le-mul_right (width F) l, ends, c.within)

        last : at + n ≤ segment_count (width F) R
        last =
            let e : suc (at + (n - 1)) ≡ at + n = omega (arith, some) in
            omega (arith, e, whole-inside F R q (at + (n - 1)) (below (n - 1) (omega (arith, some))))

        each : (i : ℕ) → i < length (replicate n (clean v))
            → get_or (all_of F R q) (at + i) (clean 0) ≡ get_or (replicate n (clean v)) i (clean 0)
        each i h =
            let l : i < n = omega (arith, long) in
            whole-clean F R q (at + i) (below i l) v low
            (λ j g. ap q (omega (arith, add-mul at i (width F), c.packed.rows, none))
            ∙ c.next (i * width F + j) (omega (arith, mul-le-mul_right (width F) l, suc-mul i (width F))))
            ∙ sym (get_or-replicate n i (clean v) (clean 0) l)

    pub run-growing : Growing F o.writer n
    run-growing = sent-growing c.packed.sent n (omega (arith, run-next.1, length-replicate n (clean v)))

    pub packed-run : (out' : List ℕ) (r : Output) → length out' ≡ length out → r.packer ≡ o.packer
        → Emitted F (width F) out out' o.writer (replicate n (clean v)) store r.writer
        → Packed F R q old store out' (d + n * width F) r
    packed-run out' r long same e =
        let p = c.packed in
        let m = length-replicate n (clean v) in
        let l : suc (at + n - 1) ≡ at + n = omega (arith, some) in
        let end : suc (at + n - 1) * width F ≤ R = rw l (omega (arith, ends, c.within)) in
        let real = sym (whole-rows F R q (at + n - 1) end) ∙ ap (λ (k : ℕ). rows_in (width F) R (at + k - 1)) (sym m) in
        let h : r.packer.have ≡ 0 = ap (λ (k : Packer). k.have) same ∙ none in
        record {
          whole = at + n;
          rows = omega (arith, ends, h);
          low = rw same p.low;
          begun = ap (λ (k : Packer). k.word) same ∙ p.begun ∙ empty (at * width F) _ none
              ∙ sym (empty ((at + n) * width F) _ h);
          sent = subst (λ (k : ℕ). Sent F R q old store out' (at + k) r.writer) m
              (sent-on p.sent (width F) _ out' r.writer run-next real long e);
        }
      where
        empty : (from k : ℕ) → k ≡ 0 → word_of k (λ j. q (from + j)) ≡ 0
        empty from k e = ap (λ (m : ℕ). word_of m (λ j. q (from + j))) e ∙ (unfold word_of in refl)

  -- ---- all rows are put

  module _ {out : List ℕ} {o : Output} (p : Packed F R q old store out R o) where
    all-sent : {s : ℕ} {v : Writer} (out' : List ℕ) → Sent F R q old store out' s v → s ≡ segment_count (width F) R
        → Rewritten F R q old store out' v.used
    all-sent out' t e = record { words_are = sent-words t e; stored = sent-all t e; kept = t.up.kept }

    -- as whole segments
    pub finished-whole : o.packer.have ≡ 0 → Rewritten F R q old store out o.writer.used
    finished-whole none =
        all-sent out p.sent
        (all_whole F R q p.whole (omega (arith, p.rows, none)) p.sent.within)

    -- with one that has only n rows, of which the writer takes the word x
    module _ (x : ℕ) (some : o.packer.have ≡ 0 → ⊥) (few : o.packer.have < width F)
        (is : kind (width F) x ≡ kind o.packer.have o.packer.word) where
      abbrev n : ℕ
      n = o.packer.have

      begun : 0 < o.packer.have
      begun = omega arith

      pub last-next : Next F R q p.whole (kind (width F) x ∷ [])
      last-next =
          next_one F R q p.whole _ (part-inside F R q p.whole n p.rows begun few)
          (part-kind F R q p.whole n p.rows begun few o.packer.word p.begun ∙ sym is)

      pub last-growing : Growing F o.writer 1
      last-growing = sent-growing p.sent 1 last-next.1

      pub finished-part : (out' : List ℕ) (v : Writer) → length out' ≡ length out
          → Emitted F o.packer.have out out' o.writer (kind (width F) x ∷ []) store v
          → Rewritten F R q old store out' v.used
      finished-part out' v long e =
          let back : p.whole + 1 - 1 ≡ p.whole = omega arith in
          let real = sym (part-rows F R q p.whole n p.rows begun few) ∙ ap (rows_in (width F) R) (sym back) in
          all-sent out' (sent-on p.sent n _ out' v last-next real long e)
          (part-last F R q p.whole n p.rows begun few)

-- ---- steps joined

module _ {F : Format} {store : Bool} {out mid : List ℕ} {o r : Output} {f g : ℕ → Bool} {a b n : ℕ}
    (same : (j : ℕ) → j < b → f (a + j) ≡ g j) (all : n ≡ a + b) (p : PutOn F store out mid o f a r) where
  coming-first : {R : ℕ} {q : ℕ → Bool} {old : List ℕ} {d : ℕ} → Coming F R q old store out d o f n
      → Coming F R q old store out d o f a
  coming-first c =
      record { packed = c.packed; within = omega (arith, c.within); next = λ j h. c.next j (omega arith) }

  coming-after : {R : ℕ} {q : ℕ → Bool} {old : List ℕ} {d : ℕ} → Coming F R q old store out d o f n
      → Coming F R q old store mid (d + a) r g b
  coming-after {R} {q} {old} {d} c = record {
    packed = p.on R q old d (coming-first c);
    within = omega (arith, c.within);
    next = λ j h. ap q (omega arith) ∙ c.next (a + j) (omega arith) ∙ same j h;
  }

  -- behind the first a rows the others can be put,
  pub takes-after : Takes F store out o f n → Takes F store mid r g b
  takes-after t = (t.0, t.1, t.2, t.3 + a, coming-after t.4)

  -- and with them all are put
  pub put-join : {out' : List ℕ} {s : Output} → PutOn F store mid out' r g b s → PutOn F store out out' o f n s
  put-join {out'} {s} e = record {
    on = λ R q old d c.
        subst (λ (k : ℕ). Packed F R q old store out' k s) (omega arith) (e.on R q old (d + a) (coming-after c));
  }

-- of n rows the first a
pub takes_first : {F : Format} {store : Bool} {out : List ℕ} {o : Output} {f : ℕ → Bool} (a n : ℕ) → a ≤ n
    → Takes F store out o f n → Takes F store out o f a
takes_first a n h t =
    let c = t.4 in (
      t.0,
      t.1,
      t.2,
      t.3,
      record { packed = c.packed; within = omega (arith, c.within); next = λ j l. c.next j (omega arith) },
    )

-- the same rows
pub takes_same : {F : Format} {store : Bool} {out : List ℕ} {o : Output} {f g : ℕ → Bool} (n : ℕ)
    → ((j : ℕ) → j < n → f j ≡ g j) → Takes F store out o f n → Takes F store out o g n
takes_same n same t =
    let c = t.4 in (
      t.0,
      t.1,
      t.2,
      t.3,
      record { packed = c.packed; within = c.within; next = λ j l. c.next j l ∙ same j l },
    )

pub put_same : {F : Format} {store : Bool} {out out' : List ℕ} {o r : Output} {f g : ℕ → Bool} (n : ℕ)
    → ((j : ℕ) → j < n → f j ≡ g j) → PutOn F store out out' o f n r → PutOn F store out out' o g n r
put_same n same p = record {
  on = λ R q old d c.
      p.on R q old d
      (record { packed = c.packed; within = c.within; next = λ j l. c.next j l ∙ sym (same j l) });
}

-- no rows more: whole segments only went on
pub put-none : {F : Format} {store : Bool} {out out' : List ℕ} {o r : Output} (f : ℕ → Bool)
    → ((R : ℕ) (q : ℕ → Bool) (old : List ℕ) (d : ℕ) → Packed F R q old store out d o → d ≤ R
    → Packed F R q old store out' d r) → PutOn F store out out' o f 0 r
put-none {F} {store} {out} {out'} {o} {r} f h = record {
  on = λ R q old d c.
      subst (λ (k : ℕ). Packed F R q old store out' k r) (omega arith) (h R q old d c.packed (omega (arith, c.within)));
}

-- k rows more, the bits of x, in the packer alone
pub put-added : {F : Format} {store : Bool} (out : List ℕ) {o r : Output} {x k : ℕ} → x < 2 ^ k
    → Added o.packer x k r.packer → r.writer ≡ o.writer → PutOn F store out out o (is_set x) k r
put-added out {r = r} low a same = record { on = λ R q old d c. packed-added _ R q old _ r c low a same }

-- ---- how many rows the packer has

pub width-ge : (F : Format) → 31 ≤ width F
width-ge Ewah = omega arith
width-ge Wah = omega arith

-- of h rows two segments are taken at most
pub taken_twice : (w h a b : ℕ) → 0 < w → h ≤ w + w → (w ≤ h → a + w ≡ h) × (h < w → a ≡ h)
    → (w ≤ a → b + w ≡ a) × (a < w → b ≡ a) → b ≡ h % w
taken_twice w h a b pos most first next = elim (dec_le w h) [
  | yes l ↦ elim (dec_le w a) [
    | yes m ↦
        (let e : h ≡ 2 * w + 0 = omega (arith, first.0 l) in
        let z : b ≡ 0 = omega (arith, next.0 m, first.0 l) in
        z ∙ sym (ap (λ (k : ℕ). k % w) e ∙ digits_mod 2 {m = w} {r = 0} pos))
    | no m ↦
        (let e : h ≡ 1 * w + a = omega (arith, first.0 l) in
        next.1 (omega arith) ∙ sym (ap (λ (k : ℕ). k % w) e ∙ digits_mod 1 {m = w} {r = a} (omega arith)))
  ]
  | no l ↦
      (let same : a ≡ h = first.1 (omega arith) in
      next.1 (omega (arith, same)) ∙ same ∙ sym (mod-eq_of_lt (omega arith)))
]
