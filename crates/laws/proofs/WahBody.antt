-- WAH bodies: sound, as plain facts; and the canonical form, which is a sound body of 32-bit words, stands for the
-- segments that it was made from, and has the fewest words of any body that does.
-- Assumes nothing.
use Prim.Native.Nat.{ℕ, zero, suc, ◌+◌, ◌-◌, ◌*◌, ◌/◌, ◌%◌, ◌^◌, ◌≤◌, ◌<◌}
use mathlib.Core.Bool.{Bool, true, false, cond, ◌&&◌}
use mathlib.Core.Path.{◌≡◌, refl, sym, ap, ap₂, ◌∙◌}
use mathlib.Core.Logic.{◌↔◌}
use mathlib.Core.List.{List, [], ◌∷◌, ◌++◌, map, foldl, foldl-append, append_assoc, append-nil}
use lib.Dec.{eqb, leb, ltb}
use lib.ListN.{length, get_or, replicate}
use lib.Pow.{pow_mono}
use native.Mathlib.Nat.{mod-eq_of_lt}
use native.Mathlib.Omega.{arith}
use borrow.Author.Tests.{ltb-true, ltb-false, leb-false, le-ltb, lt-leb, le-leb, ne_eqb, eqb-true, eqb-false}
use Rattle.meaning.specs.Limits.{most_fill}
use Rattle.meaning.specs.Segment.{Segment, clean, mixed, kind, kinds, fill, segment_count, last_rows, last_limit, last_of}
use Rattle.meaning.specs.Refusal.{sound}
use Rattle.meaning.specs.Piece.{Piece, clean_run, dirty_word, piece_size, NoneEmpty, last_dirty, flat}
use Rattle.meaning.specs.Wah.{is_fill, fill_value, fill_count, fill_word, piece_of, wah_pieces, wah_segments, wah_fault_from, wah_fault, WahDraft, wah_draft, run_words, wah_body, wah_put, wah_of}
use Rattle.laws.specs.Demands.{Words}
use Rattle.laws.specs.Laws.{WahFacts}
use Rattle.laws.proofs.Segments.{both, word, cut, cut-length, seen, seen-run, seen-word, words-cut, last-le, fill-cut}
use Rattle.laws.proofs.Pieces.{replicate-suc, flat-length, flat_append, some-append, last-append, last_rest, limit-pos, pad-clear, pad-last, below-join, below_one, fill-lt, LowPieces, flat-below, Ok, AllOk, kinds-ok, mixed_word, mixed-le}
use Rattle.laws.proofs.Decoded.{not-refused, let_through}
use Rattle.laws.proofs.WahSize.{size, wah-size, put_one, run-one}

-- ---- sound, as facts on the pieces

-- words that stand for `left` segments, none of them for no segment; the last, if it is a literal, has no pad bit set
record Whole (R left : ℕ) (ws : List ℕ) : Type 0 where
  some : NoneEmpty (wah_pieces ws)
  count : length (wah_segments ws) ≡ left
  pads : last_dirty (wah_pieces ws) < last_limit 31 R

word-length : (x : ℕ) (xs : List ℕ) → length (wah_segments (x ∷ xs)) ≡ piece_size (piece_of x) + length (wah_segments xs)
unfolding wah_segments wah_pieces
word-length x xs = flat-length 31 (piece_of x) (wah_pieces xs)

module _ (bitmap R : ℕ) where
  sound-whole : (place left : ℕ) (ws : List ℕ) → wah_fault_from bitmap R place left ws ≡ sound → Whole R left ws
  unfolding wah_fault_from wah_pieces wah_segments flat last_dirty
  sound-whole place left [] e =
      let p = not-refused _ _ _ _ _ e in
      record { some = tt; count = omega (arith, ltb-false 0 left p.0); pads = limit-pos 31 R }
  sound-whole place left (x ∷ xs) e =
      let p10 = not-refused _ _ _ _ _ e in
      let p6 = not-refused _ _ _ _ _ p10.1 in
      let p7 = not-refused _ _ _ _ _ p6.1 in
      let h6 : piece_size (piece_of x) ≤ left = ltb-false _ _ p6.0 in
      let f = sound-whole (suc place) (left - piece_size (piece_of x)) xs p7.1 in
      let n : piece_size (piece_of x) + length (wah_segments xs) ≡ left = omega (arith, f.count) in
      record {
        some = (omega (arith, eqb-false (piece_size (piece_of x)) 0 p10.0), f.some);
        count = word-length x xs ∙ n;
        pads = pad-last 31 R left (piece_of x) (wah_pieces xs) n p7.0 f.pads;
      }

  whole-sound : (place left : ℕ) (ws : List ℕ) → Whole R left ws → wah_fault_from bitmap R place left ws ≡ sound
  unfolding wah_fault_from wah_pieces wah_segments flat
  whole-sound place left [] f = let_through _ _ _ _ _ (le-ltb 0 left (omega (arith, f.count))) refl
  whole-sound place left (x ∷ xs) f =
      let n : piece_size (piece_of x) + length (wah_segments xs) ≡ left = sym (word-length x xs) ∙ f.count in
      let_through _ _ _ _ _ (ne_eqb (piece_size (piece_of x)) 0 (λ z. absurd (omega (arith, f.some.0))))
      (let_through _ _ _ _ _ (le-ltb left (piece_size (piece_of x)) (omega arith))
      (let_through _ _ _ _ _ (pad-clear 31 R left (piece_of x) (wah_pieces xs) f.some n f.pads)
      (whole-sound (suc place) (left - piece_size (piece_of x)) xs
      (record {
        some = f.some.1;
        count = omega arith;
        pads = last_rest (last_limit 31 R) (piece_of x) (wah_pieces xs) (limit-pos 31 R) f.pads;
      }))))

-- a body is sound exactly if these facts hold, whatever its number and place
pub wah-means : (bitmap place R : ℕ) (b : List ℕ) → (wah_fault bitmap place R b ≡ sound) ↔ WahFacts R b
unfolding wah_fault
wah-means bitmap place R b = (
  λ e. let f = sound-whole bitmap R place (segment_count 31 R) b e in record { some = f.some; count = f.count; pads = f.pads },
  λ f. whole-sound bitmap R place (segment_count 31 R) b (record { some = f.some; count = f.count; pads = f.pads }),
)

-- ---- segments of 31 bits, whatever the words

pieces-low : (b : List ℕ) → LowPieces 31 (wah_pieces b)
unfolding wah_pieces piece_of is_fill fill_value
pieces-low [] = tt
pieces-low (x ∷ xs) = go (leb 2147483648 x) refl (pieces-low xs)
  where
    go : (t : Bool) → leb 2147483648 x ≡ t → LowPieces 31 (wah_pieces xs)
        → LowPieces 31 (cond t (clean_run (x / 1073741824 % 2) (fill_count x)) (dirty_word x) ∷ wah_pieces xs)
    go true e l = (omega arith, l)
    go false e l = (leb-false 2147483648 x e, l)

pub wah-below : (b : List ℕ) (i : ℕ) → get_or (wah_segments b) i 0 < 2 ^ 31
unfolding wah_segments
wah-below b i = flat-below 31 (wah_pieces b) (pieces-low b) i

-- ---- words and what they stand for

literal-piece : (x : ℕ) → x < 2 ^ 31 → piece_of x ≡ dirty_word x
unfolding piece_of is_fill
literal-piece x h = rw (lt-leb 2147483648 x h)

fill-piece : (v n : ℕ) → v < 2 → n ≤ most_fill → piece_of (fill_word v n) ≡ clean_run v n
unfolding piece_of is_fill fill_value fill_count fill_word
fill-piece v n hv hn =
    let a : (2147483648 + 1073741824 * v + n) / 1073741824 % 2 ≡ v = omega arith in
    let b : (2147483648 + 1073741824 * v + n) % 1073741824 ≡ n = omega arith in
    rw (le-leb 2147483648 (2147483648 + 1073741824 * v + n) (omega arith), a, b)

pieces-append : (a b : List ℕ) → wah_pieces (a ++ b) ≡ wah_pieces a ++ wah_pieces b
unfolding wah_pieces
pieces-append [] b = refl
pieces-append (x ∷ xs) b = ap (λ (l : List Piece). piece_of x ∷ l) (pieces-append xs b)

pub segments-append : (a b : List ℕ) → wah_segments (a ++ b) ≡ wah_segments a ++ wah_segments b
unfolding wah_segments
segments-append a b = rw (pieces-append a b) (flat_append 31 (wah_pieces a) (wah_pieces b))

literal-segment : (x : ℕ) → x < 2 ^ 31 → wah_segments (x ∷ []) ≡ x ∷ []
unfolding wah_segments wah_pieces flat
literal-segment x h = rw (literal-piece x h)

-- words then one literal
segments-literal : (b : List ℕ) (x : ℕ) → x < 2 ^ 31 → wah_segments (b ++ x ∷ []) ≡ wah_segments b ++ x ∷ []
segments-literal b x h = segments-append b (x ∷ []) ∙ ap (λ (l : List ℕ). wah_segments b ++ l) (literal-segment x h)

fill-low : (real v : ℕ) → v < 2 → real ≤ 31 → fill real v < 2 ^ 31
fill-low real v h le = omega (arith, fill-lt real v h, pow_mono {i = real} {j = 31} le)

-- a run's words stand for it
run-segments : (v n : ℕ) → v < 2 → n ≤ most_fill → wah_segments (run_words 31 v n) ≡ replicate n (fill 31 v)
unfolding run_words wah_segments wah_pieces flat
run-segments v zero hv hn = refl
run-segments v (suc zero) hv hn = rw (literal-piece (fill 31 v) (fill-low 31 v hv (omega arith)))
run-segments v (suc (suc n)) hv hn = rw (fill-piece v (suc (suc n)) hv hn, append-nil)

body-segments : (done : List ℕ) (v n : ℕ) → v < 2 → n ≤ most_fill
    → wah_segments (wah_body 31 (wah_draft done v n)) ≡ wah_segments done ++ replicate n (fill 31 v)
unfolding wah_body
body-segments done v n hv hn =
    segments-append done (run_words 31 v n) ∙ ap (λ (l : List ℕ). wah_segments done ++ l) (run-segments v n hv hn)

-- ---- drafts

-- words of 32 bits, none of which stands for no segment
record Neat (b : List ℕ) : Type 0 where
  some : NoneEmpty (wah_pieces b)
  low : Words b

neat-none : Neat []
unfolding wah_pieces
neat-none = record { some = tt; low = λ i. omega arith }

neat-join : (a b : List ℕ) → Neat a → Neat b → Neat (a ++ b)
neat-join a b h k = record {
  some = rw (pieces-append a b) (some-append (wah_pieces a) (wah_pieces b) h.some k.some);
  low = below-join (2 ^ 32) a b h.low k.low;
}

neat-literal : (x : ℕ) → x < 2 ^ 31 → Neat (x ∷ [])
unfolding wah_pieces piece_size
neat-literal x h = record { some = rw (literal-piece x h) (omega arith, tt); low = below_one (2 ^ 32) x (omega arith) (omega arith) }

neat-run : (real v n : ℕ) → v < 2 → n ≤ most_fill → real ≤ 31 → Neat (run_words real v n)
unfolding run_words
neat-run real v zero hv hn hr = neat-none
neat-run real v (suc zero) hv hn hr = neat-literal (fill real v) (fill-low real v hv hr)
neat-run real v (suc (suc n)) hv hn hr =
    unfold wah_pieces piece_size in record {
      some = rw (fill-piece v (suc (suc n)) hv hn) (omega arith, tt);
      low = below_one (2 ^ 32) (fill_word v (suc (suc n))) (omega arith) (unfold fill_word in omega arith);
    }

-- a draft as `wah_put` makes it
record Fit (done : List ℕ) (v n : ℕ) : Type 0 where
  hv : v < 2
  hn : n ≤ most_fill
  neat : Neat done

abbrev Good : WahDraft → Type 0
Good (wah_draft done v n) = Fit done v n

body-neat : (real : ℕ) (d : WahDraft) → real ≤ 31 → Good d → Neat (wah_body real d)
unfolding wah_body
body-neat real (wah_draft done v n) h g = neat-join done (run_words real v n) g.neat (neat-run real v n g.hv g.hn h)

-- what `wah_put` tests of a clean segment
pub joins : (n v b : ℕ) → ltb 0 n && eqb v b && ltb n most_fill ≡ true → (0 < n) × (v ≡ b) × (n < most_fill)
joins n v b e =
    let p = both (ltb 0 n && eqb v b) (ltb n most_fill) e in
    let q = both (ltb 0 n) (eqb v b) p.0 in
    (ltb-true 0 n q.0, eqb-true v b q.1, ltb-true n most_fill p.1)

-- the draft e is in order, and stands for one segment more than the words b do
abbrev Longer : List ℕ → Segment → WahDraft → Type 0
Longer b s e = Good e × (wah_segments (wah_body 31 e) ≡ wah_segments b ++ word 31 s ∷ [])

put-longer : (d : WahDraft) (s : Segment) → Good d → Ok 31 s → Longer (wah_body 31 d) s (wah_put d s)
unfolding wah_put wah_body word
put-longer (wah_draft done v n) (clean b) g k = go (ltb 0 n && eqb v b && ltb n most_fill) refl
  where
    old : List ℕ
    old = done ++ run_words 31 v n

    go : (t : Bool) → (ltb 0 n && eqb v b && ltb n most_fill) ≡ t
        → Longer old (clean b) (cond t (wah_draft done v (suc n)) (wah_draft old b 1))
    go true e =
        let p = joins n v b e in
        let f : Fit done v (suc n) = record { hv = g.hv; hn = p.2; neat = g.neat } in (
          f,
          body-segments done v (suc n) g.hv p.2
              ∙ ap (λ (l : List ℕ). wah_segments done ++ l) (sym (replicate-suc n (fill 31 v)))
              ∙ sym (append_assoc (wah_segments done) (replicate n (fill 31 v)) (fill 31 v ∷ []))
              ∙ ap₂ (λ (l : List ℕ) (z : ℕ). l ++ fill 31 z ∷ []) (sym (body-segments done v n g.hv g.hn)) p.1,
        )
    go false e =
        let f : Fit old b 1 = record { hv = k; hn = omega arith; neat = body-neat 31 (wah_draft done v n) (omega arith) g } in
        (f, body-segments old b 1 k (omega arith))
put-longer (wah_draft done v n) (mixed x) g k =
    let old : List ℕ = done ++ run_words 31 v n in
    let neat : Neat (old ++ x ∷ []) = neat-join old (x ∷ []) (body-neat 31 (wah_draft done v n) (omega arith) g) (neat-literal x k) in (
      record { hv = omega arith; hn = omega arith; neat = neat },
      body-segments (old ++ x ∷ []) 0 0 (omega arith) (omega arith)
          ∙ append-nil (wah_segments (old ++ x ∷ []))
          ∙ segments-literal old x k,
    )

-- segment by segment
puts : (ss : List Segment) (d : WahDraft) → Good d → AllOk 31 ss
    → Good (foldl wah_put d ss) × (wah_segments (wah_body 31 (foldl wah_put d ss)) ≡ wah_segments (wah_body 31 d) ++ map (word 31) ss)
puts [] d g k = (g, sym (append-nil (wah_segments (wah_body 31 d))))
puts (s ∷ ss) d g k =
    let p = put-longer d s g k.0 in
    let q = puts ss (wah_put d s) p.0 k.1 in
    (q.0, q.1 ∙ rw (p.1, append_assoc))

-- ---- fewest words

-- what is seen of the segments of some words takes at most as many words
words-cheap : (R : ℕ) (b : List ℕ) (d : WahDraft) → size (foldl wah_put d (seen 31 R (wah_segments b))) ≤ size d + length b
unfolding wah_segments wah_pieces flat
words-cheap R [] d = unfold seen cut kinds in omega arith
words-cheap R (x ∷ xs) d = unfold piece_of in go (is_fill x) (λ e. words-cheap R xs e)
  where
    tail : List ℕ
    tail = flat 31 (wah_pieces xs)

    Rest : Type 0
    Rest = (e : WahDraft) → size (foldl wah_put e (seen 31 R tail)) ≤ size e + length xs

    run : (v n : ℕ) → v < 2 → n ≤ most_fill → Rest
        → size (foldl wah_put d (seen 31 R (replicate n (fill 31 v) ++ tail))) ≤ size d + suc (length xs)
    run v zero hv hn ih = omega (arith, ih d)
    run v (suc n) hv hn ih =
        rw (seen-run 31 R (omega arith) (suc n) v tail hv, foldl-append wah_put d (replicate (suc n) (clean v)) (seen 31 R tail))
        (omega (arith, run-one d v (suc n) hn, ih (foldl wah_put d (replicate (suc n) (clean v)))))

    go : (t : Bool) → Rest
        → size (foldl wah_put d (seen 31 R (flat 31 (cond t (clean_run (fill_value x) (fill_count x)) (dirty_word x) ∷ wah_pieces xs))))
        ≤ size d + suc (length xs)
    go true ih = run (fill_value x) (fill_count x) (unfold fill_value in omega arith) (unfold fill_count in omega arith) ih
    go false ih =
        let s = seen-word 31 R (omega arith) x tail in
        rw s.1 (omega (arith, put_one d s.0, ih (wah_put d s.0)))

-- no WAH body with these segments has fewer words
pub wah-least : (R : ℕ) (b : List ℕ) → length (wah_of R (seen 31 R (wah_segments b))) ≤ length b
wah-least R b = omega (arith, wah-size R (seen 31 R (wah_segments b)), words-cheap R b (wah_draft [] 0 0))

-- ---- the last segment

cut-snoc : (w R : ℕ) (xs : List ℕ) (y : ℕ) → cut w R (xs ++ y ∷ []) ≡ xs ++ y % last_limit w R ∷ []
unfolding cut
cut-snoc w R [] y = refl
cut-snoc w R (x ∷ []) y = refl
cut-snoc w R (x ∷ z ∷ xs) y = ap (λ (l : List ℕ). x ∷ l) (cut-snoc w R (z ∷ xs) y)

module _ (R : ℕ) where
  abbrev real : ℕ
  real = last_rows 31 R

  real-le : real ≤ 31
  real-le = last-le 31 R (omega arith)

  -- words and a literal behind them, cut
  cut-literal : (b : List ℕ) (x : ℕ) → x < 2 ^ 31 → cut 31 R (wah_segments (b ++ x ∷ [])) ≡ wah_segments b ++ x % last_limit 31 R ∷ []
  cut-literal b x h = ap (cut 31 R) (segments-literal b x h) ∙ cut-snoc 31 R (wah_segments b) x

  fill-real : (v : ℕ) → v < 2 → fill real v < last_limit 31 R
  unfolding last_limit
  fill-real v h = fill-lt real v h

  -- a single clean segment at the end is written with its real rows alone; cut, it is the same
  cut-real : (d : WahDraft) → Good d → cut 31 R (wah_segments (wah_body real d)) ≡ cut 31 R (wah_segments (wah_body 31 d))
  unfolding wah_body run_words
  cut-real (wah_draft done v zero) g = refl
  cut-real (wah_draft done v (suc zero)) g =
      cut-literal done (fill real v) (fill-low real v g.hv real-le)
      ∙ ap (λ (y : ℕ). wah_segments done ++ y ∷ [])
      (mod-eq_of_lt (fill-real v g.hv) ∙ sym (fill-cut 31 R (omega arith) v g.hv))
      ∙ sym (cut-literal done (fill 31 v) (fill-low 31 v g.hv (omega arith)))
  cut-real (wah_draft done v (suc (suc n))) g = refl

  last-literal : (b : List ℕ) (x : ℕ) → x < 2 ^ 31 → last_dirty (wah_pieces (b ++ x ∷ [])) ≡ x
  unfolding wah_pieces last_dirty
  last-literal b x h = rw (pieces-append b (x ∷ []), literal-piece x h) (last-append (wah_pieces b) (dirty_word x) [])

  -- the last piece of a run's words
  run-last : (b : List ℕ) (v n : ℕ) → v < 2 → suc n ≤ most_fill
      → last_dirty (wah_pieces (b ++ run_words real v (suc n))) < last_limit 31 R
  unfolding run_words
  run-last b v zero hv hn = omega (arith, last-literal b (fill real v) (fill-low real v hv real-le), fill-real v hv)
  run-last b v (suc n) hv hn =
      unfold wah_pieces last_dirty in
      rw (
        pieces-append b (fill_word v (suc (suc n)) ∷ []),
        fill-piece v (suc (suc n)) hv hn,
        last-append (wah_pieces b) (clean_run v (suc (suc n))) [],
      )
      (limit-pos 31 R)

  put_last : (d : WahDraft) (s : Segment) → Good d → Ok 31 s → mixed_word s < last_limit 31 R
      → last_dirty (wah_pieces (wah_body real (wah_put d s))) < last_limit 31 R
  unfolding wah_put wah_body
  put_last (wah_draft done v n) (clean b) g k h = go (ltb 0 n && eqb v b && ltb n most_fill) refl
    where
      go : (t : Bool) → (ltb 0 n && eqb v b && ltb n most_fill) ≡ t
          → last_dirty (wah_pieces (wah_body real (cond t (wah_draft done v (suc n)) (wah_draft (done ++ run_words 31 v n) b 1)))) < last_limit 31 R
      go true e = run-last done v n g.hv (joins n v b e).2
      go false e = run-last (done ++ run_words 31 v n) b 0 k (omega arith)
  put_last (wah_draft done v n) (mixed x) g k h =
      unfold run_words in rw (append-nil (done ++ run_words 31 v n ++ x ∷ []), last-literal (done ++ run_words 31 v n) x k) h

  last-low : (x : ℕ) (xs : List ℕ) (d : WahDraft) → Good d → AllOk 31 (kinds 31 R (x ∷ xs))
      → last_of (x ∷ xs) < last_limit 31 R
      → last_dirty (wah_pieces (wah_body real (foldl wah_put d (kinds 31 R (x ∷ xs))))) < last_limit 31 R
  unfolding kinds last_of
  last-low x [] d g k h = put_last d (kind real x) g k.0 (omega (arith, mixed-le real x))
  last-low x (y ∷ ys) d g k h = last-low y ys (wah_put d (kind 31 x)) (put-longer d (kind 31 x) g k.0).0 k.1 h

-- ---- the canonical form of segments of R rows

empty-good : Good (wah_draft [] 0 0)
empty-good = record { hv = omega arith; hn = omega arith; neat = neat-none }

wah-last : (R : ℕ) (xs : List ℕ) → AllOk 31 (kinds 31 R xs) → last_of xs < last_limit 31 R
    → last_dirty (wah_pieces (wah_of R (kinds 31 R xs))) < last_limit 31 R
unfolding wah_of
wah-last R [] k h = unfold kinds wah_body run_words wah_pieces last_dirty in limit-pos 31 R
wah-last R (x ∷ xs) k h = last-low R x xs (wah_draft [] 0 0) empty-good k h

module _ (R : ℕ) (xs : List ℕ) (low : (i : ℕ) → get_or xs i 0 < 2 ^ 31) where
  abbrev made : WahDraft
  made = foldl wah_put (wah_draft [] 0 0) (kinds 31 R xs)

  made-good : Good made
  made-good = (puts (kinds 31 R xs) (wah_draft [] 0 0) empty-good (kinds-ok 31 R xs low)).0

  made-neat : Neat (wah_of R (kinds 31 R xs))
  unfolding wah_of
  made-neat = body-neat (last_rows 31 R) made (last-le 31 R (omega arith)) made-good

  pub wah-words : Words (wah_of R (kinds 31 R xs))
  wah-words = made-neat.low

  -- it stands for the segments that it was made from
  pub wah-stands : last_of xs < last_limit 31 R → cut 31 R (wah_segments (wah_of R (kinds 31 R xs))) ≡ xs
  unfolding wah_of
  wah-stands h =
      cut-real R made made-good
      ∙ ap (cut 31 R) (puts (kinds 31 R xs) (wah_draft [] 0 0) empty-good (kinds-ok 31 R xs low)).1
      ∙ (unfold wah_body run_words wah_segments wah_pieces flat in words-cut 31 R (omega arith) xs h)

  pub wah-sound : length xs ≡ segment_count 31 R → last_of xs < last_limit 31 R → wah_fault 0 0 R (wah_of R (kinds 31 R xs)) ≡ sound
  wah-sound n h =
      (wah-means 0 0 R (wah_of R (kinds 31 R xs))).1 (record {
        some = made-neat.some;
        count = sym (cut-length 31 R (wah_segments (wah_of R (kinds 31 R xs)))) ∙ ap length (wah-stands h) ∙ n;
        pads = wah-last R xs (kinds-ok 31 R xs low) h;
      })
