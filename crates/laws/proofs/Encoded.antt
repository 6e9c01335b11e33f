-- EWAH's canonical form is a sound body of 32-bit words that decodes to the segments that it was made from.
-- Assumes nothing.
use Prim.Native.Nat.{ℕ, zero, suc, ◌+◌, ◌^◌, ◌≤◌, ◌<◌}
use mathlib.Core.Bool.{Bool, true, false, cond, ◌&&◌}
use mathlib.Core.Path.{◌≡◌, refl, sym, ap, ◌∙◌}
use mathlib.Core.List.{List, [], ◌∷◌, ◌++◌, append_assoc, append-nil, map, foldl}
use lib.Dec.{eqb, ltb}
use lib.ListN.{length, replicate, length-append, length-map}
use native.Mathlib.Omega.{arith}
use borrow.Author.Tests.{ltb-true}
use Rattle.meaning.specs.Limits.{most_clean, most_dirty}
use Rattle.meaning.specs.Segment.{Segment, clean, mixed, kind, kinds, fill, segment_count, last_rows, last_limit, last_of}
use Rattle.meaning.specs.Refusal.{sound}
use Rattle.meaning.specs.Piece.{Piece, clean_run, dirty_word, run_then, last_dirty}
use Rattle.meaning.specs.Ewah.{pieces, decode, segments, marker, ewah_fault, due_after, value_of, clean_of, dirty_of}
use Rattle.meaning.specs.Canonical.{Draft, blank, draft, body, opened, put, ewah_of}
use Rattle.laws.specs.Demands.{Words}
use Rattle.laws.proofs.Segments.{fits-clean, word, encoded, kinds-length}
use Rattle.laws.proofs.Pieces.{replicate-suc, last-append, limit-pos, below-join, below_one, Ok, AllOk, kind_ok, kinds-ok, mixed_word, mixed-le}
use Rattle.laws.proofs.Decoded.{sound-iff, decode-append, due-append, decode-dirty, due-dirty, value-marker, clean-marker, dirty-marker}

-- a draft as `put` makes it
record Fit (done : List ℕ) (v c : ℕ) (ds : List ℕ) : Type 0 where
  whole : due_after 0 done ≡ 0
  hv : v < 2
  hc : c ≤ most_clean
  hd : length ds ≤ most_dirty
  used : 0 < c + length ds
  low : Words done
  lows : Words ds

module _ (done : List ℕ) (v c : ℕ) (ds : List ℕ) (f : Fit done v c ds) where
  decode-body : decode 0 (body (draft done v c ds)) ≡ decode 0 done ++ (replicate c (fill 32 v) ++ ds)
  unfolding body decode
  decode-body =
      rw (
        decode-append 0 done (marker v c (length ds) ∷ ds),
        f.whole,
        value-marker v c (length ds) f.hv f.hc f.hd,
        clean-marker v c (length ds) f.hv f.hc f.hd,
        dirty-marker v c (length ds) f.hv f.hc f.hd,
        decode-dirty ds,
      )

  due-body : due_after 0 (body (draft done v c ds)) ≡ 0
  unfolding body due_after
  due-body =
      rw (due-append 0 done (marker v c (length ds) ∷ ds), f.whole, dirty-marker v c (length ds) f.hv f.hc f.hd) (due-dirty ds)

  marker-lt : marker v c (length ds) < 2 ^ 32
  unfolding marker
  marker-lt = omega (arith, f.hv, f.hc, f.hd)

  low-body : Words (body (draft done v c ds))
  unfolding body
  low-body =
      below-join (2 ^ 32) done (marker v c (length ds) ∷ ds) f.low
      (below-join (2 ^ 32) (marker v c (length ds) ∷ []) ds
      (below_one (2 ^ 32) (marker v c (length ds)) (omega arith) marker-lt) f.lows)

abbrev Good : Draft → Type 0
Good blank = Unit {0}
Good (draft done v c ds) = Fit done v c ds

good-due : (d : Draft) → Good d → due_after 0 (body d) ≡ 0
unfolding body due_after
good-due blank g = refl
good-due (draft done v c ds) g = due-body done v c ds g

good-low : (d : Draft) → Good d → Words (body d)
unfolding body
good-low blank g = λ i. omega arith
good-low (draft done v c ds) g = low-body done v c ds g

-- the draft e is in order, and decodes to one segment more than the words b do
abbrev Longer : List ℕ → Segment → Draft → Type 0
Longer b s e = Good e × (decode 0 (body e) ≡ decode 0 b ++ word 32 s ∷ [])

opened-longer : (b : List ℕ) (s : Segment) → due_after 0 b ≡ 0 → Words b → Ok 32 s → Longer b s (opened b s)
unfolding opened word
opened-longer b (clean v) h l k =
    let f : Fit b v 1 [] = record {
      whole = h;
      hv = k;
      hc = omega arith;
      hd = omega arith;
      used = omega arith;
      low = l;
      lows = λ i. omega arith;
    } in
    (f, decode-body b v 1 [] f)
opened-longer b (mixed x) h l k =
    let f : Fit b 0 0 (x ∷ []) = record {
      whole = h;
      hv = omega arith;
      hc = omega arith;
      hd = omega arith;
      used = omega arith;
      low = l;
      lows = below_one (2 ^ 32) x (omega arith) k;
    } in
    (f, decode-body b 0 0 (x ∷ []) f)

grown : (done : List ℕ) (v c : ℕ) (ds : List ℕ) → Fit done v (suc c) ds → Fit done v c ds → length ds ≡ 0
    → decode 0 (body (draft done v (suc c) ds)) ≡ decode 0 (body (draft done v c ds)) ++ fill 32 v ∷ []
grown done v c [] f g e =
    decode-body done v (suc c) [] f ∙ rw (decode-body done v c [] g, append-nil (replicate c (fill 32 v)), append_assoc, replicate-suc)
grown done v c (d ∷ ds) f g e = absurd (omega arith)

put-longer : (d : Draft) (s : Segment) → Good d → Ok 32 s → Longer (body d) s (put d s)
unfolding put body word
put-longer blank s g k = opened-longer [] s (unfold due_after in refl) (λ i. omega arith) k
put-longer (draft done v c ds) (clean b) g k = go (eqb (length ds) 0 && eqb v b && ltb c most_clean) refl
  where
    old : List ℕ
    old = body (draft done v c ds)

    go : (t : Bool) → (eqb (length ds) 0 && eqb v b && ltb c most_clean) ≡ t → Longer old (clean b) (cond t (draft done v (suc c) ds) (opened old (clean b)))
    go false e = opened-longer old (clean b) (due-body done v c ds g) (low-body done v c ds g) k
    go true e =
        let p = fits-clean (length ds) v b c e in
        let f : Fit done v (suc c) ds = record { whole = g.whole; hv = g.hv; hc = p.2; hd = g.hd; used = omega arith; low = g.low; lows = g.lows } in
        (f, grown done v c ds f g p.0 ∙ ap (λ (z : ℕ). decode 0 old ++ fill 32 z ∷ []) p.1)
put-longer (draft done v c ds) (mixed x) g k = go (ltb (length ds) most_dirty) refl
  where
    old : List ℕ
    old = body (draft done v c ds)

    more : length (ds ++ x ∷ []) ≡ length ds + 1
    more = length-append ds (x ∷ [])

    go : (t : Bool) → ltb (length ds) most_dirty ≡ t → Longer old (mixed x) (cond t (draft done v c (ds ++ x ∷ [])) (opened old (mixed x)))
    go false e = opened-longer old (mixed x) (due-body done v c ds g) (low-body done v c ds g) k
    go true e =
        let f : Fit done v c (ds ++ x ∷ []) = record {
          whole = g.whole;
          hv = g.hv;
          hc = g.hc;
          hd = omega (arith, more, ltb-true (length ds) most_dirty e);
          used = omega (arith, more);
          low = g.low;
          lows = below-join (2 ^ 32) ds (x ∷ []) g.lows (below_one (2 ^ 32) x (omega arith) k);
        } in
        (f, decode-body done v c (ds ++ x ∷ []) f ∙ rw (decode-body done v c ds g) (simp append_assoc))

-- segment by segment
puts : (ss : List Segment) (d : Draft) → Good d → AllOk 32 ss
    → Good (foldl put d ss) × (decode 0 (body (foldl put d ss)) ≡ decode 0 (body d) ++ map (word 32) ss)
puts [] d g k = (g, sym (append-nil (decode 0 (body d))))
puts (s ∷ ss) d g k =
    let p = put-longer d s g k.0 in
    let q = puts ss (put d s) p.0 k.1 in
    (q.0, q.1 ∙ rw (p.1, append_assoc))

-- ---- the last piece of a draft

run-append : (v c : ℕ) (ps qs : List Piece) → run_then v c (ps ++ qs) ≡ run_then v c ps ++ qs
unfolding run_then
run-append v zero ps qs = refl
run-append v (suc c) ps qs = refl

pieces-append : (due : ℕ) (a b : List ℕ) → pieces due (a ++ b) ≡ pieces due a ++ pieces (due_after due a) b
unfolding pieces due_after
pieces-append due [] b = refl
pieces-append zero (m ∷ ws) b = rw (pieces-append (dirty_of m) ws b) (run-append (value_of m) (clean_of m) (pieces (dirty_of m) ws) (pieces (due_after (dirty_of m) ws) b))
pieces-append (suc due) (w ∷ ws) b = ap (λ (l : List Piece). dirty_word w ∷ l) (pieces-append due ws b)

words_last : (d : ℕ) (ds : List ℕ) → last_dirty (dirty_word d ∷ pieces (length ds) ds) ≡ last_of (d ∷ ds)
unfolding pieces last_dirty last_of
words_last d [] = refl
words_last d (e ∷ es) = words_last e es

-- behind other pieces, the dirty words of a marker that has a segment
last-words : (ps : List Piece) (v c : ℕ) (ds : List ℕ) → 0 < c + length ds → last_dirty (ps ++ run_then v c (pieces (length ds) ds)) ≡ last_of ds
unfolding run_then pieces last_dirty last_of
last-words ps v zero [] h = absurd (omega arith)
last-words ps v (suc c) [] h = last-append ps (clean_run v (suc c)) []
last-words ps v zero (d ∷ ds) h = last-append ps (dirty_word d) (pieces (length ds) ds) ∙ words_last d ds
last-words ps v (suc c) (d ∷ ds) h = last-append ps (clean_run v (suc c)) (dirty_word d ∷ pieces (length ds) ds) ∙ words_last d ds

draft-last : (done : List ℕ) (v c : ℕ) (ds : List ℕ) → Fit done v c ds → last_dirty (pieces 0 (body (draft done v c ds))) ≡ last_of ds
unfolding body pieces
draft-last done v c ds f =
    rw (
      pieces-append 0 done (marker v c (length ds) ∷ ds),
      f.whole,
      value-marker v c (length ds) f.hv f.hc f.hd,
      clean-marker v c (length ds) f.hv f.hc f.hd,
      dirty-marker v c (length ds) f.hv f.hc f.hd,
    )
    (last-words (pieces 0 done) v c ds f.used)

last_snoc : (ds : List ℕ) (x : ℕ) → last_of (ds ++ x ∷ []) ≡ x
unfolding last_of
last_snoc [] x = refl
last_snoc (d ∷ []) x = refl
last_snoc (d ∷ e ∷ ds) x = last_snoc (e ∷ ds) x

pub none_last : (ds : List ℕ) → length ds ≡ 0 → last_of ds ≡ 0
unfolding last_of
none_last [] e = refl
none_last (d ∷ ds) e = absurd (omega arith)

put_last : (d : Draft) (s : Segment) → Good (put d s) → last_dirty (pieces 0 (body (put d s))) ≡ mixed_word s
unfolding put opened
put_last blank (clean v) g = draft-last [] v 1 [] g ∙ (unfold last_of in refl)
put_last blank (mixed x) g = draft-last [] 0 0 (x ∷ []) g ∙ (unfold last_of in refl)
put_last (draft done v c ds) (clean b) g = go (eqb (length ds) 0 && eqb v b && ltb c most_clean) refl g
  where
    old : List ℕ
    old = body (draft done v c ds)

    go : (t : Bool) → (eqb (length ds) 0 && eqb v b && ltb c most_clean) ≡ t
        → Good (cond t (draft done v (suc c) ds) (draft old b 1 [])) → last_dirty (pieces 0 (body (cond t (draft done v (suc c) ds) (draft old b 1 [])))) ≡ 0
    go true e g = draft-last done v (suc c) ds g ∙ none_last ds (fits-clean (length ds) v b c e).0
    go false e g = draft-last old b 1 [] g ∙ (unfold last_of in refl)
put_last (draft done v c ds) (mixed x) g = go (ltb (length ds) most_dirty) g
  where
    old : List ℕ
    old = body (draft done v c ds)

    go : (t : Bool) → Good (cond t (draft done v c (ds ++ x ∷ [])) (draft old 0 0 (x ∷ [])))
        → last_dirty (pieces 0 (body (cond t (draft done v c (ds ++ x ∷ [])) (draft old 0 0 (x ∷ []))))) ≡ x
    go true g = draft-last done v c (ds ++ x ∷ []) g ∙ last_snoc ds x
    go false g = draft-last old 0 0 (x ∷ []) g ∙ (unfold last_of in refl)

last-low : (R x : ℕ) (xs : List ℕ) (d : Draft) → Good d → Words (x ∷ xs) → last_of (x ∷ xs) < last_limit 32 R
    → last_dirty (pieces 0 (body (foldl put d (kinds 32 R (x ∷ xs))))) < last_limit 32 R
unfolding kinds last_of
last-low R x [] d g low h =
    let p = put-longer d (kind (last_rows 32 R) x) g (kind_ok 32 (last_rows 32 R) x (low 0)) in
    omega (arith, put_last d (kind (last_rows 32 R) x) p.0, mixed-le (last_rows 32 R) x)
last-low R x (y ∷ ys) d g low h =
    last-low R y ys (put d (kind 32 x)) (put-longer d (kind 32 x) g (kind_ok 32 32 x (low 0))).0 (λ i. low (suc i)) h

-- ---- the canonical form of segments of R rows

module _ (R : ℕ) (xs : List ℕ) (low : Words xs) where
  made-good : Good (foldl put blank (kinds 32 R xs))
  made-good = (puts (kinds 32 R xs) blank tt (kinds-ok 32 R xs low)).0

  -- it decodes to the words of the segments that it was made from
  pub encoded-decodes : segments (encoded R xs) ≡ map (word 32) (kinds 32 R xs)
  unfolding encoded ewah_of decode
  encoded-decodes = (puts (kinds 32 R xs) blank tt (kinds-ok 32 R xs low)).1

  pub encoded-words : Words (encoded R xs)
  unfolding encoded ewah_of
  encoded-words = good-low (foldl put blank (kinds 32 R xs)) made-good

  encoded-whole : due_after 0 (encoded R xs) ≡ 0
  unfolding encoded ewah_of
  encoded-whole = good-due (foldl put blank (kinds 32 R xs)) made-good

encoded-last : (R : ℕ) (xs : List ℕ) → Words xs → last_of xs < last_limit 32 R → last_dirty (pieces 0 (encoded R xs)) < last_limit 32 R
unfolding encoded ewah_of
encoded-last R [] low h = unfold kinds body pieces last_dirty in limit-pos 32 R
encoded-last R (x ∷ xs) low h = last-low R x xs blank tt low h

pub encoded-sound : (R : ℕ) (xs : List ℕ) → length xs ≡ segment_count 32 R → Words xs → last_of xs < last_limit 32 R
    → ewah_fault 0 0 R (encoded R xs) ≡ sound
encoded-sound R xs n low h =
    (sound-iff R (encoded R xs)).1 (record {
      ended = encoded-whole R xs low;
      count = ap length (encoded-decodes R xs low) ∙ length-map (kinds 32 R xs) (word 32) ∙ kinds-length 32 R xs ∙ n;
      last = encoded-last R xs low h;
    })
