-- A walk over a body, from marker to marker: its writer stands for the segments passed, or the body is not in canonical
-- form.
-- Assumes nothing.
use Prim.Native.Nat.{ℕ, zero, suc, ◌+◌, ◌-◌, ◌*◌, ◌/◌, ◌%◌, ◌^◌, ◌≤◌, ◌<◌}
use mathlib.Core.Bool.{Bool, true, false, cond, not, ◌&&◌, false≢true}
use mathlib.Core.Path.{◌≡◌, refl, sym, ap, ap₂, ◌∙◌, subst}
use mathlib.Core.List.{List, [], ◌∷◌, ◌++◌, map, foldl, foldl-append, append_assoc}
use lib.Dec.{eqb, ltb}
use lib.ListN.{length, get_or, take, drop, replicate, length-drop, take-append-drop}
use lib.Seq.{drop-cons, take-add, drop-drop, length-take-le, take-suc, take-take, take-append-add, get_or-take, get_or-drop}
use native.Mathlib.Nat.{mod-eq_of_lt, div-div-eq-div-mul, div-add-mod'}
use native.Mathlib.Omega.{arith}
use native.Mathlib.Numerals.{add-one}
use borrow.Author.Tests.{eqb-true, eqb-false, ne_eqb, not-true}
use Rattle.meaning.specs.Limits.{most_clean, most_dirty}
use Rattle.meaning.specs.Segment.{Segment, clean, mixed, kind, fill, all_set}
use Rattle.meaning.specs.Ewah.{marker, segments, due_after, value_of, clean_of, dirty_of}
use Rattle.meaning.specs.Canonical.{Draft, blank, draft, body, put}
use Rattle.meaning.specs.Format.{rows_of, Canonical}
use Rattle.meaning.specs.declared.Format.TheVariants.{Ewah}
use Rattle.laws.proofs.Least.{taken}
use Rattle.laws.proofs.Runs.{closed_to, run-new, mixed-in, mixed-new}
use Rattle.laws.proofs.Segments.{both, kind-fill, kind-mixed, map-append}
use Rattle.laws.proofs.Walk.{At, Step, at-start, at-end}
use Rattle.ewah.specs.declared.marker.Marker.{Marker}
use Rattle.ewah.specs.Markers.{FieldsOf}
use Rattle.ewah.proofs.MarkerStep.{read_step}
use Rattle.ewah_write.specs.declared.writer.Writer.{Writer}
use Rattle.ewah_write.specs.Drafts.{Tracks, Drawn}
use Rattle.ewah_write.proofs.Growing.{used-is, taken_is}
use Rattle.resume.specs.Scan.{follows_of}
use Rattle.ewah_write.specs.Mixed.{is_mixed, all_mixed}
use Rattle.resume.specs.Resume.{draft_of, LastMarker, Walked}
use Rattle.resume.proofs.Scanned.{Scan, failed, at, scan_step, scanned, canonical-passes}
use Rattle.resume.proofs.Scanned.{scan-failed, scan-marker, scan-mixed, scan-clean, follow-clean, follow-dirty}

-- ---- lists

take-run : (c n x : ℕ) (ys : List ℕ) (d : ℕ) → c ≤ n → (0 < d → c ≡ n)
    → take (c + d) (replicate n x ++ ys) ≡ replicate c x ++ take d ys
take-run zero zero x ys d h g = let e : 0 + d ≡ d = omega arith in ap (λ (k : ℕ). take k ys) e
take-run zero (suc n) x ys zero h g = refl
take-run zero (suc n) x ys (suc d) h g = absurd (omega (arith, g (omega arith)))
take-run (suc c) zero x ys d h g = absurd (omega arith)
take-run (suc c) (suc n) x ys d h g =
    let e : suc c + d ≡ suc (c + d) = omega arith in
    ap (λ (k : ℕ). take k (replicate (suc n) x ++ ys)) e
    ∙ ap (λ (l : List ℕ). x ∷ l) (take-run c n x ys d (omega arith) (λ p. omega (arith, g p)))

kind-run : (c v : ℕ) → v < 2 → map (kind 32) (replicate c (fill 32 v)) ≡ replicate c (clean v)
kind-run zero v h = refl
kind-run (suc c) v h = ap₂ (λ (s : Segment) (l : List Segment). s ∷ l) (kind-fill 32 v (omega arith) h) (kind-run c v h)

-- ---- mixed words

mixed-kinds : (xs : List ℕ) → all_mixed xs ≡ true → map (kind 32) xs ≡ map mixed xs
unfolding is_mixed all_set
mixed-kinds [] e = refl
mixed-kinds (x ∷ xs) e =
    let p = both (is_mixed x) (all_mixed xs) e in
    let q = both (not (eqb x 0)) (not (eqb x 4294967295)) p.0 in
    ap₂ (λ (s : Segment) (l : List Segment). s ∷ l)
    (kind-mixed 32 x
    (eqb-false x 0 (not-true (eqb x 0) q.0))
    (eqb-false x 4294967295 (not-true (eqb x 4294967295) q.1)))
    (mixed-kinds xs p.1)

mixed-take : (d : ℕ) (xs : List ℕ) → all_mixed xs ≡ true → all_mixed (take d xs) ≡ true
mixed-take zero xs e = refl
mixed-take (suc d) [] e = refl
mixed-take (suc d) (x ∷ xs) e = let p = both (is_mixed x) (all_mixed xs) e in rw p.0 (mixed-take d xs p.1)

mixed-at : (xs : List ℕ) (k : ℕ) → all_mixed xs ≡ true → k < length xs → is_mixed (get_or xs k 0) ≡ true
mixed-at [] k e h = absurd (omega arith)
mixed-at (x ∷ xs) zero e h = (both (is_mixed x) (all_mixed xs) e).0
mixed-at (x ∷ xs) (suc k) e h = mixed-at xs k (both (is_mixed x) (all_mixed xs) e).1 (omega arith)

-- ---- a marker that may follow

-- behind the last marker of w the marker (v, c, d) may stand
abbrev follows : Writer → (v c d : ℕ) → Bool
follows w v c d = follows_of w.last.value w.last.clean w.last.dirty v c d

-- it counts a segment
follow-some : (w : Writer) (v c d : ℕ) → follows w v c d ≡ true → 0 < c + d
unfolding follows_of
follow-some w v zero zero f =
    let p = both (eqb v 0 && false) (eqb w.last.dirty most_dirty) f in
    absurd (false≢true (both (eqb v 0) false p.0).1)
follow-some w v zero (suc d) f = omega arith
follow-some w v (suc c) d f = omega arith

closed_is : (w : Writer) (e : Draft) (v : ℕ) → Tracks w e
    → not (eqb w.last.dirty 0 && eqb w.last.value v && ltb w.last.clean most_clean) ≡ true
    → closed_to v e ≡ true
unfolding closed_to
closed_is w blank v t h = refl
closed_is w (draft done u c ds) v t h = rw (← t.same.2, ← t.same.3, ← t.same.4) h

-- its segments go under a marker of their own
marker-puts : (w : Writer) (e : Draft) → Tracks w e → (v c : ℕ) (xs : List ℕ) → c ≤ most_clean → length xs ≤ most_dirty
    → follows w v c (length xs) ≡ true → foldl put e (replicate c (clean v) ++ map mixed xs) ≡ draft (body e) v c xs
unfolding follows_of
marker-puts w e t v zero [] hc hd f = absurd (omega (arith, follow-some w v 0 0 f))
marker-puts w e t v zero (x ∷ xs) hc hd f =
    let some : eqb (length (x ∷ xs)) 0 ≡ false = ne_eqb (length (x ∷ xs)) 0 (omega arith) in
    let q = both (eqb v 0 && true) (eqb w.last.dirty most_dirty) (rw some at f) in
    let z = both (eqb v 0) true q.0 in
    let full : most_dirty ≤ taken e = omega (arith, taken_is e t, eqb-true w.last.dirty most_dirty q.1) in
    mixed-new e x xs full hd ∙ ap (λ (k : ℕ). draft (body e) k 0 (x ∷ xs)) (sym (eqb-true v 0 z.0))
marker-puts w e t v (suc c) xs hc hd f =
    let closed = closed_is w e v t (rw (ne_eqb (suc c) 0 (omega arith)) at f) in
    foldl-append put e (replicate (suc c) (clean v)) (map mixed xs)
    ∙ ap (λ (d : Draft). foldl put d (map mixed xs)) (run-new e v c hc closed)
    ∙ mixed-in (body e) v (suc c) [] xs (omega arith)

-- a word is the marker of its fields
marker-back : (m : ℕ) → m < 2 ^ 32 → m ≡ marker (value_of m) (clean_of m) (dirty_of m)
unfolding marker value_of clean_of dirty_of
marker-back m h =
    let e : m / 2 / 65536 ≡ m / 131072 = div-div-eq-div-mul m 2 65536 in
    let q : m / 131072 % 32768 ≡ m / 131072 = mod-eq_of_lt (omega arith) in
    let t : m / 2 ≡ m / 2 / 65536 * 65536 + m / 2 % 65536 = sym (div-add-mod' (m / 2) 65536) in
    omega (arith, e, q, t)

-- ---- where the walk stands

-- the state of the scan where w is the writer
abbrev state : Writer → Scan
state w = at w.last.value w.last.clean w.last.dirty 0

-- at word i, with o segments behind: w stands for these, and of a canonical body the words from i on pass each test.
-- Behind a marker `before` is the writer before it
pub record Stood (b : List ℕ) (before w : Writer) (i : ℕ) : Type 0 where
  pub o : ℕ
  pub here : At b i 0 o
  pub used : w.used ≡ i
  pub drawn : Drawn b w (draft_of b o)
  pub passes : (R : ℕ) → Canonical Ewah R b → foldl scan_step (state w) (drop i b) ≡ failed → ⊥
  pub last : 0 < i → LastMarker b o before w

pub stood-start : (b : List ℕ) (before w : Writer) → due_after 0 b ≡ 0 → Tracks w blank → Stood b before w 0
unfolding body
stood-start b before w e t = record {
  o = 0;
  here = at-start b e;
  used = t.same.0;
  drawn = record { tracks = t; words = rw t.same.0 };
  passes = λ R c q.
      canonical-passes w.last.value R (rows_of Ewah b)
      (sym (ap (scanned w.last.value) c) ∙ rw (← t.same.1, ← t.same.2) q);
  last = λ p. absurd (omega arith);
}

pub stood-end : {b : List ℕ} {before w : Writer} {i : ℕ} → Stood b before w i → length b ≤ i → Walked b before w
stood-end {b} {before} {w} {i} s over =
    let n : s.o ≡ length (segments b) = at-end b i s.o s.here over in
    record {
      drawn = subst (λ (k : ℕ). Drawn b w (draft_of b k)) n s.drawn;
      all = omega (arith, s.used, s.here.inside);
      last = λ p. subst (λ (k : ℕ). LastMarker b k before w) n (s.last (omega arith));
    }

-- ---- one marker on

module _ {b : List ℕ} {before w : Writer} {i : ℕ} (s : Stood b before w i) (h : i < length b)
    {m : Marker} (f : FieldsOf (get_or b i 0) m) where
  -- its word, the words behind it, and of these the dirty ones
  abbrev x : ℕ
  x = get_or b i 0

  abbrev ws : List ℕ
  ws = drop (i + 1) b

  abbrev xs : List ℕ
  xs = take m.dirty ws

  -- the state of the scan at the first of these
  abbrev words-due : ℕ → Scan
  words-due n = at m.value m.clean m.dirty n

  over : Step b i s.o m.value m.clean m.dirty
  over = read_step b i s.o m s.here h f

  pub dirty-fit : i + 1 + m.dirty ≤ length b
  dirty-fit = over.fits

  few : m.dirty ≤ length ws
  few = omega (arith, length-drop (i + 1) b, dirty-fit)

  size : length xs ≡ m.dirty
  size = length-take-le m.dirty ws few

  ahead : foldl scan_step (state w) (drop i b)
      ≡ foldl scan_step (cond (follows w m.value m.clean m.dirty) (words-due m.dirty) failed) ws
  ahead =
      ap (foldl scan_step (state w)) (drop-cons b i 0 h ∙ ap (λ (k : ℕ). x ∷ drop k b) (sym (add-one i)))
      ∙ ap (λ (z : Scan). foldl scan_step z ws)
      (scan-marker w.last.value w.last.clean w.last.dirty x m.value m.clean m.dirty
      f.value-is f.clean_is f.dirty-is)

  pub not-follows : follows w m.value m.clean m.dirty ≡ false → (R : ℕ) → Canonical Ewah R b → ⊥
  not-follows e R c = s.passes R c (ahead ∙ rw e (scan-failed ws))

  module _ (g : follows w m.value m.clean m.dirty ≡ true) where
    -- behind the dirty words
    words-ahead : foldl scan_step (state w) (drop i b)
        ≡ foldl scan_step (foldl scan_step (words-due (length xs)) xs) (drop (i + 1 + m.dirty) b)
    words-ahead =
        ahead
        ∙ rw g
        (ap₂ (λ (n : ℕ) (l : List ℕ). foldl scan_step (words-due n) l) (sym size) (sym (take-append-drop m.dirty ws))
        ∙ foldl-append scan_step (words-due (length xs)) xs (drop m.dirty ws)
        ∙ ap (foldl scan_step (foldl scan_step (words-due (length xs)) xs)) (drop-drop m.dirty (i + 1) b))

    pub not-mixed : all_mixed xs ≡ false → (R : ℕ) → Canonical Ewah R b → ⊥
    not-mixed e R c =
        s.passes R c
        (words-ahead ∙ rw (scan-clean m.value m.clean m.dirty xs e) (scan-failed (drop (i + 1 + m.dirty) b)))

    module _ (low : x < 2 ^ 32) (a : all_mixed xs ≡ true) where
      abbrev next : Writer
      next = record { used = i + 1 + m.dirty; at = i; last = m }

      -- the first of its segments, c clean ones and d dirty words
      module _ (c d : ℕ) (some : 0 < c + d) (hc : c ≤ m.clean) (hd : d ≤ m.dirty) (full : 0 < d → c ≡ m.clean) where
        abbrev ys : List ℕ
        ys = take d ws

        its : length ys ≡ d
        its = length-take-le d ws (omega (arith, few))

        first : take (s.o + (c + d)) (segments b)
            ≡ take s.o (segments b) ++ (replicate c (fill 32 m.value) ++ ys)
        first =
            let n : length (take s.o (segments b)) ≡ s.o = length-take-le s.o (segments b) s.here.passed in
            let all = replicate m.clean (fill 32 m.value) ++ xs in
            sym (take-take (s.o + (c + d)) (s.o + m.clean + m.dirty) (segments b) (omega arith))
            ∙ ap (take (s.o + (c + d))) over.more
            ∙ ap (λ (k : ℕ). take (k + (c + d)) (take s.o (segments b) ++ all)) (sym n)
            ∙ take-append-add (take s.o (segments b)) all (c + d)
            ∙ ap (λ (l : List ℕ). take s.o (segments b) ++ l)
            (take-run c m.clean (fill 32 m.value) xs d hc full
            ∙ ap (λ (l : List ℕ). replicate c (fill 32 m.value) ++ l) (take-take d m.dirty ws hd))

        first-seen : map (kind 32) (replicate c (fill 32 m.value) ++ ys)
            ≡ replicate c (clean m.value) ++ map mixed ys
        first-seen =
            map-append (kind 32) (replicate c (fill 32 m.value)) ys
            ∙ ap₂ (λ (k l : List Segment). k ++ l) (kind-run c m.value f.in-range.value_low)
            (mixed-kinds ys (ap all_mixed (sym (take-take d m.dirty ws hd)) ∙ mixed-take d xs a))

        first-follow : follows w m.value c (length ys) ≡ true
        first-follow = go c refl
          where
            go : (k : ℕ) → k ≡ c → follows w m.value k (length ys) ≡ true
            go zero e =
                let z : m.clean ≡ 0 = omega (arith, full (omega arith)) in
                follow-dirty w.last.value w.last.clean w.last.dirty m.value m.dirty (length ys)
                (rw z at g) (omega (arith, its))
            go (suc k) e =
                follow-clean w.last.value w.last.clean w.last.dirty m.value m.clean m.dirty (length ys)
                (omega arith) g (suc k) (omega arith)

        first-draft : draft_of b (s.o + (c + d)) ≡ draft (body (draft_of b s.o)) m.value c ys
        first-draft =
            let os = take s.o (segments b) in
            let new = replicate c (fill 32 m.value) ++ ys in
            ap (λ (l : List ℕ). foldl put blank (map (kind 32) l)) first
            ∙ ap (foldl put blank) (map-append (kind 32) os new)
            ∙ foldl-append put blank (map (kind 32) os) (map (kind 32) new)
            ∙ ap (foldl put (draft_of b s.o)) first-seen
            ∙ marker-puts w (draft_of b s.o) s.drawn.tracks m.value c ys
            (omega (arith, f.in-range.clean-low)) (omega (arith, its, f.in-range.dirty-low)) first-follow

      some-counted : 0 < m.clean + m.dirty
      some-counted = follow-some w m.value m.clean m.dirty g

      place : length (body (draft_of b s.o)) ≡ i
      place = sym (used-is (draft_of b s.o) s.drawn.tracks) ∙ s.used

      -- all of them
      whole : draft_of b (s.o + m.clean + m.dirty) ≡ draft (body (draft_of b s.o)) m.value m.clean xs
      whole =
          let e : s.o + m.clean + m.dirty ≡ s.o + (m.clean + m.dirty) = omega arith in
          ap (draft_of b) e ∙ first-draft m.clean m.dirty some-counted (omega arith) (omega arith) (λ p. refl)

      words : take (i + 1 + m.dirty) b ≡ body (draft (body (draft_of b s.o)) m.value m.clean xs)
      unfolding body
      words =
          let behind : take i b ≡ body (draft_of b s.o) = rw s.used at s.drawn.words in
          let is-marker : x ≡ marker m.value m.clean (length xs) =
          marker-back x low ∙ rw (← f.value-is, ← f.clean_is, ← f.dirty-is, size) in
          take-add (i + 1) m.dirty b
          ∙ ap (λ (l : List ℕ). l ++ xs) (ap (λ (k : ℕ). take k b) (add-one i) ∙ take-suc b i 0 h)
          ∙ append_assoc (take i b) (x ∷ []) xs
          ∙ ap₂ (λ (l : List ℕ) (k : ℕ). l ++ k ∷ xs) behind is-marker

      next_drawn : Drawn b next (draft_of b (s.o + m.clean + m.dirty))
      next_drawn =
          rw whole
          (record {
            tracks = record { same = (sym place, omega (arith, place, size), refl, refl, sym size); in-range = f.in-range };
            words = words;
          })

      next_last : LastMarker b (s.o + m.clean + m.dirty) w next
      next_last = record {
        earlier = s.o;
        drawn = s.drawn;
        at-is = sym s.used;
        used-is = refl;
        inside = dirty-fit;
        in-range = f.in-range;
        some = some-counted;
        counts = omega arith;
        fewer = first-draft;
        run_end = λ z.
            let e : s.o + m.clean + m.dirty - 1 ≡ s.o + (m.clean - 1) = omega (arith, some-counted) in
            ap (λ (k : ℕ). get_or (segments b) k 0) e ∙ over.run_at (m.clean - 1) (omega (arith, some-counted));
        word_end = λ z.
            let e : s.o + m.clean + m.dirty - 1 ≡ s.o + m.clean + (m.dirty - 1) = omega arith in
            ap (λ (k : ℕ). get_or (segments b) k 0) e
            ∙ over.dirty-at (m.dirty - 1) (omega arith)
            ∙ ap (λ (k : ℕ). get_or b k 0) (omega arith);
        end-mixed = λ z.
            let k = m.dirty - 1 in
            let e : i + 1 + m.dirty - 1 ≡ i + 1 + k = omega arith in
            let is : get_or b (i + 1 + m.dirty - 1) 0 ≡ get_or xs k 0 =
            ap (λ (n : ℕ). get_or b n 0) e ∙ sym (get_or-drop (i + 1) b k 0) ∙ sym (get_or-take m.dirty ws k 0 (omega arith)) in
            ap is_mixed is ∙ mixed-at xs k a (omega (arith, size));
      }

      pub stood-next : Stood b w next (i + 1 + m.dirty)
      stood-next = record {
        o = s.o + m.clean + m.dirty;
        here = over.next;
        used = refl;
        drawn = next_drawn;
        passes = λ R c q. s.passes R c (words-ahead ∙ rw (scan-mixed m.value m.clean m.dirty xs a) q);
        last = λ p. next_last;
      }
