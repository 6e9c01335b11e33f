-- The writer's stores keep the buffer at the words of its draft.
-- Assumes nothing.
use Prim.Native.Nat.{ℕ, ◌+◌, ◌-◌, ◌≤◌, ◌<◌}
use mathlib.Core.Path.{◌≡◌, refl, sym, ap, ap₂, ◌∙◌}
use mathlib.Core.List.{List, [], ◌∷◌, ◌++◌, foldl, append_assoc}
use native.Mathlib.Omega.{arith}
use native.Mathlib.Decide.{dec_le}
use native.Mathlib.Numerals.{add-one}
use lib.ListN.{length, take, drop, set, replicate, length-append, length-set, take-append-drop}
use lib.Seq.{take-suc-set, take-set-lt, drop-set-lt, drop-drop, set_at}
use Rattle.meaning.specs.Limits.{most_clean, most_dirty}
use Rattle.meaning.specs.Segment.{Segment, clean, mixed}
use Rattle.meaning.specs.Ewah.{marker}
use Rattle.meaning.specs.Canonical.{Draft, blank, draft, body, put}
use Rattle.laws.proofs.Least.{taken, puts-grow}
use Rattle.laws.proofs.Runs.{room, longer, longer-length, run-within, run-over, mixed-in, mixed-new}
use Rattle.ewah.specs.declared.marker.Marker.{Marker}
use Rattle.ewah_write.specs.declared.writer.Writer.{Writer}
use Rattle.ewah_write.specs.Drafts.{Tracks, RoomFor, Grown, Drawn, Pushed, free_of}
use Rattle.ewah_write.proofs.Growing.{used-is, free-is, free_open, free-placed, joined, grown-in}

-- ---- words in a buffer that begins with the words l

-- one of them is changed
pub redrawn : (out : List ℕ) (n at m : ℕ) (done : List ℕ) (a : ℕ) (ds : List ℕ) → take n out ≡ done ++ a ∷ ds → at ≡ length done → at < n
    → take n (set out at m) ≡ done ++ m ∷ ds
redrawn out n at m done a ds e f h = take-set-lt n out at m h ∙ ap (λ (l : List ℕ). set l at m) e ∙ set_at done a ds m at (sym f)

-- one more
added : (out : List ℕ) (n m : ℕ) (l : List ℕ) → take n out ≡ l → n < length out → take (n + 1) (set out n m) ≡ l ++ m ∷ []
added out n m l e h =
    ap (λ (k : ℕ). take k (set out n m)) (add-one n) ∙ take-suc-set out n m h ∙ ap (λ (l : List ℕ). l ++ m ∷ []) e

-- ---- room in the buffer

pub room-now : (ss : List Segment) {w : Writer} {n : ℕ} → RoomFor ss w n → w.used ≤ n
room-now ss r = omega (arith, used-is r.0 r.1, puts-grow r.0 ss)

pub room-then : (ss : List Segment) {w r : Writer} {n : ℕ} → RoomFor ss w n → Grown w ss r → r.used ≤ n
room-then ss r g = omega (arith, used-is (foldl put r.0 ss) (g r.0 r.1))

-- ---- a run in the buffer

-- m is the word of the marker r
abbrev Names : ℕ → Marker → Type 0
Names m r = m ≡ marker r.value r.clean r.dirty

-- the last marker written again with a greater clean count
longer-words : (out : List ℕ) (w r : Writer) (d : Draft) (n m : ℕ) → Drawn out w d → Tracks r (longer d n) → w.at < w.used → Names m r.last
    → take w.used (set out w.at m) ≡ body (longer d n)
unfolding longer body
longer-words out w r blank n m b t h e = absurd (omega (arith, b.tracks.same.0))
longer-words out w r (draft done v c ds) n m b t h e =
    let s = t.same in
    redrawn out w.used w.at m done (marker v c (length ds)) ds b.words b.tracks.same.0 h
    ∙ ap (λ (z : ℕ). done ++ z ∷ ds) (e ∙ rw (s.2, s.3, s.4))

-- a new marker with no dirty word
begun-words : (out : List ℕ) (n m : ℕ) (r : Writer) (l : List ℕ) (v c : ℕ) → take n out ≡ l → n < length out → r.used ≡ n + 1 → Names m r.last
    → Tracks r (draft l v c []) → take r.used (set out n m) ≡ body (draft l v c [])
unfolding body
begun-words out n m r l v c e h u q t =
    let s = t.same in
    rw u (added out n m l e h ∙ ap (λ (z : ℕ). l ++ z ∷ []) (q ∙ rw (s.2, s.3, s.4)))

-- what `push_run` knows before its stores: what the last marker can take, k, the writer r after the run, and the word m of r's marker
pub record Running (out : List ℕ) (w r : Writer) (v n k m : ℕ) : Type 0 where
  pub free : k ≡ free_of w v
  pub grown : Grown w (replicate n (clean v)) r
  pub roomy : RoomFor (replicate n (clean v)) w (length out)
  pub named : Names m r.last
  pub few : n ≤ most_clean

module _ {out : List ℕ} {w r : Writer} {v n k m : ℕ} (s : Running out w r v n k m) where
  last-placed : 0 < k → w.at < w.used
  last-placed h = free-placed w v s.roomy.0 s.roomy.1 (omega (arith, s.free))

  pub last_fits : 0 < k → w.at < length out
  last_fits h = omega (arith, last-placed h, room-now (replicate n (clean v)) s.roomy)

  -- the run goes into the last marker whole
  module _ (h : n ≤ k) where
    in-last : (d : Draft) → Tracks w d → foldl put d (replicate n (clean v)) ≡ longer d n
    in-last d t = run-within d v n (omega (arith, s.free, free-is w d v t))

    last-used : r.used ≡ w.used
    last-used =
        let d = s.roomy.0 in
        let t = s.roomy.1 in
        used-is _ (s.grown d t) ∙ rw (in-last d t) (longer-length d n ∙ sym (used-is d t))

    pub none-pushed : n ≡ 0 → Pushed out out w (replicate n (clean v)) r
    none-pushed z = record {
      grown = s.grown;
      drawn = λ d b. record { tracks = s.grown d b.tracks; words = rw (last-used, z) b.words };
      kept = refl;
    }

    pub last-pushed : (n ≡ 0 → ⊥) → Pushed out (set out w.at m) w (replicate n (clean v)) r
    last-pushed z = record {
      grown = s.grown;
      drawn = λ d b. record {
        tracks = s.grown d b.tracks;
        words = rw (last-used, in-last d b.tracks) (longer-words out w r d n m b (rw (in-last d b.tracks) at (s.grown d b.tracks)) (last-placed (omega arith)) s.named);
      };
      kept = drop-set-lt r.used out w.at m (omega (arith, (last-placed (omega arith)), last-used));
    }

  -- a new marker takes what the last cannot
  module _ (h : k < n) where
    in-new : (d : Draft) → Tracks w d → foldl put d (replicate n (clean v)) ≡ draft (body (longer d k)) v (n - k) []
    in-new d t =
        let f : k ≡ room v d = s.free ∙ free-is w d v t in
        rw f (run-over d v n (omega arith) s.few)

    new-tracks : (d : Draft) → Tracks w d → Tracks r (draft (body (longer d k)) v (n - k) [])
    new-tracks d t = rw (in-new d t) at (s.grown d t)

    new-used : r.used ≡ w.used + 1
    new-used =
        let d = s.roomy.0 in
        let t = s.roomy.1 in
        omega (arith, (new-tracks d t).same.1, longer-length d k, used-is d t)

    pub new-fits : w.used < length out
    new-fits = omega (arith, new-used, room-then (replicate n (clean v)) s.roomy s.grown)

    -- the new marker after words that are the draft's with the last marker as long as it can be
    new-drawn : (l : List ℕ) → length l ≡ length out → (d : Draft) → Tracks w d → take w.used l ≡ body (longer d k)
        → Drawn (set l w.used m) r (foldl put d (replicate n (clean v)))
    new-drawn l e d t q =
        let f : w.used < length l = omega (arith, new-fits) in
        record {
          tracks = s.grown d t;
          words = rw (in-new d t) (begun-words l w.used m r (body (longer d k)) v (n - k) q f new-used s.named (new-tracks d t));
        }

    pub new-pushed : k ≡ 0 → Pushed out (set out w.used m) w (replicate n (clean v)) r
    new-pushed z = record {
      grown = s.grown;
      drawn = λ d b. new-drawn out refl d b.tracks (b.words ∙ rw z (ap body (run-within d v 0 (omega arith))));
      kept = drop-set-lt r.used out w.used m (omega (arith, new-used));
    }

    module _ (z : k ≡ 0 → ⊥) where
      full-drawn : (a : ℕ) → a ≡ marker v most_clean 0 → (d : Draft) → Drawn out w d → take w.used (set out w.at a) ≡ body (longer d k)
      full-drawn a e d b =
          let t = b.tracks in
          let o = free_open w v (omega (arith, s.free)) in
          let c : w.last.clean + k ≡ most_clean = omega (arith, s.free, t.in-range.clean-low) in
          let q : Names a (joined w k).last = e ∙ rw (o.0, o.1, c) in
          let i = run-within d v k (omega (arith, s.free, free-is w d v t)) in
          longer-words out w (joined w k) d k a b (rw i at (grown-in w v k k s.free (omega arith) d t)) (last-placed (omega arith)) q

      pub both-pushed : (a : ℕ) → a ≡ marker v most_clean 0 → Pushed out (set (set out w.at a) w.used m) w (replicate n (clean v)) r
      both-pushed a e = record {
        grown = s.grown;
        drawn = λ d b. new-drawn (set out w.at a) (length-set out w.at a) d b.tracks (full-drawn a e d b);
        kept = drop-set-lt r.used (set out w.at a) w.used m (omega (arith, new-used))
            ∙ drop-set-lt r.used out w.at a (omega (arith, new-used, (last-placed (omega arith))));
      }

-- ---- a mixed segment in the buffer

-- the last of a marker's dirty words
last_word : (l : List ℕ) (r : Writer) (m x : ℕ) (done : List ℕ) (v c : ℕ) (ds : List ℕ) → Names m r.last → Tracks r (draft done v c (ds ++ x ∷ []))
    → r.used ≤ length l → take (r.used - 1) l ≡ done ++ m ∷ ds → take r.used (set l (r.used - 1) x) ≡ body (draft done v c (ds ++ x ∷ []))
unfolding body
last_word l r m x done v c ds e t h q =
    let s = t.same in
    let n : r.used ≡ r.used - 1 + 1 = omega (arith, s.1) in
    ap (λ (k : ℕ). take k (set l (r.used - 1) x)) n
    ∙ added l (r.used - 1) x (done ++ m ∷ ds) q (omega (arith, s.1))
    ∙ append_assoc done (m ∷ ds) (x ∷ [])
    ∙ ap (λ (z : ℕ). done ++ z ∷ (ds ++ x ∷ [])) (e ∙ rw (s.2, s.3, s.4))

mixed-placed : (r : Writer) (d : Draft) (x : ℕ) → Tracks r (put d (mixed x)) → r.at + 1 < r.used
mixed-placed r d x t = elim (dec_le most_dirty (taken d)) [ yes g ↦ full g | no g ↦ under d t (omega arith) ]
  where
    full : most_dirty ≤ taken d → r.at + 1 < r.used
    full g = let u = rw (mixed-new d x [] g (omega arith)) at t in omega (arith, u.same.0, u.same.1)

    under : (d : Draft) → Tracks r (put d (mixed x)) → taken d < most_dirty → r.at + 1 < r.used
    under blank t g = absurd (unfold taken in omega arith)
    under (draft done v c ds) t g =
        let u = rw (mixed-in done v c ds (x ∷ []) (unfold taken in omega arith)) at t in
        omega (arith, u.same.0, u.same.1, length-append ds (x ∷ []))

-- the words after both stores
mixed-words : (out : List ℕ) (w r : Writer) (x m : ℕ) → Names m r.last → r.used ≤ length out → (d : Draft) → Drawn out w d → Tracks r (put d (mixed x))
    → take r.used (set (set out r.at m) (r.used - 1) x) ≡ body (put d (mixed x))
mixed-words out w r x m e h d b t = elim (dec_le most_dirty (taken d)) [ yes g ↦ full g | no g ↦ under d b t (omega arith) ]
  where
    l : List ℕ
    l = set out r.at m

    full : most_dirty ≤ taken d → take r.used (set l (r.used - 1) x) ≡ body (put d (mixed x))
    full g =
        let i = mixed-new d x [] g (omega arith) in
        let u : Tracks r (draft (body d) 0 0 (x ∷ [])) = rw i at t in
        let n : r.at ≡ w.used = u.same.0 ∙ sym (used-is d b.tracks) in
        let k : r.used - 1 ≡ w.used + 1 = omega (arith, u.same.0, u.same.1) in
        rw i (last_word l r m x (body d) 0 0 [] e u (omega (arith, length-set out r.at m)) (rw (k, n) (added out w.used m (body d) b.words (omega arith))))

    under : (d : Draft) → Drawn out w d → Tracks r (put d (mixed x)) → taken d < most_dirty → take r.used (set l (r.used - 1) x) ≡ body (put d (mixed x))
    under blank b t g = absurd (unfold taken in omega arith)
    under (draft done v c ds) b t g =
        let i = mixed-in done v c ds (x ∷ []) (unfold taken in omega arith) in
        let u : Tracks r (draft done v c (ds ++ x ∷ [])) = rw i at t in
        let k : r.used - 1 ≡ w.used = omega (arith, u.same.1, b.tracks.same.1, length-append ds (x ∷ [])) in
        rw i (last_word l r m x done v c ds e u (omega (arith, length-set out r.at m)) (rw k (redrawn out w.used r.at m done (marker v c (length ds)) ds (unfold body in b.words) u.same.0 (omega (arith, u.same.0, b.tracks.same.1)))))

module _ (w r : Writer) (x : ℕ) (g : Grown w (mixed x ∷ []) r) (out : List ℕ) (roomy : RoomFor (mixed x ∷ []) w (length out)) where
  pub mixed-fits : (r.at + 1 < r.used) × (r.used ≤ length out)
  mixed-fits = (mixed-placed r roomy.0 x (g roomy.0 roomy.1), room-then (mixed x ∷ []) roomy g)

  pub mixed-pushed : (m : ℕ) → Names m r.last → Pushed out (set (set out r.at m) (r.used - 1) x) w (mixed x ∷ []) r
  mixed-pushed m e =
      let f = mixed-fits in
      record {
        grown = g;
        drawn = λ d b. record { tracks = g d b.tracks; words = mixed-words out w r x m e f.1 d b (g d b.tracks) };
        kept = drop-set-lt r.used (set out r.at m) (r.used - 1) x (omega arith) ∙ drop-set-lt r.used out r.at m (omega arith);
      }

-- ---- many pushes, one after the other

-- since the buffer was `old`, the words of the draft d were written, and what lies behind kept its values
pub record Written (old out : List ℕ) (w : Writer) (d : Draft) : Type 0 where
  pub drawn : Drawn out w d
  pub kept : drop w.used out ≡ drop w.used old

pub written_none : (old : List ℕ) (w : Writer) → Tracks w blank → Written old old w blank
unfolding body
written_none old w t = record { drawn = record { tracks = t; words = rw t.same.0 }; kept = refl }

pub drop_more : (m n : ℕ) (xs ys : List ℕ) → m ≤ n → drop m xs ≡ drop m ys → drop n xs ≡ drop n ys
drop_more m n xs ys h e =
    let k : m + (n - m) ≡ n = omega arith in
    rw (← k, ← drop-drop (n - m) m xs, ← drop-drop (n - m) m ys, e)

pub written-more : (old out out' : List ℕ) (w r : Writer) (d : Draft) (ss : List Segment) → Written old out w d → Pushed out out' w ss r → Written old out' r (foldl put d ss)
written-more old out out' w r d ss p q =
    let n : w.used ≤ r.used = omega (arith, used-is d p.drawn.tracks, used-is (foldl put d ss) (q.grown d p.drawn.tracks), puts-grow d ss) in
    record { drawn = q.drawn d p.drawn; kept = q.kept ∙ drop_more w.used r.used out old n p.kept }

pub written_all : (old out : List ℕ) (w : Writer) (d : Draft) → Written old out w d → out ≡ body d ++ drop w.used old
written_all old out w d p = sym (take-append-drop w.used out) ∙ ap₂ (λ (a b : List ℕ). a ++ b) p.drawn.words p.kept
