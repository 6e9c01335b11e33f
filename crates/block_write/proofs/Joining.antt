-- Many mixed segments under one marker: the writer that counts them, and the words in its buffer.
-- Assumes nothing.
use Prim.Native.Nat.{ℕ, ◌+◌, ◌≤◌, ◌<◌}
use mathlib.Core.Path.{◌≡◌, refl, ap, ◌∙◌}
use mathlib.Core.List.{List, ◌∷◌, ◌++◌, map, foldl, append_assoc}
use native.Mathlib.Omega.{arith}
use lib.ListN.{length, take, set, length-append}
use lib.Seq.{paste, take-paste, drop-paste, drop-set-lt, take-length}
use Rattle.meaning.specs.Limits.{most_dirty}
use Rattle.meaning.specs.Segment.{mixed}
use Rattle.meaning.specs.Ewah.{marker}
use Rattle.meaning.specs.Canonical.{Draft, blank, draft, body, put}
use Rattle.laws.proofs.Runs.{mixed-in}
use Rattle.ewah_write.specs.declared.writer.Writer.{Writer}
use Rattle.ewah_write.specs.Drafts.{Tracks, RoomFor, Grown, Drawn, Pushed}
use Rattle.ewah_write.proofs.Pushing.{redrawn, room-then}
use Rattle.block_write.specs.Rowed.{Joined}

-- m dirty words more under the last marker
abbrev counted : Writer → ℕ → Writer
counted w m = record {
  used = w.used + m;
  at = w.at;
  last = record { value = w.last.value; clean = w.last.clean; dirty = w.last.dirty + m };
}

grown-many : (w : Writer) (m : ℕ) → 1 ≤ m → w.last.dirty + m ≤ most_dirty → (xs : List ℕ) → length xs ≡ m
    → Grown w (map mixed xs) (counted w m)
grown-many w m g h xs e blank t = absurd (omega (arith, t.same.2))
grown-many w m g h xs e (draft done v c ds) t =
    let l = length-append ds xs in
    let s = t.same in
    let r = t.in-range in
    rw (mixed-in done v c ds xs (omega (arith, s.4)))
    (record {
      same = (s.0, omega arith, s.2, s.3, omega arith);
      in-range = record { value_low = r.value_low; clean-low = r.clean-low; dirty-low = omega arith };
    })

pub joined-many : (w : Writer) (m : ℕ) → 1 ≤ m → w.last.dirty + m ≤ most_dirty → Joined w m (counted w m)
joined-many w m g h = record { grown = grown-many w m g h; same_at = refl; more-used = refl }

-- what `push_words` knows before its stores
pub record Joining (out xs : List ℕ) (w r : Writer) : Type 0 where
  pub some : 1 ≤ length xs
  pub few : w.last.dirty + length xs ≤ most_dirty
  pub joined : Joined w (length xs) r
  pub roomy : RoomFor (map mixed xs) w (length out)

module _ {out xs : List ℕ} {w r : Writer} (j : Joining out xs w r) where
  pub grown-here : Grown w (map mixed xs) r
  grown-here = j.joined.grown xs refl

  pub words-fit : w.used + length xs ≤ length out
  words-fit = omega (arith, room-then (map mixed xs) j.roomy grown-here, j.joined.more-used)

  -- the last marker has its place: a writer with no word yet is full
  at_low : w.at < w.used
  at_low = go j.roomy.0 j.roomy.1
    where
      go : (d : Draft) → Tracks w d → w.at < w.used
      go blank t = absurd (omega (arith, t.same.2, j.some, j.few))
      go (draft done v c ds) t = omega (arith, t.same.0, t.same.1)

  -- after both stores: the segments' words, pasted, and the word m of the marker that counts them
  pub pushed-many : (m : ℕ) → m ≡ marker r.last.value r.last.clean r.last.dirty
      → Pushed out (set (paste out w.used xs (length xs)) w.at m) w (map mixed xs) r
  unfolding body
  pushed-many m named = record {
    grown = grown-here;
    drawn = λ d b. record { tracks = grown-here d b.tracks; words = words d b };
    kept = drop-set-lt r.used pasted w.at m (omega (arith, at_low, more))
        ∙ rw more (drop-paste out w.used xs (length xs) (omega (arith, words-fit)) (omega arith));
  }
    where
      pasted : List ℕ
      pasted = paste out w.used xs (length xs)

      more : r.used ≡ w.used + length xs
      more = j.joined.more-used

      -- before the marker is written anew
      joined_words : (done : List ℕ) (v c : ℕ) (ds : List ℕ) → Drawn out w (draft done v c ds)
          → take (w.used + length xs) pasted ≡ done ++ marker v c (length ds) ∷ (ds ++ xs)
      joined_words done v c ds b =
          take-paste out w.used xs (length xs) (omega (arith, words-fit)) (omega arith)
          ∙ ap (λ (l : List ℕ). take w.used out ++ l) (take-length xs)
          ∙ ap (λ (l : List ℕ). l ++ xs) b.words
          ∙ append_assoc done (marker v c (length ds) ∷ ds) xs

      words : (d : Draft) → Drawn out w d → take r.used (set pasted w.at m) ≡ body (foldl put d (map mixed xs))
      words blank b = absurd (omega (arith, b.tracks.same.2, j.some, j.few))
      words (draft done v c ds) b =
          let i = mixed-in done v c ds xs (omega (arith, b.tracks.same.4, j.few)) in
          let s : Tracks r (draft done v c (ds ++ xs)) = rw i at (grown-here (draft done v c ds) b.tracks) in
          let e = joined_words done v c ds b in
          let n = w.used + length xs in
          rw (i, more)
          (redrawn pasted n w.at m done (marker v c (length ds)) (ds ++ xs) e b.tracks.same.0 (omega (arith, at_low))
          ∙ ap (λ (z : ℕ). done ++ z ∷ (ds ++ xs)) (named ∙ rw (s.same.2, s.same.3, s.same.4)))
