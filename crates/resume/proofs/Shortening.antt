-- The writer before the last segment: its last marker counts one segment fewer, or it is the writer before that marker.
-- Assumes nothing.
use Prim.Native.Nat.{ℕ, ◌+◌, ◌-◌, ◌≤◌, ◌<◌}
use mathlib.Core.Path.{◌≡◌, refl, sym, ap, ap₂, ◌∙◌, subst}
use mathlib.Core.List.{List, [], ◌∷◌, ◌++◌, append_assoc}
use lib.ListN.{length, get_or, take, drop, set, length-drop}
use lib.Seq.{take-add, take-suc-set, drop-set-lt, length-take-le, get_or-take, get_or_at, set-get_or}
use native.Mathlib.Omega.{arith}
use native.Mathlib.Numerals.{add-one}
use Rattle.meaning.specs.Ewah.{marker}
use Rattle.meaning.specs.Canonical.{Draft, blank, draft, body}
use Rattle.ewah_write.specs.declared.writer.Writer.{Writer}
use Rattle.ewah_write.specs.Drafts.{Drawn}
use Rattle.ewah_write.proofs.Growing.{used-is}
use Rattle.resume.specs.Resume.{restored, draft_of, Resumes, LastMarker}

-- where the words of a draft stand, its last marker does too
pub drawn-resumes : {b : List ℕ} {w : Writer} (d : Draft) → Drawn b w d → w.used ≤ length b → Resumes b w d
unfolding body
drawn-resumes {b} {w} blank r h =
    record { tracks = r.tracks; inside = h; words = ap (λ (n : ℕ). take n (restored b w)) r.tracks.same.0 }
drawn-resumes {b} {w} (draft done v c ds) r h =
    let s = r.tracks.same in
    let there : get_or b w.at 0 ≡ marker v c (length ds) =
    sym (get_or-take w.used b w.at 0 (omega (arith, s.0, s.1)))
    ∙ ap (λ (l : List ℕ). get_or l w.at 0) r.words
    ∙ get_or_at done (marker v c (length ds)) ds 0 w.at (sym s.0) in
    let same : restored b w ≡ b = rw (s.2, s.3, s.4, ← there) (set-get_or b w.at 0) in
    record { tracks = r.tracks; inside = h; words = ap (take w.used) same ∙ r.words }

-- one word is stored at n: the words before it, it, and d behind it
stored : (b : List ℕ) (n d a : ℕ) → n < length b → take (n + 1 + d) (set b n a) ≡ take n b ++ a ∷ take d (drop (n + 1) b)
stored b n d a h =
    take-add (n + 1) d (set b n a)
    ∙ ap₂ (λ (k l : List ℕ). k ++ take d l)
    (ap (λ (k : ℕ). take k (set b n a)) (add-one n) ∙ take-suc-set b n a h)
    (drop-set-lt (n + 1) b n a (omega arith))
    ∙ append_assoc (take n b) (a ∷ []) (take d (drop (n + 1) b))

module _ {b : List ℕ} {n : ℕ} {before w : Writer} (l : LastMarker b n before w) where
  -- the writer with a last marker of c clean segments and d dirty words
  abbrev having : (c d used : ℕ) → Writer
  having c d used = record { used = used; at = w.at; last = record { value = w.last.value; clean = c; dirty = d } }

  first-resume : (c d used : ℕ) → 0 < c + d → c ≤ w.last.clean → d ≤ w.last.dirty → (0 < d → c ≡ w.last.clean)
      → used ≡ w.at + 1 + d → Resumes b (having c d used) (draft_of b (l.earlier + (c + d)))
  unfolding body
  first-resume c d used some hc hd full e =
      let place : w.at ≡ length (body (draft_of b l.earlier)) = l.at-is ∙ used-is (draft_of b l.earlier) l.drawn.tracks in
      let size : length (take d (drop (w.at + 1) b)) ≡ d =
      length-take-le d (drop (w.at + 1) b) (omega (arith, length-drop (w.at + 1) b, l.used-is, l.inside)) in
      let front : take w.at b ≡ body (draft_of b l.earlier) = rw l.at-is l.drawn.words in
      rw (l.fewer c d some hc hd full)
      (record {
        tracks = record {
          same = (place, omega arith, refl, refl, sym size);
          in-range = record {
            value_low = l.in-range.value_low;
            clean-low = omega (arith, l.in-range.clean-low);
            dirty-low = omega (arith, l.in-range.dirty-low);
          };
        };
        inside = omega (arith, l.used-is, l.inside);
        words =
            ap (λ (k : ℕ). take k (restored b (having c d used))) e
            ∙ stored b w.at d (marker w.last.value c d) (omega (arith, l.used-is, l.inside))
            ∙ ap₂ (λ (k : List ℕ) (z : ℕ). k ++ marker w.last.value c z ∷ take d (drop (w.at + 1) b)) front (sym size);
      })

  -- it counts that segment alone
  pub none_left : w.last.clean + w.last.dirty ≡ 1 → Resumes b before (draft_of b (n - 1))
  none_left one =
      let e : l.earlier ≡ n - 1 = omega (arith, l.counts) in
      subst (λ (k : ℕ). Resumes b before (draft_of b k)) e
      (drawn-resumes (draft_of b l.earlier) l.drawn (omega (arith, l.at-is, l.used-is, l.inside)))

  -- it is a dirty word
  pub word_back : (w.last.clean + w.last.dirty ≡ 1 → ⊥) → (w.last.dirty ≡ 0 → ⊥)
      → Resumes b (having w.last.clean (w.last.dirty - 1) (w.used - 1)) (draft_of b (n - 1))
  word_back more some =
      let e : l.earlier + (w.last.clean + (w.last.dirty - 1)) ≡ n - 1 = omega (arith, l.counts) in
      subst (λ (k : ℕ). Resumes b (having w.last.clean (w.last.dirty - 1) (w.used - 1)) (draft_of b k)) e
      (first-resume w.last.clean (w.last.dirty - 1) (w.used - 1) (omega (arith, l.some)) (omega arith) (omega arith)
      (λ p. refl) (omega (arith, l.used-is)))

  -- it is of the clean run
  pub run-back : (w.last.clean + w.last.dirty ≡ 1 → ⊥) → w.last.dirty ≡ 0
      → Resumes b (having (w.last.clean - 1) 0 w.used) (draft_of b (n - 1))
  run-back more none =
      let e : l.earlier + (w.last.clean - 1 + 0) ≡ n - 1 = omega (arith, l.counts) in
      subst (λ (k : ℕ). Resumes b (having (w.last.clean - 1) 0 w.used) (draft_of b k)) e
      (first-resume (w.last.clean - 1) 0 w.used (omega (arith, l.some)) (omega arith) (omega arith)
      (λ p. absurd (omega arith)) (omega (arith, l.used-is)))
