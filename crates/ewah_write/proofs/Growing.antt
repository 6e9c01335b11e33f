-- The writer's state grows as the draft that it stands for.
-- Assumes nothing.
use Prim.Native.Nat.{ℕ, ◌+◌, ◌-◌, ◌%◌, ◌≤◌, ◌<◌}
use mathlib.Core.Bool.{Bool, true, false, cond, ◌&&◌}
use mathlib.Core.Path.{◌≡◌, refl, sym, ap, ◌∙◌}
use mathlib.Core.List.{[], ◌∷◌}
use native.Mathlib.Omega.{arith}
use borrow.Author.Tests.{eqb-true}
use lib.Bits.{bit_and, and_mask}
use lib.Dec.{eqb}
use lib.ListN.{length, replicate, length-append}
use Rattle.meaning.specs.Limits.{most_clean, most_dirty}
use Rattle.meaning.specs.Segment.{clean, mixed, kind}
use Rattle.meaning.specs.Canonical.{Draft, blank, draft, body}
use Rattle.laws.proofs.Segments.{both}
use Rattle.laws.proofs.Least.{size, size-draft, taken}
use Rattle.laws.proofs.Runs.{room, longer, longer-length, run-within, run-over, mixed-in, mixed-new}
use Rattle.ewah_write.specs.declared.writer.Writer.{Writer}
use Rattle.ewah.specs.Markers.{InRange}
use Rattle.ewah_write.specs.Drafts.{Same, Tracks, Grown, free_of}

pub used-is : {w : Writer} (d : Draft) → Tracks w d → w.used ≡ length (body d)
unfolding body
used-is blank t = t.same.0
used-is (draft done v c ds) t = t.same.1 ∙ sym (unfold size in size-draft done v c ds)

pub free-is : (w : Writer) (d : Draft) (v : ℕ) → Tracks w d → free_of w v ≡ room v d
unfolding free_of room
free-is w blank v t = rw t.same.2
free-is w (draft done u c ds) v t = rw (t.same.2, t.same.3, t.same.4)

free-low : (w : Writer) (v : ℕ) → free_of w v ≤ most_clean - w.last.clean
unfolding free_of
free-low w v = go (eqb w.last.dirty 0 && eqb w.last.value v)
  where
    go : (t : Bool) → cond t (most_clean - w.last.clean) 0 ≤ most_clean - w.last.clean
    go true = omega arith
    go false = omega arith

pub free_open : (w : Writer) (v : ℕ) → 0 < free_of w v → (w.last.dirty ≡ 0) × (w.last.value ≡ v) × (free_of w v ≡ most_clean - w.last.clean)
unfolding free_of
free_open w v h = go (eqb w.last.dirty 0 && eqb w.last.value v) refl h
  where
    go : (t : Bool) → (eqb w.last.dirty 0 && eqb w.last.value v) ≡ t → 0 < cond t (most_clean - w.last.clean) 0
        → (w.last.dirty ≡ 0) × (w.last.value ≡ v) × (cond t (most_clean - w.last.clean) 0 ≡ most_clean - w.last.clean)
    go true e h = let p = both (eqb w.last.dirty 0) (eqb w.last.value v) e in (eqb-true w.last.dirty 0 p.0, eqb-true w.last.value v p.1, refl)
    go false e h = absurd (omega arith)

-- a marker with room has its place
pub free-placed : (w : Writer) (v : ℕ) (d : Draft) → Tracks w d → 0 < free_of w v → w.at < w.used
free-placed w v blank t h = absurd (unfold room in omega (arith, free-is w blank v t))
free-placed w v (draft done u c ds) t h = omega (arith, t.same.0, t.same.1)

-- n clean segments more in the last marker
abbrev pub joined : Writer → ℕ → Writer
joined w n = record { used = w.used; at = w.at; last = record { value = w.last.value; clean = w.last.clean + n; dirty = w.last.dirty } }

-- a run that the last marker takes whole
pub grown-in : (w : Writer) (v n k : ℕ) → k ≡ free_of w v → n ≤ k → Grown w (replicate n (clean v)) (joined w n)
grown-in w v n k e h d t =
    let f : free_of w v ≡ room v d = free-is w d v t in
    rw (run-within d v n (omega arith)) (record { same = go d t f; in-range = ranged })
  where
    go : (d : Draft) → Tracks w d → free_of w v ≡ room v d → Same (joined w n) (longer d n)
    go blank t f = unfold longer room in (t.same.0, omega arith, t.same.2)
    go (draft done u c ds) t f = unfold longer in (t.same.0, t.same.1, t.same.2, omega arith, t.same.4)

    ranged : InRange (joined w n).last
    ranged = let r = t.in-range in record { value_low = r.value_low; clean-low = omega (arith, free-low w v); dirty-low = r.dirty-low }

-- a new marker with a run of n
abbrev begun : Writer → (v n : ℕ) → Writer
begun w v n = record { used = w.used + 1; at = w.used; last = record { value = v; clean = n; dirty = 0 } }

-- a run that goes on under a new marker
pub grown-over : (w : Writer) (v n k : ℕ) → k ≡ free_of w v → k < n → n ≤ most_clean → v < 2 → Grown w (replicate n (clean v)) (begun w v (n - k))
grown-over w v n k e h l g d t =
    let f : free_of w v ≡ room v d = free-is w d v t in
    let u : w.used ≡ length (body (longer d (room v d))) = used-is d t ∙ sym (longer-length d (room v d)) in
    rw (run-over d v n (omega arith) l)
    (record {
      same = (u, omega arith, refl, omega arith, refl);
      in-range = record { value_low = g; clean-low = omega arith; dirty-low = omega arith };
    })

-- one dirty word more under the last marker
abbrev counted : Writer → Writer
counted w = record { used = w.used + 1; at = w.at; last = record { value = w.last.value; clean = w.last.clean; dirty = w.last.dirty + 1 } }

pub grown-dirty : (w : Writer) → w.last.dirty < most_dirty → (x : ℕ) → Grown w (mixed x ∷ []) (counted w)
grown-dirty w h x blank t = absurd (omega (arith, t.same.2))
grown-dirty w h x (draft done v c ds) t =
    let l = length-append ds (x ∷ []) in
    let s = t.same in
    let r = t.in-range in
    rw (mixed-in done v c ds (x ∷ []) (omega (arith, s.4)))
    (record {
      same = (s.0, omega arith, s.2, s.3, omega arith);
      in-range = record { value_low = r.value_low; clean-low = r.clean-low; dirty-low = omega arith };
    })

-- a new marker with one dirty word
abbrev opened : Writer → Writer
opened w = record { used = w.used + 2; at = w.used; last = record { value = 0; clean = 0; dirty = 1 } }

pub taken_is : {w : Writer} (d : Draft) → Tracks w d → w.last.dirty ≡ taken d
unfolding taken
taken_is blank t = t.same.2
taken_is (draft done v c ds) t = t.same.4

pub grown-opened : (w : Writer) → most_dirty ≤ w.last.dirty → (x : ℕ) → Grown w (mixed x ∷ []) (opened w)
grown-opened w h x d t =
    let k = taken_is d t in
    rw (mixed-new d x [] (omega arith) (omega arith))
    (record {
      same = (used-is d t, omega (arith, used-is d t), refl, refl, refl);
      in-range = record { value_low = omega arith; clean-low = omega arith; dirty-low = omega arith };
    })

-- ---- the kind of a segment of w rows, where `words::rows::is_clean` told t of its word x

module _ (w x : ℕ) (t : Bool) (h : kind w x ≡ cond t (clean (x % 2)) (mixed x)) where
  pub kind-clean : t ≡ true → kind w x ≡ clean (bit_and x 1)
  kind-clean e = h ∙ ap (λ (q : Bool). cond q (clean (x % 2)) (mixed x)) e ∙ ap clean (sym (and_mask x 1))

  pub kind-other : t ≡ false → kind w x ≡ mixed x
  kind-other e = h ∙ ap (λ (q : Bool). cond q (clean (x % 2)) (mixed x)) e
