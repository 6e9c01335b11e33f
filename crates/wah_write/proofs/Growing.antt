-- The writer's state grows as the WAH draft that it stands for.
-- Assumes nothing.
use Prim.Native.Nat.{ℕ, ◌+◌, ◌≤◌, ◌<◌}
use mathlib.Core.Path.{◌≡◌, refl, sym, ◌∙◌}
use mathlib.Core.Logic.{◌⊎◌, inl, inr}
use mathlib.Core.List.{[], ◌∷◌, ◌++◌}
use native.Mathlib.Omega.{arith}
use lib.ListN.{length, replicate, length-append}
use Rattle.meaning.specs.Limits.{most_fill}
use Rattle.meaning.specs.Segment.{clean, mixed}
use Rattle.meaning.specs.Wah.{WahDraft, wah_draft, run_words, wah_body, wah_put}
use Rattle.laws.proofs.WahSize.{body-length, run_in}
use Rattle.ewah_write.specs.declared.writer.Writer.{Writer}
use Rattle.wah_write.specs.WahDrafts.{WahTracks, Grown, ending}
use Rattle.wah_write.proofs.Runs.{last_run, Closed, run-new}

pub used-is : {w : Writer} (real : ℕ) (d : WahDraft) → WahTracks w d → w.used ≡ length (wah_body real d)
used-is real (wah_draft done v n) t = t.same.0 ∙ sym (body-length real (wah_draft done v n))

pub clean_is : {w : Writer} (d : WahDraft) → WahTracks w d → w.last.clean ≡ last_run d
clean_is (wah_draft done v n) t = t.same.2

module _ (w : Writer) (v n : ℕ) (low : v < 2) (some : 1 ≤ n) (fits : w.last.clean + n ≤ most_fill) where
  -- a run that goes on in the last one
  pub grown-in : (w.last.clean ≡ 0 → ⊥) → w.last.value ≡ v
      → Grown w (replicate n (clean v)) (ending w.used v (w.last.clean + n))
  grown-in z e (wah_draft done u c) t =
      let is : u ≡ v = sym t.same.1 ∙ e in
      let c-is : w.last.clean ≡ c = t.same.2 in
      rw (is, run_in done v c n (omega arith) (omega arith))
      (record {
        same = (omega (arith, t.same.0), refl, omega arith);
        in-fill = record { value_low = low; clean-low = omega arith; no-dirty = refl };
      })

  -- a run that is a new word
  pub grown-new : (w.last.clean ≡ 0) ⊎ (w.last.value ≡ v → ⊥)
      → Grown w (replicate n (clean v)) (ending (w.used + 1) v n)
  grown-new k d t =
      rw (run-new d v n some (omega arith) (closed d t k))
      (record {
        same = (omega (arith, used-is 31 d t), refl, refl);
        in-fill = record { value_low = low; clean-low = omega arith; no-dirty = refl };
      })
    where
      closed : (d : WahDraft) → WahTracks w d → (w.last.clean ≡ 0) ⊎ (w.last.value ≡ v → ⊥) → Closed v d
      closed (wah_draft done u c) t (inl e) = inl (sym t.same.2 ∙ e)
      closed (wah_draft done u c) t (inr h) = inr (λ e. h (t.same.1 ∙ e))

pub grown-literal : (w : Writer) (x : ℕ) → Grown w (mixed x ∷ []) (ending (w.used + 1) 0 0)
unfolding wah_put wah_body
grown-literal w x (wah_draft done u c) t =
    let l = length-append (done ++ run_words 31 u c) (x ∷ []) in
    record {
      same = (omega (arith, used-is 31 (wah_draft done u c) t), refl, refl);
      in-fill = record { value_low = omega arith; clean-low = omega arith; no-dirty = refl };
    }
