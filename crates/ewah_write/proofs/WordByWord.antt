-- The draft of plain words grows word by word: all but the last are segments of 32 rows, and the last completes it.
-- Assumes nothing.
use Prim.Native.Nat.{ℕ, ◌+◌, ◌-◌, ◌≤◌, ◌<◌, ◌^◌}
use mathlib.Core.Path.{◌≡◌, refl, sym, ap, ap₂, ◌∙◌}
use mathlib.Core.List.{List, [], ◌∷◌}
use native.Mathlib.Omega.{arith}
use lib.ListN.{length, get_or, take}
use Rattle.std.proofs.lemmas.List.{length-take-le, get_or-take}
use Rattle.meaning.specs.Segment.{kind, kinds, last_rows}
use Rattle.meaning.specs.Canonical.{body, put, ewah_of}
use Rattle.laws.specs.Demands.{PlainRows}
use Rattle.laws.proofs.Segments.{kinds-length}
use Rattle.laws.proofs.Cut.{rows_inside, rows_end}
use Rattle.laws.proofs.Prefixes.{up_to, up_to-low, up_to-word, up_to-all}
use Rattle.ewah_write.specs.declared.writer.Writer.{Writer}
use Rattle.ewah_write.specs.Drafts.{Tracks}
use Rattle.ewah_write.proofs.Growing.{used-is}

pub no_words : (R : ℕ) (xs : List ℕ) → length xs ≡ 0 → [] ≡ ewah_of (kinds 32 R xs)
unfolding kinds ewah_of body
no_words R [] e = refl
no_words R (x ∷ xs) e = absurd (omega arith)

module _ {R : ℕ} {xs : List ℕ} (g : PlainRows R xs) (i : ℕ) where
  -- the words before the last
  abbrev front : List ℕ
  front = take (length xs - 1) xs

  front-length : length front ≡ length xs - 1
  front-length = length-take-le (length xs - 1) xs (omega arith)

  pub word-inside : i < length front
      → up_to (kinds 32 R xs) (i + 1) ≡ put (up_to (kinds 32 R xs) i) (kind 32 (get_or front i 0))
  word-inside h =
      let below : i < length xs - 1 = omega (arith, front-length) in
      let rows = rows_inside 32 (omega arith) R i (omega (arith, g.count)) in
      up_to-word R xs i g.count (omega arith)
      ∙ ap (put (up_to (kinds 32 R xs) i)) (ap₂ kind rows (sym (get_or-take (length xs - 1) xs i 0 below)))

  -- x is the last word as the writer takes it
  pub word-last : (length xs ≡ 0 → ⊥) → i ≤ length front → length front ≤ i → (x : ℕ)
      → kind 32 x ≡ kind (last_rows 32 R) (get_or xs (length xs - 1) 0)
      → body (put (up_to (kinds 32 R xs) i) (kind 32 x)) ≡ ewah_of (kinds 32 R xs)
  word-last some low high x e =
      let last : i ≡ length xs - 1 = omega (arith, front-length) in
      let rows = rows_end 32 (omega arith) R i (omega (arith, g.count)) in
      let k : kind (last_rows 32 R) (get_or xs i 0) ≡ kind 32 x = rw last (sym e) in
      ap body (sym (rw (rows, k) at (up_to-word R xs i g.count (omega arith))))
      ∙ up_to-all (kinds 32 R xs) (i + 1) (omega (arith, kinds-length 32 R xs))

  -- the writer stays in range
  pub used_low : {w : Writer} → i ≤ length front → length xs < 2 ^ 61 → Tracks w (up_to (kinds 32 R xs) i) → w.used < 2 ^ 62
  used_low low few t = omega (arith, front-length, used-is _ t, up_to-low (kinds 32 R xs) i)
