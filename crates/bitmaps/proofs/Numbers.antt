-- A bitmap's number, and what holds of a bitmap that is there.
-- Assumes nothing.
use Prim.Native.Nat.{ℕ, ◌≤◌, ◌<◌}
use mathlib.Core.Bool.{Bool}
use mathlib.Core.Path.{◌≡◌, sym, ap, ap₂, ◌∙◌, subst, subst₂}
use mathlib.Core.List.{List}
use borrow.Author.Tests.{le-leb, lt-leb}
use Rattle.meaning.specs.Limits.{most_rows}
use Rattle.meaning.specs.Refusal.{refused, sound, refuse_if}
use Rattle.meaning.specs.Format.{rows_of}
use Rattle.meaning.specs.declared.Format.{Format}
use Rattle.meaning.specs.Index.{format_of, row_count, bitmap_count, body_at, rows_at}
use Rattle.meaning.specs.Answer.{bad_bitmap}
use Rattle.laws.specs.Laws.{SoundFacts, IndexFacts}

module _ (index : List ℕ) (k n : ℕ) (is : n ≡ bitmap_count index) where
  pub number-bad : n ≤ k → refused 8 0 0 ≡ refuse_if (bad_bitmap index k) 8 0 0 sound
  unfolding bad_bitmap refuse_if
  number-bad h = rw (← is, le-leb n k h)

  pub number-good : k < n → sound ≡ refuse_if (bad_bitmap index k) 8 0 0 sound
  unfolding bad_bitmap refuse_if
  number-good h = rw (← is, lt-leb n k h)

-- the format, the rows and the body as they were read
module _ (index : List ℕ) (k : ℕ) (f : IndexFacts index) (below : k < bitmap_count index) where
  pub rows_as : (R : ℕ) → R ≡ row_count index → R ≤ most_rows
  rows_as R e = rw e f.head.few-rows

  pub facts-as : (F : Format) (R : ℕ) (b : List ℕ) → F ≡ format_of index → R ≡ row_count index → b ≡ body_at index k → SoundFacts F R b
  facts-as F R b e g h =
      subst (λ (G : Format). SoundFacts G R b) (sym e)
      (subst₂ (λ (n : ℕ) (l : List ℕ). SoundFacts (format_of index) n l) (sym g) (sym h) (f.bodies k below))

  -- so what is asked of them is asked of the bitmap: of its body, and of its rows
  pub written_as : (A : Type 0) (ask : Format → ℕ → List ℕ → A) (F : Format) (R : ℕ) (b : List ℕ)
      → F ≡ format_of index → R ≡ row_count index → b ≡ body_at index k → ask F R b ≡ ask (format_of index) (row_count index) (body_at index k)
  written_as A ask F R b e g h = ap (λ (G : Format). ask G R b) e ∙ ap₂ (ask (format_of index)) g h

  pub asked-as : (A : Type 0) (ask : ℕ → (ℕ → Bool) → A) (F : Format) (R : ℕ) (b : List ℕ)
      → F ≡ format_of index → R ≡ row_count index → b ≡ body_at index k → ask R (rows_of F b) ≡ ask (row_count index) (rows_at index k)
  unfolding rows_at
  asked-as A ask = written_as A (λ F R b. ask R (rows_of F b))
