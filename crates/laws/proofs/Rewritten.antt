-- Rewriting keeps the rows, and back again gives the canonical form: `RewriteLaws` holds.
-- Assumes nothing.
use Prim.Native.Nat.{ℕ, zero, suc, ◌≤◌}
use mathlib.Core.Path.{◌≡◌, refl, ap, ◌∙◌}
use native.Mathlib.Omega.{arith}
use lib.ListN.{length}
use mathlib.Core.List.{List}
use Rattle.meaning.specs.Limits.{most_bitmaps}
use Rattle.meaning.specs.Refusal.{answer}
use Rattle.meaning.specs.Format.{rows_of, canonical}
use Rattle.meaning.specs.declared.Format.{Format}
use Rattle.meaning.specs.Index.{row_count, bitmap_count, rows_at, index_fault}
use Rattle.meaning.specs.Answer.{write, check_body, bitmap_refusal, check}
use Rattle.laws.specs.ColumnLaws.{NewIndex}
use Rattle.laws.specs.Laws.{Answers}
use Rattle.laws.specs.RewriteLaws.{RewriteLaws}
use Rattle.meaning.specs.Rewriting.{rewrite, rewrite_bitmap, sets_from, rewrite_index}
use Rattle.laws.proofs.Outcomes.{then-answer, fits-answer}
use Rattle.laws.proofs.Formats.{canonical-rows, canonical-ext}
use Rattle.laws.proofs.Answering.{written}
use Rattle.laws.proofs.IndexSound.{index-means}
use Rattle.laws.proofs.NewIndexes.{new-index-holds}

-- what is written
is-canonical : (F G : Format) (R : ℕ) (body : List ℕ) (room : ℕ) (b : List ℕ) → rewrite F G R body room ≡ answer b → b ≡ canonical G R (rows_of F body)
unfolding rewrite write
is-canonical F G R body room b e = fits-answer room (canonical G R (rows_of F body)) b (then-answer (check_body F R body) _ b e).1

keeps : (F G : Format) (R : ℕ) (body : List ℕ) (room : ℕ) (b : List ℕ) → rewrite F G R body room ≡ answer b → Answers G R (rows_of F body) b
unfolding rewrite
keeps F G R body room b e = written G R (rows_of F body) room b (then-answer (check_body F R body) _ b e).1

back : (F G : Format) (R : ℕ) (body : List ℕ) (room room' : ℕ) (b c : List ℕ) → rewrite F G R body room ≡ answer b → rewrite G F R b room' ≡ answer c
    → c ≡ canonical F R (rows_of F body)
back F G R body room room' b c e f =
    is-canonical G F R b room' c f
    ∙ ap (λ (l : List ℕ). canonical F R (rows_of G l)) (is-canonical F G R body room b e)
    ∙ canonical-ext F R (rows_of G (canonical G R (rows_of F body))) (rows_of F body) (λ r h. canonical-rows G R (rows_of F body) r h)

of-bitmap : (index : List ℕ) (k : ℕ) (G : Format) (room : ℕ) (b : List ℕ) → rewrite_bitmap index k G room ≡ answer b → Answers G (row_count index) (rows_at index k) b
unfolding rewrite_bitmap
of-bitmap index k G room b e = written G (row_count index) (rows_at index k) room b (then-answer (bitmap_refusal index k) _ b e).1

pub sets-length : (index : List ℕ) (k more : ℕ) → length (sets_from index k more) ≡ more
unfolding sets_from
sets-length index k zero = refl
sets-length index k (suc more) = ap suc (sets-length index (suc k) more)

of-index : (index : List ℕ) (G : Format) (room : ℕ) (b : List ℕ) → rewrite_index index G room ≡ answer b
    → NewIndex G (row_count index) (sets_from index 0 (bitmap_count index)) b
unfolding rewrite_index check
of-index index G room b e =
    let sets = sets_from index 0 (bitmap_count index) in
    let p = then-answer (index_fault index) _ b e in
    let f = ((index-means index).0 p.0).head in
    let few : length sets ≤ most_bitmaps = omega (arith, sets-length index 0 (bitmap_count index), f.few-bitmaps) in
    new-index-holds G (row_count index) sets room b f.few-rows few p.1

pub rewrite-laws : RewriteLaws
rewrite-laws = record { keeps = keeps; back = back; of-bitmap = of-bitmap; of-index = of-index }
