-- The words that an answer over a list can have at most.
-- Assumes nothing.
use Prim.Native.Nat.{ℕ, suc, ◌+◌, ◌*◌, ◌≤◌, ◌<◌}
use mathlib.Core.Bool.{Bool}
use mathlib.Core.Path.{◌≡◌, sym, subst, subst₂}
use mathlib.Core.List.{List}
use native.Mathlib.Omega.{arith}
use native.Mathlib.Numerals.{add-one}
use lib.ListN.{length, drop, get_or, drop_of_length-le}
use lib.Seq.{drop-cons}
use Rattle.meaning.specs.Format.{canonical}
use Rattle.meaning.specs.declared.Format.{Format}
use Rattle.meaning.specs.Index.{format_of, row_count, length_of, body_at}
use Rattle.meaning.specs.Question.{held, total_words, stretches}
use Rattle.laws.specs.Ahead.{answer_rows}
use Rattle.meaning.specs.Answer.{named, named_bodies}
use Rattle.laws.specs.Laws.{EntryFacts}
use Rattle.laws.proofs.Demanded.{named-is, twice-stretches}
use Rattle.laws.proofs.IndexSound.{index-means}
use Rattle.laws.proofs.Stretches.{stretches-le}
use Rattle.contents.proofs.Places.{body-length}
use Rattle.merge.specs.declared.evaluate.Operation.{Operation}
use Rattle.merge.specs.Operations.{chosen}
use Rattle.walk.specs.Queries.{Listed}
use Rattle.merge.specs.Merges.{Walkable, bodies_of, answer_body}

module _ (index list : List ℕ) where
  -- ---- the words of the named bodies, one by one

  module _ (i total v : ℕ) (inv : total + total_words (named_bodies index (drop i list)) ≡ v) where
    opened : i < length list → total + (length (body_at index (get_or list i 0)) + total_words (named_bodies index (drop (suc i) list))) ≡ v
    unfolding total_words named_bodies
    opened h = rw (drop-cons list i 0 h) at inv

    ended : length list ≤ i → total + 0 ≡ v
    unfolding total_words named_bodies
    ended h = rw (drop_of_length-le list h) at inv

    pub words-next : EntryFacts index → Listed index list → i < length list → (n : ℕ) → n ≡ length_of index (get_or list i 0) → total + n + total_words (named_bodies index (drop (i + 1) list)) ≡ v
    words-next f l h n e =
        subst (λ (k : ℕ). total + n + total_words (named_bodies index (drop k list)) ≡ v) (sym (add-one i)) (omega (arith, opened h, e, body-length index (get_or list i 0) f (l.its i h)))

    pub words-end : length list ≤ i → total ≡ v
    words-end h = omega (arith, ended h)

  -- ---- the most that an answer has

  module _ (op : Operation) (table : List ℕ) where
    -- as a body of the index's rows
    pub body-most : (F : Format) (R n : ℕ) → F ≡ format_of index → R ≡ row_count index
        → ((p : ℕ → Bool) → length (canonical F R p) ≤ n) → length (answer_body index list op table) ≤ n
    unfolding answer_body
    body-most F R n f e h =
        let G = format_of index in
        subst₂ (λ (H : Format) (r : ℕ). ((p : ℕ → Bool) → length (canonical H r p) ≤ n)) f e h
        (answer_rows G (chosen op table) (bodies_of index list))

    -- as an answer over these bodies
    module _ (w : Walkable index list) where
      twice_ends : length (answer_body index list op table) ≤ 2 * stretches (format_of index) (row_count index) (named_bodies index list)
      unfolding answer_body answer_rows named
      twice_ends =
          subst (λ (ps : List (ℕ → Bool)). length (canonical (format_of index) (row_count index) (λ (r : ℕ). chosen op table (held ps r))) ≤ 2 * stretches (format_of index) (row_count index) (named_bodies index list)) (named-is index list)
          (twice-stretches index list (chosen op table) ((index-means index).1 w.facts) w.some w.listed.its)

      pub twice_most : length (answer_body index list op table) ≤ 2 * total_words (named_bodies index list)
      twice_most = omega (arith, twice_ends, stretches-le (format_of index) (row_count index) (named_bodies index list))
