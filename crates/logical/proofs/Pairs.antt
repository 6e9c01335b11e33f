-- Logical questions: what is chosen of a list of one, two or three bitmaps, and the words alone of an answer.
-- Assumes nothing.
use Prim.Native.Nat.{ℕ, ◌+◌, ◌≤◌}
use mathlib.Core.Bool.{Bool, true, false, not, ◌&&◌, ◌||◌, xor}
use mathlib.Core.Path.{◌≡◌, refl, sym, ap, ◌∙◌, subst}
use mathlib.Core.List.{List, [], ◌∷◌, map}
use lib.Dec.{eqb, leb}
use lib.ListN.{length}
use Rattle.meaning.specs.Limits.{most_named}
use Rattle.meaning.specs.Rows.{bit}
use Rattle.meaning.specs.Refusal.{Outcome, refused, refuse_if}
use Rattle.meaning.specs.Format.{canonical}
use Rattle.meaning.specs.Index.{format_of, row_count, rows_at}
use Rattle.meaning.specs.Question.{held, intersection, union, symmetric_difference, difference, complement}
use Rattle.laws.specs.Ahead.{answer_rows}
use Rattle.meaning.specs.Answer.{bad_bitmap, any_bad, named, write, fits}
use Rattle.laws.proofs.Demanded.{named-is, good-each}
use Rattle.laws.proofs.Formats.{canonical-ext}
use Rattle.merge.specs.declared.evaluate.Operation.{Operation}
use Rattle.merge.specs.declared.evaluate.Operation.TheVariants as operation
use Rattle.merge.specs.Operations.{chosen}
use Rattle.walk.specs.Queries.{Listed}
use Rattle.merge.specs.Merges.{answer_body}
use Rattle.answers.specs.declared.refusal.Refusal.{Refusal}
use Rattle.std.specs.Prelude.{Result, Ok, Err}
use Rattle.std.specs.Result.{IsErrAnd}
use Rattle.answers.specs.declared.answer.Report.{Report}
use Rattle.answers.specs.declared.refusal.Fault.TheVariants.{BadArgument}
use Rattle.answers.specs.Told.{refused_by, refusal, Reported, Wrote, answered_of, words_in, written_of, words_of}
use Rattle.answers.proofs.Tells.{wrote-refused}

-- ---- the words alone: what a question over a list reports, without its stretches

module _ (index list : List ℕ) (o : Outcome (List ℕ)) (out out' : List ℕ) where
  pub alone-words : (a : Result Report Refusal) (n : Report) → a ≡ Ok n → Reported index list o a out out' → Wrote o (Ok n.words) out out'
  unfolding answered_of words_in written_of words_of
  alone-words a n e w = let v = subst (λ (x : Result Report Refusal). Reported index list o x out out') e w in record { told = v.told; words = v.words; left = v.left }

  pub alone-refused : (a : Result Report Refusal) (x : Refusal) (r : Result ℕ Refusal) → a ≡ Err x → IsErrAnd r (λ y. y ≡ x)
      → Reported index list o a out out' → Wrote o r out out'
  unfolding answered_of words_in written_of words_of
  alone-refused a x (Ok n) e g w = elim g [ ]
  alone-refused a x (Err y) e g w =
      let v = subst (λ (x : Result Report Refusal). Reported index list o x out out') e w in
      rw g (record { told = v.told; words = v.words; left = v.left })

-- ---- the rows chosen, by any name

pub chosen-body : (index list : List ℕ) (op : Operation) (room : ℕ) (p : ℕ → Bool) → ((i : ℕ) → chosen op [] (held (named index list) i) ≡ p i)
    → fits room (answer_body index list op []) ≡ write (format_of index) (row_count index) p room
unfolding answer_body answer_rows named write
chosen-body index list op room p h =
    ap (λ (ps : List (ℕ → Bool)). fits room (canonical (format_of index) (row_count index) (λ (r : ℕ). chosen op [] (held ps r)))) (sym (named-is index list))
    ∙ ap (fits room) (canonical-ext (format_of index) (row_count index) (λ (r : ℕ). chosen op [] (held (map (rows_at index) list) r)) p (λ r g. h r))

-- one, two or three bitmaps
module _ (index : List ℕ) (j k : ℕ) where
  pub and-rows : (i : ℕ) → chosen (operation.AtLeast 2) [] (held (named index (j ∷ k ∷ [])) i) ≡ intersection (rows_at index j) (rows_at index k) i
  unfolding chosen held named intersection bit
  and-rows i = both (rows_at index j i) (rows_at index k i)
    where
      both : (a b : Bool) → leb 2 (bit a + (bit b + 0)) ≡ a && b
      both false false = refl
      both false true = refl
      both true false = refl
      both true true = refl

  pub or-rows : (i : ℕ) → chosen (operation.AtLeast 1) [] (held (named index (j ∷ k ∷ [])) i) ≡ union (rows_at index j) (rows_at index k) i
  unfolding chosen held named union bit
  or-rows i = either (rows_at index j i) (rows_at index k i)
    where
      either : (a b : Bool) → leb 1 (bit a + (bit b + 0)) ≡ a || b
      either false false = refl
      either false true = refl
      either true false = refl
      either true true = refl

  pub xor-rows : (i : ℕ) → chosen (operation.Exactly 1) [] (held (named index (j ∷ k ∷ [])) i) ≡ symmetric_difference (rows_at index j) (rows_at index k) i
  unfolding chosen held named symmetric_difference bit xor
  xor-rows i = one (rows_at index j i) (rows_at index k i)
    where
      one : (a b : Bool) → eqb (bit a + (bit b + 0)) 1 ≡ xor a b
      one false false = refl
      one false true = refl
      one true false = refl
      one true true = refl

  -- k twice: only where j alone has a row is the number 1
  pub and-not-rows : (i : ℕ) → chosen (operation.Exactly 1) [] (held (named index (j ∷ k ∷ k ∷ [])) i) ≡ difference (rows_at index j) (rows_at index k) i
  unfolding chosen held named difference bit
  and-not-rows i = alone (rows_at index j i) (rows_at index k i)
    where
      alone : (a b : Bool) → eqb (bit a + (bit b + (bit b + 0))) 1 ≡ a && not b
      alone false false = refl
      alone false true = refl
      alone true false = refl
      alone true true = refl

pub not-rows : (index : List ℕ) (k i : ℕ) → chosen (operation.Exactly 0) [] (held (named index (k ∷ [])) i) ≡ complement (rows_at index k) i
unfolding chosen held named complement bit
not-rows index k i = none (rows_at index k i)
  where
    none : (b : Bool) → eqb (bit b + 0) 0 ≡ not b
    none false = refl
    none true = refl

-- ---- what is refused

module _ (out : List ℕ) (bad : Bool) (rest : Outcome (List ℕ)) where
  pub bad-refused : bad ≡ true → (r : Refusal) → r ≡ refusal BadArgument 0 → Wrote (refuse_if bad 8 0 0 rest) (Err r) out out
  unfolding refuse_if
  bad-refused h r e = rw h (wrote-refused out r (refused 8 0 0) (ap refused_by e))

  pub good-rest : bad ≡ false → (r : Result ℕ Refusal) (out' : List ℕ) → Wrote rest r out out' → Wrote (refuse_if bad 8 0 0 rest) r out out'
  unfolding refuse_if
  good-rest h r out' w = rw h w

-- which numbers a list names
or_same : (b : Bool) → b || b ≡ b
or_same true = refl
or_same false = refl

or-none : (b : Bool) → b || false ≡ b
or-none true = refl
or-none false = refl

module _ (index : List ℕ) (j k : ℕ) where
  pub one-bad : any_bad index (k ∷ []) ≡ bad_bitmap index k
  unfolding any_bad
  one-bad = or-none (bad_bitmap index k)

  pub two-bad : any_bad index (j ∷ k ∷ []) ≡ bad_bitmap index j || bad_bitmap index k
  unfolding any_bad
  two-bad = ap (λ (b : Bool). bad_bitmap index j || b) (or-none (bad_bitmap index k))

  pub twice-bad : any_bad index (j ∷ k ∷ k ∷ []) ≡ bad_bitmap index j || bad_bitmap index k
  unfolding any_bad
  twice-bad = ap (λ (b : Bool). bad_bitmap index j || (bad_bitmap index k || b)) (or-none (bad_bitmap index k)) ∙ ap (λ (b : Bool). bad_bitmap index j || b) (or_same (bad_bitmap index k))

pub listed : (index list : List ℕ) → length list ≤ most_named → any_bad index list ≡ false → Listed index list
listed index list h e = record { most = h; its = good-each index list e }
