-- How many words a WAH draft has, and what one segment and one run add to them.
-- Assumes nothing.
use Prim.Native.Nat.{ℕ, zero, suc, ◌+◌, ◌≤◌, ◌<◌, min}
use mathlib.Core.Bool.{Bool, true, false, cond, ◌&&◌}
use mathlib.Core.Path.{◌≡◌, refl, sym, ap, ◌∙◌, subst}
use mathlib.Core.Logic.{◌⊎◌, inl, inr}
use mathlib.Core.List.{List, [], ◌∷◌, ◌++◌, foldl}
use lib.Dec.{eqb, ltb}
use lib.ListN.{length, replicate, length-append}
use native.Mathlib.Omega.{arith}
use borrow.Author.Tests.{ltb-true, lt-ltb, eq-eqb}
use Rattle.meaning.specs.Limits.{most_fill}
use Rattle.meaning.specs.Segment.{Segment, clean, mixed, last_rows}
use Rattle.meaning.specs.Wah.{WahDraft, wah_draft, run_words, wah_body, wah_put, wah_of}
use Rattle.laws.proofs.Segments.{both}

-- the finished words, and one for the run at the end
abbrev pub size : WahDraft → ℕ
size (wah_draft done v n) = length done + min n 1

-- a run at the end is one word
pub run-words : (real v n : ℕ) → length (run_words real v n) ≡ min n 1
unfolding run_words
run-words real v zero = refl
run-words real v (suc zero) = refl
run-words real v (suc (suc n)) = omega arith

-- however many rows the last segment has
pub body-length : (real : ℕ) (d : WahDraft) → length (wah_body real d) ≡ size d
unfolding wah_body
body-length real (wah_draft done v n) = omega (arith, length-append done (run_words real v n), run-words real v n)

-- of the segments of R rows in canonical form
pub wah-size : (R : ℕ) (ss : List Segment) → length (wah_of R ss) ≡ size (foldl wah_put (wah_draft [] 0 0) ss)
unfolding wah_of
wah-size R ss = body-length (last_rows 31 R) (foldl wah_put (wah_draft [] 0 0) ss)

-- a clean segment joins the run at the end, and no word is added, or begins one
put-either : (d : WahDraft) (b : ℕ)
    → (size (wah_put d (clean b)) ≡ size d) ⊎ (wah_put d (clean b) ≡ wah_draft (wah_body 31 d) b 1)
unfolding wah_put wah_body
put-either (wah_draft done v n) b = go (ltb 0 n && eqb v b && ltb n most_fill) refl
  where
    new : WahDraft
    new = wah_draft (done ++ run_words 31 v n) b 1

    go : (t : Bool) → (ltb 0 n && eqb v b && ltb n most_fill) ≡ t
        → (size (cond t (wah_draft done v (suc n)) new) ≡ length done + min n 1)
        ⊎ (cond t (wah_draft done v (suc n)) new ≡ new)
    go true e =
        let p = both (ltb 0 n && eqb v b) (ltb n most_fill) e in
        inl (omega (arith, ltb-true 0 n (both (ltb 0 n) (eqb v b) p.0).0))
    go false e = inr refl

-- a segment adds one word at most
pub put_one : (d : WahDraft) (s : Segment) → size (wah_put d s) ≤ size d + 1
put_one d (clean b) = go (put-either d b)
  where
    go : (size (wah_put d (clean b)) ≡ size d) ⊎ (wah_put d (clean b) ≡ wah_draft (wah_body 31 d) b 1)
        → size (wah_put d (clean b)) ≤ size d + 1
    go (inl e) = omega arith
    go (inr e) = rw e (omega (arith, body-length 31 d))
put_one (wah_draft done v n) (mixed x) =
    unfold wah_put in
    let old = done ++ run_words 31 v n in
    omega (arith, length-append old (x ∷ []), length-append done (run_words 31 v n), run-words 31 v n)

-- and many no more than they are
pub puts-add : (ss : List Segment) (d : WahDraft) → size (foldl wah_put d ss) ≤ size d + length ss
puts-add [] d = omega arith
puts-add (s ∷ ss) d = omega (arith, put_one d s, puts-add ss (wah_put d s))

-- the run is longer by one
put-more : (done : List ℕ) (b c : ℕ) → 0 < c → c < most_fill
    → wah_put (wah_draft done b c) (clean b) ≡ wah_draft done b (suc c)
unfolding wah_put
put-more done b c g h = rw (lt-ltb 0 c g, eq-eqb b b refl, lt-ltb c most_fill h)

-- a run goes on in a fill that has room for it
pub run_in : (done : List ℕ) (b c n : ℕ) → 0 < c → c + n ≤ most_fill
    → foldl wah_put (wah_draft done b c) (replicate n (clean b)) ≡ wah_draft done b (c + n)
run_in done b c zero g h = ap (λ (k : ℕ). wah_draft done b k) (omega arith)
run_in done b c (suc n) g h =
    ap (λ (d : WahDraft). foldl wah_put d (replicate n (clean b))) (put-more done b c g (omega arith))
    ∙ run_in done b (suc c) n (omega arith) (omega arith)
    ∙ ap (λ (k : ℕ). wah_draft done b k) (omega arith)

-- a run that one fill can hold adds one word at most
pub run-one : (d : WahDraft) (b n : ℕ) → n ≤ most_fill → size (foldl wah_put d (replicate n (clean b))) ≤ size d + 1
run-one d b zero h = omega arith
run-one d b (suc n) h = go (put-either d b) (run-one (wah_put d (clean b)) b n (omega arith))
  where
    rest : List Segment
    rest = replicate n (clean b)

    go : (size (wah_put d (clean b)) ≡ size d) ⊎ (wah_put d (clean b) ≡ wah_draft (wah_body 31 d) b 1)
        → size (foldl wah_put (wah_put d (clean b)) rest) ≤ size (wah_put d (clean b)) + 1
        → size (foldl wah_put (wah_put d (clean b)) rest) ≤ size d + 1
    go (inl e) ih = omega arith
    go (inr e) ih =
        subst (λ (z : WahDraft). size z ≤ size d + 1)
        (sym (ap (λ (z : WahDraft). foldl wah_put z rest) e ∙ run_in (wah_body 31 d) b 1 n (omega arith) (omega arith)))
        (omega (arith, body-length 31 d))

-- and with a segment after it two
pub wah-run-two : (d : WahDraft) (b n : ℕ) (s : Segment) → n ≤ most_fill
    → size (wah_put (foldl wah_put d (replicate n (clean b))) s) ≤ size d + 2
wah-run-two d b n s h = omega (arith, run-one d b n h, put_one (foldl wah_put d (replicate n (clean b))) s)
