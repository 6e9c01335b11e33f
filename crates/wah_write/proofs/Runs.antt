-- The WAH draft, run by run: the words of a run, what a segment adds, and where a run's word stands.
-- Assumes nothing.
use Prim.Native.Nat.{ℕ, zero, suc, ◌+◌, ◌-◌, ◌*◌, ◌^◌, ◌≤◌, ◌<◌}
use mathlib.Core.Bool.{Bool, true, false, cond, ◌&&◌, and-false}
use mathlib.Core.Path.{◌≡◌, refl, sym, ap, ◌∙◌}
use mathlib.Core.Logic.{◌⊎◌, inl, inr}
use mathlib.Core.List.{List, [], ◌∷◌, ◌++◌, foldl, append-nil}
use native.Mathlib.Omega.{arith}
use lib.Dec.{eqb, ltb}
use lib.ListN.{length, replicate, length-append}
use borrow.Author.Tests.{le-ltb, ne_eqb, eqb-true, eqb-false, ltb-true}
use Rattle.meaning.specs.Limits.{most_fill}
use Rattle.meaning.specs.Segment.{Segment, clean, mixed, fill, all_set}
use Rattle.meaning.specs.Wah.{WahDraft, wah_draft, fill_word, run_words, wah_body, wah_put}
use Rattle.laws.proofs.Segments.{both}
use Rattle.laws.proofs.WahSize.{size, run-words, run_in}
-- passed on to `body_write`
pub use Rattle.laws.proofs.WahSize.{body-length, puts-add}

-- ---- the words of a run

-- a lone segment is a literal of all its rows
pub word-single : (v mask real : ℕ) → mask ≡ 2 ^ real - 1 → run_words real v 1 ≡ v * mask ∷ []
unfolding run_words fill all_set
word-single v mask real e = ap (λ (k : ℕ). v * k ∷ []) (sym e)

pub single-low : (v mask : ℕ) → v < 2 → mask < 4294967296 → v * mask < 4294967296
single-low zero mask h g = omega arith
single-low (suc zero) mask h g = omega arith
single-low (suc (suc v)) mask h g = absurd (omega arith)

-- more are a fill
pub word-many : (v n real : ℕ) → 1 ≤ n → (n ≡ 1 → ⊥) → run_words real v n ≡ fill_word v n ∷ []
unfolding run_words
word-many v zero real h k = absurd (omega arith)
word-many v (suc zero) real h k = absurd (k refl)
word-many v (suc (suc n)) real h k = refl

-- ---- what one segment more adds

-- the segments of a draft's last run
abbrev pub last_run : WahDraft → ℕ
last_run (wah_draft done v n) = n

-- a clean segment joins the last run, or opens a new one behind all words
abbrev joinable : (v n b : ℕ) → Bool
joinable v n b = ltb 0 n && eqb v b && ltb n most_fill

joinable-means : (v n b : ℕ) → joinable v n b ≡ true → (0 < n) × (v ≡ b) × (n < most_fill)
joinable-means v n b e =
    let p = both (ltb 0 n && eqb v b) (ltb n most_fill) e in
    let q = both (ltb 0 n) (eqb v b) p.0 in
    (ltb-true 0 n q.0, eqb-true v b q.1, ltb-true n most_fill p.1)

-- what one segment more does to the numbers of words and of segments of the last run
pub record OneMore (d e : WahDraft) : Type 0 where
  pub no-fewer : size d ≤ size e
  pub run_more : last_run e ≤ last_run d + 1

put-more : (d : WahDraft) (s : Segment) → OneMore d (wah_put d s)
unfolding wah_put
put-more (wah_draft done v n) (clean b) = go (joinable v n b) refl
  where
    go : (t : Bool) → joinable v n b ≡ t
        → OneMore (wah_draft done v n) (cond t (wah_draft done v (suc n)) (wah_draft (done ++ run_words 31 v n) b 1))
    go true e =
        let p = joinable-means v n b e in
        record { no-fewer = omega arith; run_more = omega arith }
    go false e =
        let l = length-append done (run_words 31 v n) in
        let k = run-words 31 v n in
        record { no-fewer = omega arith; run_more = omega arith }
put-more (wah_draft done v n) (mixed x) =
    let l = length-append (done ++ run_words 31 v n) (x ∷ []) in
    let m = length-append done (run_words 31 v n) in
    let k = run-words 31 v n in
    record { no-fewer = omega arith; run_more = omega arith }

pub puts-grow : (ss : List Segment) (d : WahDraft) → size d ≤ size (foldl wah_put d ss)
puts-grow [] d = omega arith
puts-grow (s ∷ ss) d = omega (arith, (put-more d s).no-fewer, puts-grow ss (wah_put d s))

pub puts-run : (ss : List Segment) (d : WahDraft) → last_run (foldl wah_put d ss) ≤ last_run d + length ss
puts-run [] d = omega arith
puts-run (s ∷ ss) d = omega (arith, (put-more d s).run_more, puts-run ss (wah_put d s))

-- ---- a whole run

-- the last run can't go on with value b
abbrev pub Closed : ℕ → WahDraft → Type 0
Closed b (wah_draft done v n) = (n ≡ 0) ⊎ (v ≡ b → ⊥)

put-new : (d : WahDraft) (b : ℕ) → Closed b d → wah_put d (clean b) ≡ wah_draft (wah_body 31 d) b 1
unfolding wah_put wah_body
put-new (wah_draft done v n) b (inl e) = rw (le-ltb 0 n (omega arith))
put-new (wah_draft done v n) b (inr h) = rw (ne_eqb v b h, and-false)

-- a run that is a new word
pub run-new : (d : WahDraft) (b n : ℕ) → 1 ≤ n → n ≤ most_fill → Closed b d
    → foldl wah_put d (replicate n (clean b)) ≡ wah_draft (wah_body 31 d) b n
run-new d b zero g h k = absurd (omega arith)
run-new d b (suc n) g h k =
    ap (λ (e : WahDraft). foldl wah_put e (replicate n (clean b))) (put-new d b k)
    ∙ run_in (wah_body 31 d) b 1 n (omega arith) (omega arith)
    ∙ ap (λ (m : ℕ). wah_draft (wah_body 31 d) b m) (omega arith)

-- d with n segments more of value v: `front`, which d's words begin with, and then one word for the run that it ends
-- with
pub record Ended (d : WahDraft) (v n : ℕ) : Type 0 where
  pub front : List ℕ
  pub rest : List ℕ
  pub run : ℕ
  pub some : 1 ≤ run
  pub is : foldl wah_put d (replicate n (clean v)) ≡ wah_draft front v run
  pub had : wah_body 31 d ≡ front ++ rest

pub run-ended : (d : WahDraft) (v n : ℕ) → 1 ≤ n → last_run d + n ≤ most_fill → Ended d v n
unfolding wah_body
run-ended (wah_draft done u c) v n g h = go c h (eqb u v) refl
  where
    opened : (c : ℕ) → c + n ≤ most_fill → Closed v (wah_draft done u c) → Ended (wah_draft done u c) v n
    opened c h k = record {
      front = done ++ run_words 31 u c;
      rest = [];
      run = n;
      some = g;
      is = run-new (wah_draft done u c) v n g (omega arith) k;
      had = sym (append-nil (done ++ run_words 31 u c));
    }

    go : (c : ℕ) → c + n ≤ most_fill → (t : Bool) → eqb u v ≡ t → Ended (wah_draft done u c) v n
    go zero h t e = opened 0 h (inl refl)
    go (suc c) h true e =
        let same : u ≡ v = eqb-true u v e in
        record {
          front = done;
          rest = run_words 31 u (suc c);
          run = suc c + n;
          some = omega arith;
          is = rw same (run_in done v (suc c) n (omega arith) h);
          had = refl;
        }
    go (suc c) h false e = opened (suc c) h (inr (eqb-false u v e))
