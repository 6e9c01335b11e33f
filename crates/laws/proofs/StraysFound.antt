-- Refusal 11 is given exactly if a slice has a row that does not exist, of the first such slice and its lowest such row.
-- Assumes nothing.
use Prim.Native.Nat.{ℕ, zero, suc, ◌<◌}
use mathlib.Core.Bool.{Bool, true, false, not, ◌&&◌, true≢false}
use mathlib.Core.Path.{◌≡◌, refl, sym, ap, ◌∙◌, subst}
use mathlib.Core.Logic.{◌↔◌}
use mathlib.Core.List.{List, [], ◌∷◌}
use lib.Dec.{ltb}
use lib.ListN.{get_or}
use native.Mathlib.Omega.{arith}
use borrow.Author.Tests.{lt-ltb, ltb-true, ltb-false}
use Rattle.meaning.specs.Rows.{count_below, nth_below}
use Rattle.meaning.specs.Refusal.{refused, Verdict, sound, refuse_if}
use Rattle.meaning.specs.Index.{row_count, rows_at}
use Rattle.meaning.specs.Question.{difference}
use Rattle.column_meaning.specs.Columns.{existing, stray_rows, strays_in, strays}
use Rattle.laws.specs.Demands.{IsNth}
use Rattle.laws.specs.ColumnLaws.{StrayAt, FirstStray, StrayLaws}
use Rattle.laws.proofs.Tests.{never_true}
use Rattle.laws.proofs.Outcomes.{refuse-no, refuse-yes, refuse-answer}
use Rattle.laws.proofs.Counted.{count_none, nth-holds, nth-below, nth-eq}

-- of the column whose existence is bitmap k
module _ (index : List ℕ) (k : ℕ) where
  abbrev R : ℕ
  R = row_count index

  -- the rows of bitmap j that do not exist
  abbrev out : (j : ℕ) → ℕ → Bool
  out j = stray_rows index (rows_at index k) j

  -- whether there are any
  abbrev found : (j : ℕ) → Bool
  found j = ltb 0 (count_below R (out j))

  -- the lowest of them
  abbrev lowest : (j : ℕ) → ℕ
  lowest j = nth_below R (out j) 0

  -- ---- the first slice j, and the others

  first_of : (j : ℕ) (js : List ℕ) (r : ℕ) → r < R → out j r ≡ true → StrayAt index (k ∷ j ∷ js) 0 r
  unfolding stray_rows difference existing
  first_of j js r l h = go (rows_at index j r) (rows_at index k r) refl refl h
    where
      go : (a b : Bool) → rows_at index j r ≡ a → rows_at index k r ≡ b → a && not b ≡ true → StrayAt index (k ∷ j ∷ js) 0 r
      go false b e f g = absurd (true≢false (sym g))
      go true true e f g = absurd (true≢false (sym g))
      go true false e f g = record { slice-there = omega arith; row-there = l; has = e; lacks = f }

  out_of : (j : ℕ) (js : List ℕ) (r : ℕ) → StrayAt index (k ∷ j ∷ js) 0 r → out j r ≡ true
  unfolding stray_rows difference existing
  out_of j js r s = rw (s.has, s.lacks)

  later : (j : ℕ) (js : List ℕ) (i r : ℕ) → StrayAt index (k ∷ js) i r → StrayAt index (k ∷ j ∷ js) (suc i) r
  unfolding existing
  later j js i r s =
      record { slice-there = omega (arith, s.slice-there); row-there = s.row-there; has = s.has; lacks = s.lacks }

  sooner : (j : ℕ) (js : List ℕ) (i r : ℕ) → StrayAt index (k ∷ j ∷ js) (suc i) r → StrayAt index (k ∷ js) i r
  unfolding existing
  sooner j js i r s =
      record { slice-there = omega (arith, s.slice-there); row-there = s.row-there; has = s.has; lacks = s.lacks }

  -- ---- the first slice has one exactly if one is counted

  some : (n j r : ℕ) → r < n → out j r ≡ true → 0 < count_below n (out j)
  some n j r l h = omega (arith, nth-below n (out j) (count_below r (out j)) r (record { below = l; set = h; before = refl }))

  not_found : (j : ℕ) (js : List ℕ) → found j ≡ false → (r : ℕ) → StrayAt index (k ∷ j ∷ js) 0 r → ⊥
  not_found j js e r s =
      absurd (omega (arith, ltb-false 0 (count_below R (out j)) e, some R j r s.row-there (out_of j js r s)))

  none_found : (j : ℕ) (js : List ℕ) → ((r : ℕ) → StrayAt index (k ∷ j ∷ js) 0 r → ⊥) → found j ≡ false
  none_found j js h =
      ap (λ (n : ℕ). ltb 0 n) (count_none R (out j) (λ r l. never_true (out j r) (λ e. h r (first_of j js r l e))))

  -- ---- and the lowest is the one at 0

  lowest-first : (j : ℕ) (js : List ℕ) → found j ≡ true → FirstStray index (k ∷ j ∷ js) 0 (lowest j)
  lowest-first j js h =
      let n : IsNth R (out j) 0 (lowest j) = (nth-holds R (out j) 0 (ltb-true 0 (count_below R (out j)) h)).is in
      record {
        stray = first_of j js (lowest j) n.below n.set;
        no-earlier = λ i s l a. absurd (omega arith);
        no_lower = λ s l a. absurd (omega (arith, n.before, some (lowest j) j s l (out_of j js s a)));
      }

  lowest-is : (j : ℕ) (js : List ℕ) (r : ℕ) → FirstStray index (k ∷ j ∷ js) 0 r → lowest j ≡ r
  lowest-is j js r f =
      nth-eq R (out j) 0 r (record {
        below = f.stray.row-there;
        set = out_of j js r f.stray;
        before = count_none r (out j) (λ s l. never_true (out j s) (lower s l));
      })
    where
      lower : (s : ℕ) → s < r → out j s ≡ true → ⊥
      lower s l e = f.no_lower s l (first_of j js s (omega (arith, l, f.stray.row-there)) e)

  -- ---- of all the slices

  abbrev fault : List ℕ → Verdict
  fault js = strays_in index (rows_at index k) js

  none-stray : (js : List ℕ) → fault js ≡ sound → (i r : ℕ) → StrayAt index (k ∷ js) i r → ⊥
  unfolding strays_in
  none-stray [] e i r s = absurd (omega (arith, s.slice-there))
  none-stray (j ∷ js) e zero r s = not_found j js (refuse-answer (found j) 11 j (lowest j) (fault js) tt e).0 r s
  none-stray (j ∷ js) e (suc i) r s =
      none-stray js (refuse-answer (found j) 11 j (lowest j) (fault js) tt e).1 i r (sooner j js i r s)

  is-sound : (js : List ℕ) → ((i r : ℕ) → StrayAt index (k ∷ js) i r → ⊥) → fault js ≡ sound
  unfolding strays_in
  is-sound [] h = refl
  is-sound (j ∷ js) h =
      refuse-no (found j) 11 j (lowest j) (fault js) (none_found j js (λ r. h 0 r))
      ∙ is-sound js (λ i r s. h (suc i) r (later j js i r s))

  first-is : (js : List ℕ) (i r : ℕ) → FirstStray index (k ∷ js) i r → fault js ≡ refused 11 (get_or js i 0) r
  unfolding strays_in
  first-is [] i r f = absurd (omega (arith, f.stray.slice-there))
  first-is (j ∷ js) zero r f =
      refuse-yes (found j) 11 j (lowest j) (fault js)
      (lt-ltb 0 (count_below R (out j)) (some R j r f.stray.row-there (out_of j js r f.stray)))
      ∙ ap (λ (w : ℕ). refused 11 j w) (lowest-is j js r f)
  first-is (j ∷ js) (suc i) r f =
      refuse-no (found j) 11 j (lowest j) (fault js) (none_found j js (λ s. f.no-earlier 0 s (omega arith)))
      ∙ first-is js i r (record {
        stray = sooner j js i r f.stray;
        no-earlier = λ n s l a. f.no-earlier (suc n) s (omega arith) (later j js n s a);
        no_lower = λ s l a. f.no_lower s l (later j js i s a);
      })

  -- what a refusal says
  abbrev Told : (js : List ℕ) (number bitmap word : ℕ) → Type 0
  Told js number bitmap word = (i : ℕ) × (FirstStray index (k ∷ js) i word) × (number ≡ 11) × (bitmap ≡ get_or js i 0)

  told_here : (j : ℕ) (js : List ℕ) (n b w : ℕ) → found j ≡ true
      → ◌≡◌ {A = Verdict} (refused 11 j (lowest j)) (refused n b w) → Told (j ∷ js) n b w
  told_here j js n b w h e =
      let w-is : lowest j ≡ w = cc in
      let n-is : 11 ≡ n = cc in
      let b-is : j ≡ b = cc in
      (0, subst (λ (z : ℕ). FirstStray index (k ∷ j ∷ js) 0 z) w-is (lowest-first j js h), sym n-is, sym b-is)

  told-later : (j : ℕ) (js : List ℕ) (n b w : ℕ) → found j ≡ false → Told js n b w → Told (j ∷ js) n b w
  told-later j js n b w h t =
      let f = t.1 in (
        suc t.0,
        record {
          stray = later j js t.0 w f.stray;
          no-earlier = earlier t.0 f;
          no_lower = λ s l a. f.no_lower s l (sooner j js t.0 s a);
        },
        t.2,
        t.3,
      )
    where
      earlier : (i : ℕ) → FirstStray index (k ∷ js) i w → (m s : ℕ) → m < suc i → StrayAt index (k ∷ j ∷ js) m s → ⊥
      earlier i f zero s l a = not_found j js h s a
      earlier i f (suc m) s l a = f.no-earlier m s (omega arith) (sooner j js m s a)

  told : (js : List ℕ) (n b w : ℕ) → fault js ≡ refused n b w → Told js n b w
  unfolding strays_in
  told [] n b w e = let z : ◌≡◌ {A = ℕ} 0 1 = cc in absurd (omega arith)
  told (j ∷ js) n b w e = go (found j) refl e (told js n b w)
    where
      go : (t : Bool) → found j ≡ t → refuse_if t 11 j (lowest j) (fault js) ≡ refused n b w
          → (fault js ≡ refused n b w → Told js n b w) → Told (j ∷ js) n b w
      go true h g rest = told_here j js n b w h (sym (refuse-yes true 11 j (lowest j) (fault js) refl) ∙ g)
      go false h g rest = told-later j js n b w h (rest (sym (refuse-no false 11 j (lowest j) (fault js) refl) ∙ g))

pub stray-laws : StrayLaws
unfolding strays
stray-laws = record {
  none-means = means;
  first-given = given;
  only-first = only;
}
  where
    means : (index list : List ℕ) → (strays index list ≡ sound) ↔ ((i r : ℕ) → StrayAt index list i r → ⊥)
    means index [] = (λ e i r s. absurd (omega (arith, s.slice-there)), λ h. refl)
    means index (k ∷ ks) = (none-stray index k ks, is-sound index k ks)

    given : (index list : List ℕ) (i r : ℕ) → FirstStray index list i r
        → strays index list ≡ refused 11 (get_or list (suc i) 0) r
    given index [] i r f = absurd (omega (arith, f.stray.slice-there))
    given index (k ∷ ks) i r f = first-is index k ks i r f

    only : (index list : List ℕ) (number bitmap word : ℕ) → strays index list ≡ refused number bitmap word
        → (i : ℕ) × (FirstStray index list i word) × (number ≡ 11) × (bitmap ≡ get_or list (suc i) 0)
    only index [] n b w e = let z : ◌≡◌ {A = ℕ} 0 1 = cc in absurd (omega arith)
    only index (k ∷ ks) n b w e = told index k ks n b w e
