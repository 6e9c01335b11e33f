-- `ewah_read::expand::expand` meets its contract: the segments are written and the last of them is cut, by `cut-part`;
-- so they are the words of the rows, by `cut-decide`.
-- Assumes nothing.
use native.Mathlib.Omega.{arith}
use Prim.Native.Nat.{ℕ, suc, ◌-◌, ◌^◌}
use mathlib.Core.Path.{◌≡◌, refl, sym, ap, ap₂, ◌∙◌}
use mathlib.Core.List.{List, ◌++◌}
use lib.Bits.{bit_and, and_mask}
use lib.ListN.{length, get_or, set, drop, get_or-append}
use Rattle.meaning.specs.Segment.{from_rows, segment_count, last_limit, last_rows}
use Rattle.meaning.specs.Ewah.{segments, ewah_rows}
use Rattle.laws.specs.Laws.{EwahFacts}
use Rattle.laws.specs.Demands.{Words}
use Rattle.laws.proofs.Segments.{cut}
use Rattle.laws.proofs.Cut.{cut-part, cut-none, cut-decide}
use Rattle.laws.proofs.Decoded.{decoded-words}
use Rattle.ewah_read.proofs.expand.expand.Lts
use Rattle.ewah_read.proofs.expand.expand.Reads
use Rattle.ewah_read.proofs.expand.expand.Tie
use Rattle.ewah_read.proofs.expand.expand.Goals as goal

-- places in the code that lemmas below speak of
abbrev After-spread : Type 0
After-spread = Lts.After-spread Tie.the-claims Reads.Pre Reads.Post

-- a sound body's segments, cut, are the words of its rows
module _ (R : ℕ) (b : List ℕ) (s : EwahFacts R b) (words : Words b) where
  cut-rows : cut 32 R (segments b) ≡ from_rows 32 R (ewah_rows b)
  unfolding ewah_rows
  cut-rows = cut-decide 32 (omega arith) R (ewah_rows b) (segments b) s.count (decoded-words b words) (λ r h. refl)

  module _ (l out : List ℕ) (spread : l ≡ segments b ++ drop (length (segments b)) out) where
    -- where there are none
    none : R ≡ 0 → l ≡ from_rows 32 R (ewah_rows b) ++ drop (segment_count 32 R) out
    none z =
        let e : length (segments b) ≡ 0 = s.count ∙ (unfold segment_count in omega arith) in
        let same = sym (cut-none 32 R (segments b) e) ∙ cut-rows in
        spread ∙ ap₂ (λ (xs : List ℕ) (k : ℕ). xs ++ drop k out) same s.count

    -- where the last of them is masked
    masked : (n m : ℕ) → suc n ≡ segment_count 32 R → m ≡ 2 ^ last_rows 32 R - 1
        → set l n (bit_and (get_or l n 0) m) ≡ from_rows 32 R (ewah_rows b) ++ drop (segment_count 32 R) out
    unfolding last_limit
    masked n m e g =
        let xs = segments b in
        let w : get_or (xs ++ drop (length xs) out) n 0 ≡ get_or xs n 0 =
        get_or-append xs (drop (length xs) out) 0 n (omega (arith, s.count)) in
        rw (spread, w, g, and_mask (get_or xs n 0) (last_rows 32 R))
        (cut-part 32 R xs (drop (length xs) out) n (omega (arith, s.count))
        ∙ ap₂ (λ (ys : List ℕ) (k : ℕ). ys ++ drop k out) cut-rows s.count)

pub returns-then-rows-eq0 : goal.returns-then-rows-eq0
returns-then-rows-eq0 c =
    let a = c.args in
    none a.rows a.body.now c.requires.1 (λ i. (c.type_inv.body i).fits) _ a.out.now c.spread.ensures c.if-rows-eq0.true

-- the last segment is one of the buffer's words
pub bounds-out-last : goal.bounds-out-last
unfolding segment_count
bounds-out-last c = omega (arith, c.requires.2, c.spread.auto.out, c.if-rows-eq0.false)

pub bounds-out-last-2 : goal.bounds-out-last-2
unfolding segment_count
bounds-out-last-2 c = omega (arith, c.requires.2, c.spread.auto.out, c.if-rows-eq0.false)

pub returns : goal.returns
unfolding segment_count
returns c =
    let a = c.args in
    let limit = c.low_ones.ensures ∙ ap (λ (k : ℕ). 2 ^ k - 1) c.last_rows.ensures.0 in
    masked a.rows a.body.now c.requires.1 (λ i. (c.type_inv.body i).fits) _ a.out.now c.spread.ensures _ _
    (omega (arith, c.if-rows-eq0.false)) limit
