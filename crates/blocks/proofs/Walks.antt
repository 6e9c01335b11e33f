-- The cursors of one list, from block to block.
-- Assumes nothing.
use Prim.Native.Nat.{ℕ, ◌+◌, ◌≤◌, ◌<◌}
use mathlib.Core.Bool.{Bool, true, false}
use mathlib.Core.Path.{◌≡◌, refl, ◌∙◌}
use mathlib.Core.List.{List}
use lib.ListN.{length, get_or}
use native.Mathlib.Omega.{arith}
use Rattle.meaning.specs.Segment.{segment_count}
use Rattle.meaning.specs.Format.{width, segments_of, most_run}
use Rattle.meaning.specs.declared.Format.{Format}
use Rattle.meaning.specs.Index.{format_of, row_count}
use Rattle.meaning.specs.Limits.{block_segments}
use Rattle.meaning.specs.declared.Format.TheVariants.{Ewah, Wah}
use Rattle.laws.specs.Laws.{IndexFacts}
use Rattle.laws.proofs.Formats.{facts-count}
use Rattle.ewah.specs.declared.cursor.Cursor.{Cursor}
use Rattle.ewah.specs.Cursors.{left_of}
use Rattle.walk.specs.Queries.{place_body, cursor_of, Listed}
use Rattle.gather.specs.Gathered.{StandingBefore, Gathered}
use Rattle.blocks.specs.Blocks.{Chosen, BlockOf, Cleared, AllAlike, Placed, Walking, NextAt, NextPlaced, NextBlock}
use Rattle.blocks.proofs.Runs.{alike}

-- how many segments each body has
abbrev pub S : (index : List ℕ) → ℕ
S index = segment_count (width (format_of index)) (row_count index)

-- every body has as many segments as the index's rows
pub count-is : {index list : List ℕ} → IndexFacts index → Listed index list → (k : ℕ) → k < length list
    → length (segments_of (format_of index) (place_body index list k)) ≡ S index
count-is {index} {list} facts listed k h =
    facts-count (format_of index) (row_count index) (place_body index list k)
    (facts.bodies (get_or list k 0) (listed.its k h))

module _ {index list : List ℕ} {cs : List Cursor} {o : ℕ} (g : Placed index list cs o) where
  module _ {n : ℕ} {even : Bool} {x : List ℕ} {cs' : List Cursor} {x' : List ℕ}
      (gd : Gathered (format_of index) index list cs n even x cs' x') where
    pub placed_on : Placed index list cs' (o + n)
    placed_on = record { standing = gd.on o g.standing; long = omega (arith, gd.long, g.long) }

    pub still-cleared : Cleared list x → Cleared list x'
    still-cleared z = record { long = gd.rows_long; past = λ i h. gd.rest i h ∙ z.past i h }

    pub block_of : Cleared list x → BlockOf index list o n even x'
    block_of z = record { has = gd.words o g.standing; rest = (still-cleared z).past }

  module _ (facts : IndexFacts index) (listed : Listed index list) where
    pub before : (n : ℕ) → o + n ≤ S index → StandingBefore (format_of index) index list cs n
    before n l = (o, g.standing, λ k h. omega (arith, count-is facts listed k h))

    pub all_alike : {n : ℕ} {x : List ℕ} → 1 ≤ n → o + n ≤ S index → BlockOf index list o n true x
        → ((k : ℕ) → k < length list → 2 ≤ left_of (cursor_of cs k).piece) → AllAlike (width (format_of index)) x
    all_alike {n} {x} some l b left =
        alike index list cs x o n some b g.standing (λ k h. omega (arith, count-is facts listed k h)) left

-- a run can be as long as a block
pub block-low : (F : Format) → block_segments ≤ most_run F
block-low Ewah = omega arith
block-low Wah = omega arith

-- ---- the next segments, where no piece ends before `near`

module _ {index list : List ℕ} {cs : List Cursor} {near end o n : ℕ} {even : Bool} (g : Placed index list cs o)
    (some : 1 ≤ length list) (ch : Chosen near end o n even)
    (far : (k : ℕ) → k < length list → near ≤ left_of (cursor_of cs k).piece) where
  -- a run is no longer than the format can say
  pub run-low : n ≤ most_run (format_of index)
  run-low = go even refl
    where
      go : (t : Bool) → even ≡ t → n ≤ most_run (format_of index)
      go true e = omega (arith, ch.in_pieces e, far 0 some, (g.standing 0 some).in_order.left-low)
      go false e = omega (arith, ch.in_block e, block-low (format_of index))

  pub next-placed : IndexFacts index → Listed index list → end ≤ S index → {x : List ℕ} {cs' : List Cursor} {x' : List ℕ} → Cleared list x
      → Gathered (format_of index) index list cs n even x cs' x' → NextPlaced index list o end n even cs' x'
  next-placed facts listed h {x} {cs'} {x'} z gd = record {
    some = ch.some;
    within = ch.within;
    in_block = ch.in_block;
    several = ch.several;
    in-run = run-low;
    walking = placed_on g gd;
    cleared = still-cleared g gd z;
    block = block_of g gd z;
    alike = λ e.
        all_alike g facts listed ch.some (omega (arith, ch.within)) (rw e at (block_of g gd z))
        (λ k l. omega (arith, ch.several e, ch.in_pieces e, far k l));
  }

-- ---- the same of a slice that has just as many cursors as the list has places, for a caller that lends one: `next` promises it
-- by `next-walking`, and the passes here are content with `Placed`

pub placed : {index list : List ℕ} {cs : List Cursor} {o : ℕ} → Walking index list cs o → Placed index list cs o
placed g = record { standing = g.standing; long = omega (arith, g.long) }

pub walking_on : {index list : List ℕ} {cs : List Cursor} {o : ℕ} → Walking index list cs o
    → {n : ℕ} {even : Bool} {x : List ℕ} {cs' : List Cursor} {x' : List ℕ}
    → Gathered (format_of index) index list cs n even x cs' x' → Walking index list cs' (o + n)
walking_on g gd = record { standing = gd.on _ g.standing; long = gd.long ∙ g.long }

-- a next block's cursors told in another way
next-at : {At At' : ℕ → Type 0} {index list : List ℕ} {o end n : ℕ} {even : Bool} {x' : List ℕ}
    → (At (o + n) → At' (o + n)) → NextAt At index list o end n even x' → NextAt At' index list o end n even x'
next-at told nb = record {
  some = nb.some;
  within = nb.within;
  in_block = nb.in_block;
  several = nb.several;
  in-run = nb.in-run;
  walking = told nb.walking;
  cleared = nb.cleared;
  block = nb.block;
  alike = nb.alike;
}

pub next-as-placed : {index list : List ℕ} {o end n : ℕ} {even : Bool} {cs' : List Cursor} {x' : List ℕ}
    → NextBlock index list o end n even cs' x' → NextPlaced index list o end n even cs' x'
next-as-placed = next-at placed

-- a slice keeps its length when it is lent, so a caller that had just as many has them still
pub next-walking : {index list : List ℕ} {o end n : ℕ} {even : Bool} {cs' : List Cursor} {x' : List ℕ}
    → length cs' ≡ length list → NextPlaced index list o end n even cs' x' → NextBlock index list o end n even cs' x'
next-walking long = next-at (λ p. record { standing = p.standing; long = long })

pub next-block : {index list : List ℕ} {cs : List Cursor} {near end o n : ℕ} {even : Bool} → Walking index list cs o
    → 1 ≤ length list → Chosen near end o n even
    → ((k : ℕ) → k < length list → near ≤ left_of (cursor_of cs k).piece)
    → IndexFacts index → Listed index list → end ≤ S index → {x : List ℕ} {cs' : List Cursor} {x' : List ℕ} → Cleared list x
    → Gathered (format_of index) index list cs n even x cs' x' → NextBlock index list o end n even cs' x'
next-block g some ch far facts listed h z gd =
    next-walking (gd.long ∙ g.long) (next-placed (placed g) some ch far facts listed h z gd)
