-- The search goes through a slice and existence together: where the two cursors stand, and what is known of the rows
-- behind them.
-- Assumes nothing.
use Prim.Native.Nat.{ℕ, ◌+◌, ◌-◌, ◌*◌, ◌≤◌, ◌<◌}
use mathlib.Core.Path.{◌≡◌, refl, ap, ◌∙◌, subst}
use mathlib.Core.List.{List, []}
use native.Mathlib.Decide.{dec_le}
use native.Mathlib.Nat.{add-mul, zero-mul, mul-le-mul_right}
use native.Mathlib.Omega.{arith}
use lib.ListN.{length}
use Rattle.meaning.specs.Piece.{NoneEmpty}
use Rattle.meaning.specs.Format.{width, pieces_of, segments_of}
use Rattle.meaning.specs.declared.Format.{Format}
use Rattle.laws.specs.Ahead.{Ahead}
use Rattle.laws.proofs.Walked.{ahead-start}
use Rattle.ewah.specs.declared.cursor.Cursor.{Cursor}
use Rattle.ewah.specs.declared.cursor.Piece as code
use Rattle.ewah.specs.declared.cursor.Piece.TheVariants.{Clean, Dirty}
use Rattle.ewah.specs.Cursors.{InOrder, Stands, left_of, pieces_from}
use Rattle.bodies.specs.Walks.{span_by, span_of, behind, Passes}
use Rattle.bodies.proofs.Spans.{span-some, words-there}
use Rattle.column.specs.declared.outside.Seen.{Seen}
use Rattle.column.specs.declared.outside.Seen.TheVariants.{Row, Clear}
use Rattle.column.specs.Outside.{outside, NoneBelow, Lowest, SeenIn}

-- ---- one cursor

-- it stands at segment o
pub record StandsAt (F : Format) (b : List ℕ) (c : Cursor) (o : ℕ) : Type 0 where
  pub in_order : InOrder F b c
  pub ahead : Ahead F b o (pieces_from F b c)
  pub at-end : left_of c.piece ≡ 0 → pieces_from F b c ≡ []

pub stands-first : (F : Format) (b : List ℕ) (c : Cursor) → NoneEmpty (pieces_of F b) → Stands F b c (pieces_of F b)
    → StandsAt F b c 0
stands-first F b c h s = record {
  in_order = s.in_order;
  ahead = rw s.has (ahead-start F b h);
  at-end = λ z. s.has ∙ s.at-end z;
}

module _ {F : Format} {b : List ℕ} {c : Cursor} {o : ℕ} (s : StandsAt F b c o) where
  stands_on : (n : ℕ) (r : Cursor) → Passes F b c n r → StandsAt F b r (o + n)
  stands_on n r p = record { in_order = p.in_order; ahead = p.on o s.ahead; at-end = p.at-end }

  -- there is a segment before the next marker or fill
  pub some_left : o < length (segments_of F b) → 1 ≤ span_of c
  some_left l = span-some F b o c s.ahead s.at-end l

  -- the words of the next n segments are in the body
  pub pass-within : (n : ℕ) → 1 ≤ n → n ≤ span_of c → o + n ≤ length (segments_of F b)
      → c.next + behind c.piece n ≤ length b
  pass-within n g h l = go c.piece refl
    where
      go : (q : code.Piece) → c.piece ≡ q → c.next + behind q n ≤ length b
      go (Clean v k) e = omega (arith, s.in_order.inside)
      go (Dirty x) e =
          let few : n ≤ c.dirty + 1 = omega (arith, ap (λ (q : code.Piece). span_by q c.dirty) e) in
          words-there F b o c s.ahead x e n s.in_order g few l

-- ---- both, where the slice and existence have `count` segments

pub record Going (F : Format) (slice exists : List ℕ) (count : ℕ) (c e : Cursor) (o : ℕ) : Type 0 where
  pub within : o ≤ count
  pub slice_at : StandsAt F slice c o
  pub exists-at : StandsAt F exists e o
  pub none : NoneBelow (o * width F) (outside F slice exists)

pub going-first : (F : Format) (slice exists : List ℕ) (count : ℕ) (c e : Cursor) → StandsAt F slice c 0
    → StandsAt F exists e 0 → Going F slice exists count c e 0
going-first F slice exists count c e s t = record {
  within = omega arith;
  slice_at = s;
  exists-at = t;
  none = λ r h. absurd (omega (arith, zero-mul (width F)));
}

module _ {F : Format} {slice exists : List ℕ} {count : ℕ} {c e : Cursor} {o : ℕ} (g : Going F slice exists count c e o)
    (n : ℕ) (l : o + n ≤ count) (seen : Seen)
    (s : SeenIn (width F) n (λ k. outside F slice exists (o * width F + k)) seen) where
  -- no row of the next k
  none-on : (k : ℕ) → NoneBelow k (λ r. outside F slice exists (o * width F + r))
      → NoneBelow (o * width F + k) (outside F slice exists)
  none-on k h r b = elim (dec_le (o * width F) r) [
    | yes a ↦
        let z : r ≡ o * width F + (r - o * width F) = omega arith in
        ap (outside F slice exists) z ∙ h (r - o * width F) (omega arith)
    | no a ↦ g.none r (omega arith)
  ]

  -- the lowest row is here
  pub going-row : (r : ℕ) → seen ≡ Row r → Lowest (count * width F) (outside F slice exists) (o * width F + r)
  going-row r h =
      let f : Lowest (n * width F) (λ k. outside F slice exists (o * width F + k)) r =
      subst (λ (q : Seen). SeenIn (width F) n (λ k. outside F slice exists (o * width F + k)) q) h s in
      record {
        below = omega (arith, f.below, add-mul o n (width F), mul-le-mul_right (width F) l);
        set = f.set;
        before = none-on r f.before;
      }

  -- m segments have none
  module _ (m : ℕ) (h : seen ≡ Clear m) where
    clear : (1 ≤ m) × (m ≤ n) × NoneBelow (m * width F) (λ k. outside F slice exists (o * width F + k))
    clear = subst (λ (q : Seen). SeenIn (width F) n (λ k. outside F slice exists (o * width F + k)) q) h s

    pub clear-some : 1 ≤ m
    clear-some = clear.0

    pub clear-few : m ≤ n
    clear-few = clear.1

    pub going_on : (d f : Cursor) → Passes F slice c m d → Passes F exists e m f
        → Going F slice exists count d f (o + m)
    going_on d f p q =
        let z : o * width F + m * width F ≡ (o + m) * width F = omega (arith, add-mul o m (width F)) in
        record {
          within = omega (arith, clear.1);
          slice_at = stands_on g.slice_at m d p;
          exists-at = stands_on g.exists-at m f q;
          none = subst (λ (k : ℕ). NoneBelow k (outside F slice exists)) z (none-on (m * width F) clear.2);
        }
