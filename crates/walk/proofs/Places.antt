-- Cursors that go on in their bodies, place by place.
-- Assumes nothing.
use Prim.Native.Nat.{ℕ, ◌+◌, ◌≤◌, ◌<◌}
use mathlib.Core.Path.{◌≡◌, refl, ◌∙◌}
use mathlib.Core.List.{List}
use native.Mathlib.Nat.{le_refl}
use native.Mathlib.Omega.{arith}
use borrow.Author.Count.{below_more}
use lib.ListN.{length, get_or, set, length-set}
use lib.Seq.{get_or-set_same, get_or-set_other}
use Rattle.meaning.specs.Piece.{NoneEmpty}
use Rattle.meaning.specs.Format.{pieces_of, segments_of}
use Rattle.meaning.specs.declared.Format.{Format}
use Rattle.laws.specs.Ahead.{advanced, first_size}
use Rattle.meaning.specs.Index.{format_of, row_count, body_at}
use Rattle.laws.specs.Laws.{IndexFacts}
use Rattle.laws.proofs.Formats.{facts-some}
use Rattle.laws.proofs.Walked.{ahead-start, ahead-on, ahead_within}
use Rattle.ewah.specs.declared.cursor.Cursor.{Cursor}
use Rattle.ewah.specs.Cursors.{ValueLow, Stands, left_of, pieces_from}
use Rattle.bodies.proofs.Advancing.{first-left}
use Rattle.bodies.proofs.Spans.{left-some}
use Rattle.walk.specs.declared.survey.Survey.{Survey}
use Rattle.walk.specs.Queries.{ended, cursor_of, CursorAt, Listed, place_body, Standing}
use Rattle.walk.specs.Surveys.{Weighed, Surveyed, Moved, MovedAll}
use Rattle.walk.proofs.Weighing.{surveyed-more, surveyed-same}

-- ---- one cursor

-- no piece of a body that the list names is empty
pub none-empty : (F : Format) (index list : List ℕ) (i : ℕ) → F ≡ format_of index → IndexFacts index → Listed index list → i < length list
    → NoneEmpty (pieces_of F (place_body index list i))
none-empty F index list i e facts listed h =
    let k = get_or list i 0 in
    rw e (facts-some (format_of index) (row_count index) (body_at index k) (facts.bodies k (listed.its i h)))

module _ (F : Format) (b : List ℕ) (c : Cursor) where
  pub opened : NoneEmpty (pieces_of F b) → Stands F b c (pieces_of F b) → CursorAt F b 0 c
  opened k s = record { in_order = s.in_order; ahead = rw s.has (ahead-start F b k); at-end = λ z. s.has ∙ s.at-end z }

  pub gone-on : (o n : ℕ) (d : Cursor) → 1 ≤ n → n ≤ left_of c.piece → Stands F b d (advanced n (pieces_from F b c))
      → CursorAt F b o c → CursorAt F b (o + n) d
  gone-on o n d g l s a =
      record {
        in_order = s.in_order;
        ahead = rw s.has (ahead-on F b o n (pieces_from F b c) a.ahead g (omega (arith, first-left F b c (omega arith))));
        at-end = λ z. s.has ∙ s.at-end z;
      }

-- before the body's end something of the piece is left, and it lies within the body
module _ (F : Format) (b : List ℕ) (o : ℕ) (c : Cursor) (a : CursorAt F b o c) (h : o < length (segments_of F b)) where
  pub some_left : 1 ≤ left_of c.piece
  some_left = left-some F b o c a.ahead a.at-end h

  pub left-size : first_size (pieces_from F b c) ≡ left_of c.piece
  left-size = first-left F b c some_left

  pub left-within : o + left_of c.piece ≤ length (segments_of F b)
  left-within = omega (arith, left-size, ahead_within F b o (pieces_from F b c) a.ahead (omega arith))

-- ---- one place

-- the body that the code has is that of the place
pub moved : (F : Format) (b b' : List ℕ) (c : Cursor) (n : ℕ) (s r : Survey) (d : Cursor) → b' ≡ b → 1 ≤ n → n ≤ left_of c.piece
    → Stands F b' d (advanced n (pieces_from F b' c)) → Weighed s d.piece r → Moved F b c n d s r
moved F b b' c n s r d b-is g l st w =
    let is = rw b-is at st in
    record { in_order = is.in_order; on = λ o a. gone-on F b c o n d g l is a; weighed = w }

-- ---- all places

-- a cursor that was put at place i stands there, and the other places stay
pub put-here : (cs : List Cursor) (i : ℕ) (c : Cursor) → i < length cs → cursor_of (set cs i c) i ≡ c
put-here cs i c h = get_or-set_same cs i c ended h

pub put-others : (cs : List Cursor) (i : ℕ) (c : Cursor) (k : ℕ) → (k ≡ i → ⊥) → cursor_of (set cs i c) k ≡ cursor_of cs k
put-others cs i c k h = get_or-set_other cs i k c ended h

module _ (F : Format) (index list : List ℕ) where
  pub standing-more : (cs : List Cursor) (m o : ℕ) (c : Cursor) → m < length cs
      → Standing F index list cs m o → CursorAt F (place_body index list m) o c
      → Standing F index list (set cs m c) (m + 1) o
  standing-more cs m o c h st a = below_more _ m (λ k l. rw (put-others cs m c k (omega arith)) (st k l)) (rw (put-here cs m c h) a)

  -- the first m cursors went n segments on, and the others stay
  pub record Going (was : List Cursor) (n : ℕ) (cs : List Cursor) (s : Survey) (m : ℕ) : Type 0 where
    pub long : length cs ≡ length was
    pub later : (k : ℕ) → m ≤ k → cursor_of cs k ≡ cursor_of was k
    pub low : (k : ℕ) → k < m → ValueLow (cursor_of cs k).piece
    pub on : (k : ℕ) → k < m → (o : ℕ) → CursorAt F (place_body index list k) o (cursor_of was k)
        → CursorAt F (place_body index list k) (o + n) (cursor_of cs k)
    pub surveyed : Surveyed cs m s

  module _ (was : List Cursor) (n : ℕ) where
    pub going-none : (s : Survey) → Surveyed was 0 s → Going was n was s 0
    going-none s a = record { long = refl; later = λ k l. refl; low = λ k l. absurd (omega arith); on = λ k l. absurd (omega arith); surveyed = a }

    module _ (cs : List Cursor) (s : Survey) (m : ℕ) (g : Going was n cs s m) where
      pub going_more : (c : Cursor) (r : Survey) → m < length cs
          → Moved F (place_body index list m) (cursor_of cs m) n c s r → Going was n (set cs m c) r (m + 1)
      going_more c r i h =
          let same = put-others cs m c in
          record {
            long = length-set cs m c ∙ g.long;
            later = λ k l. same k (omega arith) ∙ g.later k (omega arith);
            low = below_more _ m (λ k l. rw (same k (omega arith)) (g.low k l)) (rw (put-here cs m c i) h.in_order.value_low);
            on = below_more _ m
                (λ k l o a. rw (same k (omega arith)) (g.on k l o a))
                (λ o a. rw (put-here cs m c i) (h.on o (rw (g.later m (le_refl m)) a)));
            surveyed = surveyed-more (set cs m c) m s (surveyed-same cs m s g.surveyed (set cs m c) (λ k l. same k (omega arith))) r
                (rw (put-here cs m c i) h.weighed);
          }

      pub going-all : m ≡ length list → MovedAll F index list was n cs s
      going-all e = record { long = g.long; on = λ o st k i. g.on k (omega arith) o (st k i); surveyed = rw e at g.surveyed }
