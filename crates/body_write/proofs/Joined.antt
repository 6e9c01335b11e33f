-- Growing or pushing twice is doing so once with the segments of both; what room that takes; and many pushes, one
-- after the other.
-- Assumes nothing.
use Prim.Native.Nat.{ℕ, ◌+◌, ◌≤◌}
use mathlib.Core.Path.{◌≡◌, refl, sym, ap₂, ◌∙◌}
use mathlib.Core.List.{List, [], ◌++◌, append_assoc}
use native.Mathlib.Omega.{arith}
use lib.ListN.{length, take, drop, length-append, take-append-drop}
use Rattle.meaning.specs.Limits.{most_segments}
use Rattle.meaning.specs.Segment.{Segment}
use Rattle.meaning.specs.Format.{width}
use Rattle.meaning.specs.declared.Format.{Format}
use Rattle.ewah_write.specs.declared.writer.Writer.{Writer}
use Rattle.ewah_write.proofs.Pushing.{drop_more}
use Rattle.body_write.specs.Bodies.{so_far, Stands, Growing, Grown, RoomFor, Pushed, Written}
use Rattle.body_write.proofs.Bodies.{words-none, words-grow, used-is}

-- what is put takes no word back
pub used_grows : {F : Format} {w r : Writer} {before : List Segment} (ss : List Segment)
    → Stands F w before → Stands F r (before ++ ss) → w.used ≤ r.used
used_grows {F} {before} ss t u = omega (arith, used-is 0 t, used-is 0 u, words-grow F 0 0 before ss)

pub still-growing : {F : Format} {w r : Writer} (ss : List Segment) (n : ℕ)
    → Growing F w (length ss + n) → Grown F w ss r → Growing F r n
still-growing ss n p g =
    let before = p.0 in
    (before ++ ss, g before p.1 (omega (arith, p.2)), omega (arith, p.2, length-append before ss))

module _ {F : Format} (ss ts : List Segment) where
  pub grown-more : {w r q : Writer} → Grown F w ss r → Grown F r ts q → Grown F w (ss ++ ts) q
  grown-more f g before t h =
      let l = length-append ss ts in
      let m = length-append before ss in
      rw append_assoc at (g (before ++ ss) (f before t (omega arith)) (omega arith))

  -- room for all is room for the first ones
  pub room-first : {w : Writer} {n : ℕ} → RoomFor F (ss ++ ts) w n → RoomFor F ss w n
  room-first {n} p =
      let before = p.0 in
      let few : length (so_far F (width F) (before ++ ss ++ ts)) ≤ n = rw (append_assoc before ss ts) p.3 in
      let l = length-append ss ts in
      (before, p.1, omega (arith, p.2), omega (arith, words-grow F (width F) (width F) (before ++ ss) ts))

  -- and after them for the rest
  pub room-rest : {w r : Writer} {n : ℕ} → RoomFor F (ss ++ ts) w n → Grown F w ss r → RoomFor F ts r n
  room-rest p g =
      let before = p.0 in
      let l = length-append ss ts in
      let m = length-append before ss in
      let h = p.2 in
      (before ++ ss, g before p.1 (omega arith), omega arith, rw (append_assoc before ss ts) p.3)

  pub pushed_more : {real : ℕ} {out mid out' : List ℕ} {w r q : Writer} → Growing F w (length (ss ++ ts))
      → Pushed F (width F) out mid w ss r → Pushed F real mid out' r ts q → Pushed F real out out' w (ss ++ ts) q
  pushed_more {real} {out} {mid} {out'} {w} {r} {q} p f g =
      let l = length-append ss ts in
      let h = p.2 in
      let t = f.grown p.0 p.1 (omega arith) in
      let u = g.grown (p.0 ++ ss) t (omega (arith, length-append p.0 ss)) in
      record {
        grown = grown-more f.grown g.grown;
        drawn = drawn;
        kept = g.kept ∙ drop_more r.used q.used mid out (used_grows ts t u) f.kept;
      }
    where
      drawn : (before : List Segment) → Stands F w before → length before + length (ss ++ ts) ≤ most_segments
          → take w.used out ≡ so_far F (width F) before → take q.used out' ≡ so_far F real (before ++ (ss ++ ts))
      drawn before t h b =
          let l = length-append ss ts in
          let m = length-append before ss in
          let u = f.grown before t (omega arith) in
          rw append_assoc at (g.drawn (before ++ ss) u (omega arith) (f.drawn before t (omega arith) b))

-- ---- many pushes, one after the other

pub written_none : {F : Format} {w : Writer} (real : ℕ) (old : List ℕ) → Stands F w [] → Written F real old old w []
written_none {F} {w} real old t =
    let none : w.used ≡ 0 = used-is real t ∙ rw (words-none F real) in
    record { stands = t; words = rw (none, words-none F real); kept = refl }

pub written-more : {F : Format} {real : ℕ} {old out out' : List ℕ} {w r : Writer} {before : List Segment}
    (ss : List Segment) → Written F (width F) old out w before → Pushed F real out out' w ss r → length before + length ss ≤ most_segments
    → Written F real old out' r (before ++ ss)
written-more {old} {out} {w} {r} {before} ss p q h =
    let t = q.grown before p.stands h in
    record {
      stands = t;
      words = q.drawn before p.stands h p.words;
      kept = q.kept ∙ drop_more w.used r.used out old (used_grows ss p.stands t) p.kept;
    }

pub written_all : {F : Format} {real : ℕ} {old out : List ℕ} {w : Writer} {ss : List Segment}
    → Written F real old out w ss → out ≡ so_far F real ss ++ drop w.used old
written_all {out} {w} p = sym (take-append-drop w.used out) ∙ ap₂ (λ (a b : List ℕ). a ++ b) p.words p.kept
