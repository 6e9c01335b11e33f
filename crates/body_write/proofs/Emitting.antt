-- What is emitted is pushed where it is stored, and else only grown, which leaves the buffer. Emitting twice is
-- emitting once the segments of both.
-- Assumes nothing.
use Prim.Native.Nat.{ℕ}
use mathlib.Core.Bool.{Bool, true, false, true≢false}
use mathlib.Core.Path.{◌≡◌, refl, sym, ◌∙◌}
use mathlib.Core.List.{List, [], ◌++◌, append-nil}
use lib.ListN.{length}
use Rattle.meaning.specs.Segment.{Segment}
use Rattle.meaning.specs.Format.{width}
use Rattle.meaning.specs.declared.Format.{Format}
use Rattle.ewah_write.specs.declared.writer.Writer.{Writer}
use Rattle.body_write.specs.Bodies.{Growing, Grown, Pushed, Emitted}
use Rattle.body_write.proofs.Joined.{grown-more, pushed_more}

module _ {F : Format} {real : ℕ} {out : List ℕ} {w r : Writer} {ss : List Segment} {store : Bool} where
  pub emitted-stored : {out' : List ℕ} → store ≡ true → Pushed F real out out' w ss r
      → Emitted F real out out' w ss store r
  emitted-stored t p = record { grown = p.grown; stored = λ e. p; kept = λ e. absurd (true≢false (sym t ∙ e)) }

  pub emitted-measured : store ≡ false → Grown F w ss r → Emitted F real out out w ss store r
  emitted-measured t g = record { grown = g; stored = λ e. absurd (true≢false (sym e ∙ t)); kept = λ e. refl }

pub emitted-none : (F : Format) (out : List ℕ) (w : Writer) (store : Bool) → Emitted F (width F) out out w [] store w
emitted-none F out w store = record {
  grown = λ before t h. rw (append-nil before) t;
  stored = λ e. record {
    grown = λ before t h. rw (append-nil before) t;
    drawn = λ before t h b. rw (append-nil before) b;
    kept = refl;
  };
  kept = λ e. refl;
}

pub emitted-more : {F : Format} {real : ℕ} {out mid out' : List ℕ} {w r v : Writer} {store : Bool} (ss ts : List Segment)
    → Growing F w (length (ss ++ ts)) → Emitted F (width F) out mid w ss store r → Emitted F real mid out' r ts store v
    → Emitted F real out out' w (ss ++ ts) store v
emitted-more ss ts g p q = record {
  grown = grown-more ss ts p.grown q.grown;
  stored = λ e. pushed_more ss ts g (p.stored e) (q.stored e);
  kept = λ e. q.kept e ∙ p.kept e;
}
