-- Lists of bitmap numbers: which are bad, and what a call over a good one reports.
-- Assumes nothing.
use Prim.Native.Nat.{ℕ, ◌+◌, ◌≤◌, ◌<◌}
use mathlib.Core.Bool.{Bool, true, false, ◌||◌}
use mathlib.Core.Path.{◌≡◌, refl, sym, ap, ◌∙◌}
use mathlib.Core.List.{List}
use native.Mathlib.Omega.{arith}
use native.Mathlib.Numerals.{add-one}
use borrow.Author.Tests.{lt-ltb, le-ltb, eq-eqb, ne_eqb, le-leb, lt-leb}
use lib.ListN.{length, drop, get_or, drop_of_length-le}
use lib.Seq.{drop-cons, take_at}
use Rattle.meaning.specs.Limits.{most_named}
use Rattle.meaning.specs.Refusal.{Outcome, refused, answer}
use Rattle.meaning.specs.Index.{bitmap_count}
use Rattle.laws.specs.Laws.{IndexFacts}
use Rattle.meaning.specs.Answer.{bad_bitmap, any_bad, bad_list, named_bodies, fits, buffer_after, words_reported, stretches_reported}
use Rattle.laws.proofs.Demanded.{good-list}
use Rattle.laws.proofs.Outcomes.{fits-yes, fits-no}
use Rattle.answers.specs.declared.refusal.Refusal.{Refusal}
use Rattle.answers.specs.Told.{refused_by, refusal, answered_of, words_in, stretches_in, Reported}
use Rattle.merge.specs.declared.evaluate.Operation.{Operation}
use Rattle.answers.specs.declared.answer.Report.{Report}
use Rattle.answers.specs.declared.refusal.Fault.TheVariants.{NoRoom}
use Rattle.std.specs.Prelude.{Ok, Err}
use Rattle.merge.specs.Merges.{Walkable, answer_body, MergedTo}

-- ---- the numbers, one by one

module _ (index list : List ℕ) (n i : ℕ) (v : Bool) (is : n ≡ bitmap_count index) (inv : any_bad index (drop i list) ≡ v) where
  module _ (h : i < length list) where
    opened : bad_bitmap index (get_or list i 0) || any_bad index (drop (i + 1) list) ≡ v
    unfolding any_bad
    opened = rw add-one (rw (drop-cons list i 0 h) at inv)

    pub any_here : n ≤ get_or list i 0 → true ≡ v
    unfolding bad_bitmap
    any_here g = rw (le-leb (bitmap_count index) (get_or list i 0) (omega arith)) at opened

    pub any_next : get_or list i 0 < n → any_bad index (drop (i + 1) list) ≡ v
    unfolding bad_bitmap
    any_next g = rw (lt-leb (bitmap_count index) (get_or list i 0) (omega arith)) at opened

  pub any-end : length list ≤ i → false ≡ v
  unfolding any_bad
  any-end h = rw (drop_of_length-le list h) at inv

module _ (index list : List ℕ) where
  pub bad-none : length list ≡ 0 → true ≡ bad_list index list
  unfolding bad_list
  bad-none e = rw (eq-eqb (length list) 0 e)

  module _ (h : length list ≡ 0 → ⊥) where
    pub bad-long : most_named < length list → true ≡ bad_list index list
    unfolding bad_list
    bad-long g = rw (ne_eqb (length list) 0 h, lt-ltb most_named (length list) g)

    pub bad-names : length list ≤ most_named → (b : Bool) → b ≡ any_bad index list → b ≡ bad_list index list
    unfolding bad_list
    bad-names g b e = rw (ne_eqb (length list) 0 h, le-ltb most_named (length list) g) e

  pub good-walkable : IndexFacts index → bad_list index list ≡ false → Walkable index list
  good-walkable f e = let g = good-list index list e in record { facts = f; listed = record { most = g.most; its = g.its }; some = g.some }

  -- ---- what is reported

  module _ (out : List ℕ) where
    pub reported-refused : (r : Refusal) (o : Outcome (List ℕ)) → refused_by r ≡ o → Reported index list o (Err r) out out
    unfolding answered_of words_in stretches_in buffer_after words_reported stretches_reported
    reported-refused r o e = rw (← e) (record { told = refl; words = refl; stretches = refl; left = refl })

    module _ (op : Operation) (table : List ℕ) where
      abbrev ws : List ℕ
      ws = answer_body index list op table

      pub reported-none : (n : ℕ) → n ≡ length ws → length out < n → (r : Refusal) → r ≡ refusal NoRoom n → Reported index list (fits (length out) ws) (Err r) out out
      reported-none n is h r e =
          reported-refused r (fits (length out) ws) (ap refused_by e ∙ ap (λ (m : ℕ). refused 9 0 m) is ∙ sym (fits-no (length out) ws (omega arith)))

      pub reported-words : (out' : List ℕ) (m : Report) → length ws ≤ length out → MergedTo index list op table out true out' m → Reported index list (fits (length out) ws) (Ok m) out out'
      unfolding answered_of words_in stretches_in buffer_after words_reported stretches_reported named_bodies
      reported-words out' m h g =
          rw (fits-yes (length out) ws h, g.stored refl)
          (record { told = ap answer (take_at ws (drop (length ws) out) m.words (sym g.words_are)); words = g.words_are; stretches = g.stretches-are; left = refl })

      -- after the measuring pass, which leaves the buffer
      module _ (out' : List ℕ) (m : Report) (g : MergedTo index list op table out false out' m) where
        pub measured-none : length out' < m.words → (r : Refusal) → r ≡ refusal NoRoom m.words → Reported index list (fits (length out) ws) (Err r) out out'
        measured-none h r e = rw (g.kept refl) (reported-none m.words g.words_are (omega (arith, ap length (g.kept refl))) r e)
