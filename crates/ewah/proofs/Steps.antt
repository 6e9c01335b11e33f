-- One step of the check, at a marker: which fault comes first there, or how the check goes on behind its dirty words.
-- Assumes nothing.
use Prim.Native.Nat.{ℕ, zero, suc, ◌+◌, ◌-◌, ◌≤◌, ◌<◌}
use mathlib.Core.Bool.{Bool, true, false, true≢false}
use mathlib.Core.Path.{◌≡◌, refl, sym, ◌∙◌, subst}
use mathlib.Core.List.{List}
use native.Mathlib.Omega.{arith}
use lib.Dec.{lit<, ltb}
use borrow.Author.Tests.{lt-ltb, le-ltb}
use lib.ListN.{length, drop, get_or, length-drop, drop_of_length-le}
use lib.Seq.{drop-cons, get_or-drop, drop-drop}
use Rattle.meaning.specs.Segment.{over_pad, segment_count}
use Rattle.meaning.specs.Refusal.{sound, refuse_if}
use Rattle.meaning.specs.Ewah.{clean_of, dirty_of, fault_from}
use Rattle.laws.proofs.Walk.{skip-dirty, over_none}
use Rattle.words.proofs.Segmented.{some-rows}
use Rattle.ewah.specs.Checking.{Passed, Faulty, Stepped}
use Rattle.std.specs.Prelude.{Result, Ok, Err, MatchResult}
use Rattle.std.specs.Result.{IsErrAnd}
use Rattle.answers.specs.declared.refusal.Refusal.{Refusal}
use Rattle.answers.specs.Told.{refused_by}
use Rattle.ewah.specs.declared.check.Rest.{Rest}
use Rattle.ewah.specs.declared.check.Wrong.{Wrong}

-- where some of the segments are left there are rows
pub left-rows : (R left c : ℕ) → left ≤ segment_count 32 R → (c ≡ 0 → ⊥) → c ≡ left → 1 ≤ R
left-rows R left c h k e = some-rows 32 R (lit< tt) (omega arith)

-- the last of d dirty words behind word `at`, if there is one
last_word : (R left d at : ℕ) (b : List ℕ) → over_pad 32 R left d (get_or (drop (suc at) b) (d - 1) 0) ≡ over_pad 32 R left d (get_or b (at + d) 0)
last_word R left zero at b = sym (over_none 32 R left 0 (get_or (drop (suc at) b) (0 - 1) 0) refl) ∙ over_none 32 R left 0 (get_or b (at + 0) 0) refl
last_word R left (suc d) at b =
    let e : suc at + (suc d - 1) ≡ at + suc d = omega arith in
    rw (get_or-drop (suc at) b (suc d - 1) 0, e)

module _ (b : List ℕ) (R at left c d : ℕ) (h : at < length b) (hc : c ≡ clean_of (get_or b at 0)) (hd : d ≡ dirty_of (get_or b at 0)) where
  -- the faults at the marker, and then those of its dirty words
  chain : (k place : ℕ) → fault_from k R place 0 left (drop at b) ≡ refuse_if (ltb (length b - at - 1) d) 5 k place
      (refuse_if (ltb left (c + d)) 6 k place
      (fault_from k R (suc place) d (left - c) (drop (suc at) b)))
  unfolding fault_from
  chain k place =
      let e : length (drop (suc at) b) ≡ length b - at - 1 = omega (arith, length-drop (suc at) b) in
      rw (drop-cons b at 0 h, e, hc, hd)

  pub step-5 : length b - at - 1 < d → Faulty b R at left 5 at
  unfolding refuse_if
  step-5 g = record { inside = h; first = λ k start. chain k (start + at) ∙ rw (lt-ltb (length b - at - 1) d g) }

  module _ (g : d ≤ length b - at - 1) where
    pub step-6 : left < c + d → Faulty b R at left 6 at
    unfolding refuse_if
    step-6 l = record { inside = h; first = λ k start. chain k (start + at) ∙ rw (le-ltb (length b - at - 1) d g, lt-ltb left (c + d) l) }

    module _ (l : c + d ≤ left) where
      -- past the counts
      counted : (k place : ℕ) → fault_from k R place 0 left (drop at b) ≡ fault_from k R (suc place) d (left - c) (drop (suc at) b)
      unfolding refuse_if
      counted k place = chain k place ∙ rw (le-ltb (length b - at - 1) d g, le-ltb left (c + d) l)

      -- t is the answer on the dirty words
      module _ (t : Bool) (f : t ≡ over_pad 32 R (left - c) d (get_or b (at + d) 0)) where
        skipped : (k place : ℕ) → fault_from k R place 0 left (drop at b) ≡ refuse_if t 7 k (suc place + (d - 1)) (fault_from k R (suc place + d) 0 (left - c - d) (drop (at + d + 1) b))
        unfolding refuse_if
        skipped k place =
            let i : suc at + d ≡ at + d + 1 = omega arith in
            counted k place ∙ rw (skip-dirty k R (suc place) d (left - c) (drop (suc at) b) (omega (arith, length-drop (suc at) b)) (omega arith), last_word R (left - c) d at b, f, drop-drop d (suc at) b, i)

        pub step-dirty : t ≡ true → Faulty b R at left 7 (at + d)
        unfolding refuse_if
        step-dirty y = record { inside = omega arith; first = λ k start. let p : suc (start + at) + (d - 1) ≡ start + (at + d) = place k start in skipped k (start + at) ∙ rw (y, p) }
          where
            some : d ≡ 0 → ⊥
            some z = true≢false (sym y ∙ f ∙ sym (over_none 32 R (left - c) d (get_or b (at + d) 0) z))

            place : (k start : ℕ) → suc (start + at) + (d - 1) ≡ start + (at + d)
            place k start = omega (arith, some)

        pub step-next : t ≡ false → Passed b R at left (at + d + 1) (left - c - d)
        unfolding refuse_if
        step-next y = record {
          on = omega arith;
          inside = omega arith;
          fewer = omega arith;
          same = λ k start. let p : suc (start + at) + d ≡ start + (at + d + 1) = omega arith in skipped k (start + at) ∙ rw (y, p);
        }

-- ---- a step's answer, by its case

-- a fault's word is one of the body
pub wrong-inside : (b : List ℕ) (R : ℕ) (from : Rest) (s : Result Rest Wrong) → Stepped b R from s → (wrong : Wrong) → s ≡ Err wrong
    → wrong.at < length b
wrong-inside b R from s is wrong e = (subst (λ (s : Result Rest Wrong). Stepped b R from s) e is).inside

-- where P is how a fault is told
module _ (b : List ℕ) (R : ℕ) (from : Rest) (s : Result Rest Wrong) (is : Stepped b R from s) (P : Wrong → Refusal → Type 0) (r : Result Rest Refusal)
    (cases : MatchResult s (λ rest. r ≡ Ok rest) (λ wrong. IsErrAnd r (P wrong))) where
  pub passed-of : (rest : Rest) → r ≡ Ok rest → Passed b R from.at from.left rest.at rest.left
  passed-of rest e = go s is cases
    where
      go : (s : Result Rest Wrong) → Stepped b R from s → MatchResult s (λ rest. r ≡ Ok rest) (λ wrong. IsErrAnd r (P wrong))
          → Passed b R from.at from.left rest.at rest.left
      go (Ok n) p h = let q : n ≡ rest = cc in subst (λ (n : Rest). Passed b R from.at from.left n.at n.left) q p
      go (Err w) p h = elim (subst (λ (r : Result Rest Refusal). IsErrAnd r (P w)) e h) [ ]

  pub faulty-of : (told : Refusal) → r ≡ Err told → (k start : ℕ)
      → ((wrong : Wrong) → P wrong told → told ≡ record { fault = wrong.fault; bitmap = k; word = start + wrong.at })
      → fault_from k R (start + from.at) 0 from.left (drop from.at b) ≡ refused_by told
  faulty-of told e k start said = go s is cases
    where
      go : (s : Result Rest Wrong) → Stepped b R from s → MatchResult s (λ rest. r ≡ Ok rest) (λ wrong. IsErrAnd r (P wrong))
          → fault_from k R (start + from.at) 0 from.left (drop from.at b) ≡ refused_by told
      go (Ok n) p h = elim (subst (λ (r : Result Rest Refusal). IsErrAnd r (λ y. Unit {0})) (sym e ∙ h) tt) [ ]
      go (Err w) p h = rw (said w (subst (λ (r : Result Rest Refusal). IsErrAnd r (P w)) e h)) (p.first k start)

-- at the body's end
pub end-fault : (k R place left i : ℕ) (b : List ℕ) → length b ≤ i → fault_from k R place 0 left (drop i b) ≡ refuse_if (ltb 0 left) 6 k place sound
unfolding fault_from
end-fault k R place left i b h = rw (drop_of_length-le b h)
