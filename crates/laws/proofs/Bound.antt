-- The words of some segments in canonical form, in either format: at most two for each end, where between two ends all
-- segments are clean and of one value. The segment at an end itself may be any.
-- Assumes nothing.
use Prim.Native.Nat.{ℕ, zero, suc, ◌+◌, ◌*◌, ◌≤◌, ◌<◌}
use mathlib.Core.Bool.{Bool, true, false, true≢false}
use mathlib.Core.Path.{◌≡◌, refl, sym, ap, ◌∙◌}
use mathlib.Core.List.{List, [], ◌∷◌, ◌++◌, foldl, foldl-append, append-nil, append_assoc}
use lib.ListN.{length, get_or, take, replicate}
use lib.Seq.{take-suc, take_all}
use native.Mathlib.Omega.{arith}
use native.Mathlib.Decide.{dec_le}
use Rattle.meaning.specs.Rows.{bit, sum_below, count_below}
use Rattle.meaning.specs.Segment.{Segment, clean}
use Rattle.meaning.specs.Canonical.{Draft, blank, body, put, ewah_of}
use Rattle.meaning.specs.Wah.{wah_draft, wah_put}
use Rattle.meaning.specs.Format.{most_run, words_of}
use Rattle.meaning.specs.declared.Format.{Format}
use Rattle.meaning.specs.declared.Format.TheVariants.{Ewah, Wah}
use Rattle.laws.proofs.Least.{size, put_two, run-then-two}
use Rattle.laws.proofs.WahSize.{wah-size, wah-run-two}
use Rattle.laws.proofs.Ends.{Near}

-- ---- a run that one piece can hold, with a segment after it, adds two words at most

-- segment by segment, for the drafts of either format
module _ {D : Type 0} (put : D → Segment → D) (d : D) (ss : List Segment) (v n : ℕ) (s : Segment) where
  run-then : foldl put d (ss ++ replicate n (clean v) ++ s ∷ [])
      ≡ put (foldl put (foldl put d ss) (replicate n (clean v))) s
  run-then =
      foldl-append put d (ss ++ replicate n (clean v)) (s ∷ [])
      ∙ ap (λ (e : D). put e s) (foldl-append put d ss (replicate n (clean v)))

-- a run of no segments too
ewah-two : (d : Draft) (v n : ℕ) (s : Segment) → n ≤ most_run Ewah
    → size (put (foldl put d (replicate n (clean v))) s) ≤ size d + 2
ewah-two d v zero s h = put_two d s
ewah-two d v (suc n) s h = run-then-two d v n s h

stretch-two : (F : Format) (R : ℕ) (ss : List Segment) (v n : ℕ) (s : Segment) → n ≤ most_run F
    → length (words_of F R (ss ++ replicate n (clean v) ++ s ∷ [])) ≤ length (words_of F R ss) + 2
unfolding ewah_of size
stretch-two Ewah R ss v n s h = rw (run-then put blank ss v n s) (ewah-two (foldl put blank ss) v n s h)
stretch-two Wah R ss v n s h =
    let none = wah_draft [] 0 0 in
    rw (wah-size R (ss ++ replicate n (clean v) ++ s ∷ []), wah-size R ss, run-then wah_put none ss v n s)
    (wah-run-two (foldl wah_put none ss) v n s h)

words-none : (F : Format) (R : ℕ) → length (words_of F R []) ≡ 0
unfolding ewah_of body
words-none Ewah R = refl
words-none Wah R = wah-size R []

-- ---- from end to end

module _ (F : Format) (R : ℕ) (ss : List Segment) (E : ℕ → Bool) where
  -- the words of the first n segments
  abbrev cost : ℕ → ℕ
  cost n = length (words_of F R (take n ss))

  -- segment i is clean, and the next is of the same value, unless it is an end
  pub record Held (i : ℕ) : Type 0 where
    pub v : ℕ
    pub here : get_or ss i (clean 0) ≡ clean v
    pub next : E (suc i) ≡ false → get_or ss (suc i) (clean 0) ≡ clean v
    pub more : suc i < length ss

  -- after n segments, k of them since the last end, which are clean with value v, and so is the next if it is no end
  record Open (n : ℕ) : Type 0 where
    from : ℕ
    k : ℕ
    v : ℕ
    so_far : n ≡ from + k
    paid : cost from ≤ 2 * count_below n E
    drawn : take n ss ≡ take from ss ++ replicate k (clean v)
    quiet : (i : ℕ) → from ≤ i → i < n → E i ≡ false
    next : 0 < k → E n ≡ false → get_or ss n (clean 0) ≡ clean v
    more : 0 < k → n < length ss

-- one more behind k clean segments
rep-more : (l : List Segment) (k u v : ℕ) → (0 < k → clean u ≡ clean v)
    → l ++ replicate k (clean u) ++ clean v ∷ [] ≡ l ++ replicate (suc k) (clean v)
rep-more l k u v h = append_assoc l (replicate k (clean u)) (clean v ∷ []) ∙ ap (λ (m : List Segment). l ++ m) (go k h)
  where
    snoc : (k : ℕ) → replicate k (clean v) ++ clean v ∷ [] ≡ replicate (suc k) (clean v)
    snoc zero = refl
    snoc (suc k) = ap (λ (m : List Segment). clean v ∷ m) (snoc k)

    go : (k : ℕ) → (0 < k → clean u ≡ clean v) → replicate k (clean u) ++ clean v ∷ [] ≡ replicate (suc k) (clean v)
    go zero h = refl
    go (suc k) h = ap (λ (s : Segment). replicate (suc k) s ++ clean v ∷ []) (h (omega arith)) ∙ snoc (suc k)

module _ (F : Format) (R : ℕ) (ss : List Segment) (E : ℕ → Bool)
    (steady : (i : ℕ) → i < length ss → E i ≡ false → Held F R ss E i)
    (near : (n : ℕ) → n < length ss → Near (most_run F) E (length ss) n) where
  -- one segment more, as a list
  drawn-more : (n : ℕ) → n < length ss → (o : Open F R ss E n)
      → take (suc n) ss ≡ take o.from ss ++ replicate o.k (clean o.v) ++ get_or ss n (clean 0) ∷ []
  drawn-more n h o = take-suc ss n (clean 0) h ∙ ap (λ (l : List Segment). l ++ get_or ss n (clean 0) ∷ []) o.drawn

  -- since the last end there are no more segments than one run can have
  short : (n : ℕ) → n < length ss → (o : Open F R ss E n) → o.k ≤ most_run F
  short n h o =
      let i = near o.from (omega (arith, o.so_far)) in
      elim (dec_le o.k (most_run F)) [
        | yes a ↦ a
        | no a ↦
            let none = o.quiet i.m i.from (omega (arith, i.till, o.so_far)) in
            absurd (true≢false (sym i.ends_there ∙ none))
      ]

  -- at an end the stretch is paid for by two words
  closed : (n : ℕ) → n < length ss → (o : Open F R ss E n) → cost F R ss E (suc n) ≤ cost F R ss E o.from + 2
  closed n h o =
      rw (drawn-more n h o) (stretch-two F R (take o.from ss) o.v o.k (get_or ss n (clean 0)) (short n h o))

  step : (n : ℕ) → n < length ss → Open F R ss E n → Open F R ss E (suc n)
  unfolding count_below sum_below
  step n h o = go (E n) refl
    where
      go : (t : Bool) → E n ≡ t → Open F R ss E (suc n)
      go false q =
          let s = steady n h q in
          let none : bit (E n) ≡ 0 = ap bit q ∙ (unfold bit in refl) in
          record {
            from = o.from;
            k = suc o.k;
            v = s.v;
            so_far = omega (arith, o.so_far);
            paid = omega (arith, o.paid);
            drawn =
                drawn-more n h o
                ∙ ap (λ (t : Segment). take o.from ss ++ replicate o.k (clean o.v) ++ t ∷ []) s.here
                ∙ rep-more (take o.from ss) o.k o.v s.v (λ z. sym (o.next z q) ∙ s.here);
            quiet = λ i a b. elim (dec_le (suc i) n) [
              | yes g ↦ o.quiet i a g
              | no g ↦ (let is : i ≡ n = omega arith in ap E is ∙ q)
            ];
            next = λ z. s.next;
            more = λ z. s.more;
          }
      go true q =
          let one : bit (E n) ≡ 1 = ap bit q ∙ (unfold bit in refl) in
          record {
            from = suc n;
            k = 0;
            v = 0;
            so_far = omega arith;
            paid = omega (arith, closed n h o, o.paid);
            drawn = sym (append-nil (take (suc n) ss));
            quiet = λ i a b. absurd (omega arith);
            next = λ z. absurd (omega arith);
            more = λ z. absurd (omega arith);
          }

  opens : (n : ℕ) → n ≤ length ss → Open F R ss E n
  unfolding count_below sum_below
  opens zero h = record {
    from = 0;
    k = 0;
    v = 0;
    so_far = omega arith;
    paid = omega (arith, words-none F R);
    drawn = refl;
    quiet = λ i a b. absurd (omega arith);
    next = λ z. absurd (omega arith);
    more = λ z. absurd (omega arith);
  }
  opens (suc n) h = step n h (opens n (omega arith))

  -- two words for each end are enough
  pub twice_ends : length (words_of F R ss) ≤ 2 * count_below (length ss) E
  twice_ends =
      let o = opens (length ss) (omega arith) in
      let whole : o.from ≡ length ss = elim (dec_le 1 o.k) [
        | yes g ↦ absurd (omega (arith, o.more g))
        | no g ↦ omega (arith, o.so_far)
      ] in
      omega (
        arith,
        o.paid,
        ap (cost F R ss E) whole,
        ap (λ (l : List Segment). length (words_of F R l)) (take_all (length ss) ss (omega arith)),
      )
