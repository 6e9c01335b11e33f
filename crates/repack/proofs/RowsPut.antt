-- Plain words written row after row: what each step does to them.
-- Assumes nothing.
use Prim.Native.Nat.{ℕ, zero, suc, ◌+◌, ◌-◌, ◌*◌, ◌^◌, ◌≤◌, ◌<◌}
use mathlib.Core.Bool.{Bool}
use mathlib.Core.Path.{◌≡◌, refl, sym, ap, subst, ◌∙◌}
use mathlib.Core.List.{List}
use lib.Dec.{eqb}
use lib.ListN.{length, get_or, set, length-set}
use lib.Pow.{pow_pos}
use lib.Seq.{get_or-set_same, get_or-set_other}
use native.Mathlib.Nat.{zero-mul, one-mul}
use native.Mathlib.Decide.{dec_le, ℕ_discrete}
use native.Mathlib.Omega.{arith}
use Rattle.meaning.specs.Segment.{is_set, bit_at, word_of}
use Rattle.laws.proofs.RowWords.{word-ext, word-self}
use Rattle.laws.proofs.Counting.{zero_clear, full-set}
use Rattle.repack.specs.Packing.{Holds, Added}
use Rattle.repack.specs.Filling.{rows_done, Ready, Laid, Put, Stored}
use Rattle.repack.specs.declared.fill.Filler.{Filler}

-- ---- a word all of whose n rows have the value v

pub fill-low : (n v : ℕ) → v < 2 → v * (2 ^ n - 1) < 2 ^ n
fill-low n zero h = omega (arith, zero-mul (2 ^ n - 1), pow_pos n)
fill-low n (suc zero) h = omega (arith, one-mul (2 ^ n - 1), pow_pos n)
fill-low n (suc (suc v)) h = absurd (omega arith)

pub fill-set : (n v j : ℕ) → v < 2 → j < n → is_set (v * (2 ^ n - 1)) j ≡ eqb v 1
fill-set n zero j h l = ap (λ (x : ℕ). is_set x j) (zero-mul (2 ^ n - 1)) ∙ zero_clear j
fill-set n (suc zero) j h l = ap (λ (x : ℕ). is_set x j) (one-mul (2 ^ n - 1)) ∙ full-set n j l
fill-set n (suc (suc v)) j h l = absurd (omega arith)

-- a word of n bits is that of the rows that its bits are
pub word-from : (n x : ℕ) (q : ℕ → Bool) → x < 2 ^ n → ((j : ℕ) → j < n → q j ≡ is_set x j) → x ≡ word_of n q
unfolding is_set bit_at
word-from n x q h e = sym (word-self n x h) ∙ sym (word-ext n q (is_set x) e)

-- ---- steps

-- the same rows
pub put_same : {f g : ℕ → Bool} {n : ℕ} {s r : Filler} {xs ys : List ℕ}
    → ((j : ℕ) → j < n → f j ≡ g j) → Put f n s xs ys r → Put g n s xs ys r
put_same same p = record {
  rows = p.rows;
  ready = p.ready;
  long = p.long;
  laid = λ q was l e. p.laid q was l (λ j h. e j h ∙ sym (same j h));
}

-- rows put behind others, n in all
pub put-join : {f : ℕ → Bool} {a b n : ℕ} {s t r : Filler} {xs ys zs : List ℕ}
    → n ≡ a + b → Put f a s xs ys t → Put (λ j. f (a + j)) b t ys zs r → Put f n s xs zs r
put-join {a = a} all first next = record {
  rows = omega (arith, first.rows, next.rows);
  ready = next.ready;
  long = next.long ∙ first.long;
  laid = λ q was l e.
      next.laid q was (first.laid q was l (λ j h. e j (omega arith)))
      (λ j h. ap q (omega (arith, first.rows)) ∙ e (a + j) (omega arith));
}

-- ---- k rows, the bits of x

module _ (s : Filler) (x k : ℕ) (out : List ℕ) (small : x < 2 ^ k) where
  -- x is the word of the rows of q that come next
  abbrev pub Next : (q : ℕ → Bool) → Type 0
  Next q = x ≡ word_of k (λ j. q (s.done * 32 + s.packer.have + j))

  next : (q : ℕ → Bool) → ((j : ℕ) → j < k → q (rows_done s + j) ≡ is_set x j) → Next q
  next q e = word-from k x (λ j. q (s.done * 32 + s.packer.have + j)) small e

  -- the word begun is not full yet
  pub put-begun : (r : Filler) → Added s.packer x k r.packer → r.done ≡ s.done → r.packer.have < 32
      → Put (is_set x) k s out out r
  put-begun r a d few = record {
    rows = omega (arith, a.have);
    ready = record { few = few; low = a.low };
    long = refl;
    laid = λ q was l e. record {
      few = few;
      long = l.long;
      whole = λ i h. l.whole i (omega arith);
      behind = λ i h. l.behind i (omega arith);
      begun = subst (λ (n : ℕ). Holds q (n * 32) r.packer) (sym d) (a.holds q (s.done * 32) l.begun (next q e));
    };
  }

  -- it is full, and y is its word
  pub put_full : (r : Filler) (y : ℕ) → s.done < length out → 32 ≤ s.packer.have + k → k ≤ 32 → s.packer.have < 32
      → r.done ≡ s.done + 1 → r.packer.have ≡ s.packer.have + k - 32 → r.packer.word < 2 ^ r.packer.have
      → ((q : ℕ → Bool) → Holds q (s.done * 32) s.packer → Next q
      → (y ≡ word_of 32 (λ j. q (s.done * 32 + j))) × Holds q (s.done * 32 + 32) r.packer)
      → Put (is_set x) k s out (set out s.done y) r
  put_full r y room full most few d n low holds = record {
    rows = omega arith;
    ready = record { few = omega arith; low = low };
    long = length-set out s.done y;
    laid = λ q was l e.
        let h = holds q l.begun (next q e) in
        let on : s.done * 32 + 32 ≡ r.done * 32 = omega arith in
        record {
          few = omega arith;
          long = length-set out s.done y ∙ l.long;
          whole = λ i g. stored q was l h.0 i (omega arith) (ℕ_discrete i s.done);
          behind = λ i g. get_or-set_other out s.done i y 0 (omega arith) ∙ l.behind i (omega arith);
          begun = subst (λ (m : ℕ). Holds q m r.packer) on h.1;
        };
  }
    where
      stored : (q : ℕ → Bool) (was : List ℕ) → Laid q was out s → y ≡ word_of 32 (λ j. q (s.done * 32 + j))
          → (i : ℕ) → i < s.done + 1 → Dec (i ≡ s.done)
          → get_or (set out s.done y) i 0 ≡ word_of 32 (λ j. q (i * 32 + j))
      stored q was l e i g (yes h) =
          ap (λ (m : ℕ). get_or (set out s.done y) m 0) h ∙ get_or-set_same out s.done y 0 room ∙ e
          ∙ ap (λ (m : ℕ). word_of 32 (λ j. q (m * 32 + j))) (sym h)
      stored q was l e i g (no h) = get_or-set_other out s.done i y 0 h ∙ l.whole i (omega arith)

-- ---- whole words of one value

pub stored-none : (x from : ℕ) (was : List ℕ) → Stored x from was was from
stored-none x from was = record {
  long = refl;
  before = λ i h. refl;
  inside = λ i h g. absurd (omega arith);
  behind = λ i h. refl;
}

pub stored_next : (x from : ℕ) (was out : List ℕ) (to : ℕ) → from ≤ to → to < length out
    → Stored x from was out to → Stored x from was (set out to x) (to + 1)
stored_next x from was out to h l s = record {
  long = length-set out to x ∙ s.long;
  before = λ i g. get_or-set_other out to i x 0 (omega arith) ∙ s.before i g;
  inside = λ i g k. go i g k (ℕ_discrete i to);
  behind = λ i g. get_or-set_other out to i x 0 (omega arith) ∙ s.behind i (omega arith);
}
  where
    go : (i : ℕ) → from ≤ i → i < to + 1 → Dec (i ≡ to) → get_or (set out to x) i 0 ≡ x
    go i g k (yes e) = ap (λ (n : ℕ). get_or (set out to x) n 0) e ∙ get_or-set_same out to x 0 l
    go i g k (no e) = get_or-set_other out to i x 0 e ∙ s.inside i g (omega arith)

-- put where no word is begun
module _ (s : Filler) (v n : ℕ) (out out' : List ℕ) (none : s.packer.have ≡ 0) (h : v < 2)
    (st : Stored (v * 4294967295) s.done out out' (s.done + n)) where
  pub put_whole : (r : Filler) → Ready s → r.packer.have ≡ s.packer.have → r.packer.word ≡ s.packer.word
      → r.done ≡ s.done + n → Put (λ j. eqb v 1) (n * 32) s out out' r
  put_whole r ready same word d = record {
    rows = omega arith;
    ready = record {
      few = omega arith;
      low = subst (λ (m : ℕ). r.packer.word < 2 ^ m) (sym same) (omega (arith, ready.low));
    };
    long = st.long;
    laid = λ q was l e. record {
      few = omega arith;
      long = st.long ∙ l.long;
      whole = λ i g. go q was l e i (omega arith) (dec_le s.done i);
      behind = λ i g. st.behind i (omega arith) ∙ l.behind i (omega arith);
      begun = word ∙ l.begun ∙ empty q (s.done * 32) _ none ∙ sym (empty q (r.done * 32) _ (same ∙ none));
    };
  }
    where
      empty : (q : ℕ → Bool) (from n : ℕ) → n ≡ 0 → word_of n (λ j. q (from + j)) ≡ 0
      empty q from n e = ap (λ (m : ℕ). word_of m (λ j. q (from + j))) e ∙ (unfold word_of in refl)

      go : (q : ℕ → Bool) (was : List ℕ) → Laid q was out s → ((j : ℕ) → j < n * 32 → q (rows_done s + j) ≡ eqb v 1)
          → (i : ℕ) → i < s.done + n → Dec (s.done ≤ i) → get_or out' i 0 ≡ word_of 32 (λ j. q (i * 32 + j))
      go q was l e i g (yes k) =
          st.inside i k g
          ∙ word-from 32 (v * 4294967295) (λ j. q (i * 32 + j)) (fill-low 32 v h)
          (λ j b. ap q (omega arith) ∙ e ((i - s.done) * 32 + j) (omega arith) ∙ sym (fill-set 32 v j h b))
      go q was l e i g (no k) = st.before i (omega arith) ∙ l.whole i (omega arith)
