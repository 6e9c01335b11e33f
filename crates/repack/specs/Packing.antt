-- What a packer holds of a set of rows, and what each step on it does, for every such set and wherever its rows begin.
-- Request 4.
-- Assumes nothing.
use Rattle.std.specs.Prelude.{ℕ, ◌+◌, ◌-◌, ◌^◌, ◌<◌, Bool, ◌≡◌}
use Rattle.meaning.specs.Segment.{word_of}
use Rattle.repack.specs.declared.packer.Packer.{Packer}
use Rattle.repack.specs.declared.packer.Taken.{Taken}

-- the packer's rows are those of q from `from` on
abbrev pub Holds : (q : ℕ → Bool) (from : ℕ) → Packer → Type 0
Holds q from p = p.word ≡ word_of p.have (λ j. q (from + j))

-- k rows more, the bits of x, lie behind those that the packer had
pub record Added (p : Packer) (x k : ℕ) (r : Packer) : Type 0 where
  pub have : r.have ≡ p.have + k
  pub low : r.word < 2 ^ r.have
  pub holds : (q : ℕ → Bool) (from : ℕ) → Holds q from p → x ≡ word_of k (λ j. q (from + p.have + j)) → Holds q from r

-- the first w rows went into a segment's word, and the others are left
pub record Split (w : ℕ) (p : Packer) (r : Taken) : Type 0 where
  pub have : r.rest.have ≡ p.have - w
  pub low : r.rest.word < 2 ^ r.rest.have
  pub holds : (q : ℕ → Bool) (from : ℕ) → Holds q from p
      → (r.segment ≡ word_of w (λ j. q (from + j))) × Holds q (from + w) r.rest
