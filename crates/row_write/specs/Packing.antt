-- Rows that go through a packer to the writer of a body: how far they are, what each step does, and what comes out.
-- Assumes nothing.
use Rattle.std.specs.Prelude.{ℕ, ◌+◌, ◌*◌, ◌^◌, ◌≤◌, ◌<◌, Bool, true, false, ◌≡◌, List, ◌++◌, length, drop}
use Rattle.meaning.specs.Format.{width, canonical}
use Rattle.meaning.specs.declared.Format.{Format}
use Rattle.repack.specs.Packing.{Holds}
use Rattle.row_write.specs.declared.output.Output.{Output}
use Rattle.row_write.specs.Sending.{Sent}

-- of the R rows q the first d were put: `whole` segments went to the writer, and the packer has the rows behind them
pub record Packed (F : Format) (R : ℕ) (q : ℕ → Bool) (old : List ℕ) (store : Bool) (out : List ℕ) (d : ℕ) (o : Output) : Type 0 where
  pub whole : ℕ
  pub rows : d ≡ whole * width F + o.packer.have
  pub low : o.packer.word < 2 ^ o.packer.have
  pub begun : Holds q (whole * width F) o.packer
  pub sent : Sent F R q old store out whole o.writer

-- and the next n of them are f 0, f 1, ..
pub record Coming (F : Format) (R : ℕ) (q : ℕ → Bool) (old : List ℕ) (store : Bool) (out : List ℕ) (d : ℕ) (o : Output)
    (f : ℕ → Bool) (n : ℕ) : Type 0 where
  pub packed : Packed F R q old store out d o
  pub within : d + n ≤ R
  pub next : (j : ℕ) → j < n → q (d + j) ≡ f j

-- so it is for some set of rows
abbrev pub Takes : Format → (store : Bool) (out : List ℕ) → Output → (f : ℕ → Bool) (n : ℕ) → Type 0
Takes F store out o f n =
    (R : ℕ) × (q : ℕ → Bool) × (old : List ℕ) × (d : ℕ) × Coming F R q old store out d o f n

-- n rows more were put, f 0, f 1, .. , whatever set they are of
pub record PutOn (F : Format) (store : Bool) (out out' : List ℕ) (o : Output) (f : ℕ → Bool) (n : ℕ) (r : Output) : Type 0 where
  pub on : (R : ℕ) (q : ℕ → Bool) (old : List ℕ) (d : ℕ) → Coming F R q old store out d o f n
      → Packed F R q old store out' (d + n) r

-- r words: those of the canonical body, which stands in the buffer where it is stored; all else is as it was
pub record Rewritten (F : Format) (R : ℕ) (q : ℕ → Bool) (old : List ℕ) (store : Bool) (out : List ℕ) (r : ℕ) : Type 0 where
  pub words_are : r ≡ length (canonical F R q)
  pub stored : store ≡ true → out ≡ canonical F R q ++ drop (length (canonical F R q)) old
  pub kept : store ≡ false → out ≡ old
