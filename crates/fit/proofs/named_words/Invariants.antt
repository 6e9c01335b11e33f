-- `fit::named_words` meets its contract. The invariant: the total and the words of the bodies that are left are all the words. Assumes nothing.
use Prim.Native.Nat.{◌+◌, ◌*◌, ◌≤◌}
use mathlib.Core.Path.{◌≡◌}
use lib.ListN.{drop}
use Rattle.meaning.specs.Answer.{named_bodies}
use Rattle.meaning.specs.Question.{total_words}
use Rattle.fit.proofs.named_words.Given as goal

abbrev pub invariant-loop-k : goal.invariant-loop-k
invariant-loop-k l = record {
  low : l.total ≤ l.k-index * 4294967296;
  all : l.total + total_words (named_bodies l.index (drop l.k-index l.list)) ≡ total_words (named_bodies l.index l.list);
}
