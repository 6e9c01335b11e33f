-- `ewah_read::expand::spread` meets its contract. The invariant: the walk stands at a marker with o segments behind;
-- these are written, and the words behind them are as they were.
-- Assumes nothing.
use mathlib.Core.Path.{◌≡◌}
use mathlib.Core.List.{◌++◌}
use lib.ListN.{length, take, drop}
use Rattle.meaning.specs.Ewah.{segments}
use Rattle.ewah.proofs.Taking.{Left}
use Rattle.ewah_read.proofs.expand.spread.Given as goal

abbrev pub invariant-loop-m : goal.invariant-loop-m
invariant-loop-m l =
    Left l.body l.m-iterator.rest.now l.o × (length l.out ≡ length l.initial.out) × (l.out ≡ take l.o (segments l.body) ++ drop l.o l.initial.out)
