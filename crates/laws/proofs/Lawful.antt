-- `BodyLaws` of both formats, `EwahLaws` and `WahLaws`, of `specs/Laws`, hold.
-- Assumes nothing.
use Rattle.meaning.specs.declared.Format.{Format}
use Rattle.laws.specs.Laws.{BodyLaws, EwahLaws, WahLaws}
use Rattle.laws.proofs.Least.{run-adds, segment-adds}
use Rattle.laws.proofs.Lengthen.{never-shorter}
use Rattle.laws.proofs.ByRuns.{by_runs, wah-by-runs}
use Rattle.laws.proofs.Formats.{spells, sound-means, canonical-body, canonical-form, canonical-fewest, canonical-ext, canonical-none, rewrite-keeps, rewrite-back}

pub body-laws : (F : Format) → BodyLaws F
body-laws F = record {
  spells = spells F;
  sound-means = sound-means F;
  is_body = canonical-body F;
  is-canonical = canonical-form F;
  least = canonical-fewest F;
  same_rows = canonical-ext F;
  no_rows = canonical-none F;
  rewrite-keeps = rewrite-keeps F;
  rewrite-back = rewrite-back F;
}

pub ewah-laws : EwahLaws
ewah-laws = record { by_runs = by_runs; never-shorter = never-shorter; run-adds = run-adds; segment-adds = segment-adds }

pub wah-laws : WahLaws
wah-laws = record { by_runs = wah-by-runs }
