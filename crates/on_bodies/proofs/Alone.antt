-- A body alone: its rows are tested first, and where it is sound the facts of a sound body hold. Its count, behind the
-- check.
-- Assumes nothing.
use Prim.Native.Nat.{ℕ, ◌≤◌, ◌<◌}
use mathlib.Core.Path.{◌≡◌, ap}
use mathlib.Core.List.{List}
use lib.Dec.{ltb}
use borrow.Author.Tests.{lt-ltb, le-ltb, ltb-false}
use Rattle.meaning.specs.Limits.{most_rows}
use Rattle.meaning.specs.Rows.{count_below}
use Rattle.meaning.specs.Refusal.{refused, answer, Verdict, sound, refuse_if, ◌then◌}
use Rattle.meaning.specs.Format.{body_fault, rows_of}
use Rattle.meaning.specs.declared.Format.{Format}
use Rattle.laws.specs.Laws.{SoundFacts}
use Rattle.meaning.specs.Answer.{rows_fault, check_body, ask_count, body_count}
use Rattle.laws.proofs.Outcomes.{refuse-answer, then-answer}
use Rattle.laws.proofs.Lawful.{body-laws}
use Rattle.answers.specs.declared.refusal.Refusal.{Refusal}
use Rattle.std.specs.Prelude.{Result, Ok, Err}
use Rattle.std.specs.Result.{IsErrAnd}
use Rattle.answers.specs.Told.{outcome_of}
use Rattle.answers.proofs.Checks.{sound-is, stopped, answers}

pub rows-over : (F : Format) (R : ℕ) (b : List ℕ) → most_rows < R → refused 3 0 1 ≡ check_body F R b
unfolding check_body rows_fault ◌then◌ refuse_if
rows-over F R b h = rw (lt-ltb most_rows R h)

pub rows-fine : (F : Format) (R : ℕ) (b : List ℕ) (v : Verdict) → R ≤ most_rows → v ≡ body_fault F 0 0 R b → v ≡ check_body F R b
unfolding check_body rows_fault ◌then◌ refuse_if
rows-fine F R b v h e = rw (le-ltb most_rows R h) e

pub few-rows : (F : Format) (R : ℕ) (b : List ℕ) → check_body F R b ≡ sound → R ≤ most_rows
unfolding check_body rows_fault
few-rows F R b e =
    let p = then-answer (rows_fault R) (body_fault F 0 0 R b) tt e in
    let q = refuse-answer (ltb most_rows R) 3 0 1 sound tt p.0 in
    ltb-false most_rows R q.0

pub facts : (F : Format) (R : ℕ) (b : List ℕ) → check_body F R b ≡ sound → SoundFacts F R b
unfolding check_body rows_fault
facts F R b e = let p = then-answer (rows_fault R) (body_fault F 0 0 R b) tt e in ((body-laws F).sound-means R b).0 p.1

-- ---- how many rows are set, behind the check k

module _ (k : Result (Unit {0}) Refusal) (F : Format) (R : ℕ) (b : List ℕ) (e : outcome_of k ≡ check_body F R b) where
  pub count-refused : (r : Result ℕ Refusal) (x : Refusal) → k ≡ Err x → IsErrAnd r (λ y. y ≡ x) → outcome_of r ≡ body_count F R b
  unfolding body_count
  count-refused = stopped k (check_body F R b) e (ask_count R (rows_of F b))

  module _ (h : k ≡ Ok tt) where
    no-fault : check_body F R b ≡ sound
    no-fault = sound-is k (check_body F R b) e h

    pub countable : (R ≤ most_rows) × SoundFacts F R b
    countable = (few-rows F R b no-fault, facts F R b no-fault)

    pub count-answered : (n : ℕ) → n ≡ count_below R (rows_of F b) → outcome_of (Ok n) ≡ body_count F R b
    unfolding outcome_of body_count ask_count
    count-answered n counts = answers k (check_body F R b) e (ask_count R (rows_of F b)) (answer n) h (ap answer counts)
