-- `column_pair::write::write` meets its contract: measured, laid out, and written where it fits.
-- Assumes nothing.
use Prim.Native.Nat.{ℕ, ◌+◌, ◌*◌, ◌≤◌, ◌<◌}
use mathlib.Core.Path.{◌≡◌, ap, subst}
use mathlib.Core.List.{List}
use lib.ListN.{length, get_or, take, replicate}
use lib.Seq.{get_or-take, length-take-le}
use native.Mathlib.Omega.{arith}
use Rattle.meaning.specs.Limits.{most_starts, head_words, entry_words}
use Rattle.meaning.specs.Index.{format_of, row_count}
use Rattle.meaning.specs.NewIndex.{index_room}
use Rattle.meaning.specs.declared.Pairing.{Pairing}
use Rattle.laws.proofs.NewIndexes.{room_within}
use Rattle.blocks.proofs.Values.{zeros}
use Rattle.new_index.specs.Layouts.{StartsOf, Headed}
use Rattle.new_index.specs.Writers.{writer_of, no_writer, Laid}
use Rattle.ewah_write.specs.declared.writer.Writer.{Writer}
use Rattle.pairs.specs.Passes.{Columns, body_of}
use Rattle.laws.specs.ColumnLaws.{pair_index}
use Rattle.column_pair.proofs.Laying.{nowhere-laid, nothing-kept, none-stored, headed-as, body-low, need-is, laid, contents-fit, exact, written}
use Rattle.column_pair.proofs.write.write.Lts
use Rattle.column_pair.proofs.write.write.Reads
use Rattle.column_pair.proofs.write.write.Tie
use Rattle.column_pair.proofs.write.write.Goals as goal

-- places in the code that lemmas below speak of
abbrev After-starts-starts : Type 0
After-starts-starts = Lts.After-starts Tie.the-claims Reads.Pre Reads.Post Tie.handed_clauses

abbrev After-room : Type 0
After-room = Lts.After-room Tie.the-claims Reads.Pre Reads.Post Tie.handed_clauses

abbrev After-write_contents : Type 0
After-write_contents = Lts.After-write_contents Tie.the-claims Reads.Pre Reads.Post Tie.handed_clauses

-- ---- where the bodies are measured and laid out
module _ (s : After-starts-starts) where
  abbrev op : Pairing
  op = s.args.op

  abbrev index : List ℕ
  index = s.args.index.now

  abbrev first : List ℕ
  first = s.args.first.now

  abbrev second : List ℕ
  second = s.args.second.now

  abbrev n : ℕ
  n = s.args.n

  abbrev old : List ℕ
  old = s.args.out.now

  abbrev ws : List Writer
  ws = take (n + 1) s.pass-measured.result

  abbrev starts : List ℕ
  starts = s.starts-starts.result

  cs : Columns index first second n
  cs = s.requires

  many : length ws ≡ n + 1
  many = length-take-le (n + 1) s.pass-measured.result (omega (arith, s.pass-measured.ensures.writers-long, cs.few))

  used : (i : ℕ) → i ≤ n → (writer_of ws i).used ≡ length (body_of op index first second n i)
  used i h = rw (get_or-take (n + 1) s.pass-measured.result i no_writer (omega arith)) (s.pass-measured.ensures.used i h)

  st : StartsOf ws (n + 1) (head_words + entry_words * (n + 1)) starts
  st = subst (λ (k : ℕ). StartsOf ws k (head_words + entry_words * (n + 1)) starts) many s.starts-starts.ensures

  -- measuring stored nothing
  same : s.pass-measured.new.out ≡ old
  same = nothing-kept (replicate most_starts 0) old _ (n + 1) (zeros most_starts) s.pass-measured.ensures.back

  need : get_or starts (n + 1) 0 ≡ length (pair_index op index first second n)
  need = need-is op index first second n cs ws starts used st

  in_order : (room : ℕ) → get_or starts (n + 1) 0 ≤ room → Laid starts (n + 1) room
  in_order = laid op index first second n cs ws starts used st

-- the words needed, and that there is room for an index of so many
abbrev needed : After-room → ℕ
needed r = get_or (starts r.before) (n r.before + 1) 0

fits : (r : After-room) → needed r ≤ r.room.result → needed r ≤ index_room (length (old r.before))
fits r h = omega (arith, h, r.room.ensures, ap (λ (l : List ℕ). index_room (length l)) (same r.before))

pub pass-measured-requires : goal.pass-measured-requires
pass-measured-requires c =
    record {
      columns = c.requires;
      laid = nowhere-laid (replicate most_starts 0) (c.args.n + 1) _ (omega (arith, c.requires.few)) (zeros most_starts);
      i_in_bounds = none-stored c.args.op c.args.index.now c.args.first.now c.args.second.now c.args.n (replicate most_starts 0) c.args.out.now;
    }

pub starts-starts-requires : goal.starts-starts-requires
starts-starts-requires c =
    let p = c.pass-measured.ensures in
    let k = c.args.n + 1 in
    let many = length-take-le k c.pass-measured.result (omega (arith, p.writers-long, c.requires.few)) in (
      omega (arith, many, c.requires.few),
      omega (arith, c.requires.few),
      λ i h.
          let l : i < k = omega (arith, many) in
          rw (get_or-take k c.pass-measured.result i no_writer l)
          (omega (arith, p.used i (omega arith), body-low c.args.op c.args.index.now c.args.first.now c.args.second.now c.args.n c.requires i)),
    )

pub returns-then-room-need : goal.returns-then-room-need
returns-then-room-need c =
    record {
      need-is = need c.before.before.before;
      fits = λ h. absurd (omega (arith, c.if-room-need.true, c.room.ensures, ap (λ (l : List ℕ). index_room (length l)) (same c.before.before.before)));
      lacks = λ h. same c.before.before.before;
    }

pub format-requires : goal.format-requires
format-requires c = (cs c.before.before.before.before).facts.head.head

pub write_contents-requires : goal.write_contents-requires
write_contents-requires c =
    let w = room_within (needed c.before.before.before.before.before.before) (length (old c.before.before.before.before.before.before.before)) (fits c.before.before.before.before.before.before c.if-room-need.false) in
    let l = in_order c.before.before.before.before.before.before.before (length (old c.before.before.before.before.before.before.before)) w.0 in record {
      count_le_most_value_column = (
        omega (arith, (cs c.before.before.before.before.before.before.before).few),
        l.many,
        omega (
          arith,
          contents-fit (op c.before.before.before.before.before.before.before) (index c.before.before.before.before.before.before.before) (first c.before.before.before.before.before.before.before) (second c.before.before.before.before.before.before.before) (n c.before.before.before.before.before.before.before) (cs c.before.before.before.before.before.before.before) (ws c.before.before.before.before.before.before.before) (starts c.before.before.before.before.before.before.before) (used c.before.before.before.before.before.before.before) (st c.before.before.before.before.before.before.before),
          w.0,
          ap length (same c.before.before.before.before.before.before.before),
        ),
      );
      by_index = λ i h. (
        l.rising i (i + 1) (omega arith) (omega arith),
        omega (arith, l.rising (i + 1) (n c.before.before.before.before.before.before.before + 1) (omega arith) (omega arith), w.1),
      );
    }

-- ---- where the contents are written
module _ (h : After-write_contents) where
  abbrev mid : List ℕ
  mid = h.write_contents.new.out

  within : needed h.before.before.before.before.before.before ≤ index_room (length (old h.before.before.before.before.before.before.before))
  within = fits h.before.before.before.before.before.before h.if-room-need.false

  room : needed h.before.before.before.before.before.before ≤ length (old h.before.before.before.before.before.before.before)
  room = (room_within (needed h.before.before.before.before.before.before) (length (old h.before.before.before.before.before.before.before)) within).0

  headed :
      Headed (format_of (index h.before.before.before.before.before.before.before)) (old h.before.before.before.before.before.before.before) (row_count (index h.before.before.before.before.before.before.before)) (starts h.before.before.before.before.before.before.before) (n h.before.before.before.before.before.before.before + 1) mid (n h.before.before.before.before.before.before.before + 1)
  headed =
      headed-as (starts h.before.before.before.before.before.before.before) (n h.before.before.before.before.before.before.before + 1) mid (n h.before.before.before.before.before.before.before + 1) h.format.ensures (same h.before.before.before.before.before.before.before)
      h.rows-rows.ensures h.write_contents.ensures

pub pass-requires : goal.pass-requires
pass-requires c =
    record {
      columns = cs c.before.before.before.before.before.before.before.before.before.before.before.before;
      laid = in_order c.before.before.before.before.before.before.before.before.before.before.before.before _ (omega (arith, (headed c.before.before.before.before.before).long, room c.before.before.before.before.before));
      i_in_bounds = λ e i l.
          omega (
            arith,
            exact (op c.before.before.before.before.before.before.before.before.before.before.before.before) (index c.before.before.before.before.before.before.before.before.before.before.before.before) (first c.before.before.before.before.before.before.before.before.before.before.before.before) (second c.before.before.before.before.before.before.before.before.before.before.before.before) (n c.before.before.before.before.before.before.before.before.before.before.before.before) (cs c.before.before.before.before.before.before.before.before.before.before.before.before) (ws c.before.before.before.before.before.before.before.before.before.before.before.before) (starts c.before.before.before.before.before.before.before.before.before.before.before.before) (used c.before.before.before.before.before.before.before.before.before.before.before.before) (st c.before.before.before.before.before.before.before.before.before.before.before.before) (mid c.before.before.before.before.before) i
                (omega (arith, (headed c.before.before.before.before.before).long, room c.before.before.before.before.before)) l,
          );
    }

pub returns : goal.returns
returns c =
    let out =
    written (op c.before.before.before.before.before.before.before.before.before.before.before.before.before.before.before) (index c.before.before.before.before.before.before.before.before.before.before.before.before.before.before.before) (first c.before.before.before.before.before.before.before.before.before.before.before.before.before.before.before) (second c.before.before.before.before.before.before.before.before.before.before.before.before.before.before.before) (n c.before.before.before.before.before.before.before.before.before.before.before.before.before.before.before) (cs c.before.before.before.before.before.before.before.before.before.before.before.before.before.before.before) (ws c.before.before.before.before.before.before.before.before.before.before.before.before.before.before.before) (starts c.before.before.before.before.before.before.before.before.before.before.before.before.before.before.before) (used c.before.before.before.before.before.before.before.before.before.before.before.before.before.before.before) (st c.before.before.before.before.before.before.before.before.before.before.before.before.before.before.before) (old c.before.before.before.before.before.before.before.before.before.before.before.before.before.before.before) (mid c.before.before.before.before.before.before.before.before) _ _ (room c.before.before.before.before.before.before.before.before)
    (headed c.before.before.before.before.before.before.before.before) c.pass.ensures in
    record { need-is = need c.before.before.before.before.before.before.before.before.before.before.before.before.before.before.before; fits = λ l. out; lacks = λ l. absurd (omega (arith, within c.before.before.before.before.before.before.before.before)) }
