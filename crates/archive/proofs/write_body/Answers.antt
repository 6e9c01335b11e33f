-- `archive::write_body` meets its contract: body k comes to its place, and its entry says where it starts and how many words
-- it has.
-- Assumes nothing.
use Prim.Native.Nat.{ℕ, ◌+◌, ◌-◌, ◌≤◌, ◌<◌}
use mathlib.Core.Path.{◌≡◌, refl, ap, ◌∙◌}
use mathlib.Core.List.{List, ◌++◌}
use lib.ListN.{length, take, drop, length-set}
use Rattle.meaning.specs.Limits.{most_index_words}
use Rattle.meaning.specs.Format.{canonical}
use Rattle.meaning.specs.Index.{row_count, bitmap_count, entry_place, body_place, body_at, rows_at}
use Rattle.laws.specs.Laws.{IndexFacts}
use Rattle.laws.proofs.NewIndexes.{room_within}
use Rattle.archive.specs.Anew.{anew}
use Rattle.archive.proofs.Growing.{words_of, within, entries-before, part_room, lent-long, begun_more}
use Rattle.archive.proofs.Renewed.{new-facts, new-count, new-body}
use native.Mathlib.Omega.{arith}
use Rattle.archive.proofs.write_body.Lts
use Rattle.archive.proofs.write_body.Reads
use Rattle.archive.proofs.write_body.Tie
use Rattle.archive.proofs.write_body.Goals as goal

-- places in the code that lemmas below speak of
abbrev Start : Type 0
Start = Lts.Start Tie.the-claims Reads.Pre Reads.Post Tie.handed_clauses

abbrev After-entry_place-entry : Type 0
After-entry_place-entry = Lts.After-entry_place Tie.the-claims Reads.Pre Reads.Post Tie.handed_clauses

-- at the start: the new index, its body k, and where that lies in it and in the buffer
module _ (s : Start) where
  abbrev index : List ℕ
  index = s.args.index.now

  abbrev out : List ℕ
  out = s.args.out.now

  abbrev at : ℕ
  at = s.args.at

  abbrev k : ℕ
  k = s.args.k

  abbrev t : List ℕ
  t = anew index s.args.to

  abbrev b : List ℕ
  b = body_at t k

  room : (length t ≤ length out) × (length t ≤ most_index_words)
  room = room_within (length t) (length out) s.requires.at_value.1

  facts : IndexFacts t
  facts = new-facts index s.args.to s.requires.index_facts room.1

  inside : k < bitmap_count t
  inside = omega (arith, s.requires.k_bound, new-count index s.args.to s.requires.index_facts)

  is_body : canonical s.args.to (row_count index) (rows_at index k) ≡ b
  is_body = new-body index s.args.to s.requires.index_facts room.1 k s.requires.k_bound

  end : at + length b ≡ body_place t (k + 1)
  end = omega (arith, words_of t facts k inside, s.requires.at_value.0)

  fits : at + length b ≤ length out
  fits = omega (arith, end, within t facts k inside, room.0)

  few : at + length b ≤ most_index_words
  few = omega (arith, end, within t facts k inside)

  -- its entry lies before it
  entry-before : (entry : ℕ) → entry ≡ entry_place index k → entry + 1 < at
  unfolding entry_place
  entry-before entry e = omega (arith, e, inside, entries-before t facts k, s.requires.at_value.0)

pub offset_bounds-out-at : goal.offset_bounds-out-at
offset_bounds-out-at c = record { fits = omega (arith, few c.before.before.before) }

pub slice_bounds-store_body-count : goal.slice_bounds-store_body-count
slice_bounds-store_body-count c = omega (arith, fits c.before.before.before)

pub slice_bounds-store_body-start : goal.slice_bounds-store_body-start
slice_bounds-store_body-start c = omega (arith, fits c.before.before.before)

pub store_body-words-requires-clause-k_in_bounds : goal.store_body-words-requires-clause-k_in_bounds
store_body-words-requires-clause-k_in_bounds c =
    omega (arith, ap length (is_body c.before.before.before.before), part_room (out c.before.before.before.before) (b c.before.before.before.before) (at c.before.before.before.before) (fits c.before.before.before.before))

-- behind both calls: what came back for the body, the buffer's length, and the entry in it
module _ (c : After-entry_place-entry) where
  abbrev back : List ℕ
  back = c.store_body-words.new.out

  came : back ≡ b c.before.before.before.before.before.before.before ++ drop (length (b c.before.before.before.before.before.before.before)) (take (length (out c.before.before.before.before.before.before.before) - at c.before.before.before.before.before.before.before) (drop (at c.before.before.before.before.before.before.before) (out c.before.before.before.before.before.before.before)))
  came =
      c.store_body-words.ensures.stored refl
      ∙ ap (λ (l : List ℕ). l ++ drop (length l) (take (length (out c.before.before.before.before.before.before.before) - at c.before.before.before.before.before.before.before) (drop (at c.before.before.before.before.before.before.before) (out c.before.before.before.before.before.before.before)))) (is_body c.before.before.before.before.before.before.before)

  long : length (take (at c.before.before.before.before.before.before.before) (out c.before.before.before.before.before.before.before) ++ (back ++ drop (length (out c.before.before.before.before.before.before.before) - at c.before.before.before.before.before.before.before) (drop (at c.before.before.before.before.before.before.before) (out c.before.before.before.before.before.before.before)))) ≡ length (out c.before.before.before.before.before.before.before)
  long = lent-long (out c.before.before.before.before.before.before.before) (b c.before.before.before.before.before.before.before) (at c.before.before.before.before.before.before.before) (fits c.before.before.before.before.before.before.before) back came

  words : c.store_body-words.result ≡ length (b c.before.before.before.before.before.before.before)
  words = c.store_body-words.ensures.words_are ∙ ap length (is_body c.before.before.before.before.before.before.before)

  few_words : at c.before.before.before.before.before.before.before + c.store_body-words.result ≤ most_index_words
  few_words = omega (arith, few c.before.before.before.before.before.before.before, words)

  entry-low : c.entry_place-entry.result + 1 < length (out c.before.before.before.before.before.before.before)
  entry-low = omega (arith, entry-before c.before.before.before.before.before.before.before c.entry_place-entry.result c.entry_place-entry.ensures.0, fits c.before.before.before.before.before.before.before)

pub overflow_cast-out : goal.overflow_cast-out
overflow_cast-out c = record { fits = omega (arith, few_words c.before) }

pub bounds-out-entry : goal.bounds-out-entry
bounds-out-entry c = omega (arith, long c.before, entry-low c.before)

pub overflow_cast-out-2 : goal.overflow_cast-out-2
overflow_cast-out-2 c = record { fits = omega (arith, few_words c.before) }

pub bounds-out-entry-2 : goal.bounds-out-entry-2
bounds-out-entry-2 c = simp length-set (omega (arith, long c.before, entry-low c.before))

pub returns : goal.returns
unfolding entry_place
returns c =
    let e = c.entry_place-entry in (
      omega (arith, end c.before.before.before.before.before.before.before.before, words c.before),
      λ old g. begun_more (t c.before.before.before.before.before.before.before.before) (facts c.before.before.before.before.before.before.before.before) old (out c.before.before.before.before.before.before.before.before) (k c.before.before.before.before.before.before.before.before) (inside c.before.before.before.before.before.before.before.before) (room c.before.before.before.before.before.before.before.before).0 g
          (back c.before) (at c.before.before.before.before.before.before.before.before) c.store_body-words.result e.result (came c.before) c.requires.at_value.0 (words c.before) e.ensures.0,
    )
