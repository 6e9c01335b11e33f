-- From the outcome of the threshold question to the head of the output, or the line of its refusal.
-- Assumes nothing.
use Prim.Native.Nat.{ℕ, ◌+◌, ◌*◌, ◌/◌, ◌%◌, min, ◌≤◌, ◌<◌}
use mathlib.Core.Path.{◌≡◌, refl, sym, ap, subst, ◌∙◌}
use mathlib.Core.Bool.{true, false, not}
use mathlib.Core.List.{List, ◌++◌}
use native.Mathlib.Omega.{arith}
use lib.Dec.{eqb, ltb}
use lib.ListN.{length, get_or, set, take, drop, length-take}
use borrow.Author.Count.{below_more}
use borrow.Author.Tests.{lt-ltb, le-ltb, ltb-false, eqb-true, not-false}
use lib.Seq.{ext_get_or, get_or-take, get_or-set_same, get_or-set_other, length-take-le, take_at}
use Rattle.threshold.proofs.Bytes.{words_count}
use Rattle.meaning.specs.Limits.{most_rows, most_bitmaps, head_words}
use Rattle.meaning.specs.Rows.{count_below}
use Rattle.meaning.specs.Segment.{tabulate}
use Rattle.meaning.specs.Refusal.{Outcome, refused, answer, Verdict, sound, ◌then◌}
use Rattle.meaning.specs.Format.{width, rows_of, canonical}
use Rattle.meaning.specs.declared.Format.{Format}
use Rattle.meaning.specs.Index.{format_of, row_count, bitmap_count}
use Rattle.laws.specs.Laws.{SoundFacts, HeadFacts, IndexFacts}
use Rattle.meaning.specs.Answer.{check, threshold, ask_threshold, right_rows, words_reported}
use Rattle.laws.proofs.RowWords.{rows_fit, length-tabulate, get_d_tabulate}
use Rattle.laws.proofs.Formats.{width-pos, sound-means, facts-some, facts-count, canonical-sound, segments-most}
use Rattle.laws.proofs.IndexSound.{index-means}
use Rattle.laws.proofs.Tests.{or-false}
use Rattle.laws.proofs.Demanded.{answered-is}
use Rattle.answers.specs.declared.refusal.Refusal.{Refusal}
use Rattle.std.specs.Prelude.{Result, Ok, Err}
use Rattle.answers.specs.declared.answer.Report.{Report}
use Rattle.answers.specs.Told.{number_of, answered_of, words_in, Reported}
use Rattle.text.specs.Lines.{refused_text, head_text, lines_from}
use Rattle.threshold.specs.Output.{answer_room, all_named, outcome_text, asked, most_bytes, ragged, words_of, output_of}
use Rattle.text.specs.Standings.{Covers}
use Rattle.threshold.specs.Begins.{Answers}

-- ---- the names

-- one name more
pub name-more : (l : List ℕ) (i : ℕ) → i < length l → ((k : ℕ) → k < i → get_or l k 0 ≡ k) → (k : ℕ) → k < i + 1 → get_or (set l i i) k 0 ≡ k
name-more l i h all = below_more (λ k. get_or (set l i i) k 0 ≡ k) i (λ k m. get_or-set_other l i k i 0 (λ q. omega arith) ∙ all k m) (get_or-set_same l i i 0 h)

pub all-names : (l : List ℕ) → length l ≡ most_bitmaps → ((k : ℕ) → k < length l → get_or l k 0 ≡ k) → l ≡ all_named most_bitmaps
unfolding all_named
all-names l h all = ext_get_or 0 l (tabulate most_bitmaps (λ k. k)) (omega (arith, length-tabulate most_bitmaps (λ k. k))) (λ i m. all i m ∙ sym (get_d_tabulate most_bitmaps (λ k. k) i (omega arith)))

-- the first n of the most
first-names : (n : ℕ) → n ≤ most_bitmaps → take n (all_named most_bitmaps) ≡ all_named n
unfolding all_named
first-names n h =
    let e : length (take n (tabulate most_bitmaps (λ k. k))) ≡ n = length-take-le n (tabulate most_bitmaps (λ k. k)) (omega (arith, length-tabulate most_bitmaps (λ k. k))) in
    ext_get_or 0 (take n (tabulate most_bitmaps (λ k. k))) (tabulate n (λ k. k)) (omega (arith, length-tabulate n (λ k. k)))
    (λ i l. get_or-take n (tabulate most_bitmaps (λ k. k)) i 0 (omega arith) ∙ get_d_tabulate most_bitmaps (λ k. k) i (omega arith) ∙ sym (get_d_tabulate n (λ k. k) i (omega arith)))

-- as many as are to be named
pub named-length : (n : ℕ) (all : List ℕ) → all ≡ all_named most_bitmaps → (N : ℕ) → n ≡ min N most_bitmaps → n ≡ length (take n all)
unfolding all_named
named-length n all e N h = sym (length-take-le n all (omega (arith, ap length e, length-tabulate most_bitmaps (λ k. k))))

then_same : {A : Type 0} (v : Verdict) (a b : Outcome A) → (v ≡ sound → a ≡ b) → (v then a) ≡ (v then b)
unfolding ◌then◌
then_same (refused number bitmap word) a b f = refl
then_same (answer u) a b f = f refl

-- more names than the most are of no account: the index is refused then
module _ (index : List ℕ) (T room n : ℕ) (all : List ℕ) (all-is : all ≡ all_named most_bitmaps) (n-is : n ≡ min (bitmap_count index) most_bitmaps) where
  pub same-question : threshold index (take n all) T room ≡ threshold index (all_named (bitmap_count index)) T room
  unfolding threshold check
  same-question =
      then_same (check index) _ _
      (λ s. ap (λ (l : List ℕ). ask_threshold index l T room) (listed ((index-means index).0 s)))
    where
      listed : IndexFacts index → take n all ≡ all_named (bitmap_count index)
      listed f = let e : n ≡ bitmap_count index = omega (arith, f.head.few-bitmaps) in ap (take n) all-is ∙ first-names n (omega arith) ∙ ap all_named e

-- ---- the outcome that was told

-- an answer's body, of the index's format, is sound; the index has a head, and no more rows than the limit
record Answering (index b : List ℕ) : Type 0 where
  body : SoundFacts (format_of index) (row_count index) b
  head : HeadFacts index

answering : (index list : List ℕ) (T room : ℕ) (b : List ℕ) → threshold index list T room ≡ answer b → Answering index b
answering index list T room b e =
    let p = answered-is index list T room b e in
    let F = format_of index in
    let right = right_rows index list T in
    let R = row_count index in
    let sound = (sound-means F R (canonical F R right)).0 (canonical-sound F R right) in
    record {
      body = subst (λ (x : List ℕ). SoundFacts (format_of index) (row_count index) x) (sym p.1) sound;
      head = ((index-means index).0 p.0.is_sound).head;
    }

-- its text: the head, and a line for each row
answer-text : (index : List ℕ) (T : ℕ) (b : List ℕ)
    → let p = rows_of (format_of index) b in
    let R = row_count index in
    outcome_text index T (answer b) ≡ head_text R (bitmap_count index) T (count_below R p) ++ lines_from p 0 R
unfolding outcome_text
answer-text index T b = refl

-- the outcome of the program's question is told, with its words, and an answer stands at the buffer's front
pub record Told (index : List ℕ) (T : ℕ) (buffer' : List ℕ) (r : Result Report Refusal) : Type 0 where
  pub told : answered_of r buffer' ≡ threshold index (all_named (bitmap_count index)) T answer_room
  pub words : words_in r ≡ words_reported (threshold index (all_named (bitmap_count index)) T answer_room)

pub told_of : (index : List ℕ) (T n : ℕ) (all : List ℕ) → all ≡ all_named most_bitmaps → n ≡ min (bitmap_count index) most_bitmaps
    → (buffer buffer' : List ℕ) → length buffer ≡ answer_room → (r : Result Report Refusal)
    → Reported index (take n all) (threshold index (take n all) T (length buffer)) r buffer buffer'
    → Told index T buffer' r
told_of index T n all all-is n-is buffer buffer' room r rep =
    record { told = rep.told ∙ same; words = rep.words ∙ ap words_reported same }
  where
    same : threshold index (take n all) T (length buffer) ≡ threshold index (all_named (bitmap_count index)) T answer_room
    same = same-question index T (length buffer) n all all-is n-is ∙ ap (threshold index (all_named (bitmap_count index)) T) room

module _ {index : List ℕ} {T : ℕ} {buffer' : List ℕ} {r : Result Report Refusal} (g : Told index T buffer' r) where
  pub ask-refused : (q : Refusal) → r ≡ Err q → asked T index ≡ refused_text (number_of q.fault) q.bitmap q.word
  unfolding answered_of outcome_text asked
  ask-refused q e =
      let told = sym (ap (λ (x : Result Report Refusal). answered_of x buffer') e) ∙ g.told in
      sym (ap (outcome_text index T) told)

  module _ {report : Report} (e : r ≡ Ok report) where
    abbrev w : ℕ
    w = report.words

    answer-is : threshold index (all_named (bitmap_count index)) T answer_room ≡ answer (take w buffer')
    unfolding answered_of
    answer-is = sym g.told ∙ ap (λ (x : Result Report Refusal). answered_of x buffer') e

    pub within : report.words ≤ length buffer'
    unfolding words_in words_reported
    within =
        let q : w ≡ length (take w buffer') = sym (ap words_in e) ∙ g.words ∙ ap words_reported answer-is in
        omega (arith, length-take w buffer')

    facts : Answering index (take w buffer')
    facts = answering index (all_named (bitmap_count index)) T answer_room (take w buffer') answer-is

    pub has-head : head_words ≤ length index
    has-head = facts.head.head

    module _ {F : Format} (F-is : F ≡ format_of index) {rows : ℕ} (rows_is : rows ≡ row_count index) where
      pub may-count : (rows ≤ most_rows) × SoundFacts F rows (take report.words buffer')
      unfolding row_count
      may-count = rw (F-is, rows_is) (facts.head.few-rows, facts.body)

      covered : Covers F (take w buffer') rows
      covered =
          let b = take w buffer' in
          let n = facts-count F rows b may-count.1 in
          record {
            some = facts-some F rows b may-count.1;
            few = rw n (segments-most F rows may-count.0);
            all = rw n (rows_fit (width F) (width-pos F) rows);
          }

      pub ask-answered : (named count : ℕ) → named ≡ bitmap_count index
          → count ≡ count_below rows (rows_of F (take report.words buffer'))
          → Answers (asked T index) buffer' (record { head = record { rows = rows; named = named; t = T; set = count }; format = F; words = report.words })
      ask-answered named count n-is c-is = record { is = whole; inside = within; covers = covered }
        where
          -- the head, and all rows behind it
          whole : asked T index ≡ head_text rows named T count ++ lines_from (rows_of F (take w buffer')) 0 rows
          whole =
              rw (c-is, n-is, F-is, rows_is)
              (unfold asked in ap (outcome_text index T) answer-is ∙ answer-text index T (take w buffer'))

-- ---- the input

module _ (input : List ℕ) where
  pub output-long : most_bytes < length input → output_of input ≡ refused_text 3 0 0
  unfolding output_of
  output-long h = rw (lt-ltb most_bytes (length input) h)

  module _ (h : length input ≤ most_bytes) where
    pub output-ragged : ragged (length input) ≡ true → output_of input ≡ refused_text 1 0 0
    unfolding output_of
    output-ragged e = rw (le-ltb most_bytes (length input) h, e)

    pub output-asked : ragged (length input) ≡ false → output_of input ≡ asked (get_or (words_of input) 0 0) (drop 1 (words_of input))
    unfolding output_of
    output-asked e = rw (le-ltb most_bytes (length input) h, e)

-- whole words, T among them
pub whole_words : (n : ℕ) → ragged n ≡ false → (4 ≤ n) × (n ≡ 4 * (n / 4))
unfolding ragged
whole_words n e =
    let p = or-false (ltb n 4) (not (eqb (n % 4) 0)) e in
    let q : n % 4 ≡ 0 = eqb-true (n % 4) 0 (not-false (eqb (n % 4) 0) p.1) in
    (ltb-false n 4 p.0, omega arith)

-- the words that were read stand at the front
pub read-words : (input words rest : List ℕ) → ragged (length input) ≡ false → words ≡ words_of input
    → (length words ≡ length input / 4) × (take (length input / 4) (words ++ rest) ≡ words_of input)
read-words input words rest e w =
    let n : length words ≡ length input / 4 = ap length w ∙ words_count (length input / 4) input (whole_words (length input) e).1 in
    (n, take_at words rest (length input / 4) n ∙ w)
