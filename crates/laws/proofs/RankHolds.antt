-- Demand 3 and the order of refusals hold of the questions for the k largest or smallest rows of a column.
-- Assumes nothing.
use Prim.Native.Nat.{ℕ, ◌+◌, ◌*◌, ◌≤◌, ◌<◌}
use mathlib.Core.Bool.{Bool, true, false, ◌&&◌, ◌||◌}
use mathlib.Core.Path.{◌≡◌, refl, sym, ap, ap₂, ◌∙◌, subst}
use mathlib.Core.List.{List, [], ◌∷◌, map}
use lib.Dec.{ltb}
use lib.ListN.{length}
use native.Mathlib.Omega.{arith}
use borrow.Author.Tests.{lt-ltb, le-ltb, ltb-false}
use Rattle.meaning.specs.Limits.{most_column}
use Rattle.meaning.specs.Rows.{bit, count_below}
use Rattle.meaning.specs.Refusal.{refused, answer, sound, ◌then◌}
use Rattle.meaning.specs.Format.{rows_of}
use Rattle.meaning.specs.Index.{SoundIndex, format_of, row_count, body_at, rows_at, index_fault}
use Rattle.meaning.specs.Question.{total_words}
use Rattle.meaning.specs.Answer.{fits, write, check, named, named_bodies}
use Rattle.column_meaning.specs.Column.{value_of}
use Rattle.column_meaning.specs.Columns.{existing, slices_of, value_at, bad_column, bad_rank, strays, ranked_rows, ask_ranked, ranked}
use Rattle.meaning.specs.declared.Ranking.{Ranking}
use Rattle.laws.specs.RankLaws.{RankAsked, RankAskedMeans, RankHolds, ranked_body, GoodRank, RankOrder, RankOrderHolds}
use Rattle.laws.proofs.Tests.{or-false, or-true}
use Rattle.laws.proofs.Outcomes.{refuse-no, refuse-yes, refuse-answer, then-sound, then-refused, then-answer, fits-yes, fits-no, fits-answer}
use Rattle.laws.proofs.Formats.{canonical-rows, canonical-ext}
use Rattle.laws.proofs.CutEnough.{row_bits, cut-words-le}
use Rattle.laws.proofs.Demanded.{all_sound, all-good, good-each, written-demand}
use Rattle.laws.proofs.StraysFound.{stray-laws}
use Rattle.laws.proofs.NamedBitmaps.{column-length, column-named, column-good}
use Rattle.laws.proofs.Ranking.{cut-there, rank-laws}

-- ---- what is asked

-- it is asked exactly where nothing but the room can be refused
asked-means : RankAskedMeans
unfolding check bad_rank
asked-means index list k = (to, from)
  where
    to : RankAsked index list k
        → (index_fault index ≡ sound)
        × (bad_column index most_column list || ltb (count_below (row_count index) (existing index list)) k ≡ false)
        × (strays index list ≡ sound)
    to a =
        let good = column-good index most_column list a.least a.most (all-good index list a.its) in
        let few = le-ltb (count_below (row_count index) (existing index list)) k a.so-many in
        (a.is_sound, rw (good, few), (stray-laws.none-means index list).1 a.no-strays)

    from : (index_fault index ≡ sound)
        × (bad_column index most_column list || ltb (count_below (row_count index) (existing index list)) k ≡ false)
        × (strays index list ≡ sound)
        → RankAsked index list k
    from h =
        let b = or-false (bad_column index most_column list) _ h.1 in
        let l = column-length index most_column list b.0 in
        record {
          is_sound = h.0;
          least = l.0;
          most = l.1;
          its = good-each index list (column-named index most_column list b.0);
          so-many = ltb-false (count_below (row_count index) (existing index list)) k b.1;
          no-strays = (stray-laws.none-means index list).0 h.2;
        }

-- ---- the words of an answer

-- the value that bits spell, the lowest first
unfoldable spelled : List Bool → ℕ
unfolding bit
spelled [] = 0
spelled (b ∷ bs) = bit b + 2 * spelled bs

-- a row's bits in the slices spell its value
spelled-value : (index ks : List ℕ) (r : ℕ)
    → value_of (named index ks) r ≡ spelled (row_bits (format_of index) (named_bodies index ks) r)
unfolding value_of named named_bodies spelled rows_at
spelled-value index [] r = refl
spelled-value index (k ∷ ks) r =
    ap (λ (n : ℕ). bit (rows_of (format_of index) (body_at index k) r) + 2 * n) (spelled-value index ks r)

-- a test of existence and value, as one of a row's bits
unfoldable of_bits : (Bool → ℕ → Bool) → List Bool → Bool
unfolding spelled
of_bits t [] = false
of_bits t (e ∷ bs) = t e (spelled bs)

-- it holds of a row's bits as of its existence and value
of-bits : (index : List ℕ) (t : Bool → ℕ → Bool) (i : ℕ) (is : List ℕ) (r : ℕ)
    → t (existing index (i ∷ is) r) (value_at index (i ∷ is) r)
    ≡ of_bits t (row_bits (format_of index) (named_bodies index (i ∷ is)) r)
unfolding existing value_at slices_of named_bodies of_bits rows_at
of-bits index t i is r = ap (λ (n : ℕ). t (rows_of (format_of index) (body_at index i) r) n) (spelled-value index is r)

-- two words for each word of the named bodies are always enough
pub asked-words : (op : Ranking) (index list : List ℕ) (k : ℕ) → RankAsked index list k
    → length (ranked_body op index list k) ≤ 2 * total_words (named_bodies index list)
unfolding ranked_rows named_bodies
asked-words op index [] k a = absurd (omega (arith, a.least))
asked-words op index (i ∷ []) k a = absurd (omega (arith, a.least))
asked-words op index (i ∷ j ∷ js) k a =
    let F = format_of index in
    let R = row_count index in
    let list = i ∷ j ∷ js in
    let c = cut-there op R (existing index list) (value_at index list) k a.so-many in
    let bits = row_bits F (named_bodies index list) in
    let same =
    canonical-ext F R (ranked_rows index op list k)
    (λ r. of_bits c.yes (bits r) || (of_bits c.low (bits r) && ltb r c.cut))
    (λ r l. c.rows r l
    ∙ ap₂ (λ (s t : Bool). s || (t && ltb r c.cut))
    (of-bits index c.yes i (j ∷ js) r) (of-bits index c.low i (j ∷ js) r)) in
    subst (λ (l : List ℕ). length l ≤ 2 * total_words (named_bodies index list)) (sym same)
    (cut-words-le F R (body_at index i) (body_at index j) (map (body_at index) js)
    (all_sound index list a.is_sound a.its) (of_bits c.yes) (of_bits c.low) c.cut)

-- ---- a question

module _ (op : Ranking) (index list : List ℕ) (k : ℕ) where
  -- nothing but the room is left to be asked
  pub asked-writes : RankAsked index list k → (room : ℕ)
      → ranked index op list k room ≡ write (format_of index) (row_count index) (ranked_rows index op list k) room
  unfolding ranked ask_ranked
  asked-writes a room =
      let m = (asked-means index list k).0 a in
      then-sound (check index) _ m.0
      ∙ refuse-no (bad_rank index list k) 8 0 0 _ m.1
      ∙ then-sound (strays index list) _ m.2

  -- what is answered was asked, and is the canonical body of the ranked rows
  pub answered-is : (room : ℕ) (b : List ℕ) → ranked index op list k room ≡ answer b
      → RankAsked index list k × (b ≡ ranked_body op index list k)
  unfolding ranked ask_ranked write
  answered-is room b e =
      let p = then-answer (check index) _ b e in
      let q = refuse-answer (bad_rank index list k) 8 0 0 _ b p.1 in
      let s = then-answer (strays index list) _ b q.1 in
      ((asked-means index list k).1 (p.0, q.0, s.0), fits-answer room (ranked_body op index list k) b s.1)

  -- its rows are the ranked rows
  answered-rows : (room : ℕ) (b : List ℕ) → ranked index op list k room ≡ answer b → (r : ℕ) → r < row_count index
      → rows_of (format_of index) b r ≡ ranked_rows index op list k r
  answered-rows room b e r l =
      ap (λ (z : List ℕ). rows_of (format_of index) z r) (answered-is room b e).1
      ∙ canonical-rows (format_of index) (row_count index) (ranked_rows index op list k) r l

pub rank-holds : RankHolds
unfolding ranked_rows
rank-holds = record {
  asked-means = asked-means;
  demand = λ op index list k buffer a. record {
    right = rank-laws.has op (row_count index) (existing index list) (value_at index list) k a.so-many;
    demand =
        written-demand (format_of index) (row_count index) (ranked_rows index op list k) (named_bodies index list) buffer
        (ranked index op list k (length buffer)) (asked-writes op index list k a (length buffer))
        (asked-words op index list k a);
  };
  all = λ op index list room a.
      let E = count_below (row_count index) (existing index list) in
      asked-writes op index list E a room
      ∙ (unfold write in
      ap (fits room)
      (canonical-ext (format_of index) (row_count index) (ranked_rows index op list E) (existing index list)
      (rank-laws.all op (row_count index) (existing index list) (value_at index list))));
  more = λ op index list k m room room' a b h e f r l s.
      answered-rows op index list m room' b f r l
      ∙ rank-laws.more op (row_count index) (existing index list) (value_at index list) k m r h
      (sym (answered-rows op index list k room a e r l) ∙ s);
}

-- ---- the order of refusals

module _ (op : Ranking) (index list : List ℕ) (k room : ℕ) where
  -- the two tests of 8
  abbrev no_column : Bool
  no_column = bad_column index most_column list

  abbrev is_too_many : Bool
  is_too_many = ltb (count_below (row_count index) (existing index list)) k

  -- a bad list or too large a k
  asks-bad : SoundIndex index → no_column || is_too_many ≡ true → ranked index op list k room ≡ refused 8 0 0
  unfolding ranked ask_ranked check bad_rank
  asks-bad s e = then-sound (index_fault index) _ s ∙ refuse-yes (no_column || is_too_many) 8 0 0 _ e

  -- what is left where there is neither a fault nor 8
  asks-strays : GoodRank index list k
      → ranked index op list k room
      ≡ (strays index list then write (format_of index) (row_count index) (ranked_rows index op list k) room)
  unfolding ranked ask_ranked check bad_rank
  asks-strays g =
      then-sound (index_fault index) _ g.is-sound
      ∙ refuse-no (no_column || is_too_many) 8 0 0 _
      (rw (g.good-list, le-ltb (count_below (row_count index) (existing index list)) k g.so-many))

  -- and no stray
  asks-room : GoodRank index list k → strays index list ≡ sound
      → ranked index op list k room ≡ write (format_of index) (row_count index) (ranked_rows index op list k) room
  asks-room g n = asks-strays g ∙ then-sound (strays index list) _ n

  -- so this is the order
  of-rank : RankOrder op index list k room
  of-rank = record {
    faulty = λ n b w e. unfold ranked in then-refused (check index) _ n b w e;
    bad-list = λ s e. asks-bad s (rw e);
    too_many = λ s l.
        asks-bad s (or-true no_column is_too_many (lt-ltb (count_below (row_count index) (existing index list)) k l));
    stray = λ g i r f.
        asks-strays g
        ∙ then-refused (strays index list) _ _ _ _ (stray-laws.first-given index list i r f);
    no_room = λ g n l. asks-room g n ∙ (unfold write in fits-no room (ranked_body op index list k) l);
    answered = λ g n l. asks-room g n ∙ (unfold write in fits-yes room (ranked_body op index list k) l);
  }

pub rank-order : RankOrderHolds
rank-order = of-rank
