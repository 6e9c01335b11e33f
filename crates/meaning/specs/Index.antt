-- An index: its contents, the bodies that they name, and its first fault. Section "The index" and the order of "Numbers of refusal".
-- Assumes nothing.
use Prim.Native.Nat.{ℕ, zero, suc, ◌+◌, ◌*◌}
use Rattle.std.specs.Prelude.{Bool, cond, ◌||◌, ◌≡◌, List, eqb, ltb, get_or, take, drop}
use Rattle.std.proofs.Math.Bool.{not}
use Rattle.std.proofs.Math.ListN.{length}
use Rattle.meaning.specs.Limits.{most_rows, most_bitmaps, most_index_words, ewah_kind, wah_kind, head_words, entry_words}
use Rattle.meaning.specs.Refusal.{Verdict, sound, refuse_if, ◌then◌}
use Rattle.meaning.specs.Format.{rows_of, body_fault}
use Rattle.meaning.specs.declared.Format.{Format}
use Rattle.meaning.specs.declared.Format.TheVariants.{Ewah, Wah}

-- word 0 states one of the two kinds
unfoldable pub is_kind : ℕ → Bool
is_kind x = eqb x ewah_kind || eqb x wah_kind

-- and with it the format of the bodies
unfoldable pub format_of : List ℕ → Format
format_of index = cond (eqb (get_or index 0 0) wah_kind) Wah Ewah

-- word 1: the rows, paper 01's R
unfoldable pub row_count : List ℕ → ℕ
row_count index = get_or index 1 0

-- word 2: the number of bitmaps, paper 01's N
unfoldable pub bitmap_count : List ℕ → ℕ
bitmap_count index = get_or index 2 0

-- where entry k of the contents stands; at k = N, where the contents end. The index says how long an entry is: today all are alike
unfoldable pub entry_place : (index : List ℕ) (k : ℕ) → ℕ
entry_place index k = head_words + entry_words * k

-- the first word of entry k: where its body starts
unfoldable pub start_of : List ℕ → ℕ → ℕ
unfolding entry_place
start_of index k = get_or index (entry_place index k) 0

-- the second word of entry k: how many words its body has
unfoldable pub length_of : List ℕ → ℕ → ℕ
unfolding entry_place
length_of index k = get_or index (entry_place index k + 1) 0

-- where body k has to start: behind the contents and the bodies before it. At k = N, the last end
unfoldable pub body_place : List ℕ → ℕ → ℕ
unfolding entry_place bitmap_count length_of
body_place index zero = entry_place index (bitmap_count index)
body_place index (suc k) = body_place index k + length_of index k

-- the body of bitmap k
unfoldable pub body_at : List ℕ → ℕ → List ℕ
unfolding start_of length_of
body_at index k = take (length_of index k) (drop (start_of index k) index)

-- the rows of bitmap k
unfoldable pub rows_at : List ℕ → ℕ → ℕ → Bool
unfolding format_of rows_of body_at
rows_at index k r = rows_of (format_of index) (body_at index k) r

-- ---- faults: the first one

module _ (index : List ℕ) where
  -- of entries k, k + 1, .. , `more` in all, where the next body has to start at `end`
  unfoldable pub entries_fault : (k more end : ℕ) → Verdict
  unfolding refuse_if start_of length_of entry_place
  -- 4, bitmap 0, at the last end: words are left behind the last body, or behind the contents if there is none
  entries_fault k zero end = refuse_if (ltb end (length index)) 4 0 end sound
  -- 4, at the entry's own word: the start is not the end of the body before (of the contents, for the first); then,
  -- the length reaches past the index's end
  entries_fault k (suc more) end =
      refuse_if (not (eqb (start_of index k) end)) 4 k (entry_place index k)
      (refuse_if (ltb (length index) (end + length_of index k)) 4 k (entry_place index k + 1)
      (entries_fault (suc k) more (end + length_of index k)))

  -- of the bodies k, k + 1, .. , `more` in all, with places counted from word 0 of the index
  unfoldable pub bodies_fault : (k more : ℕ) → Verdict
  unfolding ◌then◌ format_of start_of row_count body_at
  bodies_fault k zero = sound
  bodies_fault k (suc more) = body_fault (format_of index) k (start_of index k) (row_count index) (body_at index k) then bodies_fault (suc k) more

  -- of the head: 3 for the index's length, 1 below three words, 2 for the kind, 3 for rows, 3 for N, 1 below the end of the contents
  unfoldable pub head_fault : Verdict
  unfolding refuse_if is_kind row_count bitmap_count entry_place
  head_fault =
      refuse_if (ltb most_index_words (length index)) 3 0 0
      (refuse_if (ltb (length index) head_words) 1 0 (length index)
      (refuse_if (not (is_kind (get_or index 0 0))) 2 0 0
      (refuse_if (ltb most_rows (row_count index)) 3 0 1
      (refuse_if (ltb most_bitmaps (bitmap_count index)) 3 0 2
      (refuse_if (ltb (length index) (entry_place index (bitmap_count index))) 1 0 (length index)
      sound)))))

  -- of the whole index: the head, then every entry and the final end, then every body
  unfoldable pub index_fault : Verdict
  unfolding head_fault ◌then◌ bitmap_count entry_place entries_fault bodies_fault
  index_fault = head_fault then entries_fault 0 (bitmap_count index) (entry_place index (bitmap_count index)) then bodies_fault 0 (bitmap_count index)

-- an index has no fault
abbrev pub SoundIndex : List ℕ → Type 0
SoundIndex index = index_fault index ≡ sound
