-- A new index, made of sets of rows: what a call writes whose answer is an index. Section "The index" of paper 01, and request 1.
-- Its bodies are in canonical form, those of empty sets included.
-- Assumes nothing.
use Rattle.std.specs.Prelude.{ℕ, ◌+◌, ◌*◌, min, Bool, List, [], ◌∷◌, ◌++◌, map, length}
use Rattle.meaning.specs.Limits.{head_words, entry_words, most_index_words}
use Rattle.meaning.specs.Refusal.{Outcome}
use Rattle.meaning.specs.Format.{kind_of, canonical}
use Rattle.meaning.specs.declared.Format.{Format}
use Rattle.meaning.specs.Answer.{fits}

-- the entries of the contents: of each body its start and its length, where the first one starts at `start`
unfoldable pub entries_of : (start : ℕ) → List (List ℕ) → List ℕ
entries_of start [] = []
entries_of start (b ∷ bs) = start ∷ length b ∷ entries_of (start + length b) bs

-- bodies one behind the other
unfoldable pub joined : List (List ℕ) → List ℕ
joined [] = []
joined (b ∷ bs) = b ++ joined bs

-- where the bodies begin behind the contents of n entries
unfoldable pub contents_end : (n : ℕ) → ℕ
contents_end n = head_words + entry_words * n

-- the index of R rows with these bodies: its head, its contents, and they
unfoldable pub assembled : Format → (R : ℕ) → List (List ℕ) → List ℕ
unfolding contents_end entries_of joined
assembled F R bodies = kind_of F ∷ R ∷ length bodies ∷ (entries_of (contents_end (length bodies)) bodies ++ joined bodies)

-- the index of R rows whose bitmaps are these sets, in this order: what every call that writes an index writes
unfoldable pub index_of : Format → (R : ℕ) → List (ℕ → Bool) → List ℕ
unfolding assembled canonical
index_of F R ps = assembled F R (map (canonical F R) ps)

-- the words of a buffer that an index can take: no more than an index may have (request 6)
unfoldable pub index_room : (room : ℕ) → ℕ
index_room room = min room most_index_words

-- it, or 9 with its words if the buffer is shorter, or if it is longer than an index may be, whatever the buffer's length
unfoldable pub write_index : Format → (R : ℕ) → List (ℕ → Bool) → (room : ℕ) → Outcome (List ℕ)
unfolding fits index_of index_room
write_index F R ps room = fits (index_room room) (index_of F R ps)
