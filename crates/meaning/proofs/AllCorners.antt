-- Corner cases of the definitions, read by hand off paper 01 and requests 3 to 6: zero rows, the last segment, empty bodies and indexes, the limits, faults that come together.
-- No law is known here: a wrong definition is refused by a case, or by a reading of `AllReadings` or `AllColumns`.
-- Assumes nothing.
use Prim.Native.Nat.{ℕ}
use mathlib.Core.Bool.{Bool, true, false, ◌&&◌}
use mathlib.Core.Path.{◌≡◌, refl}
use mathlib.Core.List.{List, [], ◌∷◌, ◌++◌}
use lib.Dec.{eqb}
use lib.ListN.{get_or, replicate}
use Rattle.meaning.specs.Rows.{bit}
use Rattle.meaning.specs.Segment.{clean, mixed}
use Rattle.meaning.specs.Refusal.{Outcome, refused, answer}
use Rattle.meaning.specs.Ewah.{pieces, ewah_fault}
use Rattle.meaning.specs.Canonical.{draft, body, put}
use Rattle.meaning.specs.Wah.{wah_fault}
use Rattle.meaning.specs.NewIndex.{index_room}
use Rattle.meaning.specs.Rewriting.{rewrite, rewrite_bitmap, rewrite_index}
use Rattle.meaning.specs.Answer.{check_body, body_row, body_count, body_nth, expand, compress, check, bitmap_refusal, bitmap, part_of, row, not_of, threshold, symmetric, histogram, histogram_reported}
use Rattle.meaning.specs.declared.Format.TheVariants.{Ewah, Wah}
use Rattle.meaning.specs.declared.Row.{Row}
use Rattle.meaning.specs.Readings.{is_sound, is_refused, is_answer, is_number, same, looped, three, ninety_six, wasteful}

unfoldable pub every : List Bool → Bool
every [] = true
every (t ∷ ts) = t && every ts

-- the row is set where `set` is 1, and lies in a piece from row `first` to row `last`
unfoldable is_row : Outcome Row → (set first last : ℕ) → Bool
unfolding bit
is_row (refused n b w) set first last = false
is_row (answer t) set first last = eqb (bit t.set) set && eqb t.first first && eqb t.last last

pub bodies : List Bool
bodies =
    -- zero rows: no words, idle markers, a marker with counts, one whose dirty word is not there
    is_sound (check_body Ewah 0 [])
    ∷ is_sound (check_body Ewah 0 (0 ∷ 1 ∷ []))
    ∷ is_refused (check_body Ewah 0 (2 ∷ [])) 6 0 0
    ∷ is_refused (check_body Ewah 0 (0 ∷ 0x00020000 ∷ 5 ∷ [])) 6 0 1
    ∷ is_refused (check_body Ewah 0 (0x00020000 ∷ [])) 5 0 0
    -- an empty body with rows; idle markers with rows, of value 1 over a padded tail and behind the last segment
    ∷ is_refused (check_body Ewah 33 []) 6 0 0
    ∷ is_sound (check_body Ewah 40 (1 ∷ 4 ∷ 1 ∷ []))
    ∷ is_sound (check_body Ewah 64 (5 ∷ 0 ∷ 1 ∷ []))
    -- the last word: a pad bit, a marker too many, segments missing
    ∷ is_refused (check_body Ewah 40 (0x00040000 ∷ 1 ∷ 0x180 ∷ [])) 7 0 2
    ∷ is_refused (check_body Ewah 64 (4 ∷ 2 ∷ [])) 6 0 1
    ∷ is_refused (check_body Ewah 96 (2 ∷ [])) 6 0 1
    -- a run of ones over the last segment: its real rows and no others, behind idle markers and before them; the same segment as a
    -- dirty word, and with a pad bit
    ∷ is_sound (check_body Ewah 40 (5 ∷ []))
    ∷ is_sound (check_body Ewah 40 (0 ∷ 3 ∷ 1 ∷ 3 ∷ 1 ∷ []))
    ∷ is_sound (check_body Ewah 40 (0x00020003 ∷ 0xFF ∷ []))
    ∷ is_refused (check_body Ewah 40 (0x00020003 ∷ 0xFFFFFFFF ∷ [])) 7 0 1
    ∷ is_refused (check_body Ewah 40 (5 ∷ 3 ∷ [])) 6 0 1
    ∷ is_number (body_count Ewah 40 (5 ∷ [])) 40
    ∷ is_number (body_count Ewah 40 (3 ∷ 3 ∷ 1 ∷ [])) 40
    ∷ is_number (body_count Ewah 40 (0x00020003 ∷ 0xFF ∷ 1 ∷ [])) 40
    ∷ is_number (body_nth Ewah 40 (5 ∷ []) 39) 39
    ∷ is_refused (body_nth Ewah 40 (5 ∷ []) 40) 8 0 0
    ∷ is_answer (expand Ewah 40 (5 ∷ []) 2) (0xFFFFFFFF ∷ 0xFF ∷ [])
    -- it is written so, down to one row
    ∷ is_answer (compress Ewah 40 (0xFFFFFFFF ∷ 0xFF ∷ []) 1) (5 ∷ [])
    ∷ is_answer (compress Ewah 40 (0 ∷ 0xFF ∷ []) 2) (2 ∷ 3 ∷ [])
    ∷ is_answer (compress Ewah 40 (1 ∷ 0xFF ∷ []) 3) (0x00020000 ∷ 1 ∷ 3 ∷ [])
    ∷ is_answer (compress Ewah 33 (0xFFFFFFFF ∷ 1 ∷ []) 1) (5 ∷ [])
    ∷ is_answer (compress Ewah 1 (1 ∷ []) 1) (3 ∷ [])
    ∷ is_refused (compress Ewah 40 (0xFFFFFFFF ∷ 0xFF ∷ []) 0) 9 0 1
    -- 5 before 6, 6 before 7, a marker before its dirty words
    ∷ is_refused (check_body Ewah 32 (0x00040006 ∷ [])) 5 0 0
    ∷ is_refused (check_body Ewah 40 (7 ∷ [])) 6 0 0
    ∷ is_refused (check_body Ewah 40 (0x00020005 ∷ 0xFFFFFFFF ∷ [])) 6 0 0
    -- the most rows, and one more, tested before the body
    ∷ is_sound (check_body Ewah 1073741824 (replicate 512 0x0001FFFE ++ 0x00000400 ∷ []))
    ∷ is_refused (check_body Ewah 1073741825 []) 3 0 1
    ∷ is_refused (compress Ewah 1073741825 [] 0) 3 0 1
    -- set rows past the last
    ∷ is_refused (body_nth Ewah 64 (5 ∷ []) 64) 8 0 0
    ∷ is_refused (body_nth Ewah 0 [] 0) 8 0 0
    -- rows 5 and 64 of 96: how many, each of them, and one past the last
    ∷ is_number (body_count Ewah 96 ninety_six) 2
    ∷ is_number (body_nth Ewah 96 ninety_six 0) 5
    ∷ is_number (body_nth Ewah 96 ninety_six 1) 64
    ∷ is_refused (body_nth Ewah 96 ninety_six 2) 8 0 0
    -- buffers: nothing needed, exactly enough, one less
    ∷ is_answer (expand Ewah 0 [] 0) []
    ∷ is_answer (expand Ewah 40 (3 ∷ 2 ∷ []) 2) (0xFFFFFFFF ∷ 0 ∷ [])
    ∷ is_refused (expand Ewah 40 (3 ∷ 2 ∷ []) 1) 9 0 2
    ∷ is_answer (compress Ewah 0 [] 0) []
    ∷ is_answer (compress Ewah 40 (1 ∷ 0x80 ∷ []) 3) (0x00040000 ∷ 1 ∷ 0x80 ∷ [])
    ∷ is_refused (compress Ewah 40 (1 ∷ 0x80 ∷ []) 2) 9 0 3
    -- plain words: 8 before 7, 7 at the last word
    ∷ is_refused (compress Ewah 40 (1 ∷ []) 9) 8 0 0
    ∷ is_refused (compress Ewah 40 (1 ∷ 2 ∷ 0x100 ∷ []) 9) 8 0 0
    ∷ is_refused (compress Ewah 40 (1 ∷ 0x100 ∷ []) 0) 7 0 1
    ∷ []

-- what a marker can count, which nothing written here reaches: a run that it can't count on goes on in the next, and it takes the
-- last dirty word
pub limits : List Bool
limits =
    same (body (put (draft [] 0 65535 []) (clean 0))) (0x0001FFFE ∷ 0x00000002 ∷ [])
    ∷ eqb (get_or (body (put (draft [] 0 0 (replicate 32766 5)) (mixed 5))) 0 0) 0xFFFE0000
    ∷ []

-- 40 rows: all of them as one run, none, and all of them with a dirty word at the end
abbrev full_tail : List ℕ
full_tail = 1 ∷ 40 ∷ 3 ∷ 9 ∷ 1 ∷ 10 ∷ 1 ∷ 11 ∷ 2 ∷ 5 ∷ 4 ∷ 0x00020003 ∷ 0xFF ∷ []

pub indexes : List Bool
indexes =
    -- too short, for the head and for the contents
    is_refused (check []) 1 0 0
    ∷ is_refused (check (1 ∷ [])) 1 0 1
    ∷ is_refused (check (2 ∷ 4 ∷ [])) 1 0 2
    ∷ is_refused (check (1 ∷ 4 ∷ 1 ∷ [])) 1 0 3
    ∷ is_refused (check (1 ∷ 4 ∷ 1 ∷ 5 ∷ [])) 1 0 4
    -- no bitmaps, and a word behind them
    ∷ is_sound (check (1 ∷ 4 ∷ 0 ∷ []))
    ∷ is_refused (check (1 ∷ 4 ∷ 0 ∷ 9 ∷ [])) 4 0 3
    -- kind, rows and N, each before the next
    ∷ is_refused (check (3 ∷ 1073741825 ∷ 257 ∷ [])) 2 0 0
    ∷ is_refused (check (0 ∷ 4 ∷ 0 ∷ [])) 2 0 0
    ∷ is_refused (check (2 ∷ 1073741825 ∷ 257 ∷ [])) 3 0 1
    ∷ is_refused (check (1 ∷ 1073741825 ∷ 257 ∷ [])) 3 0 1
    ∷ is_refused (check (1 ∷ 1073741824 ∷ 257 ∷ [])) 3 0 2
    ∷ is_refused (check (1 ∷ 1073741824 ∷ 256 ∷ [])) 1 0 3
    -- a start, before its length; a length that reaches past the end, also past 2^32; a final end before the index's
    ∷ is_sound (check (1 ∷ 4 ∷ 1 ∷ 5 ∷ 2 ∷ 0x00020000 ∷ 3 ∷ []))
    ∷ is_refused (check (1 ∷ 4 ∷ 1 ∷ 6 ∷ 9 ∷ 0x00020000 ∷ 3 ∷ [])) 4 0 3
    ∷ is_refused (check (1 ∷ 4 ∷ 1 ∷ 5 ∷ 3 ∷ 0x00020000 ∷ 3 ∷ [])) 4 0 4
    ∷ is_refused (check (1 ∷ 4 ∷ 1 ∷ 5 ∷ 0xFFFFFFFF ∷ 0x00020000 ∷ 3 ∷ [])) 4 0 4
    ∷ is_refused (check (1 ∷ 4 ∷ 1 ∷ 5 ∷ 1 ∷ 0x00020000 ∷ 3 ∷ [])) 4 0 6
    -- a later entry before an earlier body; a body's place is counted from word 0
    ∷ is_refused (check (1 ∷ 4 ∷ 2 ∷ 7 ∷ 2 ∷ 8 ∷ 1 ∷ 0x00020000 ∷ 0x13 ∷ 0 ∷ [])) 4 1 5
    ∷ is_refused (check (1 ∷ 4 ∷ 2 ∷ 7 ∷ 2 ∷ 9 ∷ 1 ∷ 0x00020000 ∷ 0x13 ∷ 0 ∷ [])) 7 0 8
    ∷ is_refused (check (1 ∷ 4 ∷ 2 ∷ 7 ∷ 2 ∷ 9 ∷ 1 ∷ 0x00020000 ∷ 3 ∷ 0 ∷ [])) 6 1 10
    -- a bitmap of zero rows with an empty body, beside one that is not there
    ∷ is_sound (bitmap_refusal (1 ∷ 0 ∷ 1 ∷ 5 ∷ 0 ∷ []) 0)
    ∷ is_refused (bitmap_refusal (1 ∷ 0 ∷ 1 ∷ 5 ∷ 0 ∷ []) 1) 8 0 0
    ∷ is_refused (bitmap_refusal (1 ∷ 4 ∷ 0 ∷ 9 ∷ []) 0) 4 0 3
    ∷ same (part_of (bitmap looped 1)) (0x00020000 ∷ 0xE ∷ [])
    ∷ same (part_of (bitmap looped 3)) []
    -- an index takes no more of a buffer than it may have words
    ∷ eqb (index_room 0) 0
    ∷ eqb (index_room 67108863) 67108863
    ∷ eqb (index_room 67108864) 67108864
    ∷ eqb (index_room 67108865) 67108864
    -- lists, T and tables
    ∷ is_refused (threshold looped [] 1 9) 8 0 0
    ∷ is_refused (threshold looped (3 ∷ []) 1 9) 8 0 0
    ∷ is_refused (threshold looped three 0 9) 8 0 0
    ∷ is_answer (threshold looped (replicate 256 0) 256 2) (0x00020000 ∷ 0x3 ∷ [])
    ∷ is_refused (threshold looped (replicate 257 0) 256 2) 8 0 0
    ∷ is_answer (symmetric looped (replicate 256 0) (replicate 256 0 ++ 1 ∷ []) 2) (0x00020000 ∷ 0x3 ∷ [])
    ∷ is_refused (symmetric looped (replicate 256 0) (replicate 258 1) 2) 8 0 0
    ∷ same (histogram_reported (histogram looped (replicate 256 0))) (2 ∷ replicate 255 0 ++ 2 ∷ [])
    ∷ is_answer (threshold looped (1 ∷ 1 ∷ []) 2 9) (0x00020000 ∷ 0xE ∷ [])
    ∷ is_answer (symmetric looped three (1 ∷ 0 ∷ 0 ∷ 1 ∷ []) 1) (2 ∷ [])
    ∷ is_refused (symmetric looped three (0 ∷ 1 ∷ 0 ∷ []) 9) 8 0 0
    ∷ is_refused (symmetric looped three (0 ∷ 1 ∷ 0 ∷ 2 ∷ []) 9) 8 0 0
    -- zero rows: no words, whatever the table says of 0
    ∷ is_answer (symmetric (1 ∷ 0 ∷ 1 ∷ 5 ∷ 0 ∷ []) (0 ∷ []) (1 ∷ 1 ∷ []) 0) []
    -- a table that says yes at 0 leaves the pad bits clear
    ∷ is_answer (symmetric looped (2 ∷ []) (1 ∷ 0 ∷ []) 2) (0x00020000 ∷ 0x7 ∷ [])
    -- over a run of ones that covers pad bits, and over all rows
    ∷ is_answer (not_of full_tail 0 1) (4 ∷ [])
    ∷ is_answer (not_of full_tail 1 1) (5 ∷ [])
    ∷ is_answer (symmetric full_tail (0 ∷ []) (1 ∷ 0 ∷ []) 1) (4 ∷ [])
    ∷ is_answer (symmetric full_tail (0 ∷ []) (1 ∷ 1 ∷ []) 1) (5 ∷ [])
    ∷ is_answer (threshold full_tail (0 ∷ 2 ∷ []) 2 1) (5 ∷ [])
    ∷ is_answer (threshold full_tail (0 ∷ 1 ∷ []) 2 1) (4 ∷ [])
    ∷ []

-- WAH: rows 0 to 39 of 40, none of them, and rows 0 and 39
abbrev archive : List ℕ
archive = 2 ∷ 40 ∷ 3 ∷ 9 ∷ 1 ∷ 10 ∷ 1 ∷ 11 ∷ 2 ∷ 0xC0000002 ∷ 0x80000002 ∷ 0x00000001 ∷ 0x00000100 ∷ []

-- as it is rewritten
abbrev archive_ewah : List ℕ
archive_ewah = 1 ∷ 40 ∷ 3 ∷ 9 ∷ 1 ∷ 10 ∷ 1 ∷ 11 ∷ 3 ∷ 5 ∷ 4 ∷ 0x00040000 ∷ 0x00000001 ∷ 0x00000080 ∷ []

pub wahs : List Bool
wahs =
    -- no rows: no words, and no others
    is_sound (check_body Wah 0 [])
    ∷ is_refused (check_body Wah 0 (0 ∷ [])) 6 0 0
    ∷ is_refused (check_body Wah 0 (0x80000000 ∷ [])) 10 0 0
    -- a literal or a fill with no segment left, also with all bits; a fill one too long; an early end; 3 before all
    ∷ is_refused (check_body Wah 31 (0 ∷ 0x7FFFFFFF ∷ [])) 6 0 1
    ∷ is_refused (check_body Wah 31 (0 ∷ 0xFFFFFFFF ∷ [])) 6 0 1
    ∷ is_refused (check_body Wah 31 (0x80000002 ∷ [])) 6 0 0
    ∷ is_refused (check_body Wah 32 (0 ∷ [])) 6 0 1
    ∷ is_refused (check_body Wah 31 []) 6 0 0
    ∷ is_refused (check_body Wah 1073741825 (0x80000000 ∷ [])) 3 0 1
    -- the last segment: a fill of ones over pad bits, a literal of all rows, one with a pad bit, an empty fill before it
    ∷ is_sound (check_body Wah 32 (0xC0000002 ∷ []))
    ∷ is_sound (check_body Wah 32 (0x7FFFFFFF ∷ 1 ∷ []))
    ∷ is_refused (check_body Wah 32 (0x7FFFFFFF ∷ 2 ∷ [])) 7 0 1
    ∷ is_refused (check_body Wah 32 (0x80000000 ∷ 2 ∷ 2 ∷ [])) 10 0 0
    -- the longest: a fill of all segments of the most rows
    ∷ is_sound (check_body Wah 1073741824 (0x82108422 ∷ []))
    ∷ is_refused (check_body Wah 1073741824 (0x82108423 ∷ [])) 6 0 0
    -- questions: the count without pad bits, the nth
    ∷ is_number (body_count Wah 40 (0xC0000002 ∷ [])) 40
    ∷ is_number (body_nth Wah 64 (0x7FFFFFFF ∷ 0 ∷ 3 ∷ []) 32) 63
    ∷ is_refused (body_nth Wah 40 (0xC0000002 ∷ []) 40) 8 0 0
    -- plain words keep 32 rows, and 7 is judged on them
    ∷ is_answer (expand Wah 64 (0x7FFFFFFF ∷ 0 ∷ 3 ∷ []) 2) (0x7FFFFFFF ∷ 0xC0000000 ∷ [])
    ∷ is_refused (expand Wah 62 (0x80000002 ∷ []) 1) 9 0 2
    ∷ is_answer (compress Wah 64 (0x7FFFFFFF ∷ 0xC0000000 ∷ []) 3) (0x7FFFFFFF ∷ 0 ∷ 3 ∷ [])
    ∷ is_refused (compress Wah 40 (0 ∷ 0x100 ∷ []) 9) 7 0 1
    ∷ is_refused (compress Wah 62 (0 ∷ 0 ∷ 0 ∷ []) 9) 8 0 0
    ∷ is_refused (compress Wah 40 (1 ∷ 0 ∷ []) 1) 9 0 2
    -- canonical form: a lone clean segment, runs of two, a full last segment joins ones before it
    ∷ is_answer (compress Wah 93 (0x7FFFFFFF ∷ 0 ∷ 0 ∷ []) 2) (0x7FFFFFFF ∷ 0x80000002 ∷ [])
    ∷ is_answer (compress Wah 33 (0x80000001 ∷ 1 ∷ []) 2) (1 ∷ 3 ∷ [])
    -- rewriting: either way, to the same format, and what is refused
    ∷ is_answer (rewrite Wah Ewah 40 (0x7FFFFFFF ∷ 0x1FF ∷ []) 1) (5 ∷ [])
    ∷ is_answer (rewrite Ewah Wah 40 (5 ∷ []) 1) (0xC0000002 ∷ [])
    ∷ is_answer (rewrite Wah Wah 40 (0x7FFFFFFF ∷ 0x1FF ∷ []) 1) (0xC0000002 ∷ [])
    ∷ is_answer (rewrite Ewah Ewah 96 wasteful 4) ninety_six
    ∷ is_refused (rewrite Ewah Wah 40 (6 ∷ []) 9) 6 0 0
    ∷ is_refused (rewrite Wah Ewah 40 (0 ∷ []) 0) 6 0 1
    ∷ is_refused (rewrite Ewah Wah 40 (5 ∷ []) 0) 9 0 1
    ∷ is_answer (rewrite_bitmap archive 2 Ewah 3) (0x00040000 ∷ 0x00000001 ∷ 0x00000080 ∷ [])
    ∷ is_refused (rewrite_bitmap archive 3 Ewah 3) 8 0 0
    ∷ is_answer (rewrite_index archive Ewah 14) archive_ewah
    ∷ is_answer (rewrite_index archive_ewah Wah 13) archive
    ∷ is_answer (rewrite_index archive Wah 13) archive
    ∷ is_refused (rewrite_index archive Ewah 13) 9 0 14
    ∷ is_refused (rewrite_index (3 ∷ 40 ∷ 0 ∷ []) Wah 9) 2 0 0
    -- rewriting no rows, whose idle markers go, and no bitmaps
    ∷ is_answer (rewrite Ewah Wah 0 (0 ∷ 0 ∷ []) 0) []
    ∷ is_answer (rewrite_index (1 ∷ 0 ∷ 1 ∷ 5 ∷ 1 ∷ 0 ∷ []) Wah 5) (2 ∷ 0 ∷ 1 ∷ 5 ∷ 0 ∷ [])
    ∷ is_answer (rewrite_index (2 ∷ 40 ∷ 0 ∷ []) Ewah 3) (1 ∷ 40 ∷ 0 ∷ [])
    ∷ is_refused (rewrite_index (2 ∷ 40 ∷ 0 ∷ []) Ewah 2) 9 0 3
    -- an index of WAH bodies: its faults have places in it, and its answers its format
    ∷ is_sound (check archive)
    ∷ is_refused (check (2 ∷ 40 ∷ 1 ∷ 5 ∷ 2 ∷ 0x7FFFFFFF ∷ 0x7FFFFFFF ∷ [])) 7 0 6
    ∷ is_refused (check (2 ∷ 40 ∷ 1 ∷ 5 ∷ 1 ∷ 0x80000000 ∷ [])) 10 0 5
    ∷ is_answer (not_of archive 0 1) (0x80000002 ∷ [])
    ∷ is_answer (not_of archive 2 2) (0x7FFFFFFE ∷ 0xFF ∷ [])
    ∷ is_answer (threshold archive three 1 1) (0xC0000002 ∷ [])
    ∷ is_answer (threshold archive three 2 2) (0x00000001 ∷ 0x00000100 ∷ [])
    ∷ is_refused (threshold archive three 2 1) 9 0 2
    ∷ is_answer (symmetric archive (1 ∷ []) (1 ∷ 0 ∷ []) 1) (0xC0000002 ∷ [])
    ∷ []

-- a row, and the first and last row of its piece
pub rows : List Bool
rows =
    -- rows past the last; 3 and the body's faults come before 8
    is_refused (body_row Ewah 64 (5 ∷ []) 64) 8 0 0
    ∷ is_refused (body_row Ewah 64 (3 ∷ []) 64) 6 0 1
    ∷ is_refused (body_row Ewah 1073741825 [] 0) 3 0 1
    ∷ is_refused (body_row Ewah 0 [] 0) 8 0 0
    ∷ is_refused (body_row Ewah 0 (0 ∷ 1 ∷ []) 0) 8 0 0
    -- rows 5 and 64 of 96: a dirty word, a run, a dirty word; the same rows as three dirty words
    ∷ is_row (body_row Ewah 96 ninety_six 5) 1 0 31
    ∷ is_row (body_row Ewah 96 ninety_six 31) 0 0 31
    ∷ is_row (body_row Ewah 96 ninety_six 32) 0 32 63
    ∷ is_row (body_row Ewah 96 ninety_six 63) 0 32 63
    ∷ is_row (body_row Ewah 96 ninety_six 64) 1 64 95
    ∷ is_row (body_row Ewah 96 wasteful 40) 0 32 63
    ∷ is_row (body_row Ewah 96 wasteful 64) 1 64 95
    -- no pad bit is a row: a run of ones, a dirty word under one marker with a run, one row
    ∷ is_row (body_row Ewah 40 (5 ∷ []) 0) 1 0 39
    ∷ is_row (body_row Ewah 40 (5 ∷ []) 39) 1 0 39
    ∷ is_refused (body_row Ewah 40 (5 ∷ []) 40) 8 0 0
    ∷ is_row (body_row Ewah 40 (0x00020003 ∷ 0xFF ∷ []) 31) 1 0 31
    ∷ is_row (body_row Ewah 40 (0x00020003 ∷ 0xFF ∷ []) 32) 1 32 39
    ∷ is_row (body_row Ewah 1 (3 ∷ []) 0) 1 0 0
    -- runs of one value under two markers are two pieces, with idle markers before, between and behind
    ∷ is_row (body_row Ewah 128 (5 ∷ 5 ∷ []) 63) 1 0 63
    ∷ is_row (body_row Ewah 128 (5 ∷ 5 ∷ []) 64) 1 64 127
    ∷ is_row (body_row Ewah 72 (0 ∷ 5 ∷ 1 ∷ 0 ∷ 3 ∷ 1 ∷ []) 10) 1 0 63
    ∷ is_row (body_row Ewah 72 (0 ∷ 5 ∷ 1 ∷ 0 ∷ 3 ∷ 1 ∷ []) 71) 1 64 71
    -- so are the two markers of a run that one cannot hold
    ∷ is_row (body_row Ewah 2097152 (0x0001FFFE ∷ 0x00000002 ∷ []) 2097119) 0 0 2097119
    ∷ is_row (body_row Ewah 2097152 (0x0001FFFE ∷ 0x00000002 ∷ []) 2097120) 0 2097120 2097151
    -- a run and dirty words of its value under the same marker: each word by itself
    ∷ is_row (body_row Ewah 160 (0x00060004 ∷ 0 ∷ 0 ∷ 0 ∷ []) 63) 0 0 63
    ∷ is_row (body_row Ewah 160 (0x00060004 ∷ 0 ∷ 0 ∷ 0 ∷ []) 100) 0 96 127
    -- WAH: segments of 31 rows; a fill, literals, fills of one segment, a cut at the last row
    ∷ is_row (body_row Wah 40 (0xC0000002 ∷ []) 39) 1 0 39
    ∷ is_refused (body_row Wah 40 (0xC0000002 ∷ []) 40) 8 0 0
    ∷ is_row (body_row Wah 64 (0x7FFFFFFF ∷ 0 ∷ 3 ∷ []) 30) 1 0 30
    ∷ is_row (body_row Wah 64 (0x7FFFFFFF ∷ 0 ∷ 3 ∷ []) 31) 0 31 61
    ∷ is_row (body_row Wah 64 (0x7FFFFFFF ∷ 0 ∷ 3 ∷ []) 62) 1 62 63
    ∷ is_row (body_row Wah 124 (0x80000002 ∷ 0x80000001 ∷ 0 ∷ []) 61) 0 0 61
    ∷ is_row (body_row Wah 124 (0x80000002 ∷ 0x80000001 ∷ 0 ∷ []) 62) 0 62 92
    ∷ is_row (body_row Wah 124 (0x80000002 ∷ 0x80000001 ∷ 0 ∷ []) 93) 0 93 123
    -- of an index: its own format and rows, and 8 for the bitmap or the row
    ∷ is_row (row archive 2 30) 0 0 30
    ∷ is_row (row archive 2 39) 1 31 39
    ∷ is_row (row archive_ewah 2 39) 1 32 39
    ∷ is_refused (row archive 3 0) 8 0 0
    ∷ is_refused (row archive 2 40) 8 0 0
    ∷ []

pub rows-hold : every rows ≡ true
unfolding every rows is_row is_refused body_row row pieces ewah_fault wah_fault
rows-hold = refl

pub bodies-hold : every bodies ≡ true
unfolding every bodies is_number is_sound is_refused is_answer check_body body_count body_nth expand compress ewah_fault
bodies-hold = refl

pub wahs-hold : every wahs ≡ true
unfolding every wahs is_number is_sound is_refused is_answer check_body body_count body_nth expand compress rewrite rewrite_bitmap rewrite_index check not_of threshold symmetric ewah_fault wah_fault
wahs-hold = refl

pub indexes-hold : every indexes ≡ true
unfolding every indexes index_room is_sound is_refused is_answer same check bitmap_refusal bitmap part_of not_of threshold symmetric histogram histogram_reported ewah_fault
indexes-hold = refl

pub limits-hold : every limits ≡ true
unfolding every limits same body put
limits-hold = refl
