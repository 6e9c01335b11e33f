-- The head of an index, test by test.
-- Assumes nothing.
use Prim.Native.Nat.{ℕ, ◌≤◌, ◌<◌}
use mathlib.Core.Bool.{true, false}
use mathlib.Core.Path.{◌≡◌}
use mathlib.Core.List.{List}
use borrow.Author.Tests.{lt-ltb, le-ltb}
use lib.ListN.{length, get_or}
use Rattle.meaning.specs.Limits.{most_rows, most_bitmaps, most_index_words, head_words}
use Rattle.meaning.specs.Refusal.{refused, sound, refuse_if}
use Rattle.meaning.specs.Index.{is_kind, entry_place, head_fault}

module _ (index : List ℕ) where
  pub head-long : most_index_words < length index → refused 3 0 0 ≡ head_fault index
  unfolding head_fault refuse_if
  head-long h = rw (lt-ltb most_index_words (length index) h)

  module _ (a : length index ≤ most_index_words) where
    pub head-short : length index < head_words → refused 1 0 (length index) ≡ head_fault index
    unfolding head_fault refuse_if
    head-short h = rw (le-ltb most_index_words (length index) a, lt-ltb (length index) head_words h)

    module _ (b : head_words ≤ length index) where
      pub head-kind : is_kind (get_or index 0 0) ≡ false → refused 2 0 0 ≡ head_fault index
      unfolding head_fault refuse_if
      head-kind h = rw (le-ltb most_index_words (length index) a, le-ltb (length index) head_words b, h)

      module _ (c : is_kind (get_or index 0 0) ≡ true) where
        pub head_rows : most_rows < get_or index 1 0 → refused 3 0 1 ≡ head_fault index
        unfolding head_fault refuse_if
        head_rows h = rw (le-ltb most_index_words (length index) a, le-ltb (length index) head_words b, c, lt-ltb most_rows (get_or index 1 0) h)

        module _ (d : get_or index 1 0 ≤ most_rows) where
          pub head-bitmaps : most_bitmaps < get_or index 2 0 → refused 3 0 2 ≡ head_fault index
          unfolding head_fault refuse_if
          head-bitmaps h =
              rw (le-ltb most_index_words (length index) a, le-ltb (length index) head_words b, c, le-ltb most_rows (get_or index 1 0) d, lt-ltb most_bitmaps (get_or index 2 0) h)

          module _ (e : get_or index 2 0 ≤ most_bitmaps) where
            pub head-contents : length index < entry_place index (get_or index 2 0) → refused 1 0 (length index) ≡ head_fault index
            unfolding head_fault refuse_if
            head-contents h =
                rw (
                  le-ltb most_index_words (length index) a,
                  le-ltb (length index) head_words b,
                  c,
                  le-ltb most_rows (get_or index 1 0) d,
                  le-ltb most_bitmaps (get_or index 2 0) e,
                  lt-ltb (length index) (entry_place index (get_or index 2 0)) h,
                )

            pub head-fine : entry_place index (get_or index 2 0) ≤ length index → sound ≡ head_fault index
            unfolding head_fault refuse_if
            head-fine h =
                rw (
                  le-ltb most_index_words (length index) a,
                  le-ltb (length index) head_words b,
                  c,
                  le-ltb most_rows (get_or index 1 0) d,
                  le-ltb most_bitmaps (get_or index 2 0) e,
                  le-ltb (length index) (entry_place index (get_or index 2 0)) h,
                )
