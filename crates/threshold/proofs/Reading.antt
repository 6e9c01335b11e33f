-- What is read into the middle of a buffer comes behind what was there before.
-- Assumes nothing.
use Rattle.std.proofs.Common.{◌≡◌, ℕ, ◌+◌, ◌≤◌, List, ◌++◌, length, take, ap, ◌∙◌, sym, length-take-le}
use Rattle.std.proofs.Math.Seq.{take-append-add}
use Rattle.std.proofs.lemmas.List.{take-append-le}
use borrow.Rule.Slice.PartMut.{put_mid, post_of}

pub take-read : (at k n : ℕ) (buf read : List ℕ) → at ≤ length buf → n ≤ length read → take (at + n) (put_mid at k buf read) ≡ take at buf ++ take n read
take-read at k n buf read h l =
    ap (λ m. take (m + n) (put_mid at k buf read)) (sym (length-take-le at buf h))
    ∙ take-append-add (take at buf) (read ++ post_of at k buf) n
    ∙ ap (λ t. take at buf ++ t) (take-append-le n read (post_of at k buf) l)
