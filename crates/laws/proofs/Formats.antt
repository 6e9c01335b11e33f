-- What holds of a body in either format: its pieces spell its segments; what sound means, in plain facts; and the
-- canonical body of a set of rows, which is sound, has these rows, has the fewest words of its format and depends on the
-- rows alone. Written anew in another format a body keeps its rows, and back again it is in canonical form.
-- Assumes nothing.
use Prim.Native.Nat.{ℕ, ◌^◌, ◌≤◌, ◌<◌}
use mathlib.Core.Bool.{Bool}
use mathlib.Core.Path.{◌≡◌, refl, sym, ap, ◌∙◌}
use mathlib.Core.Logic.{◌↔◌}
use mathlib.Core.List.{List, []}
use lib.ListN.{length, get_or}
use native.Mathlib.Omega.{arith}
use Rattle.meaning.specs.Limits.{most_rows, most_segments}
use Rattle.meaning.specs.Segment.{kinds, has_row, from_rows, tabulate, segment_count, last_limit, last_of}
use Rattle.meaning.specs.Refusal.{sound}
use Rattle.meaning.specs.Piece.{NoneEmpty, flat}
use Rattle.meaning.specs.Ewah.{ewah_fault}
use Rattle.meaning.specs.Canonical.{ewah_of, body}
use Rattle.meaning.specs.Wah.{wah_segments, wah_of, wah_body, run_words}
use Rattle.meaning.specs.Format.{width, pieces_of, segments_of, rows_of, body_fault, Sound, words_of, canonical, Canonical}
use Rattle.meaning.specs.declared.Format.{Format}
use Rattle.meaning.specs.declared.Format.TheVariants.{Ewah, Wah}
use Rattle.laws.specs.Demands.{Words, BodyOf, Fewest}
use Rattle.laws.specs.Laws.{EwahFacts, SoundFacts}
use Rattle.laws.proofs.Segments.{cut, seen, encoded, words-cut}
use Rattle.laws.proofs.RowWords.{rows-decide, from-length, from-has, from_last, from-below}
use Rattle.laws.proofs.Cut.{cut-rows, cut-decide}
use Rattle.laws.proofs.Decoded.{sound-whole, whole-sound, pieces-some, decoded-words}
use Rattle.laws.proofs.Encoded.{encoded-decodes, encoded-words, encoded-sound}
use Rattle.laws.proofs.Least.{least}
use Rattle.laws.proofs.WahBody.{wah-means, wah-below, wah-least, wah-words, wah-stands, wah-sound}
pub use Rattle.laws.proofs.Pieces.{flat-run, flat-length}
pub use Rattle.laws.proofs.Decoded.{flat-pieces}

-- ---- each format

pub width-pos : (F : Format) → 0 < width F
width-pos Ewah = omega arith
width-pos Wah = omega arith

pub width-le : (F : Format) → width F ≤ 32
width-le Ewah = omega arith
width-le Wah = omega arith

-- no body has more segments than the most
pub segments-most : (F : Format) (R : ℕ) → R ≤ most_rows → segment_count (width F) R ≤ most_segments
unfolding segment_count
segments-most Ewah R h = omega arith
segments-most Wah R h = omega arith

pub spells : (F : Format) (b : List ℕ) → flat (width F) (pieces_of F b) ≡ segments_of F b
spells Ewah b = flat-pieces 0 b
spells Wah b = unfold wah_segments in refl

-- a body is sound exactly if these facts hold, whatever its number and place
pub fault-means : (F : Format) (bitmap place R : ℕ) (b : List ℕ) → (body_fault F bitmap place R b ≡ sound) ↔ SoundFacts F R b
fault-means Ewah bitmap place R b = (there, back)
  where
    there : ewah_fault bitmap place R b ≡ sound → EwahFacts R b
    there e =
        let f = sound-whole bitmap R place 0 (segment_count 32 R) b (omega arith) (omega arith) (unfold ewah_fault in e) in
        record { ended = f.ended; count = f.count; pads = f.last }

    back : EwahFacts R b → ewah_fault bitmap place R b ≡ sound
    back f =
        unfold ewah_fault in
        whole-sound bitmap R place 0 (segment_count 32 R) b (record { ended = f.ended; count = f.count; last = f.pads })
fault-means Wah bitmap place R b = wah-means bitmap place R b

pub sound-means : (F : Format) (R : ℕ) (b : List ℕ) → Sound F R b ↔ SoundFacts F R b
sound-means F R b = fault-means F 0 0 R b

pub facts-some : (F : Format) (R : ℕ) (b : List ℕ) → SoundFacts F R b → NoneEmpty (pieces_of F b)
facts-some Ewah R b f = pieces-some 0 b
facts-some Wah R b f = f.some

pub facts-count : (F : Format) (R : ℕ) (b : List ℕ) → SoundFacts F R b → length (segments_of F b) ≡ segment_count (width F) R
facts-count Ewah R b f = f.count
facts-count Wah R b f = f.count

pub segments-below : (F : Format) (b : List ℕ) → Words b → (i : ℕ) → get_or (segments_of F b) i 0 < 2 ^ width F
segments-below Ewah b h i = decoded-words b h i
segments-below Wah b h i = wah-below b i

-- the words made of segments with no pad bit set: they are of 32 bits, sound, and stand for these segments
record Made (F : Format) (R : ℕ) (xs b : List ℕ) : Type 0 where
  words : Words b
  is_sound : Sound F R b
  stands : cut (width F) R (segments_of F b) ≡ xs

made-is : (F : Format) (R : ℕ) (xs : List ℕ) → length xs ≡ segment_count (width F) R
    → ((i : ℕ) → get_or xs i 0 < 2 ^ width F) → last_of xs < last_limit (width F) R → Made F R xs (words_of F R (kinds (width F) R xs))
made-is Ewah R xs n low h =
    unfold encoded in record {
      words = encoded-words R xs low;
      is_sound = encoded-sound R xs n low h;
      stands = ap (cut 32 R) (encoded-decodes R xs low) ∙ words-cut 32 R (omega arith) xs h;
    }
made-is Wah R xs n low h =
    record { words = wah-words R xs low; is_sound = wah-sound R xs low n h; stands = wah-stands R xs low h }

-- no body with these segments has fewer words
least-words : (F : Format) (R : ℕ) (b : List ℕ) → length (words_of F R (seen (width F) R (segments_of F b))) ≤ length b
least-words Ewah R b = least R b
least-words Wah R b = wah-least R b

-- ---- the canonical body of R rows

module _ (F : Format) (R : ℕ) where
  abbrev w : ℕ
  w = width F

  abbrev pos : 0 < width F
  pos = width-pos F

  sound-count : (b : List ℕ) → Sound F R b → length (segments_of F b) ≡ segment_count (width F) R
  sound-count b s = facts-count F R b ((sound-means F R b).0 s)

  module _ (p : ℕ → Bool) where
    made : Made F R (from_rows (width F) R p) (canonical F R p)
    unfolding canonical
    made = made-is F R (from_rows w R p) (from-length w pos R p) (from-below w pos R p) (from_last w pos R p)

    pub canonical-sound : Sound F R (canonical F R p)
    canonical-sound = made.is_sound

    pub canonical-rows : (r : ℕ) → r < R → rows_of F (canonical F R p) r ≡ p r
    unfolding rows_of
    canonical-rows r h =
        sym (cut-rows w pos R (segments_of F (canonical F R p)) (sound-count (canonical F R p) canonical-sound) r h)
        ∙ ap (λ (l : List ℕ). has_row w l r) made.stands
        ∙ from-has w pos R p r h

    pub canonical-body : BodyOf F R p (canonical F R p)
    canonical-body = record { words = made.words; is_sound = canonical-sound; rows = canonical-rows }

    -- the segments of a sound body, without pad bits, are decided by its rows
    sound-decides : (b : List ℕ) → BodyOf F R p b → cut (width F) R (segments_of F b) ≡ from_rows (width F) R p
    unfolding rows_of
    sound-decides b h =
        cut-decide w pos R p (segments_of F b) (sound-count b h.is_sound) (segments-below F b h.words) h.rows

    pub canonical-fewest : Fewest F R p (length (canonical F R p))
    canonical-fewest = record {
      reached = (canonical F R p, canonical-body, refl);
      least = λ b h. unfold canonical in rw (← sound-decides b h) (unfold seen in least-words F R b);
    }

  -- equal rows give equal words
  pub canonical-ext : (p q : ℕ → Bool) → ((r : ℕ) → r < R → p r ≡ q r) → canonical F R p ≡ canonical F R q
  unfolding canonical
  canonical-ext p q h =
      ap (λ (l : List ℕ). words_of F R (kinds w R l))
      (rows-decide w pos R q (from_rows w R p) (from-length w pos R p) (from-below w pos R p) (from_last w pos R p)
      (λ r k. from-has w pos R p r k ∙ h r k))

  pub canonical-form : (p : ℕ → Bool) → Canonical F R (canonical F R p)
  canonical-form p = canonical-ext p (rows_of F (canonical F R p)) (λ r h. sym (canonical-rows p r h))

pub canonical-none : (F : Format) (p : ℕ → Bool) → canonical F 0 p ≡ []
unfolding canonical from_rows segment_count tabulate kinds
canonical-none Ewah p = unfold ewah_of body in refl
canonical-none Wah p = unfold wah_of wah_body run_words in refl

-- ---- a body written anew

pub rewrite-keeps : (F G : Format) (R : ℕ) (b : List ℕ) → BodyOf G R (rows_of F b) (canonical G R (rows_of F b))
rewrite-keeps F G R b = canonical-body G R (rows_of F b)

pub rewrite-back : (F G : Format) (R : ℕ) (b : List ℕ)
    → canonical F R (rows_of G (canonical G R (rows_of F b))) ≡ canonical F R (rows_of F b)
rewrite-back F G R b =
    canonical-ext F R (rows_of G (canonical G R (rows_of F b))) (rows_of F b) (canonical-rows G R (rows_of F b))
