-- The canonical form of a set of rows as an EWAH body: section "Settled form" of paper 01, whose term for it is settled form.
-- It is made segment by segment; `Paragraph` of `laws` has the section's own account, by longest runs, and a law says that both agree.
-- Assumes nothing.
use Rattle.std.specs.Prelude.{ℕ, suc, cond, ◌&&◌, eqb, ltb, length}
use mathlib.Core.List.{List, [], ◌∷◌, ◌++◌, foldl}
use Rattle.meaning.specs.Limits.{most_clean, most_dirty}
use Rattle.meaning.specs.Segment.{Segment, clean, mixed}
use Rattle.meaning.specs.Ewah.{marker}

-- a body as it grows: nothing yet, or the words before the last marker, that marker's value and clean count, and its dirty words
pub data Draft : Type 0 where
  blank : Draft
  draft : (done : List ℕ) (v c : ℕ) (ds : List ℕ) → Draft

-- its words
unfoldable pub body : Draft → List ℕ
unfolding marker
body blank = []
body (draft done v c ds) = done ++ marker v c (length ds) ∷ ds

-- a new marker with one segment: a clean run of one, or one dirty word under value 0 and clean count 0
unfoldable pub opened : List ℕ → Segment → Draft
opened done (clean v) = draft done v 1 []
opened done (mixed x) = draft done 0 0 (x ∷ [])

-- one segment more. A clean one goes into the last marker if that has the same value, no dirty word yet and a clean count
-- below the most; a mixed one if that has a dirty count below the most. Otherwise a new marker is opened
unfoldable pub put : Draft → Segment → Draft
unfolding body opened
put blank s = opened [] s
put (draft done v c ds) (clean b) =
    cond (eqb (length ds) 0 && eqb v b && ltb c most_clean) (draft done v (suc c) ds) (opened (body (draft done v c ds)) (clean b))
put (draft done v c ds) (mixed x) =
    cond (ltb (length ds) most_dirty) (draft done v c (ds ++ x ∷ [])) (opened (body (draft done v c ds)) (mixed x))

-- the words of these segments; no segments give no words
unfoldable pub ewah_of : List Segment → List ℕ
unfolding body put
ewah_of ss = body (foldl put blank ss)
