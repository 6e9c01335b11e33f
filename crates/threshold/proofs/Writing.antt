-- What a writer has been given of a listing, chunk by chunk.
-- Assumes nothing.
use Rattle.std.proofs.Common.{◌≡◌, ℕ, ◌-◌, refl, arith, List, [], ◌++◌, Option, sym, ap, ◌∙◌, append_assoc, append-nil, subst}
use Rattle.std.specs.Io.KnownBytes.{Appends}
use Rattle.meaning.specs.Format.{rows_of}
use Rattle.meaning.specs.declared.Format.{Format}
use Rattle.text.specs.declared.listing.Listing.{Listing}
use Rattle.text.specs.Lines.{lines_from}
use Rattle.text.specs.Listings.{lines_left}
use Rattle.std.proofs.KnownBytes.{Appends-nil, Appends-trans}

-- a part of the text was written, and `left` is still to come
pub record Partly (text : List ℕ) (old new : Option (List ℕ)) (left : List ℕ) : Type 0 where
  pub part : List ℕ
  pub wrote : Appends old new part
  pub all : text ≡ part ++ left

pub partly-none : (text left : List ℕ) (w : Option (List ℕ)) → text ≡ left → Partly text w w left
partly-none text left w e = record { part = []; wrote = Appends-nil w; all = e }

module _ {text : List ℕ} {old new : Option (List ℕ)} {left : List ℕ} (p : Partly text old new left) where
  -- a chunk more
  pub partly-more : (later : Option (List ℕ)) (chunk rest : List ℕ) → Appends new later chunk → left ≡ chunk ++ rest → Partly text old later rest
  partly-more later chunk rest a e =
      record {
        part = p.part ++ chunk;
        wrote = Appends-trans old new later p.part chunk p.wrote a;
        all = p.all ∙ ap (λ (t : List ℕ). p.part ++ t) e ∙ sym (append_assoc p.part chunk rest);
      }

  -- nothing is left
  pub partly-all : left ≡ [] → Appends old new text
  partly-all e = subst (Appends old new) (sym (p.all ∙ ap (λ (t : List ℕ). p.part ++ t) e ∙ append-nil p.part)) p.wrote

-- a listing at row 0 lists all rows
pub all-left : (s : Listing) (F : Format) (b : List ℕ) (R : ℕ) → s.format ≡ F → s.body.now ≡ b → s.rows ≡ R → s.row ≡ 0
    → lines_left s ≡ lines_from (rows_of F b) 0 R
all-left s F b R e f g z = let n : R - 0 ≡ R = omega arith in rw (e, f, g, z, n) refl
