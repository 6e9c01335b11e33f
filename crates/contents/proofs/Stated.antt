-- The format that word 0 states.
-- Assumes nothing.
use Prim.Native.Nat.{ℕ}
use mathlib.Core.Bool.{false}
use mathlib.Core.Path.{◌≡◌, refl}
use mathlib.Core.List.{List}
use lib.ListN.{get_or}
use borrow.Author.Tests.{ne_eqb}
use Rattle.std.specs.Prelude.{Result, Ok, Err, MatchResult}
use Rattle.std.specs.Result.{result_unwrap_or}
use Rattle.std.proofs.lemmas.Bool.{true≢false}
use Rattle.meaning.specs.Limits.{wah_kind}
use Rattle.meaning.specs.declared.Format.{Format}
use Rattle.meaning.specs.declared.Format.TheVariants.{Ewah, Wah}
use Rattle.meaning.specs.declared.UnknownKind.{UnknownKind}
use Rattle.meaning.specs.Format.{kind_of}
use Rattle.meaning.specs.Index.{is_kind, format_of}

-- a format's word states it
pub stated : (index : List ℕ) (F : Format) → get_or index 0 0 ≡ kind_of F → F ≡ format_of index
unfolding format_of
stated index Ewah e = rw e refl
stated index Wah e = rw e refl

-- of a word that states none, the bodies are taken for EWAH
pub unstated : (index : List ℕ) → is_kind (get_or index 0 0) ≡ false → Ewah ≡ format_of index
unfolding format_of is_kind
unstated index h = rw (ne_eqb (get_or index 0 0) wah_kind (λ e. true≢false (rw e at h))) refl

pub told : (index : List ℕ) (r : Result Format UnknownKind)
    → MatchResult r (λ F. get_or index 0 0 ≡ kind_of F) (λ _. is_kind (get_or index 0 0) ≡ false) → result_unwrap_or r Ewah ≡ format_of index
told index (Ok F) e = stated index F e
told index (Err _) h = unstated index h
