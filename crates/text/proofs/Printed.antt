-- What the library's formats print of a line is the text that is defined here.
-- Assumes nothing.
use Rattle.std.proofs.Common.{◌≡◌, ℕ, ◌^◌, ◌<◌, [], ◌∷◌, ◌++◌, append_assoc}
use Rattle.std.specs.Fmt as std
use Rattle.text.specs.Lines.{line, field, refused_text, head_text, refused_label, rows_label, named_label, threshold_label, set_label}
use Rattle.text.proofs.Decimals.{decimal-is}

pub refused-is : (number bitmap word : ℕ) → number < 2 ^ 64 → bitmap < 2 ^ 64 → word < 2 ^ 64
    → refused_label ++ (std.decimal number ++ 32 ∷ (std.decimal bitmap ++ 32 ∷ (std.decimal word ++ 10 ∷ [])))
    ≡ refused_text number bitmap word
unfolding refused_text field line
refused-is number bitmap word a b c =
    rw (decimal-is number a, decimal-is bitmap b, decimal-is word c) (simp append_assoc)

pub head-is : (R N T C : ℕ) → R < 2 ^ 64 → N < 2 ^ 64 → T < 2 ^ 64 → C < 2 ^ 64
    → rows_label ++ (std.decimal R ++ 10 ∷ (named_label ++ (std.decimal N ++ 10 ∷ (threshold_label
    ++ (std.decimal T ++ 10 ∷ (set_label ++ (std.decimal C ++ 10 ∷ []))))))) ≡ head_text R N T C
unfolding head_text line
head-is R N T C a b c d =
    rw (decimal-is R a, decimal-is N b, decimal-is T c, decimal-is C d) (simp append_assoc)
