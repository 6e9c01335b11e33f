-- Numbers and lines in ASCII, of which the program's output is made.
-- Assumes nothing.
use Rattle.std.specs.Prelude.{ℕ, zero, suc, ◌+◌, ◌/◌, ◌%◌, Bool, cond, List, [], ◌∷◌, ◌++◌, ltb}
pub use Rattle.answers.specs.Printed.{refused_label}

-- the decimal digits of n, the highest first and no zero before them; `most` bounds how many they are
unfoldable pub digits_of : (most n : ℕ) → List ℕ
digits_of zero n = []
digits_of (suc most) n = cond (ltb n 10) [] (digits_of most (n / 10)) ++ (48 + n % 10) ∷ []

-- n has at most n + 1 digits
unfoldable pub decimal : ℕ → List ℕ
unfolding digits_of
decimal n = digits_of (suc n) n

-- a number on its line, ended by one line feed
unfoldable pub line : ℕ → List ℕ
unfolding decimal
line n = decimal n ++ 10 ∷ []

-- a number and the space behind it
unfoldable pub field : ℕ → List ℕ
unfolding decimal
field n = decimal n ++ 32 ∷ []

-- "rows "
abbrev pub rows_label : List ℕ
rows_label = 114 ∷ 111 ∷ 119 ∷ 115 ∷ 32 ∷ []

-- "named "
abbrev pub named_label : List ℕ
named_label = 110 ∷ 97 ∷ 109 ∷ 101 ∷ 100 ∷ 32 ∷ []

-- "threshold "
abbrev pub threshold_label : List ℕ
threshold_label = 116 ∷ 104 ∷ 114 ∷ 101 ∷ 115 ∷ 104 ∷ 111 ∷ 108 ∷ 100 ∷ 32 ∷ []

-- "set "
abbrev pub set_label : List ℕ
set_label = 115 ∷ 101 ∷ 116 ∷ 32 ∷ []

-- a refusal is one line with its three numbers
unfoldable pub refused_text : (number bitmap word : ℕ) → List ℕ
unfolding field line
refused_text number bitmap word = refused_label ++ field number ++ field bitmap ++ line word

-- an answer begins with four lines: the rows, how many bitmaps are named, T, and how many rows are set
unfoldable pub head_text : (R N T C : ℕ) → List ℕ
unfolding line
head_text R N T C = (rows_label ++ line R) ++ (named_label ++ line N) ++ (threshold_label ++ line T) ++ (set_label ++ line C)

-- the set rows among n rows from `row` on, a line each
unfoldable pub lines_from : (ℕ → Bool) → (row n : ℕ) → List ℕ
unfolding line
lines_from p row zero = []
lines_from p row (suc n) = cond (p row) (line row) [] ++ lines_from p (suc row) n
