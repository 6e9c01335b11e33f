-- The library's decimal text of a number is the one defined here.
-- Assumes nothing.
use Rattle.std.proofs.Common.{◌≡◌, ℕ, suc, ◌^◌, ◌<◌, ◌≤◌, length, refl, arith, sym, lt-ltb, le-ltb, mod-eq_of_lt}
use Rattle.std.proofs.lemmas.Fmt.{AppendsLastDigit, decimal_from_appends, length-decimal-le_succ}
use Rattle.std.specs.Fmt as std
use Rattle.text.specs.Lines.{digits_of, decimal}

appends : AppendsLastDigit digits_of
unfolding digits_of
appends =
    record {
      one = λ k n h. rw (lt-ltb n 10 h, mod-eq_of_lt h) refl;
      more = λ k n h. rw (le-ltb n 10 h) refl;
    }

pub decimal-is : (n : ℕ) → n < 2 ^ 64 → std.decimal n ≡ decimal n
unfolding decimal
decimal-is n h =
    let few : length (std.decimal n) ≤ suc n = omega (arith, length-decimal-le_succ n h) in
    sym (decimal_from_appends digits_of appends (suc n) n h few)
