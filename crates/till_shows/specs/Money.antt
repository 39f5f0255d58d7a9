-- Money as a cashier reads it.
use Rattle.std.specs.Prelude.{ℕ, ◌/◌, ◌%◌, ◌++◌, ℤ, pos, negsuc, suc, [], codes, decimal}
use Rattle.shop_model.specs.Values.{Text}

abbrev pub sign_text : ℤ → Text
sign_text (pos n) = []
sign_text (negsuc n) = codes "-"

-- how many cents, without the sign
abbrev pub amount_of : ℤ → ℕ
amount_of (pos n) = n
amount_of (negsuc n) = suc n

-- the cents as dollars and two digits of cents
abbrev pub amount_text : ℕ → Text
amount_text n = codes "$" ++ (decimal (n / 100) ++ (codes "." ++ (decimal (n / 10 % 10) ++ decimal (n % 10))))

abbrev pub money_text : ℤ → Text
money_text cents = sign_text cents ++ amount_text (amount_of cents)
