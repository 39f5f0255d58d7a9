-- What the proofs on head office's words and on lists of numbers cite: a list, as it is read from front to back.
use Rattle.shop_types.proofs.Common.{List, ◌++◌, Option, option_map}

-- what was read, and what is still to come
abbrev pub behind : {A : Type 0} → List A → Option (List A) → Option (List A)
behind read rest = option_map (λ more. read ++ more) rest
