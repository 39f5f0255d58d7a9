-- The commands that entries say, one by one.
use Rattle.sql_rows.proofs.Common.{◌≡◌, ◌∙◌, ℕ, zero, suc, List, [], ◌∷◌, ◌++◌, length, slice_get, Some, refl, ap, subst}
use Rattle.shop_model.specs.Values.{Command}
use Rattle.shop_model.proofs.Resends.{same_some, same_none}
use Rattle.till_book.specs.Saying.{Says, Say}

pub as_long : (entries : List (List ℕ)) (commands : List Command) → Say entries commands → length commands ≡ length entries
as_long [] [] say = refl
as_long [] (c ∷ cs) say = absurd say
as_long (b ∷ bs) [] say = absurd say
as_long (b ∷ bs) (c ∷ cs) say = ap (λ (n : ℕ). suc n) (as_long bs cs say.1)

pub said_at : (entries : List (List ℕ)) (commands : List Command) (i : ℕ) (bytes : List ℕ) → Say entries commands → slice_get entries i ≡ Some bytes
    → (command : Command) × (slice_get commands i ≡ Some command) × Says bytes command
said_at [] [] i bytes say there = absurd (same_none bytes there)
said_at [] (c ∷ cs) i bytes say there = absurd say
said_at (b ∷ bs) [] i bytes say there = absurd say
said_at (b ∷ bs) (c ∷ cs) zero bytes say there = (c, refl, subst (λ (it : List ℕ). Says it c) (same_some b bytes there) say.0)
said_at (b ∷ bs) (c ∷ cs) (suc i) bytes say there = said_at bs cs i bytes say.1 there

-- the entries before the last say the commands before the last
pub say_before : (entries : List (List ℕ)) (bytes : List ℕ) (commands : List Command) → Say (entries ++ bytes ∷ []) commands
    → (before : List Command) × (last : Command) × (commands ≡ before ++ last ∷ []) × Say entries before
say_before [] bytes [] say = absurd say
say_before [] bytes (c ∷ []) say = ([], c, refl, tt)
say_before [] bytes (c ∷ d ∷ cs) say = absurd say.1
say_before (b ∷ bs) bytes [] say = absurd say
say_before (b ∷ bs) bytes (c ∷ cs) say =
    let more = say_before bs bytes cs say.1 in
    (c ∷ more.0, more.1, ap (λ (l : List Command). c ∷ l) more.2, (say.0, more.3))
