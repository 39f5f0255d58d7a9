-- The first option that is missing.
use Rattle.shop_types.proofs.Common.{◌≡◌, ◌<◌, ◌+◌, ◌∙◌, ℕ, List, ◌∷◌, length, get_or, drop, sym, ap, refl, true, Some, drop_more, Text}
use Rattle.std.specs.Borrow.{Bor}
use Rattle.till_words.specs.declared.options.Kind.{Kind}
use Rattle.till_words.specs.Usage.{is_missing, missing_text, missing_in}

pub missing_here : (options : List (Bor Text × Kind)) (words : List Text) (i : ℕ) (option : Bor Text × Kind) → i < length options
    → option ≡ get_or options i option → is_missing option words ≡ true → missing_in (drop i options) words ≡ Some (missing_text option)
missing_here options words i option h is missing =
    let front : drop i options ≡ option ∷ drop (i + 1) options =
    drop_more options i option h ∙ ap (λ (o : Bor Text × Kind). o ∷ drop (i + 1) options) (sym is) in
    rw (front, missing) refl
