-- Words that get their names one after the other: a list that grows by what is taken off the rest.
use Rattle.shop_types.proofs.Common.{◌≡◌, ◌∙◌, ◌||◌, refl, sym, ap, Bool, true, false, List, [], ◌∷◌, ◌++◌, drop, filter, map, append_assoc, list_any}
use Rattle.clap.specs.Words.{Text}
use Rattle.till_words.specs.Places.{named_from, placed, is_option, awaits_value}

-- a piece that moves from the rest to the done part leaves both together as they are
pub moved : {A : Type 0} (old new piece rest before all : List A) → new ≡ old ++ piece → before ≡ piece ++ rest → old ++ before ≡ all → new ++ rest ≡ all
moved old new piece rest before all grown parts whole =
    ap (λ l. l ++ rest) grown ∙ append_assoc old piece rest ∙ ap (λ l. old ++ l) (sym parts) ∙ whole

-- a word that stays as it is
pub kept : (awaits : Bool) (names old new rest before all : List Text) (word : Text) → before ≡ word ∷ rest → (awaits || is_option word) ≡ true
    → new ≡ old ++ word ∷ [] → old ++ named_from awaits names before ≡ all → new ++ named_from (awaits_value word) names rest ≡ all
kept awaits names old new rest before all word parts test grown whole =
    moved old new (word ∷ []) (named_from (awaits_value word) names rest) (named_from awaits names before) all grown (rw (parts, test) refl) whole

-- a word in a place
pub put : (awaits : Bool) (names old new rest before all : List Text) (word : Text) → before ≡ word ∷ rest → (awaits || is_option word) ≡ false
    → new ≡ old ++ placed names word → old ++ named_from awaits names before ≡ all → new ++ named_from false (drop 1 names) rest ≡ all
put awaits names old new rest before all word parts test grown whole =
    moved old new (placed names word) (named_from false (drop 1 names) rest) (named_from awaits names before) all grown (rw (parts, test) refl) whole

-- an item that passes a test, and one that doesn't
pub passes : {A : Type 0} (p : A → Bool) (old new rest before all : List A) (x : A) → before ≡ x ∷ rest → p x ≡ true
    → new ≡ old ++ x ∷ [] → old ++ filter p before ≡ all → new ++ filter p rest ≡ all
passes p old new rest before all x parts test grown whole =
    moved old new (x ∷ []) (filter p rest) (filter p before) all grown (rw (parts, test) refl) whole

pub fails : {A : Type 0} (p : A → Bool) (old rest before all : List A) (x : A) → before ≡ x ∷ rest → p x ≡ false
    → old ++ filter p before ≡ all → old ++ filter p rest ≡ all
fails p old rest before all x parts test whole =
    let same : filter p before ≡ filter p rest = rw (parts, test) refl in
    ap (λ l. old ++ l) (sym same) ∙ whole

-- a test of each item's text is a test of the mapped list
pub any_of_map : {A B : Type 0} (show : A → B) (p : B → Bool) (xs : List A) → list_any (λ x. p (show x)) xs ≡ list_any p (map show xs)
any_of_map show p [] = refl
any_of_map show p (x ∷ xs) = ap (λ b. p (show x) || b) (any_of_map show p xs)
