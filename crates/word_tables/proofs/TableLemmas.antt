-- A command that is given its options and subcommands one after the other.
use Rattle.shop_types.proofs.Common.{◌≡◌, ℕ, ◌+◌, ◌<◌, ◌∙◌, refl, sym, ap, List, [], ◌∷◌, ◌++◌, length, drop, get_or, map, append_assoc, fold, drop_more}
use Rattle.std.proofs.lemmas.List.{append-nil}
use Rattle.clap.specs.Words.{App, Rule, Text, new_app, with_rule}
use Rattle.word_tables.specs.Rules.{word_shape}

-- a fold over what is left of a list, one step on
pub one_more : {A B X : Type 0} (f : B → A → B) (g : X → A) (xs : List X) (i : ℕ) (d : X) (old new : B) (a : A) → i < length xs
    → new ≡ f old a → a ≡ g (get_or xs i d) → fold f new (map g (drop (i + 1) xs)) ≡ fold f old (map g (drop i xs))
one_more f g xs i d old new a h is item = rw (is, item, drop_more xs i d h) refl

abbrev leaf : Text → List Rule → App
leaf name rules = record { top = word_shape name rules; subs = [] }

folded : (name : Text) (before rules : List Rule) → fold with_rule (leaf name before) rules ≡ leaf name (before ++ rules)
folded name before [] = ap (leaf name) (sym (append-nil before))
folded name before (r ∷ rs) = folded name (before ++ r ∷ []) rs ∙ ap (leaf name) (append_assoc before (r ∷ []) rs)

-- the shape of a new command that is given these options
pub shape_with : (name : Text) (app : App) (rules : List Rule) → app ≡ new_app name → (fold with_rule app rules).top ≡ word_shape name rules
shape_with name app rules e = ap (λ (a : App). (fold with_rule a rules).top) e ∙ ap (λ (a : App). a.top) (folded name [] rules)
