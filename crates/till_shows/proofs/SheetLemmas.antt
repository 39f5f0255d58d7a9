-- Lines, one after another.
use Rattle.shop_types.proofs.Common.{◌≡◌, ◌∙◌, ◌≤◌, ◌<◌, ◌+◌, ℕ, List, ◌∷◌, ◌++◌, length, get_or, drop, refl, sym, ap, append-nil, append_assoc, Option, Some}
use Rattle.shop_types.proofs.Common.{None, drop_all, drop_more, option_map, Text}
use Rattle.std.specs.Prelude.{flat_map}
use Rattle.till_shows.specs.Bodies.{each}

-- the lines after a text
abbrev pub lines_behind : Text → Option (List Text) → Option Text
lines_behind done lines = option_map (λ (them : List Text). done ++ flat_map (λ (line : Text). line) them) lines

one_line : (done line : Text) (rest : Option (List Text)) → lines_behind done (option_map (λ more. line ∷ more) rest) ≡ lines_behind (done ++ line) rest
one_line done line None = refl
one_line done line (Some more) = ap (λ (t : Text). Some t) (sym (append_assoc done line (flat_map (λ (l : Text). l) more)))

pub line_more : {A : Type 0} (f : A → Option Text) (done : Text) (xs : List A) (i : ℕ) (x : A) (line : Text)
    → i < length xs → x ≡ get_or xs i x → f x ≡ Some line
    → lines_behind done (each f (drop i xs)) ≡ lines_behind (done ++ line) (each f (drop (i + 1) xs))
line_more {A} f done xs i x line h is value =
    ap (λ (them : List A). lines_behind done (each f them)) (drop_more xs i x h ∙ ap (λ (a : A). a ∷ drop (i + 1) xs) (sym is))
    ∙ (rw value (one_line done line (each f (drop (i + 1) xs))))

pub line_none : {A : Type 0} (f : A → Option Text) (done : Text) (xs : List A) (i : ℕ) (x : A) → i < length xs → x ≡ get_or xs i x → f x ≡ None
    → lines_behind done (each f (drop i xs)) ≡ None
line_none {A} f done xs i x h is value =
    ap (λ (them : List A). lines_behind done (each f them)) (drop_more xs i x h ∙ ap (λ (a : A). a ∷ drop (i + 1) xs) (sym is)) ∙ (rw value refl)

pub lines_done : {A : Type 0} (f : A → Option Text) (done : Text) (xs : List A) (i : ℕ) → length xs ≤ i → lines_behind done (each f (drop i xs)) ≡ Some done
lines_done {A} f done xs i h = ap (λ (them : List A). lines_behind done (each f them)) (drop_all i xs h) ∙ ap (λ (t : Text). Some t) (append-nil done)
