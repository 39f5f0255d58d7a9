-- Rows that are taken into the sums of the categories.
use Rattle.shop_schema.proofs.Common.{◌≡◌, ℕ, List, [], ◌∷◌, ◌++◌, map, Option, None, sym, ap, ◌∙◌, flat_map, map-append, column, Text}
use Rattle.sqlite.specs.declared.types.Value.TheVariants as sql_values
use Rattle.sqlite_value.specs.Order as sql
use Rattle.shop_schema.proofs.Lists.{flat_map_push}
use Rattle.view_texts.specs.Shown.{text_or_empty}
use Rattle.view_texts.specs.Payments.{PaidLine, shown_line, Sale, sale_in}
use Rattle.view_texts.specs.CategorySums.{shown_category, seen_sum, sum_in, summed}
use Rattle.view_texts.specs.declared.categories.CategorySum.{CategorySum}
use Rattle.sql_rows.proofs.EachLemmas.{split_last}

pub names_none : (items : List CategorySum) → items ≡ [] → (categories : List (ℕ × Text))
    → [] ≡ map shown_category categories → map seen_sum items ≡ map (sum_in []) categories
names_none items none [] e = ap (map seen_sum) none
names_none items none (it ∷ categories) e = absurd cc

pub names_more : (given : List sql.Row) (row : sql.Row) (old new : List CategorySum) (name : Text)
    → new ≡ old ++ record { name = name; sum = None } ∷ [] → column row 1 ≡ sql_values.Text name
    → ((categories : List (ℕ × Text)) → given ≡ map shown_category categories → map seen_sum old ≡ map (sum_in []) categories)
    → (categories : List (ℕ × Text)) → given ++ row ∷ [] ≡ map shown_category categories → map seen_sum new ≡ map (sum_in []) categories
names_more given row old new name pushed at1 so_far categories e =
    let parts = split_last shown_category given row categories e in
    let same : name ≡ parts.1.1 = ap text_or_empty (sym at1 ∙ ap (λ r. column r 1) parts.3) in
    ap (map seen_sum) pushed ∙ map-append seen_sum old (record { name = name; sum = None } ∷ [])
    ∙ (λ i. so_far parts.0 parts.2 i ++ (same i, None) ∷ []) ∙ sym (map-append (sum_in []) parts.0 (parts.1 ∷ [])) ∙ ap (map (sum_in [])) (sym parts.4)

pub sums_none : (sums : List (Text × Option ℕ)) (names : List Text) (lines : List PaidLine)
    → [] ≡ map shown_line lines → sums ≡ summed names [] → sums ≡ summed names (flat_map sale_in lines)
sums_none sums names [] e is = is
sums_none sums names (line ∷ lines) e is = absurd cc

pub sums_more : (given : List sql.Row) (row : sql.Row) (first old new : List (Text × Option ℕ))
    → ((names : List Text) (line : PaidLine) (sales : List Sale) → row ≡ shown_line line
    → old ≡ summed names sales → new ≡ summed names (sales ++ sale_in line))
    → ((names : List Text) (lines : List PaidLine) → given ≡ map shown_line lines → first ≡ summed names [] → old ≡ summed names (flat_map sale_in lines))
    → (names : List Text) (lines : List PaidLine) → given ++ row ∷ [] ≡ map shown_line lines
    → first ≡ summed names [] → new ≡ summed names (flat_map sale_in lines)
sums_more given row first old new adds so_far names lines e none =
    let parts = split_last shown_line given row lines e in
    adds names parts.1 (flat_map sale_in parts.0) parts.3 (so_far names parts.0 parts.2 none)
    ∙ ap (summed names) (sym (flat_map_push sale_in parts.0 parts.1)) ∙ ap (λ l. summed names (flat_map sale_in l)) (sym parts.4)
