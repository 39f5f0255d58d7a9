use Rattle.shop_schema.proofs.Common.{◌∙◌, sym, ap, map, filter, ascending, Binary, map-map, State, Selects, plain_query, unmapped, same_number, test_of}
use Rattle.shop_schema.proofs.Common.{projects_sorted, still_holds, CopyState, Here, Sent, Scrapped, BookCopy, copy_is, shop_schema, copy_columns, StandsFor}
use Rattle.shop_schema.proofs.Common.{CopyRows, IfOk-weaker, seen_state, inside_as}
use Rattle.sqlite_value.specs.Order as sql
use Rattle.shop_ledger.proofs.Rising.{which_rise, rise_differ, rise_sorted}
use Rattle.shop_store.specs.declared.copies.TheConstants.{SELECT_IN_STATE}
use Rattle.shop_store.proofs.Common.{◌≡◌, ◌==◌, ◌&&◌, ℕ, List, [], ◌∷◌, Bool, true, refl, everything, understood, Shown, col, column, number_value, state_value}
use Rattle.shop_store.proofs.Common.{number_test, number_tested, two_tested, Row, is_of, Reads, equals, copies, wide}
use Rattle.shop_store.proofs.copies.copies_in_state.Goals as goal
use Rattle.shop_schema.specs.Trees.{copy_tree}

-- the numbers of the copies in a state
in_state_means : Selects shop_schema SELECT_IN_STATE.now (plain_query copy_tree (equals 0 (1 ∷ 4 ∷ [])) (col 1 2 ∷ []) ((col 1 2, ascending Binary) ∷ []))
unfolding understood everything
in_state_means = record { names = _; is = refl; plain = (refl, refl); unlisted = refl }

abbrev is_in_state : ℕ → CopyState → Row BookCopy → Bool
is_in_state b s row = is_of b row && copy_is row.it.state s

-- the number that stands for a state
abbrev code_of : CopyState → ℕ
code_of Here = 0
code_of Sent = 1
code_of Scrapped = 2

coded : (s : CopyState) → state_value s ≡ number_value (code_of s)
coded Here = refl
coded Sent = refl
coded Scrapped = refl

same_code : (t s : CopyState) → (code_of t == code_of s) ≡ copy_is t s
same_code Here Here = refl
same_code Sent Sent = refl
same_code Scrapped Scrapped = refl
same_code t s = refl

state_tested : (s : CopyState) (n : ℕ) (c : Row BookCopy) → number_value n ≡ state_value s → number_test 3 n (copy_columns c) ≡ copy_is c.it.state s
state_tested s n c code =
    test_of (copy_columns c) 3 (code_of c.it.state) n (coded c.it.state)
    ∙ ap (λ k. code_of c.it.state == k) (same_number _ _ (code ∙ coded s)) ∙ same_code c.it.state s

reads : (old new : State) (b : ℕ) (s : CopyState) (n : ℕ) → number_value n ≡ state_value s → (rows seen : List sql.Row) (numbers : List ℕ)
    → Shown SELECT_IN_STATE.now (number_value b ∷ number_value n ∷ []) old new rows → seen ≡ rows → map number_value numbers ≡ map (λ row. column row 0) seen
    → Reads old new (λ books. numbers ≡ map (λ (row : Row BookCopy). row.number) (filter (is_in_state b s) books.copies))
reads old new b s n code rows seen numbers h same read books holds held =
    let number : Row BookCopy → ℕ = λ row. row.number in
    let those : List (Row BookCopy) = filter (is_in_state b s) books.copies in
    let rise = which_rise (λ (it : BookCopy). copy_is it.state s) b books.copies (held.numbers.rows CopyRows b) in
    let found =
    projects_sorted shop_schema SELECT_IN_STATE.now 25 (wide copies) (equals 0 (1 ∷ 4 ∷ [])) (col 1 2 ∷ []) 1 in_state_means
    (number_value b ∷ number_value n ∷ []) old new rows holds.schema_is h copy_columns books.copies holds.stands.copies refl
    (λ vs. number_test 0 b vs && (number_test 3 n vs && true)) (λ vs. column vs 1 ∷ []) (is_in_state b s)
    (λ c. two_tested _ _ (number_tested c.branch b) (state_tested s n c code)) (λ r. refl) number (λ c. refl) (rise_differ number those rise) in
    let shown : rows ≡ map (λ row. number_value (number row) ∷ []) those =
    found ∙ ap (map (λ row. number_value (number row) ∷ [])) (rise_sorted number those rise) in
    let firsts : map number_value numbers ≡ map number_value (map number those) =
    read ∙ ap (map (λ row. column row 0)) (same ∙ shown)
    ∙ map-map (λ row. column row 0) (λ row. number_value (number row) ∷ []) those ∙ sym (map-map number_value number those) in (
      still_holds shop_schema StandsFor SELECT_IN_STATE.now (number_value b ∷ number_value n ∷ []) old new in_state_means.plain rows h books holds,
      unmapped number_value same_number _ _ firsts,
    )

pub returns : goal.returns
returns g c = record {
  inside = inside_as c.in_ok-rows.ensures.inside;
  says = λ clean.
      let shown = rw (c.to_sql.ensures, c.get.ensures.value, c.to_sql-2.ensures) at (c.in_ok-rows.ensures.shown clean) in
      IfOk-weaker c.row_numbers_in.result _ _
      (λ numbers is. reads _ _ c.args.branch (seen_state c.args.which) _ c.state_code.ensures _ _ numbers.items shown c.as_slice.ensures.value is)
      c.row_numbers_in.ensures;
}
