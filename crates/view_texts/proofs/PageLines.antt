-- What is read of rows, one after the other.
use Rattle.shop_schema.proofs.Common.{◌≡◌, List, [], ◌∷◌, ◌++◌, Bool, cond, Option, Some, None, option_to_list, map, filter, refl, sym, ap, subst, ◌∙◌}
use Rattle.shop_schema.proofs.Common.{append-nil, append_assoc, flat_map, AllByRecursion, all_of, kept_as_map}
use Rattle.std.proofs.lemmas.List.Concat.{flat_map_single}
use Rattle.sqlite_value.specs.Order as sql
use Rattle.shop_model.specs.Values.{Text}
use Rattle.shop_views.specs.Page.{Page, HasTexts}
use Rattle.view_texts.specs.Pages.{IsRead, HasRead}

module _ (reads : sql.Row → List Text → Type 0) where
  pub none_read : IsRead reads [] []
  unfolding IsRead
  none_read = refl

  one_read : (rows : List sql.Row) (texts : List Text) (row : sql.Row) (more : List Text)
      → IsRead reads rows texts → reads row more → IsRead reads (rows ++ row ∷ []) (texts ++ more)
  unfolding IsRead
  one_read [] texts row more so_far it = (more, [], it, refl, ap (λ (l : List Text). l ++ more) so_far ∙ sym (append-nil more))
  one_read (first ∷ rows) texts row more so_far it = (
    so_far.0,
    so_far.1 ++ more,
    so_far.2,
    one_read rows so_far.1 row more so_far.3 it,
    ap (λ (l : List Text). l ++ more) so_far.4 ∙ append_assoc so_far.0 so_far.1 more,
  )

  -- a page takes a row that the list has, or one that it doesn't have
  pub some_read : {L : Type 0} (written : L → Text) (rows : List sql.Row) (row : sql.Row) (found : Option L) (it : L) (old new : Page)
      → found ≡ Some it → reads row (map written (option_to_list found))
      → ((texts : List Text) → HasTexts old texts → HasTexts new (texts ++ written it ∷ [])) → HasRead reads rows old → HasRead reads (rows ++ row ∷ []) new
  some_read {L} written rows row found it old new is read added so_far = (
    so_far.0 ++ written it ∷ [],
    one_read rows so_far.0 row (written it ∷ []) so_far.1 (subst (λ (o : Option L). reads row (map written (option_to_list o))) is read),
    added so_far.0 so_far.2,
  )

  pub no_read : {L : Type 0} (written : L → Text) (rows : List sql.Row) (row : sql.Row) (found : Option L) (page : Page)
      → found ≡ None → reads row (map written (option_to_list found))
      → HasRead reads rows page → HasRead reads (rows ++ row ∷ []) page
  no_read {L} written rows row found page is read so_far = (
    so_far.0 ++ [],
    one_read rows so_far.0 row [] so_far.1 (subst (λ (o : Option L). reads row (map written (option_to_list o))) is read),
    subst (HasTexts page) (sym (append-nil so_far.0)) so_far.2,
  )

  module _ {X : Type 0} (shown : X → sql.Row) where
    all_read : (Fits : X → Type 0) (value : X → List Text) → ((x : X) (texts : List Text) → Fits x → reads (shown x) texts → texts ≡ value x)
        → (xs : List X) (texts : List Text) → AllByRecursion Fits xs → IsRead reads (map shown xs) texts → texts ≡ flat_map value xs
    unfolding IsRead
    all_read Fits value each [] texts fits it = it
    all_read Fits value each (x ∷ xs) texts fits it = it.4 ∙ (λ i. each x it.0 fits.0 it.2 i ++ all_read Fits value each xs it.1 fits.1 it.3 i)

    -- each row has one text
    pub each_listed : (value : X → Text) → ((x : X) (texts : List Text) → reads (shown x) texts → texts ≡ value x ∷ [])
        → (xs : List X) (rows : List sql.Row) (texts : List Text) → rows ≡ map shown xs
        → IsRead reads rows texts → texts ≡ map value xs
    each_listed value each xs rows texts are it =
        all_read (λ x. Unit {0}) (λ x. value x ∷ []) (λ x given fits. each x given) xs texts (all_of _ (λ x. tt) xs) (rw are at it) ∙ flat_map_single value xs

    -- the rows that pass the test have one
    pub passing_listed : (Fits : X → Type 0) (value : X → Text) (passes : X → Bool)
        → ((x : X) (texts : List Text) → Fits x → reads (shown x) texts → texts ≡ cond (passes x) (value x ∷ []) [])
        → (xs : List X) (rows : List sql.Row) (texts : List Text) → AllByRecursion Fits xs
        → rows ≡ map shown xs → IsRead reads rows texts → texts ≡ map value (filter passes xs)
    passing_listed Fits value passes each xs rows texts fits are it =
        all_read Fits (λ x. cond (passes x) (value x ∷ []) []) each xs texts fits (rw are at it) ∙ kept_as_map passes value xs
