-- What is read of a row of the lists, and what a page has of the rows so far.
use Rattle.shop_schema.proofs.Common.{◌≡◌, List, [], ◌∷◌, ◌++◌, map, Option, Some, None, option_map, refl, sym, ap, subst, ◌∙◌, map-append, array, Text}
use Rattle.shop_schema.proofs.Common.{Consignment}
use Rattle.sqlite_value.specs.Order as sql
use Rattle.sql_rows.proofs.EachLemmas.{split_last}
use Rattle.shop_views.specs.Consignments.{Listed, seen_listed}
use Rattle.shop_views.specs.Page.{Page, HasTexts}
use Rattle.consign_store.specs.declared.lists.ListKind.{ListKind}
use Rattle.consign_store.specs.Listed.{ListLine, shown_line, Grouped, closed, take_line, runs, text_of, listed, list_lines, HasConsignments}
use Rattle.consign_store.specs.declared.lists.ConsignmentPage.{ConsignmentPage}
use Rattle.consign_store.proofs.ListRuns.{run_push, all_listed}

-- ---- the consignment of the next row

abbrev pub Takes : ListKind → Page → Page → Option Listed → Listed → ListLine → List Listed → Type 0
Takes kind old new it now line done =
    HasTexts old (map (text_of kind) done)
    → HasTexts new (map (text_of kind) (take_line (done, it) line).0) × (◌≡◌ {A = Option Listed} (Some now) (take_line (done, it) line).1)

-- ---- one more row

pub taken : (kind : ListKind) (old new : Page) (held was : Option Listed) (now : Listed) (given : List sql.Row) (row : sql.Row) → was ≡ held
    → ((line : ListLine) (done : List Listed) → row ≡ shown_line line → Takes kind old new was now line done)
    → ((lines : List ListLine) → given ≡ map shown_line lines → HasTexts old (map (text_of kind) (runs lines).0) × (held ≡ (runs lines).1))
    → (lines : List ListLine) → given ++ row ∷ [] ≡ map shown_line lines
    → HasTexts new (map (text_of kind) (runs lines).0) × (◌≡◌ {A = Option Listed} (Some now) (runs lines).1)
taken kind old new held was now given row same next so_far lines e =
    let parts = split_last shown_line given row lines e in
    let before = so_far parts.0 parts.2 in
    let after = next parts.1 (runs parts.0).0 parts.3 before.0 in
    let state : ◌≡◌ {A = Grouped} ((runs parts.0).0, was) (runs parts.0) = (λ i. ((runs parts.0).0, (same ∙ before.1) i)) in
    let run : take_line ((runs parts.0).0, was) parts.1 ≡ runs lines =
    ap (λ (s : Grouped). take_line s parts.1) state ∙ sym (run_push ([], None) parts.0 parts.1) ∙ ap runs (sym parts.4) in
    (subst (λ (s : Grouped). HasTexts new (map (text_of kind) s.0)) run after.0, after.1 ∙ ap (λ (s : Grouped). s.1) run)

pub nothing_taken : (kind : ListKind) (page : Page) → HasTexts page [] → (lines : List ListLine) → [] ≡ map shown_line lines
    → HasTexts page (map (text_of kind) (runs lines).0) × (◌≡◌ {A = Option Listed} None (runs lines).1)
nothing_taken kind page new [] e = (new, refl)
nothing_taken kind page new (line ∷ lines) e = absurd cc

-- ---- the whole list

pub ends_some : (kind : ListKind) (page : Page) (done : List Listed) (it : Option Listed) (last : Listed) (text : Text) → it ≡ Some last
    → ((texts : List Text) → HasTexts page texts → text ≡ array texts) → HasTexts page (map (text_of kind) done ++ text_of kind last ∷ [])
    → text ≡ array (map (text_of kind) (closed (done, it)))
ends_some kind page done it last text some told on =
    let all : map (text_of kind) done ++ text_of kind last ∷ [] ≡ map (text_of kind) (closed (done, it)) =
    sym (map-append (text_of kind) done (last ∷ [])) ∙ ap (λ (o : Option Listed). map (text_of kind) (closed (done, o))) (sym some) in
    told (map (text_of kind) (closed (done, it))) (subst (HasTexts page) all on)

pub ends_none : (kind : ListKind) (page : Page) (done : List Listed) (it : Option Listed) (text : Text) → it ≡ None
    → ((texts : List Text) → HasTexts page texts → text ≡ array texts)
    → HasTexts page (map (text_of kind) done) → text ≡ array (map (text_of kind) (closed (done, it)))
ends_none kind page done it text none told on =
    let all : map (text_of kind) done ≡ map (text_of kind) (closed (done, it)) = ap (λ (o : Option Listed). map (text_of kind) (closed (done, o))) (sym none) in
    told (map (text_of kind) (closed (done, it))) (subst (HasTexts page) all on)

-- the whole list of consignments, if the rows are the rows of their lines
pub list_ends : (start new : ConsignmentPage) (given : List sql.Row) (text : Text) (kind : ListKind) (cs : List Consignment)
    → (start.kind ≡ kind) × HasConsignments start start [] → (HasConsignments start start [] → HasConsignments start new given)
    → given ≡ map shown_line (list_lines cs)
    → ((done : List Listed) → HasTexts new.page (map (text_of new.kind) done)
    → text ≡ array (map (text_of new.kind) (closed (done, option_map seen_listed new.consignment))))
    → text ≡ array (map (text_of kind) (map listed cs))
list_ends start new given text kind cs empty took rows ends =
    let after = took empty.1 in
    let done = (runs (list_lines cs)).0 in
    let it = after.1 (list_lines cs) rows in
    ends done (subst (λ (k : ListKind). HasTexts new.page (map (text_of k) done)) (sym after.0) it.0)
    ∙ ap (λ (o : Option Listed). array (map (text_of new.kind) (closed (done, o)))) it.1
    ∙ ap (λ (all : List Listed). array (map (text_of new.kind) all)) (all_listed cs ([], None))
    ∙ ap (λ (k : ListKind). array (map (text_of k) (map listed cs))) (after.0 ∙ empty.0)
