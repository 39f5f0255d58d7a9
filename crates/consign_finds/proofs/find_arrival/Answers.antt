use Rattle.shop_schema.proofs.Common.{◌≡◌, ◌∙◌, sym, ap, [], ◌∷◌, List, Option, option_map, map, Bool, ℕ, option_to_list, cond_some, and_then, done, Mark}
use Rattle.shop_schema.proofs.Common.{seen_parcel_line}
use Rattle.sql_rows.proofs.Chaining.{one_call}
use Rattle.consign_store.specs.Parts.{Header}
use Rattle.consign_store.specs.Seen.{seen_header}
use Rattle.consign_store.specs.declared.headers.HeaderRow.{HeaderRow}
use Rattle.consign_store.specs.declared.lines.LineRow.{LineRow}
use Rattle.consign_finds.specs.Finds.{line_parcel}
use Rattle.consign_finds.proofs.Parcels.{arrival_read, none_read}
use Rattle.consign_finds.proofs.find_arrival.Goals as goal

abbrev told : Option HeaderRow → List Header
told o = option_to_list (option_map (λ (it : HeaderRow). seen_header it) o)

pub returns-in_default : goal.returns-in_default
returns-in_default g c = done (one_call c.in_ok-header.ensures) (λ said books holds held.
    let header = said books holds held in
    (header.0, none_read _ (sym (ap told c.in_default.is) ∙ header.1)))

pub returns-in-Some-new : goal.returns-in-Some-new
returns-in-Some-new g c = done (and_then (one_call c.in_ok-header.ensures) (one_call c.in_ok-rows.ensures)) (λ said books holds held.
    let header = said.0 books holds held in
    let rows = said.1 books header.0 held in
    let few : c.in_ok-lines.lines.items ≡ c.in-Some-new.lines = (cond_some _ _ _ (sym c.in-Some-new.ensures)).1 in
    let lines = sym few ∙ c.in_ok-lines.ensures ∙ ap (λ (rs : List LineRow). map line_parcel rs) c.as_slice.ensures.value in (
      rows.0,
      (λ j. let p : List (Bool × List (ℕ × Mark)) = (c.in-Some.header.received, map seen_parcel_line (lines j)) ∷ [] in p)
          ∙ arrival_read c.in-Some.header c.in_ok-rows.rows.items _ (sym (ap told c.in-Some.is) ∙ header.1) rows.1,
    ))
