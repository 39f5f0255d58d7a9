use Rattle.shop_schema.proofs.Common.{◌∙◌, ap, sym, List, Option, and_then, inside_as, inside_then, within_of, seen_mark}
use Rattle.std.specs.List.{find}
use Rattle.sql_rows.proofs.Chaining.{one_call}
use Rattle.shop_store.specs.declared.copies.CopyRow.{CopyRow}
use Rattle.consign_store.specs.declared.lines.LineRow.{LineRow}
use Rattle.consign_store.specs.Custody.{is_here, is_under_way}
use Rattle.consign_store.proofs.Custody.{place_here, place_under_way, place_gone}
use Rattle.consign_store.proofs.places.place_of.Goals as goal

abbrev here : List CopyRow → Option CopyRow
here copies = find is_here copies

abbrev away : List LineRow → Option LineRow
away lines = find is_under_way lines

pub returns-in-Some : goal.returns-in-Some
returns-in-Some g c = record {
  inside = inside_as c.in_ok-copies.ensures.inside;
  says = λ clean books holds held.
      let copies = c.in_ok-copies.ensures.says clean books holds held in
      let first = ap here (sym c.as_slice.ensures.value) ∙ sym c.first_here.ensures ∙ c.in-Some.is in
      (copies.0, λ one. place_here (seen_mark c.args.mark.now) books one c.in_ok-copies.copies.items c.in-Some.row copies.1 first);
}

pub returns-in-Some-first_under_way : goal.returns-in-Some-first_under_way
returns-in-Some-first_under_way g c = record {
  inside = inside_as (inside_then c.in_ok-copies.ensures.inside (within_of c.in_ok-lines.ensures.inside));
  says = λ clean books holds held.
      let said = (and_then (one_call c.in_ok-copies.ensures) (one_call c.in_ok-lines.ensures)).said clean in
      let copies = said.0 books holds held in
      let lines = said.1 books copies.0 held in
      let none = ap here (sym c.as_slice.ensures.value) ∙ sym c.first_here.ensures ∙ c.in_default.is in
      let first = ap away (sym c.as_slice-2.ensures.value) ∙ sym c.first_under_way.ensures ∙ c.in-Some-first_under_way.is in (
        lines.0,
        λ one.
            place_under_way (seen_mark c.args.mark.now) books one c.in_ok-copies.copies.items
            c.in_ok-lines.lines.items copies.1 none lines.1 c.in-Some-first_under_way.line first,
      );
}

pub returns : goal.returns
returns g c = record {
  inside = inside_as (inside_then c.in_ok-copies.ensures.inside (within_of c.in_ok-lines.ensures.inside));
  says = λ clean books holds held.
      let said = (and_then (one_call c.in_ok-copies.ensures) (one_call c.in_ok-lines.ensures)).said clean in
      let copies = said.0 books holds held in
      let lines = said.1 books copies.0 held in
      let none = ap here (sym c.as_slice.ensures.value) ∙ sym c.first_here.ensures ∙ c.in_default.is in
      let first = ap away (sym c.as_slice-2.ensures.value) ∙ sym c.first_under_way.ensures ∙ c.in-None.is in
      (lines.0, λ one. place_gone (seen_mark c.args.mark.now) books one c.in_ok-copies.copies.items c.in_ok-lines.lines.items copies.1 none lines.1 first);
}
