use Rattle.std.proofs.Common.{rules, ◌≡◌, ◌∙◌, Option, Some, None, true, refl, sym, map, is_some}
use Rattle.audit_rows.specs.Joins.{join}
use Rattle.audit_rows.specs.Seen.{seen_header, seen_placed}
use Rattle.books_audit.proofs.reading.read_ordered.Goals as goal

some_of : {X : Type 0} (o : Option X) → is_some o ≡ true → (x : X) × (o ≡ Some x)
some_of None h = cc
some_of (Some x) h = (x, refl)

pub returns-clause-read : goal.returns-clause-read
returns-clause-read c =
    let joins = c.are_joined.ensures ∙ (λ i. is_some (join (map seen_header (c.as_slice.ensures.value i)) (map seen_placed (c.as_slice-2.ensures.value i)))) in
    record {
      chain = c.in_ok-chain.ensures.read;
      rule_row = c.in_ok-read_one.field-0;
      rule = c.in_ok-read_one.ensures.read;
      kept = search rules;
      countries = c.in_ok-read_shared.ensures.read;
      languages = c.in_ok-read_shared-2.ensures.read;
      categories = c.in_ok-read_shared-3.ensures.read;
      cities = c.in_ok-read_shared-4.ensures.read;
      actor_marks = c.in_ok-read_shared-5.field-0.items;
      actors = c.in_ok-read_shared-5.ensures.read;
      actor_count = search rules;
      films = c.in_ok-read_shared-6.ensures.read;
      casts = c.in_ok-read_keyed.ensures.read;
      branches = c.in_ok-read_shared-7.ensures.read;
      staff = c.in_ok-read_shared-8.ensures.read;
      by_table = search rules;
      lots = search rules;
      headers = search rules;
      lines = search rules;
      joined = some_of _ (sym joins ∙ c.if-not-are_joined.false);
    }
