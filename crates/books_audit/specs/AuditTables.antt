-- The tables that only an audit reads in this way, each as one value.
use Rattle.std.specs.Prelude.{[], ◌∷◌, refl}
use Rattle.shop_schema.specs.Kinds as kind
use Rattle.shop_schema.specs.TableOf.{TableOf}
use Rattle.shop_schema.specs.RowValues.{IsShared}
use Rattle.shop_types.specs.Seen.{seen_line_state}
use Rattle.books_audit.specs.Columns.{told_columns, IsTold, header_columns, IsHeader, placed_columns, IsPlaced}
use Rattle.audit_rows.specs.States.{kept_line_state, line_state_again}

-- branches, with their last moments
abbrev pub branches : TableOf told_columns (IsShared IsTold)
branches = record {
  kinds = kind.Number ∷ kind.Token ∷ kind.Text 1 128 ∷ kind.Text 0 45 ∷ kind.Text 0 45 ∷ kind.Number ∷ kind.NumberOrNull ∷ kind.MomentOrNull ∷ [];
  from = λ (number, (token, (address, (postal, (phone, (city, (manager, (last, z)))))))).
      (number, (record { token = token; address = address; postal = postal; phone = phone; city = city; manager = manager }, last));
  told = λ v. refl;
  ones = λ v h. (
    h.0,
    (
      record { token = h.1.0; address = h.1.1.0; postal = h.1.1.1.0; phone = h.1.1.1.1.0; city = h.1.1.1.1.1.0; manager = h.1.1.1.1.1.1.0 },
      h.1.1.1.1.1.1.1.0,
    ),
  );
  only = λ it h.
      let branch = it.1.0 in
      let is = h.1.0 in (
        (it.0, (branch.token, (branch.address, (branch.postal, (branch.phone, (branch.city, (branch.manager, (it.1.1, tt)))))))),
        (h.0, (is.token, (is.address, (is.postal, (is.phone, (is.city, (is.manager, (h.1.1, tt)))))))),
        refl,
      );
}

-- consignments, without their lines
abbrev pub headers : TableOf header_columns IsHeader
headers = record {
  kinds = kind.Number ∷ kind.Number ∷ kind.Number ∷ kind.Place ∷ kind.Flag ∷ [];
  from = λ (source, (addressee, (number, (place, (received, z))))).
      record { source = source; addressee = addressee; number = number; place = place; received = received };
  told = λ v. refl;
  ones = λ v h. record { source = h.0; addressee = h.1.0; number = h.1.1.0; place = h.1.1.1.0 };
  only = λ it h. ((it.source, (it.addressee, (it.number, (it.place, (it.received, tt))))), (h.source, (h.addressee, (h.number, (h.place, (tt, tt))))), refl);
}

-- lines, with the keys of their consignments
abbrev pub lines : TableOf placed_columns IsPlaced
lines = record {
  kinds = kind.Number ∷ kind.Number ∷ kind.Number ∷ kind.Number ∷ kind.Number ∷ kind.Number ∷ kind.Number ∷ kind.Line ∷ [];
  from = λ (source, (addressee, (number, (at, (film, (origin, (copy, (state, z)))))))).
      record {
        source = source;
        addressee = addressee;
        number = number;
        at = at;
        line = record { film = film; mark = record { branch = origin; copy = copy }; state = seen_line_state state };
      };
  told = λ v. refl;
  ones = λ v h. record { source = h.0; addressee = h.1.0; number = h.1.1.0; at = h.1.1.1.0; line = (h.1.1.1.1.0, (h.1.1.1.1.1.0, h.1.1.1.1.1.1.0)) };
  only = λ it h.
      let line = it.line in
      let is = h.line in (
        (it.source, (it.addressee, (it.number, (it.at, (line.film, (line.mark.branch, (line.mark.copy, (kept_line_state line.state, tt)))))))),
        (h.source, (h.addressee, (h.number, (h.at, (is.0, (is.1.0, (is.1.1, (tt, tt)))))))),
        (λ i. record it { line = record line { state = line_state_again line.state i } }),
      );
}
