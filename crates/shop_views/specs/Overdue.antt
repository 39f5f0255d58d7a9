-- The rentals that are overdue, as JSON values.
use Rattle.std.specs.Prelude.{◌++◌, codes}
use Rattle.serde_json.specs.Data.{Data, string, object, member, no_members}
use Rattle.shop_model.specs.Views as views
use Rattle.shop_views.specs.declared.overdue_rows.OverdueRow.{OverdueRow}

-- the customer as "LAST, FIRST"
abbrev pub seen_overdue : OverdueRow → views.OverdueRow
seen_overdue row = record {
  customer = row.last ++ codes ", " ++ row.first;
  phone = row.phone;
  title = row.title;
}

abbrev pub overdue_data : views.OverdueRow → Data
overdue_data it = object
    (member (codes "customer") (string it.customer)
    (member (codes "phone") (string it.phone)
    (member (codes "title") (string it.title) no_members)))
