-- The views of sales, as JSON values.
use Rattle.std.specs.Prelude.{ℕ, Option, None, Some, [], ◌++◌, codes}
use Rattle.serde_json.specs.Data.{Data, number, unsigned, string, object, member, no_members}
use Rattle.shop_model.specs.Values.{Text}
use Rattle.shop_model.specs.Views as views
use Rattle.shop_views.specs.Names.{name_text}
use Rattle.shop_views.specs.declared.names.PersonName.{PersonName}
use Rattle.shop_views.specs.declared.sales.StoreRow.{StoreRow}
use Rattle.shop_views.specs.declared.sales.CategoryRow.{CategoryRow}

abbrev pub manager_text : Option PersonName → Text
manager_text None = []
manager_text (Some name) = name_text name

abbrev pub seen_store : StoreRow → views.StoreRow
seen_store row = record {
  store = row.city ++ codes "," ++ row.country;
  manager = manager_text row.manager;
  total = row.total;
}

abbrev pub seen_category : CategoryRow → Text × ℕ
seen_category row = (row.category, row.total)

abbrev pub store_data : views.StoreRow → Data
store_data it = object
    (member (codes "manager") (string it.manager)
    (member (codes "store") (string it.store)
    (member (codes "total") (number (unsigned it.total)) no_members)))

abbrev pub category_data : Text × ℕ → Data
category_data it = object (member (codes "category") (string it.0) (member (codes "total") (number (unsigned it.1)) no_members))
