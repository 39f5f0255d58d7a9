-- Names of people as texts.
use Rattle.shop_model.specs.Values.{Text}
use Rattle.shop_model.specs.Views.{full_name}
use Rattle.shop_views.specs.declared.names.PersonName.{PersonName}

abbrev pub name_text : PersonName → Text
name_text name = full_name name.first name.last
