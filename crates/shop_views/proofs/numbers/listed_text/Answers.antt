use Rattle.std.proofs.Common.{refl, codes, length}
use Rattle.serde_json.specs.Data.{no_members, number, unsigned, put}
use Rattle.shop_views.specs.Bodies.{numbers_value, listed_value}
use Rattle.shop_views.proofs.TextLemmas.{numbers_no_float, text_of_value}
use Rattle.shop_views.proofs.FieldLemmas.{put_no_float}
use Rattle.shop_views.proofs.numbers.listed_text.Goals as goal

pub returns : goal.returns
returns g c =
    let name = c.args.name.now in
    let numbers = c.args.numbers.now in
    let rest = put name (numbers_value numbers) no_members in
    let none_in_rest = put_no_float name (numbers_value numbers) no_members (numbers_no_float numbers) refl in
    let none = put_no_float (codes "count") (number (unsigned (length numbers))) rest refl none_in_rest in
    text_of_value c.to_string.result _ (listed_value name numbers) c.in_ok-listed_value.ensures none c.to_string.ensures.text
