use Rattle.std.proofs.Common.{◌∷◌, [], ℕ, List, Option, ap, decimal, string_bytes, subst}
use Rattle.shop_model.specs.Answers.{Answer}
use Rattle.shop_model.specs.Values.{Text}
use Rattle.till_cashier.specs.Listing.{IsOutcome}
use Rattle.till_cashier.proofs.Doing.{ok_then}
use Rattle.till_cashier.proofs.lists_of_entries.add_entry.Goals as goal

pub returns : goal.returns
returns g c request there =
    let what : Text = string_bytes c.in_ok-what.what in
    let became : Text = string_bytes c.in_ok-became.became in
    ok_then c.add_row.result c.add_row.ensures
    (λ same. (
      decimal c.number_at.result ∷ what ∷ became ∷ [],
      record {
        what = what;
        became = became;
        asked = c.in_ok-what.ensures request there;
        outcome =
            subst (λ (reply : Option Answer). IsOutcome c.args.desk.now.settings.now.staff reply became) c.reply_at.ensures
            c.in_ok-became.ensures;
        is = ap (λ (n : ℕ). decimal n ∷ what ∷ became ∷ []) c.number_at.ensures;
      },
      same,
    ))
