use Rattle.shop_schema.proofs.Common.{◌∙◌, sym, ap, option_to_list, does_such, within_none, head, shop_of}
use Rattle.branch_finds.proofs.Shows.{held_at, none_held}
use Rattle.branch_finds.proofs.finds.find_holder.Goals as goal

pub returns-in-Some-clause-does : goal.returns-in-Some-clause-does
returns-in-Some-clause-does g c = does_such c.find_renter.ensures.does (λ renter old new reads copy books holds held.
    let found = reads books holds held in (
      found.0,
      λ out. found.1 ∙ sym (ap head (held_at c.in-Some.rental copy (shop_of c.args.branch books).rentals (sym (ap option_to_list c.in-Some.is) ∙ out))),
    ))

pub returns-in-None-clause-does : goal.returns-in-None-clause-does
returns-in-None-clause-does g c = record {
  inside = within_none;
  says = λ clean copy books holds held.
      (holds, λ out. sym (ap head (none_held 1 copy (shop_of c.args.branch books).rentals (sym (ap option_to_list c.in-None.is) ∙ out))));
}
