-- A command of head office that was accepted and comes again gets its first reply, whatever has happened since.
use Rattle.shop_model.proofs.Common.{◌≡◌, ◌∷◌, filter, true, nat_le, bytes_eq, Film, Branch, ByCode, ByComment, OfficeAct, AddCountry, AddCity, AddLanguage}
use Rattle.shop_model.proofs.Common.{AddCategory, AddActor, AddFilm, PriceFilm, WithdrawFilm, AddCast, AddBranch, AddStaff, StaffLeaves, SetManager, ChooseRule}
use Rattle.shop_model.proofs.Common.{OfficeCommand, Rules, Full, OfficeKept, Catalogue, same_film, same_branch, same_office_act, same_office, Accepted}
use Rattle.shop_model.proofs.Common.{office_verdict, first, office_refusals, office_done, office_text, Again, refl}
use Rattle.std.specs.Prelude.{length}
use Rattle.shop_model.proofs.RowLemmas.{same_test}
use Rattle.shop_model.proofs.Accepted.{nothing_kept}
use Rattle.shop_model.proofs.Resent.{first_under}
use Rattle.shop_model.proofs.ActLaws.{bytes_same, option_same, flag_same, person_same}

film_same : (f : Film) → same_film f f ≡ true
film_same f =
    rw (
      bytes_same f.title,
      bytes_same f.description,
      same_test f.language,
      same_test f.category,
      same_test f.period,
      same_test f.rate,
      same_test f.replacement,
      option_same f.minutes,
      bytes_same f.rating,
      bytes_same f.features,
      flag_same f.withdrawn,
    )

branch_same : (b : Branch) → same_branch b b ≡ true
branch_same b = rw (bytes_same b.token, bytes_same b.address, bytes_same b.postal, bytes_same b.phone, same_test b.city, option_same b.manager)

act_same : (a : OfficeAct) → same_office_act a a ≡ true
act_same (AddCountry name) = bytes_same name
act_same (AddCity c) = rw (bytes_same c.name, same_test c.country)
act_same (AddLanguage name) = bytes_same name
act_same (AddCategory name) = bytes_same name
act_same (AddActor a) = rw (bytes_same a.first, bytes_same a.last)
act_same (AddFilm f) = film_same f
act_same (PriceFilm f rate) = simp same_test
act_same (WithdrawFilm f) = same_test f
act_same (AddCast c) = rw (same_test c.film, same_test c.actor)
act_same (AddBranch b) = branch_same b
act_same (AddStaff s) = rw (same_test s.branch, person_same s.person)
act_same (StaffLeaves s) = same_test s
act_same (SetManager b s) = simp same_test
act_same (ChooseRule ByCode) = cc
act_same (ChooseRule ByComment) = cc

pub command_same : (c : OfficeCommand) → same_office c c ≡ true
command_same c = rw (bytes_same c.key, act_same c.act)

-- ---- what is kept under a key

-- an accepted command that comes directly after itself is given again
pub done_again : (rules : Rules) (command : OfficeCommand) (catalogue : Catalogue) → office_verdict rules catalogue command ≡ Accepted
    → office_verdict rules (office_done command catalogue) command ≡ Again (office_text command catalogue)
done_again rules command catalogue e =
    let k : OfficeKept = record { command = command; reply = office_text command catalogue } in
    let tests = (Full, nat_le rules.commands (length catalogue.kept)) ∷ office_refusals catalogue command.act in
    let none = (nothing_kept _ _ (filter (λ (it : OfficeKept). bytes_eq it.command.key command.key) catalogue.kept) (first tests) e).0 in
    rw (first_under (λ (it : OfficeKept). it.command.key) k catalogue.kept none, command_same command) refl
