-- Refusals of head office's commands, by what was found.
use Rattle.std.proofs.Common.{option_map}
use Rattle.std.specs.Prelude.{◌==◌}
use Rattle.shop_types.proofs.Common.{◌≡◌, refl, sym, ap, ◌∙◌, ℕ, Bool, true, false, List, [], ◌∷◌, map, filter, Option, Some, None, bytes_eq, Film, Branch}
use Rattle.shop_types.proofs.Common.{WithdrawFilm, StaffLeaves, SetManager, OfficeCommand, Rules, OfficeKept, Catalogue, same_option, NoBranch, Already}
use Rattle.shop_types.proofs.Common.{Verdict, Refused, Accepted, first, office_refusals, office_resent, office_verdict, head, found_none, found_some, seen_kept}
use Rattle.shop_types.proofs.Common.{post_of}
use Rattle.shop_types.specs.declared.found.KeptFound.{KeptFound}
use Rattle.catalogue_core.specs.Shares.{film_at, branch_at, staff_at, kept_for}
use Rattle.catalogue_core.specs.Decided.{fresh_refusals}

pub withdraw_open : (catalogue : Catalogue) (f : ℕ) → Some false ≡ film_at catalogue f
    → Some Accepted ≡ Some (first (office_refusals catalogue (WithdrawFilm f)))
withdraw_open catalogue f is = let one = found_some (λ (it : Film). it.withdrawn) f catalogue.films false is in rw (one.1, one.2) refl

-- who is there and hasn't left
module _ (catalogue : Catalogue) (s : ℕ) (post : ℕ × Bool) (is : Some post ≡ staff_at catalogue s) (stays : post.1 ≡ false) where
  pub leave_open : Some Accepted ≡ Some (first (office_refusals catalogue (StaffLeaves s)))
  leave_open =
      let one = found_some post_of s catalogue.staff post is in
      let here : one.0.gone ≡ false = ap (λ (it : ℕ × Bool). it.1) one.2 ∙ stays in
      rw (one.1, here) refl

  module _ (b : ℕ) where
    abbrev Manages : Verdict → Type 0
    Manages v = Some v ≡ Some (first (office_refusals catalogue (SetManager b s)))

    pub manager_no_branch : None ≡ branch_at catalogue b → Manages (Refused NoBranch)
    manager_no_branch none =
        let one = found_some post_of s catalogue.staff post is in
        let here : one.0.gone ≡ false = ap (λ (it : ℕ × Bool). it.1) one.2 ∙ stays in
        rw (one.1, here, found_none (λ (it : Branch). it.manager) b catalogue.branches none) refl

    module _ (manager : Option ℕ) (found : Some manager ≡ branch_at catalogue b) where
      pub manager_elsewhere : (post.0 == b) ≡ false → Manages (Refused NoBranch)
      manager_elsewhere other =
          let one = found_some post_of s catalogue.staff post is in
          let here : one.0.gone ≡ false = ap (λ (it : ℕ × Bool). it.1) one.2 ∙ stays in
          let away : (one.0.branch == b) ≡ false = ap (λ (it : ℕ × Bool). it.0 == b) one.2 ∙ other in
          let branch = found_some (λ (it : Branch). it.manager) b catalogue.branches manager found in
          rw (one.1, here, away, branch.1) refl

      pub manager_already : (post.0 == b) ≡ true → same_option manager (Some s) ≡ true → Manages (Refused Already)
      manager_already own same =
          let one = found_some post_of s catalogue.staff post is in
          let here : one.0.gone ≡ false = ap (λ (it : ℕ × Bool). it.1) one.2 ∙ stays in
          let there : (one.0.branch == b) ≡ true = ap (λ (it : ℕ × Bool). it.0 == b) one.2 ∙ own in
          let branch = found_some (λ (it : Branch). it.manager) b catalogue.branches manager found in
          rw (one.1, here, there, branch.1, branch.2, same) refl

      pub manager_set : (post.0 == b) ≡ true → same_option manager (Some s) ≡ false → Manages Accepted
      manager_set own other =
          let one = found_some post_of s catalogue.staff post is in
          let here : one.0.gone ≡ false = ap (λ (it : ℕ × Bool). it.1) one.2 ∙ stays in
          let there : (one.0.branch == b) ≡ true = ap (λ (it : ℕ × Bool). it.0 == b) one.2 ∙ own in
          let branch = found_some (λ (it : Branch). it.manager) b catalogue.branches manager found in
          rw (one.1, here, there, branch.1, branch.2, other) refl

-- ---- keys

resent_new : (command : OfficeCommand) (kept : List OfficeKept) (new : Verdict)
    → None ≡ head (map (kept_for command) kept) → office_resent command kept new ≡ new
resent_new command [] new is = refl
resent_new command (k ∷ kept) new is = absurd (let some = is in cc)

-- no row is kept under the key
pub fresh : (rules : Rules) (catalogue : Catalogue) (command : OfficeCommand) (kept : Option KeptFound) → kept ≡ None
    → option_map seen_kept kept ≡ head (map (kept_for command) (filter (λ (k : OfficeKept). bytes_eq k.command.key command.key) catalogue.kept))
    → office_verdict rules catalogue command ≡ first (fresh_refusals rules catalogue command)
fresh rules catalogue command kept none is =
    resent_new command (filter (λ (k : OfficeKept). bytes_eq k.command.key command.key) catalogue.kept) (first (fresh_refusals rules catalogue command))
    (ap (λ (it : Option KeptFound). option_map seen_kept it) (sym none) ∙ is)

pub accepted : (verdict : Verdict) → Some Accepted ≡ Some verdict → verdict ≡ Accepted
accepted verdict is = cc
