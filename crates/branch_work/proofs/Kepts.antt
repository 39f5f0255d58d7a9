-- Lemmas about what is found under a key: by the stored form of the command, and by the command itself.
use Rattle.shop_schema.proofs.Common.{[], inl, inr, cases_Bool, All-map, All-weaker, all-filter, ◌≡◌, ◌∙◌, refl, ap, ℕ, true, List, ◌∷◌, map, filter, Option}
use Rattle.shop_schema.proofs.Common.{Some, option_map, AllByRecursion, bytes_eq, bytes_eq-Decides, IsMoment, Owned, owned_by, Command, Kept, same_command}
use Rattle.shop_schema.proofs.Common.{head, command_form, IsKept}
use Rattle.std.specs.Prelude.{◌==◌}
use Rattle.shop_schema.proofs.OneToOne.{forms_are_one_to_one}
use Rattle.shop_schema.proofs.OfficeOneToOne.{same_truth}
use Rattle.shop_ledger.specs.Seen.{by_form, stored_kept}
use Rattle.branch_core.specs.Agreed.{kept_for}

IsReal : Kept → Type 0
IsReal kept = IsMoment kept.command.moment

owned_real : (b : ℕ) (rows : List (Owned Kept)) → AllByRecursion IsKept rows → AllByRecursion IsReal (owned_by b rows)
unfolding IsReal
owned_real b rows all =
    All-map IsReal (λ (row : Owned Kept). row.it) (filter (λ row. row.owner == b) rows)
    (all-filter (λ (row : Owned Kept). IsReal row.it) (λ row. row.owner == b) rows
    (All-weaker IsKept (λ (row : Owned Kept). IsReal row.it) (λ row such. such.1.moment) rows all))

-- under one key, the stored forms are the same exactly if the commands are the same
one_told : (command : Command) (form : List ℕ) (kept : Kept) → form ≡ command_form command
    → IsMoment command.moment → IsReal kept → bytes_eq kept.command.key command.key ≡ true
    → by_form form (stored_kept kept) ≡ kept_for command kept
unfolding IsReal
one_told command form kept is real moment key =
    let one = forms_are_one_to_one kept.command command moment real ((bytes_eq-Decides kept.command.key command.key).0 key) in
    let bytes = bytes_eq-Decides (command_form kept.command) (command_form command) in
    let same : bytes_eq (command_form kept.command) (command_form command) ≡ same_command kept.command command =
    same_truth _ _ (λ h. one.0 (bytes.0 h)) (λ h. bytes.1 (one.1 h)) in
    (λ i. (bytes_eq (command_form kept.command) (is i), kept.reply)) ∙ (λ i. (same i, kept.reply))

first_told : (command : Command) (form : List ℕ) (kepts : List Kept) → form ≡ command_form command → IsMoment command.moment → AllByRecursion IsReal kepts
    → option_map (by_form form) (head (map stored_kept (filter (λ (k : Kept). bytes_eq k.command.key command.key) kepts)))
    ≡ head (map (kept_for command) (filter (λ (k : Kept). bytes_eq k.command.key command.key) kepts))
first_told command form [] is real all = refl
first_told command form (kept ∷ kepts) is real all = elim (cases_Bool (bytes_eq kept.command.key command.key)) [
  | inl key ↦ rw key (ap Some (one_told command form kept is real all.0 key))
  | inr other ↦ rw other (first_told command form kepts is real all.1)
]

pub kept_told : (b : ℕ) (command : Command) (form : List ℕ) (found : Option (List ℕ × List ℕ)) (rows : List (Owned Kept))
    → form ≡ command_form command → IsMoment command.moment → AllByRecursion IsKept rows
    → found ≡ head (map stored_kept (filter (λ (k : Kept). bytes_eq k.command.key command.key) (owned_by b rows)))
    → option_map (by_form form) found ≡ head (map (kept_for command) (filter (λ (k : Kept). bytes_eq k.command.key command.key) (owned_by b rows)))
kept_told b command form found rows is real all told =
    ap (λ (o : Option (List ℕ × List ℕ)). option_map (by_form form) o) told ∙ first_told command form (owned_by b rows) is real (owned_real b rows all)
