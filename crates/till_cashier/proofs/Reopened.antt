-- The book that is opened after a stop and a crash.
use Rattle.sql_rows.proofs.Common.{∥∥₁_map, inl, inr, State, HasCleanDisk, Held, Trees}
use Rattle.std.proofs.Common.{ℕ, List, Result}
use Rattle.sqlite.specs.Files.{HoldsDatabase, file_state, image_of}
use Rattle.sqlite_disk.specs.declared.Disk.{Ghosts}
use Rattle.sqlite_disk.specs.declared.Files.{Files}
use Rattle.sqlite_store.specs.declared.store.FileStore.{FileStore}
use Rattle.sqlite_wal.proofs.LogLemmas.{SeenMayStay}
use Rattle.sql_rows.specs.Files.{HoldsOne}
use Rattle.shop_model.specs.Values.{Text, Command}
use Rattle.shop_model.specs.Answers.{Answer}
use Rattle.till_book.specs.Journal.{Journal}
use Rattle.till_book.specs.Steps.{Rests}
use Rattle.till_files.specs.Openings.{IsBookOpened}
use Rattle.till_work.specs.Stops.{Leaves}
use Rattle.till_words.specs.declared.words.TillAct.{TillAct}
use Rattle.till_words.specs.declared.words.TillAct.TheVariants as typed
use Rattle.till_cashier.specs.declared.fault.TillFault.{TillFault}
use Rattle.till_cashier.specs.Stops.{LeftOf, LeavesWord, Opens, OpensWord, RestsLater}

-- what each `One` is, each `Other` is too: so what is left of a word
left_as : (One Other : (Journal → List Command → Type 0) → (Journal → List Command → Journal → List Command → Type 0) → Type 0)
    → ((Is : Journal → List Command → Type 0) (Goes : Journal → List Command → Journal → List Command → Type 0) → One Is Goes → Other Is Goes)
    → (Exchanged : List ℕ → Answer → Type 0) (shows : ℕ → Type 0) (mark token : Text) (giver : Result ℕ TillFault) (sheet : Text) (word : TillAct) (old : State)
    → LeftOf One Exchanged shows mark token giver sheet word old → LeftOf Other Exchanged shows mark token giver sheet word old
left_as One Other by Exchanged shows mark token giver sheet (typed.Do what) old left = by _ _ left
left_as One Other by Exchanged shows mark token giver sheet (typed.ReturnCopy copy) old left = elim left [
  | inl same ↦ inl (by _ _ same)
  | inr tried ↦ inr (tried.0, tried.1, by _ _ tried.2)
]
left_as One Other by Exchanged shows mark token giver sheet (typed.Office words) old left = (by _ _ left.0, λ reads. by _ _ (left.1 reads))
left_as One Other by Exchanged shows mark token giver sheet typed.Send old left = by _ _ left
left_as One Other by Exchanged shows mark token giver sheet (typed.Look look) old left = by _ _ left
left_as One Other by Exchanged shows mark token giver sheet typed.Waiting old left = by _ _ left
left_as One Other by Exchanged shows mark token giver sheet (typed.Last count) old left = by _ _ left
left_as One Other by Exchanged shows mark token giver sheet (typed.Day asked) old left = by _ _ left
left_as One Other by Exchanged shows mark token giver sheet (typed.Today date) old left = by _ _ left
left_as One Other by Exchanged shows mark token giver sheet (typed.Again late) old left = by _ _ left
left_as One Other by Exchanged shows mark token giver sheet typed.Slip old left = by _ _ left
left_as One Other by Exchanged shows mark token giver sheet typed.Help old left = by _ _ left
left_as One Other by Exchanged shows mark token giver sheet (typed.Zone name) old left = by _ _ left
left_as One Other by Exchanged shows mark token giver sheet (typed.Init beginning) old left = by _ _ left
left_as One Other by Exchanged shows mark token giver sheet (typed.Import file lot) old left = by _ _ left
left_as One Other by Exchanged shows mark token giver sheet (typed.JoinIn who) old left = by _ _ left
left_as One Other by Exchanged shows mark token giver sheet typed.Prompt old left = by _ _ left

module _ {D : Type 0} (g : Ghosts D) (files : Files D) (conn : Held (FileStore D g)) (opened : IsBookOpened files conn)
    (stays : SeenMayStay g) (clean : HasCleanDisk (file_state conn)) (old new : State) (left : HoldsOne g files new.may_leave) where
  -- What a stop leaves is found in the files, and opened.
  pub opens : (Is : Journal → List Command → Type 0) (Goes : Journal → List Command → Journal → List Command → Type 0)
      → Leaves (Rests old) Is Goes new → Opens old Is Goes (file_state conn)
  opens Is Goes leaves journal commands rests is =
      let there : ∥ ((db : Trees) × new.may_leave db × HoldsDatabase (image_of g files) db) ∥₁ = left (image_of g files) (stays _, stays _) in
      ∥∥₁_map there (λ found.
      let it = leaves journal commands rests is found.0 found.1 in
      let r : RestsLater Is (Goes journal commands) (file_state conn) = record {
        journal = it.journal;
        commands = it.commands;
        rests = opened.found clean it.journal (record { db = found.0; holds = ∥∥₁_map there (λ other. found.2); stands = it.stands });
        is = it.is;
        goes = it.goes;
      } in r)

  pub opens_word : (Exchanged : List ℕ → Answer → Type 0) (shows : ℕ → Type 0) (mark token : Text) (giver : Result ℕ TillFault) (sheet : Text) (word : TillAct)
      → LeavesWord Exchanged shows mark token giver sheet word old new → OpensWord Exchanged shows mark token giver sheet word old (file_state conn)
  opens_word Exchanged shows mark token giver sheet word leaves =
      left_as (λ Is Goes. Leaves (Rests old) Is Goes new) (λ Is Goes. Opens old Is Goes (file_state conn)) opens
      Exchanged shows mark token giver sheet word old leaves
