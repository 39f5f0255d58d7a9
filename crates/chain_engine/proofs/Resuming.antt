-- The requests before a stop and after it are one history.
use Rattle.std.proofs.Common.{◌⊎◌}
use Rattle.std.specs.Prelude.{◌||◌}
use Rattle.shop_schema.proofs.Common.{◌≡◌, ◌∙◌, inl, inr, refl, sym, ap, subst, Bool, true, false, List, [], ◌∷◌, length, Some, arith, cases_Bool, ∥∥₁_map}
use Rattle.shop_schema.proofs.Common.{Trees, Ghosts, state, HasCleanDisk, Limits, Rules, Answer, Books, Event, after, office_look, IsRun, is_store_failure}
use Rattle.shop_schema.proofs.Common.{has_failed, last_books, StandsFor, HoldsOne}
use Rattle.sqlite_disk.specs.declared.Disk.{Ghosts as DiskGhosts}
use Rattle.sqlite_disk.specs.declared.Files.{Files}
use Rattle.sqlite_wal.specs.Files.{outcomes}
use Rattle.sqlite_wal.specs.Reads.{AreClean}
use Rattle.sqlite_wal.specs.Recovery.{Image}
use Rattle.shop_model.specs.Stops.{failing, Lives, in_flight}
use Rattle.shop_model.proofs.Stops.{one_history, resent_first}
use Rattle.branch_work.specs.Rules.{rules_of}
use Rattle.chain_requests.specs.Holding.{Chained, holding}
use Rattle.chain_requests.specs.Chains.{IsAt, Takes, Runs, StandsForEither}
use Rattle.chain_files.specs.Files.{KeepsBooks, KeepsEither}
use Rattle.chain_engine.specs.Resumes.{before_stop, behind_stop, Resumes}

-- if one of the answers is the store's failure, there is a first request at which the store failed
fails_at : (events : List Event) (answers : List Answer) → length answers ≡ length events
    → has_failed answers ≡ true → (event : Event) × (failing events answers ≡ Some event)
fails_at [] [] each did = let no : false ≡ true = did in cc
fails_at [] (a ∷ answers) each did = absurd (omega (arith, each))
fails_at (e ∷ events) [] each did = absurd (omega (arith, each))
fails_at (e ∷ events) (a ∷ answers) each did = elim (cases_Bool (is_store_failure a)) [
  | inl is ↦ (e, rw is refl)
  | inr isnt ↦
      let fewer : length answers ≡ length events = omega (arith, each) in
      let more : has_failed answers ≡ true = rw isnt at did in
      let found = fails_at events answers fewer more in
      (found.0, rw isnt found.1)
]

module _ {S : Type 0} (g : Ghosts S) (limits : Limits) (start mid again last : Chained S) (first rest : List Event) (told later : List Answer) where
  -- the chain resumes with the requests that were answered after the stop
  goes_on : (acted : Bool) (old between begins : Books) → start.limits ≡ limits → again.limits ≡ limits
      → again.is_failed ≡ false → IsRun (rules_of limits) office_look first told old between
      → begins ≡ last_books (rules_of limits) (in_flight (before_stop first told acted)) between
      → (new besides : Books) → Runs rest later (holding again begins begins) (holding last new besides) → IsAt g last new besides
      → Resumes g (rules_of limits) first rest told later old last
  goes_on acted old between begins was_limits now_limits live ran is new besides runs at =
      let rules : Rules = rules_of limits in
      let next : IsRun rules office_look rest later begins new =
      subst (λ (l : Limits). IsRun (rules_of l) office_look rest later begins new) now_limits runs.run in
      let lived : Lives rules office_look (before_stop first told acted ∷ behind_stop rest later ∷ []) old new =
      (between, ran, (new, subst (λ (b : Books). IsRun rules office_look rest later b new) is next, refl)) in
      record {
        acted = acted;
        new = new;
        besides = besides;
        at = at;
        lives = lived;
        history = one_history rules office_look _ old new lived;
        resent = λ event more answer others failed asked answered decided.
            resent_first rules office_look (before_stop first told acted)
            (behind_stop rest later) event more answer others old new lived failed asked answered decided;
        failed = runs.failed ∙ ap (λ (b : Bool). b || has_failed later) live;
        at_failure = λ event failed. runs.at_failure live event failed ∙ ap (λ (l : Limits). after (rules_of l) event new) now_limits;
      }

  pub resumes : start.limits ≡ limits → start.is_failed ≡ false → again.limits ≡ limits → again.is_failed ≡ false → Takes g start mid (Runs first told)
      → (HasCleanDisk (state g again.conn) → HasCleanDisk (state g mid.conn))
      → (HasCleanDisk (state g again.conn) → (books besides : Books) → IsAt g mid books besides → ∥ IsAt g again books books ⊎ IsAt g again besides besides ∥₁)
      → Takes g again last (Runs rest later) → HasCleanDisk (state g last.conn) → (books besides : Books) → IsAt g start books besides
      → ∥ Resumes g (rules_of limits) first rest told later books last ∥₁
  resumes was_limits fine now_limits live before honest either behind clean books besides at =
      let clean_again = behind.clean clean in
      let one = before.goes (honest clean_again) books besides at in
      let between : Books = one.0 in
      let beside : Books = one.1 in
      let runs : Runs first told (holding start books besides) (holding mid between beside) = one.2 in
      let ran : IsRun (rules_of limits) office_look first told books between =
      subst (λ (l : Limits). IsRun (rules_of l) office_look first told books between) was_limits runs.run in
      ∥∥₁_map (either clean_again between beside one.3) (λ it. elim it [
        | inl stays ↦
            let two = behind.goes clean between between stays in
            goes_on false books between between was_limits now_limits live ran refl two.0 two.1 two.2 two.3
        | inr other ↦
            let two = behind.goes clean beside beside other in
            elim (cases_Bool mid.is_failed) [
              | inr sound ↦ goes_on false books between beside was_limits now_limits live ran (one.3.alone sound) two.0 two.1 two.2 two.3
              | inl failed ↦
                  let did : has_failed told ≡ true = rw fine at (sym runs.failed ∙ failed) in
                  let found = fails_at first told ran.each did in
                  let acted : beside ≡ after (rules_of limits) found.0 between =
                  runs.at_failure fine found.0 found.1 ∙ ap (λ (l : Limits). after (rules_of l) found.0 between) was_limits in
                  let flight : last_books (rules_of limits) (in_flight (before_stop first told true)) between ≡ after (rules_of limits) found.0 between =
                  rw (found.1) refl in
                  goes_on true books between beside was_limits now_limits live ran (acted ∙ sym flight) two.0 two.1 two.2 two.3
            ]
      ])

-- ---- after a crash of the disks

module _ {D : Type 0} (g : DiskGhosts D) (files now : Files D) where
  crashed_one : (P : Trees → Type 0) → ((image : Image) → outcomes g now.log now.db image → outcomes g files.log files.db image)
      → HoldsOne g files P → HoldsOne g now P
  crashed_one P left holds image may = holds image (left image may)

  pub crashed_keeps : (books : Books) → ((image : Image) → outcomes g now.log now.db image → outcomes g files.log files.db image)
      → (AreClean g now.log now.db → AreClean g files.log files.db) → KeepsBooks g files books → KeepsBooks g now books
  crashed_keeps books left clean keeps = record {
    sound = keeps.sound;
    values = keeps.values;
    left = λ honest. crashed_one (λ db. StandsFor db books) left (keeps.left (clean honest));
  }

  pub crashed_either : (books besides : Books) → ((image : Image) → outcomes g now.log now.db image → outcomes g files.log files.db image)
      → (AreClean g now.log now.db → AreClean g files.log files.db) → KeepsEither g files books besides → KeepsEither g now books besides
  crashed_either books besides left clean keeps = record {
    sound = keeps.sound;
    values = keeps.values;
    left = λ honest. crashed_one (StandsForEither books besides) left (keeps.left (clean honest));
  }
