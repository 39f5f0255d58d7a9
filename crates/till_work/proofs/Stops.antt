-- What a stop leaves, one call after another.
use Rattle.sql_rows.proofs.Common.{◌≡◌, ◌≢◌, ◌∙◌, ◌+◌, ◌++◌, ◌∷◌, [], ℕ, List, Option, None, length, inl, inr, sym, ap, refl, subst, arith}
use Rattle.sql_rows.proofs.Common.{Trees, State, HasCleanDisk, Survives, survives_then, survives_weaker}
use Rattle.std.proofs.Common.{append_assoc, length-append}
use Rattle.std.specs.Io.KnownBytes.{Appends, Consumes}
use Rattle.shop_model.specs.Values.{Text, Command}
use Rattle.shop_model.specs.Answers.{Answer}
use Rattle.till_client.specs.Replies.{answer_bytes}
use Rattle.till_client.specs.Sealing.{SaysCommand}
use Rattle.std.specs.Prelude.{option_map}
use Rattle.std.specs.Option.{option_to_list}
use Rattle.till_book.specs.Seen.{seen_reply}
use Rattle.till_book.specs.declared.rows.BookReply.{BookReply}
use Rattle.till_book.specs.Journal.{Journal, StandsFor, IsUnsettled, settled_of, with_entry, with_settled}
use Rattle.till_book.specs.Saying.{Say}
use Rattle.till_book.specs.Steps as book
use Rattle.till_book.specs.Steps.{Rests, IsNext, LeavesEntered}
use Rattle.till_work.specs.declared.place.Place.{Place}
use Rattle.till_work.specs.Entering.{IsTillsBook, LeavesCommand}
use Rattle.till_work.specs.Settling.{OfEntry, LeavesDecision, MayNote}
use Rattle.till_work.specs.Exchanged.{IsExchanged, AreExchanged, AreSettled}
use Rattle.till_work.specs.Desk.{HasPlace, Extends, Sends, with_replies}
use Rattle.till_work.specs.Stops.{IsLater, IsSentAfter, IsSettledAfter, with_settlements, IsAny, Leaves}
use Rattle.till_work.proofs.GoingOn.{more_then, nothing_more, extends_same, extends_then, extends_sent}
use Rattle.till_work.proofs.Exchanging.{told_then, settled_then, decided_known}

-- ---- one commit

-- a call that commits nothing
pub nothing_left : (old new : State) (P : Trees → Type 0) → Survives old new (λ _. ⊥) → Survives old new P
nothing_left old new P h = survives_weaker old new (λ _. ⊥) P (λ _ db none. absurd none) h

-- no settlement was found
pub found_unsettled : (n : ℕ) (it : Option BookReply) (journal : Journal) → it ≡ None
    → option_to_list (option_map seen_reply it) ≡ settled_of n journal.settled → IsUnsettled n journal
found_unsettled n it journal none found = sym found ∙ ap (λ (r : Option BookReply). option_to_list (option_map seen_reply r)) none

-- the entry was found unsettled, and a reply to it was read
pub settlement_left : (n : ℕ) (answer : Answer) (old mid new : State) (input left output written : Option (List ℕ)) → Survives old mid (λ _. ⊥)
    → (HasCleanDisk mid → (journal : Journal) → Rests old journal
    → Rests mid journal × IsUnsettled n journal × OfEntry n journal (λ request. Appends output written request))
    → Consumes input left (answer_bytes answer) → answer.status ≢ 503
    → Survives mid new (LeavesDecision n answer mid) → Survives old new (MayNote n old input left output written)
settlement_left n answer old mid new input left output written first found reads given last =
    survives_then old mid new (λ _. ⊥) (LeavesDecision n answer mid) (MayNote n old input left output written) (λ _ db none. absurd none)
    (λ clean db leaves journal rests.
    let clean_mid : HasCleanDisk mid = omega (arith, clean, last.clean) in
    let it = found clean_mid journal rests in
    (answer, record { writes = it.2; reads = reads; given = given; decides = leaves.0 }, leaves.1 journal it.0 it.1))
    first last

-- a request that says a command was fit to be the next entry, and is entered
pub command_left : (mark token : Text) (n : ℕ) (bytes request : List ℕ) (command : Command) (old mid new : State) → bytes ≡ request
    → SaysCommand request token command → Survives old mid (λ _. ⊥) → (HasCleanDisk mid → book.Stays old mid)
    → (HasCleanDisk mid → (journal : Journal) (commands : List Command) → Rests old journal → IsNext n journal → IsTillsBook mark journal commands
    → IsTillsBook mark (with_entry request journal) (commands ++ command ∷ []))
    → Survives mid new (LeavesEntered n bytes mid) → Survives old new (LeavesCommand mark token n request old)
command_left mark token n bytes request command old mid new same says first stays keeps last =
    survives_then old mid new (λ _. ⊥) (LeavesEntered n bytes mid) (LeavesCommand mark token n request old) (λ _ db none. absurd none)
    (λ clean db leaves journal rests next.
    let clean_mid : HasCleanDisk mid = omega (arith, clean, last.clean) in (
      subst (λ (l : List ℕ). StandsFor db (with_entry l journal)) same (leaves journal (stays clean_mid journal rests) next),
      λ commands book. (command, says, keeps clean_mid journal commands rests next book),
    ))
    first last

-- ---- whatever a stop leaves

-- where the book was at rest and nothing was done
pub leaves_same : (Had : Journal → Type 0) (Is : Journal → List Command → Type 0) (Goes : Journal → List Command → Journal → List Command → Type 0) (s : State)
    → ((journal : Journal) → Had journal → Rests s journal) → ((journal : Journal) (commands : List Command) → Goes journal commands journal commands)
    → Leaves Had Is Goes s
leaves_same Had Is Goes s rests same journal commands had is db may = record {
  journal = journal;
  commands = commands;
  stands = (rests journal had).left db may;
  is = is;
  goes = same journal commands;
}

-- after a look
pub leaves_before : (First Had : Journal → Type 0) (Is : Journal → List Command → Type 0)
    (Goes : Journal → List Command → Journal → List Command → Type 0) (new : State)
    → ((journal : Journal) → First journal → Had journal) → Leaves Had Is Goes new → Leaves First Is Goes new
leaves_before First Had Is Goes new had leaves journal commands first is = leaves journal commands (had journal first) is

-- What a first call leads to, and what a stop in a second leaves, is one step after the other. So `Leaves` is closed under going on.
pub leaves_then : (First Had : Journal → Type 0) (Is : Journal → List Command → Type 0)
    (Goes : Journal → List Command → Journal → List Command → Type 0) (new : State)
    → ((a b c : Journal) (x y z : List Command) → Goes a x b y → Goes b y c z → Goes a x c z)
    → ((journal : Journal) (commands : List Command) → First journal → Is journal commands
    → (next : Journal) × (known : List Command) × Had next × Is next known × Goes journal commands next known)
    → Leaves Had Is Goes new → Leaves First Is Goes new
leaves_then First Had Is Goes new both comes leaves journal commands first is db may =
    let mid = comes journal commands first is in
    let it = leaves mid.0 mid.1 mid.2 mid.3 db may in
    record {
      journal = it.journal;
      commands = it.commands;
      stands = it.stands;
      is = it.is;
      goes = both journal mid.0 it.journal commands mid.1 it.commands mid.4 it.goes;
    }

-- of another kind of book, by another step
pub leaves_as : (Had : Journal → Type 0) (Is Other : Journal → List Command → Type 0)
    (Goes Steps : Journal → List Command → Journal → List Command → Type 0) (new : State)
    → ((journal : Journal) (commands : List Command) → Other journal commands → Is journal commands)
    → ((a b : Journal) (x y : List Command) → Other a x → Goes a x b y → Other b y × Steps a x b y)
    → Leaves Had Is Goes new → Leaves Had Other Steps new
leaves_as Had Is Other Goes Steps new weaker steps leaves journal commands had other db may =
    let it = leaves journal commands had (weaker journal commands other) db may in
    let step = steps journal it.journal commands it.commands other it.goes in
    record { journal = it.journal; commands = it.commands; stands = it.stands; is = step.0; goes = step.1 }

-- ---- a book with the same entries is of the same till

pub same_book : (mark : Text) (old new : Journal) (said known : List Command) → new.entries ≡ old.entries → known ≡ said
    → IsTillsBook mark old said → IsTillsBook mark new known
same_book mark old new said known entries same it =
    subst (λ (commands : List Command). IsTillsBook mark new commands) (sym same)
    (record { says = subst (λ (es : List (List ℕ)). Say es said) (sym entries) it.says; numbered = it.numbered })

-- ---- steps

module _ (Exchanged : List ℕ → Answer → Type 0) where
  pub later_same : (journal : Journal) (commands : List Command) → IsLater Exchanged journal commands journal commands
  later_same journal commands = record { extends = extends_same Exchanged journal; says = ([], nothing_more commands) }

  pub later_then : (a b c : Journal) (x y z : List Command) → IsLater Exchanged a x b y → IsLater Exchanged b y c z → IsLater Exchanged a x c z
  later_then a b c x y z one two = record {
    extends = extends_then Exchanged a b c one.extends two.extends;
    says = (one.says.0 ++ two.says.0, more_then x y z one.says.0 two.says.0 one.says.1 two.says.1);
  }

  -- ---- replies

  no_replies : (journal : Journal) → journal ≡ with_replies [] journal
  no_replies journal = ap (λ (rs : List Answer). record journal { replies = rs }) (nothing_more journal.replies)

  pub sent_same : (journal : Journal) (commands : List Command) → IsSentAfter Exchanged journal commands journal commands
  sent_same journal commands = ([], no_replies journal, refl, tt)

  pub sent_then : (a b c : Journal) (x y z : List Command) → IsSentAfter Exchanged a x b y → IsSentAfter Exchanged b y c z → IsSentAfter Exchanged a x c z
  sent_then a b c x y z one two =
      let xs = one.0 in
      let ys = two.0 in
      let joined : with_replies ys (with_replies xs a) ≡ with_replies (xs ++ ys) a =
      ap (λ (rs : List Answer). record a { replies = rs }) (append_assoc a.replies xs ys) in
      let later : AreExchanged Exchanged a.entries (length (a.replies ++ xs)) ys =
      subst (λ (j : Journal). AreExchanged Exchanged j.entries (length j.replies) ys) one.1 two.3 in (
        xs ++ ys,
        two.1 ∙ ap (with_replies ys) one.1 ∙ joined,
        two.2 ∙ one.2,
        told_then Exchanged a.entries (length a.replies) xs ys one.3
            (subst (λ (k : ℕ). AreExchanged Exchanged a.entries k ys) (length-append a.replies xs) later),
      )

  sent_extends : (a b : Journal) (answers : List Answer) → b ≡ with_replies answers a → AreExchanged Exchanged a.entries (length a.replies) answers
      → Extends Exchanged a b
  sent_extends a b answers is told = subst (λ (j : Journal). Extends Exchanged a j) (sym is) (extends_sent Exchanged answers a told)

  pub sent_is_later : (a b : Journal) (x y : List Command) → IsSentAfter Exchanged a x b y → IsLater Exchanged a x b y
  sent_is_later a b x y it = record { extends = sent_extends a b it.0 it.1 it.3; says = ([], it.2 ∙ nothing_more x) }

  -- what is sent leaves a till's book one
  pub sent_at_till : (mark : Text) (Had : Journal → Type 0) (new : State)
      → Leaves Had IsAny (IsSentAfter Exchanged) new → Leaves Had (IsTillsBook mark) (IsLater Exchanged) new
  sent_at_till mark Had new leaves =
      leaves_as Had IsAny (IsTillsBook mark) (IsSentAfter Exchanged) (IsLater Exchanged) new (λ journal commands is. tt)
      (λ a b x y is it. (same_book mark a b x y (ap (λ (j : Journal). j.entries) it.1) it.2 is, sent_is_later a b x y it)) leaves

  pub sent_at_any : (Had : Journal → Type 0) (new : State) → Leaves Had IsAny (IsSentAfter Exchanged) new → Leaves Had IsAny (IsLater Exchanged) new
  sent_at_any Had new leaves =
      leaves_as Had IsAny IsAny (IsSentAfter Exchanged) (IsLater Exchanged) new (λ journal commands is. tt)
      (λ a b x y is it. (tt, sent_is_later a b x y it)) leaves

  -- ---- one delivery after another

  pub sends_leaves : (before after : Place) (old new : State) → Sends Exchanged before old after new
      → Leaves (HasPlace before old) IsAny (IsSentAfter Exchanged) new
  sends_leaves before after old new sends journal commands has is db may =
      let it = sends journal has in
      record {
        journal = with_replies it.0 journal;
        commands = commands;
        stands = it.1.has.rests.left db may;
        is = tt;
        goes = (it.0, refl, refl, it.1.told);
      }

  pub sends_then_leaves : (before mid : Place) (old between new : State) → Sends Exchanged before old mid between
      → Leaves (HasPlace mid between) IsAny (IsSentAfter Exchanged) new → Leaves (HasPlace before old) IsAny (IsSentAfter Exchanged) new
  sends_then_leaves before mid old between new sends leaves =
      leaves_then (HasPlace before old) (HasPlace mid between) IsAny (IsSentAfter Exchanged) new sent_then
      (λ journal commands has is. let it = sends journal has in (with_replies it.0 journal, commands, it.1.has, tt, (it.0, refl, refl, it.1.told))) leaves

  -- ---- settlements

  no_settlements : (journal : Journal) → journal ≡ with_settlements [] journal
  no_settlements journal = ap (λ (them : List (ℕ × Answer)). record journal { settled = them }) (nothing_more journal.settled)

  pub settled_same : (journal : Journal) (commands : List Command) → IsSettledAfter Exchanged journal commands journal commands
  settled_same journal commands = ([], no_settlements journal, refl, tt)

  pub settled_both : (a b c : Journal) (x y z : List Command) → IsSettledAfter Exchanged a x b y → IsSettledAfter Exchanged b y c z
      → IsSettledAfter Exchanged a x c z
  settled_both a b c x y z one two =
      let xs = one.0 in
      let ys = two.0 in
      let joined : with_settlements ys (with_settlements xs a) ≡ with_settlements (xs ++ ys) a =
      ap (λ (them : List (ℕ × Answer)). record a { settled = them }) (append_assoc a.settled xs ys) in
      let later : AreSettled Exchanged a.entries ys = subst (λ (j : Journal). AreSettled Exchanged j.entries ys) one.1 two.3 in (
        xs ++ ys,
        two.1 ∙ ap (with_settlements ys) one.1 ∙ joined,
        two.2 ∙ one.2,
        settled_then Exchanged a.entries xs ys one.3 later,
      )

  settled_on : (a : Journal) (more : List (ℕ × Answer)) → AreSettled Exchanged a.entries more → Extends Exchanged a (with_settlements more a)
  settled_on a more settled = record {
    entries = ([], nothing_more a.entries);
    replies = ([], nothing_more a.replies, tt);
    settled = (more, refl, settled);
  }

  pub settled_is_later : (a b : Journal) (x y : List Command) → IsSettledAfter Exchanged a x b y → IsLater Exchanged a x b y
  settled_is_later a b x y it = record {
    extends = subst (λ (j : Journal). Extends Exchanged a j) (sym it.1) (settled_on a it.0 it.3);
    says = ([], it.2 ∙ nothing_more x);
  }

  pub settled_at_till : (mark : Text) (Had : Journal → Type 0) (new : State)
      → Leaves Had IsAny (IsSettledAfter Exchanged) new → Leaves Had (IsTillsBook mark) (IsLater Exchanged) new
  settled_at_till mark Had new leaves =
      leaves_as Had IsAny (IsTillsBook mark) (IsSettledAfter Exchanged) (IsLater Exchanged) new (λ journal commands is. tt)
      (λ a b x y is it. (same_book mark a b x y (ap (λ (j : Journal). j.entries) it.1) it.2 is, settled_is_later a b x y it)) leaves

-- ---- over streams that were opened

module _ {R W : Type 0} (opens : R → W → Type 0) (remaining : R → Option (List ℕ)) (contents : W → Option (List ℕ)) where
  -- a settling leaves the book as it was or with that settlement
  pub settling_leaves : (n : ℕ) (old new : State) (reader read : R) (writer written : W) → (i : ℕ) → n ≡ i + 1 → opens reader writer
      → HasCleanDisk new → Survives old new (MayNote n old (remaining reader) (remaining read) (contents writer) (contents written))
      → Leaves (Rests old) IsAny (IsSettledAfter (IsExchanged opens remaining contents)) new
  settling_leaves n old new reader read writer written i place opened clean h journal commands rests is db may =
      elim (h.crash clean db may) [
        | inl before ↦ record {
          journal = journal;
          commands = commands;
          stands = rests.left db before;
          is = tt;
          goes = settled_same (IsExchanged opens remaining contents) journal commands;
        }
        | inr made ↦
            let it = made journal rests in
            let entry = it.1.writes i place in
            let told : IsExchanged opens remaining contents entry.0 it.0 = record {
              reader = reader;
              writer = writer;
              read = read;
              written = written;
              opened = opened;
              writes = entry.2;
              reads = it.1.reads;
              decided = it.1.given;
              known = decided_known it.0 it.1.decides;
            } in
            record {
              journal = with_settled n it.0 journal;
              commands = commands;
              stands = it.2;
              is = tt;
              goes = ((n, it.0) ∷ [], refl, refl, ((i, place, (entry.0, entry.1, told), it.1.decides), tt));
            }
      ]
