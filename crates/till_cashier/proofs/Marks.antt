-- The mark of a book's last entry.
use Rattle.std.proofs.Common.{◌≡◌, ◌≢◌, ◌∙◌, ◌++◌, ◌∷◌, [], ℕ, suc, Bool, true, false, List, Option, Some, None, length, take, drop, refl, sym, ap, subst}
use Rattle.std.proofs.Common.{append_assoc}
use Rattle.std.specs.Prelude.{◌↔◌, ◌+◌, Decides, IsTrue, ⊤, decimal, nat_eq, slice_get}
use Rattle.std.specs.Str.{bytes_eq}
use Rattle.std.specs.Cmp.Lexicographic.{pointwise}
use Rattle.std.proofs.lemmas.Slice.Eq.{bytes_eq-Decides, starts_is}
use Rattle.std.proofs.lemmas.Bool.Decides.{Decides-eqb, same_from_decides}
use Rattle.std.proofs.lemmas.List.{take-append-drop, append_cancel_left}
use Rattle.std.proofs.Math.Seq.{take-append_seam}
use Rattle.sqlite.specs.State.{State}
use Rattle.shop_model.specs.Values.{Text, Command}
use Rattle.till_model.specs.Numbered.{mark_text, key_of, has_mark, AreNumbered}
use Rattle.till_client.proofs.SoleMessages.{one_command}
use Rattle.till_book.specs.Held.{last_or}
use Rattle.till_book.specs.Ends.{IsEndOf}
use Rattle.till_book.specs.declared.ends.BookEnd.{BookEnd}
use Rattle.till_book.specs.Steps as book
use Rattle.till_book.specs.Saying.{Says, Say}
use Rattle.till_cashier.specs.Word.{LastHasMark, IsOwnBook, TellsMark, TellsLastMark, KnowsOwn}

-- ---- keys

-- the key begins so
abbrev IsMarked : Text → Text → Type 0
IsMarked mark key = (rest : Text) × (key ≡ mark_text mark ++ rest)

marked_Decides : (mark key : Text) → Decides (has_mark mark key) (IsMarked mark key)
marked_Decides mark key = (
  (λ is.
      let front : take (length (mark_text mark)) key ≡ mark_text mark = (bytes_eq-Decides (take (length (mark_text mark)) key) (mark_text mark)).0 is in (
        drop (length (mark_text mark)) key,
        sym (take-append-drop (length (mark_text mark)) key) ∙ ap (λ (it : Text). it ++ drop (length (mark_text mark)) key) front,
      )),
  (λ whole.
      (bytes_eq-Decides (take (length (mark_text mark)) key) (mark_text mark)).1
      (ap (λ (it : Text). take (length (mark_text mark)) it) whole.1 ∙ take-append_seam (mark_text mark) whole.0)),
)

-- a key that doesn't begin with the mark
pub no_mark : (mark key : Text) → ((rest : Text) → key ≢ mark ++ rest) → false ≡ has_mark mark key
no_mark mark key none =
    same_from_decides false (has_mark mark key)
    ((λ is. absurd (false_true is)), (λ whole. absurd (none (45 ∷ whole.0) (whole.1 ∙ append_assoc mark (45 ∷ []) whole.0))))
    (marked_Decides mark key)
  where
    false_true : ◌≡◌ {A = Bool} false true → ⊥
    false_true e = cc

-- a key that begins with the mark, by what follows
pub mark_then : (mark key rest : Text) (r : Bool) → key ≡ mark ++ rest → r ≡ pointwise nat_eq (45 ∷ []) (take 1 rest) → r ≡ has_mark mark key
mark_then mark key rest r whole is =
    let starts = starts_is Decides-eqb rest (45 ∷ []) r is in
    same_from_decides r (has_mark mark key) (
      (λ holds. (drop 1 rest, whole ∙ ap (λ (it : Text). mark ++ it) (starts.0 holds) ∙ sym (append_assoc mark (45 ∷ []) (drop 1 rest)))),
      (λ marked.
          starts.1 marked.0 (append_cancel_left mark rest (45 ∷ marked.0) (sym whole ∙ marked.1 ∙ append_assoc mark (45 ∷ []) marked.0))),
    )
    (marked_Decides mark key)

-- ---- the last entry

-- the bytes say one command alone, with its key
pub key_said : (mark : Text) (request : List ℕ) (one command : Command) (r : Bool) → Says request one
    → Says request command → r ≡ has_mark mark one.key → r ≡ has_mark mark command.key
key_said mark request one command r first says is =
    is ∙ ap (λ (it : Command). has_mark mark it.key) (one_command request first.0 says.0 one command first.1 says.1)

-- an entry says a command, or there is neither
abbrev pub SaysBoth : Option (List ℕ) → Option Command → Type 0
SaysBoth None None = ⊤
SaysBoth None (Some command) = ⊥
SaysBoth (Some bytes) None = ⊥
SaysBoth (Some bytes) (Some command) = Says bytes command

pub last_says : (entries : List (List ℕ)) (commands : List Command) (entry : Option (List ℕ)) (command : Option Command)
    → Say entries commands → SaysBoth entry command
    → SaysBoth (last_or entry entries) (last_or command commands)
last_says [] [] entry command say both = both
last_says [] (c ∷ cs) entry command say both = absurd say
last_says (b ∷ bs) [] entry command say both = absurd say
last_says (b ∷ bs) (c ∷ cs) entry command say both = last_says bs cs (Some b) (Some c) say.1 say.0

pub none_some : (command : Command) → ◌≡◌ {A = Option Command} None (Some command) → ⊥
none_some command e = cc

pub some_same : (one two : Command) → ◌≡◌ {A = Option Command} (Some one) (Some two) → one ≡ two
some_same one two e = cc

last_marked : (mark : Text) (is_own : Bool) (entry : Option (List ℕ)) (last : Option Command) → SaysBoth entry last → TellsLastMark mark is_own entry
    → IsTrue is_own ↔ ((command : Command) → last ≡ Some command → has_mark mark command.key ≡ true)
last_marked mark is_own None None both tells = ((λ holds command some. absurd (none_some command some)), (λ all. tells))
last_marked mark is_own None (Some command) both tells = absurd both
last_marked mark is_own (Some bytes) None both tells = absurd both
last_marked mark is_own (Some bytes) (Some command) both tells = (
  (λ holds other same. ap (λ (it : Command). has_mark mark it.key) (sym (some_same command other same)) ∙ sym (tells command both) ∙ holds),
  (λ all. tells command both ∙ all command refl),
)

-- what holds of the last entry holds of the book
pub tells_mark : (mark : Text) (is_own : Bool) (end : BookEnd) (s new : State)
    → TellsLastMark mark is_own end.last → book.FindsAtRest (IsEndOf end) s new → TellsMark mark is_own s
tells_mark mark is_own end s new last tells journal commands rests say =
    let at : IsEndOf end journal = (tells journal rests).1 in
    last_marked mark is_own (last_or None journal.entries) (last_or None commands) (last_says journal.entries commands None None say tt)
    (subst (λ (entry : Option (List ℕ)). TellsLastMark mark is_own entry) at.last last)

-- ---- a till's book

all_last : (P : Command → Type 0) (other : Option Command) (commands : List Command) (last : Command)
    → ((i : ℕ) (it : Command) → slice_get commands i ≡ Some it → P it)
    → ((it : Command) → other ≡ Some it → P it) → last_or other commands ≡ Some last → P last
all_last P other [] last each first is = first last is
all_last P other (c ∷ cs) last each first is = all_last P (Some c) cs last (λ i it there. each (suc i) it there) (λ it same. each 0 it same) is

own_key : (mark : Text) (n : ℕ) → has_mark mark (key_of mark n) ≡ true
own_key mark n = (marked_Decides mark (key_of mark n)).1 (decimal n, refl)

own_last : (mark : Text) (commands : List Command) → AreNumbered mark commands → LastHasMark mark commands
own_last mark commands numbered last is =
    all_last (λ (it : Command). has_mark mark it.key ≡ true) None commands last
    (λ i it there. ap (λ (key : Text). has_mark mark key) (numbered.keys i it there) ∙ own_key mark (i + 1)) (λ it some. absurd (none_some it some)) is

pub knows_own : (mark : Text) (is_own : Bool) (s : State) → TellsMark mark is_own s → KnowsOwn mark is_own s
knows_own mark is_own s tells journal commands rests tills = (tells journal commands rests tills.says).1 (own_last mark commands tills.numbered)

-- ---- a word at the book

pub own_book : (mark : Text) (is_own : Bool) (s : State) → TellsMark mark is_own s → is_own ≡ true → IsOwnBook mark s
own_book mark is_own s tells holds journal commands rests say = (tells journal commands rests say).0 holds

pub other_book : (mark : Text) (is_own : Bool) (s : State) → TellsMark mark is_own s → ¬ (IsOwnBook mark s) → is_own ≡ false
other_book mark true s tells other = absurd (other (own_book mark true s tells refl))
other_book mark false s tells other = refl
