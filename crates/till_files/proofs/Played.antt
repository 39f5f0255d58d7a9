-- What the tables beside the journal are after a reply, or a settlement, was played.
use Rattle.sql_rows.proofs.Common.{◌≡◌, ◌≢◌, ◌∙◌, ◌+◌, ◌<◌, ◌≤◌, ◌==◌, ℕ, zero, suc, true, false, List, [], ◌∷◌, ◌++◌, map, filter, length, take, slice_get}
use Rattle.sql_rows.proofs.Common.{get_or, Option, Some, option_to_list, refl, sym, ap, subst, subst₂, arith, not, AllByRecursion, State, Differ}
use Rattle.std.specs.List.{list_any}
use Rattle.shop_model.specs.Rows.{numbered}
use Rattle.shop_model.specs.Answers.{Answer}
use Rattle.shop_model.proofs.RowLemmas.{differ_test}
use Rattle.shop_model.proofs.Resends.{same_some, same_none}
use Rattle.till_book.specs.Journal.{Journal, is_refused, settled_of}
use Rattle.till_book.specs.Statements.{DropsUnsure, Marks}
use Rattle.till_book.specs.Marking.{IsMarkOf, IsReplyMark}
use Rattle.till_book.specs.declared.marks.EntryMark.{EntryMark}
use Rattle.till_book.proofs.JournalTexts.{picked}
use Rattle.till_book.proofs.Puttings.{marks_reply, marks_settled}
use Rattle.till_files.specs.Playing.{journal_of, MarksTo, MarksReply, MarksReplies, MarksSettlement, MarksSettlements}

-- ---- one after another

pub marks_none : (it : Journal) (s : State) → MarksTo it it s s
marks_none it s has keyed = record { schema_is = has; keyed = keyed; entries = refl; replies = refl; settled = refl; marked = λ was. was }

pub marks_then : (a b c : Journal) (old mid new : State) → MarksTo a b old mid → MarksTo b c mid new → MarksTo a c old new
marks_then a b c old mid new first second has keyed =
    let one = first has keyed in
    let two = second one.schema_is one.keyed in
    record {
      schema_is = two.schema_is;
      keyed = two.keyed;
      entries = two.entries ∙ one.entries;
      replies = two.replies ∙ one.replies;
      settled = two.settled ∙ one.settled;
      marked = λ was. two.marked (one.marked was);
    }

longer : {A : Type 0} (xs : List A) (i : ℕ) (x : A) → slice_get xs i ≡ Some x → take (suc i) xs ≡ take i xs ++ x ∷ []
longer [] i x is = absurd (same_none x is)
longer (y ∷ xs) zero x is = ap (λ z. z ∷ []) (same_some y x is)
longer (y ∷ xs) (suc i) x is = ap (λ l. y ∷ l) (longer xs i x is)

one_longer : {A : Type 0} (xs : List A) (i : ℕ) (x : A) → slice_get xs i ≡ Some x → take (i + 1) xs ≡ take i xs ++ x ∷ []
one_longer xs i x is = let next : i + 1 ≡ suc i = omega arith in ap (λ (n : ℕ). take n xs) next ∙ longer xs i x is

pub length_mapped : {X Y : Type 0} (f : X → Y) (xs : List X) → length (map f xs) ≡ length xs
length_mapped f [] = refl
length_mapped f (x ∷ xs) = ap (λ n. suc n) (length_mapped f xs)

short : {A : Type 0} (xs : List A) (i : ℕ) (x : A) → slice_get xs i ≡ Some x → length (take i xs) ≡ i
short [] i x is = absurd (same_none x is)
short (y ∷ xs) zero x is = refl
short (y ∷ xs) (suc i) x is = ap (λ n. suc n) (short xs i x is)

pub whole_list : {A : Type 0} (xs : List A) (i : ℕ) → length xs ≤ i → take i xs ≡ xs
whole_list [] zero all = refl
whole_list [] (suc i) all = refl
whole_list (x ∷ xs) zero all = absurd (omega (arith, all))
whole_list (x ∷ xs) (suc i) all = ap (λ l. x ∷ l) (whole_list xs i (omega (arith, all)))

pub at_place : {X Y : Type 0} (f : X → Y) (xs : List X) (i : ℕ) (x : X) → i < length xs → x ≡ get_or xs i x → slice_get (map f xs) i ≡ Some (f x)
at_place f [] i x low is = absurd (omega (arith, low))
at_place f (y ∷ xs) zero x low is = ap (λ z. Some (f z)) (sym is)
at_place f (y ∷ xs) (suc i) x low is = at_place f xs i x (omega (arith, low)) is

-- ---- replies

pub reply_marked : (entries : List (List ℕ)) (at n : ℕ) (answer told : Answer) (request asked : List ℕ) (sign : EntryMark) (old new : State)
    → n ≡ at + 1 → slice_get entries at ≡ Some request
    → asked ≡ request → told ≡ answer → IsReplyMark asked told sign → Marks n sign old new → MarksReply entries at answer old new
reply_marked entries at n answer told request asked sign old new is there same_request same_answer said marks replies long has keyed =
    let is_mark : IsReplyMark request answer sign = subst₂ (λ (r : List ℕ) (a : Answer). IsReplyMark r a sign) same_request same_answer said in
    let done = marks has in
    let next : n ≡ length replies + 1 = omega (arith, is, long) in
    let here : slice_get entries (length replies) ≡ Some request = ap (λ (i : ℕ). slice_get entries i) long ∙ there in
    record {
      schema_is = done.schema_is;
      keyed = done.keyed keyed;
      entries = done.entries;
      replies = done.replies;
      settled = done.settled;
      marked = λ was. marks_reply n answer request sign old new (journal_of entries replies []) next here is_mark done was;
    }

pub one_reply : (entries : List (List ℕ)) (replies : List Answer) (i : ℕ) (answer : Answer) (old mid new : State) → slice_get replies i ≡ Some answer
    → MarksReplies entries (take i replies) old mid → MarksReply entries i answer mid new → MarksReplies entries (take (i + 1) replies) old new
one_reply entries replies i answer old mid new is before marks =
    subst (λ (rs : List Answer). MarksReplies entries rs old new) (sym (one_longer replies i answer is))
    (marks_then (journal_of entries [] []) (journal_of entries (take i replies) []) (journal_of entries (take i replies ++ answer ∷ []) []) old mid new before
    (marks (take i replies) (short replies i answer is)))

pub all_replies : (entries : List (List ℕ)) (replies : List Answer) (i : ℕ) (old new : State)
    → length replies ≤ i → MarksReplies entries (take i replies) old new → MarksReplies entries replies old new
all_replies entries replies i old new all marks = subst (λ (rs : List Answer). MarksReplies entries rs old new) (whole_list replies i all) marks

-- ---- settlements

is_refused_at : (replies : List Answer) (n i : ℕ) (reply : Answer) → n ≡ i + 1
    → slice_get replies i ≡ Some reply → reply.status ≢ 200 → is_refused replies n ≡ true
is_refused_at replies n i reply is there other =
    let place : n ≡ 1 + i = omega (arith, is) in
    let mine : filter (λ (it : ℕ × Answer). it.0 == n) (numbered replies) ≡ (n, reply) ∷ [] =
    picked n 1 i replies place ∙ ap (λ (o : Option Answer). map (λ (x : Answer). (n, x)) (option_to_list o)) there in
    ap (λ (l : List (ℕ × Answer)). list_any (λ (answer : Answer). not (answer.status == 200)) (map (λ (it : ℕ × Answer). it.1) l)) mine
    ∙ rw (differ_test reply.status 200 other) refl

pub settlement_marked :
    (entries : List (List ℕ)) (replies : List Answer) (it : ℕ × Answer) (told : Answer)
    (i : ℕ) (reply : Answer) (request asked : List ℕ) (sign : EntryMark) (old mid new : State)
    → it.0 ≡ i + 1 → slice_get replies i ≡ Some reply → reply.status ≢ 200 → slice_get entries i ≡ Some request → asked ≡ request → told ≡ it.1
    → IsMarkOf asked told false sign → DropsUnsure it.0 old mid → Marks it.0 sign mid new → MarksSettlement entries replies it old new
settlement_marked entries replies it told i reply request asked sign old mid new is replied
    other there same_request same_answer said drops marks settled unsettled has keyed =
    let is_mark : IsMarkOf request it.1 false sign = subst₂ (λ (r : List ℕ) (a : Answer). IsMarkOf r a false sign) same_request same_answer said in
    let dropped = drops has in
    let done = marks dropped.schema_is in
    let refusal = is_refused_at replies it.0 i reply is replied other in
    let found : (j : ℕ) → it.0 ≡ j + 1 → Some request ≡ slice_get entries j = λ j at.
    let same : i ≡ j = omega (arith, is, at) in
    sym there ∙ ap (λ (k : ℕ). slice_get entries k) same in
    record {
      schema_is = done.schema_is;
      keyed = done.keyed (dropped.keyed keyed);
      entries = done.entries ∙ dropped.others.0 (λ e. absurd (omega (arith, e)));
      replies = done.replies ∙ dropped.others.1.0 (λ e. absurd (omega (arith, e)));
      settled = done.settled ∙ dropped.others.1.1.0 (λ e. absurd (omega (arith, e)));
      marked =
          λ was. marks_settled it.0 it.1 request sign old mid new (journal_of entries replies settled) unsettled refusal found is_mark dropped keyed done was;
    }

-- the earlier ones have other numbers
none_earlier : (xs : List (ℕ × Answer)) (i : ℕ) (x : ℕ × Answer) → Differ (λ (it : ℕ × Answer). it.0) xs
    → slice_get xs i ≡ Some x → filter (λ (it : ℕ × Answer). it.0 == x.0) (take i xs) ≡ []
none_earlier [] i x apart is = absurd (same_none x is)
none_earlier (y ∷ xs) zero x apart is = refl
none_earlier (y ∷ xs) (suc i) x apart is = rw (differ_test y.0 x.0 (at_place xs i x apart.0 is)) (none_earlier xs i x apart.1 is)
  where
    at_place : (xs : List (ℕ × Answer)) (i : ℕ) (x : ℕ × Answer) → AllByRecursion (λ (z : ℕ × Answer). y.0 ≢ z.0) xs → slice_get xs i ≡ Some x → y.0 ≢ x.0
    at_place [] i x all is = absurd (same_none x is)
    at_place (z ∷ xs) zero x all is = subst (λ (it : ℕ × Answer). y.0 ≢ it.0) (same_some z x is) all.0
    at_place (z ∷ xs) (suc i) x all is = at_place xs i x all.1 is

-- so far, where no number comes twice in all of them
abbrev pub MarksSome : List (List ℕ) → List Answer → List (ℕ × Answer) → ℕ → State → State → Type 0
MarksSome entries replies settled i old new =
    Differ (λ (it : ℕ × Answer). it.0) settled → MarksTo (journal_of entries replies []) (journal_of entries replies (take i settled)) old new

pub one_settlement : (entries : List (List ℕ)) (replies : List Answer) (settled : List (ℕ × Answer)) (i : ℕ) (it : ℕ × Answer) (old mid new : State)
    → slice_get settled i ≡ Some it
    → MarksSome entries replies settled i old mid → MarksSettlement entries replies it mid new → MarksSome entries replies settled (i + 1) old new
one_settlement entries replies settled i it old mid new is before marks apart =
    let free : settled_of it.0 (take i settled) ≡ [] = ap (map (λ (x : ℕ × Answer). x.1)) (none_earlier settled i it apart is) in
    subst (λ (l : List (ℕ × Answer)). MarksTo (journal_of entries replies []) (journal_of entries replies l) old new) (sym (one_longer settled i it is))
    (marks_then (journal_of entries replies []) (journal_of entries replies (take i settled))
    (journal_of entries replies (take i settled ++ it ∷ [])) old mid new (before apart) (marks (take i settled) free))

pub all_settled : (entries : List (List ℕ)) (replies : List Answer) (settled : List (ℕ × Answer)) (i : ℕ) (old new : State) → length settled ≤ i
    → MarksSome entries replies settled i old new → MarksSettlements entries replies settled old new
all_settled entries replies settled i old new all before apart =
    subst (λ (l : List (ℕ × Answer)). MarksTo (journal_of entries replies []) (journal_of entries replies l) old new) (whole_list settled i all) (before apart)
