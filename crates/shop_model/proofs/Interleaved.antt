-- In which order different branches ask tells no branch anything, and their requests may change places.
use Rattle.shop_model.proofs.Common.{◌≡◌, inl, inr, ℕ, ◌+◌, List, [], ◌∷◌, ◌++◌, length, filter, map, Bool, true, false, not, Option, Some, None, refl, sym, ap}
use Rattle.shop_model.proofs.Common.{ap₂, subst, ◌∙◌, append-nil, ◌==◌, ◌&&◌, flat_map, list_all, cases_Bool, and_parts, not-true, true≢false, false≢true, ⊤}
use Rattle.shop_model.proofs.Common.{at, films_at, Arrival, Catalogue, Shop, reply_by, filter-append, map-append, arrived, Row, is_of, is_row, update_where}
use Rattle.shop_model.proofs.Common.{Act, Dispatch, Receive, Command, Rules, verdict, Verdict, Again, Refused, Accepted, reply_text, State, Request, Do}
use Rattle.shop_model.proofs.Common.{reply_to, if_accepted, Books, BookCopy, Consignment, CopyRows, shop_of, state_of, book_acted, book_done, branch_after}
use Rattle.shop_model.proofs.Common.{is_consignment, checked, new_consignment, under_way, rows_at, between, HasNumbers}
use Rattle.shop_model.specs.Interleaved.{OrderIsWithinViews, HasSameRows, placeless, sent_by, AreAlike, sends_to, receives_from, reaches, is_awaited}
use Rattle.shop_model.specs.Interleaved.{BranchesCommute}
use Rattle.shop_model.specs.Machine.{replies, state_after, Input}
use Rattle.shop_model.proofs.RowLemmas.{same_if, same_test, differ_if, differ_test, turned, one_more, length_map, filter_map, filter_filter}
use Rattle.shop_model.proofs.ShopLemmas.{with_arrivals, done_other}
use Rattle.shop_model.proofs.SameStates.{by_verdict}
use Rattle.shop_model.proofs.Accepted.{catalogue_stays}
use Rattle.shop_model.proofs.Isolation.{alone}
use Rattle.shop_model.proofs.Arrivals.{FindsSame, verdict_same, text_same}
use Rattle.shop_model.proofs.Alike.{filter_update, update_away, filter_swap, apart as row_apart, same_itself, same_back, same_through, ComesSame, done_same}
use Rattle.shop_model.proofs.Alike.{done_away}

-- ---- views

pub within_views : OrderIsWithinViews
within_views rules look events events' books b has same =
    let one = alone rules look events books b has in
    let other = alone rules look events' books b has in
    record {
      replies = one.replies ∙ ap (λ (inputs : List Input). replies rules b inputs (state_of b books)) same ∙ sym other.replies;
      state = one.state ∙ ap (λ (inputs : List Input). state_after rules b inputs (state_of b books)) same ∙ sym other.state;
    }

-- ---- consignments, by what an act does to them

-- which consignment an act receives
abbrev pub receipt : Act → Option (ℕ × ℕ × List ℕ)
receipt (Receive source number missing) = Some (source, number, missing)
receipt act = None

-- which one it sends
abbrev pub news : ℕ → Act → Books → List Consignment
news c (Dispatch to xs) books = new_consignment c to xs books ∷ []
news c act books = []

abbrev pub sends_by : ℕ → ℕ → Option (ℕ × ℕ × List ℕ) → List Consignment → List Consignment → List Consignment
sends_by s c (Some it) new cs = update_where (is_consignment it.0 c it.1) (checked it.2) cs
sends_by s c None new cs = cs ++ filter (λ (it : Consignment). it.source == s) new

map_update : {A : Type 0} (g : A → A) (q : A → Bool) (f : A → A) (xs : List A) → ((x : A) → g (f x) ≡ f (g x))
    → ((x : A) → q (g x) ≡ q x) → map g (update_where q f xs) ≡ update_where q f (map g xs)
map_update g q f [] through tests = refl
map_update g q f (x ∷ xs) through tests = elim (cases_Bool (q x)) [
  | inl hit ↦ rw (tests x, hit, through x) (ap (λ rest. f (g x) ∷ rest) (map_update g q f xs through tests))
  | inr miss ↦ rw (tests x, miss) (ap (λ rest. g x ∷ rest) (map_update g q f xs through tests))
]

pub sends_acted : (rules : Rules) (s c : ℕ) (command : Command) (act : Act) (books : Books)
    → sent_by s (book_acted rules c command act books) ≡ sends_by s c (receipt act) (map placeless (news c act books)) (sent_by s books)
sends_acted rules s c command (Dispatch to xs) books =
    let p : Consignment → Bool = λ it. it.source == s in
    let new = new_consignment c to xs books in
    ap (map placeless) (filter-append p books.consignments (new ∷ [])) ∙ map-append placeless (filter p books.consignments) (filter p (new ∷ []))
    ∙ ap (λ (rest : List Consignment). sent_by s books ++ rest) (sym (filter_map p placeless (new ∷ [])))
sends_acted rules s c command (Receive source number missing) books =
    let p : Consignment → Bool = λ it. it.source == s in
    let q = is_consignment source c number in
    ap (map placeless) (filter_update p q (checked missing) books.consignments (λ x. refl))
    ∙ map_update placeless q (checked missing) (filter p books.consignments) (λ x. refl) (λ x. refl)
sends_acted rules s c command act books = sym (append-nil (sent_by s books))

-- one act sends the branch a consignment, and the other receives one of the first branch
abbrev crosses : ℕ → ℕ → Act → Act → Bool
crosses c d k l = sends_to d k && receives_from c l

-- none is what the other branch's act receives
abbrev Misses : ℕ → Option (ℕ × ℕ × List ℕ) → List Consignment → Type 0
Misses d (Some it) new = list_all (λ (c : Consignment). not (is_consignment it.0 d it.1 c)) new ≡ true
Misses d None new = ⊤

abbrev comes_of : ℕ → Consignment → Bool
comes_of c it = it.source == c

-- what an act sends comes of its branch, and is missed by what doesn't receive it
news_of : (c : ℕ) (act : Act) (books : Books) → list_all (comes_of c) (map placeless (news c act books)) ≡ true
news_of c (Dispatch to xs) books = rw (same_test c) refl
news_of c act books = refl

-- of three tests
second : (x y z : Bool) → (x && y && z) ≡ true → y ≡ true
second true y z e = (and_parts y z e).0
second false y z e = absurd (false≢true e)

missed : (x y z : Bool) → y ≡ false → (x && y && z) ≡ false
missed true y z e = rw e refl
missed false y z e = refl

not_three : (x y z : Bool) → (y && x) ≡ false → (x && y && z) ≡ false
not_three true true z e = absurd (true≢false e)
not_three true false z e = refl
not_three false y z e = refl

misses : (c d : ℕ) (k l : Act) (books : Books) → crosses c d k l ≡ false → Misses d (receipt l) (map placeless (news c k books))
misses c d (Dispatch to xs) (Receive source number missing) books apart =
    let n = length (between c to books.consignments) + 1 in
    let back : ((to == d) && (c == source)) ≡ false = ap (λ (test : Bool). (to == d) && test) (turned c source) ∙ apart in
    rw (not_three (c == source) (to == d) (n == number) back) refl
misses c d k (Receive source number missing) books apart = refl
misses c d k l books apart = tt

none_from : (s c : ℕ) (new : List Consignment) → list_all (comes_of c) new ≡ true → (c == s) ≡ false → filter (λ (it : Consignment). it.source == s) new ≡ []
none_from s c [] all differ = refl
none_from s c (it ∷ new) all differ =
    let h = and_parts (comes_of c it) (list_all (comes_of c) new) all in
    let other : (it.source == s) ≡ false = differ_test it.source s (λ e. differ_if c s differ (sym (same_if it.source c h.0) ∙ e)) in
    rw other (none_from s c new h.1 differ)

-- what is missed stays
not_found : (s : ℕ) (q : Consignment → Bool) (f : Consignment → Consignment) (new : List Consignment) → list_all (λ (it : Consignment). not (q it)) new ≡ true
    → update_where q f (filter (λ (it : Consignment). it.source == s) new) ≡ filter (λ (it : Consignment). it.source == s) new
not_found s q f [] all = refl
not_found s q f (it ∷ new) all =
    let h = and_parts (not (q it)) (list_all (λ (it : Consignment). not (q it)) new) all in
    let miss = not-true (q it) h.0 in
    elim (cases_Bool (it.source == s)) [
      | inl is ↦ rw (is, miss) (ap (λ rest. it ∷ rest) (not_found s q f new h.1))
      | inr isnt ↦ rw isnt (not_found s q f new h.1)
    ]

-- two receipts by different branches are of different consignments
both_update : (c d s m t n : ℕ) (missing others : List ℕ) (cs : List Consignment) → (c == d) ≡ false
    → update_where (is_consignment t d n) (checked others) (update_where (is_consignment s c m) (checked missing) cs)
    ≡ update_where (is_consignment s c m) (checked missing) (update_where (is_consignment t d n) (checked others) cs)
both_update c d s m t n missing others [] differ = refl
both_update c d s m t n missing others (it ∷ cs) differ =
    let more = both_update c d s m t n missing others cs differ in
    elim (cases_Bool (is_consignment s c m it)) [
      | inl mine ↦
          let to : (it.addressee == c) ≡ true = second (it.source == s) (it.addressee == c) (it.number == m) mine in
          let other : is_consignment t d n it ≡ false = missed (it.source == t) (it.addressee == d) (it.number == n)
          (differ_test it.addressee d (λ e. differ_if c d differ (sym (same_if it.addressee c to) ∙ e))) in
          rw (mine, other, mine) (ap (λ rest. checked missing it ∷ rest) more)
      | inr isnt ↦ elim (cases_Bool (is_consignment t d n it)) [
        | inl theirs ↦ rw (isnt, theirs, isnt) (ap (λ rest. checked others it ∷ rest) more)
        | inr neither ↦ rw (isnt, neither, isnt) (ap (λ rest. it ∷ rest) more)
      ]
    ]

-- what two branches send and receive may change places
sends_commute : (s c d : ℕ) (k l : Option (ℕ × ℕ × List ℕ)) (newk newl cs : List Consignment)
    → (c == d) ≡ false → list_all (comes_of c) newk ≡ true → list_all (comes_of d) newl ≡ true
    → Misses d l newk → Misses c k newl → sends_by s d l newl (sends_by s c k newk cs) ≡ sends_by s c k newk (sends_by s d l newl cs)
sends_commute s c d (Some k) (Some l) newk newl cs differ ofk ofl missk missl = both_update c d k.0 k.1 l.0 l.1 k.2 l.2 cs differ
sends_commute s c d (Some k) None newk newl cs differ ofk ofl missk missl =
    let test = is_consignment k.0 c k.1 in
    let more = filter (λ (it : Consignment). it.source == s) newl in
    sym (map-append _ cs more ∙ ap (λ (rest : List Consignment). update_where test (checked k.2) cs ++ rest) (not_found s test (checked k.2) newl missl))
sends_commute s c d None (Some l) newk newl cs differ ofk ofl missk missl =
    let test = is_consignment l.0 d l.1 in
    let more = filter (λ (it : Consignment). it.source == s) newk in
    map-append _ cs more ∙ ap (λ (rest : List Consignment). update_where test (checked l.2) cs ++ rest) (not_found s test (checked l.2) newk missk)
sends_commute s c d None None newk newl cs differ ofk ofl missk missl = elim (cases_Bool (c == s)) [
  | inl is ↦
      let other : (d == s) ≡ false = differ_test d s (λ e. differ_if c d differ (same_if c s is ∙ sym e)) in
      let sent = filter (λ (it : Consignment). it.source == s) newk in
      rw (none_from s d newl ofl other) (append-nil (cs ++ sent) ∙ ap (λ (rest : List Consignment). rest ++ sent) (sym (append-nil cs)))
  | inr isnt ↦
      let sent = filter (λ (it : Consignment). it.source == s) newl in
      rw (none_from s c newk ofk isnt) (ap (λ (rest : List Consignment). rest ++ sent) (append-nil cs) ∙ sym (append-nil (cs ++ sent)))
]

-- ---- what another branch's command leaves

-- the branch's arrivals may differ, but its own act finds the same in them
finds_away : (c d : ℕ) (k l : Act) (books : Books) → crosses d c l k ≡ false → FindsSame k (shop_of c books) (with_arrivals c d l books).arrivals
finds_away c d (Receive source number missing) (Dispatch to xs) books apart = elim (cases_Bool (to == c)) [
  | inr isnt ↦ rw isnt refl
  | inl is ↦
      let other : (d == source) ≡ false = turned d source ∙ rw is at apart in
      let new : Arrival = record { source = d; films = films_at xs (shop_of d books).copies; received = false } in
      rw is (ap (at number) (sym (one_more (λ (it : Arrival). it.source == source) (shop_of c books).arrivals new ∙ rw other refl)))
]
finds_away c d (Receive source number missing) l books apart = refl
finds_away c d k l books apart = tt

arrivals_alone : (c d : ℕ) (act : Act) (books : Books)
    → with_arrivals c d act books ≡ record (shop_of c books) { arrivals = (with_arrivals c d act books).arrivals }
arrivals_alone c d (Dispatch to xs) books = elim (cases_Bool (to == c)) [ inl is ↦ rw is refl | inr isnt ↦ rw isnt refl ]
arrivals_alone c d act books = refl

-- what a command reads of its shop
module _ (rules : Rules) (c d : ℕ) (k l : Command) (books : Books) (has : HasNumbers books)
    (differ : (d == c) ≡ false) (apart : crosses d c l.act k.act ≡ false) where
  abbrev arrivals_now : List Arrival
  arrivals_now = (with_arrivals c d l.act books).arrivals

  shop_now : shop_of c (book_done rules d l books) ≡ record (shop_of c books) { arrivals = arrivals_now }
  shop_now = done_other rules c d l books has differ ∙ arrivals_alone c d l.act books

  text_away : reply_text rules k (shop_of c (book_done rules d l books)) ≡ reply_text rules k (shop_of c books)
  text_away = ap (reply_text rules k) shop_now ∙ sym (text_same rules k.act (shop_of c books) arrivals_now (finds_away c d k.act l.act books apart))

  verdict_away : verdict rules c (book_done rules d l books).catalogue (shop_of c (book_done rules d l books)) k
      ≡ verdict rules c books.catalogue (shop_of c books) k
  verdict_away =
      ap₂ (λ (catalogue : Catalogue) (shop : Shop). verdict rules c catalogue shop k) (catalogue_stays rules d l l.act books) shop_now
      ∙ sym (verdict_same rules c books.catalogue k (shop_of c books) arrivals_now (finds_away c d k.act l.act books apart))

no_arrivals : (b c : ℕ) (act : Act) (books : Books) → sends_to b act ≡ false → with_arrivals b c act books ≡ shop_of b books
no_arrivals b c (Dispatch to xs) books other = rw other refl
no_arrivals b c act books other = refl

-- a request that another branch's doesn't reach
away_state : (rules : Rules) (b c : ℕ) (request : Request) (books : Books) → HasNumbers books → (c == b) ≡ false
    → reaches b request ≡ false → state_of b (branch_after rules c request books) ≡ state_of b books
away_state rules b c (Do command) books has differ other =
    by_verdict (λ (it : Books). state_of b it ≡ state_of b books)
    (verdict rules c books.catalogue (shop_of c books) command) (book_done rules c command books) books
    (λ _.
    λ i.
    record {
      catalogue = catalogue_stays rules c command command.act books i;
      shop = (done_other rules b c command books has differ ∙ no_arrivals b c command.act books other) i;
    })
    refl
away_state rules b c request books has differ other = refl

-- what an act receives stays
found_away : (rules : Rules) (c d : ℕ) (k : Act) (l : Command) (act : Act) (books : Books) → (d == c) ≡ false
    → crosses d c act k ≡ false → ComesSame c k (book_acted rules d l act books).consignments books.consignments
found_away rules c d (Receive source number missing) l (Dispatch to xs) books differ apart =
    let new = new_consignment d to xs books in
    let back : ((to == c) && (d == source)) ≡ false = ap (λ (test : Bool). (to == c) && test) (turned d source) ∙ apart in
    let stays : filter (is_consignment source c number) (books.consignments ++ new ∷ []) ≡ filter (is_consignment source c number) books.consignments =
    one_more (is_consignment source c number) books.consignments new ∙ rw (not_three (d == source) (to == c) (new.number == number) back) refl in
    ap (flat_map (λ (it : Consignment). arrived missing it.lines)) stays
found_away rules c d (Receive source number missing) l (Receive s n others) books differ apart =
    ap (flat_map (λ (it : Consignment). arrived missing it.lines))
    (update_away (is_consignment source c number) (is_consignment s d n) (checked others) books.consignments (λ x. refl)
    (λ x is.
    missed (x.source == s) (x.addressee == d) (x.number == n)
    (row_apart c d x.addressee differ (second (x.source == source) (x.addressee == c) (x.number == number) is))))
found_away rules c d (Receive source number missing) l act books differ apart = refl
found_away rules c d k l act books differ apart = tt

-- how many a branch sent to one addressee
count_away : (rules : Rules) (c d to : ℕ) (command : Command) (act : Act) (books : Books) → (d == c) ≡ false
    → length (between c to (book_acted rules d command act books).consignments) ≡ length (between c to books.consignments)
count_away rules c d to command (Dispatch other xs) books differ =
    ap length (one_more (λ (it : Consignment). it.source == c && it.addressee == to) books.consignments (new_consignment d other xs books) ∙ rw differ refl)
count_away rules c d to command (Receive s n missing) books differ =
    let p : Consignment → Bool = λ it. it.source == c && it.addressee == to in
    ap length (filter_update p (is_consignment s d n) (checked missing) books.consignments (λ x. refl)) ∙ length_map _ (filter p books.consignments)
count_away rules c d to command act books differ = refl

-- ---- what an act sends, by the rows of its branch

row_filter : (c x : ℕ) (rows : List (Row BookCopy)) → filter (is_row c x) rows ≡ filter (λ (row : Row BookCopy). row.number == x) (filter (is_of c) rows)
row_filter c x rows =
    sym (filter_filter (is_of c) (λ (row : Row BookCopy). row.number == x) rows) ∙ filter_swap (is_of c) (λ (row : Row BookCopy). row.number == x) rows

rows_same : (c : ℕ) (xs : List ℕ) (one other : List (Row BookCopy)) → filter (is_of c) one ≡ filter (is_of c) other → rows_at c xs one ≡ rows_at c xs other
rows_same c [] one other own = refl
rows_same c (x ∷ xs) one other own =
    ap₂ (λ (these rest : List (Row BookCopy)). these ++ rest)
    (row_filter c x one ∙ ap (filter (λ (row : Row BookCopy). row.number == x)) own ∙ sym (row_filter c x other)) (rows_same c xs one other own)

pub news_same : (c : ℕ) (act : Act) (one other : Books) → HasSameRows c one other
    → ((to : ℕ) → length (between c to one.consignments) ≡ length (between c to other.consignments))
    → map placeless (news c act one) ≡ map placeless (news c act other)
news_same c (Dispatch to xs) one other own counts =
    let lines = ap (map (λ (row : Row BookCopy). under_way row.it)) (rows_same c xs one.copies other.copies (own.rows CopyRows)) in
    λ i. record { source = c; addressee = to; number = counts to i + 1; place = 0; received = false; lines = lines i } ∷ []
news_same c act one other own counts = refl

-- ---- two commands change places

pub itself : (books : Books) → AreAlike books books
itself books = record { catalogue = refl; rows = λ b. same_itself b books; sent = λ b. refl }

both_done : (rules : Rules) (c d : ℕ) (k l : Command) (books : Books) → HasNumbers books
    → (c == d) ≡ false → crosses c d k.act l.act ≡ false → crosses d c l.act k.act ≡ false
    → AreAlike (book_done rules d l (book_done rules c k books)) (book_done rules c k (book_done rules d l books))
both_done rules c d k l books has differ notk notl =
    let back : (d == c) ≡ false = turned d c ∙ differ in
    let x = book_done rules c k books in
    let y = book_done rules d l books in
    let xs : x.catalogue ≡ books.catalogue = catalogue_stays rules c k k.act books in
    let ys : y.catalogue ≡ books.catalogue = catalogue_stays rules d l l.act books in
    let mine : HasSameRows c y books = done_away rules c d l books back in
    let theirs : HasSameRows d x books = done_away rules d c k books differ in
    let k_again : HasSameRows c (book_done rules c k y) x =
    done_same rules c c k y books ys mine mine (found_away rules c d k.act l l.act books back notl) (text_away rules c d k l books has back notl) in
    let l_again : HasSameRows d (book_done rules d l x) y =
    done_same rules d d l x books xs theirs theirs (found_away rules d c l.act k k.act books differ notk) (text_away rules d c l k books has differ notk) in
    record {
      catalogue = catalogue_stays rules d l l.act x ∙ xs ∙ sym (catalogue_stays rules c k k.act y ∙ ys);
      rows = λ b. elim (cases_Bool (c == b)) [
        | inl is ↦
            of_first (same_if c b is)
            (same_through c (book_done rules d l x) x (book_done rules c k y) (done_away rules c d l x back) (same_back c (book_done rules c k y) x k_again))
        | inr isnt ↦ elim (cases_Bool (d == b)) [
          | inl is ↦
              of_first (same_if d b is)
              (same_through d (book_done rules d l x) y (book_done rules c k y) l_again
              (same_back d (book_done rules c k y) y (done_away rules d c k y differ)))
          | inr other ↦
              same_through b (book_done rules d l x) x (book_done rules c k y) (done_away rules b d l x other)
              (same_through b x books (book_done rules c k y) (done_away rules b c k books isnt)
              (same_through b books y (book_done rules c k y) (same_back b y books (done_away rules b d l books other))
              (same_back b (book_done rules c k y) y (done_away rules b c k y isnt))))
        ]
      ];
      sent = λ s.
          let newk = map placeless (news c k.act books) in
          let newl = map placeless (news d l.act books) in
          let one : sent_by s x ≡ sends_by s c (receipt k.act) newk (sent_by s books) = sends_acted rules s c k k.act books in
          let other : sent_by s y ≡ sends_by s d (receipt l.act) newl (sent_by s books) = sends_acted rules s d l l.act books in
          let still_k : map placeless (news c k.act y) ≡ newk = news_same c k.act y books mine (λ to. count_away rules c d to l l.act books back) in
          let still_l : map placeless (news d l.act x) ≡ newl = news_same d l.act x books theirs (λ to. count_away rules d c to k k.act books differ) in
          sends_acted rules s d l l.act x ∙ ap₂ (sends_by s d (receipt l.act)) still_l one
          ∙ sends_commute s c d (receipt k.act) (receipt l.act) newk newl (sent_by s books) differ (news_of c k.act books) (news_of d l.act books)
          (misses c d k.act l.act books notk) (misses d c l.act k.act books notl)
          ∙ sym (sends_acted rules s c k k.act y ∙ ap₂ (sends_by s c (receipt k.act)) still_k other);
    }
  where
    of_first : {one other : Books} {c b : ℕ} → c ≡ b → HasSameRows c one other → HasSameRows b one other
    of_first {one = one} {other = other} e h = subst (λ (n : ℕ). HasSameRows n one other) e h

chosen : (rules : Rules) (c d : ℕ) (k l : Command) (books : Books) (v w : Verdict)
    → AreAlike (book_done rules d l (book_done rules c k books)) (book_done rules c k (book_done rules d l books))
    → AreAlike (if_accepted w (book_done rules d l (if_accepted v (book_done rules c k books) books)) (if_accepted v (book_done rules c k books) books))
    (if_accepted v (book_done rules c k (if_accepted w (book_done rules d l books) books)) (if_accepted w (book_done rules d l books) books))
chosen rules c d k l books Accepted Accepted both = both
chosen rules c d k l books Accepted (Again text) both = itself (book_done rules c k books)
chosen rules c d k l books Accepted (Refused refusal) both = itself (book_done rules c k books)
chosen rules c d k l books (Again text) w both = itself (if_accepted w (book_done rules d l books) books)
chosen rules c d k l books (Refused refusal) w both = itself (if_accepted w (book_done rules d l books) books)

after_both : (rules : Rules) (c d : ℕ) (one other : Request) (books : Books) → HasNumbers books
    → (c == d) ≡ false → is_awaited c d one other ≡ false → is_awaited d c other one ≡ false
    → AreAlike (branch_after rules d other (branch_after rules c one books)) (branch_after rules c one (branch_after rules d other books))
after_both rules c d (Do k) (Do l) books has differ notk notl =
    let back : (d == c) ≡ false = turned d c ∙ differ in
    let v = verdict rules c books.catalogue (shop_of c books) k in
    let w = verdict rules d books.catalogue (shop_of d books) l in
    let x = branch_after rules c (Do k) books in
    let y = branch_after rules d (Do l) books in
    let vs : v ≡ verdict rules c y.catalogue (shop_of c y) k =
    by_verdict (λ (it : Books). v ≡ verdict rules c it.catalogue (shop_of c it) k) w
    (book_done rules d l books) books (λ _. sym (verdict_away rules c d k l books has back notl)) refl in
    let ws : w ≡ verdict rules d x.catalogue (shop_of d x) l =
    by_verdict (λ (it : Books). w ≡ verdict rules d it.catalogue (shop_of d it) l) v
    (book_done rules c k books) books (λ _. sym (verdict_away rules d c l k books has differ notk)) refl in
    subst (λ (now : Verdict).
    AreAlike (if_accepted now (book_done rules d l x) x) (if_accepted (verdict rules c y.catalogue (shop_of c y) k) (book_done rules c k y) y))
    ws
    (subst (λ (now : Verdict). AreAlike (if_accepted w (book_done rules d l x) x) (if_accepted now (book_done rules c k y) y)) vs
    (chosen rules c d k l books v w (both_done rules c d k l books has differ notk notl)))
after_both rules c d (Do k) other books has differ notk notl = itself (branch_after rules c (Do k) books)
after_both rules c d one other books has differ notk notl = itself (branch_after rules d other books)

and_true : (a : Bool) → (a && true) ≡ false → a ≡ false
and_true true e = e
and_true false e = refl

-- a branch's request is answered as before
told_away : (rules : Rules) (c d : ℕ) (one other : Request) (books : Books) → HasNumbers books → (d == c) ≡ false → is_awaited d c other one ≡ false
    → reply_to rules c (branch_after rules d other books).catalogue (shop_of c (branch_after rules d other books)) one
    ≡ reply_to rules c books.catalogue (shop_of c books) one
told_away rules c d (Do k) (Do l) books has differ apart =
    by_verdict (λ (it : Books). reply_to rules c it.catalogue (shop_of c it) (Do k) ≡ reply_to rules c books.catalogue (shop_of c books) (Do k))
    (verdict rules d books.catalogue (shop_of d books) l) (book_done rules d l books) books
    (λ _. ap₂ reply_by (verdict_away rules c d k l books has differ apart) (text_away rules c d k l books has differ apart)) refl
told_away rules c d (Do k) other books has differ apart = refl
told_away rules c d one other books has differ apart =
    ap (λ (s : State). reply_to rules c s.catalogue s.shop one) (away_state rules c d other books has differ (and_true (reaches c other) apart))

pub commute : BranchesCommute
commute rules look c d one other books has differ notk notl =
    let back : (d == c) ≡ false = turned d c ∙ differ in
    record {
      first = told_away rules c d one other books has back notl;
      second = told_away rules d c other one books has differ notk;
      leaves = after_both rules c d one other books has differ notk notl;
    }
