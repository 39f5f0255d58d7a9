-- Each step keeps that every mark was made, with its film.
use Rattle.shop_model.proofs.Common.{◌≡◌, inl, inr, ℕ, ◌+◌, List, [], ◌∷◌, ◌++◌, filter, map, Bool, true, refl, sym, ap, ◌∙◌, append-nil, ◌&&◌, flat_map}
use Rattle.shop_model.proofs.Common.{list_any, list_all, or-true, cases_Bool, and_parts, arrived, Row, update_where, is_row, next, put_all, set_row, set_rows}
use Rattle.shop_model.proofs.Common.{numbered_from, CopyState, Sent, Scrapped, Act, Import, Dispatch, Receive, Scrap, Command, Rules, films_in, Books, BookCopy}
use Rattle.shop_model.proofs.Common.{Mark, Line, Consignment, book_acted, is_consignment, imported, unpacked, put_state, rows_at, under_way, checked}
use Rattle.shop_model.proofs.Common.{checked_line, come, new_consignment, is_made_as, all_lines, HasOrigins, list_any-append}
use Rattle.std.proofs.lemmas.List.Concat.{flat_map-append}
use Rattle.std.proofs.lemmas.List.Folds.{list_all-append}
use Rattle.shop_model.specs.Rows.{put}
use Rattle.shop_model.proofs.RowLemmas.{same_test}
use Rattle.shop_model.proofs.GoodShops.{all_weaker}
use Rattle.shop_model.proofs.LinkLemmas.{all_arrived}

any_left : {A : Type 0} (p : A → Bool) (xs ys : List A) → list_any p xs ≡ true → list_any p (xs ++ ys) ≡ true
any_left p xs ys some = rw (list_any-append p xs ys, some)

any_last : {A : Type 0} (p : A → Bool) (xs : List A) (x : A) → p x ≡ true → list_any p (xs ++ x ∷ []) ≡ true
any_last p xs x is = rw (list_any-append p xs (x ∷ []), is) (or-true (list_any p xs))

pub all_append : {A : Type 0} (p : A → Bool) (xs ys : List A) → list_all p xs ≡ true → list_all p ys ≡ true → list_all p (xs ++ ys) ≡ true
all_append p xs ys a c = rw (list_all-append p xs ys, a) c

pub all_parts : {A : Type 0} (p : A → Bool) (xs ys : List A) → list_all p (xs ++ ys) ≡ true → (list_all p xs ≡ true) × (list_all p ys ≡ true)
all_parts p xs ys a = and_parts (list_all p xs) (list_all p ys) (sym (list_all-append p xs ys) ∙ a)

pub all_filter : {A : Type 0} (p q : A → Bool) (xs : List A) → list_all p xs ≡ true → list_all p (filter q xs) ≡ true
all_filter p q [] all = refl
all_filter p q (x ∷ xs) all = let h = and_parts (p x) (list_all p xs) all in elim (cases_Bool (q x)) [
  | inl is ↦ rw (is, h.0) (all_filter p q xs h.1)
  | inr isnt ↦ rw isnt (all_filter p q xs h.1)
]

-- ---- rows

abbrev made_row : List (Row BookCopy) → Row BookCopy → Bool
made_row copies row = is_made_as copies row.it.film row.it.mark

abbrev made_line : List (Row BookCopy) → Line → Bool
made_line copies line = is_made_as copies line.film line.mark

-- a row more, with a mark that was made
one_put : (rows : List (Row BookCopy)) (row : Row BookCopy) → list_all (made_row rows) rows ≡ true
    → is_made_as (rows ++ row ∷ []) row.it.film row.it.mark ≡ true → list_all (made_row (rows ++ row ∷ [])) (rows ++ row ∷ []) ≡ true
one_put rows row all is =
    all_append (made_row (rows ++ row ∷ [])) rows (row ∷ [])
    (all_weaker (made_row rows) (made_row (rows ++ row ∷ [])) rows (λ x h. any_left _ rows (row ∷ []) h) all) (rw is)

imported_rows : (b : ℕ) (films : List ℕ) (rows : List (Row BookCopy)) → list_all (made_row rows) rows ≡ true
    → list_all (made_row (put_all b (map (imported b) films) rows)) (put_all b (map (imported b) films) rows) ≡ true
imported_rows b [] rows all = all
imported_rows b (film ∷ films) rows all =
    let n = next b rows in
    imported_rows b films (put b (imported b film) rows)
    (one_put rows (record { branch = b; number = n; it = imported b film n }) all
    (any_last _ rows (record { branch = b; number = n; it = imported b film n }) (rw (same_test b, same_test n, same_test film))))

put_lines : (b : ℕ) (makes : List (ℕ → BookCopy)) (rows : List (Row BookCopy)) (lines : List Line)
    → list_all (made_line rows) lines ≡ true → list_all (made_line (put_all b makes rows)) lines ≡ true
put_lines b [] rows lines all = all
put_lines b (make ∷ makes) rows lines all =
    put_lines b makes (put b make rows) lines (all_weaker (made_line rows) (made_line (put b make rows)) lines (λ x h. any_left _ rows _ h) all)

unpacked_rows : (b : ℕ) (lines : List Line) (rows : List (Row BookCopy)) → list_all (made_row rows) rows ≡ true
    → list_all (made_line rows) lines ≡ true → list_all (made_row (put_all b (map unpacked lines) rows)) (put_all b (map unpacked lines) rows) ≡ true
unpacked_rows b [] rows all old = all
unpacked_rows b (line ∷ lines) rows all old =
    let h = and_parts (made_line rows line) (list_all (made_line rows) lines) old in
    let row : Row BookCopy = record { branch = b; number = next b rows; it = unpacked line (next b rows) } in
    unpacked_rows b lines (put b (unpacked line) rows) (one_put rows row all (any_left _ rows (row ∷ []) h.0))
    (all_weaker (made_line rows) (made_line (put b (unpacked line) rows)) lines (λ x g. any_left _ rows (row ∷ []) g) h.1)

-- a state isn't read
state_origins : (b n : ℕ) (state : CopyState) (rows : List (Row BookCopy)) (film : ℕ) (mark : Mark)
    → is_made_as (set_row b n (put_state state) rows) film mark ≡ is_made_as rows film mark
state_origins b n state [] film mark = refl
state_origins b n state (row ∷ rows) film mark = elim (cases_Bool (is_row b n row)) [
  | inl is ↦ rw (is, state_origins b n state rows film mark)
  | inr isnt ↦ rw (isnt, state_origins b n state rows film mark)
]

state_all : (p : ℕ → Mark → Bool) (b n : ℕ) (state : CopyState) (rows : List (Row BookCopy))
    → list_all (λ (row : Row BookCopy). p row.it.film row.it.mark) rows ≡ true
    → list_all (λ (row : Row BookCopy). p row.it.film row.it.mark) (set_row b n (put_state state) rows) ≡ true
state_all p b n state [] all = refl
state_all p b n state (row ∷ rows) all = let h = and_parts (p row.it.film row.it.mark) _ all in elim (cases_Bool (is_row b n row)) [
  | inl is ↦ rw (is, h.0) (state_all p b n state rows h.1)
  | inr isnt ↦ rw (isnt, h.0) (state_all p b n state rows h.1)
]

state_rows : (b n : ℕ) (state : CopyState) (rows : List (Row BookCopy)) → list_all (made_row rows) rows ≡ true
    → list_all (made_row (set_row b n (put_state state) rows)) (set_row b n (put_state state) rows) ≡ true
state_rows b n state rows all =
    state_all (is_made_as (set_row b n (put_state state) rows)) b n state rows
    (all_weaker (made_row rows) (made_row (set_row b n (put_state state) rows)) rows (λ x h. state_origins b n state rows x.it.film x.it.mark ∙ h) all)

state_lines : (b n : ℕ) (state : CopyState) (rows : List (Row BookCopy)) (lines : List Line)
    → list_all (made_line rows) lines ≡ true → list_all (made_line (set_row b n (put_state state) rows)) lines ≡ true
state_lines b n state rows lines all =
    all_weaker (made_line rows) (made_line (set_row b n (put_state state) rows)) lines (λ x h. state_origins b n state rows x.film x.mark ∙ h) all

states_rows : (b : ℕ) (ns : List ℕ) (state : CopyState) (rows : List (Row BookCopy)) → list_all (made_row rows) rows ≡ true
    → list_all (made_row (set_rows b ns (put_state state) rows)) (set_rows b ns (put_state state) rows) ≡ true
states_rows b [] state rows all = all
states_rows b (n ∷ ns) state rows all = states_rows b ns state (set_row b n (put_state state) rows) (state_rows b n state rows all)

states_lines : (b : ℕ) (ns : List ℕ) (state : CopyState) (rows : List (Row BookCopy)) (lines : List Line)
    → list_all (made_line rows) lines ≡ true → list_all (made_line (set_rows b ns (put_state state) rows)) lines ≡ true
states_lines b [] state rows lines all = all
states_lines b (n ∷ ns) state rows lines all = states_lines b ns state (set_row b n (put_state state) rows) lines (state_lines b n state rows lines all)

-- ---- lines

sent_lines : (b : ℕ) (xs : List ℕ) (p : ℕ → Mark → Bool) (rows : List (Row BookCopy)) → list_all (λ (row : Row BookCopy). p row.it.film row.it.mark) rows ≡ true
    → list_all (λ (line : Line). p line.film line.mark) (map (λ row. under_way row.it) (rows_at b xs rows)) ≡ true
sent_lines b [] p rows all = refl
sent_lines b (x ∷ xs) p rows all = by_rows (filter (is_row b x) rows) (all_filter _ (is_row b x) rows all) (sent_lines b xs p rows all) where
  by_rows : (hit : List (Row BookCopy)) → list_all (λ (row : Row BookCopy). p row.it.film row.it.mark) hit ≡ true
      → list_all (λ (line : Line). p line.film line.mark) (map (λ row. under_way row.it) (rows_at b xs rows)) ≡ true
      → list_all (λ (line : Line). p line.film line.mark) (map (λ row. under_way row.it) (hit ++ rows_at b xs rows)) ≡ true
  by_rows [] h rest = rest
  by_rows (row ∷ hit) h rest = let m = and_parts (p row.it.film row.it.mark) _ h in rw m.0 (by_rows hit m.1 rest)

pub lines_more : (cs : List Consignment) (c : Consignment)
    → flat_map (λ (it : Consignment). it.lines) (cs ++ c ∷ []) ≡ flat_map (λ (it : Consignment). it.lines) cs ++ c.lines
lines_more cs c =
    flat_map-append (λ (it : Consignment). it.lines) cs (c ∷ []) ∙ ap (λ rest. flat_map (λ (it : Consignment). it.lines) cs ++ rest) (append-nil c.lines)

checked_all : (p : ℕ → Mark → Bool) (missing : List ℕ) (k : ℕ) (lines : List Line)
    → list_all (λ (line : Line). p line.film line.mark) (map (checked_line missing) (numbered_from k lines))
    ≡ list_all (λ (line : Line). p line.film line.mark) lines
checked_all p missing k [] = refl
checked_all p missing k (line ∷ lines) = ap (λ r. p line.film line.mark && r) (checked_all p missing (k + 1) lines)

received_lines : (p : ℕ → Mark → Bool) (missing : List ℕ) (q : Consignment → Bool) (cs : List Consignment)
    → list_all (λ (line : Line). p line.film line.mark) (flat_map (λ (it : Consignment). it.lines) cs) ≡ true
    → list_all (λ (line : Line). p line.film line.mark) (flat_map (λ (it : Consignment). it.lines) (update_where q (checked missing) cs)) ≡ true
received_lines p missing q [] all = refl
received_lines p missing q (c ∷ cs) all =
    let h = all_parts (λ (line : Line). p line.film line.mark) c.lines _ all in
    elim (cases_Bool (q c)) [
      | inl is ↦ rw is (all_append (λ (line : Line). p line.film line.mark) _ _ (checked_all p missing 1 c.lines ∙ h.0) (received_lines p missing q cs h.1))
      | inr isnt ↦ rw isnt (all_append (λ (line : Line). p line.film line.mark) _ _ h.0 (received_lines p missing q cs h.1))
    ]

come_all : (p : Line → Bool) (missing : List ℕ) (q : Consignment → Bool) (cs : List Consignment)
    → list_all p (flat_map (λ (it : Consignment). it.lines) cs) ≡ true
    → list_all p (flat_map (λ (it : Consignment). arrived missing it.lines) (filter q cs)) ≡ true
come_all p missing q [] all = refl
come_all p missing q (c ∷ cs) all =
    let h = all_parts p c.lines _ all in
    elim (cases_Bool (q c)) [
      | inl is ↦ rw is (all_append p _ _ (all_arrived p missing 1 c.lines h.0) (come_all p missing q cs h.1))
      | inr isnt ↦ rw isnt (come_all p missing q cs h.1)
    ]

pub origins_kept : (rules : Rules) (b : ℕ) (command : Command) (act : Act) (books : Books)
    → HasOrigins books → HasOrigins (book_acted rules b command act books)
origins_kept rules b command (Import lot file) books has = record {
  rows = imported_rows b (films_in (rules.stock_of file)) books.copies has.rows;
  lines = put_lines b (map (imported b) (films_in (rules.stock_of file))) books.copies (all_lines books) has.lines;
}
origins_kept rules b command (Dispatch to xs) books has = record {
  rows = states_rows b xs Sent books.copies has.rows;
  lines =
      rw (lines_more books.consignments (new_consignment b to xs books))
      (states_lines b xs Sent books.copies _
      (all_append (made_line books.copies) (all_lines books) _ has.lines (sent_lines b xs (is_made_as books.copies) books.copies has.rows)));
}
origins_kept rules b command (Receive source number missing) books has =
    let lines = come source b number missing books.consignments in
    record {
      rows =
          unpacked_rows b lines books.copies has.rows (come_all (made_line books.copies) missing (is_consignment source b number) books.consignments has.lines);
      lines =
          put_lines b (map unpacked lines) books.copies _
          (received_lines (is_made_as books.copies) missing (is_consignment source b number) books.consignments has.lines);
    }
origins_kept rules b command (Scrap x) books has = record {
  rows = state_rows b x Scrapped books.copies has.rows;
  lines = state_lines b x Scrapped books.copies (all_lines books) has.lines;
}
origins_kept rules b command act books has = record { rows = has.rows; lines = has.lines }
