-- Tables of listed objects, object by object, and what is found in them.
use Rattle.shop_types.proofs.Common.{◌≡◌, ◌∙◌, ◌≤◌, ◌<◌, ◌+◌, ℕ, List, [], ◌∷◌, map, filter, length, get_or, drop, refl, sym, ap, append-nil, append_assoc}
use Rattle.shop_types.proofs.Common.{Option, Some, None, Bool, true, false, inl, inr, cases_Bool, drop_all, drop_more, option_map, option_and_then, Text}
use Rattle.std.specs.Prelude.{◌||◌, ◌==◌}
use Rattle.serde_json.specs.Data.{Data}
use Rattle.till_shows.specs.Bodies.{body_of, rows_in, each, text_at, has_number}
use Rattle.till_shows.specs.Fields.{Field, row_of}
use Rattle.till_shows.specs.Lines.{Table}
use Rattle.till_shows.specs.Lists.{begins_with, stands_in, searched_texts, is_found, is_sought, has_words, more_rows, headed, found_rows}
use Rattle.till_shows.specs.Lists.{table_in, whole_table, first_named, named_in}

-- ---- a list from its i-th on, as it is seen

pub front_of : {A B : Type 0} (g : A → B) (xs : List A) (i : ℕ) (x : A) → i < length xs → x ≡ get_or xs i x → map g (drop i xs) ≡ g x ∷ map g (drop (i + 1) xs)
front_of {A} g xs i x h is = ap (map g) (drop_more xs i x h) ∙ ap (λ (a : A). g a ∷ map g (drop (i + 1) xs)) (sym is)

pub none_left : {A B : Type 0} (g : A → B) (xs : List A) (i : ℕ) → length xs ≤ i → map g (drop i xs) ≡ []
none_left g xs i h = ap (map g) (drop_all i xs h)

pub none_of : {A B : Type 0} (f : A → B) (o : Option A) → option_map f o ≡ None → o ≡ None
none_of f None e = refl
none_of {A} {B} f (Some a) e = let no : ◌≡◌ {A = Option B} (Some (f a)) None = e in cc

-- ---- rows

pub nothing_more : (table : Table) → more_rows table [] ≡ table
nothing_more table = λ i. record { sides = table.sides; rows = append-nil table.rows i }

with_row : (table new : Table) (o : Option (List Text)) (rest : Option (List (List Text)))
    → option_map (more_rows table) (option_and_then (λ (b : List Text). option_map (λ more. b ∷ more) (Some [])) o) ≡ Some new
    → option_map (more_rows table) (option_and_then (λ (b : List Text). option_map (λ more. b ∷ more) rest) o) ≡ option_map (more_rows new) rest
with_row table new None rest h = let no : ◌≡◌ {A = Option Table} None (Some new) = h in cc
with_row table new (Some row) None h = refl
with_row table new (Some row) (Some more) h =
    let is : more_rows table (row ∷ []) ≡ new = let same : Some (more_rows table (row ∷ [])) ≡ Some new = h in cc in
    let whole : more_rows table (row ∷ more) ≡ more_rows (more_rows table (row ∷ [])) more =
    λ i. record { sides = table.sides; rows = sym (append_assoc table.rows (row ∷ []) more) i } in
    ap (λ (t : Table). Some t) whole ∙ ap (λ (t : Table). Some (more_rows t more)) is

without_row : (table new : Table) (rest : Option (List (List Text))) → Some (more_rows table []) ≡ Some new
    → option_map (more_rows table) rest ≡ option_map (more_rows new) rest
without_row table new rest h =
    let is : more_rows table [] ≡ new = cc in
    ap (λ (t : Table). option_map (more_rows t) rest) (sym (nothing_more table) ∙ is)

-- one more object
pub found_more : (fields : List Field) (part : Text) (table new : Table) (d : Data) (ds : List Data)
    → option_map (more_rows table) (found_rows fields part (d ∷ [])) ≡ Some new
    → option_map (more_rows table) (found_rows fields part (d ∷ ds)) ≡ option_map (more_rows new) (found_rows fields part ds)
found_more fields part table new d ds h = elim (cases_Bool (has_words part fields d)) [
  | inl e ↦ let one = rw e at h in rw e (with_row table new (row_of fields d) (found_rows fields part ds) one)
  | inr e ↦ let one = rw e at h in rw e (without_row table new (found_rows fields part ds) one)
]

none_at : {A : Type 0} (o : Option A) (rest : Option (List A)) → option_and_then (λ (b : A). option_map (λ more. b ∷ more) (Some [])) o ≡ None
    → option_and_then (λ (b : A). option_map (λ more. b ∷ more) rest) o ≡ None
none_at None rest h = refl
none_at {A} (Some a) rest h = let no : ◌≡◌ {A = Option (List A)} (Some (a ∷ [])) None = h in cc

-- an object that has no row
pub found_none : (fields : List Field) (part : Text) (d : Data) (ds : List Data)
    → found_rows fields part (d ∷ []) ≡ None → found_rows fields part (d ∷ ds) ≡ None
found_none fields part d ds h = elim (cases_Bool (has_words part fields d)) [
  | inl e ↦ let one = rw e at h in rw e (none_at (row_of fields d) (found_rows fields part ds) one)
  | inr e ↦ let no : ◌≡◌ {A = Option (List (List Text))} (Some []) None = rw e at h in cc
]

-- ---- an empty part

or_true : (b : Bool) → (b || true) ≡ true
or_true true = refl
or_true false = refl

always_found : (texts : List Text) → is_found texts [] ≡ true
always_found [] = refl
always_found (text ∷ texts) = rw (always_found texts) (or_true _)

always_sought : (texts : List Text) → is_sought texts [] ≡ true
always_sought texts = rw (always_found texts) refl

all_found : (fields : List Field) (ds : List Data) → filter (has_words [] fields) ds ≡ ds
all_found fields [] = refl
all_found fields (d ∷ ds) = rw (always_sought (searched_texts fields d), all_found fields ds) refl

rows_all : (fields : List Field) (o : Option (List Data)) → option_and_then (found_rows fields []) o ≡ option_and_then (each (row_of fields)) o
rows_all fields None = refl
rows_all fields (Some ds) = ap (each (row_of fields)) (all_found fields ds)

pub whole_is : (fields : List Field) (body : Text) → table_in fields [] body ≡ whole_table fields body
whole_is fields body = ap (option_map (more_rows (headed fields))) (rows_all fields (option_and_then rows_in (body_of body)))

-- ---- one number

pub named_here : (by : Text) (n : ℕ) (name : Text) (d : Data) (ds : List Data) → has_number by n d ≡ true
    → first_named by n name (d ∷ ds) ≡ option_map (λ t. Some t) (text_at name d)
named_here by n name d ds e = rw e refl

pub named_later : (by : Text) (n : ℕ) (name : Text) (d : Data) (ds : List Data)
    → has_number by n d ≡ false → first_named by n name (d ∷ ds) ≡ first_named by n name ds
named_later by n name d ds e = rw e refl

-- ---- an object, by whether the part is found in it

pub is_row : (fields : List Field) (part : Text) (d : Data) → has_words part fields d ≡ true → found_rows fields part (d ∷ []) ≡ each (row_of fields) (d ∷ [])
is_row fields part d e = rw e refl

pub no_row : (fields : List Field) (part : Text) (table : Table) (d : Data) → has_words part fields d ≡ false
    → option_map (more_rows table) (found_rows fields part (d ∷ [])) ≡ Some table
no_row fields part table d e = rw e (ap (λ (t : Table). Some t) (nothing_more table))

-- ---- a body's table, step by step

pub table_rows : (fields : List Field) (part body : Text) (d : Data) (ds : List Data) → body_of body ≡ Some d → Some ds ≡ rows_in d
    → table_in fields part body ≡ option_map (more_rows (headed fields)) (found_rows fields part ds)
table_rows fields part body d ds b r =
    ap (λ (o : Option Data). option_map (more_rows (headed fields)) (option_and_then (found_rows fields part) (option_and_then rows_in o))) b
    ∙ ap (λ (o : Option (List Data)). option_map (more_rows (headed fields)) (option_and_then (found_rows fields part) o)) (sym r)

pub table_no_body : (fields : List Field) (part body : Text) → body_of body ≡ None → table_in fields part body ≡ None
table_no_body fields part body b =
    ap (λ (o : Option Data). option_map (more_rows (headed fields)) (option_and_then (found_rows fields part) (option_and_then rows_in o))) b

pub table_no_list : (fields : List Field) (part body : Text) (d : Data) → body_of body ≡ Some d → None ≡ rows_in d → table_in fields part body ≡ None
table_no_list fields part body d b r =
    ap (λ (o : Option Data). option_map (more_rows (headed fields)) (option_and_then (found_rows fields part) (option_and_then rows_in o))) b
    ∙ ap (λ (o : Option (List Data)). option_map (more_rows (headed fields)) (option_and_then (found_rows fields part) o)) (sym r)

pub named_told : (by : Text) (n : ℕ) (name body : Text) (d : Data) (ds : List Data)
    → body_of body ≡ Some d → Some ds ≡ rows_in d → named_in by n name body ≡ first_named by n name ds
named_told by n name body d ds b r =
    ap (λ (o : Option Data). option_and_then (first_named by n name) (option_and_then rows_in o)) b ∙ ap (option_and_then (first_named by n name)) (sym r)

pub named_no_body : (by : Text) (n : ℕ) (name body : Text) → body_of body ≡ None → named_in by n name body ≡ None
named_no_body by n name body b = ap (λ (o : Option Data). option_and_then (first_named by n name) (option_and_then rows_in o)) b

pub named_no_list : (by : Text) (n : ℕ) (name body : Text) (d : Data) → body_of body ≡ Some d → None ≡ rows_in d → named_in by n name body ≡ None
named_no_list by n name body d b r =
    ap (λ (o : Option Data). option_and_then (first_named by n name) (option_and_then rows_in o)) b ∙ ap (option_and_then (first_named by n name)) (sym r)

-- ---- what is looked for, from the i-th on

or_here : (a b : Bool) → a ≡ true → (a || b) ≡ true
or_here true b e = refl
or_here false b e = let no : false ≡ true = e in cc

or_later : (a b : Bool) → a ≡ false → (a || b) ≡ b
or_later true b e = let no : true ≡ false = e in cc
or_later false b e = refl

pub stands_here : (part text : Text) (i : ℕ) → i < length text → begins_with part (drop i text) ≡ true → stands_in part (drop i text) ≡ true
stands_here part text i h is =
    let front : drop i text ≡ get_or text i 0 ∷ drop (i + 1) text = drop_more text i 0 h in
    ap (stands_in part) front
    ∙ or_here (begins_with part (get_or text i 0 ∷ drop (i + 1) text)) (stands_in part (drop (i + 1) text)) (ap (begins_with part) (sym front) ∙ is)

pub stands_later : (part text : Text) (i : ℕ) → i < length text → begins_with part (drop i text) ≡ false
    → stands_in part (drop i text) ≡ stands_in part (drop (i + 1) text)
stands_later part text i h is =
    let front : drop i text ≡ get_or text i 0 ∷ drop (i + 1) text = drop_more text i 0 h in
    ap (stands_in part) front
    ∙ or_later (begins_with part (get_or text i 0 ∷ drop (i + 1) text)) (stands_in part (drop (i + 1) text)) (ap (begins_with part) (sym front) ∙ is)

pub nothing_stands : (part text : Text) (i : ℕ) → length text ≤ i → stands_in part (drop i text) ≡ (length part == 0)
nothing_stands part text i h = ap (stands_in part) (drop_all i text h)

pub found_here : (part text : Text) (texts : List Text) (front : List Text) → front ≡ text ∷ texts → stands_in part text ≡ true → is_found front part ≡ true
found_here part text texts front is stands = ap (λ (ts : List Text). is_found ts part) is ∙ or_here (stands_in part text) (is_found texts part) stands

pub found_later : (part text : Text) (texts : List Text) (front : List Text) → front ≡ text ∷ texts → stands_in part text ≡ false
    → is_found front part ≡ is_found texts part
found_later part text texts front is stands = ap (λ (ts : List Text). is_found ts part) is ∙ or_later (stands_in part text) (is_found texts part) stands

pub nothing_found : (part : Text) (front : List Text) → front ≡ [] → is_found front part ≡ (length part == 0)
nothing_found part front is = ap (λ (ts : List Text). is_found ts part) is
