-- A value that a body writes is made of no more values than the body has bytes, so that no list in it is longer.
use Rattle.std.proofs.Common.{option_map, option_and_then, nat_cmp, ◌++◌, ap, length-append}
use Rattle.shop_types.proofs.Common.{◌≡◌, ℕ, suc, ◌+◌, ◌≤◌, Bool, true, false, List, [], ◌∷◌, length, Option, Some, None, Ordering, Less, Equal, Greater, refl}
use Rattle.shop_types.proofs.Common.{subst, inl, inr, arith, ⊤, if◌then◌else◌, match_ordering, slice_cmp, is_utf8, cases_Bool, le-leb}
use Rattle.json.specs.Token.{Token}
use Rattle.json.specs.Lex.{Lexeme, Mode, Class, Place, lex, lex_byte, class, punctuate, place_token, if_allowed, begins_colon, tokens}
use Rattle.json.specs.Json as json
use Rattle.json.specs.Tree.{json_tokens, items_tokens, members_tokens}
use Rattle.json.proofs.Unique.Spelling.{value-json_tokens_back}
use Rattle.serde_json.specs.Data.{Data, null, boolean, number, string, array, object, Items, no_items, item, Members, no_members, member, put}
use Rattle.serde_json.specs.Read.{number_of, of_json, of_items, of_members, max_depth, read}
use Rattle.serde_json.specs.Find.{get, get_member}
use Rattle.shop_types.specs.NumberLists.{is_number_list}
use Rattle.counter_routes.specs.Sizes.{size, items_size, members_size}
use Rattle.counter_routes.specs.Bodies.{body_of, row_number_in, numbers_in, list_of_numbers}

-- ---- tokens

byte_few : (m : Mode) (c : Class) (x : ℕ) (xs : List ℕ) (k : Mode → List Lexeme) (n : ℕ)
    → ((next : Mode) → length (k next) ≤ n) → length (lex_byte m c x xs k) ≤ suc n
byte_few Mode.between Class.quote x xs k n h = omega (arith, h Mode.in_string)
byte_few Mode.in_word Class.quote x xs k n h = omega (arith, h Mode.in_word)
byte_few Mode.in_string Class.quote x xs k n h = omega (arith, h Mode.between)
byte_few m c x xs k n h = omega (arith, h Mode.between, h Mode.in_word, h Mode.in_string, h Mode.in_escape)

lex_few : (m : Mode) (xs : List ℕ) → length (lex m xs) ≤ length xs
unfolding lex
lex_few m [] = omega arith
lex_few m (x ∷ xs) = byte_few m (class x) x xs (λ next. lex next xs) (length xs) (λ next. lex_few next xs)

allowed_few : (b : Bool) (t : Token) (k : Place → List Token) (next : Place) (n : ℕ) → ((p : Place) → length (k p) ≤ n) → length (if_allowed b t k next) ≤ suc n
allowed_few true t k next n h = omega (arith, h next)
allowed_few false t k next n h = omega arith

place_few : (p : Place) (t : Token) (b : Bool) (k : Place → List Token) (n : ℕ) → ((q : Place) → length (k q) ≤ n) → length (place_token p t b k) ≤ suc n
place_few p Token.begin_object b k n h = allowed_few _ Token.begin_object k Place.fresh n h
place_few p Token.begin_array b k n h = allowed_few _ Token.begin_array k Place.fresh n h
place_few p (Token.key s) b k n h = omega arith
place_few p (Token.string s) true k n h = allowed_few _ (Token.key s) k Place.after_key n h
place_few p Token.bad b k n h = omega arith
place_few p t b k n h = allowed_few _ t k Place.after_value n h

-- one more stands where a text breaks off
placed_few : (p : Place) (ls : List Lexeme) → length (punctuate p ls) ≤ suc (length ls)
unfolding punctuate
placed_few Place.fresh (Lexeme.token t ∷ ls) = place_few Place.fresh t (begins_colon ls) (λ next. punctuate next ls) (suc (length ls)) (λ q. placed_few q ls)
placed_few p (Lexeme.token t ∷ ls) = place_few p t (begins_colon ls) (λ next. punctuate next ls) (suc (length ls)) (λ q. placed_few q ls)
placed_few Place.after_value (Lexeme.comma ∷ ls) = omega (arith, placed_few Place.after_comma ls)
placed_few Place.after_key (Lexeme.colon ∷ ls) = omega (arith, placed_few Place.fresh ls)
placed_few p ls = omega arith

few_tokens : (text : List ℕ) → length (tokens text) ≤ suc (length text)
few_tokens text = omega (arith, placed_few Place.fresh (lex Mode.between text), lex_few Mode.between text)

-- ---- what is made of them

abbrev AtMost : {A : Type 0} → (A → ℕ) → ℕ → Option A → Type 0
AtMost f n None = ⊤
AtMost f n (Some a) = f a ≤ n

at_most_map : {A B : Type 0} (f : A → ℕ) (g : B → ℕ) (m n : ℕ) (h : A → B)
    → ((a : A) → f a ≤ m → g (h a) ≤ n) → (o : Option A) → AtMost f m o → AtMost g n (option_map h o)
at_most_map f g m n h k None x = tt
at_most_map f g m n h k (Some a) x = k a x

at_most_then : {A B : Type 0} (f : A → ℕ) (g : B → ℕ) (m n : ℕ) (h : A → Option B)
    → ((a : A) → f a ≤ m → AtMost g n (h a)) → (o : Option A) → AtMost f m o → AtMost g n (option_and_then h o)
at_most_then f g m n h k None x = tt
at_most_then f g m n h k (Some a) x = k a x

flat : {A : Type 0} (o : Option A) → AtMost (λ _. 0) 0 o
flat None = tt
flat (Some a) = omega arith

put_one : (o : Ordering) (a b c : Members) (n : ℕ) → members_size a ≤ n → members_size b ≤ n → members_size c ≤ n → members_size (match_ordering o a b c) ≤ n
put_one Less a b c n p q r = p
put_one Equal a b c n p q r = q
put_one Greater a b c n p q r = r

put_size : (k : List ℕ) (d : Data) (ms : Members) → members_size (put k d ms) ≤ size d + members_size ms
put_size k d no_members = omega arith
put_size k d (member l e ms) =
    put_one (slice_cmp nat_cmp k l) (member k d (member l e ms)) (member l d ms) (member l e (put k d ms))
    (size d + (size e + members_size ms)) (omega arith) (omega arith) (omega (arith, put_size k d ms))

mutual
  made_size : (j : json.Json) → AtMost size (length (json_tokens j)) (of_json j)
  made_size json.null = omega arith
  made_size (json.boolean b) = omega arith
  made_size (json.number s) = at_most_map (λ _. 0) size 0 1 number (λ a x. omega arith) (number_of s) (flat (number_of s))
  made_size (json.string s) = omega arith
  made_size (json.array js) =
      let n = length (items_tokens js) in at_most_map items_size size n (suc n) array (λ a x. omega (arith, x)) (of_items js) (made_items js)
  made_size (json.object ms) =
      let n = length (members_tokens ms) in
      at_most_map members_size size n (suc n) object (λ a x. omega (arith, x)) (of_members ms no_members) (made_members ms no_members n (omega arith))

  made_items : (js : json.Items) → AtMost items_size (length (items_tokens js)) (of_items js)
  made_items json.no_items = omega arith
  made_items (json.item j js) =
      let m = length (json_tokens j) in
      let n = length (items_tokens js) in
      let both = length-append (json_tokens j) (items_tokens js) in
      let all = length (json_tokens j ++ items_tokens js) in
      at_most_then size items_size m all (λ d. option_map (item d) (of_items js))
      (λ d x. at_most_map items_size items_size n all (item d) (λ ds y. omega (arith, x, y, both)) (of_items js) (made_items js)) (of_json j) (made_size j)

  made_members : (ms : json.Members) (found : Members) (n : ℕ)
      → length (members_tokens ms) + members_size found ≤ n → AtMost members_size n (of_members ms found)
  made_members json.no_members found n h = omega (arith, h)
  made_members (json.member k j ms) found n h =
      let both = length-append (json_tokens j) (members_tokens ms) in
      at_most_then size members_size (length (json_tokens j)) n (λ d. of_members ms (put k d found))
      (λ d x. made_members ms (put k d found) n (omega (arith, h, x, both, put_size k d found))) (of_json j) (made_size j)

-- a document has the same tokens as its value
spelled : (ts : List Token) (o : Option (json.Json × List Token)) → json.value max_depth ts ≡ o
    → AtMost (λ j. length (json_tokens j)) (length ts) (option_and_then (λ p. json.if_last p.0 p.1) o)
spelled ts None e = tt
spelled ts (Some (j, [])) e =
    let same = ap length (value-json_tokens_back max_depth ts [] j e) in
    let parts = length-append (json_tokens j) [] in
    omega (arith, same, parts)
spelled ts (Some (j, t ∷ r)) e = tt

within_of : (o : Option Data) (n : ℕ) (d : Data) → AtMost size n o → o ≡ Some d → size d ≤ n
within_of None n d h e = absurd (let none = e in cc)
within_of (Some c) n d h e = let same : c ≡ d = cc in subst (λ it. size it ≤ n) same h

read_size : (text : List ℕ) (d : Data) → read text ≡ Some d → size d ≤ suc (length text)
read_size text d e =
    let n = length (tokens text) in
    let whole : AtMost size n (read text) =
    at_most_then (λ j. length (json_tokens j)) size n n of_json (λ j x. at_more j n x)
    (option_and_then (λ p. json.if_last p.0 p.1) (json.value max_depth (tokens text)))
    (spelled (tokens text) (json.value max_depth (tokens text)) refl) in
    omega (arith, within_of (read text) n d whole e, few_tokens text)
  where
    more : (o : Option Data) (m n : ℕ) → m ≤ n → AtMost size m o → AtMost size n o
    more None m n less h = tt
    more (Some c) m n less h = omega (arith, less, h)

    at_more : (j : json.Json) (n : ℕ) → length (json_tokens j) ≤ n → AtMost size n (of_json j)
    at_more j n x = more (of_json j) (length (json_tokens j)) n x (made_size j)

-- ---- a body

pub body_size : (body : List ℕ) (d : Data) → body_of body ≡ Some d → size d ≤ suc (length body)
body_size body d is = elim (cases_Bool (is_utf8 body)) [
  | inl text ↦ read_size body d (rw text at is)
  | inr other ↦ absurd (let none : ◌≡◌ {A = Option Data} None (Some d) = rw other at is in cc)
]

-- ---- a list in it

some_size : (d : Data) → 1 ≤ size d
some_size null = omega arith
some_size d = omega arith

one_found : (o : Ordering) (a b : Option Data) (e d : Data) (m n : ℕ) → (a ≡ Some d → size d ≤ n)
    → (b ≡ Some d → size d ≤ n) → size e ≤ n → match_ordering o a (Some e) b ≡ Some d → size d ≤ n
one_found Less a b e d m n p q r is = p is
one_found Equal a b e d m n p q r is = let same : e ≡ d = cc in subst (λ it. size it ≤ n) same r
one_found Greater a b e d m n p q r is = q is

member_size : (k : List ℕ) (ms : Members) (d : Data) → get_member k ms ≡ Some d → size d ≤ members_size ms
member_size k no_members d is = absurd (let none = is in cc)
member_size k (member l e ms) d is =
    one_found (slice_cmp nat_cmp k l) (get_member k ms) (get_member k ms) e d 0 (size e + members_size ms)
    (λ h. omega (arith, member_size k ms d h)) (λ h. omega (arith, member_size k ms d h)) (omega arith) is

got_size : (k : List ℕ) (d e : Data) → get k d ≡ Some e → suc (size e) ≤ size d
got_size k (object ms) e is = omega (arith, member_size k ms e is)
got_size k d e is = absurd (let none = is in cc)

step : (o : Option ℕ) (p : Option (List ℕ)) (ns : List ℕ) → option_and_then (λ n. option_and_then (λ more. Some (n ∷ more)) p) o ≡ Some ns
    → (n : ℕ) × (more : List ℕ) × (p ≡ Some more) × (n ∷ more ≡ ns)
step None p ns is = absurd (let none = is in cc)
step (Some n) None ns is = absurd (let none = is in cc)
step (Some n) (Some more) ns is = (n, more, refl, cc)

as_many_items : (ds : Items) (ns : List ℕ) → numbers_in ds ≡ Some ns → length ns ≤ items_size ds
as_many_items no_items ns is = let same : [] ≡ ns = cc in subst (λ ms. length ms ≤ 0) same (omega arith)
as_many_items (item d ds) ns is =
    let parts = step (row_number_in d) (numbers_in ds) ns is in
    let more = as_many_items ds parts.1 parts.2 in
    subst (λ ms. length ms ≤ size d + items_size ds) parts.3 (omega (arith, more, some_size d))

listed_size : (d : Data) (ns : List ℕ) → list_of_numbers d ≡ Some ns → suc (length ns) ≤ size d
listed_size (array ds) ns is = omega (arith, as_many_items ds ns is)
listed_size d ns is = absurd (let none = is in cc)

pub few_listed : (k : List ℕ) (d e : Data) (ns : List ℕ) → get k d ≡ Some e → list_of_numbers e ≡ Some ns → size d ≤ 65_537 → length ns ≤ 65_536
few_listed k d e ns found are small = omega (arith, got_size k d e found, listed_size e ns are, small)

-- so none is too long
pub not_long : (k : List ℕ) (d e : Data) (ns : List ℕ) → get k d ≡ Some e → list_of_numbers e ≡ Some ns
    → size d ≤ 65_537 → None ≡ (if is_number_list ns then Some ns else None) → ⊥
not_long k d e ns found are small none =
    let few : is_number_list ns ≡ true = le-leb (length ns) 65_536 (few_listed k d e ns found are small) in
    let some : ◌≡◌ {A = Option (List ℕ)} None (Some ns) = rw few at none in cc
