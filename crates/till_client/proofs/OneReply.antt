-- The bytes of a reply determine which reply it is.
use Rattle.shop_types.proofs.Common.{◌≡◌, ◌∙◌, ◌<◌, ◌≤◌, ◌+◌, ◌%◌, ◌^◌, ℕ, List, [], ◌∷◌, ◌++◌, length, Bool, true, false, not, refl, sym, ap, arith}
use Rattle.shop_types.proofs.Common.{append_assoc, list_all, and_parts, false≢true, decimal_injective, decimal_by_steps, differ_test, equal_test, Answer}
use Rattle.std.specs.Prelude.{codes, decimal, ◌==◌}
use Rattle.shop_model.proofs.GoodShops.{all_more}
use Rattle.http_messages.specs.Text.{phrase, crlf, head_text}
use Rattle.till_client.specs.Replies.{answer_bytes}
use Rattle.till_client.specs.Laws.{OneAnswer}

abbrev lacks : ℕ → ℕ → Bool
lacks c d = not (d == c)

-- no digit is below 48
digits_lack : (c n : ℕ) → c < 48 → n < 2 ^ 64 → list_all (lacks c) (decimal n) ≡ true
digits_lack c n low small = decimal_by_steps (λ _ ds. list_all (lacks c) ds ≡ true) one more n small
  where
    one : (n : ℕ) → n < 10 → list_all (lacks c) ((48 + n) ∷ []) ≡ true
    one n _ = rw (differ_test (48 + n) c (λ e. absurd (omega (arith, e)))) refl

    more : (n : ℕ) (ds : List ℕ) → 10 ≤ n → list_all (lacks c) ds ≡ true → list_all (lacks c) (ds ++ ((48 + n % 10) ∷ [])) ≡ true
    more n ds _ all = all_more (lacks c) ds (48 + n % 10) all (rw (differ_test (48 + n % 10) c (λ e. absurd (omega (arith, e)))) refl)

heads : (x y : ℕ) (xs ys : List ℕ) → x ∷ xs ≡ y ∷ ys → x ≡ y
heads x y xs ys e = cc

tails : (x y : ℕ) (xs ys : List ℕ) → x ∷ xs ≡ y ∷ ys → xs ≡ ys
tails x y xs ys e = cc

not_first : (c y : ℕ) (ys : List ℕ) → list_all (lacks c) (y ∷ ys) ≡ true → c ≡ y → ⊥
not_first c y ys all e =
    let same : (y == c) ≡ true = equal_test y c (sym e) in
    let no : false ≡ true = rw same at (and_parts (lacks c y) (list_all (lacks c) ys) all).0 in
    false≢true no

-- two equal lists are the same up to the first byte `c`, and after it
cut : (c : ℕ) (xs ys p q : List ℕ) → list_all (lacks c) xs ≡ true → list_all (lacks c) ys ≡ true → xs ++ c ∷ p ≡ ys ++ c ∷ q → (xs ≡ ys) × (p ≡ q)
cut c [] [] p q all alls e = (refl, tails c c p q e)
cut c [] (y ∷ ys) p q all alls e = absurd (not_first c y ys alls (heads c y p (ys ++ c ∷ q) e))
cut c (x ∷ xs) [] p q all alls e = absurd (not_first c x xs all (sym (heads x c (xs ++ c ∷ p) q e)))
cut c (x ∷ xs) (y ∷ ys) p q all alls e =
    let rest =
    cut c xs ys p q (and_parts (lacks c x) (list_all (lacks c) xs) all).1
    (and_parts (lacks c y) (list_all (lacks c) ys) alls).1 (tails x y (xs ++ c ∷ p) (ys ++ c ∷ q) e) in
    let first : x ≡ y = heads x y (xs ++ c ∷ p) (ys ++ c ∷ q) e in
    (λ i. first i ∷ rest.0 i, rest.1)

behind : (front xs ys : List ℕ) → front ++ xs ≡ front ++ ys → xs ≡ ys
behind [] xs ys e = e
behind (f ∷ front) xs ys e = behind front xs ys (tails f f (front ++ xs) (front ++ ys) e)

of_length : (b c x y : List ℕ) → length b ≡ length c → b ++ x ≡ c ++ y → (b ≡ c) × (x ≡ y)
of_length [] [] x y same e = (refl, e)
of_length [] (c ∷ cs) x y same e = absurd (omega arith)
of_length (b ∷ bs) [] x y same e = absurd (omega arith)
of_length (b ∷ bs) (c ∷ cs) x y same e =
    let rest = of_length bs cs x y (omega arith) (tails b c (bs ++ x) (cs ++ y) e) in
    let first : b ≡ c = heads b c (bs ++ x) (cs ++ y) e in
    (λ i. first i ∷ rest.0 i, rest.1)

regroup : (h d s p c t k l b x : List ℕ)
    → (h ++ d ++ s ++ p ++ c ++ t ++ c ++ k ++ l ++ c ++ c ++ b) ++ x ≡ h ++ (d ++ (s ++ (p ++ (c ++ (t ++ (c ++ (k ++ (l ++ (c ++ (c ++ (b ++ x)))))))))))
regroup h d s p c t k l b x = simp append_assoc

abbrev pub kind : List ℕ
kind = codes "content-type: application/json"

abbrev pub size : List ℕ
size = codes "content-length: "

-- the bytes after the status
abbrev pub tail_of : Answer → ℕ → List ℕ → List ℕ
tail_of a status x = phrase status ++ (crlf ++ (kind ++ (crlf ++ (size ++ (decimal (length a.body) ++ (crlf ++ (crlf ++ (a.body ++ x))))))))

pub shape : (a : Answer) (x : List ℕ) → answer_bytes a ++ x ≡ codes "HTTP/1.1 " ++ (decimal a.status ++ (codes " " ++ tail_of a a.status x))
unfolding head_text
shape a x = regroup (codes "HTTP/1.1 ") (decimal a.status) (codes " ") (phrase a.status) crlf kind size (decimal (length a.body)) a.body x

pub one_answer : OneAnswer
one_answer a b x y small_a small_b short_a short_b e =
    let whole = sym (shape a x) ∙ e ∙ shape b y in
    let rest =
    behind (codes "HTTP/1.1 ") (decimal a.status ++ (codes " " ++ tail_of a a.status x)) (decimal b.status ++ (codes " " ++ tail_of b b.status y)) whole in
    let first =
    cut 32 (decimal a.status) (decimal b.status) (tail_of a a.status x) (tail_of b b.status y)
    (digits_lack 32 a.status (omega arith) small_a) (digits_lack 32 b.status (omega arith) small_b) rest in
    let status : a.status ≡ b.status = decimal_injective a.status b.status small_a small_b first.0 in
    let aligned : tail_of a b.status x ≡ tail_of b b.status y = ap (λ n. tail_of a n x) (sym status) ∙ first.1 in
    let one = behind (phrase b.status) _ _ aligned in
    let two = behind crlf _ _ one in
    let three = behind kind _ _ two in
    let four = behind crlf _ _ three in
    let five = behind size _ _ four in
    let sized =
    cut 13 (decimal (length a.body)) (decimal (length b.body)) _ _
    (digits_lack 13 (length a.body) (omega arith) short_a) (digits_lack 13 (length b.body) (omega arith) short_b) five in
    let long : length a.body ≡ length b.body = decimal_injective (length a.body) (length b.body) short_a short_b sized.0 in
    let six = behind (10 ∷ 13 ∷ 10 ∷ []) (a.body ++ x) (b.body ++ y) sized.1 in
    let bodies = of_length a.body b.body x y long six in
    (λ i. record { status = status i; body = bodies.0 i }, bodies.1)
