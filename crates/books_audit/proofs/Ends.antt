-- A part shows where it ends.
use Rattle.std.proofs.Common.{is_some}
use Rattle.shop_schema.proofs.Common.{◌≡◌, ◌≢◌, ◌↔◌, ◌≤◌, ◌<◌, ◌+◌, ℕ, zero, suc, List, [], ◌∷◌, ◌++◌, length, true, false, refl, sym, ap, subst, ◌∙◌, arith}
use Rattle.shop_schema.proofs.Common.{add-one, get_or, drop, drop-cons, Bool, Bor, Option, Some, None, IfSome, if◌then◌else◌, is_token, flat_map, Moment}
use Rattle.shop_schema.proofs.Common.{IsMoment, moment_text, IsNumber, AreNumbers, number_form, text_form, numbers_form, option_form, act_form}
use Rattle.std.proofs.lemmas.List.{append-nil}
use Rattle.shop_schema.proofs.FormLemmas.{number_ends, text_ends, numbers_ends, option_ends, flag_ends, moment_ends}
use Rattle.books_audit.specs.declared.parts.Part.{Part}
use Rattle.books_audit.specs.declared.parts.Part.TheVariants as part
use Rattle.books_audit.proofs.Ranges.{in_range, ranged}
use Rattle.books_audit.specs.Forms.{Held, held_form, HasForm, IsPartForm, IsForm, IsActForm, IsCommandForm}

joined_alike : (p q f g r s : List ℕ) → p ≡ f → q ≡ g → p ++ r ≡ q ++ s → f ++ r ≡ g ++ s
joined_alike p q f g r s a b h = ap (λ (x : List ℕ). x ++ r) (sym a) ∙ h ∙ ap (λ (x : List ℕ). x ++ s) b

held_ends : (it : Part) (a b : Held it) (r s : List ℕ) → held_form it a ++ r ≡ held_form it b ++ s → r ≡ s
held_ends (part.Number low high) a b r s h = (number_ends a b r s h).1
held_ends part.Flag a b r s h = (flag_ends a b r s h).1
held_ends part.Unset a b r s h = (flag_ends a b r s h).1
held_ends part.Moment a b r s h = (moment_ends a b r s h).1
held_ends (part.Numbers most) a b r s h = (numbers_ends a b r s h).1
held_ends (part.Optional low high) a b r s h = (option_ends a b r s h).1
held_ends it a b r s h = (text_ends a b r s h).1

pub as_held : (it : Part) (piece : List ℕ) → IsPartForm it piece → HasForm it piece
as_held part.Flag piece form = form
as_held it piece form = form

pub as_part : (it : Part) (piece : List ℕ) → HasForm it piece → IsPartForm it piece
as_part part.Flag piece form = form
as_part it piece form = form

pub part_ends : (it : Part) (p q r s : List ℕ) → IsPartForm it p → IsPartForm it q → p ++ r ≡ q ++ s → r ≡ s
part_ends it p q r s f g h =
    let a = as_held it p f in
    let b = as_held it q g in
    held_ends it a.0 b.0 r s (joined_alike p q _ _ r s a.2 b.2 h)

pub same_text : (bytes u r piece t s : List ℕ) → bytes ≡ text_form u ++ r → piece ≡ text_form t → bytes ≡ piece ++ s → t ≡ u
same_text bytes u r piece t s a b c = (text_ends t u s r (ap (λ (x : List ℕ). x ++ s) (sym b) ∙ sym c ∙ a)).0

pub flag_found : (n : ℕ) (rest bytes : List ℕ) → n ≤ 1 → bytes ≡ n ∷ rest → (piece : List ℕ) × IsPartForm part.Flag piece × (bytes ≡ piece ++ rest)
flag_found zero rest bytes h e = (0 ∷ [], (false, tt, refl), e)
flag_found (suc zero) rest bytes h e = (1 ∷ [], (true, tt, refl), e)
flag_found (suc (suc n)) rest bytes h e = absurd (omega (arith, h))

pub front_is_moment : (bytes text back piece rest : List ℕ) (m : Moment) → bytes ≡ text ++ back
    → length text ≡ 19 → piece ≡ moment_text m → bytes ≡ piece ++ rest → text ≡ moment_text m
front_is_moment bytes text back piece rest m a n b c =
    let same : text ++ back ≡ moment_text m ++ rest = sym a ∙ c ∙ ap (λ (x : List ℕ). x ++ rest) b in
    (text_ends text (moment_text m) back rest (λ i. number_form (n i) ++ same i)).0

-- ---- one part after another

pub part_step : (p : Part) (ps : List Part) (bytes piece rest : List ℕ) → IsPartForm p piece → bytes ≡ piece ++ rest → IsForm (p ∷ ps) bytes ↔ IsForm ps rest
part_step p ps bytes piece rest is e = (
  λ f. subst (IsForm ps) (part_ends p f.0 piece f.1 rest f.2 is (sym f.4 ∙ e)) f.3,
  λ f. (piece, rest, is, f, e),
)

pub form_step : (ps : List Part) (i : ℕ) (d : Part) → i < length ps → (bytes piece rest : List ℕ) → IsPartForm (get_or ps i d) piece → bytes ≡ piece ++ rest
    → IsForm (drop i ps) bytes ↔ IsForm (drop (i + 1) ps) rest
form_step ps i d h bytes piece rest is e = rw (add-one, drop-cons ps i d) (part_step (get_or ps i d) (drop (suc i) ps) bytes piece rest is e)

-- ---- one number after another

pub record EachLeft (bytes : List ℕ) (count : ℕ) (rest : List ℕ) (left : ℕ) : Type 0 where
  pub sound : (ns s : List ℕ) → length ns ≡ left → AreNumbers ns → rest ≡ flat_map number_form ns ++ s
      → (ms : List ℕ) × (length ms ≡ count) × AreNumbers ms × (bytes ≡ flat_map number_form ms ++ s)
  pub complete : (ms s : List ℕ) → length ms ≡ count → AreNumbers ms → bytes ≡ flat_map number_form ms ++ s
      → (ns : List ℕ) × (length ns ≡ left) × AreNumbers ns × (rest ≡ flat_map number_form ns ++ s)

pub each_begins : (bytes : List ℕ) (count : ℕ) → EachLeft bytes count bytes count
each_begins bytes count = record { sound = λ ns s n a e. (ns, n, a, e); complete = λ ms s n a e. (ms, n, a, e) }

pub each_step : (bytes : List ℕ) (count : ℕ) (rest : List ℕ) (left : ℕ) (piece more : List ℕ) → EachLeft bytes count rest (suc left)
    → IsPartForm (part.Number 1 4_294_967_295) piece → rest ≡ piece ++ more → EachLeft bytes count more left
each_step bytes count rest left piece more it (n, within, is) e = record {
  sound = λ ns s k a f.
      it.sound (n ∷ ns) s (ap suc k) (ranged n within, a) (e ∙ (λ i. is i ++ f i));
  complete = λ ms s k a f. go (it.complete ms s k a f) s;
}
  where
    go : {s : List ℕ} → (ns : List ℕ) × (length ns ≡ suc left) × AreNumbers ns × (rest ≡ flat_map number_form ns ++ s)
        → (t : List ℕ) → (ns : List ℕ) × (length ns ≡ left) × AreNumbers ns × (more ≡ flat_map number_form ns ++ s)
    go ([], k, a, f) t = absurd (omega (arith, k))
    go {s} (m ∷ ns, k, a, f) t =
        (ns, (omega (arith, k)), a.1, sym (number_ends m n (flat_map number_form ns ++ s) more (sym f ∙ e ∙ ap (λ (x : List ℕ). x ++ more) is)).1)

-- if the rest doesn't begin with a number, the bytes don't begin with the form of so many numbers
pub each_fails : (bytes : List ℕ) (count : ℕ) (rest : List ℕ) (left : ℕ) → EachLeft bytes count rest (suc left)
    → ((piece more : List ℕ) → IsPartForm (part.Number 1 4_294_967_295) piece → rest ≢ piece ++ more)
    → (ms s : List ℕ) → length ms ≡ count → AreNumbers ms → bytes ≢ flat_map number_form ms ++ s
each_fails bytes count rest left it none ms s k a f = go (it.complete ms s k a f)
  where
    go : (ns : List ℕ) × (length ns ≡ suc left) × AreNumbers ns × (rest ≡ flat_map number_form ns ++ s) → ⊥
    go ([], k, a, f) = absurd (omega (arith, k))
    go (m ∷ ns, k, a, f) = none (number_form m) (flat_map number_form ns ++ s) (m, in_range m a.0, refl) f

pub numbers_found : (bytes mid rest : List ℕ) (count most : ℕ) (ns : List ℕ) → bytes ≡ number_form count ++ mid
    → count ≤ most → length ns ≡ count → AreNumbers ns → mid ≡ flat_map number_form ns ++ rest
    → (piece : List ℕ) × IsPartForm (part.Numbers most) piece × (bytes ≡ piece ++ rest)
numbers_found bytes mid rest count most ns a low n all b = (numbers_form ns, (ns, (omega (arith, n, low), all), refl), a ∙ (λ i. number_form (sym n i) ++ b i))

pub token_read : (text : List ℕ) (o : Option (List ℕ)) → o ≡ (if is_token text then Some text else None) → is_some o ≡ is_token text
token_read text o e = ap is_some e ∙ go (is_token text)
  where
    go : (t : Bool) → is_some (if t then Some text else None) ≡ t
    go true = refl
    go false = refl

pub optional_found : (bytes mid : List ℕ) (low high count : ℕ) → bytes ≡ number_form count ++ mid → count ≡ 1 → (r : Option (Bor (List ℕ)))
    → IfSome r (λ rest. (piece : List ℕ) × IsPartForm (part.Number low high) piece × (mid ≡ piece ++ rest.now))
    → IfSome r (λ rest. (piece : List ℕ) × IsPartForm (part.Optional low high) piece × (bytes ≡ piece ++ rest.now))
optional_found bytes mid low high count e one None h = tt
optional_found bytes mid low high count e one (Some rest) (piece, (n, within, f), g) =
    (option_form (Some n), (Some n, within, refl), e ∙ (λ i. number_form (one i) ++ (g ∙ ap (λ (x : List ℕ). x ++ rest.now) f) i))

-- ---- the head of a command, and its act

pub record Headed (bytes rest : List ℕ) : Type 0 where
  pub staff : ℕ
  pub moment : Moment
  pub is_staff : IsNumber staff
  pub is_moment : IsMoment moment
  pub is : bytes ≡ number_form staff ++ (moment_text moment ++ rest)

pub headed : (bytes mid rest p q : List ℕ) → IsPartForm (part.Number 1 4_294_967_295) p
    → bytes ≡ p ++ mid → IsPartForm part.Moment q → mid ≡ q ++ rest → Headed bytes rest
headed bytes mid rest p q (n, within, e) f (m, im, g) h =
    record { staff = n; moment = m; is_staff = ranged n within; is_moment = im; is = f ∙ (λ i. e i ++ (h ∙ ap (λ (x : List ℕ). x ++ rest) g) i) }

pub command_is : (bytes rest : List ℕ) → Headed bytes rest → IsActForm rest ↔ IsCommandForm bytes
command_is bytes rest h = (to, from)
  where
    to : IsActForm rest → IsCommandForm bytes
    to (act, is, e) = (
      record { key = []; staff = h.staff; moment = h.moment; act = act },
      h.is_staff,
      h.is_moment,
      is,
      h.is ∙ (λ i. number_form h.staff ++ (moment_text h.moment ++ (e ∙ sym (append-nil (act_form act))) i)),
    )

    from : IsCommandForm bytes → IsActForm rest
    from (c, s, m, a, e) =
        let mids = number_ends h.staff c.staff (moment_text h.moment ++ rest) (moment_text c.moment ++ (act_form c.act ++ [])) (sym h.is ∙ e) in
        let rests = moment_ends h.moment c.moment rest (act_form c.act ++ []) mids.1 in
        (c.act, a, rests.1 ∙ append-nil (act_form c.act))

-- without a head there is no command
pub no_staff : (bytes : List ℕ) → ((piece rest : List ℕ) → IsPartForm (part.Number 1 4_294_967_295) piece → bytes ≢ piece ++ rest) → ¬ IsCommandForm bytes
no_staff bytes none (c, s, m, a, e) = none (number_form c.staff) (moment_text c.moment ++ (act_form c.act ++ [])) (c.staff, in_range c.staff s, refl) e

pub no_moment : (bytes mid p : List ℕ) → IsPartForm (part.Number 1 4_294_967_295) p → bytes ≡ p ++ mid
    → ((piece rest : List ℕ) → IsPartForm part.Moment piece → mid ≢ piece ++ rest) → ¬ IsCommandForm bytes
no_moment bytes mid p (n, within, f) g none (c, s, m, a, e) =
    let mids = number_ends n c.staff mid (moment_text c.moment ++ (act_form c.act ++ [])) (ap (λ (x : List ℕ). x ++ mid) (sym f) ∙ sym g ∙ e) in
    none (moment_text c.moment) (act_form c.act ++ []) (c.moment, m, refl) mids.1
