-- The columns of a row of kinds determine its values, and so do the columns of a table's row.
use Rattle.shop_schema.proofs.Common.{◌≡◌, ℕ, List, [], ◌∷◌, Option, Some, None, IfSome, or_null, Bool, true, false, refl, sym, ap, ◌∙◌, same_flag, same_number}
use Rattle.shop_schema.proofs.Common.{same_or_null, number_value, Moment, IsMoment, moment_text, moment_value, rating_text, rating_of, features_text}
use Rattle.shop_schema.proofs.Common.{features_of, seen_rule, seen_state, seen_line_state, Rating, Features, rule_value, state_value, line_value, Kind}
use Rattle.shop_schema.proofs.Common.{value_of, Fits, FitEach, TableOf}
use Rattle.sqlite_value.specs.Order as sql
use Rattle.shop_types.specs.declared.film.Rating.TheVariants as rating
use Rattle.shop_types.specs.declared.rule.Rule.{Rule}
use Rattle.shop_types.specs.declared.rule.Rule.TheVariants as rule
use Rattle.shop_types.specs.declared.custody.CopyState.{CopyState}
use Rattle.shop_types.specs.declared.custody.CopyState.TheVariants as state
use Rattle.shop_types.specs.declared.custody.LineState.{LineState}
use Rattle.shop_types.specs.declared.custody.LineState.TheVariants as line
use Rattle.shop_schema.specs.Kinds as kind
use Rattle.shop_schema.specs.Kinds.{Held, Values, columns_of}
use Rattle.shop_schema.proofs.OneToOne.{one_moment}

rated : (it : Rating) → rating_of (rating_text it) ≡ Some it
rated rating.G = refl
rated rating.Pg = refl
rated rating.Pg13 = refl
rated rating.R = refl
rated rating.Nc17 = refl

abbrev with_features : Bool → Bool → Bool → Bool → Features
with_features a b c d = record { trailers = a; commentaries = b; deleted_scenes = c; behind_the_scenes = d }

same_some : {A : Type 0} (x y : A) → Some x ≡ Some y → x ≡ y
same_some x y h = cc

same_rating : (a b : Rating) → rating_text a ≡ rating_text b → a ≡ b
same_rating a b h = same_some a b (sym (rated a) ∙ ap rating_of h ∙ rated b)

featured : (it : Features) → features_of (features_text it) ≡ Some it
featured it = go it.trailers it.commentaries it.deleted_scenes it.behind_the_scenes
  where
    go : (a b c d : Bool) → features_of (features_text (with_features a b c d)) ≡ Some (with_features a b c d)
    go false false false false = refl
    go false false false true = refl
    go false false true false = refl
    go false false true true = refl
    go false true false false = refl
    go false true false true = refl
    go false true true false = refl
    go false true true true = refl
    go true false false false = refl
    go true false false true = refl
    go true false true false = refl
    go true false true true = refl
    go true true false false = refl
    go true true false true = refl
    go true true true false = refl
    go true true true true = refl

same_features : (a b : Features) → features_text a ≡ features_text b → a ≡ b
same_features a b h = same_some a b (sym (featured a) ∙ ap features_of h ∙ featured b)

same_rule : (a b : Rule) → rule_value (seen_rule a) ≡ rule_value (seen_rule b) → a ≡ b
same_rule rule.ByCode rule.ByCode h = refl
same_rule rule.ByComment rule.ByComment h = refl
same_rule a b h = cc

same_copy_state : (a b : CopyState) → state_value (seen_state a) ≡ state_value (seen_state b) → a ≡ b
same_copy_state state.Here state.Here h = refl
same_copy_state state.Sent state.Sent h = refl
same_copy_state state.Scrapped state.Scrapped h = refl
same_copy_state a b h = cc

same_line_state : (a b : LineState) → line_value (seen_line_state a) ≡ line_value (seen_line_state b) → a ≡ b
same_line_state line.UnderWay line.UnderWay h = refl
same_line_state line.Arrived line.Arrived h = refl
same_line_state line.Missing line.Missing h = refl
same_line_state a b h = cc

same_moment : (x y : Moment) → IsMoment x → IsMoment y → moment_value x ≡ moment_value y → x ≡ y
same_moment x y p q h = let text : moment_text x ≡ moment_text y = cc in one_moment x y p q text

same_or_none : (x y : Option Moment) → IfSome x IsMoment → IfSome y IsMoment → or_null moment_value x ≡ or_null moment_value y → x ≡ y
same_or_none None None p q h = refl
same_or_none (Some m) (Some n) p q h = ap Some (same_moment m n p q h)
same_or_none m n p q h = cc

same_number_or_null : (x y : Option ℕ) → or_null number_value x ≡ or_null number_value y → x ≡ y
same_number_or_null = same_or_null number_value (λ n h. cc) same_number

pub same_value : (k : Kind) (x y : Held k) → Fits k x → Fits k y → value_of k x ≡ value_of k y → x ≡ y
same_value kind.Number x y p q h = cc
same_value (kind.Within low high) x y p q h = cc
same_value (kind.Below bound) x y p q h = cc
same_value kind.Place x y p q h = cc
same_value kind.Version x y p q h = refl
same_value kind.Flag x y p q h = same_flag x y h
same_value (kind.Text low high) x y p q h = cc
same_value kind.Words x y p q h = cc
same_value kind.Key x y p q h = cc
same_value kind.Token x y p q h = cc
same_value kind.Rating x y p q h = let text : rating_text x ≡ rating_text y = cc in same_rating x y text
same_value kind.Features x y p q h = let text : features_text x ≡ features_text y = cc in same_features x y text
same_value kind.Rule x y p q h = same_rule x y h
same_value kind.Copy x y p q h = same_copy_state x y h
same_value kind.Line x y p q h = same_line_state x y h
same_value kind.Moment x y p q h = same_moment x y p q h
same_value kind.Bytes x y p q h = cc
same_value kind.NumberOrNull x y p q h = same_number_or_null x y h
same_value (kind.WithinOrNull low high) x y p q h = same_number_or_null x y h
same_value kind.MomentOrNull x y p q h = same_or_none x y p q h

same_values : (ks : List Kind) (u v : Values ks) → FitEach ks u → FitEach ks v → columns_of ks u ≡ columns_of ks v → u ≡ v
same_values [] u v p q h = refl
same_values (k ∷ ks) u v p q h =
    let head : value_of k u.0 ≡ value_of k v.0 = cc in
    let tail : columns_of ks u.1 ≡ columns_of ks v.1 = cc in
    let first = same_value k u.0 v.0 p.0 q.0 head in
    let more = same_values ks u.1 v.1 p.1 q.1 tail in
    (λ i. (first i, more i))

-- the columns of a table's rows are one to one
pub same_row : {A : Type 0} {columns : A → sql.Row} {IsOne : A → Type 0} (t : TableOf columns IsOne) (a b : A)
    → IsOne a → IsOne b → columns a ≡ columns b → a ≡ b
same_row {A} {columns} t a b p q h =
    let u = t.only a p in
    let v = t.only b q in
    let same : columns_of t.kinds u.0 ≡ columns_of t.kinds v.0 = sym (t.told u.0) ∙ ap columns u.2 ∙ h ∙ sym (ap columns v.2) ∙ t.told v.0 in
    sym u.2 ∙ ap t.from (same_values t.kinds u.0 v.0 u.1 v.1 same) ∙ v.2
