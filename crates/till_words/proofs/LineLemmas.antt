-- The line of words that clap accepts or refuses.
use Rattle.shop_types.proofs.Common.{◌≡◌, ℕ, suc, ◌==◌, false, refl, ap, arith, List, [], ◌∷◌, length, Option, Some, None, option_map, unwrap_or, if◌then◌else◌}
use Rattle.clap.specs.Kinds.{Kinds, IsAmong}
use Rattle.clap.specs.Walk.{is_empty}
use Rattle.clap.specs.Words.{Row, Text}
use Rattle.clap.specs.declared.error.kind.ErrorKind.{ErrorKind}
use Rattle.till_words.specs.Places.{office_words, named_words}
use Rattle.till_words.specs.Line.{read_of, full_line_of, till_line_of}
use Rattle.till_words.specs.Spoken.{spoken}

not_zero : (n : ℕ) → (suc n == 0) ≡ false
not_zero n = grind arith

-- words that clap finds a fault with are no line
pub faulty : {L : Type 0} (faults : Kinds) (k : ErrorKind) (line : Option L) → IsAmong k faults → (if is_empty faults then line else None) ≡ None
faulty [] k line h = absurd h
faulty (f ∷ fs) k line h = rw (not_zero (length fs)) refl

-- words without a fault are the line of what clap finds in them
pub taken :
    {L : Type 0} (line_from : List Row → Option (Text × List Row) → Option L) (faults : Kinds) (rows found : List Row) (sub inner : Option (Text × List Row))
    → faults ≡ [] → rows ≡ found → sub ≡ inner → (if is_empty faults then line_from found inner else None) ≡ line_from rows sub
taken line_from faults rows found sub inner none same is = rw (none, ← same, ← is) refl

-- a subcommand is its name and its rows
pub entered : {S : Type 0} (sub : Option S) (name_of : S → Text) (rows_of : S → List Row) (name : Text) (rows : List Row) → Some name ≡ option_map name_of sub
    → Some rows ≡ option_map (λ (p : Text × List Row). p.1) (option_map (λ s. (name_of s, rows_of s)) sub)
    → option_map {U = Text × List Row} (λ s. (name_of s, rows_of s)) sub ≡ Some (name, rows)
entered None name_of rows_of name rows e f = absurd (cc e)
entered (Some s) name_of rows_of name rows e f =
    let named : name ≡ name_of s = ap (λ (o : Option Text). unwrap_or o []) e in
    let held : rows ≡ rows_of s = ap (λ (o : Option (List Row)). unwrap_or o []) f in
    rw (named, held) refl

pub not_entered : {S : Type 0} (sub : Option S) (name_of : S → Text) (rows_of : S → List Row) → None ≡ option_map name_of sub
    → option_map {U = Text × List Row} (λ s. (name_of s, rows_of s)) sub ≡ None
not_entered None name_of rows_of e = refl
not_entered (Some s) name_of rows_of e = absurd (cc e)

-- words with each value after its option's name are the line of the words that are typed in full
pub by_names : (words named : List Text) → named ≡ named_words words → read_of (office_words words) named ≡ full_line_of words
by_names words named e = ap (read_of (office_words words)) e

-- words that are typed in full are the line of the words that were typed
pub by_spoken : (words full : List Text) → full ≡ spoken words → full_line_of full ≡ till_line_of words
unfolding till_line_of
by_spoken words full e = ap full_line_of e
