-- Lines that are known: the definition computes on words that are written out.
use Rattle.std.proofs.Common.{◌≡◌, refl, List, [], ◌∷◌, Some, None, false, codes}
use Rattle.clap.specs.Words.{Text}
use Rattle.clap.proofs.OnLiterals.{clap_on_literals}
use Rattle.shop_types.specs.declared.film.Rating.TheVariants as rating
use Rattle.shop_types.specs.declared.rule.Rule.TheVariants as rule
use Rattle.shop_types.specs.declared.office.OfficeAct.TheVariants as office
use Rattle.shop_types.specs.declared.request.OfficeAsk.TheVariants.{Sales, Custody, Audit}
use Rattle.shop_types.specs.declared.line.LineAct.TheVariants as act
use Rattle.office_words.specs.Line.{line_of}

abbrev title_and_kinds : List Text
title_and_kinds = codes "--title" ∷ codes "STONE" ∷ codes "--language" ∷ codes "1" ∷ codes "--category" ∷ codes "2" ∷ []

-- a film's other options have defaults, and it has no length
pub film_with_defaults : line_of (codes "film-add" ∷ codes "--key" ∷ codes "f1" ∷ title_and_kinds) ≡ Some (record {
  db = None;
  act = act.Office (record {
    key = codes "f1";
    act = office.Film (record {
      title = codes "STONE";
      description = [];
      language = 1;
      category = 2;
      period = 3;
      rate = 499;
      replacement = 1_999;
      minutes = None;
      rating = rating.G;
      features = record { trailers = false; commentaries = false; deleted_scenes = false; behind_the_scenes = false };
    });
  });
})
unfolding clap_on_literals
film_with_defaults = refl

-- a command without its key is no line
pub film_without_key : line_of (codes "film-add" ∷ title_and_kinds) ≡ None
unfolding clap_on_literals
film_without_key = refl

-- a line gives a rule by its name
pub rule_of_the_comment : line_of (codes "balance-rule" ∷ codes "--key" ∷ codes "r1" ∷ codes "--rule" ∷ codes "comment" ∷ []) ≡ Some (record {
  db = None;
  act = act.Office (record { key = codes "r1"; act = office.Rule rule.ByComment });
})
unfolding clap_on_literals
rule_of_the_comment = refl

pub rule_of_another_name : line_of (codes "balance-rule" ∷ codes "--key" ∷ codes "r1" ∷ codes "--rule" ∷ codes "comments" ∷ []) ≡ None
unfolding clap_on_literals
rule_of_another_name = refl

-- what brings a chain's file to this program's form has no options
pub migrate_of_a_file : line_of (codes "--db" ∷ codes "chain" ∷ codes "migrate" ∷ []) ≡ Some (record { db = Some (codes "chain"); act = act.Migrate })
unfolding clap_on_literals
migrate_of_a_file = refl

-- a reading has neither a key nor options
pub sales_of_no_file : line_of (codes "sales" ∷ []) ≡ Some (record { db = None; act = act.OfficeLook Sales })
unfolding clap_on_literals
sales_of_no_file = refl

pub sales_of_a_file : line_of (codes "--db" ∷ codes "chain" ∷ codes "sales" ∷ [])
    ≡ Some (record { db = Some (codes "chain"); act = act.OfficeLook Sales })
unfolding clap_on_literals
sales_of_a_file = refl

pub custody_of_a_mark : line_of (codes "custody" ∷ codes "--copy" ∷ codes "2" ∷ codes "--branch" ∷ codes "1" ∷ [])
    ≡ Some (record { db = None; act = act.OfficeLook (Custody (record { branch = 1; copy = 2 })) })
unfolding clap_on_literals
custody_of_a_mark = refl

-- a copy has no mark without its branch, and none has the number 0
pub custody_without_branch : line_of (codes "custody" ∷ codes "--copy" ∷ codes "2" ∷ []) ≡ None
unfolding clap_on_literals
custody_without_branch = refl

pub custody_of_none : line_of (codes "custody" ∷ codes "--branch" ∷ codes "1" ∷ codes "--copy" ∷ codes "0" ∷ []) ≡ None
unfolding clap_on_literals
custody_of_none = refl

pub transit_with_a_key : line_of (codes "transit" ∷ codes "--key" ∷ codes "k" ∷ []) ≡ None
unfolding clap_on_literals
transit_with_a_key = refl

pub audit_of_a_file : line_of (codes "--db" ∷ codes "chain" ∷ codes "audit" ∷ [])
    ≡ Some (record { db = Some (codes "chain"); act = act.OfficeLook Audit })
unfolding clap_on_literals
audit_of_a_file = refl

pub audit_with_a_key : line_of (codes "audit" ∷ codes "--key" ∷ codes "k" ∷ []) ≡ None
unfolding clap_on_literals
audit_with_a_key = refl
