use Rattle.std.proofs.Common.{sym, subst, true≢false}
use Rattle.std.specs.Str.{IsUtf8}
use Rattle.shop_schema.proofs.CellTexts.{features_utf8}
use Rattle.books_audit.proofs.texts.are_features.Goals as goal

pub returns-in-Err : goal.returns-in-Err
returns-in-Err c = (λ h. absurd (true≢false (sym h)), λ it. absurd (c.in-Err.ensures.cases.0 (subst IsUtf8 it.1 (features_utf8 it.0))))
