use Rattle.shop_schema.proofs.Common.{◌++◌, sym, subst, ◌∙◌, take-append-drop, moment_text-utf8}
use Rattle.std.specs.Str.{IsUtf8}
use Rattle.books_audit.proofs.Ends.{front_is_moment}
use Rattle.books_audit.proofs.parts.skip_moment.Goals as goal

pub returns-in_default-clause-none : goal.returns-in_default-clause-none
returns-in_default-clause-none c piece rest (m, k, e) h =
    c.in_default.ensures.cases.0
    (subst IsUtf8 (sym (front_is_moment c.args.bytes.now c.split_at.result.0.now c.split_at.result.1.now piece rest m
    (sym (take-append-drop 19 c.args.bytes.now) ∙ (λ i. sym c.split_at.ensures.front i ++ sym c.split_at.ensures.back i)) c.split_at.ensures.front_len e h))
    (moment_text-utf8 m))
