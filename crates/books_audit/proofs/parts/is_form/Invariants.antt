use Rattle.std.proofs.Common.{◌↔◌, drop}
use Rattle.books_audit.specs.Forms.{IsForm}
use Rattle.books_audit.proofs.parts.is_form.Given as goal

abbrev pub invariant-loop-part : goal.invariant-loop-part
invariant-loop-part l = IsForm (drop l.part-index l.parts) l.rest ↔ IsForm l.parts l.fn.bytes
