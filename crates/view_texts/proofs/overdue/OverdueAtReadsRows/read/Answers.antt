use Rattle.shop_schema.proofs.Common.{◌∷◌, [], Bool, if◌then◌else◌, ap, sym, ◌∙◌, overdue_row}
use Rattle.shop_model.specs.Views.{OverdueRow, overdue_text}
use Rattle.view_texts.proofs.overdue.OverdueAtReadsRows.read.Goals as goal

pub returns-then-not-late : goal.returns-then-not-late
returns-then-not-late c catalogue shop x real is =
    ap (λ (late : Bool). if late then overdue_text (overdue_row catalogue shop x.0) ∷ [] else [])
    (sym c.if-not-late.true ∙ c.in_ok-late.ensures catalogue shop x real is)

pub returns : goal.returns
returns c catalogue shop x real is =
    ap (λ (row : OverdueRow). overdue_text row ∷ []) (c.in_ok-read_overdue.ensures catalogue shop x is)
    ∙ ap (λ (late : Bool). if late then overdue_text (overdue_row catalogue shop x.0) ∷ [] else [])
    (sym c.if-not-late.false ∙ c.in_ok-late.ensures catalogue shop x real is)
