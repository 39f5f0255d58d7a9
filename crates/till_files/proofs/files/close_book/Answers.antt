use Rattle.sql_files.proofs.Keeping.{kept_one}
use Rattle.till_files.specs.Files.{StandsForEither}
use Rattle.till_book.specs.Journal.{StandsFor}
use Rattle.till_files.proofs.files.close_book.Goals as goal

pub returns-clause-keeps : goal.returns-clause-keeps
returns-clause-keeps g c journal rests honest = kept_one g.D.Disk c.close.result _ (λ db. StandsFor db journal) (c.close.ensures.left honest) rests.left

pub returns-clause-either : goal.returns-clause-either
returns-clause-either g c journal besides leaves honest =
    kept_one g.D.Disk c.close.result _ (StandsForEither journal besides) (c.close.ensures.left honest) (leaves (c.close.ensures.clean honest))
