-- The text of a window's settings: three lines, and one of its drawer if it has one of its own (our own form).
use Rattle.std.specs.Prelude.{ℕ, List, [], ◌∷◌, ◌++◌, Option, None, Some, codes, decimal}
use Rattle.till_program.specs.declared.settings.WindowSettings.{WindowSettings}

abbrev pub line_end : List ℕ
line_end = 10 ∷ []

abbrev pub drawer_line : Option ℕ → List ℕ
drawer_line None = []
drawer_line (Some drawer) = codes "drawer " ++ decimal drawer ++ line_end

abbrev pub window_lines : WindowSettings → List ℕ
window_lines window =
    codes "desk " ++ window.address ++ line_end ++ codes "secret " ++ window.secret ++ line_end
    ++ codes "staff " ++ decimal window.staff ++ line_end ++ drawer_line window.drawer
