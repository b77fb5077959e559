-- The canonical text of a module.
use Rattle.std.specs.Prelude.{ℕ, List, [], ◌∷◌, ◌++◌}
use Rattle.std.specs.List.{flat_map}
use Rattle.b3_ir.specs.Procedure.{Procedure}
use Rattle.b3_rows.specs.declared.row.Row.{Row}
use Rattle.b3_rows.specs.Written.{line_of_row}
use Rattle.b3_module.specs.Canonical.{canonical_rows}

-- a row on a line of its own, which LF, 10, ends
abbrev pub line_text : Row → List ℕ
line_text row = line_of_row row ++ 10 ∷ []

abbrev pub text_of : List Row → List ℕ
text_of rows = flat_map line_text rows

abbrev pub canonical : List Procedure → List ℕ
canonical m = text_of (canonical_rows m)
