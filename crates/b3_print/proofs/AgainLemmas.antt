-- Canonical text is read again.
use Rattle.std.proofs.Common.{◌≡◌, ℕ, List, [], ◌∷◌, ◌++◌, map, refl, ◌∙◌, ap, append_assoc}
use Rattle.std.specs.List.{AllByRecursion}
use Rattle.b3_ir.specs.Procedure.{Procedure}
use Rattle.b3_lines.specs.Lines.{lines_of}
use Rattle.b3_rows.specs.declared.row.Row.{Row}
use Rattle.b3_rows.specs.Ranges.{IsGoodRow}
use Rattle.b3_rows.specs.Rows.{row_of_line}
use Rattle.b3_rows.specs.Written.{line_of_row}
use Rattle.b3_module.specs.Canonical.{AreRowed, RowsSpell, canonical_rows, lined}
use Rattle.b3_module.specs.TextModules.{IsTextModule}
use Rattle.b3_module.specs.Texts.{Spells, rows_of, spelled}
use Rattle.b3_print.specs.Printed.{canonical, text_of}

abbrev pub AreRead : Type 0
AreRead = (row : Row) → IsGoodRow row → row_of_line (line_of_row row) ≡ row

abbrev pub AreCut : Type 0
AreCut = (row : Row) → IsGoodRow row → (rest : List ℕ) → lines_of (line_of_row row ++ (10 ∷ rest)) ≡ line_of_row row ∷ lines_of rest

rows_again : AreRead → AreCut → (rows : List Row) → AllByRecursion IsGoodRow rows → rows_of (text_of rows) ≡ rows
unfolding lines_of
rows_again read cut [] h = refl
rows_again read cut (row ∷ rows) h =
    ap rows_of (append_assoc (line_of_row row) (10 ∷ []) (text_of rows))
    ∙ ap (map row_of_line) (cut row h.0 (text_of rows))
    ∙ ap (λ (r : Row). r ∷ rows_of (text_of rows)) (read row h.0)
    ∙ ap (λ (rs : List Row). row ∷ rs) (rows_again read cut rows h.1)

pub text_again : AreRead → AreCut → RowsSpell → ((m : List Procedure) → IsTextModule m → AreRowed m)
    → ((m : List Procedure) → IsTextModule m → AllByRecursion IsGoodRow (canonical_rows m)) → (m : List Procedure) → IsTextModule m
    → Spells (canonical m) (lined 1 m)
text_again read cut spell rowed good m h = ap spelled (rows_again read cut (canonical_rows m) (good m h)) ∙ spell m h.some (rowed m h)
