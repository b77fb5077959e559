-- Canonical lines are cut off again.
use Rattle.std.proofs.Common.{◌≡◌, ℕ, true, false, List, [], ◌∷◌, ◌++◌, refl, ap, arith}
use Rattle.std.specs.Prelude.{◌==◌, codes}
use Rattle.std.specs.Fmt.{decimal}
use Rattle.std.specs.List.{list_all}
use Rattle.std.proofs.lemmas.Bool.{and_parts}
use Rattle.std.proofs.lemmas.Bool.Decides.{nat_tests}
use Rattle.b3_lines.specs.Lines.{lines_of, onto_line}
use Rattle.b3_ir.specs.Names.{may_stand_in_name}
use Rattle.b3_rows.specs.declared.row.Row.{Row}
use Rattle.b3_rows.specs.declared.row.Row.TheVariants as rows
use Rattle.b3_rows.specs.Ranges.{IsGoodRow}
use Rattle.b3_rows.specs.Written.{line_of_row}
use Rattle.b3_written.proofs.NameLemmas.{name_quiet}
use Rattle.b3_written.proofs.RoundLemmas.{all_imply, alone_quiet, decimal_quiet, quiet}
use Rattle.b3_written.proofs.TargetLemmas.{quiet_targets}
use Rattle.b3_written.proofs.ValueAgain.{value_quiet}

row_quiet : (row : Row) → IsGoodRow row → list_all quiet (line_of_row row) ≡ true
unfolding quiet
row_quiet rows.Blank h = refl
row_quiet (rows.Header name) h = all_imply may_stand_in_name quiet name name_quiet h.all
row_quiet (rows.Slot number bytes) h = decimal_quiet number (codes ": byteSize = " ++ decimal bytes) h.0 (alone_quiet bytes h.1)
row_quiet (rows.Heading number) h = decimal_quiet number (codes ":") h refl
row_quiet (rows.ValueRow v) h = value_quiet v h
row_quiet rows.NoSuccessors h = refl
row_quiet (rows.One target) h = alone_quiet target h
row_quiet (rows.Two a b) h = decimal_quiet a (codes ", Else:#" ++ decimal b) h.0 (alone_quiet b h.1)
row_quiet (rows.Many []) h = absurd (h.1 refl)
row_quiet (rows.Many (n ∷ ts)) h = quiet_targets n ts h.0
row_quiet rows.Bad h = absurd h

no_lf : (b : ℕ) → quiet b ≡ true → (b == 10) ≡ false
unfolding quiet
no_lf b h = grind (arith, nat_tests)

no_return : (b : ℕ) → quiet b ≡ true → (b == 13) ≡ false
unfolding quiet
no_return b h = grind (arith, nat_tests)

cut : (line rest : List ℕ) → list_all quiet line ≡ true → lines_of (line ++ (10 ∷ rest)) ≡ line ∷ lines_of rest
unfolding lines_of
cut [] rest h = refl
cut (b ∷ line) rest h =
    let both = and_parts (quiet b) (list_all quiet line) h in
    rw (no_lf b both.0, no_return b both.0) (ap (onto_line b) (cut line rest both.1))

pub line_cut : (row : Row) → IsGoodRow row → (rest : List ℕ) → lines_of (line_of_row row ++ (10 ∷ rest)) ≡ line_of_row row ∷ lines_of rest
line_cut row h rest = cut (line_of_row row) rest (row_quiet row h)
