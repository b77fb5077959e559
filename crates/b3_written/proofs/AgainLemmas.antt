-- Each row is read again from its canonical line.
use Rattle.std.proofs.Common.{◌≡◌, [], ◌∷◌, refl}
use Rattle.b3_lines.specs.Lines.{are_ascii, before_comment, ends_in_cr}
use Rattle.b3_lines.specs.Tokens.{is_blank, is_mark, tokens, without_blanks_after}
use Rattle.b3_rows.specs.declared.row.Row.{Row}
use Rattle.b3_rows.specs.declared.row.Row.TheVariants.{Blank, Header, Slot, Heading, ValueRow, NoSuccessors, One, Two, Many, Bad}
use Rattle.b3_rows.specs.Ranges.{IsGoodRow}
use Rattle.b3_rows.specs.Rows.{carries_nothing, is_clean, is_slots_line, row_in, row_of_line, row_of_text, successors_of}
use Rattle.b3_rows.specs.Written.{line_of_row}
use Rattle.b3_written.proofs.NameLemmas.{header_again}
use Rattle.b3_written.proofs.RoundLemmas.{heading_again, one_again, slot_again, two_again}
use Rattle.b3_written.proofs.TargetLemmas.{many_again}
use Rattle.b3_written.proofs.ValueAgain.{row_again}

blank_again : row_of_line (line_of_row Blank) ≡ Blank
unfolding row_of_line row_of_text is_clean are_ascii before_comment ends_in_cr without_blanks_after tokens row_in
blank_again = refl

none_again : row_of_line (line_of_row NoSuccessors) ≡ NoSuccessors
unfolding row_of_line row_of_text is_clean are_ascii before_comment ends_in_cr without_blanks_after tokens row_in is_blank is_mark carries_nothing is_slots_line successors_of
none_again = refl

pub each_again : (row : Row) → IsGoodRow row → row_of_line (line_of_row row) ≡ row
each_again Blank h = blank_again
each_again (Header name) h = header_again name h
each_again (Slot number bytes) h = slot_again number bytes h.0 h.1
each_again (Heading number) h = heading_again number h
each_again (ValueRow v) h = row_again v h
each_again NoSuccessors h = none_again
each_again (One target) h = one_again target h
each_again (Two a b) h = two_again a b h.0 h.1
each_again (Many []) h = absurd (h.1 refl)
each_again (Many (n ∷ ts)) h = many_again n ts h.0
each_again Bad h = absurd h
