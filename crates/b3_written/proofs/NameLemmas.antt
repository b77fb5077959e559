-- The header of a procedure is read again.
use Rattle.std.proofs.Common.{◌≡◌, ℕ, true, false, List, [], ◌∷◌, length, refl, ◌∙◌, ap, arith}
use Rattle.std.specs.Prelude.{codes}
use Rattle.std.specs.List.{list_all}
use Rattle.std.proofs.lemmas.Bool.{and_parts, le-leb}
use Rattle.std.proofs.lemmas.Bool.Decides.{nat_tests}
use Rattle.b3_lines.specs.Tokens.{is_blank, is_mark, stands_in_piece, tokens}
use Rattle.b3_ir.specs.Names.{IsName, may_stand_in_name}
use Rattle.b3_rows.specs.declared.row.Row.TheVariants.{Header}
use Rattle.b3_rows.specs.Rows.{carries_nothing, header_of, heading_of, is_name_text, is_slots_line, other_row, row_in, row_of_line, slot_of_line, words_row}
use Rattle.b3_rows.specs.Written.{line_of_row}
use Rattle.b3_written.proofs.RoundLemmas.{all_imply, ink_end, quiet, quiet_row, token_alone}

pub name_quiet : (c : ℕ) → may_stand_in_name c ≡ true → quiet c ≡ true
unfolding quiet
name_quiet c h = grind (arith, nat_tests)

name_piece : (c : ℕ) → may_stand_in_name c ≡ true → stands_in_piece c ≡ true
unfolding is_blank is_mark
name_piece c h = grind (arith, nat_tests)

name_test : (name : List ℕ) → IsName name → is_name_text name ≡ true
unfolding is_name_text
name_test name h = rw (le-leb (length name) 255 h.short, h.begin, h.all) refl

header_tokens : (b : ℕ) (bytes : List ℕ) → list_all stands_in_piece (b ∷ bytes) ≡ true → tokens (line_of_row (Header (b ∷ bytes))) ≡ codes
    "procedure" ∷ (b ∷ bytes) ∷ []
unfolding tokens is_blank is_mark
header_tokens b bytes h =
    let both = and_parts (stands_in_piece b) (list_all stands_in_piece bytes) h in
    ap (λ (ts : List (List ℕ)). codes "procedure" ∷ ts) (token_alone b bytes both.0 both.1)

header_in : (text name : List ℕ) → is_name_text name ≡ true → row_in text (codes "procedure" ∷ name ∷ []) ≡ Header name
unfolding row_in carries_nothing is_slots_line other_row words_row heading_of slot_of_line header_of
header_in text name h = rw h refl

header_some : (b : ℕ) (bytes : List ℕ) → IsName (b ∷ bytes) → row_of_line (line_of_row (Header (b ∷ bytes))) ≡ Header (b ∷ bytes)
unfolding quiet
header_some b bytes h =
    let pieces = all_imply may_stand_in_name stands_in_piece (b ∷ bytes) name_piece h.all in
    quiet_row (line_of_row (Header (b ∷ bytes))) (all_imply may_stand_in_name quiet (b ∷ bytes) name_quiet h.all) (ink_end (codes "procedure ") b
    bytes pieces)
    ∙ ap (row_in (line_of_row (Header (b ∷ bytes)))) (header_tokens b bytes pieces) ∙ header_in (line_of_row (Header (b ∷ bytes))) (b ∷ bytes)
    (name_test (b ∷ bytes) h)

no_name : IsName [] → ⊥
no_name h = let off : false ≡ true = h.begin in absurd cc

pub header_again : (name : List ℕ) → IsName name → row_of_line (line_of_row (Header name)) ≡ Header name
header_again [] h = absurd (no_name h)
header_again (b ∷ bytes) h = header_some b bytes h
