-- Lines that end a text behind each place.
use Rattle.std.proofs.Common.{◌≡◌, ℕ, zero, suc, ◌+◌, true, false, List, [], ◌∷◌, ◌++◌, Option, Some, None, refl, ap, ◌∙◌, arith}
use Rattle.std.specs.Prelude.{map, codes, option_map, replicate}
use Rattle.std.specs.Option.{option_or}
use Rattle.b3_lines.specs.Lines.{are_ascii, before_comment, ends_in_cr}
use Rattle.b3_lines.specs.Tokens.{is_blank, is_mark, onto_text, tokens, without_blanks_after}
use Rattle.b3_items.specs.Numbers.{plain_of}
use Rattle.b3_items.specs.Items.{is_mark_of, onto_front}
use Rattle.b3_rows.specs.declared.row.Row.{Row}
use Rattle.b3_rows.specs.declared.row.Row.TheVariants as rows
use Rattle.b3_rows.specs.Rows.{before_colon, carries_nothing, header_of, heading_of, is_clean, is_name_text, is_slots_line, many_of, one_of, or_bad, other_row, plain_between, row_in, row_of_line, row_of_text, slot_of_line, successors_of, two_of, words_row}
use Rattle.b3_module.specs.declared.place.Place.{Place}
use Rattle.b3_module.specs.declared.place.Place.TheVariants as places
use Rattle.b3_module.specs.Texts.{cases_in}
use Rattle.b3_module.proofs.Leading.{ending}

-- ---- the successors of a Switch whose targets are all 0

zeros : ℕ → List ℕ
zeros zero = codes "fallThrough:#0"
zeros (suc n) = codes "#0, " ++ zeros n

zero_tokens : ℕ → List (List ℕ)
zero_tokens zero = codes "fallThrough:#0" ∷ []
zero_tokens (suc n) = codes "#0" ∷ codes "," ∷ zero_tokens n

zeros_line : ℕ → List ℕ
zeros_line n = codes "Successors: " ++ zeros n

zeros_comment : (n : ℕ) → before_comment (zeros n) ≡ zeros n
unfolding zeros before_comment
zeros_comment zero = refl
zeros_comment (suc n) = ap (λ (x : List ℕ). codes "#0, " ++ x) (zeros_comment n)

line_comment : (n : ℕ) → before_comment (zeros_line n) ≡ zeros_line n
unfolding zeros_line before_comment
line_comment n = ap (λ (x : List ℕ). codes "Successors: " ++ x) (zeros_comment n)

blank_onto : (n : ℕ) → onto_text 32 (zeros n) ≡ 32 ∷ zeros n
unfolding zeros
blank_onto zero = refl
blank_onto (suc n) = refl

zeros_blanks : (n : ℕ) → without_blanks_after (zeros n) ≡ zeros n
unfolding zeros without_blanks_after is_blank
zeros_blanks zero = refl
zeros_blanks (suc n) = ap (λ (x : List ℕ). onto_text 35 (onto_text 48 (onto_text 44 (onto_text 32 x)))) (zeros_blanks n) ∙ ap (λ (x : List ℕ). onto_text 35 (onto_text 48 (onto_text 44 x))) (blank_onto n)

line_blanks : (n : ℕ) → without_blanks_after (zeros_line n) ≡ zeros_line n
unfolding zeros_line without_blanks_after is_blank
line_blanks n =
    let front = λ (x : List ℕ). onto_text 83 (onto_text 117 (onto_text 99 (onto_text 99 (onto_text 101 (onto_text 115 (onto_text 115 (onto_text 111 (onto_text 114 (onto_text 115 (onto_text 58 x)))))))))) in
    ap (λ (x : List ℕ). front (onto_text 32 x)) (zeros_blanks n) ∙ ap front (blank_onto n)

zeros_ascii : (n : ℕ) → are_ascii (zeros n) ≡ true
unfolding zeros are_ascii
zeros_ascii zero = refl
zeros_ascii (suc n) = zeros_ascii n

line_ascii : (n : ℕ) → are_ascii (zeros_line n) ≡ true
unfolding zeros_line are_ascii
line_ascii n = zeros_ascii n

blank_cr : (n : ℕ) → ends_in_cr (32 ∷ zeros n) ≡ ends_in_cr (zeros n)
unfolding zeros ends_in_cr
blank_cr zero = refl
blank_cr (suc n) = refl

zeros_cr : (n : ℕ) → ends_in_cr (zeros n) ≡ false
unfolding zeros ends_in_cr
zeros_cr zero = refl
zeros_cr (suc n) = blank_cr n ∙ zeros_cr n

line_cr : (n : ℕ) → ends_in_cr (zeros_line n) ≡ false
unfolding zeros_line ends_in_cr
line_cr n = blank_cr n ∙ zeros_cr n

line_clean : (n : ℕ) → is_clean (zeros_line n) (zeros_line n) ≡ true
unfolding is_clean
line_clean n = rw (line_ascii n, line_cr n) refl

zeros_tokens : (n : ℕ) → tokens (zeros n) ≡ zero_tokens n
unfolding zeros zero_tokens tokens is_blank is_mark
zeros_tokens zero = refl
zeros_tokens (suc n) = ap (λ (x : List (List ℕ)). codes "#0" ∷ codes "," ∷ x) (zeros_tokens n)

line_tokens : (n : ℕ) → tokens (zeros_line n) ≡ codes "Successors:" ∷ zero_tokens n
unfolding zeros_line tokens is_blank is_mark
line_tokens n = ap (λ (x : List (List ℕ)). codes "Successors:" ∷ x) (zeros_tokens n)

zeros_many : (n : ℕ) → many_of (zero_tokens n) ≡ Some (replicate (suc n) 0)
unfolding zero_tokens many_of is_mark_of plain_of
zeros_many zero = refl
zeros_many (suc n) = ap (λ (o : Option (List ℕ)). onto_front (0 ∷ []) o) (zeros_many n)

zeros_one : (n : ℕ) → one_of (zero_tokens n) ≡ None
unfolding zero_tokens one_of plain_of
zeros_one zero = refl
zeros_one (suc zero) = refl
zeros_one (suc (suc n)) = refl

zeros_two : (n : ℕ) → two_of (zero_tokens n) ≡ None
unfolding zero_tokens two_of is_mark_of plain_of
zeros_two zero = refl
zeros_two (suc zero) = refl
zeros_two (suc (suc zero)) = refl
zeros_two (suc (suc (suc n))) = refl

zeros_some : (n : ℕ) → successors_of (zero_tokens n) ≡ or_bad (option_or (one_of (zero_tokens n)) (option_or (two_of (zero_tokens n)) (option_map rows.Many (many_of (zero_tokens n)))))
unfolding successors_of zero_tokens
zeros_some zero = refl
zeros_some (suc n) = refl

zeros_successors : (n : ℕ) → successors_of (zero_tokens n) ≡ rows.Many (replicate (suc n) 0)
zeros_successors n = zeros_some n ∙ rw (zeros_one n, zeros_two n, zeros_many n) refl

zeros_carry : (n : ℕ) → carries_nothing (codes "Successors:" ∷ zero_tokens n) ≡ false
unfolding zero_tokens carries_nothing is_slots_line
zeros_carry zero = refl
zeros_carry (suc zero) = refl
zeros_carry (suc (suc n)) = refl

zeros_row : (text : List ℕ) (n : ℕ) → row_in text (codes "Successors:" ∷ zero_tokens n) ≡ successors_of (zero_tokens n)
unfolding row_in
zeros_row text n = rw (zeros_carry n) refl

clean_row : (line : List ℕ) (ts : List (List ℕ)) → before_comment line ≡ line → is_clean line line ≡ true → without_blanks_after line ≡ line → tokens line ≡ ts → row_of_line line ≡ row_in line ts
unfolding row_of_line row_of_text
clean_row line ts comment clean blanks cut = rw (comment, clean, blanks, cut) refl

many_line : (n : ℕ) → row_of_line (zeros_line n) ≡ rows.Many (replicate (suc n) 0)
many_line n = clean_row (zeros_line n) (codes "Successors:" ∷ zero_tokens n) (line_comment n) (line_clean n) (line_blanks n) (line_tokens n) ∙ zeros_row (zeros_line n) n ∙ zeros_successors n

-- ---- the other lines

header_line : row_of_line (codes "procedure f") ≡ rows.Header (codes "f")
unfolding before_comment are_ascii ends_in_cr tokens is_blank is_mark without_blanks_after plain_of is_mark_of is_name_text header_of before_colon
    plain_between slot_of_line heading_of is_slots_line words_row carries_nothing other_row row_in is_clean row_of_text row_of_line
header_line = refl

heading_line : row_of_line (codes "BB#0:") ≡ rows.Heading 0
unfolding before_comment are_ascii ends_in_cr tokens is_blank is_mark without_blanks_after plain_of is_mark_of is_name_text header_of before_colon
    plain_between slot_of_line heading_of is_slots_line words_row carries_nothing other_row row_in is_clean row_of_text row_of_line
heading_line = refl

one_line : row_of_line (codes "Successors: #0") ≡ rows.One 0
unfolding before_comment are_ascii ends_in_cr tokens is_blank is_mark without_blanks_after plain_of is_mark_of one_of two_of many_of successors_of
    is_slots_line carries_nothing row_in is_clean row_of_text row_of_line
one_line = refl

two_line : row_of_line (codes "Successors: Then:#0, Else:#0") ≡ rows.Two 0 0
unfolding before_comment are_ascii ends_in_cr tokens is_blank is_mark without_blanks_after plain_of is_mark_of one_of two_of many_of successors_of
    is_slots_line carries_nothing row_in is_clean row_of_text row_of_line
two_line = refl

pair : (a b : List ℕ) (x y : Row) → row_of_line a ≡ x → row_of_line b ≡ y → map row_of_line (a ∷ b ∷ []) ≡ x ∷ y ∷ []
pair a b x y e f = rw (e, f) refl

single : (a : List ℕ) (x : Row) → row_of_line a ≡ x → map row_of_line (a ∷ []) ≡ x ∷ []
single a x e = rw e refl

-- lines that end a text behind each place
pub ending_lines : (place : Place) → (lines : List (List ℕ)) × (map row_of_line lines ≡ ending place)
ending_lines places.Outside = (codes "procedure f" ∷ codes "BB#0:" ∷ [], pair (codes "procedure f") (codes "BB#0:") (rows.Header (codes "f")) (rows.Heading 0) header_line heading_line)
ending_lines places.Slots = (codes "BB#0:" ∷ [], single (codes "BB#0:") (rows.Heading 0) heading_line)
ending_lines places.Values = ([], refl)
ending_lines places.Returned = ([], refl)
ending_lines (places.Jump v) = (codes "Successors: #0" ∷ [], single (codes "Successors: #0") (rows.One 0) one_line)
ending_lines (places.Branch v) = (codes "Successors: Then:#0, Else:#0" ∷ [], single (codes "Successors: Then:#0, Else:#0") (rows.Two 0 0) two_line)
ending_lines (places.Switch v) =
    let n : suc (cases_in v.body) ≡ cases_in v.body + 1 = omega arith in
    (zeros_line (cases_in v.body) ∷ [], single (zeros_line (cases_in v.body)) (rows.Many (replicate (cases_in v.body + 1) 0)) (many_line (cases_in v.body) ∙ ap (λ (k : ℕ). rows.Many (replicate k 0)) n))
