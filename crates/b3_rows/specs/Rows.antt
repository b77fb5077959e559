-- What one line says.
use Rattle.std.specs.Prelude.{ℕ, Bool, true, false, ◌==◌, ◌&&◌, not, nat_eq, nat_le, is_some, if◌then◌else◌, List, [], ◌∷◌, length, codes, Option, Some, None, option_map, option_and_then, bytes_eq}
use Rattle.std.specs.List.{list_all}
use Rattle.std.specs.Option.{option_or}
use Rattle.b3_ir.specs.Names.{begins_name, may_stand_in_name}
use Rattle.b3_lines.specs.Lines.{are_ascii, before_comment, ends_in_cr}
use Rattle.b3_lines.specs.Tokens.{tokens, without_blanks_after}
use Rattle.b3_rows.specs.declared.row.Row.{Row}
use Rattle.b3_rows.specs.declared.row.Row.TheVariants.{Blank, Header, Slot, Heading, ValueRow, NoSuccessors, One, Two, Many, Bad}
use Rattle.b3_items.specs.Numbers.{after, plain_of, plain_after}
use Rattle.b3_items.specs.Items.{is_mark_of, onto_front}
use Rattle.b3_rows.specs.Values.{value_of}

-- ---- headers, slots, headings

unfoldable pub is_name_text : List ℕ → Bool
is_name_text name = nat_le (length name) 255 && begins_name name && list_all may_stand_in_name name

-- `procedure NAME`
unfoldable pub header_of : List (List ℕ) → Option (List ℕ)
header_of (word ∷ name ∷ []) = if bytes_eq word (codes "procedure") && is_name_text name then Some name else None
header_of _ = None

-- a plain number between a front and a colon, 58
unfoldable pub before_colon : List ℕ → Option (List ℕ)
before_colon [] = None
before_colon (b ∷ []) = if b == 58 then Some [] else None
before_colon (b ∷ c ∷ bytes) = option_map (λ (rest : List ℕ). b ∷ rest) (before_colon (c ∷ bytes))

unfoldable pub plain_between : List ℕ → List ℕ → Option ℕ
plain_between front text = option_and_then (plain_after front) (before_colon text)

abbrev pub slot_row : Option ℕ → Option ℕ → Option Row
slot_row (Some number) (Some bytes) = Some (Slot number bytes)
slot_row _ _ = None

-- `stackN: byteSize = N`
unfoldable pub slot_of_line : List (List ℕ) → Option Row
slot_of_line (slot ∷ word ∷ mark ∷ bytes ∷ []) =
    if bytes_eq word (codes "byteSize") && is_mark_of 61 mark
    then slot_row (plain_between (codes "stack") slot) (plain_of bytes)
    else None
slot_of_line _ = None

-- `BB#N:`
unfoldable pub heading_of : List (List ℕ) → Option Row
heading_of (t ∷ []) = option_map Heading (plain_between (codes "BB#") t)
heading_of _ = None

-- `Stack slots:`
unfoldable pub is_slots_line : List (List ℕ) → Bool
is_slots_line (a ∷ b ∷ []) = bytes_eq a (codes "Stack") && bytes_eq b (codes "slots:")
is_slots_line _ = false

-- ---- successors

-- `#N`
unfoldable pub one_of : List (List ℕ) → Option Row
one_of (t ∷ []) = option_map One (plain_after (codes "#") t)
one_of _ = None

abbrev pub two_row : Option ℕ → Option ℕ → Option Row
two_row (Some a) (Some b) = Some (Two a b)
two_row _ _ = None

-- `Then:#N, Else:#N`
unfoldable pub two_of : List (List ℕ) → Option Row
two_of (a ∷ mark ∷ b ∷ []) =
    if is_mark_of 44 mark then two_row (plain_after (codes "Then:#") a) (plain_after (codes "Else:#") b) else None
two_of _ = None

-- `#N, #N, fallThrough:#N`
unfoldable pub many_of : List (List ℕ) → Option (List ℕ)
many_of [] = None
many_of (t ∷ []) = option_map (λ n. n ∷ []) (plain_after (codes "fallThrough:#") t)
many_of (t ∷ mark ∷ more) =
    if is_mark_of 44 mark then option_and_then (λ n. onto_front (n ∷ []) (many_of more)) (plain_after (codes "#") t) else None

abbrev pub or_bad : Option Row → Row
or_bad None = Bad
or_bad (Some r) = r

-- behind `Successors:`
unfoldable pub successors_of : List (List ℕ) → Row
successors_of [] = NoSuccessors
successors_of (t ∷ ts) = or_bad (option_or (one_of (t ∷ ts)) (option_or (two_of (t ∷ ts)) (option_map Many (many_of (t ∷ ts)))))

-- ---- a line

unfoldable pub words_row : List (List ℕ) → Option Row
words_row ts = option_or (heading_of ts) (option_or (slot_of_line ts) (option_map Header (header_of ts)))

unfoldable pub carries_nothing : List (List ℕ) → Bool
carries_nothing [] = true
carries_nothing (t ∷ ts) = if is_some (after (codes "Predecessors:") t) then true else is_slots_line (t ∷ ts)

abbrev pub value_row : List ℕ → Option Row
value_row text = option_map ValueRow (value_of text)

unfoldable pub other_row : List ℕ → List (List ℕ) → Row
other_row text ts = or_bad (option_or (words_row ts) (value_row text))

-- a line without its comment and the blanks at its end
unfoldable pub row_in : List ℕ → List (List ℕ) → Row
row_in text [] = Blank
row_in text (t ∷ ts) =
    if carries_nothing (t ∷ ts) then Blank
    else (if bytes_eq t (codes "Successors:") then successors_of ts else other_row text (t ∷ ts))

-- no byte above 127 stands outside a comment, and no CR at the end
unfoldable pub is_clean : List ℕ → List ℕ → Bool
is_clean line text = are_ascii text && not (ends_in_cr line && nat_eq (length text) (length line))

unfoldable pub row_of_text : List ℕ → List ℕ → Row
row_of_text line text =
    if is_clean line text then row_in (without_blanks_after text) (tokens (without_blanks_after text)) else Bad

-- what a line says
unfoldable pub row_of_line : List ℕ → Row
row_of_line line = row_of_text line (before_comment line)
