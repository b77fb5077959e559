-- What one line of a trial says.
use Rattle.std.specs.Prelude.{ℕ, suc, ◌+◌, ◌*◌, ◌^◌, ◌==◌, nat_lt, if◌then◌else◌, List, [], ◌∷◌, ◌++◌, length, take, drop, codes, Option, Some, None, option_map, option_and_then, bytes_eq}
use Rattle.b3_lines.specs.Lines.{before_comment}
use Rattle.b3_lines.specs.Tokens.{tokens}
use Rattle.b3_items.specs.Numbers.{begins_hex, below, has_up_to, hex_digit, plain_after}
use Rattle.b3_rows.specs.declared.row.Row.{Row}
use Rattle.b3_rows.specs.declared.row.Row.TheVariants as rows
use Rattle.b3_rows.specs.Rows.{row_of_line}
use Rattle.b3_trial.specs.declared.line.Line.{Line}
use Rattle.b3_trial.specs.declared.line.Line.TheVariants.{Nothing, Procedure, Register, StackPointer, Code, Blocks, Steps, Mapped, Stack, Junk, Leave, Give}
use Rattle.b3_trial.specs.declared.line.Piece.{Piece}

-- a list in front of another, where there is one
abbrev pub onto : {A : Type 0} → List A → Option (List A) → Option (List A)
onto front None = None
onto front (Some more) = Some (front ++ more)

-- ---- words and bytes

-- the number of these digits in a base, behind a number
abbrev pub value_on : ℕ → ℕ → List ℕ → Option ℕ
value_on base n [] = Some n
value_on base n (c ∷ cs) = option_and_then (λ digit. value_on base (n * base + digit) cs) (below base (hex_digit c))

-- 1 to `most` digits
unfoldable pub digits_word : ℕ → ℕ → List ℕ → Option ℕ
digits_word base most text = if has_up_to most text then below (2 ^ 64) (value_on base 0 text) else None

-- a word below 2^64: 1 to 20 digits, or `0x` and 1 to 16 hexadecimal digits of either letter case
unfoldable pub word_of : List ℕ → Option ℕ
word_of text = if begins_hex text then digits_word 16 16 (drop 2 text) else digits_word 10 20 text

-- two hexadecimal digits are a byte
abbrev pub pair_of : Option ℕ → Option ℕ → Option ℕ
pair_of (Some high) (Some low) = Some (high * 16 + low)
pair_of (Some high) None = None
pair_of None low = None

abbrev pub hex_byte : ℕ → ℕ → Option ℕ
hex_byte high low = pair_of (hex_digit high) (hex_digit low)

unfoldable pub hex_bytes : List ℕ → Option (List ℕ)
hex_bytes [] = Some []
hex_bytes (high ∷ []) = None
hex_bytes (high ∷ low ∷ more) = option_and_then (λ byte. onto (byte ∷ []) (hex_bytes more)) (hex_byte high low)

-- bytes: an even and positive number of hexadecimal digits
unfoldable pub bytes_of : List ℕ → Option (List ℕ)
bytes_of text = if nat_lt 0 (length text) then hex_bytes text else None

-- ---- pieces

-- bytes from an address on
abbrev pub piece_with : Option ℕ → Option (List ℕ) → Option Piece
piece_with (Some address) (Some bytes) = Some (record { address = address; bytes = bytes })
piece_with (Some address) None = None
piece_with None bytes = None

-- how many bytes stand before the first colon, 58
abbrev pub colon_at : List ℕ → ℕ
colon_at [] = 0
colon_at (b ∷ bytes) = if b == 58 then 0 else suc (colon_at bytes)

abbrev pub piece_in : List ℕ → List ℕ → Option Piece
piece_in word [] = None
piece_in word (colon ∷ hex) = piece_with (word_of word) (bytes_of hex)

-- `W:HEX`
unfoldable pub piece_of : List ℕ → Option Piece
piece_of text = piece_in (take (colon_at text) text) (drop (colon_at text) text)

unfoldable pub pieces_of : List (List ℕ) → Option (List Piece)
pieces_of [] = Some []
pieces_of (t ∷ ts) = option_and_then (λ piece. onto (piece ∷ []) (pieces_of ts)) (piece_of t)

-- ---- what stands behind the first word of a line

abbrev pub lone_word : List (List ℕ) → Option ℕ
lone_word (word ∷ []) = word_of word
lone_word _ = None

-- `W HEX`
abbrev pub lone_piece : List (List ℕ) → Option Piece
lone_piece (word ∷ hex ∷ []) = piece_with (word_of word) (bytes_of hex)
lone_piece _ = None

abbrev pub leave_line : List (List ℕ) → Option Line
leave_line [] = Some Leave
leave_line _ = None

abbrev pub give_with : Option ℕ → Option (List Piece) → Option Line
give_with (Some value) (Some writes) = Some (Give value writes)
give_with (Some value) None = None
give_with None writes = None

-- `W`, then any number of `W:HEX`
abbrev pub give_line : List (List ℕ) → Option Line
give_line [] = None
give_line (value ∷ writes) = give_with (word_of value) (pieces_of writes)

-- a line of a keyword and a word
unfoldable pub word_line : List ℕ → ℕ → Option Line
word_line keyword word =
    if bytes_eq keyword (codes "sp") then Some (StackPointer word)
    else (if bytes_eq keyword (codes "code") then Some (Code word)
    else (if bytes_eq keyword (codes "blocks") then Some (Blocks word)
    else (if bytes_eq keyword (codes "steps") then Some (Steps word)
    else (if bytes_eq keyword (codes "junk") then Some (Junk word)
    else option_map (λ number. Register number word) (plain_after (codes "x") keyword)))))

-- ---- a line

unfoldable pub words_line : List (List ℕ) → Option Line
words_line [] = None
words_line (word ∷ rest) =
    if bytes_eq word (codes "leave") then leave_line rest
    else (if bytes_eq word (codes "give") then give_line rest
    else (if bytes_eq word (codes "bytes") then option_map Mapped (lone_piece rest)
    else (if bytes_eq word (codes "stack") then option_map Stack (lone_piece rest)
    else option_and_then (word_line word) (lone_word rest))))

-- the lines that carry nothing in a module's text carry nothing here, and the header of a procedure is written as
-- it is there
abbrev pub line_at : Row → List ℕ → Option Line
line_at rows.Blank line = Some Nothing
line_at (rows.Header name) line = Some (Procedure name)
line_at row line = words_line (tokens (before_comment line))

unfoldable pub line_of : List ℕ → Option Line
line_of line = line_at (row_of_line line) line
