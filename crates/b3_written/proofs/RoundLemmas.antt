-- Rows are read again from their canonical lines.
use Rattle.std.proofs.Common.{◌≡◌, ℕ, ◌^◌, ◌<◌, Bool, true, false, not, ◌&&◌, nat_lt, nat_le, List, [], ◌∷◌, ◌++◌, length, Some, refl, sym, ◌∙◌, ap, append_assoc, arith, rules}
use Rattle.std.specs.Prelude.{◌==◌, codes}
use Rattle.std.specs.List.{list_all}
use Rattle.std.specs.Char.{is_ascii_digit}
use Rattle.std.specs.Str.{all_ascii_digits}
use Rattle.std.specs.Fmt.{decimal}
use Rattle.std.proofs.lemmas.Bool.{and_parts, le-leb, lt-ltb}
use Rattle.std.proofs.lemmas.Bool.Decides.{nat_tests}
use Rattle.std.proofs.lemmas.List.{take_at, drop_at, append-nil}
use Rattle.std.proofs.lemmas.Fmt.{digits_decimal, digits_value-decimal, decimal_nonempty, length-decimal-le}
use Rattle.b3_rows.proofs.RowLemmas.{colon_yes}
use Rattle.std.proofs.lemmas.Str.Parse.{IsNumeralModel, numerals_by_fold}
use Rattle.b3_lines.specs.Lines.{are_ascii, before_comment, ends_in_cr, is_ascii}
use Rattle.b3_lines.specs.Tokens.{begins_piece, is_blank, is_mark, onto_text, piece_len, stands_in_piece, tokens, without_blanks_after}
use Rattle.b3_lines.proofs.TokenLemmas.{both_fail, tokens_nil, tokens_piece}
use Rattle.b3_items.specs.Numbers.{plain_of, value_on}
use Rattle.b3_items.specs.Items.{is_mark_of}
use Rattle.b3_rows.specs.declared.row.Row.TheVariants.{Heading, One, Slot, Two}
use Rattle.b3_rows.specs.Rows.{carries_nothing, heading_of, is_clean, is_slots_line, one_of, other_row, plain_between, row_in, row_of_line, row_of_text, slot_of_line, successors_of, two_of, words_row}
use Rattle.b3_rows.specs.Written.{line_of_row}

pub own : IsNumeralModel (λ ds. all_ascii_digits ds ≡ true) (value_on 0)
own = numerals_by_fold _ (search rules) value_on (search rules)

pub and_true : (a b : Bool) → a ≡ true → b ≡ true → (a && b) ≡ true
and_true a b p q = rw (p, q) refl

-- ---- bytes that neither begin a comment nor end a line

unfoldable pub quiet : ℕ → Bool
quiet b = not (b == 59) && not (b == 47) && not (b == 13) && not (b == 10) && nat_lt b 128

pub record IsQuiet (b : ℕ) : Type 0 where
  pub semicolon : (b == 59) ≡ false
  pub slash : (b == 47) ≡ false
  pub cr : (b == 13) ≡ false
  pub ascii : nat_lt b 128 ≡ true

is_quiet : (b : ℕ) → quiet b ≡ true → IsQuiet b
unfolding quiet
is_quiet b h = record {
  semicolon = grind (arith, nat_tests);
  slash = grind (arith, nat_tests);
  cr = grind (arith, nat_tests);
  ascii = grind (
    arith,
    nat_tests,
  );
}

pub digit_quiet : (c : ℕ) → is_ascii_digit c ≡ true → quiet c ≡ true
unfolding quiet
digit_quiet c h = grind (arith, nat_tests)

pub digit_piece : (c : ℕ) → is_ascii_digit c ≡ true → stands_in_piece c ≡ true
unfolding is_blank is_mark
digit_piece c h = grind (arith, nat_tests)

-- what holds of each digit holds of digits, and of what follows them
pub digits_all : (p : ℕ → Bool) (ds rest : List ℕ) → ((c : ℕ) → is_ascii_digit c ≡ true → p c ≡ true) → all_ascii_digits ds ≡ true → list_all p rest ≡
    true → list_all p (ds ++ rest) ≡ true
digits_all p [] rest f h k = k
digits_all p (c ∷ cs) rest f h k =
    let both = and_parts (is_ascii_digit c) (all_ascii_digits cs) h in
    and_true _ _ (f c both.0) (digits_all p cs rest f both.1 k)

pub all_imply : (p q : ℕ → Bool) (xs : List ℕ) → ((c : ℕ) → p c ≡ true → q c ≡ true) → list_all p xs ≡ true → list_all q xs ≡ true
all_imply p q [] f h = refl
all_imply p q (x ∷ xs) f h =
    let both = and_parts (p x) (list_all p xs) h in
    and_true _ _ (f x both.0) (all_imply p q xs f both.1)

pub all_append : (p : ℕ → Bool) (a b : List ℕ) → list_all p a ≡ true → list_all p b ≡ true → list_all p (a ++ b) ≡ true
all_append p [] b h k = k
all_append p (x ∷ a) b h k = let both = and_parts (p x) (list_all p a) h in and_true _ _ both.0 (all_append p a b both.1 k)

no_comment : (line : List ℕ) → list_all quiet line ≡ true → before_comment line ≡ line
unfolding before_comment
no_comment [] h = refl
no_comment (b ∷ bytes) h =
    let both = and_parts (quiet b) (list_all quiet bytes) h in
    let q = is_quiet b both.0 in
    rw (q.semicolon, q.slash, no_comment bytes both.1) refl

no_wide : (line : List ℕ) → list_all quiet line ≡ true → list_all is_ascii line ≡ true
no_wide [] h = refl
no_wide (b ∷ bytes) h =
    let both = and_parts (quiet b) (list_all quiet bytes) h in
    and_true _ _ (is_quiet b both.0).ascii (no_wide bytes both.1)

no_cr : (line : List ℕ) → list_all quiet line ≡ true → ends_in_cr line ≡ false
unfolding ends_in_cr
no_cr [] h = refl
no_cr (b ∷ []) h = (is_quiet b (and_parts (quiet b) true h).0).cr
no_cr (b ∷ c ∷ bytes) h = no_cr (c ∷ bytes) (and_parts (quiet b) (list_all quiet (c ∷ bytes)) h).1

pub quiet_row : (line : List ℕ) → list_all quiet line ≡ true → without_blanks_after line ≡ line → row_of_line line ≡ row_in line (tokens line)
unfolding row_of_line row_of_text is_clean are_ascii
quiet_row line h e = rw (no_comment line h, no_wide line h, no_cr line h, e) refl

-- a text without a blank at its end
pub ink_end : (xs : List ℕ) (y : ℕ) (ys : List ℕ) → list_all stands_in_piece (y ∷ ys) ≡ true → without_blanks_after (xs ++ (y ∷ ys)) ≡ xs ++ (y ∷ ys)
unfolding without_blanks_after
ink_end [] y [] h = let both = both_fail (is_blank y) (is_mark y) (and_parts (stands_in_piece y) true h).0 in rw both.0 refl
ink_end [] y (z ∷ ys) h = ap (onto_text y) (ink_end [] z ys (and_parts (stands_in_piece y) (list_all stands_in_piece (z ∷ ys)) h).1)
ink_end (x ∷ []) y ys h = ap (onto_text x) (ink_end [] y ys h)
ink_end (x ∷ x2 ∷ xs) y ys h = ap (onto_text x) (ink_end (x2 ∷ xs) y ys h)

-- ---- pieces

ends_piece : (rest : List ℕ) → begins_piece rest ≡ false → piece_len rest ≡ 0
ends_piece [] h = refl
ends_piece (b ∷ rest) h = rw h refl

piece_whole : (t rest : List ℕ) → list_all stands_in_piece t ≡ true → begins_piece rest ≡ false → piece_len (t ++ rest) ≡ length t
piece_whole [] rest h k = ends_piece rest k
piece_whole (c ∷ t) rest h k =
    let both = and_parts (stands_in_piece c) (list_all stands_in_piece t) h in
    rw (both.0, piece_whole t rest both.1 k) refl

pub one_token : (b : ℕ) (t rest : List ℕ) → stands_in_piece b ≡ true → list_all stands_in_piece t ≡ true → begins_piece rest ≡ false → tokens (b ∷ (t ++
    rest)) ≡ (b ∷ t) ∷ tokens rest
one_token b t rest ink h k =
    let both = both_fail (is_blank b) (is_mark b) ink in
    let len = piece_whole t rest h k in
    tokens_piece b (t ++ rest) both.0 both.1 ∙ rw (len, take_at t rest (length t) refl, drop_at t rest (length t) refl) refl

pub token_alone : (b : ℕ) (t : List ℕ) → stands_in_piece b ≡ true → list_all stands_in_piece t ≡ true → tokens (b ∷ t) ≡ (b ∷ t) ∷ []
token_alone b t ink h =
    ap (λ (s : List ℕ). tokens (b ∷ s)) (sym (append-nil t)) ∙ one_token b t [] ink h refl ∙ ap (λ (ts : List (List ℕ)). (b ∷ t) ∷ ts) tokens_nil

-- ---- numbers

pub digits : (n : ℕ) → n < 2 ^ 31 → all_ascii_digits (decimal n) ≡ true
digits n h = digits_decimal own n (omega arith)

pub plain_again : (n : ℕ) → n < 2 ^ 31 → plain_of (decimal n) ≡ Some n
unfolding plain_of
plain_again n h =
    let some : nat_lt 0 (length (decimal n)) ≡ true = lt-ltb 0 (length (decimal n)) (decimal_nonempty n (omega arith)) in
    let short : nat_le (length (decimal n)) 10 ≡ true = le-leb (length (decimal n)) 10 (length-decimal-le 10 n (omega arith) (omega arith) (omega arith)) in
    let value : value_on 0 (decimal n) ≡ n = digits_value-decimal own n (omega arith) in
    let small : nat_lt n (2 ^ 31) ≡ true = lt-ltb n (2 ^ 31) h in
    rw (some, short, digits n h, value, small) refl

pub decimal_quiet : (n : ℕ) (rest : List ℕ) → n < 2 ^ 31 → list_all quiet rest ≡ true → list_all quiet (decimal n ++ rest) ≡ true
decimal_quiet n rest h k = digits_all quiet (decimal n) rest digit_quiet (digits n h) k

pub decimal_piece : (n : ℕ) (rest : List ℕ) → n < 2 ^ 31 → list_all stands_in_piece rest ≡ true → list_all stands_in_piece (decimal n ++ rest) ≡ true
decimal_piece n rest h k = digits_all stands_in_piece (decimal n) rest digit_piece (digits n h) k

pub alone_quiet : (n : ℕ) → n < 2 ^ 31 → list_all quiet (decimal n) ≡ true
alone_quiet n h = ap (list_all quiet) (sym (append-nil (decimal n))) ∙ decimal_quiet n [] h refl

pub alone_piece : (n : ℕ) → n < 2 ^ 31 → list_all stands_in_piece (decimal n) ≡ true
alone_piece n h = ap (list_all stands_in_piece) (sym (append-nil (decimal n))) ∙ decimal_piece n [] h refl

-- ---- one successor

one_tokens : (n : ℕ) → n < 2 ^ 31 → tokens (line_of_row (One n)) ≡ codes "Successors:" ∷ (codes "#" ++ decimal n) ∷ []
unfolding tokens is_blank is_mark
one_tokens n h = ap (λ (ts : List (List ℕ)). codes "Successors:" ∷ ts) (token_alone 35 (decimal n) refl (alone_piece n h))

one_in : (text : List ℕ) (n : ℕ) → n < 2 ^ 31 → row_in text (codes "Successors:" ∷ (codes "#" ++ decimal n) ∷ []) ≡ One n
unfolding row_in carries_nothing is_slots_line successors_of one_of
one_in text n h = rw (plain_again n h) refl

pub one_again : (n : ℕ) → n < 2 ^ 31 → row_of_line (line_of_row (One n)) ≡ One n
unfolding quiet is_blank is_mark
one_again n h =
    quiet_row (line_of_row (One n)) (alone_quiet n h) (ink_end (codes "  Successors: ") 35 (decimal n) (alone_piece n h))
    ∙ ap (row_in (line_of_row (One n))) (one_tokens n h) ∙ one_in (line_of_row (One n)) n h

-- ---- two successors

two_tokens : (a b : ℕ) → a < 2 ^ 31 → b < 2 ^ 31 → tokens (line_of_row (Two a b)) ≡ codes "Successors:" ∷ (codes "Then:#" ++ decimal a) ∷ codes "," ∷
    (codes "Else:#" ++ decimal b) ∷ []
unfolding tokens is_blank is_mark
two_tokens a b h k =
    ap (λ (ts : List (List ℕ)). codes "Successors:" ∷ ts)
    (one_token 84 (codes "hen:#" ++ decimal a) (codes ", Else:#" ++ decimal b) refl (alone_piece a h) refl
    ∙ ap (λ (ts : List (List ℕ)). (codes "Then:#" ++ decimal a) ∷ codes "," ∷ ts) (token_alone 69 (codes "lse:#" ++ decimal b) refl (alone_piece b k)))

two_in : (text : List ℕ) (a b : ℕ) → a < 2 ^ 31 → b < 2 ^ 31 → row_in text (codes "Successors:" ∷ (codes "Then:#" ++ decimal a) ∷ codes "," ∷ (codes
    "Else:#" ++ decimal b) ∷ []) ≡ Two a b
unfolding row_in carries_nothing is_slots_line successors_of one_of two_of is_mark_of
two_in text a b h k = rw (plain_again a h, plain_again b k) refl

two_ink : (a b : ℕ) → b < 2 ^ 31 → without_blanks_after (line_of_row (Two a b)) ≡ line_of_row (Two a b)
unfolding is_blank is_mark
two_ink a b k =
    let front : List ℕ = codes "  Successors: Then:#" ++ (decimal a ++ codes ", ") in
    let shape : front ++ (69 ∷ (codes "lse:#" ++ decimal b)) ≡ line_of_row (Two a b) = ap (λ (t : List ℕ). codes "  Successors: Then:#" ++ t)
    (append_assoc (decimal a) (codes ", ") (codes "Else:#" ++ decimal b)) in
    ap without_blanks_after (sym shape) ∙ ink_end front 69 (codes "lse:#" ++ decimal b) (alone_piece b k) ∙ shape

pub two_again : (a b : ℕ) → a < 2 ^ 31 → b < 2 ^ 31 → row_of_line (line_of_row (Two a b)) ≡ Two a b
unfolding quiet is_blank is_mark
two_again a b h k =
    quiet_row (line_of_row (Two a b)) (decimal_quiet a (codes ", Else:#" ++ decimal b) h (alone_quiet b k)) (two_ink a b k)
    ∙ ap (row_in (line_of_row (Two a b))) (two_tokens a b h k) ∙ two_in (line_of_row (Two a b)) a b h k

-- ---- headings

heading_shape : (n : ℕ) → (codes "BB#" ++ decimal n) ++ codes ":" ≡ line_of_row (Heading n)
heading_shape n = append_assoc (codes "BB#") (decimal n) (codes ":")

heading_tokens : (n : ℕ) → n < 2 ^ 31 → tokens (line_of_row (Heading n)) ≡ line_of_row (Heading n) ∷ []
unfolding is_blank is_mark
heading_tokens n h = token_alone 66 (codes "B#" ++ (decimal n ++ codes ":")) refl (decimal_piece n (codes ":") h refl)

heading_between : (n : ℕ) → n < 2 ^ 31 → plain_between (codes "BB#") (line_of_row (Heading n)) ≡ Some n
unfolding plain_between
heading_between n h = rw (colon_yes (line_of_row (Heading n)) (codes "BB#" ++ decimal n) 58 (sym (heading_shape n)) refl) (plain_again n h)

heading_in : (text : List ℕ) (n : ℕ) → n < 2 ^ 31 → row_in text (line_of_row (Heading n) ∷ []) ≡ Heading n
unfolding row_in carries_nothing is_slots_line other_row words_row heading_of
heading_in text n h = rw (heading_between n h) refl

pub heading_again : (n : ℕ) → n < 2 ^ 31 → row_of_line (line_of_row (Heading n)) ≡ Heading n
unfolding quiet is_blank is_mark
heading_again n h =
    quiet_row (line_of_row (Heading n)) (decimal_quiet n (codes ":") h refl) (ink_end [] 66 (codes "B#" ++ (decimal n ++ codes ":")) (decimal_piece n
    (codes ":") h refl))
    ∙ ap (row_in (line_of_row (Heading n))) (heading_tokens n h) ∙ heading_in (line_of_row (Heading n)) n h

-- ---- slots

pub piece_tokens : (ds : List ℕ) → 0 < length ds → list_all stands_in_piece ds ≡ true → tokens ds ≡ ds ∷ []
piece_tokens [] some h = absurd (omega arith)
piece_tokens (b ∷ t) some h =
    let both = and_parts (stands_in_piece b) (list_all stands_in_piece t) h in
    token_alone b t both.0 both.1

slot_tokens : (n b : ℕ) → n < 2 ^ 31 → b < 2 ^ 31 → tokens (line_of_row (Slot n b)) ≡ (codes "stack" ++ (decimal n ++ codes ":")) ∷ codes "byteSize"
    ∷ codes "=" ∷ decimal b ∷ []
unfolding tokens is_blank is_mark
slot_tokens n b h k =
    let rest = codes " byteSize = " ++ decimal b in
    let shape : codes "tack" ++ (decimal n ++ codes ":") ++ rest ≡ codes "tack" ++ (decimal n ++ (codes ":" ++ rest)) = ap (λ (t : List ℕ). codes
    "tack" ++ t) (append_assoc (decimal n) (codes ":") rest) in
    ap (λ (t : List ℕ). tokens (115 ∷ t)) (sym shape)
    ∙ one_token 115 (codes "tack" ++ (decimal n ++ codes ":")) rest refl (decimal_piece n (codes ":") h refl) refl
    ∙ ap (λ (ts : List (List ℕ)). (codes "stack" ++ (decimal n ++ codes ":")) ∷ codes "byteSize" ∷ codes "=" ∷ ts) (piece_tokens (decimal b)
    (decimal_nonempty b (omega arith)) (alone_piece b k))

slot_between : (n : ℕ) → n < 2 ^ 31 → plain_between (codes "stack") (codes "stack" ++ (decimal n ++ codes ":")) ≡ Some n
unfolding plain_between
slot_between n h = rw (colon_yes (codes "stack" ++ (decimal n ++ codes ":")) (codes "stack" ++ decimal n) 58 (sym (append_assoc (codes "stack")
    (decimal n) (codes ":"))) refl) (plain_again n h)

slot_in : (text : List ℕ) (n b : ℕ) → n < 2 ^ 31 → b < 2 ^ 31 → row_in text ((codes "stack" ++ (decimal n ++ codes ":")) ∷ codes "byteSize" ∷ codes
    "=" ∷ decimal b ∷ []) ≡ Slot n b
unfolding row_in carries_nothing is_slots_line other_row words_row heading_of slot_of_line is_mark_of
slot_in text n b h k = rw (slot_between n h, plain_again b k) refl

slot_ink_on : (n : ℕ) (ds : List ℕ) → 0 < length ds → list_all stands_in_piece ds ≡ true → without_blanks_after (codes "    stack" ++ (decimal n ++
    (codes ": byteSize = " ++ ds))) ≡ codes "    stack" ++ (decimal n ++ (codes ": byteSize = " ++ ds))
slot_ink_on n [] some h = absurd (omega arith)
slot_ink_on n (d ∷ ds) some h =
    let front : List ℕ = codes "    stack" ++ (decimal n ++ codes ": byteSize = ") in
    let shape : front ++ (d ∷ ds) ≡ codes "    stack" ++ (decimal n ++ (codes ": byteSize = " ++ (d ∷ ds))) = ap (λ (t : List ℕ). codes "    stack"
    ++ t) (append_assoc (decimal n) (codes ": byteSize = ") (d ∷ ds)) in
    ap without_blanks_after (sym shape) ∙ ink_end front d ds h ∙ shape

slot_ink : (n b : ℕ) → b < 2 ^ 31 → without_blanks_after (line_of_row (Slot n b)) ≡ line_of_row (Slot n b)
slot_ink n b k = slot_ink_on n (decimal b) (decimal_nonempty b (omega arith)) (alone_piece b k)

pub slot_again : (n b : ℕ) → n < 2 ^ 31 → b < 2 ^ 31 → row_of_line (line_of_row (Slot n b)) ≡ Slot n b
unfolding quiet is_blank is_mark
slot_again n b h k =
    quiet_row (line_of_row (Slot n b)) (decimal_quiet n (codes ": byteSize = " ++ decimal b) h (alone_quiet b k)) (slot_ink n b k)
    ∙ ap (row_in (line_of_row (Slot n b))) (slot_tokens n b h k) ∙ slot_in (line_of_row (Slot n b)) n b h k
