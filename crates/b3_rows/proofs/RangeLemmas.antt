-- The ranges of what lines say.
use Rattle.std.proofs.Common.{◌≡◌, ◌≢◌, subst, ℕ, ◌<◌, ◌≤◌, ◌^◌, Bool, true, false, cond, ◌&&◌, List, [], ◌∷◌, length, Option, Some, None, arith}
use Rattle.std.specs.Prelude.{codes, bytes_eq, nat_le, IfSome, option_map}
use Rattle.std.specs.List.{list_all}
use Rattle.std.proofs.lemmas.Bool.{and_parts}
use Rattle.std.proofs.lemmas.Bool.Decides.{nat_tests}
use Rattle.b3_lines.specs.Lines.{before_comment}
use Rattle.b3_lines.specs.Tokens.{tokens, without_blanks_after}
use Rattle.b3_ir.specs.Names.{IsName, begins_name, may_stand_in_name}
use Rattle.b3_items.specs.Items.{is_mark_of, onto_front}
use Rattle.b3_items.specs.Numbers.{plain_after, plain_of}
use Rattle.b3_items.proofs.Ranges.{any_some, cond_some, map_some, or_some, plain_after_range, plain_range, test_some, then_some}
use Rattle.b3_rows.specs.declared.row.Row.{Row}
use Rattle.b3_rows.specs.declared.row.Row.TheVariants as rows
use Rattle.b3_rows.specs.Rows.{before_colon, carries_nothing, header_of, heading_of, is_clean, is_name_text, many_of, one_of, or_bad, other_row, plain_between, row_in, row_of_line, row_of_text, slot_of_line, slot_row, successors_of, two_of, two_row, words_row}
use Rattle.b3_rows.specs.Values.{value_of}
use Rattle.b3_rows.specs.Ranges.{AreTargets, IsInRange}
use Rattle.b3_rows.specs.Successors.{LinesFit}
use Rattle.b3_rows.proofs.FitLemmas.{later_fits, value_fits}

abbrev IsPlain : ℕ → Type 0
IsPlain n = n < 2 ^ 31

between_range : (front text : List ℕ) → IfSome (plain_between front text) IsPlain
unfolding plain_between
between_range front text = then_some (λ t. Unit {0}) IsPlain (plain_after front) (before_colon text) (any_some (before_colon text)) (λ t u.
    plain_after_range front t)

-- ---- names

short_of : (n : ℕ) → nat_le n 255 ≡ true → n ≤ 255
short_of n h = grind (arith, nat_tests)

is_name : (name : List ℕ) → is_name_text name ≡ true → IsName name
unfolding is_name_text
is_name name h =
    let last = and_parts (nat_le (length name) 255 && begins_name name) (list_all may_stand_in_name name) h in
    let both = and_parts (nat_le (length name) 255) (begins_name name) last.0 in
    record { begin = both.1; all = last.1; short = short_of (length name) both.0 }

header_range : (ts : List (List ℕ)) → IfSome (header_of ts) IsName
unfolding header_of
header_range [] = tt
header_range (a ∷ []) = tt
header_range (word ∷ name ∷ []) = test_some IsName (bytes_eq word (codes "procedure") && is_name_text name) name (λ h. is_name name (and_parts
    (bytes_eq word (codes "procedure")) (is_name_text name) h).1)
header_range (a ∷ b ∷ c ∷ ts) = tt

-- ---- slots, headings, successors

slot_row_range : (a b : Option ℕ) → IfSome a IsPlain → IfSome b IsPlain → IfSome (slot_row a b) IsInRange
slot_row_range None b h k = tt
slot_row_range (Some a) None h k = tt
slot_row_range (Some a) (Some b) h k = (h, k)

two_row_range : (a b : Option ℕ) → IfSome a IsPlain → IfSome b IsPlain → IfSome (two_row a b) IsInRange
two_row_range None b h k = tt
two_row_range (Some a) None h k = tt
two_row_range (Some a) (Some b) h k = (h, k)

slot_line_range : (ts : List (List ℕ)) → IfSome (slot_of_line ts) IsInRange
unfolding slot_of_line
slot_line_range [] = tt
slot_line_range (a ∷ []) = tt
slot_line_range (a ∷ b ∷ []) = tt
slot_line_range (a ∷ b ∷ c ∷ []) = tt
slot_line_range (a ∷ b ∷ c ∷ d ∷ []) =
    cond_some IsInRange (bytes_eq b (codes "byteSize") && is_mark_of 61 c) (slot_row (plain_between (codes "stack") a) (plain_of d)) None
    (slot_row_range (plain_between (codes "stack") a) (plain_of d) (between_range (codes "stack") a) (plain_range d)) tt
slot_line_range (a ∷ b ∷ c ∷ d ∷ e ∷ ts) = tt

heading_range : (ts : List (List ℕ)) → IfSome (heading_of ts) IsInRange
unfolding heading_of
heading_range [] = tt
heading_range (t ∷ []) = map_some IsInRange rows.Heading (plain_between (codes "BB#") t) (between_range (codes "BB#") t)
heading_range (t ∷ u ∷ ts) = tt

words_range : (ts : List (List ℕ)) → IfSome (words_row ts) IsInRange
unfolding words_row
words_range ts =
    or_some IsInRange (heading_of ts) _ (heading_range ts)
    (or_some IsInRange (slot_of_line ts) _ (slot_line_range ts) (map_some IsInRange rows.Header (header_of ts) (header_range ts)))

one_range : (ts : List (List ℕ)) → IfSome (one_of ts) IsInRange
unfolding one_of
one_range [] = tt
one_range (t ∷ []) = map_some IsInRange rows.One (plain_after (codes "#") t) (plain_after_range (codes "#") t)
one_range (t ∷ u ∷ ts) = tt

two_range : (ts : List (List ℕ)) → IfSome (two_of ts) IsInRange
unfolding two_of
two_range [] = tt
two_range (a ∷ []) = tt
two_range (a ∷ b ∷ []) = tt
two_range (a ∷ b ∷ c ∷ []) =
    cond_some IsInRange (is_mark_of 44 b) (two_row (plain_after (codes "Then:#") a) (plain_after (codes "Else:#") c)) None
    (two_row_range (plain_after (codes "Then:#") a) (plain_after (codes "Else:#") c) (plain_after_range (codes "Then:#") a) (plain_after_range
    (codes "Else:#") c)) tt
two_range (a ∷ b ∷ c ∷ d ∷ ts) = tt

abbrev HasLast : List ℕ → Type 0
HasLast targets = AreTargets targets × (targets ≢ [])

last_range : (n : Option ℕ) → IfSome n IsPlain → IfSome (option_map (λ n. n ∷ []) n) HasLast
last_range None h = tt
last_range (Some n) h = ((h, tt), λ e. absurd cc)

front_range : (n : ℕ) (more : Option (List ℕ)) → n < 2 ^ 31 → IfSome more HasLast → IfSome (onto_front (n ∷ []) more) HasLast
front_range n None h k = tt
front_range n (Some ts) h k = ((h, k.0), λ e. absurd cc)

many_range : (ts : List (List ℕ)) → IfSome (many_of ts) HasLast
unfolding many_of
many_range [] = tt
many_range (t ∷ []) = last_range (plain_after (codes "fallThrough:#") t) (plain_after_range (codes "fallThrough:#") t)
many_range (t ∷ mark ∷ more) =
    cond_some HasLast (is_mark_of 44 mark) _ None
    (then_some IsPlain HasLast (λ n. onto_front (n ∷ []) (many_of more)) (plain_after (codes "#") t) (plain_after_range (codes "#") t) (λ n h.
    front_range n (many_of more) h (many_range more))) tt

bad_range : (r : Option Row) → IfSome r IsInRange → IsInRange (or_bad r)
bad_range None h = tt
bad_range (Some r) h = h

cond_range : (x : Bool) (a b : Row) → IsInRange a → IsInRange b → IsInRange (cond x a b)
cond_range true a b p q = p
cond_range false a b p q = q

successors_range : (ts : List (List ℕ)) → IsInRange (successors_of ts)
unfolding successors_of
successors_range [] = tt
successors_range (t ∷ ts) =
    bad_range _ (or_some IsInRange (one_of (t ∷ ts)) _ (one_range (t ∷ ts)) (or_some IsInRange (two_of (t ∷ ts)) _ (two_range (t ∷ ts)) (map_some
    IsInRange rows.Many (many_of (t ∷ ts)) (many_range (t ∷ ts)))))

other_range : (text : List ℕ) (ts : List (List ℕ)) → IsInRange (other_row text ts)
unfolding other_row
other_range text ts = bad_range _ (or_some IsInRange (words_row ts) _ (words_range ts) (map_some IsInRange rows.ValueRow (value_of text)
    (value_fits text)))

in_range : (text : List ℕ) (ts : List (List ℕ)) → IsInRange (row_in text ts)
unfolding row_in
in_range text [] = tt
in_range text (t ∷ ts) =
    cond_range (carries_nothing (t ∷ ts)) rows.Blank _ tt
    (cond_range (bytes_eq t (codes "Successors:")) (successors_of ts) (other_row text (t ∷ ts)) (successors_range ts) (other_range text (t ∷ ts)))

pub row_range : (line : List ℕ) → IsInRange (row_of_line line)
unfolding row_of_line row_of_text
row_range line =
    cond_range (is_clean line (before_comment line)) _ rows.Bad (in_range (without_blanks_after (before_comment line)) (tokens (without_blanks_after
    (before_comment line)))) tt

pub lines_fit : LinesFit
lines_fit line v targets e = later_fits v targets (subst IsInRange e (row_range line))
