-- Texts of items, and what is read in them.
use Rattle.std.proofs.Common.{◌≡◌, ℕ, ◌<◌, Bool, true, false, not, ◌&&◌, List, [], ◌∷◌, ◌++◌, length, Some, refl, sym, ◌∙◌, ap, append_assoc, append-nil, arith}
use Rattle.std.specs.Prelude.{◌==◌, codes}
use Rattle.std.specs.Char.{is_ascii_digit}
use Rattle.std.specs.List.{AllByRecursion, list_all}
use Rattle.std.proofs.lemmas.Bool.{and_parts}
use Rattle.std.proofs.lemmas.Bool.Decides.{nat_tests}
use Rattle.b3_lines.specs.Tokens.{begins_piece, is_blank, is_mark, stands_in_piece, tokens}
use Rattle.b3_lines.proofs.TokenLemmas.{both_fail}
use Rattle.b3_items.specs.declared.items.Item.{Item}
use Rattle.b3_items.specs.Items.{cut_items, item_of, stays_inside}
use Rattle.b3_rows.specs.Written.{in_brackets, joined}
use Rattle.b3_written.proofs.RoundLemmas.{all_append, all_imply, and_true, digit_piece, digit_quiet, one_token, piece_tokens, quiet}

-- ---- pieces

unfoldable pub piece_byte : ℕ → Bool
piece_byte b = stands_in_piece b && quiet b

pub record IsPiece (text : List ℕ) : Type 0 where
  pub some : 0 < length text
  pub all : list_all piece_byte text ≡ true

byte_piece : (b : ℕ) → piece_byte b ≡ true → stands_in_piece b ≡ true
unfolding piece_byte
byte_piece b h = (and_parts (stands_in_piece b) (quiet b) h).0

byte_quiet : (b : ℕ) → piece_byte b ≡ true → quiet b ≡ true
unfolding piece_byte
byte_quiet b h = (and_parts (stands_in_piece b) (quiet b) h).1

pub digit_byte : (c : ℕ) → is_ascii_digit c ≡ true → piece_byte c ≡ true
unfolding piece_byte
digit_byte c h = and_true _ _ (digit_piece c h) (digit_quiet c h)

pub stands : (text : List ℕ) → IsPiece text → list_all stands_in_piece text ≡ true
stands text h = all_imply piece_byte stands_in_piece text byte_piece h.all

pub is_quiet_piece : (text : List ℕ) → IsPiece text → list_all quiet text ≡ true
is_quiet_piece text h = all_imply piece_byte quiet text byte_quiet h.all

pub alone : (text : List ℕ) → IsPiece text → tokens text ≡ text ∷ []
alone text h = piece_tokens text h.some (stands text h)

then_on : (text rest : List ℕ) → 0 < length text → list_all stands_in_piece text ≡ true → begins_piece rest ≡ false → tokens (text ++ rest) ≡ text ∷ tokens rest
then_on [] rest some h k = absurd (omega arith)
then_on (b ∷ text) rest some h k =
    let both = and_parts (stands_in_piece b) (list_all stands_in_piece text) h in
    one_token b text rest both.0 both.1 k

-- a piece before what begins none
pub then_tokens : (text rest : List ℕ) → IsPiece text → begins_piece rest ≡ false → tokens (text ++ rest) ≡ text ∷ tokens rest
then_tokens text rest h k = then_on text rest h.some (stands text h) k

-- ---- one item

-- neither a comma nor a bracket
unfoldable pub calm : ℕ → Bool
calm b = not (b == 44) && not (b == 91) && not (b == 93)

-- no comma outside brackets
unfoldable pub is_one : Bool → List ℕ → Bool
is_one inside [] = not inside
is_one inside (b ∷ bytes) = not ((b == 44) && not inside) && is_one (stays_inside inside b) bytes

calm_ends : (b : ℕ) → calm b ≡ true → ((b == 44) && not false) ≡ false
unfolding calm
calm_ends b h = grind (arith, nat_tests)

calm_stays : (b : ℕ) → calm b ≡ true → stays_inside false b ≡ false
unfolding calm
calm_stays b h = grind (arith, nat_tests)

pub calm_before : (text rest : List ℕ) → list_all calm text ≡ true → is_one false (text ++ rest) ≡ is_one false rest
unfolding is_one
calm_before [] rest h = refl
calm_before (b ∷ text) rest h =
    let both = and_parts (calm b) (list_all calm text) h in
    rw (calm_ends b both.0, calm_stays b both.0) (calm_before text rest both.1)

pub calm_one : (text : List ℕ) → list_all calm text ≡ true → is_one false text ≡ true
unfolding is_one
calm_one text h = ap (is_one false) (sym (append-nil text)) ∙ calm_before text [] h

inside_stays : (b : ℕ) → not (b == 93) ≡ true → stays_inside true b ≡ true
inside_stays b h = grind (arith, nat_tests)

and_off : (x : Bool) → (x && false) ≡ false
and_off true = refl
and_off false = refl

-- up to a bracket that closes
pub closed_one : (text : List ℕ) → list_all (λ b. not (b == 93)) text ≡ true → is_one true (text ++ 93 ∷ []) ≡ true
unfolding is_one
closed_one [] h = refl
closed_one (b ∷ text) h =
    let both = and_parts (not (b == 93)) (list_all (λ b. not (b == 93)) text) h in
    rw (and_off (b == 44), inside_stays b both.0) (closed_one text both.1)

not_true : (x : Bool) → not x ≡ true → x ≡ false
not_true true h = absurd cc
not_true false h = refl

pub one_and_more : (inside : Bool) (item rest : List ℕ) → is_one inside item ≡ true → cut_items inside (item ++ 44 ∷ rest) ≡ item ∷ cut_items false rest
unfolding cut_items is_one
one_and_more true [] rest h = absurd cc
one_and_more false [] rest h = refl
one_and_more inside (b ∷ bytes) rest h =
    let both = and_parts (not ((b == 44) && not inside)) (is_one (stays_inside inside b) bytes) h in
    rw (not_true ((b == 44) && not inside) both.0, one_and_more (stays_inside inside b) bytes rest both.1) refl

pub one_alone : (inside : Bool) (item : List ℕ) → is_one inside item ≡ true → cut_items inside item ≡ item ∷ []
unfolding cut_items is_one
one_alone inside [] h = refl
one_alone inside (b ∷ bytes) h =
    let both = and_parts (not ((b == 44) && not inside)) (is_one (stays_inside inside b) bytes) h in
    rw (not_true ((b == 44) && not inside) both.0, one_alone (stays_inside inside b) bytes both.1) refl

-- ---- what a text of an item is

abbrev pub begins_ink : List ℕ → Bool
begins_ink [] = false
begins_ink (b ∷ bytes) = not (is_blank b)

-- the text of one item, which it says
pub record Says (text : List ℕ) (i : Item) : Type 0 where
  pub item : item_of (tokens text) ≡ Some i
  pub one : is_one false text ≡ true
  pub quiet : list_all quiet text ≡ true
  pub ink : begins_ink text ≡ true

byte_calm : (b : ℕ) → piece_byte b ≡ true → calm b ≡ true
unfolding piece_byte calm is_blank is_mark
byte_calm b h = grind (arith, nat_tests)

pub piece_calm : (text : List ℕ) → IsPiece text → list_all calm text ≡ true
piece_calm text h = all_imply piece_byte calm text byte_calm h.all

ink_on : (b : ℕ) → stands_in_piece b ≡ true → not (is_blank b) ≡ true
ink_on b h = let both = both_fail (is_blank b) (is_mark b) h in rw both.0 refl

ink_before : (text rest : List ℕ) → 0 < length text → list_all stands_in_piece text ≡ true → begins_ink (text ++ rest) ≡ true
ink_before [] rest some h = absurd (omega arith)
ink_before (b ∷ text) rest some h = ink_on b (and_parts (stands_in_piece b) (list_all stands_in_piece text) h).0

pub piece_ink : (text rest : List ℕ) → IsPiece text → begins_ink (text ++ rest) ≡ true
piece_ink text rest h = ink_before text rest h.some (stands text h)

-- a piece alone
pub says_piece : (text : List ℕ) (i : Item) → IsPiece text → item_of (text ∷ []) ≡ Some i → Says text i
says_piece text i h e = record {
  item = ap item_of (alone text h) ∙ e;
  one = calm_one text (piece_calm text h);
  quiet = is_quiet_piece text h;
  ink = ap begins_ink (sym (append-nil text)) ∙ piece_ink text [] h;
}

equals_calm : (name : List ℕ) → IsPiece name → list_all calm (name ++ codes " = ") ≡ true
unfolding calm
equals_calm name h = all_append calm name (codes " = ") (piece_calm name h) refl

equals_tokens : (name rest : List ℕ) → IsPiece name → tokens (name ++ (codes " = " ++ rest)) ≡ name ∷ codes "=" ∷ tokens rest
unfolding tokens is_blank is_mark
equals_tokens name rest h = then_tokens name (codes " = " ++ rest) h refl

equals_quiet : (name rest : List ℕ) → IsPiece name → list_all quiet rest ≡ true → list_all quiet (name ++ (codes " = " ++ rest)) ≡ true
unfolding quiet
equals_quiet name rest h k = all_append quiet name (codes " = " ++ rest) (is_quiet_piece name h) k

equals_one : (name rest : List ℕ) → IsPiece name → is_one false rest ≡ true → is_one false (name ++ (codes " = " ++ rest)) ≡ true
equals_one name rest h k =
    ap (is_one false) (sym (append_assoc name (codes " = ") rest)) ∙ calm_before (name ++ codes " = ") rest (equals_calm name h) ∙ k

-- a name, and one piece behind `=`
pub says_named : (name text : List ℕ) (i : Item) → IsPiece name → IsPiece text → item_of (name ∷ codes "=" ∷ text ∷ []) ≡ Some i
    → Says (name ++ (codes " = " ++ text)) i
says_named name text i h k e = record {
  item = ap item_of (equals_tokens name text h ∙ ap (λ (ts : List (List ℕ)). name ∷ codes "=" ∷ ts) (alone text k)) ∙ e;
  one = equals_one name text h (calm_one text (piece_calm text k));
  quiet = equals_quiet name text h (is_quiet_piece text k);
  ink = piece_ink name (codes " = " ++ text) h;
}

-- ---- pieces in brackets

abbrev pub ArePieces : List (List ℕ) → Type 0
ArePieces texts = AllByRecursion IsPiece texts

-- the tokens behind the first of a list, and behind the bracket that opens
abbrev pub tail_tokens : List (List ℕ) → List (List ℕ)
tail_tokens [] = codes "]" ∷ []
tail_tokens (t ∷ ts) = codes "," ∷ t ∷ tail_tokens ts

abbrev pub list_tokens : List (List ℕ) → List (List ℕ)
list_tokens [] = codes "]" ∷ []
list_tokens (t ∷ ts) = t ∷ tail_tokens ts

joined_tokens : (texts : List (List ℕ)) → ArePieces texts → tokens (joined texts ++ (93 ∷ [])) ≡ list_tokens texts
unfolding tokens is_blank is_mark
joined_tokens [] h = refl
joined_tokens (t ∷ []) h = then_tokens t (93 ∷ []) h.0 refl
joined_tokens (t ∷ u ∷ ts) h =
    ap tokens (append_assoc t (44 ∷ 32 ∷ joined (u ∷ ts)) (93 ∷ []))
    ∙ then_tokens t (44 ∷ 32 ∷ (joined (u ∷ ts) ++ 93 ∷ [])) h.0 refl
    ∙ ap (λ (xs : List (List ℕ)). t ∷ codes "," ∷ xs) (joined_tokens (u ∷ ts) h.1)

open_tokens : (texts : List (List ℕ)) → ArePieces texts → tokens (in_brackets texts) ≡ codes "[" ∷ list_tokens texts
unfolding tokens is_blank is_mark
open_tokens texts h = ap (λ (xs : List (List ℕ)). codes "[" ∷ xs) (joined_tokens texts h)

open_byte : (b : ℕ) → piece_byte b ≡ true → not (b == 93) ≡ true
unfolding piece_byte is_blank is_mark
open_byte b h = grind (arith, nat_tests)

joined_all : (p : ℕ → Bool) (texts : List (List ℕ)) → ((b : ℕ) → piece_byte b ≡ true → p b ≡ true) → p 44 ≡ true → p 32 ≡ true → ArePieces texts
    → list_all p (joined texts) ≡ true
joined_all p [] f c s h = refl
joined_all p (t ∷ []) f c s h = all_imply piece_byte p t f h.0.all
joined_all p (t ∷ u ∷ ts) f c s h =
    all_append p t (44 ∷ 32 ∷ joined (u ∷ ts)) (all_imply piece_byte p t f h.0.all)
    (and_true _ _ c (and_true _ _ s (joined_all p (u ∷ ts) f c s h.1)))

open_one : (texts : List (List ℕ)) → ArePieces texts → is_one false (in_brackets texts) ≡ true
unfolding is_one
open_one texts h = closed_one (joined texts) (joined_all (λ b. not (b == 93)) texts open_byte refl refl h)

open_quiet : (texts : List (List ℕ)) → ArePieces texts → list_all quiet (in_brackets texts) ≡ true
unfolding quiet
open_quiet texts h = all_append quiet (joined texts) (93 ∷ []) (joined_all quiet texts byte_quiet refl refl h) refl

-- a name, and pieces in brackets behind `=`
pub says_list : (name : List ℕ) (texts : List (List ℕ)) (i : Item) → IsPiece name → ArePieces texts
    → item_of (name ∷ codes "=" ∷ codes "[" ∷ list_tokens texts) ≡ Some i → Says (name ++ (codes " = " ++ in_brackets texts)) i
says_list name texts i h k e = record {
  item = ap item_of (equals_tokens name (in_brackets texts) h ∙ ap (λ (ts : List (List ℕ)). name ∷ codes "=" ∷ ts) (open_tokens texts k)) ∙ e;
  one = equals_one name (in_brackets texts) h (open_one texts k);
  quiet = equals_quiet name (in_brackets texts) h (open_quiet texts k);
  ink = piece_ink name (codes " = " ++ in_brackets texts) h;
}
