-- Each canonical item is read again.
use Rattle.std.proofs.Common.{◌≡◌, ℕ, ℤ, ◌^◌, ◌<◌, ◌≤◌, Bool, true, false, cond, not, ◌&&◌, nat_lt, List, [], ◌∷◌, ◌++◌, map, length, Some, None, refl, sym, ◌∙◌, ap, append-nil, arith}
use Rattle.std.specs.Prelude.{◌==◌, codes}
use Rattle.std.specs.Char.{is_ascii_digit}
use Rattle.std.specs.Fmt.{decimal, signed_decimal}
use Rattle.std.specs.List.{AllByRecursion, list_all}
use Rattle.std.proofs.lemmas.Bool.{and_parts, lt-ltb}
use Rattle.std.proofs.lemmas.Bool.Decides.{nat_tests}
use Rattle.std.proofs.lemmas.Fmt.{decimal_nonempty}
use Rattle.std.proofs.lemmas.List.{take_at, drop_at}
use Rattle.b3_base.specs.Word.{bits}
use Rattle.b3_base.specs.declared.word.Width.{Width}
use Rattle.b3_base.specs.declared.word.Width.TheVariants.{W64}
use Rattle.b3_lines.specs.Tokens.{is_blank, is_mark}
use Rattle.b3_ir.specs.declared.value.Constraint.{Constraint}
use Rattle.b3_ir.specs.declared.value.Constraint.TheVariants.{WarmAny, ColdAny, LateColdAny, SomeRegister, SomeRegisterWithClobber, SomeEarlyRegister, SomeLateRegister, Fixed, LateFixed}
use Rattle.b3_ir.specs.Fits.{IsConstraint}
use Rattle.b3_items.specs.declared.items.Item.{Item}
use Rattle.b3_items.specs.declared.items.Item.TheVariants as item
use Rattle.b3_items.specs.declared.items.Label.{Label}
use Rattle.b3_items.specs.declared.items.Label.TheVariants.{CasesLabel, EarlyLabel, LateLabel}
use Rattle.b3_items.specs.Numbers.{below, digits_of, has_up_to, begins_hex, decimal_of, number_of}
use Rattle.b3_items.specs.Items.{child, child_of, cases_of, colon_in, constraint_of, ends_list, free_constraint, id_of, is_mark_of, is_note, item_of, label_of, leading_of, mark_constraint, more_cases, more_regs, named_of, phi_of, piece_at, piece_child, reg, reg_of, regs_of, slot_of, some_cases, some_regs, valued, with_reg, wraps}
use Rattle.b3_rows.specs.Written.{child_text, constraint_text, in_brackets, members_from, phi_text, reg_text, set_text, word_text}
use Rattle.b3_written.proofs.ItemTexts.{ArePieces, IsPiece, Says, digit_byte, list_tokens, tail_tokens, piece_byte, says_list, says_named, says_piece}
use Rattle.b3_written.proofs.RoundLemmas.{and_true, digits, digits_all, plain_again, quiet}
use Rattle.b3_written.proofs.ScanLemmas.{is_other, place_behind, place_none}
use Rattle.b3_written.proofs.SetLemmas.{members_below, union, union_again}
use Rattle.b3_written.proofs.SignedLemmas.{InWord, IsShort, case_again, number_in, offset_again, offset_short, signed_again, signed_all, signed_some, word_is, word_short, word_value}

-- ---- pieces

-- a front and a plain number behind it
fronted : (b : ℕ) (front : List ℕ) (n : ℕ) → n < 2 ^ 31 → list_all piece_byte (b ∷ front) ≡ true → list_all piece_byte (b ∷ (front ++ decimal n)) ≡ true
fronted b [] n h k =
    ap (λ (t : List ℕ). piece_byte b && list_all piece_byte t) (sym (append-nil (decimal n)))
    ∙ and_true _ _ (and_parts (piece_byte b) true k).0 (digits_all piece_byte (decimal n) [] digit_byte (digits n h) refl)
fronted b (c ∷ front) n h k =
    let both = and_parts (piece_byte b) (list_all piece_byte (c ∷ front)) k in
    and_true _ _ both.0 (fronted c front n h both.1)

front_piece : (b : ℕ) (front : List ℕ) (n : ℕ) → n < 2 ^ 31 → list_all piece_byte (b ∷ front) ≡ true → IsPiece (b ∷ (front ++ decimal n))
front_piece b front n h k = record { some = omega arith; all = fronted b front n h k }

small_reg : (n : ℕ) → n ≤ 30 → n < 2 ^ 31
small_reg n h = omega arith

reg_piece : (n : ℕ) → n ≤ 30 → IsPiece (reg_text n)
unfolding piece_byte quiet is_blank is_mark
reg_piece n h = front_piece 37 (codes "x") n (small_reg n h) refl

signed_piece : (z : ℤ) → IsShort z → IsPiece (signed_decimal z)
unfolding piece_byte quiet is_blank is_mark
signed_piece z h = record {
  some = signed_some z h;
  all = ap (list_all piece_byte) (sym (append-nil (signed_decimal z))) ∙ signed_all piece_byte z [] digit_byte refl h refl;
}

-- ---- no number

none_below : (limit : ℕ) (x : Bool) → cond x (below limit None) None ≡ None
none_below limit true = refl
none_below limit false = refl

off_hex : (b : ℕ) (text : List ℕ) → (b == 48) ≡ false → begins_hex (b ∷ text) ≡ false
off_hex b [] h = refl
off_hex b (c ∷ text) h = rw h refl

off_digits : (b : ℕ) (text : List ℕ) → is_ascii_digit b ≡ false → decimal_of (b ∷ text) ≡ None
unfolding decimal_of
off_digits b text h =
    let off : digits_of (b ∷ text) ≡ None = rw h refl in
    rw off (none_below (2 ^ 64) (has_up_to 20 (b ∷ text)))

-- what begins with neither a digit nor a minus sign
no_number : (b : ℕ) (text : List ℕ) → is_ascii_digit b ≡ false → (b == 45) ≡ false → number_of (b ∷ text) ≡ None
unfolding number_of
no_number b text h k =
    let zero : (b == 48) ≡ false = grind (arith, nat_tests) in
    rw (k, off_hex b text zero, off_digits b text h) refl

-- ---- leading items

pub word_says : (width : Width) (word : ℕ) → word < 2 ^ bits width → Says (word_text width word) (item.Number (number_in (word_value width word)))
unfolding item_of leading_of
word_says width word h =
    let short = word_short width word h in
    rw (word_is width word) (says_piece (signed_decimal (word_value width word)) (item.Number (number_in (word_value width word)))
    (signed_piece (word_value width word) short) (rw (signed_again (word_value width word) short) refl))

pub reg_again : (n : ℕ) → n ≤ 30 → reg_of (reg_text n) ≡ Some (reg n)
unfolding reg_of
reg_again n h =
    let small : nat_lt n 31 ≡ true = lt-ltb n 31 (omega arith) in
    rw (plain_again n (small_reg n h), small) refl

pub reg_says : (n : ℕ) → n ≤ 30 → Says (reg_text n) (item.Register (reg n))
unfolding item_of leading_of
reg_says n h = says_piece (reg_text n) (item.Register (reg n)) (reg_piece n h)
    (rw (no_number 37 (codes "x" ++ decimal n) refl refl, reg_again n h) refl)

pub slot_says : (n : ℕ) → n < 2 ^ 31 → Says (codes "stack" ++ decimal n) (item.SlotNumber n)
unfolding item_of leading_of reg_of slot_of piece_byte quiet is_blank is_mark
slot_says n h = says_piece (codes "stack" ++ decimal n) (item.SlotNumber n) (front_piece 115 (codes "tack") n h refl)
    (rw (no_number 115 (codes "tack" ++ decimal n) refl refl, plain_again n h) refl)

pub phi_says : (n : ℕ) → n < 2 ^ 31 → Says (phi_text n) (item.PhiId n)
unfolding item_of leading_of reg_of slot_of phi_of piece_byte quiet is_blank is_mark
phi_says n h = says_piece (phi_text n) (item.PhiId n) (front_piece 94 [] n h refl)
    (rw (no_number 94 (decimal n) refl refl, plain_again n h) refl)

-- ---- constraints

late_is_no_reg : (n : ℕ) → reg_of (codes "late:" ++ reg_text n) ≡ None
unfolding reg_of
late_is_no_reg n = refl

pub constraint_again : (c : Constraint) → IsConstraint c → constraint_of (constraint_text c) ≡ Some c
unfolding constraint_of free_constraint
constraint_again WarmAny h = refl
constraint_again ColdAny h = refl
constraint_again LateColdAny h = refl
constraint_again SomeRegister h = refl
constraint_again SomeRegisterWithClobber h = refl
constraint_again SomeEarlyRegister h = refl
constraint_again SomeLateRegister h = refl
constraint_again (Fixed r) h = rw (reg_again r.0 h) refl
constraint_again (LateFixed r) h = rw (late_is_no_reg r.0, reg_again r.0 h) refl

constraint_all : (c : Constraint) → IsConstraint c → list_all piece_byte (constraint_text c) ≡ true
unfolding piece_byte quiet is_blank is_mark
constraint_all WarmAny h = refl
constraint_all ColdAny h = refl
constraint_all LateColdAny h = refl
constraint_all SomeRegister h = refl
constraint_all SomeRegisterWithClobber h = refl
constraint_all SomeEarlyRegister h = refl
constraint_all SomeLateRegister h = refl
constraint_all (Fixed r) h = (reg_piece r.0 h).all
constraint_all (LateFixed r) h = (front_piece 108 (codes "ate:%x") r.0 (small_reg r.0 h) refl).all

constraint_some : (c : Constraint) → IsConstraint c → 0 < length (constraint_text c)
constraint_some WarmAny h = omega arith
constraint_some ColdAny h = omega arith
constraint_some LateColdAny h = omega arith
constraint_some SomeRegister h = omega arith
constraint_some SomeRegisterWithClobber h = omega arith
constraint_some SomeEarlyRegister h = omega arith
constraint_some SomeLateRegister h = omega arith
constraint_some (Fixed r) h = (reg_piece r.0 h).some
constraint_some (LateFixed r) h = omega arith

constraint_piece : (c : Constraint) → IsConstraint c → IsPiece (constraint_text c)
constraint_piece c h = record { some = constraint_some c h; all = constraint_all c h }

-- ---- children

pub id_again : (n : ℕ) → n < 2 ^ 31 → id_of (child_text n) ≡ Some n
unfolding id_of
id_again n h = rw (plain_again n h) refl

digit_colon : (c : ℕ) → is_ascii_digit c ≡ true → not (c == 58) ≡ true
digit_colon c h = grind (arith, nat_tests)

no_colon : (n : ℕ) → n < 2 ^ 31 → list_all (is_other 58) (child_text n) ≡ true
no_colon n h = ap (list_all (is_other 58)) (sym (append-nil (decimal n))) ∙ digits_all (is_other 58) (decimal n) [] digit_colon (digits n h) refl

child_leads : (text : List ℕ) → leading_of (98 ∷ text) ≡ None
unfolding leading_of reg_of slot_of phi_of
child_leads text = rw (no_number 98 text refl refl) refl

bare_again : (n : ℕ) → n < 2 ^ 31 → piece_child (child_text n) ≡ Some (child None n)
unfolding piece_child colon_in
bare_again n h = rw (place_none 58 (child_text n) (no_colon n h), id_again n h) refl

pub child_piece : (n : ℕ) → n < 2 ^ 31 → IsPiece (child_text n)
unfolding piece_byte quiet is_blank is_mark
child_piece n h = front_piece 98 (codes "@") n h refl

pub child_says : (n : ℕ) → n < 2 ^ 31 → Says (child_text n) (item.Operand (child None n))
unfolding item_of child_of piece_byte quiet is_blank is_mark
child_says n h = says_piece (child_text n) (item.Operand (child None n)) (child_piece n h)
    (rw (child_leads (codes "@" ++ decimal n), bare_again n h) refl)

mark_again : (c : Constraint) → IsConstraint c → mark_constraint (58 ∷ constraint_text c) ≡ Some c
unfolding mark_constraint
mark_again c h = constraint_again c h

placed_again : (n : ℕ) (c : Constraint) → n < 2 ^ 31 → IsConstraint c → piece_child (child_text n ++ (58 ∷ constraint_text c)) ≡ Some (child (Some c) n)
unfolding piece_child colon_in
placed_again n c h k =
    ap (piece_at (child_text n ++ (58 ∷ constraint_text c))) (place_behind 58 (child_text n) (constraint_text c) (no_colon n h))
    ∙ rw (
      take_at (child_text n) (58 ∷ constraint_text c) (length (child_text n)) refl,
      drop_at (child_text n) (58 ∷ constraint_text c) (length
          (child_text n)) refl,
      mark_again c k,
      id_again n h,
    ) refl

placed_piece : (n : ℕ) (c : Constraint) → n < 2 ^ 31 → IsConstraint c → IsPiece (child_text n ++ (58 ∷ constraint_text c))
unfolding piece_byte quiet is_blank is_mark
placed_piece n c h k = record {
  some = omega arith;
  all = digits_all piece_byte (decimal n) (58 ∷ constraint_text c) digit_byte (digits n h) (constraint_all c k);
}

pub placed_says : (n : ℕ) (c : Constraint) → n < 2 ^ 31 → IsConstraint c
    → Says (child_text n ++ (58 ∷ constraint_text c)) (item.Operand (child (Some c) n))
unfolding item_of child_of
placed_says n c h k = says_piece (child_text n ++ (58 ∷ constraint_text c)) (item.Operand (child (Some c) n)) (placed_piece n c h k)
    (rw (child_leads (codes "@" ++ (decimal n ++ (58 ∷ constraint_text c))), placed_again n c h k) refl)

-- ---- named items

known_name : (name : List ℕ) → 0 < length name → list_all piece_byte name ≡ true → IsPiece name
known_name name some all = record { some = some; all = all }

pub offset_says : (z : ℤ) → InWord z → Says (codes "offset" ++ (codes " = " ++ signed_decimal z)) (item.Offset z)
unfolding item_of child_of named_of label_of valued is_mark_of piece_byte quiet is_blank is_mark
offset_says z h = says_named (codes "offset") (signed_decimal z) (item.Offset z) (known_name (codes "offset") (omega arith) refl)
    (signed_piece z (offset_short z h)) (rw (offset_again z h) refl)

pub result_says : (c : Constraint) → IsConstraint c → Says (codes "resultConstraint" ++ (codes " = " ++ constraint_text c)) (item.ResultPlace c)
unfolding item_of child_of named_of label_of valued is_mark_of piece_byte quiet is_blank is_mark
result_says c h = says_named (codes "resultConstraint") (constraint_text c) (item.ResultPlace c)
    (known_name (codes "resultConstraint") (omega arith) refl) (constraint_piece c h) (rw (constraint_again c h) refl)

decimal_piece : (n : ℕ) → n < 2 ^ 31 → IsPiece (decimal n)
decimal_piece n h = record {
  some = decimal_nonempty n (omega arith);
  all = ap (list_all piece_byte) (sym (append-nil (decimal n))) ∙ digits_all piece_byte (decimal n) [] digit_byte (digits n h) refl;
}

pub size_says : (n : ℕ) → n < 2 ^ 31 → Says (codes "size" ++ (codes " = " ++ decimal n)) (item.Size n)
unfolding item_of child_of named_of label_of valued is_mark_of piece_byte quiet is_blank is_mark
size_says n h = says_named (codes "size") (decimal n) (item.Size n) (known_name (codes "size") (omega arith) refl)
    (decimal_piece n h) (rw (plain_again n h) refl)

-- ---- lists

abbrev AreRegs : List ℕ → Type 0
AreRegs ns = AllByRecursion (λ n. n < 31) ns

reg_pieces : (ns : List ℕ) → AreRegs ns → ArePieces (map reg_text ns)
reg_pieces [] h = tt
reg_pieces (n ∷ ns) h = (reg_piece n (omega (arith, h.0)), reg_pieces ns h.1)

more_again : (set : ℕ) (ns : List ℕ) → AreRegs ns → more_regs set (tail_tokens (map reg_text ns)) ≡ Some (union set ns)
unfolding more_regs ends_list is_mark_of
more_again set [] h = refl
more_again set (n ∷ ns) h = rw (reg_again n (omega (arith, h.0))) (more_again (with_reg set (reg n)) ns h.1)

some_again : (ns : List ℕ) → AreRegs ns → some_regs (list_tokens (map reg_text ns)) ≡ Some (union 0 ns)
unfolding some_regs ends_list is_mark_of
some_again [] h = refl
some_again (n ∷ []) h = rw (reg_again n (omega (arith, h.0))) (more_again (with_reg 0 (reg n)) [] h.1)
some_again (n ∷ m ∷ ns) h = rw (reg_again n (omega (arith, h.0))) (more_again (with_reg 0 (reg n)) (m ∷ ns) h.1)

regs_again : (set : ℕ) → set < 2 ^ 31 → regs_of (codes "[" ∷ list_tokens (map reg_text (members_from set 0 31))) ≡ Some set
unfolding regs_of is_mark_of
regs_again set h = some_again (members_from set 0 31) (members_below set) ∙ ap Some (union_again set h)

-- a name that is no note is no child
no_child : (name : List ℕ) (ts : List (List ℕ)) → is_note name ≡ false → child_of (name ∷ codes "=" ∷ codes "[" ∷ list_tokens ts) ≡ None
unfolding child_of wraps
no_child name [] h = rw h refl
no_child name (t ∷ []) h = rw h refl
no_child name (t ∷ u ∷ ts) h = refl

list_item : (name : List ℕ) (label : Label) (ts : List (List ℕ)) (i : Item) → is_note name ≡ false → label_of name ≡ Some label
    → valued label (codes "[" ∷ list_tokens ts) ≡ Some i → item_of (name ∷ codes "=" ∷ codes "[" ∷ list_tokens ts) ≡ Some i
unfolding item_of named_of is_mark_of
list_item name label ts i h k e = rw (no_child name ts h, k, e) refl

pub early_says : (set : ℕ) → set < 2 ^ 31 → Says (codes "earlyClobbered" ++ (codes " = " ++ set_text set)) (item.Early set)
unfolding label_of valued is_note piece_byte quiet is_blank is_mark
early_says set h = says_list (codes "earlyClobbered") (map reg_text (members_from set 0 31)) (item.Early set)
    (known_name (codes "earlyClobbered") (omega arith) refl) (reg_pieces (members_from set 0 31) (members_below set))
    (list_item (codes "earlyClobbered") EarlyLabel (map reg_text (members_from set 0 31)) (item.Early set) refl refl (rw (regs_again set h) refl))

pub late_says : (set : ℕ) → set < 2 ^ 31 → Says (codes "lateClobbered" ++ (codes " = " ++ set_text set)) (item.Late set)
unfolding label_of valued is_note piece_byte quiet is_blank is_mark
late_says set h = says_list (codes "lateClobbered") (map reg_text (members_from set 0 31)) (item.Late set)
    (known_name (codes "lateClobbered") (omega arith) refl) (reg_pieces (members_from set 0 31) (members_below set))
    (list_item (codes "lateClobbered") LateLabel (map reg_text (members_from set 0 31)) (item.Late set) refl refl (rw (regs_again set h) refl))

abbrev AreWords : List ℕ → Type 0
AreWords words = AllByRecursion (λ w. w < 2 ^ 64) words

word_pieces : (words : List ℕ) → AreWords words → ArePieces (map (word_text W64) words)
word_pieces [] h = tt
word_pieces (w ∷ words) h = (signed_piece (word_value W64 w) (word_short W64 w h.0), word_pieces words h.1)

more_cases_again : (words : List ℕ) → AreWords words → more_cases (tail_tokens (map (word_text W64) words)) ≡ Some words
unfolding more_cases ends_list is_mark_of
more_cases_again [] h = refl
more_cases_again (w ∷ words) h = rw (case_again w h.0, more_cases_again words h.1) refl

some_cases_again : (words : List ℕ) → AreWords words → some_cases (list_tokens (map (word_text W64) words)) ≡ Some words
unfolding some_cases ends_list is_mark_of
some_cases_again [] h = refl
some_cases_again (w ∷ []) h = rw (case_again w h.0, more_cases_again [] h.1) refl
some_cases_again (w ∷ x ∷ words) h = rw (case_again w h.0, more_cases_again (x ∷ words) h.1) refl

cases_again : (words : List ℕ) → AreWords words → cases_of (codes "[" ∷ list_tokens (map (word_text W64) words)) ≡ Some words
unfolding cases_of is_mark_of
cases_again words h = some_cases_again words h

pub cases_says : (words : List ℕ) → AreWords words → Says (codes "cases" ++ (codes " = " ++ in_brackets (map (word_text W64) words))) (item.Cases words)
unfolding label_of valued is_note piece_byte quiet is_blank is_mark
cases_says words h = says_list (codes "cases") (map (word_text W64) words) (item.Cases words) (known_name (codes "cases") (omega arith) refl)
    (word_pieces words h)
    (list_item (codes "cases") CasesLabel (map (word_text W64) words) (item.Cases words) refl refl (rw (cases_again words h) refl))
