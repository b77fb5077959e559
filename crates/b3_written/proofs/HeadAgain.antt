-- What stands before the parentheses is read again.
use Rattle.std.proofs.Common.{◌≡◌, ℕ, ◌^◌, ◌<◌, Bool, true, false, not, ◌&&◌, nat_lt, List, [], ◌∷◌, ◌++◌, length, Some, refl, ◌∙◌, ap, append-nil, arith}
use Rattle.std.specs.Prelude.{◌==◌, codes, option_map}
use Rattle.std.specs.Char.{is_ascii_digit}
use Rattle.std.specs.Fmt.{decimal}
use Rattle.std.specs.List.{list_all}
use Rattle.std.proofs.lemmas.Bool.{and_parts}
use Rattle.std.proofs.lemmas.Bool.Decides.{nat_tests}
use Rattle.std.proofs.lemmas.List.{take_at, drop_at}
use Rattle.b3_lines.specs.Tokens.{is_blank, is_mark, tokens}
use Rattle.b3_ir.specs.declared.opcode.Opcode.{Opcode}
use Rattle.b3_ir.specs.declared.opcode.Kind.{Kind}
use Rattle.b3_ir.specs.declared.opcode.Ty.{Ty}
use Rattle.b3_ir.specs.declared.opcode.Ty.TheVariants.{Void, Int32, Int64}
use Rattle.b3_ir.specs.declared.table.Flag.{Flag}
use Rattle.b3_ir.specs.declared.table.Flag.TheVariants.{NoFlag, Chill, Traps}
use Rattle.b3_ir.specs.declared.value.Value.{Value}
use Rattle.b3_ir.specs.Fits.{MayChill, MayTrap}
use Rattle.b3_ir.specs.Table.{row_of}
use Rattle.b3_items.specs.Items.{is_mark_of}
use Rattle.b3_items.specs.Table.{angle_in, flagged, kind, kind_at, kind_of, opcodes, type_of, type_text}
use Rattle.b3_items.proofs.TableLemmas.{each_passes, named_again}
use Rattle.b3_rows.specs.declared.values.Head.{Head}
use Rattle.b3_rows.specs.Values.{head_of, head_parts}
use Rattle.b3_rows.specs.Written.{child_text, chosen_flag, kind_text}
use Rattle.b3_written.specs.Listed.{head_text}
use Rattle.b3_written.proofs.ItemTexts.{IsPiece, alone, is_quiet_piece, piece_byte, then_tokens}
use Rattle.b3_written.proofs.ItemsAgain.{child_piece, id_again}
use Rattle.b3_written.proofs.RoundLemmas.{all_append, all_imply, digit_quiet, digits, digits_all, quiet}
use Rattle.b3_written.proofs.ScanLemmas.{is_other, place_behind, place_none}

-- ---- kinds

-- neither `<` nor `(`
unfoldable name_byte : ℕ → Bool
name_byte b = piece_byte b && not (b == 60) && not (b == 40)

unfoldable is_plain_name : Opcode → Bool
is_plain_name o = nat_lt 0 (length (row_of o).name) && list_all name_byte (row_of o).name

all_plain : list_all is_plain_name opcodes ≡ true
unfolding is_plain_name name_byte piece_byte quiet is_blank is_mark
all_plain = refl

some_of : (n : ℕ) → nat_lt 0 n ≡ true → 0 < n
some_of n h = grind (arith, nat_tests)

record IsPlainName (name : List ℕ) : Type 0 where
  some : 0 < length name
  all : list_all name_byte name ≡ true

plain_name : (o : Opcode) → IsPlainName (row_of o).name
unfolding is_plain_name
plain_name o =
    let both = and_parts (nat_lt 0 (length (row_of o).name)) (list_all name_byte (row_of o).name) (each_passes is_plain_name all_plain o) in
    record { some = some_of (length (row_of o).name) both.0; all = both.1 }

byte_no_angle : (b : ℕ) → name_byte b ≡ true → is_other 60 b ≡ true
unfolding name_byte
byte_no_angle b h = (and_parts (piece_byte b) (not (b == 60)) (and_parts (piece_byte b && not (b == 60)) (not (b == 40)) h).0).1

byte_no_open : (b : ℕ) → name_byte b ≡ true → is_other 40 b ≡ true
unfolding name_byte
byte_no_open b h = (and_parts (piece_byte b && not (b == 60)) (not (b == 40)) h).1

byte_of_piece : (b : ℕ) → name_byte b ≡ true → piece_byte b ≡ true
unfolding name_byte
byte_of_piece b h = (and_parts (piece_byte b) (not (b == 60)) (and_parts (piece_byte b && not (b == 60)) (not (b == 40)) h).0).0

no_angle : (o : Opcode) → list_all (is_other 60) (row_of o).name ≡ true
no_angle o = all_imply name_byte (is_other 60) (row_of o).name byte_no_angle (plain_name o).all

plain_again : (o : Opcode) → kind_of ((row_of o).name ++ []) ≡ Some (kind o false false)
unfolding kind_of angle_in
plain_again o =
    ap kind_of (append-nil (row_of o).name)
    ∙ ap (kind_at (row_of o).name) (place_none 60 (row_of o).name (no_angle o))
    ∙ ap (option_map (λ (x : Opcode). kind x false false)) (named_again o)

flag_again : (o : Opcode) (rest : List ℕ) (k : Kind) → flagged (60 ∷ rest) o ≡ Some k → kind_of ((row_of o).name ++ (60 ∷ rest)) ≡ Some k
unfolding kind_of angle_in
flag_again o rest k e =
    let name = (row_of o).name in
    ap (kind_at (name ++ (60 ∷ rest))) (place_behind 60 name rest (no_angle o))
    ∙ rw (take_at name (60 ∷ rest) (length name) refl, drop_at name (60 ∷ rest) (length name) refl, named_again o) e

kind_by : (o : Opcode) (f : Flag) (chill traps : Bool) → (row_of o).flag ≡ f → MayChill f chill → MayTrap f traps
    → kind_of (kind_text (kind o chill traps)) ≡ Some (kind o chill traps)
kind_by o NoFlag true traps e h k = absurd cc
kind_by o NoFlag false true e h k = absurd cc
kind_by o NoFlag false false e h k = plain_again o
kind_by o Chill true true e h k = absurd cc
kind_by o Chill true false e h k = flag_again o (codes "Chill>") (kind o true false) (rw e refl)
kind_by o Chill false true e h k = absurd cc
kind_by o Chill false false e h k = plain_again o
kind_by o Traps true traps e h k = absurd cc
kind_by o Traps false true e h k = flag_again o (codes "Traps>") (kind o false true) (rw e refl)
kind_by o Traps false false e h k = plain_again o

pub kind_again : (k : Kind) → MayChill (row_of k.opcode).flag k.chill → MayTrap (row_of k.opcode).flag k.traps → kind_of (kind_text k) ≡ Some k
kind_again k h t = kind_by k.opcode (row_of k.opcode).flag k.chill k.traps refl h t

flag_bytes : (p : ℕ → Bool) (chill traps : Bool) (o : Opcode) → list_all p (codes "<Chill>") ≡ true → list_all p (codes "<Traps>") ≡ true
    → list_all p (chosen_flag (kind o chill traps)) ≡ true
flag_bytes p true traps o h k = h
flag_bytes p false true o h k = k
flag_bytes p false false o h k = refl

long_front : (a b : List ℕ) → 0 < length a → 0 < length (a ++ b)
long_front [] b h = absurd (omega arith)
long_front (x ∷ a) b h = omega arith

pub kind_piece : (k : Kind) → IsPiece (kind_text k)
unfolding piece_byte quiet is_blank is_mark
kind_piece k = record {
  some = long_front (row_of k.opcode).name (chosen_flag k) (plain_name k.opcode).some;
  all = all_append piece_byte (row_of k.opcode).name (chosen_flag k)
      (all_imply name_byte piece_byte (row_of k.opcode).name byte_of_piece (plain_name k.opcode).all)
      (flag_bytes piece_byte k.chill k.traps k.opcode refl refl);
}

kind_no_open : (k : Kind) → list_all (is_other 40) (kind_text k) ≡ true
kind_no_open k = all_append (is_other 40) (row_of k.opcode).name (chosen_flag k)
    (all_imply name_byte (is_other 40) (row_of k.opcode).name byte_no_open (plain_name k.opcode).all)
    (flag_bytes (is_other 40) k.chill k.traps k.opcode refl refl)

-- ---- heads

type_again : (ty : Ty) → type_of (type_text ty) ≡ Some ty
unfolding type_of
type_again Void = refl
type_again Int32 = refl
type_again Int64 = refl

abbrev front_text : Ty → ℕ → List ℕ → List ℕ
front_text ty id rest = codes "    " ++ (type_text ty ++ (codes " b@" ++ (decimal id ++ (codes " = " ++ rest))))

id_tokens : (id : ℕ) (rest : List ℕ) → id < 2 ^ 31 → tokens (child_text id ++ (codes " = " ++ rest)) ≡ child_text id ∷ codes "=" ∷ tokens rest
unfolding tokens is_blank is_mark
id_tokens id rest h = then_tokens (child_text id) (codes " = " ++ rest) (child_piece id h) refl

pub front_tokens : (ty : Ty) (id : ℕ) (rest : List ℕ) → id < 2 ^ 31
    → tokens (front_text ty id rest) ≡ type_text ty ∷ child_text id ∷ codes "=" ∷ tokens rest
unfolding tokens is_blank is_mark
front_tokens Void id rest h = ap (λ (ts : List (List ℕ)). codes "Void" ∷ ts) (id_tokens id rest h)
front_tokens Int32 id rest h = ap (λ (ts : List (List ℕ)). codes "Int32" ∷ ts) (id_tokens id rest h)
front_tokens Int64 id rest h = ap (λ (ts : List (List ℕ)). codes "Int64" ∷ ts) (id_tokens id rest h)

abbrev pub head_in : Value → Head
head_in v = record { ty = v.ty; id = v.id; kind = v.kind }

pub head_again : (v : Value) → v.id < 2 ^ 31 → MayChill (row_of v.kind.opcode).flag v.kind.chill → MayTrap (row_of v.kind.opcode).flag v.kind.traps
    → head_of (tokens (codes "    " ++ head_text v)) ≡ Some (head_in v)
unfolding head_of head_parts is_mark_of
head_again v h c t =
    ap head_of (front_tokens v.ty v.id (kind_text v.kind) h ∙ ap (λ (ts : List (List ℕ)). type_text v.ty ∷ child_text v.id ∷ codes "=" ∷ ts) (alone
    (kind_text v.kind) (kind_piece v.kind)))
    ∙ rw (type_again v.ty, id_again v.id h, kind_again v.kind c t) refl

digit_open : (c : ℕ) → is_ascii_digit c ≡ true → is_other 40 c ≡ true
digit_open c h = grind (arith, nat_tests)

type_all : (p : ℕ → Bool) (ty : Ty) → list_all p (codes "Void") ≡ true → list_all p (codes "Int32") ≡ true → list_all p (codes "Int64") ≡ true
    → list_all p (type_text ty) ≡ true
type_all p Void a b c = a
type_all p Int32 a b c = b
type_all p Int64 a b c = c

pub head_no_open : (v : Value) → v.id < 2 ^ 31 → list_all (is_other 40) (codes "    " ++ head_text v) ≡ true
head_no_open v h =
    all_append (is_other 40) (type_text v.ty) (codes " b@" ++ (decimal v.id ++ (codes " = " ++ kind_text v.kind)))
    (type_all (is_other 40) v.ty refl refl refl)
    (digits_all (is_other 40) (decimal v.id) (codes " = " ++ kind_text v.kind) digit_open (digits v.id h) (kind_no_open v.kind))

pub head_quiet : (v : Value) → v.id < 2 ^ 31 → list_all quiet (codes "    " ++ head_text v) ≡ true
unfolding quiet
head_quiet v h =
    all_append quiet (type_text v.ty) (codes " b@" ++ (decimal v.id ++ (codes " = " ++ kind_text v.kind)))
    (type_all quiet v.ty refl refl refl)
    (digits_all quiet (decimal v.id) (codes " = " ++ kind_text v.kind) digit_quiet (digits v.id h) (is_quiet_piece (kind_text v.kind) (kind_piece v.kind)))
