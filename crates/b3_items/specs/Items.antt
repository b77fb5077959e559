-- The items of the line of a value, one by one.
use Rattle.std.specs.Prelude.{ℕ, suc, ◌^◌, Bool, false, ◌==◌, ◌&&◌, ◌||◌, not, nat_lt, if◌then◌else◌, List, [], ◌∷◌, ◌++◌, length, take, drop, codes, Option, Some, None, option_map, option_and_then, position, bytes_eq}
use denote.Ref.{Bor}
use Rattle.std.specs.Int.Bits.{bit_or}
use Rattle.std.specs.List.{list_all, find}
use Rattle.std.specs.Option.{option_or}
use Rattle.b3_ir.specs.declared.value.Constraint.{Constraint}
use Rattle.b3_ir.specs.declared.value.Constraint.TheVariants.{WarmAny, ColdAny, LateColdAny, SomeRegister, SomeRegisterWithClobber, SomeEarlyRegister, SomeLateRegister, Fixed, LateFixed}
use Rattle.b3_ir.specs.declared.value.Reg.{Reg}
use Rattle.b3_ir.specs.Names.{may_begin_name}
use Rattle.b3_items.specs.declared.items.Child.{Child}
use Rattle.b3_items.specs.declared.items.Item.{Item}
use Rattle.b3_items.specs.declared.items.Item.TheVariants as item
use Rattle.b3_items.specs.declared.items.Label.{Label}
use Rattle.b3_items.specs.declared.items.Label.TheVariants.{OffsetLabel, CasesLabel, ResultLabel, SizeLabel, EarlyLabel, LateLabel, GeneratorLabel, UsedLabel}
use Rattle.b3_items.specs.Numbers.{after, plain_of, plain_after, number_of, has_number_form, offset_of, case_of}

-- a token that is this mark
unfoldable pub is_mark_of : ℕ → List ℕ → Bool
is_mark_of byte token = bytes_eq token (byte ∷ [])

-- ---- registers and constraints

abbrev pub reg : ℕ → Reg
reg n = record { 0 = n }

abbrev pub reg_below : ℕ → Option Reg
reg_below n = if nat_lt n 31 then Some (reg n) else None

-- `%xN` with N from 0 to 30; `%fp` is `%x29`, and `%lr` is `%x30`
unfoldable pub reg_of : List ℕ → Option Reg
reg_of text =
    if bytes_eq text (codes "%fp") then Some (reg 29)
    else (if bytes_eq text (codes "%lr") then Some (reg 30)
    else option_and_then reg_below (plain_after (codes "%x") text))

abbrev pub free_constraints : List Constraint
free_constraints =
    WarmAny ∷ ColdAny ∷ LateColdAny ∷ SomeRegister ∷ SomeRegisterWithClobber ∷ SomeEarlyRegister ∷ SomeLateRegister ∷ []

-- the name of a constraint that fixes no register
abbrev pub constraint_name : Constraint → List ℕ
constraint_name WarmAny = codes "WarmAny"
constraint_name ColdAny = codes "ColdAny"
constraint_name LateColdAny = codes "LateColdAny"
constraint_name SomeRegister = codes "SomeRegister"
constraint_name SomeRegisterWithClobber = codes "SomeRegisterWithClobber"
constraint_name SomeEarlyRegister = codes "SomeEarlyRegister"
constraint_name SomeLateRegister = codes "SomeLateRegister"
constraint_name (Fixed r) = []
constraint_name (LateFixed r) = []

unfoldable pub free_constraint : List ℕ → Option Constraint
free_constraint text = find (λ c. bytes_eq (constraint_name c) text) free_constraints

-- one of these names, `%xN`, or `late:%xN`
unfoldable pub constraint_of : List ℕ → Option Constraint
constraint_of text =
    option_or (free_constraint text)
    (option_or (option_map Fixed (reg_of text)) (option_map LateFixed (option_and_then reg_of (after (codes "late:") text))))

-- ---- children

-- `@N` or `b@N`
unfoldable pub id_of : List ℕ → Option ℕ
id_of text = option_or (plain_after (codes "@") text) (plain_after (codes "b@") text)

-- `$` and a constant, of which the form alone counts
unfoldable pub is_note : List ℕ → Bool
is_note [] = false
is_note (b ∷ text) = (b == 36) && has_number_form text

abbrev pub child : Option Constraint → ℕ → Child
child constraint id = record { id = id; constraint = constraint }

-- `:CONSTRAINT`
unfoldable pub mark_constraint : List ℕ → Option Constraint
mark_constraint text = option_and_then constraint_of (after (codes ":") text)

-- the first colon, 58
unfoldable pub colon_in : List ℕ → Option ℕ
colon_in piece = position (λ b. b == 58) piece

abbrev pub child_with : Option Constraint → Option ℕ → Option Child
child_with None id = None
child_with (Some c) id = option_map (child (Some c)) id

-- an id, and one with `:CONSTRAINT` just behind it
abbrev pub piece_at : List ℕ → Option ℕ → Option Child
piece_at piece None = option_map (child None) (id_of piece)
piece_at piece (Some at) = child_with (mark_constraint (drop at piece)) (id_of (take at piece))

unfoldable pub piece_child : List ℕ → Option Child
piece_child piece = piece_at piece (colon_in piece)

-- a note with an id in parentheses
unfoldable pub wraps : List ℕ → List ℕ → List ℕ → Bool
wraps note open_ close = is_note note && is_mark_of 40 open_ && is_mark_of 41 close

unfoldable pub child_of : List (List ℕ) → Option Child
child_of (piece ∷ []) = piece_child piece
child_of (note ∷ open_ ∷ id ∷ close ∷ []) = if wraps note open_ close then option_map (child None) (id_of id) else None
child_of (note ∷ open_ ∷ id ∷ close ∷ constraint ∷ []) =
    if wraps note open_ close then child_with (mark_constraint constraint) (id_of id) else None
child_of _ = None

-- ---- items of one token

-- `stackN`
unfoldable pub slot_of : List ℕ → Option ℕ
slot_of text = plain_after (codes "stack") text

-- `^N`
unfoldable pub phi_of : List ℕ → Option ℕ
phi_of text = plain_after (codes "^") text

unfoldable pub leading_of : List ℕ → Option Item
leading_of piece =
    option_or (option_map item.Number (number_of piece))
    (option_or (option_map item.Register (reg_of piece))
    (option_or (option_map item.SlotNumber (slot_of piece)) (option_map item.PhiId (phi_of piece))))

-- ---- named items

abbrev pub labels : List Label
labels =
    OffsetLabel ∷ CasesLabel ∷ ResultLabel ∷ SizeLabel ∷ EarlyLabel ∷ LateLabel ∷ GeneratorLabel ∷ UsedLabel ∷ []

abbrev pub label_name : Label → List ℕ
label_name OffsetLabel = codes "offset"
label_name CasesLabel = codes "cases"
label_name ResultLabel = codes "resultConstraint"
label_name SizeLabel = codes "size"
label_name EarlyLabel = codes "earlyClobbered"
label_name LateLabel = codes "lateClobbered"
label_name GeneratorLabel = codes "generator"
label_name UsedLabel = codes "usedRegisters"

unfoldable pub label_of : List ℕ → Option Label
label_of text = find (λ l. bytes_eq (label_name l) text) labels

-- one token and no more
abbrev pub lone : List (List ℕ) → Option (List ℕ)
lone (t ∷ []) = Some t
lone _ = None

-- `]` and nothing behind it
unfoldable pub ends_list : List (List ℕ) → Bool
ends_list (t ∷ []) = is_mark_of 93 t
ends_list _ = false

abbrev pub onto_front : List ℕ → Option (List ℕ) → Option (List ℕ)
onto_front front more = option_map (λ (ns : List ℕ). front ++ ns) more

-- behind a case: `]`, or `,` and more cases
unfoldable pub more_cases : List (List ℕ) → Option (List ℕ)
more_cases (mark ∷ number ∷ more) =
    if is_mark_of 44 mark then option_and_then (λ n. onto_front (n ∷ []) (more_cases more)) (case_of number) else None
more_cases ts = if ends_list ts then Some [] else None

-- behind `[`: no case, or cases
unfoldable pub some_cases : List (List ℕ) → Option (List ℕ)
some_cases (number ∷ more) =
    if ends_list (number ∷ more) then Some []
    else option_and_then (λ n. onto_front (n ∷ []) (more_cases more)) (case_of number)
some_cases [] = None

unfoldable pub cases_of : List (List ℕ) → Option (List ℕ)
cases_of (open_ ∷ more) = if is_mark_of 91 open_ then some_cases more else None
cases_of [] = None

-- a set of registers, as the number whose bit r is set exactly where x r is a member, and one more
abbrev pub with_reg : ℕ → Reg → ℕ
with_reg set r = bit_or set (2 ^ r.0)

-- behind a register: `]`, or `,` and more registers
unfoldable pub more_regs : ℕ → List (List ℕ) → Option ℕ
more_regs set (mark ∷ text ∷ more) =
    if is_mark_of 44 mark then option_and_then (λ r. more_regs (with_reg set r) more) (reg_of text) else None
more_regs set ts = if ends_list ts then Some set else None

unfoldable pub some_regs : List (List ℕ) → Option ℕ
some_regs (text ∷ more) =
    if ends_list (text ∷ more) then Some 0 else option_and_then (λ r. more_regs (with_reg 0 r) more) (reg_of text)
some_regs [] = None

unfoldable pub regs_of : List (List ℕ) → Option ℕ
regs_of (open_ ∷ more) = if is_mark_of 91 open_ then some_regs more else None
regs_of [] = None

unfoldable pub is_generator : List (List ℕ) → Bool
is_generator (t ∷ []) = has_number_form t
is_generator _ = false

abbrev pub offset_item : List (List ℕ) → Option Item
offset_item ts = option_map item.Offset (option_and_then offset_of (lone ts))

abbrev pub cases_item : List (List ℕ) → Option Item
cases_item ts = option_map item.Cases (cases_of ts)

abbrev pub place_item : List (List ℕ) → Option Item
place_item ts = option_map item.ResultPlace (option_and_then constraint_of (lone ts))

abbrev pub size_item : List (List ℕ) → Option Item
size_item ts = option_map item.Size (option_and_then plain_of (lone ts))

abbrev pub early_item : List (List ℕ) → Option Item
early_item ts = option_map item.Early (regs_of ts)

abbrev pub late_item : List (List ℕ) → Option Item
late_item ts = option_map item.Late (regs_of ts)

abbrev pub generator_item : List (List ℕ) → Option Item
generator_item ts = if is_generator ts then Some item.Generator else None

abbrev pub used_item : List (List ℕ) → Option Item
used_item ts = option_map (λ (set : ℕ). item.Used) (regs_of ts)

-- what stands behind `=`
unfoldable pub valued : Label → List (List ℕ) → Option Item
valued OffsetLabel ts = offset_item ts
valued CasesLabel ts = cases_item ts
valued ResultLabel ts = place_item ts
valued SizeLabel ts = size_item ts
valued EarlyLabel ts = early_item ts
valued LateLabel ts = late_item ts
valued GeneratorLabel ts = generator_item ts
valued UsedLabel ts = used_item ts

unfoldable pub named_of : List (List ℕ) → Option Item
named_of (name ∷ mark ∷ more) =
    if is_mark_of 61 mark then option_and_then (λ l. valued l more) (label_of name) else None
named_of _ = None

-- ---- effect words

-- a letter, a digit, or one of `.` `@` `+` `-`
abbrev pub may_stand_in_effect : ℕ → Bool
may_stand_in_effect b =
    (may_begin_name b && not (b == 95)) || (nat_lt 47 b && nat_lt b 58) || (b == 46) || (b == 64) || (b == 43) || (b == 45)

abbrev pub is_heap : Option (List ℕ) → Bool
is_heap None = false
is_heap (Some text) = nat_lt 0 (length text) && list_all may_stand_in_effect text

unfoldable pub is_plain_effect : List ℕ → Bool
is_plain_effect word =
    bytes_eq word (codes "Terminal") || bytes_eq word (codes "ReadsLocalState")
    || bytes_eq word (codes "WritesLocalState") || bytes_eq word (codes "ReadsPinned")
    || bytes_eq word (codes "WritesPinned") || bytes_eq word (codes "ExitsSideways")
    || bytes_eq word (codes "ControlDependent") || bytes_eq word (codes "Fence")

unfoldable pub is_effect : List ℕ → Bool
is_effect word =
    is_plain_effect word || is_heap (after (codes "Reads:") word) || is_heap (after (codes "Writes:") word)

-- words joined by bars
unfoldable pub are_effects : List (List ℕ) → Bool
are_effects [] = false
are_effects (word ∷ []) = is_effect word
are_effects (word ∷ bar ∷ more) = is_effect word && is_mark_of 124 bar && are_effects more

-- ---- an item

abbrev pub piece_item : List (List ℕ) → Option Item
piece_item ts = option_and_then leading_of (lone ts)

unfoldable pub item_of : List (List ℕ) → Option Item
item_of ts =
    option_or (piece_item ts)
    (option_or (option_map item.Operand (child_of ts))
    (option_or (named_of ts)
    (if are_effects ts then Some item.Effects else None)))

-- ---- splitting at commas outside brackets

abbrev pub onto_item : ℕ → List (List ℕ) → List (List ℕ)
onto_item b [] = (b ∷ []) ∷ []
onto_item b (first ∷ more) = (b ∷ first) ∷ more

-- whether the bytes behind b stand in brackets
abbrev pub stays_inside : Bool → ℕ → Bool
stays_inside inside b = (b == 91) || (inside && not (b == 93))

unfoldable pub cut_items : Bool → List ℕ → List (List ℕ)
cut_items inside [] = [] ∷ []
cut_items inside (b ∷ bytes) =
    if (b == 44) && not inside then [] ∷ cut_items false bytes
    else onto_item b (cut_items (stays_inside inside b) bytes)

-- the items between commas
unfoldable pub items_of : List ℕ → List (List ℕ)
items_of text = cut_items false text

unfoldable pub item_len : Bool → List ℕ → ℕ
item_len inside [] = 0
item_len inside (b ∷ bytes) = if (b == 44) && not inside then 0 else suc (item_len (stays_inside inside b) bytes)

-- what a cursor over items has left
abbrev pub more_items : Option (Bor (List ℕ)) → List (List ℕ)
more_items None = []
more_items (Some rest) = items_of rest.now
