-- How long canonical lines are.
use Rattle.std.proofs.Common.{◌≡◌, ℕ, ℤ, pos, negsuc, zero, suc, ◌+◌, ◌-◌, ◌*◌, ◌^◌, ◌<◌, ◌≤◌, Bool, true, false, cond, nat_lt, List, [], ◌∷◌, ◌++◌, length, map, All, refl, subst, sym, arith, lit≤, if◌then◌else◌}
use Rattle.std.specs.Prelude.{◌==◌, codes}
use Rattle.std.specs.Fmt.{decimal, signed_decimal}
use Rattle.std.specs.Int.{bit_at}
use Rattle.std.specs.List.{AllByRecursion}
use Rattle.std.proofs.Math.ListN.{length-append}
use Rattle.std.proofs.lemmas.Bool.Decides.{nat_tests}
use Rattle.std.proofs.lemmas.Fmt.{length-decimal-le}
use Rattle.std.proofs.lemmas.List.Elements.{All-head, All-nil, All-tail, recursion_from_All}
use Rattle.b3_base.specs.Word.{bits}
use Rattle.b3_base.specs.declared.word.Width.{Width}
use Rattle.b3_base.specs.declared.word.Width.TheVariants.{W32, W64}
use Rattle.b3_ir.specs.Fits.{IsConstraint}
use Rattle.b3_ir.specs.Names.{IsName}
use Rattle.b3_ir.specs.Table.{row_of}
use Rattle.b3_ir.specs.declared.opcode.Kind.{Kind}
use Rattle.b3_ir.specs.declared.opcode.Opcode.{Opcode}
use Rattle.b3_ir.specs.declared.opcode.Opcode.TheVariants as op
use Rattle.b3_ir.specs.declared.opcode.Ty.{Ty}
use Rattle.b3_ir.specs.declared.opcode.Ty.TheVariants.{Void, Int32, Int64}
use Rattle.b3_ir.specs.declared.table.Carries.{Carries}
use Rattle.b3_ir.specs.declared.table.Carries.TheVariants as carries
use Rattle.b3_ir.specs.declared.value.Body.{Body}
use Rattle.b3_ir.specs.declared.value.Body.TheVariants as bodies
use Rattle.b3_ir.specs.declared.value.Constraint.{Constraint}
use Rattle.b3_ir.specs.declared.value.Constraint.TheVariants.{WarmAny, ColdAny, LateColdAny, SomeRegister, SomeRegisterWithClobber, SomeEarlyRegister, SomeLateRegister, Fixed, LateFixed}
use Rattle.b3_ir.specs.declared.value.Stackmap.{Stackmap}
use Rattle.b3_ir.specs.declared.value.Value.{Value}
use Rattle.b3_items.specs.Table.{type_text}
use Rattle.b3_rows.specs.Listed.{IsListedBody, IsListedValue, IsNumber}
use Rattle.b3_rows.specs.Ranges.{AreTargets, IsGoodRow}
use Rattle.b3_rows.specs.Successors.{case_count}
use Rattle.b3_rows.specs.Written.{child_text, child_texts, chosen_flag, constraint_text, constraints_of, in_brackets, is_some_register, is_zero, item_texts, joined, kind_text, last_texts, lead_texts, line_of_row, map_texts, members_from, named_text, reg_text, set_text, target_text, target_texts, value_text, word_text}
use Rattle.b3_rows.specs.declared.row.Row.{Row}
use Rattle.b3_rows.specs.declared.row.Row.TheVariants as rows
use Rattle.b3_written.specs.Lengths.{most_bytes}
use Rattle.b3_written.proofs.SignedLemmas.{IsShort, offset_short}

-- ---- numbers

ten : (n : ℕ) → IsNumber n → length (decimal n) ≤ 10
ten n h = length-decimal-le 10 n (omega arith) (omega arith) (omega arith)

reg_length : (n : ℕ) → n ≤ 30 → length (reg_text n) ≤ 4
reg_length n h = omega (arith, length-decimal-le 2 n (omega arith) (omega arith) (omega arith))

-- a word by the half and the whole of its range
halved_length : (half limit word : ℕ) (x : Bool) → nat_lt word half ≡ x → half + half ≡ limit → word < limit → limit ≤ 2 ^ 64
    → length (signed_decimal (cond x (pos word) (negsuc (limit - suc word)))) ≤ 20
halved_length half limit word true t e h k = length-decimal-le 20 word (omega arith) (omega arith) (omega arith)
halved_length half limit word false t e h k =
    let high : half ≤ word = grind (arith, nat_tests) in
    omega (arith, length-decimal-le 19 (suc (limit - suc word)) (omega arith) (omega arith) (omega arith))

word_length : (width : Width) (word : ℕ) → word < 2 ^ bits width → length (word_text width word) ≤ 20
word_length W32 word h = halved_length (2 ^ 31) (2 ^ 32) word (nat_lt word (2 ^ 31)) refl (omega arith) h (omega arith)
word_length W64 word h = halved_length (2 ^ 63) (2 ^ 64) word (nat_lt word (2 ^ 63)) refl (omega arith) h (omega arith)

signed_length : (z : ℤ) → IsShort z → length (signed_decimal z) ≤ 21
signed_length (pos n) h = omega (arith, length-decimal-le 20 n (omega arith) (omega arith) (omega arith))
signed_length (negsuc n) h = omega (arith, length-decimal-le 20 (suc n) (omega arith) (omega arith) (omega arith))

-- ---- texts, each with the comma and the blank behind it

abbrev spread : List (List ℕ) → ℕ
spread [] = 0
spread (text ∷ texts) = length text + 2 + spread texts

spread_append : (a b : List (List ℕ)) → spread (a ++ b) ≡ spread a + spread b
spread_append [] b = omega arith
spread_append (text ∷ a) b = omega (arith, spread_append a b)

joined_length : (texts : List (List ℕ)) → length (joined texts) ≤ spread texts
joined_length [] = omega arith
joined_length (text ∷ []) = omega arith
joined_length (text ∷ next ∷ more) = omega (arith, length-append text (44 ∷ 32 ∷ joined (next ∷ more)), joined_length (next ∷ more))

brackets_length : (texts : List (List ℕ)) → length (in_brackets texts) ≤ 2 + spread texts
brackets_length texts = omega (arith, length-append (joined texts) (93 ∷ []), joined_length texts)

-- ---- constraints and children

constraint_length : (c : Constraint) → IsConstraint c → length (constraint_text c) ≤ 23
constraint_length WarmAny h = omega arith
constraint_length ColdAny h = omega arith
constraint_length LateColdAny h = omega arith
constraint_length SomeRegister h = omega arith
constraint_length SomeRegisterWithClobber h = omega arith
constraint_length SomeEarlyRegister h = omega arith
constraint_length SomeLateRegister h = omega arith
constraint_length (Fixed r) h = omega (arith, reg_length r.0 h)
constraint_length (LateFixed r) h = omega (arith, reg_length r.0 h)

child_length : (id : ℕ) → IsNumber id → length (child_text id) ≤ 12
child_length id h = omega (arith, ten id h)

placed_length : (id : ℕ) (c : Constraint) → IsNumber id → IsConstraint c → length (child_text id ++ (58 ∷ constraint_text c)) ≤ 36
placed_length id c h k = omega (arith, length-append (child_text id) (58 ∷ constraint_text c), child_length id h, constraint_length c k)

children_length : (skip : ℕ) (ids : List ℕ) (cs : List Constraint) → All IsNumber ids → All IsConstraint cs
    → spread (child_texts skip ids cs) ≤ 38 * length ids
children_length zero [] cs h k = omega arith
children_length (suc skip) [] cs h k = omega arith
children_length zero (id ∷ ids) [] h k =
    omega (arith, child_length id (All-head IsNumber id ids h), children_length zero ids [] (All-tail IsNumber id ids h) k)
children_length zero (id ∷ ids) (c ∷ cs) h k =
    omega (
      arith,
      placed_length id c (All-head IsNumber id ids h) (All-head IsConstraint c cs k),
      children_length zero ids cs (All-tail IsNumber id ids h) (All-tail IsConstraint c cs k),
    )
children_length (suc skip) (id ∷ ids) cs h k =
    omega (arith, child_length id (All-head IsNumber id ids h), children_length skip ids cs (All-tail IsNumber id ids h) k)

-- ---- what stands behind the children

member_length : (b : Bool) (r left : ℕ) (more : List ℕ) → r ≤ 30 → spread (map reg_text more) ≤ 6 * left
    → spread (map reg_text (if b then r ∷ more else more)) ≤ 6 * (left + 1)
member_length true r left more h k = omega (arith, reg_length r h)
member_length false r left more h k = omega arith

members_length : (set r left : ℕ) → r + left ≤ 31 → spread (map reg_text (members_from set r left)) ≤ 6 * left
unfolding members_from
members_length set r zero h = omega arith
members_length set r (suc left) h =
    omega (
      arith,
      member_length (bit_at set r == 1) r left (members_from set (r + 1) left) (omega arith) (members_length set (r + 1) left (omega arith)),
    )

set_length : (set : ℕ) → length (set_text set) ≤ 188
set_length set = omega (arith, brackets_length (map reg_text (members_from set 0 31)), members_length set 0 31 (omega arith))

named_length : (is_default : Bool) (name text : List ℕ) → spread (named_text is_default name text) ≤ length name + length text + 5
named_length true name text = omega arith
named_length false name text = omega (arith, length-append name (codes " = " ++ text))

four_length : (a b c d : List (List ℕ)) → spread (a ++ (b ++ (c ++ d))) ≡ spread a + spread b + spread c + spread d
four_length a b c d = omega (arith, spread_append a (b ++ (c ++ d)), spread_append b (c ++ d), spread_append c d)

map_length : (m : Stackmap) → IsConstraint m.result → m.size < 2 ^ 31 → spread (map_texts m) ≤ 476
map_length m h k =
    let result = named_text (is_some_register m.result) (codes "resultConstraint") (constraint_text m.result) in
    let size = named_text (m.size == 1) (codes "size") (decimal m.size) in
    let early = named_text (m.early == 0) (codes "earlyClobbered") (set_text m.early) in
    let late = named_text (m.late == 0) (codes "lateClobbered") (set_text m.late) in
    let a : spread result ≤ 44 = omega (arith, named_length (is_some_register m.result) (codes "resultConstraint") (constraint_text m.result), constraint_length m.result h) in
    let b : spread size ≤ 19 = omega (arith, named_length (m.size == 1) (codes "size") (decimal m.size), ten m.size k) in
    let c : spread early ≤ 207 = omega (arith, named_length (m.early == 0) (codes "earlyClobbered") (set_text m.early), set_length m.early) in
    let d : spread late ≤ 206 = omega (arith, named_length (m.late == 0) (codes "lateClobbered") (set_text m.late), set_length m.late) in
    omega (arith, four_length result size early late)

words_length : (words : List ℕ) → AllByRecursion (λ w. w < 2 ^ 64) words → spread (map (word_text W64) words) ≤ 22 * length words
words_length [] h = omega arith
words_length (w ∷ words) h = omega (arith, word_length W64 w h.0, words_length words h.1)

cases_length : (words : List ℕ) → AllByRecursion (λ w. w < 2 ^ 64) words
    → spread (named_text false (codes "cases") (in_brackets (map (word_text W64) words))) ≤ 12 + 22 * length words
cases_length words h =
    omega (
      arith,
      named_length false (codes "cases") (in_brackets (map (word_text W64) words)),
      brackets_length (map (word_text W64) words),
      words_length words h,
    )

-- ---- bodies

body_length : (c : Carries) (ty : Ty) (reported : ℕ) (body : Body) → IsListedBody c ty reported body
    → spread (lead_texts c body) + spread (last_texts body) ≤ 476 + 22 * case_count body
body_length carries.Nothing ty reported bodies.Plain h = omega arith
body_length (carries.Number width) ty reported (bodies.Constant word) h = omega (arith, word_length width word h)
body_length carries.Register ty reported (bodies.Argument r) h = omega (arith, reg_length r.0 h)
body_length carries.SlotNumber ty reported (bodies.Slot number) h = omega (arith, ten number h)
body_length carries.Offset ty reported (bodies.Offset bytes) h =
    omega (arith, named_length (is_zero bytes) (codes "offset") (signed_decimal bytes), signed_length bytes (offset_short bytes h))
body_length carries.PhiId ty reported (bodies.Target phi) h = omega (arith, ten phi h)
body_length carries.Site ty reported (bodies.Map m) h = omega (arith, map_length m h.result h.size)
body_length carries.Exit ty reported (bodies.Map m) h =
    let result : IsConstraint m.result = subst IsConstraint (sym h.result) tt in
    let size : m.size < 2 ^ 31 = omega (arith, h.size) in
    omega (arith, map_length m result size)
body_length carries.OneSuccessor ty reported (bodies.Targets []) h = omega arith
body_length carries.TwoSuccessors ty reported (bodies.Targets []) h = omega arith
body_length carries.CaseSuccessors ty reported (bodies.Cases words []) h =
    omega (arith, cases_length words (recursion_from_All (λ w. w < 2 ^ 64) words h))
body_length c ty reported body h = absurd h

constraints_fit : (c : Carries) (ty : Ty) (reported : ℕ) (body : Body) → IsListedBody c ty reported body → All IsConstraint (constraints_of body)
constraints_fit carries.Site ty reported (bodies.Map m) h = h.sound.constraints
constraints_fit carries.Exit ty reported (bodies.Map m) h = h.sound.constraints
constraints_fit c ty reported (bodies.Map m) h = absurd h
constraints_fit c ty reported body h = All-nil IsConstraint

-- ---- values

name_length : (o : Opcode) → length (row_of o).name ≤ 12
name_length op.FramePointer = lit≤ tt
name_length o = lit≤ tt

flag_length : (chill traps : Bool) → length (if chill then codes "<Chill>" else (if traps then codes "<Traps>" else [])) ≤ 7
flag_length true traps = lit≤ tt
flag_length false true = lit≤ tt
flag_length false false = lit≤ tt

type_length : (ty : Ty) → length (type_text ty) ≤ 5
type_length Void = lit≤ tt
type_length Int32 = lit≤ tt
type_length Int64 = lit≤ tt

kind_length : (k : Kind) → length (kind_text k) ≤ 19
kind_length k = omega (arith, length-append (row_of k.opcode).name (chosen_flag k), name_length k.opcode, flag_length k.chill k.traps)

parts_length : (ty id kind items : List ℕ) (n : ℕ) → length ty ≤ 5 → length id ≤ 10 → length kind ≤ 19 → length items ≤ n
    → length (ty ++ (codes " b@" ++ (id ++ (codes " = " ++ (kind ++ (codes "(" ++ (items ++ codes ")"))))))) ≤ 42 + n
parts_length ty id kind items n a b c d = simp length-append (omega arith)

items_length : (v : Value) → IsListedValue v → spread (item_texts v) ≤ 476 + 38 * length v.children + 22 * case_count v.body
items_length v h =
    let lead = lead_texts (row_of v.kind.opcode).carries v.body in
    let children = child_texts (length (row_of v.kind.opcode).takes) v.children (constraints_of v.body) in
    let last = last_texts v.body in
    let a : spread children ≤ 38 * length v.children = children_length _ v.children (constraints_of v.body) h.children (constraints_fit _ v.ty _ v.body h.body) in
    let b : spread lead + spread last ≤ 476 + 22 * case_count v.body = body_length _ v.ty _ v.body h.body in
    omega (arith, spread_append lead (children ++ last), spread_append children last)

value_length : (v : Value) → IsListedValue v → length (value_text v) ≤ 518 + 38 * length v.children + 22 * case_count v.body
value_length v h =
    let a : length (joined (item_texts v)) ≤ 476 + 38 * length v.children + 22 * case_count v.body = omega (arith, joined_length (item_texts v), items_length v h) in
    let b = parts_length (type_text v.ty) (decimal v.id) (kind_text v.kind) (joined (item_texts v)) (476 + 38 * length v.children + 22 * case_count v.body)
    (type_length v.ty) (ten v.id h.id) (kind_length v.kind) a in
    omega (arith, b)

-- ---- rows

target_length : (number : ℕ) → IsNumber number → length (target_text number) ≤ 11
target_length number h = omega (arith, ten number h)

targets_length : (targets : List ℕ) → AreTargets targets → spread (target_texts targets) ≤ 12 + 13 * length targets
targets_length [] h = omega arith
targets_length (n ∷ []) h = omega (arith, target_length n h.0)
targets_length (n ∷ next ∷ more) h = omega (arith, target_length n h.0, targets_length (next ∷ more) h.1)

slot_length : (number bytes : List ℕ) → length number ≤ 10 → length bytes ≤ 10
    → length (codes "    stack" ++ (number ++ (codes ": byteSize = " ++ bytes))) ≤ 42
slot_length number bytes h k = simp length-append (omega arith)

two_length : (a b : List ℕ) → length a ≤ 11 → length b ≤ 11 → length (codes "  Successors: Then:" ++ (a ++ (codes ", Else:" ++ b))) ≤ 48
two_length a b h k = simp length-append (omega arith)

pub row_length : (row : Row) → IsGoodRow row → length (line_of_row row) ≤ most_bytes row
row_length rows.Blank h = omega arith
row_length (rows.Header name) h = omega (arith, h.short)
row_length (rows.Slot number bytes) h = slot_length (decimal number) (decimal bytes) (ten number h.0) (ten bytes h.1)
row_length (rows.Heading number) h = omega (arith, length-append (decimal number) (codes ":"), ten number h)
row_length (rows.ValueRow v) h = omega (arith, value_length v h)
row_length rows.NoSuccessors h = omega arith
row_length (rows.One target) h = omega (arith, target_length target h)
row_length (rows.Two a b) h = two_length (target_text a) (target_text b) (target_length a h.0) (target_length b h.1)
row_length (rows.Many targets) h = omega (arith, joined_length (target_texts targets), targets_length targets h.0)
row_length rows.Bad h = absurd h
