-- What some lines say, computed. No public clause cites this module.
use Rattle.std.proofs.Common.{◌≡◌, ℕ, true, false, List, [], ◌∷◌, ◌++◌, refl}
use Rattle.std.specs.Prelude.{map, replicate, codes, pos, negsuc, ◌-◌, ◌^◌}
use Rattle.b3_ir.specs.declared.opcode.Kind.{Kind}
use Rattle.b3_ir.specs.declared.opcode.Opcode.TheVariants as op
use Rattle.b3_ir.specs.declared.opcode.Ty.{Ty}
use Rattle.b3_ir.specs.declared.opcode.Ty.TheVariants.{Void, Int32, Int64}
use Rattle.b3_ir.specs.declared.value.Body.{Body}
use Rattle.b3_ir.specs.declared.value.Body.TheVariants as bodies
use Rattle.b3_ir.specs.declared.value.Constraint.{Constraint}
use Rattle.b3_ir.specs.declared.value.Constraint.TheVariants as places
use Rattle.b3_lines.specs.Lines.{lines_of, before_comment, are_ascii, ends_in_cr, without_cr}
use Rattle.b3_lines.specs.Tokens.{tokens, is_blank, is_mark, without_blanks_after}
use Rattle.b3_rows.specs.declared.row.Row.{Row}
use Rattle.b3_rows.specs.declared.row.Row.TheVariants.{Blank, Header, Slot, Heading, ValueRow, NoSuccessors, One, Two, Many, Bad}
use Rattle.b3_items.specs.Numbers.{plain_of, decimal_of, hex_digit, hex_of, number_of, are_digits, has_number_form, word_of, offset_in, offset_of, case_of}
use Rattle.b3_items.specs.Table.{opcode_named, angle_in, kind_of, kind, type_of}
use Rattle.b3_items.specs.Items.{is_mark_of, reg, reg_of, free_constraint, constraint_of, id_of, is_note, mark_constraint, colon_in, piece_child, wraps, child_of, slot_of, phi_of, leading_of, label_of, ends_list, more_cases, some_cases, cases_of, more_regs, some_regs, regs_of, is_generator, valued, named_of, is_plain_effect, is_effect, are_effects, item_of, cut_items, items_of}
use Rattle.b3_rows.specs.Gathering.{may_have, is_fresh, takes_children, put_lead, put_child, put_phi, put_offset, put_cases, put_result, put_size, put_early, put_late, put_generator, put_used, put, put_in, gather, items_in}
use Rattle.b3_rows.specs.Values.{head_parts, head_of, body_of, site_map, exit_map, built, open_in, inner_of, value_of}
use Rattle.b3_rows.specs.Rows.{is_name_text, header_of, before_colon, plain_between, slot_of_line, heading_of, is_slots_line, one_of, two_of, many_of, successors_of, words_row, carries_nothing, other_row, row_in, is_clean, row_of_text, row_of_line}

lines : map row_of_line (
    codes "  procedure foo.bar " ∷
    codes "" ∷
    codes "   ; x" ∷
    codes "Predecessors: #1, (" ∷
    codes " Stack   slots: // a" ∷
    codes "stack0: byteSize = 8" ∷
    codes "stack3: byteSize=016" ∷
    codes "BB#12:" ∷
    codes "Successors:" ∷
    codes "Successors: #4" ∷
    codes "Successors: Then:#1, Else:#2" ∷
    codes "Successors: #1, #2, fallThrough:#3" ∷
    codes "Successors: fallThrough:#3" ∷
    []) ≡
    Header (codes "foo.bar") ∷
    Blank ∷
    Blank ∷
    Blank ∷
    Blank ∷
    Slot 0 8 ∷
    Slot 3 16 ∷
    Heading 12 ∷
    NoSuccessors ∷
    One 4 ∷
    Two 1 2 ∷
    Many (1 ∷ 2 ∷ 3 ∷ []) ∷
    Many (3 ∷ []) ∷
    []
unfolding lines_of before_comment are_ascii ends_in_cr without_cr tokens is_blank is_mark without_blanks_after plain_of decimal_of hex_digit hex_of
    number_of are_digits has_number_form word_of offset_in offset_of case_of opcode_named angle_in kind_of type_of is_mark_of reg_of free_constraint
    constraint_of id_of is_note mark_constraint colon_in piece_child wraps child_of slot_of phi_of leading_of label_of ends_list more_cases some_cases
    cases_of more_regs some_regs regs_of is_generator valued named_of is_plain_effect is_effect are_effects item_of cut_items items_of may_have
    is_fresh takes_children put_lead put_child put_phi put_offset put_cases put_result put_size
    put_early put_late put_generator put_used put put_in gather items_in head_parts head_of body_of site_map exit_map built open_in inner_of value_of
    is_name_text header_of before_colon
    plain_between slot_of_line heading_of is_slots_line one_of two_of many_of successors_of words_row carries_nothing other_row row_in is_clean row_of_text
    row_of_line
lines = refl

bad_lines : map row_of_line (
    codes "procedure 1foo" ∷
    codes "stack0:byteSize = 8" ∷
    codes "BB#2147483648:" ∷
    codes "BB#0002147483647:" ∷
    codes "BB#1 :" ∷
    codes "Successors:#0" ∷
    codes "Successors: Then: #1, Else:#2" ∷
    codes "Successors: #1, #2" ∷
    codes "Successors: #1," ∷
    codes "Void @0 = Nop(,)" ∷
    codes "Void @0 = Nop" ∷
    codes "Void @0 = Nop())" ∷
    codes "Void @0 = Nop() x" ∷
    codes "Int64 @7 = Const64(-0x5)" ∷
    codes "Int64 @7 = Const64()" ∷
    codes "Int64 @7 = Const64(b@1, 5)" ∷
    codes "Int64 @7 = Const64(5, 6)" ∷
    codes "Int32 @7 = Const32(4294967296)" ∷
    codes "Int32 @7 = Const32(-2147483649)" ∷
    codes "Int64 @1 = ArgumentReg(%x31)" ∷
    codes "Int64 @1 = Add(b@0:WarmAny)" ∷
    codes "Int64 @1 = Add(b@0, offset = 4)" ∷
    codes "Int64 @1 = Add(b@0, Reads:)" ∷
    codes "Int64 @1 = Add(Fence, b@0)" ∷
    codes "Int32 @1 = UDiv<Chill>(@0, @0)" ∷
    codes "Int32 @1 = Div<Traps>(@0, @0)" ∷
    codes "Int32 @1 = Div<Chill>x(@0, @0)" ∷
    codes "Int32 @1 = Add<>(@0, @0)" ∷
    codes "Int32 @1 = Load8Z(@0, offset = 2147483648)" ∷
    codes "Int32 @1 = Load8Z(@0, offset=1, offset=1)" ∷
    codes "Void @1 = Upsilon(^3, @0)" ∷
    codes "Void @1 = Upsilon(@0)" ∷
    codes "Void @1 = Upsilon(@0, Fence, ^3)" ∷
    codes "Void @1 = Switch(@0)" ∷
    codes "Void @1 = Switch(@0, cases = [1,])" ∷
    codes "Int32 @1 = Patchpoint(b@0 :WarmAny)" ∷
    codes "Int32 @1 = Patchpoint(b@0:Nowhere)" ∷
    codes "Int32 @1 = CheckAdd(b@0, size = 1)" ∷
    codes "Int32 @1 = CheckAdd(b@0, resultConstraint = ColdAny)" ∷
    codes "Int32 @1 = Adder()" ∷
    codes "Int16 @1 = Add()" ∷
    codes "Int32 b1 = Add()" ∷
    codes "foo" ∷
    []) ≡ replicate 43 Bad
unfolding lines_of before_comment are_ascii ends_in_cr without_cr tokens is_blank is_mark without_blanks_after plain_of decimal_of hex_digit hex_of
    number_of are_digits has_number_form word_of offset_in offset_of case_of opcode_named angle_in kind_of type_of is_mark_of reg_of free_constraint
    constraint_of id_of is_note mark_constraint colon_in piece_child wraps child_of slot_of phi_of leading_of label_of ends_list more_cases some_cases
    cases_of more_regs some_regs regs_of is_generator valued named_of is_plain_effect is_effect are_effects item_of cut_items items_of may_have
    is_fresh takes_children put_lead put_child put_phi put_offset put_cases put_result put_size
    put_early put_late put_generator put_used put put_in gather items_in head_parts head_of body_of site_map exit_map built open_in inner_of value_of
    is_name_text header_of before_colon
    plain_between slot_of_line heading_of is_slots_line one_of two_of many_of successors_of words_row carries_nothing other_row row_in is_clean row_of_text
    row_of_line
bad_lines = refl

abbrev value : Ty → ℕ → Kind → List ℕ → Body → Row
value ty id kind children body = ValueRow (record { id = id; ty = ty; kind = kind; children = children; body = body; line = 0 })

abbrev map_body : List Constraint → Constraint → ℕ → ℕ → ℕ → Body
map_body cs result early late size = bodies.Map (record { constraints = cs; result = result; early = early; late = late; size = size })

values_0 : map row_of_line (
    codes "Void b@0=Nop ( )" ∷
    codes "Int64 @007 = Const64(-1)" ∷
    codes "Int64 @7 = Const64(5, b@0) // c" ∷
    codes "Int64 @7 = Const64(0xFf)" ∷
    codes "Int32 @7 = Const32(4294967295)" ∷
    codes "Int32 @7 = Const32(-2147483648)" ∷
    codes "Int32 @7 = Const32(-0)" ∷
    codes "Int64 @1 = ArgumentReg(%x007)" ∷
    codes "Int64 @1 = ArgumentReg(%fp)" ∷
    codes "Int64 @1 = SlotBase(stack2)" ∷
    []) ≡
    value Void 0 (kind op.Nop false false) ([]) (bodies.Plain) ∷
    value Int64 7 (kind op.Const64 false false) ([]) (bodies.Constant (2 ^ 64 - 1)) ∷
    value Int64 7 (kind op.Const64 false false) (0 ∷ []) (bodies.Constant 5) ∷
    value Int64 7 (kind op.Const64 false false) ([]) (bodies.Constant 255) ∷
    value Int32 7 (kind op.Const32 false false) ([]) (bodies.Constant 4294967295) ∷
    value Int32 7 (kind op.Const32 false false) ([]) (bodies.Constant 2147483648) ∷
    value Int32 7 (kind op.Const32 false false) ([]) (bodies.Constant 0) ∷
    value Int64 1 (kind op.ArgumentReg false false) ([]) (bodies.Argument (reg 7)) ∷
    value Int64 1 (kind op.ArgumentReg false false) ([]) (bodies.Argument (reg 29)) ∷
    value Int64 1 (kind op.SlotBase false false) ([]) (bodies.Slot 2) ∷
    []
unfolding lines_of before_comment are_ascii ends_in_cr without_cr tokens is_blank is_mark without_blanks_after plain_of decimal_of hex_digit hex_of
    number_of are_digits has_number_form word_of offset_in offset_of case_of opcode_named angle_in kind_of type_of is_mark_of reg_of free_constraint
    constraint_of id_of is_note mark_constraint colon_in piece_child wraps child_of slot_of phi_of leading_of label_of ends_list more_cases some_cases
    cases_of more_regs some_regs regs_of is_generator valued named_of is_plain_effect is_effect are_effects item_of cut_items items_of may_have
    is_fresh takes_children put_lead put_child put_phi put_offset put_cases put_result put_size
    put_early put_late put_generator put_used put put_in gather items_in head_parts head_of body_of site_map exit_map built open_in inner_of value_of
    is_name_text header_of before_colon
    plain_between slot_of_line heading_of is_slots_line one_of two_of many_of successors_of words_row carries_nothing other_row row_in is_clean row_of_text
    row_of_line
values_0 = refl

values_1 : map row_of_line (
    codes "Int64 @1 = Add(@0, $5(b@2))" ∷
    codes "Int64 @1 = Add($0x1f (@0))" ∷
    codes "Int64 @1 = Add($-99999999999999999999(@0), Reads:@1..2|Fence, Terminal)" ∷
    codes "Int32 @1 = Div<Chill>(@0, @0)" ∷
    codes "Int32 @1 = Load8Z<Traps>(@0, offset = -2147483648)" ∷
    codes "Int32 @1 = Load8Z(@0)" ∷
    codes "Void @1 = Upsilon(@0, ^3)" ∷
    codes "Void @1 = Switch(@0, cases = [1, -1,18446744073709551615])" ∷
    codes "Void @1 = Switch(@0, cases=[])" ∷
    codes "Void @1 = Jump()" ∷
    []) ≡
    value Int64 1 (kind op.Add false false) (0 ∷ 2 ∷ []) (bodies.Plain) ∷
    value Int64 1 (kind op.Add false false) (0 ∷ []) (bodies.Plain) ∷
    value Int64 1 (kind op.Add false false) (0 ∷ []) (bodies.Plain) ∷
    value Int32 1 (kind op.Div true false) (0 ∷ 0 ∷ []) (bodies.Plain) ∷
    value Int32 1 (kind op.Load8Z false true) (0 ∷ []) (bodies.Offset (negsuc 2147483647)) ∷
    value Int32 1 (kind op.Load8Z false false) (0 ∷ []) (bodies.Offset (pos 0)) ∷
    value Void 1 (kind op.Upsilon false false) (0 ∷ []) (bodies.Target 3) ∷
    value Void 1 (kind op.Switch false false) (0 ∷ []) (bodies.Cases (1 ∷ (2 ^ 64 - 1) ∷ (2 ^ 64 - 1) ∷ []) []) ∷
    value Void 1 (kind op.Switch false false) (0 ∷ []) (bodies.Cases [] []) ∷
    value Void 1 (kind op.Jump false false) ([]) (bodies.Targets []) ∷
    []
unfolding lines_of before_comment are_ascii ends_in_cr without_cr tokens is_blank is_mark without_blanks_after plain_of decimal_of hex_digit hex_of
    number_of are_digits has_number_form word_of offset_in offset_of case_of opcode_named angle_in kind_of type_of is_mark_of reg_of free_constraint
    constraint_of id_of is_note mark_constraint colon_in piece_child wraps child_of slot_of phi_of leading_of label_of ends_list more_cases some_cases
    cases_of more_regs some_regs regs_of is_generator valued named_of is_plain_effect is_effect are_effects item_of cut_items items_of may_have
    is_fresh takes_children put_lead put_child put_phi put_offset put_cases put_result put_size
    put_early put_late put_generator put_used put put_in gather items_in head_parts head_of body_of site_map exit_map built open_in inner_of value_of
    is_name_text header_of before_colon
    plain_between slot_of_line heading_of is_slots_line one_of two_of many_of successors_of words_row carries_nothing other_row row_in is_clean row_of_text
    row_of_line
values_1 = refl

values_2 : map row_of_line (
    codes "Void @1 = Branch(@0, Terminal)" ∷
    (codes "Void @1 = Patchpoint($1(b@0) :WarmAny, b@2:late:%x3"
    ++ codes ", lateClobbered = [%x1, %fp, %x01], size = 3, generator = -5, usedRegisters = [], resultConstraint = ColdAny)") ∷
    codes "Int32 @1 = Patchpoint(b@0, resultConstraint=%x4, earlyClobbered=[%lr])" ∷
    codes "Int32 @1 = CheckAdd(b@0:ColdAny, b@1, b@2:SomeRegisterWithClobber)" ∷
    []) ≡
    value Void 1 (kind op.Branch false false) (0 ∷ []) (bodies.Targets []) ∷
    value Void 1 (kind op.Patchpoint false false) (0 ∷ 2 ∷ []) (map_body (places.WarmAny ∷ places.LateFixed (reg 3) ∷ []) places.SomeRegister 0 536870914 3) ∷
    value Int32 1 (kind op.Patchpoint false false) (0 ∷ []) (map_body (places.WarmAny ∷ []) (places.Fixed (reg 4)) 1073741824 0 1) ∷
    value Int32 1 (kind op.CheckAdd false false) (0 ∷ 1 ∷ 2 ∷ []) (map_body (places.SomeRegisterWithClobber ∷ []) places.SomeRegister 0 0 1) ∷
    []
unfolding lines_of before_comment are_ascii ends_in_cr without_cr tokens is_blank is_mark without_blanks_after plain_of decimal_of hex_digit hex_of
    number_of are_digits has_number_form word_of offset_in offset_of case_of opcode_named angle_in kind_of type_of is_mark_of reg_of free_constraint
    constraint_of id_of is_note mark_constraint colon_in piece_child wraps child_of slot_of phi_of leading_of label_of ends_list more_cases some_cases
    cases_of more_regs some_regs regs_of is_generator valued named_of is_plain_effect is_effect are_effects item_of cut_items items_of may_have
    is_fresh takes_children put_lead put_child put_phi put_offset put_cases put_result put_size
    put_early put_late put_generator put_used put put_in gather items_in head_parts head_of body_of site_map exit_map built open_in inner_of value_of
    is_name_text header_of before_colon
    plain_between slot_of_line heading_of is_slots_line one_of two_of many_of successors_of words_row carries_nothing other_row row_in is_clean row_of_text
    row_of_line
values_2 = refl

crlf : lines_of (97 ∷ 13 ∷ 10 ∷ 98 ∷ 13 ∷ []) ≡ (97 ∷ []) ∷ (98 ∷ 13 ∷ []) ∷ []
unfolding lines_of
crlf = refl

bytes : map row_of_line (
    (codes "Predecessors:" ++ (13 ∷ [])) ∷
    (codes "Predecessors: ;" ++ (13 ∷ [])) ∷
    (codes "Predecessors: " ++ (200 ∷ [])) ∷
    (codes "BB#0: // " ++ (200 ∷ [])) ∷
    []) ≡ Bad ∷ Blank ∷ Bad ∷ Heading 0 ∷ []
unfolding lines_of before_comment are_ascii ends_in_cr without_cr tokens is_blank is_mark without_blanks_after plain_of decimal_of hex_digit hex_of
    number_of are_digits has_number_form word_of offset_in offset_of case_of opcode_named angle_in kind_of type_of is_mark_of reg_of free_constraint
    constraint_of id_of is_note mark_constraint colon_in piece_child wraps child_of slot_of phi_of leading_of label_of ends_list more_cases some_cases
    cases_of more_regs some_regs regs_of is_generator valued named_of is_plain_effect is_effect are_effects item_of cut_items items_of may_have
    is_fresh takes_children put_lead put_child put_phi put_offset put_cases put_result put_size
    put_early put_late put_generator put_used put put_in gather items_in head_parts head_of body_of site_map exit_map built open_in inner_of value_of
    is_name_text header_of before_colon
    plain_between slot_of_line heading_of is_slots_line one_of two_of many_of successors_of words_row carries_nothing other_row row_in is_clean row_of_text
    row_of_line
bytes = refl
