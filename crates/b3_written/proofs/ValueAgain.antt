-- A value is read again from its canonical line.
use Rattle.std.proofs.Common.{◌≡◌, ℕ, suc, ◌+◌, ◌^◌, ◌<◌, true, List, [], ◌∷◌, ◌++◌, length, drop, Option, Some, refl, sym, ◌∙◌, ap, append_assoc, arith}
use Rattle.std.specs.Prelude.{codes, option_map}
use Rattle.std.specs.Fmt.{decimal}
use Rattle.std.specs.List.{list_all}
use Rattle.std.proofs.lemmas.List.{take_at}
use Rattle.b3_lines.specs.Tokens.{is_blank, is_mark, tokens, without_blanks_after}
use Rattle.b3_lines.proofs.TokenLemmas.{ink_after}
use Rattle.b3_ir.specs.declared.opcode.Ty.{Ty}
use Rattle.b3_ir.specs.declared.opcode.Ty.TheVariants.{Void, Int32, Int64}
use Rattle.b3_ir.specs.declared.value.Body.{Body}
use Rattle.b3_ir.specs.declared.value.Value.{Value}
use Rattle.b3_ir.specs.Fits.{reported_count}
use Rattle.b3_ir.specs.Table.{row_of}
use Rattle.b3_items.specs.Table.{type_text}
use Rattle.b3_rows.specs.declared.row.Row.TheVariants.{ValueRow}
use Rattle.b3_rows.specs.Listed.{IsListedValue}
use Rattle.b3_rows.specs.Rows.{carries_nothing, header_of, heading_of, is_slots_line, or_bad, other_row, row_in, row_of_line, slot_of_line, value_row, words_row}
use Rattle.b3_rows.specs.Values.{built, open_in, value, value_of}
use Rattle.b3_rows.specs.Written.{child_text, item_texts, joined, kind_text, line_of_row}
use Rattle.b3_rows.proofs.FitLemmas.{exit_count, site_count}
use Rattle.b3_rows.proofs.ValueLemmas.{inner_yes}
use Rattle.b3_written.specs.Listed.{head_text}
use Rattle.b3_written.proofs.BodyAgain.{Again, body_again}
use Rattle.b3_written.proofs.GatherAgain.{items_again, joined_quiet}
use Rattle.b3_written.proofs.HeadAgain.{front_tokens, head_again, head_in, head_no_open, head_quiet, kind_piece}
use Rattle.b3_written.proofs.ItemTexts.{then_tokens}
use Rattle.b3_written.proofs.ListedLemmas.{value_line}
use Rattle.b3_written.proofs.RoundLemmas.{all_append, quiet, quiet_row}
use Rattle.b3_written.proofs.ScanLemmas.{place_behind}

-- the items of a listed value, and what they give
abbrev Items : Value → Type 0
Items v = Again (row_of v.kind.opcode).carries v.ty (length (row_of v.kind.opcode).takes) v.children v.body (item_texts v)

items_of_value : (v : Value) → IsListedValue v → Items v
items_of_value v h =
    let row = row_of v.kind.opcode in
    body_again row.carries v.ty (length row.takes) (reported_count v) v.children v.body h.children h.body (site_count v) (exit_count v)

abbrev front_of : Value → List ℕ
front_of v = codes "    " ++ head_text v

abbrev inner_text : Value → List ℕ
inner_text v = joined (item_texts v)

-- the line of a value, cut at the parenthesis that opens
line_cut : (v : Value) → line_of_row (ValueRow v) ≡ front_of v ++ (40 ∷ (inner_text v ++ (41 ∷ [])))
line_cut v = value_line v ∙ sym (append_assoc (codes "    ") (head_text v) (40 ∷ (inner_text v ++ (41 ∷ []))))

drop_next : (front : List ℕ) (b : ℕ) (rest : List ℕ) → drop (suc (length front)) (front ++ (b ∷ rest)) ≡ rest
drop_next [] b rest = refl
drop_next (c ∷ front) b rest = drop_next front b rest

behind_open : (front : List ℕ) (b : ℕ) (rest : List ℕ) → drop (length front + 1) (front ++ (b ∷ rest)) ≡ rest
behind_open front b rest = let e : length front + 1 ≡ suc (length front) = omega arith in rw e (drop_next front b rest)

-- a value by its parts
value_parts : (v : Value) (ids : List ℕ) (body : Body) → ids ≡ v.children → body ≡ v.body → v.line ≡ 0 → value (head_in v) ids body ≡ v
value_parts v ids body e f l = rw (e, f) (ap (λ (n : ℕ). record v { line = n }) (sym l))

built_again : (v : Value) → IsListedValue v → (x : Items v) → built (head_in v) x.gathered ≡ Some v
unfolding built
built_again v h x = rw x.built (ap Some (value_parts v x.gathered.children v.body x.children refl h.line))

value_again : (v : Value) → IsListedValue v → value_of (front_of v ++ (40 ∷ (inner_text v ++ (41 ∷ [])))) ≡ Some v
unfolding value_of open_in
value_again v h =
    let x = items_of_value v h in
    let front = front_of v in
    let inner = inner_text v in
    rw (
      place_behind 40 front (inner ++ (41 ∷ [])) (head_no_open v h.id),
      take_at front (40 ∷ (inner ++ (41 ∷ []))) (length front) refl,
      behind_open front 40 (inner ++ (41 ∷ [])),
      head_again v h.id h.chill h.traps,
      inner_yes (inner ++ (41 ∷ [])) inner 41 refl refl,
      items_again (row_of v.kind.opcode).carries (item_texts v) x.items x.say,
      x.put,
    ) (built_again v h x)

-- ---- the row

open_tokens : (v : Value) (rest : List ℕ) → v.id < 2 ^ 31
    → tokens (front_of v ++ (40 ∷ rest)) ≡ type_text v.ty ∷ child_text v.id ∷ codes "=" ∷ kind_text v.kind ∷ codes "(" ∷ tokens rest
unfolding tokens is_blank is_mark
open_tokens v rest h =
    let shape : front_of v ++ (40 ∷ rest)
    ≡ codes "    " ++ (type_text v.ty ++ (codes " b@" ++ (decimal v.id ++ (codes " = " ++ (kind_text v.kind ++ (40 ∷ rest)))))) = simp append_assoc refl in
    ap tokens shape ∙ front_tokens v.ty v.id (kind_text v.kind ++ (40 ∷ rest)) h
    ∙ ap (λ (ts : List (List ℕ)). type_text v.ty ∷ child_text v.id ∷ codes "=" ∷ ts) (then_tokens (kind_text v.kind) (40 ∷ rest) (kind_piece v.kind) refl)

in_row : (text : List ℕ) (ty : Ty) (id mark kind open_ : List ℕ) (ts : List (List ℕ))
    → row_in text (type_text ty ∷ id ∷ mark ∷ kind ∷ open_ ∷ ts) ≡ or_bad (value_row text)
unfolding row_in carries_nothing is_slots_line other_row words_row heading_of slot_of_line header_of
in_row text Void id mark kind open_ ts = refl
in_row text Int32 id mark kind open_ ts = refl
in_row text Int64 id mark kind open_ ts = refl

line_quiet : (v : Value) → IsListedValue v → list_all quiet (front_of v ++ (40 ∷ (inner_text v ++ (41 ∷ [])))) ≡ true
unfolding quiet
line_quiet v h =
    let x = items_of_value v h in
    all_append quiet (front_of v) (40 ∷ (inner_text v ++ (41 ∷ []))) (head_quiet v h.id)
    (all_append quiet (inner_text v) (41 ∷ []) (joined_quiet (item_texts v) x.items x.say) refl)

line_ink : (front inner : List ℕ) → without_blanks_after (front ++ (40 ∷ (inner ++ (41 ∷ [])))) ≡ front ++ (40 ∷ (inner ++ (41 ∷ [])))
unfolding is_blank
line_ink front inner =
    let shape : (front ++ (40 ∷ inner)) ++ (41 ∷ []) ≡ front ++ (40 ∷ (inner ++ (41 ∷ []))) = append_assoc front (40 ∷ inner) (41 ∷ []) in
    ap without_blanks_after (sym shape) ∙ ink_after (front ++ (40 ∷ inner)) 41 refl ∙ shape

pub row_again : (v : Value) → IsListedValue v → row_of_line (line_of_row (ValueRow v)) ≡ ValueRow v
row_again v h =
    let rest = inner_text v ++ (41 ∷ []) in
    let line = front_of v ++ (40 ∷ rest) in
    ap row_of_line (line_cut v)
    ∙ quiet_row line (line_quiet v h) (line_ink (front_of v) (inner_text v))
    ∙ ap (row_in line) (open_tokens v rest h.id)
    ∙ in_row line v.ty (child_text v.id) (codes "=") (kind_text v.kind) (codes "(") (tokens rest)
    ∙ ap (λ (o : Option Value). or_bad (option_map ValueRow o)) (value_again v h)

-- no byte of the line ends it or begins a comment
pub value_quiet : (v : Value) → IsListedValue v → list_all quiet (line_of_row (ValueRow v)) ≡ true
value_quiet v h = ap (list_all quiet) (line_cut v) ∙ line_quiet v h
