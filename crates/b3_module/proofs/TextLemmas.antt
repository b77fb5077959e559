-- What texts give.
use Rattle.std.proofs.Common.{◌≡◌, ◌≢◌, ℕ, ◌+◌, ◌≤◌, Bool, true, false, cond, List, [], ◌∷◌, ◌++◌, length, map, Option, Some, None, refl, sym, ap, subst, ◌∙◌, arith}
use Rattle.std.specs.Prelude.{◌==◌, IfSome}
use Rattle.std.specs.List.{AllByRecursion, flat_map}
use Rattle.std.proofs.lemmas.Bool.Decides.{nat_tests}
use Rattle.std.proofs.lemmas.List.{length-append}
use Rattle.b3_ir.specs.declared.table.Carries.{Carries}
use Rattle.b3_ir.specs.declared.table.Carries.TheVariants as carries
use Rattle.b3_ir.specs.declared.opcode.Ty.{Ty}
use Rattle.b3_ir.specs.declared.procedure.SlotLine.{SlotLine}
use Rattle.b3_ir.specs.declared.value.Body.{Body}
use Rattle.b3_ir.specs.declared.value.Body.TheVariants as bodies
use Rattle.b3_ir.specs.declared.value.Value.{Value}
use Rattle.b3_ir.specs.Fits.{reported_count}
use Rattle.b3_ir.specs.Names.{IsName}
use Rattle.b3_ir.specs.Procedure.{Block, Procedure, empty_block, empty_procedure}
use Rattle.b3_ir.specs.Table.{row_of}
use Rattle.b3_rows.specs.declared.row.Row.{Row}
use Rattle.b3_rows.specs.declared.row.Row.TheVariants as rows
use Rattle.b3_rows.specs.Listed.{HasCasesAlone, HasNoTargets, IsListedBody, IsListedValue, IsNumber}
use Rattle.b3_rows.specs.Ranges.{AreTargets, IsGoodRow, IsInRange}
use Rattle.b3_rows.specs.Rows.{row_of_line}
use Rattle.b3_lines.specs.Lines.{lines_of}
use Rattle.b3_module.specs.declared.place.Following.{Following}
use Rattle.b3_module.specs.declared.place.Following.TheVariants.{Nothing, Bare, One, Two, Many}
use Rattle.b3_module.specs.declared.place.Place.{Place}
use Rattle.b3_module.specs.declared.place.Place.TheVariants as places
use Rattle.b3_module.specs.Canonical.{AreBlocksMatched, AreMatched, AreRowed, Matches, bare_body, canonical_rows, row_of_slot, row_of_targets, rows_of_block, rows_of_value, successors_of}
use Rattle.b3_module.specs.Texts.{Spells, State, added, added_to, added_value, after_value, branched, cases_in, ended, ended_at, first, following, jumped, led, opened, placed, returned, rows_of, slotted, switched, targets_in, valued, with_heading, with_last, with_slot, with_targets, with_value}
use Rattle.b3_module.specs.TextModules.{IsBegunProcedure, IsTextBlock, IsTextModule, IsTextProcedure, IsTextSlot, IsTextValue, targets_of}
use Rattle.b3_module.proofs.LastLemmas.{length_with_last}
use Rattle.b3_module.proofs.RowLaws.{Agrees, IsPlainRow, agree}

-- ---- lists

pub both_all : {A : Type 0} (P : A → Type 0) (xs ys : List A) → AllByRecursion P xs → AllByRecursion P ys → AllByRecursion P (xs ++ ys)
both_all P [] ys h k = k
both_all P (x ∷ xs) ys h k = (h.0, both_all P xs ys h.1 k)

last_all : {A : Type 0} (P : A → Type 0) (f : A → A) (xs : List A) → ((x : A) → P x → P (f x)) → AllByRecursion P xs → AllByRecursion P (with_last f xs)
last_all P f [] g h = tt
last_all P f (x ∷ []) g h = (g x h.0, tt)
last_all P f (x ∷ y ∷ xs) g h = (h.0, last_all P f (y ∷ xs) g h.1)

-- there is a last one, of another property than those before
abbrev LastIs : {A : Type 0} → (A → Type 0) → (A → Type 0) → List A → Type 0
LastIs P Q [] = ⊥
LastIs P Q (x ∷ []) = Q x
LastIs P Q (x ∷ y ∷ xs) = P x × LastIs P Q (y ∷ xs)

last_with : {A : Type 0} (P Q R : A → Type 0) (f : A → A) (xs : List A) → ((x : A) → Q x → R (f x)) → LastIs P Q xs → LastIs P R (with_last f xs)
last_with P Q R f [] g h = absurd h
last_with P Q R f (x ∷ []) g h = g x h
last_with P Q R f (x ∷ y ∷ []) g h = (h.0, g y h.1)
last_with P Q R f (x ∷ y ∷ z ∷ xs) g h = (h.0, last_with P Q R f (y ∷ z ∷ xs) g h.1)

one_last : {A : Type 0} (P Q : A → Type 0) (xs : List A) (y : A) → LastIs P P xs → Q y → LastIs P Q (xs ++ y ∷ [])
one_last P Q [] y h k = absurd h
one_last P Q (x ∷ []) y h k = (h, k)
one_last P Q (x ∷ z ∷ xs) y h k = (h.0, one_last P Q (z ∷ xs) y h.1 k)

all_last : {A : Type 0} (P : A → Type 0) (xs : List A) → LastIs P P xs → (1 ≤ length xs) × AllByRecursion P xs
all_last P [] h = absurd h
all_last P (x ∷ []) h = (omega arith, (h, tt))
all_last P (x ∷ y ∷ xs) h = (omega arith, (h.0, (all_last P (y ∷ xs) h.1).1))

-- ---- values

-- a body without successors
abbrev IsAlone : Body → Type 0
IsAlone body = (bare_body body ≡ body) × (successors_of body ≡ []) × AreTargets (targets_of body)

alone : (c : Carries) (ty : Ty) (n : ℕ) (body : Body) → IsPlainRow c → IsListedBody c ty n body → IsAlone body
alone carries.OneSuccessor ty n body p h = absurd p
alone carries.TwoSuccessors ty n body p h = absurd p
alone carries.CaseSuccessors ty n body p h = absurd p
alone carries.Nothing ty n bodies.Plain p h = (refl, refl, tt)
alone (carries.Number width) ty n (bodies.Constant word) p h = (refl, refl, tt)
alone carries.Register ty n (bodies.Argument r) p h = (refl, refl, tt)
alone carries.SlotNumber ty n (bodies.Slot number) p h = (refl, refl, tt)
alone carries.Offset ty n (bodies.Offset bytes) p h = (refl, refl, tt)
alone carries.PhiId ty n (bodies.Target phi) p h = (refl, refl, tt)
alone carries.Site ty n (bodies.Map m) p h = (refl, refl, tt)
alone carries.Exit ty n (bodies.Map m) p h = (refl, refl, tt)
alone c ty n body p h = absurd h

nothing_plain : (c : Carries) → Agrees Nothing c → IsPlainRow c
unfolding Agrees
nothing_plain carries.OneSuccessor a = a
nothing_plain carries.TwoSuccessors a = a
nothing_plain carries.CaseSuccessors a = a
nothing_plain c a = tt

bare_plain : (c : Carries) → Agrees Bare c → IsPlainRow c
unfolding Agrees
bare_plain carries.OneSuccessor a = a
bare_plain carries.TwoSuccessors a = a
bare_plain carries.CaseSuccessors a = a
bare_plain c a = tt

one_carries : (c : Carries) → Agrees One c → c ≡ carries.OneSuccessor
unfolding Agrees
one_carries carries.OneSuccessor a = refl
one_carries c a = absurd a

two_carries : (c : Carries) → Agrees Two c → c ≡ carries.TwoSuccessors
unfolding Agrees
two_carries carries.TwoSuccessors a = refl
two_carries c a = absurd a

many_carries : (c : Carries) → Agrees Many c → c ≡ carries.CaseSuccessors
unfolding Agrees
many_carries carries.CaseSuccessors a = refl
many_carries c a = absurd a

no_targets : (body : Body) → HasNoTargets body → body ≡ bodies.Targets []
no_targets (bodies.Targets []) h = refl
no_targets body h = absurd h

cases_alone : (body : Body) → HasCasesAlone body → (words : List ℕ) × (body ≡ bodies.Cases words [])
cases_alone (bodies.Cases words []) h = (words, refl)
cases_alone body h = absurd h

-- a value that a line says, with the line where it stands
abbrev IsSaid : Value → Type 0
IsSaid v = IsListedValue (record v { line = 0 })

agrees_with : (v : Value) (f : Following) → following v.kind.opcode ≡ f → Agrees f (row_of v.kind.opcode).carries
agrees_with v f e = subst (λ (x : Following). Agrees x (row_of v.kind.opcode).carries) e (agree v.kind.opcode)

-- with its successors
with_body : (v : Value) (f : Following) (body : Body) → following v.kind.opcode ≡ f → IsSaid v → bare_body body ≡ v.body
    → Matches f body → AreTargets (targets_of body)
    → IsTextValue (record v { body = body })
with_body v f body e h same match targets = record {
  listed = record {
    id = h.id;
    children = h.children;
    body = subst (IsListedBody (row_of v.kind.opcode).carries v.ty (reported_count v)) (sym same) h.body;
    chill = h.chill;
    traps = h.traps;
    line = refl;
  };
  matched = subst (λ (x : Following). Matches x body) (sym e) match;
  targets = targets;
}

nothing_text : (v : Value) → following v.kind.opcode ≡ Nothing → IsSaid v → IsTextValue v
nothing_text v e h =
    let a = alone (row_of v.kind.opcode).carries v.ty (reported_count v) v.body
    (nothing_plain (row_of v.kind.opcode).carries (agrees_with v Nothing e)) h.body in
    with_body v Nothing v.body e h a.0 (a.0, a.1) a.2

bare_text : (v : Value) → following v.kind.opcode ≡ Bare → IsSaid v → IsTextValue v
bare_text v e h =
    let a = alone (row_of v.kind.opcode).carries v.ty (reported_count v) v.body (bare_plain (row_of v.kind.opcode).carries (agrees_with v Bare e)) h.body in
    with_body v Bare v.body e h a.0 (a.0, a.1) a.2

-- a body in another that is equal
moved_text : (v : Value) (a b : Body) → a ≡ b → IsTextValue (record v { body = b }) → IsTextValue (record v { body = a })
moved_text v a b e h = subst (λ (x : Body). IsTextValue (record v { body = x })) (sym e) h

targets_text : (v : Value) (f : Following) (targets : List ℕ) → following v.kind.opcode ≡ f → IsSaid v → HasNoTargets v.body
    → Matches f (bodies.Targets targets) → AreTargets targets → IsTextValue (with_targets v targets)
targets_text v f targets e h none match range =
    let same = no_targets v.body none in
    moved_text v (targets_in v.body targets) (bodies.Targets targets) (ap (λ (x : Body). targets_in x targets) same)
    (with_body v f (bodies.Targets targets) e h (sym same) match range)

one_text : (v : Value) (a : ℕ) → following v.kind.opcode ≡ One → IsSaid v → IsNumber a → IsTextValue (with_targets v (a ∷ []))
one_text v a e h k =
    let c = one_carries (row_of v.kind.opcode).carries (agrees_with v One e) in
    targets_text v One (a ∷ []) e h (subst (λ (x : Carries). IsListedBody x v.ty (reported_count v) v.body) c h.body) tt (k, tt)

two_text : (v : Value) (a b : ℕ) → following v.kind.opcode ≡ Two → IsSaid v → IsNumber a → IsNumber b → IsTextValue (with_targets v (a ∷ b ∷ []))
two_text v a b e h k l =
    let c = two_carries (row_of v.kind.opcode).carries (agrees_with v Two e) in
    targets_text v Two (a ∷ b ∷ []) e h (subst (λ (x : Carries). IsListedBody x v.ty (reported_count v) v.body) c h.body) tt (k, (l, tt))

many_text : (v : Value) (targets : List ℕ) → following v.kind.opcode ≡ Many → IsSaid v → AreTargets targets → length targets ≡ cases_in v.body + 1
    → IsTextValue (with_targets v targets)
many_text v targets e h range count =
    let c = many_carries (row_of v.kind.opcode).carries (agrees_with v Many e) in
    let some = cases_alone v.body (subst (λ (x : Carries). IsListedBody x v.ty (reported_count v) v.body) c h.body) in
    moved_text v (targets_in v.body targets) (bodies.Cases some.0 targets) (ap (λ (x : Body). targets_in x targets) some.1)
    (with_body v Many (bodies.Cases some.0 targets) e h (sym some.1) (count ∙ ap (λ (x : Body). cases_in x + 1) some.1) range)

-- ---- parts of a procedure

empty_begun : (name : List ℕ) (line : ℕ) → IsName name → IsBegunProcedure (empty_procedure name line)
empty_begun name line h = record { name = h; slots = tt; blocks = tt }

slot_begun : (number bytes line : ℕ) (p : Procedure) → IsNumber number → IsNumber bytes → IsBegunProcedure p → IsBegunProcedure (with_slot number bytes line p)
slot_begun number bytes line p k l h = record {
  name = h.name;
  slots = both_all IsTextSlot p.slots _ h.slots (record { number = k; bytes = l }, tt);
  blocks = h.blocks;
}

heading_text : (number line : ℕ) (p : Procedure) → IsNumber number → IsBegunProcedure p → IsTextProcedure (with_heading number line p)
heading_text number line p k h = record {
  begun = record {
    name = h.name;
    slots = h.slots;
    blocks = both_all IsTextBlock p.blocks _ h.blocks (record { number = k; values = tt }, tt);
  };
  some = omega (arith, length-append p.blocks (empty_block number line ∷ []));
}

block_text : (v : Value) (b : Block) → IsTextValue v → IsTextBlock b → IsTextBlock (record b { values = b.values ++ v ∷ [] })
block_text v b k h = record { number = h.number; values = both_all IsTextValue b.values (v ∷ []) h.values (k, tt) }

value_text : (v : Value) (p : Procedure) → IsTextValue v → IsTextProcedure p → IsTextProcedure (with_value v p)
value_text v p k h = record {
  begun = record {
    name = h.begun.name;
    slots = h.begun.slots;
    blocks = last_all IsTextBlock (λ (b : Block). record b { values = b.values ++ v ∷ [] }) p.blocks (λ b q. block_text v b k q) h.begun.blocks;
  };
  some = let some = h.some in omega (arith, length_with_last (λ (b : Block). record b { values = b.values ++ v ∷ [] }) p.blocks);
}

-- ---- states

abbrev AreBegun : List Procedure → Type 0
AreBegun ps = LastIs IsTextProcedure IsBegunProcedure ps

abbrev AreText : List Procedure → Type 0
AreText ps = LastIs IsTextProcedure IsTextProcedure ps

abbrev IsPending : Following → Value → Type 0
IsPending f v = (following v.kind.opcode ≡ f) × IsSaid v

abbrev IsTextIn : Place → List Procedure → Type 0
IsTextIn places.Outside ps = ps ≡ []
IsTextIn places.Slots ps = AreBegun ps
IsTextIn places.Values ps = AreText ps
IsTextIn places.Returned ps = AreText ps
IsTextIn (places.Jump v) ps = AreText ps × IsPending One v
IsTextIn (places.Branch v) ps = AreText ps × IsPending Two v
IsTextIn (places.Switch v) ps = AreText ps × IsPending Many v

abbrev IsTextState : State → Type 0
IsTextState s = IsTextIn s.place s.procedures

opened_text : (ps : List Procedure) (line : ℕ) (row : Row) → ps ≡ [] → IsInRange row → IfSome (opened ps line row) IsTextState
opened_text ps line (rows.Header name) h k = rw h (empty_begun name line k)
opened_text ps line row h k = tt

slotted_text : (ps : List Procedure) (line : ℕ) (row : Row) → AreBegun ps → IsInRange row → IfSome (slotted ps line row) IsTextState
slotted_text ps line (rows.Slot number bytes) h k =
    last_with IsTextProcedure IsBegunProcedure IsBegunProcedure (with_slot number bytes line) ps (λ p q. slot_begun number bytes line p k.0 k.1 q) h
slotted_text ps line (rows.Heading number) h k =
    last_with IsTextProcedure IsBegunProcedure IsTextProcedure (with_heading number line) ps (λ p q. heading_text number line p k q) h
slotted_text ps line row h k = tt

added_text_value : (ps : List Procedure) (v : Value) → AreText ps → IsTextValue v → AreText (with_last (with_value v) ps)
added_text_value ps v h k = last_with IsTextProcedure IsTextProcedure IsTextProcedure (with_value v) ps (λ p q. value_text v p k q) h

after_text : (f : Following) (ps : List Procedure) (v : Value) → following v.kind.opcode ≡ f → AreText ps → IsSaid v → IsTextState (after_value f ps v)
after_text Nothing ps v e h k = added_text_value ps v h (nothing_text v e k)
after_text Bare ps v e h k = added_text_value ps v h (bare_text v e k)
after_text One ps v e h k = (h, (e, k))
after_text Two ps v e h k = (h, (e, k))
after_text Many ps v e h k = (h, (e, k))

-- a value of a line, whose own line is left out
said : (v : Value) (line : ℕ) → IsListedValue v → IsSaid (record v { line = line })
said v line h = record { id = h.id; children = h.children; body = h.body; chill = h.chill; traps = h.traps; line = refl }

valued_text : (ps : List Procedure) (line : ℕ) (row : Row) → AreText ps → IsInRange row → IfSome (valued ps line row) IsTextState
valued_text ps line (rows.ValueRow v) h k = after_text (following v.kind.opcode) ps (record v { line = line }) refl h (said v line k)
valued_text ps line (rows.Heading number) h k =
    last_with IsTextProcedure IsTextProcedure IsTextProcedure (with_heading number line) ps (λ p q. heading_text number line p k q.begun) h
valued_text ps line (rows.Header name) h k = one_last IsTextProcedure IsBegunProcedure ps (empty_procedure name line) h (empty_begun name line k)
valued_text ps line row h k = tt

returned_text : (ps : List Procedure) (line : ℕ) (row : Row) → AreText ps → IsInRange row → IfSome (returned ps line row) IsTextState
returned_text ps line rows.NoSuccessors h k = h
returned_text ps line rows.Blank h k = tt
returned_text ps line (rows.Header name) h k = valued_text ps line (rows.Header name) h k
returned_text ps line (rows.Slot number bytes) h k = tt
returned_text ps line (rows.Heading number) h k = valued_text ps line (rows.Heading number) h k
returned_text ps line (rows.ValueRow v) h k = valued_text ps line (rows.ValueRow v) h k
returned_text ps line (rows.One target) h k = tt
returned_text ps line (rows.Two a b) h k = tt
returned_text ps line (rows.Many targets) h k = tt
returned_text ps line rows.Bad h k = tt

jumped_text : (v : Value) (ps : List Procedure) (row : Row) → AreText ps → IsPending One v → IsInRange row → IfSome (jumped v ps row) IsTextState
jumped_text v ps (rows.One target) h p k = added_text_value ps (with_targets v (target ∷ [])) h (one_text v target p.0 p.1 k)
jumped_text v ps row h p k = tt

branched_text : (v : Value) (ps : List Procedure) (row : Row) → AreText ps → IsPending Two v → IsInRange row → IfSome (branched v ps row) IsTextState
branched_text v ps (rows.Two a b) h p k = added_text_value ps (with_targets v (a ∷ b ∷ [])) h (two_text v a b p.0 p.1 k.0 k.1)
branched_text v ps row h p k = tt

chosen_state : (x : Bool) (s : State) → (x ≡ true → IsTextState s) → IfSome (cond x (Some s) None) IsTextState
chosen_state true s h = h refl
chosen_state false s h = tt

switched_text : (v : Value) (ps : List Procedure) (row : Row) → AreText ps → IsPending Many v → IsInRange row → IfSome (switched v ps row) IsTextState
switched_text v ps (rows.Many targets) h p k =
    chosen_state (length targets == cases_in v.body + 1) (added_value ps (with_targets v targets))
    (λ t. let count : length targets ≡ cases_in v.body + 1 = grind (arith, nat_tests) in
    added_text_value ps (with_targets v targets) h (many_text v targets p.0 p.1 k.0 count))
switched_text v ps row h p k = tt

placed_text : (place : Place) (ps : List Procedure) (line : ℕ) (row : Row) → IsTextIn place ps → IsInRange row → IfSome (placed place ps line row) IsTextState
placed_text places.Outside ps line row h k = opened_text ps line row h k
placed_text places.Slots ps line row h k = slotted_text ps line row h k
placed_text places.Values ps line row h k = valued_text ps line row h k
placed_text places.Returned ps line row h k = returned_text ps line row h k
placed_text (places.Jump v) ps line row h k = jumped_text v ps row h.0 h.1 k
placed_text (places.Branch v) ps line row h k = branched_text v ps row h.0 h.1 k
placed_text (places.Switch v) ps line row h k = switched_text v ps row h.0 h.1 k

row_text : (s : State) (line : ℕ) (row : Row) → IsTextState s → IsInRange row → IfSome (added s line row) IsTextState
row_text s line rows.Blank h k = h
row_text s line (rows.Header name) h k = placed_text s.place s.procedures line (rows.Header name) h k
row_text s line (rows.Slot number bytes) h k = placed_text s.place s.procedures line (rows.Slot number bytes) h k
row_text s line (rows.Heading number) h k = placed_text s.place s.procedures line (rows.Heading number) h k
row_text s line (rows.ValueRow v) h k = placed_text s.place s.procedures line (rows.ValueRow v) h k
row_text s line rows.NoSuccessors h k = placed_text s.place s.procedures line rows.NoSuccessors h k
row_text s line (rows.One target) h k = placed_text s.place s.procedures line (rows.One target) h k
row_text s line (rows.Two a b) h k = placed_text s.place s.procedures line (rows.Two a b) h k
row_text s line (rows.Many targets) h k = placed_text s.place s.procedures line (rows.Many targets) h k
row_text s line rows.Bad h k = placed_text s.place s.procedures line rows.Bad h k

next_text : (s : Option State) (line : ℕ) (row : Row) → IfSome s IsTextState → IsInRange row → IfSome (added_to s line row) IsTextState
next_text None line row h k = tt
next_text (Some s) line row h k = row_text s line row h k

led_text : (s : Option State) (line : ℕ) (text : List Row) → IfSome s IsTextState → AllByRecursion IsInRange text → IfSome (led s line text) IsTextState
led_text s line [] h k = h
led_text s line (row ∷ more) h k = led_text (added_to s line row) (line + 1) more (next_text s line row h k.0) k.1

whole : (ps : List Procedure) → AreText ps → IsTextModule ps
whole ps h = let all = all_last IsTextProcedure ps h in record { some = all.0; procedures = all.1 }

end_text : (place : Place) (ps : List Procedure) → IsTextIn place ps → IfSome (ended_at place ps) IsTextModule
end_text places.Outside ps h = tt
end_text places.Slots ps h = tt
end_text places.Values ps h = whole ps h
end_text places.Returned ps h = whole ps h
end_text (places.Jump v) ps h = tt
end_text (places.Branch v) ps h = tt
end_text (places.Switch v) ps h = tt

ended_text : (s : Option State) → IfSome s IsTextState → IfSome (ended s) IsTextModule
ended_text None h = tt
ended_text (Some s) h = end_text s.place s.procedures h

lines_range : (lines : List (List ℕ)) → ((line : List ℕ) → IsInRange (row_of_line line)) → AllByRecursion IsInRange (map row_of_line lines)
lines_range [] law = tt
lines_range (line ∷ lines) law = (law line, lines_range lines law)

-- what bytes spell, where lines say what is in its range
pub spelled_text : ((line : List ℕ) → IsInRange (row_of_line line)) → (bytes : List ℕ) (m : List Procedure) → Spells bytes m → IsTextModule m
spelled_text law bytes m e =
    let state = led_text (Some first) 1 (rows_of bytes) refl (lines_range (lines_of bytes) law) in
    subst (λ (x : Option (List Procedure)). IfSome x IsTextModule) e (ended_text (led (Some first) 1 (rows_of bytes)) state)

-- ---- the rows of such a module

values_matched : (values : List Value) → AllByRecursion IsTextValue values → AreMatched values
values_matched [] h = tt
values_matched (v ∷ values) h = (h.0.matched, values_matched values h.1)

blocks_matched : (blocks : List Block) → AllByRecursion IsTextBlock blocks → AreBlocksMatched blocks
blocks_matched [] h = tt
blocks_matched (b ∷ blocks) h = (values_matched b.values h.0.values, blocks_matched blocks h.1)

rowed : (m : List Procedure) → AllByRecursion IsTextProcedure m → AreRowed m
rowed [] h = tt
rowed (p ∷ m) h = (h.0.some, blocks_matched p.blocks h.0.begun.blocks, rowed m h.1)

pub text_rowed : (m : List Procedure) → IsTextModule m → AreRowed m
text_rowed m h = rowed m h.procedures

targets_range : (targets : List ℕ) → AreTargets targets → AllByRecursion IsGoodRow (row_of_targets targets)
targets_range [] h = tt
targets_range (a ∷ []) h = (h.0, tt)
targets_range (a ∷ b ∷ []) h = ((h.0, h.1.0), tt)
targets_range (a ∷ b ∷ c ∷ targets) h = tt

some_targets : (f : Following) (words targets : List ℕ) → Matches f (bodies.Cases words targets) → targets ≢ []
some_targets Nothing words targets h e = let none = h.1 in absurd cc
some_targets Bare words targets h e = let none = h.1 in absurd cc
some_targets One words targets h e = absurd h
some_targets Two words targets h e = absurd h
some_targets Many words targets h e = let n = ap length e in absurd (omega arith)

successors_range : (f : Following) (body : Body) → Matches f body → AreTargets (targets_of body) → AllByRecursion IsGoodRow (successors_of body)
successors_range f bodies.Plain h k = tt
successors_range f (bodies.Constant word) h k = tt
successors_range f (bodies.Argument r) h k = tt
successors_range f (bodies.Slot number) h k = tt
successors_range f (bodies.Offset bytes) h k = tt
successors_range f (bodies.Target phi) h k = tt
successors_range f (bodies.Map m) h k = tt
successors_range f (bodies.Targets targets) h k = targets_range targets k
successors_range f (bodies.Cases words targets) h k = ((k, some_targets f words targets h), tt)

values_range : (values : List Value) → AllByRecursion IsTextValue values → AllByRecursion IsGoodRow (flat_map rows_of_value values)
values_range [] h = tt
values_range (v ∷ values) h = (
  h.0.listed,
  both_all IsGoodRow (successors_of v.body) (flat_map rows_of_value values)
      (successors_range (following v.kind.opcode) v.body h.0.matched h.0.targets) (values_range values h.1),
)

blocks_range : (blocks : List Block) → AllByRecursion IsTextBlock blocks → AllByRecursion IsGoodRow (flat_map rows_of_block blocks)
blocks_range [] h = tt
blocks_range (b ∷ blocks) h = (
  h.0.number,
  both_all IsGoodRow (flat_map rows_of_value b.values) (flat_map rows_of_block blocks) (values_range b.values h.0.values) (blocks_range
      blocks h.1),
)

slots_range : (slots : List SlotLine) → AllByRecursion IsTextSlot slots → AllByRecursion IsGoodRow (map row_of_slot slots)
slots_range [] h = tt
slots_range (s ∷ slots) h = ((h.0.number, h.0.bytes), slots_range slots h.1)

procedures_range : (m : List Procedure) → AllByRecursion IsTextProcedure m → AllByRecursion IsGoodRow (canonical_rows m)
procedures_range [] h = tt
procedures_range (p ∷ m) h = (
  h.0.begun.name,
  both_all IsGoodRow (map row_of_slot p.slots ++ flat_map rows_of_block p.blocks) (canonical_rows m)
      (both_all IsGoodRow (map row_of_slot p.slots) (flat_map rows_of_block p.blocks) (slots_range p.slots h.0.begun.slots) (blocks_range p.blocks
      h.0.begun.blocks)) (procedures_range m h.1),
)

pub text_rows : (m : List Procedure) → IsTextModule m → AllByRecursion IsGoodRow (canonical_rows m)
text_rows m h = procedures_range m h.procedures
