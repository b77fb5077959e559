-- The value that a line says may stand in a procedure.
use Rattle.std.proofs.Common.{◌≡◌, ℕ, ◌+◌, ◌-◌, ◌<◌, ◌^◌, Bool, true, false, cond, not, ◌||◌, List, [], ◌∷◌, length, take, drop, Option, Some, None, All, refl, sym, ◌∙◌, ap, arith}
use Rattle.std.specs.Prelude.{ℤ, IfSome, option_map, option_and_then}
use Rattle.std.specs.List.{list_all}
use Rattle.std.proofs.lemmas.Option.{IfSome_then}
use Rattle.std.proofs.lemmas.List.{length-append, length-drop}
use Rattle.std.proofs.lemmas.List.Elements.{All-nil, All-cons, All-append, All-drop}
use Rattle.b3_base.specs.Word.{bits}
use Rattle.b3_base.specs.declared.word.Width.{Width}
use Rattle.b3_lines.specs.Tokens.{tokens}
use Rattle.b3_ir.specs.declared.opcode.Opcode.{Opcode}
use Rattle.b3_ir.specs.declared.opcode.Ty.{Ty}
use Rattle.b3_ir.specs.declared.opcode.Ty.TheVariants.{Void, Int32, Int64}
use Rattle.b3_ir.specs.declared.table.Carries.{Carries}
use Rattle.b3_ir.specs.declared.table.Carries.TheVariants as carries
use Rattle.b3_ir.specs.declared.table.More.{More}
use Rattle.b3_ir.specs.declared.table.More.TheVariants.{NoMore, One, Arguments, Reported}
use Rattle.b3_ir.specs.declared.value.Body.{Body}
use Rattle.b3_ir.specs.declared.value.Body.TheVariants as bodies
use Rattle.b3_ir.specs.declared.value.Constraint.{Constraint}
use Rattle.b3_ir.specs.declared.value.Constraint.TheVariants.{SomeRegister}
use Rattle.b3_ir.specs.declared.value.Stackmap.{Stackmap}
use Rattle.b3_ir.specs.declared.value.Value.{Value}
use Rattle.b3_ir.specs.Fits.{Fits, IsBody, IsConstraint, IsStackmap, reported_count, reported_of}
use Rattle.b3_ir.specs.Table.{row_of}
use Rattle.b3_items.specs.declared.items.Child.{Child}
use Rattle.b3_items.specs.declared.items.Item.{Item}
use Rattle.b3_items.specs.declared.items.Item.TheVariants as item
use Rattle.b3_items.specs.Items.{id_of, is_mark_of, item_of}
use Rattle.b3_items.specs.Table.{kind_of, opcodes, type_of}
use Rattle.b3_items.proofs.TableLemmas.{each_passes}
use Rattle.b3_items.proofs.Ranges.{map_some, then_some, any_some, cond_some, test_some, word_range, IsReg, IsItem, IsChild, IsSet, AreWords, InWord, IsKind, id_range, item_range, kind_range}
use Rattle.b3_rows.specs.declared.gathered.Gathered.{Gathered}
use Rattle.b3_rows.specs.declared.gathered.Lead.{Lead}
use Rattle.b3_rows.specs.declared.gathered.Lead.TheVariants.{NoLead, NumberLead, RegisterLead, SlotLead}
use Rattle.b3_rows.specs.declared.values.Head.{Head}
use Rattle.b3_rows.specs.Gathering.{has_stackmap, constraint_or_any, gather, gather_in, is_fresh, items_in, may_have, nothing, put, put_in, put_lead, put_child, put_phi, put_offset, put_cases, put_result, put_size, put_early, put_late, put_generator, put_used, takes_children, with_child}
use Rattle.b3_rows.specs.Values.{body_of, built, exit_map, head_of, head_parts, inner_of, lead_reg, lead_slot, lead_word, offset_or_zero, open_in, or_else, result_of, site_map, value, value_at, value_of}
use Rattle.b3_rows.specs.Listed.{IsListedBody, IsListedValue, IsNumber}
use Rattle.b3_rows.specs.Successors.{count_of, successor_count, with_successors, with_targets}

-- ---- what is gathered is in its range

abbrev IsLead : Lead → Type 0
IsLead (RegisterLead r) = IsReg r
IsLead (SlotLead n) = n < 2 ^ 31
IsLead lead = Unit {0}

pub record InRange (g : Gathered) : Type 0 where
  pub lead : IsLead g.lead
  pub count : length g.constraints ≡ length g.children
  pub constraints : All IsConstraint g.constraints
  pub children : All IsNumber g.children
  pub phi : IfSome g.phi IsNumber
  pub offset : IfSome g.offset InWord
  pub cases : IfSome g.cases AreWords
  pub result_place : IfSome g.result_place IsConstraint
  pub size : IfSome g.size (λ n. n < 2 ^ 31)
  pub early : IfSome g.early IsSet
  pub late : IfSome g.late IsSet

nothing_in_range : InRange nothing
nothing_in_range = record {
  lead = tt;
  count = refl;
  constraints = All-nil IsConstraint;
  children = All-nil IsNumber;
  phi = tt;
  offset = tt;
  cases = tt;
  result_place = tt;
  size = tt;
  early = tt;
  late = tt;
}

lead_in_range : (g : Gathered) (lead : Lead) → IsLead lead → InRange g → IfSome (put_lead g lead) InRange
unfolding put_lead
lead_in_range g lead p h = test_some InRange (is_fresh g) (record g { lead = lead }) (λ t. record {
  lead = p;
  count = h.count;
  constraints = h.constraints;
  children = h.children;
  phi = h.phi;
  offset = h.offset;
  cases = h.cases;
  result_place = h.result_place;
  size = h.size;
  early = h.early;
  late = h.late;
})

or_any_range : (c : Option Constraint) → IfSome c IsConstraint → IsConstraint (constraint_or_any c)
or_any_range None h = tt
or_any_range (Some c) h = h

child_in_range : (g : Gathered) (c : Child) → IsChild c → InRange g → IfSome (put_child g c) InRange
unfolding put_child
child_in_range g c p h = test_some InRange (takes_children g) (with_child g c) (λ t. record {
  lead = h.lead;
  count = length-append g.constraints (constraint_or_any c.constraint ∷ []) ∙ ap (λ (n : ℕ). n + 1) h.count ∙ sym (length-append g.children (c.id ∷ []));
  constraints = All-append IsConstraint g.constraints (constraint_or_any c.constraint ∷ []) h.constraints (All-cons IsConstraint
      (constraint_or_any c.constraint) [] (or_any_range c.constraint p.constraint) (All-nil IsConstraint));
  children = All-append IsNumber g.children (c.id ∷ []) h.children (All-cons IsNumber c.id [] p.id (All-nil IsNumber));
  phi = h.phi;
  offset = h.offset;
  cases = h.cases;
  result_place = h.result_place;
  size = h.size;
  early = h.early;
  late = h.late;
})

put_in_range : (g : Gathered) (i : Item) → IsItem i → InRange g → IfSome (put g i) InRange
unfolding put put_phi put_offset put_cases put_result put_size put_early put_late put_generator put_used
put_in_range g (item.Number n) p h = lead_in_range g (NumberLead n) tt h
put_in_range g (item.Register r) p h = lead_in_range g (RegisterLead r) p h
put_in_range g (item.SlotNumber n) p h = lead_in_range g (SlotLead n) p h
put_in_range g (item.Operand c) p h = child_in_range g c p h
put_in_range g (item.PhiId n) p h = test_some InRange (takes_children g) _ (λ t. record {
  lead = h.lead;
  count = h.count;
  constraints = h.constraints;
  children = h.children;
  phi = p;
  offset = h.offset;
  cases = h.cases;
  result_place = h.result_place;
  size = h.size;
  early = h.early;
  late = h.late;
})
put_in_range g (item.Offset z) p h = cond_some InRange _ None (Some _) tt (record {
  lead = h.lead;
  count = h.count;
  constraints = h.constraints;
  children = h.children;
  phi = h.phi;
  offset = p;
  cases = h.cases;
  result_place = h.result_place;
  size = h.size;
  early = h.early;
  late = h.late;
})
put_in_range g (item.Cases ws) p h = cond_some InRange _ None (Some _) tt (record {
  lead = h.lead;
  count = h.count;
  constraints = h.constraints;
  children = h.children;
  phi = h.phi;
  offset = h.offset;
  cases = p;
  result_place = h.result_place;
  size = h.size;
  early = h.early;
  late = h.late;
})
put_in_range g (item.ResultPlace c) p h = cond_some InRange _ None (Some _) tt (record {
  lead = h.lead;
  count = h.count;
  constraints = h.constraints;
  children = h.children;
  phi = h.phi;
  offset = h.offset;
  cases = h.cases;
  result_place = p;
  size = h.size;
  early = h.early;
  late = h.late;
})
put_in_range g (item.Size n) p h = cond_some InRange _ None (Some _) tt (record {
  lead = h.lead;
  count = h.count;
  constraints = h.constraints;
  children = h.children;
  phi = h.phi;
  offset = h.offset;
  cases = h.cases;
  result_place = h.result_place;
  size = p;
  early = h.early;
  late = h.late;
})
put_in_range g (item.Early set) p h = cond_some InRange _ None (Some _) tt (record {
  lead = h.lead;
  count = h.count;
  constraints = h.constraints;
  children = h.children;
  phi = h.phi;
  offset = h.offset;
  cases = h.cases;
  result_place = h.result_place;
  size = h.size;
  early = p;
  late = h.late;
})
put_in_range g (item.Late set) p h = cond_some InRange _ None (Some _) tt (record {
  lead = h.lead;
  count = h.count;
  constraints = h.constraints;
  children = h.children;
  phi = h.phi;
  offset = h.offset;
  cases = h.cases;
  result_place = h.result_place;
  size = h.size;
  early = h.early;
  late = p;
})
put_in_range g item.Generator p h = cond_some InRange g.generator None (Some _) tt (record {
  lead = h.lead;
  count = h.count;
  constraints = h.constraints;
  children = h.children;
  phi = h.phi;
  offset = h.offset;
  cases = h.cases;
  result_place = h.result_place;
  size = h.size;
  early = h.early;
  late = h.late;
})
put_in_range g item.Used p h = cond_some InRange g.used None (Some _) tt (record {
  lead = h.lead;
  count = h.count;
  constraints = h.constraints;
  children = h.children;
  phi = h.phi;
  offset = h.offset;
  cases = h.cases;
  result_place = h.result_place;
  size = h.size;
  early = h.early;
  late = h.late;
})
put_in_range g item.Effects p h = record {
  lead = h.lead;
  count = h.count;
  constraints = h.constraints;
  children = h.children;
  phi = h.phi;
  offset = h.offset;
  cases = h.cases;
  result_place = h.result_place;
  size = h.size;
  early = h.early;
  late = h.late;
}

gather_in_range : (c : Carries) (g : Gathered) (items : List (List ℕ)) → InRange g → IfSome (gather c g items) InRange
unfolding gather put_in
gather_in_range c g [] h = h
gather_in_range c g (first ∷ more) h =
    then_some IsItem InRange (λ i. option_and_then (λ k. gather c k more) (cond (may_have c i) (put g i) None)) (item_of (tokens first)) (item_range
    (tokens first))
    (λ i p. then_some InRange InRange (λ k. gather c k more) (cond (may_have c i) (put g i) None)
    (cond_some InRange (may_have c i) (put g i) None (put_in_range g i p h) tt) (λ k q. gather_in_range c k more q))

in_text : (c : Carries) (text : List ℕ) (ts : List (List ℕ)) → IfSome (gather_in c text ts) InRange
in_text c text [] = nothing_in_range
in_text c text (t ∷ ts) = gather_in_range c nothing _ nothing_in_range

items_in_range : (c : Carries) (text : List ℕ) → IfSome (items_in c text) InRange
unfolding items_in
items_in_range c text = in_text c text (tokens text)

-- ---- the body is one of a line

constant_fits : (width : Width) (ty : Ty) (reported : ℕ) (w : Option ℕ) → IfSome w (λ n. n < 2 ^ bits width)
    → IfSome (option_map bodies.Constant w) (IsListedBody (carries.Number width) ty reported)
constant_fits width ty reported None h = tt
constant_fits width ty reported (Some w) h = h

lead_word_range : (width : Width) (lead : Lead) → IfSome (lead_word width lead) (λ n. n < 2 ^ bits width)
lead_word_range width NoLead = tt
lead_word_range width (NumberLead n) = word_range width n
lead_word_range width (RegisterLead r) = tt
lead_word_range width (SlotLead n) = tt

set_range : (set : Option ℕ) → IfSome set IsSet → or_else 0 set < 2 ^ 31
set_range None h = omega arith
set_range (Some s) h = h

size_range : (size : Option ℕ) → IfSome size (λ n. n < 2 ^ 31) → or_else 1 size < 2 ^ 31
size_range None h = omega arith
size_range (Some s) h = h

place_range : (place : Option Constraint) → IfSome place IsConstraint → IsConstraint (or_else SomeRegister place)
place_range None h = tt
place_range (Some c) h = h

result_range : (ty : Ty) (place : Option Constraint) → IfSome place IsConstraint → IsConstraint (result_of ty place)
result_range Void place h = tt
result_range Int32 place h = place_range place h
result_range Int64 place h = place_range place h

void_result : (ty : Ty) (place : Option Constraint) → ty ≡ Void → result_of ty place ≡ SomeRegister
void_result ty place e = rw e refl

map_fits : (g : Gathered) (skip : ℕ) (map : Stackmap) → InRange g → map.constraints ≡ drop skip g.constraints → map.early ≡ or_else 0 g.early
    → map.late ≡ or_else 0 g.late → IsStackmap (length g.children - skip) map
map_fits g skip map h cs early late = record {
  count = ap length cs ∙ length-drop skip g.constraints ∙ ap (λ (n : ℕ). n - skip) h.count;
  constraints = rw cs (All-drop IsConstraint skip g.constraints h.constraints);
  early = rw early (set_range g.early h.early);
  late = rw late (set_range g.late h.late);
}

offset_range_or : (z : Option ℤ) → IfSome z InWord → InWord (offset_or_zero z)
offset_range_or None h = (record { le = tt }, record { le = tt })
offset_range_or (Some z) h = h

slot_fits : (ty : Ty) (reported : ℕ) (lead : Lead) → IsLead lead
    → IfSome (option_map bodies.Slot (lead_slot lead)) (IsListedBody carries.SlotNumber ty reported)
slot_fits ty reported NoLead h = tt
slot_fits ty reported (NumberLead n) h = tt
slot_fits ty reported (RegisterLead r) h = tt
slot_fits ty reported (SlotLead n) h = h

argument_fits : (ty : Ty) (reported : ℕ) (lead : Lead) → IsLead lead
    → IfSome (option_map bodies.Argument (lead_reg lead)) (IsListedBody carries.Register ty reported)
argument_fits ty reported NoLead h = tt
argument_fits ty reported (NumberLead n) h = tt
argument_fits ty reported (RegisterLead r) h = h
argument_fits ty reported (SlotLead n) h = tt

phi_fits : (ty : Ty) (reported : ℕ) (phi : Option ℕ) → IfSome phi IsNumber
    → IfSome (option_map bodies.Target phi) (IsListedBody carries.PhiId ty reported)
phi_fits ty reported None h = tt
phi_fits ty reported (Some n) h = h

cases_fit : (ty : Ty) (reported : ℕ) (words : Option (List ℕ)) → IfSome words AreWords
    → IfSome (option_map (λ (ws : List ℕ). bodies.Cases ws []) words) (IsListedBody carries.CaseSuccessors ty reported)
cases_fit ty reported None h = tt
cases_fit ty reported (Some ws) h = h

-- a row of a stackmap reports the children behind those that it computes with
body_fits : (c : Carries) (ty : Ty) (skip reported : ℕ) (g : Gathered) → InRange g → (c ≡ carries.Site → reported ≡ length g.children - skip)
    → (c ≡ carries.Exit → reported ≡ length g.children - skip) → IfSome (body_of c ty skip g) (IsListedBody c ty reported)
unfolding body_of site_map exit_map
body_fits carries.Nothing ty skip reported g h site exit = tt
body_fits (carries.Number width) ty skip reported g h site exit = constant_fits width ty reported (lead_word width g.lead) (lead_word_range width g.lead)
body_fits carries.Register ty skip reported g h site exit = argument_fits ty reported g.lead h.lead
body_fits carries.SlotNumber ty skip reported g h site exit = slot_fits ty reported g.lead h.lead
body_fits carries.Offset ty skip reported g h site exit = offset_range_or g.offset h.offset
body_fits carries.PhiId ty skip reported g h site exit = phi_fits ty reported g.phi h.phi
body_fits carries.Site ty skip reported g h site exit = rw (site refl) (record {
  sound = map_fits g skip _ h refl refl refl;
  size = size_range g.size h.size;
  result = result_range ty g.result_place h.result_place;
  no_result = void_result ty g.result_place;
})
body_fits carries.Exit ty skip reported g h site exit = rw (exit refl) (record {
  sound = map_fits g skip _ h refl refl refl;
  size = refl;
  result = refl;
})
body_fits carries.OneSuccessor ty skip reported g h site exit = tt
body_fits carries.TwoSuccessors ty skip reported g h site exit = tt
body_fits carries.CaseSuccessors ty skip reported g h site exit = cases_fit ty reported g.cases h.cases

-- the rows of stackmaps report their children
is_reported : More → Bool
is_reported Reported = true
is_reported more = false

reports : Opcode → Bool
reports o = not (has_stackmap (row_of o).carries) || is_reported (row_of o).more

all_report : list_all reports opcodes ≡ true
unfolding reports is_reported
all_report = refl

site_reports : (c : Carries) (more : More) (n : ℕ) → (not (has_stackmap c) || is_reported more) ≡ true → c ≡ carries.Site → reported_of more n ≡ n
unfolding is_reported
site_reports c NoMore n t e = let off : false ≡ true = rw e at t in absurd cc
site_reports c One n t e = let off : false ≡ true = rw e at t in absurd cc
site_reports c Arguments n t e = let off : false ≡ true = rw e at t in absurd cc
site_reports c Reported n t e = refl

exit_reports : (c : Carries) (more : More) (n : ℕ) → (not (has_stackmap c) || is_reported more) ≡ true → c ≡ carries.Exit → reported_of more n ≡ n
unfolding is_reported
exit_reports c NoMore n t e = let off : false ≡ true = rw e at t in absurd cc
exit_reports c One n t e = let off : false ≡ true = rw e at t in absurd cc
exit_reports c Arguments n t e = let off : false ≡ true = rw e at t in absurd cc
exit_reports c Reported n t e = refl

-- how many children a stackmap reports
pub site_count : (v : Value) → (row_of v.kind.opcode).carries ≡ carries.Site → reported_count v ≡ length v.children - length (row_of v.kind.opcode).takes
unfolding reports
site_count v =
    let row = row_of v.kind.opcode in
    site_reports row.carries row.more (length v.children - length row.takes) (each_passes reports all_report v.kind.opcode)

pub exit_count : (v : Value) → (row_of v.kind.opcode).carries ≡ carries.Exit → reported_count v ≡ length v.children - length (row_of v.kind.opcode).takes
unfolding reports
exit_count v =
    let row = row_of v.kind.opcode in
    exit_reports row.carries row.more (length v.children - length row.takes) (each_passes reports all_report v.kind.opcode)

-- ---- the value is one of a line

later_body : (c : Carries) (ty : Ty) (reported : ℕ) (body : Body) (targets : List ℕ) → IsListedBody c ty reported body
    → length targets ≡ count_of c body → IsBody c ty reported (with_targets body targets)
later_body carries.Nothing ty reported bodies.Plain targets h e = h
later_body (carries.Number width) ty reported (bodies.Constant word) targets h e = h
later_body carries.Register ty reported (bodies.Argument r) targets h e = h
later_body carries.SlotNumber ty reported (bodies.Slot n) targets h e = h
later_body carries.Offset ty reported (bodies.Offset z) targets h e = h
later_body carries.PhiId ty reported (bodies.Target phi) targets h e = tt
later_body carries.Site ty reported (bodies.Map m) targets h e = h
later_body carries.Exit ty reported (bodies.Map m) targets h e = h
later_body carries.OneSuccessor ty reported (bodies.Targets []) targets h e = e
later_body carries.TwoSuccessors ty reported (bodies.Targets []) targets h e = e
later_body carries.CaseSuccessors ty reported (bodies.Cases words []) targets h e = (e, h)
later_body c ty reported body targets h e = absurd h

-- with its successors it fits
pub later_fits : (v : Value) (targets : List ℕ) → IsListedValue v → length targets ≡ successor_count v → Fits (with_successors v targets)
later_fits v targets h e = record {
  body = later_body (row_of v.kind.opcode).carries v.ty (reported_count v) v.body targets h.body e;
  chill = h.chill;
  traps = h.traps;
}

-- the id of a head, and its kind
record IsHead (h : Head) : Type 0 where
  id : IsNumber h.id
  kind : IsKind h.kind

built_fits : (h : Head) (g : Gathered) → IsHead h → InRange g → IfSome (built h g) IsListedValue
unfolding built reports
built_fits h g k r =
    let row = row_of h.kind.opcode in
    let rest = length g.children - length row.takes in
    let test = each_passes reports all_report h.kind.opcode in
    map_some IsListedValue (value h g.children) (body_of row.carries h.ty (length row.takes) g)
    (IfSome_then (body_of row.carries h.ty (length row.takes) g)
    (body_fits row.carries h.ty (length row.takes) (reported_of row.more rest) g r (site_reports row.carries row.more rest test)
    (exit_reports row.carries row.more rest test))
    (λ body fits. record { id = k.id; children = r.children; body = fits; chill = k.kind.chill; traps = k.kind.traps; line = refl }))

parts_kind : (ty id kind : List ℕ) → IfSome (head_parts ty id kind) IsHead
unfolding head_parts
parts_kind ty id kind =
    then_some (λ t. Unit {0}) IsHead _ (type_of ty) (any_some (type_of ty)) (λ t u.
    then_some IsNumber IsHead _ (id_of id) (id_range id) (λ i w.
    then_some IsKind IsHead _ (kind_of kind) (kind_range kind) (λ k p. record { id = w; kind = p })))

head_kind : (ts : List (List ℕ)) → IfSome (head_of ts) IsHead
unfolding head_of
head_kind [] = tt
head_kind (a ∷ []) = tt
head_kind (a ∷ b ∷ []) = tt
head_kind (a ∷ b ∷ c ∷ []) = tt
head_kind (ty ∷ id ∷ mark ∷ kind ∷ []) = cond_some IsHead (is_mark_of 61 mark) _ None (parts_kind ty id kind) tt
head_kind (a ∷ b ∷ c ∷ d ∷ e ∷ ts) = tt

at_fits : (text : List ℕ) (at : ℕ) → IfSome (value_at text at) IsListedValue
at_fits text at =
    then_some IsHead IsListedValue _ (head_of (tokens (take at text))) (head_kind (tokens (take at text))) (λ h k.
    then_some (λ t. Unit {0}) IsListedValue _ (inner_of (drop (at + 1) text)) (any_some (inner_of (drop (at + 1) text))) (λ inner u.
    then_some InRange IsListedValue _ (items_in (row_of h.kind.opcode).carries inner) (items_in_range (row_of h.kind.opcode).carries inner)
    (λ g r. built_fits h g k r)))

pub value_fits : (text : List ℕ) → IfSome (value_of text) IsListedValue
unfolding value_of
value_fits text = then_some (λ at. Unit {0}) IsListedValue (value_at text) (open_in text) (any_some (open_in text)) (λ at u. at_fits text at)
