-- The items of a value give its body again.
use Rattle.std.proofs.Common.{◌≡◌, ℕ, ℤ, pos, negsuc, zero, suc, ◌-◌, ◌^◌, ◌<◌, ◌≤◌, Bool, true, false, List, [], ◌∷◌, ◌++◌, length, drop, Option, Some, None, All, subst, refl, sym, ◌∙◌, ap, append_assoc, append-nil, arith}
use Rattle.std.specs.Prelude.{◌==◌, codes}
use Rattle.std.specs.Fmt.{signed_decimal}
use Rattle.std.proofs.lemmas.Bool.Decides.{nat_tests}
use Rattle.std.proofs.lemmas.List.{nil_from_length}
use Rattle.std.proofs.lemmas.List.Elements.{All-head, All-nil, All-tail, recursion_from_All}
use Rattle.b3_base.specs.Word.{bits}
use Rattle.b3_base.specs.declared.word.Width.{Width}
use Rattle.b3_ir.specs.declared.opcode.Ty.{Ty}
use Rattle.b3_ir.specs.declared.opcode.Ty.TheVariants.{Void, Int32, Int64}
use Rattle.b3_ir.specs.declared.table.Carries.{Carries}
use Rattle.b3_ir.specs.declared.table.Carries.TheVariants as carries
use Rattle.b3_ir.specs.declared.value.Body.{Body}
use Rattle.b3_ir.specs.declared.value.Body.TheVariants as bodies
use Rattle.b3_ir.specs.declared.value.Constraint.{Constraint}
use Rattle.b3_ir.specs.declared.value.Constraint.TheVariants.{WarmAny, ColdAny, LateColdAny, SomeRegister, SomeRegisterWithClobber, SomeEarlyRegister, SomeLateRegister, Fixed, LateFixed}
use Rattle.b3_ir.specs.declared.value.Reg.{Reg}
use Rattle.b3_ir.specs.declared.value.Stackmap.{Stackmap}
use Rattle.b3_ir.specs.Fits.{IsConstraint, IsExitMap, IsSiteMap}
use Rattle.b3_items.specs.declared.items.Item.{Item}
use Rattle.b3_items.specs.declared.items.Item.TheVariants as item
use Rattle.b3_items.specs.Items.{child, reg}
use Rattle.b3_rows.specs.declared.gathered.Gathered.{Gathered}
use Rattle.b3_rows.specs.declared.gathered.Lead.TheVariants.{NumberLead, RegisterLead, SlotLead}
use Rattle.b3_rows.specs.Gathering.{has_stackmap, is_fresh, may_have, nothing, put, put_cases, put_child, put_early, put_in, put_late, put_lead, put_offset, put_phi, put_result, put_size, takes_children}
use Rattle.b3_rows.specs.Listed.{IsListedBody, IsNumber}
use Rattle.b3_rows.specs.Values.{body_of, exit_map, or_else, result_of, site_map}
use Rattle.b3_rows.specs.Written.{child_texts, constraints_of, is_some_register, is_zero, last_texts, lead_texts, map_texts, named_text}
use Rattle.b3_written.proofs.GatherAgain.{Say, put_all, say_both}
use Rattle.b3_written.proofs.ItemTexts.{Says}
use Rattle.b3_written.proofs.ItemsAgain.{cases_says, child_says, early_says, late_says, offset_says, phi_says, placed_says, reg_says, result_says, size_says, slot_says, word_says}
use Rattle.b3_written.proofs.SignedLemmas.{InWord, number_in, word_again, word_value}

-- ---- children

abbrev child_items : ℕ → List ℕ → List Constraint → List Item
child_items skip [] cs = []
child_items zero (id ∷ ids) [] = item.Operand (child None id) ∷ child_items zero ids []
child_items zero (id ∷ ids) (c ∷ cs) = item.Operand (child (Some c) id) ∷ child_items zero ids cs
child_items (suc skip) (id ∷ ids) cs = item.Operand (child None id) ∷ child_items skip ids cs

children_say : (skip : ℕ) (ids : List ℕ) (cs : List Constraint) → All IsNumber ids → All IsConstraint cs
    → Say (child_texts skip ids cs) (child_items skip ids cs)
children_say skip [] cs h k = tt
children_say zero (id ∷ ids) [] h k = (child_says id (All-head IsNumber id ids h), children_say zero ids [] (All-tail IsNumber id ids h) k)
children_say zero (id ∷ ids) (c ∷ cs) h k = (
  placed_says id c (All-head IsNumber id ids h) (All-head IsConstraint c cs k),
  children_say zero ids cs (All-tail IsNumber id ids h) (All-tail IsConstraint c cs k),
)
children_say (suc skip) (id ∷ ids) cs h k = (child_says id (All-head IsNumber id ids h), children_say skip ids cs (All-tail IsNumber id ids h) k)

-- the constraints that are gathered
abbrev given : ℕ → List ℕ → List Constraint → List Constraint
given skip [] cs = []
given zero (id ∷ ids) [] = WarmAny ∷ given zero ids []
given zero (id ∷ ids) (c ∷ cs) = c ∷ given zero ids cs
given (suc skip) (id ∷ ids) cs = WarmAny ∷ given skip ids cs

-- constraints stand where there is a stackmap
abbrev MayPlace : Carries → List Constraint → Type 0
MayPlace c [] = Unit {0}
MayPlace c (k ∷ ks) = has_stackmap c ≡ true

place_rest : (c : Carries) (k : Constraint) (ks : List Constraint) → MayPlace c (k ∷ ks) → MayPlace c ks
place_rest c k [] h = tt
place_rest c k (l ∷ ks) h = h

abbrev with_children : Gathered → List ℕ → List Constraint → Gathered
with_children g ids cs = record g { children = g.children ++ ids; constraints = g.constraints ++ cs }

one_more : (g : Gathered) (id : ℕ) (k : Constraint) (ids : List ℕ) (cs : List Constraint)
    → with_children (record g { children = g.children ++ id ∷ []; constraints = g.constraints ++ k ∷ [] }) ids cs ≡ with_children g (id ∷ ids) (k ∷ cs)
one_more g id k ids cs = rw (append_assoc g.children (id ∷ []) ids, append_assoc g.constraints (k ∷ []) cs) refl

none_more : (g : Gathered) → with_children g [] [] ≡ g
none_more g = rw (append-nil g.children, append-nil g.constraints) refl

child_put : (c : Carries) (g : Gathered) (id : ℕ) → takes_children g ≡ true
    → put_in c g (item.Operand (child None id)) ≡ Some (record g { children = g.children ++ id ∷ []; constraints = g.constraints ++ WarmAny ∷ [] })
unfolding put_in may_have put put_child
child_put c g id h = rw h refl

placed_put : (c : Carries) (g : Gathered) (id : ℕ) (k : Constraint) → has_stackmap c ≡ true → takes_children g ≡ true
    → put_in c g (item.Operand (child (Some k) id)) ≡ Some (record g { children = g.children ++ id ∷ []; constraints = g.constraints ++ k ∷ [] })
unfolding put_in may_have put put_child
placed_put c g id k m h = rw (m, h) refl

still_takes : (g : Gathered) (ids : List ℕ) (cs : List Constraint) → takes_children g ≡ true
    → takes_children (record g { children = ids; constraints = cs }) ≡ true
unfolding takes_children
still_takes g ids cs h = h

children_put : (c : Carries) (g : Gathered) (skip : ℕ) (ids : List ℕ) (cs : List Constraint) (rest : List Item) → takes_children g ≡ true → MayPlace c cs
    → put_all c g (child_items skip ids cs ++ rest) ≡ put_all c (with_children g ids (given skip ids cs)) rest
children_put c g skip [] cs rest h m = ap (λ (x : Gathered). put_all c x rest) (sym (none_more g))
children_put c g zero (id ∷ ids) [] rest h m =
    rw (child_put c g id h) (children_put c (record g { children = g.children ++ id ∷ []; constraints = g.constraints ++ WarmAny ∷ [] }) zero ids [] rest
    (still_takes g (g.children ++ id ∷ []) (g.constraints ++ WarmAny ∷ []) h) tt
    ∙ ap (λ (x : Gathered). put_all c x rest) (one_more g id WarmAny ids (given zero ids [])))
children_put c g zero (id ∷ ids) (k ∷ cs) rest h m =
    rw (placed_put c g id k m h) (children_put c (record g { children = g.children ++ id ∷ []; constraints = g.constraints ++ k ∷ [] }) zero ids cs rest
    (still_takes g (g.children ++ id ∷ []) (g.constraints ++ k ∷ []) h) (place_rest c k cs m)
    ∙ ap (λ (x : Gathered). put_all c x rest) (one_more g id k ids (given zero ids cs)))
children_put c g (suc skip) (id ∷ ids) cs rest h m =
    rw (child_put c g id h) (children_put c (record g { children = g.children ++ id ∷ []; constraints = g.constraints ++ WarmAny ∷ [] }) skip ids cs rest
    (still_takes g (g.children ++ id ∷ []) (g.constraints ++ WarmAny ∷ []) h) m
    ∙ ap (λ (x : Gathered). put_all c x rest) (one_more g id WarmAny ids (given skip ids cs)))

-- those behind the first ones
given_rest : (skip : ℕ) (ids : List ℕ) (cs : List Constraint) → length cs ≡ length ids - skip → drop skip (given skip ids cs) ≡ cs
given_rest zero [] cs e = sym (nil_from_length cs (omega arith))
given_rest (suc skip) [] cs e = sym (nil_from_length cs (omega arith))
given_rest zero (id ∷ ids) [] e = absurd (omega arith)
given_rest zero (id ∷ ids) (c ∷ cs) e = ap (λ (t : List Constraint). c ∷ t) (given_rest zero ids cs (omega arith))
given_rest (suc skip) (id ∷ ids) cs e = given_rest skip ids cs (omega arith)

-- ---- named items

abbrev named_items : Bool → Item → List Item
named_items true i = []
named_items false i = i ∷ []

named_say : (x : Bool) (name text : List ℕ) (i : Item) → Says (name ++ (codes " = " ++ text)) i → Say (named_text x name text) (named_items x i)
named_say true name text i h = tt
named_say false name text i h = (h, tt)

abbrev chosen : {A : Type 0} → Bool → A → Option A
chosen true x = None
chosen false x = Some x

abbrev named_by : Bool → Bool → Bool
named_by true named = named
named_by false named = true

result_put : (g : Gathered) (named x : Bool) (r : Constraint) (rest : List Item)
    → put_all carries.Site (record g { result_place = None; named = named }) (named_items x (item.ResultPlace r) ++ rest)
    ≡ put_all carries.Site (record g { result_place = chosen x r; named = named_by x named }) rest
unfolding put_in may_have put put_result
result_put g named true r rest = refl
result_put g named false r rest = refl

size_put : (g : Gathered) (named x : Bool) (n : ℕ) (rest : List Item)
    → put_all carries.Site (record g { size = None; named = named }) (named_items x (item.Size n) ++ rest)
    ≡ put_all carries.Site (record g { size = chosen x n; named = named_by x named }) rest
unfolding put_in may_have put put_size
size_put g named true n rest = refl
size_put g named false n rest = refl

early_put : (c : Carries) (g : Gathered) (named x : Bool) (set : ℕ) (rest : List Item) → has_stackmap c ≡ true
    → put_all c (record g { early = None; named = named }) (named_items x (item.Early set) ++ rest)
    ≡ put_all c (record g { early = chosen x set; named = named_by x named }) rest
unfolding put_in may_have put put_early
early_put c g named true set rest h = refl
early_put c g named false set rest h = rw h refl

late_put : (c : Carries) (g : Gathered) (named x : Bool) (set : ℕ) → has_stackmap c ≡ true
    → put_all c (record g { late = None; named = named }) (named_items x (item.Late set))
    ≡ Some (record g { late = chosen x set; named = named_by x named })
unfolding put_in may_have put put_late
late_put c g named true set h = refl
late_put c g named false set h = rw h refl

default_set : (set : ℕ) (x : Bool) → (set == 0) ≡ x → or_else 0 (chosen x set) ≡ set
default_set set true e = let zero : set ≡ 0 = grind (arith, nat_tests) in sym zero
default_set set false e = refl

default_size : (n : ℕ) (x : Bool) → (n == 1) ≡ x → or_else 1 (chosen x n) ≡ n
default_size n true e = let one : n ≡ 1 = grind (arith, nat_tests) in sym one
default_size n false e = refl

default_place : (c : Constraint) → or_else SomeRegister (chosen (is_some_register c) c) ≡ c
default_place WarmAny = refl
default_place ColdAny = refl
default_place LateColdAny = refl
default_place SomeRegister = refl
default_place SomeRegisterWithClobber = refl
default_place SomeEarlyRegister = refl
default_place SomeLateRegister = refl
default_place (Fixed r) = refl
default_place (LateFixed r) = refl

place_again : (ty : Ty) (c : Constraint) → (ty ≡ Void → c ≡ SomeRegister) → result_of ty (chosen (is_some_register c) c) ≡ c
place_again Void c h = sym (h refl)
place_again Int32 c h = default_place c
place_again Int64 c h = default_place c

abbrev early_late_items : Stackmap → List Item
early_late_items m = named_items (m.early == 0) (item.Early m.early) ++ named_items (m.late == 0) (item.Late m.late)

abbrev map_items : Stackmap → List Item
map_items m =
    named_items (is_some_register m.result) (item.ResultPlace m.result)
    ++ (named_items (m.size == 1) (item.Size m.size) ++ early_late_items m)

map_say : (m : Stackmap) → IsConstraint m.result → m.size < 2 ^ 31 → m.early < 2 ^ 31 → m.late < 2 ^ 31 → Say (map_texts m) (map_items m)
map_say m r s e l =
    say_both _ _ _ _ (named_say (is_some_register m.result) (codes "resultConstraint") _ _ (result_says m.result r))
    (say_both _ _ _ _ (named_say (m.size == 1) (codes "size") _ _ (size_says m.size s))
    (say_both _ _ _ _ (named_say (m.early == 0) (codes "earlyClobbered") _ _ (early_says m.early e))
    (named_say (m.late == 0) (codes "lateClobbered") _ _ (late_says m.late l))))

-- ---- what is gathered gives the body

-- texts that give a body, behind which there are no successors
pub record Again (c : Carries) (ty : Ty) (skip : ℕ) (ids : List ℕ) (body : Body) (texts : List (List ℕ)) : Type 0 where
  pub items : List Item
  pub say : Say texts items
  pub gathered : Gathered
  pub put : put_all c nothing items ≡ Some gathered
  pub children : gathered.children ≡ ids
  pub built : body_of c ty skip gathered ≡ Some body

abbrev texts_of : Carries → ℕ → List ℕ → Body → List (List ℕ)
texts_of c skip ids body = lead_texts c body ++ (child_texts skip ids (constraints_of body) ++ last_texts body)

plain_again : (ty : Ty) (skip : ℕ) (ids : List ℕ) → All IsNumber ids
    → Again carries.Nothing ty skip ids bodies.Plain (texts_of carries.Nothing skip ids bodies.Plain)
unfolding body_of takes_children
plain_again ty skip ids h = record {
  items = child_items skip ids [] ++ [];
  say = say_both _ _ _ _ (children_say skip ids [] h (All-nil IsConstraint)) tt;
  gathered = with_children nothing ids (given skip ids []);
  put = children_put carries.Nothing nothing skip ids [] [] refl tt;
  children = refl;
  built = refl;
}

targets_again : (c : Carries) (ty : Ty) (skip : ℕ) (ids : List ℕ) → All IsNumber ids
    → body_of c ty skip (with_children nothing ids (given skip ids [])) ≡ Some (bodies.Targets [])
    → lead_texts c (bodies.Targets []) ≡ [] → Again c ty skip ids (bodies.Targets []) (texts_of c skip ids (bodies.Targets []))
unfolding takes_children
targets_again c ty skip ids h e none = record {
  items = child_items skip ids [] ++ [];
  say = rw none (say_both _ _ _ _ (children_say skip ids [] h (All-nil IsConstraint)) tt);
  gathered = with_children nothing ids (given skip ids []);
  put = children_put c nothing skip ids [] [] refl tt;
  children = refl;
  built = e;
}

number_again : (width : Width) (ty : Ty) (skip : ℕ) (ids : List ℕ) (word : ℕ) → All IsNumber ids → word < 2 ^ bits width
    → Again (carries.Number width) ty skip ids (bodies.Constant word) (texts_of (carries.Number width) skip ids (bodies.Constant word))
unfolding body_of put_in may_have put put_lead is_fresh takes_children
number_again width ty skip ids word h k = record {
  items = item.Number (number_in (word_value width word)) ∷ (child_items skip ids [] ++ []);
  say = (word_says width word k, say_both _ _ _ _ (children_say skip ids [] h (All-nil IsConstraint)) tt);
  gathered = with_children (record nothing { lead = NumberLead (number_in (word_value width word)) }) ids (given skip ids []);
  put = children_put (carries.Number width) (record nothing { lead = NumberLead (number_in (word_value width word)) }) skip ids [] [] refl tt;
  children = refl;
  built = rw (word_again width word k) refl;
}

register_again : (ty : Ty) (skip : ℕ) (ids : List ℕ) (r : Reg) → All IsNumber ids → r.0 ≤ 30
    → Again carries.Register ty skip ids (bodies.Argument r) (texts_of carries.Register skip ids (bodies.Argument r))
unfolding body_of put_in may_have put put_lead is_fresh takes_children
register_again ty skip ids r h k = record {
  items = item.Register (reg r.0) ∷ (child_items skip ids [] ++ []);
  say = (reg_says r.0 k, say_both _ _ _ _ (children_say skip ids [] h (All-nil IsConstraint)) tt);
  gathered = with_children (record nothing { lead = RegisterLead r }) ids (given skip ids []);
  put = children_put carries.Register (record nothing { lead = RegisterLead r }) skip ids [] [] refl tt;
  children = refl;
  built = refl;
}

slot_again : (ty : Ty) (skip : ℕ) (ids : List ℕ) (n : ℕ) → All IsNumber ids → n < 2 ^ 31
    → Again carries.SlotNumber ty skip ids (bodies.Slot n) (texts_of carries.SlotNumber skip ids (bodies.Slot n))
unfolding body_of put_in may_have put put_lead is_fresh takes_children
slot_again ty skip ids n h k = record {
  items = item.SlotNumber n ∷ (child_items skip ids [] ++ []);
  say = (slot_says n k, say_both _ _ _ _ (children_say skip ids [] h (All-nil IsConstraint)) tt);
  gathered = with_children (record nothing { lead = SlotLead n }) ids (given skip ids []);
  put = children_put carries.SlotNumber (record nothing { lead = SlotLead n }) skip ids [] [] refl tt;
  children = refl;
  built = refl;
}

phi_again : (ty : Ty) (skip : ℕ) (ids : List ℕ) (n : ℕ) → All IsNumber ids → n < 2 ^ 31
    → Again carries.PhiId ty skip ids (bodies.Target n) (texts_of carries.PhiId skip ids (bodies.Target n))
unfolding body_of put_in may_have put put_phi takes_children
phi_again ty skip ids n h k = record {
  items = child_items skip ids [] ++ (item.PhiId n ∷ []);
  say = say_both _ _ _ _ (children_say skip ids [] h (All-nil IsConstraint)) (phi_says n k, tt);
  gathered = record (with_children nothing ids (given skip ids [])) { phi = Some n };
  put = children_put carries.PhiId nothing skip ids [] (item.PhiId n ∷ []) refl tt;
  children = refl;
  built = refl;
}

cases_again : (ty : Ty) (skip : ℕ) (ids words : List ℕ) → All IsNumber ids → All (λ w. w < 2 ^ 64) words
    → Again carries.CaseSuccessors ty skip ids (bodies.Cases words []) (texts_of carries.CaseSuccessors skip ids (bodies.Cases words []))
unfolding body_of put_in may_have put put_cases takes_children
cases_again ty skip ids words h k = record {
  items = child_items skip ids [] ++ (item.Cases words ∷ []);
  say = say_both _ _ _ _ (children_say skip ids [] h (All-nil IsConstraint)) (cases_says words (recursion_from_All (λ w. w < 2 ^ 64) words k), tt);
  gathered = record (with_children nothing ids (given skip ids [])) { cases = Some words; named = true };
  put = children_put carries.CaseSuccessors nothing skip ids [] (item.Cases words ∷ []) refl tt;
  children = refl;
  built = refl;
}

zero_again : (z : ℤ) → is_zero z ≡ true → pos 0 ≡ z
zero_again (pos n) e = let zero : n ≡ 0 = grind (arith, nat_tests) in rw zero refl
zero_again (negsuc n) e = absurd cc

offset_by : (ty : Ty) (skip : ℕ) (ids : List ℕ) (z : ℤ) (x : Bool) → is_zero z ≡ x → All IsNumber ids → InWord z
    → Again carries.Offset ty skip ids (bodies.Offset z) (child_texts skip ids [] ++ named_text x (codes "offset") (signed_decimal z))
unfolding body_of put_in may_have put put_offset takes_children
offset_by ty skip ids z true e h k = record {
  items = child_items skip ids [] ++ [];
  say = say_both _ _ _ _ (children_say skip ids [] h (All-nil IsConstraint)) tt;
  gathered = with_children nothing ids (given skip ids []);
  put = children_put carries.Offset nothing skip ids [] [] refl tt;
  children = refl;
  built = ap (λ (y : ℤ). Some (bodies.Offset y)) (zero_again z e);
}
offset_by ty skip ids z false e h k = record {
  items = child_items skip ids [] ++ (item.Offset z ∷ []);
  say = say_both _ _ _ _ (children_say skip ids [] h (All-nil IsConstraint)) (offset_says z k, tt);
  gathered = record (with_children nothing ids (given skip ids [])) { offset = Some z; named = true };
  put = children_put carries.Offset nothing skip ids [] (item.Offset z ∷ []) refl tt;
  children = refl;
  built = refl;
}

-- a stackmap by its parts
map_parts : (m : Stackmap) (cs : List Constraint) (result : Constraint) (early late size : ℕ) → cs ≡ m.constraints → result ≡ m.result → early ≡ m.early
    → late ≡ m.late → size ≡ m.size
    → bodies.Map (record { constraints = cs; result = result; early = early; late = late; size = size }) ≡ bodies.Map m
map_parts m cs result early late size a b c d e = rw (a, b, c, d, e) refl

may_place : (c : Carries) (cs : List Constraint) → has_stackmap c ≡ true → MayPlace c cs
may_place c [] h = tt
may_place c (k ∷ ks) h = h

abbrev site_gathered : ℕ → List ℕ → Stackmap → Gathered
site_gathered skip ids m = record (with_children nothing ids (given skip ids m.constraints)) {
  result_place = chosen (is_some_register m.result) m.result;
  size = chosen (m.size == 1) m.size;
  early = chosen (m.early == 0) m.early;
  late = chosen (m.late == 0) m.late;
  named = named_by (m.late == 0) (named_by (m.early == 0) (named_by (m.size == 1) (named_by (is_some_register m.result) false)));
}

site_put : (skip : ℕ) (ids : List ℕ) (m : Stackmap)
    → put_all carries.Site nothing (child_items skip ids m.constraints ++ map_items m) ≡ Some (site_gathered skip ids m)
unfolding takes_children
site_put skip ids m =
    let g0 : Gathered = with_children nothing ids (given skip ids m.constraints) in
    let n1 : Bool = named_by (is_some_register m.result) false in
    let g1 : Gathered = record g0 { result_place = chosen (is_some_register m.result) m.result } in
    let n2 : Bool = named_by (m.size == 1) n1 in
    let g2 : Gathered = record g1 { size = chosen (m.size == 1) m.size } in
    let n3 : Bool = named_by (m.early == 0) n2 in
    let g3 : Gathered = record g2 { early = chosen (m.early == 0) m.early } in
    children_put carries.Site nothing skip ids m.constraints (map_items m) refl (may_place carries.Site m.constraints refl)
    ∙ result_put g0 false (is_some_register m.result) m.result (named_items (m.size == 1) (item.Size m.size) ++ early_late_items m)
    ∙ size_put g1 n1 (m.size == 1) m.size (early_late_items m)
    ∙ early_put carries.Site g2 n2 (m.early == 0) m.early (named_items (m.late == 0) (item.Late m.late)) refl
    ∙ late_put carries.Site g3 n3 (m.late == 0) m.late refl

site_again : (ty : Ty) (skip : ℕ) (ids : List ℕ) (m : Stackmap) → All IsNumber ids → IsSiteMap ty (length ids - skip) m
    → Again carries.Site ty skip ids (bodies.Map m) (texts_of carries.Site skip ids (bodies.Map m))
unfolding body_of site_map
site_again ty skip ids m h k = record {
  items = child_items skip ids m.constraints ++ map_items m;
  say = say_both _ _ _ _ (children_say skip ids m.constraints h k.sound.constraints) (map_say m k.result k.size k.sound.early k.sound.late);
  gathered = site_gathered skip ids m;
  put = site_put skip ids m;
  children = refl;
  built = ap Some (map_parts m _ _ _ _ _ (given_rest skip ids m.constraints k.sound.count) (place_again ty m.result k.no_result)
      (default_set m.early (m.early == 0) refl) (default_set m.late (m.late == 0) refl) (default_size m.size (m.size == 1) refl));
}

abbrev exit_gathered : ℕ → List ℕ → Stackmap → Gathered
exit_gathered skip ids m = record (with_children nothing ids (given skip ids m.constraints)) {
  early = chosen (m.early == 0) m.early;
  late = chosen (m.late == 0) m.late;
  named = named_by (m.late == 0) (named_by (m.early == 0) false);
}

exit_put : (skip : ℕ) (ids : List ℕ) (m : Stackmap)
    → put_all carries.Exit nothing (child_items skip ids m.constraints ++ early_late_items m) ≡ Some (exit_gathered skip ids m)
unfolding takes_children
exit_put skip ids m =
    let g0 : Gathered = with_children nothing ids (given skip ids m.constraints) in
    let n1 : Bool = named_by (m.early == 0) false in
    let g1 : Gathered = record g0 { early = chosen (m.early == 0) m.early } in
    children_put carries.Exit nothing skip ids m.constraints (early_late_items m) refl (may_place carries.Exit m.constraints refl)
    ∙ early_put carries.Exit g0 false (m.early == 0) m.early (named_items (m.late == 0) (item.Late m.late)) refl
    ∙ late_put carries.Exit g1 n1 (m.late == 0) m.late refl

exit_items : (m : Stackmap) → m.result ≡ SomeRegister → m.size ≡ 1 → map_items m ≡ early_late_items m
exit_items m r s = rw (r, s) refl

exit_again : (ty : Ty) (skip : ℕ) (ids : List ℕ) (m : Stackmap) → All IsNumber ids → IsExitMap (length ids - skip) m
    → Again carries.Exit ty skip ids (bodies.Map m) (texts_of carries.Exit skip ids (bodies.Map m))
unfolding body_of exit_map
exit_again ty skip ids m h k =
    let any : IsConstraint m.result = subst IsConstraint (sym k.result) tt in
    let small : m.size < 2 ^ 31 = rw k.size (omega arith) in
    record {
      items = child_items skip ids m.constraints ++ map_items m;
      say = say_both _ _ _ _ (children_say skip ids m.constraints h k.sound.constraints) (map_say m any small k.sound.early k.sound.late);
      gathered = exit_gathered skip ids m;
      put = ap (λ (is : List Item). put_all carries.Exit nothing (child_items skip ids m.constraints ++ is)) (exit_items m k.result k.size) ∙ exit_put skip
          ids m;
      children = refl;
      built = ap Some (map_parts m _ _ _ _ _ (given_rest skip ids m.constraints k.sound.count) (sym k.result)
          (default_set m.early (m.early == 0) refl) (default_set m.late (m.late == 0) refl) (sym k.size));
    }

one_body : (ty : Ty) (skip : ℕ) (g : Gathered) → body_of carries.OneSuccessor ty skip g ≡ Some (bodies.Targets [])
unfolding body_of
one_body ty skip g = refl

two_body : (ty : Ty) (skip : ℕ) (g : Gathered) → body_of carries.TwoSuccessors ty skip g ≡ Some (bodies.Targets [])
unfolding body_of
two_body ty skip g = refl

-- each body of a line
pub body_again : (c : Carries) (ty : Ty) (skip reported : ℕ) (ids : List ℕ) (body : Body) → All IsNumber ids → IsListedBody c ty reported body
    → (c ≡ carries.Site → reported ≡ length ids - skip) → (c ≡ carries.Exit → reported ≡ length ids - skip)
    → Again c ty skip ids body (texts_of c skip ids body)
body_again carries.Nothing ty skip reported ids bodies.Plain h k s e = plain_again ty skip ids h
body_again (carries.Number width) ty skip reported ids (bodies.Constant word) h k s e = number_again width ty skip ids word h k
body_again carries.Register ty skip reported ids (bodies.Argument r) h k s e = register_again ty skip ids r h k
body_again carries.SlotNumber ty skip reported ids (bodies.Slot n) h k s e = slot_again ty skip ids n h k
body_again carries.Offset ty skip reported ids (bodies.Offset z) h k s e = offset_by ty skip ids z (is_zero z) refl h k
body_again carries.PhiId ty skip reported ids (bodies.Target n) h k s e = phi_again ty skip ids n h k
body_again carries.Site ty skip reported ids (bodies.Map m) h k s e = site_again ty skip ids m h (subst (λ (n : ℕ). IsSiteMap ty n m) (s refl) k)
body_again carries.Exit ty skip reported ids (bodies.Map m) h k s e = exit_again ty skip ids m h (subst (λ (n : ℕ). IsExitMap n m) (e refl) k)
body_again carries.OneSuccessor ty skip reported ids (bodies.Targets []) h k s e = targets_again carries.OneSuccessor ty skip ids h (one_body ty skip _) refl
body_again carries.TwoSuccessors ty skip reported ids (bodies.Targets []) h k s e = targets_again carries.TwoSuccessors ty skip ids h (two_body ty skip _) refl
body_again carries.CaseSuccessors ty skip reported ids (bodies.Cases words []) h k s e = cases_again ty skip ids words h k
body_again c ty skip reported ids body h k s e = absurd k
