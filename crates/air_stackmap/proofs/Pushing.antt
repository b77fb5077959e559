-- One more child of those that are pushed.
use Rattle.std.proofs.Common.{◌≡◌, ◌∙◌, ℕ, ◌+◌, ◌<◌, ◌≤◌, Bool, ◌||◌, ◌&&◌, true, false, List, [], ◌∷◌, ◌++◌, Option, Some, None, suc, length, drop, get_or, slice_get, refl, sym, ap, append_assoc, append-nil, add-one, drop-cons, arith, subst}
use Rattle.std.proofs.lemmas.List.{at_drop_all}
use Rattle.std.proofs.lemmas.Option.{get_or_from_slice_get, slice_get_within}
use Rattle.b3_ir.specs.declared.value.Constraint.{Constraint}
use Rattle.b3_ir.specs.declared.value.Reg.{Reg}
use Rattle.b3_ir.specs.declared.value.Stackmap.{Stackmap}
use Rattle.b3_ir.specs.declared.value.Value.{Value}
use Rattle.stackmap.specs.Placing.{register_for, registers_for}
use Rattle.stackmap.specs.Registers.{constraints_in, constraints_of, is_register, stackmap_in}
use Rattle.stackmap.specs.Rules.{IsAllocatable, IsPlaceable}
use Rattle.stackmap.proofs.InOrder.{register_at, registers_count}
use Rattle.stackmap.proofs.PlacedApart.{places_obey}
use Rattle.air_ir.specs.declared.operand.Operand.{Operand}
use Rattle.air_ir.specs.declared.procedure.AirInst.{AirInst}
use Rattle.air_stackmap.specs.SiteCode.{clobbered_from, is_clobbering, moved, moves_from, report_by, reports_from}
use Rattle.air_stackmap.specs.declared.child.Child.{Child}

-- the items from a place on
from_here : {A : Type 0} (xs : List A) (at : ℕ) (x : A) → slice_get xs at ≡ Some x → drop at xs ≡ x ∷ drop (suc at) xs
from_here xs at x e = drop-cons xs at x (slice_get_within xs at x e) ∙ ap (λ y. y ∷ drop (suc at) xs) (get_or_from_slice_get xs at x x e)

register_here : (v : Value) (registers : List (Option Reg)) (at : ℕ) → registers ≡ registers_for v → at < length registers
    → get_or registers at None ≡ register_for v at
register_here v registers at e within =
    let less : at < length (registers_for v) = subst (λ (l : List (Option Reg)). at < length l) e within in
    let below : at < length (constraints_of v) = rw (sym (registers_count v 0 (constraints_of v))) less in
    ap (λ (l : List (Option Reg)). get_or l at None) e
    ∙ get_or_from_slice_get (registers_for v) at (register_for v at) None
    (register_at v 0 (constraints_of v) at below ∙ ap (λ (j : ℕ). Some (register_for v j)) (omega arith))

-- ---- moves

pub move_pushed : (v : Value) (insts more whole : List AirInst) (registers : List (Option Reg)) (cs : List Child) (at : ℕ) (d : Child)
    → registers ≡ registers_for v → length cs ≡ length registers → at < length cs
    → insts ++ moves_from v at (drop at cs) ≡ whole → more ≡ insts ++ moved v (get_or registers at None) (get_or cs at d)
    → more ++ moves_from v (at + 1) (drop (at + 1) cs) ≡ whole
unfolding moves_from
move_pushed v insts more whole registers cs at d er el less e f = rw add-one
    (let rest = moves_from v (suc at) (drop (suc at) cs) in
    let one = moved v (get_or registers at None) (get_or cs at d) in
    ap (λ (l : List AirInst). l ++ rest) f ∙ append_assoc insts one rest
    ∙ ap (λ (r : Option Reg). insts ++ (moved v r (get_or cs at d) ++ rest)) (register_here v registers at er (omega (arith, less, el)))
    ∙ ap (λ (l : List Child). insts ++ moves_from v at l) (sym (drop-cons cs at d less)) ∙ e)

pub moves_done : (v : Value) (insts whole : List AirInst) (cs : List Child) (at : ℕ) → length cs ≤ at
    → insts ++ moves_from v at (drop at cs) ≡ whole → insts ≡ whole
unfolding moves_from
moves_done v insts whole cs at past e =
    sym (append-nil insts) ∙ ap (λ (l : List AirInst). insts ++ l) (sym (at_drop_all (moves_from v at) cs at past)) ∙ e

-- ---- reported children

pub report_pushed : (v : Value) (os more whole : List Operand) (registers : List (Option Reg)) (wants : List Constraint) (cs : List Child) (at : ℕ)
    (a : Constraint) (d : Child)
    → registers ≡ registers_for v → length cs ≡ length registers → at < length cs → slice_get wants at ≡ Some a
    → os ++ reports_from v at (drop at wants) (drop at cs) ≡ whole → more ≡ os ++ report_by a (get_or registers at None) (get_or cs at d) ∷ []
    → more ++ reports_from v (at + 1) (drop (at + 1) wants) (drop (at + 1) cs) ≡ whole
unfolding reports_from
report_pushed v os more whole registers wants cs at a d er el less ea e f = rw add-one
    (let rest = reports_from v (suc at) (drop (suc at) wants) (drop (suc at) cs) in
    let one = report_by a (get_or registers at None) (get_or cs at d) ∷ [] in
    ap (λ (l : List Operand). l ++ rest) f ∙ append_assoc os one rest
    ∙ ap (λ (r : Option Reg). os ++ report_by a r (get_or cs at d) ∷ rest) (register_here v registers at er (omega (arith, less, el)))
    ∙ ap (λ (l : List Child). os ++ reports_from v at (a ∷ drop (suc at) wants) l) (sym (drop-cons cs at d less))
    ∙ ap (λ (l : List Constraint). os ++ reports_from v at l (drop at cs)) (sym (from_here wants at a ea)) ∙ e)

pub reports_done : (v : Value) (os whole : List Operand) (wants : List Constraint) (cs : List Child) (at : ℕ) → length wants ≤ at
    → os ++ reports_from v at (drop at wants) (drop at cs) ≡ whole → os ≡ whole
unfolding reports_from
reports_done v os whole wants cs at past e =
    sym (append-nil os) ∙ ap (λ (l : List Operand). os ++ l) (sym (at_drop_all (λ (l : List Constraint). reports_from v at l (drop at cs)) wants at past)) ∙ e

-- ---- clobbered registers

or_assoc : (a b c : Bool) → ((a || b) || c) ≡ (a || (b || c))
or_assoc true b c = refl
or_assoc false b c = refl

or_none : (a : Bool) → a ≡ (a || false)
or_none true = refl
or_none false = refl

pub clobber_noted : (v : Value) (r : ℕ) (now next whole : Bool) (registers : List (Option Reg)) (wants : List Constraint) (at : ℕ) (a : Constraint)
    → registers ≡ registers_for v → at < length registers → slice_get wants at ≡ Some a
    → (now || clobbered_from v at (drop at wants) r) ≡ whole → next ≡ (now || (is_clobbering a && is_register r (get_or registers at None)))
    → (next || clobbered_from v (at + 1) (drop (at + 1) wants) r) ≡ whole
unfolding clobbered_from
clobber_noted v r now next whole registers wants at a er less ea e f = rw add-one
    (let rest = clobbered_from v (suc at) (drop (suc at) wants) r in
    ap (λ (b : Bool). b || rest) f ∙ or_assoc now (is_clobbering a && is_register r (get_or registers at None)) rest
    ∙ ap (λ (o : Option Reg). now || ((is_clobbering a && is_register r o) || rest)) (register_here v registers at er less)
    ∙ ap (λ (l : List Constraint). now || clobbered_from v at l r) (sym (from_here wants at a ea)) ∙ e)

pub clobbers_done : (v : Value) (r : ℕ) (now whole : Bool) (wants : List Constraint) (at : ℕ) → length wants ≤ at
    → (now || clobbered_from v at (drop at wants) r) ≡ whole → now ≡ whole
unfolding clobbered_from
clobbers_done v r now whole wants at past e =
    or_none now ∙ ap (λ (b : Bool). now || b) (sym (at_drop_all (λ (l : List Constraint). clobbered_from v at l r) wants at past)) ∙ e

-- ---- counts

pub map_count : (v : Value) (map : Stackmap) (registers : List (Option Reg)) → stackmap_in v.body ≡ Some map → registers ≡ registers_for v
    → length registers ≡ length map.constraints
map_count v map registers carries e =
    ap length e ∙ registers_count v 0 (constraints_of v) ∙ ap (λ (m : Option Stackmap). length (constraints_in m)) carries

pub given_within : (v : Value) (map : Stackmap) (registers : List (Option Reg)) (at : ℕ) → stackmap_in v.body ≡ Some map → IsPlaceable v
    → registers ≡ registers_for v → at < length registers → (reg : Reg) → get_or registers at None ≡ Some reg → IsAllocatable reg
given_within v map registers at carries placeable e less reg is =
    (places_obey v map carries placeable).allocatable at reg (sym (register_here v registers at e less) ∙ is)
