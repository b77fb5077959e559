-- The rules of a value, test after test.
use Rattle.std.proofs.Common.{◌≡◌, ◌↔◌, ℕ, Bool, true, false, List, [], ◌∷◌, None, Some, refl, sym, ap, ◌∙◌}
use Rattle.std.specs.Prelude.{IsTrue}
use Rattle.std.proofs.lemmas.Bool.{false≢true}
use Rattle.b3_ir.specs.Naming.{all_values, value_named}
use Rattle.b3_ir.specs.Procedure.{Kept, Procedure}
use Rattle.b3_ir.specs.declared.opcode.Opcode.{Opcode}
use Rattle.b3_ir.specs.declared.opcode.Opcode.TheVariants.{Phi, Return}
use Rattle.b3_ir.specs.declared.opcode.Ty.{Ty}
use Rattle.b3_ir.specs.declared.value.Value.{Value}
use Rattle.b3_rules.specs.Rules.{IsPhiOf, ReturnsAlike, first_return, types_of}
use Rattle.b3_validate.specs.declared.index.Named.{Named}
use Rattle.b3_validate.specs.Index.{AreReturned, IsNamedAt, NonePasses, has_id, is_return, returns}
use Rattle.b3_validate.proofs.Finding.{named_first, named_none, returned_first, returned_none}

-- ---- two tests one after the other

pub both_held : {A B : Type 0} (a b : Bool) → (IsTrue a ↔ A) → a ≡ true → (IsTrue b ↔ B) → IsTrue b ↔ (A × B)
both_held a b first held second = (λ t. (first.0 held, second.0 t), λ h. second.1 h.1)

pub first_failed : {A B : Type 0} (a : Bool) → (IsTrue a ↔ A) → a ≡ false → IsTrue a ↔ (A × B)
first_failed a first failed = (λ t. absurd (false≢true (sym failed ∙ t)), λ h. first.1 h.0)

pub refutes : {A : Type 0} (a : Bool) → (IsTrue a ↔ A) → a ≡ false → ¬ A
refutes a tells fails held = false≢true (sym fails ∙ tells.1 held)

-- ---- what an Upsilon names

pub phi_held : (p : Kept) (id : ℕ) (types : List Ty) (entry : Named) (t : Bool) → IsNamedAt p id entry → entry.opcode ≡ Phi → (IsTrue t ↔ (types ≡ entry.ty ∷ [])) → IsTrue t ↔ IsPhiOf p.procedure id types
phi_held p id types entry t named phi tells =
    let v = named.value in
    let there = named_first p.procedure id named.block named.place v named.first in (
      λ yes. (v, there, sym named.opcode ∙ phi, tells.0 yes ∙ ap (λ (ty : Ty). ty ∷ []) named.ty),
      λ h.
          let other : value_named p.procedure id ≡ Some h.0 = h.1 in
          let same : h.0 ≡ v = cc in
          tells.1 (h.3 ∙ ap (λ (w : Value). w.ty ∷ []) same ∙ ap (λ (ty : Ty). ty ∷ []) (sym named.ty)),
    )

pub phi_failed : (p : Kept) (id : ℕ) (types : List Ty) (entry : Named) (t : Bool) → IsNamedAt p id entry → (IsTrue t ↔ (entry.opcode ≡ Phi)) → t ≡ false → IsTrue t ↔ IsPhiOf p.procedure id types
phi_failed p id types entry t named tells fails =
    let v = named.value in
    let there = named_first p.procedure id named.block named.place v named.first in (
      λ yes. absurd (false≢true (sym fails ∙ yes)),
      λ h.
          let there_too : value_named p.procedure id ≡ Some h.0 = h.1 in
          let same : h.0 ≡ v = cc in
          tells.1 (named.opcode ∙ sym (ap (λ (w : Value). w.kind.opcode) same) ∙ h.2),
    )

pub phi_none : (p : Kept) (id : ℕ) (types : List Ty) → NonePasses p.procedure (has_id id) → IsTrue false ↔ IsPhiOf p.procedure id types
phi_none p id types none = (
  λ yes. absurd (false≢true yes),
  λ h.
      let there : value_named p.procedure id ≡ Some h.0 = h.1 in
      let nothing : value_named p.procedure id ≡ None = named_none p.procedure id none in
      absurd cc,
)

-- ---- Returns

opcode_returns : (opcode : Opcode) → is_return opcode ≡ true → opcode ≡ Return
opcode_returns Return e = refl
opcode_returns _ e = absurd cc

pub no_return : (p : Procedure) (v : Value) → returns v ≡ false → ReturnsAlike p v
no_return p v e is w first = absurd (false≢true (sym e ∙ ap is_return is))

pub alike_held : (p : Procedure) (v : Value) (types first : List Ty) (t : Bool) → returns v ≡ true → types ≡ types_of p v → AreReturned p first → (IsTrue t ↔ (types ≡ first)) → IsTrue t ↔ ReturnsAlike p v
alike_held p v types first t is are returned tells =
    let there = returned_first p returned.block returned.place returned.value returned.first in (
      λ yes _ w also.
          let other : first_return (all_values p) ≡ Some w = also in
          let same : w ≡ returned.value = cc in
          sym are ∙ tells.0 yes ∙ returned.are ∙ sym (ap (types_of p) same),
      λ alike. tells.1 (are ∙ alike (opcode_returns v.kind.opcode is) returned.value there ∙ sym returned.are),
    )

pub alike_none : (p : Procedure) (v : Value) → NonePasses p returns → ReturnsAlike p v
alike_none p v none is w first =
    let nothing : first_return (all_values p) ≡ None = returned_none p none in
    absurd cc
