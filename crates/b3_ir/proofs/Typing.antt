-- The test of types that a row allows says what it should.
use Rattle.std.proofs.Common.{◌≡◌, ◌≢◌, ◌⊎◌, inl, inr, Bool, true, false, ◌&&◌, ◌||◌, List, [], ◌∷◌, All, refl, sym, ◌∙◌}
use Rattle.std.specs.List.{list_all}
use Rattle.std.proofs.lemmas.List.Elements.{All-cons, All-nil}
use Rattle.std.proofs.lemmas.Bool.{and_parts, or_cases}
use Rattle.b3_ir.specs.Table.{row_of}
use Rattle.b3_ir.specs.Types.{IsTaken, AreMore, AreTaken, IsGiven, AllowsTypes, same_type, has_word, takes_type, may_follow, takes_types, gives_type, allows_alike, allows_types}
use Rattle.b3_ir.specs.declared.opcode.Opcode.{Opcode}
use Rattle.b3_ir.specs.declared.opcode.Ty.{Ty}
use Rattle.b3_ir.specs.declared.opcode.Ty.TheVariants.{Void, Int32, Int64}
use Rattle.b3_ir.specs.declared.table.Gives.{Gives}
use Rattle.b3_ir.specs.declared.table.Gives.TheVariants as gives
use Rattle.b3_ir.specs.declared.table.More.{More}
use Rattle.b3_ir.specs.declared.table.More.TheVariants.{NoMore, One, Arguments, Reported}
use Rattle.b3_ir.specs.declared.table.Takes.{Takes}
use Rattle.b3_ir.specs.declared.table.Takes.TheVariants.{Alike, Any, This}

same : (ty other : Ty) → same_type ty other ≡ true → ty ≡ other
same Void Void e = refl
same Int32 Int32 e = refl
same Int64 Int64 e = refl
same Void Int32 e = absurd (cc)
same Void Int64 e = absurd (cc)
same Int32 Void e = absurd (cc)
same Int32 Int64 e = absurd (cc)
same Int64 Void e = absurd (cc)
same Int64 Int32 e = absurd (cc)

worded : (ty : Ty) → has_word ty ≡ true → ty ≢ Void
worded Void e is = absurd (cc)
worded Int32 e is = cc
worded Int64 e is = cc

all_worded : (types : List Ty) → list_all has_word types ≡ true → All (λ ty. ty ≢ Void) types
all_worded [] e = All-nil (λ ty. ty ≢ Void)
all_worded (ty ∷ types) e = let parts = and_parts (has_word ty) (list_all has_word types) e in All-cons (λ t. t ≢ Void) ty types (worded ty parts.0) (all_worded
    types parts.1)

taken : (t : Ty) (takes : Takes) (ty : Ty) → takes_type t takes ty ≡ true → IsTaken t takes ty
taken t Alike ty e = same ty t e
taken t Any ty e = worded ty e
taken t (This wanted) ty e = same ty wanted e

followed : (more : More) (types : List Ty) → may_follow more types ≡ true → AreMore more types
followed NoMore [] e = refl
followed NoMore (ty ∷ types) e = absurd (cc)
followed One [] e = inl refl
followed One (ty ∷ []) e = inr (ty, worded ty e, refl)
followed One (ty ∷ more ∷ types) e = absurd (cc)
followed Arguments types e = all_worded types e
followed Reported types e = all_worded types e

all_taken : (t : Ty) (takes : List Takes) (more : More) (types : List Ty) → takes_types t takes more types ≡ true → AreTaken t takes more types
all_taken t [] more types e = followed more types e
all_taken t (takes ∷ rest) more [] e = absurd (cc)
all_taken t (takes ∷ rest) more (ty ∷ types) e =
    let parts = and_parts (takes_type t takes ty) (takes_types t rest more types) e in
    (taken t takes ty parts.0, all_taken t rest more types parts.1)

given : (t : Ty) (what : Gives) (ty : Ty) → gives_type t what ty ≡ true → IsGiven t what ty
given t gives.Alike ty e = same ty t e
given t gives.AnyOrVoid ty e = tt
given t (gives.This wanted) ty e = same ty wanted e

alike_allowed : (t : Ty) (opcode : Opcode) (ty : Ty) (types : List Ty) → t ≢ Void → allows_alike t opcode ty types ≡ true → AllowsTypes opcode ty types
alike_allowed t opcode ty types typed e =
    let parts = and_parts (takes_types t (row_of opcode).takes (row_of opcode).more types) (gives_type t (row_of opcode).gives ty) e in
    record { alike = t; typed = typed; children = all_taken t _ _ types parts.0; gives = given t _ ty parts.1 }

-- what passes the test is allowed
pub allowed : (opcode : Opcode) (ty : Ty) (types : List Ty) → allows_types opcode ty types ≡ true → AllowsTypes opcode ty types
allowed opcode ty types e =
    elim (or_cases (allows_alike Int32 opcode ty types) (allows_alike Int64 opcode ty types) e) as (λ _. AllowsTypes opcode ty types) [
      | inl narrow ↦ alike_allowed Int32 opcode ty types (λ is. cc) narrow
      | inr wide ↦ alike_allowed Int64 opcode ty types (λ is. cc) wide
    ]

-- ---- where children fall short

pub too_few : (t : Ty) (more : More) (takes rest : List Takes) (types : List Ty) (wanted : Takes) → takes ≡ wanted ∷ rest → types ≡ [] →
    takes_types t takes more types ≡ false
too_few t more takes rest types wanted e none = rw (e, none) refl
