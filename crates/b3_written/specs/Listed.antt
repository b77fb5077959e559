-- Items one after the other. Of the public clauses only `FitsWord` is cited.
use Rattle.std.specs.Prelude.{◌==◌, codes, ◌<◌, ◌^◌, if◌then◌else◌, ℕ, zero, suc, Bool, true, false, List, [], ◌∷◌, ◌++◌, Option, Some, None}
use Rattle.std.specs.Fmt.{decimal}
use Rattle.std.specs.Int.{bit_at}
use Rattle.b3_base.specs.Word.{bits}
use Rattle.b3_ir.specs.declared.table.Carries.{Carries}
use Rattle.b3_ir.specs.declared.table.Carries.TheVariants as carries
use Rattle.b3_ir.specs.declared.value.Body.{Body}
use Rattle.b3_ir.specs.declared.value.Body.TheVariants.{Constant}
use Rattle.b3_ir.specs.declared.value.Constraint.{Constraint}
use Rattle.b3_ir.specs.declared.value.Value.{Value}
use Rattle.b3_items.specs.Table.{type_text}
use Rattle.b3_rows.specs.Written.{joined, kind_text, target_text, child_text, constraint_text, reg_text}

-- each text behind a comma and a blank
abbrev pub behind : List (List ℕ) → List ℕ
behind [] = []
behind (text ∷ more) = 44 ∷ 32 ∷ (text ++ behind more)

-- texts behind others, where some stand before
abbrev pub listed : Bool → List (List ℕ) → List ℕ
listed true texts = behind texts
listed false texts = joined texts

abbrev pub separator : Bool → List ℕ
separator true = 44 ∷ 32 ∷ []
separator false = []

-- whether some stand before what follows these
abbrev pub some_with : Bool → List (List ℕ) → Bool
some_with some [] = some
some_with some (text ∷ more) = true

-- a child with its constraint
abbrev pub child_with : ℕ → Option Constraint → List ℕ
child_with id None = child_text id
child_with id (Some c) = child_text id ++ (58 ∷ constraint_text c)

-- the constraint of the next child, where so many children come before those that have one; and what is left
abbrev pub place_of : ℕ → List Constraint → Option Constraint
place_of zero [] = None
place_of zero (c ∷ cs) = Some c
place_of (suc left) cs = None

abbrev pub places_behind : ℕ → List Constraint → List Constraint
places_behind zero [] = []
places_behind zero (c ∷ cs) = cs
places_behind (suc left) cs = cs

-- x r, where it is a member
abbrev pub member_texts : ℕ → ℕ → List (List ℕ)
member_texts set r = if bit_at set r == 1 then reg_text r ∷ [] else []

-- a constant is a word of the width of its row
abbrev pub FitsWord : Carries → Body → Type 0
FitsWord (carries.Number width) (Constant word) = word < 2 ^ bits width
FitsWord c body = Unit {0}

-- what stands before the parentheses
abbrev pub head_text : Value → List ℕ
head_text v = type_text v.ty ++ (codes " b@" ++ (decimal v.id ++ (codes " = " ++ kind_text v.kind)))

-- a target among others, or the last, the fall-through
abbrev pub chosen_target : ℕ → List ℕ → List ℕ
chosen_target number [] = codes "fallThrough:" ++ target_text number
chosen_target number (next ∷ more) = target_text number
