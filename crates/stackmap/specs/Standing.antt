-- No public clause cites this module: what private contracts say of the first children of a site, of sets of
-- registers, and of the registers of children in order.
use Rattle.std.specs.Prelude.{◌≡◌, ℕ, ◌+◌, ◌<◌, ◌≤◌, ◌||◌, Bool, true, false, nat_eq, if◌then◌else◌, min, List, [], ◌∷◌, length, Option, Some, IfSome, slice_get}
use Rattle.b3_ir.specs.declared.value.Constraint.{Constraint}
use Rattle.b3_ir.specs.declared.value.Constraint.TheVariants.{SomeRegisterWithClobber, SomeEarlyRegister}
use Rattle.b3_ir.specs.declared.value.Reg.{Reg}
use Rattle.b3_ir.specs.declared.value.Stackmap.{Stackmap}
use Rattle.stackmap.specs.Obeys.{HasKind, IsChild, IsNamed}
use Rattle.stackmap.specs.Placing.{register_numbered}
use Rattle.stackmap.specs.Registers.{fixed_by, has, is_late, is_placed}
use Rattle.stackmap.specs.declared.obeying.Group.{Group}
use Rattle.stackmap.specs.declared.obeying.Group.TheVariants.{Every, Late, Clobbered}
use Rattle.stackmap.specs.declared.site.Rep.{Rep}
use Rattle.stackmap.specs.declared.site.Rep.TheVariants.{Register}
use Rattle.stackmap.specs.declared.site.Site.{Site}

abbrev pub is_clobbered : Constraint → Bool
is_clobbered SomeRegisterWithClobber = true
is_clobbered _ = false

-- whether a group of children has those of this constraint
abbrev pub counts : Group → Constraint → Bool
counts Every c = true
counts Late c = is_late c
counts Clobbered c = is_clobbered c

abbrev pub stands_at : ℕ → Rep → Bool
stands_at r (Register reg) = nat_eq r reg.0
stands_at r _ = false

-- how many children have both a constraint and a place
abbrev pub child_count : Stackmap → Site → ℕ
child_count map site = min (length map.constraints) (length site.reps)

-- the first n children stand where their constraints say
abbrev pub FitBelow : Stackmap → Site → ℕ → Type 0
FitBelow map site n =
    (k : ℕ) (c : Constraint) (where_ : Rep) → k < n → IsChild map site k c where_ → HasKind c where_ × IsNamed where_

-- some one of a group of the first n children stands in this register
pub record StandsBelow (group : Group) (map : Stackmap) (site : Site) (n : ℕ) (reg : Reg) : Type 0 where
  pub child : ℕ
  pub constraint : Constraint
  pub is : IsChild map site child constraint (Register reg)
  pub below : child < n
  pub counted : counts group constraint ≡ true

-- two of the first n children do
pub record TwiceBelow (map : Stackmap) (site : Site) (n : ℕ) (reg : Reg) : Type 0 where
  pub first : ℕ
  pub second : ℕ
  pub first_constraint : Constraint
  pub second_constraint : Constraint
  pub first_is : IsChild map site first first_constraint (Register reg)
  pub second_is : IsChild map site second second_constraint (Register reg)
  pub ordered : first < second
  pub below : second < n

-- what the constraint of a result asks of its register, where children stand in these
pub record ResultHasKind (constraint : Constraint) (early every : ℕ) (reg : Reg) : Type 0 where
  pub apart : constraint ≡ SomeEarlyRegister → (has early reg.0 ≡ false) × (has every reg.0 ≡ false)
  pub fixed : (r : Reg) → fixed_by constraint ≡ Some r → reg ≡ r

-- a result in this register keeps apart from the registers of all children and of the late ones
pub record ResultKeeps (map : Stackmap) (every late : ℕ) (reg : Reg) : Type 0 where
  pub named : reg.0 ≤ 30
  pub outside : has map.late reg.0 ≡ false
  pub apart : has late reg.0 ≡ false
  pub kind : ResultHasKind map.result map.early every reg

-- the clobbers of a site whose clobbered children stand in these registers
pub record ClobbersKeep (patchpoint : Bool) (map : Stackmap) (site : Site) (clobbered : ℕ) : Type 0 where
  pub some : patchpoint ≡ true → (r : ℕ)
      → has site.clobbers r ≡ ((has map.early r || has map.late r) || has clobbered r)
  pub none : patchpoint ≡ false → site.clobbers ≡ 0

-- what is asked of the registers of all children, the late ones, the clobbered ones, and of those in which
-- two children stand
pub record SetsKeep (patchpoint : Bool) (map : Stackmap) (site : Site) (every late clobbered twice : ℕ) : Type 0 where
  pub alone : (r : ℕ) → has clobbered r ≡ true → has twice r ≡ false
  pub outside_early : (r : ℕ) → has every r ≡ true → has map.early r ≡ false
  pub outside_late : (r : ℕ) → has late r ≡ true → (has map.late r || has clobbered r) ≡ false
  pub result : IfSome site.result (λ result. ResultKeeps map every late result.1)
  pub clobbers : ClobbersKeep patchpoint map site clobbered

-- ---- the registers of all children

-- what is given to a child where so many children before it are placed
abbrev pub given : List ℕ → ℕ → Constraint → Option Reg
given allowed placed c = if is_placed c then register_numbered (slice_get allowed placed) else fixed_by c

-- how many are placed with one more
abbrev pub placed_with : ℕ → Constraint → ℕ
placed_with placed c = if is_placed c then placed + 1 else placed

-- and to children in order, the first of which has so many placed ones before it
unfoldable pub given_from : List ℕ → ℕ → List Constraint → List (Option Reg)
given_from allowed placed [] = []
given_from allowed placed (c ∷ cs) =
    given allowed placed c ∷ given_from allowed (placed_with placed c) cs
