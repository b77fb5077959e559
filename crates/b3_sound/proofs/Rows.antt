-- What the row of an opcode says of a value, by its role.
use Rattle.std.proofs.Common.{◌≡◌, ◌≢◌, ℕ, ◌*◌, ◌^◌, ◌≤◌, ◌⊎◌, inl, inr, Bool, true, false, ◌&&◌, List, [], ◌∷◌, map, refl, sym, ◌∙◌, ap, subst, arith}
use Rattle.std.specs.Prelude.{All, Contains}
use Rattle.std.proofs.lemmas.Bool.{and_parts}
use Rattle.std.proofs.lemmas.List.Elements.{All-contains, All-cons, All-nil, All-same}
use Rattle.b3_base.proofs.Lists.{Contains-none, Contains-first, Contains-later, Contains-cases}
use Rattle.b3_base.specs.Word.{bits}
use Rattle.b3_ir.specs.Fits.{HasCases, HasTargets, IsArgument, IsBody, IsConstantBelow, IsOffset, IsSlot, IsTarget}
use Rattle.b3_ir.specs.Table.{is_terminal, row_of}
use Rattle.b3_ir.specs.Types.{AllowsTypes, AreMore, AreTaken, has_word, width_of}
use Rattle.b3_ir.specs.declared.opcode.Opcode.{Opcode}
use Rattle.b3_ir.specs.declared.opcode.Opcode.TheVariants as op
use Rattle.b3_ir.specs.declared.opcode.Ty.{Ty}
use Rattle.b3_ir.specs.declared.opcode.Ty.TheVariants.{Void, Int32, Int64}
use Rattle.b3_ir.specs.declared.table.More.{More}
use Rattle.b3_ir.specs.declared.table.More.TheVariants.{NoMore, One, Arguments, Reported}
use Rattle.b3_ir.specs.declared.table.Takes.{Takes}
use Rattle.b3_ir.specs.declared.table.Takes.TheVariants.{Alike, Any, This}
use Rattle.b3_ir.specs.declared.value.Body.{Body}
use Rattle.b3_meaning.specs.Roles.{extent_bytes, role_of}
use Rattle.b3_meaning.specs.declared.role.Extent.TheVariants.{Whole}
use Rattle.b3_meaning.specs.declared.role.Role.{Role}
use Rattle.b3_meaning.specs.declared.role.Role.TheVariants.{Skip, Constant, Argument, Frame, SlotAddress, Pure, SetPhi, GetPhi, Load, Store, Call, Patch, Check, CheckedResult, Jump, Branch, Switch, Return, Fail}

-- ---- terminals

abbrev pub is_ending : Role → Bool
is_ending Jump = true
is_ending Branch = true
is_ending Switch = true
is_ending Return = true
is_ending Fail = true
is_ending _ = false

pub terminal_ends : (o : Opcode) → is_terminal o ≡ is_ending (role_of o)
terminal_ends op.Jump = refl
terminal_ends _ = refl

-- ---- rows

abbrev pub IsOne : List Ty → Type 0
IsOne types = (t : Ty) × (types ≡ t ∷ [])

abbrev pub HasFirst : List Ty → Type 0
HasFirst types = (t : Ty) × (more : List Ty) × (types ≡ t ∷ more)

-- what a role needs of the type, the children's types and the body
abbrev pub IsRow : Role → Ty → List Ty → Body → Type 0
IsRow Skip ty types body = ty ≡ Void
IsRow Constant ty types body = IsConstantBelow (2 ^ bits (width_of ty)) body
IsRow Argument ty types body = (ty ≡ Int64) × IsArgument body
IsRow Frame ty types body = ty ≡ Int64
IsRow SlotAddress ty types body = (ty ≡ Int64) × IsSlot body
IsRow Pure ty types body = Unit {0}
IsRow SetPhi ty types body = (ty ≡ Void) × IsOne types × IsTarget body
IsRow GetPhi ty types body = Unit {0}
IsRow (Load extent extends) ty types body = IsOne types × IsOffset body × (8 * extent_bytes extent ty ≤ bits (width_of ty))
IsRow (Store extent) ty types body = (ty ≡ Void) × ((t : Ty) × (u : Ty) × (types ≡ t ∷ u ∷ [])) × IsOffset body
IsRow Call ty types body = HasFirst types
IsRow Patch ty types body = Unit {0}
IsRow Check ty types body = (ty ≡ Void) × HasFirst types
IsRow (CheckedResult kind) ty types body = (t : Ty) × (u : Ty) × (more : List Ty) × (types ≡ t ∷ u ∷ more)
IsRow Jump ty types body = (ty ≡ Void) × HasTargets 1 body
IsRow Branch ty types body = (ty ≡ Void) × IsOne types × HasTargets 2 body
IsRow Switch ty types body = (ty ≡ Void) × IsOne types × HasCases body
IsRow Return ty types body = (ty ≡ Void) × ((types ≡ []) ⊎ IsOne types)
IsRow Fail ty types body = ty ≡ Void

one : (alike : Ty) (a : Takes) (ts : List Ty) → AreTaken alike (a ∷ []) NoMore ts → IsOne ts
one alike a [] taken = absurd taken
one alike a (t ∷ ts) taken = (t, ap (λ (l : List Ty). t ∷ l) taken.1)

two : (alike : Ty) (a b : Takes) (ts : List Ty) → AreTaken alike (a ∷ b ∷ []) NoMore ts → (t : Ty) × (u : Ty) × (ts ≡ t ∷ u ∷ [])
two alike a b [] taken = absurd taken
two alike a b (t ∷ ts) taken = let rest = one alike b ts taken.1 in (t, rest.0, ap (λ (l : List Ty). t ∷ l) rest.1)

first : (alike : Ty) (a : Takes) (more : More) (ts : List Ty) → AreTaken alike (a ∷ []) more ts → HasFirst ts
first alike a more [] taken = absurd taken
first alike a more (t ∷ ts) taken = (t, ts, refl)

first_two : (alike : Ty) (a b : Takes) (more : More) (ts : List Ty) → AreTaken alike (a ∷ b ∷ []) more ts
    → (t : Ty) × (u : Ty) × (rest : List Ty) × (ts ≡ t ∷ u ∷ rest)
first_two alike a b more [] taken = absurd taken
first_two alike a b more (t ∷ []) taken = absurd taken.1
first_two alike a b more (t ∷ u ∷ ts) taken = (t, u, ts, refl)

none_or_one : (alike : Ty) (ts : List Ty) → AreTaken alike [] One ts → (ts ≡ []) ⊎ IsOne ts
none_or_one alike ts (inl none) = inl none
none_or_one alike ts (inr some) = inr (some.0, some.2)

whole_fits : (ty : Ty) → 8 * extent_bytes Whole ty ≤ bits (width_of ty)
whole_fits Void = omega arith
whole_fits Int32 = omega arith
whole_fits Int64 = omega arith

part_fits : (ty : Ty) (n : ℕ) → n ≤ 32 → n ≤ bits (width_of ty)
part_fits Void n le = omega arith
part_fits Int32 n le = omega arith
part_fits Int64 n le = omega arith

constant_in : (ty is : Ty) (body : Body) → ty ≡ is → IsConstantBelow (2 ^ bits (width_of is)) body → IsConstantBelow (2 ^ bits (width_of ty)) body
constant_in ty is body e below = subst (λ (t : Ty). IsConstantBelow (2 ^ bits (width_of t)) body) (sym e) below

pub row_by_role : (o : Opcode) (ty : Ty) (ts : List Ty) (reported : ℕ) (body : Body) → AllowsTypes o ty ts → IsBody (row_of o).carries ty reported body
    → IsRow (role_of o) ty ts body
row_by_role op.Nop ty ts n body h fits = h.gives
row_by_role op.Const32 ty ts n body h fits = constant_in ty Int32 body h.gives fits
row_by_role op.Const64 ty ts n body h fits = constant_in ty Int64 body h.gives fits
row_by_role op.ArgumentReg ty ts n body h fits = (h.gives, fits)
row_by_role op.FramePointer ty ts n body h fits = h.gives
row_by_role op.SlotBase ty ts n body h fits = (h.gives, fits)
row_by_role op.Load8Z ty ts n body h fits = (one h.alike (This Int64) ts h.children, fits, part_fits ty 8 (omega arith))
row_by_role op.Load8S ty ts n body h fits = (one h.alike (This Int64) ts h.children, fits, part_fits ty 8 (omega arith))
row_by_role op.Load16Z ty ts n body h fits = (one h.alike (This Int64) ts h.children, fits, part_fits ty 16 (omega arith))
row_by_role op.Load16S ty ts n body h fits = (one h.alike (This Int64) ts h.children, fits, part_fits ty 16 (omega arith))
row_by_role op.Load ty ts n body h fits = (one h.alike (This Int64) ts h.children, fits, whole_fits ty)
row_by_role op.Store8 ty ts n body h fits = (h.gives, two h.alike (This Int32) (This Int64) ts h.children, fits)
row_by_role op.Store16 ty ts n body h fits = (h.gives, two h.alike (This Int32) (This Int64) ts h.children, fits)
row_by_role op.Store ty ts n body h fits = (h.gives, two h.alike Any (This Int64) ts h.children, fits)
row_by_role op.CCall ty ts n body h fits = first h.alike (This Int64) Arguments ts h.children
row_by_role op.Patchpoint ty ts n body h fits = tt
row_by_role op.Check ty ts n body h fits = (h.gives, first h.alike Any Reported ts h.children)
row_by_role op.CheckAdd ty ts n body h fits = first_two h.alike Alike Alike Reported ts h.children
row_by_role op.CheckSub ty ts n body h fits = first_two h.alike Alike Alike Reported ts h.children
row_by_role op.CheckMul ty ts n body h fits = first_two h.alike Alike Alike Reported ts h.children
row_by_role op.Upsilon ty ts n body h fits = (h.gives, one h.alike Any ts h.children, fits)
row_by_role op.Phi ty ts n body h fits = tt
row_by_role op.Jump ty ts n body h fits = (h.gives, fits)
row_by_role op.Oops ty ts n body h fits = h.gives
row_by_role op.Branch ty ts n body h fits = (h.gives, one h.alike Any ts h.children, fits)
row_by_role op.Switch ty ts n body h fits = (h.gives, one h.alike Any ts h.children, fits)
row_by_role op.Return ty ts n body h fits = (h.gives, none_or_one h.alike ts h.children)
row_by_role _ ty ts n body h fits = tt

-- a terminal has no word
pub ending_void : (role : Role) (ty : Ty) (ts : List Ty) (body : Body) → IsRow role ty ts body → is_ending role ≡ true → ty ≡ Void
ending_void Jump ty ts body row ends = row.0
ending_void Branch ty ts body row ends = row.0
ending_void Switch ty ts body row ends = row.0
ending_void Return ty ts body row ends = row.0
ending_void Fail ty ts body row ends = row
ending_void _ ty ts body row ends = absurd (cc)

-- ---- each child has a type

abbrev are_typed : List Takes → Bool
are_typed [] = true
are_typed (This wanted ∷ rest) = has_word wanted && are_typed rest
are_typed (Alike ∷ rest) = are_typed rest
are_typed (Any ∷ rest) = are_typed rest

table_typed : (o : Opcode) → are_typed (row_of o).takes ≡ true
table_typed op.Nop = refl
table_typed _ = refl

worded : (ty : Ty) → has_word ty ≡ true → ty ≢ Void
worded Void e is = absurd (cc)
worded Int32 e is = cc
worded Int64 e is = cc

abbrev pub IsTyped : Ty → Type 0
IsTyped ty = ty ≢ Void

like_typed : (t other : Ty) → t ≡ other → IsTyped other → IsTyped t
like_typed t other e typed is = typed (sym e ∙ is)

more_typed : (more : More) (ts : List Ty) → AreMore more ts → All IsTyped ts
more_typed NoMore ts none = All-same IsTyped ts [] none (All-nil IsTyped)
more_typed One ts (inl none) = All-same IsTyped ts [] none (All-nil IsTyped)
more_typed One ts (inr (t, typed, is)) = All-same IsTyped ts (t ∷ []) is (All-cons IsTyped t [] typed (All-nil IsTyped))
more_typed Arguments ts all = all
more_typed Reported ts all = all

taken_typed : (alike : Ty) → IsTyped alike → (takes : List Takes) (more : More) (ts : List Ty) → are_typed takes ≡ true → AreTaken alike takes more ts
    → All IsTyped ts
taken_typed alike typed [] more ts e taken = more_typed more ts taken
taken_typed alike typed (a ∷ rest) more [] e taken = absurd taken
taken_typed alike typed (Alike ∷ rest) more (t ∷ ts) e taken =
    All-cons IsTyped t ts (like_typed t alike taken.0 typed) (taken_typed alike typed rest more ts e taken.1)
taken_typed alike typed (Any ∷ rest) more (t ∷ ts) e taken = All-cons IsTyped t ts taken.0 (taken_typed alike typed rest more ts e taken.1)
taken_typed alike typed (This wanted ∷ rest) more (t ∷ ts) e taken =
    let parts = and_parts (has_word wanted) (are_typed rest) e in
    All-cons IsTyped t ts (like_typed t wanted taken.0 (worded wanted parts.0)) (taken_typed alike typed rest more ts parts.1 taken.1)

contains_map : (f : ℕ → Ty) (ids : List ℕ) (i : ℕ) → Contains ids i → Contains (map f ids) (f i)
contains_map f [] i has = absurd (Contains-none i has)
contains_map f (q ∷ ids) i has =
    elim (Contains-cases q ids i has) [
      | inl e ↦ subst (λ (x : ℕ). Contains (f q ∷ map f ids) (f x)) e (Contains-first (f q) (map f ids))
      | inr more ↦ Contains-later (f q) (map f ids) (f i) (contains_map f ids i more)
    ]

pub child_typed : (o : Opcode) (ty : Ty) (f : ℕ → Ty) (ids : List ℕ) (i : ℕ) → AllowsTypes o ty (map f ids) → Contains ids i → f i ≢ Void
child_typed o ty f ids i h has =
    All-contains IsTyped (map f ids) (f i) (taken_typed h.alike h.typed (row_of o).takes (row_of o).more (map f ids) (table_typed o) h.children)
    (contains_map f ids i has)
