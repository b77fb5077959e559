-- When an object is the code of some procedures.
use Rattle.std.specs.Prelude.{◌≡◌, ◌≢◌, ℕ, ◌+◌, ◌<◌, ◌≤◌, Bool, true, false, List, drop, length, map, Some, slice_get, All, IfSome}
use Rattle.b3_ir.specs.Naming.{type_of, value_named}
use Rattle.b3_ir.specs.Procedure.{AllFit, Procedure}
use Rattle.b3_ir.specs.Types.{has_word, width_of}
use Rattle.b3_ir.specs.declared.opcode.Opcode.TheVariants.{CCall}
use Rattle.b3_ir.specs.declared.value.Value.{Value}
use Rattle.b3_meaning.specs.Keeps.{Keeps, is_outward}
use Rattle.b3_meaning.specs.Roles.{role_of}
use Rattle.b3_meaning.specs.declared.role.Role.{Role}
use Rattle.b3_meaning.specs.declared.role.Role.TheVariants.{Load, Store}
use Rattle.b3_rules.specs.Valid.{IsValid}
use Rattle.stackmap.specs.Obeys.{HasResult, IsSiteOf}
use Rattle.stackmap.specs.Rules.{IsAllocatable}
use Rattle.stackmap.specs.World.{widths_of}
use Rattle.stackmap.specs.declared.site.Site.{Site}
use Rattle.stackmap.specs.declared.site.SiteKind.{SiteKind}
use Rattle.stackmap.specs.declared.site.SiteKind.TheVariants.{Call, Patchpoint, Exit, Trap}
use Rattle.exit_table.specs.declared.tables.FrameRow.{FrameRow}
use Rattle.exit_table.specs.declared.tables.SiteRow.{SiteRow}
use Rattle.elf_obj.specs.Good.{IsGood, names_of}
use Rattle.elf_obj.specs.declared.object.Object.{Object}
use Rattle.elf_obj.specs.declared.object.Symbol.{Symbol}
use Rattle.a64_run.specs.Agrees.{Agrees}

-- the site stands in the code of the symbol
abbrev pub StandsIn : Symbol → SiteRow → Type 0
StandsIn symbol row = (symbol.offset ≤ row.pc) × (row.pc < symbol.offset + symbol.size)

-- the site of a call of a procedure: that of a CCall, which reports the children behind the callee, in order, each at
-- the width of its type, and has a result where its value has one, at the width of its type
pub record IsCallSiteOf (p : Procedure) (v : Value) (site : Site) : Type 0 where
  pub opcode : v.kind.opcode ≡ CCall
  pub widths : widths_of site.reps ≡ map (λ id. width_of (type_of p id)) (drop 1 v.children)
  pub result : HasResult (has_word v.ty) (width_of v.ty) site

-- whether a value of this role is a load or a store
abbrev pub is_access : Role → Bool
is_access (Load extent extends) = true
is_access (Store extent) = true
is_access _ = false

-- what a site of a kind is of its value
abbrev pub IsSiteOfKind : SiteKind → Procedure → Value → Site → Type 0
IsSiteOfKind Patchpoint p v site = IsSiteOf p v site
IsSiteOfKind Exit p v site = IsSiteOf p v site
IsSiteOfKind Call p v site = IsCallSiteOf p v site
IsSiteOfKind Trap p v site = (is_access (role_of v.kind.opcode) ≡ true) × (v.kind.traps ≡ true)

-- a site is that of the value that its id names, which acts on the outside or may end the run: so it is that of no
-- other value, also in a block that no run reaches. Its result stands in a register that values may stand in
pub record HasItsValue (p : Procedure) (site : Site) : Type 0 where
  pub value : Value
  pub named : value_named p site.value ≡ Some value
  pub outward : is_outward (role_of value.kind.opcode) value.kind.traps ≡ true
  pub is : IsSiteOfKind site.kind p value site
  pub result : IfSome site.result (λ result. IsAllocatable result.1)

-- the symbol's code and frame agree with a procedure p; each site in the code is that of its value in q, which keeps
-- p: by `Keeps` that value is like one of p; and no two sites in the code have one value. p is the text's own
-- procedure, and q what it was reduced to
pub record IsCodeOfOne (p q : Procedure) (o : Object) (symbol : Symbol) (frame : FrameRow) : Type 0 where
  pub agrees : Agrees p o symbol frame
  pub keeps : Keeps p q
  pub sites : (k : ℕ) (row : SiteRow) → slice_get o.tables.sites k ≡ Some row → StandsIn symbol row
      → HasItsValue q row.site
  pub apart : (j k : ℕ) (a b : SiteRow) → j < k
      → slice_get o.tables.sites j ≡ Some a → slice_get o.tables.sites k ≡ Some b
      → StandsIn symbol a → StandsIn symbol b → a.site.value ≢ b.site.value

-- the object is good, its symbols are the procedures' names in order, and each procedure's symbol and frame
-- are its code; `reduced` has in order what each was reduced to. Those are valid, so an id names one value. Of both
-- each value is one that may stand in a procedure: so only patchpoints and checks carry what a site reports
pub record IsCodeOf (procedures reduced : List Procedure) (o : Object) : Type 0 where
  pub valid : IsValid reduced
  pub fit : All (λ (p : Procedure). AllFit p.blocks) procedures
  pub reduced_fit : All (λ (q : Procedure). AllFit q.blocks) reduced
  pub good : IsGood o
  pub names : names_of o.symbols ≡ map (λ (p : Procedure). p.name) procedures
  pub count : length reduced ≡ length procedures
  pub each : (k : ℕ) (p q : Procedure) (symbol : Symbol) (frame : FrameRow)
      → slice_get procedures k ≡ Some p → slice_get reduced k ≡ Some q
      → slice_get o.symbols k ≡ Some symbol → slice_get o.tables.frames k ≡ Some frame
      → IsCodeOfOne p q o symbol frame
