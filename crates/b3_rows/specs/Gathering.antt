-- The items of a line, gathered.
use Rattle.std.specs.Prelude.{ℕ, ℤ, Bool, true, false, ◌&&◌, ◌||◌, not, is_some, is_none, if◌then◌else◌, List, [], ◌∷◌, ◌++◌, Option, Some, None, option_and_then}
use denote.Ref.{Bor}
use Rattle.b3_lines.specs.Tokens.{tokens}
use Rattle.b3_ir.specs.declared.value.Constraint.{Constraint}
use Rattle.b3_ir.specs.declared.value.Constraint.TheVariants.{WarmAny}
use Rattle.b3_ir.specs.declared.table.Carries.{Carries}
use Rattle.b3_ir.specs.declared.table.Carries.TheVariants as carries
use Rattle.b3_rows.specs.declared.gathered.Gathered.{Gathered}
use Rattle.b3_rows.specs.declared.gathered.Lead.{Lead}
use Rattle.b3_rows.specs.declared.gathered.Lead.TheVariants.{NoLead, NumberLead, RegisterLead, SlotLead}
use Rattle.b3_items.specs.declared.items.Child.{Child}
use Rattle.b3_items.specs.declared.items.Item.{Item}
use Rattle.b3_items.specs.declared.items.Item.TheVariants.{Number, Register, SlotNumber, Operand, PhiId, Offset, Cases, ResultPlace, Size, Early, Late, Generator, Used, Effects}
use Rattle.b3_items.specs.Items.{item_of, items_of}

abbrev pub nothing : Gathered
nothing = record {
  lead = NoLead;
  children = [];
  constraints = [];
  phi = None;
  offset = None;
  cases = None;
  result_place = None;
  size = None;
  early = None;
  late = None;
  generator = false;
  used = false;
  named = false;
}

-- ---- which items an opcode takes, by what its values carry

abbrev pub has_stackmap : Carries → Bool
has_stackmap carries.Site = true
has_stackmap carries.Exit = true
has_stackmap _ = false

abbrev pub is_site : Carries → Bool
is_site carries.Site = true
is_site _ = false

abbrev pub is_number : Carries → Bool
is_number (carries.Number width) = true
is_number _ = false

abbrev pub is_register : Carries → Bool
is_register carries.Register = true
is_register _ = false

abbrev pub is_slot : Carries → Bool
is_slot carries.SlotNumber = true
is_slot _ = false

abbrev pub is_phi : Carries → Bool
is_phi carries.PhiId = true
is_phi _ = false

abbrev pub is_access : Carries → Bool
is_access carries.Offset = true
is_access _ = false

abbrev pub is_switch : Carries → Bool
is_switch carries.CaseSuccessors = true
is_switch _ = false

unfoldable pub may_have : Carries → Item → Bool
may_have c (Number n) = is_number c
may_have c (Register r) = is_register c
may_have c (SlotNumber n) = is_slot c
may_have c (Operand child) = is_none child.constraint || has_stackmap c
may_have c (PhiId n) = is_phi c
may_have c (Offset z) = is_access c
may_have c (Cases words) = is_switch c
may_have c (ResultPlace constraint) = is_site c
may_have c (Size n) = is_site c
may_have c (Early set) = has_stackmap c
may_have c (Late set) = has_stackmap c
may_have c Generator = has_stackmap c
may_have c Used = has_stackmap c
may_have c Effects = true

-- ---- in which order

abbrev pub is_no_lead : Lead → Bool
is_no_lead NoLead = true
is_no_lead _ = false

abbrev pub is_nil : List ℕ → Bool
is_nil [] = true
is_nil (n ∷ ns) = false

-- no item stands before
unfoldable pub is_fresh : Gathered → Bool
is_fresh g = is_no_lead g.lead && is_nil g.children && is_none g.phi && not g.named

-- neither `^N` nor a named item nor effect words stand before
unfoldable pub takes_children : Gathered → Bool
takes_children g = is_none g.phi && not g.named

abbrev pub constraint_or_any : Option Constraint → Constraint
constraint_or_any None = WarmAny
constraint_or_any (Some c) = c

unfoldable pub put_lead : Gathered → Lead → Option Gathered
put_lead g lead = if is_fresh g then Some (record g { lead = lead }) else None

abbrev pub with_child : Gathered → Child → Gathered
with_child g c =
    record g { children = g.children ++ c.id ∷ []; constraints = g.constraints ++ constraint_or_any c.constraint ∷ [] }

unfoldable pub put_child : Gathered → Child → Option Gathered
put_child g c = if takes_children g then Some (with_child g c) else None

unfoldable pub put_phi : Gathered → ℕ → Option Gathered
put_phi g n = if takes_children g then Some (record g { phi = Some n }) else None

-- a named item stands at most once
unfoldable pub put_offset : Gathered → ℤ → Option Gathered
put_offset g x = if is_some g.offset then None else Some (record g { offset = Some x; named = true })

unfoldable pub put_cases : Gathered → List ℕ → Option Gathered
put_cases g x = if is_some g.cases then None else Some (record g { cases = Some x; named = true })

unfoldable pub put_result : Gathered → Constraint → Option Gathered
put_result g x = if is_some g.result_place then None else Some (record g { result_place = Some x; named = true })

unfoldable pub put_size : Gathered → ℕ → Option Gathered
put_size g x = if is_some g.size then None else Some (record g { size = Some x; named = true })

unfoldable pub put_early : Gathered → ℕ → Option Gathered
put_early g x = if is_some g.early then None else Some (record g { early = Some x; named = true })

unfoldable pub put_late : Gathered → ℕ → Option Gathered
put_late g x = if is_some g.late then None else Some (record g { late = Some x; named = true })

unfoldable pub put_generator : Gathered → Option Gathered
put_generator g = if g.generator then None else Some (record g { generator = true; named = true })

unfoldable pub put_used : Gathered → Option Gathered
put_used g = if g.used then None else Some (record g { used = true; named = true })

-- one item more: the leading one first, then children, then `^N`, then the others
unfoldable pub put : Gathered → Item → Option Gathered
put g (Number n) = put_lead g (NumberLead n)
put g (Register r) = put_lead g (RegisterLead r)
put g (SlotNumber n) = put_lead g (SlotLead n)
put g (Operand c) = put_child g c
put g (PhiId n) = put_phi g n
put g (Offset z) = put_offset g z
put g (Cases words) = put_cases g words
put g (ResultPlace c) = put_result g c
put g (Size n) = put_size g n
put g (Early set) = put_early g set
put g (Late set) = put_late g set
put g Generator = put_generator g
put g Used = put_used g
put g Effects = Some (record g { named = true })

unfoldable pub put_in : Carries → Gathered → Item → Option Gathered
put_in c g i = if may_have c i then put g i else None

-- the items one after the other
unfoldable pub gather : Carries → Gathered → List (List ℕ) → Option Gathered
gather c g [] = Some g
gather c g (item ∷ more) =
    option_and_then (λ i. option_and_then (λ h. gather c h more) (put_in c g i)) (item_of (tokens item))

abbrev pub items_left : Option (Bor (List ℕ)) → List (List ℕ)
items_left None = []
items_left (Some rest) = items_of rest.now

-- the items in a text, none where nothing but blanks stands there
abbrev pub gather_in : Carries → List ℕ → List (List ℕ) → Option Gathered
gather_in c text [] = Some nothing
gather_in c text (t ∷ ts) = gather c nothing (items_of text)

unfoldable pub items_in : Carries → List ℕ → Option Gathered
items_in c text = gather_in c text (tokens text)
