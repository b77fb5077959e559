-- A procedure that is selected and rewritten is placed.
use Rattle.std.proofs.Common.{◌≡◌, ℕ, ◌+◌, ◌*◌, ◌≤◌, true, length, sym, ap, ◌∙◌, arith}
use Rattle.std.specs.Prelude.{All, map}
use Rattle.std.proofs.lemmas.List.{length-map}
use Rattle.std.proofs.lemmas.List.Elements.{All-weaker}
use Rattle.b3_ir.specs.Naming.{value_named}
use Rattle.b3_ir.specs.Procedure.{AllFit, Procedure, total}
use Rattle.b3_ir.specs.declared.opcode.Ty.TheVariants.{Int32, Int64}
use Rattle.b3_ir.specs.declared.procedure.SlotLine.{SlotLine}
use Rattle.b3_rules.specs.Valid.{IsValidProcedure}
use Rattle.stackmap.specs.declared.site.Returns.TheVariants.{W32, W64}
use Rattle.air_ir.specs.Kinds.{kind_of, makes_site}
use Rattle.air_ir.specs.Run.{BlocksThrough, HasBlocksOf, HasSameBlocks}
use Rattle.air_ir.specs.Weight.{weight}
use Rattle.air_ir.specs.WellFormed.{HasOneSiteEach, IsSpillBelow, IsWellFormed, NamesSpillsBelow, SpillsBelow}
use Rattle.air_ir.specs.declared.assignment.Assignment.{Assignment}
use Rattle.air_ir.specs.declared.op.AirOp.{AirOp}
use Rattle.air_ir.specs.declared.operand.Arg.{Arg}
use Rattle.air_ir.specs.declared.operand.Arg.TheVariants.{At, Addr, Index}
use Rattle.air_ir.specs.declared.operand.Home.{Home}
use Rattle.air_ir.specs.declared.operand.Home.TheVariants.{Spill}
use Rattle.air_ir.specs.declared.operand.Operand.{Operand}
use Rattle.air_ir.specs.declared.procedure.AirBlock.{AirBlock}
use Rattle.air_ir.specs.declared.procedure.AirInst.{AirInst}
use Rattle.air_ir.specs.declared.procedure.AirProc.{AirProc}
use Rattle.air_frame.specs.Counts.{CountsBelow, NamesCounted}
use Rattle.air_spill.specs.Rewritten.{home_by, rewritten, rewritten_block}
use Rattle.air_spill.specs.Stays.{ComesFromEach}
use Rattle.air_select.specs.Contract.{AreExpressed, AreMadeFor, IsFew, ReturnsType, child_count, has_stackmap}
use Rattle.a64_emit.specs.Built.{IsBuilt}
use Rattle.a64_object.specs.Made.{IsExpressedEach, IsPlacedOf}
use Rattle.a64_object.proofs.Values.{named_in, placeable}

-- ---- spill places
home_below : (m n : ℕ) → m ≤ n → (h : Home) → IsSpillBelow m h → IsSpillBelow n h
home_below m n le (Spill number) below = omega arith
home_below m n le _ below = tt

arg_below : (m n : ℕ) → m ≤ n → (a : Arg) → SpillsBelow m a → SpillsBelow n a
arg_below m n le (At home) below = home_below m n le home below
arg_below m n le (Addr base offset) below = home_below m n le base below
arg_below m n le (Index base index shift) below = (home_below m n le base below.0, home_below m n le index below.1)
arg_below m n le _ below = tt

pub spills_below : (m n : ℕ) (p : AirProc) → m ≤ n → NamesSpillsBelow m p → NamesSpillsBelow n p
spills_below m n p le below =
    All-weaker
    (λ (b : AirBlock). All (λ (i : AirInst). All (λ (o : Operand). SpillsBelow m o.arg) i.operands) b.insts)
    (λ (b : AirBlock). All (λ (i : AirInst). All (λ (o : Operand). SpillsBelow n o.arg) i.operands) b.insts)
    (λ b. All-weaker (λ (i : AirInst). All (λ (o : Operand). SpillsBelow m o.arg) i.operands)
    (λ (i : AirInst). All (λ (o : Operand). SpillsBelow n o.arg) i.operands)
    (λ i. All-weaker (λ (o : Operand). SpillsBelow m o.arg) (λ (o : Operand). SpillsBelow n o.arg) (λ o. arg_below m n le o.arg) i.operands) b.insts)
    p.blocks below

-- ---- sites
-- what is rewritten of what is expressed is that in places, and obeys
expressed_each : (p : Procedure) (q r : AirProc) → IsValidProcedure p → AllFit p.blocks → AreExpressed p q → ComesFromEach q r → IsExpressedEach p r
expressed_each p q r valid fit expressed comes block place j at is =
    let from = comes block place j at in
    let i = from.1 in
    let same : has_stackmap (kind_of i.op) ≡ true = ap (λ (o : AirOp). has_stackmap (kind_of o)) (sym from.3.op) ∙ is in
    let of = expressed block from.0 i from.2 same in
    let named = named_in p fit i.value of.0 of.1 in
    let rules = placeable p valid named.block named.place of.0 named.there of.2.stackmap of.2.carries in
    (of.0, ap (value_named p) from.3.value ∙ of.1, from.3.obeys p of.0 named.fits rules of.2)

-- and what makes a site makes it for the value that it did
made_for_each : (p : Procedure) (q r : AirProc) → AreMadeFor p q → ComesFromEach q r → AreMadeFor p r
made_for_each p q r made comes block place j at is =
    let from = comes block place j at in
    let i = from.1 in
    let same : makes_site (kind_of i.op) i.traps ≡ true =
    ap (λ (o : AirOp). makes_site (kind_of o) i.traps) (sym from.3.op) ∙ ap (makes_site (kind_of j.op)) (sym from.3.traps) ∙ is in
    let of = made block from.0 i from.2 same in
    (of.0, ap (value_named p) from.3.value ∙ of.1)

-- ---- all of it
pub placed_of : (p : Procedure) (q r : AirProc) (a : Assignment) → IsValidProcedure p → AllFit p.blocks → BlocksThrough → CountsBelow → NamesCounted
    → HasBlocksOf p q → weight q ≤ 120 * total p + 32 * child_count p + 256 → IsFew p q → q.slots ≡ map (λ (slot : SlotLine). slot.bytes) p.slots
    → (q.returns ≡ W32 → ReturnsType p Int32) → (q.returns ≡ W64 → ReturnsType p Int64) → IsBuilt r → AreMadeFor p q → AreExpressed p q
    → r ≡ rewritten q a → HasSameBlocks q r → IsWellFormed r → r.tmps ≡ 0 → (r.slots ≡ q.slots) × (r.returns ≡ q.returns)
    → NamesSpillsBelow (56 + q.tmps) r → weight r ≤ weight q → HasOneSiteEach q → (HasOneSiteEach q → HasOneSiteEach r) → ComesFromEach q r → IsPlacedOf p r
placed_of p q r a valid fit through counts named blocks light few slots returns_32 returns_64 built made expressed is same well no_tmps kept spills
    lighter sites sites_kept comes =
    let count = counts (56 + q.tmps) r spills in
    let names = named r in
    let tmps = few.tmps in
    let most = few.most in
    record {
      same = through p q r blocks same;
      well = well;
      no_tmps = no_tmps;
      built = built;
      one_site = sites_kept sites;
      made_for = made_for_each p q r made comes;
      expressed = expressed_each p q r valid fit expressed comes;
      blocks = ap (λ (x : AirProc). length x.blocks) is ∙ length-map q.blocks (rewritten_block (home_by a)) ∙ few.blocks;
      light = omega arith;
      spills = omega arith;
      named = omega arith;
      slots = kept.0 ∙ slots;
      returns_32 = λ e. returns_32 (sym kept.1 ∙ e);
      returns_64 = λ e. returns_64 (sym kept.1 ∙ e);
    }
