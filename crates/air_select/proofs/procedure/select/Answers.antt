use Rattle.std.proofs.Common.{◌≡◌, ◌+◌, ◌*◌, ◌≤◌, map, refl, sym, ap, ◌∙◌, subst}
use Rattle.std.specs.Prelude.{IfOk}
use Rattle.b3_ir.specs.Procedure.{AllFit, Procedure, total}
use Rattle.b3_ir.specs.declared.opcode.Ty.TheVariants.{Int32, Int64}
use Rattle.b3_ir.specs.declared.procedure.SlotLine.{SlotLine}
use Rattle.b3_rules.specs.Valid.{IsValidProcedure}
use Rattle.stackmap.specs.declared.site.Returns.TheVariants as returns
use Rattle.b3_sound.proofs.FromValid.{is_kept}
use Rattle.air_ir.specs.Run.{HasBlocksOf}
use Rattle.air_ir.specs.Weight.{weight}
use Rattle.air_ir.specs.WellFormed.{HasOneSiteEach, IsWellFormed, NamesSpillsBelow}
use Rattle.air_ir.specs.declared.procedure.AirProc.{AirProc}
use Rattle.air_select.specs.Contract.{AreExpressed, AreMadeFor, HasArithmeticAlone, HasNoTraps, IsArithmetic, IsFew, IsFolded, IsSelected, IsUntrapped, IsWithinLimits, ReturnsType, child_count, procedure_at}
use Rattle.air_select.specs.Selected.{selected, tables}
use Rattle.air_select.proofs.Folded.{is_folded}
use Rattle.air_select.proofs.Returned as returned
use Rattle.air_select.proofs.Selecting.{at_is, if_ok, kept_slots, same, valid_at}
use Rattle.air_select.proofs.MapFacts.{each_standing, site_light}
use Rattle.air_select.proofs.OneSite.{all_made_for, are_expressed, sites}
use Rattle.air_select.proofs.Sites.{are_selected, arithmetic, spills}
use Rattle.air_select.proofs.Sound.{sound}
use Rattle.air_select.proofs.Untrapped.{untrapped}
use Rattle.air_select.proofs.Weights.{IsLightSite, few, light}
use Rattle.air_select.proofs.Well.{well}
use Rattle.air_select.proofs.procedure.select.Goals as goal

abbrev asked : goal.After-selected → Procedure
asked c = procedure_at c.args.valid.now c.args.proc

-- the procedure that is read is the one that is asked for
here : (c : goal.After-selected) → asked c ≡ c.proc-p.result.now.procedure
here c = at_is c.module.result.now c.args.valid.now c.args.proc c.proc-p.result.now c.proc-p.ensures c.module.ensures.same

valid : (c : goal.After-selected) → IsValidProcedure (asked c)
valid c = subst IsValidProcedure (sym (here c)) (valid_at c.module.result.now c.args.proc c.proc-p.result.now c.proc-p.ensures c.module.ensures.valid)

fits : (c : goal.After-selected) → AllFit (asked c).blocks
fits c = subst (λ (p : Procedure). AllFit p.blocks) (sym (here c)) c.whole.ensures.fit

-- what holds of the procedure that is selected holds of the answer
by : (c : goal.After-selected) (Q : AirProc → Type 0) → Q (selected (asked c)) → IfOk c.selected.result Q
by c Q holds =
    if_ok c.selected.result (λ q. q ≡ selected c.proc-p.result.now.procedure) Q
    (λ q e. subst Q (sym (e ∙ ap selected (sym (here c)))) holds) c.selected.ensures

pub selected-requires-clause-valid : goal.selected-requires-clause-valid
selected-requires-clause-valid c = valid_at c.module.result.now c.args.proc c.proc-p.result.now c.proc-p.ensures c.module.ensures.valid

pub selected-requires-clause-limits : goal.selected-requires-clause-limits
selected-requires-clause-limits c =
    subst IsWithinLimits (at_is c.module.result.now c.args.valid.now c.args.proc c.proc-p.result.now c.proc-p.ensures c.module.ensures.same) c.requires.limits

pub returns-clause-is : goal.returns-clause-is
returns-clause-is c = by c (λ q. q ≡ selected (asked c)) refl

pub returns-clause-same : goal.returns-clause-same
returns-clause-same c = by c (λ q. HasBlocksOf (asked c) q) (same (asked c) (valid c) (fits c))

pub returns-clause-well : goal.returns-clause-well
returns-clause-well c = by c IsWellFormed (well (asked c) (valid c) (fits c) (tables (asked c)) (sound (asked c) (valid c)))

pub returns-clause-sites : goal.returns-clause-sites
returns-clause-sites c = by c HasOneSiteEach (sites (asked c) (valid c))

pub returns-clause-made_for : goal.returns-clause-made_for
returns-clause-made_for c = by c (AreMadeFor (asked c)) (all_made_for (asked c) (valid c) (fits c))

pub returns-clause-expressed : goal.returns-clause-expressed
returns-clause-expressed c = by c (AreExpressed (asked c)) (are_expressed (asked c) (valid c) (fits c))

pub returns-clause-spills : goal.returns-clause-spills
returns-clause-spills c = by c (NamesSpillsBelow 0) (spills (asked c))

pub returns-clause-selected : goal.returns-clause-selected
returns-clause-selected c = by c IsSelected (are_selected (asked c))

pub returns-clause-arithmetic : goal.returns-clause-arithmetic
returns-clause-arithmetic c = by c (λ q. HasArithmeticAlone (asked c) → IsArithmetic q) (arithmetic (asked c))

pub returns-clause-untrapped : goal.returns-clause-untrapped
returns-clause-untrapped c = by c (λ q. HasNoTraps (asked c) → IsUntrapped q) (untrapped (asked c))

pub returns-clause-light : goal.returns-clause-light
returns-clause-light c = by c (λ q. weight q ≤ 120 * total (asked c) + 32 * child_count (asked c) + 256)
    (light (asked c) (each_standing (asked c) (IsLightSite (tables (asked c))) (λ b j v at has.
    site_light (asked c) (valid c) (fits c) b j v at (tables (asked c)) (sound (asked c) (valid c)) has)))

pub returns-clause-few : goal.returns-clause-few
returns-clause-few c = by c (IsFew (asked c)) (few (asked c) c.requires.limits)

pub returns-clause-kept : goal.returns-clause-kept
returns-clause-kept c = by c (λ q. q.slots ≡ map (λ (slot : SlotLine). slot.bytes) (asked c).slots) (kept_slots (asked c))

pub returns-clause-returns_32 : goal.returns-clause-returns_32
returns-clause-returns_32 c =
    by c (λ q. q.returns ≡ returns.W32 → ReturnsType (asked c) Int32)
    (returned.returns_32 (asked c) (is_kept (asked c) (valid c) (fits c)) (sound (asked c) (valid c)).types)

pub returns-clause-returns_64 : goal.returns-clause-returns_64
returns-clause-returns_64 c =
    by c (λ q. q.returns ≡ returns.W64 → ReturnsType (asked c) Int64)
    (returned.returns_64 (asked c) (is_kept (asked c) (valid c) (fits c)) (sound (asked c) (valid c)).types)

pub returns-clause-folded : goal.returns-clause-folded
returns-clause-folded c = by c (IsFolded (asked c)) (is_folded (asked c) (valid c) (fits c))
