use Rattle.std.proofs.Common.{List, map, ◌+◌, ◌≤◌, sym, ap, ◌∙◌, subst}
use Rattle.air_ir.specs.Run.{HasSameBlocks}
use Rattle.air_ir.specs.declared.procedure.AirBlock.{AirBlock}
use Rattle.air_ir.specs.declared.procedure.AirProc.{AirProc}
use Rattle.air_spill.specs.Rewritten.{home_by, rewritten_block}
use Rattle.air_spill.specs.Stays.{AddsPlaces, ComesFromEach}
use Rattle.air_ir.specs.Weight.{weight}
use Rattle.air_ir.specs.WellFormed.{HasOneSiteEach, IsWellFormed, NamesSpillsBelow}
use Rattle.air_spill.proofs.Good.{well}
use Rattle.air_spill.proofs.Lighter.{lighter}
use Rattle.air_spill.proofs.Sites.{comes_from_each, one_site_each}
use Rattle.air_spill.proofs.SpillNames.{names_low}
use Rattle.air_spill.proofs.NewPlaces.{adds_places}
use Rattle.air_spill.proofs.SameRun.{same_blocks}
use Rattle.air_spill.proofs.procedure.rewrite.Goals as goal

abbrev with_blocks : AirProc → List AirBlock → AirProc
with_blocks p blocks = record { blocks = blocks; tmps = 0; slots = p.slots; returns = p.returns }

pub returns-clause-is : goal.returns-clause-is
returns-clause-is c =
    ap (with_blocks c.args.p) (c.in_ok-rewritten_blocks.ensures ∙ ap (map (rewritten_block (home_by c.args.assignment.now))) c.as_slice.ensures)

pub returns-clause-same : goal.returns-clause-same
returns-clause-same c =
    subst (HasSameBlocks c.args.p) (sym (returns-clause-is c)) (same_blocks c.args.p c.args.assignment.now c.requires.well c.requires.proper c.requires.named)

pub returns-clause-well : goal.returns-clause-well
returns-clause-well c =
    subst IsWellFormed (sym (returns-clause-is c)) (well c.args.p c.args.assignment.now c.requires.well c.requires.proper c.requires.named)

pub returns-clause-spills : goal.returns-clause-spills
returns-clause-spills c =
    subst (NamesSpillsBelow (56 + c.args.p.tmps)) (sym (returns-clause-is c)) (names_low c.args.p c.args.assignment.now c.requires.named c.requires.well)

pub returns-clause-lighter : goal.returns-clause-lighter
returns-clause-lighter c =
    subst (λ (q : AirProc). weight q ≤ weight c.args.p) (sym (returns-clause-is c)) (lighter c.args.p c.args.assignment.now c.requires.well)

pub returns-clause-sites : goal.returns-clause-sites
returns-clause-sites c once =
    subst HasOneSiteEach (sym (returns-clause-is c)) (one_site_each c.args.p c.args.assignment.now once)

pub returns-clause-comes : goal.returns-clause-comes
returns-clause-comes c =
    subst (ComesFromEach c.args.p) (sym (returns-clause-is c)) (comes_from_each c.args.p c.args.assignment.now c.requires.proper c.requires.well)

pub returns-clause-places : goal.returns-clause-places
returns-clause-places c =
    subst (AddsPlaces c.args.p c.args.assignment.now) (sym (returns-clause-is c)) (adds_places c.args.p c.args.assignment.now)
