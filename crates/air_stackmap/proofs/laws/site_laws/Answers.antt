use Rattle.std.proofs.Common.{◌∙◌, []}
use Rattle.std.proofs.lemmas.List.Elements.{All-append, All-cons, All-nil}
use Rattle.air_ir.specs.WellFormed.{IsGoodInst}
use Rattle.air_stackmap.specs.SiteCode.{child_moves, site_inst}
use Rattle.air_stackmap.proofs.Expressed.{expressed, patch_is, patch_map}
use Rattle.air_stackmap.proofs.Good.{good_moves, good_site, patch_results_named}
use Rattle.air_stackmap.proofs.Kept.{kept}
use Rattle.air_stackmap.proofs.Reading.{changed_are_registers, inputs_read, site_reads, site_writes}
use Rattle.air_stackmap.proofs.Running.{moves_keep, moves_run}
use Rattle.air_stackmap.proofs.Weights.{code_light}
use Rattle.air_stackmap.proofs.laws.site_laws.Goals as goal

pub returns-clause-patches : goal.returns-clause-patches
returns-clause-patches c = λ v fits placeable e.
    let m = patch_map v fits e in
    let is = patch_is v m.0 m.1 e in
    record { placeable = placeable; stackmap = m.0; carries = m.1; op = is.0; computes = is.1 }

pub returns-clause-expressed : goal.returns-clause-expressed
returns-clause-expressed c = λ p v o inputs cs results fits site are.
    expressed v site.stackmap site.carries site.placeable p o inputs cs results fits site.op site.computes are

pub returns-clause-good : goal.returns-clause-good
returns-clause-good c = λ q v o inputs cs results site small there named_in named_out.
    All-append (IsGoodInst q) (child_moves v cs) _ (good_moves q v site.stackmap site.carries site.placeable cs small there)
    (All-cons (IsGoodInst q) (site_inst v o inputs cs results) []
    (good_site q v site.stackmap site.carries site.placeable o inputs cs results site.op site.computes small there named_in named_out)
    (All-nil (IsGoodInst q)))

pub returns-clause-own : goal.returns-clause-own
returns-clause-own c = λ q v fits placeable e. let m = patch_map v fits e in patch_results_named q v m.0 m.1 placeable

pub returns-clause-light : goal.returns-clause-light
returns-clause-light c = λ v o inputs cs results few is. code_light v o inputs cs results few is

pub returns-clause-run : goal.returns-clause-run
returns-clause-run c = λ mean v cs ws s junk copies free have. moves_run mean v copies 0 cs ws s junk free have

pub returns-clause-stay : goal.returns-clause-stay
returns-clause-stay c = λ v cs ws homes g is. moves_keep v 0 cs ws homes g is

pub returns-clause-reads : goal.returns-clause-reads
returns-clause-reads c = λ v o inputs cs results ins ws homes site counts free have free_inputs reads.
    site_reads v site.stackmap site.carries site.placeable o inputs cs results ins ws homes site.computes counts free have
    (inputs_read v cs ws homes inputs free_inputs ∙ reads)

pub returns-clause-writes : goal.returns-clause-writes
returns-clause-writes c = λ v o inputs cs results is. (site_writes v o inputs cs results is, λ g free there. changed_are_registers v g free there)

pub returns-clause-kept : goal.returns-clause-kept
returns-clause-kept c = λ p b j v valid stands fits e. kept p b j v valid stands fits e
