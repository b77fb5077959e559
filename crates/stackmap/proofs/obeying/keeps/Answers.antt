use Rattle.std.proofs.Common.{refl}
use Rattle.stackmap.proofs.Keeping.{keeps_from_sets, sets_from_keeps, Sets}
use Rattle.stackmap.proofs.obeying.keeps.Goals as goal

pub returns-then-not-places_fit : goal.returns-then-not-places_fit
returns-then-not-places_fit c = (
  λ no. absurd (cc),
  λ keeps. c.if-not-places_fit.ensures.1 (λ k constraint where_ below child. (keeps.kinds k constraint where_ child, keeps.named k constraint where_ child)),
)

pub registers_of-every-requires : goal.registers_of-every-requires
registers_of-every-requires c = c.if-not-places_fit.ensures.0 refl

pub registers_of-late-requires : goal.registers_of-late-requires
registers_of-late-requires c = c.if-not-places_fit.ensures.0 refl

pub registers_of-clobbered-requires : goal.registers_of-clobbered-requires
registers_of-clobbered-requires c = c.if-not-places_fit.ensures.0 refl

pub shared_registers-twice-requires : goal.shared_registers-twice-requires
shared_registers-twice-requires c = c.if-not-places_fit.ensures.0 refl

pub returns : goal.returns
returns c =
    let sets : Sets c.args.map.now c.args.site.now
    c.registers_of-every.result c.registers_of-late.result c.registers_of-clobbered.result c.shared_registers-twice.result =
    record {
      fit = c.if-not-places_fit.ensures.0 refl;
      all = c.registers_of-every.ensures;
      read_late = c.registers_of-late.ensures;
      changed = c.registers_of-clobbered.ensures;
      shared = c.shared_registers-twice.ensures;
    } in (
      λ yes. keeps_from_sets c.args.patchpoint _ _ _ _ _ _ sets (c.sets_keep.ensures.0 yes),
      λ keeps. c.sets_keep.ensures.1 (sets_from_keeps c.args.patchpoint _ _ _ _ _ _ sets keeps),
    )
