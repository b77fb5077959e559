use Rattle.std.proofs.Common.{◌≡◌, map, take}
use Rattle.b3_ir.specs.Types.{width_of}
use Rattle.b3_eval.proofs.calls.widths_of.Given as goal

abbrev pub invariant-loop-ty : goal.invariant-loop-ty
invariant-loop-ty l = l.widths ≡ map width_of (take l.ty-index l.types)
