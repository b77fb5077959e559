use Rattle.std.proofs.Common.{◌≡◌, take}
use Rattle.stackmap.specs.World.{widths_of}
use Rattle.a64_run.proofs.outside.widths_of.Given as goal

abbrev pub invariant-loop-place : goal.invariant-loop-place
invariant-loop-place l = l.widths ≡ widths_of (take l.place-index l.places)
