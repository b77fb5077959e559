use Rattle.std.proofs.Common.{◌≡◌, drop}
use Rattle.std.specs.Prelude.{slice_index}
use Rattle.std.specs.FinMap as map
use Rattle.stackmap.specs.World.{words_in}
use Rattle.a64_run.proofs.Gathered.{joined}
use Rattle.a64_run.proofs.outside.words_in.Given as goal

abbrev pub invariant-loop-place : goal.invariant-loop-place
invariant-loop-place l =
    words_in (slice_index l.st.registers.x) (map.get l.st.memory) l.places
    ≡ joined l.words (words_in (slice_index l.st.registers.x) (map.get l.st.memory) (drop l.place-index l.places))
