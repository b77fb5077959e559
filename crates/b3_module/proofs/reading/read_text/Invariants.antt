use Rattle.std.proofs.Common.{length}
use Rattle.b3_ir.specs.Procedure.{procedures}
use Rattle.b3_lines.specs.Lines.{lines_of}
use Rattle.b3_module.specs.Texts.{at}
use Rattle.b3_module.specs.Reading.{IsReachable}
use Rattle.b3_module.proofs.BadLines.{HasRead}
use Rattle.b3_module.proofs.reading.read_text.Given as goal

abbrev pub invariant-loop-text : goal.invariant-loop-text
invariant-loop-text l = record {
  read : HasRead (lines_of l.bytes) (at l.place (procedures l.made)) l.line (lines_of l.rest);
  reachable : IsReachable (at l.place (procedures l.made)) l.line;
}

abbrev pub decreases-loop-text : goal.decreases-loop-text
decreases-loop-text l = length (lines_of l.rest)
