use Rattle.std.proofs.Common.{subst, sym}
use Rattle.b3c_core.specs.Compiled.{IsNoText}
use Rattle.b3c_core.proofs.Endings.{no_text}
use Rattle.b3c_core.proofs.compiler.read.Goals as goal

pub returns-in-Err-Syntax-clause-cause : goal.returns-in-Err-Syntax-clause-cause
returns-in-Err-Syntax-clause-cause c =
    subst (IsNoText c.args.bytes.now) (sym c.in-Err-Syntax.line-is) (no_text c.args.bytes.now _ (rw c.in-Err-Syntax.field-0-is at c.in-Err-Syntax.ensures.syntax))
