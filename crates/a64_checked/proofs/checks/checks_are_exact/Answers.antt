use Rattle.a64_checked.proofs.Exact.{checks_exact}
use Rattle.a64_checked.proofs.checks.checks_are_exact.Goals as goal

pub returns : goal.returns
returns c = checks_exact
