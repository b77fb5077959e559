use Rattle.b3c_core.proofs.Malformed.{compiled_never_malformed}
use Rattle.b3c_core.proofs.laws.compiled_never_malformed.Goals as goal

pub returns : goal.returns
returns c = compiled_never_malformed
