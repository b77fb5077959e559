use Rattle.std.proofs.Common.{◌≡◌, ℕ, refl}
use mathlib.Core.Path.{fun_ext}
use Rattle.std.specs.FinMap as finite
use Rattle.std.specs.Ordering.{nat_cmp}
use Rattle.b3_base.specs.Observed.{no_memory}
use Rattle.b3_eval.proofs.run.undefined.Goals as goal

nothing : finite.get (finite.empty {X = ℕ} {R = nat_cmp}) ≡ no_memory
nothing = fun_ext (λ q. finite.get-empty nat_cmp q)

pub returns : goal.returns
returns c = rw (c.new.ensures, c.new-2.ensures, nothing) refl
