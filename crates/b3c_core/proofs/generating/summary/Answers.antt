use Rattle.std.proofs.Common.{◌≡◌, ℕ, List, ◌++◌, ◌∙◌, refl}
use Rattle.std.specs.Prelude.{codes}
use Rattle.std.specs.Fmt.{decimal, digits}
use Rattle.b3c_core.specs.Generating.{summary}
use Rattle.b3c_core.proofs.Commands.{five_parts}
use Rattle.b3c_core.proofs.generating.summary.Goals as goal

sixteen : decimal 16 ≡ codes "16"
unfolding digits
sixteen = refl

values : decimal 8272 ≡ codes "8272"
unfolding digits
values = refl

-- the front of the summary, with what comes behind it
front : (rest : List ℕ) → codes "procedures 16\nvalues 8272\nmodule bytes " ++ rest
    ≡ codes "procedures " ++ (decimal 16 ++ (codes "\nvalues " ++ (decimal 8272 ++ (codes "\nmodule bytes " ++ rest))))
front rest = rw (sixteen, values) refl

pub returns : goal.returns
unfolding summary
returns c =
    let tail : List ℕ = decimal c.args.module_bytes ++ (codes "\nobject bytes " ++ (decimal c.args.object_bytes ++ codes "\n")) in
    five_parts _ _ _ _ _ _ (codes "procedures 16\nvalues 8272\nmodule bytes ") (decimal c.args.module_bytes) (codes "\nobject bytes ") (decimal c.args.object_bytes) (codes "\n")
    c.new-out.ensures c.in_ok-extend.ensures.ok c.in_ok-put_decimal.ensures c.in_ok-extend-2.ensures.ok c.in_ok-put_decimal-2.ensures c.in_ok-extend-3.ensures.ok
    ∙ front tail
