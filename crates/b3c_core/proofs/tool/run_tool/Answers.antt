use Rattle.std.proofs.Common.{◌≡◌, ◌⊎◌, subst, sym}
use Rattle.b3_module.specs.Canonical.{lined}
use Rattle.b3_generated.specs.Made.{module_of}
use Rattle.b3c_core.proofs.Completeness.{compile_settles, eval_settles, gen_settles, print_settles, run_settles}
use Rattle.b3c_core.proofs.tool.run_tool.Goals as goal

pub returns-clause-compiles : goal.returns-clause-compiles
returns-clause-compiles g c = λ named input output ps text is spelled valid small.
    subst (λ status. (status ≡ 0) ⊎ (status ≡ 9)) (sym c.status.ensures)
    (compile_settles _ c.run_words-ending.result c.run_words-ending.ensures.ended named input output ps text is spelled valid small)

pub returns-clause-prints : goal.returns-clause-prints
returns-clause-prints g c = λ named input output ps text is spelled small.
    subst (λ status. (status ≡ 0) ⊎ (status ≡ 9)) (sym c.status.ensures)
    (print_settles _ c.run_words-ending.result c.run_words-ending.ensures.ended named input output ps text is spelled small)

pub returns-clause-evaluates : goal.returns-clause-evaluates
returns-clause-evaluates g c = λ named input trial output ps text is spelled valid small t bytes has spells short begins.
    subst (λ status. (status ≡ 0) ⊎ (status ≡ 9)) (sym c.status.ensures)
    (eval_settles _ c.run_words-ending.result c.run_words-ending.ensures.ended named input trial output ps text is spelled valid small t bytes has spells short begins)

pub returns-clause-runs : goal.returns-clause-runs
returns-clause-runs g c = λ named input trial output o file is holds small t bytes has spells short begins.
    subst (λ status. (status ≡ 0) ⊎ (status ≡ 9)) (sym c.status.ensures)
    (run_settles _ c.run_words-ending.result c.run_words-ending.ensures.ended named input trial output o file is holds small t bytes has spells short begins)

pub returns-clause-generates : goal.returns-clause-generates
returns-clause-generates g c = λ n named output.
    let good = c.generated_texts_are_good.ensures n in
    subst (λ status. (status ≡ 0) ⊎ (status ≡ 9)) (sym c.status.ensures)
    (gen_settles _ c.run_words-ending.result c.run_words-ending.ensures.ended n named output (lined 1 (module_of n))
    (record { spells = good.spells; within = good.within }) good.valid)
