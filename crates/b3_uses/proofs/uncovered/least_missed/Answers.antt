use Rattle.std.proofs.Common.{◌≡◌, ℕ, ◌+◌, [], ◌∷◌, ◌++◌, Option, Some, take, sym, ap, subst, ◌∙◌, arith}
use Rattle.std.proofs.lemmas.List.{take_all, take_more}
use Rattle.std.proofs.lemmas.List.Elements.{Contains-get_or}
use Rattle.std.specs.Prelude.{slice_index_or}
use Rattle.b3_uses.specs.Leasts.{IsLeastMissed}
use Rattle.b3_uses.specs.declared.gather.OpenUse.{OpenUse}
use Rattle.b3_uses.proofs.Answering.{true_false}
use Rattle.b3_uses.proofs.Deciding.{least_kept, least_missed}
use Rattle.b3_uses.proofs.uncovered.least_missed.Goals as goal
use Rattle.b3_uses.proofs.uncovered.least_missed.Goals.{then-is_missed, else-is_missed}

abbrev no_use : OpenUse
no_use = record { block = 0; name = 0; line = 0 }

pub is_missed-requires-clause-block : goal.is_missed-requires-clause-block
is_missed-requires-clause-block c =
    c.requires.block (slice_index_or c.args.uses.now c.loop-used.used-index no_use)
    (Contains-get_or c.args.uses.now c.loop-used.used-index no_use c.loop-used-test.true)

pub is_missed-requires-clause-name : goal.is_missed-requires-clause-name
is_missed-requires-clause-name c =
    c.requires.name (slice_index_or c.args.uses.now c.loop-used.used-index no_use)
    (Contains-get_or c.args.uses.now c.loop-used.used-index no_use c.loop-used-test.true)

pub loop-used-preserved : goal.loop-used-preserved
loop-used-preserved c g is =
    let uses = c.args.uses.now in
    let i = c.loop-used.used-index in
    let u = slice_index_or uses i no_use in
    let more : take (i + 1) uses ≡ take i uses ++ u ∷ [] = take_more uses i no_use c.loop-used-test.true in
    let so_far = c.loop-used.invariant g is in
    subst (λ l. IsLeastMissed g l c.if-is_missed.least) (sym more)
    (elim c.if-is_missed.branch [
      | then-is_missed w ↦ subst (λ (o : Option ℕ). IsLeastMissed g (take i uses ++ u ∷ []) o) (sym (w.least-is ∙ ap (λ (line : ℕ). Some line) w.lower.ensures))
          (least_missed g (take i uses) u c.loop-used.least so_far ((c.is_missed.ensures g is).0 w.if-is_missed.true))
      | else-is_missed w ↦ subst (λ (o : Option ℕ). IsLeastMissed g (take i uses ++ u ∷ []) o) (sym w.least-is)
          (least_kept g (take i uses) u c.loop-used.least so_far
          (λ missed. true_false c.is_missed.result ((c.is_missed.ensures g is).1 missed) w.if-is_missed.false))
    ])

pub returns : goal.returns
returns c g is =
    let all : take c.loop-used.used-index c.args.uses.now ≡ c.args.uses.now =
    take_all c.loop-used.used-index c.args.uses.now (omega (arith, c.loop-used-test.false)) in
    subst (λ l. IsLeastMissed g l c.loop-used.least) all (c.loop-used.invariant g is)
