use Rattle.std.proofs.Common.{All}
use Rattle.std.proofs.lemmas.List.Elements.{All-more}
use Rattle.b3_rules.specs.Rules.{IsCaseOf}
use Rattle.b3_rules.proofs.Loops.{all_seen}
use Rattle.b3_rules.proofs.cases.are_cases.Goals as goal

pub loop-word-preserved : goal.loop-word-preserved
loop-word-preserved c =
    All-more (IsCaseOf c.args.ty) c.args.words.now c.loop-word.word-index _ c.loop-word-test.true
    c.loop-word.invariant (c.is_case.ensures.0 c.if-not-is_case.false)

pub returns : goal.returns
returns c = all_seen (All (IsCaseOf c.args.ty)) c.args.words.now c.loop-word.word-index c.loop-word-test.false c.loop-word.invariant
