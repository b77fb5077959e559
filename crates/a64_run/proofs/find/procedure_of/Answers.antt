-- Each symbol before has another name.
use Rattle.std.proofs.Common.{◌≡◌, Bool, true, false}
use Rattle.a64_run.proofs.Named.{item_there, none_more, no_name}
use Rattle.a64_run.proofs.find.procedure_of.Goals as goal

differs : (b : Bool) → b ≡ false → b ≡ true → ⊥
differs b is_false is_true = cc

pub returns-then-has_name-clause-some : goal.returns-then-has_name-clause-some
returns-then-has_name-clause-some c =
    (c.symbol-item.result, item_there c.args.object.now.symbols _ c.loop-k.k c.symbol-item.result c.as_slice-symbol-items.ensures c.loop-k-test.true c.symbol-item.is, c.has_name.ensures.0 c.if-has_name.true)

pub loop-k-preserved : goal.loop-k-preserved
loop-k-preserved c = none_more c.args.object.now.symbols c.loop-k.k c.symbol-item.result c.args.name.now
    (item_there c.args.object.now.symbols _ c.loop-k.k c.symbol-item.result c.as_slice-symbol-items.ensures c.loop-k-test.true c.symbol-item.is)
    (λ named. absurd (differs c.has_name.result c.if-has_name.false (c.has_name.ensures.1 named))) c.loop-k.invariant

pub returns-clause-none : goal.returns-clause-none
returns-clause-none c = no_name c.args.object.now.symbols _ c.loop-k.k c.args.name.now c.as_slice-symbol-items.ensures c.loop-k-test.false c.loop-k.invariant
