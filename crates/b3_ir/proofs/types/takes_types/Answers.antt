use Rattle.std.proofs.Common.{◌≡◌, ◌<◌, ◌≤◌, length, sym, ◌∙◌, arith}
use Rattle.std.proofs.Math.Seq.{drop-cons}
use Rattle.std.proofs.lemmas.List.{drop_all}
use Rattle.b3_ir.specs.declared.table.Takes.TheVariants.{Any}
use Rattle.b3_ir.proofs.Typing.{too_few}
use Rattle.b3_ir.proofs.types.takes_types.Goals as goal

pub returns-then-at-types : goal.returns-then-at-types
returns-then-at-types c =
    let more : c.loop-at.at < length c.args.takes.now = omega arith in
    let none : length c.args.types.now ≤ c.loop-at.at = omega arith in
    sym (c.loop-at.invariant.same ∙ too_few c.args.alike c.args.more _ _ _ _ (drop-cons c.args.takes.now c.loop-at.at Any more) (drop_all c.loop-at.at c.args.types.now none))
