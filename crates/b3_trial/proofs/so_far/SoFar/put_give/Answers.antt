use Rattle.std.proofs.Common.{◌≡◌, ◌∙◌, Bool, Some, None, cond}
use Rattle.std.specs.FinMap as map
use Rattle.std.proofs.lemmas.Result.{IfOk-weaker}
use Rattle.b3_trial.specs.Trials.{so_far_of, with_give}
use Rattle.b3_trial.proofs.PieceLemmas.{empty_memory, give_not, give_put}
use Rattle.b3_trial.proofs.so_far.SoFar.put_give.Goals as goal

pub returns-then-not-branch : goal.returns-then-not-branch
returns-then-not-branch c =
    give_not (so_far_of c.args.self.now) c.args.value c.args.pieces.now (map.get c.new-writes.result) (map.get c.put_pieces.new.memory)
    c.in_ok-put_pieces.field-0
    (empty_memory _ c.new-writes.ensures) c.in_ok-put_pieces.ensures c.if-not-branch.true

pub returns : goal.returns
returns c =
    let s = so_far_of c.args.self.now in
    let put = give_put s c.args.value c.args.pieces.now (map.get c.new-writes.result) (map.get c.put_pieces.new.memory) c.in_ok-put_pieces.field-0
    (empty_memory _ c.new-writes.ensures) c.in_ok-put_pieces.ensures c.if-not-branch.false in
    IfOk-weaker c.put_answer.result _ (λ (good : Bool). with_give s c.args.value c.args.pieces.now ≡ cond good (Some (so_far_of c.put_answer.new.self)) None)
    (λ good h. put ∙ h) c.put_answer.ensures
