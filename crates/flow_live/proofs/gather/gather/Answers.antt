use Rattle.std.proofs.Common.{◌≡◌, ℕ, ◌+◌, ◌*◌, inl, inr, arith, ◌∙◌, subst}
use Rattle.std.proofs.lemmas.Bool.{cases_lt}
use Rattle.flow_live.specs.Solving.{IsGatheredBelow}
use Rattle.flow_live.proofs.RowFacts.{same-row}
use Rattle.flow_live.proofs.Gathering.{IsGathered-kept, IsBlank-kept, IsSolving-start}
use Rattle.flow_live.proofs.gather.gather.Goals as goal

pub loop-block-preserved : goal.loop-block-preserved
loop-block-preserved g c =
    let s = g.F.Flow.shape c.args.flow.now in
    let n = c.args.blocks in
    let at = c.loop-block.block in
    let old = c.loop-block.rows in
    let new = c.gather_block.new.rows in
    let inv = c.loop-block.invariant in
    let ens = c.gather_block.ensures in
    record {
      room = ens.room;
      gathered = λ b lt. elim (cases_lt b at) [
        | inl less ↦ IsGathered-kept s b (s.places b) old new
            (ens.others b (λ e. omega arith) (λ e. omega arith))
            (ens.others (2 * s.blocks + b) (λ e. omega (arith, c.requires.blocks)) (λ e. omega (arith, c.requires.blocks)))
            (inv.gathered b less)
        | inr more ↦ let same : at ≡ b = omega arith in subst (λ (x : ℕ). IsGatheredBelow s x (s.places x) new) same ens.gathered
      ];
      blank = λ b low high. IsBlank-kept s b old new
          (ens.others b (λ e. omega arith) (λ e. omega arith))
          (ens.others (2 * s.blocks + b) (λ e. omega (arith, c.requires.blocks)) (λ e. omega (arith, c.requires.blocks)))
          (inv.blank b (omega arith) high);
      outs = λ row name low high. same-row old new row name (ens.others row (λ e. omega arith) (λ e. omega arith)) ∙ inv.outs row name low high;
      work = λ row name low. same-row old new row name (ens.others row (λ e. omega arith) (λ e. omega arith)) ∙ inv.work row name low;
    }

pub returns : goal.returns
returns g c =
    let s = g.F.Flow.shape c.args.flow.now in
    let inv = c.loop-block.invariant in
    let e = c.requires.blocks in
    IsSolving-start s c.loop-block.rows c.requires.range inv.room
    (λ b lt. inv.gathered b (omega (arith, e)))
    (λ row name low high. inv.outs row name (omega (arith, e)) (omega (arith, e)))
    (λ row name low. inv.work row name (omega (arith, e)))
