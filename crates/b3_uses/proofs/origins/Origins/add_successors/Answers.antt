use Rattle.std.proofs.Common.{◌≡◌, ℕ, ◌+◌, [], ◌∷◌, ◌++◌, length, take, refl, sym, subst, ◌∙◌}
use Rattle.std.specs.Prelude.{slice_index_or}
use Rattle.b3_uses.specs.Lists.{AddsTo}
use Rattle.b3_uses.specs.Reversed.{LeadsTo, LeadsToOne}
use Rattle.b3_uses.proofs.Adding.{successors_more}
use Rattle.b3_uses.proofs.Noting.{one_more}
use Rattle.b3_uses.proofs.origins.Origins.add_successors.Goals as goal

pub loop-next-preserved : goal.loop-next-preserved
loop-next-preserved c =
    let inv = c.loop-next.invariant in
    let old = c.args.self.now.sources in
    let mid = c.loop-next.self.sources in
    let new = c.add_successor.new.self.sources in
    let n : ℕ = length old in
    let nexts = c.args.successors.now in
    let i = c.loop-next.next-index in
    let next : ℕ = slice_index_or nexts i 0 in
    let more : take (i + 1) nexts ≡ take i nexts ++ next ∷ [] = one_more nexts nexts i refl c.loop-next-test.true in
    let step : AddsTo mid new (LeadsToOne n c.args.block next) =
    subst (λ (m : ℕ). AddsTo mid new (LeadsToOne m c.args.block next)) (inv.sources).as_many c.in_ok-add_successor.ensures.sources in
    record {
      sources = subst (λ l. AddsTo old new (LeadsTo n c.args.block l)) (sym more)
          (successors_more n c.args.block next (take i nexts) old mid new inv.sources step);
      homes = c.in_ok-add_successor.ensures.homes ∙ inv.homes;
    }
