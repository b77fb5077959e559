use Rattle.std.proofs.Common.{◌≡◌, ℕ, ◌+◌, ◌-◌, ◌<◌, ◌≤◌, ◌⊎◌, inr, true, false, arith, ◌∙◌, refl, subst, length-set}
use Rattle.std.specs.Prelude.{slice_index_or, slice_set}
use Rattle.std.proofs.lemmas.Bool.{or_parts}
use Rattle.bit_rows.specs.BitRows.{row_of}
use Rattle.flow_live.specs.Graph.{IsSuccessor}
use Rattle.flow_live.specs.Solving.{has, Flows, IsKeptUp}
use Rattle.flow_live.proofs.Passing.{kept_up_begin, kept_up_more, kept_up_end, settled, none_more, advances_none, advances_more}
use Rattle.flow_live.proofs.solve.pass.Goals as goal

pub loop-i-init : goal.loop-i-init
loop-i-init g c =
    let s = g.F.Flow.shape c.args.flow.now in
    let n = c.args.blocks in
    let m = c.args.rows.now in
    let grew = c.args.grew.now in
    let e : n ≡ n - 0 = omega arith in
    record {
      solving = c.requires.solving;
      long = c.requires.grew;
      kept_up = kept_up_begin s m grew c.args.all (n - 0) (omega (arith, c.requires.blocks))
          (λ f. subst (λ (x : ℕ). IsKeptUp s m grew (λ _. Unit {0}) x) e (c.requires.kept_up f));
      none = λ _ next le lt. absurd (omega arith);
      advances = advances_none s m false refl;
    }

pub loop-i-preserved : goal.loop-i-preserved
loop-i-preserved g c =
    let s = g.F.Flow.shape c.args.flow.now in
    let n = c.args.blocks in
    let i = c.loop-i.i in
    let b : ℕ = n - 1 - i in
    let low : ℕ = n - i in
    let m = c.loop-i.rows in
    let new = c.look_at-grows.new.rows in
    let grew = c.loop-i.grew in
    let grows = c.look_at-grows.result in
    let inv = c.loop-i.invariant in
    let ens = c.look_at-grows.ensures in
    let e = c.requires.blocks in
    let step : low ≡ b + 1 = omega arith in
    let down : b ≡ n - (i + 1) = omega arith in
    record {
      solving = ens.solving;
      long = length-set grew b grows ∙ inv.long;
      kept_up = subst (λ (x : ℕ). IsKeptUp s new (slice_set grew b grows) (λ block. (c.args.all ≡ false) ⊎ (x ≤ block)) x) down
          (kept_up_more s m new grew c.args.all grows low b c.requires.range step (omega (arith, e)) inv.long inv.kept_up
          (subst (λ (k : ℕ). (x : ℕ) → x < k → (x ≡ b → ⊥) → row_of new x ≡ row_of m x) e ens.ins)
          (subst (λ (k : ℕ). (x : ℕ) → x < k → (x ≡ b → ⊥) → row_of new (k + x) ≡ row_of m (k + x)) e ens.outs)
          (subst (λ (k : ℕ). (next : ℕ) → IsSuccessor s b next → (c.args.all ≡ true) ⊎ (Flows s m b next ⊎ (slice_index_or grew next false ≡ true)) → (name : ℕ) → has m next name ≡ true → has new (k + b) name ≡ true) e ens.joined)
          ens.still);
      none = λ f next le lt.
          let parts = or_parts c.loop-i.any grows f in
          none_more grew grows c.loop-i.any low b n step (omega (arith, e, inv.long)) inv.none parts.0 parts.1 next (omega arith) lt;
      advances = advances_more s c.args.rows.now m new c.loop-i.any grows _ refl inv.advances ens.advances;
    }

pub returns-clause-kept_up : goal.returns-clause-kept_up
returns-clause-kept_up g c =
    let s = g.F.Flow.shape c.args.flow.now in
    let n = c.args.blocks in
    let done : n - c.loop-i.i ≡ 0 = omega arith in
    kept_up_end s c.loop-i.rows c.loop-i.grew c.args.all n c.requires.range c.requires.blocks
    (subst (λ (x : ℕ). IsKeptUp s c.loop-i.rows c.loop-i.grew (λ block. (c.args.all ≡ false) ⊎ (x ≤ block)) x) done c.loop-i.invariant.kept_up)

pub returns-clause-settled : goal.returns-clause-settled
returns-clause-settled g c f block next lt succ =
    let s = g.F.Flow.shape c.args.flow.now in
    let n = c.args.blocks in
    let low : ℕ = n - c.loop-i.i in
    settled s c.loop-i.rows c.loop-i.grew low (λ block. (c.args.all ≡ false) ⊎ (low ≤ block)) c.requires.range c.loop-i.invariant.kept_up
    (λ x h. c.loop-i.invariant.none f x (omega arith) (omega (arith, c.requires.blocks))) block next (omega (arith, c.requires.blocks, lt)) (inr (omega arith)) succ
