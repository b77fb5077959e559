use Rattle.std.proofs.Common.{◌≡◌, ℕ, ◌+◌, ◌<◌, ◌||◌, true, inl, inr, arith, ◌∙◌, sym, ap, subst, length}
use Rattle.std.proofs.lemmas.Bool.{cases_lt, or_cases, or_left, or_right}
use Rattle.std.specs.FinSet as set
use Rattle.bit_rows.specs.BitRows.{row_of}
use Rattle.flow_live.specs.Solving.{has, HasRoom}
use Rattle.flow_live.proofs.RowFacts.{HasRoom-with, row-other, has-union, same-row}
use Rattle.flow_live.proofs.solve.join_successors.Goals as goal

pub loop-k-preserved : goal.loop-k-preserved
loop-k-preserved g c =
    let s = g.F.Flow.shape c.args.flow.now in
    let first = c.args.rows.now in
    let m = c.loop-k.rows in
    let n = c.union_into.new.self in
    let out : ℕ = c.args.blocks + c.args.block in
    let k : ℕ = c.loop-k.k in
    let next : ℕ = c.successor-next.result in
    let inv = c.loop-k.invariant in
    let made = c.union_into.ensures.union in
    let in_range : next < s.blocks = subst (λ (x : ℕ). x < s.blocks) (sym c.successor-next.ensures) (c.requires.range.successor c.args.block k (omega (arith, c.requires.blocks, c.requires.block)) (omega (arith, c.successors-k-end.ensures))) in
    let long : out < length m.sets = omega (arith, inv.room.all, c.requires.blocks, c.requires.block) in
    let is : (name : ℕ) → has n out name ≡ (has m out name || has m next name) = λ name. ap (λ r. has r out name) made ∙ has-union m out next name long in
    let before : (name : ℕ) → has m next name ≡ has first next name = λ name. same-row first m next name (inv.others next (λ e. omega (arith, c.requires.blocks, in_range))) in
    record {
      room = subst (λ r. HasRoom s r) (sym made) (HasRoom-with s m out (set.union (row_of m out) (row_of m next)) inv.room);
      others = λ row ne. ap (λ r. row_of r row) made ∙ row-other m out row (set.union (row_of m out) (row_of m next)) ne ∙ inv.others row ne;
      kept = λ name t. is name ∙ or_left (has m out name) (has m next name) (inv.kept name t);
      joined = λ j name lt t. elim (cases_lt j k) [
        | inl less ↦ is name ∙ or_left (has m out name) (has m next name) (inv.joined j name less t)
        | inr more ↦
            let same : j ≡ k = omega arith in
            is name ∙ or_right (has m out name) (has m next name) (before name ∙ subst (λ (x : ℕ). has first x name ≡ true) (ap (s.successor c.args.block) same ∙ sym c.successor-next.ensures) t)
      ];
      only = λ name t. elim (or_cases (has m out name) (has m next name) (sym (is name) ∙ t)) [
        | inl a ↦ inv.only name a
        | inr b ↦ inr (next, (k, omega (arith, c.successors-k-end.ensures), sym c.successor-next.ensures), sym (before name) ∙ b)
      ];
    }
