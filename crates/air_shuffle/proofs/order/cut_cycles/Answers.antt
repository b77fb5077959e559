use Rattle.std.proofs.Common.{◌≡◌, ℕ, ◌<◌, inl, inr, true, false, Option, [], ◌∷◌, ◌++◌, length, arith, sym, ap, ◌∙◌, subst}
use Rattle.std.specs.Prelude.{None, slice_index_or}
use Rattle.std.proofs.lemmas.Bool.{cases_eq, false≢true, false_from_ne_true}
use Rattle.std.proofs.lemmas.List.{length-set}
use Rattle.b3_ir.specs.declared.value.Reg.{Reg as Register}
use Rattle.air_ir.specs.declared.operand.Home.TheVariants.{Reg}
use Rattle.air_ir.specs.declared.operand.Arg.TheVariants.{At}
use Rattle.air_shuffle.specs.Following.{IsAt}
use Rattle.air_shuffle.specs.Moves.{Move, saved}
use Rattle.air_shuffle.specs.Waiting.{IsCounted, is_left_at, move_at}
use Rattle.air_shuffle.proofs.Following.{ends, saves_one, scratch_unread}
use Rattle.air_shuffle.proofs.Left.{none_left}
use Rattle.air_shuffle.proofs.Releasing.{released-counted}
use Rattle.air_shuffle.proofs.Taking.{IsLeft, IsSaved, from_at, moved-from, saved-releases}
use Rattle.air_shuffle.proofs.order.cut_cycles.Goals as goal
use Rattle.air_shuffle.proofs.order.cut_cycles.Goals.{then-is_left+in_ok-push+in_ok-follow, else-is_left}

pub follow-requires-clause-counted : goal.follow-requires-clause-counted
follow-requires-clause-counted c =
    let p = c.loop-place.pending in
    let k : ℕ = c.loop-place.place in
    let inv = c.loop-place.invariant in
    let there : IsLeft p k = record {
      within = subst (λ (n : ℕ). k < n) inv.many c.loop-place-test.true;
      left = sym c.is_left.ensures ∙ c.if-is_left.true;
    } in
    released-counted (from_at p k) p c.save-next.new.self inv.counted
    (saved-releases p c.save-next.new.self k inv.counted there (record {
      moved = record { moves = c.save-next.ensures.moves; left = ap (λ v. v.items) c.save-next.ensures.left };
      scratch = c.save-next.ensures.scratch;
      writers = c.save-next.ensures.writers;
      counts = c.save-next.ensures.counts;
    }))

pub loop-place-preserved : goal.loop-place-preserved
loop-place-preserved c =
    let p = c.loop-place.pending in
    let k : ℕ = c.loop-place.place in
    let inv = c.loop-place.invariant in
    let g : IsCounted p = inv.counted in
    elim c.if-is_left.branch [
      | then-is_left+in_ok-push+in_ok-follow w ↦
          let q = w.save-next.new.self in
          let r = w.follow.new.self in
          let there : IsLeft p k = record {
            within = subst (λ (n : ℕ). k < n) inv.many c.loop-place-test.true;
            left = sym c.is_left.ensures ∙ w.if-is_left.true;
          } in
          let d : IsSaved p q k = record {
            moved = record { moves = w.save-next.ensures.moves; left = ap (λ v. v.items) w.save-next.ensures.left };
            scratch = w.save-next.ensures.scratch;
            writers = w.save-next.ensures.writers;
            counts = w.save-next.ensures.counts;
          } in
          let h : IsCounted q = released-counted (from_at p k) p q g (saved-releases p q k g there d) in
          let done : w.push.new.self ≡ c.loop-place.done ++ saved p.scratch (move_at p.moves.items k) ∷ [] =
          w.in_ok-push.ensures.ok ∙ ap (λ (m : Move). c.loop-place.done ++ m ∷ []) w.save-next.ensures.saved in
          let same : r.scratch ≡ p.scratch = w.follow.ensures.scratch ∙ w.save-next.ensures.scratch in
          let many : length r.moves.items ≡ length p.moves.items =
          ap (λ v. length v.items) w.follow.ensures.moves ∙ ap length w.save-next.ensures.moves ∙ length-set p.moves.items k _ in
          let from : from_at r k ≡ At (Reg r.scratch) =
          ap (λ v. (move_at v.items k).from) w.follow.ensures.moves ∙ moved-from p q k there d.moved ∙ ap (λ (s : Register). At (Reg s)) (sym same) in
          rw (w.pending-is, w.done-is) (record {
            counted = w.in_ok-follow.ensures.counted;
            many = inv.many ∙ sym many;
            at = λ whole start.
                let a = inv.at whole start in
                let s = saves_one whole c.args.count c.loop-place.done w.push.new.self p q k g h there d inv.many a.1 done a.0 in
                let b = w.in_ok-follow.ensures.rests whole c.args.count
                (subst (λ (o : Option ℕ). IsAt whole c.args.count o w.push.new.self q) (sym w.save-next.ensures.next) s) in (
                  b,
                  λ i lt. elim (cases_eq i k) [
                    | inl e ↦
                        ap (is_left_at r) e
                        ∙ scratch_unread whole w.follow.new.done r k w.in_ok-follow.ensures.counted (subst (λ (n : ℕ). k < n) (sym many) there.within) from
                        (subst (λ (n : ℕ). IsAt whole n None w.follow.new.done r) (inv.many ∙ sym many) b)
                    | inr ne ↦ false_from_ne_true (is_left_at r i) (λ t.
                        let was : is_left_at p i ≡ true = ap (λ v. slice_index_or v.items i false) (sym w.save-next.ensures.left)
                        ∙ w.in_ok-follow.ensures.left i t in
                        false≢true (sym (a.1 i (omega arith)) ∙ was))
                  ],
                );
          })
      | else-is_left w ↦
          rw (w.pending-is, w.done-is) (record {
            counted = g;
            many = inv.many;
            at = λ whole start.
                let a = inv.at whole start in (
                  a.0,
                  λ i lt. elim (cases_eq i k) [
                    | inl e ↦ ap (is_left_at p) e ∙ sym c.is_left.ensures ∙ w.if-is_left.false
                    | inr ne ↦ a.1 i (omega arith)
                  ],
                );
          })
    ]

pub returns : goal.returns
returns c = λ whole start.
    let p = c.loop-place.pending in
    let inv = c.loop-place.invariant in
    let a = inv.at whole start in
    ends whole c.args.count c.loop-place.done p (none_left p.moves.items p.left.items (λ k lt. let many = inv.many in
    a.1 k (let over = c.loop-place-test.false in omega arith))) a.0
