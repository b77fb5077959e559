use Rattle.std.proofs.Common.{◌≡◌, ◌≤◌, ◌+◌, ◌↔◌, ◌∙◌, ℕ, Bool, true, false, cond, sym, ap, arith, nat_lt, nat_le}
use Rattle.std.proofs.lemmas.Bool.{le-leb, leb-true, lt-ltb, ltb-true}
use Rattle.std.proofs.lemmas.List.{take_all}
use Rattle.stackmap.specs.Placing.{placed_count}
use Rattle.stackmap.proofs.Placed.{count_from_literal}
use Rattle.stackmap.proofs.placing.has_registers.Goals as goal

asks : (b : Bool) (n m k l : ℕ) → true ≡ b → n ≡ k → m ≡ l → (nat_lt n m ≡ true) ↔ (k + cond b 1 0 ≤ l)
asks true n m k l e en em = (λ t. (let h = ltb-true n m t in omega (arith, h, en, em)), λ t. lt-ltb n m (omega (arith, t, en, em)))
asks false n m k l e en em = absurd (cc)

asks_none : (b : Bool) (n m k l : ℕ) → false ≡ b → n ≡ k → m ≡ l → (nat_le n m ≡ true) ↔ (k + cond b 1 0 ≤ l)
asks_none true n m k l e en em = absurd (cc)
asks_none false n m k l e en em = (λ t. (let h = leb-true n m t in omega (arith, h, en, em)), λ t. le-leb n m (omega (arith, t, en, em)))

pub returns-then-asks_for_one : goal.returns-then-asks_for_one
returns-then-asks_for_one c =
    let cs = c.args.map.now.constraints in
    asks _ _ _ _ _ (sym c.if-asks_for_one.true ∙ c.asks_for_one.ensures)
    (c.placed_before-children.ensures ∙ ap placed_count (take_all _ cs (omega (arith, c.len.ensures))))
    (c.count_outside-allowed.ensures ∙ count_from_literal _ c.args.map.now c.args.typed c.excluded.ensures)

pub returns-else-asks_for_one : goal.returns-else-asks_for_one
returns-else-asks_for_one c =
    let cs = c.args.map.now.constraints in
    asks_none _ _ _ _ _ (sym c.if-asks_for_one.false ∙ c.asks_for_one.ensures)
    (c.placed_before-children.ensures ∙ ap placed_count (take_all _ cs (omega (arith, c.len.ensures))))
    (c.count_outside-allowed.ensures ∙ count_from_literal _ c.args.map.now c.args.typed c.excluded.ensures)
