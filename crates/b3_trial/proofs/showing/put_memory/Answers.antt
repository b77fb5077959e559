use Rattle.std.proofs.Common.{ℕ, ◌+◌, ◌^◌, ◌++◌, List, sym, ap, ◌∙◌, arith, rules}
use Rattle.std.specs.FinMap as map
use Rattle.std.proofs.lemmas.List.{append-nil}
use Rattle.b3_trial.proofs.ShownLemmas.{below_none, next_byte, no_more}
use Rattle.b3_trial.proofs.showing.put_memory.Goals as goal

pub loop-address-init : goal.loop-address-init
loop-address-init c = record {
  so_far = sym (ap (λ (x : List ℕ). c.args.out.now ++ x) (below_none (map.get c.args.memory.now)) ∙ append-nil c.args.out.now);
  low = omega arith;
}

pub returns-then-address : goal.returns-then-address
returns-then-address c =
    let m = map.get c.args.memory.now in
    let least = c.in-Some.ensures.least in
    next_byte m c.loop-address.from c.in-Some.address (2 ^ 64) c.args.out.now c.loop-address.out c.put_byte_at.new.out least.0 least.2 (omega
    (arith, c.if-address.true)) c.loop-address.invariant.so_far c.in_ok-put_byte_at.ensures

pub loop-address-preserved : goal.loop-address-preserved
loop-address-preserved c =
    let m = map.get c.args.memory.now in
    let least = c.in-Some.ensures.least in
    record {
      so_far = next_byte m c.loop-address.from c.in-Some.address (c.in-Some.address + 1) c.args.out.now c.loop-address.out
          c.put_byte_at.new.out least.0 least.2 (omega arith) c.loop-address.invariant.so_far c.in_ok-put_byte_at.ensures;
      low = search rules;
    }

pub returns : goal.returns
returns c = no_more (map.get c.args.memory.now) c.loop-address.from c.args.out.now c.loop-address.out (omega (arith, c.loop-address.invariant.low))
    c.in_default.ensures.none c.loop-address.invariant.so_far
