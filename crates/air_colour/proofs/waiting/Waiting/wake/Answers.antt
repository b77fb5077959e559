use Rattle.std.proofs.Common.{◌≡◌, ◌<◌, ◌++◌, Bool, List, length, take, take_at, drop, arith, sym, ap, subst}
use Rattle.air_colour.proofs.waiting.Waiting.wake.Goals as goal

pub list_all-requires : goal.list_all-requires
list_all-requires c = record {
  below = λ j i. subst (λ (l : List Bool). j < length l) (sym c.deref_mut.ensures.value) (c.args.self.now.below j i);
}

pub invariant_of-self : goal.invariant_of-self
invariant_of-self c =
    let old : List Bool = c.args.self.now.listed.items in
    let new : List Bool = c.list_all.new.listed in
    let lent : c.deref_mut.result.now ≡ old = c.deref_mut.ensures.value in
    let long : length new ≡ length c.deref_mut.result.now = c.list_all.ensures.long in
    let same : length c.deref_mut.result.now ≡ length old = ap (λ (l : List Bool). length l) lent in
    let back : take c.args.self.now.listed.len (new ++ drop (length new) old) ≡ new =
    take_at new (drop (length new) old) c.args.self.now.listed.len (omega arith) in
    record {
      below = λ j i.
          let lt = c.list_all.ensures.below j i in
          subst (λ (l : List Bool). j < length l) (sym back) (omega (arith, lt, long));
    }
