use Rattle.std.proofs.Common.{◌≡◌, ℕ, Bool, true, false, cond, not, refl, subst}
use Rattle.std.specs.BTreeSet.{contains}
use Rattle.std.specs.Ordering.{is_eq, nat_cmp}
use Rattle.b3_rules.proofs.WordsApart.{new_from_pairs, seen_step}
use Rattle.b3_rules.proofs.cases.differ.Goals as goal

not_new : (old new : Bool) → new ≡ not old → new ≡ false → old ≡ true
not_new true new e is = refl
not_new false new e is = absurd (cc)

is_new : (old new : Bool) → new ≡ not old → new ≡ true → old ≡ false
is_new true new e is = absurd (cc)
is_new false new e is = refl

pub returns-then-not-branch : goal.returns-then-not-branch
returns-then-not-branch c = (
  λ never. absurd (cc),
  λ pairs. absurd (new_from_pairs c.args.width c.loop-word.seen c.args.words.now c.loop-word.word-index 0 c.loop-word-test.true c.loop-word.invariant pairs
      (subst (λ (k : ℕ). contains nat_cmp c.loop-word.seen k ≡ true) c.low.ensures.value
      (not_new _ _ c.in_ok-insert.ensures.added c.if-not-branch.true))),
)

pub loop-word-preserved : goal.loop-word-preserved
loop-word-preserved c =
    seen_step c.args.width c.loop-word.seen c.insert.new.self c.args.words.now c.loop-word.word-index 0 c.loop-word-test.true c.loop-word.invariant
    (subst (λ (k : ℕ). contains nat_cmp c.loop-word.seen k ≡ false) c.low.ensures.value (is_new _ _ c.in_ok-insert.ensures.added c.if-not-branch.false))
    (subst (λ (k : ℕ). (q : ℕ) → contains nat_cmp c.insert.new.self q ≡ cond (is_eq (nat_cmp k q)) true (contains nat_cmp c.loop-word.seen q))
    c.low.ensures.value c.in_ok-insert.ensures.updates.0)
