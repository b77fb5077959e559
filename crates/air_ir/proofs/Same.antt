-- Having the same blocks is reflexive and transitive.
use Rattle.std.proofs.Common.{◌≡◌, ℕ, ◌*◌, ◌/◌, ◌≤◌, refl, sym, ap, ◌∙◌, arith}
use Rattle.b3_base.specs.Observed.{Observation}
use Rattle.b3_base.specs.Run.{Follows}
use Rattle.air_ir.specs.Run.{IsUndefined, SameAtEach}

at_least : (n : ℕ) → n / 1 ≤ n
at_least n = omega arith

at_most : (n : ℕ) → n ≤ n * 1
at_most n = omega arith

between : (n k : ℕ) → n / 1 ≤ k → k ≤ n * 1 → k ≡ n
between n k least most = omega (arith, least, most)

module _ {J K : Type 0} (up : J → ℕ → Observation) (low : K → ℕ → Observation) where
  -- what is seen is the same at the same number of steps
  pub seen_same : (junk : K) (n : ℕ) (f : Follows up low (λ k moment. Unit {0}) 1 1 junk n) → low junk n ≡ up f.choice n
  seen_same junk n f = ap (low junk) (sym (between n f.steps f.least f.most)) ∙ f.same

  pub same_at_each : ((junk : K) (n : ℕ) → ((choice : J) → ¬ (IsUndefined (up choice n))) → (choice : J) × (low junk n ≡ up choice n)) → SameAtEach up low
  same_at_each h = record {
    alike = λ junk n never.
        let one = h junk n never in
        record { choice = one.0; steps = n; least = at_least n; most = at_most n; same = one.1; proper = λ moment less. tt };
  }

pub same_itself : {J : Type 0} (run : J → ℕ → Observation) → SameAtEach run run
same_itself run = same_at_each run run (λ junk n never. (junk, refl))

pub same_through : {J K L : Type 0} (up : J → ℕ → Observation) (mid : K → ℕ → Observation) (low : L → ℕ → Observation)
    → SameAtEach up mid → SameAtEach mid low → SameAtEach up low
same_through up mid low first second =
    same_at_each up low (λ junk n never.
    let below = second.alike junk n (λ k lost.
    let above = first.alike k n never in
    never above.choice (ap (λ (o : Observation). o.status) (sym (seen_same up mid k n above)) ∙ lost))
    in
    let above = first.alike below.choice n never in
    (above.choice, seen_same mid low junk n below ∙ seen_same up mid below.choice n above))
