use Rattle.std.proofs.Common.{◌≡◌, ℕ, inl, inr, sym, ◌∙◌}
use Rattle.flow_live.specs.declared.touch.Touch.{Touch}
use Rattle.flow_live.specs.declared.touch.Touch.TheVariants.{Use, LateUse}
use Rattle.flow_live.specs.Graph.{IsUseOf}
use Rattle.flow_live.proofs.Gathering.{put_use}
use Rattle.flow_live.proofs.gather.add_use.Goals as goal

one_use : (touch : Touch) (name q : ℕ) → touch ≡ Use name → IsUseOf touch q → q ≡ name
one_use touch name q is used = elim used [ inl e ↦ cc | inr e ↦ cc ]

one_late_use : (touch : Touch) (name q : ℕ) → touch ≡ LateUse name → IsUseOf touch q → q ≡ name
one_late_use touch name q is used = elim used [ inl e ↦ cc | inr e ↦ cc ]

pub returns-then-not-has-clause-used : goal.returns-then-not-has-clause-used
returns-then-not-has-clause-used c =
    put_use c.args.rows.now c.set.new.self c.args.block c.args.defined c.in-Use.name c.args.touch c.requires.block c.set.ensures
    (inl c.in-Use.is) (λ q. one_use c.args.touch c.in-Use.name q c.in-Use.is) (sym c.has.ensures ∙ c.if-not-has.true)

pub returns-then-not-has-2-clause-used : goal.returns-then-not-has-2-clause-used
returns-then-not-has-2-clause-used c =
    put_use c.args.rows.now c.set-then-not-has-2.new.self c.args.block c.args.defined c.in-LateUse.name c.args.touch c.requires.block c.set-then-not-has-2.ensures
    (inr c.in-LateUse.is) (λ q. one_late_use c.args.touch c.in-LateUse.name q c.in-LateUse.is) (sym c.has-in-LateUse.ensures ∙ c.if-not-has-2.true)
