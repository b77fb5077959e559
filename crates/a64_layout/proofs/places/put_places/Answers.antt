use Rattle.std.proofs.Common.{◌+◌, ◌<◌, ◌≡◌, inl, inr, ⊎_elim, ap, sym, subst, ◌∙◌, arith}
use Rattle.std.specs.Prelude.{slice_get}
use Rattle.std.proofs.lemmas.Bool.{cases_lt}
use Rattle.a64_layout.specs.Branch.{size_in, size_of}
use Rattle.a64_layout.specs.Layout.{place, position_of}
use Rattle.a64_layout.specs.Text.{chosen, label_count, mark_count, mark_position_of}
use Rattle.a64_layout.proofs.Flags.{chosen_at}
use Rattle.a64_layout.proofs.Labels.{place_short}
use Rattle.a64_layout.proofs.Least.{place-zero, place-next}
use Rattle.a64_layout.proofs.Putting.{ArePut, all_put, label_at, label_put, labels_numbered, mark_at, mark_put, marks_numbered}
use Rattle.a64_layout.proofs.places.put_places.Goals as goal

pub loop-at-init : goal.loop-at-init
loop-at-init c = record {
  here_is = sym (place-zero c.args.code.now (chosen c.args.long.now));
  labels = record { count_is = c.requires.labels; told = λ k number lt. absurd (omega arith) };
  marks = record { count_is = c.requires.marks; told = λ k number lt. absurd (omega arith) };
}

pub overflow_add-here : goal.overflow_add-here
overflow_add-here c = omega (
  arith,
  place_short c.args.code.now c.requires.good (chosen c.args.long.now) c.loop-at.at (omega arith),
  c.loop-at.invariant.here_is,
  c.size-here.ensures.most,
)

pub loop-at-preserved : goal.loop-at-preserved
loop-at-preserved c =
    let items = c.args.code.now in
    let long = chosen c.args.long.now in
    let at = c.loop-at.at in
    let next = place-next items long at in
    let words : size_in (long at) (slice_get items at) ≡ size_of c.get.result.now c.get-item.result.now =
    ap (λ b. size_in b (slice_get items at)) (chosen_at c.args.long.now at c.get.result.now c.get.ensures) ∙ ap (size_in c.get.result.now) c.get-item.ensures in
    let size = c.size-here.ensures.value in
    let here = c.loop-at.invariant.here_is in
    record {
      here_is = omega arith;
      labels =
          subst (ArePut items label_at (label_count items) (place items long) (λ k. k < at + 1)) (sym c.put_label.ensures)
          (label_put items c.requires.good (place items long) (λ k. k < at) (λ k. k < at + 1) at c.loop-at.here
          (λ k lt. ⊎_elim (λ less. inl less) (λ ge. inr (omega arith)) (cases_lt k at)) (λ lt. omega arith) here c.loop-at.labels
          c.get-item.result.now c.get-item.ensures c.loop-at.invariant.labels);
      marks =
          subst (ArePut items mark_at (mark_count items) (place items long) (λ k. k < at + 1)) (sym c.put_mark.ensures)
          (mark_put items c.requires.good (place items long) (λ k. k < at) (λ k. k < at + 1) at c.loop-at.here
          (λ k lt. ⊎_elim (λ less. inl less) (λ ge. inr (omega arith)) (cases_lt k at)) (λ lt. omega arith) here c.loop-at.marks
          c.get-item.result.now c.get-item.ensures c.loop-at.invariant.marks);
    }

pub returns-clause-labels : goal.returns-clause-labels
returns-clause-labels c = λ label below.
    let named : label < label_count c.args.code.now = subst (λ n. label < n) c.loop-at.invariant.labels.count_is below in
    let there = c.requires.good.label_there label named in
    all_put c.args.code.now label_at (label_count c.args.code.now) (position_of c.args.code.now) (labels_numbered c.args.code.now c.requires.good)
    (place c.args.code.now (chosen c.args.long.now)) (λ k. k < c.loop-at.at) c.loop-at.labels c.loop-at.invariant.labels label named (omega arith)

pub returns-clause-marks : goal.returns-clause-marks
returns-clause-marks c = λ mark below.
    let named : mark < mark_count c.args.code.now = subst (λ n. mark < n) c.loop-at.invariant.marks.count_is below in
    let there = c.requires.good.mark_there mark named in
    all_put c.args.code.now mark_at (mark_count c.args.code.now) (mark_position_of c.args.code.now) (marks_numbered c.args.code.now c.requires.good)
    (place c.args.code.now (chosen c.args.long.now)) (λ k. k < c.loop-at.at) c.loop-at.marks c.loop-at.invariant.marks mark named (omega arith)
