use Rattle.std.proofs.Common.{ℕ, List, Bool, Option, Some, None, cond, ap, sym, subst, ◌∙◌, arith}
use Rattle.std.specs.Prelude.{option_map}
use Rattle.b3_lines.specs.Lines.{lines_of}
use Rattle.b3_trial.specs.Trials.{so_far_of, trial_of}
use Rattle.b3_trial.specs.declared.reading.Trial.{Trial}
use Rattle.b3_trial.proofs.BadLines.{HasRead, bad_end, bad_next, few_lines, lines_short, reads_more}
use Rattle.b3_trial.proofs.reading.read_lines.Goals as goal

pub returns-then-not-branch-clause-bad : goal.returns-then-not-branch-clause-bad
returns-then-not-branch-clause-bad c =
    let text = lines_of c.args.bytes.now in
    let s = so_far_of c.loop-text.so_far in
    let read = subst (λ (rest : List (List ℕ)). HasRead text s c.loop-text.line rest) c.in-Some.ensures c.loop-text.invariant in
    bad_next text s c.loop-text.line c.in-Some.text.now (lines_of c.in-Some.after.now) read
    (c.in_ok-put.ensures ∙ ap (λ (good : Bool). cond good (Some (so_far_of c.put.new.self)) None) c.if-not-branch.true)

pub overflow_add-line : goal.overflow_add-line
overflow_add-line c =
    let text = lines_of c.args.bytes.now in
    let s = so_far_of c.loop-text.so_far in
    let read = subst (λ (rest : List (List ℕ)). HasRead text s c.loop-text.line rest) c.in-Some.ensures c.loop-text.invariant in
    let few = few_lines text s c.loop-text.line c.in-Some.text.now (lines_of c.in-Some.after.now) read in
    omega (arith, few, lines_short c.args.bytes.now, c.requires)

pub loop-text-preserved : goal.loop-text-preserved
loop-text-preserved c =
    let text = lines_of c.args.bytes.now in
    let s = so_far_of c.loop-text.so_far in
    let read = subst (λ (rest : List (List ℕ)). HasRead text s c.loop-text.line rest) c.in-Some.ensures c.loop-text.invariant in
    reads_more text s (so_far_of c.put.new.self) c.loop-text.line c.in-Some.text.now (lines_of c.in-Some.after.now) read
    (c.in_ok-put.ensures ∙ ap (λ (good : Bool). cond good (Some (so_far_of c.put.new.self)) None) c.if-not-branch.false)

pub returns-in-None-clause-bad : goal.returns-in-None-clause-bad
returns-in-None-clause-bad c =
    let text = lines_of c.args.bytes.now in
    let s = so_far_of c.loop-text.so_far in
    let read = subst (λ (rest : List (List ℕ)). HasRead text s c.loop-text.line rest) c.in_default.ensures c.loop-text.invariant in
    bad_end text s c.loop-text.line read (sym c.end.ensures ∙ ap (λ (o : Option Trial). option_map trial_of o) c.in-None.is)
