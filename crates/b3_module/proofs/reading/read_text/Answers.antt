use Rattle.std.proofs.Common.{◌≡◌, ℕ, List, Option, None, Some, ap, sym, subst, ◌∙◌, arith}
use Rattle.b3_ir.specs.Procedure.{procedures}
use Rattle.b3_lines.specs.Lines.{lines_of}
use Rattle.b3_rows.specs.Rows.{row_of_line}
use Rattle.b3_module.specs.declared.place.Place.{Place}
use Rattle.b3_module.specs.Texts.{added, at}
use Rattle.b3_module.specs.Reading.{state_of}
use Rattle.b3_module.proofs.BadLines.{HasRead, bad_end, bad_next, few_lines, not_ended, reads_more}
use Rattle.b3_module.proofs.Reachable.{added_goes}
use Rattle.b3_module.proofs.RowLaws.{all_stand, lines_short}
use Rattle.b3_module.proofs.reading.read_text.Goals as goal

pub read_row-requires-in-Some-clause-row : goal.read_row-requires-in-Some-clause-row
read_row-requires-in-Some-clause-row c = rw c.in_ok-row.ensures (all_stand c.in-Some.text.now)

pub read_row-requires-in-Some-clause-few : goal.read_row-requires-in-Some-clause-few
read_row-requires-in-Some-clause-few c =
    let lines = lines_of c.args.bytes.now in
    let s = at c.loop-text.place (procedures c.loop-text.made) in
    let read = subst (λ (rest : List (List ℕ)). HasRead lines s c.loop-text.line rest) c.in-Some.ensures c.loop-text.invariant.read in
    let few = few_lines lines s c.loop-text.line c.in-Some.text.now (lines_of c.in-Some.after.now) read in
    omega (arith, few, lines_short c.args.bytes.now, c.requires)

pub overflow_add-line : goal.overflow_add-line
overflow_add-line c =
    let lines = lines_of c.args.bytes.now in
    let s = at c.loop-text.place (procedures c.loop-text.made) in
    let read = subst (λ (rest : List (List ℕ)). HasRead lines s c.loop-text.line rest) c.in-Some.ensures c.loop-text.invariant.read in
    let few = few_lines lines s c.loop-text.line c.in-Some.text.now (lines_of c.in-Some.after.now) read in
    omega (arith, few, lines_short c.args.bytes.now, c.requires)

pub returns-in_default-2-clause-bad_line : goal.returns-in_default-2-clause-bad_line
returns-in_default-2-clause-bad_line c =
    let lines = lines_of c.args.bytes.now in
    let s = at c.loop-text.place (procedures c.loop-text.made) in
    let read = subst (λ (rest : List (List ℕ)). HasRead lines s c.loop-text.line rest) c.in-Some.ensures c.loop-text.invariant.read in
    let e : added s c.loop-text.line (row_of_line c.in-Some.text.now) ≡ None = ap (added s c.loop-text.line) (sym c.in_ok-row.ensures) ∙ c.in_ok-next.ensures ∙ ap (λ (next : Option Place). state_of next (procedures c.read_row-in-Some.new.made)) c.in_default-2.is in
    bad_next lines s c.loop-text.line c.in-Some.text.now (lines_of c.in-Some.after.now) read e

pub loop-text-preserved : goal.loop-text-preserved
loop-text-preserved c =
    let lines = lines_of c.args.bytes.now in
    let s = at c.loop-text.place (procedures c.loop-text.made) in
    let t = at c.in-Some-2.next (procedures c.read_row-in-Some.new.made) in
    let read = subst (λ (rest : List (List ℕ)). HasRead lines s c.loop-text.line rest) c.in-Some.ensures c.loop-text.invariant.read in
    let e : added s c.loop-text.line (row_of_line c.in-Some.text.now) ≡ Some t = ap (added s c.loop-text.line) (sym c.in_ok-row.ensures) ∙ c.in_ok-next.ensures ∙ ap (λ (next : Option Place). state_of next (procedures c.read_row-in-Some.new.made)) c.in-Some-2.is in
    record {
      read = reads_more lines s t c.loop-text.line c.in-Some.text.now (lines_of c.in-Some.after.now) read e;
      reachable = added_goes s c.loop-text.line (row_of_line c.in-Some.text.now) c.loop-text.invariant.reachable (all_stand c.in-Some.text.now) t e;
    }

pub returns-else-may_end-clause-bad_line : goal.returns-else-may_end-clause-bad_line
returns-else-may_end-clause-bad_line c =
    let lines = lines_of c.args.bytes.now in
    let s = at c.loop-text.place (procedures c.loop-text.made) in
    let read = subst (λ (rest : List (List ℕ)). HasRead lines s c.loop-text.line rest) c.in_default.ensures c.loop-text.invariant.read in
    bad_end lines s c.loop-text.line read (not_ended c.loop-text.place (procedures c.loop-text.made) (sym c.may_end.ensures ∙ c.if-may_end.false))
