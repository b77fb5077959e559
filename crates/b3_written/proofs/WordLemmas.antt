-- The words of constants.
use Rattle.std.proofs.Common.{◌≡◌, ℕ, List, replicate}
use Rattle.std.proofs.lemmas.List.{length-replicate}
use Rattle.b3_ir.specs.Fits.{IsBody}
use Rattle.b3_ir.specs.Table.{row_of}
use Rattle.b3_ir.specs.declared.opcode.Ty.{Ty}
use Rattle.b3_ir.specs.declared.table.Carries.{Carries}
use Rattle.b3_ir.specs.declared.table.Carries.TheVariants as carries
use Rattle.b3_ir.specs.declared.value.Body.{Body}
use Rattle.b3_ir.specs.declared.value.Body.TheVariants.{Constant}
use Rattle.b3_ir.specs.declared.value.Value.{Value}
use Rattle.b3_rows.specs.Rows.{row_of_line}
use Rattle.b3_rows.specs.Successors.{LinesFit, successor_count, with_targets}
use Rattle.b3_rows.specs.declared.row.Row.TheVariants.{ValueRow}
use Rattle.b3_written.specs.Listed.{FitsWord}

pub word_of_body : (c : Carries) (ty : Ty) (reported : ℕ) (body : Body) → IsBody c ty reported body → FitsWord c body
word_of_body (carries.Number width) ty reported (Constant word) h = h
word_of_body c ty reported body h = tt

word_behind : (c : Carries) (ty : Ty) (reported : ℕ) (body : Body) (targets : List ℕ) → IsBody c ty reported (with_targets body targets) → FitsWord c body
word_behind (carries.Number width) ty reported (Constant word) targets h = h
word_behind c ty reported body targets h = tt

pub word_read : LinesFit → (line : List ℕ) (v : Value) → row_of_line line ≡ ValueRow v → FitsWord (row_of v.kind.opcode).carries v.body
word_read laws line v e =
    let targets : List ℕ = replicate (successor_count v) 0 in
    word_behind (row_of v.kind.opcode).carries v.ty _ v.body targets (laws line v targets e (length-replicate (successor_count v) 0)).body
