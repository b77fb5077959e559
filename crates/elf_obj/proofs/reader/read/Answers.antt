use Rattle.std.proofs.Common.{◌≡◌, ℕ, List, Result, Ok, Err, sym, subst, arith}
use Rattle.std.specs.Prelude.{IfOk}
use Rattle.b3_base.proofs.FieldLaws.{AreBytes}
use Rattle.elf_obj.specs.declared.object.Object.{Object}
use Rattle.elf_obj.specs.declared.fault.ObjectFault.{ObjectFault}
use Rattle.elf_obj.specs.Fields.{Gives}
use Rattle.elf_obj.specs.Read.{IsFileOf}
use Rattle.elf_obj.specs.Reading.{read_object}
use Rattle.elf_obj.proofs.FileLaws.{object_found, object_again}
use Rattle.elf_obj.proofs.reader.read.Goals as goal

found : (bytes : List ℕ) (result : Result Object ObjectFault) → AreBytes bytes → Gives (λ x. x) result (read_object bytes) → IfOk result (IsFileOf bytes)
found bytes (Ok object) are gives = object_found bytes object are gives
found bytes (Err fault) are gives = tt

pub returns-clause-found : goal.returns-clause-found
returns-clause-found c = found c.args.bytes.now c.read_file.result (λ i. omega (arith, c.type_inv.bytes i)) c.read_file.ensures

pub returns-clause-only : goal.returns-clause-only
returns-clause-only c = λ object is. subst (λ r. Gives (λ x. x) c.read_file.result r) (object_again c.args.bytes.now object (omega arith) is.good is.holds) c.read_file.ensures
