use Rattle.std.proofs.Common.{ℕ, ◌≤◌, List, length}
use Rattle.std.proofs.lemmas.Result.{IfOk-weaker}
use Rattle.elf_obj.specs.declared.object.Object.{Object}
use Rattle.elf_obj.specs.Elf.{Holds}
use Rattle.elf_obj.specs.Size.{size_bound}
use Rattle.elf_obj.proofs.Sizes.{length-encode}
use Rattle.elf_obj.proofs.file.write.Goals as goal

bounded : (object : Object) (bytes : List ℕ) → Holds bytes object → length bytes ≤ size_bound object
bounded object bytes holds = rw holds (length-encode object)

pub returns-clause-size : goal.returns-clause-size
returns-clause-size c = IfOk-weaker c.file_of.result _ _ (bounded c.args.object.now) c.file_of.ensures
