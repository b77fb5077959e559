-- What reading promises.
use Rattle.std.specs.Prelude.{ℕ, List}
use Rattle.elf_obj.specs.declared.object.Object.{Object}
use Rattle.elf_obj.specs.Good.{IsGood}
use Rattle.elf_obj.specs.Elf.{Holds}

-- the bytes are the file of this good object
pub record IsFileOf (bytes : List ℕ) (object : Object) : Type 0 where
  pub good : IsGood object
  pub holds : Holds bytes object
