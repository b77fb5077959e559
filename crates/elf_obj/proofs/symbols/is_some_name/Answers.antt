use Rattle.std.proofs.Common.{◌≡◌, Bool, true, false, List, ℕ, refl}
use Rattle.std.specs.Prelude.{◌↔◌}
use Rattle.b3_ir.specs.Names.{IsName}
use Rattle.elf_obj.specs.Reading.{is_name}
use Rattle.elf_obj.proofs.SymbolLaws.{name_found, name_again}
use Rattle.elf_obj.proofs.symbols.is_some_name.Goals as goal

same : (a b : Bool) → (a ≡ true → b ≡ true) → (b ≡ true → a ≡ true) → a ≡ b
same true true f g = cc
same true false f g = let e : false ≡ true = f refl in cc
same false true f g = let e : false ≡ true = g refl in cc
same false false f g = cc

pub returns : goal.returns
returns c = same _ (is_name c.args.name.now) (λ e. name_again c.args.name.now (c.is_name.ensures.0 e)) (λ e. c.is_name.ensures.1 (name_found c.args.name.now e))
