use Rattle.std.proofs.Common.{◌≡◌, ◌-◌, ℕ, List, Option, Some, None, Ok, take, drop, length, sym, ap, ◌∙◌, refl}
use Rattle.std.proofs.lemmas.List.{take_rest}
use Rattle.elf_obj.specs.declared.layout.Sizes.{Sizes}
use Rattle.elf_obj.specs.declared.field.Field.{Field}
use Rattle.elf_obj.specs.Fields.{fields_fault, and_then, told}
use Rattle.elf_obj.specs.Reading.{sizes_at, all_header_fields, read_sizes}
use Rattle.elf_obj.proofs.header.read_sizes.Goals as goal

sizes_read : (bytes : List ℕ) (start : ℕ) (s : Sizes) (fields items : List Field) (byte : Option ℕ) → s ≡ sizes_at start bytes → fields ≡ all_header_fields start s → items ≡ fields → byte ≡ fields_fault start items (take (length bytes - start) (drop start bytes))
    → read_sizes bytes start ≡ and_then (told 8 byte) (λ _. Ok s)
unfolding read_sizes
sizes_read bytes start s fields items byte is are same at = rw (at, take_rest bytes start, same, are, is) refl

pub returns-in-None : goal.returns-in-None
returns-in-None c = sizes_read c.args.bytes.now c.args.start c.sizes_at-sizes.result c.in_ok-fields.fields c.as_slice.result.now None c.sizes_at-sizes.ensures c.in_ok-fields.ensures c.as_slice.ensures (sym c.in-None.is ∙ c.fields_fault.ensures)

pub returns : goal.returns
returns c = sizes_read c.args.bytes.now c.args.start c.sizes_at-sizes.result c.in_ok-fields.fields c.as_slice.result.now (Some c.in-Some.byte) c.sizes_at-sizes.ensures c.in_ok-fields.ensures c.as_slice.ensures (sym c.in-Some.is ∙ c.fields_fault.ensures)
