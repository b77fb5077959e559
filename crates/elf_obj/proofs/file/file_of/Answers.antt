use Rattle.std.proofs.Common.{◌≡◌, ◌∙◌, ap, ℕ, List, ◌++◌, rules}
use Rattle.elf_obj.specs.Sections.{zeros}
use Rattle.elf_obj.specs.Elf.{file_header}
use Rattle.elf_obj.proofs.WholeFile.{is_file}
use Rattle.elf_obj.proofs.Bounds.{writable, few_names, aligned}
use Rattle.elf_obj.proofs.file.file_of.Goals as goal

pub sections-requires-clause-tables : goal.sections-requires-clause-tables
sections-requires-clause-tables c = writable c.args.object.now c.requires

pub sections-requires-clause-names : goal.sections-requires-clause-names
sections-requires-clause-names c = few_names c.args.object.now c.requires

pub end_of-requires : goal.end_of-requires
end_of-requires c = rw c.in_ok-sections.ensures (aligned c.args.object.now)

pub put_sections-requires : goal.put_sections-requires
put_sections-requires c = rw c.in_ok-sections.ensures (aligned c.args.object.now)

pub returns : goal.returns
returns c =
    let empty : c.new-headers.result ++ zeros 64 ≡ zeros 64 = ap (λ (t : List ℕ). t ++ zeros 64) c.new-headers.ensures in
    let new_file : c.new-file.result ++ file_header c.in_ok-aligned.field-0 ≡ file_header c.in_ok-aligned.field-0 = ap (λ (t : List ℕ). t ++ file_header c.in_ok-aligned.field-0) c.new-file.ensures in
    is_file c.args.object.now c.in_ok-sections.sections c.in_ok-end_of.field-0 c.in_ok-aligned.field-0 c.extend.new.self c.put_sections.new.headers c.put_file_header.new.out c.put_sections.new.out c.pad.new.out c.extend-2.new.self
    c.in_ok-sections.ensures c.in_ok-end_of.ensures c.in_ok-aligned.ensures (c.in_ok-extend.ensures.ok ∙ empty) (c.in_ok-put_file_header.ensures ∙ new_file) c.in_ok-put_sections.ensures.contents c.in_ok-put_sections.ensures.headers c.in_ok-pad.ensures (search rules)
