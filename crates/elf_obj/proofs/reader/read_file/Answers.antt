use Rattle.std.proofs.Common.{◌≡◌, ◌+◌, length, arith}
use Rattle.elf_obj.proofs.HeaderLaws.{IsStart, start_found, AreSizes, sizes_found}
use Rattle.elf_obj.proofs.reader.read_file.Goals as goal

pub read_sizes-requires : goal.read_sizes-requires
read_sizes-requires c = (start_found c.args.bytes.now c.in_ok-start.start c.in_ok-start.ensures).ends

pub read_parts-requires-clause-within : goal.read_parts-requires-clause-within
read_parts-requires-clause-within c =
    let start : IsStart c.args.bytes.now c.in_ok-start.start = start_found c.args.bytes.now c.in_ok-start.start c.in_ok-start.ensures in
    let sizes : AreSizes c.args.bytes.now c.in_ok-start.start c.in_ok-sizes.sizes = sizes_found c.args.bytes.now c.in_ok-start.start c.in_ok-sizes.sizes start.ends c.in_ok-sizes.ensures in
    omega (arith, start.ends, sizes.ends)

pub read_parts-requires-clause-text : goal.read_parts-requires-clause-text
read_parts-requires-clause-text c = (sizes_found c.args.bytes.now c.in_ok-start.start c.in_ok-sizes.sizes (start_found c.args.bytes.now c.in_ok-start.start c.in_ok-start.ensures).ends c.in_ok-sizes.ensures).text

pub read_parts-requires-clause-whole : goal.read_parts-requires-clause-whole
read_parts-requires-clause-whole c = (sizes_found c.args.bytes.now c.in_ok-start.start c.in_ok-sizes.sizes (start_found c.args.bytes.now c.in_ok-start.start c.in_ok-start.ensures).ends c.in_ok-sizes.ensures).symbols
