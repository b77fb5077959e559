use Rattle.std.proofs.Common.{arith}
use Rattle.elf_obj.proofs.ReadLaws.{symbols_found}
use Rattle.elf_obj.proofs.reader.read_parts.Goals as goal

pub read_all_tables-requires-clause-fills : goal.read_all_tables-requires-clause-fills
read_all_tables-requires-clause-fills c =
    (symbols_found c.args.bytes.now c.args.sizes c.in_ok-symbols.symbols (omega (arith, c.requires.within)) c.requires.text c.requires.whole c.in_ok-symbols.ensures).fills
