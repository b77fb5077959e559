-- The object of a module: what the passes make of each procedure, one part behind the other.
use Rattle.std.specs.Prelude.{◌≡◌, ℕ, ◌+◌, ◌*◌, List, [], ◌∷◌, ◌++◌, length, map}
use Rattle.std.specs.List.{flat_map}
use Rattle.b3_ir.specs.Procedure.{Procedure}
use Rattle.exit_table.specs.declared.tables.FrameRow.{FrameRow}
use Rattle.exit_table.specs.declared.tables.SiteRow.{SiteRow}
use Rattle.elf_obj.specs.declared.object.Object.{Object}
use Rattle.elf_obj.specs.declared.object.Symbol.{Symbol}
use Rattle.a64_object.specs.Made.{IsMadeOf}

-- a part of an object: the name of a procedure, the words of its code, the row of its frame, and those of its sites, in
-- bytes from the first word on
pub record Part : Type 0 where
  pub name : List ℕ
  pub words : List ℕ
  pub row : FrameRow
  pub sites : List SiteRow

abbrev pub words_in : Part → List ℕ
words_in part = part.words

abbrev pub row_in : Part → FrameRow
row_in part = part.row

-- its symbol, where its code begins at a byte of the text
abbrev pub symbol_at : ℕ → Part → Symbol
symbol_at offset part = record { name = part.name; offset = offset; size = 4 * length part.words }

abbrev pub symbols_from : ℕ → List Part → List Symbol
symbols_from offset [] = []
symbols_from offset (part ∷ parts) = symbol_at offset part ∷ symbols_from (offset + 4 * length part.words) parts

-- its sites, where its code begins at a byte of the text
abbrev pub site_from : ℕ → SiteRow → SiteRow
site_from offset row = record { pc = offset + row.pc; site = row.site }

abbrev pub sites_at : ℕ → Part → List SiteRow
sites_at offset part = map (site_from offset) part.sites

abbrev pub sites_from : ℕ → List Part → List SiteRow
sites_from offset [] = []
sites_from offset (part ∷ parts) = sites_at offset part ++ sites_from (offset + 4 * length part.words) parts

-- the object of parts, one behind the other: the words of each, with a symbol where they begin; the row of each frame; and
-- the sites of each, from where its words begin
abbrev pub object_of : List Part → Object
object_of parts = record {
  text = flat_map words_in parts;
  symbols = symbols_from 0 parts;
  tables = record { frames = map row_in parts; sites = sites_from 0 parts };
}

-- an object with one more part at its end
abbrev pub with_part : Object → Part → Object
with_part o part = record {
  text = o.text ++ part.words;
  symbols = o.symbols ++ symbol_at (4 * length o.text) part ∷ [];
  tables = record {
    frames = o.tables.frames ++ part.row ∷ [];
    sites = o.tables.sites ++ sites_at (4 * length o.text) part;
  };
}

-- a part is that of a procedure: it has its name, and is what the passes make of it
pub record IsPartOf (p : Procedure) (part : Part) : Type 0 where
  pub name : part.name ≡ p.name
  pub made : IsMadeOf p part.words part.row part.sites

-- parts are those of procedures, in order
unfoldable pub ArePartsOf : List Procedure → List Part → Type 0
ArePartsOf [] [] = Unit {0}
ArePartsOf (p ∷ ps) (part ∷ parts) = IsPartOf p part × ArePartsOf ps parts
ArePartsOf _ _ = ⊥

-- an object is what the passes make of procedures: of each, in order, a part that is selected, coloured by its interference
-- graph, rewritten, laid out in a frame, emitted, and the shortest text of that; and nothing else
pub record IsJoinedOf (ps : List Procedure) (o : Object) : Type 0 where
  pub parts : List Part
  pub each : ArePartsOf ps parts
  pub is : o ≡ object_of parts
