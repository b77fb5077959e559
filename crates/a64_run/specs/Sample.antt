-- No public clause cites this module. The object that the tests run.
use Rattle.std.specs.Prelude.{ℕ, List, [], ◌∷◌, Some, None, codes}
use Rattle.b3_base.specs.declared.word.Width.{Width}
use Rattle.b3_base.specs.declared.word.Width.TheVariants as width
use Rattle.stackmap.specs.declared.site.Place.{Place}
use Rattle.stackmap.specs.declared.site.Rep.TheVariants.{Register, Constant}
use Rattle.stackmap.specs.declared.site.Returns.TheVariants.{W64}
use Rattle.stackmap.specs.declared.site.SiteKind.TheVariants.{Call, Patchpoint, Exit, Trap}
use Rattle.exit_table.specs.declared.tables.FrameRow.{FrameRow}
use Rattle.exit_table.specs.declared.tables.SiteRow.{SiteRow}
use Rattle.elf_obj.specs.declared.object.Object.{Object}
use Rattle.elf_obj.specs.declared.object.Symbol.{Symbol}

-- a branch to x10; from byte 4 a call of x9, a patchpoint of 2 words and a return; from byte 36 an exit; from
-- byte 40 an exit with x19 changed; from byte 48 a load from x1 with a trap, and from byte 52 one without
abbrev pub words : List ℕ
words =
    0xD61F_0140 ∷ 0xA9BF_7BFD ∷ 0x9100_03FD ∷ 0xD63F_0120 ∷ 0xD420_0040 ∷ 0xD420_0040
    ∷ 0x9100_03BF ∷ 0xA8C1_7BFD ∷ 0xD65F_03C0
    ∷ 0xD420_0020
    ∷ 0xD280_0033 ∷ 0xD420_0020
    ∷ 0xF940_0020
    ∷ 0xF940_0020
    ∷ []

abbrev pub in_register : Width → ℕ → Place
in_register w r = record { width = w; rep = Register (record { 0 = r }) }

abbrev pub wide : ℕ → Place
wide r = in_register width.W64 r

abbrev pub half : ℕ → Place
half r = in_register width.W32 r

abbrev pub five : Place
five = record { width = width.W32; rep = Constant 5 }

abbrev pub call : SiteRow
call = record {
  pc = 12;
  site = record {
    kind = Call;
    value = 3;
    size = 1;
    reps = wide 0 ∷ half 1 ∷ [];
    result = Some (width.W64, record { 0 = 0 });
    clobbers = 0x4007_FFFF;
  };
}

abbrev pub patch : SiteRow
patch = record {
  pc = 16;
  site = record {
    kind = Patchpoint;
    value = 4;
    size = 2;
    reps = wide 2 ∷ five ∷ [];
    result = Some (width.W32, record { 0 = 0 });
    clobbers = 4;
  };
}

abbrev pub exit_at : ℕ → ℕ → SiteRow
exit_at pc value = record {
  pc = pc;
  site = record { kind = Exit; value = value; size = 1; reps = wide 0 ∷ five ∷ []; result = None; clobbers = 0 };
}

abbrev pub trap : SiteRow
trap = record {
  pc = 48;
  site = record { kind = Trap; value = 7; size = 1; reps = []; result = None; clobbers = 0 };
}

abbrev pub rows : List SiteRow
rows = call ∷ patch ∷ exit_at 36 5 ∷ exit_at 44 6 ∷ trap ∷ []

abbrev pub symbol : Symbol
symbol = record { name = codes "f"; offset = 0; size = 56 }

abbrev pub frame : FrameRow
frame = record { bytes = 32; returns = W64; slots = record { offset = 16; size = 8 } ∷ []; saved = [] }

abbrev pub object : Object
object = record { text = words; symbols = symbol ∷ []; tables = record { frames = frame ∷ []; sites = rows } }
