-- No public clause cites this module.
-- How places are laid out, from x29 down.
use Rattle.std.specs.Prelude.{ℕ, ◌+◌, Bool, true, false, List, [], ◌∷◌, sum_by}
use Rattle.stackmap.specs.declared.site.SavedRow.{SavedRow}
use Rattle.air_frame.specs.Frames.{rounded}

-- registers in words below an offset, one after the other
abbrev pub saved_rows : ℕ → List ℕ → List SavedRow
saved_rows low [] = []
saved_rows low (r ∷ rs) = record { reg = record { 0 = r }; offset = low + 8 } ∷ saved_rows (low + 8) rs

-- the bytes that a flag asks for, and those that flags do
abbrev pub flag_bytes : Bool → ℕ
flag_bytes true = 8
flag_bytes false = 0

abbrev pub word_bytes : List Bool → ℕ
word_bytes flags = sum_by flag_bytes flags

-- a word for each flag that is set below an offset; where it isn't, the end of those before
abbrev pub spill_offsets : ℕ → List Bool → List ℕ
spill_offsets low [] = []
spill_offsets low (flag ∷ flags) = (low + flag_bytes flag) ∷ spill_offsets (low + flag_bytes flag) flags

-- slots of these sizes below an offset, each in whole parts of 16 bytes
abbrev pub slot_offsets : ℕ → List ℕ → List ℕ
slot_offsets low [] = []
slot_offsets low (size ∷ sizes) = (low + rounded size) ∷ slot_offsets (low + rounded size) sizes
