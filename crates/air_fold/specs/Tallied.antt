-- No public clause cites this module: what the uses of values add up to, one after the other.
use Rattle.std.specs.Prelude.{ℕ, ◌+◌, Bool, true, ◌&&◌, ◌||◌, nat_eq, nat_lt, if◌then◌else◌, List, [], ◌∷◌, length, replicate, slice_index_or, slice_set}
use Rattle.std.specs.List.{flat_map}
use Rattle.b3_ir.specs.Procedure.{Procedure, values_of}
use Rattle.air_fold.specs.Foldable.{Use, fits, is_constant, uses_by}
use Rattle.air_fold.specs.Values.{Index, place}
use Rattle.air_fold.specs.declared.known.Known.{Known}
use Rattle.air_fold.specs.declared.uses.Tally.{Tally}
use Rattle.air_fold.specs.declared.uses.Used.{Used}

abbrev pub use_of : ℕ → Used → Use
use_of id used = record { id = id; block = used.block; user = used.user; opcode = used.opcode; at = used.at }

abbrev pub no_use : Tally
no_use = record { count = 0; fit = true }

abbrev pub none : ℕ → List Tally
none values = replicate values no_use

abbrev pub with_use : Tally → Bool → Tally
with_use t fits = record { count = if nat_lt t.count 2 then t.count + 1 else 2; fit = t.fit && fits }

-- the tallies with one more use: that of the value that is used. f says which sums are pointers
unfoldable pub with_one : Index → List Bool → List Tally → Use → List Tally
with_one x f tallies u =
    if nat_lt (place x u.id) (length tallies)
    then slice_set tallies (place x u.id) (with_use (slice_index_or tallies (place x u.id) no_use) (fits x f u))
    else tallies

-- and with some more
abbrev pub with_all : Index → List Bool → List Tally → List Use → List Tally
with_all x f tallies [] = tallies
with_all x f tallies (u ∷ us) = with_all x f (with_one x f tallies u) us

-- the uses in the block at a place
abbrev pub block_uses : Procedure → ℕ → List Use
block_uses p block = flat_map (uses_by block) (values_of p block)

abbrev pub is_folded : Known → Tally → Bool
is_folded k t = t.fit && (is_constant k.opcode || nat_eq t.count 1)
