-- No public clause cites this module. What a step of the outside leaves, part by part.
use Rattle.std.specs.Prelude.{ℕ, ◌&&◌, Bool, nat_lt, is_some, if◌then◌else◌, None}
use Rattle.std.specs.Option.{option_or}
use Rattle.b3_base.specs.Observed.{Memory, MachineStart}
use Rattle.exit_table.specs.declared.tables.FrameRow.{FrameRow}
use Rattle.stackmap.specs.World.{registers_after}
use Rattle.stackmap.specs.declared.site.Site.{Site}
use Rattle.a64_run.specs.Hidden.{is_between}
use Rattle.a64_run.specs.Placement.{in_frame}

-- a memory without the bytes from `first` to below `end`
abbrev pub without : ℕ → ℕ → Memory → Memory
without first end memory q = if is_between first end q then None else memory q

-- a memory without the frame's bytes below SP
abbrev pub without_below : FrameRow → MachineStart → ℕ → Memory → Memory
without_below frame m sp memory q = if in_frame frame m q && nat_lt q sp then None else memory q

-- the bytes that are written where they are seen and mapped
abbrev pub with_seen : (ℕ → Bool) → Memory → Memory → Memory
with_seen is_seen memory writes q =
    if is_seen q && is_some (memory q) then option_or (writes q) (memory q) else memory q

-- the word of one register after the i-th event
abbrev pub word_after : Site → (ℕ → ℕ) → ℕ → ℕ → ℕ → ℕ → ℕ
word_after site junk i value r word = registers_after site junk i value (λ q. word) r
