-- The memory that a step of the outside leaves: what is lost, and what is written where it is seen.
use Rattle.std.proofs.Common.{◌≡◌, ℕ, ◌+◌, ◌-◌, ◌^◌, ◌<◌, ◌≤◌, Bool, true, false, Option, Some, None, refl, sym, ap, ◌∙◌, arith}
use mathlib.Core.Path.{fun_ext}
use Rattle.std.specs.Prelude.{◌&&◌, nat_eq, nat_lt, min, is_some, IfSome, IfNone, if◌then◌else◌}
use Rattle.std.specs.Bool.{OnTrue, OnFalse}
use Rattle.std.specs.FinMap as finite
use Rattle.std.specs.FinMap.{FinMap}
use Rattle.std.specs.Ordering.{nat_cmp}
use Rattle.std.proofs.lemmas.Bool.Decides.{nat_tests}
use Rattle.b3_base.specs.Memory.{byte_address, is_mapped, put_byte, write_word, IsNextMapped}
use Rattle.b3_base.specs.Observed.{Memory, MachineStart}
use Rattle.exit_table.specs.declared.tables.FrameRow.{FrameRow}
use Rattle.a64_run.proofs.Taking.{is_before, write_one}
use Rattle.a64_run.specs.Hidden.{is_between}
use Rattle.a64_run.specs.Leaving.{with_seen, without, without_below}
use Rattle.a64_run.specs.Placement.{is_within}
use Rattle.a64_run.specs.Taking.{IsAnyWithin, with_range}

-- ---- what is lost

-- the bytes of the frame below SP are those of one range
range_is : (top bytes sp q : ℕ) → bytes ≤ top → (is_within (top - bytes) bytes q && nat_lt q sp) ≡ is_between (top - bytes) (min top sp) q
range_is top bytes sp q room = grind (arith, nat_tests)

lost_is : (frame : FrameRow) (m : MachineStart) (sp : ℕ) (old : Memory) → frame.bytes ≤ m.sp
    → without (m.sp - frame.bytes) (min m.sp sp) old ≡ without_below frame m sp old
lost_is frame m sp old room = fun_ext (λ q. ap (λ (b : Bool). if b then None else old q) (sym (range_is m.sp frame.bytes sp q room)))

pub lost_at : (frame : FrameRow) (m : MachineStart) (sp : ℕ) (old : Memory) (first end : ℕ) → frame.bytes ≤ m.sp → first ≡ m.sp - frame.bytes
    → end ≡ min m.sp sp
    → without first end old ≡ without_below frame m sp old
lost_at frame m sp old first end room f e = rw (f, e) (lost_is frame m sp old room)

empty_at : (lost : Bool) (held : Option ℕ) → (lost ≡ true → is_some held ≡ true → ⊥) → held ≡ (if lost then None else held)
empty_at false held none = refl
empty_at true None none = refl
empty_at true (Some byte) none = absurd (none refl refl)

within_is : (first end q : ℕ) → is_between first end q ≡ true → is_within first (end - first) q ≡ true
within_is first end q e = grind (arith, nat_tests)

-- where nothing stands there nothing is lost
pub nothing_lost : (first end : ℕ) (old : Memory) → (IsAnyWithin old first (end - first) → ⊥) → old ≡ without first end old
nothing_lost first end old none = fun_ext (λ q. empty_at (is_between first end q) (old q) (λ inside some. none (q, within_is first end q inside, some)))

no_range : (first end q : ℕ) → end ≤ first → is_between first end q ≡ false
no_range first end q le = grind (arith, nat_tests)

pub nothing_between : (first end : ℕ) (old : Memory) → end ≤ first → old ≡ without first end old
nothing_between first end old le = fun_ext (λ q. ap (λ (b : Bool). if b then None else old q) (sym (no_range first end q le)))

-- a memory without a range, up to below the next address
abbrev pub kept_below : ℕ → ℕ → Memory → Option ℕ → Memory
kept_below first end memory next q = if is_before q next then without first end memory q else None

kept_first_at : (first end : ℕ) (memory : Memory) (next : Option ℕ) (q : ℕ) → IfSome next (IsNextMapped memory 0)
    → IfNone next ((p : ℕ) → 0 ≤ p → memory p ≡ None) → None ≡ kept_below first end memory next q
kept_first_at first end memory None q least none = let gone = none q (omega arith) in grind (arith, nat_tests, gone)
kept_first_at first end memory (Some next) q least none = let gone = least.2 q (omega arith) in grind (arith, nat_tests, gone)

pub kept_first : (first end : ℕ) (memory left : Memory) (next : Option ℕ) → ((q : ℕ) → left q ≡ None) → IfSome next (IsNextMapped memory 0)
    → IfNone next ((p : ℕ) → 0 ≤ p → memory p ≡ None) → left ≡ kept_below first end memory next
kept_first first end memory left next empty least none = fun_ext (λ q. empty q ∙ kept_first_at first end memory next q least none)

kept_more_at : (first end : ℕ) (memory : Memory) (address : ℕ) (next : Option ℕ) (q : ℕ) → is_some (memory address) ≡ true
    → IfSome next (IsNextMapped memory (address + 1)) → IfNone next ((p : ℕ) → address < p → memory p ≡ None)
    → (if is_between first end address then kept_below first end memory (Some address)
    else with_range (kept_below first end memory (Some address)) memory address 1) q
    ≡ kept_below first end memory next q
kept_more_at first end memory address None q there least none =
    let gone = none q in
    grind (arith, nat_tests, gone)
kept_more_at first end memory address (Some next) q there least none =
    let above = least.0 in
    let gone = least.2 q in
    grind (arith, nat_tests, above, gone)

pub kept_more : (first end : ℕ) (memory left new : Memory) (address : ℕ) (next : Option ℕ) → is_some (memory address) ≡ true
    → left ≡ kept_below first end memory (Some address)
    → new ≡ (if is_between first end address then left else with_range left memory address 1)
    → IfSome next (IsNextMapped memory (address + 1)) → IfNone next ((p : ℕ) → address < p → memory p ≡ None) → new ≡ kept_below first end memory next
kept_more first end memory left new address next there kept is least none =
    is ∙ ap (λ (k : Memory). if is_between first end address then k else with_range k memory address 1) kept
    ∙ fun_ext (λ q. kept_more_at first end memory address next q there least none)

pub next_there : (m : Memory) (from : ℕ) (next : Option ℕ) → IfSome next (IsNextMapped m from) → IfSome next (λ a. is_some (m a) ≡ true)
next_there m from None least = least
next_there m from (Some next) least = least.1

-- ---- what is written

here : (address : ℕ) → address < 2 ^ 64 → byte_address address 0 ≡ address
here address small = omega arith

mapped_one : (m : Memory) (address : ℕ) → address < 2 ^ 64 → is_mapped m address 1 ≡ is_some (m address)
unfolding is_mapped
mapped_one m address small = rw (here address small) refl

put_at : (m writes : Memory) (address byte q : ℕ) → is_some (m address) ≡ true → writes address ≡ Some byte
    → put_byte m address byte q ≡ with_seen (λ p. nat_eq p address) m writes q
put_at m writes address byte q mapped is = grind (arith, nat_tests)

unmapped_at : (m writes : Memory) (address q : ℕ) → is_some (m address) ≡ false → m q ≡ with_seen (λ p. nat_eq p address) m writes q
unmapped_at m writes address q none = grind (arith, nat_tests)

pub put_one : (m n writes : Memory) (address byte : ℕ) (told : Bool) → address < 2 ^ 64 → byte < 256 → writes address ≡ Some byte
    → told ≡ is_mapped m address 1 → OnTrue told (n ≡ write_word m address 1 byte) → OnFalse told (n ≡ m) → n ≡ with_seen (λ q. nat_eq q address) m writes
put_one m n writes address byte true small fits is told done undone =
    let some : is_some (m address) ≡ true = sym (told ∙ mapped_one m address small) in
    done ∙ write_one m address byte small fits ∙ fun_ext (λ q. put_at m writes address byte q some is)
put_one m n writes address byte false small fits is told done undone =
    let none : is_some (m address) ≡ false = sym (told ∙ mapped_one m address small) in
    undone ∙ fun_ext (λ q. unmapped_at m writes address q none)

-- memories that are one have the same bytes
pub off_same : (told : Bool) (new old : FinMap nat_cmp ℕ) → OnFalse told (new ≡ old) → OnFalse told (finite.get new ≡ finite.get old)
off_same true new old same = tt
off_same false new old same = ap finite.get same

-- the bytes that are written where they are seen, up to below the next address
abbrev pub seen_below : (ℕ → Bool) → Memory → Memory → Option ℕ → Memory
seen_below is_seen memory writes next q = if is_before q next then with_seen is_seen memory writes q else memory q

seen_more_at : (is_seen : ℕ → Bool) (memory writes : Memory) (address : ℕ) (next : Option ℕ) (q : ℕ)
    → IfSome next (IsNextMapped writes (address + 1)) → IfNone next ((p : ℕ) → address < p → writes p ≡ None)
    → (if is_seen address then with_seen (λ p. nat_eq p address) (seen_below is_seen memory writes (Some address)) writes
    else seen_below is_seen memory writes (Some address)) q ≡ seen_below is_seen memory writes next q
seen_more_at is_seen memory writes address None q least none =
    let gone = none q in
    grind (arith, nat_tests, gone)
seen_more_at is_seen memory writes address (Some next) q least none =
    let above = least.0 in
    let gone = least.2 q in
    grind (arith, nat_tests, above, gone)

pub seen_more : (is_seen : ℕ → Bool) (memory writes old new : Memory) (address : ℕ) (next : Option ℕ) → old ≡ seen_below is_seen memory writes (Some address)
    → new ≡ (if is_seen address then with_seen (λ p. nat_eq p address) old writes else old)
    → IfSome next (IsNextMapped writes (address + 1)) → IfNone next ((p : ℕ) → address < p → writes p ≡ None) → new ≡ seen_below is_seen memory writes next
seen_more is_seen memory writes old new address next e is least none =
    is ∙ ap (λ (k : Memory). if is_seen address then with_seen (λ p. nat_eq p address) k writes else k) e
    ∙ fun_ext (λ q. seen_more_at is_seen memory writes address next q least none)
