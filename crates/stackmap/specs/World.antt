-- What the outside does at a call or a patchpoint (AAPCS64, 6.1.1): the words that it is shown, and the
-- registers and the memory that it leaves.
use Rattle.std.specs.Prelude.{ℕ, ◌+◌, ◌-◌, ◌*◌, ◌/◌, ◌%◌, ◌^◌, Bool, ◌&&◌, nat_eq, nat_lt, if◌then◌else◌, List, [], ◌∷◌, map, Option, Some, None, is_some}
use Rattle.std.specs.Option.{option_or}
use Rattle.b3_base.specs.Arithmetic.{low}
use Rattle.b3_base.specs.Memory.{read_word}
use Rattle.b3_base.specs.Observed.{Memory}
use Rattle.b3_base.specs.Word.{bits}
use Rattle.b3_base.specs.declared.word.Width.{Width}
use Rattle.b3_base.specs.declared.word.Width.TheVariants.{W32, W64}
use Rattle.b3_ir.specs.declared.value.Reg.{Reg}
use Rattle.stackmap.specs.Registers.{has}
use Rattle.stackmap.specs.declared.site.Place.{Place}
use Rattle.stackmap.specs.declared.site.Rep.{Rep}
use Rattle.stackmap.specs.declared.site.Rep.TheVariants.{Register, Slot, Constant}
use Rattle.stackmap.specs.declared.site.Site.{Site}

-- the address so many bytes below x29
abbrev pub below_frame_pointer : (ℕ → ℕ) → ℕ → ℕ
below_frame_pointer x offset = (x 29 + 2 ^ 64 - offset) % 2 ^ 64

-- the word that stands in a place, for registers and the bytes that data accesses may touch: the low half
-- where it has 32 bits; none where a byte of it is missing
abbrev pub word_in : (ℕ → ℕ) → Memory → Width → Rep → Option ℕ
word_in x memory width (Register reg) = Some (low width (x reg.0))
word_in x memory width (Slot offset) = read_word memory (below_frame_pointer x offset) (bits width / 8)
word_in x memory width (Constant word) = Some word

abbrev pub and_word : Option ℕ → Option (List ℕ) → Option (List ℕ)
and_word (Some word) (Some words) = Some (word ∷ words)
and_word (Some word) None = None
and_word None words = None

-- the words in some places, where each has one, and their widths
abbrev pub words_in : (ℕ → ℕ) → Memory → List Place → Option (List ℕ)
words_in x memory [] = Some []
words_in x memory (place ∷ places) = and_word (word_in x memory place.width place.rep) (words_in x memory places)

abbrev pub widths_of : List Place → List Width
widths_of places = map (λ (place : Place). place.width) places

-- the junk words of the i-th event: word r is for x r, and word 31 for the flags
abbrev pub junk_at : (ℕ → ℕ) → ℕ → ℕ → ℕ
junk_at junk i r = junk (32 * i + r)

-- a result register takes the value; above a value of 32 bits stands junk
abbrev pub result_word : Width → ℕ → ℕ → ℕ
result_word W32 value above = low W32 value + above / 2 ^ 32 * 2 ^ 32
result_word W64 value above = value

-- each clobbered register takes its junk word, and every other one keeps its word
abbrev pub clobbered : Site → (ℕ → ℕ) → (ℕ → ℕ) → ℕ → ℕ
clobbered site words x r = if has site.clobbers r then words r else x r

abbrev pub with_result : Option (Width × Reg) → (ℕ → ℕ) → ℕ → (ℕ → ℕ) → ℕ → ℕ
with_result None words value x r = x r
with_result (Some (width, reg)) words value x r = if nat_eq r reg.0 then result_word width value (words r) else x r

-- the registers after the i-th event, where the outside gives a value
abbrev pub registers_after : Site → (ℕ → ℕ) → ℕ → ℕ → (ℕ → ℕ) → ℕ → ℕ
registers_after site junk i value x = with_result site.result (junk_at junk i) value (clobbered site (junk_at junk i) x)

-- the outside writes bytes that it sees, and what stands in the frame below SP is lost
abbrev pub memory_after : (ℕ → Bool) → (ℕ → Bool) → ℕ → Memory → Memory → Memory
memory_after is_seen in_frame sp writes memory q =
    if in_frame q && nat_lt q sp then None else
    if is_seen q && is_some (memory q) then option_or (writes q) (memory q) else memory q
