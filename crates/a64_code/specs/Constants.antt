-- Words put in registers, half-word by half-word.
use Rattle.std.specs.Prelude.{ℕ, zero, suc, ◌+◌, ◌-◌, ◌*◌, ◌/◌, ◌%◌, ◌^◌, Bool, true, false, nat_eq, nat_lt, if◌then◌else◌, List, [], ◌∷◌}
use Rattle.b3_base.specs.declared.word.Width.{Width}
use Rattle.b3_base.specs.declared.word.Width.TheVariants.{W32, W64}
use Rattle.a64_inst.specs.declared.inst.Inst.{Inst}
use Rattle.a64_inst.specs.declared.inst.Inst.TheVariants.{MoveWide}
use Rattle.a64_inst.specs.declared.inst.MoveOp.TheVariants.{Movk, Movn, Movz}

abbrev pub half_word : ℕ → ℕ → ℕ
half_word word hw = word / 2 ^ (16 * hw) % 2 ^ 16

-- how many half-words a width has
abbrev pub half_count : Width → ℕ
half_count W32 = 2
half_count W64 = 4

-- the half-words that aren't put: those of ones where the constant is inverted, else those of zeros
abbrev pub filling : Bool → ℕ
filling true = 65535
filling false = 0

-- the first half-word that is put sets the others, and each further one keeps them
abbrev pub half_move : Width → Bool → Bool → ℕ → ℕ → ℕ → Inst
half_move width inverted true reg half hw = MoveWide width Movk reg half hw
half_move width true false reg half hw = MoveWide width Movn reg (65535 - half) hw
half_move width false false reg half hw = MoveWide width Movz reg half hw

-- n half-words of a word, from half-word hw on; where none was put in the end, the filling is
unfoldable pub half_moves : Width → Bool → ℕ → ℕ → Bool → ℕ → ℕ → List Inst
half_moves width inverted reg word started zero hw = if started then [] else half_move width inverted false reg (filling inverted) 0 ∷ []
half_moves width inverted reg word started (suc n) hw =
    if nat_eq (half_word word hw) (filling inverted) then half_moves width inverted reg word started n (hw + 1) else
    half_move width inverted started reg (half_word word hw) hw ∷ half_moves width inverted reg word true n (hw + 1)

-- how many of the first n half-words are this one
unfoldable pub halves_like : ℕ → ℕ → ℕ → ℕ
halves_like word half zero = 0
halves_like word half (suc n) = halves_like word half n + (if nat_eq (half_word word n) half then 1 else 0)

-- a constant is inverted where that saves half-words
abbrev pub is_inverted : Width → ℕ → Bool
is_inverted width word = nat_lt (halves_like word 0 (half_count width)) (halves_like word 65535 (half_count width))

-- a word of a width put in a register
unfoldable pub constant : Width → ℕ → ℕ → List Inst
constant width reg word = half_moves width (is_inverted width word) reg word false (half_count width) 0
