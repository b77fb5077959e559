-- The temporaries of values.
use Rattle.std.specs.Prelude.{ℕ, ◌+◌, ◌*◌, length}
use Rattle.air_ir.specs.declared.operand.Home.{Home}
use Rattle.air_ir.specs.declared.operand.Home.TheVariants.{Tmp}
use Rattle.air_fold.specs.Values.{Index, place}

-- each value has three temporaries: its home, and two that its instructions use on the way
abbrev pub home : Index → ℕ → Home
home x id = Tmp (3 * place x id)

abbrev pub first_extra : Index → ℕ → Home
first_extra x id = Tmp (3 * place x id + 1)

abbrev pub second_extra : Index → ℕ → Home
second_extra x id = Tmp (3 * place x id + 2)

-- where the Upsilons of a Phi put their words
abbrev pub location : Index → ℕ → Home
location x phi = first_extra x phi

-- behind those of the values, the temporary of an argument register
abbrev pub argument : Index → ℕ → Home
argument x r = Tmp (3 * length x.ids + r)

abbrev pub tmp_count : Index → ℕ
tmp_count x = 3 * length x.ids + 8
