-- The homes that are coloured, by numbers: the temporaries of a procedure by theirs, and after them the 25 registers
-- that values may stand in, x0 to x14 and x19 to x28, in rising order.
use Rattle.std.specs.Prelude.{ℕ, ◌+◌, ◌-◌, Bool, cond, nat_lt, Option, Some, None, false}
use Rattle.air_ir.specs.declared.operand.Home.{Home}
use Rattle.air_ir.specs.declared.operand.Home.TheVariants.{Tmp, Reg, Spill}
use Rattle.air_graph.specs.Edges.{EdgeSet, has_edge}

-- the register at a place among the 25, and the place of a register
abbrev pub register_at : ℕ → ℕ
register_at k = cond (nat_lt k 15) k (k + 4)

abbrev pub place_of : ℕ → Option ℕ
place_of reg = cond (nat_lt reg 15) (Some reg) (cond (nat_lt reg 19) None (cond (nat_lt reg 29) (Some (reg - 4)) None))

abbrev pub above : ℕ → Option ℕ → Option ℕ
above tmps (Some k) = Some (tmps + k)
above tmps None = None

-- the number of a home, where there are so many temporaries; other homes have none
abbrev pub number_of : ℕ → Home → Option ℕ
number_of tmps (Tmp number) = cond (nat_lt number tmps) (Some number) None
number_of tmps (Reg reg) = above tmps (place_of reg.0)
number_of tmps (Spill number) = None

-- the home of a number
abbrev pub home_at : ℕ → ℕ → Home
home_at tmps n = cond (nat_lt n tmps) (Tmp n) (Reg (record { 0 = register_at (n - tmps) }))

abbrev pub edge_between : EdgeSet → Option ℕ → Option ℕ → Bool
edge_between edges (Some i) (Some j) = has_edge edges i j
edge_between edges _ _ = false
