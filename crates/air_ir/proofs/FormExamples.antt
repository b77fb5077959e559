-- No public clause cites this module. A procedure that is well formed, and an instruction that is expressed for a
-- patchpoint.
use Rattle.std.proofs.Common.{◌≡◌, ◌≢◌, ℕ, ◌-◌, ◌^◌, ◌<◌, inl, List, [], ◌∷◌, None, refl, arith, lit<, lit≤}
use Rattle.std.specs.Prelude.{All, AllPairs}
use Rattle.std.specs.List.{AllByRecursion}
use Rattle.std.proofs.lemmas.List.Elements.{All-from_recursion}
use Rattle.std.proofs.lemmas.List.Kept.{AllPairs-cons}
use Rattle.b3_base.specs.declared.word.Width.TheVariants.{W64}
use Rattle.air_ir.specs.Kinds.{target_count}
use Rattle.air_ir.specs.Forms.{AllFit, ArePairs}
use Rattle.air_ir.specs.Operands.{Target, targets}
use Rattle.air_ir.specs.WellFormed.{IsGoodBlock, IsGoodInst, IsWellFormed, NamesOwn}
use Rattle.air_ir.specs.declared.op.AirOp.TheVariants as op
use Rattle.air_ir.specs.declared.op.Test.TheVariants.{NonZero}
use Rattle.air_ir.specs.declared.operand.Home.TheVariants.{Tmp}
use Rattle.air_ir.specs.declared.operand.Arg.TheVariants.{At, Imm}
use Rattle.air_ir.specs.declared.operand.Operand.{Operand}
use Rattle.air_ir.specs.declared.procedure.AirInst.{AirInst}
use Rattle.air_ir.proofs.Examples.{block, def_at, inst, loop, move, return_x0, use_at, x}

names_own : (os : List Operand) → AllByRecursion (λ (o : Operand). NamesOwn loop o.role o.arg) os → All (λ (o : Operand). NamesOwn loop o.role o.arg) os
names_own os h = All-from_recursion (λ (o : Operand). NamesOwn loop o.role o.arg) os h

abbrev entry_moves : AirInst
entry_moves = inst op.Shuffle (use_at W64 (At (x 0)) ∷ def_at W64 (Tmp 0) ∷ use_at W64 (Imm 0) ∷ def_at W64 (Tmp 1) ∷ [])

apart : (a b : Target) → a.home ≢ b.home → AllPairs (λ (c d : Target). c.home ≢ d.home) (a ∷ b ∷ [])
apart a b ne =
    AllPairs-cons (λ (c d : Target). c.home ≢ d.home) a (b ∷ []) (All-from_recursion (λ (d : Target). a.home ≢ d.home) (b ∷ []) (ne, tt))
    (AllPairs-cons (λ (c d : Target). c.home ≢ d.home) b [] (All-from_recursion (λ (d : Target). b.home ≢ d.home) [] tt) (λ i j d less within. absurd (omega arith)))

moves_are_good : IsGoodInst loop entry_moves
unfolding ArePairs AllFit targets
moves_are_good = record {
  operands = (
    (W64, ((refl, refl, tt), ((refl, refl, tt), tt)), (W64, ((refl, refl, (lit< tt, tt)), ((refl, refl, tt), tt)), tt)),
    apart (record { home = Tmp 0; width = W64 }) (record { home = Tmp 1; width = W64 }) (λ e. cc),
  );
  names = names_own entry_moves.operands (inl (lit≤ tt), (lit< tt, (tt, (lit< tt, tt))));
}

jump_is_good : IsGoodInst loop (inst op.Jump [])
unfolding AllFit
jump_is_good = record { operands = (W64, W64, tt); names = names_own [] tt }

abbrev add : AirInst
add = inst op.Add (use_at W64 (At (Tmp 1)) ∷ use_at W64 (At (Tmp 0)) ∷ def_at W64 (Tmp 1) ∷ [])

add_is_good : IsGoodInst loop add
unfolding AllFit
add_is_good = record {
  operands = (W64, W64, ((refl, refl, tt), ((refl, refl, tt), ((refl, refl, tt), tt))));
  names = names_own add.operands (lit< tt, (lit< tt, (lit< tt, tt)));
}

-- -1 is an immediate of an addition, since 1 is one of a subtraction
abbrev count_down : AirInst
count_down = inst op.Add (use_at W64 (At (Tmp 0)) ∷ use_at W64 (Imm (2 ^ 64 - 1)) ∷ def_at W64 (Tmp 0) ∷ [])

count_down_is_good : IsGoodInst loop count_down
unfolding AllFit
count_down_is_good = record {
  operands = (W64, W64, ((refl, refl, tt), ((refl, refl, (lit< tt, refl)), ((refl, refl, tt), tt))));
  names = names_own count_down.operands (lit< tt, (tt, (lit< tt, tt)));
}

abbrev branch : AirInst
branch = inst (op.BranchIf NonZero) (use_at W64 (At (Tmp 0)) ∷ [])

branch_is_good : IsGoodInst loop branch
unfolding AllFit
branch_is_good = record { operands = (W64, W64, ((refl, refl, tt), tt)); names = names_own branch.operands (lit< tt, tt) }

abbrev result : AirInst
result = move W64 (At (Tmp 1)) (x 0)

result_is_good : IsGoodInst loop result
unfolding AllFit
result_is_good = record {
  operands = (W64, W64, ((refl, refl, tt), ((refl, refl, tt), tt)));
  names = names_own result.operands (lit< tt, (inl (lit≤ tt), tt));
}

return_is_good : IsGoodInst loop (return_x0 W64)
return_is_good = record { operands = refl; names = names_own (return_x0 W64).operands (inl (lit≤ tt), tt) }

-- no terminals, targets that are blocks, and good instructions
inner : (is : List AirInst) → AllByRecursion (λ (i : AirInst). target_count i.op ≡ None) is → All (λ (i : AirInst). target_count i.op ≡ None) is
inner is h = All-from_recursion (λ (i : AirInst). target_count i.op ≡ None) is h

targets_of : (ts : List ℕ) → AllByRecursion (λ (t : ℕ). (0 < t) × (t < 3)) ts → All (λ (t : ℕ). (0 < t) × (t < 3)) ts
targets_of ts h = All-from_recursion (λ (t : ℕ). (0 < t) × (t < 3)) ts h

insts_of : (is : List AirInst) → AllByRecursion (IsGoodInst loop) is → All (IsGoodInst loop) is
insts_of is h = All-from_recursion (IsGoodInst loop) is h

entry_is_good : IsGoodBlock loop (block (entry_moves ∷ inst op.Jump [] ∷ []) (1 ∷ []))
entry_is_good = record {
  body = entry_moves ∷ [];
  last = inst op.Jump [];
  parts = refl;
  inner = inner (entry_moves ∷ []) (refl, tt);
  ends = refl;
  targets = targets_of (1 ∷ []) ((lit< tt, lit< tt), tt);
  insts = insts_of (entry_moves ∷ inst op.Jump [] ∷ []) (moves_are_good, (jump_is_good, tt));
}

round_is_good : IsGoodBlock loop (block (add ∷ count_down ∷ branch ∷ []) (1 ∷ 2 ∷ []))
round_is_good = record {
  body = add ∷ count_down ∷ [];
  last = branch;
  parts = refl;
  inner = inner (add ∷ count_down ∷ []) (refl, (refl, tt));
  ends = refl;
  targets = targets_of (1 ∷ 2 ∷ []) ((lit< tt, lit< tt), ((lit< tt, lit< tt), tt));
  insts = insts_of (add ∷ count_down ∷ branch ∷ []) (add_is_good, (count_down_is_good, (branch_is_good, tt)));
}

end_is_good : IsGoodBlock loop (block (result ∷ return_x0 W64 ∷ []) [])
end_is_good = record {
  body = result ∷ [];
  last = return_x0 W64;
  parts = refl;
  inner = inner (result ∷ []) (refl, tt);
  ends = refl;
  targets = targets_of [] tt;
  insts = insts_of (result ∷ return_x0 W64 ∷ []) (result_is_good, (return_is_good, tt));
}

loop_is_well_formed : IsWellFormed loop
loop_is_well_formed = record {
  entry = lit< tt;
  blocks = All-from_recursion (IsGoodBlock loop) loop.blocks (entry_is_good, (round_is_good, (end_is_good, tt)));
}
