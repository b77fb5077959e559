-- The procedure that the tests emit is well formed.
use Rattle.std.proofs.Common.{◌≡◌, ◌≢◌, ℕ, zero, suc, ◌<◌, true, false, inl, [], ◌∷◌, Some, None, length, refl, sym, ap, ◌∙◌, arith}
use Rattle.std.specs.Prelude.{All, AllPairs, List, slice_get}
use Rattle.std.proofs.lemmas.List.Kept.{AllPairs-cons}
use Rattle.b3_base.specs.declared.word.Width.{Width}
use Rattle.std.proofs.lemmas.List.Elements.{All-cons, All-nil}
use Rattle.b3_base.specs.declared.word.Width.TheVariants.{W64}
use Rattle.air_ir.specs.Forms.{AllFit, AnyWord, Result, Slot, Word, load, store}
use Rattle.air_ir.specs.Kinds.{kind_of, makes_site, target_count}
use Rattle.air_ir.specs.WellFormed.{HasOneSiteEach, IsGoodBlock, IsGoodInst, IsWellFormed, NamesOwn, StandsAt}
use Rattle.air_ir.specs.declared.op.AirOp.TheVariants as op
use Rattle.air_ir.specs.declared.operand.Arg.TheVariants.{At, Imm, FrameSlot}
use Rattle.air_ir.specs.declared.operand.Home.TheVariants.{Spill}
use Rattle.air_ir.specs.declared.operand.Operand.{Operand}
use Rattle.air_ir.specs.declared.procedure.AirBlock.{AirBlock}
use Rattle.air_ir.specs.declared.procedure.AirInst.{AirInst}
use Rattle.air_ir.specs.declared.operand.Home.TheVariants.{Reg}
use Rattle.air_shuffle.specs.Moves.{IsSource}
use Rattle.air_shuffle.specs.declared.moves.Move.{Move}
use Rattle.a64_emit.specs.Code.{kept_register, moves_of}
use Rattle.a64_emit.specs.Fitting.{AreOrderable}
use Rattle.a64_emit.proofs.Storing.{same_number}
use Rattle.a64_emit.specs.Sample.{above_x1, entry, exchanged, fills, inst, last, loads, made, points, procedure, stores, used, x0, x1}

abbrev Names : Operand → Type 0
Names o = NamesOwn procedure o.role o.arg

constant_fits : AllFit (Word W64 AnyWord ∷ Result W64 ∷ []) (used (Imm 7) ∷ made (At (Spill 0)) ∷ [])
unfolding AllFit
constant_fits = ((refl, refl, (omega arith, tt)), ((refl, refl, tt), tt))

slot_fits : AllFit (Slot ∷ Result W64 ∷ []) (used (FrameSlot 0) ∷ made x1 ∷ [])
unfolding AllFit
slot_fits = ((refl, refl, tt), ((refl, refl, tt), tt))

store_fits : AllFit (store W64 8) (used (At (Spill 0)) ∷ used above_x1 ∷ [])
unfolding AllFit
store_fits = ((refl, refl, tt), ((refl, refl, refl), tt))

load_fits : AllFit (load W64 8) (used above_x1 ∷ made x0 ∷ [])
unfolding AllFit
load_fits = ((refl, refl, refl), ((refl, refl, tt), tt))

none_fit : AllFit [] []
unfolding AllFit
none_fit = tt

fills_good : IsGoodInst procedure fills
fills_good = record {
  operands = (W64, W64, constant_fits);
  names = All-cons Names (used (Imm 7)) (made (At (Spill 0)) ∷ []) tt (All-cons Names (made (At (Spill 0))) [] tt (All-nil Names));
}

points_good : IsGoodInst procedure points
points_good = record {
  operands = (W64, W64, slot_fits);
  names = All-cons Names (used (FrameSlot 0)) (made x1 ∷ []) (omega arith) (All-cons Names (made x1) [] (inl (omega arith)) (All-nil Names));
}

stores_good : IsGoodInst procedure stores
stores_good = record {
  operands = (W64, W64, store_fits);
  names = All-cons Names (used (At (Spill 0))) (used above_x1 ∷ []) tt (All-cons Names (used above_x1) [] (inl (omega arith)) (All-nil Names));
}

loads_good : IsGoodInst procedure loads
loads_good = record {
  operands = (W64, W64, load_fits);
  names = All-cons Names (used above_x1) (made x0 ∷ []) (inl (omega arith)) (All-cons Names (made x0) [] (inl (omega arith)) (All-nil Names));
}

jump_good : IsGoodInst procedure (inst op.Jump [])
jump_good = record { operands = (W64, W64, none_fit); names = All-nil Names }

return_good : IsGoodInst procedure (inst op.Return (used x0 ∷ []))
return_good = record { operands = refl; names = All-cons Names (used x0) [] (inl (omega arith)) (All-nil Names) }

abbrev IsBody : AirInst → Type 0
IsBody i = target_count i.op ≡ None

abbrev IsTarget : ℕ → Type 0
IsTarget target = (0 < target) × (target < length procedure.blocks)

entry_good : IsGoodBlock procedure entry
entry_good = record {
  body = fills ∷ points ∷ stores ∷ [];
  last = inst op.Jump [];
  parts = refl;
  inner = All-cons IsBody fills (points ∷ stores ∷ []) refl (All-cons IsBody points (stores ∷ []) refl (All-cons IsBody stores [] refl (All-nil IsBody)));
  ends = refl;
  targets = All-cons IsTarget 1 [] (omega arith, omega arith) (All-nil IsTarget);
  insts = All-cons (IsGoodInst procedure) fills (points ∷ stores ∷ inst op.Jump [] ∷ []) fills_good
      (All-cons (IsGoodInst procedure) points (stores ∷ inst op.Jump [] ∷ []) points_good
      (All-cons (IsGoodInst procedure) stores (inst op.Jump [] ∷ []) stores_good
      (All-cons (IsGoodInst procedure) (inst op.Jump []) [] jump_good (All-nil (IsGoodInst procedure)))));
}

last_good : IsGoodBlock procedure last
last_good = record {
  body = loads ∷ [];
  last = inst op.Return (used x0 ∷ []);
  parts = refl;
  inner = All-cons IsBody loads [] refl (All-nil IsBody);
  ends = refl;
  targets = All-nil IsTarget;
  insts = All-cons (IsGoodInst procedure) loads (inst op.Return (used x0 ∷ []) ∷ []) loads_good
      (All-cons (IsGoodInst procedure) (inst op.Return (used x0 ∷ [])) [] return_good (All-nil (IsGoodInst procedure)));
}

pub sample_good : IsWellFormed procedure
sample_good = record {
  entry = omega arith;
  blocks = All-cons (IsGoodBlock procedure) entry (last ∷ []) entry_good (All-cons (IsGoodBlock procedure) last [] last_good (All-nil (IsGoodBlock procedure)));
}

-- ---- its one site

no_site : (x i : AirInst) → makes_site (kind_of x.op) x.traps ≡ false → Some x ≡ Some i → makes_site (kind_of i.op) i.traps ≡ true → ⊥
no_site x i none same makes = let e : x ≡ i = cc in let also = ap (λ (y : AirInst). makes_site (kind_of y.op) y.traps) e in cc

entry_none : (k : ℕ) (i : AirInst) → slice_get entry.insts k ≡ Some i → makes_site (kind_of i.op) i.traps ≡ true → ⊥
entry_none zero i there makes = no_site fills i refl there makes
entry_none (suc zero) i there makes = no_site points i refl there makes
entry_none (suc (suc zero)) i there makes = no_site stores i refl there makes
entry_none (suc (suc (suc zero))) i there makes = no_site (inst op.Jump []) i refl there makes
entry_none (suc (suc (suc (suc k)))) i there makes = cc

last_first : (k : ℕ) (i : AirInst) → slice_get last.insts k ≡ Some i → makes_site (kind_of i.op) i.traps ≡ true → k ≡ 0
last_first zero i there makes = refl
last_first (suc zero) i there makes = absurd (no_site (inst op.Return (used x0 ∷ [])) i refl there makes)
last_first (suc (suc k)) i there makes = absurd cc

site_at : (b k : ℕ) (i : AirInst) → StandsAt procedure b k i → makes_site (kind_of i.op) i.traps ≡ true → (b ≡ 1) × (k ≡ 0)
site_at zero k i at makes =
    let of : entry ≡ at.of = cc in
    absurd (entry_none k i (ap (λ (x : AirBlock). slice_get x.insts k) of ∙ at.inst_there) makes)
site_at (suc zero) k i at makes =
    let of : last ≡ at.of = cc in
    (refl, last_first k i (ap (λ (x : AirBlock). slice_get x.insts k) of ∙ at.inst_there) makes)
site_at (suc (suc b)) k i at makes = absurd cc

pub sample_one : HasOneSiteEach procedure
sample_one b c k l i j at_i at_j makes_i makes_j same =
    let first = site_at b k i at_i makes_i in
    let second = site_at c l j at_j makes_j in
    (first.0 ∙ sym second.0, first.1 ∙ sym second.1)

-- ---- a Shuffle

abbrev moves_x : ℕ → ℕ → Move
moves_x from to = record { from = At (Reg (record { 0 = from })); to = Reg (record { 0 = to }); width = W64 }

abbrev moves_spill : Move
moves_spill = record { from = At (Spill 0); to = Spill 1; width = W64 }

abbrev Source : Move → Type 0
Source m = IsSource m.from

abbrev Differs : Move → Move → Type 0
Differs m n = m.to ≢ n.to

abbrev Apart : Move → Type 0
Apart m = m.to ≢ Reg kept_register

x_apart : (a b : ℕ) → a ≢ b → Reg (record { 0 = a }) ≢ Reg (record { 0 = b })
x_apart a b differ e = differ (same_number (record { 0 = a }) (record { 0 = b }) e)

moves_fit : AreOrderable (moves_x 0 1 ∷ moves_x 1 0 ∷ moves_spill ∷ [])
moves_fit = record {
  sources = All-cons Source (moves_x 0 1) (moves_x 1 0 ∷ moves_spill ∷ []) tt
      (All-cons Source (moves_x 1 0) (moves_spill ∷ []) tt (All-cons Source moves_spill [] tt (All-nil Source)));
  differ = AllPairs-cons Differs (moves_x 0 1) (moves_x 1 0 ∷ moves_spill ∷ [])
      (All-cons (Differs (moves_x 0 1)) (moves_x 1 0) (moves_spill ∷ []) (x_apart 1 0 (λ e. omega arith))
      (All-cons (Differs (moves_x 0 1)) moves_spill [] (λ e. absurd cc) (All-nil (Differs (moves_x 0 1)))))
      (AllPairs-cons Differs (moves_x 1 0) (moves_spill ∷ [])
      (All-cons (Differs (moves_x 1 0)) moves_spill [] (λ e. absurd cc) (All-nil (Differs (moves_x 1 0))))
      (AllPairs-cons Differs moves_spill [] (All-nil (Differs moves_spill)) (λ i j d lt within. absurd (omega arith))));
  apart = All-cons Apart (moves_x 0 1) (moves_x 1 0 ∷ moves_spill ∷ []) (x_apart 1 17 (λ e. omega arith))
      (All-cons Apart (moves_x 1 0) (moves_spill ∷ []) (x_apart 0 17 (λ e. omega arith))
      (All-cons Apart moves_spill [] (λ e. absurd cc) (All-nil Apart)));
}

pub exchanged_fits : AreOrderable (moves_of exchanged)
unfolding moves_of
exchanged_fits = moves_fit
