-- What holds of each instruction of a call, and of each of its operands.
use Rattle.std.proofs.Common.{◌≡◌, ℕ, suc, ◌+◌, ◌≤◌, Bool, true, false, List, [], ◌∷◌, ◌++◌, map, length, drop, Some, refl, subst, arith}
use Rattle.std.specs.Prelude.{All, if◌then◌else◌, slice_get}
use Rattle.std.proofs.lemmas.List.{length-drop}
use Rattle.std.proofs.lemmas.List.Elements.{All-append, All-cons, All-map, All-nil}
use Rattle.b3_base.specs.declared.word.Width.TheVariants.{W64}
use Rattle.b3_ir.specs.Types.{has_word, width_of}
use Rattle.b3_ir.specs.declared.value.Value.{Value}
use Rattle.air_ir.specs.Forms.{call_clobbers, operand_in}
use Rattle.air_ir.specs.declared.operand.Arg.TheVariants.{At}
use Rattle.air_ir.specs.declared.operand.Operand.{Operand}
use Rattle.air_ir.specs.declared.operand.Role.TheVariants.{Clobber}
use Rattle.air_ir.specs.declared.procedure.AirInst.{AirInst}
use Rattle.air_select.specs.Selected.{Tables, arg_of, arguments_at, arguments_into, call_of, call_to, def_at, move, register, result_from, result_into, use_at, use_of}
use Rattle.air_select.specs.Temporaries.{home}
use Rattle.air_fold.specs.Values.{child, width_at}

if_some : {X : Type 0} (P : X → Type 0) (some : Bool) (x : X) → P x → All P (if some then x ∷ [] else [])
if_some P true x p = All-cons P x [] p (All-nil P)
if_some P false x p = All-nil P

-- the children behind the first
pub behind_first : (cs : List ℕ) (k c : ℕ) → slice_get (drop 1 cs) k ≡ Some c → slice_get cs (suc k) ≡ Some c
behind_first [] k c e = e
behind_first (d ∷ cs) k c e = e

pub fewer_behind : (n : ℕ) (cs : List ℕ) → length (drop n cs) ≤ length cs
fewer_behind n cs = omega (arith, length-drop n cs)

pub behind_count : (cs : List ℕ) (n : ℕ) → length cs ≤ suc n → length (drop 1 cs) ≤ n
behind_count [] n le = omega arith
behind_count (d ∷ cs) n le = omega (arith, le)

module _ (t : Tables) (v : Value) where
  module _ (P : AirInst → Type 0) where
    -- an argument, the k-th of some, is moved into the register that is k behind the first one
    pub arguments_all : (cs : List ℕ) (r : ℕ)
        → ((k c : ℕ) → slice_get cs k ≡ Some c → P (move v (width_at t.index c) (arg_of t c) (register (r + k)))) → All P (arguments_into t v r cs)
    arguments_all [] r each = All-nil P
    arguments_all (c ∷ cs) r each =
        let first : r + 0 ≡ r = omega arith in
        All-cons P (move v (width_at t.index c) (arg_of t c) (register r)) (arguments_into t v (suc r) cs)
        (subst (λ n. P (move v (width_at t.index c) (arg_of t c) (register n))) first (each 0 c refl))
        (arguments_all cs (suc r) (λ k d at.
        let next : r + suc k ≡ suc r + k = omega arith in
        subst (λ n. P (move v (width_at t.index d) (arg_of t d) (register n))) next (each (suc k) d at)))

    pub result_all : (r : ℕ) → P (move v (width_of v.ty) (At (register r)) (home t.index v.id)) → All P (result_from t v r)
    result_all r holds = if_some P (has_word v.ty) _ holds

    pub call_all : ((k c : ℕ) → slice_get (drop 1 v.children) k ≡ Some c → P (move v (width_at t.index c) (arg_of t c) (register (0 + k))))
        → P (call_to t v (child v.children 0) (drop 1 v.children)) → P (move v (width_of v.ty) (At (register 0)) (home t.index v.id)) → All P (call_of t v)
    call_all each call result =
        All-append P (arguments_into t v 0 (drop 1 v.children)) _ (arguments_all (drop 1 v.children) 0 each)
        (All-cons P (call_to t v (child v.children 0) (drop 1 v.children)) (result_from t v 0) call (result_all 0 result))

  module _ (Q : Operand → Type 0) where
    pub uses_all : (cs : List ℕ) (r : ℕ) → ((k c : ℕ) → slice_get cs k ≡ Some c → Q (use_at (width_at t.index c) (At (register (r + k)))))
        → All Q (arguments_at t r cs)
    uses_all [] r each = All-nil Q
    uses_all (c ∷ cs) r each =
        let first : r + 0 ≡ r = omega arith in
        All-cons Q (use_at (width_at t.index c) (At (register r))) (arguments_at t (suc r) cs)
        (subst (λ n. Q (use_at (width_at t.index c) (At (register n)))) first (each 0 c refl))
        (uses_all cs (suc r) (λ k d at.
        let next : r + suc k ≡ suc r + k = omega arith in
        subst (λ n. Q (use_at (width_at t.index d) (At (register n)))) next (each (suc k) d at)))

    pub operands_all : (callee : ℕ) (cs : List ℕ) → Q (use_of t callee)
        → ((k c : ℕ) → slice_get cs k ≡ Some c → Q (use_at (width_at t.index c) (At (register (0 + k)))))
        → All (λ r. Q (operand_in Clobber W64 r)) call_clobbers → Q (def_at (width_of v.ty) (register 0)) → All Q (call_to t v callee cs).operands
    operands_all callee cs first each changed result =
        All-cons Q (use_of t callee) (arguments_at t 0 cs ++ (map (operand_in Clobber W64) call_clobbers ++ result_into v 0)) first
        (All-append Q (arguments_at t 0 cs) (map (operand_in Clobber W64) call_clobbers ++ result_into v 0) (uses_all cs 0 each)
        (All-append Q (map (operand_in Clobber W64) call_clobbers) (result_into v 0) (All-map Q (operand_in Clobber W64) call_clobbers changed)
        (if_some Q (has_word v.ty) _ result)))
