-- The operands of a Move or a Shuffle, as copies whose destinations differ.
use Rattle.std.proofs.Common.{◌≡◌, ℕ, suc, ◌<◌, inl, inr, true, List, [], ◌∷◌, length, get_or, sym, ap, subst, arith}
use Rattle.b3_base.specs.declared.word.Width.{Width}
use Rattle.stackmap.specs.declared.site.Returns.{Returns}
use Rattle.air_ir.specs.Forms.{AllFit, AnyWord, ArePairs, HasOperands, Result, Word, WritesApart}
use Rattle.air_ir.specs.Kinds.{Copies, kind_of}
use Rattle.air_ir.specs.Operands.{Target, targets}
use Rattle.air_ir.specs.Related.{IsTarget}
use Rattle.air_ir.specs.Renaming.{Copy, copy_operands}
use Rattle.air_ir.specs.declared.op.AirOp.{AirOp}
use Rattle.air_ir.specs.declared.op.AirOp.TheVariants as op
use Rattle.air_ir.specs.declared.operand.Home.{Home}
use Rattle.air_ir.specs.declared.operand.Operand.{Operand}
use Rattle.air_ir.proofs.Pairs.{pairs_are_copies}
use Rattle.air_spill.specs.Rewritten.{copies, is_copy}
use Rattle.air_spill.proofs.Apart.{ToDiffer}
use Rattle.air_spill.proofs.OpByOp.{copying_op}

pub copy_kind : (o : AirOp) → is_copy o ≡ true → kind_of o ≡ Copies
copy_kind o e = elim (copying_op o e) [ inl is ↦ ap kind_of is | inr is ↦ ap kind_of is ]

pub is_copy-kind : (o : AirOp) → kind_of o ≡ Copies → is_copy o ≡ true
is_copy-kind o e = ap copies e

-- a Move's operands are one pair
one_pair : (width : Width) (os : List Operand) → AllFit (Word width AnyWord ∷ Result width ∷ []) os → ArePairs os
unfolding AllFit ArePairs
one_pair width [] fits = absurd fits
one_pair width (from ∷ []) fits = absurd fits.1
one_pair width (from ∷ to ∷ []) fits = (width, fits, tt)
one_pair width (from ∷ to ∷ o ∷ os) fits = absurd fits.1.1

-- which writes one home
one_target : (from to : Operand) (cs : List Copy) → from ∷ to ∷ [] ≡ copy_operands cs → length (targets (from ∷ to ∷ [])) < 2
unfolding copy_operands targets
one_target from to [] e = absurd (cc)
one_target from to (c ∷ []) e = subst (λ (os : List Operand). length (targets os) < 2) (sym e) (omega arith)
one_target from to (c ∷ d ∷ cs) e = absurd (cc)

one_apart : (width : Width) (os : List Operand) → AllFit (Word width AnyWord ∷ Result width ∷ []) os → length (targets os) < 2
unfolding AllFit
one_apart width [] fits = absurd fits
one_apart width (from ∷ []) fits = absurd fits.1
one_apart width (from ∷ to ∷ []) fits =
    let c = pairs_are_copies (from ∷ to ∷ []) (one_pair width (from ∷ to ∷ []) fits) in one_target from to c.0 c.1
one_apart width (from ∷ to ∷ o ∷ os) fits = absurd fits.1.1

few_apart : (os : List Operand) → length (targets os) < 2 → WritesApart os
few_apart os few = λ i j d lt within. absurd (omega (arith, few, lt, within))

pub pairs_of : (r : Returns) (o : AirOp) (os : List Operand) → is_copy o ≡ true → HasOperands r o os → ArePairs os × WritesApart os
pairs_of r o os e has = elim (copying_op o e) [
  | inl is ↦
      let move : HasOperands r op.Move os = subst (λ (x : AirOp). HasOperands r x os) is has in
      (one_pair move.0 os move.2, few_apart os (one_apart move.0 os move.2))
  | inr is ↦ subst (λ (x : AirOp). HasOperands r x os) is has
]

-- the destinations of copies that write apart differ
is_at : (h : Home) (ts : List Target) (d : Target) → IsTarget h ts → (k : ℕ) × (k < length ts) × (h ≡ (get_or ts k d).home)
unfolding IsTarget
is_at h [] d is = absurd is
is_at h (t ∷ ts) d (inl e) = (0, omega arith, e)
is_at h (t ∷ ts) d (inr is) = let rest = is_at h ts d is in (suc rest.0, omega (arith, rest.1), rest.2)

differ_apart : (cs : List Copy) → WritesApart (copy_operands cs) → ToDiffer cs
unfolding copy_operands targets ToDiffer
differ_apart [] apart = tt
differ_apart (c ∷ cs) apart = (
  λ is.
      let t : Target = record { home = c.to; width = c.width } in
      let at = is_at c.to (targets (copy_operands cs)) t is in
      apart 0 (suc at.0) t (omega arith) (omega (arith, at.1)) at.2,
  differ_apart cs (λ i j d lt within. apart (suc i) (suc j) d (omega (arith, lt)) (omega (arith, within))),
)

pub record CopyForm (os : List Operand) : Type 0 where
  pub copies : List Copy
  pub are : os ≡ copy_operands copies
  pub differ : ToDiffer copies

pub copy_form : (r : Returns) (o : AirOp) (os : List Operand) → is_copy o ≡ true → HasOperands r o os → CopyForm os
copy_form r o os e has =
    let pairs = pairs_of r o os e has in
    let cs = pairs_are_copies os pairs.0 in
    record { copies = cs.0; are = cs.1; differ = differ_apart cs.0 (subst WritesApart cs.1 pairs.1) }
