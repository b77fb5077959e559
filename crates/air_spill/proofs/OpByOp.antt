-- The operands of each op by other homes, op for op.
use Rattle.std.proofs.Common.{◌≡◌, ◌⊎◌, inl, inr, true, false, List, [], ◌∷◌, map, refl}
use Rattle.std.proofs.lemmas.Bool.{false≢true}
use Rattle.b3_base.specs.declared.word.Width.{Width}
use Rattle.stackmap.specs.declared.site.Returns.{Returns}
use Rattle.air_ir.specs.Forms.{AreThese, Fits, HasOperands, HasSite, IsPlacedResult, Result, SiteFits, SiteOperands, home, takes, test_takes, two_homes}
use Rattle.air_ir.specs.Renaming.{rename}
use Rattle.air_ir.specs.declared.op.AirOp.{AirOp}
use Rattle.air_ir.specs.declared.op.AirOp.TheVariants as op
use Rattle.air_ir.specs.declared.operand.Home.{Home}
use Rattle.air_ir.specs.declared.operand.Operand.{Operand}
use Rattle.air_spill.specs.Rewritten.{is_copy}
use Rattle.air_spill.proofs.Renamed.{FixesOthers, fits-renamed, all_fit-renamed, returned-renamed, call-renamed, renamed_site, at_site-both, listed-renamed, placed-renamed, these-renamed}

-- the ops that copy
pub copying_op : (o : AirOp) → is_copy o ≡ true → (o ≡ op.Move) ⊎ (o ≡ op.Shuffle)
copying_op op.Move e = inl refl
copying_op op.Shuffle e = inr refl
copying_op op.Add e = absurd (false≢true e)
copying_op op.Sub e = absurd (false≢true e)
copying_op op.Neg e = absurd (false≢true e)
copying_op op.Mul e = absurd (false≢true e)
copying_op op.MulSub e = absurd (false≢true e)
copying_op op.Div e = absurd (false≢true e)
copying_op op.UDiv e = absurd (false≢true e)
copying_op op.And e = absurd (false≢true e)
copying_op op.Or e = absurd (false≢true e)
copying_op op.Xor e = absurd (false≢true e)
copying_op op.Lsl e = absurd (false≢true e)
copying_op op.Lsr e = absurd (false≢true e)
copying_op op.Asr e = absurd (false≢true e)
copying_op op.Ror e = absurd (false≢true e)
copying_op op.Clz e = absurd (false≢true e)
copying_op op.SExt8 e = absurd (false≢true e)
copying_op op.SExt16 e = absurd (false≢true e)
copying_op op.SExt32 e = absurd (false≢true e)
copying_op op.ZExt32 e = absurd (false≢true e)
copying_op op.MulHigh e = absurd (false≢true e)
copying_op op.UMulHigh e = absurd (false≢true e)
copying_op op.Load8Z e = absurd (false≢true e)
copying_op op.Load8S e = absurd (false≢true e)
copying_op op.Load16Z e = absurd (false≢true e)
copying_op op.Load16S e = absurd (false≢true e)
copying_op op.Load e = absurd (false≢true e)
copying_op op.Store8 e = absurd (false≢true e)
copying_op op.Store16 e = absurd (false≢true e)
copying_op op.Store e = absurd (false≢true e)
copying_op (op.SetIf test) e = absurd (false≢true e)
copying_op (op.SelectIf test) e = absurd (false≢true e)
copying_op (op.CheckIf test) e = absurd (false≢true e)
copying_op op.CheckAdd e = absurd (false≢true e)
copying_op op.CheckSub e = absurd (false≢true e)
copying_op op.CheckMul e = absurd (false≢true e)
copying_op (op.BranchIf test) e = absurd (false≢true e)
copying_op op.Jump e = absurd (false≢true e)
copying_op (op.Switch cases) e = absurd (false≢true e)
copying_op (op.Call typed) e = absurd (false≢true e)
copying_op (op.Patch size typed) e = absurd (false≢true e)
copying_op op.Return e = absurd (false≢true e)
copying_op op.Oops e = absurd (false≢true e)
copying_op op.SlotAddress e = absurd (false≢true e)
copying_op op.FramePointer e = absurd (false≢true e)

module _ (loc : Home → Home) (fixes : FixesOthers loc) where
  -- the parts of a site; the registers that it changes stay
  pub site-renamed : (o : AirOp) (s : SiteOperands) → SiteFits o s → SiteFits o (renamed_site loc s) × (map (rename loc) s.changed ≡ s.changed)
  site-renamed op.Move s fits = absurd fits
  site-renamed op.Shuffle s fits = absurd fits
  site-renamed op.Add s fits = absurd fits
  site-renamed op.Sub s fits = absurd fits
  site-renamed op.Neg s fits = absurd fits
  site-renamed op.Mul s fits = absurd fits
  site-renamed op.MulSub s fits = absurd fits
  site-renamed op.Div s fits = absurd fits
  site-renamed op.UDiv s fits = absurd fits
  site-renamed op.And s fits = absurd fits
  site-renamed op.Or s fits = absurd fits
  site-renamed op.Xor s fits = absurd fits
  site-renamed op.Lsl s fits = absurd fits
  site-renamed op.Lsr s fits = absurd fits
  site-renamed op.Asr s fits = absurd fits
  site-renamed op.Ror s fits = absurd fits
  site-renamed op.Clz s fits = absurd fits
  site-renamed op.SExt8 s fits = absurd fits
  site-renamed op.SExt16 s fits = absurd fits
  site-renamed op.SExt32 s fits = absurd fits
  site-renamed op.ZExt32 s fits = absurd fits
  site-renamed op.MulHigh s fits = absurd fits
  site-renamed op.UMulHigh s fits = absurd fits
  site-renamed op.Load8Z s fits = absurd fits
  site-renamed op.Load8S s fits = absurd fits
  site-renamed op.Load16Z s fits = absurd fits
  site-renamed op.Load16S s fits = absurd fits
  site-renamed op.Load s fits = absurd fits
  site-renamed op.Store8 s fits = absurd fits
  site-renamed op.Store16 s fits = absurd fits
  site-renamed op.Store s fits = absurd fits
  site-renamed (op.SetIf test) s fits = absurd fits
  site-renamed (op.SelectIf test) s fits = absurd fits
  site-renamed (op.CheckIf test) s fits = at_site-both loc fixes (test_takes test) false (λ width o. ⊥) (λ width o none. none) s fits
  site-renamed op.CheckAdd s fits = at_site-both loc fixes two_homes true (λ width. Fits (Result width)) (λ width o. fits-renamed loc (Result width) o) s fits
  site-renamed op.CheckSub s fits = at_site-both loc fixes two_homes true (λ width. Fits (Result width)) (λ width o. fits-renamed loc (Result width) o) s fits
  site-renamed op.CheckMul s fits = at_site-both loc fixes two_homes true (λ width. Fits (Result width)) (λ width o. fits-renamed loc (Result width) o) s fits
  site-renamed (op.BranchIf test) s fits = absurd fits
  site-renamed op.Jump s fits = absurd fits
  site-renamed (op.Switch cases) s fits = absurd fits
  site-renamed (op.Call typed) s fits = absurd fits
  site-renamed (op.Patch size typed) s fits = at_site-both loc fixes (λ width. []) typed IsPlacedResult (λ width o. placed-renamed loc fixes width o) s fits
  site-renamed op.Return s fits = absurd fits
  site-renamed op.Oops s fits = absurd fits
  site-renamed op.SlotAddress s fits = absurd fits
  site-renamed op.FramePointer s fits = absurd fits

  has_site-renamed : (o : AirOp) (os : List Operand) → HasSite o os → HasSite o (map (rename loc) os)
  has_site-renamed o os has = (renamed_site loc has.0, listed-renamed loc os has.0 has.1, (site-renamed o has.0 has.2).0)

  fixed-renamed : (o : AirOp) (os : List Operand) → ((width : Width) × (selected : Width) × AreThese (takes o width selected) os)
      → (width : Width) × (selected : Width) × AreThese (takes o width selected) (map (rename loc) os)
  fixed-renamed o os has = (has.0, has.1, these-renamed loc (takes o has.0 has.1) os has.2)

  -- the operands of an op that copies nothing
  pub operands-renamed : (r : Returns) (o : AirOp) (os : List Operand) → is_copy o ≡ false → HasOperands r o os → HasOperands r o (map (rename loc) os)
  operands-renamed r op.Move os e has = absurd (cc)
  operands-renamed r op.Shuffle os e has = absurd (cc)
  operands-renamed r op.Add os e has = fixed-renamed op.Add os has
  operands-renamed r op.Sub os e has = fixed-renamed op.Sub os has
  operands-renamed r op.Neg os e has = fixed-renamed op.Neg os has
  operands-renamed r op.Mul os e has = fixed-renamed op.Mul os has
  operands-renamed r op.MulSub os e has = fixed-renamed op.MulSub os has
  operands-renamed r op.Div os e has = fixed-renamed op.Div os has
  operands-renamed r op.UDiv os e has = fixed-renamed op.UDiv os has
  operands-renamed r op.And os e has = fixed-renamed op.And os has
  operands-renamed r op.Or os e has = fixed-renamed op.Or os has
  operands-renamed r op.Xor os e has = fixed-renamed op.Xor os has
  operands-renamed r op.Lsl os e has = fixed-renamed op.Lsl os has
  operands-renamed r op.Lsr os e has = fixed-renamed op.Lsr os has
  operands-renamed r op.Asr os e has = fixed-renamed op.Asr os has
  operands-renamed r op.Ror os e has = fixed-renamed op.Ror os has
  operands-renamed r op.Clz os e has = fixed-renamed op.Clz os has
  operands-renamed r op.SExt8 os e has = fixed-renamed op.SExt8 os has
  operands-renamed r op.SExt16 os e has = fixed-renamed op.SExt16 os has
  operands-renamed r op.SExt32 os e has = fixed-renamed op.SExt32 os has
  operands-renamed r op.ZExt32 os e has = fixed-renamed op.ZExt32 os has
  operands-renamed r op.MulHigh os e has = fixed-renamed op.MulHigh os has
  operands-renamed r op.UMulHigh os e has = fixed-renamed op.UMulHigh os has
  operands-renamed r op.Load8Z os e has = fixed-renamed op.Load8Z os has
  operands-renamed r op.Load8S os e has = fixed-renamed op.Load8S os has
  operands-renamed r op.Load16Z os e has = fixed-renamed op.Load16Z os has
  operands-renamed r op.Load16S os e has = fixed-renamed op.Load16S os has
  operands-renamed r op.Load os e has = fixed-renamed op.Load os has
  operands-renamed r op.Store8 os e has = fixed-renamed op.Store8 os has
  operands-renamed r op.Store16 os e has = fixed-renamed op.Store16 os has
  operands-renamed r op.Store os e has = fixed-renamed op.Store os has
  operands-renamed r (op.SetIf test) os e has = fixed-renamed (op.SetIf test) os has
  operands-renamed r (op.SelectIf test) os e has = fixed-renamed (op.SelectIf test) os has
  operands-renamed r (op.CheckIf test) os e has = has_site-renamed (op.CheckIf test) os has
  operands-renamed r op.CheckAdd os e has = has_site-renamed op.CheckAdd os has
  operands-renamed r op.CheckSub os e has = has_site-renamed op.CheckSub os has
  operands-renamed r op.CheckMul os e has = has_site-renamed op.CheckMul os has
  operands-renamed r (op.BranchIf test) os e has = fixed-renamed (op.BranchIf test) os has
  operands-renamed r op.Jump os e has = fixed-renamed op.Jump os has
  operands-renamed r (op.Switch cases) os e has = (has.0, all_fit-renamed loc (home has.0 ∷ []) os has.1, has.2)
  operands-renamed r (op.Call typed) os e has = call-renamed loc fixes typed os has
  operands-renamed r (op.Patch size typed) os e has = has_site-renamed (op.Patch size typed) os has
  operands-renamed r op.Return os e has = returned-renamed loc fixes r os has
  operands-renamed r op.Oops os e has = fixed-renamed op.Oops os has
  operands-renamed r op.SlotAddress os e has = fixed-renamed op.SlotAddress os has
  operands-renamed r op.FramePointer os e has = fixed-renamed op.FramePointer os has
