-- The operands of an instruction at a site have one way to be its parts.
use Rattle.std.proofs.Common.{◌≡◌, ◌∙◌, suc, Bool, true, false, List, [], ◌∷◌, ◌++◌, length, All, if◌then◌else◌, append_assoc, length-append, inl, inr, refl, sym, ap, arith, ◌+◌}
use Rattle.std.proofs.lemmas.List.Elements.{All-head, All-tail, All-weaker}
use Rattle.b3_base.specs.declared.word.Width.{Width}
use Rattle.air_ir.specs.Forms.{AllFit, AtSite, Fits, IsChanged, IsPlacedResult, IsReported, OneIs, Result, SiteFits, SiteOperands, Takes, listed, test_takes, two_homes}
use Rattle.air_ir.specs.Operands.{is_read}
use Rattle.air_ir.specs.declared.op.AirOp.{AirOp}
use Rattle.air_ir.specs.declared.op.AirOp.TheVariants as op
use Rattle.air_ir.specs.declared.op.Test.{Test}
use Rattle.air_ir.specs.declared.op.Test.TheVariants.{Compare, NonZero, Bit}
use Rattle.air_ir.specs.declared.operand.Operand.{Operand}

-- ---- lists that are split

abbrev AreOne : List Operand → List Operand → List Operand → List Operand → Type 0
AreOne xs ys us vs = (xs ≡ ys) × (us ≡ vs)

tails : (x y : Operand) (xs ys : List Operand) → x ∷ xs ≡ y ∷ ys → (x ≡ y) × (xs ≡ ys)
tails x y xs ys e = (cc, cc)

put : (x y : Operand) (xs ys us vs : List Operand) → x ≡ y → AreOne xs ys us vs → AreOne (x ∷ xs) (y ∷ ys) us vs
put x y xs ys us vs e is = (ap (λ (o : Operand). o ∷ xs) e ∙ ap (λ (os : List Operand). y ∷ os) is.0, is.1)

-- after as many
pub split_first : (xs ys us vs : List Operand) → length xs ≡ length ys → xs ++ us ≡ ys ++ vs → AreOne xs ys us vs
split_first [] [] us vs n e = (refl, e)
split_first [] (y ∷ ys) us vs n e = absurd (cc)
split_first (x ∷ xs) [] us vs n e = absurd (cc)
split_first (x ∷ xs) (y ∷ ys) us vs n e =
    let t = tails x y (xs ++ us) (ys ++ vs) e in
    put x y xs ys us vs t.0
    (split_first xs ys us vs (let m : length xs ≡ length ys = cc in m) t.1)

split_last : (xs ys us vs : List Operand) → length us ≡ length vs → xs ++ us ≡ ys ++ vs → AreOne xs ys us vs
split_last xs ys us vs n e =
    let k : length (xs ++ us) ≡ length (ys ++ vs) = ap length e in
    split_first xs ys us vs (omega (arith, k, n, length-append xs us, length-append ys vs)) e

-- where what is read ends
abbrev Reads : Operand → Type 0
Reads o = is_read o.role ≡ true

abbrev Writes : Operand → Type 0
Writes o = is_read o.role ≡ false

not_both : (o u : Operand) → o ≡ u → Reads o → Writes u → ⊥
not_both o u e reads writes = let same : is_read o.role ≡ is_read u.role = ap (λ (x : Operand). is_read x.role) e in cc

split_read : (xs ys us vs : List Operand) → All Reads xs → All Reads ys → All Writes us → All Writes vs
    → xs ++ us ≡ ys ++ vs → AreOne xs ys us vs
split_read [] [] us vs rx ry wu wv e = (refl, e)
split_read [] (y ∷ ys) [] vs rx ry wu wv e = absurd (cc)
split_read [] (y ∷ ys) (u ∷ us) vs rx ry wu wv e =
    absurd (not_both y u (sym (tails u y us (ys ++ vs) e).0) (All-head Reads y ys ry) (All-head Writes u us wu))
split_read (x ∷ xs) [] us [] rx ry wu wv e = absurd (cc)
split_read (x ∷ xs) [] us (w ∷ vs) rx ry wu wv e =
    absurd (not_both x w (tails x w (xs ++ us) vs e).0 (All-head Reads x xs rx) (All-head Writes w vs wv))
split_read (x ∷ xs) (y ∷ ys) us vs rx ry wu wv e =
    let t = tails x y (xs ++ us) (ys ++ vs) e in
    put x y xs ys us vs t.0 (split_read xs ys us vs (All-tail Reads x xs rx) (All-tail Reads y ys ry) wu wv t.1)

-- ---- parts

reads_by : (o : Operand) → IsReported o → Reads o
reads_by o is = elim is.0 [ inl e ↦ ap is_read e | inr e ↦ ap is_read e ]

writes_by : (o : Operand) → IsChanged o → Writes o
writes_by o is = elim is.1 [
  | inl e ↦ ap (λ (x : Operand). is_read x.role) e
  | inr e ↦ ap (λ (x : Operand). is_read x.role) e
]

fit_length : (ts : List Takes) (os : List Operand) → AllFit ts os → length os ≡ length ts
unfolding AllFit
fit_length [] [] fits = refl
fit_length (t ∷ ts) (o ∷ os) fits = ap suc (fit_length ts os fits.1)
fit_length [] (o ∷ os) fits = absurd fits
fit_length (t ∷ ts) [] fits = absurd fits

one_length : (there : Bool) (Is : Operand → Type 0) (os : List Operand) → OneIs there Is os
    → length os ≡ (if there then 1 else 0)
one_length true Is (o ∷ []) is = refl
one_length true Is [] is = absurd is
one_length true Is (o ∷ p ∷ os) is = absurd is
one_length false Is [] is = refl
one_length false Is (o ∷ os) is = absurd is

parts_same : (s t : SiteOperands) → s.inputs ≡ t.inputs → s.reported ≡ t.reported → s.changed ≡ t.changed
    → s.results ≡ t.results → s ≡ t
parts_same s t a b c d = rw (a, b, c, d) refl

at_once : (computed : Width → List Takes) (typed : Bool) (IsResult : Width → Operand → Type 0)
    → ((w u : Width) → length (computed w) ≡ length (computed u)) → (s t : SiteOperands)
    → AtSite computed typed IsResult s → AtSite computed typed IsResult t → listed s ≡ listed t → s ≡ t
at_once computed typed IsResult alike s t one other e =
    let ends = split_last (s.inputs ++ s.reported ++ s.changed) (t.inputs ++ t.reported ++ t.changed) s.results
    t.results
    (one_length typed (IsResult one.width) s.results one.result ∙ sym
    (one_length typed (IsResult other.width) t.results other.result)) e in
    let first = split_first s.inputs t.inputs (s.reported ++ s.changed) (t.reported ++ t.changed)
    (fit_length (computed one.width) s.inputs one.fits ∙ alike one.width other.width ∙ sym
    (fit_length (computed other.width) t.inputs other.fits))
    (sym (append_assoc s.inputs s.reported s.changed) ∙ ends.0 ∙ append_assoc t.inputs t.reported t.changed) in
    let rest = split_read s.reported t.reported s.changed t.changed
    (All-weaker IsReported Reads reads_by s.reported one.reports)
    (All-weaker IsReported Reads reads_by t.reported other.reports)
    (All-weaker IsChanged Writes writes_by s.changed one.changes)
    (All-weaker IsChanged Writes writes_by t.changed other.changes) first.1 in
    parts_same s t first.0 rest.0 rest.1 ends.1

test_alike : (test : Test) (w u : Width) → length (test_takes test w) ≡ length (test_takes test u)
test_alike (Compare cond) w u = refl
test_alike NonZero w u = refl
test_alike (Bit bit) w u = refl

pub parts_once : (o : AirOp) (s t : SiteOperands) → SiteFits o s → SiteFits o t → listed s ≡ listed t → s ≡ t
parts_once op.Move s t a b e = absurd a
parts_once op.Shuffle s t a b e = absurd a
parts_once op.Add s t a b e = absurd a
parts_once op.Sub s t a b e = absurd a
parts_once op.Neg s t a b e = absurd a
parts_once op.Mul s t a b e = absurd a
parts_once op.MulSub s t a b e = absurd a
parts_once op.Div s t a b e = absurd a
parts_once op.UDiv s t a b e = absurd a
parts_once op.And s t a b e = absurd a
parts_once op.Or s t a b e = absurd a
parts_once op.Xor s t a b e = absurd a
parts_once op.Lsl s t a b e = absurd a
parts_once op.Lsr s t a b e = absurd a
parts_once op.Asr s t a b e = absurd a
parts_once op.Ror s t a b e = absurd a
parts_once op.Clz s t a b e = absurd a
parts_once op.SExt8 s t a b e = absurd a
parts_once op.SExt16 s t a b e = absurd a
parts_once op.SExt32 s t a b e = absurd a
parts_once op.ZExt32 s t a b e = absurd a
parts_once op.MulHigh s t a b e = absurd a
parts_once op.UMulHigh s t a b e = absurd a
parts_once op.Load8Z s t a b e = absurd a
parts_once op.Load8S s t a b e = absurd a
parts_once op.Load16Z s t a b e = absurd a
parts_once op.Load16S s t a b e = absurd a
parts_once op.Load s t a b e = absurd a
parts_once op.Store8 s t a b e = absurd a
parts_once op.Store16 s t a b e = absurd a
parts_once op.Store s t a b e = absurd a
parts_once (op.SetIf test) s t a b e = absurd a
parts_once (op.SelectIf test) s t a b e = absurd a
parts_once (op.CheckIf test) s t a b e = at_once (test_takes test) false (λ width o. ⊥) (test_alike test) s t a b e
parts_once op.CheckAdd s t a b e = at_once two_homes true (λ width. Fits (Result width)) (λ w u. refl) s t a b e
parts_once op.CheckSub s t a b e = at_once two_homes true (λ width. Fits (Result width)) (λ w u. refl) s t a b e
parts_once op.CheckMul s t a b e = at_once two_homes true (λ width. Fits (Result width)) (λ w u. refl) s t a b e
parts_once (op.BranchIf test) s t a b e = absurd a
parts_once op.Jump s t a b e = absurd a
parts_once (op.Switch cases) s t a b e = absurd a
parts_once (op.Call typed) s t a b e = absurd a
parts_once (op.Patch size typed) s t a b e = at_once (λ width. []) typed IsPlacedResult (λ w u. refl) s t a b e
parts_once op.Return s t a b e = absurd a
parts_once op.Oops s t a b e = absurd a
parts_once op.SlotAddress s t a b e = absurd a
parts_once op.FramePointer s t a b e = absurd a
