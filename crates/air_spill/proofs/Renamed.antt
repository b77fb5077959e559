-- Operands by other homes are what the operands were, where registers and spill places stay.
use Rattle.std.proofs.Common.{◌≡◌, ℕ, ◌+◌, inl, inr, Bool, true, false, if◌then◌else◌, Option, Some, None, List, [], ◌∷◌, ◌++◌, map, drop, All, ◌-◌, nat_lt, refl, sym, ap, ◌∙◌, subst}
use Rattle.std.proofs.lemmas.List.Elements.{All-head, All-map, All-tail, All-weaker}
use Rattle.b3_base.specs.declared.word.Width.{Width}
use Rattle.b3_base.specs.declared.word.Width.TheVariants.{W64}
use Rattle.stackmap.specs.declared.site.Returns.{Returns}
use Rattle.stackmap.specs.declared.site.Returns.TheVariants as returns
use Rattle.air_ir.specs.Forms.{AllFit, AreThese, AtSite, Fits, AnyWord, Immediates, IsAddress, IsChanged, IsHome, IsPlacedResult, IsReported, IsSlot, IsWord, OfCall, OneIs, SiteOperands, Takes, Word, BitOf, Address, Slot, Result, argument_home, arguments_from, call_clobbers, home, listed, operand_in, returned, spills_changed}
use Rattle.air_ir.specs.Renaming.{rename, rename_arg}
use Rattle.air_ir.specs.declared.operand.Arg.{Arg}
use Rattle.air_ir.specs.declared.operand.Arg.TheVariants.{At, Imm, Addr, Index, FrameSlot}
use Rattle.air_ir.specs.declared.operand.Home.{Home}
use Rattle.air_ir.specs.declared.operand.Home.TheVariants.{Reg, Spill}
use Rattle.air_ir.specs.declared.operand.Operand.{Operand}
use Rattle.air_ir.specs.declared.operand.Role.{Role}
use Rattle.air_ir.specs.declared.operand.Role.TheVariants.{Use, EarlyDef, Def, Clobber}
use Rattle.b3_ir.specs.declared.value.Reg.{Reg as Register}

-- registers and spill places stay
pub record FixesOthers (loc : Home → Home) : Type 0 where
  pub registers : (r : Register) → loc (Reg r) ≡ Reg r
  pub spills : (n : ℕ) → loc (Spill n) ≡ Spill n

-- ---- one operand

module _ (loc : Home → Home) where
  word-renamed : (immediates : Immediates) (width : Width) (arg : Arg) → IsWord immediates width arg → IsWord immediates width (rename_arg loc arg)
  word-renamed immediates width (At h) is = tt
  word-renamed immediates width (Imm word) is = is
  word-renamed immediates width (Addr base offset) is = is
  word-renamed immediates width (Index base index shift) is = is
  word-renamed immediates width (FrameSlot number) is = is

  home-renamed : (arg : Arg) → IsHome arg → IsHome (rename_arg loc arg)
  home-renamed (At h) is = tt
  home-renamed (Imm word) is = is
  home-renamed (Addr base offset) is = is
  home-renamed (Index base index shift) is = is
  home-renamed (FrameSlot number) is = is

  address-renamed : (bytes : ℕ) (arg : Arg) → IsAddress bytes arg → IsAddress bytes (rename_arg loc arg)
  address-renamed bytes (At h) is = is
  address-renamed bytes (Imm word) is = is
  address-renamed bytes (Addr base offset) is = is
  address-renamed bytes (Index base index shift) is = is
  address-renamed bytes (FrameSlot number) is = is

  slot-renamed : (arg : Arg) → IsSlot arg → IsSlot (rename_arg loc arg)
  slot-renamed (At h) is = is
  slot-renamed (Imm word) is = is
  slot-renamed (Addr base offset) is = is
  slot-renamed (Index base index shift) is = is
  slot-renamed (FrameSlot number) is = is

  pub fits-renamed : (t : Takes) (o : Operand) → Fits t o → Fits t (rename loc o)
  fits-renamed (Word width immediates) o fits = (fits.0, fits.1, word-renamed immediates width o.arg fits.2)
  fits-renamed (BitOf width bit) o fits = (fits.0, fits.1, home-renamed o.arg fits.2, fits.3)
  fits-renamed (Address width bytes) o fits = (fits.0, fits.1, address-renamed bytes o.arg fits.2)
  fits-renamed Slot o fits = (fits.0, fits.1, slot-renamed o.arg fits.2)
  fits-renamed (Result width) o fits = (fits.0, fits.1, home-renamed o.arg fits.2)

  pub all_fit-renamed : (ts : List Takes) (os : List Operand) → AllFit ts os → AllFit ts (map (rename loc) os)
  unfolding AllFit
  all_fit-renamed [] [] fits = tt
  all_fit-renamed (t ∷ ts) (o ∷ os) fits = (fits-renamed t o fits.0, all_fit-renamed ts os fits.1)
  all_fit-renamed [] (o ∷ os) fits = absurd fits
  all_fit-renamed (t ∷ ts) [] fits = absurd fits

  pub these-renamed : (ts : Option (List Takes)) (os : List Operand) → AreThese ts os → AreThese ts (map (rename loc) os)
  these-renamed (Some ts) os fits = all_fit-renamed ts os fits
  these-renamed None os fits = absurd fits

  reported-renamed : (o : Operand) → IsReported o → IsReported (rename loc o)
  reported-renamed o is = (is.0, word-renamed AnyWord o.width o.arg is.1)

  pub map-append : (xs ys : List Operand) → map (rename loc) (xs ++ ys) ≡ map (rename loc) xs ++ map (rename loc) ys
  map-append [] ys = refl
  map-append (x ∷ xs) ys = ap (λ (os : List Operand). rename loc x ∷ os) (map-append xs ys)

  -- ---- sites

  abbrev pub renamed_site : SiteOperands → SiteOperands
  renamed_site s = record {
    inputs = map (rename loc) s.inputs;
    reported = map (rename loc) s.reported;
    changed = map (rename loc) s.changed;
    results = map (rename loc) s.results;
  }

  pub listed-renamed : (os : List Operand) (s : SiteOperands) → os ≡ listed s → map (rename loc) os ≡ listed (renamed_site s)
  listed-renamed os s e =
      ap (map (rename loc)) e ∙ map-append (s.inputs ++ s.reported ++ s.changed) s.results
      ∙ ap (λ (l : List Operand). l ++ map (rename loc) s.results)
      (map-append (s.inputs ++ s.reported) s.changed ∙ ap (λ (l : List Operand). l ++ map (rename loc) s.changed) (map-append s.inputs s.reported))

module _ (loc : Home → Home) (fixes : FixesOthers loc) where
  -- ---- operands in registers and spill places

  pub in_register-stays : (role : Role) (width : Width) (r : ℕ) → rename loc (operand_in role width r) ≡ operand_in role width r
  in_register-stays role width r =
      ap (λ (h : Home). record { role = role; width = width; arg = At h }) (fixes.registers (record { 0 = r }))

  stays_if : (o : Operand) (role : Role) (width : Width) (r : ℕ) → o ≡ operand_in role width r → rename loc o ≡ o
  stays_if o role width r e = ap (rename loc) e ∙ in_register-stays role width r ∙ sym e

  pub changed-stays : (o : Operand) → IsChanged o → rename loc o ≡ o
  changed-stays o is = elim is.1 [ inl e ↦ stays_if o EarlyDef W64 is.0 e | inr e ↦ stays_if o Clobber W64 is.0 e ]

  pub placed-stays : (width : Width) (o : Operand) → IsPlacedResult width o → rename loc o ≡ o
  placed-stays width o is = elim is.2 [ inl e ↦ stays_if o EarlyDef width is.0 e | inr e ↦ stays_if o Def width is.0 e ]

  pub placed-renamed : (width : Width) (o : Operand) → IsPlacedResult width o → IsPlacedResult width (rename loc o)
  placed-renamed width o is = subst (IsPlacedResult width) (sym (placed-stays width o is)) is

  changed-renamed : (o : Operand) → IsChanged o → IsChanged (rename loc o)
  changed-renamed o is = subst IsChanged (sym (changed-stays o is)) is

  one-renamed : (there : Bool) (Is : Operand → Type 0) (os : List Operand) → ((o : Operand) → Is o → Is (rename loc o)) → OneIs there Is os
      → OneIs there Is (map (rename loc) os)
  one-renamed true Is (o ∷ []) h is = h o is
  one-renamed true Is [] h is = is
  one-renamed true Is (o ∷ p ∷ os) h is = is
  one-renamed false Is [] h is = is
  one-renamed false Is (o ∷ os) h is = is

  at_site-renamed : (computed : Width → List Takes) (typed : Bool) (IsResult : Width → Operand → Type 0)
      → ((width : Width) (o : Operand) → IsResult width o → IsResult width (rename loc o))
      → (s : SiteOperands) → AtSite computed typed IsResult s → AtSite computed typed IsResult (renamed_site loc s)
  at_site-renamed computed typed IsResult h s at = record {
    width = at.width;
    fits = all_fit-renamed loc (computed at.width) s.inputs at.fits;
    reports = All-map IsReported (rename loc) s.reported
        (All-weaker IsReported (λ o. IsReported (rename loc o)) (reported-renamed loc) s.reported at.reports);
    changes = All-map IsChanged (rename loc) s.changed
        (All-weaker IsChanged (λ o. IsChanged (rename loc o)) changed-renamed s.changed at.changes);
    result = one-renamed typed (IsResult at.width) s.results (h at.width) at.result;
  }

  all_changed-stay : (os : List Operand) → All IsChanged os → map (rename loc) os ≡ os
  all_changed-stay [] all = refl
  all_changed-stay (o ∷ os) all =
      ap (λ (x : Operand). x ∷ map (rename loc) os) (changed-stays o (All-head IsChanged o os all))
      ∙ ap (λ (l : List Operand). o ∷ l) (all_changed-stay os (All-tail IsChanged o os all))

  pub at_site-both : (computed : Width → List Takes) (typed : Bool) (IsResult : Width → Operand → Type 0)
      → ((width : Width) (o : Operand) → IsResult width o → IsResult width (rename loc o))
      → (s : SiteOperands) → AtSite computed typed IsResult s → AtSite computed typed IsResult (renamed_site loc s) × (map (rename loc) s.changed ≡ s.changed)
  at_site-both computed typed IsResult h s at =
      (at_site-renamed computed typed IsResult h s at, all_changed-stay s.changed at.changes)

  -- ---- calls and returns

  argument-stays : (i : ℕ) → loc (argument_home i) ≡ argument_home i
  argument-stays i = by (nat_lt i 8)
    where
      by : (b : Bool) → loc (if b then Reg (record { 0 = i }) else Spill (i - 8)) ≡ (if b then Reg (record { 0 = i }) else Spill (i - 8))
      by true = fixes.registers (record { 0 = i })
      by false = fixes.spills (i - 8)

  arguments-stay : (i : ℕ) (widths : List Width) → map (rename loc) (arguments_from i widths) ≡ arguments_from i widths
  arguments-stay i [] = refl
  arguments-stay i (width ∷ widths) =
      ap (λ (h : Home). record { role = Use; width = width; arg = At h } ∷ map (rename loc) (arguments_from (i + 1) widths)) (argument-stays i)
      ∙ ap (λ (l : List Operand). record { role = Use; width = width; arg = At (argument_home i) } ∷ l) (arguments-stay (i + 1) widths)

  registers-stay : (role : Role) (width : Width) (rs : List ℕ) → map (rename loc) (map (operand_in role width) rs) ≡ map (operand_in role width) rs
  registers-stay role width [] = refl
  registers-stay role width (r ∷ rs) =
      ap (λ (o : Operand). o ∷ map (rename loc) (map (operand_in role width) rs)) (in_register-stays role width r)
      ∙ ap (λ (l : List Operand). operand_in role width r ∷ l) (registers-stay role width rs)

  spills-stay : (n : ℕ) (widths : List Width) → map (rename loc) (spills_changed n widths) ≡ spills_changed n widths
  spills-stay n [] = refl
  spills-stay n (width ∷ widths) =
      ap (λ (h : Home). record { role = Clobber; width = W64; arg = At h } ∷ map (rename loc) (spills_changed (n + 1) widths)) (fixes.spills n)
      ∙ ap (λ (l : List Operand). record { role = Clobber; width = W64; arg = At (Spill n) } ∷ l) (spills-stay (n + 1) widths)

  result-stays : (typed : Bool) (width : Width)
      → map (rename loc) (if typed then operand_in Def width 0 ∷ [] else []) ≡ (if typed then operand_in Def width 0 ∷ [] else [])
  result-stays true width = ap (λ (o : Operand). o ∷ []) (in_register-stays Def width 0)
  result-stays false width = refl

  append-stays : (xs us ys : List Operand) → map (rename loc) xs ≡ us → map (rename loc) ys ≡ ys → map (rename loc) (xs ++ ys) ≡ us ++ ys
  append-stays xs us ys e f = map-append loc xs ys ∙ ap (λ (l : List Operand). l ++ map (rename loc) ys) e ∙ ap (λ (l : List Operand). us ++ l) f

  abbrev result_of : Bool → Width → List Operand
  result_of typed width = if typed then operand_in Def width 0 ∷ [] else []

  call-parts : (o : Operand) (us cs ss rs : List Operand) → map (rename loc) us ≡ us → map (rename loc) cs ≡ cs → map (rename loc) ss ≡ ss
      → map (rename loc) rs ≡ rs
      → map (rename loc) (o ∷ us ++ cs ++ ss ++ rs) ≡ rename loc o ∷ us ++ cs ++ ss ++ rs
  call-parts o us cs ss rs a c s r =
      append-stays (o ∷ us ++ cs ++ ss) (rename loc o ∷ us ++ cs ++ ss) rs
      (append-stays (o ∷ us ++ cs) (rename loc o ∷ us ++ cs) ss
      (append-stays (o ∷ us) (rename loc o ∷ us) cs (ap (λ (l : List Operand). rename loc o ∷ l) a) c) s) r

  pub call-renamed : (typed : Bool) (os : List Operand) → OfCall typed os → OfCall typed (map (rename loc) os)
  call-renamed typed os call = record {
    callee = rename loc call.callee;
    widths = call.widths;
    width = call.width;
    few = call.few;
    parts =
        ap (map (rename loc)) call.parts
        ∙ call-parts call.callee (arguments_from 0 call.widths) (map (operand_in Clobber W64) call_clobbers)
        (spills_changed 0 (drop 8 call.widths)) (result_of typed call.width)
        (arguments-stay 0 call.widths) (registers-stay Clobber W64 call_clobbers) (spills-stay 0 (drop 8 call.widths)) (result-stays typed call.width);
    fits = fits-renamed loc (home W64) call.callee call.fits;
  }

  pub returned-renamed : (r : Returns) (os : List Operand) → os ≡ returned r → map (rename loc) os ≡ returned r
  returned-renamed r os e = ap (map (rename loc)) e ∙ by r
    where
      by : (r : Returns) → map (rename loc) (returned r) ≡ returned r
      by returns.Nothing = refl
      by returns.W32 = ap (λ (o : Operand). o ∷ []) (in_register-stays Use _ 0)
      by returns.W64 = ap (λ (o : Operand). o ∷ []) (in_register-stays Use _ 0)
