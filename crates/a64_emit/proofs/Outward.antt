-- The operands of calls and patchpoints: what they read, which registers they change, and the site that is made of them.
use Rattle.std.proofs.Common.{◌≡◌, ◌≢◌, ℕ, zero, suc, ◌*◌, ◌%◌, ◌^◌, ◌<◌, ◌≤◌, ◌⊎◌, Bool, true, false, inl, inr, ⊎_elim, List, [], ◌∷◌, ◌++◌, Some, map, nat_eq, refl, sym, ap, ◌∙◌, subst, arith, eq-eqb, eqb-true}
use Rattle.std.specs.Prelude.{All, Contains, if◌then◌else◌, nat_le, slice_get}
use Rattle.std.specs.Int.{bit_at, w32}
use Rattle.std.specs.Int.Bits.{bit_or}
use Rattle.std.proofs.lemmas.Bool.Decides.{nat_tests}
use Rattle.std.proofs.lemmas.List.Elements.{All-head, All-tail}
use Rattle.std.proofs.lemmas.Nat.Bits.{bit_at-zero, bit_at_set_other, bit_at_set_same}
use Rattle.b3_base.specs.declared.word.Width.{Width}
use Rattle.b3_base.specs.declared.word.Width.TheVariants.{W64}
use Rattle.b3_ir.specs.declared.value.Reg.{Reg as Register}
use Rattle.stackmap.specs.Registers.{has}
use Rattle.air_ir.specs.Forms.{IsChanged, IsReported, IsWord, AnyWord, operand_in}
use Rattle.air_ir.specs.Operands.{Homes, Target, and_target, and_word, is_given, is_read, targets, word_of, words}
use Rattle.air_ir.specs.WellFormed.{MayName, NamesOwn, StandsAt}
use Rattle.air_ir.specs.declared.frame.Frame.{Frame}
use Rattle.air_ir.specs.declared.operand.Arg.{Arg}
use Rattle.air_ir.specs.declared.operand.Arg.TheVariants.{At, Imm, Addr, Index, FrameSlot}
use Rattle.air_ir.specs.declared.operand.Home.TheVariants.{Reg, Spill, Tmp}
use Rattle.air_ir.specs.declared.operand.Operand.{Operand}
use Rattle.air_ir.specs.declared.operand.Role.{Role}
use Rattle.air_ir.specs.declared.operand.Role.TheVariants.{Use, LateUse, EarlyDef, Clobber}
use Rattle.air_ir.specs.declared.procedure.AirInst.{AirInst}
use Rattle.air_ir.specs.declared.procedure.AirProc.{AirProc}
use Rattle.air_frame.specs.Needs.{arg_names, block_names, block_writes, inst_names, inst_writes, names, writes}
use Rattle.a64_emit.specs.Made.{and_place, places_read, rep_of, with_home, with_register, with_written}
use Rattle.a64_code.specs.Places.{spill_offset}
use Rattle.a64_emit.specs.Sites.{ArePlacesOf, IsRepIn}
use Rattle.a64_emit.proofs.Opened.{any_at, own_spill}
use Rattle.a64_emit.proofs.Outside.{reg_targets}
use Rattle.a64_emit.proofs.Told.{IsTold, IsToldArg}

-- ---- what an instruction of a procedure owns

-- what its operands name is named by the procedure, and what it writes is written by it
pub record Owns (p : AirProc) (i : AirInst) : Type 0 where
  pub names_own : All (λ (o : Operand). NamesOwn p o.role o.arg) i.operands
  pub named : (n : ℕ) → inst_names n i ≡ true → names p n ≡ true
  pub written : (r : ℕ) → inst_writes r i ≡ true → writes p r ≡ true
  pub no_tmps : p.tmps ≡ 0

pub owns_of : (p : AirProc) (b k : ℕ) (i : AirInst) → StandsAt p b k i → All (λ (o : Operand). NamesOwn p o.role o.arg) i.operands → p.tmps ≡ 0 → Owns p i
owns_of p b k i at own none = record {
  names_own = own;
  named = λ n is. any_at (block_names n) p.blocks b at.of at.block_there (any_at (inst_names n) at.of.insts k i at.inst_there is);
  written = λ r is. any_at (block_writes r) p.blocks b at.of at.block_there (any_at (inst_writes r) at.of.insts k i at.inst_there is);
  no_tmps = none;
}

-- ---- reported operands

told_arg : (p : AirProc) (role : Role) (width : Width) (arg : Arg) → (role ≡ Use) ⊎ (role ≡ LateUse) → IsWord AnyWord width arg → NamesOwn p role arg → p.tmps ≡ 0
    → ((n : ℕ) → arg_names n arg ≡ true → names p n ≡ true) → IsToldArg p width arg
told_arg p role width (At (Reg r)) is word own none named =
    ⊎_elim (λ (e : role ≡ Use). subst (λ x. MayName p x (Reg r)) e own) (λ (e : role ≡ LateUse). subst (λ x. MayName p x (Reg r)) e own) is
told_arg p role width (At (Spill n)) is word own none named = named n (own_spill n)
told_arg p role width (At (Tmp n)) is word own none named =
    let lt : n < p.tmps =
    ⊎_elim (λ (e : role ≡ Use). subst (λ x. MayName p x (Tmp n)) e own) (λ (e : role ≡ LateUse). subst (λ x. MayName p x (Tmp n)) e own) is in
    absurd (omega (arith, none))
told_arg p role width (Imm word) is fits own none named = fits.0
told_arg p role width (Addr base offset) is fits own none named = absurd fits
told_arg p role width (Index base index shift) is fits own none named = absurd fits
told_arg p role width (FrameSlot n) is fits own none named = absurd fits

read_role : (role : Role) → (role ≡ Use) ⊎ (role ≡ LateUse) → is_read role ≡ true
read_role role is = ⊎_elim (λ (e : role ≡ Use). ap is_read e) (λ (e : role ≡ LateUse). ap is_read e) is

pub reported_told : (p : AirProc) (o : Operand) → IsReported o → NamesOwn p o.role o.arg → p.tmps ≡ 0
    → ((n : ℕ) → arg_names n o.arg ≡ true → names p n ≡ true) → IsTold p o
reported_told p o is own none named = record {
  reads = read_role o.role is.0;
  arg = told_arg p o.role o.width o.arg is.0 is.1 own none named;
}

-- ---- operands that are written

-- a register that is written, with its width
pub record IsPut (o : Operand) (reg : Register) : Type 0 where
  pub role : is_read o.role ≡ false
  pub arg : o.arg ≡ At (Reg reg)

pub words_put : (homes : Homes) (o : Operand) (os : List Operand) (reg : Register) → IsPut o reg → words homes (o ∷ os) ≡ words homes os
unfolding words
words_put homes o os reg is = rw (is.role, is.arg) refl

pub targets_put : (o : Operand) (os : List Operand) (reg : Register) → IsPut o reg → targets (o ∷ os) ≡ record { home = Reg reg; width = o.width } ∷ targets os
unfolding targets
targets_put o os reg is = rw (is.role, is.arg) refl

pub places_put : (f : Frame) (o : Operand) (os : List Operand) (reg : Register) → IsPut o reg → places_read f (o ∷ os) ≡ places_read f os
unfolding places_read
places_put f o os reg is = ap (λ b. and_place b f o (places_read f os)) is.role

-- the register of a home
abbrev pub reg_in : Arg → ℕ
reg_in (At (Reg reg)) = reg.0
reg_in _ = 0

abbrev pub changed_regs : List Operand → List ℕ
changed_regs changed = map (λ (o : Operand). reg_in o.arg) changed

-- a register that is changed takes a whole word
pub record IsChangedReg (o : Operand) : Type 0 where
  pub is : IsPut o (record { 0 = reg_in o.arg })
  pub width : o.width ≡ W64

pub changed_reg : (o : Operand) → IsChanged o → IsChangedReg o
changed_reg o is =
    ⊎_elim
    (λ (e : o ≡ operand_in EarlyDef W64 is.0). subst IsChangedReg (sym e) (record { is = record { role = refl; arg = refl }; width = refl }))
    (λ (e : o ≡ operand_in Clobber W64 is.0). subst IsChangedReg (sym e) (record { is = record { role = refl; arg = refl }; width = refl }))
    is.1

pub words_changed : (homes : Homes) (changed rest : List Operand) → All IsChanged changed → words homes (changed ++ rest) ≡ words homes rest
words_changed homes [] rest all = refl
words_changed homes (o ∷ changed) rest all =
    let here = changed_reg o (All-head IsChanged o changed all) in
    words_put homes o (changed ++ rest) (record { 0 = reg_in o.arg }) here.is ∙ words_changed homes changed rest (All-tail IsChanged o changed all)

pub places_changed : (f : Frame) (changed rest : List Operand) → All IsChanged changed → places_read f (changed ++ rest) ≡ places_read f rest
places_changed f [] rest all = refl
places_changed f (o ∷ changed) rest all =
    let here = changed_reg o (All-head IsChanged o changed all) in
    places_put f o (changed ++ rest) (record { 0 = reg_in o.arg }) here.is ∙ places_changed f changed rest (All-tail IsChanged o changed all)

pub targets_changed : (changed rest : List Operand) → All IsChanged changed → targets (changed ++ rest) ≡ reg_targets (changed_regs changed) ++ targets rest
targets_changed [] rest all = refl
targets_changed (o ∷ changed) rest all =
    let here = changed_reg o (All-head IsChanged o changed all) in
    let reg : Register = record { 0 = reg_in o.arg } in
    targets_put o (changed ++ rest) reg here.is
    ∙ ap (λ w. record { home = Reg reg; width = w } ∷ targets (changed ++ rest)) here.width
    ∙ ap (λ (ts : List Target). record { home = Reg reg; width = W64 } ∷ ts) (targets_changed changed rest (All-tail IsChanged o changed all))

-- ---- operands that are read, in front of others

pub words_front : (homes : Homes) (xs rest : List Operand) → words homes rest ≡ Some [] → words homes (xs ++ rest) ≡ words homes xs
unfolding words
words_front homes [] rest none = none
words_front homes (o ∷ xs) rest none =
    ap (λ ws. if is_given (is_read o.role) o.arg then and_word o.width (word_of homes o.width o.arg) ws else ws) (words_front homes xs rest none)

targets_read : (reads : Bool) (width : Width) (arg : Arg) (ts : List Target) → reads ≡ true → and_target reads width arg ts ≡ ts
targets_read reads width (At home) ts e = rw e refl
targets_read reads width (Imm word) ts e = rw e refl
targets_read reads width (Addr base offset) ts e = rw e refl
targets_read reads width (Index base index shift) ts e = rw e refl
targets_read reads width (FrameSlot n) ts e = rw e refl

pub targets_front : (p : AirProc) (xs rest : List Operand) → All (IsTold p) xs → targets (xs ++ rest) ≡ targets rest
unfolding targets
targets_front p [] rest told = refl
targets_front p (o ∷ xs) rest told =
    targets_read (is_read o.role) o.width o.arg (targets (xs ++ rest)) (All-head (IsTold p) o xs told).reads
    ∙ targets_front p xs rest (All-tail (IsTold p) o xs told)

pub places_front : (f : Frame) (xs rest : List Operand) → places_read f rest ≡ [] → places_read f (xs ++ rest) ≡ places_read f xs
unfolding places_read
places_front f [] rest none = none
places_front f (o ∷ xs) rest none = ap (and_place (is_read o.role) f o) (places_front f xs rest none)

-- ---- the places of reported operands

module _ (p : AirProc) (f : Frame) (spilled : (n : ℕ) → names p n ≡ true → slice_get f.spills n ≡ Some (spill_offset f n)) where
  rep_in : (width : Width) (arg : Arg) → IsToldArg p width arg → IsRepIn f arg (rep_of f arg)
  rep_in width (At (Reg r)) told = refl
  rep_in width (At (Spill n)) told = (spill_offset f n, spilled n told, refl)
  rep_in width (At (Tmp n)) told = absurd told
  rep_in width (Imm word) told = refl
  rep_in width (Addr base offset) told = absurd told
  rep_in width (Index base index shift) told = absurd told
  rep_in width (FrameSlot n) told = absurd told

  pub places_told : (os : List Operand) → All (IsTold p) os → ArePlacesOf f os (places_read f os)
  unfolding ArePlacesOf places_read
  places_told [] told = tt
  places_told (o ∷ os) told =
      let here = All-head (IsTold p) o os told in
      let rest = places_told os (All-tail (IsTold p) o os told) in
      subst (λ b. ArePlacesOf f (o ∷ os) (and_place b f o (places_read f os))) (sym here.reads) (refl, rep_in o.width o.arg here.arg, rest)

-- ---- sets of registers

has_with : (set q r : ℕ) → has (with_register set q) r ≡ true → (has set r ≡ true) ⊎ ((q ≡ r) × (q ≤ 30))
has_with set q r is =
    elim (nat_le q 30) as (λ b. nat_le q 30 ≡ b → has (if b then bit_or set (1 * 2 ^ q % 2 ^ 32) else set) r ≡ true
    → (has set r ≡ true) ⊎ ((q ≡ r) × (q ≤ 30))) [
      | true ↦ λ le is.
          let most : q ≤ 30 = grind (arith, nat_tests) in
          elim (nat_eq q r) as (λ b. nat_eq q r ≡ b → (has set r ≡ true) ⊎ ((q ≡ r) × (q ≤ 30))) [
            | true ↦ λ e. inr (eqb-true q r e, most)
            | false ↦ λ e. inl (sym (ap (λ n. nat_eq n 1) (bit_at_set_other w32 set q (omega arith) r (other q r e))) ∙ is)
          ] refl
      | false ↦ λ gt is. inl is
    ] refl is
  where
    other : (q r : ℕ) → nat_eq q r ≡ false → r ≢ q
    other q r none e = let same = eq-eqb q r (sym e) in cc

with_has : (set q r : ℕ) → q ≤ 30 → (has set r ≡ true) ⊎ (q ≡ r) → has (with_register set q) r ≡ true
with_has set q r most had =
    let le : nat_le q 30 ≡ true = grind (arith, nat_tests) in
    rw le
    (elim (nat_eq q r) as (λ b. nat_eq q r ≡ b → nat_eq (bit_at (bit_or set (1 * 2 ^ q % 2 ^ 32)) r) 1 ≡ true) [
      | true ↦ λ e. ap (λ n. nat_eq (bit_at (bit_or set (1 * 2 ^ q % 2 ^ 32)) n) 1) (sym (eqb-true q r e))
          ∙ ap (λ n. nat_eq n 1) (bit_at_set_same w32 set q (omega arith))
      | false ↦ λ e.
          ⊎_elim
          (λ (there : has set r ≡ true). ap (λ n. nat_eq n 1) (bit_at_set_other w32 set q (omega arith) r (other q r e)) ∙ there)
          (λ (same : q ≡ r). absurd (other q r e (sym same)))
          had
    ] refl)
  where
    other : (q r : ℕ) → nat_eq q r ≡ false → r ≢ q
    other q r none e = let same = eq-eqb q r (sym e) in cc

-- the registers of operands that are changed
pub has_written : (changed : List Operand) (set r : ℕ) → All IsChanged changed → has (with_written set changed) r ≡ true
    → (has set r ≡ true) ⊎ Contains (changed_regs changed) r
unfolding with_written
has_written [] set r all is = inl is
has_written (o ∷ changed) set r all is =
    let here = changed_reg o (All-head IsChanged o changed all) in
    let set_is : (if is_read o.role then set else with_home set o.arg) ≡ with_register set (reg_in o.arg) =
    ap (λ b. if b then set else with_home set o.arg) here.is.role ∙ ap (with_home set) here.is.arg in
    let moved : has (with_written (with_register set (reg_in o.arg)) changed) r ≡ true =
    subst (λ x. has (with_written x changed) r ≡ true) set_is is in
    ⊎_elim
    (λ (had : has (with_register set (reg_in o.arg)) r ≡ true).
    ⊎_elim (λ (before : has set r ≡ true). inl before) (λ (now : (reg_in o.arg ≡ r) × (reg_in o.arg ≤ 30)). inr (0, omega arith, now.0))
    (has_with set (reg_in o.arg) r had))
    (λ (later : Contains (changed_regs changed) r). inr (suc later.0, omega (arith, later.1), later.2))
    (has_written changed (with_register set (reg_in o.arg)) r (All-tail IsChanged o changed all) moved)

pub written_has : (changed : List Operand) (set r : ℕ) → All IsChanged changed → All (λ (o : Operand). reg_in o.arg ≤ 30) changed
    → (has set r ≡ true) ⊎ Contains (changed_regs changed) r → has (with_written set changed) r ≡ true
unfolding with_written
written_has [] set r all few had = ⊎_elim (λ there. there) (λ (none : Contains [] r). absurd (omega (arith, none.1))) had
written_has (o ∷ changed) set r all few had =
    let here = changed_reg o (All-head IsChanged o changed all) in
    let most = All-head (λ (o : Operand). reg_in o.arg ≤ 30) o changed few in
    let set_is : (if is_read o.role then set else with_home set o.arg) ≡ with_register set (reg_in o.arg) =
    ap (λ b. if b then set else with_home set o.arg) here.is.role ∙ ap (with_home set) here.is.arg in
    subst (λ x. has (with_written x changed) r ≡ true) (sym set_is)
    (written_has changed (with_register set (reg_in o.arg)) r (All-tail IsChanged o changed all) (All-tail (λ (o : Operand). reg_in o.arg ≤ 30) o changed few)
    (⊎_elim
    (λ (there : has set r ≡ true). inl (with_has set (reg_in o.arg) r most (inl there)))
    (λ (among : Contains (reg_in o.arg ∷ changed_regs changed) r). first_or set o r most changed among)
    had))
  where
    first_or : (set : ℕ) (o : Operand) (r : ℕ) → reg_in o.arg ≤ 30 → (changed : List Operand) → Contains (reg_in o.arg ∷ changed_regs changed) r
        → (has (with_register set (reg_in o.arg)) r ≡ true) ⊎ Contains (changed_regs changed) r
    first_or set o r most changed (zero, lt, is) = inl (with_has set (reg_in o.arg) r most (inr is))
    first_or set o r most changed (suc k, lt, is) = inr (k, omega arith, is)

no_register : (r : ℕ) → has 0 r ≡ false
no_register r = ap (λ n. nat_eq n 1) (bit_at-zero r)

pub has_changed : (changed : List Operand) (r : ℕ) → All IsChanged changed → has (with_written 0 changed) r ≡ true → Contains (changed_regs changed) r
has_changed changed r all is =
    ⊎_elim (λ (none : has 0 r ≡ true). let no = no_register r in absurd cc) (λ there. there) (has_written changed 0 r all is)
