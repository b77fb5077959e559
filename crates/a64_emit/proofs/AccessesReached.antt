-- The homes of an address are fetched, and an access is made there.
use Rattle.std.proofs.Common.{◌≡◌, ◌≢◌, ℕ, ◌+◌, ◌*◌, ◌/◌, ◌%◌, ◌^◌, ◌<◌, ◌≤◌, ◌⊎◌, ⊎_elim, Bool, true, false, Option, Some, None, refl, sym, ap, ◌∙◌, subst, arith, nat_eq, eqb-true}
use Rattle.std.specs.Prelude.{ℤ, ◌&&◌, nat_le, not, if◌then◌else◌}
use Rattle.std.specs.Int.{cast_unsigned, w64}
use Rattle.std.proofs.lemmas.Bool.{and_parts, ne_eqb}
use Rattle.std.proofs.lemmas.Option.{same_Some}
use Rattle.b3_base.specs.declared.word.Width.{Width}
use Rattle.b3_base.specs.declared.word.Width.TheVariants.{W64}
use Rattle.b3_meaning.specs.Access.{offset_address}
use Rattle.a64_inst.specs.Step.{AreWords, Bytes, Registers, step_of, access, access_index, access_near}
use Rattle.a64_inst.specs.Registers.{read as register, read_or_sp}
use Rattle.a64_inst.specs.StepMemory.{access_address, access_at, access_bytes, index_address, is_store, near_address}
use Rattle.a64_inst.specs.declared.inst.AccessKind.{AccessKind}
use Rattle.a64_inst.specs.declared.inst.AccessKind.TheVariants.{Strb, Ldrb, Ldrsb, Strh, Ldrh, Ldrsh, StrW, LdrW, StrX, LdrX}
use Rattle.a64_inst.specs.declared.inst.Inst.{Inst}
use Rattle.a64_inst.specs.declared.inst.Inst.TheVariants.{Access, AccessIndex, AccessNear}
use Rattle.air_ir.specs.Forms.{IsAddress}
use Rattle.air_ir.specs.Operands.{indexed, moved, read, word_of}
use Rattle.air_ir.specs.Steps.{State}
use Rattle.air_ir.specs.declared.operand.Arg.{Arg}
use Rattle.air_ir.specs.declared.operand.Arg.TheVariants.{At, Imm, Addr, Index, FrameSlot}
use Rattle.air_ir.specs.declared.operand.Home.{Home}
use Rattle.air_ir.specs.declared.operand.Home.TheVariants.{Reg, Spill, Tmp}
use Rattle.a64_layout.specs.Machine.{Machine}
use Rattle.a64_run.specs.Machine.{touched}
use Rattle.a64_code.specs.Accesses.{offset_access}
use Rattle.a64_emit.specs.Code.{access_inst, fetch, fetch_address, source_of}
use Rattle.a64_code.specs.Computing.{reg_of}
use Rattle.a64_emit.specs.Related.{IsRelated}
use Rattle.a64_emit.specs.Setting.{Setting, IsSet}
use Rattle.a64_emit.proofs.Computes.{fetch_two, scratch_15}
use Rattle.a64_emit.proofs.Fetching.{IsUsable, allocatable_other, fetch_word, fetched_keeps}
use Rattle.a64_emit.proofs.Keeping.{keeps_related}
use Rattle.a64_code.proofs.Ops.{Gives}
use Rattle.a64_emit.proofs.Straight.{Does, does_both}
use Rattle.air_frame.specs.Frames.{IsFrameOf}

-- ---- the instruction of an access

-- an instruction is an access of a register at an address
pub record IsAccess (inst : Inst) (kind : AccessKind) (rt at : ℕ) (r : Registers) : Type 0 where
  pub does : (m : Bytes) → step_of inst r m ≡ access_at kind rt at r m
  pub touches : touched inst r ≡ Some (at, access_bytes kind)

units_are : (kind : AccessKind) (n : ℕ) → nat_eq (n % access_bytes kind) 0 ≡ true → n / access_bytes kind * access_bytes kind ≡ n
units_are Strb n e = omega arith
units_are Ldrb n e = omega arith
units_are Ldrsb n e = omega arith
units_are Strh n e = let even : n % 2 ≡ 0 = eqb-true (n % 2) 0 e in omega arith
units_are Ldrh n e = let even : n % 2 ≡ 0 = eqb-true (n % 2) 0 e in omega arith
units_are Ldrsh n e = let even : n % 2 ≡ 0 = eqb-true (n % 2) 0 e in omega arith
units_are StrW n e = let even : n % 4 ≡ 0 = eqb-true (n % 4) 0 e in omega arith
units_are LdrW n e = let even : n % 4 ≡ 0 = eqb-true (n % 4) 0 e in omega arith
units_are StrX n e = let even : n % 8 ≡ 0 = eqb-true (n % 8) 0 e in omega arith
units_are LdrX n e = let even : n % 8 ≡ 0 = eqb-true (n % 8) 0 e in omega arith

-- an instruction whose bytes begin at an address
scaled_is : (kind : AccessKind) (rt rn units at : ℕ) (r : Registers) → access_address kind rn units r ≡ at → IsAccess (Access kind rt rn units) kind rt at r
unfolding step_of access
scaled_is kind rt rn units at r is = record {
  does = λ m. ap (λ (a : ℕ). access_at kind rt a r m) is;
  touches = ap (λ (a : ℕ). Some (a, access_bytes kind)) is;
}

near_is : (kind : AccessKind) (rt rn at : ℕ) (offset : ℤ) (r : Registers) → near_address rn offset r ≡ at → IsAccess (AccessNear kind rt rn offset) kind rt at r
unfolding step_of access_near
near_is kind rt rn at offset r is = record {
  does = λ m. ap (λ (a : ℕ). access_at kind rt a r m) is;
  touches = ap (λ (a : ℕ). Some (a, access_bytes kind)) is;
}

base_read : (r : Registers) (rn base : ℕ) → rn ≢ 31 → r.x rn ≡ base → read_or_sp r rn ≡ base
base_read r rn base other is = rw (ne_eqb rn 31 other) is

index_read : (r : Registers) (rm index : ℕ) → rm ≢ 31 → r.x rm ≡ index → register r rm ≡ index
index_read r rm index other is = rw (ne_eqb rm 31 other) is

offset_is : (kind : AccessKind) (rt rn base : ℕ) (offset : ℤ) (r : Registers) → rn ≢ 31 → r.x rn ≡ base
    → IsAccess (offset_access kind rt rn offset) kind rt (offset_address base offset) r
offset_is kind rt rn base offset r other is =
    let above : ℕ = cast_unsigned w64 offset in
    elim (nat_eq (above % access_bytes kind) 0 && nat_le above (4095 * access_bytes kind)) as
    (λ b. (nat_eq (above % access_bytes kind) 0 && nat_le above (4095 * access_bytes kind)) ≡ b
    → IsAccess (if b then Access kind rt rn (above / access_bytes kind) else AccessNear kind rt rn offset) kind rt (offset_address base offset) r) [
      | true ↦ λ e.
          let whole = (and_parts (nat_eq (above % access_bytes kind) 0) (nat_le above (4095 * access_bytes kind)) e).0 in
          scaled_is kind rt rn (above / access_bytes kind) (offset_address base offset) r
          (ap (λ (n : ℕ). (n + above / access_bytes kind * access_bytes kind) % 2 ^ 64) (base_read r rn base other is)
          ∙ ap (λ (n : ℕ). (base + n) % 2 ^ 64) (units_are kind above whole))
      | false ↦ λ e. near_is kind rt rn (offset_address base offset) offset r (ap (λ (n : ℕ). offset_address n offset) (base_read r rn base other is))
    ] refl

-- an access of 8 bytes
word_kind : (kind : AccessKind) → access_bytes kind ≡ 8 → (if not (is_store kind) then LdrX else StrX) ≡ kind
word_kind Strb e = absurd (omega (arith, e))
word_kind Ldrb e = absurd (omega (arith, e))
word_kind Ldrsb e = absurd (omega (arith, e))
word_kind Strh e = absurd (omega (arith, e))
word_kind Ldrh e = absurd (omega (arith, e))
word_kind Ldrsh e = absurd (omega (arith, e))
word_kind StrW e = absurd (omega (arith, e))
word_kind LdrW e = absurd (omega (arith, e))
word_kind StrX e = refl
word_kind LdrX e = refl

index_address_is : (base index shift : ℕ) → (shift ≡ 0) ⊎ (shift ≡ 3)
    → (base + index * (if nat_eq shift 3 then 8 else 1)) % 2 ^ 64 ≡ (base + index * 2 ^ shift) % 2 ^ 64
index_address_is base index shift either =
    ⊎_elim (λ (e : shift ≡ 0). rw e refl) (λ (e : shift ≡ 3). rw e refl) either

index_is : (kind : AccessKind) (rt rn rm base index shift : ℕ) (r : Registers) → rn ≢ 31 → rm ≢ 31 → r.x rn ≡ base → r.x rm ≡ index
    → access_bytes kind ≡ 8 → (shift ≡ 0) ⊎ (shift ≡ 3)
    → IsAccess (AccessIndex (not (is_store kind)) rt rn rm (nat_eq shift 3)) kind rt ((base + index * 2 ^ shift) % 2 ^ 64) r
unfolding step_of access_index
index_is kind rt rn rm base index shift r other_n other_m is_n is_m eight either =
    let scaled : Bool = nat_eq shift 3 in
    let at : index_address rn rm scaled r ≡ (base + index * 2 ^ shift) % 2 ^ 64 =
    ap (λ (n : ℕ). (n + register r rm * (if scaled then 8 else 1)) % 2 ^ 64) (base_read r rn base other_n is_n)
    ∙ ap (λ (n : ℕ). (base + n * (if scaled then 8 else 1)) % 2 ^ 64) (index_read r rm index other_m is_m) ∙ index_address_is base index shift either in
    record {
      does = λ m. ap (λ (a : ℕ). access_at (if not (is_store kind) then LdrX else StrX) rt a r m) at
          ∙ ap (λ (k : AccessKind). access_at k rt ((base + index * 2 ^ shift) % 2 ^ 64) r m) (word_kind kind eight);
      touches = ap (λ (a : ℕ). Some (a, 8)) at ∙ ap (λ (n : ℕ). Some ((base + index * 2 ^ shift) % 2 ^ 64, n)) (sym eight);
    }

-- ---- the homes of an address

-- the homes of an address may be fetched
abbrev pub IsReachable : Setting → Arg → Type 0
IsReachable z (Addr base offset) = IsUsable z (At base)
IsReachable z (Index base index shift) = IsUsable z (At base) × IsUsable z (At index)
IsReachable z _ = ⊥

-- the register of a home that was fetched, and the word in it
pub record IsBase (c : Machine) (reg word : ℕ) : Type 0 where
  pub most : reg ≤ 30
  pub other : reg ≢ 17
  pub is : c.registers.x reg ≡ word

low_whole : (x w : ℕ) → x < 2 ^ 64 → x % 2 ^ 64 ≡ w → x ≡ w
low_whole x w small e = omega arith

pub base_is : (z : Setting) (c : Machine) (scratch : ℕ) (home : Home) (word : ℕ) → scratch ≢ 17 → IsUsable z (At home) → AreWords c.registers
    → Gives c.registers (source_of scratch (At home)) W64 word → IsBase c (reg_of (source_of scratch (At home))) word
base_is z c scratch (Reg r) word other usable words gives = record {
  most = gives.0;
  other = allocatable_other r 17 usable (omega arith, omega arith);
  is = low_whole (c.registers.x r.0) word (words.x r.0) gives.1;
}
base_is z c scratch (Spill n) word other usable words gives = record {
  most = gives.0;
  other = other;
  is = low_whole (c.registers.x scratch) word (words.x scratch) gives.1;
}
base_is z c scratch (Tmp n) word other usable words gives = absurd usable

-- a register that isn't ZR
pub not_zero : (reg : ℕ) → reg ≤ 30 → reg ≢ 31
not_zero reg le e = omega arith

moved_is : (offset : ℤ) (o : Option ℕ) (at : ℕ) → moved offset o ≡ Some at → (base : ℕ) × (o ≡ Some base) × (offset_address base offset ≡ at)
moved_is offset None at e = absurd cc
moved_is offset (Some base) at e = (base, refl, same_Some _ at e)

indexed_is : (shift : ℕ) (o p : Option ℕ) (at : ℕ) → indexed shift o p ≡ Some at
    → (base : ℕ) × (index : ℕ) × (o ≡ Some base) × (p ≡ Some index) × ((base + index * 2 ^ shift) % 2 ^ 64 ≡ at)
indexed_is shift None p at e = absurd cc
indexed_is shift (Some base) None at e = absurd cc
indexed_is shift (Some base) (Some index) at e = (base, index, refl, refl, same_Some _ at e)

module _ (z : Setting) (set : IsSet z) (serves : IsFrameOf z.procedure z.frame) where
  -- the homes of an address were fetched: each access there is one at this address, also where x17 has changed
  pub record Reaches (s : State) (c : Machine) (address : Arg) (at : ℕ) : Type 0 where
    pub after : Machine
    pub does : Does z c (fetch_address z.frame address) after
    pub related : IsRelated z s after
    pub accesses : (d : Registers) → ((r : ℕ) → r ≢ 17 → d.x r ≡ after.registers.x r) → (kind : AccessKind) (rt : ℕ)
        → IsAddress (access_bytes kind) address → IsAccess (access_inst kind rt address) kind rt at d

  pub reaches : (s : State) (c : Machine) (address : Arg) (width : Width) (at : ℕ) → IsRelated z s c → IsReachable z address
      → word_of s.homes width address ≡ Some at → Reaches s c address at
  unfolding fetch_address word_of
  reaches s c (Addr base offset) width at rel usable e =
      let of = moved_is offset (read W64 (s.homes base)) at e in
      let first = fetch_word z set serves s c 15 (At base) W64 of.0 rel usable scratch_15 of.1 in
      let m : Machine = first.0.after in
      let is = base_is z m 15 base of.0 (λ e. omega arith) usable first.0.words first.1 in
      let rn : ℕ = reg_of (source_of 15 (At base)) in
      record {
        after = m;
        does = first.0.does;
        related = keeps_related z s c m (fetched_keeps z c (fetch z.frame 15 (At base)) 15 scratch_15 first.0) rel;
        accesses = λ d same kind rt fits.
            subst (λ (a : ℕ). IsAccess (offset_access kind rt rn offset) kind rt a d) of.2
            (offset_is kind rt rn of.0 offset d (not_zero rn is.most) (same rn is.other ∙ is.is));
      }
  reaches s c (Index base index shift) width at rel usable e =
      let of = indexed_is shift (read W64 (s.homes base)) (read W64 (s.homes index)) at e in
      let two = fetch_two z set serves s c (At base) (At index) W64 W64 of.0 of.1 rel usable.0 usable.1 of.2 of.3 in
      let m : Machine = two.after in
      let words = two.related.frame.words in
      let is_n = base_is z m 15 base of.0 (λ e. omega arith) usable.0 words two.gives_a in
      let is_m = base_is z m 16 index of.1 (λ e. omega arith) usable.1 words two.gives_b in
      let rn : ℕ = reg_of (source_of 15 (At base)) in
      let rm : ℕ = reg_of (source_of 16 (At index)) in
      record {
        after = m;
        does = does_both z c two.between m (fetch z.frame 15 (At base)) (fetch z.frame 16 (At index)) two.first two.second;
        related = two.related;
        accesses = λ d same kind rt fits.
            subst (λ (a : ℕ). IsAccess (access_inst kind rt (Index base index shift)) kind rt a d) of.4
            (index_is kind rt rn rm of.0 of.1 shift d (not_zero rn is_n.most) (not_zero rm is_m.most) (same rn is_n.other ∙ is_n.is)
            (same rm is_m.other ∙ is_m.is) fits.0 fits.1);
      }
  reaches s c (At home) width at rel usable e = absurd usable
  reaches s c (Imm word) width at rel usable e = absurd usable
  reaches s c (FrameSlot n) width at rel usable e = absurd usable
