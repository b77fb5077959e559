-- One instruction that puts a word in a register, or stores one in the frame.
use Rattle.std.proofs.Common.{◌≡◌, ◌≢◌, ℕ, ◌+◌, ◌-◌, ◌*◌, ◌/◌, ◌%◌, ◌^◌, ◌<◌, ◌≤◌, min, true, false, List, [], ◌∷◌, Option, Some, None, refl, sym, ap, ◌∙◌, subst, arith, nat_eq, eq-eqb}
use Rattle.std.specs.Prelude.{nat_le, if◌then◌else◌}
use Rattle.std.proofs.lemmas.Bool.{ne_eqb}
use Rattle.std.proofs.lemmas.Option.{same_Some}
use Rattle.b3_base.specs.Memory.{byte_address, is_mapped, read_word, write_word}
use Rattle.b3_base.specs.declared.word.Width.TheVariants.{W64}
use Rattle.a64_inst.specs.Step.{AreWords, Registers, Stepped, step_of, goes_on, put, access, add_sub_imm}
use Rattle.a64_inst.specs.StepMemory.{access_address}
use Rattle.a64_inst.specs.declared.inst.AccessKind.TheVariants.{LdrX, StrX}
use Rattle.a64_inst.specs.declared.inst.Inst.{Inst}
use Rattle.a64_inst.specs.declared.inst.Inst.TheVariants.{Access, AddSubImm}
use Rattle.exit_table.specs.Good.{IsWordOffset}
use Rattle.a64_layout.specs.Machine.{Machine, moved_to}
use Rattle.a64_run.specs.Machine.{touched}
use Rattle.a64_run.specs.Placement.{frame_pointer_of}
use Rattle.a64_code.specs.Places.{above_sp, load_at, store_at}
use Rattle.a64_emit.specs.Related.{word_below}
use Rattle.a64_emit.specs.Setting.{Setting}
use Rattle.a64_emit.proofs.Straight.{Does, DoesOne, IsWhole, does_first, does_one}

-- a machine with a word in a register, and with another memory
abbrev pub with_reg : Machine → ℕ → ℕ → Machine
with_reg c reg word = record { registers = put c.registers reg word; memory = c.memory }

abbrev pub with_memory : Machine → (ℕ → Option ℕ) → Machine
with_memory c memory = record { registers = c.registers; memory = memory }

pub put_same : (c : Machine) (reg word : ℕ) → (with_reg c reg word).registers.x reg ≡ word
put_same c reg word = rw (eq-eqb reg reg refl) refl

pub put_other : (c : Machine) (reg word r : ℕ) → r ≢ reg → (with_reg c reg word).registers.x r ≡ c.registers.x r
put_other c reg word r differ = rw (ne_eqb r reg differ) refl

pub put_words : (c : Machine) (reg word : ℕ) → AreWords c.registers → word < 2 ^ 64 → AreWords (with_reg c reg word).registers
put_words c reg word words small = record {
  x = λ r. elim (nat_eq r reg) as (λ b. (if b then word else c.registers.x r) < 2 ^ 64) [ true ↦ small | false ↦ words.x r ];
  sp = words.sp;
  pc = words.pc;
}

pub whole_same : (z : Setting) (c d : Machine) → d.registers.sp ≡ c.registers.sp → d.memory ≡ c.memory → IsWhole z c → IsWhole z d
whole_same z c d sp memory w = record {
  aligned = ap (λ n. n % 16) sp ∙ w.aligned;
  whole = λ address inside. let byte = w.whole address inside in (byte.0, ap (λ (m : ℕ → Option ℕ). m address) memory ∙ byte.1);
}

-- ---- safety

-- no byte is touched, or those that are stand at SP or above
abbrev pub TouchesWell : Machine → Inst → Type 0
TouchesWell c inst = (pc at n i : ℕ) → touched inst (moved_to pc c).registers ≡ Some (at, n) → i < n → c.registers.sp ≤ byte_address at i

pub touches_nothing : (c : Machine) (inst : Inst) → ((pc : ℕ) → touched inst (moved_to pc c).registers ≡ None) → TouchesWell c inst
touches_nothing c inst none pc at n i some lt = let no = none pc in absurd cc

below_min : (a b q : ℕ) → a ≤ q → min a b ≤ q
below_min a b q le = omega arith

-- an instruction that leaves these registers, with x18 as it was, is safe
pub does_safely : (z : Setting) (c d : Machine) (inst : Inst) → IsWhole z c → TouchesWell c inst → d.registers.x 18 ≡ c.registers.x 18
    → ((pc : ℕ) → step_of inst (moved_to pc c).registers c.memory ≡ goes_on (moved_to pc d).registers d.memory) → DoesOne z c inst d
does_safely z c d inst whole well platform does = record {
  does = does;
  safe = λ pc. record {
    there = λ at n i some lt inside.
        below_min c.registers.sp (step_of inst (moved_to pc c).registers c.memory).registers.sp (byte_address at i) (well pc at n i some lt);
    platform = ap (λ (t : Stepped). t.registers.x 18) (does pc) ∙ platform;
  };
  whole = whole;
}

-- an instruction that puts a word in a register and touches nothing
pub puts_one : (z : Setting) (c : Machine) (inst : Inst) (reg word : ℕ) → IsWhole z c → reg ≢ 18
    → ((pc : ℕ) → touched inst (moved_to pc c).registers ≡ None)
    → ((pc : ℕ) → step_of inst (moved_to pc c).registers c.memory ≡ goes_on (put (moved_to pc c).registers reg word) c.memory)
    → DoesOne z c inst (with_reg c reg word)
puts_one z c inst reg word whole other none does =
    does_safely z c (with_reg c reg word) inst whole (touches_nothing c inst none) (put_other c reg word 18 (λ e. other (sym e))) does

-- ---- what code does that puts a word in a register

pub record Puts (z : Setting) (c : Machine) (insts : List Inst) (reg word : ℕ) : Type 0 where
  pub after : Machine
  pub does : Does z c insts after
  pub sp : after.registers.sp ≡ c.registers.sp
  pub memory : after.memory ≡ c.memory
  pub flags : after.registers.flags ≡ c.registers.flags
  pub put : after.registers.x reg ≡ word
  pub others : (r : ℕ) → r ≢ reg → after.registers.x r ≡ c.registers.x r
  pub words : AreWords after.registers

-- what code does that stores a register's word in the frame
pub record Stores (z : Setting) (c : Machine) (insts : List Inst) (address word : ℕ) : Type 0 where
  pub after : Machine
  pub does : Does z c insts after
  pub sp : after.registers.sp ≡ c.registers.sp
  pub memory : after.memory ≡ write_word c.memory address 8 word
  pub others : (r : ℕ) → r ≢ 15 → after.registers.x r ≡ c.registers.x r
  pub words : AreWords after.registers

pub puts_by_one : (z : Setting) (c : Machine) (inst : Inst) (reg word : ℕ) → DoesOne z c inst (with_reg c reg word) → AreWords c.registers → word < 2 ^ 64
    → Puts z c (inst ∷ []) reg word
puts_by_one z c inst reg word one words small = record {
  after = with_reg c reg word;
  does = does_one z c (with_reg c reg word) inst one;
  sp = refl;
  memory = refl;
  flags = refl;
  put = put_same c reg word;
  others = put_other c reg word;
  words = put_words c reg word words small;
}

-- ---- loads and stores

loads : (reg rn units at w : ℕ) (r : Registers) (m : ℕ → Option ℕ) → reg ≤ 30 → access_address LdrX rn units r ≡ at → read_word m at 8 ≡ Some w
    → step_of (Access LdrX reg rn units) r m ≡ goes_on (put r reg w) m
unfolding step_of access
loads reg rn units at w r m le is there = rw (is, there, ne_eqb reg 31 (λ e. omega arith)) refl

stores : (reg rn units at : ℕ) (r : Registers) (m : ℕ → Option ℕ) → reg ≤ 30 → access_address StrX rn units r ≡ at → is_mapped m at 8 ≡ true
    → step_of (Access StrX reg rn units) r m ≡ goes_on r (write_word m at 8 (r.x reg))
unfolding step_of access
stores reg rn units at r m le is there = rw (is, there, ne_eqb reg 31 (λ e. omega arith)) refl

adds : (reg high : ℕ) (r : Registers) (m : ℕ → Option ℕ) → reg ≤ 30 → r.sp < 2 ^ 64 → r.sp + high * 4096 < 2 ^ 64
    → step_of (AddSubImm W64 false false reg 31 high true) r m ≡ goes_on (put r reg (r.sp + high * 4096)) m
unfolding step_of add_sub_imm
adds reg high r m le small room =
    let e : (r.sp % 2 ^ 64 + high * 4096 + 0) % 2 ^ 64 ≡ r.sp + high * 4096 = omega arith in
    rw (ne_eqb reg 31 (λ e. omega arith), e) refl

-- where a word of the frame stands
pub record IsPlaced (z : Setting) (c : Machine) (offset : ℕ) : Type 0 where
  pub sp : c.registers.sp ≡ z.entry.sp - z.frame.bytes
  pub small : z.entry.sp < 2 ^ 64
  pub room : z.frame.bytes ≤ z.entry.sp
  pub limit : z.frame.bytes < 2 ^ 21
  pub place : IsWordOffset z.frame.bytes offset
  pub aligned : z.frame.bytes % 8 ≡ 0

at_address : (sp bytes offset : ℕ) → sp < 2 ^ 64 → bytes ≤ sp → bytes % 8 ≡ 0 → offset % 8 ≡ 0 → 8 ≤ offset → offset + 16 ≤ bytes
    → (sp - bytes + (bytes - 16 - offset) / 8 * 8) % 2 ^ 64 ≡ sp - 16 - offset
at_address sp bytes offset small room aligned whole ends begins = omega arith

far_room : (sp bytes offset : ℕ) → sp < 2 ^ 64 → bytes ≤ sp → offset + 16 ≤ bytes → sp - bytes + (bytes - 16 - offset) / 4096 * 4096 < 2 ^ 64
far_room sp bytes offset small room begins = omega arith

far_address : (sp bytes offset : ℕ) → sp < 2 ^ 64 → bytes ≤ sp → bytes % 8 ≡ 0 → offset % 8 ≡ 0 → 8 ≤ offset → offset + 16 ≤ bytes
    → (sp - bytes + (bytes - 16 - offset) / 4096 * 4096 + (bytes - 16 - offset) % 4096 / 8 * 8) % 2 ^ 64 ≡ sp - 16 - offset
far_address sp bytes offset small room aligned whole ends begins = omega arith

at_or_above : (sp bytes offset i : ℕ) → sp < 2 ^ 64 → bytes ≤ sp → 8 ≤ offset → offset + 16 ≤ bytes → i < 8 → sp - bytes ≤ byte_address (sp - 16 - offset) i
at_or_above sp bytes offset i small room ends begins lt = omega arith

-- an access at an address that is at SP or above
pub touches_word : (c : Machine) (inst : Inst) (at : ℕ) → ((pc : ℕ) → touched inst (moved_to pc c).registers ≡ Some (at, 8))
    → ((i : ℕ) → i < 8 → c.registers.sp ≤ byte_address at i) → TouchesWell c inst
touches_word c inst at is above pc other n i some lt =
    let both : (at, 8) ≡ (other, n) = same_Some (at, 8) (other, n) (sym (is pc) ∙ some) in
    let first : at ≡ other = ap (λ (p : ℕ × ℕ). p.0) both in
    let count : 8 ≡ n = ap (λ (p : ℕ × ℕ). p.1) both in
    subst (λ (x : ℕ). c.registers.sp ≤ byte_address x i) first (above i (omega (arith, count)))

module _ (z : Setting) where
  above_placed : (c : Machine) (offset : ℕ) → IsPlaced z c offset → (i : ℕ) → i < 8 → c.registers.sp ≤ byte_address (frame_pointer_of z.entry - offset) i
  above_placed c offset p i lt = rw p.sp (at_or_above z.entry.sp z.frame.bytes offset i p.small p.room p.place.ends p.place.begins lt)

  near_is : (c : Machine) (offset : ℕ) → IsPlaced z c offset → (c.registers.sp + above_sp z.frame offset / 8 * 8) % 2 ^ 64 ≡ frame_pointer_of z.entry - offset
  near_is c offset p = rw p.sp (at_address z.entry.sp z.frame.bytes offset p.small p.room p.aligned p.place.aligned p.place.ends p.place.begins)

  far_is : (c : Machine) (offset : ℕ) → IsPlaced z c offset
      → (c.registers.sp + above_sp z.frame offset / 4096 * 4096 + above_sp z.frame offset % 4096 / 8 * 8) % 2 ^ 64 ≡ frame_pointer_of z.entry - offset
  far_is c offset p = rw p.sp (far_address z.entry.sp z.frame.bytes offset p.small p.room p.aligned p.place.aligned p.place.ends p.place.begins)

  high_is : (c : Machine) (offset : ℕ) → IsPlaced z c offset → c.registers.sp + above_sp z.frame offset / 4096 * 4096 < 2 ^ 64
  high_is c offset p = rw p.sp (far_room z.entry.sp z.frame.bytes offset p.small p.room p.place.begins)

  -- one load
  load_one : (c : Machine) (reg rn units offset w : ℕ) → IsWhole z c → reg ≤ 30 → reg ≢ 18 → IsPlaced z c offset
      → ((pc : ℕ) → access_address LdrX rn units (moved_to pc c).registers ≡ frame_pointer_of z.entry - offset) → word_below z c offset ≡ Some w
      → DoesOne z c (Access LdrX reg rn units) (with_reg c reg w)
  load_one c reg rn units offset w whole le other p is there =
      let at : ℕ = frame_pointer_of z.entry - offset in
      does_safely z c (with_reg c reg w) (Access LdrX reg rn units) whole
      (touches_word c (Access LdrX reg rn units) at (λ pc. ap (λ a. Some (a, 8)) (is pc)) (above_placed c offset p))
      (put_other c reg w 18 (λ e. other (sym e)))
      (λ pc. loads reg rn units at w (moved_to pc c).registers c.memory le (is pc) there)

  store_one : (c : Machine) (reg rn units offset : ℕ) → IsWhole z c → reg ≤ 30 → IsPlaced z c offset
      → ((pc : ℕ) → access_address StrX rn units (moved_to pc c).registers ≡ frame_pointer_of z.entry - offset)
      → is_mapped c.memory (frame_pointer_of z.entry - offset) 8 ≡ true
      → DoesOne z c (Access StrX reg rn units) (with_memory c (write_word c.memory (frame_pointer_of z.entry - offset) 8 (c.registers.x reg)))
  store_one c reg rn units offset whole le p is mapped =
      let at : ℕ = frame_pointer_of z.entry - offset in
      does_safely z c (with_memory c (write_word c.memory at 8 (c.registers.x reg))) (Access StrX reg rn units) whole
      (touches_word c (Access StrX reg rn units) at (λ pc. ap (λ a. Some (a, 8)) (is pc)) (above_placed c offset p))
      refl
      (λ pc. stores reg rn units at (moved_to pc c).registers c.memory le (is pc) mapped)

  add_one : (c : Machine) (reg high : ℕ) → IsWhole z c → reg ≤ 30 → reg ≢ 18 → AreWords c.registers → c.registers.sp + high * 4096 < 2 ^ 64
      → DoesOne z c (AddSubImm W64 false false reg 31 high true) (with_reg c reg (c.registers.sp + high * 4096))
  add_one c reg high whole le other words room =
      puts_one z c (AddSubImm W64 false false reg 31 high true) reg (c.registers.sp + high * 4096) whole other (λ pc. refl)
      (λ pc. adds reg high (moved_to pc c).registers c.memory le words.sp room)

  -- a word of the frame is loaded
  pub load_puts : (c : Machine) (reg offset w : ℕ) → IsWhole z c → AreWords c.registers → reg ≤ 30 → reg ≢ 18 → IsPlaced z c offset → w < 2 ^ 64
      → word_below z c offset ≡ Some w → Puts z c (load_at reg (above_sp z.frame offset)) reg w
  unfolding load_at
  load_puts c reg offset w whole words le other p small there =
      elim (nat_le (above_sp z.frame offset) 32760) as (λ b. Puts z c (if b then Access LdrX reg 31 (above_sp z.frame offset / 8) ∷ [] else
      AddSubImm W64 false false reg 31 (above_sp z.frame offset / 4096) true ∷ Access LdrX reg reg (above_sp z.frame offset % 4096 / 8) ∷ []) reg w) [
        | true ↦ puts_by_one z c (Access LdrX reg 31 (above_sp z.frame offset / 8)) reg w
            (load_one c reg 31 (above_sp z.frame offset / 8) offset w whole le other p (λ pc. near_is c offset p) there) words small
        | false ↦
            let high : ℕ = above_sp z.frame offset / 4096 in
            let low : ℕ = above_sp z.frame offset % 4096 / 8 in
            let d : Machine = with_reg c reg (c.registers.sp + high * 4096) in
            let q : IsPlaced z d offset = record { sp = p.sp; small = p.small; room = p.room; limit = p.limit; place = p.place; aligned = p.aligned } in
            let is : (pc : ℕ) → access_address LdrX reg low (moved_to pc d).registers ≡ frame_pointer_of z.entry - offset =
            λ pc. rw (ne_eqb reg 31 (λ e. omega arith), eq-eqb reg reg refl) (far_is c offset p) in
            let one = add_one c reg high whole le other words (high_is c offset p) in
            let two = load_one d reg reg low offset w (whole_same z c d refl refl whole) le other q is there in
            record {
              after = with_reg d reg w;
              does = does_first z c d (with_reg d reg w) (AddSubImm W64 false false reg 31 high true) (Access LdrX reg reg low ∷ []) one
                  (does_one z d (with_reg d reg w) (Access LdrX reg reg low) two);
              sp = refl;
              memory = refl;
              flags = refl;
              put = put_same d reg w;
              others = λ r differ. put_other d reg w r differ ∙ put_other c reg (c.registers.sp + high * 4096) r differ;
              words = put_words d reg w (put_words c reg (c.registers.sp + high * 4096) words (high_is c offset p)) small;
            }
      ]

  -- a register's word is stored in one of the frame
  pub store_puts : (c : Machine) (reg offset : ℕ) → IsWhole z c → AreWords c.registers → reg ≤ 30 → reg ≢ 15 → IsPlaced z c offset
      → is_mapped c.memory (frame_pointer_of z.entry - offset) 8 ≡ true
      → Stores z c (store_at reg (above_sp z.frame offset)) (frame_pointer_of z.entry - offset) (c.registers.x reg)
  unfolding store_at
  store_puts c reg offset whole words le other p mapped =
      elim (nat_le (above_sp z.frame offset) 32760) as (λ b. Stores z c (if b then Access StrX reg 31 (above_sp z.frame offset / 8) ∷ [] else
      AddSubImm W64 false false 15 31 (above_sp z.frame offset / 4096) true ∷ Access StrX reg 15 (above_sp z.frame offset % 4096 / 8) ∷ [])
      (frame_pointer_of z.entry - offset) (c.registers.x reg)) [
        | true ↦
            let after : Machine = with_memory c (write_word c.memory (frame_pointer_of z.entry - offset) 8 (c.registers.x reg)) in
            record {
              after = after;
              does = does_one z c after (Access StrX reg 31 (above_sp z.frame offset / 8))
                  (store_one c reg 31 (above_sp z.frame offset / 8) offset whole le p (λ pc. near_is c offset p) mapped);
              sp = refl;
              memory = refl;
              others = λ r differ. refl;
              words = words;
            }
        | false ↦
            let high : ℕ = above_sp z.frame offset / 4096 in
            let low : ℕ = above_sp z.frame offset % 4096 / 8 in
            let d : Machine = with_reg c 15 (c.registers.sp + high * 4096) in
            let q : IsPlaced z d offset = record { sp = p.sp; small = p.small; room = p.room; limit = p.limit; place = p.place; aligned = p.aligned } in
            let one = add_one c 15 high whole (omega arith) (λ e. omega arith) words (high_is c offset p) in
            let two = store_one d reg 15 low offset (whole_same z c d refl refl whole) le q (λ pc. far_is c offset p) mapped in
            let after : Machine = with_memory d (write_word d.memory (frame_pointer_of z.entry - offset) 8 (d.registers.x reg)) in
            record {
              after = after;
              does = does_first z c d after (AddSubImm W64 false false 15 31 high true) (Access StrX reg 15 low ∷ []) one
                  (does_one z d after (Access StrX reg 15 low) two);
              sp = refl;
              memory = ap (write_word c.memory (frame_pointer_of z.entry - offset) 8) (put_other c 15 (c.registers.sp + high * 4096) reg other);
              others = put_other c 15 (c.registers.sp + high * 4096);
              words = put_words c 15 (c.registers.sp + high * 4096) words (high_is c offset p);
            }
      ]
