-- The definitions computed on worked values. No public clause cites this module.
use Rattle.std.proofs.Common.{◌≡◌, ℕ, ◌+◌, ◌-◌, ◌*◌, ◌^◌, ◌<◌, ◌≤◌, ◌≢◌, true, false, List, [], ◌∷◌, ◌++◌, Some, None, refl, length, ap, arith, inl, lit≤, subst}
use Rattle.std.specs.Prelude.{All, AllPairs, replicate, nat_eq, nat_le, if◌then◌else◌}
use Rattle.b3_base.specs.Memory.{read_word, write_word}
use Rattle.b3_base.specs.Observed.{no_memory}
use Rattle.b3_base.specs.declared.word.Width.TheVariants.{W32, W64}
use Rattle.b3_ir.specs.declared.opcode.Opcode.TheVariants.{Patchpoint}
use Rattle.b3_ir.specs.declared.opcode.Ty.TheVariants.{Int64}
use Rattle.b3_ir.specs.declared.value.Body.TheVariants.{Map}
use Rattle.b3_ir.specs.declared.value.Constraint.{Constraint}
use Rattle.b3_ir.specs.declared.value.Constraint.TheVariants.{LateColdAny, SomeRegister, SomeEarlyRegister, SomeLateRegister, Fixed}
use Rattle.b3_ir.specs.declared.value.Reg.{Reg}
use Rattle.b3_ir.specs.declared.value.Stackmap.{Stackmap}
use Rattle.b3_ir.specs.declared.value.Value.{Value}
use Rattle.stackmap.specs.Placing.{allowed, placed_count, register_for, result_register}
use Rattle.std.proofs.lemmas.List.Elements.{All-cons, All-nil}
use Rattle.std.proofs.lemmas.List.Kept.{AllPairs-cons}
use Rattle.std.proofs.lemmas.Nat.Bits.{bit_at-zero}
use Rattle.stackmap.specs.Registers.{allocatable, fixed_by, has, has_result, is_late, stackmap_in}
use Rattle.stackmap.specs.Rules.{FixApart, FixesAllocatable, FixesApart, IsAllocatable, HasRegisters, IsPlaceable, NamesConstraints, NamesRegisters}
use Rattle.stackmap.specs.World.{registers_after, words_in}
use Rattle.stackmap.specs.declared.site.Rep.TheVariants.{Register, Slot, Constant}
use Rattle.stackmap.specs.declared.site.Site.{Site}
use Rattle.stackmap.specs.declared.site.SiteKind.TheVariants as kind

abbrev pub x : ℕ → Reg
x r = record { 0 = r }

-- a Patchpoint of three children: one fixed, one late in some register, one late anywhere
abbrev pub filled_map : Stackmap
filled_map = record {
  constraints = Fixed (x 3) ∷ SomeLateRegister ∷ LateColdAny ∷ [];
  result = SomeEarlyRegister;
  early = 0;
  late = 2 ^ 15 - 1;
  size = 4;
}

abbrev filled_in : Value
filled_in = record {
  id = 3;
  ty = Int64;
  kind = record { opcode = Patchpoint; chill = false; traps = false };
  children = 0 ∷ 1 ∷ 2 ∷ [];
  body = Map filled_map;
  line = 6;
}

fixed : register_for filled_in 0 ≡ Some (x 3)
unfolding allocatable
fixed = refl

some_late : register_for filled_in 1 ≡ Some (x 19)
unfolding allocatable
some_late = refl

anywhere : register_for filled_in 2 ≡ None
unfolding allocatable
anywhere = refl

-- a fact of each of its constraints, and of each two
of_each : (P : Constraint → Type 0) → P (Fixed (x 3)) → P SomeLateRegister → P LateColdAny → All P filled_map.constraints
of_each P a b c =
    All-cons P (Fixed (x 3)) (SomeLateRegister ∷ LateColdAny ∷ []) a
    (All-cons P SomeLateRegister (LateColdAny ∷ []) b (All-cons P LateColdAny [] c (All-nil P)))

of_each_two : (R : Constraint → Constraint → Type 0) → R (Fixed (x 3)) SomeLateRegister → R (Fixed (x 3)) LateColdAny → R SomeLateRegister LateColdAny
    → AllPairs R filled_map.constraints
of_each_two R ab ac bc =
    AllPairs-cons R (Fixed (x 3)) (SomeLateRegister ∷ LateColdAny ∷ [])
    (All-cons (R (Fixed (x 3))) SomeLateRegister (LateColdAny ∷ []) ab (All-cons (R (Fixed (x 3))) LateColdAny [] ac (All-nil (R (Fixed (x 3))))))
    (AllPairs-cons R SomeLateRegister (LateColdAny ∷ []) (All-cons (R SomeLateRegister) LateColdAny [] bc (All-nil (R SomeLateRegister)))
    (AllPairs-cons R LateColdAny [] (All-nil (R LateColdAny)) (λ i j d less (within : j < 0). absurd (omega arith))))

never_fixed : (c : Constraint) (P : Reg → Type 0) → fixed_by c ≡ None → (reg : Reg) → fixed_by c ≡ Some reg → P reg
never_fixed c P none reg e = absurd (cc)

-- it keeps every rule on stackmaps
names_constraints : NamesConstraints true filled_map
names_constraints = record { children = of_each (λ c. c ≢ SomeEarlyRegister) (λ e. cc) (λ e. cc) (λ e. cc); result = λ _. tt }

fixes_x3 : FixesAllocatable (Fixed (x 3))
fixes_x3 reg e = inl (let same : x 3 ≡ reg = cc in subst (λ (r : Reg). r.0 ≤ 14) same (lit≤ tt))

names_registers : NamesRegisters true filled_map
names_registers = record {
  children = of_each FixesAllocatable fixes_x3 (never_fixed SomeLateRegister IsAllocatable refl) (never_fixed LateColdAny IsAllocatable refl);
  result = λ _. never_fixed SomeEarlyRegister IsAllocatable refl;
  early = (refl, refl);
  late = (refl, refl);
}

fixes_apart : FixesApart true filled_map
fixes_apart = record {
  children = of_each_two FixApart (λ reg _. never_fixed SomeLateRegister (λ _. ⊥) refl reg)
      (λ reg _. never_fixed LateColdAny (λ _. ⊥) refl reg) (λ reg _. never_fixed LateColdAny (λ _. ⊥) refl reg);
  early = of_each (λ c. (reg : Reg) → fixed_by c ≡ Some reg → has filled_map.early reg.0 ≡ false) (λ reg e. has_none reg.0)
      (never_fixed SomeLateRegister (λ reg. has 0 reg.0 ≡ false) refl) (never_fixed LateColdAny (λ reg. has 0 reg.0 ≡ false) refl);
  late = of_each (λ c. is_late c ≡ true → (reg : Reg) → fixed_by c ≡ Some reg → has filled_map.late reg.0 ≡ false) (λ late. absurd (cc))
      (λ _. never_fixed SomeLateRegister (λ reg. has filled_map.late reg.0 ≡ false) refl)
      (λ _. never_fixed LateColdAny (λ reg. has filled_map.late reg.0 ≡ false) refl);
  late_result = of_each (λ c. is_late c ≡ true → true ≡ true → FixApart c filled_map.result) (λ late _ reg _. never_fixed SomeEarlyRegister (λ _. ⊥) refl reg)
      (λ _ _ reg _. never_fixed SomeEarlyRegister (λ _. ⊥) refl reg) (λ _ _ reg _. never_fixed SomeEarlyRegister (λ _. ⊥) refl reg);
  result = λ _. never_fixed SomeEarlyRegister (λ reg. has filled_map.late reg.0 ≡ false) refl;
}
  where
    has_none : (r : ℕ) → has 0 r ≡ false
    has_none r = rw (bit_at-zero r)

has_registers : HasRegisters true filled_map
unfolding allocatable
has_registers = lit≤ tt

-- and so does any value that carries it and has a result
pub is_placeable : (v : Value) → v.body ≡ Map filled_map → has_result v ≡ true → IsPlaceable v
is_placeable v body typed = record {
  stackmap = filled_map;
  carries = ap stackmap_in body;
  constraints = rw typed names_constraints;
  registers = rw typed names_registers;
  apart = rw typed fixes_apart;
  enough = rw typed has_registers;
}

not_reported : register_for filled_in 3 ≡ None
unfolding allocatable
not_reported = refl

early_result : result_register filled_in ≡ Some (x 20)
unfolding allocatable
early_result = refl

-- so many children in some register, with no result
abbrev crowd : ℕ → Stackmap
crowd n = record { constraints = replicate n SomeRegister; result = SomeRegister; early = 0; late = 0; size = 1 }

all_are_asked_for : nat_le (placed_count (crowd 25).constraints) (length (allowed (crowd 25) false)) ≡ true
unfolding allocatable
all_are_asked_for = refl

one_too_many : nat_le (placed_count (crowd 26).constraints) (length (allowed (crowd 26) false)) ≡ false
unfolding allocatable
one_too_many = refl

result_too_many : nat_le (placed_count (crowd 25).constraints + 1) (length (allowed (crowd 25) true)) ≡ false
unfolding allocatable
result_too_many = refl

-- registers with 5 in the upper half and the register's number in the lower, but 0x1000 in x29
abbrev registers : ℕ → ℕ
registers r = if nat_eq r 29 then 0x1000 else 5 * 2 ^ 32 + r

words : words_in registers (write_word no_memory 0xFF0 8 77)
    (record { width = W32; rep = Register (x 7) } ∷ record { width = W64; rep = Register (x 7) }
    ∷ record { width = W64; rep = Slot 16 } ∷ record { width = W32; rep = Constant 9 } ∷ [])
    ≡ Some (7 ∷ (5 * 2 ^ 32 + 7) ∷ 77 ∷ 9 ∷ [])
unfolding read_word write_word
words = refl

no_bytes : words_in registers no_memory (record { width = W32; rep = Register (x 7) } ∷ record { width = W64; rep = Slot 16 } ∷ []) ≡ None
unfolding read_word
no_bytes = refl

-- a site with a result of 32 bits in x0 that changes x1 too
abbrev short_result : Site
short_result = record { kind = kind.Patchpoint; value = 3; size = 4; reps = []; result = Some (W32, x 0); clobbers = 2 }

-- junk words of all ones
abbrev ones : ℕ → ℕ
ones _ = 2 ^ 64 - 1

result_below_junk : registers_after short_result ones 0 6 registers 0 ≡ (2 ^ 32 - 1) * 2 ^ 32 + 6
result_below_junk = refl

clobbered_is_junk : registers_after short_result ones 0 6 registers 1 ≡ 2 ^ 64 - 1
clobbered_is_junk = refl

others_stay : registers_after short_result ones 0 6 registers 2 ≡ 5 * 2 ^ 32 + 2
others_stay = refl

-- how a value comes to carry it
pub pushed : (a b c d : List Constraint) → a ≡ [] → b ≡ a ++ Fixed (x 3) ∷ [] → c ≡ b ++ SomeLateRegister ∷ [] → d ≡ c ++ LateColdAny ∷ []
    → d ≡ filled_map.constraints
pushed a b c d ea eb ec ed = let one : b ≡ Fixed (x 3) ∷ [] = rw ea at eb in let two : c ≡ Fixed (x 3) ∷ SomeLateRegister ∷ [] = rw one at ec in rw two at ed

pub filled_by : (constraints : List Constraint) (early late : ℕ) → constraints ≡ filled_map.constraints → early ≡ 0 → late ≡ 2 ^ 15 - 1
    → record { constraints = constraints; result = SomeEarlyRegister; early = early; late = late; size = 4 } ≡ filled_map
filled_by constraints early late e1 e2 e3 = rw (e1, e2, e3)
