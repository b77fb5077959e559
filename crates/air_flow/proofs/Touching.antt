-- The touches of an instruction against the homes that it reads and writes.
use Rattle.std.proofs.Common.{◌≡◌, ℕ, ◌⊎◌, inl, inr, Bool, true, false, Option, Some, None, List, [], ◌∷◌, map, refl, ap, sym, ◌∙◌, subst}
use Rattle.std.specs.List.{cons_option, filter_map}
use Rattle.b3_base.specs.declared.word.Width.{Width}
use Rattle.flow_live.specs.Graph.{IsDefOf, IsUseOf}
use Rattle.flow_live.specs.declared.touch.Touch.{Touch}
use Rattle.flow_live.specs.declared.touch.Touch.TheVariants as touch
use Rattle.air_ir.specs.Operands.{Target, and_target, is_read, targets}
use Rattle.air_ir.specs.Related.{IsOneOf, IsTarget, IsUsed, homes_of, read_homes}
use Rattle.air_ir.specs.declared.operand.Arg.{Arg}
use Rattle.air_ir.specs.declared.operand.Arg.TheVariants.{At, Imm, Addr, Index, FrameSlot}
use Rattle.air_ir.specs.declared.operand.Home.{Home}
use Rattle.air_ir.specs.declared.operand.Operand.{Operand}
use Rattle.air_ir.specs.declared.operand.Role.{Role}
use Rattle.air_ir.specs.declared.operand.Role.TheVariants.{Use, LateUse, EarlyDef, Def, Clobber}
use Rattle.air_flow.specs.Flow.{name_of, operand_touches, touch_as, touches_of, written_as}
use Rattle.air_flow.specs.Living.{IsNamedIn}
use Rattle.air_flow.proofs.Among.{Among, among-left, among-right, among-append}

-- a home of an operand that has a name is touched by it
put-front : (x : Option ℕ) (way : ℕ → Touch) (P : Touch → Type 0) (ns : List ℕ) (n : ℕ) → x ≡ Some n → P (way n) → Among P (map way (cons_option x ns))
unfolding Among
put-front (Some m) way P ns n e a = inl (let same : n ≡ m = cc in subst (λ (k : ℕ). P (way k)) same a)
put-front None way P ns n e a = absurd (cc)

put-behind : (x : Option ℕ) (way : ℕ → Touch) (P : Touch → Type 0) (ns : List ℕ) → Among P (map way ns) → Among P (map way (cons_option x ns))
unfolding Among
put-behind (Some m) way P ns a = inr a
put-behind None way P ns a = a

among-names : (names : Home → Option ℕ) (way : ℕ → Touch) (P : Touch → Type 0) (hs : List Home) (h : Home) (n : ℕ) → IsOneOf h hs
    → names h ≡ Some n → P (way n) → Among P (map way (filter_map names hs))
unfolding IsOneOf
among-names names way P [] h n is e a = absurd is
among-names names way P (g ∷ gs) h n (inl is) e a = put-front (names g) way P (filter_map names gs) n (ap names (sym is) ∙ e) a
among-names names way P (g ∷ gs) h n (inr is) e a = put-behind (names g) way P (filter_map names gs) (among-names names way P gs h n is e a)

-- how homes that are read are touched
written_use : (arg : Arg) (h : Home) (n : ℕ) → IsOneOf h (read_homes false arg) → IsOneOf h (homes_of arg) × IsUseOf (written_as arg n) n
unfolding IsOneOf
written_use (At home) h n is = absurd is
written_use (Imm word) h n is = absurd is
written_use (Addr base offset) h n is = (is, inl refl)
written_use (Index base index shift) h n is = (is, inl refl)
written_use (FrameSlot number) h n is = absurd is

read_use : (arg : Arg) (h : Home) → IsOneOf h (read_homes true arg) → IsOneOf h (homes_of arg)
read_use (At home) h is = is
read_use (Imm word) h is = is
read_use (Addr base offset) h is = is
read_use (Index base index shift) h is = is
read_use (FrameSlot number) h is = is

used_as : (role : Role) (arg : Arg) (h : Home) (n : ℕ) → IsOneOf h (read_homes (is_read role) arg)
    → IsOneOf h (homes_of arg) × IsUseOf (touch_as role arg n) n
used_as Use arg h n is = (read_use arg h is, inl refl)
used_as LateUse arg h n is = (read_use arg h is, inr refl)
used_as EarlyDef arg h n is = written_use arg h n is
used_as Def arg h n is = written_use arg h n is
used_as Clobber arg h n is = written_use arg h n is

-- what is written
module _ (names : Home → Option ℕ) where
  abbrev pub Written : ℕ → List Target → Type 0
  Written n ts = (h : Home) × IsTarget h ts × (names h ≡ Some n)

  no_def : (way : ℕ → Touch) (n : ℕ) → ((m : ℕ) → IsDefOf (way m) n → ⊥) → (ns : List ℕ) → Among (λ t. IsDefOf t n) (map way ns) → ⊥
  unfolding Among
  no_def way n none [] a = a
  no_def way n none (m ∷ ns) (inl a) = none m a
  no_def way n none (m ∷ ns) (inr a) = no_def way n none ns a

  no_use_is_def : (ns : List ℕ) (n : ℕ) → Among (λ t. IsDefOf t n) (map (λ m. touch.Use m) ns) → ⊥
  no_use_is_def ns n a = no_def (λ m. touch.Use m) n (λ m e. cc) ns a

  one_def : (x : Option ℕ) (n : ℕ) → Among (λ t. IsDefOf t n) (map (λ m. touch.Def m) (cons_option x [])) → x ≡ Some n
  unfolding Among
  one_def (Some m) n (inl a) = let same : m ≡ n = cc in ap Some same
  one_def (Some m) n (inr a) = absurd a
  one_def None n a = absurd a

  written_def : (width : Width) (arg : Arg) (rest : List Target) (n : ℕ)
      → Among (λ t. IsDefOf t n) (map (written_as arg) (filter_map names (homes_of arg))) → Written n (and_target false width arg rest)
  unfolding IsTarget
  written_def width (At home) rest n a = (home, inl refl, one_def (names home) n a)
  written_def width (Imm word) rest n a = absurd (no_use_is_def (filter_map names []) n a)
  written_def width (Addr base offset) rest n a = absurd (no_use_is_def (filter_map names (base ∷ [])) n a)
  written_def width (Index base index shift) rest n a = absurd (no_use_is_def (filter_map names (base ∷ index ∷ [])) n a)
  written_def width (FrameSlot number) rest n a = absurd (no_use_is_def (filter_map names []) n a)

  def_is_written : (role : Role) (width : Width) (arg : Arg) (rest : List Target) (n : ℕ)
      → Among (λ t. IsDefOf t n) (map (touch_as role arg) (filter_map names (homes_of arg))) → Written n (and_target (is_read role) width arg rest)
  def_is_written Use width arg rest n a = absurd (no_def (touch_as Use arg) n (λ m e. cc) (filter_map names (homes_of arg)) a)
  def_is_written LateUse width arg rest n a = absurd (no_def (touch_as LateUse arg) n (λ m e. cc) (filter_map names (homes_of arg)) a)
  def_is_written EarlyDef width arg rest n a = written_def width arg rest n a
  def_is_written Def width arg rest n a = written_def width arg rest n a
  def_is_written Clobber width arg rest n a = written_def width arg rest n a

-- an operand's target stands before those behind it
behind : (reads : Bool) (width : Width) (arg : Arg) (rest : List Target) (h : Home) → IsTarget h rest → IsTarget h (and_target reads width arg rest)
unfolding IsTarget
behind false width (At home) rest h is = inr is
behind false width (Imm word) rest h is = is
behind false width (Addr base offset) rest h is = is
behind false width (Index base index shift) rest h is = is
behind false width (FrameSlot number) rest h is = is
behind true width (At home) rest h is = is
behind true width (Imm word) rest h is = is
behind true width (Addr base offset) rest h is = is
behind true width (Index base index shift) rest h is = is
behind true width (FrameSlot number) rest h is = is

-- the target of an operand is a home that it writes
at_home : (arg : Arg) (h : Home) → arg ≡ At h → IsOneOf h (homes_of arg)
unfolding IsOneOf
at_home arg h e = rw e (inl refl)

written_is : (width : Width) (arg : Arg) (rest : List Target) (h : Home) → IsTarget h (and_target false width arg rest)
    → ((arg ≡ At h) × ((n : ℕ) → written_as arg n ≡ touch.Def n)) ⊎ IsTarget h rest
unfolding IsTarget
written_is width (At home) rest h (inl is) = inl (ap At (sym is), λ n. refl)
written_is width (At home) rest h (inr is) = inr is
written_is width (Imm word) rest h is = inr is
written_is width (Addr base offset) rest h is = inr is
written_is width (Index base index shift) rest h is = inr is
written_is width (FrameSlot number) rest h is = inr is

target_is : (role : Role) (width : Width) (arg : Arg) (rest : List Target) (h : Home) → IsTarget h (and_target (is_read role) width arg rest)
    → ((arg ≡ At h) × ((n : ℕ) → touch_as role arg n ≡ touch.Def n)) ⊎ IsTarget h rest
unfolding IsTarget
target_is Use width (At home) rest h is = inr is
target_is Use width (Imm word) rest h is = inr is
target_is Use width (Addr base offset) rest h is = inr is
target_is Use width (Index base index shift) rest h is = inr is
target_is Use width (FrameSlot number) rest h is = inr is
target_is LateUse width (At home) rest h is = inr is
target_is LateUse width (Imm word) rest h is = inr is
target_is LateUse width (Addr base offset) rest h is = inr is
target_is LateUse width (Index base index shift) rest h is = inr is
target_is LateUse width (FrameSlot number) rest h is = inr is
target_is EarlyDef width arg rest h is = written_is width arg rest h is
target_is Def width arg rest h is = written_is width arg rest h is
target_is Clobber width arg rest h is = written_is width arg rest h is

module _ (tmps : ℕ) where
  pub used_is_touched : (os : List Operand) (h : Home) (n : ℕ) → name_of tmps h ≡ Some n → IsUsed h os → Among (λ t. IsUseOf t n) (touches_of tmps os)
  unfolding IsUsed
  used_is_touched [] h n e u = absurd u
  used_is_touched (o ∷ os) h n e (inl u) =
      let way = used_as o.role o.arg h n u in
      among-left (λ t. IsUseOf t n) (operand_touches tmps o) (touches_of tmps os)
      (among-names (name_of tmps) (touch_as o.role o.arg) (λ t. IsUseOf t n) (homes_of o.arg) h n way.0 e way.1)
  used_is_touched (o ∷ os) h n e (inr u) =
      among-right (λ t. IsUseOf t n) (operand_touches tmps o) (touches_of tmps os) (used_is_touched os h n e u)

  pub defined_is_target : (os : List Operand) (n : ℕ) → Among (λ t. IsDefOf t n) (touches_of tmps os) → Written (name_of tmps) n (targets os)
  unfolding targets Among
  defined_is_target [] n a = absurd a
  defined_is_target (o ∷ os) n a =
      elim (among-append (λ t. IsDefOf t n) (operand_touches tmps o) (touches_of tmps os) a) [
        | inl here ↦ def_is_written (name_of tmps) o.role o.width o.arg (targets os) n here
        | inr later ↦ let w = defined_is_target os n later in (w.0, behind (is_read o.role) o.width o.arg (targets os) w.0 w.1, w.2)
      ]

  pub target_is_defined : (os : List Operand) (h : Home) (n : ℕ) → name_of tmps h ≡ Some n → IsTarget h (targets os)
      → Among (λ t. IsDefOf t n) (touches_of tmps os)
  unfolding targets IsTarget
  target_is_defined [] h n e is = absurd is
  target_is_defined (o ∷ os) h n e is =
      elim (target_is o.role o.width o.arg (targets os) h is) [
        | inl here ↦
            among-left (λ t. IsDefOf t n) (operand_touches tmps o) (touches_of tmps os)
            (among-names (name_of tmps) (touch_as o.role o.arg) (λ t. IsDefOf t n) (homes_of o.arg) h n (at_home o.arg h here.0) e (here.1 n))
        | inr later ↦
            among-right (λ t. IsDefOf t n) (operand_touches tmps o) (touches_of tmps os) (target_is_defined os h n e later)
      ]

-- what is read or written is named
pub used_is_named : (os : List Operand) (h : Home) → IsUsed h os → IsNamedIn h os
unfolding IsUsed IsNamedIn
used_is_named [] h u = absurd u
used_is_named (o ∷ os) h (inl u) = inl (used_as o.role o.arg h 0 u).0
used_is_named (o ∷ os) h (inr u) = inr (used_is_named os h u)

pub target_is_named : (os : List Operand) (h : Home) → IsTarget h (targets os) → IsNamedIn h os
unfolding targets IsTarget IsNamedIn
target_is_named [] h is = absurd is
target_is_named (o ∷ os) h is =
    elim (target_is o.role o.width o.arg (targets os) h is) [
      | inl here ↦ inl (at_home o.arg h here.0)
      | inr later ↦ inr (target_is_named os h later)
    ]
