-- What renamed homes hold after the writes of an instruction.
use Rattle.std.proofs.Common.{◌≡◌, ℕ, inl, inr, Bool, true, false, List, [], ◌∷◌, map, refl, ap, ◌∙◌}
use Rattle.b3_base.specs.declared.word.Width.{Width}
use Rattle.air_ir.specs.Operands.{Held, Holds, Homes, Target, and_target, first, is_read, others, put, put_all, targets}
use Rattle.air_ir.specs.Related.{IsApart, IsTarget, Refines}
use Rattle.air_ir.specs.Renaming.{rename, rename_arg, rename_target}
use Rattle.air_ir.specs.declared.operand.Home.{Home}
use Rattle.air_ir.specs.declared.operand.Arg.{Arg}
use Rattle.air_ir.specs.declared.operand.Arg.TheVariants.{At, Imm, Addr, Index, FrameSlot}
use Rattle.air_ir.specs.declared.operand.Operand.{Operand}
use Rattle.air_ir.proofs.HomeLaws.{Refines-at, Refines-same, cases_home, put-other, put-same}

-- a home that isn't written keeps what it holds
pub put_all-other : (ts : List Target) (ws : List ℕ) (s : Homes) (h : Home) → (IsTarget h ts → ⊥) → put_all ts ws s h ≡ s h
unfolding put_all IsTarget
put_all-other [] ws s h none = refl
put_all-other (t ∷ ts) ws s h none =
    put_all-other ts (others ws) (put s t.home (Holds t.width (first ws))) h (λ w. none (inr w)) ∙ put-other s t.home h (Holds t.width (first ws)) (λ e. none (inl e))

module _ (loc : Home → Home) (Live : Home → Type 0) where
  pub put_all-refines : (ts : List Target) (ws : List ℕ) (s t : Homes) → IsApart loc Live ts
      → ((h : Home) → Live h → (IsTarget h ts → ⊥) → Refines (s h) (t (loc h)))
      → (h : Home) → Live h → Refines (put_all ts ws s h) (put_all (map (rename_target loc) ts) ws t (loc h))
  unfolding put_all IsTarget
  put_all-refines [] ws s t apart start = λ h live. start h live (λ none. none)
  put_all-refines (x ∷ ts) ws s t apart start =
      let v : Held = Holds x.width (first ws) in
      put_all-refines ts (others ws) (put s x.home v) (put t (loc x.home) v) (λ a h w live ne. apart a h (inr w) live ne)
      (λ h live rest. elim (cases_home h x.home) [
        | inl e ↦ Refines-at (put s x.home v h) (put t (loc x.home) v (loc h)) v v (put-same s x.home h v e) (put-same t (loc x.home) (loc h) v (ap loc e)) (Refines-same v v refl)
        | inr ne ↦
            Refines-at (put s x.home v h) (put t (loc x.home) v (loc h)) (s h) (t (loc h))
            (put-other s x.home h v ne) (put-other t (loc x.home) (loc h) v (apart x.home h (inl refl) live ne))
            (start h live (λ w. elim w [ inl here ↦ ne here | inr there ↦ rest there ]))
      ])

  and_target-rename : (reads : Bool) (width : Width) (arg : Arg) (rest : List Target)
      → and_target reads width (rename_arg loc arg) (map (rename_target loc) rest) ≡ map (rename_target loc) (and_target reads width arg rest)
  and_target-rename true width (At home) rest = refl
  and_target-rename false width (At home) rest = refl
  and_target-rename true width (Imm word) rest = refl
  and_target-rename false width (Imm word) rest = refl
  and_target-rename true width (Addr base offset) rest = refl
  and_target-rename false width (Addr base offset) rest = refl
  and_target-rename true width (Index base index shift) rest = refl
  and_target-rename false width (Index base index shift) rest = refl
  and_target-rename true width (FrameSlot number) rest = refl
  and_target-rename false width (FrameSlot number) rest = refl

  pub targets-rename : (os : List Operand) → targets (map (rename loc) os) ≡ map (rename_target loc) (targets os)
  unfolding targets
  targets-rename [] = refl
  targets-rename (o ∷ os) =
      ap (and_target (is_read o.role) o.width (rename_arg loc o.arg)) (targets-rename os) ∙ and_target-rename (is_read o.role) o.width o.arg (targets os)
