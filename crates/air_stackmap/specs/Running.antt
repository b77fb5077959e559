-- What the moves of a site leave, and what its operands read.
use Rattle.std.specs.Prelude.{◌≡◌, ℕ, suc, List, [], ◌∷◌, Option, Some, None}
use Rattle.b3_base.specs.declared.word.Width.{Width}
use Rattle.b3_ir.specs.declared.value.Reg.{Reg as Register}
use Rattle.b3_ir.specs.declared.value.Value.{Value}
use Rattle.stackmap.specs.Placing.{register_for}
use Rattle.air_ir.specs.Expressed.{IsTemporary}
use Rattle.air_ir.specs.Operands.{Holds, Homes, Read, put, word_of}
use Rattle.air_ir.specs.declared.operand.Arg.{Arg}
use Rattle.air_ir.specs.declared.operand.Arg.TheVariants.{At, Imm, Addr, Index, FrameSlot}
use Rattle.air_ir.specs.declared.operand.Home.TheVariants.{Reg}
use Rattle.air_stackmap.specs.SiteCode.{arg_of}
use Rattle.air_stackmap.specs.declared.child.Child.{Child}

-- the children have these words: each constant its own, and any other child the one in its home
unfoldable pub HaveWords : Homes → List Child → List ℕ → Type 0
HaveWords homes [] [] = Unit {0}
HaveWords homes (c ∷ cs) (w ∷ ws) = (word_of homes c.width (arg_of c) ≡ Some w) × HaveWords homes cs ws
HaveWords homes _ _ = ⊥

-- each child that isn't a constant stands in a temporary
abbrev pub StandsFree : Child → Type 0
StandsFree c = c.constant ≡ None → IsTemporary c.home

-- an argument names temporaries alone
abbrev pub IsFree : Arg → Type 0
IsFree (At home) = IsTemporary home
IsFree (Imm word) = Unit {0}
IsFree (Addr base offset) = IsTemporary base
IsFree (Index base index shift) = IsTemporary base × IsTemporary index
IsFree (FrameSlot number) = Unit {0}

-- the homes with a word in the register that is given, if one is
abbrev pub put_in : Homes → Option Register → Width → ℕ → Homes
put_in homes (Some reg) width w = put homes (Reg reg) (Holds width w)
put_in homes None width w = homes

-- the homes after the moves of the children, from reported child k on
unfoldable pub moved_homes : Value → ℕ → List Child → List ℕ → Homes → Homes
moved_homes v k (c ∷ cs) (w ∷ ws) homes = moved_homes v (suc k) cs ws (put_in homes (register_for v k) c.width w)
moved_homes v k _ _ homes = homes

-- the words of the children, each with its width
unfoldable pub reads_of : List Child → List ℕ → List Read
reads_of (c ∷ cs) (w ∷ ws) = (c.width, w) ∷ reads_of cs ws
reads_of _ _ = []
