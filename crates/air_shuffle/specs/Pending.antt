-- Public clauses cite this module by `sequenced` alone, which needs no belief. What is left to do while moves are put
-- in order.
use Rattle.std.specs.Prelude.{◌≡◌, ◌≢◌, ℕ, ◌+◌, ◌*◌, ◌<◌, ◌≤◌, ◌⊎◌, Bool, false, if◌then◌else◌, List, [], ◌∷◌, length, Option, Some, None}
use Rattle.b3_base.specs.declared.word.Width.{Width}
use Rattle.b3_ir.specs.declared.value.Reg.{Reg as Register}
use Rattle.air_ir.specs.Operands.{Held, Empty, Holds, Homes, put, same_home, word_of}
use Rattle.air_ir.specs.declared.operand.Home.{Home}
use Rattle.air_ir.specs.declared.operand.Home.TheVariants.{Reg}
use Rattle.air_ir.specs.declared.operand.Arg.TheVariants.{At}
use Rattle.air_shuffle.specs.Moves.{IsSource, Move, from_scratch, is_self, reads, saved}

-- ---- moves by what homes hold

-- what a home holds once it was written with a word, and nothing where there is none
abbrev pub held : Width → Option ℕ → Held
held width (Some word) = Holds width word
held width None = Empty

abbrev pub taken : Homes → Move → Held
taken s c = held c.width (word_of s c.width c.from)

-- one after the other
unfoldable pub run : List Move → Homes → Homes
run [] s = s
run (c ∷ cs) s = run cs (put s c.to (taken s c))

abbrev pub HasWord : Homes → Move → Type 0
HasWord s c = (word : ℕ) × (word_of s c.width c.from ≡ Some word)

-- each finds its word when its turn comes
unfoldable pub Runs : List Move → Homes → Type 0
Runs [] s = Unit {0}
Runs (c ∷ cs) s = HasWord s c × Runs cs (put s c.to (taken s c))

unfoldable pub Has : {A : Type 0} → A → List A → Type 0
Has x [] = ⊥
Has x (y ∷ ys) = (x ≡ y) ⊎ Has x ys

-- each finds its word at once
abbrev pub AreReady : List Move → Homes → Type 0
AreReady cs s = (c : Move) → Has c cs → HasWord s c

-- all at once: each destination holds what was taken for it, and nothing else changes but the scratch
pub record Parallel (scratch : Register) (cs : List Move) (s t : Homes) : Type 0 where
  pub arrived : (c : Move) → Has c cs → t c.to ≡ taken s c
  pub kept : (h : Home) → h ≢ Reg scratch → ((c : Move) → Has c cs → h ≢ c.to) → t h ≡ s h

-- the destinations differ
unfoldable pub Differ : List Move → Type 0
Differ [] = Unit {0}
Differ (c ∷ cs) = ((d : Move) → Has d cs → d.to ≢ c.to) × Differ cs

-- ---- counting

abbrev pub one_if : Bool → ℕ
one_if b = if b then 1 else 0

-- how many moves read a home
unfoldable pub readers : Home → List Move → ℕ
readers h [] = 0
readers h (c ∷ cs) = one_if (reads h c.from) + readers h cs

-- how many moves write the scratch
unfoldable pub saves : Register → List Move → ℕ
saves scratch [] = 0
saves scratch (c ∷ cs) = one_if (same_home c.to (Reg scratch)) + saves scratch cs

-- a pending move takes two moves at most, and one once its source is saved
abbrev pub cost : Register → Move → ℕ
cost scratch c = if reads (Reg scratch) c.from then 1 else 2

unfoldable pub costs : Register → List Move → ℕ
costs scratch [] = 0
costs scratch (c ∷ cs) = cost scratch c + costs scratch cs

-- each goes up by the ranks of homes
abbrev pub Up : (Home → ℕ) → List Move → Type 0
Up rank cs = (c : Move) → Has c cs → (h : Home) → c.from ≡ At h → rank h < rank c.to

-- a move that is done is one of the whole or a part of it
pub record IsDrawn (scratch : Register) (whole : List Move) (c : Move) : Type 0 where
  pub given : Move
  pub has : Has given whole
  pub is : (c ≡ given) ⊎ ((c ≡ saved scratch given) ⊎ (c ≡ from_scratch scratch given))
  pub goes : is_self c ≡ false

-- a pending move is one of the whole, or takes its word from the scratch
pub record IsDue (scratch : Register) (whole : List Move) (c : Move) : Type 0 where
  pub given : Move
  pub has : Has given whole
  pub is : (c ≡ given) ⊎ (c ≡ from_scratch scratch given)
  pub goes : is_self c ≡ false

-- the moves that are done and those that are pending do what the whole does
pub record Going (scratch : Register) (whole done pending : List Move) : Type 0 where
  pub means : (s t : Homes) → Parallel scratch pending (run done s) t → Parallel scratch whole s t
  pub runs : (s : Homes) → AreReady whole s → Runs done s × AreReady pending (run done s)
  pub bound : length done + costs scratch pending ≤ 2 * length whole
  pub made : length done + length pending ≡ length whole + saves scratch done
  pub plain : (rank : Home → ℕ) → Up rank whole → (saves scratch done ≡ 0) × Up rank pending
  pub differ : Differ pending
  pub apart : (c : Move) → Has c pending → c.to ≢ Reg scratch
  pub sources : (c : Move) → Has c pending → IsSource c.from
  pub drawn : (c : Move) → Has c done → IsDrawn scratch whole c
  pub due : (c : Move) → Has c pending → IsDue scratch whole c
