-- What the instructions of a value do where the run of B3 goes on: the common part.
use Rattle.std.proofs.Common.{◌≡◌, ℕ, ◌+◌, ◌^◌, ◌<◌, true, List, ◌∷◌, ◌++◌, Some, None, refl, ap, ◌∙◌, subst}
use Rattle.std.specs.Prelude.{Contains, slice_get}
use Rattle.b3_base.specs.Observed.{Start}
use Rattle.b3_base.specs.Ranged.{IsRangedStart}
use Rattle.b3_base.specs.Word.{bits}
use Rattle.b3_base.specs.declared.observation.Status.{Status}
use Rattle.b3_base.specs.declared.word.Width.{Width}
use Rattle.b3_ir.specs.Naming.{type_of, value_named}
use Rattle.b3_ir.specs.Procedure.{Procedure, values_of}
use Rattle.b3_ir.specs.Types.{AllowsTypes, width_of}
use Rattle.b3_ir.specs.declared.opcode.Opcode.TheVariants as opcode
use Rattle.b3_ir.specs.declared.value.Body.TheVariants.{Argument}
use Rattle.b3_ir.specs.declared.value.Reg.{Reg}
use Rattle.b3_ir.specs.declared.value.Value.{Value}
use Rattle.b3_ir.proofs.Typing.{allowed}
use Rattle.b3_meaning.specs.Opcodes.{AreWordsOf, Gives, Misfits, Outcome, Undefines, result}
use Rattle.b3_meaning.specs.Roles.{role_of}
use Rattle.b3_meaning.specs.Run as b3
use Rattle.b3_meaning.specs.declared.role.Role.TheVariants as role
use Rattle.b3_rules.specs.Rules.{types_of}
use Rattle.b3_sound.specs.Laws.{StandsAfter}
use Rattle.b3_sound.proofs.Distinct.{value_of_id}
use Rattle.b3_sound.proofs.Keeping.{child_words, in_block}
use Rattle.b3_sound.proofs.Kept.{IsKept, KeepsRules}
use Rattle.b3_sound.proofs.Reached.{IsReached}
use Rattle.b3_sound.proofs.Results.{IsBelow, limit_of, result_fits}
use Rattle.air_ir.specs.Blocks.{seen_as}
use Rattle.air_ir.specs.Meaning.{Over, To}
use Rattle.air_ir.specs.Operands.{Holds, read}
use Rattle.air_ir.specs.Steps.{Goes, Outcome as Ran, State}
use Rattle.air_select.specs.Selected.{Tables, names_argument, targets_of}
use Rattle.air_select.specs.Temporaries.{home}
use Rattle.air_fold.specs.Values.{width_at}
use Rattle.air_fold.specs.declared.known.Known.{Known}
use Rattle.air_select.proofs.Instructions.{with_home}
use Rattle.air_select.proofs.Related.{Related, holds_word, word_related}
use Rattle.air_select.proofs.Setting.{IsSound}

-- each argument is in a register that the entry moves
abbrev pub HasArguments : Procedure → Type 0
HasArguments p = (b : ℕ) (v : Value) (reg : Reg) → Contains (values_of p b) v → v.kind.opcode ≡ opcode.ArgumentReg → v.body ≡ Argument reg
    → (reg.0 < 8) × (names_argument (values_of p 0) reg.0 ≡ true)

-- a value runs: both runs have come to it, in related states
pub record Here (p : Procedure) (t : Tables) (start : Start) (v : Value) : Type 0 where
  pub valid : IsKept p
  pub sound : IsSound p t
  pub ranged : IsRangedStart start
  pub arguments : HasArguments p
  pub passed : List ℕ
  pub block : ℕ
  pub before : List Value
  pub rest : List Value
  pub stands : values_of p block ≡ before ++ v ∷ rest
  pub st : b3.State
  pub reached : IsReached p passed block before st
  pub s : State
  pub related : Related p t start st s

-- what the instructions come to, with all junk left where the run goes on, for what the value leads to
abbrev pub Does : Procedure → Tables → Start → Value → List ℕ → b3.Effect → Ran × List ℕ → Type 0
Does p t start v junk (b3.Next st) o = (s : State) × (o ≡ (Goes None s, junk)) × Related p t start st s
Does p t start v junk (b3.To block st) o =
    (k : ℕ) × (s : State) × (o ≡ (Goes (Some (To k)) s, junk)) × (slice_get (targets_of v) k ≡ Some (block + 1))
    × Related p t start st s
Does p t start v junk (b3.End (b3.Over seen)) o =
    (status : Status) × (s : State) × (rest : List ℕ) × (o ≡ (Goes (Some (Over status)) s, rest)) × (seen_as s.world status ≡ seen)
Does p t start v junk (b3.End config) o = Unit {0}

-- the same, whatever junk is left
abbrev pub DoesSome : Procedure → Tables → Start → Value → b3.Effect → Ran × List ℕ → Type 0
DoesSome p t start v e o = (rest : List ℕ) × Does p t start v rest e o

module _ (p : Procedure) (t : Tables) (start : Start) (v : Value) (h : Here p t start v) where
  pub at : StandsAfter p h.block h.before v
  at = (h.rest, h.stands)

  pub here : Contains (values_of p h.block) v
  here = in_block p h.block h.before v at

  pub named : value_named p v.id ≡ Some v
  named = value_of_id p h.valid.distinct h.block v here

  pub rules : KeepsRules p h.block h.before v
  rules = h.valid.rules h.block h.before v at

  pub allows : AllowsTypes v.kind.opcode v.ty (types_of p v)
  allows = allowed v.kind.opcode v.ty (types_of p v) rules.typed

  pub is_known : width_at t.index v.id ≡ width_of v.ty
  is_known = ap (λ (k : Known). width_of k.ty) (h.sound.is_known h.block v here)

  -- the words of its children
  pub words_here : List ℕ
  words_here = (child_words p h.valid h.block h.passed h.before h.st v at h.reached).0

  pub are_words : b3.words_of (type_of p) h.st.words v.children ≡ Some words_here
  unfolding words_here
  are_words = (child_words p h.valid h.block h.passed h.before h.st v at h.reached).1

  pub are_typed : AreWordsOf (types_of p v) words_here
  unfolding words_here
  are_typed = (child_words p h.valid h.block h.passed h.before h.st v at h.reached).2

  -- what it leads to
  pub effect_is : b3.effect (type_of p) start h.st v ≡ b3.effect_by (role_of v.kind.opcode) start h.st v (types_of p v) words_here
  effect_is =
      let all : b3.effect (type_of p) start h.st v ≡ b3.effect_on (type_of p) start h.st v (b3.words_of (type_of p) h.st.words v.children) =
      rw rules.typed refl in
      all ∙ ap (b3.effect_on (type_of p) start h.st v) are_words

  pub below_is : (limit : ℕ) (out : Outcome) (w : ℕ) → IsBelow limit out → out ≡ Gives w → w < limit
  below_is limit (Gives word) w below e = let same : word ≡ w = cc in subst (λ n. n < limit) same below
  below_is limit (Undefines u) w below e = absurd (cc)
  below_is limit Misfits w below e = absurd (cc)

  -- the word that a pure opcode gives is one of its type
  pub result_small : (w : ℕ) → role_of v.kind.opcode ≡ role.Pure → result v.kind.opcode v.kind.chill v.ty words_here (types_of p v) ≡ Gives w
      → w < 2 ^ bits (width_of v.ty)
  result_small w pure e =
      below_is (limit_of (width_of v.ty)) (result v.kind.opcode v.kind.chill v.ty words_here (types_of p v)) w
      (result_fits v.kind.opcode v.kind.chill v.ty words_here (types_of p v) pure allows are_typed) e

  module _ (junk : List ℕ) where
    pub gives_does : (out : Outcome) (o : Ran × List ℕ) → ((w : ℕ) → out ≡ Gives w → Does p t start v junk (b3.Next (b3.with_word h.st v.id w)) o)
        → Does p t start v junk (b3.gives h.st v.id out) o
    gives_does (Gives w) o does = does w refl
    gives_does (Undefines u) o does = tt
    gives_does Misfits o does = tt

    -- a word is put into its home, from a related state
    pub puts : (w : ℕ) (s : State) (o : Ran × List ℕ) → w < 2 ^ bits (width_of v.ty) → Related p t start h.st s
        → o ≡ (Goes None (with_home s (home t.index v.id) (width_of v.ty) w), junk)
        → Does p t start v junk (b3.Next (b3.with_word h.st v.id w)) o
    puts w s o small r e = (
      with_home s (home t.index v.id) (width_of v.ty) w,
      e,
      word_related p t h.sound start h.st s r v.id v named w (Holds (width_of v.ty) w)
          (ap (λ (k : Width). read k (Holds (width_of v.ty) w)) is_known ∙ holds_word (width_of v.ty) w small),
    )
