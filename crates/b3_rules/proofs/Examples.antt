-- The definitions computed on worked values. No public clause cites this module.
use Rattle.std.proofs.Common.{◌≡◌, ◌∙◌, ℕ, ◌-◌, ◌^◌, ◌<◌, ◌⊎◌, false, List, [], ◌∷◌, Some, zero, suc, slice_get, refl, sym, ap, subst, arith, inl, inr, lit<, lit≤, Contains, codes}
use Rattle.std.proofs.lemmas.List.Elements.{All-cons, All-nil}
use Rattle.std.proofs.lemmas.List.Kept.{AllPairs-cons}
use Rattle.b3_base.proofs.Lists.{Contains-none, Contains-cases, Contains-first}
use Rattle.b3_ir.specs.Procedure.{Block, Procedure, empty_procedure, values_of}
use Rattle.b3_ir.specs.declared.opcode.Opcode.{Opcode}
use Rattle.b3_ir.specs.declared.opcode.Opcode.TheVariants as op
use Rattle.b3_ir.specs.declared.opcode.Ty.{Ty}
use Rattle.b3_ir.specs.declared.opcode.Ty.TheVariants.{Void, Int32, Int64}
use Rattle.b3_ir.specs.declared.value.Body.{Body}
use Rattle.b3_ir.specs.declared.value.Body.TheVariants.{Plain, Constant, Argument, Cases, Targets}
use Rattle.b3_ir.specs.declared.value.Value.{Value}
use Rattle.b3_rules.specs.Breaches.{Breach, IsBreach, IsFirstBreach, IsNoLater}
use Rattle.b3_rules.specs.Paths.{IsCoveredAt, IsPath, IsSuccessor, successors_in}
use Rattle.b3_rules.specs.Rules.{AreCasesOf, CoversUses, DifferAt, IsCaseOf, first_type, types_of}
use Rattle.b3_rules.specs.Valid.{HeaderKeeps, IsPartOf, Keeps, Part, Header, SlotAt, HeadingAt, ValueAt, ValueKeeps}
use Rattle.b3_rules.specs.declared.rule.Rule.{Rule}
use Rattle.b3_rules.specs.declared.rule.Rule.TheVariants as rule
use Rattle.b3_rules.proofs.FixedApart.{no_pairs}

-- ---- cases

minus_one_is_a_case : IsCaseOf Int32 18446744073709551615
minus_one_is_a_case = inr (lit≤ tt)

last_case : IsCaseOf Int32 4294967295
last_case = inl (lit< tt)

past_the_last : ¬ (IsCaseOf Int32 4294967296)
past_the_last h = elim h [ inl less ↦ omega (arith, less) | inr more ↦ omega (arith, more) ]

below_the_first : ¬ (IsCaseOf Int32 (2 ^ 64 - 2 ^ 31 - 1))
below_the_first h = elim h [ inl less ↦ omega (arith, less) | inr more ↦ omega (arith, more) ]

equal_at_32_bits : ¬ (DifferAt Int32 18446744073709551615 4294967295)
equal_at_32_bits differ = differ refl

abbrev both : Body
both = Cases (18446744073709551615 ∷ 4294967295 ∷ []) (0 ∷ 0 ∷ 0 ∷ [])

no_cases_of_an_int32 : ¬ (AreCasesOf Int32 both)
no_cases_of_an_int32 h = equal_at_32_bits (h.0 0 1 0 (lit< tt) (lit< tt))

cases_of_an_int64 : AreCasesOf Int64 both
cases_of_an_int64 = (
  AllPairs-cons (DifferAt Int64) 18446744073709551615 (4294967295 ∷ [])
      (All-cons (DifferAt Int64 18446744073709551615) 4294967295 [] (λ e. (let h : 18446744073709551615 ≡ 4294967295 = e in omega (arith, h)))
      (All-nil (DifferAt Int64 18446744073709551615)))
      (AllPairs-cons (DifferAt Int64) 4294967295 [] (All-nil (DifferAt Int64 4294967295)) (no_pairs (DifferAt Int64))),
  All-cons (IsCaseOf Int64) 18446744073709551615 (4294967295 ∷ []) tt (All-cons (IsCaseOf Int64) 4294967295 [] tt (All-nil (IsCaseOf Int64))),
)

-- ---- values, by id, type, opcode, children, body and line

abbrev value : ℕ → Ty → Opcode → List ℕ → Body → ℕ → Value
value id ty opcode children body line = record {
  id = id;
  ty = ty;
  kind = record { opcode = opcode; chill = false; traps = false };
  children = children;
  body = body;
  line = line;
}

abbrev block : ℕ → ℕ → List Value → Block
block number line values = record { number = number; line = line; values = values }

abbrev procedure_of : List Block → Procedure
procedure_of blocks = record { name = codes "f"; line = 1; slots = []; blocks = blocks }

abbrev argument : Value
argument = value 0 Int64 op.ArgumentReg [] (Argument (record { 0 = 0 })) 3

-- a Switch over an Int32 with the cases -1 and 4294967295
abbrev switch : Value
switch = value 2 Void op.Switch (1 ∷ []) both 5

abbrev switches : Procedure
switches = procedure_of (block 0 2 (argument ∷ value 1 Int32 op.Trunc (0 ∷ []) Plain 4 ∷ switch ∷ []) ∷ [])

switches_on_an_int32 : first_type (types_of switches switch) ≡ Int32
switches_on_an_int32 = refl

breaks_cases : IsBreach (switches ∷ []) (record { rule = rule.Cases; procedure = 0; line = 5 })
breaks_cases = inr (record {
  procedure = switches;
  there = refl;
  part = ValueAt 0 2 switch;
  is_part = refl;
  on_line = refl;
  breaks = no_cases_of_an_int32;
})

-- ---- the first breach

-- two procedures of one name: the second header repeats it
abbrev twice : List Procedure
twice = switches ∷ record switches { line = 6 } ∷ []

repeats_name : IsBreach twice (record { rule = rule.Names; procedure = 1; line = 6 })
repeats_name = inl (record {
  on_names = refl;
  procedure = record switches { line = 6 };
  there = refl;
  on_line = refl;
  breaks = λ new. new 0 switches refl (lit< tt) refl;
})

-- a procedure without blocks breaks the rule on ends at its header, and nothing before
abbrev alone : Procedure
alone = empty_procedure (codes "f") 1

abbrev no_block_there : Breach
no_block_there = record { rule = rule.Endings; procedure = 0; line = 1 }

header_breaks : (r : Rule) → ¬ (HeaderKeeps r alone) → r ≡ rule.Endings
header_breaks rule.Endings breaks = refl
header_breaks _ breaks = absurd (breaks tt)

only_one : (k : ℕ) (p : Procedure) → slice_get (alone ∷ []) k ≡ Some p → (k ≡ 0) × (alone ≡ p)
only_one zero p e = (refl, (cc))
only_one (suc k) p e = absurd (cc)

no_other : (other : Breach) → IsBreach (alone ∷ []) other → IsNoLater no_block_there other
no_other other (inl repeats) =
    let one = only_one other.procedure repeats.procedure repeats.there in
    absurd (repeats.breaks (λ j q at less. absurd (let here = one.0 in omega (arith, less, here))))
no_other other (inr breaks) = by breaks.part breaks.is_part breaks.on_line breaks.breaks
  where
    same : alone ≡ breaks.procedure
    same = (only_one other.procedure breaks.procedure breaks.there).1

    by : (part : Part) → IsPartOf breaks.procedure part → Rattle.b3_rules.specs.Valid.line_of breaks.procedure part ≡ other.line
        → ¬ (Keeps other.rule breaks.procedure part) → IsNoLater no_block_there other
    by Header is line no_header =
        let at : HeaderKeeps other.rule alone → ⊥ = λ h. no_header (subst (HeaderKeeps other.rule) same h) in
        inr (ap (λ (p : Procedure). p.line) same ∙ line, inr (sym (header_breaks other.rule at), omega arith))
    by (SlotAt place slot) is line breaks_it = absurd (none (ap (λ (p : Procedure). slice_get p.slots place) same ∙ is))
      where
        none : {X : Type 0} {x : X} → slice_get [] place ≡ Some x → ⊥
        none e = cc
    by (HeadingAt place heading) is line breaks_it = absurd (none (ap (λ (p : Procedure). slice_get p.blocks place) same ∙ is))
      where
        none : {x : Block} → slice_get [] place ≡ Some x → ⊥
        none e = cc
    by (ValueAt b j v) is line breaks_it = absurd (none (ap (λ (p : Procedure). slice_get (values_of p b) j) same ∙ is))
      where
        none : slice_get (values_of alone b) j ≡ Some v → ⊥
        none e = cc

first_of_all : IsFirstBreach (alone ∷ []) no_block_there
first_of_all = record {
  counts = record {
    is_breach = inr (record {
      procedure = alone;
      there = refl;
      part = Header;
      is_part = tt;
      on_line = refl;
      breaks = λ (h : 0 < 0). absurd (omega (arith, h));
    });
    alone = λ is_uses. absurd (cc);
  };
  first = λ other counts. no_other other counts.is_breach;
}

-- ---- uses

-- in block 1 a constant, which block 2 returns
abbrev constant : Value
constant = value 2 Int64 op.Const64 [] (Constant 5) 7

abbrev jump : Value
jump = value 3 Void op.Jump [] (Targets (2 ∷ [])) 8

abbrev return : Value
return = value 4 Void op.Return (2 ∷ []) Plain 11

-- block 0 branches to both
abbrev branch : Value
branch = value 1 Void op.Branch (0 ∷ []) (Targets (1 ∷ 2 ∷ [])) 4

abbrev branching : Procedure
branching = procedure_of
    (block 0 2 (argument ∷ branch ∷ []) ∷ block 1 6 (constant ∷ jump ∷ []) ∷ block 2 10 (return ∷ []) ∷ [])

-- the path from block 0 to block 2 doesn't pass block 1
short_path : IsPath branching (0 ∷ []) 2
short_path = ((branch, (1, lit< tt, refl), (1, lit< tt, refl)), refl)

not_covered : ¬ (CoversUses branching 2 0 return)
not_covered covers = none (covers 0 0 (lit< tt) (0 ∷ []) short_path)
  where
    in_block : (v : Value) → v.id ≡ 2 → Contains (values_of branching 0) v → ⊥
    in_block v id h = elim (Contains-cases argument (branch ∷ []) v h) [
      | inl e ↦ (let same : 0 ≡ v.id = ap (λ (w : Value). w.id) e in omega (arith, id, same))
      | inr rest ↦ elim (Contains-cases branch [] v rest) [
        | inl e ↦ (let same : 1 ≡ v.id = ap (λ (w : Value). w.id) e in omega (arith, id, same))
        | inr last ↦ Contains-none v last
      ]
    ]

    none : (v : Value) × (v.id ≡ 2) × (Contains [] v ⊎ ((b : ℕ) × Contains (0 ∷ []) b × Contains (values_of branching b) v)) → ⊥
    none (v, id, run) = elim run [
      | inl before ↦ Contains-none v before
      | inr passed ↦ elim (Contains-cases 0 [] passed.0 passed.1) [
        | inl e ↦ in_block v id (subst (λ (b : ℕ). Contains (values_of branching b) v) (sym e) passed.2)
        | inr rest ↦ Contains-none passed.0 rest
      ]
    ]

-- block 0 jumps to block 1, and block 3, which no path reaches, to block 2
abbrev start : Value
start = value 1 Void op.Jump [] (Targets (1 ∷ [])) 4

abbrev stray : Value
stray = value 5 Void op.Jump [] (Targets (2 ∷ [])) 13

abbrev jumping : Procedure
jumping = procedure_of (block 0 2 (argument ∷ start ∷ []) ∷ block 1 6 (constant ∷ jump ∷ []) ∷ block 2 10 (return ∷ [])
    ∷ block 3 12 (stray ∷ []) ∷ [])

-- the successors of the blocks
from_start : (next : ℕ) → IsSuccessor jumping 0 next → 1 ≡ next
from_start next (v, there, names) = elim (Contains-cases argument (start ∷ []) v there) [
  | inl e ↦ absurd (Contains-none next (subst (λ (w : Value). Contains (successors_in w.body) next) (sym e) names))
  | inr rest ↦ elim (Contains-cases start [] v rest) [
    | inl e ↦ elim (Contains-cases 1 [] next (subst (λ (w : Value). Contains (successors_in w.body) next) (sym e) names)) [
      | inl same ↦ same
      | inr none ↦ absurd (Contains-none next none)
    ]
    | inr none ↦ absurd (Contains-none v none)
  ]
]

from_middle : (next : ℕ) → IsSuccessor jumping 1 next → 2 ≡ next
from_middle next (v, there, names) = elim (Contains-cases constant (jump ∷ []) v there) [
  | inl e ↦ absurd (Contains-none next (subst (λ (w : Value). Contains (successors_in w.body) next) (sym e) names))
  | inr rest ↦ elim (Contains-cases jump [] v rest) [
    | inl e ↦ elim (Contains-cases 2 [] next (subst (λ (w : Value). Contains (successors_in w.body) next) (sym e) names)) [
      | inl same ↦ same
      | inr none ↦ absurd (Contains-none next none)
    ]
    | inr none ↦ absurd (Contains-none v none)
  ]
]

from_last : (next : ℕ) → IsSuccessor jumping 2 next → ⊥
from_last next (v, there, names) = elim (Contains-cases return [] v there) [
  | inl e ↦ Contains-none next (subst (λ (w : Value). Contains (successors_in w.body) next) (sym e) names)
  | inr none ↦ Contains-none v none
]

from_stray : (next : ℕ) → IsSuccessor jumping 3 next → 2 ≡ next
from_stray next (v, there, names) = elim (Contains-cases stray [] v there) [
  | inl e ↦ elim (Contains-cases 2 [] next (subst (λ (w : Value). Contains (successors_in w.body) next) (sym e) names)) [
    | inl same ↦ same
    | inr none ↦ absurd (Contains-none next none)
  ]
  | inr none ↦ absurd (Contains-none v none)
]

-- no path comes to block 3
never_stray : (passed : List ℕ) → IsPath jumping passed 3 → ⊥
never_stray [] e = omega (arith, e)
never_stray (zero ∷ passed) path = let e = from_start 3 path.0 in omega (arith, e)
never_stray (suc zero ∷ passed) path = let e = from_middle 3 path.0 in omega (arith, e)
never_stray (suc (suc zero) ∷ passed) path = from_last 3 path.0
never_stray (suc (suc (suc zero)) ∷ passed) path = let e = from_stray 3 path.0 in omega (arith, e)
never_stray (suc (suc (suc (suc b))) ∷ passed) path = Contains-none path.0.0 path.0.1

covered : CoversUses jumping 2 0 return
covered = All-cons (IsCoveredAt jumping 2 0) 2 [] by (All-nil (IsCoveredAt jumping 2 0))
  where
    by : IsCoveredAt jumping 2 0 2
    by [] e = absurd (omega (arith, e))
    by (zero ∷ passed) path = absurd (let e = from_start 2 path.0 in omega (arith, e))
    by (suc zero ∷ passed) path = (constant, refl, inr (1, Contains-first 1 passed, Contains-first constant (jump ∷ [])))
    by (suc (suc zero) ∷ passed) path = absurd (from_last 2 path.0)
    by (suc (suc (suc zero)) ∷ passed) path = absurd (never_stray passed path.1)
    by (suc (suc (suc (suc b))) ∷ passed) path = absurd (Contains-none path.0.0 path.0.1)
