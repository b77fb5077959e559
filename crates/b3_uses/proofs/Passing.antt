-- A block that is reached from another by going to the only predecessor again and again is passed by each path to it.
use Rattle.std.proofs.Common.{◌≡◌, ◌≢◌, ℕ, ◌-◌, ◌<◌, ◌⊎◌, inl, inr, List, [], ◌∷◌, length, sym, subst, ◌∙◌, arith}
use Rattle.std.proofs.lemmas.List.{length-replicate}
use Rattle.std.specs.Prelude.{Contains, slice_index_or}
use Rattle.indexmap.specs.IndexMap as map
use Rattle.b3_ir.specs.Procedure.{Procedure, values_of}
use Rattle.b3_ir.specs.declared.value.Value.{Value}
use Rattle.b3_rules.specs.Paths.{IsPath, IsSuccessor}
use Rattle.b3_uses.specs.Lists.{list_at}
use Rattle.b3_uses.specs.Origins.{AddsHome, AreHomes, AreOrigins, IsOnlySource, IsPassed}
use Rattle.b3_uses.specs.Reversed.{HasDefinition, turned}
use Rattle.b3_uses.specs.declared.origins.Origins.{Origins}
use Rattle.b3_uses.proofs.Contained.{contains_none, contains_head, contains_tail, contains_cases}
use Rattle.b3_uses.proofs.Covering.{block_in}

-- one step up
pub passed_above : (p : Procedure) (id block source : ℕ) → IsOnlySource p block source → HasDefinition (values_of p source) id ⊎ IsPassed p source id
    → IsPassed p block id
passed_above p id block source only above [] path = absurd (only.0 path)
passed_above p id block source only above (last ∷ passed) path =
    let same : last ≡ source = only.1 last path.0 in
    elim above [
      | inl d ↦ (last, contains_head last passed, subst (λ (b : ℕ). HasDefinition (values_of p b) id) (sym same) d)
      | inr more ↦
          let d = more passed (subst (λ (b : ℕ). IsPath p passed b) same path.1) in
          (d.0, contains_tail last passed d.0 d.1, d.2)
    ]

-- the home of one more id
pub home_more : {S : Type 0} (p : Procedure) (old new : map.IndexMap ℕ ℕ S) (v : Value) (block : ℕ) → AreHomes p old → Contains (values_of p block) v
    → AddsHome old new v.id block → AreHomes p new
home_more p old new v block homes there adds id home is =
    elim (adds id home is) [
      | inl before ↦ homes id home before
      | inr e ↦ subst (λ (b : ℕ). HasDefinition (values_of p b) id) (sym e.1) (v, there, sym e.0)
    ]

-- what a list of one number contains
only_one : (xs : List ℕ) (x : ℕ) → length xs ≡ 1 → Contains xs x → slice_index_or xs 0 0 ≡ x
only_one [] x one has = absurd (contains_none x has)
only_one (y ∷ xs) x one has =
    elim (contains_cases y xs x has) [
      | inl e ↦ e
      | inr more ↦ absurd (omega (arith, more.1, one))
    ]

-- the only predecessor of a block, where its sources are just one
pub only_source_is : (p : Procedure) (origins : Origins) (block source : ℕ) (sources : List ℕ) → AreOrigins p origins
    → block < length origins.sources → block ≢ 0
    → sources ≡ list_at origins.sources (length origins.sources - 1 - block) → length sources ≡ 1
    → source ≡ length origins.sources - 1 - slice_index_or sources 0 0
    → IsOnlySource p block source
only_source_is p origins block source sources are lt some is one from = (some, only)
  where
    n : ℕ
    n = length p.blocks

    many : length origins.sources ≡ n
    many = are.sources.as_many ∙ length-replicate n []

    has : (c : ℕ) → c < n → IsSuccessor p c block → Contains (list_at origins.sources (turned n block)) (turned n c)
    has c c_lt leads = (are.sources.numbers (turned n block) (turned n c)).1 (inr (
      c,
      c_lt,
      (leads.0, leads.1, (block, leads.2, (omega (arith, lt, many), omega arith, omega arith))),
    ))

    only : (c : ℕ) → IsSuccessor p c block → c ≡ source
    only c leads =
        let c_lt : c < n = block_in p.blocks c leads.0 leads.1 in
        let there : Contains sources (turned n c) = subst (λ xs. Contains xs (turned n c)) (sym is)
        (subst (λ (m : ℕ). Contains (list_at origins.sources (m - 1 - block)) (turned n c)) (sym many) (has c c_lt leads)) in
        let first : slice_index_or sources 0 0 ≡ turned n c = only_one sources (turned n c) one there in
        omega (arith, first, from, many, c_lt)
