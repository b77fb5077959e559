-- What liveness answers for each block: the names that are live into it and out of it.
use Rattle.std.specs.Prelude.{◌≡◌, ℕ, ◌<◌, ◌↔◌, true, List, slice_index_or, refl}
use Rattle.std.specs.Coded.{Coded, code_by, coded×, coded_ℕ, coded_list}
use Rattle.std.specs.FinSet as set
use Rattle.bit_rows.specs.BitRows.{BitSet}
use Rattle.flow_live.specs.Graph.{Graph, LiveIn, LiveOut}

-- for each block a set of names that go in and a set of names that go out
pub record Liveness : Type 0 where
  pub blocks : ℕ
  pub names : ℕ
  pub ins : List BitSet
  pub outs : List BitSet

-- the names that go into a block
abbrev pub in_of : Liveness → ℕ → BitSet
in_of sets block = slice_index_or sets.ins block set.empty

-- the names that go out of a block
abbrev pub out_of : Liveness → ℕ → BitSet
out_of sets block = slice_index_or sets.outs block set.empty

-- the sets are those of the live names of the graph
pub record IsLivenessOf (g : Graph) (sets : Liveness) : Type 0 where
  pub blocks : sets.blocks ≡ g.blocks
  pub names : sets.names ≡ g.names
  pub live_in : (block name : ℕ) → block < g.blocks → name < g.names → (set.contains (in_of sets block) name ≡ true) ↔ LiveIn g name block
  pub live_out : (block name : ℕ) → block < g.blocks → name < g.names → (set.contains (out_of sets block) name ≡ true) ↔ LiveOut g name block

-- liveness is stored as the tuple of its fields
abbrev pub liveness_code : Coded Liveness
liveness_code =
    code_by (ℕ × (ℕ × (List BitSet × List BitSet)))
    (coded× coded_ℕ (coded× coded_ℕ (coded× (coded_list (set.code coded_ℕ)) (coded_list (set.code coded_ℕ)))))
    (λ v. (v.blocks, (v.names, (v.ins, v.outs))))
    (λ p. record { blocks = p.0; names = p.1.0; ins = p.1.1.0; outs = p.1.1.1 }) (λ _. refl)
