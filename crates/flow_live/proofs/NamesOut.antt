-- The names of the row that is kept for what goes out of a block.
use Rattle.std.proofs.Common.{◌≡◌, ℕ, ◌+◌, ◌<◌, ◌↔◌, true, List, take, drop, arith, sym, ◌∙◌, ap}
use Rattle.std.specs.Prelude.{Contains}
use Rattle.std.specs.FinSet as set
use Rattle.bit_rows.specs.BitRows.{BitRows, row_of}
use Rattle.flow_live.specs.Graph.{Graph, LiveOut}
use Rattle.flow_live.specs.Kept.{IsKept}
use Rattle.flow_live.specs.Liveness.{Liveness, IsLivenessOf, out_of}
use Rattle.flow_live.proofs.Least.{out_row}

-- what is seen of the rows that are kept
abbrev pub seen : ℕ → ℕ → BitRows → Liveness
seen blocks names rows = record { blocks = blocks; names = names; ins = take blocks rows.sets; outs = take blocks (drop blocks rows.sets) }

module _ (blocks names : ℕ) (rows : BitRows) (v : Liveness) (view : seen blocks names rows ≡ v) (kept : IsKept blocks names rows)
    (block : ℕ) (lt : block < v.blocks) where
  pub has_blocks : v.blocks ≡ blocks
  has_blocks = sym (ap (λ (l : Liveness). l.blocks) view)

  pub has_names : v.names ≡ names
  has_names = sym (ap (λ (l : Liveness). l.names) view)

  -- a name is in the row exactly where it is a name that goes out
  row_out : (name : ℕ) → set.contains (row_of rows (blocks + block)) name ≡ set.contains (out_of v block) name
  row_out name =
      sym (ap (λ s. set.contains s name) (out_row blocks block rows.sets (omega (arith, lt, has_blocks))))
      ∙ ap (λ (l : Liveness). set.contains (out_of l block) name) view

  pub listed_out : (list : List ℕ) → ((name : ℕ) → Contains list name ↔ (set.contains (row_of rows (blocks + block)) name ≡ true))
      → (name : ℕ) → Contains list name ↔ ((name < v.names) × (set.contains (out_of v block) name ≡ true))
  listed_out list is name = (
    λ i. let t = (is name).0 i in (omega (arith, has_names, kept.within (blocks + block) name t), sym (row_out name) ∙ t),
    λ both. (is name).1 (row_out name ∙ both.1),
  )

  pub listed_live : (list : List ℕ) → ((name : ℕ) → Contains list name ↔ (set.contains (row_of rows (blocks + block)) name ≡ true))
      → (g : Graph) → IsLivenessOf g v → (name : ℕ) → Contains list name ↔ ((name < v.names) × LiveOut g name block)
  listed_live list is g live name =
      let out = listed_out list is name in (
        λ i. let both = out.0 i in (both.0, (live.live_out block name (omega (arith, lt, live.blocks)) (omega (arith, both.0, live.names))).0 both.1),
        λ both. out.1 (both.0, (live.live_out block name (omega (arith, lt, live.blocks)) (omega (arith, both.0, live.names))).1 both.1),
      )
