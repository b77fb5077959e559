-- How a `Chains` lays its lists out in nodes. No public clause cites this module.
use Rattle.std.specs.Prelude.{◌≡◌, ℕ, zero, suc, ◌+◌, ◌≤◌, ◌^◌, ◌==◌, Bool, false, List, [], ◌∷◌, ◌++◌, map, length, slice_get, Option, Some, None, option_and_then, if◌then◌else◌}
use Rattle.ir_arena.specs.Chains.{list_at, in_use}
use Rattle.ir_arena.specs.declared.node.Node.{Node}
use Rattle.ir_arena.specs.declared.links.Ends.{Ends}

-- the node of each id
abbrev pub NodeAt : Type 0 → Type 0
NodeAt T = ℕ → Option (Node T)

-- whether a link names this id
abbrev pub names : Option ℕ → ℕ → Bool
names None id = false
names (Some at) id = at == id

-- `new` where the link is nothing, and else `old`
abbrev pub old_unless_none : Option ℕ → Option ℕ → Option ℕ → Option ℕ
old_unless_none None new old = new
old_unless_none (Some _) new old = old

-- the ends of a chain once the same is done: they stand before its first node and after its last
abbrev pub relinked_ends : Option ℕ → Option ℕ → Option ℕ → Option ℕ → Ends → Ends
relinked_ends before after onward back e = record {
  first = old_unless_none before onward e.first;
  last = old_unless_none after back e.last;
}

-- the last of so many free nodes in a row, the first of them of the id `start`, each before the next
abbrev pub free_head : ℕ → Option ℕ → ℕ → Option ℕ
free_head start rest zero = rest
free_head start rest (suc count) = Some (start + count)

module _ {T : Type 0} where
  -- the node that holds an item
  abbrev pub used : ℕ → Option ℕ → Option ℕ → T → Node T
  used chain before next item = record { chain = chain; before = before; next = next; item = Some item }

  -- a node that holds none, and names the next such node
  abbrev pub vacant : Option ℕ → Node T
  vacant next = record { chain = 0; before = None; next = next; item = None }

  -- from `first`, which has `before` before it, the nodes of the chain hold these entries, linked both
  -- ways, up to `last`, which has `next` after it
  abbrev pub IsSegment : NodeAt T → ℕ → Option ℕ → Option ℕ → List (ℕ × T) → Option ℕ → Option ℕ → Type 0
  IsSegment at chain first before [] last next = (first ≡ next) × (last ≡ before)
  IsSegment at chain first before (e ∷ es) last next =
      (after : Option ℕ) × (first ≡ Some e.0) × (at e.0 ≡ Some (used chain before after e.1))
      × IsSegment at chain after (Some e.0) es last next

  -- from `first`, so many nodes hold no item, and each names the next
  abbrev pub IsFree : NodeAt T → ℕ → Option ℕ → Type 0
  IsFree at zero first = first ≡ None
  IsFree at (suc count) first =
      (id : ℕ) × (node : Node T) × (first ≡ Some id) × (at id ≡ Some node) × (node.item ≡ None)
      × IsFree at count node.next

  -- the entry of a node and the rest, or nothing where the node holds no item
  abbrev pub entry_and : ℕ → Option T → List (ℕ × T) → List (ℕ × T)
  entry_and id None rest = []
  entry_and id (Some item) rest = (id, item) ∷ rest

  -- the entries from a link on, so many at most
  abbrev pub walk : NodeAt T → ℕ → Option ℕ → List (ℕ × T)
  walk at zero link = []
  walk at (suc count) None = []
  walk at (suc count) (Some id) =
      entry_and id (option_and_then (λ (n : Node T). n.item) (at id)) (walk at count (option_and_then (λ (n : Node T). n.next) (at id)))

  -- the node of an id in a list of nodes
  abbrev pub node_in : List (Node T) → NodeAt T
  node_in nodes id = slice_get nodes id

  -- the lists that the nodes hold between these ends
  abbrev pub lists_of : List (Node T) → List Ends → List (List (ℕ × T))
  lists_of nodes ends = map (λ e. walk (node_in nodes) (length nodes) e.first) ends

  -- each list is the chain between its ends, and each node is in a list or free
  pub record IsLaidOut (nodes : List (Node T)) (ends : List Ends) (free : Option ℕ) (spare : ℕ) (lists : List (List (ℕ × T))) : Type 0 where
    pub counted : length lists ≡ length ends
    pub chained : (k : ℕ) (e : Ends) → slice_get ends k ≡ Some e
        → IsSegment (node_in nodes) k e.first None (list_at lists k) e.last None
    pub freed : IsFree (node_in nodes) spare free
    pub all : in_use lists + spare ≡ length nodes
    pub small : length nodes ≤ 2 ^ 32

  -- the node of this id once what stands before and after a place are linked anew: the one before the
  -- place gets `onward` as what comes next, the one after it `back` as what comes before
  abbrev pub relinked : Option ℕ → Option ℕ → Option ℕ → Option ℕ → ℕ → Node T → Node T
  relinked before after onward back id node = record node {
    next = if names before id then onward else node.next;
    before = if names after id then back else node.before;
  }

  -- in a chain that begins with `first`, what comes after a place: it stands after the node of the id
  -- `before`, or first where that is nothing
  pub record IsAfter (at : NodeAt T) (first before after : Option ℕ) : Type 0 where
    pub at_start : before ≡ None → after ≡ first
    pub at_node : (id : ℕ) (node : Node T) → before ≡ Some id → at id ≡ Some node → after ≡ node.next

  -- so many free nodes in a row, the first of them of the id `start`, which `rest` follows
  unfoldable pub free_nodes : ℕ → Option ℕ → ℕ → List (Node T)
  free_nodes start rest zero = []
  free_nodes start rest (suc count) =
      free_nodes start rest count ++ vacant (free_head start rest count) ∷ []
