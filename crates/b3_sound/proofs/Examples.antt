-- No public clause cites this module. A procedure that is valid; one that breaks the rule on uses alone, and whose run is malformed; and
-- starts out of range, from which runs of valid values are malformed.
use Rattle.std.proofs.Common.{◌≡◌, ◌≢◌, ℕ, zero, suc, ◌^◌, ◌<◌, inl, inr, true, false, List, [], ◌∷◌, Some, refl, ap, subst, arith}
use Rattle.std.specs.Prelude.{All, codes, pos, slice_get}
use Rattle.std.proofs.lemmas.List.Elements.{All-nil, All-cons, All-head}
use Rattle.b3_base.proofs.Lists.{Contains-none, Contains-first, Contains-later}
use Rattle.b3_base.specs.Memory.{is_mapped, read_word}
use Rattle.b3_base.specs.Observed.{Give, Memory, Start, no_memory}
use Rattle.b3_base.specs.Ranged.{IsRangedAnswer}
use Rattle.b3_base.specs.Run.{iterate}
use Rattle.b3_base.specs.declared.observation.Status.TheVariants.{Returned}
use Rattle.b3_ir.specs.Fits.{Fits}
use Rattle.b3_ir.specs.Procedure.{AllFit, Block, Procedure, StandsAt, values_of}
use Rattle.b3_ir.specs.Table.{is_terminal}
use Rattle.b3_ir.specs.declared.opcode.Opcode.{Opcode}
use Rattle.b3_ir.specs.declared.opcode.Opcode.TheVariants as op
use Rattle.b3_ir.specs.declared.opcode.Ty.{Ty}
use Rattle.b3_ir.specs.declared.opcode.Ty.TheVariants.{Void, Int64}
use Rattle.b3_ir.specs.declared.procedure.SlotLine.{SlotLine}
use Rattle.b3_ir.specs.declared.value.Body.{Body}
use Rattle.b3_ir.specs.declared.value.Body.TheVariants.{Plain, Constant, Argument, Slot, Offset}
use Rattle.b3_ir.specs.declared.value.Stackmap.{Stackmap}
use Rattle.b3_ir.specs.declared.value.Value.{Value}
use Rattle.stackmap.specs.Registers.{stackmap_in}
use Rattle.b3_meaning.specs.Run.{Lost, Malformed, b3_run, run_of}
use Rattle.b3_rules.specs.Least.{CoversAll, KeepsAllButUses}
use Rattle.b3_rules.specs.Paths.{HasRun, IsCoveredAt, successors_in}
use Rattle.b3_rules.specs.Rules.{AreCasesOf, CoversUses, HasNewId, IsBlockNumber, IsId, IsLast, IsTyped, KnowsSlot, NamesId, ReturnsAlike, SuitsPhi, first_type, types_of}
use Rattle.b3_rules.specs.Valid.{Header, HeaderKeeps, HeadingAt, HeadingKeeps, IsPartOf, IsValidProcedure, Keeps, Part, SlotAt, ValueAt, ValueKeeps}
use Rattle.b3_rules.specs.declared.rule.Rule.{Rule}
use Rattle.b3_rules.specs.declared.rule.Rule.TheVariants as rule
use Rattle.b3_sound.specs.Laws.{IsStarted, NeverMalformed}
use Rattle.b3_sound.proofs.FromValid.{is_kept}
use Rattle.b3_sound.proofs.Law.{never_malformed}

abbrev value_of : ℕ → Ty → Opcode → List ℕ → Body → Value
value_of id ty opcode children body = record {
  id = id;
  ty = ty;
  kind = record { opcode = opcode; chill = false; traps = false };
  children = children;
  body = body;
  line = 0;
}

abbrev constant : ℕ → ℕ → Value
constant id word = value_of id Int64 op.Const64 [] (Constant word)

abbrev sum : ℕ → ℕ → ℕ → Value
sum id a b = value_of id Int64 op.Add (a ∷ b ∷ []) Plain

abbrev return_of : ℕ → ℕ → Value
return_of id child = value_of id Void op.Return (child ∷ []) Plain

abbrev procedure_of : List SlotLine → List Value → Procedure
procedure_of slots values = record { name = codes "f"; line = 0; slots = slots; blocks = record { number = 0; line = 0; values = values } ∷ [] }

-- a start with this word in each register, these slots and these bytes
abbrev start_of : ℕ → List ℕ → Memory → Start
start_of word slots memory = record {
  arguments = λ r. word;
  frame_pointer = 0;
  slots = slots;
  memory = memory;
  is_hidden = λ address. false;
  is_code = λ address. false;
}

-- ---- a use before its definition

abbrev early_use : Procedure
early_use = procedure_of [] (sum 0 1 1 ∷ constant 1 5 ∷ return_of 2 0 ∷ [])

early_use_is_malformed : (start : Start) → run_of early_use start [] 1 ≡ Lost Malformed
unfolding iterate
early_use_is_malformed start = refl

-- ---- a sum that is returned

abbrev ten : Procedure
ten = procedure_of [] (constant 0 5 ∷ sum 1 0 0 ∷ return_of 2 1 ∷ [])

ten_runs : (start : Start) → (b3_run ten start [] 1).status ≡ Returned (Some 10)
unfolding iterate
ten_runs start = refl

-- ---- what may be out of range

-- an argument that is no word
wide_argument : run_of (procedure_of [] (value_of 0 Int64 op.ArgumentReg [] (Argument (record { 0 = 0 })) ∷ return_of 1 0 ∷ []))
    (start_of (2 ^ 64) [] no_memory) [] 1 ≡ Lost Malformed
unfolding iterate
wide_argument = refl

-- a slot without an address
no_address : run_of (procedure_of (record { number = 0; bytes = 8; line = 0 } ∷ []) (value_of 0 Int64 op.SlotBase [] (Slot 0) ∷ return_of 1 0 ∷ []))
    (start_of 0 [] no_memory) [] 1 ≡ Lost Malformed
unfolding iterate
no_address = refl

-- memory that holds more than bytes
wide_byte : run_of (procedure_of [] (constant 0 0 ∷ value_of 1 Int64 op.Load (0 ∷ []) (Offset (pos 0)) ∷ return_of 2 1 ∷ []))
    (start_of 0 [] (λ q. Some (2 ^ 64))) [] 1 ≡ Lost Malformed
unfolding iterate is_mapped read_word
wide_byte = refl

-- an answer that writes more than bytes
wide_write : run_of (procedure_of []
    (constant 0 0 ∷ value_of 1 Void op.CCall (0 ∷ []) Plain ∷ value_of 2 Int64 op.Load (0 ∷ []) (Offset (pos 0)) ∷ return_of 3 2 ∷ []))
    (start_of 0 [] (λ q. Some 0)) (Give 0 (λ q. Some (2 ^ 64)) ∷ []) 1 ≡ Lost Malformed
unfolding iterate is_mapped read_word
wide_write = refl

-- ---- both keep the other rules

-- the values of one block, each at the place of its id
module _ (values : List Value) (placed : (m : ℕ) (w : Value) → slice_get values m ≡ Some w → w.id ≡ m) where
  in_block : (c m : ℕ) (w : Value) → StandsAt (procedure_of [] values) c m w → (c ≡ 0) × (slice_get values m ≡ Some w)
  in_block zero m w at = (refl, at)
  in_block (suc zero) m w at = absurd (cc)
  in_block (suc (suc c)) m w at = absurd (cc)

  new_id : (j : ℕ) (v : Value) → v.id ≡ j → HasNewId (procedure_of [] values) 0 j v
  new_id j v id c m w at (inl less) same = absurd (omega arith)
  new_id j v id c m w at (inr (block, less)) same =
      let other : w.id ≡ m = placed m w (in_block c m w at).1 in
      omega arith

-- a value that carries nothing that other rules speak of
abbrev IsBare : Body → Type 0
IsBare Plain = Unit {0}
IsBare (Constant word) = Unit {0}
IsBare _ = ⊥

record IsSimple (p : Procedure) (j : ℕ) (v : Value) : Type 0 where
  ids : HasNewId p 0 j v
  ends : IsLast p 0 j → is_terminal v.kind.opcode ≡ true
  last : is_terminal v.kind.opcode ≡ true → IsLast p 0 j
  known : All (IsId p) v.children
  typed : IsTyped p v
  returns : ReturnsAlike p v
  no_argument : v.kind.opcode ≢ op.ArgumentReg
  no_call : v.kind.opcode ≢ op.CCall
  no_patch : v.kind.opcode ≢ op.Patchpoint
  bare : IsBare v.body

bare_phi : (p : Procedure) (ts : List Ty) (b : Body) → IsBare b → SuitsPhi p ts b
bare_phi p ts Plain bare = tt
bare_phi p ts (Constant word) bare = tt
bare_phi p ts _ bare = absurd bare

bare_id : (p : Procedure) (b : Body) → IsBare b → NamesId p b
bare_id p Plain bare = tt
bare_id p (Constant word) bare = tt
bare_id p _ bare = absurd bare

bare_slot : (p : Procedure) (b : Body) → IsBare b → KnowsSlot p b
bare_slot p Plain bare = tt
bare_slot p (Constant word) bare = tt
bare_slot p _ bare = absurd bare

bare_blocks : (p : Procedure) (b : Body) → IsBare b → All (IsBlockNumber p) (successors_in b)
bare_blocks p Plain bare = All-nil (IsBlockNumber p)
bare_blocks p (Constant word) bare = All-nil (IsBlockNumber p)
bare_blocks p _ bare = absurd bare

bare_cases : (t : Ty) (b : Body) → IsBare b → AreCasesOf t b
bare_cases t Plain bare = tt
bare_cases t (Constant word) bare = tt
bare_cases t _ bare = absurd bare

bare_map : {X : Type 0} (b : Body) (map : Stackmap) → IsBare b → stackmap_in b ≡ Some map → X
bare_map Plain map bare e = absurd (cc)
bare_map (Constant word) map bare e = absurd (cc)
bare_map _ map bare e = absurd bare

simple_keeps : (r : Rule) (p : Procedure) (j : ℕ) (v : Value) → IsSimple p j v → r ≢ rule.Uses → ValueKeeps r p 0 j v
simple_keeps rule.Ids p j v h other = h.ids
simple_keeps rule.Endings p j v h other = h.ends
simple_keeps rule.Terminals p j v h other = h.last
simple_keeps rule.KnownIds p j v h other = (h.known, bare_id p v.body h.bare)
simple_keeps rule.Types p j v h other = h.typed
simple_keeps rule.Phis p j v h other = bare_phi p (types_of p v) v.body h.bare
simple_keeps rule.KnownSlots p j v h other = bare_slot p v.body h.bare
simple_keeps rule.Successors p j v h other = bare_blocks p v.body h.bare
simple_keeps rule.Cases p j v h other = bare_cases (first_type (types_of p v)) v.body h.bare
simple_keeps rule.Returns p j v h other = h.returns
simple_keeps rule.Arguments p j v h other = λ is. absurd (h.no_argument is)
simple_keeps rule.Constraints p j v h other = λ map e. bare_map v.body map h.bare e
simple_keeps rule.Registers p j v h other = λ map e. bare_map v.body map h.bare e
simple_keeps rule.FixedRegisters p j v h other = λ map e. bare_map v.body map h.bare e
simple_keeps rule.RegisterDemand p j v h other = λ map e. bare_map v.body map h.bare e
simple_keeps rule.Sizes p j v h other = (λ is. absurd (h.no_call is), λ is. absurd (h.no_patch is))
simple_keeps rule.Uses p j v h other = absurd (other refl)
simple_keeps rule.Names p j v h other = tt
simple_keeps rule.Slots p j v h other = tt
simple_keeps rule.Blocks p j v h other = tt

-- a procedure of one block, whose values are simple
module _ (v w u : Value) where
  abbrev three : List Value
  three = v ∷ w ∷ u ∷ []

  abbrev three_in : Procedure
  three_in = procedure_of [] three

  heading_keeps : (r : Rule) → HeadingKeeps r 0 (record { number = 0; line = 0; values = three })
  heading_keeps rule.Blocks = refl
  heading_keeps rule.Endings = omega arith
  heading_keeps _ = tt

  header_keeps : (r : Rule) → HeaderKeeps r three_in
  header_keeps rule.Endings = omega arith
  header_keeps _ = tt

  -- what holds of each of the three holds of each value
  each_of : (P : ℕ → ℕ → Value → Type 0) → P 0 0 v → P 0 1 w → P 0 2 u → (c m : ℕ) (x : Value) → StandsAt three_in c m x → P c m x
  each_of P first second third zero zero x at = let e : v ≡ x = cc in subst (λ (y : Value). P 0 0 y) e first
  each_of P first second third zero (suc zero) x at = let e : w ≡ x = cc in subst (λ (y : Value). P 0 1 y) e second
  each_of P first second third zero (suc (suc zero)) x at = let e : u ≡ x = cc in subst (λ (y : Value). P 0 2 y) e third
  each_of P first second third zero (suc (suc (suc m))) x at = absurd (cc)
  each_of P first second third (suc zero) m x at = absurd (cc)
  each_of P first second third (suc (suc c)) m x at = absurd (cc)

  parts_keep : (r : Rule) → ((c m : ℕ) (x : Value) → StandsAt three_in c m x → ValueKeeps r three_in c m x) → (part : Part) → IsPartOf three_in part
      → Keeps r three_in part
  parts_keep r values Header is = header_keeps r
  parts_keep r values (SlotAt place slot) is = absurd (cc)
  parts_keep r values (HeadingAt zero block) is =
      let e : record { number = 0; line = 0; values = three } ≡ block = cc in subst (λ (b : Block). HeadingKeeps r 0 b) e (heading_keeps r)
  parts_keep r values (HeadingAt (suc place) block) is = absurd (cc)
  parts_keep r values (ValueAt c m x) is = values c m x is

  keeps_but_uses : IsSimple three_in 0 v → IsSimple three_in 1 w → IsSimple three_in 2 u → KeepsAllButUses three_in
  keeps_but_uses first second third r part other is =
      parts_keep r (each_of (λ c m x. ValueKeeps r three_in c m x) (simple_keeps r three_in 0 v first other) (simple_keeps r three_in 1 w second other)
      (simple_keeps r three_in 2 u third other)) part is

  valid_where : KeepsAllButUses three_in → CoversAll three_in → IsValidProcedure three_in
  valid_where keeps covers rule.Uses part is = parts_keep rule.Uses covers part is
  valid_where keeps covers rule.Names part is = keeps rule.Names part (λ e. cc) is
  valid_where keeps covers rule.Slots part is = keeps rule.Slots part (λ e. cc) is
  valid_where keeps covers rule.Blocks part is = keeps rule.Blocks part (λ e. cc) is
  valid_where keeps covers rule.Ids part is = keeps rule.Ids part (λ e. cc) is
  valid_where keeps covers rule.Endings part is = keeps rule.Endings part (λ e. cc) is
  valid_where keeps covers rule.Terminals part is = keeps rule.Terminals part (λ e. cc) is
  valid_where keeps covers rule.KnownIds part is = keeps rule.KnownIds part (λ e. cc) is
  valid_where keeps covers rule.Types part is = keeps rule.Types part (λ e. cc) is
  valid_where keeps covers rule.Phis part is = keeps rule.Phis part (λ e. cc) is
  valid_where keeps covers rule.KnownSlots part is = keeps rule.KnownSlots part (λ e. cc) is
  valid_where keeps covers rule.Successors part is = keeps rule.Successors part (λ e. cc) is
  valid_where keeps covers rule.Cases part is = keeps rule.Cases part (λ e. cc) is
  valid_where keeps covers rule.Returns part is = keeps rule.Returns part (λ e. cc) is
  valid_where keeps covers rule.Arguments part is = keeps rule.Arguments part (λ e. cc) is
  valid_where keeps covers rule.Constraints part is = keeps rule.Constraints part (λ e. cc) is
  valid_where keeps covers rule.Registers part is = keeps rule.Registers part (λ e. cc) is
  valid_where keeps covers rule.FixedRegisters part is = keeps rule.FixedRegisters part (λ e. cc) is
  valid_where keeps covers rule.RegisterDemand part is = keeps rule.RegisterDemand part (λ e. cc) is
  valid_where keeps covers rule.Sizes part is = keeps rule.Sizes part (λ e. cc) is

placed_three : (values : List Value) (v w u : Value) → values ≡ v ∷ w ∷ u ∷ [] → v.id ≡ 0 → w.id ≡ 1 → u.id ≡ 2 → (m : ℕ) (x : Value)
    → slice_get values m ≡ Some x → x.id ≡ m
placed_three values v w u is first second third m x at =
    (each_of v w u (λ c n y. y.id ≡ n) first second third 0 m x (subst (λ (l : List Value). slice_get l m ≡ Some x) is at))

-- ---- the early use

early_placed : (m : ℕ) (x : Value) → slice_get (values_of early_use 0) m ≡ Some x → x.id ≡ m
early_placed = placed_three _ (sum 0 1 1) (constant 1 5) (return_of 2 0) refl refl refl refl

early_keeps : KeepsAllButUses early_use
early_keeps = keeps_but_uses (sum 0 1 1) (constant 1 5) (return_of 2 0)
    (record {
      ids = new_id (values_of early_use 0) early_placed 0 (sum 0 1 1) refl;
      ends = λ last. absurd (omega arith);
      last = λ is. absurd (cc);
      known = All-cons (IsId early_use) 1 (1 ∷ []) (constant 1 5, refl) (All-cons (IsId early_use) 1 [] (constant 1 5, refl) (All-nil (IsId early_use)));
      typed = refl;
      returns = λ is. absurd (cc);
      no_argument = λ is. cc;
      no_call = λ is. cc;
      no_patch = λ is. cc;
      bare = tt;
    })
    (record {
      ids = new_id (values_of early_use 0) early_placed 1 (constant 1 5) refl;
      ends = λ last. absurd (omega arith);
      last = λ is. absurd (cc);
      known = All-nil (IsId early_use);
      typed = refl;
      returns = λ is. absurd (cc);
      no_argument = λ is. cc;
      no_call = λ is. cc;
      no_patch = λ is. cc;
      bare = tt;
    })
    (record {
      ids = new_id (values_of early_use 0) early_placed 2 (return_of 2 0) refl;
      ends = λ last. refl;
      last = λ is. omega arith;
      known = All-cons (IsId early_use) 0 [] (sum 0 1 1, refl) (All-nil (IsId early_use));
      typed = refl;
      returns = λ is w e. let same : return_of 2 0 ≡ w = cc in ap (types_of early_use) same;
      no_argument = λ is. cc;
      no_call = λ is. cc;
      no_patch = λ is. cc;
      bare = tt;
    })

early_uncovered : ¬ (CoversAll early_use)
early_uncovered covers =
    let covered = All-head (IsCoveredAt early_use 0 0) 1 (1 ∷ []) (covers 0 0 (sum 0 1 1) refl) in
    none (covered [] refl)
  where
    none : (v : Value) × (v.id ≡ 1) × HasRun early_use [] [] v → ⊥
    none (v, id, inl here) = Contains-none v here
    none (v, id, inr there) = Contains-none there.0 there.1

-- ---- the sum

ten_placed : (m : ℕ) (x : Value) → slice_get (values_of ten 0) m ≡ Some x → x.id ≡ m
ten_placed = placed_three _ (constant 0 5) (sum 1 0 0) (return_of 2 1) refl refl refl refl

ten_keeps : KeepsAllButUses ten
ten_keeps = keeps_but_uses (constant 0 5) (sum 1 0 0) (return_of 2 1)
    (record {
      ids = new_id (values_of ten 0) ten_placed 0 (constant 0 5) refl;
      ends = λ last. absurd (omega arith);
      last = λ is. absurd (cc);
      known = All-nil (IsId ten);
      typed = refl;
      returns = λ is. absurd (cc);
      no_argument = λ is. cc;
      no_call = λ is. cc;
      no_patch = λ is. cc;
      bare = tt;
    })
    (record {
      ids = new_id (values_of ten 0) ten_placed 1 (sum 1 0 0) refl;
      ends = λ last. absurd (omega arith);
      last = λ is. absurd (cc);
      known = All-cons (IsId ten) 0 (0 ∷ []) (constant 0 5, refl) (All-cons (IsId ten) 0 [] (constant 0 5, refl) (All-nil (IsId ten)));
      typed = refl;
      returns = λ is. absurd (cc);
      no_argument = λ is. cc;
      no_call = λ is. cc;
      no_patch = λ is. cc;
      bare = tt;
    })
    (record {
      ids = new_id (values_of ten 0) ten_placed 2 (return_of 2 1) refl;
      ends = λ last. refl;
      last = λ is. omega arith;
      known = All-cons (IsId ten) 1 [] (sum 1 0 0, refl) (All-nil (IsId ten));
      typed = refl;
      returns = λ is w e. let same : return_of 2 1 ≡ w = cc in ap (types_of ten) same;
      no_argument = λ is. cc;
      no_call = λ is. cc;
      no_patch = λ is. cc;
      bare = tt;
    })

ten_covers : CoversAll ten
ten_covers = each_of (constant 0 5) (sum 1 0 0) (return_of 2 1) (λ c m x. CoversUses ten c m x)
    (All-nil _)
    (All-cons (IsCoveredAt ten 0 1) 0 (0 ∷ []) zeroth (All-cons (IsCoveredAt ten 0 1) 0 [] zeroth (All-nil _)))
    (All-cons (IsCoveredAt ten 0 2) 1 []
    (λ passed path. (sum 1 0 0, refl, inl (Contains-later (constant 0 5) (sum 1 0 0 ∷ []) (sum 1 0 0) (Contains-first (sum 1 0 0) [])))) (All-nil _))
  where
    zeroth : IsCoveredAt ten 0 1 0
    zeroth passed path = (constant 0 5, refl, inl (Contains-first (constant 0 5) []))

ten_is_valid : IsValidProcedure ten
ten_is_valid = valid_where (constant 0 5) (sum 1 0 0) (return_of 2 1) ten_keeps ten_covers

fits_five : Fits (constant 0 5)
fits_five = record { body = omega arith; chill = refl; traps = refl }

fits_sum : Fits (sum 1 0 0)
fits_sum = record { body = tt; chill = refl; traps = refl }

fits_return : Fits (return_of 2 1)
fits_return = record { body = tt; chill = refl; traps = refl }

ten_fits : AllFit ten.blocks
ten_fits = All-cons (λ (b : Block). All Fits b.values) _ []
    (All-cons Fits (constant 0 5) (sum 1 0 0 ∷ return_of 2 1 ∷ []) fits_five
    (All-cons Fits (sum 1 0 0) (return_of 2 1 ∷ []) fits_sum (All-cons Fits (return_of 2 1) [] fits_return (All-nil Fits)))) (All-nil _)

-- so the laws speak of it
ten_is_never_malformed : NeverMalformed ten
ten_is_never_malformed start answers n started = never_malformed ten (is_kept ten ten_is_valid ten_fits) start answers started n

-- and there is a start in range
ten_starts : IsStarted ten (start_of 7 [] no_memory) []
ten_starts = record {
  start_in_range = record { arguments = λ r. omega arith; frame_pointer = omega arith; slots = All-nil (λ word. word < 2 ^ 64); memory = λ q. tt };
  answers_in_range = All-nil IsRangedAnswer;
  slots = refl;
}
