-- A made procedure is valid.
use Rattle.std.proofs.Common.{◌≡◌, ◌≢◌, ℕ, zero, suc, ◌+◌, ◌-◌, ◌<◌, ◌≤◌, ◌⊎◌, inl, inr, Bool, true, List, [], ◌∷◌, Some, length, refl, sym, ap, ◌∙◌, subst, arith, take, ⊎_elim}
use Rattle.std.specs.Prelude.{Contains, slice_get}
use Rattle.std.proofs.lemmas.Bool.{cases_lt}
use Rattle.std.proofs.lemmas.List.Elements.{All-nil, All-weaker}
use Rattle.b3_ir.specs.Naming.{all_values, type_of}
use Rattle.b3_ir.specs.Procedure.{Block, Procedure, StandsAt, values_of}
use Rattle.b3_ir.specs.Table.{is_terminal}
use Rattle.b3_ir.specs.Types.{allows_types}
use Rattle.b3_ir.specs.declared.opcode.Opcode.{Opcode}
use Rattle.b3_ir.specs.declared.opcode.Opcode.TheVariants as op
use Rattle.b3_ir.specs.declared.opcode.Ty.{Ty}
use Rattle.b3_ir.specs.declared.opcode.Ty.TheVariants.{Int32, Int64}
use Rattle.b3_ir.specs.declared.procedure.SlotLine.{SlotLine}
use Rattle.b3_ir.specs.declared.value.Body.TheVariants.{Target}
use Rattle.b3_ir.specs.declared.value.Stackmap.{Stackmap}
use Rattle.b3_ir.specs.declared.value.Value.{Value}
use Rattle.stackmap.specs.Rules.{FixesApart, HasRegisters, NamesConstraints, NamesRegisters}
use Rattle.b3_rules.specs.Paths.{IsCoveredAt, IsPath, IsSuccessor, successors_in}
use Rattle.b3_rules.specs.Rules.{CoversUses, HasNewId, IsArgumentAt, IsBlockNumber, IsId, IsLast, IsTyped, KnowsBlocks, KnowsIds, KnowsSlot, OfStackmap, ReturnsAlike, SuitsPhi, first_type, types_of}
use Rattle.b3_rules.specs.Valid.{Header, HeaderKeeps, HeadingAt, HeadingKeeps, IsValidProcedure, SlotAt, SlotKeeps, ValueAt, ValueKeeps}
use Rattle.b3_rules.specs.declared.rule.Rule.{Rule}
use Rattle.b3_rules.specs.declared.rule.Rule.TheVariants as rule
use Rattle.b3_generated.proofs.Forms.{Form, IsWordBelow, by_form, by_opcode, form_at, id_of}
use Rattle.b3_generated.proofs.Values.{IsMade, Named, all_forms, below_limit, block_on, count_of, few_blocks, form_of, less_typed, limit, limit_start, made, start, stands, value_at, word_typed}
use Rattle.b3_generated.proofs.Rules.{Ends, Leads, arguments_first, contains_at, ends, leads, lesser, no_cases, no_map, one_of, phi_there, return_at, sizes, take_at, terminal, two_of}

module _ (name : List ℕ) (line la lb lc : ℕ) (first second third : List Value) (is : IsMade first second third) where
  abbrev p : Procedure
  p = made name line la lb lc first second third

  at_form : (b j : ℕ) (v : Value) → StandsAt p b j v → Form (start b + j) v
  at_form b j v at = form_of name line la lb lc first second third is b j v at

  at_limit : (b j : ℕ) (v : Value) → StandsAt p b j v → start b + j < limit b
  at_limit b j v at = below_limit name line la lb lc first second third is b j v at

  at_few : (b j : ℕ) (v : Value) → StandsAt p b j v → b < 3
  at_few b j v at = few_blocks name line la lb lc first second third is b j v at

  at_count : (b : ℕ) → b < 3 → start b + length (values_of p b) ≡ limit b
  at_count b few = count_of name line la lb lc first second third is b few

  at_id : (i : ℕ) → i < 517 → Named name line la lb lc first second third is i
  at_id i lt = value_at name line la lb lc first second third is i lt

  -- ---- ids and ends

  new_id : (b j : ℕ) (v : Value) → StandsAt p b j v → HasNewId p b j v
  new_id b j v at = λ c m w there earlier same.
      let x : v.id ≡ start b + j = id_of (start b + j) v (at_form b j v at) in
      let y : w.id ≡ start c + m = id_of (start c + m) w (at_form c m w there) in
      let few = at_few b j v at in
      let within : start c + m < limit c = at_limit c m w there in
      ⊎_elim
      (λ (before : c < b). let le : limit c ≤ start b = limit_start c b before few in omega arith)
      (λ (here : (c ≡ b) × (m < j)). let s : start c ≡ start b = ap start here.0 in omega arith) earlier

  last_end : (b j : ℕ) → b < 3 → start b + j + 1 ≡ limit b → Ends (start b + j)
  last_end zero j few e = inl (omega arith)
  last_end (suc zero) j few e = inr (inl (omega arith))
  last_end (suc (suc zero)) j few e = inr (inr (omega arith))
  last_end (suc (suc (suc b))) j few e = absurd (omega arith)

  end_last : (b j : ℕ) → b < 3 → start b + j < limit b → Ends (start b + j) → start b + j + 1 ≡ limit b
  end_last zero j few lt h = ⊎_elim (λ (x : 0 + j ≡ 11). omega arith)
      (λ (more : (0 + j ≡ 515) ⊎ (0 + j ≡ 516)). ⊎_elim (λ (x : 0 + j ≡ 515). absurd (omega arith)) (λ (x : 0 + j ≡ 516). absurd (omega arith)) more) h
  end_last (suc zero) j few lt h = ⊎_elim (λ (x : 12 + j ≡ 11). absurd (omega arith))
      (λ (more : (12 + j ≡ 515) ⊎ (12 + j ≡ 516)). ⊎_elim (λ (x : 12 + j ≡ 515). omega arith) (λ (x : 12 + j ≡ 516). absurd (omega arith)) more) h
  end_last (suc (suc zero)) j few lt h = ⊎_elim (λ (x : 516 + j ≡ 11). absurd (omega arith))
      (λ (more : (516 + j ≡ 515) ⊎ (516 + j ≡ 516)). ⊎_elim (λ (x : 516 + j ≡ 515). absurd (omega arith)) (λ (x : 516 + j ≡ 516). omega arith) more) h
  end_last (suc (suc (suc b))) j few lt h = absurd (omega arith)

  ending : (b j : ℕ) (v : Value) → StandsAt p b j v → IsLast p b j → is_terminal v.kind.opcode ≡ true
  ending b j v at last =
      let few = at_few b j v at in
      terminal (start b + j) v (at_form b j v at) (last_end b j few (omega (arith, last, at_count b few)))

  terminal_last : (b j : ℕ) (v : Value) → StandsAt p b j v → is_terminal v.kind.opcode ≡ true → IsLast p b j
  terminal_last b j v at e =
      let few = at_few b j v at in
      let end : start b + j + 1 ≡ limit b = end_last b j few (at_limit b j v at) (ends (start b + j) v (at_form b j v at) e) in
      omega (arith, end, at_count b few)

  -- ---- what values name

  is_id : (x : ℕ) → x < 517 → IsId p x
  is_id x lt = let v = at_id x lt in (v.value, v.named)

  typed : (x : ℕ) → (x < 10) ⊎ ((12 ≤ x) × (x < 513)) → type_of p x ≡ Int64
  typed x at = word_typed name line la lb lc first second third is x at

  typed_below : (i x : ℕ) → i < 513 → IsWordBelow i x → type_of p x ≡ Int64
  typed_below i x high below =
      typed x (⊎_elim (λ (low : x < 10). inl low) (λ (mid : 12 ≤ x). inr (mid, omega (arith, below.0))) below.1)

  typed_less : type_of p 514 ≡ Int32
  typed_less = less_typed name line la lb lc first second third is

  knows_ids : (i : ℕ) (v : Value) → Form i v → KnowsIds p v
  knows_ids = by_form (λ i v. KnowsIds p v) (record {
    arguments = λ line i low. (All-nil _, tt);
    constants = λ line i word low high small. (All-nil _, tt);
    first = λ line. (one_of (IsId p) 0 (is_id 0 (omega arith)), is_id 12 (omega arith));
    jump = λ line. (All-nil _, tt);
    phi = λ line. (All-nil _, tt);
    operations = λ line i number x y low high first second. (two_of (IsId p) x y (is_id x (omega (arith, first.0))) (is_id y (omega (arith, second.0))), tt);
    next = λ line. (one_of (IsId p) 512 (is_id 512 (omega arith)), is_id 12 (omega arith));
    less = λ line. (two_of (IsId p) 512 1 (is_id 512 (omega arith)) (is_id 1 (omega arith)), tt);
    branch = λ line. (one_of (IsId p) 514 (is_id 514 (omega arith)), tt);
    returned = λ line. (one_of (IsId p) 512 (is_id 512 (omega arith)), tt);
  })

  well_typed : (i : ℕ) (v : Value) → Form i v → IsTyped p v
  well_typed = by_form (λ i v. IsTyped p v) (record {
    arguments = λ line i low. refl;
    constants = λ line i word low high small. refl;
    first = λ line. rw (typed 0 (inl (omega arith))) refl;
    jump = λ line. refl;
    phi = λ line. refl;
    operations = λ line i number x y low high first second.
        rw (typed_below i x high first, typed_below i y high second)
        (by_opcode (λ (o : Opcode). allows_types o Int64 (Int64 ∷ Int64 ∷ []) ≡ true) refl refl refl refl refl refl number);
    next = λ line. rw (typed 512 (inr (omega arith, omega arith))) refl;
    less = λ line. rw (typed 512 (inr (omega arith, omega arith)), typed 1 (inl (omega arith))) refl;
    branch = λ line. rw typed_less refl;
    returned = λ line. rw (typed 512 (inr (omega arith, omega arith))) refl;
  })

  phi_of : (x : ℕ) → type_of p x ≡ Int64 → SuitsPhi p (type_of p x ∷ []) (Target 12)
  phi_of x e =
      let v = at_id 12 (omega arith) in
      let phi = phi_there 12 v.value v.form refl in
      (v.value, v.named, phi.0, ap (λ (ty : Ty). ty ∷ []) (e ∙ sym phi.1))

  suits_phi : (i : ℕ) (v : Value) → Form i v → SuitsPhi p (types_of p v) v.body
  suits_phi = by_form (λ i v. SuitsPhi p (types_of p v) v.body) (record {
    arguments = λ line i low. tt;
    constants = λ line i word low high small. tt;
    first = λ line. phi_of 0 (typed 0 (inl (omega arith)));
    jump = λ line. tt;
    phi = λ line. tt;
    operations = λ line i number x y low high first second. tt;
    next = λ line. phi_of 512 (typed 512 (inr (omega arith, omega arith)));
    less = λ line. tt;
    branch = λ line. tt;
    returned = λ line. tt;
  })

  knows_slot : (i : ℕ) (v : Value) → Form i v → KnowsSlot p v.body
  knows_slot = by_form (λ i v. KnowsSlot p v.body) (record {
    arguments = λ line i low. tt;
    constants = λ line i word low high small. tt;
    first = λ line. tt;
    jump = λ line. tt;
    phi = λ line. tt;
    operations = λ line i number x y low high first second. tt;
    next = λ line. tt;
    less = λ line. tt;
    branch = λ line. tt;
    returned = λ line. tt;
  })

  block_one : IsBlockNumber p 1
  block_one = (1, record { number = 1; line = lb; values = second }, refl, refl)

  block_two : IsBlockNumber p 2
  block_two = (2, record { number = 2; line = lc; values = third }, refl, refl)

  knows_blocks : (i : ℕ) (v : Value) → Form i v → KnowsBlocks p v
  knows_blocks = by_form (λ i v. KnowsBlocks p v) (record {
    arguments = λ line i low. All-nil _;
    constants = λ line i word low high small. All-nil _;
    first = λ line. All-nil _;
    jump = λ line. one_of (IsBlockNumber p) 1 block_one;
    phi = λ line. All-nil _;
    operations = λ line i number x y low high first second. All-nil _;
    next = λ line. All-nil _;
    less = λ line. All-nil _;
    branch = λ line. two_of (IsBlockNumber p) 1 2 block_one block_two;
    returned = λ line. All-nil _;
  })

  -- ---- returns and arguments

  return_types : (i : ℕ) (v : Value) → Form i v → v.kind.opcode ≡ op.Return → types_of p v ≡ type_of p 512 ∷ []
  return_types = by_form (λ i v. v.kind.opcode ≡ op.Return → types_of p v ≡ type_of p 512 ∷ []) (record {
    arguments = λ line i low e. absurd cc;
    constants = λ line i word low high small e. absurd cc;
    first = λ line e. absurd cc;
    jump = λ line e. absurd cc;
    phi = λ line e. absurd cc;
    operations = λ line i number x y low high first second e.
        absurd ((by_opcode (λ (o : Opcode). o ≢ op.Return) (λ h. cc) (λ h. cc) (λ h. cc) (λ h. cc) (λ h. cc) (λ h. cc) number) e);
    next = λ line e. absurd cc;
    less = λ line e. absurd cc;
    branch = λ line e. absurd cc;
    returned = λ line e. refl;
  })

  returns_alike : (b j : ℕ) (v : Value) → StandsAt p b j v → ReturnsAlike p v
  returns_alike b j v at = λ returns w is_first.
      let there = return_at (all_values p) w is_first in
      let form : Form (0 + there.0) w = form_at 0 (all_values p) (all_forms name line la lb lc first second third is) there.0 w there.1 in
      return_types (start b + j) v (at_form b j v at) returns ∙ sym (return_types (0 + there.0) w form there.2)

  argument_at : (b j : ℕ) (v : Value) → StandsAt p b j v → IsArgumentAt b v
  argument_at b j v at = λ e.
      let h = arguments_first (start b + j) v (at_form b j v at) e in
      (first_block b j h.0, h.1)
    where
      first_block : (b j : ℕ) → start b + j < 8 → b ≡ 0
      first_block zero j lt = refl
      first_block (suc zero) j lt = absurd (omega arith)
      first_block (suc (suc b)) j lt = absurd (omega arith)

  of_map : (holds : Bool → Stackmap → Type 0) (i : ℕ) (v : Value) → Form i v → OfStackmap holds v
  of_map holds i v form = λ map e. absurd (no_map i v form map e)

  -- ---- uses

  -- a block is at most one behind the one before it on a path
  near : (b j : ℕ) (v : Value) (t : ℕ) → StandsAt p b j v → Contains (successors_in v.body) t → t ≤ b + 1
  near b j v t at h = by b j (at_few b j v at) (at_limit b j v at) (leads (start b + j) v (at_form b j v at) t h)
    where
      by : (b j : ℕ) → b < 3 → start b + j < limit b → Leads (start b + j) t → t ≤ b + 1
      by zero j few lt h = ⊎_elim (λ (x : (0 + j ≡ 11) × (t ≡ 1)). omega (arith, x.1)) (λ (x : (0 + j ≡ 515) × (t ≤ 2)). absurd (omega (arith, x.0))) h
      by (suc zero) j few lt h = ⊎_elim (λ (x : (12 + j ≡ 11) × (t ≡ 1)). absurd (omega (arith, x.0))) (λ (x : (12 + j ≡ 515) × (t ≤ 2)). omega (arith, x.1)) h
      by (suc (suc b)) j few lt h = ⊎_elim (λ (x : (516 + j ≡ 11) × (t ≡ 1)). omega (arith, x.1)) (λ (x : (516 + j ≡ 515) × (t ≤ 2)). omega (arith, x.1)) h

  some_place : (vs : List Value) (v : Value) → Contains vs v → (k : ℕ) × (slice_get vs k ≡ Some v)
  some_place [] v h = absurd (omega (arith, h.1))
  some_place (w ∷ vs) v (zero, lt, e) = (0, ap Some e)
  some_place (w ∷ vs) v (suc k, lt, e) = let more = some_place vs v (k, omega (arith, lt), e) in (suc more.0, more.1)

  successor_near : (b t : ℕ) → IsSuccessor p b t → t ≤ b + 1
  successor_near b t s = let at = some_place (values_of p b) s.0 s.1 in near b at.0 s.0 t at.1 s.2

  passes : (passed : List ℕ) (b c : ℕ) → IsPath p passed b → c < b → Contains passed c
  passes [] b c path less = absurd (omega (arith, path))
  passes (last ∷ passed) b c path less =
      let le : b ≤ last + 1 = successor_near last b path.0 in
      elim (cases_lt c last) [
        | inl before ↦ let more = passes passed last c path.1 before in (suc more.0, omega (arith, more.1), more.2)
        | inr back ↦ let same : last ≡ c = omega arith in (0, omega arith, same)
      ]

  block_of_id : (b x : ℕ) → b < 3 → x < start b → (c : ℕ) × (k : ℕ) × (c < b) × (start c + k ≡ x) × (x < limit c)
  block_of_id zero x few lt = absurd (omega arith)
  block_of_id (suc zero) x few lt = (0, x, omega arith, omega arith, lt)
  block_of_id (suc (suc b)) x few lt =
      elim (cases_lt x 12) [
        | inl low ↦ (0, x, omega arith, omega arith, low)
        | inr high ↦ (1, x - 12, omega arith, omega arith, lt)
      ]

  stands_at : (b j : ℕ) → b < 3 → start b + j < limit b → (v : Value) × StandsAt p b j v
  stands_at b j few lt = stands name line la lb lc first second third is b j few lt

  covered : (b j x : ℕ) → b < 3 → start b + j < limit b → x < start b + j → IsCoveredAt p b j x
  covered b j x few lt less passed path =
      elim (cases_lt x (start b)) [
        | inl before ↦
            let at = block_of_id b x few before in
            let c = at.0 in
            let v = stands_at c at.1 (omega (arith, at.2)) (omega (arith, at.3, at.4)) in (
              v.0,
              id_of (start c + at.1) v.0 (at_form c at.1 v.0 v.1) ∙ at.3,
              inr (c, passes passed b c path at.2, contains_at (values_of p c) at.1 v.0 v.1),
            )
        | inr here ↦
            let m : ℕ = x - start b in
            let v = stands_at b m few (omega arith) in (
              v.0,
              id_of (start b + m) v.0 (at_form b m v.0 v.1) ∙ omega arith,
              inl (contains_at (take j (values_of p b)) m v.0 (take_at (values_of p b) j m v.0 (omega arith) v.1)),
            )
      ]

  covers : (b j : ℕ) (v : Value) → StandsAt p b j v → CoversUses p b j v
  covers b j v at =
      All-weaker (λ x. x < start b + j) (IsCoveredAt p b j) (λ x less. covered b j x (at_few b j v at) (at_limit b j v at) less) v.children
      (lesser (start b + j) v (at_form b j v at))

  -- ---- all of them

  value_keeps : (r : Rule) (b j : ℕ) (v : Value) → StandsAt p b j v → ValueKeeps r p b j v
  value_keeps rule.Ids b j v at = new_id b j v at
  value_keeps rule.Endings b j v at = ending b j v at
  value_keeps rule.Terminals b j v at = terminal_last b j v at
  value_keeps rule.KnownIds b j v at = knows_ids (start b + j) v (at_form b j v at)
  value_keeps rule.Types b j v at = well_typed (start b + j) v (at_form b j v at)
  value_keeps rule.Phis b j v at = suits_phi (start b + j) v (at_form b j v at)
  value_keeps rule.KnownSlots b j v at = knows_slot (start b + j) v (at_form b j v at)
  value_keeps rule.Successors b j v at = knows_blocks (start b + j) v (at_form b j v at)
  value_keeps rule.Cases b j v at = no_cases (start b + j) v (at_form b j v at) (first_type (types_of p v))
  value_keeps rule.Returns b j v at = returns_alike b j v at
  value_keeps rule.Arguments b j v at = argument_at b j v at
  value_keeps rule.Constraints b j v at = of_map NamesConstraints (start b + j) v (at_form b j v at)
  value_keeps rule.Registers b j v at = of_map NamesRegisters (start b + j) v (at_form b j v at)
  value_keeps rule.FixedRegisters b j v at = of_map FixesApart (start b + j) v (at_form b j v at)
  value_keeps rule.RegisterDemand b j v at = of_map HasRegisters (start b + j) v (at_form b j v at)
  value_keeps rule.Sizes b j v at = sizes (start b + j) v (at_form b j v at)
  value_keeps rule.Uses b j v at = covers b j v at
  value_keeps rule.Names b j v at = tt
  value_keeps rule.Slots b j v at = tt
  value_keeps rule.Blocks b j v at = tt

  header_keeps : (r : Rule) → HeaderKeeps r p
  header_keeps rule.Endings = omega arith
  header_keeps _ = tt

  heading_at : (place : ℕ) (block : Block) → slice_get p.blocks place ≡ Some block → (block.number ≡ place) × (0 < length block.values)
  heading_at zero block there =
      let same : block_on 0 la first ≡ block = cc in
      subst (λ (x : Block). (x.number ≡ 0) × (0 < length x.values)) same (refl, omega (arith, is.first_count))
  heading_at (suc zero) block there =
      let same : block_on 1 lb second ≡ block = cc in
      subst (λ (x : Block). (x.number ≡ 1) × (0 < length x.values)) same (refl, omega (arith, is.second_count))
  heading_at (suc (suc zero)) block there =
      let same : block_on 2 lc third ≡ block = cc in
      subst (λ (x : Block). (x.number ≡ 2) × (0 < length x.values)) same (refl, omega (arith, is.third_count))
  heading_at (suc (suc (suc place))) block there = absurd cc

  heading_keeps : (r : Rule) (place : ℕ) (block : Block) → slice_get p.blocks place ≡ Some block → HeadingKeeps r place block
  heading_keeps rule.Blocks place block there = (heading_at place block there).0
  heading_keeps rule.Endings place block there = (heading_at place block there).1
  heading_keeps _ place block there = tt

  slot_keeps : (r : Rule) (place : ℕ) (slot : SlotLine) → slice_get [] place ≡ Some slot → SlotKeeps r place slot
  slot_keeps r place slot there = absurd cc

  pub valid_procedure : IsValidProcedure p
  valid_procedure r Header part = header_keeps r
  valid_procedure r (SlotAt place slot) there = slot_keeps r place slot there
  valid_procedure r (HeadingAt place block) there = heading_keeps r place block there
  valid_procedure r (ValueAt b j v) at = value_keeps r b j v at
