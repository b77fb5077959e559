-- Parts of a procedure, one after the other.
use Rattle.std.proofs.Common.{◌≡◌, ◌≢◌, ℕ, ◌+◌, ◌<◌, ◌⊎◌, inl, inr, length, Option, None, Some, refl, sym, ap, subst, ◌∙◌, arith}
use Rattle.std.specs.Prelude.{option_map, slice_get}
use Rattle.std.proofs.lemmas.Bool.{cases_lt, cases_order}
use Rattle.std.proofs.lemmas.Option.{slice_get_within}
use Rattle.b3_ir.specs.Procedure.{Block, Procedure, StandsAt, values_of}
use Rattle.b3_ir.specs.declared.procedure.SlotLine.{SlotLine}
use Rattle.b3_ir.specs.declared.value.Value.{Value}
use Rattle.b3_ir.proofs.Spots.{in_blocks}
use Rattle.b3_rules.specs.Least.{IsLeastBroken, IsWithin}
use Rattle.b3_rules.specs.Numbers.{number_of}
use Rattle.b3_rules.specs.Valid.{IsPartOf, Keeps, Part, Header, SlotAt, HeadingAt, ValueAt, line_of}
use Rattle.b3_rules.specs.declared.rule.Rule.{Rule}
use Rattle.b3_rules.specs.declared.rule.Rule.TheVariants as rule
use Rattle.b3_validate.specs.declared.spot.Spot.{Spot}
use Rattle.b3_validate.specs.Spots.{IsAny, IsInBlock, IsLeastIn, IsOfBlocksBelow, IsSlotBelow, IsSooner}
use Rattle.b3_validate.proofs.Leasts.{join_parts}
use Rattle.b3_validate.proofs.RuleNumbers.{uses_or_other}

-- one part
abbrev pub IsPart : Part → Part → Type 0
IsPart one part = part ≡ one

no_part_none : (p : Procedure) (none : Part → Type 0) → ((part : Part) → ¬ (none part)) → IsLeastIn p none None
no_part_none p none empty = (λ r part no_use is_part seen. absurd (empty part seen), λ s b. empty b.part b.is_seen)

pub no_slots : (p : Procedure) → IsLeastIn p (IsSlotBelow 0) None
no_slots p = no_part_none p (IsSlotBelow 0) empty
  where
    empty : (part : Part) → ¬ (IsSlotBelow 0 part)
    empty (SlotAt place slot) less = omega arith
    empty _ none = none

pub no_values : (p : Procedure) (b : ℕ) → IsLeastIn p (IsInBlock b 0) None
no_values p b = no_part_none p (IsInBlock b 0) empty
  where
    empty : (part : Part) → ¬ (IsInBlock b 0 part)
    empty (ValueAt c place value) less = omega (arith, less.1)
    empty _ none = none

pub no_blocks : (p : Procedure) → IsLeastIn p (IsOfBlocksBelow 0) None
no_blocks p = no_part_none p (IsOfBlocksBelow 0) empty
  where
    empty : (part : Part) → ¬ (IsOfBlocksBelow 0 part)
    empty (HeadingAt place block) less = omega arith
    empty (ValueAt c place value) less = omega arith
    empty _ none = none

-- the spot of the first rule that one part breaks
abbrev spot_of : ℕ → Rule → Spot
spot_of line r = record { line = line; rule = r }

module _ (p : Procedure) (part : Part) (is_part : IsPartOf p part) where
  keeps_here : (r : Rule) (other : Part) → other ≡ part → Keeps r p part → Keeps r p other
  keeps_here r other same keeps = subst (Keeps r p) (sym same) keeps

  in_range : (r : Rule) → r ≢ rule.Uses → IsWithin 1 19 r
  in_range r no_use = elim (uses_or_other r) [ inl uses ↦ absurd (no_use uses) | inr other ↦ other.1 ]

  one_part_of : (line : ℕ) (o : Option Rule) → line ≡ line_of p part → IsLeastBroken 1 19 (λ r. Keeps r p part) o → IsLeastIn p (IsPart part) (option_map (spot_of line) o)
  one_part_of line None on_line kept = (
    λ r other no_use is_part_too same. keeps_here r other same (kept r (in_range r no_use)),
    λ s b. b.breaks (keeps_here s.rule b.part b.is_seen (kept s.rule (in_range s.rule b.other_rule))),
  )
  one_part_of line (Some r) on_line least = (
    record {
      part = part;
      is_part = is_part;
      is_seen = refl;
      on_line = sym on_line;
      other_rule = λ uses. absurd (let n : number_of r ≡ 20 = ap number_of uses in omega (arith, least.0.1));
      breaks = least.1;
    },
    λ s b.
        let same_line : line ≡ s.line = on_line ∙ sym (ap (line_of p) b.is_seen) ∙ b.on_line in
        inr (
          same_line,
          elim (cases_lt (number_of s.rule) (number_of r)) [
            | inl less ↦ absurd (b.breaks (keeps_here s.rule b.part b.is_seen (least.2 s.rule (in_range s.rule b.other_rule) less)))
            | inr more ↦ more
          ],
        ),
  )

  pub one_part : (line : ℕ) (o : Option Rule) (spot : Option Spot) → line ≡ line_of p part → IsLeastBroken 1 19 (λ r. Keeps r p part) o → spot ≡ option_map (λ r. record { line = line; rule = r }) o → IsLeastIn p (IsPart part) spot
  one_part line o spot on_line least e = subst (IsLeastIn p (IsPart part)) (sym e) (one_part_of line o on_line least)

-- ---- one part more

below_more : (k n : ℕ) → k < n + 1 → (k < n) ⊎ (k ≡ n)
below_more k n less = elim (cases_order k n) [ inl same ↦ inr same | inr apart ↦ elim apart [ inl below ↦ inl below | inr above ↦ absurd (omega arith) ] ]

module _ (p : Procedure) (a b r : Option Spot) (sooner : IsSooner a b r) where
  pub slot_more : (n : ℕ) (slot : SlotLine) → slice_get p.slots n ≡ Some slot → IsLeastIn p (IsSlotBelow n) a → IsLeastIn p (IsPart (SlotAt n slot)) b → IsLeastIn p (IsSlotBelow (n + 1)) r
  slot_more n slot there x y = join_parts p (IsSlotBelow n) (IsPart (SlotAt n slot)) (IsSlotBelow (n + 1)) a b r x y sooner split first (λ part is_part same. subst (IsSlotBelow (n + 1)) (sym same) (omega arith))
    where
      split : (part : Part) → IsPartOf p part → IsSlotBelow (n + 1) part → IsSlotBelow n part ⊎ IsPart (SlotAt n slot) part
      split (SlotAt place other) at less =
          elim (below_more place n less) [
            | inl below ↦ inl below
            | inr now ↦
                let here : slice_get p.slots n ≡ Some other = subst (λ (k : ℕ). slice_get p.slots k ≡ Some other) now at in
                let same : other ≡ slot = cc in
                inr (cc)
          ]
      split _ at none = absurd none

      first : (part : Part) → IsPartOf p part → IsSlotBelow n part → IsSlotBelow (n + 1) part
      first (SlotAt place other) at less = omega arith
      first _ at none = none

  pub value_more : (block n : ℕ) (v : Value) → StandsAt p block n v → IsLeastIn p (IsInBlock block n) a → IsLeastIn p (IsPart (ValueAt block n v)) b → IsLeastIn p (IsInBlock block (n + 1)) r
  value_more block n v there x y = join_parts p (IsInBlock block n) (IsPart (ValueAt block n v)) (IsInBlock block (n + 1)) a b r x y sooner split first (λ part is_part same. subst (IsInBlock block (n + 1)) (sym same) (refl, omega arith))
    where
      split : (part : Part) → IsPartOf p part → IsInBlock block (n + 1) part → IsInBlock block n part ⊎ IsPart (ValueAt block n v) part
      split (ValueAt c place other) at seen =
          elim (below_more place n seen.1) [
            | inl below ↦ inl (seen.0, below)
            | inr now ↦
                let moved : StandsAt p block place other = subst (λ (k : ℕ). StandsAt p k place other) seen.0 at in
                let here : StandsAt p block n other = subst (λ (k : ℕ). StandsAt p block k other) now moved in
                let same : other ≡ v = cc in
                let block_is : c ≡ block = seen.0 in
                inr (cc)
          ]
      split _ at none = absurd none

      first : (part : Part) → IsPartOf p part → IsInBlock block n part → IsInBlock block (n + 1) part
      first (ValueAt c place other) at seen = (seen.0, omega (arith, seen.1))
      first _ at none = none

  -- the heading and the values of a block
  abbrev pub IsOfBlock : ℕ → Block → Part → Type 0
  IsOfBlock n block part = IsPart (HeadingAt n block) part ⊎ IsInBlock n (length (values_of p n)) part

  pub block_whole : (n : ℕ) (block : Block) → IsLeastIn p (IsPart (HeadingAt n block)) a → IsLeastIn p (IsInBlock n (length (values_of p n))) b → IsLeastIn p (λ part. IsPart (HeadingAt n block) part ⊎ IsInBlock n (length (values_of p n)) part) r
  block_whole n block x y = join_parts p (IsPart (HeadingAt n block)) (IsInBlock n (length (values_of p n))) (IsOfBlock n block) a b r x y sooner (λ part is_part seen. seen) (λ part is_part seen. inl seen) (λ part is_part seen. inr seen)

  pub block_more : (n : ℕ) (block : Block) → slice_get p.blocks n ≡ Some block → IsLeastIn p (IsOfBlocksBelow n) a → IsLeastIn p (λ part. IsPart (HeadingAt n block) part ⊎ IsInBlock n (length (values_of p n)) part) b → IsLeastIn p (IsOfBlocksBelow (n + 1)) r
  block_more n block there x y = join_parts p (IsOfBlocksBelow n) (IsOfBlock n block) (IsOfBlocksBelow (n + 1)) a b r x y sooner split first second
    where
      split : (part : Part) → IsPartOf p part → IsOfBlocksBelow (n + 1) part → IsOfBlocksBelow n part ⊎ IsOfBlock n block part
      split (HeadingAt place other) at less =
          elim (below_more place n less) [
            | inl below ↦ inl below
            | inr now ↦
                let here : slice_get p.blocks n ≡ Some other = subst (λ (k : ℕ). slice_get p.blocks k ≡ Some other) now at in
                let same : other ≡ block = cc in
                inr (inl (cc))
          ]
      split (ValueAt c place other) at less =
          elim (below_more c n less) [
            | inl below ↦ inl below
            | inr now ↦
                let moved : StandsAt p n place other = subst (λ (k : ℕ). StandsAt p k place other) now at in
                inr (inr (now, slice_get_within (values_of p n) place other moved))
          ]
      split _ at none = absurd none

      first : (part : Part) → IsPartOf p part → IsOfBlocksBelow n part → IsOfBlocksBelow (n + 1) part
      first (HeadingAt place other) at less = omega arith
      first (ValueAt c place other) at less = omega arith
      first _ at none = none

      second : (part : Part) → IsPartOf p part → IsOfBlock n block part → IsOfBlocksBelow (n + 1) part
      second part at seen =
          elim seen [
            | inl same ↦ subst (IsOfBlocksBelow (n + 1)) (sym same) (omega arith)
            | inr inside ↦ in_values part inside
          ]
        where
          in_values : (q : Part) → IsInBlock n (length (values_of p n)) q → IsOfBlocksBelow (n + 1) q
          in_values (ValueAt c place other) is = omega (arith, is.0)
          in_values _ none = absurd none

-- ---- all parts

abbrev pub IsInFront : Procedure → Part → Type 0
IsInFront p part = IsPart Header part ⊎ IsSlotBelow (length p.slots) part

pub front : (p : Procedure) (a b r : Option Spot) → IsSooner a b r → IsLeastIn p (IsPart Header) a → IsLeastIn p (IsSlotBelow (length p.slots)) b → IsLeastIn p (IsInFront p) r
front p a b r sooner x y = join_parts p (IsPart Header) (IsSlotBelow (length p.slots)) (IsInFront p) a b r x y sooner (λ part is_part seen. seen) (λ part is_part seen. inl seen) (λ part is_part seen. inr seen)

pub whole_procedure : (p : Procedure) (a b r : Option Spot) → IsSooner a b r → IsLeastIn p (IsInFront p) a → IsLeastIn p (IsOfBlocksBelow (length p.blocks)) b → IsLeastIn p IsAny r
whole_procedure p a b r sooner x y = join_parts p (IsInFront p) (IsOfBlocksBelow (length p.blocks)) IsAny a b r x y sooner split (λ part is_part seen. tt) (λ part is_part seen. tt)
  where
    split : (part : Part) → IsPartOf p part → IsAny part → IsInFront p part ⊎ IsOfBlocksBelow (length p.blocks) part
    split Header at any = inl (inl refl)
    split (SlotAt place slot) at any = inl (inr (slice_get_within p.slots place slot at))
    split (HeadingAt place block) at any = inr (slice_get_within p.blocks place block at)
    split (ValueAt c place v) at any = inr (in_blocks p c place v at)
