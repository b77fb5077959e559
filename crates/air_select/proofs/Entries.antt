-- What is looked up over blocks for the entry: the arguments that are named, the last value, and the first Return.
use Rattle.std.proofs.Common.{◌≡◌, ℕ, ◌+◌, ◌<◌, Bool, true, false, ◌||◌, List, [], ◌∷◌, ◌++◌, Option, Some, None, length, drop, refl, sym, ap, ◌∙◌}
use Rattle.std.proofs.lemmas.List.{drop_more}
use Rattle.b3_ir.specs.Procedure.{Block, no_block}
use Rattle.b3_ir.specs.declared.opcode.Opcode.{Opcode}
use Rattle.b3_ir.specs.declared.opcode.Opcode.TheVariants as opcode
use Rattle.b3_ir.specs.declared.value.Value.{Value}
use Rattle.b3_rules.specs.Rules.{first_return, if_return}
use Rattle.air_select.specs.Returning.{is_return}
use Rattle.air_select.specs.Selected.{last_id, names_argument, names_register}
use Rattle.air_fold.proofs.Places.{row, values_in}

-- ---- the arguments that are named

pub argument_passed : (r : ℕ) (v : Value) → names_register r v.kind.opcode v.body ≡ false → (vs : List Value) → names_argument vs r ≡ names_argument (v ∷ vs) r
argument_passed r v e vs = ap (λ b. b || names_argument vs r) (sym e)

pub argument_found : (r : ℕ) (v : Value) (vs : List Value) → names_register r v.kind.opcode v.body ≡ true → true ≡ names_argument (v ∷ vs) r
argument_found r v vs e = ap (λ b. b || names_argument vs r) (sym e)

-- ---- the last value

-- the id of the last of some values, and another one where there are none
abbrev pub last_from : ℕ → List Value → ℕ
last_from id [] = id
last_from id (v ∷ vs) = last_from v.id vs

last_more : (w : Value) (ws : List Value) → last_from w.id ws ≡ last_id (w ∷ ws)
last_more w [] = refl
last_more w (u ∷ ws) = last_more u ws

pub last_is : (vs : List Value) → last_from 0 vs ≡ last_id vs
last_is [] = refl
last_is (v ∷ vs) = last_more v vs

-- ---- the first Return

passed : (op : Opcode) (v : Value) (o : Option Value) → is_return op ≡ false → o ≡ if_return op v o
passed opcode.Return v o e = absurd cc
passed _ v o e = refl

found : (op : Opcode) (v : Value) (o : Option Value) → is_return op ≡ true → if_return op v o ≡ Some v
found opcode.Return v o e = refl
found _ v o e = absurd cc

pub return_passed : (v : Value) → is_return v.kind.opcode ≡ false → (vs : List Value) → first_return vs ≡ first_return (v ∷ vs)
return_passed v e vs = passed v.kind.opcode v (first_return vs) e

pub return_found : (v : Value) (vs : List Value) → is_return v.kind.opcode ≡ true → first_return (v ∷ vs) ≡ Some v
return_found v vs e = found v.kind.opcode v (first_return vs) e

abbrev pub first_of : Option Value → Option Value → Option Value
first_of (Some v) o = Some v
first_of None o = o

pub first_joined : (xs ys : List Value) → first_return (xs ++ ys) ≡ first_of (first_return xs) (first_return ys)
first_joined [] ys = refl
first_joined (v ∷ xs) ys = by v.kind.opcode (is_return v.kind.opcode) refl (first_joined xs ys)
  where
    by : (op : Opcode) (b : Bool) → is_return op ≡ b → first_return (xs ++ ys) ≡ first_of (first_return xs) (first_return ys)
        → if_return op v (first_return (xs ++ ys)) ≡ first_of (if_return op v (first_return xs)) (first_return ys)
    by op true e more = found op v (first_return (xs ++ ys)) e ∙ sym (ap (λ o. first_of o (first_return ys)) (found op v (first_return xs) e))
    by op false e more =
        sym (passed op v (first_return (xs ++ ys)) e) ∙ more ∙ ap (λ o. first_of o (first_return ys)) (passed op v (first_return xs) e)

-- the first Return of the blocks from one on
pub first_of_block : (blocks : List Block) (b : ℕ) → b < length blocks
    → first_return (row (drop b blocks)) ≡ first_of (first_return (values_in blocks b)) (first_return (row (drop (b + 1) blocks)))
first_of_block blocks b lt =
    ap (λ bs. first_return (row bs)) (drop_more blocks b no_block lt) ∙ first_joined (values_in blocks b) (row (drop (b + 1) blocks))

pub first_passed : (blocks : List Block) (b : ℕ) (whole : Option Value) → b < length blocks → first_return (row (drop b blocks)) ≡ whole
    → first_return (values_in blocks b) ≡ None → first_return (row (drop (b + 1) blocks)) ≡ whole
first_passed blocks b whole lt e none =
    sym (ap (λ o. first_of o (first_return (row (drop (b + 1) blocks)))) none) ∙ sym (first_of_block blocks b lt) ∙ e

pub first_found : (blocks : List Block) (b : ℕ) (whole : Option Value) (v : Value) → b < length blocks → first_return (row (drop b blocks)) ≡ whole
    → first_return (values_in blocks b) ≡ Some v → Some v ≡ whole
first_found blocks b whole v lt e some =
    sym (ap (λ o. first_of o (first_return (row (drop (b + 1) blocks)))) some) ∙ sym (first_of_block blocks b lt) ∙ e
