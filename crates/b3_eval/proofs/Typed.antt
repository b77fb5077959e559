-- The types of values, gathered one after the other, are those of the first values of each id.
use Rattle.std.proofs.Common.{◌≡◌, ℕ, ◌+◌, ◌<◌, true, ◌&&◌, List, [], ◌∷◌, ◌++◌, length, take, slice_index_or, Option, Some, None, unwrap_or, refl, sym, ap, ◌∙◌, ⊎_elim, if◌then◌else◌, add-one}
use mathlib.Core.Path.{fun_ext}
use Rattle.std.specs.Prelude.{is_none}
use Rattle.std.specs.List.{flat_map}
use Rattle.std.specs.Option.{option_or}
use Rattle.std.proofs.lemmas.Grind.{flat_map-append}
use Rattle.std.proofs.lemmas.List.{append-nil}
use Rattle.std.proofs.lemmas.List.Concat.{flat_map-cons}
use Rattle.std.proofs.Math.Seq.{take-suc}
use Rattle.std.proofs.lemmas.Bool.{cases_eq, eq-eqb, ne_eqb}
use Rattle.b3_ir.specs.Naming.{all_values, type_of, type_or_void, with_id}
use Rattle.b3_ir.specs.Procedure.{Block, Procedure, no_block, values_of}
use Rattle.b3_ir.specs.declared.opcode.Ty.{Ty}
use Rattle.b3_ir.specs.declared.opcode.Ty.TheVariants.{Void}
use Rattle.b3_ir.specs.declared.value.Value.{Value}
use Rattle.b3_eval.specs.Lookup.{with_type, with_types}

pub with_types-append : (types : ℕ → Option Ty) (vs ws : List Value) → with_types types (vs ++ ws) ≡ with_types (with_types types vs) ws
with_types-append types [] ws = refl
with_types-append types (v ∷ vs) ws = with_types-append (with_type types v.id v.ty) vs ws

-- the type of a value that may be there
abbrev type_named : Option Value → Option Ty
type_named (Some v) = Some v.ty
type_named None = None

first_one : (types : ℕ → Option Ty) (v : Value) (vs : List Value) (q : ℕ) → option_or (with_type types v.id v.ty q) (type_named (with_id q vs)) ≡ option_or
    (types q) (type_named (with_id q (v ∷ vs)))
first_one types v vs q = ⊎_elim
    (λ is. rw (eq-eqb q v.id is, eq-eqb v.id q (sym is), ← is) (had (types q)))
    (λ not. rw (ne_eqb q v.id not, ne_eqb v.id q (λ e. not (sym e))) refl)
    (cases_eq q v.id)
  where
    had : (o : Option Ty) → option_or (if true && is_none o then Some v.ty else o) (type_named (with_id q vs)) ≡ option_or o (Some v.ty)
    had (Some ty) = refl
    had None = refl

types_at : (types : ℕ → Option Ty) (vs : List Value) (q : ℕ) → with_types types vs q ≡ option_or (types q) (type_named (with_id q vs))
types_at types [] q = kept (types q)
  where
    kept : (o : Option Ty) → o ≡ option_or o None
    kept (Some ty) = refl
    kept None = refl
types_at types (v ∷ vs) q = types_at (with_type types v.id v.ty) vs q ∙ first_one types v vs q

-- all types are those of the procedure
pub types_all : (p : Procedure) (types : ℕ → Option Ty) → types ≡ with_types (λ _. None) (all_values p) → (λ id. unwrap_or (types id) Void) ≡ type_of p
types_all p types e = fun_ext (λ q. ap (λ (f : ℕ → Option Ty). unwrap_or (f q) Void) e
    ∙ ap (λ (o : Option Ty). unwrap_or o Void) (types_at (λ _. None) (all_values p) q) ∙ named (with_id q (all_values p)))
  where
    named : (o : Option Value) → unwrap_or (option_or None (type_named o)) Void ≡ type_or_void o
    named (Some v) = refl
    named None = refl

-- ---- block by block

flat_map-one : (b : Block) → flat_map (λ (b : Block). b.values) (b ∷ []) ≡ b.values
flat_map-one b = flat_map-cons (λ (b : Block). b.values) b [] ∙ append-nil b.values

pub one_more_block : (p : Procedure) (types new : ℕ → Option Ty) (block : ℕ) → block < length p.blocks →
    types ≡ with_types (λ _. None) (flat_map (λ (b : Block). b.values) (take block p.blocks)) → new ≡ with_types types (values_of p block) →
    new ≡ with_types (λ _. None) (flat_map (λ (b : Block). b.values) (take (block + 1) p.blocks))
one_more_block p types new block lt e more =
    let f : Block → List Value = λ b. b.values in
    let split : take (block + 1) p.blocks ≡ take block p.blocks ++ slice_index_or p.blocks block no_block ∷ [] = rw add-one (take-suc p.blocks block
    no_block lt) in
    let flat : flat_map f (take (block + 1) p.blocks) ≡ flat_map f (take block p.blocks) ++ values_of p block =
    ap (flat_map f) split ∙ flat_map-append f (take block p.blocks) (slice_index_or p.blocks block no_block ∷ [])
    ∙ ap (λ (vs : List Value). flat_map f (take block p.blocks) ++ vs) (flat_map-one (slice_index_or p.blocks block no_block)) in
    more ∙ ap (λ (t : ℕ → Option Ty). with_types t (values_of p block)) e
    ∙ sym (with_types-append (λ _. None) (flat_map f (take block p.blocks)) (values_of p block))
    ∙ ap (with_types (λ _. None)) (sym flat)

-- ---- value by value

pub one_more_type : (types new : ℕ → Option Ty) (vs rest : List Value) (v : Value) (all : ℕ → Option Ty) → vs ≡ v ∷ rest → with_types types vs ≡ all →
    new ≡ with_type types v.id v.ty → with_types new rest ≡ all
one_more_type types new vs rest v all is e more = ap (λ (t : ℕ → Option Ty). with_types t rest) more ∙ ap (with_types types) (sym is) ∙ e
