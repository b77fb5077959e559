-- A made procedure keeps each rule.
use Rattle.std.proofs.Common.{◌≡◌, ◌≢◌, ℕ, zero, suc, ◌<◌, ◌≤◌, ◌⊎◌, inl, inr, true, List, [], ◌∷◌, Option, Some, refl, sym, ap, subst, arith, take, ⊎_elim}
use Rattle.std.specs.Prelude.{All, Contains, slice_get}
use Rattle.std.proofs.lemmas.List.Elements.{All-cons, All-nil}
use Rattle.std.proofs.lemmas.Option.{get_or_from_slice_get, slice_get_within}
use Rattle.b3_ir.specs.Table.{is_terminal}
use Rattle.b3_ir.specs.declared.opcode.Opcode.{Opcode}
use Rattle.b3_ir.specs.declared.opcode.Opcode.TheVariants as op
use Rattle.b3_ir.specs.declared.opcode.Ty.{Ty}
use Rattle.b3_ir.specs.declared.opcode.Ty.TheVariants.{Int64}
use Rattle.b3_ir.specs.declared.value.Stackmap.{Stackmap}
use Rattle.b3_ir.specs.declared.value.Value.{Value}
use Rattle.stackmap.specs.Registers.{stackmap_in}
use Rattle.b3_rules.specs.Paths.{successors_in}
use Rattle.b3_rules.specs.Rules.{AreCasesOf, HasSizes, IsArgumentIn, first_return, if_return}
use Rattle.b3_generated.proofs.Forms.{Form, by_form, by_opcode}

pub contains_at : {X : Type 0} (xs : List X) (k : ℕ) (x : X) → slice_get xs k ≡ Some x → Contains xs x
contains_at xs k x there = (k, slice_get_within xs k x there, get_or_from_slice_get xs k x x there)

pub take_at : {X : Type 0} (xs : List X) (j k : ℕ) (x : X) → k < j → slice_get xs k ≡ Some x → slice_get (take j xs) k ≡ Some x
take_at [] j k x lt there = absurd cc
take_at (y ∷ xs) zero k x lt there = absurd (omega arith)
take_at (y ∷ xs) (suc j) zero x lt there = there
take_at (y ∷ xs) (suc j) (suc k) x lt there = take_at xs j k x (omega arith) there

pub one_of : {X : Type 0} (P : X → Type 0) (x : X) → P x → All P (x ∷ [])
one_of P x h = All-cons P x [] h (All-nil P)

pub two_of : {X : Type 0} (P : X → Type 0) (x y : X) → P x → P y → All P (x ∷ y ∷ [])
two_of P x y h k = All-cons P x (y ∷ []) h (one_of P y k)

-- ---- what holds of the values by their ids alone

-- children have lesser ids
abbrev pub Lesser : ℕ → Value → Type 0
Lesser i v = All (λ x. x < i) v.children

pub lesser : (i : ℕ) (v : Value) → Form i v → Lesser i v
lesser = by_form Lesser (record {
  arguments = λ line i low. All-nil _;
  constants = λ line i word low high small. All-nil _;
  first = λ line. one_of (λ x. x < 10) 0 (omega arith);
  jump = λ line. All-nil _;
  phi = λ line. All-nil _;
  operations = λ line i number x y low high first second. two_of (λ n. n < i) x y first.0 second.0;
  next = λ line. one_of (λ x. x < 513) 512 (omega arith);
  less = λ line. two_of (λ x. x < 514) 512 1 (omega arith) (omega arith);
  branch = λ line. one_of (λ x. x < 515) 514 (omega arith);
  returned = λ line. one_of (λ x. x < 516) 512 (omega arith);
})

-- the last ids of the blocks
abbrev pub Ends : ℕ → Type 0
Ends i = (i ≡ 11) ⊎ ((i ≡ 515) ⊎ (i ≡ 516))

pub ends : (i : ℕ) (v : Value) → Form i v → is_terminal v.kind.opcode ≡ true → Ends i
ends = by_form (λ i v. is_terminal v.kind.opcode ≡ true → Ends i) (record {
  arguments = λ line i low e. absurd cc;
  constants = λ line i word low high small e. absurd cc;
  first = λ line e. absurd cc;
  jump = λ line e. inl refl;
  phi = λ line e. absurd cc;
  operations = λ line i number x y low high first second e.
      absurd ((by_opcode (λ (o : Opcode). ¬ (is_terminal o ≡ true)) (λ h. cc) (λ h. cc) (λ h. cc) (λ h. cc) (λ h. cc) (λ h. cc) number) e);
  next = λ line e. absurd cc;
  less = λ line e. absurd cc;
  branch = λ line e. inr (inl refl);
  returned = λ line e. inr (inr refl);
})

pub not_end : (i : ℕ) → i ≢ 11 → i ≢ 515 → i ≢ 516 → ¬ (Ends i)
not_end i a b c h = ⊎_elim (λ (x : i ≡ 11). a x) (λ (more : (i ≡ 515) ⊎ (i ≡ 516)). ⊎_elim (λ (x : i ≡ 515). b x) (λ (x : i ≡ 516). c x) more) h

pub terminal : (i : ℕ) (v : Value) → Form i v → Ends i → is_terminal v.kind.opcode ≡ true
terminal = by_form (λ i v. Ends i → is_terminal v.kind.opcode ≡ true) (record {
  arguments = λ line i low e. absurd (not_end i (λ h. omega arith) (λ h. omega arith) (λ h. omega arith) e);
  constants = λ line i word low high small e. absurd (not_end i (λ h. omega arith) (λ h. omega arith) (λ h. omega arith) e);
  first = λ line e. absurd (not_end 10 (λ h. omega arith) (λ h. omega arith) (λ h. omega arith) e);
  jump = λ line e. refl;
  phi = λ line e. absurd (not_end 12 (λ h. omega arith) (λ h. omega arith) (λ h. omega arith) e);
  operations = λ line i number x y low high first second e. absurd (not_end i (λ h. omega arith) (λ h. omega arith) (λ h. omega arith) e);
  next = λ line e. absurd (not_end 513 (λ h. omega arith) (λ h. omega arith) (λ h. omega arith) e);
  less = λ line e. absurd (not_end 514 (λ h. omega arith) (λ h. omega arith) (λ h. omega arith) e);
  branch = λ line e. refl;
  returned = λ line e. refl;
})

-- no value has a stackmap
pub no_map : (i : ℕ) (v : Value) → Form i v → (map : Stackmap) → ¬ (stackmap_in v.body ≡ Some map)
no_map = by_form (λ i v. (map : Stackmap) → ¬ (stackmap_in v.body ≡ Some map)) (record {
  arguments = λ line i low map e. cc;
  constants = λ line i word low high small map e. cc;
  first = λ line map e. cc;
  jump = λ line map e. cc;
  phi = λ line map e. cc;
  operations = λ line i number x y low high first second map e. cc;
  next = λ line map e. cc;
  less = λ line map e. cc;
  branch = λ line map e. cc;
  returned = λ line map e. cc;
})

-- no value is a call or a patchpoint
pub sizes : (i : ℕ) (v : Value) → Form i v → HasSizes v
sizes = by_form (λ i v. HasSizes v) (record {
  arguments = λ line i low. ((λ e. absurd cc), (λ e. absurd cc));
  constants = λ line i word low high small. ((λ e. absurd cc), (λ e. absurd cc));
  first = λ line. ((λ e. absurd cc), (λ e. absurd cc));
  jump = λ line. ((λ e. absurd cc), (λ e. absurd cc));
  phi = λ line. ((λ e. absurd cc), (λ e. absurd cc));
  operations = λ line i number x y low high first second. (
    (λ e. absurd ((by_opcode (λ (o : Opcode). o ≢ op.CCall) (λ h. cc) (λ h. cc) (λ h. cc) (λ h. cc) (λ h. cc) (λ h. cc) number) e)),
    (λ e. absurd ((by_opcode (λ (o : Opcode). o ≢ op.Patchpoint) (λ h. cc) (λ h. cc) (λ h. cc) (λ h. cc) (λ h. cc) (λ h. cc) number) e)),
  );
  next = λ line. ((λ e. absurd cc), (λ e. absurd cc));
  less = λ line. ((λ e. absurd cc), (λ e. absurd cc));
  branch = λ line. ((λ e. absurd cc), (λ e. absurd cc));
  returned = λ line. ((λ e. absurd cc), (λ e. absurd cc));
})

-- an argument stands in block 0
pub arguments_first : (i : ℕ) (v : Value) → Form i v → v.kind.opcode ≡ op.ArgumentReg → (i < 8) × IsArgumentIn v.body
arguments_first = by_form (λ i v. v.kind.opcode ≡ op.ArgumentReg → (i < 8) × IsArgumentIn v.body) (record {
  arguments = λ line i low e. (low, omega arith);
  constants = λ line i word low high small e. absurd cc;
  first = λ line e. absurd cc;
  jump = λ line e. absurd cc;
  phi = λ line e. absurd cc;
  operations = λ line i number x y low high first second e.
      absurd ((by_opcode (λ (o : Opcode). o ≢ op.ArgumentReg) (λ h. cc) (λ h. cc) (λ h. cc) (λ h. cc) (λ h. cc) (λ h. cc) number) e);
  next = λ line e. absurd cc;
  less = λ line e. absurd cc;
  branch = λ line e. absurd cc;
  returned = λ line e. absurd cc;
})

-- the one Return
pub return_last : (i : ℕ) (v : Value) → Form i v → v.kind.opcode ≡ op.Return → i ≡ 516
return_last = by_form (λ i v. v.kind.opcode ≡ op.Return → i ≡ 516) (record {
  arguments = λ line i low e. absurd cc;
  constants = λ line i word low high small e. absurd cc;
  first = λ line e. absurd cc;
  jump = λ line e. absurd cc;
  phi = λ line e. absurd cc;
  operations = λ line i number x y low high first second e.
      absurd ((by_opcode (λ (o : Opcode). o ≢ op.Return) (λ h. cc) (λ h. cc) (λ h. cc) (λ h. cc) (λ h. cc) (λ h. cc) number) e);
  next = λ line e. absurd cc;
  less = λ line e. absurd cc;
  branch = λ line e. absurd cc;
  returned = λ line e. refl;
})

-- the Phi
pub phi_there : (i : ℕ) (v : Value) → Form i v → i ≡ 12 → (v.kind.opcode ≡ op.Phi) × (v.ty ≡ Int64)
phi_there = by_form (λ i v. i ≡ 12 → (v.kind.opcode ≡ op.Phi) × (v.ty ≡ Int64)) (record {
  arguments = λ line i low at. absurd (omega arith);
  constants = λ line i word low high small at. absurd (omega arith);
  first = λ line at. absurd (omega arith);
  jump = λ line at. absurd (omega arith);
  phi = λ line at. (refl, refl);
  operations = λ line i number x y low high first second at. absurd (omega arith);
  next = λ line at. absurd (omega arith);
  less = λ line at. absurd (omega arith);
  branch = λ line at. absurd (omega arith);
  returned = λ line at. absurd (omega arith);
})

-- no value carries cases
pub no_cases : (i : ℕ) (v : Value) → Form i v → (ty : Ty) → AreCasesOf ty v.body
no_cases = by_form (λ i v. (ty : Ty) → AreCasesOf ty v.body) (record {
  arguments = λ line i low ty. tt;
  constants = λ line i word low high small ty. tt;
  first = λ line ty. tt;
  jump = λ line ty. tt;
  phi = λ line ty. tt;
  operations = λ line i number x y low high first second ty. tt;
  next = λ line ty. tt;
  less = λ line ty. tt;
  branch = λ line ty. tt;
  returned = λ line ty. tt;
})

-- a jump leads to block 1, and a branch to block 1 or 2
abbrev pub Leads : ℕ → ℕ → Type 0
Leads i t = ((i ≡ 11) × (t ≡ 1)) ⊎ ((i ≡ 515) × (t ≤ 2))

pub nothing_in : {X : Type 0} (x : X) → ¬ (Contains [] x)
nothing_in x h = omega (arith, h.1)

pub in_one : (x y : ℕ) → Contains (x ∷ []) y → y ≡ x
in_one x y (zero, lt, e) = sym e
in_one x y (suc k, lt, e) = absurd (omega (arith, lt))

pub in_two : (x z y : ℕ) → Contains (x ∷ z ∷ []) y → (y ≡ x) ⊎ (y ≡ z)
in_two x z y (zero, lt, e) = inl (sym e)
in_two x z y (suc zero, lt, e) = inr (sym e)
in_two x z y (suc (suc k), lt, e) = absurd (omega (arith, lt))

pub leads : (i : ℕ) (v : Value) → Form i v → (t : ℕ) → Contains (successors_in v.body) t → Leads i t
leads = by_form (λ i v. (t : ℕ) → Contains (successors_in v.body) t → Leads i t) (record {
  arguments = λ line i low t h. absurd (nothing_in t h);
  constants = λ line i word low high small t h. absurd (nothing_in t h);
  first = λ line t h. absurd (nothing_in t h);
  jump = λ line t h. inl (refl, in_one 1 t h);
  phi = λ line t h. absurd (nothing_in t h);
  operations = λ line i number x y low high first second t h. absurd (nothing_in t h);
  next = λ line t h. absurd (nothing_in t h);
  less = λ line t h. absurd (nothing_in t h);
  branch = λ line t h. inr (refl, ⊎_elim (λ (e : t ≡ 1). omega arith) (λ (e : t ≡ 2). omega arith) (in_two 1 2 t h));
  returned = λ line t h. absurd (nothing_in t h);
})

-- ---- the first Return

pub return_or : (o : Opcode) (v w : Value) (others : Option Value) → if_return o v others ≡ Some w → ((o ≡ op.Return) × (v ≡ w)) ⊎ (others ≡ Some w)
return_or op.Return v w others e = let same : v ≡ w = cc in inl (refl, same)
return_or _ v w others e = inr e

pub return_at : (vs : List Value) (w : Value) → first_return vs ≡ Some w → (k : ℕ) × (slice_get vs k ≡ Some w) × (w.kind.opcode ≡ op.Return)
return_at [] w e = absurd cc
return_at (v ∷ vs) w e =
    ⊎_elim
    (λ (here : (v.kind.opcode ≡ op.Return) × (v ≡ w)). (0, ap Some here.1, subst (λ (x : Value). x.kind.opcode ≡ op.Return) here.1 here.0))
    (λ (more : first_return vs ≡ Some w). let at = return_at vs w more in (suc at.0, at.1, at.2)) (return_or v.kind.opcode v w (first_return vs) e)
