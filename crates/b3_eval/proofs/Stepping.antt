-- States with one more word.
use Rattle.std.proofs.Common.{◌≡◌, ℕ, ℤ, Bool, true, false, List, [], ◌∷◌, Option, Some, None, is_some, Result, IfOk, refl, sym, ap, subst, ◌∙◌, if◌then◌else◌, ◌≤◌, ◌-◌, length, take, drop, slice_index_or, arith}
use Rattle.std.specs.BTreeMap as tree
use Rattle.std.specs.BTreeMap.{BTreeMap}
use Rattle.std.specs.Ordering.{nat_cmp}
use Rattle.std.proofs.lemmas.List.{take_all}
use Rattle.b3_base.proofs.MemoryLaws.{is_some-read_word}
use Rattle.b3_base.specs.Memory.{is_mapped, read_word}
use Rattle.b3_base.specs.Observed.{Answer, Memory, Start}
use Rattle.b3_base.specs.Signed.{is_signed, unsigned}
use Rattle.b3_base.specs.declared.observation.Status.TheVariants.{Exited}
use Rattle.b3_base.specs.declared.seq.NoMemory.{NoMemory}
use Rattle.b3_base.specs.declared.word.Width.{Width}
use Rattle.b3_ir.specs.Types.{width_of}
use Rattle.b3_base.specs.Arithmetic.{low}
use Rattle.b3_ir.specs.declared.opcode.Ty.TheVariants.{Int32, Int64}
use Rattle.b3_ir.specs.declared.value.Body.{Body}
use Rattle.b3_ir.specs.declared.value.Body.TheVariants.{Offset, Target}
use Rattle.b3_ir.specs.declared.value.Value.{Value}
use Rattle.b3_meaning.specs.Access.{Accessed, Trap, Refused, access, offset_address, touches_private}
use Rattle.b3_meaning.specs.Roles.{extent_bytes}
use Rattle.b3_meaning.specs.declared.role.Extent.{Extent}
use Rattle.b3_meaning.specs.Opcodes.{Outcome, Gives, Undefines, Misfits, UnmappedByte, word_given}
use Rattle.b3_meaning.specs.Run.{Effect, Next, State, accesses, checked, ends, extended, gives, loaded, loads, sets, with_answer, with_location, with_word}
use Rattle.b3_eval.specs.Lookup.{with_entry}
use Rattle.b3_eval.specs.Signs.{word_where_signed}
use Rattle.b3_eval.specs.Stands.{Shows, state_of}
use Rattle.b3_eval.specs.declared.state.Flow.{Flow}
use Rattle.b3_eval.specs.declared.state.State.{State as Kept}

pub word_put : (rest : List Answer) (st : Kept) (words : BTreeMap ℕ ℕ) (id word : ℕ) →
    tree.get nat_cmp words ≡ with_entry (tree.get nat_cmp st.words) id word →
    with_word (state_of rest st) id word ≡ state_of rest (record st { words = words })
word_put rest st words id word e = ap (λ (found : ℕ → Option ℕ). record (state_of rest st) { words = found }) (sym e)

pub location_put : (rest : List Answer) (st : Kept) (locations : BTreeMap ℕ ℕ) (id word : ℕ) →
    tree.get nat_cmp locations ≡ with_entry (tree.get nat_cmp st.locations) id word →
    with_location (state_of rest st) id word ≡ state_of rest (record st { locations = locations })
location_put rest st locations id word e = ap (λ (found : ℕ → Option ℕ). record (state_of rest st) { locations = found }) (sym e)

-- an outcome that gives this word
given_as : (outcome : Outcome) (word : ℕ) → Some word ≡ word_given outcome → outcome ≡ Gives word
given_as (Gives other) word e = cc
given_as (Undefines undefined) word e = absurd (cc)
given_as Misfits word e = absurd (cc)

pub given_word : (rest : List Answer) (st : Kept) (words : BTreeMap ℕ ℕ) (id : ℕ) (given : Option ℕ) (word : ℕ) (outcome : Outcome) →
    given ≡ word_given outcome → given ≡ Some word → tree.get nat_cmp words ≡ with_entry (tree.get nat_cmp st.words) id word →
    gives (state_of rest st) id outcome ≡ Next (state_of rest (record st { words = words }))
given_word rest st words id given word outcome e is put =
    let same = given_as outcome word (sym is ∙ e) in
    rw same (ap Next (word_put rest st words id word put))

pub phi_set : (rest : List Answer) (st : Kept) (locations : BTreeMap ℕ ℕ) (body : Body) (phi word : ℕ) (words : List ℕ) → body ≡ Target phi →
    words ≡ word ∷ [] → tree.get nat_cmp locations ≡ with_entry (tree.get nat_cmp st.locations) phi word →
    sets (state_of rest st) body words ≡ Next (state_of rest (record st { locations = locations }))
phi_set rest st locations body phi word words is one put = rw (is, one) (ap Next (location_put rest st locations phi word put))

-- a step of an effect is one of an equal effect
pub shows_same : (r : Result Flow NoMemory) (st : State) (effect other : Effect) → effect ≡ other → IfOk r (λ flow. Shows flow st other) →
    IfOk r (λ flow. Shows flow st effect)
shows_same r st effect other e h = subst (λ (x : Effect). IfOk r (λ flow. Shows flow st x)) (sym e) h

pub shown_same : (flow : Flow) (st : State) (effect other : Effect) → effect ≡ other → Shows flow st other → Shows flow st effect
shown_same flow st effect other e h = subst (λ (x : Effect). Shows flow st x) (sym e) h

-- ---- loads

pub load_done : (start : Start) (st : State) (v : Value) (extent : Extent) (extends : Bool) (offset : ℤ) (pointer address bytes word given : ℕ) →
    address ≡ offset_address pointer offset → bytes ≡ extent_bytes extent v.ty → touches_private start address bytes ≡ false →
    read_word st.memory address bytes ≡ Some word → given ≡ extended extends bytes word →
    loads start st v extent extends (Offset offset) (pointer ∷ []) ≡ gives st v.id (Gives given)
load_done start st v extent extends offset pointer address bytes word given at size untouched read is =
    let mapped : is_mapped st.memory address bytes ≡ true = sym (is_some-read_word st.memory address bytes) ∙ ap is_some read in
    let all : accesses st v.id (access start st.memory address bytes v.kind.traps) (gives st v.id (loaded extends bytes (read_word st.memory address
    bytes))) ≡ gives st v.id (Gives given) = rw (untouched, mapped, read, is) refl in
    subst (λ (a : ℕ). accesses st v.id (access start st.memory a (extent_bytes extent v.ty) v.kind.traps) (gives st v.id (loaded extends (extent_bytes
    extent v.ty) (read_word st.memory a (extent_bytes extent v.ty)))) ≡ gives st v.id (Gives given)) at
    (subst (λ (b : ℕ). accesses st v.id (access start st.memory address b v.kind.traps) (gives st v.id (loaded extends b (read_word st.memory address b)))
    ≡ gives st v.id (Gives given)) size all)

access_refused : (start : Start) (memory : Memory) (address bytes : ℕ) (traps : Bool) → touches_private start address bytes ≡ false →
    read_word memory address bytes ≡ None → access start memory address bytes traps ≡ (if traps then Trap address else Refused UnmappedByte)
access_refused start memory address bytes traps untouched none =
    let unmapped : is_mapped memory address bytes ≡ false = sym (is_some-read_word memory address bytes) ∙ ap is_some none in
    rw (untouched, unmapped) refl

pub load_refused : (start : Start) (st : State) (v : Value) (extent : Extent) (extends : Bool) (offset : ℤ) (pointer address bytes : ℕ) →
    address ≡ offset_address pointer offset → bytes ≡ extent_bytes extent v.ty → touches_private start address bytes ≡ false →
    read_word st.memory address bytes ≡ None → loads start st v extent extends (Offset offset) (pointer ∷ []) ≡ accesses st v.id (if v.kind.traps then Trap
    address else Refused UnmappedByte) (gives st v.id (loaded extends (extent_bytes extent v.ty) (read_word st.memory (offset_address pointer offset)
    (extent_bytes extent v.ty))))
load_refused start st v extent extends offset pointer address bytes at size untouched none =
    let refused = access_refused start st.memory address bytes v.kind.traps untouched none in
    let sized : access start st.memory address (extent_bytes extent v.ty) v.kind.traps ≡ (if v.kind.traps then Trap address else Refused UnmappedByte) =
    subst (λ (b : ℕ). access start st.memory address b v.kind.traps ≡ (if v.kind.traps then Trap address else Refused UnmappedByte)) size refused in
    let placed : access start st.memory (offset_address pointer offset) (extent_bytes extent v.ty) v.kind.traps ≡ (if v.kind.traps then Trap address else
    Refused UnmappedByte) = subst (λ (a : ℕ). access start st.memory a (extent_bytes extent v.ty) v.kind.traps ≡ (if v.kind.traps then Trap address
    else Refused UnmappedByte)) at sized in
    ap (λ (what : Accessed). accesses st v.id what (gives st v.id (loaded extends (extent_bytes extent v.ty) (read_word st.memory (offset_address pointer
    offset) (extent_bytes extent v.ty))))) placed

-- ---- checked arithmetic

word_signed : (width : Width) (number : ℤ) (word : ℕ) → Some word ≡ word_where_signed width number →
    (is_signed width number ≡ true) × (word ≡ unsigned width number)
word_signed width number word e = elim (is_signed width number) as (λ b. Some word ≡ (if b then Some (unsigned width number) else None) →
    (b ≡ true) × (word ≡ unsigned width number)) [
      | true ↦ λ same. (refl, cc)
      | false ↦ λ same. absurd (cc)
    ] e

none_signed : (width : Width) (number : ℤ) → None ≡ word_where_signed width number → is_signed width number ≡ false
none_signed width number e = elim (is_signed width number) as (λ b. None ≡ (if b then Some (unsigned width number) else None) → b ≡ false) [
  | true ↦ λ same. absurd (cc)
  | false ↦ λ same. refl
] e

pub check_passed : (st : State) (v : Value) (number : ℤ) (reported : List ℕ) (word : ℕ) → Some word ≡ word_where_signed (width_of v.ty) number →
    checked st v number reported ≡ gives st v.id (Gives word)
check_passed st v number reported word e =
    let parts = word_signed (width_of v.ty) number word e in
    let fits = parts.0 in
    let is = parts.1 in
    rw (fits, is) refl

pub check_failed : (st : State) (v : Value) (number : ℤ) (reported : List ℕ) → None ≡ word_where_signed (width_of v.ty) number →
    checked st v number reported ≡ ends st (Exited v.id reported)
check_failed st v number reported e = let not = none_signed (width_of v.ty) number e in rw not refl

-- ---- the shapes of words

pub one_word : (xs : List ℕ) → length xs ≡ 1 → xs ≡ slice_index_or xs 0 0 ∷ []
one_word [] e = absurd (omega arith)
one_word (x ∷ []) e = refl
one_word (x ∷ y ∷ xs) e = absurd (omega arith)

pub loads_same : (start : Start) (st : State) (v : Value) (extent : Extent) (extends : Bool) (body : Body) (words : List ℕ) (offset : ℤ) (pointer : ℕ) →
    body ≡ Offset offset → words ≡ pointer ∷ [] → loads start st v extent extends body words ≡ loads start st v extent extends (Offset offset) (pointer ∷ [])
loads_same start st v extent extends body words offset pointer is one = rw (is, one) refl

-- ---- the words of answers

pub answer_narrow : (st : State) (v : Value) (value word : ℕ) → v.ty ≡ Int32 → word ≡ low (width_of Int32) value →
    Next (with_answer st v.id v.ty value) ≡ gives st v.id (Gives word)
answer_narrow st v value word is e = rw (is, e) refl

pub answer_wide : (st : State) (v : Value) (value word : ℕ) → v.ty ≡ Int64 → word ≡ low (width_of Int64) value →
    Next (with_answer st v.id v.ty value) ≡ gives st v.id (Gives word)
answer_wide st v value word is e = rw (is, e) refl

pub two_words : (xs : List ℕ) → 2 ≤ length xs → xs ≡ slice_index_or xs 0 0 ∷ slice_index_or xs 1 0 ∷ take (length xs - 2) (drop 2 xs)
two_words [] le = absurd (omega arith)
two_words (x ∷ []) le = absurd (omega arith)
two_words (x ∷ y ∷ xs) le = ap (λ (ys : List ℕ). x ∷ y ∷ ys) (sym (take_all (length (x ∷ y ∷ xs) - 2) xs (omega arith)))
