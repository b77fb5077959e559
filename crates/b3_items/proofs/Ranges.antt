-- The ranges of what items give.
use Rattle.std.proofs.Common.{◌≡◌, ℕ, zero, suc, ◌-◌, ◌<◌, ◌≤◌, ◌^◌, Bool, true, false, cond, List, [], ◌∷◌, take, Option, Some, None, All, refl, arith}
use Rattle.std.specs.Prelude.{◌==◌, ◌≤ℤ◌, ℤ, pos, negsuc, neg_ℤ, nat_lt, nat_le, IfSome, option_map, option_and_then, codes, bytes_eq}
use Rattle.std.specs.List.{find, AllByRecursion}
use Rattle.std.proofs.lemmas.List.Elements.{All-cons, All-nil}
use Rattle.std.specs.Option.{option_or}
use Rattle.std.specs.Bool.{passes}
use Rattle.std.proofs.lemmas.Bool.{le-leb}
use Rattle.std.proofs.lemmas.Bool.Decides.{nat_tests}
use Rattle.b3_base.specs.Word.{bits}
use Rattle.b3_base.specs.declared.word.Width.{Width}
use Rattle.b3_base.specs.declared.word.Width.TheVariants.{W32, W64}
use Rattle.b3_ir.specs.declared.opcode.Kind.{Kind}
use Rattle.b3_ir.specs.declared.opcode.Opcode.{Opcode}
use Rattle.b3_ir.specs.declared.table.Flag.{Flag}
use Rattle.b3_ir.specs.declared.table.Flag.TheVariants.{NoFlag, Chill, Traps}
use Rattle.b3_ir.specs.declared.value.Constraint.{Constraint}
use Rattle.b3_ir.specs.declared.value.Constraint.TheVariants.{Fixed, LateFixed}
use Rattle.b3_ir.specs.declared.value.Reg.{Reg}
use Rattle.b3_ir.specs.Fits.{IsConstraint, MayChill, MayTrap}
use Rattle.b3_ir.specs.Table.{row_of}
use Rattle.b3_items.specs.declared.items.Child.{Child}
use Rattle.b3_items.specs.declared.items.Item.{Item}
use Rattle.b3_items.specs.declared.items.Item.TheVariants as item
use Rattle.b3_items.specs.declared.items.Label.{Label}
use Rattle.b3_items.specs.declared.items.Label.TheVariants.{OffsetLabel, CasesLabel, ResultLabel, SizeLabel, EarlyLabel, LateLabel, GeneratorLabel, UsedLabel}
use Rattle.b3_items.specs.declared.numbers.Number.{Number}
use Rattle.b3_items.specs.Numbers.{after, below, digits_of, has_up_to, minus, plain_of, plain_after, word_below, word_of, offset_in, offset_of, case_of, number_of}
use Rattle.b3_items.specs.Table.{angle_in, flag_text, flagged, kind, kind_at, kind_of, opcode_named, with_flag}
use Rattle.b3_items.specs.Items.{reg, reg_below, reg_of, constraint_name, free_constraint, free_constraints, constraint_of, mark_constraint, child, child_with, piece_at, piece_child, child_of, colon_in, id_of, wraps, lone, onto_front, ends_list, more_cases, some_cases, cases_of, with_reg, more_regs, some_regs, regs_of, is_mark_of, is_generator, leading_of, slot_of, phi_of, piece_item, valued, named_of, label_of, are_effects, item_of}
use Rattle.b3_items.proofs.ListLemmas.{with_reg_bound}

-- ---- what holds of each answer

pub or_some : {A : Type 0} (P : A → Type 0) (a b : Option A) → IfSome a P → IfSome b P → IfSome (option_or a b) P
or_some P None b p q = q
or_some P (Some x) b p q = p

pub map_some : {A B : Type 0} (P : B → Type 0) (f : A → B) (a : Option A) → IfSome a (λ x. P (f x)) → IfSome (option_map f a) P
map_some P f None p = p
map_some P f (Some x) p = p

pub then_some : {A B : Type 0} (Q : A → Type 0) (P : B → Type 0) (f : A → Option B) (a : Option A) → IfSome a Q → ((x : A) → Q x → IfSome (f x) P)
    → IfSome (option_and_then f a) P
then_some Q P f None q h = tt
then_some Q P f (Some x) q h = h x q

pub any_some : {A : Type 0} (a : Option A) → IfSome a (λ x. Unit {0})
any_some None = tt
any_some (Some x) = tt

pub cond_some : {A : Type 0} (P : A → Type 0) (x : Bool) (a b : Option A) → IfSome a P → IfSome b P → IfSome (cond x a b) P
cond_some P true a b p q = p
cond_some P false a b p q = q

-- what a test lets through
pub test_some : {A : Type 0} (P : A → Type 0) (x : Bool) (a : A) → (x ≡ true → P a) → IfSome (cond x (Some a) None) P
test_some P true a h = h refl
test_some P false a h = tt

lt_of : (n m : ℕ) → nat_lt n m ≡ true → n < m
lt_of n m h = grind (arith, nat_tests)

le_of : (n m : ℕ) → nat_le n m ≡ true → n ≤ m
le_of n m h = grind (arith, nat_tests)

-- ---- numbers

below_range : (limit : ℕ) (a : Option ℕ) → IfSome (below limit a) (λ n. n < limit)
below_range limit None = tt
below_range limit (Some n) = test_some (λ n. n < limit) (nat_lt n limit) n (lt_of n limit)

pub plain_range : (text : List ℕ) → IfSome (plain_of text) (λ n. n < 2 ^ 31)
unfolding plain_of
plain_range text = cond_some (λ n. n < 2 ^ 31) (has_up_to 10 text) (below (2 ^ 31) (digits_of text)) None (below_range (2 ^ 31) (digits_of text)) tt

pub plain_after_range : (front text : List ℕ) → IfSome (plain_after front text) (λ n. n < 2 ^ 31)
plain_after_range front text = then_some (λ t. Unit {0}) (λ n. n < 2 ^ 31) plain_of (after front text) (any_some (after front text)) (λ t u. plain_range t)

minus_range : (half limit n : ℕ) (x : Bool) → (n == 0) ≡ x → 0 < limit → cond x 0 (limit - n) < limit
minus_range half limit n true h p = p
minus_range half limit n false h p = let some : 0 < n = grind (arith, nat_tests) in omega arith

word_below_range : (half limit : ℕ) (n : Number) → 0 < limit → IfSome (word_below half limit n) (λ w. w < limit)
word_below_range half limit n p =
    cond_some (λ w. w < limit) n.negative (cond (nat_le n.size half) (Some (minus limit n.size)) None) (below limit (Some n.size))
    (test_some (λ w. w < limit) (nat_le n.size half) (minus limit n.size) (λ h. minus_range half limit n.size (n.size == 0) refl p))
    (below_range limit (Some n.size))

pub word_range : (width : Width) (n : Number) → IfSome (word_of width n) (λ w. w < 2 ^ bits width)
unfolding word_of
word_range W32 n = word_below_range (2 ^ 31) (2 ^ 32) n (omega arith)
word_range W64 n = word_below_range (2 ^ 63) (2 ^ 64) n (omega arith)

case_range : (text : List ℕ) → IfSome (case_of text) (λ w. w < 2 ^ 64)
unfolding case_of
case_range text = then_some (λ n. Unit {0}) (λ w. w < 2 ^ 64) (word_of W64) (number_of text) (any_some (number_of text)) (λ n u. word_range W64 n)

-- an offset of 32 bits
abbrev pub InWord : ℤ → Type 0
InWord z = (negsuc (2 ^ 31 - 1) ≤ℤ z) × (z ≤ℤ pos (2 ^ 31 - 1))

minus_in_word : (n : ℕ) → n ≤ 2 ^ 31 → InWord (neg_ℤ (pos n))
minus_in_word zero h = (record { le = tt }, record { le = tt })
minus_in_word (suc n) h = (record { le = passes _ (le-leb n 2147483647 (omega arith)) }, record { le = tt })

plus_in_word : (n : ℕ) → n < 2 ^ 31 → InWord (pos n)
plus_in_word n h = (record { le = tt }, record { le = passes _ (le-leb n 2147483647 (omega arith)) })

offset_in_range : (n : Number) → IfSome (offset_in n) InWord
unfolding offset_in
offset_in_range n =
    cond_some InWord n.negative (cond (nat_le n.size (2 ^ 31)) (Some (neg_ℤ (pos n.size))) None) (cond (nat_lt n.size (2 ^ 31)) (Some (pos n.size)) None)
    (test_some InWord (nat_le n.size (2 ^ 31)) (neg_ℤ (pos n.size)) (λ h. minus_in_word n.size (le_of n.size (2 ^ 31) h)))
    (test_some InWord (nat_lt n.size (2 ^ 31)) (pos n.size) (λ h. plus_in_word n.size (lt_of n.size (2 ^ 31) h)))

pub offset_range : (text : List ℕ) → IfSome (offset_of text) InWord
unfolding offset_of
offset_range text = then_some (λ n. Unit {0}) InWord offset_in (number_of text) (any_some (number_of text)) (λ n u. offset_in_range n)

-- ---- registers and constraints

abbrev pub IsReg : Reg → Type 0
IsReg r = r.0 ≤ 30

reg_below_range : (n : ℕ) → IfSome (reg_below n) IsReg
reg_below_range n = test_some IsReg (nat_lt n 31) (reg n) (λ h. let small = lt_of n 31 h in omega arith)

pub reg_range : (text : List ℕ) → IfSome (reg_of text) IsReg
unfolding reg_of
reg_range text =
    cond_some IsReg (bytes_eq text (codes "%fp")) _ _ (omega arith)
    (cond_some IsReg (bytes_eq text (codes "%lr")) _ _ (omega arith)
    (then_some (λ n. Unit {0}) IsReg reg_below (plain_after (codes "%x") text) (any_some (plain_after (codes "%x") text)) (λ n u. reg_below_range n)))

find_range : {A : Type 0} (P : A → Type 0) (p : A → Bool) (xs : List A) → AllByRecursion P xs → IfSome (find p xs) P
find_range P p [] h = tt
find_range P p (x ∷ xs) h = cond_some P (p x) (Some x) (find p xs) h.0 (find_range P p xs h.1)

free_range : (text : List ℕ) → IfSome (free_constraint text) IsConstraint
unfolding free_constraint
free_range text = find_range IsConstraint (λ c. bytes_eq (constraint_name c) text) free_constraints (tt, (tt, (tt, (tt, (tt, (tt, (tt, tt)))))))

pub constraint_range : (text : List ℕ) → IfSome (constraint_of text) IsConstraint
unfolding constraint_of
constraint_range text =
    or_some IsConstraint (free_constraint text) _ (free_range text)
    (or_some IsConstraint (option_map Fixed (reg_of text)) _ (map_some IsConstraint Fixed (reg_of text) (reg_range text))
    (map_some IsConstraint LateFixed (option_and_then reg_of (after (codes "late:") text))
    (then_some (λ t. Unit {0}) IsReg reg_of (after (codes "late:") text) (any_some (after (codes "late:") text)) (λ t u. reg_range t))))

-- ---- children

pub record IsChild (c : Child) : Type 0 where
  pub id : c.id < 2 ^ 31
  pub constraint : IfSome c.constraint IsConstraint

abbrev IsPlain : ℕ → Type 0
IsPlain n = n < 2 ^ 31

pub id_range : (text : List ℕ) → IfSome (id_of text) IsPlain
unfolding id_of
id_range text =
    or_some IsPlain (plain_after (codes "@") text) _ (plain_after_range (codes "@") text) (plain_after_range (codes "b@") text)

mark_range : (text : List ℕ) → IfSome (mark_constraint text) IsConstraint
unfolding mark_constraint
mark_range text = then_some (λ t. Unit {0}) IsConstraint constraint_of (after (codes ":") text) (any_some (after (codes ":") text)) (λ t u. constraint_range t)

bare_range : (id : Option ℕ) → IfSome id IsPlain → IfSome (option_map (child None) id) IsChild
bare_range None k = tt
bare_range (Some id) k = record { id = k; constraint = tt }

with_range : (c : Option Constraint) (id : Option ℕ) → IfSome c IsConstraint → IfSome id IsPlain → IfSome (child_with c id) IsChild
with_range None id h k = tt
with_range (Some c) None h k = tt
with_range (Some c) (Some id) h k = record { id = k; constraint = h }

piece_range : (piece : List ℕ) (at : Option ℕ) → IfSome (piece_at piece at) IsChild
piece_range piece None = bare_range (id_of piece) (id_range piece)
piece_range piece (Some at) = with_range _ _ (mark_range _) (id_range (take at piece))

child_range : (ts : List (List ℕ)) → IfSome (child_of ts) IsChild
unfolding child_of piece_child
child_range [] = tt
child_range (piece ∷ []) = piece_range piece (colon_in piece)
child_range (a ∷ b ∷ []) = tt
child_range (a ∷ b ∷ c ∷ []) = tt
child_range (note ∷ o ∷ id ∷ close ∷ []) = cond_some IsChild (wraps note o close) _ None (bare_range (id_of id) (id_range id)) tt
child_range (note ∷ o ∷ id ∷ close ∷ constraint ∷ []) =
    cond_some IsChild (wraps note o close) _ None (with_range _ (id_of id) (mark_range constraint) (id_range id)) tt
child_range (a ∷ b ∷ c ∷ d ∷ e ∷ f ∷ ts) = tt

-- ---- lists

abbrev pub AreWords : List ℕ → Type 0
AreWords ws = All (λ w. w < 2 ^ 64) ws

front_range : (n : ℕ) (more : Option (List ℕ)) → n < 2 ^ 64 → IfSome more AreWords → IfSome (onto_front (n ∷ []) more) AreWords
front_range n None h k = tt
front_range n (Some ws) h k = All-cons (λ w. w < 2 ^ 64) n ws h k

more_cases_range : (ts : List (List ℕ)) → IfSome (more_cases ts) AreWords
unfolding more_cases
more_cases_range [] = cond_some AreWords (ends_list []) _ _ (All-nil (λ w. w < 2 ^ 64)) tt
more_cases_range (t ∷ []) = cond_some AreWords (ends_list (t ∷ [])) _ _ (All-nil (λ w. w < 2 ^ 64)) tt
more_cases_range (mark ∷ number ∷ more) =
    cond_some AreWords (is_mark_of 44 mark) _ None
    (then_some (λ w. w < 2 ^ 64) AreWords (λ n. onto_front (n ∷ []) (more_cases more)) (case_of number) (case_range number) (λ n h. front_range n
    (more_cases more) h (more_cases_range more))) tt

cases_range : (ts : List (List ℕ)) → IfSome (cases_of ts) AreWords
unfolding cases_of some_cases
cases_range [] = tt
cases_range (o ∷ []) = cond_some AreWords (is_mark_of 91 o) None None tt tt
cases_range (o ∷ number ∷ more) =
    cond_some AreWords (is_mark_of 91 o) _ None
    (cond_some AreWords (ends_list (number ∷ more)) (Some []) _ (All-nil (λ w. w < 2 ^ 64))
    (then_some (λ w. w < 2 ^ 64) AreWords (λ n. onto_front (n ∷ []) (more_cases more)) (case_of number) (case_range number) (λ n h. front_range n
    (more_cases more) h (more_cases_range more)))) tt

abbrev pub IsSet : ℕ → Type 0
IsSet set = set < 2 ^ 31

more_regs_range : (set : ℕ) (ts : List (List ℕ)) → IsSet set → IfSome (more_regs set ts) IsSet
unfolding more_regs
more_regs_range set [] h = cond_some IsSet (ends_list []) _ _ h tt
more_regs_range set (t ∷ []) h = cond_some IsSet (ends_list (t ∷ [])) _ _ h tt
more_regs_range set (mark ∷ text ∷ more) h =
    cond_some IsSet (is_mark_of 44 mark) _ None
    (then_some IsReg IsSet (λ r. more_regs (with_reg set r) more) (reg_of text) (reg_range text) (λ r k. more_regs_range (with_reg set r) more
    (with_reg_bound set r h k))) tt

regs_range : (ts : List (List ℕ)) → IfSome (regs_of ts) IsSet
unfolding regs_of some_regs
regs_range [] = tt
regs_range (o ∷ []) = cond_some IsSet (is_mark_of 91 o) None None tt tt
regs_range (o ∷ text ∷ more) =
    cond_some IsSet (is_mark_of 91 o) _ None
    (cond_some IsSet (ends_list (text ∷ more)) (Some 0) _ (omega arith)
    (then_some IsReg IsSet (λ r. more_regs (with_reg 0 r) more) (reg_of text) (reg_range text) (λ r k. more_regs_range (with_reg 0 r) more
    (with_reg_bound 0 r (omega arith) k)))) tt

-- ---- items

abbrev pub IsItem : Item → Type 0
IsItem (item.Number n) = Unit {0}
IsItem (item.Register r) = IsReg r
IsItem (item.SlotNumber n) = n < 2 ^ 31
IsItem (item.Operand c) = IsChild c
IsItem (item.PhiId n) = n < 2 ^ 31
IsItem (item.Offset z) = InWord z
IsItem (item.Cases ws) = AreWords ws
IsItem (item.ResultPlace c) = IsConstraint c
IsItem (item.Size n) = n < 2 ^ 31
IsItem (item.Early set) = IsSet set
IsItem (item.Late set) = IsSet set
IsItem item.Generator = Unit {0}
IsItem item.Used = Unit {0}
IsItem item.Effects = Unit {0}

leading_range : (piece : List ℕ) → IfSome (leading_of piece) IsItem
unfolding leading_of slot_of phi_of
leading_range piece =
    or_some IsItem (option_map item.Number (number_of piece)) _ (map_some IsItem item.Number (number_of piece) (any_some (number_of piece)))
    (or_some IsItem (option_map item.Register (reg_of piece)) _ (map_some IsItem item.Register (reg_of piece) (reg_range piece))
    (or_some IsItem (option_map item.SlotNumber (slot_of piece)) _ (map_some IsItem item.SlotNumber (slot_of piece) (plain_after_range (codes "stack") piece))
    (map_some IsItem item.PhiId (phi_of piece) (plain_after_range (codes "^") piece))))

lone_range : {A : Type 0} (P : A → Type 0) (f : List ℕ → Option A) (ts : List (List ℕ)) → ((t : List ℕ) → IfSome (f t) P)
    → IfSome (option_and_then f (lone ts)) P
lone_range P f ts h = then_some (λ t. Unit {0}) P f (lone ts) (any_some (lone ts)) (λ t u. h t)

valued_range : (l : Label) (ts : List (List ℕ)) → IfSome (valued l ts) IsItem
unfolding valued
valued_range OffsetLabel ts = map_some IsItem item.Offset (option_and_then offset_of (lone ts)) (lone_range InWord offset_of ts offset_range)
valued_range CasesLabel ts = map_some IsItem item.Cases (cases_of ts) (cases_range ts)
valued_range ResultLabel ts = map_some IsItem item.ResultPlace (option_and_then constraint_of (lone ts))
    (lone_range IsConstraint constraint_of ts constraint_range)
valued_range SizeLabel ts = map_some IsItem item.Size (option_and_then plain_of (lone ts)) (lone_range (λ n. n < 2 ^ 31) plain_of ts plain_range)
valued_range EarlyLabel ts = map_some IsItem item.Early (regs_of ts) (regs_range ts)
valued_range LateLabel ts = map_some IsItem item.Late (regs_of ts) (regs_range ts)
valued_range GeneratorLabel ts = test_some IsItem (is_generator ts) item.Generator (λ h. tt)
valued_range UsedLabel ts = map_some IsItem (λ (set : ℕ). item.Used) (regs_of ts) (any_some (regs_of ts))

named_range : (ts : List (List ℕ)) → IfSome (named_of ts) IsItem
unfolding named_of
named_range [] = tt
named_range (t ∷ []) = tt
named_range (name ∷ mark ∷ more) = cond_some IsItem (is_mark_of 61 mark) _ None (then_some (λ l. Unit {0}) IsItem (λ l. valued l more) (label_of name)
    (any_some (label_of name)) (λ l u. valued_range l more)) tt

pub item_range : (ts : List (List ℕ)) → IfSome (item_of ts) IsItem
unfolding item_of
item_range ts =
    or_some IsItem (piece_item ts) _ (lone_range IsItem leading_of ts leading_range)
    (or_some IsItem (option_map item.Operand (child_of ts)) _ (map_some IsItem item.Operand (child_of ts) (child_range ts))
    (or_some IsItem (named_of ts) _ (named_range ts) (test_some IsItem (are_effects ts) item.Effects (λ h. tt))))

-- ---- kinds

-- the flags are ones of the row
pub record IsKind (k : Kind) : Type 0 where
  pub chill : MayChill (row_of k.opcode).flag k.chill
  pub traps : MayTrap (row_of k.opcode).flag k.traps

may_not_chill : (f : Flag) → MayChill f false
may_not_chill NoFlag = refl
may_not_chill Chill = tt
may_not_chill Traps = refl

may_not_trap : (f : Flag) → MayTrap f false
may_not_trap NoFlag = refl
may_not_trap Chill = refl
may_not_trap Traps = tt

plain_kind : (o : Opcode) → IsKind (kind o false false)
plain_kind o = record { chill = may_not_chill (row_of o).flag; traps = may_not_trap (row_of o).flag }

flag_kind : (o : Opcode) (f : Flag) → (row_of o).flag ≡ f → IfSome (with_flag o f) IsKind
flag_kind o NoFlag e = tt
flag_kind o Chill e = record { chill = rw e tt; traps = rw e refl }
flag_kind o Traps e = record { chill = rw e refl; traps = rw e tt }

flagged_kind : (text : List ℕ) (o : Opcode) → IfSome (flagged text o) IsKind
flagged_kind text o = cond_some IsKind (bytes_eq text (flag_text (row_of o).flag)) _ None (flag_kind o (row_of o).flag refl) tt

then_kind : (o : Option Opcode) → IfSome o (λ x. IsKind (kind x false false))
then_kind None = tt
then_kind (Some o) = plain_kind o

at_kind : (text : List ℕ) (at : Option ℕ) → IfSome (kind_at text at) IsKind
at_kind text None = map_some IsKind (λ (o : Opcode). kind o false false) (opcode_named text) (then_kind (opcode_named text))
at_kind text (Some at) = then_some (λ o. Unit {0}) IsKind _ (opcode_named _) (any_some (opcode_named _)) (λ o u. flagged_kind _ o)

pub kind_range : (text : List ℕ) → IfSome (kind_of text) IsKind
unfolding kind_of
kind_range text = at_kind text (angle_in text)
