-- What one value leads to, by its role, where its row is kept and its children have words.
use Rattle.std.proofs.Common.{◌≡◌, ◌≢◌, ℕ, ℤ, pos, negsuc, ◌+◌, ◌*◌, ◌^◌, ◌<◌, ◌≤◌, ◌⊎◌, inl, inr, Bool, true, false, List, [], ◌∷◌, map, length, Option, Some, None, nat_eq, refl, sym, ap, ◌∙◌, subst, arith, rules}
use Rattle.std.specs.Prelude.{All, Contains, IsSome, if◌then◌else◌}
use Rattle.std.proofs.lemmas.Bool.{eq-eqb, ltb-true, ne_eqb}
use Rattle.std.proofs.lemmas.List.Elements.{All-get_or, All-head, All-tail}
use Rattle.std.proofs.lemmas.Option.{slice_get-get_or}
use Rattle.b3_base.proofs.MemoryLaws.{is_some-read_word, write_word-AreBytes}
use Rattle.b3_base.proofs.WordLaws.{read_word-lt}
use Rattle.b3_base.proofs.Lists.{Contains-first, Contains-later}
use Rattle.b3_base.specs.Arithmetic.{low}
use Rattle.b3_base.specs.Memory.{is_mapped, read_word}
use Rattle.b3_base.specs.Observed.{Answer, Event, Give, Leave, Start}
use Rattle.b3_base.specs.Ranged.{IsRangedAnswer, IsRangedStart}
use Rattle.b3_base.specs.Signed.{is_signed, unsigned}
use Rattle.b3_base.specs.Word.{bits}
use Rattle.b3_base.specs.declared.observation.Status.TheVariants.{Exited}
use Rattle.b3_base.specs.declared.word.Width.{Width}
use Rattle.b3_base.specs.declared.word.Width.TheVariants.{W32, W64}
use Rattle.b3_ir.specs.Fits.{HasCases, HasTargets, IsArgument, IsConstantBelow, IsOffset, IsSlot, IsTarget}
use Rattle.b3_ir.specs.Naming.{type_of, type_or_void}
use Rattle.b3_ir.specs.Procedure.{Procedure}
use Rattle.b3_ir.specs.Types.{width_of}
use Rattle.b3_ir.specs.declared.opcode.Ty.{Ty}
use Rattle.b3_ir.specs.declared.opcode.Ty.TheVariants.{Void, Int32, Int64}
use Rattle.b3_ir.specs.declared.value.Body.{Body}
use Rattle.b3_ir.specs.declared.value.Body.TheVariants as body
use Rattle.b3_ir.specs.declared.value.Value.{Value}
use Rattle.b3_meaning.specs.Access.{Done, Refused, Trap, offset_address, touches_private}
use Rattle.b3_meaning.specs.Opcodes.{AreWordsOf, Outcome, Gives, Undefines, Misfits, PrivateByte, UnmappedByte, result}
use Rattle.b3_meaning.specs.Roles.{extent_bytes}
use Rattle.b3_meaning.specs.Run.{At, Effect, End, Lost, Malformed, Next, Over, State, To, Undefined_, accesses, answers, argument_of, branches, calls, checked, checks, checks_result, chosen, constant_of, effect_by, ends, given, gives, jumps, leads_to, loaded, loaded_phi, loads, returns, sets, slot_of, stores, switches, with_answer, with_location, with_word}
use Rattle.b3_meaning.specs.declared.role.Checked.{Checked}
use Rattle.b3_meaning.specs.declared.role.Extent.{Extent}
use Rattle.b3_meaning.specs.declared.role.Role.{Role}
use Rattle.b3_meaning.specs.declared.role.Role.TheVariants.{Skip, Constant, Argument, Frame, SlotAddress, Pure, SetPhi, GetPhi, Load, Store, Call, Patch, Check, CheckedResult, Jump, Branch, Switch, Return, Fail}
use Rattle.b3_rules.specs.Paths.{successors_in}
use Rattle.b3_rules.specs.Rules.{SuitsPhi}
use Rattle.b3_sound.specs.Laws.{IsRangedState}
use Rattle.b3_sound.proofs.Kept.{NamesSlot}
use Rattle.b3_sound.proofs.Ranged.{loaded_below, put_ranged, writes_bytes}
use Rattle.b3_sound.proofs.Results.{IsBelow, IsIn, half_of, limit_of, low_in, unsigned_in, UpTo}
use Rattle.b3_sound.proofs.Rows.{HasFirst, IsOne, IsRow, is_ending}

-- ---- what a value leads to

-- a value of this role, whose children have these words, leads to the next one in this state
pub record Goes (role : Role) (p : Procedure) (st : State) (v : Value) (ws : List ℕ) (next : State) : Type 0 where
  pub others : (q : ℕ) → q ≢ v.id → next.words q ≡ st.words q
  pub typed : v.ty ≢ Void → IsSome (next.words v.id)
  pub constant : role ≡ Constant → (k : ℕ) → v.body ≡ body.Constant k → next.words v.id ≡ Some k
  pub pure : role ≡ Pure → (word : ℕ) × (result v.kind.opcode v.kind.chill v.ty ws (map (type_of p) v.children) ≡ Gives word) × (next.words v.id ≡ Some word)
  pub ranged : IsRangedState p next

abbrev pub IsEffectOf : Role → Procedure → State → Value → List ℕ → Effect → Type 0
IsEffectOf role p st v ws (Next next) = (is_ending role ≡ false) × Goes role p st v ws next
IsEffectOf role p st v ws (To block next) = (is_ending role ≡ true) × Contains (successors_in v.body) block × (next ≡ st)
IsEffectOf role p st v ws (End (Lost Malformed)) = ⊥
IsEffectOf role p st v ws (End (Lost (Undefined_ undefined))) = Unit {0}
IsEffectOf role p st v ws (End (Over seen)) = Unit {0}
IsEffectOf role p st v ws (End (At block next)) = ⊥

-- ---- words

pub word_here : (st : State) (id word : ℕ) → (with_word st id word).words id ≡ Some word
word_here st id word = rw (eq-eqb id id refl) refl

pub word_there : (st : State) (id word q : ℕ) → q ≢ id → (with_word st id word).words q ≡ st.words q
word_there st id word q differ = rw (ne_eqb q id differ) refl

some_is : (o : Option ℕ) (word : ℕ) → o ≡ Some word → IsSome o
some_is o word e = subst (λ x. IsSome x) (sym e) (search rules)

gives_same : (a b : ℕ) → Gives a ≡ Gives b → a ≡ b
gives_same a b e = cc

-- ---- outcomes

constant_below : (limit : ℕ) (b : Body) → IsConstantBelow limit b → IsBelow limit (constant_of b)
constant_below limit (body.Constant word) below = below
constant_below limit _ below = absurd below

argument_below : (start : Start) → IsRangedStart start → (b : Body) → IsArgument b → IsBelow (2 ^ 64) (argument_of start b)
argument_below start ranged (body.Argument reg) is = ranged.arguments reg.0
argument_below start ranged _ is = absurd is

slot_below : (start : Start) → IsRangedStart start → (p : Procedure) → length start.slots ≡ length p.slots → (b : Body) → IsSlot b → NamesSlot p b
    → IsBelow (2 ^ 64) (slot_of start b)
slot_below start ranged p slots (body.Slot number) is lt =
    let within : number < length start.slots = subst (λ (n : ℕ). number < n) (sym slots) lt in
    subst (λ (o : Option ℕ). IsBelow (2 ^ 64) (given o)) (sym (slice_get-get_or start.slots number 0 within))
    (All-get_or (λ word. word < 2 ^ 64) start.slots number 0 within ranged.slots)
slot_below start ranged p slots _ is lt = absurd is

phi_below : (limit : ℕ) (o : Option ℕ) → ((word : ℕ) → o ≡ Some word → word < limit) → IsBelow limit (loaded_phi o)
phi_below limit (Some word) each = each word refl
phi_below limit None each = tt

below_typed : (ty is : Ty) (outcome : Outcome) → ty ≡ is → IsBelow (limit_of (width_of is)) outcome → IsBelow (limit_of (width_of ty)) outcome
below_typed ty is outcome e below = subst (λ (t : Ty). IsBelow (limit_of (width_of t)) outcome) (sym e) below

-- ---- lists of words as long as those of types

one_word : (t : Ty) (ts : List Ty) (ws : List ℕ) → ts ≡ t ∷ [] → AreWordsOf ts ws → (w : ℕ) × (ws ≡ w ∷ []) × IsIn t w
one_word t ts ws is words = cut ws (subst (λ (l : List Ty). AreWordsOf l ws) is words)
  where
    cut : (xs : List ℕ) → AreWordsOf (t ∷ []) xs → (w : ℕ) × (xs ≡ w ∷ []) × IsIn t w
    cut [] h = absurd h
    cut (w ∷ []) h = (w, refl, h.0)
    cut (w ∷ x ∷ xs) h = absurd h.1

no_word : (ts : List Ty) (ws : List ℕ) → ts ≡ [] → AreWordsOf ts ws → ws ≡ []
no_word ts ws is words = cut ws (subst (λ (l : List Ty). AreWordsOf l ws) is words)
  where
    cut : (xs : List ℕ) → AreWordsOf [] xs → xs ≡ []
    cut [] h = refl
    cut (w ∷ xs) h = absurd h

first_word : (t : Ty) (more ts : List Ty) (ws : List ℕ) → ts ≡ t ∷ more → AreWordsOf ts ws → (w : ℕ) × (rest : List ℕ) × (ws ≡ w ∷ rest)
first_word t more ts ws is words = cut ws (subst (λ (l : List Ty). AreWordsOf l ws) is words)
  where
    cut : (xs : List ℕ) → AreWordsOf (t ∷ more) xs → (w : ℕ) × (rest : List ℕ) × (xs ≡ w ∷ rest)
    cut [] h = absurd h
    cut (w ∷ xs) h = (w, xs, refl)

first_words : (t u : Ty) (more ts : List Ty) (ws : List ℕ) → ts ≡ t ∷ u ∷ more → AreWordsOf ts ws → (w : ℕ) × (x : ℕ) × (rest : List ℕ) × (ws ≡ w ∷ x ∷ rest)
first_words t u more ts ws is words = cut ws (subst (λ (l : List Ty). AreWordsOf l ws) is words)
  where
    cut : (xs : List ℕ) → AreWordsOf (t ∷ u ∷ more) xs → (w : ℕ) × (x : ℕ) × (rest : List ℕ) × (xs ≡ w ∷ x ∷ rest)
    cut [] h = absurd h
    cut (w ∷ []) h = absurd h.1
    cut (w ∷ x ∷ xs) h = (w, x, xs, refl)

two_words : (t u : Ty) (ts : List Ty) (ws : List ℕ) → ts ≡ t ∷ u ∷ [] → AreWordsOf ts ws → (w : ℕ) × (x : ℕ) × (ws ≡ w ∷ x ∷ [])
two_words t u ts ws is words = cut ws (subst (λ (l : List Ty). AreWordsOf l ws) is words)
  where
    cut : (xs : List ℕ) → AreWordsOf (t ∷ u ∷ []) xs → (w : ℕ) × (x : ℕ) × (xs ≡ w ∷ x ∷ [])
    cut [] h = absurd h
    cut (w ∷ []) h = absurd h.1
    cut (w ∷ x ∷ []) h = (w, x, refl)
    cut (w ∷ x ∷ y ∷ xs) h = absurd h.1.1

-- ---- a switch

chosen_in : (width : Width) (word : ℕ) (cases targets : List ℕ) → length targets ≡ length cases + 1
    → (block : ℕ) × (chosen width word cases targets ≡ Some block) × Contains targets block
chosen_in width word cases [] count = absurd (omega arith)
chosen_in width word [] (target ∷ targets) count = (target, refl, Contains-first target targets)
chosen_in width word (case ∷ cases) (target ∷ targets) count = pick (chosen_in width word cases targets (omega arith)) (nat_eq (low width case) word)
  where
    pick : ((block : ℕ) × (chosen width word cases targets ≡ Some block) × Contains targets block) → (b : Bool)
        → (block : ℕ) × ((if b then Some target else chosen width word cases targets) ≡ Some block) × Contains (target ∷ targets) block
    pick rest true = (target, refl, Contains-first target targets)
    pick rest false = (rest.0, rest.1, Contains-later target targets rest.0 rest.2)

-- ---- the roles

module _ (p : Procedure) (st : State) (v : Value) (ws : List ℕ) (ranged : IsRangedState p st) (own : type_of p v.id ≡ v.ty) where
  -- a word for the value, in a state with the same words
  gave : (role : Role) (base : State) → base.words ≡ st.words → IsRangedState p base → (word : ℕ) → IsIn v.ty word
      → (role ≡ Constant → (k : ℕ) → v.body ≡ body.Constant k → word ≡ k)
      → (role ≡ Pure → result v.kind.opcode v.kind.chill v.ty ws (map (type_of p) v.children) ≡ Gives word) → Goes role p st v ws (with_word base v.id word)
  gave role base same in_range word small constant pure = record {
    others = λ q differ. word_there base v.id word q differ ∙ ap (λ (f : ℕ → Option ℕ). f q) same;
    typed = λ typed. some_is ((with_word base v.id word).words v.id) word (word_here base v.id word);
    constant = λ is k e. word_here base v.id word ∙ ap Some (constant is k e);
    pure = λ is. (word, pure is, word_here base v.id word);
    ranged = record {
      words = put_ranged p base.words v.id word (subst (λ (t : Ty). IsIn t word) (sym own) small) in_range.words;
      locations = in_range.locations;
      memory = in_range.memory;
      answers = in_range.answers;
    };
  }

  -- no word, from a value without one
  kept : (role : Role) (next : State) → next.words ≡ st.words → IsRangedState p next → v.ty ≡ Void → role ≢ Constant → role ≢ Pure → Goes role p st v ws next
  kept role next same in_range void no_constant no_pure = record {
    others = λ q differ. ap (λ (f : ℕ → Option ℕ). f q) same;
    typed = λ typed. absurd (typed void);
    constant = λ is k e. absurd (no_constant is);
    pure = λ is. absurd (no_pure is);
    ranged = in_range;
  }

  gives_fits : (role : Role) (outcome : Outcome) → is_ending role ≡ false → IsBelow (limit_of (width_of v.ty)) outcome
      → (role ≡ Constant → (k : ℕ) → v.body ≡ body.Constant k → outcome ≡ Gives k)
      → (role ≡ Pure → result v.kind.opcode v.kind.chill v.ty ws (map (type_of p) v.children) ≡ outcome) → IsEffectOf role p st v ws (gives st v.id outcome)
  gives_fits role (Gives word) goes below constant pure =
      (goes, gave role st refl ranged word below (λ is k e. gives_same word k (constant is k e)) pure)
  gives_fits role (Undefines undefined) goes below constant pure = tt
  gives_fits role Misfits goes below constant pure = below

  -- a value that is neither a constant nor pure
  gives_other : (role : Role) (outcome : Outcome) → is_ending role ≡ false → role ≢ Constant → role ≢ Pure → IsBelow (limit_of (width_of v.ty)) outcome
      → IsEffectOf role p st v ws (gives st v.id outcome)
  gives_other role outcome goes no_constant no_pure below = gives_fits role outcome goes below (λ is k e. absurd (no_constant is)) (λ is. absurd (no_pure is))

  -- ---- Phis

  sets_fit : (ts : List Ty) (b : Body) → v.ty ≡ Void → IsOne ts → IsTarget b → SuitsPhi p ts b → AreWordsOf ts ws → IsEffectOf SetPhi p st v ws (sets st b ws)
  sets_fit ts (body.Target phi) void (t, is) target (w, named, phi_is, types) words =
      let same : type_of p phi ≡ w.ty = ap type_or_void named in
      let one = one_word w.ty ts ws types words in
      subst (λ (l : List ℕ). IsEffectOf SetPhi p st v ws (sets st (body.Target phi) l)) (sym one.1) (
        refl,
        kept SetPhi (with_location st phi one.0) refl
            (record {
              words = ranged.words;
              locations = put_ranged p st.locations phi one.0
                  (subst (λ (u : Ty). IsIn u one.0) (sym same) one.2) ranged.locations;
              memory = ranged.memory;
              answers = ranged.answers;
            })
            void (λ e. cc) (λ e. cc),
      )
  sets_fit ts _ void one target suits words = absurd target

  -- ---- accesses

  accesses_fit : (role : Role) (private mapped traps : Bool) (address : ℕ) (done : Effect) → (mapped ≡ true → IsEffectOf role p st v ws done)
      → IsEffectOf role p st v ws
      (accesses st v.id (if private then Refused PrivateByte else if mapped then Done else if traps then Trap address else Refused UnmappedByte) done)
  accesses_fit role true mapped traps address done fits = tt
  accesses_fit role false true traps address done fits = fits refl
  accesses_fit role false false true address done fits = tt
  accesses_fit role false false false address done fits = tt

  loads_fit : (start : Start) (extent : Extent) (extends : Bool) (ts : List Ty) (b : Body) → IsOne ts → IsOffset b
      → 8 * extent_bytes extent v.ty ≤ bits (width_of v.ty) → AreWordsOf ts ws
      → IsEffectOf (Load extent extends) p st v ws (loads start st v extent extends b ws)
  loads_fit start extent extends ts (body.Offset offset) (t, is) in_range narrow words =
      let one = one_word t ts ws is words in
      let address = offset_address one.0 offset in
      let bytes = extent_bytes extent v.ty in
      subst (λ (l : List ℕ). IsEffectOf (Load extent extends) p st v ws (loads start st v extent extends (body.Offset offset) l)) (sym one.1)
      (accesses_fit (Load extent extends) (touches_private start address bytes) (is_mapped st.memory address bytes) v.kind.traps address
      (gives st v.id (loaded extends bytes (read_word st.memory address bytes)))
      (λ mapped. gives_other (Load extent extends) (loaded extends bytes (read_word st.memory address bytes)) refl (λ e. cc) (λ e. cc)
      (loaded_below (width_of v.ty) extends bytes (read_word st.memory address bytes) (is_some-read_word st.memory address bytes ∙ mapped)
      (read_word-lt st.memory address bytes ranged.memory) narrow)))
  loads_fit start extent extends ts _ one in_range narrow words = absurd in_range

  stores_fit : (start : Start) (extent : Extent) (ts : List Ty) (b : Body) → v.ty ≡ Void → ((t : Ty) × (u : Ty) × (ts ≡ t ∷ u ∷ [])) → IsOffset b
      → AreWordsOf ts ws
      → IsEffectOf (Store extent) p st v ws (stores start st v extent b ts ws)
  stores_fit start extent ts (body.Offset offset) void (t, u, is) in_range words =
      let two = two_words t u ts ws is words in
      let address = offset_address two.1 offset in
      let bytes = extent_bytes extent t in
      subst (λ (l : List ℕ). IsEffectOf (Store extent) p st v ws (stores start st v extent (body.Offset offset) ts l)) (sym two.2)
      (subst (λ (l : List Ty). IsEffectOf (Store extent) p st v ws (stores start st v extent (body.Offset offset) l (two.0 ∷ two.1 ∷ []))) (sym is)
      (accesses_fit (Store extent) (touches_private start address bytes) (is_mapped st.memory address bytes) v.kind.traps address _
      (λ mapped. (
        refl,
        kept (Store extent) _ refl
            (record {
              words = ranged.words;
              locations = ranged.locations;
              memory = write_word-AreBytes st.memory address bytes two.0 ranged.memory;
              answers = ranged.answers;
            })
            void (λ e. cc) (λ e. cc),
      ))))
  stores_fit start extent ts _ void two in_range words = absurd in_range

  -- ---- calls

  answered : (role : Role) → role ≢ Constant → role ≢ Pure → (base : State) → base.words ≡ st.words → IsRangedState p base → (value : ℕ) (ty : Ty) → v.ty ≡ ty
      → Goes role p st v ws (with_answer base v.id ty value)
  answered role no_constant no_pure base same in_range value Void is = kept role base same in_range is no_constant no_pure
  answered role no_constant no_pure base same in_range value Int32 is =
      gave role base same in_range (low W32 value) (subst (λ (t : Ty). IsIn t (low W32 value)) (sym is) (low_in W32 value))
      (λ e k f. absurd (no_constant e)) (λ e. absurd (no_pure e))
  answered role no_constant no_pure base same in_range value Int64 is =
      gave role base same in_range (low W64 value) (subst (λ (t : Ty). IsIn t (low W64 value)) (sym is) (low_in W64 value))
      (λ e k f. absurd (no_constant e)) (λ e. absurd (no_pure e))

  answers_fit : (role : Role) → is_ending role ≡ false → role ≢ Constant → role ≢ Pure → (events : List Event) (left : List Answer) → All IsRangedAnswer left
      → IsEffectOf role p st v ws (answers (record st { events = events }) v left)
  answers_fit role goes no_constant no_pure events [] all = tt
  answers_fit role goes no_constant no_pure events (Leave ∷ rest) all = tt
  answers_fit role goes no_constant no_pure events (Give value writes ∷ rest) all =
      let head = All-head IsRangedAnswer (Give value writes) rest all in (
        goes,
        answered role no_constant no_pure _ refl
            (record {
              words = ranged.words;
              locations = ranged.locations;
              memory = writes_bytes st.memory writes ranged.memory head.1;
              answers = All-tail IsRangedAnswer (Give value writes) rest all;
            })
            value v.ty refl,
      )

  either_effect : (role : Role) (b : Bool) (x y : Effect) → IsEffectOf role p st v ws x → IsEffectOf role p st v ws y
      → IsEffectOf role p st v ws (if b then x else y)
  either_effect role true x y first second = first
  either_effect role false x y first second = second

  calls_fit : (start : Start) (ts : List Ty) → HasFirst ts → AreWordsOf ts ws → IsEffectOf Call p st v ws (calls start st v ts ws)
  calls_fit start ts (t, more, is) words =
      let head = first_word t more ts ws is words in
      subst (λ (l : List ℕ). IsEffectOf Call p st v ws (calls start st v ts l)) (sym head.2)
      (subst (λ (l : List Ty). IsEffectOf Call p st v ws (calls start st v l (head.0 ∷ head.1))) (sym is)
      (either_effect Call (start.is_code head.0) _ _ tt (answers_fit Call refl (λ e. cc) (λ e. cc) _ st.answers ranged.answers)))

  -- ---- checks

  checks_fit : (ts : List Ty) → v.ty ≡ Void → HasFirst ts → AreWordsOf ts ws → IsEffectOf Check p st v ws (checks st v ws)
  checks_fit ts void (t, more, is) words =
      let head = first_word t more ts ws is words in
      subst (λ (l : List ℕ). IsEffectOf Check p st v ws (checks st v l)) (sym head.2)
      (either_effect Check (nat_eq head.0 0) _ _ (refl, kept Check st refl ranged void (λ e. cc) (λ e. cc)) tt)

  signed_up : (width : Width) (number : ℤ) → is_signed width number ≡ true → UpTo (half_of width) number
  signed_up width (pos n) is = let lt = ltb-true n (half_of width) is in omega arith
  signed_up width (negsuc n) is = tt

  checked_fits : (kind : Checked) (number : ℤ) (reported : List ℕ) → IsEffectOf (CheckedResult kind) p st v ws (checked st v number reported)
  checked_fits kind number reported = pick (is_signed (width_of v.ty) number) refl
    where
      pick : (b : Bool) → is_signed (width_of v.ty) number ≡ b
          → IsEffectOf (CheckedResult kind) p st v ws (if b then Next (with_word st v.id (unsigned (width_of v.ty) number)) else ends st (Exited v.id reported))
      pick true e = (
        refl,
        gave (CheckedResult kind) st refl ranged (unsigned (width_of v.ty) number) (unsigned_in (width_of v.ty) number (signed_up (width_of v.ty) number e))
            (λ is k f. absurd (cc)) (λ is. absurd (cc)),
      )
      pick false e = tt

  checks_result_fit : (kind : Checked) (ts : List Ty) → ((t : Ty) × (u : Ty) × (more : List Ty) × (ts ≡ t ∷ u ∷ more)) → AreWordsOf ts ws
      → IsEffectOf (CheckedResult kind) p st v ws (checks_result st v kind ws)
  checks_result_fit kind ts (t, u, more, is) words =
      let both = first_words t u more ts ws is words in
      subst (λ (l : List ℕ). IsEffectOf (CheckedResult kind) p st v ws (checks_result st v kind l)) (sym both.3)
      (checked_fits kind _ both.2)

  -- ---- terminals

  jumps_fit : (b : Body) → v.body ≡ b → HasTargets 1 b → IsEffectOf Jump p st v ws (jumps st b)
  jumps_fit (body.Targets []) is count = absurd (omega arith)
  jumps_fit (body.Targets (c ∷ [])) is count = (refl, subst (λ (x : Body). Contains (successors_in x) c) (sym is) (Contains-first c []), refl)
  jumps_fit (body.Targets (c ∷ d ∷ cs)) is count = absurd (omega arith)
  jumps_fit _ is count = absurd count

  one_of_two : (c d : ℕ) (told : Bool) → Contains (c ∷ d ∷ []) (if told then d else c)
  one_of_two c d true = Contains-later c (d ∷ []) d (Contains-first d [])
  one_of_two c d false = Contains-first c (d ∷ [])

  branches_to : (b : Body) (w : ℕ) → v.body ≡ b → HasTargets 2 b → IsEffectOf Branch p st v ws (branches st b (w ∷ []))
  branches_to (body.Targets []) w is count = absurd (omega arith)
  branches_to (body.Targets (c ∷ [])) w is count = absurd (omega arith)
  branches_to (body.Targets (c ∷ d ∷ [])) w is count =
      (refl, subst (λ (x : Body). Contains (successors_in x) (if nat_eq w 0 then d else c)) (sym is) (one_of_two c d (nat_eq w 0)), refl)
  branches_to (body.Targets (c ∷ d ∷ e ∷ cs)) w is count = absurd (omega arith)
  branches_to _ w is count = absurd count

  branches_fit : (ts : List Ty) → IsOne ts → HasTargets 2 v.body → AreWordsOf ts ws → IsEffectOf Branch p st v ws (branches st v.body ws)
  branches_fit ts (t, is) count words =
      let one = one_word t ts ws is words in
      subst (λ (l : List ℕ). IsEffectOf Branch p st v ws (branches st v.body l)) (sym one.1) (branches_to v.body one.0 refl count)

  switches_to : (b : Body) (t : Ty) (w : ℕ) → v.body ≡ b → HasCases b → IsEffectOf Switch p st v ws (switches st b (t ∷ []) (w ∷ []))
  switches_to (body.Cases cases targets) t w is has =
      let block = chosen_in (width_of t) w cases targets has.0 in
      subst (λ (o : Option ℕ). IsEffectOf Switch p st v ws (leads_to st o)) (sym block.1)
      (refl, subst (λ (x : Body). Contains (successors_in x) block.0) (sym is) block.2, refl)
  switches_to _ t w is has = absurd has

  switches_fit : (ts : List Ty) → IsOne ts → HasCases v.body → AreWordsOf ts ws → IsEffectOf Switch p st v ws (switches st v.body ts ws)
  switches_fit ts (t, is) has words =
      let one = one_word t ts ws is words in
      subst (λ (l : List ℕ). IsEffectOf Switch p st v ws (switches st v.body ts l)) (sym one.1)
      (subst (λ (l : List Ty). IsEffectOf Switch p st v ws (switches st v.body l (one.0 ∷ []))) (sym is) (switches_to v.body t one.0 refl has))

  returns_fit : (ts : List Ty) → (ts ≡ []) ⊎ IsOne ts → AreWordsOf ts ws → IsEffectOf Return p st v ws (returns st ws)
  returns_fit ts (inl none) words = subst (λ (l : List ℕ). IsEffectOf Return p st v ws (returns st l)) (sym (no_word ts ws none words)) tt
  returns_fit ts (inr (t, is)) words =
      let one = one_word t ts ws is words in
      subst (λ (l : List ℕ). IsEffectOf Return p st v ws (returns st l)) (sym one.1) tt

  -- ---- by the role

  pub by_role : (role : Role) (start : Start) (ts : List Ty) → IsRangedStart start → length start.slots ≡ length p.slots → ts ≡ map (type_of p) v.children
      → IsRow role v.ty ts v.body
      → SuitsPhi p ts v.body → NamesSlot p v.body → AreWordsOf ts ws
      → (role ≡ Pure → IsBelow (limit_of (width_of v.ty)) (result v.kind.opcode v.kind.chill v.ty ws ts))
      → IsEffectOf role p st v ws (effect_by role start st v ts ws)
  by_role Skip start ts fine slots are row suits slot words below = (refl, kept Skip st refl ranged row (λ e. cc) (λ e. cc))
  by_role Constant start ts fine slots are row suits slot words below =
      gives_fits Constant (constant_of v.body) refl (constant_below (limit_of (width_of v.ty)) v.body row) (λ is k e. ap constant_of e) (λ is. absurd (cc))
  by_role Argument start ts fine slots are row suits slot words below =
      gives_other Argument (argument_of start v.body) refl (λ e. cc) (λ e. cc)
      (below_typed v.ty Int64 (argument_of start v.body) row.0 (argument_below start fine v.body row.1))
  by_role Frame start ts fine slots are row suits slot words below =
      gives_other Frame (Gives start.frame_pointer) refl (λ e. cc) (λ e. cc) (below_typed v.ty Int64 (Gives start.frame_pointer) row fine.frame_pointer)
  by_role SlotAddress start ts fine slots are row suits slot words below =
      gives_other SlotAddress (slot_of start v.body) refl (λ e. cc) (λ e. cc)
      (below_typed v.ty Int64 (slot_of start v.body) row.0 (slot_below start fine p slots v.body row.1 slot))
  by_role Pure start ts fine slots are row suits slot words below =
      gives_fits Pure (result v.kind.opcode v.kind.chill v.ty ws ts) refl (below refl) (λ is k e. absurd (cc))
      (λ is. ap (result v.kind.opcode v.kind.chill v.ty ws) (sym are))
  by_role SetPhi start ts fine slots are row suits slot words below = sets_fit ts v.body row.0 row.1 row.2 suits words
  by_role GetPhi start ts fine slots are row suits slot words below =
      gives_other GetPhi (loaded_phi (st.locations v.id)) refl (λ e. cc) (λ e. cc)
      (phi_below (limit_of (width_of v.ty)) (st.locations v.id) (λ word e. subst (λ (t : Ty). IsIn t word) own (ranged.locations v.id word e)))
  by_role (Load extent extends) start ts fine slots are row suits slot words below = loads_fit start extent extends ts v.body row.0 row.1 row.2 words
  by_role (Store extent) start ts fine slots are row suits slot words below = stores_fit start extent ts v.body row.0 row.1 row.2 words
  by_role Call start ts fine slots are row suits slot words below = calls_fit start ts row words
  by_role Patch start ts fine slots are row suits slot words below = answers_fit Patch refl (λ e. cc) (λ e. cc) _ st.answers ranged.answers
  by_role Check start ts fine slots are row suits slot words below = checks_fit ts row.0 row.1 words
  by_role (CheckedResult kind) start ts fine slots are row suits slot words below = checks_result_fit kind ts row words
  by_role Jump start ts fine slots are row suits slot words below = jumps_fit v.body refl row.1
  by_role Branch start ts fine slots are row suits slot words below = branches_fit ts row.1 row.2 words
  by_role Switch start ts fine slots are row suits slot words below = switches_fit ts row.1 row.2 words
  by_role Return start ts fine slots are row suits slot words below = returns_fit ts row.1 words
  by_role Fail start ts fine slots are row suits slot words below = tt
