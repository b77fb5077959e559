-- What a value's instructions read of its children.
use Rattle.std.proofs.Common.{◌≡◌, ℕ, ◌^◌, ◌<◌, ◌⊎◌, inl, inr, Bool, true, false, ◌&&◌, ◌||◌, List, [], ◌∷◌, ◌++◌, map, Option, Some, None, nat_eq, refl, sym, ap, ◌∙◌, subst}
use Rattle.std.specs.Prelude.{Contains, if◌then◌else◌, nat_lt, slice_get}
use Rattle.std.proofs.lemmas.Bool.{eqb-true, and_parts, or_cases}
use Rattle.std.proofs.lemmas.Option.{same_Some}
use Rattle.b3_base.proofs.Lists.{Contains-first, Contains-later}
use Rattle.b3_base.proofs.Widths.{low-same}
use Rattle.b3_base.specs.Arithmetic.{low}
use Rattle.b3_base.specs.Word.{bits}
use Rattle.b3_base.specs.declared.word.Width.{Width}
use Rattle.b3_ir.specs.Fits.{reported_count}
use Rattle.b3_ir.specs.Naming.{type_of}
use Rattle.b3_ir.specs.Procedure.{values_of, Procedure}
use Rattle.b3_ir.specs.Types.{width_of}
use Rattle.b3_ir.specs.declared.opcode.Opcode.{Opcode}
use Rattle.b3_ir.specs.declared.opcode.Ty.{Ty}
use Rattle.b3_ir.specs.declared.value.Value.{Value}
use Rattle.b3_ir.proofs.Typing.{allowed}
use Rattle.b3_meaning.specs.Run as b3
use Rattle.b3_rules.specs.Paths.{HasRun}
use Rattle.b3_rules.specs.Rules.{types_of}
use Rattle.b3_sound.proofs.Distinct.{stands}
use Rattle.b3_sound.proofs.Keeping.{ran_in_block}
use Rattle.b3_sound.proofs.Rows.{IsRow, row_by_role}
use Rattle.air_ir.specs.Operands.{Read, word_of, words}
use Rattle.air_ir.specs.Steps.{State}
use Rattle.air_ir.specs.declared.operand.Arg.TheVariants.{At, Imm}
use Rattle.air_ir.specs.declared.operand.Operand.{Operand}
use Rattle.air_fold.specs.Foldable.{constant_fits, fits, is_constant, pointers, sum_fits, value_fits}
use Rattle.air_select.specs.Selected.{Tables, arg_of, folds, use_of}
use Rattle.air_select.specs.Temporaries.{home}
use Rattle.air_fold.specs.Values.{known, width_at, word_in}
use Rattle.air_fold.specs.declared.known.Known.{Known}
use Rattle.air_select.proofs.Facts.{Ran, body_below, constant_role}
use Rattle.air_select.proofs.Instructions.{at_home, of_immediate, reads_use}
use Rattle.air_select.proofs.Related.{Related}
use Rattle.b3_base.specs.Observed.{Start}
use Rattle.b3_sound.proofs.Kept.{IsKept}
use Rattle.b3_sound.proofs.Reached.{IsReached}
use Rattle.air_select.proofs.Setting.{IsSound}

-- ---- words of children

pub word_is : (width : Width) (x : Option ℕ) (w : ℕ) → b3.word_in width x ≡ Some w → x ≡ Some w
word_is width None w e = absurd (cc)
word_is width (Some y) w e = go (nat_lt y (2 ^ bits width)) e
  where
    go : (fits : Bool) → (if fits then Some y else None) ≡ Some w → Some y ≡ Some w
    go true e = e
    go false e = absurd (cc)

-- the words of a list are that of its head and those of the others
pub words_cons : (types : ℕ → Ty) (f : ℕ → Option ℕ) (c : ℕ) (cs ws : List ℕ) → b3.words_of types f (c ∷ cs) ≡ Some ws
    → (w : ℕ) × (more : List ℕ) × (ws ≡ w ∷ more) × (f c ≡ Some w) × (b3.words_of types f cs ≡ Some more)
words_cons types f c cs ws e = go (b3.word_in (width_of (types c)) (f c)) (b3.words_of types f cs) refl refl e
  where
    go : (x : Option ℕ) (xs : Option (List ℕ)) → b3.word_in (width_of (types c)) (f c) ≡ x → b3.words_of types f cs ≡ xs → b3.and_word x xs ≡ Some ws
        → (w : ℕ) × (more : List ℕ) × (ws ≡ w ∷ more) × (f c ≡ Some w) × (b3.words_of types f cs ≡ Some more)
    go (Some w) (Some more) ex exs e = let same : w ∷ more ≡ ws = cc in (w, more, sym same, word_is (width_of (types c)) (f c) w ex, exs)
    go (Some w) None ex exs e = absurd (cc)
    go None xs ex exs e = absurd (cc)

pub words_nil : (types : ℕ → Ty) (f : ℕ → Option ℕ) (ws : List ℕ) → b3.words_of types f [] ≡ Some ws → ws ≡ []
words_nil types f ws e = cc

-- ---- values that are folded

-- how a folded child fits: as an immediate, as the constant of a sum that is a pointer, or as another value
pub record FitsAsConstant (t : Tables) (op : Opcode) (i id : ℕ) : Type 0 where
  pub constant : is_constant (known t.index id).opcode ≡ true
  pub fits : constant_fits op i (width_at t.index id) (known t.index id).word ≡ true

pub record FitsInSum (t : Tables) (f : List Bool) (op : Opcode) (i user id : ℕ) : Type 0 where
  pub constant : is_constant (known t.index id).opcode ≡ true
  pub fits : sum_fits t.index f op i user ≡ true

pub record FitsAsValue (t : Tables) (f : List Bool) (b : ℕ) (op : Opcode) (i user id : ℕ) : Type 0 where
  pub constant : is_constant (known t.index id).opcode ≡ false
  pub block : b ≡ (known t.index id).block
  pub fits : value_fits t.index f op i user (known t.index id) ≡ true

pub fit_cases : (t : Tables) (f : List Bool) (b : ℕ) (op : Opcode) (i user id : ℕ)
    → fits t.index f (record { id = id; block = b; user = user; opcode = op; at = i }) ≡ true
    → FitsAsConstant t op i id ⊎ (FitsInSum t f op i user id ⊎ FitsAsValue t f b op i user id)
fit_cases t f b op i user id e = go (is_constant (known t.index id).opcode) refl e
  where
    go : (c : Bool) → is_constant (known t.index id).opcode ≡ c
        → (if c then (constant_fits op i (width_at t.index id) (known t.index id).word || sum_fits t.index f op i user) else
        (nat_eq b (known t.index id).block && value_fits t.index f op i user (known t.index id))) ≡ true
        → FitsAsConstant t op i id ⊎ (FitsInSum t f op i user id ⊎ FitsAsValue t f b op i user id)
    go true ec e = elim (or_cases (constant_fits op i (width_at t.index id) (known t.index id).word) (sum_fits t.index f op i user) e) [
      | inl constant ↦ inl (record { constant = ec; fits = constant })
      | inr sum ↦ inr (inl (record { constant = ec; fits = sum }))
    ]
    go false ec e =
        let both = and_parts (nat_eq b (known t.index id).block) (value_fits t.index f op i user (known t.index id)) e in
        inr (inr (record { constant = ec; block = eqb-true b (known t.index id).block both.0; fits = both.1 }))

-- a value that is folded here is a constant
abbrev pub IsReadable : Tables → ℕ → Type 0
IsReadable t id = folds t id ≡ true → is_constant (known t.index id).opcode ≡ true

module _ (p : Procedure) (valid : IsKept p) (t : Tables) (sound : IsSound p t) (start : Start) where
  module _ (b : ℕ) (v : Value) (here : Contains (values_of p b) v) where
    -- a child that fits as no other value is a constant where it is folded
    pub readable : (i id : ℕ) → slice_get v.children i ≡ Some id → ((k : Known) → value_fits t.index (pointers p) v.kind.opcode i v.id k ≡ false)
        → IsReadable t id
    readable i id at none gone =
        elim (fit_cases t (pointers p) b v.kind.opcode i v.id id (sound.uses_fit b i id v here at gone)) [
          | inl constant ↦ constant.constant
          | inr (inl sum) ↦ sum.constant
          | inr (inr value) ↦ absurd (let bad : true ≡ false = sym value.fits ∙ none (known t.index id) in cc)
        ]

    -- and it stands in its home where it can't be a constant either
    pub unfolded : (i id : ℕ) → slice_get v.children i ≡ Some id → ((k : Known) → value_fits t.index (pointers p) v.kind.opcode i v.id k ≡ false)
        → ((width : Width) (word : ℕ) → constant_fits v.kind.opcode i width word ≡ false) → sum_fits t.index (pointers p) v.kind.opcode i v.id ≡ false
        → folds t id ≡ false
    unfolded i id at none never no_sum = go (folds t id) refl
      where
        go : (f : Bool) → folds t id ≡ f → folds t id ≡ false
        go false e = e
        go true e =
            elim (fit_cases t (pointers p) b v.kind.opcode i v.id id (sound.uses_fit b i id v here at e)) [
              | inl constant ↦ absurd (let bad : true ≡ false = sym constant.fits ∙ never (width_at t.index id) (known t.index id).word in cc)
              | inr (inl sum) ↦ absurd (let bad : true ≡ false = sym sum.fits ∙ no_sum in cc)
              | inr (inr value) ↦ absurd (let bad : true ≡ false = sym value.fits ∙ none (known t.index id) in cc)
            ]

  module _ (passed : List ℕ) (b : ℕ) (before rest : List Value) (is : values_of p b ≡ before ++ rest) (st : b3.State) (reached : IsReached p passed b before st)
      (s : State) (r : Related p t start st s) where
    pub width_is : (id : ℕ) → width_at t.index id ≡ width_of (type_of p id)
    width_is id = ap width_of (sound.types id)

    pub word_small : (id w : ℕ) → st.words id ≡ Some w → w < 2 ^ bits (width_at t.index id)
    word_small id w now = subst (λ (k : Width). w < 2 ^ bits k) (sym (width_is id)) (reached.ranged.words id w now)

    -- the word of a constant that has run
    constant_word : (d : Value) (w : ℕ) → HasRun p passed before d → (c : ℕ) → Contains (values_of p c) d → is_constant d.kind.opcode ≡ true
        → st.words d.id ≡ Some w → (known t.index d.id).word ≡ w
    constant_word d w ran c in_c const now =
        let at = stands p c d in_c in
        let rules = valid.rules c at.0 d at.1 in
        let role = constant_role d.kind.opcode const in
        let row = row_by_role d.kind.opcode d.ty (types_of p d) (reported_count d) d.body (allowed d.kind.opcode d.ty (types_of p d) rules.typed)
        rules.fits.body in
        let body = body_below (2 ^ bits (width_of d.ty)) d.body (subst (λ q. IsRow q d.ty (types_of p d) d.body) role row) in
        ap (λ (k : Known). k.word) (sound.is_known c d in_c) ∙ same_Some (word_in d.body) w (sym (reached.constants d (word_in d.body) ran role body.0) ∙ now)

    -- what is known of a constant that has run is its word
    pub known_word : (id w : ℕ) → Ran p valid passed before id → is_constant (known t.index id).opcode ≡ true → st.words id ≡ Some w
        → (known t.index id).word ≡ w
    known_word id w ran const now =
        let c = ran_in_block p b passed before rest is ran.0 ran.2 in
        subst (λ (q : ℕ). st.words q ≡ Some w → is_constant (known t.index q).opcode ≡ true → (known t.index q).word ≡ w) ran.1
        (λ now' const'. constant_word ran.0 w ran.2 c.0 c.1 (sym (ap (λ (k : Known). is_constant k.opcode) (sound.is_known c.0 ran.0 c.1)) ∙ const') now')
        now const

    pub child_word : (id w : ℕ) → Ran p valid passed before id → IsReadable t id → st.words id ≡ Some w
        → word_of s.homes (width_at t.index id) (arg_of t id) ≡ Some w
    child_word id w ran reads now = go (folds t id) refl
      where
        go : (f : Bool) → folds t id ≡ f → word_of s.homes (width_at t.index id) (if f then Imm (known t.index id).word else At (home t.index id)) ≡ Some w
        go false e = at_home s.homes (width_at t.index id) (home t.index id) w (r.words id w now e)
        go true e =
            of_immediate s.homes (width_at t.index id) (known t.index id).word
            ∙ ap (λ n. Some (low (width_at t.index id) n)) (known_word id w ran (reads e) now)
            ∙ ap Some (low-same (width_at t.index id) w (word_small id w now))

    -- the words that the uses of some ids read
    abbrev pub typed : List ℕ → List ℕ → List Read
    typed (c ∷ cs) (w ∷ ws) = (width_at t.index c, w) ∷ typed cs ws
    typed _ _ = []

    pub children_words : (cs ws : List ℕ) (os : List Operand) (more : List Read) → ((id : ℕ) → Contains cs id → Ran p valid passed before id)
        → ((id : ℕ) → Contains cs id → IsReadable t id)
        → b3.words_of (type_of p) st.words cs ≡ Some ws → words s.homes os ≡ Some more
        → words s.homes (map (use_of t) cs ++ os) ≡ Some (typed cs ws ++ more)
    children_words [] ws os more ran reads now others = others ∙ ap (λ (l : List ℕ). Some (typed [] l ++ more)) (sym (words_nil (type_of p) st.words ws now))
    children_words (c ∷ cs) ws os more ran reads now others =
        let one = words_cons (type_of p) st.words c cs ws now in
        subst (λ (l : List ℕ). words s.homes (map (use_of t) (c ∷ cs) ++ os) ≡ Some (typed (c ∷ cs) l ++ more)) (sym one.2)
        (reads_use s.homes (width_at t.index c) (arg_of t c) (map (use_of t) cs ++ os) one.0 (typed cs one.1 ++ more)
        (child_word c one.0 (ran c (Contains-first c cs)) (reads c (Contains-first c cs)) one.3)
        (children_words cs one.1 os more (λ id has. ran id (Contains-later c cs id has)) (λ id has. reads id (Contains-later c cs id has)) one.4 others))
