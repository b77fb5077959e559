-- The states of the two runs: what homes hold of the words of values.
use Rattle.std.proofs.Common.{◌≡◌, ◌≢◌, ℕ, ◌+◌, ◌*◌, ◌^◌, ◌<◌, inl, inr, true, false, length, Option, Some, refl, sym, ap, ◌∙◌, subst, arith}
use Rattle.std.proofs.lemmas.Bool.{cases_eq, eq-eqb, ne_eqb}
use Rattle.std.proofs.lemmas.Option.{same_Some}
use Rattle.b3_base.proofs.Widths.{low-same}
use Rattle.b3_base.specs.Word.{bits}
use Rattle.b3_base.specs.declared.word.Width.{Width}
use Rattle.b3_base.specs.declared.word.Width.TheVariants.{W32, W64}
use Rattle.b3_ir.specs.Naming.{value_named}
use Rattle.b3_ir.specs.Procedure.{Procedure, values_of}
use Rattle.b3_ir.specs.declared.opcode.Opcode.TheVariants.{Phi}
use Rattle.b3_ir.specs.declared.value.Value.{Value}
use Rattle.b3_meaning.specs.Run as b3
use Rattle.air_ir.specs.Operands.{Homes, Held, Holds, put, read}
use Rattle.air_ir.specs.Steps.{State}
use Rattle.air_ir.specs.declared.operand.Home.{Home}
use Rattle.air_ir.specs.declared.operand.Home.TheVariants.{Tmp}
use Rattle.b3_sound.proofs.Effects.{word_here, word_there}
use Rattle.air_select.specs.Selected.{folds, names_argument, register, Tables}
use Rattle.air_select.specs.Temporaries.{argument, home, location}
use Rattle.air_fold.specs.Values.{place, width_at}
use Rattle.b3_base.specs.Observed.{Start}
use Rattle.air_select.proofs.Setting.{IsSound}

-- a home holds a word at a width
abbrev pub Has : Homes → Width → Home → ℕ → Type 0
Has homes width h word = read width (homes h) ≡ Some word

-- an id names a Phi
abbrev pub IsPhi : Procedure → ℕ → Type 0
IsPhi p id = (v : Value) × (value_named p id ≡ Some v) × (v.kind.opcode ≡ Phi)

module _ (p : Procedure) (t : Tables) (start : Start) where
  -- each word of a value that isn't folded stands in its home, each word in a location in its own, and each argument
  -- that some value is in its temporary; and the worlds are the same
  pub record Related (st : b3.State) (s : State) : Type 0 where
    pub words : (id word : ℕ) → st.words id ≡ Some word → folds t id ≡ false → Has s.homes (width_at t.index id) (home t.index id) word
    pub locations : (id word : ℕ) → st.locations id ≡ Some word → Has s.homes (width_at t.index id) (location t.index id) word
    pub phis : (id word : ℕ) → st.locations id ≡ Some word → IsPhi p id
    pub arguments : (r : ℕ) → r < 8 → names_argument (values_of p 0) r ≡ true → Has s.homes W64 (argument t.index r) (start.arguments r)
    pub memory : s.world.memory ≡ st.memory
    pub events : s.world.events ≡ st.events
    pub answers : s.world.answers ≡ st.answers

  -- what changes no temporary, and does the same to both worlds
  pub kept_related : (st st' : b3.State) (s s' : State) → Related st s → ((n : ℕ) → s'.homes (Tmp n) ≡ s.homes (Tmp n))
      → st'.words ≡ st.words → st'.locations ≡ st.locations
      → s'.world.memory ≡ st'.memory → s'.world.events ≡ st'.events → s'.world.answers ≡ st'.answers → Related st' s'
  kept_related st st' s s' r homes words locations memory events answers = record {
    words = λ id word now un.
        ap (read (width_at t.index id)) (homes (3 * place t.index id)) ∙ r.words id word (sym (ap (λ (f : ℕ → Option ℕ). f id) words) ∙ now) un;
    locations = λ id word now.
        ap (read (width_at t.index id)) (homes (3 * place t.index id + 1))
        ∙ r.locations id word (sym (ap (λ (f : ℕ → Option ℕ). f id) locations) ∙ now);
    phis = λ id word now. r.phis id word (sym (ap (λ (f : ℕ → Option ℕ). f id) locations) ∙ now);
    arguments = λ reg few names. ap (read W64) (homes (3 * length t.index.ids + reg)) ∙ r.arguments reg few names;
    memory = memory;
    events = events;
    answers = answers;
  }

-- ---- writing

pub put_here : (homes : Homes) (n : ℕ) (held : Held) → put homes (Tmp n) held (Tmp n) ≡ held
unfolding put
put_here homes n held = rw (eq-eqb n n refl) refl

pub put_there : (homes : Homes) (n m : ℕ) (held : Held) → m ≢ n → put homes (Tmp n) held (Tmp m) ≡ homes (Tmp m)
unfolding put
put_there homes n m held differ = rw (ne_eqb m n differ) refl

-- a register is no temporary
pub put_register : (homes : Homes) (r n : ℕ) (held : Held) → put homes (register r) held (Tmp n) ≡ homes (Tmp n)
unfolding put
put_register homes r n held = refl

pub register_here : (homes : Homes) (r : ℕ) (held : Held) → put homes (register r) held (register r) ≡ held
unfolding put
register_here homes r held = rw (eq-eqb r r refl) refl

pub register_there : (homes : Homes) (r k : ℕ) (held : Held) → k ≢ r → put homes (register r) held (register k) ≡ homes (register k)
unfolding put
register_there homes r k held differ = rw (ne_eqb k r differ) refl

-- a word that is held is read at its width
pub holds_word : (width : Width) (word : ℕ) → word < 2 ^ bits width → read width (Holds width word) ≡ Some word
unfolding read
holds_word W32 word lt = ap Some (low-same W32 word lt)
holds_word W64 word lt = ap Some (low-same W64 word lt)

module _ (p : Procedure) (t : Tables) (sound : IsSound p t) (start : Start) where
  -- the state with something else in a home
  abbrev pub after : State → Home → Held → State
  after s to held = record { homes = put s.homes to held; world = s.world }

  other_place : (a b : ℕ) (v : Value) → value_named p a ≡ Some v → b ≢ a → place t.index b ≢ place t.index a
  other_place a b v named differ same = differ (sym (sound.apart a b v named (sym same)))

  -- the temporaries of a value are no others' homes, locations and arguments
  module _ (st : b3.State) (s : State) (r : Related p t start st s) (id : ℕ) (v : Value) (named : value_named p id ≡ Some v) where
    pub kept_argument : (k : ℕ) (held : Held) → k < 3 → (reg : ℕ) → reg < 8 → names_argument (values_of p 0) reg ≡ true
        → Has (put s.homes (Tmp (3 * place t.index id + k)) held) W64 (argument t.index reg) (start.arguments reg)
    kept_argument k held lt reg few names =
        let below = sound.below id v named in
        ap (read W64) (put_there s.homes (3 * place t.index id + k) (3 * length t.index.ids + reg) held (omega arith)) ∙ r.arguments reg few names

    phi_is : (q : ℕ) → IsPhi p q → q ≡ id → v.kind.opcode ≡ Phi
    phi_is q is same =
        let one : is.0 ≡ v = same_Some is.0 v (sym (is.1) ∙ ap (value_named p) same ∙ named) in
        ap (λ (w : Value). w.kind.opcode) (sym one) ∙ is.2

    -- a word is written on the way
    pub extra_related : (k : ℕ) (held : Held) → 0 < k → k < 3 → (v.kind.opcode ≡ Phi → ⊥) → Related p t start st (after s (Tmp (3 * place t.index id + k)) held)
    extra_related k held some lt none = record {
      words = λ q word now un.
          ap (read (width_at t.index q)) (put_there s.homes (3 * place t.index id + k) (3 * place t.index q) held (omega arith)) ∙ r.words q word now un;
      locations = λ q word now.
          let differ : q ≢ id = λ same. none (phi_is q (r.phis q word now) same) in
          let places : place t.index q ≢ place t.index id = other_place id q v named differ in
          ap (read (width_at t.index q)) (put_there s.homes (3 * place t.index id + k) (3 * place t.index q + 1) held (omega arith)) ∙ r.locations q word now;
      phis = r.phis;
      arguments = λ reg few names. kept_argument k held lt reg few names;
      memory = r.memory;
      events = r.events;
      answers = r.answers;
    }

    other_word : (word q w : ℕ) (held : Held) → q ≢ id → (b3.with_word st id word).words q ≡ Some w → folds t q ≡ false
        → Has (put s.homes (home t.index id) held) (width_at t.index q) (home t.index q) w
    other_word word q w held differ now un =
        let places : place t.index q ≢ place t.index id = other_place id q v named differ in
        ap (read (width_at t.index q)) (put_there s.homes (3 * place t.index id) (3 * place t.index q) held (omega arith))
        ∙ r.words q w (sym (word_there st id word q differ) ∙ now) un

    own_word : (word q w : ℕ) (held : Held) → read (width_at t.index id) held ≡ Some word → q ≡ id → (b3.with_word st id word).words q ≡ Some w
        → Has (put s.homes (home t.index id) held) (width_at t.index q) (home t.index q) w
    own_word word q w held reads same now =
        let is : word ≡ w = same_Some word w (sym (ap (b3.with_word st id word).words same ∙ word_here st id word) ∙ now) in
        subst (λ (x : ℕ). Has (put s.homes (home t.index id) held) (width_at t.index x) (home t.index x) w) (sym same)
        (ap (read (width_at t.index id)) (put_here s.homes (3 * place t.index id) held) ∙ reads ∙ ap Some is)

    -- a word is written into the home of a value
    pub word_related : (word : ℕ) (held : Held) → read (width_at t.index id) held ≡ Some word
        → Related p t start (b3.with_word st id word) (after s (home t.index id) held)
    word_related word held reads = record {
      words = λ q w now un. elim (cases_eq q id) [
        | inl same ↦ own_word word q w held reads same now
        | inr differ ↦ other_word word q w held differ now un
      ];
      locations = λ q w now.
          ap (read (width_at t.index q)) (put_there s.homes (3 * place t.index id) (3 * place t.index q + 1) held (omega arith)) ∙ r.locations q w now;
      phis = r.phis;
      arguments = λ reg few names.
          let below = sound.below id v named in
          ap (read W64) (put_there s.homes (3 * place t.index id) (3 * length t.index.ids + reg) held (omega arith)) ∙ r.arguments reg few names;
      memory = r.memory;
      events = r.events;
      answers = r.answers;
    }

    -- a folded value has a word without a home
    pub folded_related : (word : ℕ) → folds t id ≡ true → Related p t start (b3.with_word st id word) s
    folded_related word gone = record {
      words = λ q w now un. elim (cases_eq q id) [
        | inl same ↦ absurd (let both : true ≡ false = sym gone ∙ ap (folds t) (sym same) ∙ un in cc)
        | inr differ ↦ r.words q w (sym (word_there st id word q differ) ∙ now) un
      ];
      locations = r.locations;
      phis = r.phis;
      arguments = r.arguments;
      memory = r.memory;
      events = r.events;
      answers = r.answers;
    }

    -- a word is written into the location of a Phi
    pub location_related : (word : ℕ) (held : Held) → v.kind.opcode ≡ Phi → read (width_at t.index id) held ≡ Some word
        → Related p t start (b3.with_location st id word) (after s (location t.index id) held)
    location_related word held phi reads = record {
      words = λ q w now un.
          ap (read (width_at t.index q)) (put_there s.homes (3 * place t.index id + 1) (3 * place t.index q) held (omega arith)) ∙ r.words q w now un;
      locations = λ q w now. elim (cases_eq q id) [
        | inl same ↦
            let is : word ≡ w = same_Some word w (sym (ap (b3.with_location st id word).locations same ∙ location_here word) ∙ now) in
            subst (λ (x : ℕ). Has (put s.homes (location t.index id) held) (width_at t.index x) (location t.index x) w) (sym same)
            (ap (read (width_at t.index id)) (put_here s.homes (3 * place t.index id + 1) held) ∙ reads ∙ ap Some is)
        | inr differ ↦
            let places : place t.index q ≢ place t.index id = other_place id q v named differ in
            ap (read (width_at t.index q)) (put_there s.homes (3 * place t.index id + 1) (3 * place t.index q + 1) held (omega arith))
            ∙ r.locations q w (sym (location_there word q differ) ∙ now)
      ];
      phis = λ q w now. elim (cases_eq q id) [
        | inl same ↦ subst (IsPhi p) (sym same) (v, named, phi)
        | inr differ ↦ r.phis q w (sym (location_there word q differ) ∙ now)
      ];
      arguments = λ reg few names. kept_argument 1 held (omega arith) reg few names;
      memory = r.memory;
      events = r.events;
      answers = r.answers;
    }
      where
        location_here : (word : ℕ) → (b3.with_location st id word).locations id ≡ Some word
        location_here word = rw (eq-eqb id id refl) refl

        location_there : (word q : ℕ) → q ≢ id → (b3.with_location st id word).locations q ≡ st.locations q
        location_there word q differ = rw (ne_eqb q id differ) refl
