-- What an instruction does that writes a word or none beside registers, and one that acts on the outside: it adds an event,
-- and takes an answer.
use Rattle.std.proofs.Common.{◌≡◌, ℕ, zero, suc, ◌-◌, ◌^◌, ◌<◌, inl, inr, List, [], ◌∷◌, ◌++◌, Some, None, length, map, drop, refl, sym, ap, ◌∙◌, subst, arith, length-append}
use Rattle.std.specs.Prelude.{if◌then◌else◌}
use Rattle.b3_base.proofs.Widths.{low-lt}
use Rattle.b3_base.specs.Arithmetic.{low}
use Rattle.b3_base.specs.Observed.{Answer, Event, Give, Leave, Memory, Observation, Start}
use Rattle.b3_base.specs.Word.{bits}
use Rattle.b3_base.specs.declared.observation.Status.{Status}
use Rattle.b3_base.specs.declared.observation.Status.TheVariants.{Left, Waiting}
use Rattle.b3_base.specs.declared.word.Width.{Width}
use Rattle.b3_base.specs.declared.word.Width.TheVariants.{W32, W64}
use Rattle.b3_ir.specs.Types.{has_word, width_of}
use Rattle.b3_ir.specs.declared.opcode.Ty.{Ty}
use Rattle.b3_ir.specs.declared.opcode.Ty.TheVariants.{Void, Int32, Int64}
use Rattle.b3_meaning.specs.Run as b3
use Rattle.air_ir.specs.Blocks.{seen_as}
use Rattle.air_ir.specs.Meaning.{Over, World, answered, asks, ends, gives, meaning, operation}
use Rattle.air_ir.specs.Operands.{Holds, Homes, Read, Target, others, put, put_all, read, targets, words}
use Rattle.air_ir.specs.Related.{IsTarget}
use Rattle.air_ir.specs.Steps.{Goes, State, junk_words, steps}
use Rattle.air_ir.specs.declared.operand.Arg.TheVariants.{At}
use Rattle.air_ir.specs.declared.operand.Home.{Home}
use Rattle.air_ir.specs.declared.operand.Home.TheVariants.{Tmp}
use Rattle.air_ir.specs.declared.procedure.AirInst.{AirInst}
use Rattle.air_ir.proofs.Writing.{put_all-other}
use Rattle.air_select.specs.Selected.{move, register, result_from, Tables}
use Rattle.air_select.specs.Temporaries.{home}
use Rattle.air_fold.specs.Values.{width_at}
use Rattle.air_select.proofs.Copied.{moved}
use Rattle.air_select.proofs.Does.{DoesSome, is_known, named, Here}
use Rattle.air_select.proofs.Instructions.{at_home, one_end, one_giving, steps_gone, steps_last, steps_next, with_home}
use Rattle.air_select.proofs.Related.{Related, holds_word, kept_related, register_here, word_related}
use Rattle.b3_base.specs.declared.event.EventKind.{EventKind}
use Rattle.b3_ir.specs.Procedure.{Procedure}
use Rattle.b3_ir.specs.declared.value.Value.{Value}

-- ---- what is written

-- no temporary is written
abbrev pub WritesNoTmp : List Target → Type 0
WritesNoTmp ts = (n : ℕ) → IsTarget (Tmp n) ts → ⊥

-- the target of a result in a register
abbrev pub target_in : Ty → ℕ → List Target
target_in ty r = if has_word ty then record { home = register r; width = width_of ty } ∷ [] else []

junk_length : (n : ℕ) (junk : List ℕ) → length (junk_words n junk) ≡ n
unfolding junk_words
junk_length zero junk = refl
junk_length (suc n) junk = ap suc (junk_length n (others junk))

-- the last word goes into the last home
pub put_last : (ts : List Target) (ws : List ℕ) (to : Home) (width : Width) (word : ℕ) (s : Homes) → length ws ≡ length ts
    → put_all (ts ++ record { home = to; width = width } ∷ []) (ws ++ word ∷ []) s ≡ put (put_all ts ws s) to (Holds width word)
unfolding put_all
put_last [] [] to width word s e = refl
put_last [] (y ∷ ws) to width word s e = absurd (omega arith)
put_last (x ∷ ts) [] to width word s e = absurd (omega arith)
put_last (x ∷ ts) (y ∷ ws) to width word s e = put_last ts ws to width word (put s x.home (Holds x.width y)) (omega (arith, e))

pub no_tmp_append : (ts us : List Target) → WritesNoTmp ts → WritesNoTmp us → WritesNoTmp (ts ++ us)
unfolding IsTarget
no_tmp_append [] us a b n at = b n at
no_tmp_append (x ∷ ts) us a b n (inl e) = a n (inl e)
no_tmp_append (x ∷ ts) us a b n (inr more) = no_tmp_append ts us (λ m at. a m (inr at)) b n more

pub no_tmp_none : WritesNoTmp []
unfolding IsTarget
no_tmp_none n at = at

pub no_tmp_register : (r : ℕ) (width : Width) (ts : List Target) → WritesNoTmp ts → WritesNoTmp (record { home = register r; width = width } ∷ ts)
unfolding IsTarget
no_tmp_register r width ts none n (inl e) = cc
no_tmp_register r width ts none n (inr more) = none n more

reads_low : (width : Width) (word : ℕ) → read width (Holds width word) ≡ Some (low width word)
unfolding read
reads_low W32 word = refl
reads_low W64 word = refl

module _ (p : Procedure) (t : Tables) (start : Start) (v : Value) (h : Here p t start v) (s : State) (r : Related p t start h.st s) (junk : List ℕ)
    (i : AirInst) (rs : List Read) (read_all : words s.homes i.operands ≡ Some rs) where
  -- the run is over, or waits
  pub over : (more : List AirInst) (w : World) (status : Status) (seen : Observation) → meaning start (operation i) rs s.world ≡ ends w status
      → seen_as w status ≡ seen → DoesSome p t start v (b3.End (b3.Over seen)) (steps (meaning start) (i ∷ more) s junk)
  over more w status seen e same =
      let ended = one_end start i s junk rs w status read_all e in (
        junk,
        (
          status,
          ended.0,
          ended.1,
          steps_gone start i more s ended.0 (Over status) junk ended.1 ended.2,
          ap (λ (x : World). seen_as x status) ended.3 ∙ same,
        ),
      )

  module _ (ts : List Target) (none : WritesNoTmp ts) (st' : b3.State) (w' : World) (same_words : st'.words ≡ h.st.words)
      (same_locations : st'.locations ≡ h.st.locations)
      (memory : w'.memory ≡ st'.memory) (events : w'.events ≡ st'.events) (answers : w'.answers ≡ st'.answers) where
    -- the state after it, whatever is written into the registers
    after_it : List Target → List ℕ → State
    after_it us words = record { homes = put_all us words s.homes; world = w' }

    after_related : (us : List Target) (words : List ℕ) → WritesNoTmp us → Related p t start st' (after_it us words)
    unfolding after_it
    after_related us words none' =
        kept_related p t start h.st st' s (after_it us words) r (λ n. put_all-other us words s.homes (Tmp n) (none' n)) same_words same_locations memory
        events answers

    -- no word is given
    pub bare : targets i.operands ≡ ts ++ [] → meaning start (operation i) rs s.world ≡ gives w' []
        → DoesSome p t start v (b3.Next st') (steps (meaning start) (i ∷ []) s junk)
    unfolding after_it
    bare all e =
        let us : List Target = ts ++ [] in
        let n : ℕ = length us - 0 in
        let next : State = after_it us (junk_words n junk ++ []) in (
          drop n junk,
          (
            next,
            steps_last start i s junk (Goes None next, drop n junk) (one_giving start i s junk rs w' [] us read_all e all),
            after_related us (junk_words n junk ++ []) (no_tmp_append ts [] none no_tmp_none),
          ),
        )

    counted_junk : (to : Home) (width : Width)
        → length (junk_words (length (ts ++ record { home = to; width = width } ∷ []) - 1) junk) ≡ length ts
    counted_junk to width =
        junk_length (length (ts ++ record { home = to; width = width } ∷ []) - 1) junk
        ∙ omega (arith, length-append ts (record { home = to; width = width } ∷ []))

    -- a word is written into the value's home
    pub own : (width : Width) → width_of v.ty ≡ width → (word : ℕ) → word < 2 ^ bits width
        → targets i.operands ≡ ts ++ record { home = home t.index v.id; width = width } ∷ []
        → meaning start (operation i) rs s.world ≡ gives w' (word ∷ [])
        → DoesSome p t start v (b3.Next (b3.with_word st' v.id word)) (steps (meaning start) (i ∷ []) s junk)
    unfolding after_it
    own width is word small all e =
        let to = home t.index v.id in
        let us : List Target = ts ++ record { home = to; width = width } ∷ [] in
        let n : ℕ = length us - 1 in
        let given : List ℕ = junk_words n junk in
        let next : State = after_it us (given ++ word ∷ []) in
        let known : width_at t.index v.id ≡ width = is_known p t start v h ∙ is in
        let homes : next.homes ≡ put (put_all ts given s.homes) to (Holds width word) = put_last ts given to width word s.homes (counted_junk to width) in
        let before : State = after_it ts given in
        let after_word = word_related p t h.sound start st' before (after_related ts given none) v.id v (named p t start v h) word (Holds width word)
        (ap (λ (k : Width). read k (Holds width word)) known ∙ holds_word width word small) in (
          drop n junk,
          (
            next,
            steps_last start i s junk (Goes None next, drop n junk) (one_giving start i s junk rs w' (word ∷ []) us read_all e all),
            subst (λ (f : Homes). Related p t start (b3.with_word st' v.id word) (record { homes = f; world = w' })) (sym homes) after_word,
          ),
        )

    -- a word is given in a register, and put into the value's home
    pub worded : (reg : ℕ) (value : ℕ) (width : Width) → width_of v.ty ≡ width
        → targets i.operands ≡ ts ++ record { home = register reg; width = width } ∷ []
        → meaning start (operation i) rs s.world ≡ gives w' (value ∷ [])
        → DoesSome p t start v (b3.Next (b3.with_word st' v.id (low width value)))
        (steps (meaning start) (i ∷ move v width (At (register reg)) (home t.index v.id) ∷ []) s junk)
    unfolding after_it
    worded reg value width own all e =
        let us : List Target = ts ++ record { home = register reg; width = width } ∷ [] in
        let n : ℕ = length us - 1 in
        let given : List ℕ = junk_words n junk in
        let written : List ℕ = given ++ value ∷ [] in
        let word : ℕ = low width value in
        let next : State = after_it us written in
        let to = home t.index v.id in
        let copy = move v width (At (register reg)) to in
        let held : next.homes (register reg) ≡ Holds width value =
        ap (λ (f : Homes). f (register reg)) (put_last ts given (register reg) width value s.homes (counted_junk (register reg) width))
        ∙ register_here (put_all ts given s.homes) reg (Holds width value) in
        let known : width_at t.index v.id ≡ width = is_known p t start v h ∙ own in
        let r' = after_related us written (no_tmp_append ts _ none (no_tmp_register reg width [] no_tmp_none)) in (
          drop n junk,
          (
            with_home next to width word,
            steps_next start i (copy ∷ []) s next junk (drop n junk) (one_giving start i s junk rs w' (value ∷ []) us read_all e all)
                ∙ moved p t start v h next (drop n junk) width (At (register reg)) to word
                (at_home next.homes width (register reg) word (ap (read width) held ∙ reads_low width value)),
            word_related p t h.sound start st' next r' v.id v (named p t start v h) word (Holds width word)
                (ap (λ (k : Width). read k (Holds width word)) known ∙ holds_word width word (low-lt width value)),
          ),
        )

  -- ---- an event, and what its answer gives

  module _ (shown : List Read) (kind : EventKind) (types : List Ty) (ws : List ℕ) (reg : ℕ) (ts : List Target)
      (means : meaning start (operation i) rs s.world ≡ asks kind (has_word v.ty) shown s.world)
      (shown_words : map (λ (x : Read). x.1) shown ≡ ws) (shown_widths : map (λ (x : Read). x.0) shown ≡ map width_of types)
      (writes : targets i.operands ≡ ts ++ target_in v.ty reg) (none : WritesNoTmp ts) where
    event : Event
    event = b3.event_of h.st kind types ws

    asked : b3.State
    asked = record h.st { events = h.st.events ++ event ∷ [] }

    asked_world : Memory → List Answer → World
    asked_world memory left = record { memory = memory; events = h.st.events ++ event ∷ []; answers = left }

    asked_is : asks kind (has_word v.ty) shown s.world ≡ answered (has_word v.ty) (asked_world h.st.memory h.st.answers) h.st.answers
    unfolding asked_world event
    asked_is =
        λ k. answered (has_word v.ty) (record {
          memory = r.memory k;
          events = r.events k ++ record { kind = kind; arguments = shown_words k; widths = shown_widths k; memory = r.memory k } ∷ [];
          answers = r.answers k;
        }) (r.answers k)

    given_by : (value : ℕ) (memory : Memory) (left : List Answer) (ty : Ty) → v.ty ≡ ty → targets i.operands ≡ ts ++ target_in ty reg
        → meaning start (operation i) rs s.world ≡ gives (asked_world memory left) (if has_word ty then value ∷ [] else [])
        → DoesSome p t start v (b3.Next (b3.with_answer (record asked { memory = memory; answers = left }) v.id ty value))
        (steps (meaning start) (i ∷ (if has_word ty then move v (width_of ty) (At (register reg)) (home t.index v.id) ∷ [] else [])) s junk)
    unfolding asked asked_world
    given_by value memory left Void is all e =
        bare ts none (record asked { memory = memory; answers = left }) (asked_world memory left) refl refl refl refl refl all e
    given_by value memory left Int32 is all e =
        worded ts none (record asked { memory = memory; answers = left }) (asked_world memory left) refl refl refl refl refl reg value W32
        (ap width_of is) all e
    given_by value memory left Int64 is all e =
        worded ts none (record asked { memory = memory; answers = left }) (asked_world memory left) refl refl refl refl refl reg value W64
        (ap width_of is) all e

    answers_by : (given : List Answer)
        → meaning start (operation i) rs s.world ≡ answered (has_word v.ty) (asked_world h.st.memory h.st.answers) given
        → DoesSome p t start v (b3.answers asked v given) (steps (meaning start) (i ∷ result_from t v reg) s junk)
    unfolding asked asked_world
    answers_by [] e = over (result_from t v reg) (asked_world h.st.memory h.st.answers) Waiting (b3.seen_as asked Waiting) e refl
    answers_by (Leave ∷ rest) e =
        over (result_from t v reg) (asked_world h.st.memory rest) Left (b3.seen_as (record asked { answers = rest }) Left) e refl
    answers_by (Give value bytes ∷ rest) e = given_by value (b3.with_writes h.st.memory bytes) rest v.ty refl writes e

    -- what it does is what the value leads to
    pub asks_does : DoesSome p t start v (b3.calls_out h.st v (b3.event_of h.st kind types ws)) (steps (meaning start) (i ∷ result_from t v reg) s junk)
    unfolding asked event
    asks_does = answers_by h.st.answers (means ∙ asked_is)
