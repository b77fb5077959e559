-- What a Shuffle leaves, and what Moves one after the other leave.
use Rattle.std.proofs.Common.{◌≡◌, ◌≢◌, ℕ, suc, ◌-◌, ◌⊎◌, inl, inr, Option, Some, None, List, [], ◌∷◌, map, length, Bool, true, arith, refl, sym, ap, ◌∙◌, subst}
use Rattle.std.specs.Prelude.{Contains}
use Rattle.std.proofs.lemmas.List.{length-map}
use Rattle.b3_base.specs.Observed.{Start}
use Rattle.b3_ir.specs.declared.value.Reg.{Reg as Register}
use Rattle.air_ir.specs.Meaning.{Effect, meaning, operation}
use Rattle.air_ir.specs.Operands.{Holds, Homes, Read, Target, and_word, put, put_all, read, targets, word_of, words}
use Rattle.air_ir.specs.Related.{Alike, Copies, IsTarget, Refines}
use Rattle.air_ir.specs.Steps.{Meaning, Outcome, Undefined, Goes, State, after_reading, carried_out, go_on, junk_words, step, steps}
use Rattle.air_ir.specs.declared.operand.Home.{Home}
use Rattle.air_ir.specs.declared.operand.Home.TheVariants.{Reg}
use Rattle.air_ir.specs.declared.operand.Arg.TheVariants.{At}
use Rattle.air_ir.proofs.HomeLaws.{Refines-at, Refines-same, cases_home, copy-refines, put-same}
use Rattle.air_ir.proofs.Meanings.{copying}
use Rattle.air_ir.proofs.Writing.{put_all-other}
use Rattle.air_shuffle.specs.Moves.{DoAtOnce, IsLeftAlike, Move, is_self, move_of, pairs, shuffle_of}
use Rattle.air_shuffle.specs.Pending.{AreReady, Differ, Has, HasWord, Parallel, Runs, held, run, taken}
use Rattle.air_shuffle.proofs.Steps.{reads-at}

abbrev plain : List Read → List ℕ
plain ws = map (λ (r : Read). r.1) ws

-- ---- one after the other

module _ (mean : Meaning) where
  step-moved : (value : ℕ) (traps : Bool) (c : Move) (s : State) (junk : List ℕ) → Copies mean (operation (move_of value traps c)) → HasWord s.homes c
      → step mean (move_of value traps c) s junk ≡ (Goes None (record { homes = put s.homes c.to (taken s.homes c); world = s.world }), junk)
  unfolding step words targets pairs put_all junk_words
  step-moved value traps c s junk is w = rw (w.1, is ((c.width, w.0) ∷ []) s.world) refl

  steps-run : (value : ℕ) (traps : Bool) (done : List Move) (s : State) (junk : List ℕ) → ((c : Move) → Copies mean (operation (move_of value traps c))) → Runs done s.homes
      → steps mean (map (move_of value traps) done) s junk ≡ (Goes None (record { homes = run done s.homes; world = s.world }), junk)
  unfolding steps run Runs
  steps-run value traps [] s junk is r = refl
  steps-run value traps (c ∷ done) s junk is r =
      ap (go_on mean (steps mean (map (move_of value traps) done))) (step-moved value traps c s junk (is c) r.0)
      ∙ steps-run value traps done (record { homes = put s.homes c.to (taken s.homes c); world = s.world }) junk is r.1

-- ---- at once

record Words (s : Homes) (c : Move) (cs : List Move) (ws : List Read) : Type 0 where
  word : ℕ
  there : word_of s c.width c.from ≡ Some word
  rest : List Read
  others : words s (pairs cs) ≡ Some rest
  are : ws ≡ (c.width, word) ∷ rest

words-by : (s : Homes) (c : Move) (cs : List Move) (ws : List Read) (x : Option ℕ) (y : Option (List Read)) → word_of s c.width c.from ≡ x → words s (pairs cs) ≡ y
    → and_word c.width x y ≡ Some ws → Words s c cs ws
words-by s c cs ws None y e f h = absurd (cc)
words-by s c cs ws (Some x) None e f h = absurd (cc)
words-by s c cs ws (Some x) (Some vs) e f h = record { word = x; there = e; rest = vs; others = f; are = (cc) }

words-of : (s : Homes) (c : Move) (cs : List Move) (ws : List Read) → words s (pairs (c ∷ cs)) ≡ Some ws → Words s c cs ws
unfolding words pairs
words-of s c cs ws h = words-by s c cs ws (word_of s c.width c.from) (words s (pairs cs)) refl refl h

pub are-ready : (s : Homes) (cs : List Move) (ws : List Read) → words s (pairs cs) ≡ Some ws → AreReady cs s
unfolding Has
are-ready s [] ws h d has = absurd has
are-ready s (c ∷ cs) ws h d has =
    let w = words-of s c cs ws h in
    elim has [
      | inl e ↦ subst (HasWord s) (sym e) (w.word, w.there)
      | inr there ↦ are-ready s cs w.rest w.others d there
    ]

length-words : (s : Homes) (cs : List Move) (ws : List Read) → words s (pairs cs) ≡ Some ws → length ws ≡ length (targets (pairs cs))
unfolding targets pairs words
length-words s [] ws h = let none : ws ≡ [] = cc in ap length none
length-words s (c ∷ cs) ws h = let w = words-of s c cs ws h in ap length w.are ∙ ap suc (length-words s cs w.rest w.others)

targeted : (h : Home) (cs : List Move) → IsTarget h (targets (pairs cs)) → (d : Move) × Has d cs × (h ≡ d.to)
unfolding targets pairs IsTarget Has
targeted h [] t = absurd t
targeted h (c ∷ cs) (inl e) = (c, inl refl, e)
targeted h (c ∷ cs) (inr t) = let r = targeted h cs t in (r.0, inr r.1, r.2)

abbrev put_words : Homes → List Move → List Read → Homes
put_words t cs ws = put_all (targets (pairs cs)) (plain ws) t

put-next : (t : Homes) (c : Move) (cs : List Move) (word : ℕ) (rest : List Read)
    → put_words t (c ∷ cs) ((c.width, word) ∷ rest) ≡ put_words (put t c.to (Holds c.width word)) cs rest
unfolding targets pairs put_all
put-next t c cs word rest = refl

put-arrived : (s t : Homes) (cs : List Move) (ws : List Read) → words s (pairs cs) ≡ Some ws → Differ cs → (d : Move) → Has d cs → put_words t cs ws d.to ≡ taken s d
unfolding Has Differ
put-arrived s t [] ws h differ d has = absurd has
put-arrived s t (c ∷ cs) ws h differ d has =
    let w = words-of s c cs ws h in
    let u : Homes = put t c.to (Holds c.width w.word) in
    let next : put_words t (c ∷ cs) ws d.to ≡ put_words u cs w.rest d.to = ap (λ (v : List Read). put_words t (c ∷ cs) v d.to) w.are ∙ ap (λ (k : Homes). k d.to) (put-next t c cs w.word w.rest) in
    elim has [
      | inl e ↦
          let same : d.to ≡ c.to = ap (λ (k : Move). k.to) e in
          next
          ∙ put_all-other (targets (pairs cs)) (plain w.rest) u d.to (λ x. let r = targeted d.to cs x in differ.0 r.0 r.1 (sym r.2 ∙ same))
          ∙ put-same t c.to d.to (Holds c.width w.word) same
          ∙ sym (ap (taken s) e ∙ ap (held c.width) w.there)
      | inr there ↦ next ∙ put-arrived s u cs w.rest w.others differ.1 d there
    ]

pub shuffled-parallel : (scratch : Register) (s : Homes) (cs : List Move) (ws : List Read) → words s (pairs cs) ≡ Some ws → Differ cs → Parallel scratch cs s (put_words s cs ws)
shuffled-parallel scratch s cs ws h differ = record {
  arrived = put-arrived s s cs ws h differ;
  kept = λ q ne un. put_all-other (targets (pairs cs)) (plain ws) s q (λ x. let r = targeted q cs x in un r.0 r.1 r.2);
}

-- a Shuffle, by the words that it reads
shuffled : State → List ℕ → List Move → Option (List Read) → Outcome × List ℕ
shuffled s junk cs None = (Undefined, junk)
shuffled s junk cs (Some ws) = (Goes None (record { homes = put_words s.homes cs ws; world = s.world }), junk)

carried_out-shuffled : (ts : List Target) (ws : List Read) (s : State) (junk : List ℕ) (a : Option Effect) → length ws ≡ length ts
    → a ≡ Some (record { results = plain ws; world = s.world; exit = None })
    → carried_out s junk ts a ≡ (Goes None (record { homes = put_all ts (plain ws) s.homes; world = s.world }), junk)
unfolding junk_words
carried_out-shuffled ts ws s junk a e f =
    let same : length (plain ws) ≡ length ws = length-map ws (λ (r : Read). r.1) in
    let none : length ts - length (plain ws) ≡ 0 = omega (arith, same, e) in
    rw (f, none) refl

reading-shuffled : (mean : Meaning) (value : ℕ) (traps : Bool) (cs : List Move) (s : State) (junk : List ℕ) (x : Option (List Read)) → Copies mean (operation (shuffle_of value traps cs))
    → ((ws : List Read) → x ≡ Some ws → length ws ≡ length (targets (pairs cs)))
    → after_reading mean (shuffle_of value traps cs) s junk x ≡ shuffled s junk cs x
unfolding shuffled
reading-shuffled mean value traps cs s junk None is h = refl
reading-shuffled mean value traps cs s junk (Some ws) is h =
    carried_out-shuffled (targets (pairs cs)) ws s junk (mean (operation (shuffle_of value traps cs)) ws s.world) (h ws refl) (is ws s.world)

step-shuffled : (mean : Meaning) (value : ℕ) (traps : Bool) (cs : List Move) (s : State) (junk : List ℕ) → Copies mean (operation (shuffle_of value traps cs))
    → step mean (shuffle_of value traps cs) s junk ≡ shuffled s junk cs (words s.homes (pairs cs))
unfolding step
step-shuffled mean value traps cs s junk is = reading-shuffled mean value traps cs s junk (words s.homes (pairs cs)) is (length-words s.homes cs)

-- ---- both

-- a home is the destination of one of some moves, or of none
destined : (h : Home) (cs : List Move) → ((c : Move) × Has c cs × (h ≡ c.to)) ⊎ ((c : Move) → Has c cs → h ≢ c.to)
unfolding Has
destined h [] = inr (λ c has. absurd has)
destined h (d ∷ cs) = elim (cases_home h d.to) [
  | inl e ↦ inl (d, inl refl, e)
  | inr ne ↦ elim (destined h cs) [
    | inl r ↦ inl (r.0, inr r.1, r.2)
    | inr un ↦ inr (λ c has. elim has [ inl e ↦ (λ same. ne (same ∙ ap (λ (k : Move). k.to) e)) | inr there ↦ un c there ])
  ]
]

-- some moves without those from a home to itself
pub record IsWithoutSelf (all some : List Move) : Type 0 where
  pub from : (c : Move) → Has c some → Has c all
  pub rest : (c : Move) → Has c all → Has c some ⊎ (is_self c ≡ true)

self-refines : (s : Homes) (c : Move) (h : Home) → h ≡ c.to → is_self c ≡ true → HasWord s c → Refines (taken s c) (s h)
unfolding word_of
self-refines s c h e self w =
    let from : c.from ≡ At h = reads-at c.to c.from self ∙ ap At (sym e) in
    let there : read c.width (s h) ≡ Some w.0 = ap (word_of s c.width) (sym from) ∙ w.1 in
    let is : taken s c ≡ Holds c.width w.0 = ap (held c.width) w.1 in
    Refines-at (taken s c) (s h) (Holds c.width w.0) (s h) is refl (copy-refines c.width (s h) w.0 there)

module _ (scratch : Register) (all some : List Move) (without : IsWithoutSelf all some) where
  both_refine : (s t u : Homes) → AreReady all s → Parallel scratch all s u → Parallel scratch some s t → (h : Home) → h ≢ Reg scratch → Refines (u h) (t h)
  both_refine s t u ready p q h ne = elim (destined h some) [
    | inl r ↦
        let now : u h ≡ t h = ap u r.2 ∙ p.arrived r.0 (without.from r.0 r.1) ∙ sym (q.arrived r.0 r.1) ∙ sym (ap t r.2) in
        Refines-same (u h) (t h) now
    | inr un ↦
        let stays : t h ≡ s h = q.kept h ne un in
        elim (destined h all) [
          | inr none ↦ Refines-same (u h) (t h) (p.kept h ne none ∙ sym stays)
          | inl r ↦
              let self : is_self r.0 ≡ true = elim (without.rest r.0 r.1) [ inl there ↦ absurd (un r.0 there r.2) | inr is ↦ is ] in
              Refines-at (u h) (t h) (taken s r.0) (s h) (ap u r.2 ∙ p.arrived r.0 r.1) stays (self-refines s r.0 h r.2 self (ready r.0 r.1))
        ]
  ]

  both_same : (s t u : Homes) → Parallel scratch all s u → Parallel scratch some s t → (h : Home) → h ≢ Reg scratch
      → ((c : Move) → Has c all → is_self c ≡ true → h ≢ c.to) → t h ≡ u h
  both_same s t u p q h ne other = elim (destined h some) [
    | inl r ↦ ap t r.2 ∙ q.arrived r.0 r.1 ∙ sym (p.arrived r.0 (without.from r.0 r.1)) ∙ sym (ap u r.2)
    | inr un ↦ elim (destined h all) [
      | inr none ↦ q.kept h ne un ∙ sym (p.kept h ne none)
      | inl r ↦ absurd (elim (without.rest r.0 r.1) [ inl there ↦ un r.0 there r.2 | inr is ↦ other r.0 r.1 is r.2 ])
    ]
  ]

  alike-by : (start : Start) (value : ℕ) (traps : Bool) (done : List Move) (s : State) (junk : List ℕ) (x : Option (List Read)) → words s.homes (pairs all) ≡ x → Differ all
      → ((c : Move) → Has c all → Contains all c)
      → ((t : Homes) → Parallel scratch some t (run done t)) → ((t : Homes) → AreReady some t → Runs done t)
      → Alike (IsLeftAlike scratch all) (shuffled s junk all x) (steps (meaning start) (map (move_of value traps) done) s junk)
  unfolding Alike shuffled
  alike-by start value traps done s junk None e differ has parallel runs = tt
  alike-by start value traps done s junk (Some ws) e differ has parallel runs =
      let ready : AreReady all s.homes = are-ready s.homes all ws e in
      let p = shuffled-parallel scratch s.homes all ws e differ in
      let q = parallel s.homes in
      rw (steps-run (meaning start) value traps done s junk (λ c. copying start (operation (move_of value traps c)) refl) (runs s.homes (λ c h. ready c (without.from c h)))) (
        refl,
        refl,
        record {
          homes = both_refine s.homes (run done s.homes) (put_words s.homes all ws) ready p q;
          same = λ h ne other. both_same s.homes (run done s.homes) (put_words s.homes all ws) p q h ne (λ c there. other c (has c there));
          world = refl;
        },
      )

  pub do_at_once : (done : List Move) → Differ all → ((c : Move) → Has c all → Contains all c)
      → ((t : Homes) → Parallel scratch some t (run done t)) → ((t : Homes) → AreReady some t → Runs done t) → DoAtOnce scratch all done
  do_at_once done differ has parallel runs start value traps s junk =
      rw (step-shuffled (meaning start) value traps all s junk (copying start (operation (shuffle_of value traps all)) refl))
      (alike-by start value traps done s junk (words s.homes (pairs all)) refl differ has parallel runs)
