-- A Shuffle does what its code does.
use Rattle.std.proofs.Common.{◌≡◌, ◌≢◌, ℕ, suc, ◌-◌, ◌⊎◌, Bool, inl, inr, ⊎_elim, List, [], ◌∷◌, map, length, get_or, Option, Some, None, refl, sym, ap, ◌∙◌, subst, arith}
use Rattle.std.specs.Prelude.{All, if◌then◌else◌}
use Rattle.std.proofs.lemmas.List.{length-map}
use Rattle.std.proofs.lemmas.List.Elements.{All-head, All-tail}
use Rattle.b3_base.specs.Arithmetic.{low as low_of}
use Rattle.b3_base.specs.Observed.{Start}
use Rattle.b3_base.specs.declared.word.Width.{Width}
use Rattle.b3_base.specs.declared.word.Width.TheVariants.{W32, W64}
use Rattle.b3_ir.specs.declared.value.Reg.{Reg as Register}
use Rattle.stackmap.specs.Rules.{IsAllocatable}
use Rattle.air_ir.specs.Forms.{ArePairs, WritesApart}
use Rattle.air_ir.specs.Kinds.{Copies, kind_of}
use Rattle.air_ir.specs.Meaning.{World, meaning}
use Rattle.air_ir.specs.Operands.{Held, Empty, Holds, Homes, Read, Target, and_word, others, put, put_all, read, same_home, targets, word_of, words}
use Rattle.air_ir.specs.Related.{Alike, Gives, Refines}
use Rattle.air_ir.specs.Steps.{Goes, State, Undefined, go_on, junk_words, step, steps}
use Rattle.air_ir.specs.declared.op.AirOp.TheVariants as op
use Rattle.air_ir.specs.declared.operand.Arg.{Arg}
use Rattle.air_ir.specs.declared.operand.Arg.TheVariants.{At, Imm, Addr, Index, FrameSlot}
use Rattle.air_ir.specs.declared.operand.Home.{Home}
use Rattle.air_ir.specs.declared.operand.Home.TheVariants.{Reg, Spill, Tmp}
use Rattle.air_ir.specs.declared.operand.Operand.{Operand}
use Rattle.air_ir.specs.declared.procedure.AirInst.{AirInst}
use Rattle.air_ir.proofs.HomeLaws.{Refines-at, Refines-same, put-other, put-same}
use Rattle.air_frame.specs.Frames.{IsFrameOf}
use Rattle.air_shuffle.specs.Moves.{IsLeftAlike, move_of, pairs, shuffle_of}
use Rattle.air_shuffle.specs.Sequenced.{IsSequenceOf, sequenced}
use Rattle.air_shuffle.specs.declared.moves.Move.{Move}
use Rattle.a64_layout.specs.Machine.{Machine}
use Rattle.a64_emit.specs.Code.{copies_code, copy_code, inst_code, kept_register, moves_of, shuffle_code}
use Rattle.a64_emit.specs.Related.{Carries, IsRelated}
use Rattle.a64_emit.specs.Setting.{IsSet, Setting}
use Rattle.a64_emit.proofs.AirSteps.{step_lost}
use Rattle.a64_emit.proofs.Computes.{InstRuns, scratch_17}
use Rattle.a64_emit.proofs.Copies.{CanTake, IsConstantOf, IsKeptWord, copied, kept}
use Rattle.a64_emit.proofs.Fetching.{IsPlaceFor, IsUsable, allocatable_other}
use Rattle.a64_emit.proofs.Keeping.{keeps_related, reads_carried}
use Rattle.a64_emit.proofs.Storing.{same_number, with_home}
use Rattle.a64_emit.proofs.ShuffleMoves.{all_made, kept_other, orderable, own_pairs, sequence_of}
use Rattle.a64_emit.proofs.Straight.{Does, does_both, does_none}

-- ---- moves

-- a move as it is given: it is from what may be fetched to a home in which a result may be put
pub record IsGiven (z : Setting) (m : Move) : Type 0 where
  pub usable : IsUsable z m.from
  pub place : IsPlaceFor z m.to
  pub constant : IsConstantOf m.width m.from

-- a move of a sequence: it may also be to x17 and from there
pub record IsMovable (z : Setting) (m : Move) : Type 0 where
  pub takes : IsUsable z m.from ⊎ (m.from ≡ At (Reg kept_register))
  pub goes : IsPlaceFor z m.to ⊎ (m.to ≡ Reg kept_register)
  pub constant : IsConstantOf m.width m.from

made_movable : (z : Setting) (ms done : List Move) → IsSequenceOf kept_register ms done → All (IsGiven z) ms → All (IsMovable z) done
made_movable z ms done law each =
    all_made (IsMovable z) ms done law (λ m may. record { takes = may.takes; goes = inr refl; constant = may.constant })
    (λ m may. record { takes = inr refl; goes = may.goes; constant = tt })
    (λ k d lt. let given = each k d lt in record { takes = inl given.usable; goes = inl given.place; constant = given.constant })

-- ---- what homes carry

-- a word that carries what stands in a home carries what less can be read of
carries_refined : (up down : Held) (word : ℕ) → Refines up down → Carries down word → Carries up word
unfolding Gives read
carries_refined Empty down word refines carries = tt
carries_refined (Holds W32 held) down word refines carries = reads_carried W32 down word (low_of W32 held) carries (refines W32)
carries_refined (Holds W64 held) down word refines carries = reads_carried W64 down word (low_of W64 held) carries (refines W64)

pub related_refined : (z : Setting) (s t : State) (c : Machine) → IsRelated z s c
    → ((r : Register) → IsAllocatable r → Refines (t.homes (Reg r)) (s.homes (Reg r)))
    → ((n : ℕ) → Refines (t.homes (Spill n)) (s.homes (Spill n))) → t.world ≡ s.world → IsRelated z t c
related_refined z s t c rel registers spills world = record {
  frame = rel.frame;
  registers = λ r may. carries_refined (t.homes (Reg r)) (s.homes (Reg r)) (c.registers.x r.0) (registers r may) (rel.registers r may);
  spills = λ n offset named there.
      let word = rel.spills n offset named there in
      (word.0, word.1, carries_refined (t.homes (Spill n)) (s.homes (Spill n)) word.0 (spills n) word.2);
  memory = ap (λ (w : World). w.memory) world ∙ rel.memory;
}

place_other : (z : Setting) (home : Home) → IsPlaceFor z home → home ≢ Reg kept_register
place_other z (Reg r) may e = kept_other r may.0 e
place_other z (Spill n) may e = absurd cc
place_other z (Tmp n) may e = absurd may

-- ---- homes that are the same but for x17

abbrev AreSame : Homes → Homes → Type 0
AreSame a b = (h : Home) → h ≢ Reg kept_register → a h ≡ b h

word_same : (z : Setting) (a b : Homes) → AreSame a b → (width : Width) (arg : Arg) → IsUsable z arg → word_of a width arg ≡ word_of b width arg
unfolding word_of
word_same z a b same width (At (Reg r)) usable = ap (read width) (same (Reg r) (kept_other r usable))
word_same z a b same width (At (Spill n)) usable = ap (read width) (same (Spill n) (λ e. absurd cc))
word_same z a b same width (At (Tmp n)) usable = absurd usable
word_same z a b same width (Imm word) usable = refl
word_same z a b same width (Addr base offset) usable = absurd usable
word_same z a b same width (Index base index shift) usable = absurd usable
word_same z a b same width (FrameSlot n) usable = absurd usable

words_same : (z : Setting) (a b : Homes) → AreSame a b → (ms : List Move) → All (IsGiven z) ms → words a (pairs ms) ≡ words b (pairs ms)
unfolding words pairs
words_same z a b same [] each = refl
words_same z a b same (m ∷ ms) each =
    ap (λ (o : Option ℕ). and_word m.width o (words a (pairs ms))) (word_same z a b same m.width m.from (All-head (IsGiven z) m ms each).usable)
    ∙ ap (and_word m.width (word_of b m.width m.from)) (words_same z a b same ms (All-tail (IsGiven z) m ms each))

put_same_there : (a b : Homes) (home : Home) (held : Held) → AreSame a b → AreSame (put a home held) (put b home held)
unfolding put
put_same_there a b home held same h other = ap (λ (x : Held). if same_home h home then held else x) (same h other)

put_all_same : (ts : List Target) (ws : List ℕ) (a b : Homes) → AreSame a b → AreSame (put_all ts ws a) (put_all ts ws b)
unfolding put_all
put_all_same [] ws a b same = same
put_all_same (t ∷ ts) ws a b same = put_all_same ts (others ws) _ _ (put_same_there a b t.home _ same)

-- ---- copies of Air

counted : (o : Option ℕ) (rest : Option (List Read)) (width : Width) (ws : List Read) (n : ℕ) → and_word width o rest ≡ Some ws
    → ((vs : List Read) → rest ≡ Some vs → length vs ≡ n) → length ws ≡ suc n
counted None rest width ws n e more = absurd cc
counted (Some x) None width ws n e more = absurd cc
counted (Some x) (Some vs) width ws n e more =
    let is : (width, x) ∷ vs ≡ ws = cc in
    ap (λ (l : List Read). length l) (sym is) ∙ ap suc (more vs refl)

-- as many words are read as are written
words_count : (homes : Homes) (ms : List Move) (ws : List Read) → words homes (pairs ms) ≡ Some ws → length ws ≡ length (targets (pairs ms))
unfolding words pairs targets
words_count homes [] ws e = let none : ws ≡ [] = cc in ap (λ (l : List Read). length l) none
words_count homes (m ∷ ms) ws e =
    counted (word_of homes m.width m.from) (words homes (pairs ms)) m.width ws (length (targets (pairs ms))) e (λ vs there. words_count homes ms vs there)

abbrev written_by : State → List Operand → List Read → State
written_by s os ws = record { homes = put_all (targets os) (map (λ (r : Read). r.1) ws) s.homes; world = s.world }

step_copied : (start : Start) (i : AirInst) (s : State) (ws : List Read) → kind_of i.op ≡ Copies → words s.homes i.operands ≡ Some ws
    → length ws ≡ length (targets i.operands) → (junk : List ℕ) → step (meaning start) i s junk ≡ (Goes None (written_by s i.operands ws), junk)
unfolding step meaning junk_words
step_copied start i s ws kind reads count junk =
    let same = length-map ws (λ (r : Read). r.1) in
    let none : length (targets i.operands) - length (map (λ (r : Read). r.1) ws) ≡ 0 = omega arith in
    rw (reads, kind, none) refl

-- ---- moves one after the other

module _ (z : Setting) (set : IsSet z) (serves : IsFrameOf z.procedure z.frame) where
  -- a state and a machine are related, also in x17
  pub record IsKeptIn (s : State) (c : Machine) : Type 0 where
    pub related : IsRelated z s c
    pub kept : Carries (s.homes (Reg kept_register)) (c.registers.x 17)

  pub record MoveDone (m : Move) (s : State) (c : Machine) (x : ℕ) : Type 0 where
    pub after : Machine
    pub does : Does z c (copy_code z.frame m.width m.from (At m.to)) after
    pub is : IsKeptIn (with_home s m.to (Holds m.width x)) after

  move_to_place : (m : Move) (s : State) (c : Machine) (x : ℕ) → CanTake z s c m.from → IsConstantOf m.width m.from → IsKeptIn s c → IsPlaceFor z m.to
      → word_of s.homes m.width m.from ≡ Some x → MoveDone m s c x
  move_to_place m s c x take constant is place e =
      let f = copied z set serves s c m.width m.from m.to x is.related take constant place e in
      record {
        after = f.after;
        does = f.does;
        is = record {
          related = f.related;
          kept = subst (λ (h : Held). Carries h (f.after.registers.x 17))
              (sym (put-other s.homes m.to (Reg kept_register) (Holds m.width x) (λ same. place_other z m.to place (sym same))))
              (subst (Carries (s.homes (Reg kept_register))) (sym f.keeps) is.kept);
        };
      }

  move_to_kept : (m : Move) (s : State) (c : Machine) (x : ℕ) → CanTake z s c m.from → IsConstantOf m.width m.from → IsKeptIn s c
      → m.to ≡ Reg kept_register → word_of s.homes m.width m.from ≡ Some x → MoveDone m s c x
  move_to_kept m s c x take constant is to e =
      let f = kept z set serves s c m.width m.from x is.related take constant e in
      record {
        after = f.after;
        does = subst (λ (h : Home). Does z c (copy_code z.frame m.width m.from (At h)) f.after) (sym to) f.does;
        is = record {
          related = related_refined z s (with_home s m.to (Holds m.width x)) f.after (keeps_related z s c f.after f.keeps is.related)
              (λ r may. Refines-same _ _ (put-other s.homes m.to (Reg r) (Holds m.width x) (λ same. kept_other r may (same ∙ to))))
              (λ n. Refines-same _ _ (put-other s.homes m.to (Spill n) (Holds m.width x) (λ same. absurd cc))) refl;
          kept = subst (λ (h : Held). Carries h (f.after.registers.x 17)) (sym (put-same s.homes m.to (Reg kept_register) (Holds m.width x) (sym to))) f.is;
        };
      }

  move_done : (m : Move) (s : State) (c : Machine) (x : ℕ) → IsMovable z m → IsKeptIn s c → word_of s.homes m.width m.from ≡ Some x → MoveDone m s c x
  move_done m s c x may is e =
      let take : CanTake z s c m.from =
      ⊎_elim (λ (usable : IsUsable z m.from). inl usable) (λ (from : m.from ≡ At (Reg kept_register)). inr (from, is.kept)) may.takes in
      ⊎_elim (λ (place : IsPlaceFor z m.to). move_to_place m s c x take may.constant is place e)
      (λ (to : m.to ≡ Reg kept_register). move_to_kept m s c x take may.constant is to e) may.goes

  module _ (value : ℕ) (traps : Bool) where
    step_moved : (m : Move) (s : State) (x : ℕ) → word_of s.homes m.width m.from ≡ Some x → (junk : List ℕ)
        → step (meaning z.start) (move_of value traps m) s junk ≡ (Goes None (with_home s m.to (Holds m.width x)), junk)
    unfolding step words targets pairs put_all junk_words meaning
    step_moved m s x e junk = rw e refl

    step_unmoved : (m : Move) (s : State) → word_of s.homes m.width m.from ≡ None → (junk : List ℕ)
        → step (meaning z.start) (move_of value traps m) s junk ≡ (Undefined, junk)
    unfolding step words pairs
    step_unmoved m s e junk = rw e refl

    pub record MovesDone (ms : List Move) (s : State) (c : Machine) : Type 0 where
      pub next : State
      pub after : Machine
      pub steps : (junk : List ℕ) → steps (meaning z.start) (map (move_of value traps) ms) s junk ≡ (Goes None next, junk)
      pub does : Does z c (copies_code z.frame ms) after
      pub is : IsKeptIn next after
      pub world : next.world ≡ s.world

    -- moves of Air are undefined, or their copies do the same
    abbrev pub MovesRun : List Move → State → Machine → Type 0
    MovesRun ms s c = ((junk : List ℕ) → steps (meaning z.start) (map (move_of value traps) ms) s junk ≡ (Undefined, junk)) ⊎ MovesDone ms s c

    moves_run : (ms : List Move) (s : State) (c : Machine) → All (IsMovable z) ms → IsKeptIn s c → MovesRun ms s c
    unfolding steps copies_code
    moves_run [] s c may is = inr (record { next = s; after = c; steps = λ junk. refl; does = does_none z c; is = is; world = refl })
    moves_run (m ∷ ms) s c may is =
        let Rest : State → List ℕ → _ = steps (meaning z.start) (map (move_of value traps) ms) in
        elim (word_of s.homes m.width m.from) as (λ o. word_of s.homes m.width m.from ≡ o → MovesRun (m ∷ ms) s c) [
          | None ↦ λ e. inl (λ junk. ap (go_on (meaning z.start) Rest) (step_unmoved m s e junk))
          | Some x ↦ λ e.
              let one = move_done m s c x (All-head (IsMovable z) m ms may) is e in
              let t : State = with_home s m.to (Holds m.width x) in
              ⊎_elim
              (λ (lost : (junk : List ℕ) → steps (meaning z.start) (map (move_of value traps) ms) t junk ≡ (Undefined, junk)).
              inl (λ junk. ap (go_on (meaning z.start) Rest) (step_moved m s x e junk) ∙ lost junk))
              (λ (rest : MovesDone ms t one.after). inr (record {
                next = rest.next;
                after = rest.after;
                steps = λ junk. ap (go_on (meaning z.start) Rest) (step_moved m s x e junk) ∙ rest.steps junk;
                does = does_both z c one.after rest.after (copy_code z.frame m.width m.from (At m.to)) (copies_code z.frame ms) one.does rest.does;
                is = rest.is;
                world = rest.world;
              }))
              (moves_run ms t one.after (All-tail (IsMovable z) m ms may) one.is)
        ] refl

  -- ---- a Shuffle

  -- moves in order do what a Shuffle does at once
  sequence_runs : (i : AirInst) (s : State) (c : Machine) (ms : List Move) (ws : List Read) → i.op ≡ op.Shuffle → i.operands ≡ pairs ms
      → IsSequenceOf kept_register ms (sequenced kept_register ms) → All (IsGiven z) ms → words s.homes (pairs ms) ≡ Some ws → IsRelated z s c
      → inst_code z.frame i.op i.operands ≡ copies_code z.frame (sequenced kept_register ms) → InstRuns z i s c
  unfolding Alike
  sequence_runs i s c ms ws e operands law each reads rel code =
      let done : List Move = sequenced kept_register ms in
      let first : State = with_home s (Reg kept_register) Empty in
      let same : AreSame first.homes s.homes = λ h other. put-other s.homes (Reg kept_register) h Empty other in
      let reads_first : words first.homes (pairs ms) ≡ Some ws = words_same z first.homes s.homes same ms each ∙ reads in
      let u : State = written_by s (pairs ms) ws in
      let v : State = written_by first (pairs ms) ws in
      let agree : AreSame v.homes u.homes = put_all_same (targets (pairs ms)) (map (λ (r : Read). r.1) ws) first.homes s.homes same in
      let at_once : step (meaning z.start) (shuffle_of i.value i.traps ms) first [] ≡ (Goes None v, []) =
      step_copied z.start (shuffle_of i.value i.traps ms) first ws refl reads_first (words_count first.homes ms ws reads_first) [] in
      let alike : Alike (IsLeftAlike kept_register ms) (Goes None v, []) (steps (meaning z.start) (map (move_of i.value i.traps) done) first []) =
      subst (λ x. Alike (IsLeftAlike kept_register ms) x (steps (meaning z.start) (map (move_of i.value i.traps) done) first [])) at_once
      (law.at_once z.start i.value i.traps first []) in
      let begins : IsKeptIn first c = record {
        related = related_refined z s first c rel (λ r may. Refines-same _ _ (same (Reg r) (kept_other r may)))
            (λ n. Refines-same _ _ (same (Spill n) (λ f. absurd cc))) refl;
        kept = subst (λ (h : Held). Carries h (c.registers.x 17)) (sym (put-same s.homes (Reg kept_register) (Reg kept_register) Empty refl)) tt;
      } in
      ⊎_elim
      (λ (lost : (junk : List ℕ) → steps (meaning z.start) (map (move_of i.value i.traps) done) first junk ≡ (Undefined, junk)).
      absurd (subst (Alike (IsLeftAlike kept_register ms) (Goes None v, [])) (lost []) alike))
      (λ (d : MovesDone i.value i.traps done first c).
      let left = (subst (Alike (IsLeftAlike kept_register ms) (Goes None v, [])) (d.steps []) alike).2 in
      inr (record {
        next = u;
        after = d.after;
        steps = λ junk. step_copied z.start i s ws (ap kind_of e) (ap (words s.homes) operands ∙ reads)
            (words_count s.homes ms ws reads ∙ ap (λ (os : List Operand). length (targets os)) (sym operands)) junk
            ∙ ap (λ (os : List Operand). (Goes None (written_by s os ws), junk)) operands;
        does = subst (λ insts. Does z c insts d.after) (sym code) d.does;
        related = related_refined z d.next u d.after d.is.related
            (λ r may. Refines-at _ _ _ _ (sym (agree (Reg r) (kept_other r may))) refl (left.homes (Reg r) (kept_other r may)))
            (λ n. Refines-at _ _ _ _ (sym (agree (Spill n) (λ f. absurd cc))) refl (left.homes (Spill n) (λ f. absurd cc)))
            (sym d.world);
        world = (refl, refl);
      }))
      (moves_run i.value i.traps done first c (made_movable z ms done law each) begins)

  pub shuffle_runs : (i : AirInst) (s : State) (c : Machine) → i.op ≡ op.Shuffle → All (IsGiven z) (moves_of i.operands) → ArePairs i.operands
      → WritesApart i.operands → IsRelated z s c → inst_code z.frame i.op i.operands ≡ shuffle_code z.frame i.operands → InstRuns z i s c
  shuffle_runs i s c e each are differ rel code =
      let ms : List Move = moves_of i.operands in
      let own : pairs ms ≡ i.operands = own_pairs i.operands are in
      let law = sequence_of ms (orderable i.operands are differ (λ k d lt. place_other z (get_or ms k d).to (each k d lt).place)) in
      elim (words s.homes i.operands) as (λ o. words s.homes i.operands ≡ o → InstRuns z i s c) [
        | None ↦ λ none. inl (step_lost z.start i s none)
        | Some ws ↦ λ reads. sequence_runs i s c ms ws e (sym own) law each (ap (words s.homes) own ∙ reads) rel code
      ] refl
