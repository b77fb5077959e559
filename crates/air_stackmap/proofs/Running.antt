-- The moves of a site leave the word of each child where its operand finds it.
use Rattle.std.proofs.Common.{◌≡◌, ◌≢◌, ◌∙◌, ℕ, ◌^◌, ◌<◌, ◌≤◌, List, [], ◌∷◌, ◌++◌, Option, Some, None, suc, length, refl, sym, ap, subst, arith, cond, All, Bool, true, false}
use Rattle.b3_base.specs.Arithmetic.{low}
use Rattle.b3_base.specs.Word.{bits}
use Rattle.b3_base.specs.declared.word.Width.{Width}
use Rattle.b3_base.specs.declared.word.Width.TheVariants.{W32, W64}
use Rattle.b3_ir.specs.declared.value.Constraint.{Constraint}
use Rattle.b3_ir.specs.declared.value.Reg.{Reg as Register}
use Rattle.b3_ir.specs.declared.value.Stackmap.{Stackmap}
use Rattle.b3_ir.specs.declared.value.Value.{Value}
use Rattle.stackmap.specs.Placing.{register_for}
use Rattle.stackmap.specs.Registers.{constraints_of, is_late, stackmap_in}
use Rattle.stackmap.specs.Rules.{IsPlaceable}
use Rattle.stackmap.proofs.PlacedApart.{places_obey}
use Rattle.air_ir.specs.Expressed.{IsTemporary}
use Rattle.air_ir.specs.Meaning.{Operation}
use Rattle.air_ir.specs.Operands.{Holds, Homes, Read, Target, put, put_all, read, targets, word_of, words}
use Rattle.air_ir.specs.Related.{Copies}
use Rattle.air_ir.specs.Steps.{Meaning, Goes, State, after_reading, carried_out, go_on, junk_words, step, steps}
use Rattle.air_ir.specs.declared.op.AirOp.TheVariants as op
use Rattle.air_ir.specs.declared.operand.Arg.{Arg}
use Rattle.air_ir.specs.declared.operand.Arg.TheVariants.{At}
use Rattle.air_ir.specs.declared.operand.Home.{Home}
use Rattle.air_ir.specs.declared.operand.Home.TheVariants.{Tmp, Reg, Spill}
use Rattle.air_ir.specs.declared.operand.Operand.{Operand}
use Rattle.air_ir.specs.declared.operand.Role.TheVariants.{Use, LateUse}
use Rattle.air_ir.proofs.HomeLaws.{put-other, put-same, read-small}
use Rattle.air_stackmap.specs.Running.{HaveWords, StandsFree, moved_homes, put_in, reads_of}
use Rattle.air_stackmap.specs.SiteCode.{arg_by, arg_of, inst, move_operands, moved, moves_from, place_of, reported, reports_from}
use Rattle.air_stackmap.specs.declared.child.Child.{Child}

-- ---- one word

low_same : (width : Width) (w : ℕ) → w < 2 ^ bits width → low width w ≡ w
low_same W32 w less = omega arith
low_same W64 w less = omega arith

held_again : (width : Width) (w : ℕ) → w < 2 ^ bits width → read width (Holds width w) ≡ Some w
unfolding read
held_again W32 w less = ap (λ (n : ℕ). Some n) (low_same W32 w less)
held_again W64 w less = ap (λ (n : ℕ). Some n) (low_same W64 w less)

low_small : (width : Width) (x : ℕ) → low width x < 2 ^ bits width
low_small W32 x = omega arith
low_small W64 x = omega arith

arg_small : (homes : Homes) (width : Width) (constant : Option ℕ) (h : Home) (w : ℕ) → word_of homes width (arg_by constant h) ≡ Some w → w < 2 ^ bits width
unfolding word_of
arg_small homes width (Some word) h w e = let same : low width word ≡ w = cc in subst (λ (n : ℕ). n < 2 ^ bits width) same (low_small width word)
arg_small homes width None h w e = read-small width (homes h) w e

-- a child that stands free finds its word whatever stands in registers
tmp_not_reg : (h : Home) (reg : Register) → IsTemporary h → h ≢ Reg reg
tmp_not_reg (Tmp n) reg is e = cc
tmp_not_reg (Reg r) reg is e = absurd is
tmp_not_reg (Spill n) reg is e = absurd is

arg_kept : (homes next : Homes) (width : Width) (constant : Option ℕ) (h : Home) → (constant ≡ None → IsTemporary h)
    → ((g : Home) → IsTemporary g → next g ≡ homes g) → word_of next width (arg_by constant h) ≡ word_of homes width (arg_by constant h)
unfolding word_of
arg_kept homes next width (Some word) h free kept = refl
arg_kept homes next width None h free kept = ap (read width) (kept h (free refl))

put_kept : (homes : Homes) (register : Option Register) (width : Width) (w : ℕ) (g : Home) → IsTemporary g → put_in homes register width w g ≡ homes g
put_kept homes (Some reg) width w g is = put-other homes (Reg reg) g (Holds width w) (tmp_not_reg g reg is)
put_kept homes None width w g is = refl

words_kept : (homes next : Homes) (cs : List Child) (ws : List ℕ) → All StandsFree cs → ((g : Home) → IsTemporary g → next g ≡ homes g)
    → HaveWords homes cs ws → HaveWords next cs ws
unfolding HaveWords
words_kept homes next [] [] free kept have = tt
words_kept homes next [] (w ∷ ws) free kept have = absurd have
words_kept homes next (c ∷ cs) [] free kept have = absurd have
words_kept homes next (c ∷ cs) (w ∷ ws) free kept have = (
  arg_kept homes next c.width c.constant c.home (free 0 c (omega arith)) kept ∙ have.0,
  words_kept homes next cs ws (λ i d less. free (suc i) d (omega (arith, less))) kept have.1,
)

-- ---- the moves

abbrev pub operation_of : Value → Operation
operation_of v = record { op = op.Move; value = v.id; traps = false }

reads_move : (homes : Homes) (width : Width) (from : Arg) (reg : Register) (w : ℕ) → word_of homes width from ≡ Some w
    → words homes (move_operands width from reg) ≡ Some ((width, w) ∷ [])
unfolding words
reads_move homes width from reg w e = rw e refl

writes_move : (width : Width) (from : Arg) (reg : Register) → targets (move_operands width from reg) ≡ record { home = Reg reg; width = width } ∷ []
unfolding targets
writes_move width (At home) reg = refl
writes_move width _ reg = refl

carried_move : (s : State) (junk : List ℕ) (reg : Register) (width : Width) (w : ℕ)
    → carried_out s junk (record { home = Reg reg; width = width } ∷ []) (Some (record { results = w ∷ []; world = s.world; exit = None }))
    ≡ (Goes None (record { homes = put s.homes (Reg reg) (Holds width w); world = s.world }), junk)
unfolding junk_words put_all
carried_move s junk reg width w = refl

module _ (mean : Meaning) (v : Value) (copies : Copies mean (operation_of v)) where
  move_step : (s : State) (junk : List ℕ) (c : Child) (reg : Register) (w : ℕ) → word_of s.homes c.width (arg_of c) ≡ Some w
      → step mean (inst v op.Move (move_operands c.width (arg_of c) reg)) s junk
      ≡ (Goes None (record { homes = put s.homes (Reg reg) (Holds c.width w); world = s.world }), junk)
  unfolding step
  move_step s junk c reg w e =
      ap (after_reading mean (inst v op.Move (move_operands c.width (arg_of c) reg)) s junk) (reads_move s.homes c.width (arg_of c) reg w e)
      ∙ ap (λ (ts : List Target). carried_out s junk ts (mean (operation_of v) ((c.width, w) ∷ []) s.world)) (writes_move c.width (arg_of c) reg)
      ∙ ap (carried_out s junk (record { home = Reg reg; width = c.width } ∷ [])) (copies ((c.width, w) ∷ []) s.world)
      ∙ carried_move s junk reg c.width w

  -- one after the other, they put the words into the registers, and nothing else happens
  pub moves_run : (k : ℕ) (cs : List Child) (ws : List ℕ) (s : State) (junk : List ℕ) → All StandsFree cs → HaveWords s.homes cs ws
      → steps mean (moves_from v k cs) s junk ≡ (Goes None (record { homes = moved_homes v k cs ws s.homes; world = s.world }), junk)
  unfolding HaveWords moves_from moved_homes steps
  moves_run k [] [] s junk free have = refl
  moves_run k [] (w ∷ ws) s junk free have = absurd have
  moves_run k (c ∷ cs) [] s junk free have = absurd have
  moves_run k (c ∷ cs) (w ∷ ws) s junk free have =
      by (register_for v k) (λ t t_have. moves_run (suc k) cs ws t junk (λ i d less. free (suc i) d (omega (arith, less))) t_have)
    where
      by : (o : Option Register) → ((t : State) → HaveWords t.homes cs ws → steps mean (moves_from v (suc k) cs) t junk
          ≡ (Goes None (record { homes = moved_homes v (suc k) cs ws t.homes; world = t.world }), junk))
          → steps mean (moved v o c ++ moves_from v (suc k) cs) s junk
          ≡ (Goes None (record { homes = moved_homes v (suc k) cs ws (put_in s.homes o c.width w); world = s.world }), junk)
      by None rest = rest s have.1
      by (Some reg) rest =
          let next : State = record { homes = put s.homes (Reg reg) (Holds c.width w); world = s.world } in
          ap (go_on mean (steps mean (moves_from v (suc k) cs))) (move_step s junk c reg w have.0)
          ∙ rest next (words_kept s.homes next.homes cs ws (λ i d less. free (suc i) d (omega (arith, less)))
          (λ g is. put_kept s.homes (Some reg) c.width w g is) have.1)

-- ---- what the moves leave

module _ (v : Value) where
  -- the temporaries stay
  pub moves_keep : (k : ℕ) (cs : List Child) (ws : List ℕ) (homes : Homes) (g : Home) → IsTemporary g → moved_homes v k cs ws homes g ≡ homes g
  unfolding moved_homes
  moves_keep k [] ws homes g is = refl
  moves_keep k (c ∷ cs) [] homes g is = refl
  moves_keep k (c ∷ cs) (w ∷ ws) homes g is =
      moves_keep (suc k) cs ws (put_in homes (register_for v k) c.width w) g is ∙ put_kept homes (register_for v k) c.width w g is

  -- and so does each register that is given to no child from here on
  register_stays : (k : ℕ) (cs : List Child) (ws : List ℕ) (homes : Homes) (reg : Register)
      → ((j : ℕ) → k ≤ j → register_for v j ≢ Some reg) → moved_homes v k cs ws homes (Reg reg) ≡ homes (Reg reg)
  unfolding moved_homes
  register_stays k [] ws homes reg none = refl
  register_stays k (c ∷ cs) [] homes reg none = refl
  register_stays k (c ∷ cs) (w ∷ ws) homes reg none =
      register_stays (suc k) cs ws (put_in homes (register_for v k) c.width w) reg (λ j more. none j (omega (arith, more)))
      ∙ by (register_for v k) refl
    where
      by : (o : Option Register) → register_for v k ≡ o → put_in homes o c.width w (Reg reg) ≡ homes (Reg reg)
      by None e = refl
      by (Some other) e = put-other homes (Reg other) (Reg reg) (Holds c.width w)
          (λ same. let regs : reg ≡ other = same_reg reg other same in none k (omega arith) (e ∙ ap Some (sym regs)))
        where
          same_reg : (a b : Register) → Reg a ≡ Reg b → a ≡ b
          same_reg a b e = cc

  module _ (once : (j k : ℕ) (reg : Register) → register_for v j ≡ Some reg → register_for v k ≡ Some reg → j ≡ k) where
    register_holds : (k : ℕ) (c : Child) (cs : List Child) (w : ℕ) (ws : List ℕ) (homes : Homes) (reg : Register) → register_for v k ≡ Some reg
        → moved_homes v k (c ∷ cs) (w ∷ ws) homes (Reg reg) ≡ Holds c.width w
    unfolding moved_homes
    register_holds k c cs w ws homes reg is =
        ap (λ (o : Option Register). moved_homes v (suc k) cs ws (put_in homes o c.width w) (Reg reg)) is
        ∙ register_stays (suc k) cs ws (put homes (Reg reg) (Holds c.width w)) reg
        (λ j more there. let same = once j k reg there is in omega (arith, more, same))
        ∙ put-same homes (Reg reg) (Reg reg) (Holds c.width w) refl

    -- a child finds its word where it was placed
    placed_word : (k : ℕ) (c : Child) (cs : List Child) (w : ℕ) (ws : List ℕ) (homes : Homes) → StandsFree c → word_of homes c.width (arg_of c) ≡ Some w
        → word_of (moved_homes v k (c ∷ cs) (w ∷ ws) homes) c.width (place_of (register_for v k) c) ≡ Some w
    unfolding word_of
    placed_word k c cs w ws homes free e = by (register_for v k) refl
      where
        by : (o : Option Register) → register_for v k ≡ o → word_of (moved_homes v k (c ∷ cs) (w ∷ ws) homes) c.width (place_of o c) ≡ Some w
        by None is = arg_kept homes (moved_homes v k (c ∷ cs) (w ∷ ws) homes) c.width c.constant c.home free (λ g t. moves_keep k (c ∷ cs) (w ∷ ws) homes g t)
            ∙ e
        by (Some reg) is =
            ap (read c.width) (register_holds k c cs w ws homes reg is) ∙ held_again c.width w (arg_small homes c.width c.constant c.home w e)

    -- the words that are found at the places of children
    unfoldable AreFound : Homes → ℕ → List Child → List ℕ → Type 0
    AreFound homes k (c ∷ cs) (w ∷ ws) = (word_of homes c.width (place_of (register_for v k) c) ≡ Some w) × AreFound homes (suc k) cs ws
    AreFound homes k [] [] = Unit {0}
    AreFound homes k _ _ = ⊥

    all_found : (k : ℕ) (cs : List Child) (ws : List ℕ) (homes : Homes) → All StandsFree cs → HaveWords homes cs ws
        → AreFound (moved_homes v k cs ws homes) k cs ws
    unfolding AreFound HaveWords moved_homes
    all_found k [] [] homes free have = tt
    all_found k [] (w ∷ ws) homes free have = absurd have
    all_found k (c ∷ cs) [] homes free have = absurd have
    all_found k (c ∷ cs) (w ∷ ws) homes free have =
        let free_rest : All StandsFree cs = λ i d less. free (suc i) d (omega (arith, less)) in (
          placed_word k c cs w ws homes (free 0 c (omega arith)) have.0,
          all_found (suc k) cs ws (put_in homes (register_for v k) c.width w) free_rest
              (words_kept homes (put_in homes (register_for v k) c.width w) cs ws free_rest (λ g is. put_kept homes (register_for v k) c.width w g is) have.1),
        )

    role_reads : (homes : Homes) (b : Bool) (width : Width) (arg : Arg) (os : List Operand) (w : ℕ) (rest : List Read) → word_of homes width arg ≡ Some w
        → words homes os ≡ Some rest → words homes (record { role = cond b LateUse Use; width = width; arg = arg } ∷ os) ≡ Some ((width, w) ∷ rest)
    unfolding words
    role_reads homes true width arg os w rest e f = rw (e, f) refl
    role_reads homes false width arg os w rest e f = rw (e, f) refl

    reports_read : (homes : Homes) (k : ℕ) (wants : List Constraint) (cs : List Child) (ws : List ℕ) → length wants ≡ length cs → AreFound homes k cs ws
        → words homes (reports_from v k wants cs) ≡ Some (reads_of cs ws)
    unfolding AreFound words reports_from reads_of
    reports_read homes k [] [] [] e found = refl
    reports_read homes k [] [] (w ∷ ws) e found = absurd found
    reports_read homes k [] (c ∷ cs) ws e found = absurd (omega (arith, e))
    reports_read homes k (a ∷ wants) [] ws e found = absurd (omega (arith, e))
    reports_read homes k (a ∷ wants) (c ∷ cs) [] e found = absurd found
    reports_read homes k (a ∷ wants) (c ∷ cs) (w ∷ ws) e found =
        role_reads homes (is_late a) c.width (place_of (register_for v k) c) (reports_from v (suc k) wants cs) w (reads_of cs ws) found.0
        (reports_read homes (suc k) wants cs ws (omega (arith, e)) found.1)

  -- what is reported after the moves are the words of the children, in order
  pub reported_words : (map : Stackmap) → stackmap_in v.body ≡ Some map → IsPlaceable v → (cs : List Child) (ws : List ℕ) (homes : Homes)
      → length cs ≡ length (constraints_of v) → All StandsFree cs → HaveWords homes cs ws
      → words (moved_homes v 0 cs ws homes) (reported v cs) ≡ Some (reads_of cs ws)
  reported_words map carries placeable cs ws homes counts free have =
      reports_read (places_obey v map carries placeable).apart (moved_homes v 0 cs ws homes) 0 (constraints_of v) cs ws (sym counts)
      (all_found (places_obey v map carries placeable).apart 0 cs ws homes free have)
