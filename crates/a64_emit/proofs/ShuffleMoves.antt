-- The moves of a Shuffle, and what is known of them once they are in order.
use Rattle.std.proofs.Math.ListN.{drop_of_length-le}
use Rattle.std.proofs.Common.{◌≡◌, ◌≢◌, ℕ, zero, suc, ◌+◌, ◌*◌, ◌/◌, ◌<◌, ◌≤◌, ◌⊎◌, ⊎_elim, List, [], ◌∷◌, ◌++◌, map, length, drop, get_or, Some, refl, sym, ap, ◌∙◌, subst, arith, length-append, length-drop, append_assoc, append-nil}
use Rattle.std.specs.Prelude.{All, AllPairs, true, false, nat_eq, if◌then◌else◌, slice_get}
use Rattle.std.proofs.lemmas.List.{get_or-map, length-map, map-append}
use Rattle.std.proofs.lemmas.List.Elements.{All-contains, All-cons, All-head, All-nil, All-tail}
use Rattle.b3_base.proofs.Lists.{drop_suc}
use Rattle.b3_base.specs.declared.word.Width.{Width}
use Rattle.b3_ir.specs.declared.value.Reg.{Reg as Register}
use Rattle.stackmap.specs.Rules.{IsAllocatable}
use Rattle.a64_inst.specs.declared.inst.Inst.{Inst}
use Rattle.a64_inst.specs.declared.item.Item.{Item}
use Rattle.a64_inst.specs.declared.item.Item.TheVariants.{Plain}
use Rattle.air_ir.specs.Forms.{AllFit, AnyWord, ArePairs, Immediates, IsHome, IsWord, WritesApart}
use Rattle.air_ir.specs.Operands.{Target, targets}
use Rattle.air_ir.specs.WellFormed.{NamesOwn}
use Rattle.air_ir.specs.declared.frame.Frame.{Frame}
use Rattle.air_ir.specs.declared.operand.Arg.{Arg}
use Rattle.air_ir.specs.declared.operand.Arg.TheVariants.{At, Imm, Addr, Index, FrameSlot}
use Rattle.air_ir.specs.declared.operand.Home.{Home}
use Rattle.air_ir.specs.declared.operand.Home.TheVariants.{Reg, Spill, Tmp}
use Rattle.air_ir.specs.declared.operand.Operand.{Operand}
use Rattle.air_ir.specs.declared.operand.Role.{Role}
use Rattle.air_ir.specs.declared.operand.Role.TheVariants.{Def, Use}
use Rattle.air_ir.specs.declared.procedure.AirProc.{AirProc}
use Rattle.air_shuffle.specs.Moves.{IsMadeOf, IsSource, from_scratch, pairs, saved}
use Rattle.air_shuffle.specs.Sequenced.{Choice, Does, Saves, Ends, IsSequenceOf, carried_out, choice, ordered, sequenced}
use Rattle.air_shuffle.specs.declared.moves.Move.{Move}
use Rattle.air_shuffle.proofs.Sequenced.{sequences_right}
use Rattle.a64_code.specs.Computing.{move_reg}
use Rattle.a64_code.specs.Places.{above_sp, plains, spill_offset}
use Rattle.a64_emit.specs.Code.{bring, copies_code, copy_code, copy_reg, home_of, kept_register, moves_of, put_result, shuffle_code}
use Rattle.a64_emit.specs.Fitting.{AreOrderable}
use Rattle.a64_emit.proofs.Computes.{scratch_17}
use Rattle.a64_emit.proofs.Fetching.{allocatable_other}
use Rattle.a64_emit.proofs.Sizes.{constant_most, load_most, put_most}
use Rattle.a64_emit.proofs.Storing.{same_number}

-- ---- a sequence

pub sequence_of : (ms : List Move) → AreOrderable ms → IsSequenceOf kept_register ms (sequenced kept_register ms)
sequence_of ms may = sequences_right kept_register ms may.sources may.differ may.apart

-- what holds of each move that is given, and goes on to its two parts, holds of each move in order
pub all_made : (P : Move → Type 0) (ms done : List Move) → IsSequenceOf kept_register ms done → ((m : Move) → P m → P (saved kept_register m))
    → ((m : Move) → P m → P (from_scratch kept_register m)) → All P ms → All P done
all_made P ms done law saves takes each k d lt =
    let m : Move = get_or done k d in
    let made : IsMadeOf kept_register ms m = law.made k d lt in
    let g : Move = made.given in
    let given : P g = All-contains P ms g each made.has in
    ⊎_elim (λ (same : m ≡ g). subst P (sym same) given)
    (λ (part : (m ≡ saved kept_register g) ⊎ (m ≡ from_scratch kept_register g)).
    ⊎_elim (λ (same : m ≡ saved kept_register g). subst P (sym same) (saves g given))
    (λ (same : m ≡ from_scratch kept_register g). subst P (sym same) (takes g given)) part)
    made.is

-- ---- the moves of a Shuffle

same_operand : (o : Operand) (role : Role) (width : Width) (arg : Arg) → o.role ≡ role → o.width ≡ width → o.arg ≡ arg
    → record { role = role; width = width; arg = arg } ≡ o
same_operand o role width arg e f g = rw (← e, ← f, ← g) refl

own_home : (arg : Arg) → IsHome arg → arg ≡ At (home_of arg)
own_home (At home) is = refl
own_home (Imm word) is = absurd is
own_home (Addr base offset) is = absurd is
own_home (Index base index shift) is = absurd is
own_home (FrameSlot n) is = absurd is

pub own_pairs : (os : List Operand) → ArePairs os → pairs (moves_of os) ≡ os
unfolding pairs moves_of ArePairs AllFit
own_pairs [] are = refl
own_pairs (o ∷ []) are = absurd are
own_pairs (from ∷ to ∷ os) are =
    let a = are.1.0 in
    let d = are.1.1.0 in
    ap (λ (o : Operand). o ∷ record { role = Def; width = from.width; arg = At (home_of to.arg) } ∷ pairs (moves_of os))
    (same_operand from Use from.width from.arg a.0 refl refl)
    ∙ ap (λ (o : Operand). from ∷ o ∷ pairs (moves_of os)) (same_operand to Def from.width (At (home_of to.arg)) d.0 (d.1 ∙ sym a.1) (own_home to.arg d.2))
    ∙ ap (λ (l : List Operand). from ∷ to ∷ l) (own_pairs os are.2)

word_source : (immediates : Immediates) (width : Width) (arg : Arg) → IsWord immediates width arg → IsSource arg
word_source immediates width (At home) is = tt
word_source immediates width (Imm word) is = tt
word_source immediates width (Addr base offset) is = absurd is
word_source immediates width (Index base index shift) is = absurd is
word_source immediates width (FrameSlot n) is = absurd is

sources_of : (os : List Operand) → ArePairs os → All (λ (m : Move). IsSource m.from) (moves_of os)
unfolding moves_of ArePairs AllFit
sources_of [] are = All-nil (λ (m : Move). IsSource m.from)
sources_of (o ∷ []) are = absurd are
sources_of (from ∷ to ∷ os) are =
    All-cons (λ (m : Move). IsSource m.from) _ (moves_of os) (word_source AnyWord are.0 from.arg are.1.0.2) (sources_of os are.2)

abbrev target_of : Move → Target
target_of m = record { home = m.to; width = m.width }

targets_are : (ms : List Move) → targets (pairs ms) ≡ map target_of ms
unfolding targets pairs
targets_are [] = refl
targets_are (m ∷ ms) = ap (λ (l : List Target). target_of m ∷ l) (targets_are ms)

differ_of : (ms : List Move) → AllPairs (λ (a b : Target). a.home ≢ b.home) (map target_of ms) → AllPairs (λ (m n : Move). m.to ≢ n.to) ms
differ_of ms apart i j d lt within =
    let long = length-map ms target_of in
    let first = get_or-map target_of ms i d (target_of d) (omega arith) in
    let second = get_or-map target_of ms j d (target_of d) within in
    let differ = apart i j (target_of d) lt (omega arith) in
    λ same. differ (ap (λ (t : Target). t.home) first ∙ same ∙ sym (ap (λ (t : Target). t.home) second))

-- values don't stand in x17
pub kept_other : (r : Register) → IsAllocatable r → Reg r ≢ Reg kept_register
kept_other r may e = allocatable_other r 17 may scratch_17 (same_number r kept_register e)

named_other : (p : AirProc) (arg : Arg) → NamesOwn p Def arg → home_of arg ≢ Reg kept_register
named_other p (At (Reg r)) named e = kept_other r named e
named_other p (At (Spill n)) named e = absurd cc
named_other p (At (Tmp n)) named e = absurd cc
named_other p (Imm word) named e = absurd cc
named_other p (Addr base offset) named e = absurd cc
named_other p (Index base index shift) named e = absurd cc
named_other p (FrameSlot n) named e = absurd cc

apart_of : (p : AirProc) (os : List Operand) → ArePairs os → All (λ (o : Operand). NamesOwn p o.role o.arg) os
    → All (λ (m : Move). m.to ≢ Reg kept_register) (moves_of os)
unfolding moves_of ArePairs AllFit
apart_of p [] are named = All-nil (λ (m : Move). m.to ≢ Reg kept_register)
apart_of p (o ∷ []) are named = absurd are
apart_of p (from ∷ to ∷ os) are named =
    let Names : Operand → Type 0 = λ o. NamesOwn p o.role o.arg in
    let more = All-tail Names from (to ∷ os) named in
    All-cons (λ (m : Move). m.to ≢ Reg kept_register) _ (moves_of os)
    (named_other p to.arg (subst (λ role. NamesOwn p role to.arg) are.1.1.0.0 (All-head Names to os more)))
    (apart_of p os are.2 (All-tail Names to os more))

pub orderable : (os : List Operand) → ArePairs os → WritesApart os → All (λ (m : Move). m.to ≢ Reg kept_register) (moves_of os)
    → AreOrderable (moves_of os)
orderable os are differ apart = record {
  sources = sources_of os are;
  differ = differ_of (moves_of os)
      (subst (AllPairs (λ (a b : Target). a.home ≢ b.home)) (ap targets (sym (own_pairs os are)) ∙ targets_are (moves_of os)) differ);
  apart = apart;
}

pub shuffle_fits : (p : AirProc) (os : List Operand) → ArePairs os → WritesApart os → All (λ (o : Operand). NamesOwn p o.role o.arg) os
    → AreOrderable (moves_of os)
shuffle_fits p os are differ named = orderable os are differ (apart_of p os are named)

-- ---- how many words

carried_most : (n : ℕ) (more : Arg → List Move → List Move) → ((last : Arg) (pending : List Move) → length (more last pending) ≤ n) → (c : Choice)
    → length (carried_out kept_register more c) ≤ suc n
carried_most n more most (Does m rest) = let le = most m.from rest in omega arith
carried_most n more most (Saves m rest) = let le = most m.from (from_scratch kept_register m ∷ rest) in omega arith
carried_most n more most Ends = omega arith

-- no more moves than this number
ordered_most : (n : ℕ) (last : Arg) (pending : List Move) → length (ordered n kept_register last pending) ≤ n
unfolding ordered
ordered_most zero last pending = omega arith
ordered_most (suc n) last pending = carried_most n (ordered n kept_register) (ordered_most n) (choice last pending)

moves_count : (os : List Operand) → 2 * length (moves_of os) ≤ length os
unfolding moves_of
moves_count [] = omega arith
moves_count (o ∷ []) = omega arith
moves_count (from ∷ to ∷ os) = let more = moves_count os in omega arith

module _ (f : Frame) where
  bring_four : (width : Width) (reg : ℕ) (arg : Arg) → length (bring f width reg arg) ≤ 4
  unfolding bring
  bring_four width reg (At (Reg from)) = elim (nat_eq reg from.0) as (λ b. length (if b then [] else move_reg width reg from.0 ∷ []) ≤ 4) [
    | true ↦ omega arith
    | false ↦ omega arith
  ]
  bring_four width reg (At (Spill n)) = let most = load_most reg (above_sp f (spill_offset f n)) in omega arith
  bring_four width reg (At (Tmp n)) = omega arith
  bring_four width reg (Imm word) = constant_most width reg word
  bring_four width reg (Addr base offset) = omega arith
  bring_four width reg (Index base index shift) = omega arith
  bring_four width reg (FrameSlot n) = omega arith

  put_two : (reg : ℕ) (home : Home) → length (put_result f reg (At home)) ≤ 2
  put_two reg (Reg r) = let most = put_most f reg (At (Reg r)) in omega arith
  put_two reg (Spill n) = put_most f reg (At (Spill n))
  put_two reg (Tmp n) = let most = put_most f reg (At (Tmp n)) in omega arith

  copy_six : (width : Width) (from : Arg) (home : Home) → length (copy_code f width from (At home)) ≤ 6
  copy_six width from home =
      let reg : ℕ = copy_reg from (At home) in
      let first = bring_four width reg from in
      let last = put_two reg home in
      let both = length-append (bring f width reg from) (put_result f reg (At home)) in
      omega arith

  copies_most : (ms : List Move) → length (copies_code f ms) ≤ 6 * length ms
  unfolding copies_code
  copies_most [] = omega arith
  copies_most (m ∷ ms) =
      let here = copy_six m.width m.from m.to in
      let more = copies_most ms in
      let both = length-append (copy_code f m.width m.from (At m.to)) (copies_code f ms) in
      omega arith

  -- each pair is at most two moves of six words
  pub shuffle_most : (os : List Operand) → length (shuffle_code f os) ≤ 6 * length os
  shuffle_most os =
      let done : List Move = sequenced kept_register (moves_of os) in
      let words = copies_most done in
      let moves : length done ≤ 2 * length (moves_of os) = ordered_most (2 * length (moves_of os)) (Imm 0) _ in
      let few = moves_count os in
      omega arith

-- ---- pushing

two_more : (os : List Operand) (k : ℕ) (from to : Operand) → slice_get os (2 * k) ≡ Some from → slice_get os (2 * k + 1) ≡ Some to
    → drop (2 * k) os ≡ from ∷ to ∷ drop (2 * (k + 1)) os
two_more os k from to first second =
    let one : suc (2 * k) ≡ 2 * k + 1 = omega arith in
    let two : suc (2 * k + 1) ≡ 2 * (k + 1) = omega arith in
    drop_suc os (2 * k) from first
    ∙ ap (λ xs. from ∷ xs) (ap (λ j. drop j os) one ∙ drop_suc os (2 * k + 1) to second ∙ ap (λ j. to ∷ drop j os) two)

pub move_added : (os : List Operand) (k : ℕ) (from to : Operand) (home : Home) (moves new : List Move) → slice_get os (2 * k) ≡ Some from
    → slice_get os (2 * k + 1) ≡ Some to → home ≡ home_of to.arg → moves ++ moves_of (drop (2 * k) os) ≡ moves_of os
    → new ≡ moves ++ record { from = from.arg; to = home; width = from.width } ∷ [] → new ++ moves_of (drop (2 * (k + 1)) os) ≡ moves_of os
unfolding moves_of
move_added os k from to home moves new first second is so_far e =
    let rest : List Move = moves_of (drop (2 * (k + 1)) os) in
    ap (λ (l : List Move). l ++ rest) e
    ∙ append_assoc moves (record { from = from.arg; to = home; width = from.width } ∷ []) rest
    ∙ ap (λ (h : Home). moves ++ record { from = from.arg; to = h; width = from.width } ∷ rest) is
    ∙ ap (λ (l : List Operand). moves ++ moves_of l) (sym (two_more os k from to first second)) ∙ so_far

no_moves : (os : List Operand) → length os < 2 → moves_of os ≡ []
unfolding moves_of
no_moves [] lt = refl
no_moves (o ∷ []) lt = refl
no_moves (from ∷ to ∷ os) lt = absurd (omega arith)

pub moves_added : (os : List Operand) (k : ℕ) (moves : List Move) → length os / 2 ≤ k → moves ++ moves_of (drop (2 * k) os) ≡ moves_of os
    → moves ≡ moves_of os
moves_added os k moves le so_far =
    let short : length (drop (2 * k) os) < 2 = omega (arith, length-drop (2 * k) os) in
    sym (append-nil moves) ∙ ap (λ (l : List Move). moves ++ l) (sym (no_moves (drop (2 * k) os) short)) ∙ so_far

-- the code of one move more
pub copy_added : (f : Frame) (ms : List Move) (k : ℕ) (m : Move) (start code new : List Item) → slice_get ms k ≡ Some m
    → code ++ plains (copies_code f (drop k ms)) ≡ start ++ plains (copies_code f ms)
    → new ≡ code ++ plains (copy_code f m.width m.from (At m.to))
    → new ++ plains (copies_code f (drop (k + 1) ms)) ≡ start ++ plains (copies_code f ms)
unfolding copies_code
copy_added f ms k m start code new there so_far e =
    let one : suc k ≡ k + 1 = omega arith in
    let here : List Inst = copy_code f m.width m.from (At m.to) in
    let rest : List Inst = copies_code f (drop (k + 1) ms) in
    let next : drop k ms ≡ m ∷ drop (k + 1) ms = drop_suc ms k m there ∙ ap (λ j. m ∷ drop j ms) one in
    ap (λ (l : List Item). l ++ plains rest) e
    ∙ append_assoc code (plains here) (plains rest)
    ∙ ap (λ (l : List Item). code ++ l) (sym (map-append Plain here rest))
    ∙ ap (λ (l : List Move). code ++ plains (copies_code f l)) (sym next) ∙ so_far

pub copies_added : (f : Frame) (ms : List Move) (k : ℕ) (start code : List Item) → length ms ≤ k
    → code ++ plains (copies_code f (drop k ms)) ≡ start ++ plains (copies_code f ms) → code ≡ start ++ plains (copies_code f ms)
unfolding copies_code
copies_added f ms k start code le so_far =
    let none : drop k ms ≡ [] = drop_of_length-le ms le in
    sym (append-nil code) ∙ ap (λ (l : List Move). code ++ plains (copies_code f l)) (sym none) ∙ so_far
