-- Moves in order do what moves do at once.
use Rattle.std.proofs.Common.{◌≡◌, ℕ, zero, suc, ◌+◌, ◌*◌, ◌≤◌, ◌<◌, inl, inr, Bool, true, false, if◌then◌else◌, List, [], ◌∷◌, ◌++◌, length, Option, Some, None, arith, refl, sym, ap, ◌∙◌, subst, append_assoc, append-nil}
use Rattle.std.specs.List.{count_by}
use Rattle.std.proofs.lemmas.Bool.{cases_Bool}
use Rattle.std.proofs.lemmas.Bool.Decides.{nat_tests}
use Rattle.b3_base.proofs.Booleans.{and_second}
use Rattle.b3_ir.specs.declared.value.Reg.{Reg as Register}
use Rattle.air_ir.specs.declared.operand.Home.TheVariants.{Reg}
use Rattle.air_ir.specs.declared.operand.Arg.{Arg}
use Rattle.air_ir.specs.declared.operand.Arg.TheVariants.{Imm}
use Rattle.air_ir.proofs.HomeLaws.{same_home-refl}
use Rattle.air_shuffle.specs.Moves.{Move, from_scratch, reads, saved, writes}
use Rattle.air_shuffle.specs.Pending.{Going, Has, cost, costs, one_if, readers, saves}
use Rattle.air_shuffle.specs.Sequenced.{Choice, Does, Saves, Ends, SequencesAreRight, carried_out, choice, chosen, first_that, is_free, is_next, ordered, others_than, saves_first, sequenced}
use Rattle.air_shuffle.specs.Waiting.{left_of}
use Rattle.air_shuffle.proofs.Beginning.{apart-at, count-others, count-saves, first-going, made, no_self, sequenceable, straight}
use Rattle.air_shuffle.proofs.Left.{differ-at, has-contains, others, without_self}
use Rattle.air_shuffle.proofs.Shuffles.{do_at_once}
use Rattle.air_shuffle.proofs.Steps.{AreBlocked, blocked-unread, costs-one, going-last, going-move, going-saved, readers-one}

-- ---- the first that passes a test

record Parts (test : Move → Bool) (cs : List Move) (c : Move) : Type 0 where
  before : List Move
  behind : List Move
  whole : cs ≡ before ++ c ∷ behind
  rest : others_than test cs ≡ before ++ behind
  passes : test c ≡ true

parts_later : (test : Move → Bool) (d c : Move) (cs : List Move) → test d ≡ false → Parts test cs c → Parts test (d ∷ cs) c
unfolding others_than
parts_later test d c cs fails p = record {
  before = d ∷ p.before;
  behind = p.behind;
  whole = ap (λ (l : List Move). d ∷ l) p.whole;
  rest = rw fails (ap (λ (l : List Move). d ∷ l) p.rest);
  passes = p.passes;
}

parts_of : (test : Move → Bool) (cs : List Move) (c : Move) → first_that test cs ≡ Some c → Parts test cs c
unfolding first_that others_than
parts_of test [] c e = absurd cc
parts_of test (d ∷ cs) c e = elim (cases_Bool (test d)) [
  | inl t ↦
      let same : d ≡ c = let f : Some d ≡ Some c = rw t at e in cc in
      record { before = []; behind = cs; whole = ap (λ (x : Move). x ∷ cs) same; rest = rw t refl; passes = ap test (sym same) ∙ t }
  | inr f ↦ parts_later test d c cs f (parts_of test cs c (rw f at e))
]

none_passes : (test : Move → Bool) (cs : List Move) → first_that test cs ≡ None → (d : Move) → Has d cs → test d ≡ false
unfolding first_that Has
none_passes test [] e d h = absurd h
none_passes test (c ∷ cs) e d h = elim (cases_Bool (test c)) [
  | inl t ↦ let f : Some c ≡ None = rw t at e in absurd cc
  | inr f ↦ elim h [ inl is ↦ ap test is ∙ f | inr there ↦ none_passes test cs (rw f at e) d there ]
]

-- ---- what is done next

free_is : (pending : List Move) (c : Move) → is_free pending c ≡ true → readers c.to pending ≡ 0
free_is pending c e = grind (arith, nat_tests)

pub some_reads : (pending : List Move) (c : Move) → is_free pending c ≡ false → 0 < readers c.to pending
some_reads pending c e = grind (arith, nat_tests)

-- a move whose destination isn't read; or the first move, where each destination is read; or none is left
data IsChoice (pending : List Move) : Choice → Type 0 where
  DoesOne : (before behind : List Move) (c : Move) → pending ≡ before ++ c ∷ behind → readers c.to pending ≡ 0 → IsChoice pending (Does c (before ++ behind))
  SavesOne : (c : Move) (cs : List Move) → pending ≡ c ∷ cs → AreBlocked pending → IsChoice pending (Saves c cs)
  EndsThere : pending ≡ [] → IsChoice pending Ends

does_it : (pending : List Move) (test : Move → Bool) (c : Move) → ((d : Move) → test d ≡ true → is_free pending d ≡ true) → Parts test pending c
    → IsChoice pending (Does c (others_than test pending))
does_it pending test c frees p =
    subst (λ (rest : List Move). IsChoice pending (Does c rest)) (sym p.rest)
    (DoesOne p.before p.behind c p.whole (free_is pending c (frees c p.passes)))

chosen_is : (pending : List Move) (test : Move → Bool) (other : Choice) (o : Option Move) → first_that test pending ≡ o
    → ((d : Move) → test d ≡ true → is_free pending d ≡ true) → (o ≡ None → IsChoice pending other) → IsChoice pending (chosen o test pending other)
chosen_is pending test other (Some c) e frees rest = does_it pending test c frees (parts_of test pending c e)
chosen_is pending test other None e frees rest = rest refl

saving : (pending all : List Move) → all ≡ pending → AreBlocked all → IsChoice all (saves_first pending)
saving [] all e blocked = EndsThere e
saving (c ∷ cs) all e blocked = SavesOne c cs e blocked

choice_is : (last : Arg) (pending : List Move) → IsChoice pending (choice last pending)
choice_is last pending =
    chosen_is pending (is_next pending last) _ (first_that (is_next pending last) pending) refl
    (λ d e. and_second (reads d.to last) (is_free pending d) e)
    (λ none. chosen_is pending (is_free pending) _ (first_that (is_free pending) pending) refl (λ d e. e)
    (λ none. saving pending pending refl (λ d h. some_reads pending d (none_passes (is_free pending) pending none d h))))

-- ---- all of it

pub cost-one : (scratch : Register) (c : Move) → 1 ≤ cost scratch c
cost-one scratch c = elim (cases_Bool (reads (Reg scratch) c.from)) [ inl t ↦ rw t (omega arith) | inr f ↦ rw f (omega arith) ]

pub costs_none : (scratch : Register) (cs : List Move) → costs scratch cs ≤ 0 → cs ≡ []
unfolding costs
costs_none scratch [] le = refl
costs_none scratch (c ∷ cs) le = let one = cost-one scratch c in absurd (omega arith)

module _ (scratch : Register) (whole : List Move) where
  -- those that are done, and those that come in order
  abbrev Completes : ℕ → Type 0
  Completes n = (last : Arg) (done pending : List Move) → Going scratch whole done pending → costs scratch pending ≤ n
      → Going scratch whole (done ++ ordered n scratch last pending) []

  one_more : (done more : List Move) (c : Move) → Going scratch whole ((done ++ c ∷ []) ++ more) [] → Going scratch whole (done ++ c ∷ more) []
  one_more done more c g = subst (λ (l : List Move). Going scratch whole l []) (append_assoc done (c ∷ []) more) g

  carries : (n : ℕ) → Completes n → (done pending : List Move) → Going scratch whole done pending → costs scratch pending ≤ suc n → (k : Choice)
      → IsChoice pending k → Going scratch whole (done ++ carried_out scratch (ordered n scratch) k) []
  unfolding costs Has
  carries n rest done pending g le k (DoesOne before behind c split none) =
      let one = cost-one scratch c in
      let all : costs scratch pending ≡ cost scratch c + costs scratch (before ++ behind) = ap (costs scratch) split ∙ costs-one scratch before behind c in
      let count : readers c.to pending ≡ one_if (reads c.to c.from) + readers c.to (before ++ behind) =
      ap (readers c.to) split ∙ readers-one c.to before behind c in
      one_more done (ordered n scratch c.from (before ++ behind)) c
      (rest c.from (done ++ c ∷ []) (before ++ behind)
      (going-move scratch whole done before behind c (omega arith) (subst (Going scratch whole done) split g)) (omega arith))
  carries n rest done pending g le k (SavesOne c cs split blocked) =
      let there : Going scratch whole done (c ∷ cs) = subst (Going scratch whole done) split g in
      let all : AreBlocked (c ∷ cs) = subst AreBlocked split blocked in
      let unread : reads (Reg scratch) c.from ≡ false = blocked-unread scratch (c ∷ cs) there.differ there.apart all c (inl refl) in
      let two : cost scratch c ≡ 2 = ap (λ (b : Bool). if b then 1 else 2) unread in
      let one : cost scratch (from_scratch scratch c) ≡ 1 = ap (λ (b : Bool). if b then 1 else 2) (same_home-refl (Reg scratch)) in
      let sum : costs scratch pending ≡ cost scratch c + costs scratch cs = ap (costs scratch) split in
      one_more done (ordered n scratch c.from (from_scratch scratch c ∷ cs)) (saved scratch c)
      (rest c.from (done ++ saved scratch c ∷ []) (from_scratch scratch c ∷ cs) (going-saved scratch whole done [] cs c all there) (omega arith))
  carries n rest done pending g le k (EndsThere none) =
      subst (λ (l : List Move). Going scratch whole l []) (sym (append-nil done)) (subst (Going scratch whole done) none g)

  completes : (n : ℕ) → Completes n
  unfolding ordered
  completes zero last done pending g le =
      subst (λ (l : List Move). Going scratch whole l []) (sym (append-nil done)) (subst (Going scratch whole done) (costs_none scratch pending le) g)
  completes (suc n) last done pending g le = carries n (completes n) done pending g le (choice last pending) (choice_is last pending)

pub length-least : (scratch : Register) (whole pending : List Move) (n : ℕ) → Going scratch whole [] pending → 2 * length whole ≤ n → costs scratch pending ≤ n
length-least scratch whole pending n g le = let b = g.bound in omega arith

pub sequences_right : SequencesAreRight
sequences_right scratch ms sources differ apart =
    let whole : List Move = left_of ms (others ms) in
    let done : List Move = sequenced scratch ms in
    let sound = sequenceable ms sources differ in
    let first : Going scratch whole [] whole = first-going scratch ms sound (apart-at scratch ms apart) in
    let count = count-others ms in
    let g : Going scratch whole done [] = completes scratch whole (2 * length ms) (Imm 0) [] whole first
    (length-least scratch whole whole (2 * length ms) first (omega arith)) in
    let last = going-last scratch whole done g in
    let bound = last.1 in
    let sums = g.made in
    let saves_are : saves scratch done ≡ count_by (writes (Reg scratch)) done = count-saves scratch done in
    record {
      at_once = do_at_once scratch ms whole (without_self ms) done (differ-at ms sound.differ) (λ c has. has-contains c ms has) last.0
          (λ t ready. (g.runs t ready).0);
      made = made scratch ms done (λ d has. g.drawn d has);
      no_self = no_self done (λ d has. (g.drawn d has).goes);
      lengths = omega (arith, sums, count, saves_are);
      straight = straight scratch ms done g;
      few = omega (arith, bound, count);
    }
