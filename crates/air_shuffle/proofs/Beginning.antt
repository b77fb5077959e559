-- What is left at first, and at last.
use Rattle.std.proofs.Common.{◌≡◌, ◌≢◌, ℕ, ◌+◌, ◌<◌, inl, inr, Bool, true, false, List, [], ◌∷◌, length, All, arith, refl, sym, ap, ◌∙◌, subst}
use Rattle.std.specs.Prelude.{AllPairs, not}
use Rattle.std.specs.List.{count_by}
use Rattle.std.proofs.lemmas.Bool.{cases_order}
use Rattle.std.proofs.lemmas.List.{length-map}
use Rattle.std.proofs.lemmas.List.Elements.{All-cons, All-get_or, All-nil}
use Rattle.std.proofs.lemmas.List.Sums.{sum_by-cons}
use Rattle.b3_ir.specs.declared.value.Reg.{Reg as Register}
use Rattle.air_ir.specs.declared.operand.Home.{Home}
use Rattle.air_ir.specs.declared.operand.Home.TheVariants.{Reg}
use Rattle.air_shuffle.specs.Moves.{GoUp, IsMadeOf, IsSource, Move, is_self, writes}
use Rattle.air_shuffle.specs.Pending.{Going, Has, IsDrawn, one_if, saves}
use Rattle.air_shuffle.specs.Waiting.{AreCounts, IsCounted, AreWriters, IsSequenceable, left_of, move_at, no_move}
use Rattle.air_shuffle.specs.declared.pending.Pending.{Pending}
use Rattle.air_shuffle.proofs.Left.{differ_left, has-contains, others, others-from, others-self, place_of}
use Rattle.air_shuffle.proofs.Steps.{going-first}

pub sequenceable : (ms : List Move) → All (λ (c : Move). IsSource c.from) ms → AllPairs (λ (c d : Move). c.to ≢ d.to) ms → IsSequenceable ms
sequenceable ms sources differ = record {
  sources = λ k lt. All-get_or (λ (c : Move). IsSource c.from) ms k no_move lt sources;
  differ = λ i k lt lt' e. elim (cases_order i k) [
    | inl same ↦ same
    | inr (inl less) ↦ absurd (differ i k no_move less lt' e)
    | inr (inr more) ↦ absurd (differ k i no_move more lt (sym e))
  ];
}

pub apart-at : (scratch : Register) (ms : List Move) → All (λ (c : Move). c.to ≢ Reg scratch) ms → (k : ℕ) → k < length ms → (move_at ms k).to ≢ Reg scratch
apart-at scratch ms apart k lt = All-get_or (λ (c : Move). c.to ≢ Reg scratch) ms k no_move lt apart

-- what Pending::new gives
pub record First (ms : List Move) (p : Pending) : Type 0 where
  pub sound : IsSequenceable ms
  pub apart : (k : ℕ) → k < length ms → (move_at ms k).to ≢ Reg p.scratch
  pub writers : AreWriters ms p.writers
  pub left : p.left.items ≡ others ms
  pub counts : AreCounts ms (left_of ms p.left.items) p.counts.items

pub first-counted : (p : Pending) → First p.moves.items p → IsCounted p
first-counted p f = record {
  many = ap length f.left ∙ length-map p.moves.items (λ (c : Move). not (is_self c));
  sound = f.sound;
  apart = f.apart;
  writers = f.writers;
  counts = f.counts;
}

pub first-going : (scratch : Register) (ms : List Move) → IsSequenceable ms → ((k : ℕ) → k < length ms → (move_at ms k).to ≢ Reg scratch)
    → Going scratch (left_of ms (others ms)) [] (left_of ms (others ms))
first-going scratch ms fine apart =
    going-first scratch (left_of ms (others ms)) (differ_left ms (others ms) fine)
    (λ c has. let r = place_of ms (others ms) c has in λ e. apart r.at r.within (sym (ap (λ (m : Move). m.to) r.is) ∙ e))
    (λ c has. let r = place_of ms (others ms) c has in subst (λ (m : Move). IsSource m.from) (sym r.is) (fine.sources r.at r.within))
    (λ c has. others-self c ms has)

-- ---- numbers of moves

count-cons : (p : Move → Bool) (c : Move) (cs : List Move) → count_by p (c ∷ cs) ≡ one_if (p c) + count_by p cs
count-cons p c cs = sum_by-cons (λ (m : Move). one_if (p m)) c cs

others-by : (c : Move) (cs : List Move) (b : Bool) → b ≡ is_self c → length (left_of cs (others cs)) + count_by is_self cs ≡ length cs
    → length (left_of (c ∷ cs) (not b ∷ others cs)) + count_by is_self (c ∷ cs) ≡ length (c ∷ cs)
unfolding left_of
others-by c cs true e rest = let n = count-cons is_self c cs in let one : one_if (is_self c) ≡ 1 = ap one_if (sym e) in omega arith
others-by c cs false e rest = let n = count-cons is_self c cs in let none : one_if (is_self c) ≡ 0 = ap one_if (sym e) in omega arith

pub count-others : (ms : List Move) → length (left_of ms (others ms)) + count_by is_self ms ≡ length ms
unfolding left_of
count-others [] = refl
count-others (c ∷ cs) = others-by c cs (is_self c) refl (count-others cs)

pub count-saves : (scratch : Register) (done : List Move) → saves scratch done ≡ count_by (writes (Reg scratch)) done
unfolding saves
count-saves scratch [] = refl
count-saves scratch (c ∷ cs) = let n = count-cons (writes (Reg scratch)) c cs in let rest = count-saves scratch cs in omega arith

-- ---- at last

-- nothing is saved where each move goes up
pub straight : (scratch : Register) (ms done : List Move) → Going scratch (left_of ms (others ms)) done [] → (rank : Home → ℕ) → GoUp rank ms → count_by (writes (Reg scratch)) done ≡ 0
straight scratch ms done g rank up =
    sym (count-saves scratch done) ∙ (g.plain rank (λ c has h e. up c (has-contains c ms (others-from c ms has)) (others-self c ms has) h e)).0

-- each move that was done is one of the given ones or a part of it
drawn-made : (scratch : Register) (ms : List Move) (c : Move) → IsDrawn scratch (left_of ms (others ms)) c → IsMadeOf scratch ms c
drawn-made scratch ms c drawn = record { given = drawn.given; has = has-contains drawn.given ms (others-from drawn.given ms drawn.has); is = drawn.is }

pub made : (scratch : Register) (ms done : List Move) → ((c : Move) → Has c done → IsDrawn scratch (left_of ms (others ms)) c) → All (IsMadeOf scratch ms) done
unfolding Has
made scratch ms [] drawn = All-nil (IsMadeOf scratch ms)
made scratch ms (c ∷ done) drawn =
    All-cons (IsMadeOf scratch ms) c done (drawn-made scratch ms c (drawn c (inl refl))) (made scratch ms done (λ d has. drawn d (inr has)))

-- and none is from a home to itself
pub no_self : (done : List Move) → ((c : Move) → Has c done → is_self c ≡ false) → count_by is_self done ≡ 0
unfolding Has
no_self [] goes = refl
no_self (c ∷ done) goes =
    let rest = no_self done (λ d has. goes d (inr has)) in
    let n = count-cons is_self c done in
    let none : one_if (is_self c) ≡ 0 = ap one_if (goes c (inl refl)) in
    omega arith
