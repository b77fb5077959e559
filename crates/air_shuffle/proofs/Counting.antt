-- The first counts.
use Rattle.std.proofs.Common.{◌≡◌, ℕ, zero, suc, ◌+◌, ◌<◌, ◌≤◌, Bool, true, false, Option, List, [], ◌∷◌, ◌++◌, length, take, replicate, arith, refl, sym, ap, ◌∙◌}
use Rattle.std.specs.Prelude.{slice_index_or}
use Rattle.std.proofs.lemmas.Bool.{false≢true}
use Rattle.std.proofs.lemmas.List.{get_or-replicate}
use Rattle.air_ir.specs.declared.operand.Home.{Home}
use Rattle.air_ir.specs.declared.operand.Arg.{Arg}
use Rattle.air_shuffle.specs.Moves.{Move, reads}
use Rattle.air_shuffle.specs.Pending.{one_if, readers}
use Rattle.air_shuffle.specs.Waiting.{AreCounts, IsSequenceable, count_at, left_of, move_at, raised}
use Rattle.air_shuffle.proofs.Releasing.{WriterIs, counts-more}

-- ---- counts, move by move

pub left-none : (ms : List Move) → left_of ms [] ≡ []
unfolding left_of
left-none [] = refl
left-none (c ∷ ms) = refl

take-none : (i : ℕ) → take {A = Bool} i [] ≡ []
take-none zero = refl
take-none (suc i) = refl

left-yes : (ms : List Move) (ls : List Bool) (i : ℕ) → i < length ms → slice_index_or ls i false ≡ true → left_of ms (take (suc i) ls) ≡ left_of ms (take i ls) ++ move_at ms i ∷ []
unfolding left_of
left-yes [] ls i lt t = absurd (omega arith)
left-yes (c ∷ ms) [] i lt t = absurd (false≢true t)
left-yes (c ∷ ms) (true ∷ ls) zero lt t = ap (λ (l : List Move). c ∷ l) (left-none ms)
left-yes (c ∷ ms) (false ∷ ls) zero lt t = absurd (false≢true t)
left-yes (c ∷ ms) (true ∷ ls) (suc i) lt t = ap (λ (l : List Move). c ∷ l) (left-yes ms ls i (omega arith) t)
left-yes (c ∷ ms) (false ∷ ls) (suc i) lt t = left-yes ms ls i (omega arith) t

left-no : (ms : List Move) (ls : List Bool) (i : ℕ) → slice_index_or ls i false ≡ false → left_of ms (take (suc i) ls) ≡ left_of ms (take i ls)
unfolding left_of
left-no [] ls i f = refl
left-no (c ∷ ms) [] i f = ap (left_of (c ∷ ms)) (sym (take-none i))
left-no (c ∷ ms) (true ∷ ls) zero f = absurd (false≢true (sym f))
left-no (c ∷ ms) (false ∷ ls) zero f = left-none ms
left-no (c ∷ ms) (true ∷ ls) (suc i) f = ap (λ (l : List Move). c ∷ l) (left-no ms ls i f)
left-no (c ∷ ms) (false ∷ ls) (suc i) f = left-no ms ls i f

pub left_yes : (ms : List Move) (ls : List Bool) (i : ℕ) → i < length ms → slice_index_or ls i false ≡ true → left_of ms (take (i + 1) ls) ≡ left_of ms (take i ls) ++ move_at ms i ∷ []
left_yes ms ls i lt t = let e : i + 1 ≡ suc i = omega arith in ap (λ (k : ℕ). left_of ms (take k ls)) e ∙ left-yes ms ls i lt t

pub left_no : (ms : List Move) (ls : List Bool) (i : ℕ) → slice_index_or ls i false ≡ false → left_of ms (take (i + 1) ls) ≡ left_of ms (take i ls)
left_no ms ls i f = let e : i + 1 ≡ suc i = omega arith in ap (λ (k : ℕ). left_of ms (take k ls)) e ∙ left-no ms ls i f

pub readers-then : (h : Home) (cs : List Move) (c : Move) → readers h (cs ++ c ∷ []) ≡ readers h cs + one_if (reads h c.from)
unfolding readers
readers-then h [] c = omega arith
readers-then h (d ∷ cs) c = let rest = readers-then h cs c in omega arith

one-most : (b : Bool) → one_if b ≤ 1
one-most true = omega arith
one-most false = omega arith

readers-most : (h : Home) (cs : List Move) → readers h cs ≤ length cs
unfolding readers
readers-most h [] = omega arith
readers-most h (c ∷ cs) = let rest = readers-most h cs in let one = one-most (reads h c.from) in omega arith

left-most : (ms : List Move) (ls : List Bool) → length (left_of ms ls) ≤ length ms
unfolding left_of
left-most [] ls = omega arith
left-most (c ∷ ms) [] = omega arith
left-most (c ∷ ms) (true ∷ ls) = let rest = left-most ms ls in omega arith
left-most (c ∷ ms) (false ∷ ls) = let rest = left-most ms ls in omega arith

-- no count is greater than the number of moves
pub count-most : (ms : List Move) (ls : List Bool) (counts : List ℕ) (k : ℕ) → k < length ms → AreCounts ms (left_of ms ls) counts → count_at counts k ≤ length ms
count-most ms ls counts k lt are =
    let e = are.are k lt in let r = readers-most (move_at ms k).to (left_of ms ls) in let l = left-most ms ls in omega arith

pub counts-none : (ms : List Move) (n : ℕ) (counts : List ℕ) → n ≡ length ms → counts ≡ replicate n 0 → length counts ≡ n → AreCounts ms (left_of ms []) counts
unfolding readers
counts-none ms n counts e is many = record {
  many = many ∙ e;
  are = λ k lt. ap (λ (l : List ℕ). count_at l k) is ∙ get_or-replicate n k 0 0 (omega arith) ∙ sym (ap (readers (move_at ms k).to) (left-none ms));
}

pub counts-step : (from : Arg) (ms : List Move) (ls : List Bool) (counts : List ℕ) (w : Option ℕ) (k : ℕ) → IsSequenceable ms → WriterIs ms from w → k < length ms → from ≡ (move_at ms k).from
    → slice_index_or ls k false ≡ true → AreCounts ms (left_of ms (take k ls)) counts → AreCounts ms (left_of ms (take (k + 1) ls)) (raised w counts)
counts-step from ms ls counts w k fine is lt e left are =
    counts-more from ms (left_of ms (take k ls)) (left_of ms (take (k + 1) ls)) counts w fine is
    (λ h. ap (readers h) (left_yes ms ls k lt left) ∙ readers-then h (left_of ms (take k ls)) (move_at ms k) ∙ ap (λ (a : Arg). readers h (left_of ms (take k ls)) + one_if (reads h a)) (sym e)) are
