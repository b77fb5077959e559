-- What is left after a move was done, or its source saved.
use Rattle.std.proofs.Common.{◌≡◌, ◌≢◌, ℕ, suc, ◌+◌, ◌<◌, ◌⊎◌, inl, inr, Bool, true, false, Some, List, ◌∷◌, ◌++◌, length, arith, refl, sym, ap, ◌∙◌, subst}
use Rattle.std.specs.Prelude.{slice_index_or, slice_set}
use Rattle.std.proofs.lemmas.Bool.{cases_eq, false≢true}
use Rattle.std.proofs.lemmas.List.{get_or-set_other, get_or-set_same, length-set}
use Rattle.b3_ir.specs.declared.value.Reg.{Reg as Register}
use Rattle.air_ir.specs.declared.operand.Home.{Home}
use Rattle.air_ir.specs.declared.operand.Home.TheVariants.{Reg}
use Rattle.air_ir.specs.declared.operand.Arg.{Arg}
use Rattle.air_ir.specs.declared.operand.Arg.TheVariants.{At}
use Rattle.air_ir.proofs.HomeLaws.{same_home-false}
use Rattle.air_shuffle.specs.Moves.{IsSource, Move, from_scratch, reads}
use Rattle.air_shuffle.specs.Pending.{one_if, readers}
use Rattle.air_shuffle.specs.Waiting.{IsCounted, count_at, is_left_at, left_of, lowered, move_at, pending_in, writer_of}
use Rattle.air_shuffle.specs.declared.pending.Pending.{Pending}
use Rattle.air_shuffle.proofs.Lists.{length-one}
use Rattle.air_shuffle.proofs.Left.{Splits, splits}
use Rattle.air_shuffle.proofs.Releasing.{Releases, WriterIs, count-some, writer_is}
use Rattle.air_shuffle.proofs.Steps.{readers-one}

abbrev pub from_at : Pending → ℕ → Arg
from_at p k = (move_at p.moves.items k).from

-- a move of these is left
pub record IsLeft (p : Pending) (k : ℕ) : Type 0 where
  pub within : k < length p.moves.items
  pub left : is_left_at p k ≡ true

abbrev pub split_in : (p : Pending) (k : ℕ) → IsCounted p → IsLeft p k → Splits p.moves.items p.left.items k
split_in p k g there = splits p.moves.items p.left.items k there.within g.many there.left

-- ---- a move is done

pub record IsGone (p q : Pending) (k : ℕ) : Type 0 where
  pub moves : q.moves.items ≡ p.moves.items
  pub left : q.left.items ≡ slice_set p.left.items k false

pub record IsDone (p q : Pending) (k : ℕ) : Type 0 where
  pub gone : IsGone p q k
  pub scratch : q.scratch ≡ p.scratch
  pub writers : q.writers ≡ p.writers
  pub counts : q.counts.items ≡ lowered (writer_of p.writers (from_at p k)) p.counts.items

pub done-pending : (p q : Pending) (k : ℕ) (g : IsCounted p) (there : IsLeft p k) → IsGone p q k → pending_in q ≡ (split_in p k g there).before ++ (split_in p k g there).after
done-pending p q k g there d =
    let r = split_in p k g there in
    ap (λ (ms : List Move). left_of ms q.left.items) d.moves ∙ ap (left_of p.moves.items) d.left ∙ r.gone

readers-less : (h : Home) (pend before after : List Move) (c : Move) → pend ≡ before ++ c ∷ after → readers h pend ≡ one_if (reads h c.from) + readers h (before ++ after)
readers-less h pend before after c e = ap (readers h) e ∙ readers-one h before after c

pub done-releases : (p q : Pending) (k : ℕ) → IsCounted p → IsLeft p k → IsDone p q k → Releases (from_at p k) p q
done-releases p q k g there d =
    let r = split_in p k g there in
    let c : Move = move_at p.moves.items k in
    let to : (i : ℕ) → move_at q.moves.items i ≡ move_at p.moves.items i = λ i. ap (λ (ms : List Move). move_at ms i) d.gone.moves in
    record {
      is = (g.sound).sources k there.within;
      scratch = d.scratch;
      less = record {
        many = ap length d.gone.moves;
        to = λ i. ap (λ (m : Move). m.to) (to i);
        less = λ i lt. readers-less (move_at p.moves.items i).to (pending_in p) r.before r.after c r.whole
            ∙ ap (λ (l : List Move). one_if (reads (move_at p.moves.items i).to c.from) + readers (move_at p.moves.items i).to l) (sym (done-pending p q k g there d.gone));
      };
      many = ap length d.gone.left ∙ length-set p.left.items k false;
      sources = λ i lt. subst (λ (m : Move). IsSource m.from) (sym (to i)) ((g.sound).sources i lt);
      writers = d.writers;
      counts = d.counts;
    }

set-left : (ls : List Bool) (k i : ℕ) → k < length ls → slice_index_or (slice_set ls k false) i false ≡ true → (i ≢ k) × (slice_index_or ls i false ≡ true)
set-left ls k i lt left = elim (cases_eq i k) [
  | inl e ↦ absurd (false≢true (sym (ap (λ (j : ℕ). slice_index_or (slice_set ls k false) j false) e ∙ get_or-set_same ls k false false lt) ∙ left))
  | inr ne ↦ (ne, sym (get_or-set_other ls k i false false ne) ∙ left)
]

pub still_left : (p q : Pending) (k i : ℕ) → IsCounted p → k < length p.moves.items → q.left.items ≡ slice_set p.left.items k false → is_left_at q i ≡ true
    → (i ≢ k) × (is_left_at p i ≡ true)
still_left p q k i g lt e left =
    let many = g.many in
    set-left p.left.items k i (omega arith) (ap (λ (ls : List Bool). slice_index_or ls i false) (sym e) ∙ left)

-- ---- a source is saved

pub record IsMoved (p q : Pending) (k : ℕ) : Type 0 where
  pub moves : q.moves.items ≡ slice_set p.moves.items k (from_scratch p.scratch (move_at p.moves.items k))
  pub left : q.left.items ≡ p.left.items

pub record IsSaved (p q : Pending) (k : ℕ) : Type 0 where
  pub moved : IsMoved p q k
  pub scratch : q.scratch ≡ p.scratch
  pub writers : q.writers ≡ p.writers
  pub counts : q.counts.items ≡ lowered (writer_of p.writers (from_at p k)) p.counts.items

pub saved-pending : (p q : Pending) (k : ℕ) (g : IsCounted p) (there : IsLeft p k) → IsMoved p q k
    → pending_in q ≡ (split_in p k g there).before ++ from_scratch p.scratch (move_at p.moves.items k) ∷ (split_in p k g there).after
saved-pending p q k g there d =
    let r = split_in p k g there in
    ap (λ (ms : List Move). left_of ms q.left.items) d.moves ∙ ap (left_of (slice_set p.moves.items k (from_scratch p.scratch (move_at p.moves.items k)))) d.left
    ∙ r.changed (from_scratch p.scratch (move_at p.moves.items k))

set-move : (ms : List Move) (k i : ℕ) (c : Move) → k < length ms → ((i ≡ k) × (move_at (slice_set ms k c) i ≡ c)) ⊎ (move_at (slice_set ms k c) i ≡ move_at ms i)
set-move ms k i c lt = elim (cases_eq i k) [
  | inl e ↦ inl (e, ap (move_at (slice_set ms k c)) e ∙ get_or-set_same ms k c _ lt)
  | inr ne ↦ inr (get_or-set_other ms k i c _ ne)
]

set-to : (scratch : Register) (ms : List Move) (k i : ℕ) → k < length ms → (move_at (slice_set ms k (from_scratch scratch (move_at ms k))) i).to ≡ (move_at ms i).to
set-to scratch ms k i lt = elim (set-move ms k i (from_scratch scratch (move_at ms k)) lt) [
  | inl here ↦ ap (λ (m : Move). m.to) here.1 ∙ ap (λ (j : ℕ). (move_at ms j).to) (sym here.0)
  | inr there ↦ ap (λ (m : Move). m.to) there
]

set-source : (scratch : Register) (ms : List Move) (k i : ℕ) → k < length ms → IsSource (move_at ms i).from → IsSource (move_at (slice_set ms k (from_scratch scratch (move_at ms k))) i).from
set-source scratch ms k i lt is = elim (set-move ms k i (from_scratch scratch (move_at ms k)) lt) [
  | inl here ↦ subst (λ (m : Move). IsSource m.from) (sym here.1) tt
  | inr there ↦ subst (λ (m : Move). IsSource m.from) (sym there) is
]

pub saved-releases : (p q : Pending) (k : ℕ) → IsCounted p → IsLeft p k → IsSaved p q k → Releases (from_at p k) p q
saved-releases p q k g there d =
    let r = split_in p k g there in
    let c : Move = move_at p.moves.items k in
    let c' : Move = from_scratch p.scratch c in
    let same : (i : ℕ) → move_at q.moves.items i ≡ move_at (slice_set p.moves.items k c') i = λ i. ap (λ (ms : List Move). move_at ms i) d.moved.moves in
    record {
      is = (g.sound).sources k there.within;
      scratch = d.scratch;
      less = record {
        many = ap length d.moved.moves ∙ length-set p.moves.items k c';
        to = λ i. ap (λ (m : Move). m.to) (same i) ∙ set-to p.scratch p.moves.items k i there.within;
        less = λ i lt.
            let h : Home = (move_at p.moves.items i).to in
            let now : readers h (pending_in q) ≡ one_if (reads h c'.from) + readers h (r.before ++ r.after) = readers-less h (pending_in q) r.before r.after c' (saved-pending p q k g there d.moved) in
            let none : one_if (reads h c'.from) ≡ 0 = ap one_if (same_home-false (Reg p.scratch) h (λ e. g.apart i lt (sym e))) in
            let was : readers h (pending_in p) ≡ one_if (reads h c.from) + readers h (r.before ++ r.after) = readers-less h (pending_in p) r.before r.after c r.whole in
            omega arith;
      };
      many = ap length d.moved.left;
      sources = λ i lt. subst (λ (m : Move). IsSource m.from) (sym (same i)) (set-source p.scratch p.moves.items k i there.within ((g.sound).sources i lt));
      writers = d.writers;
      counts = d.counts;
    }

-- ---- what a release asks

pub released-there : (p : Pending) (k j : ℕ) → IsCounted p → IsLeft p k → writer_of p.writers (from_at p k) ≡ Some j → (j < length p.counts.items) × (0 < count_at p.counts.items j)
released-there p k j g there e =
    let r = split_in p k g there in
    let c : Move = move_at p.moves.items k in
    let w : WriterIs p.moves.items c.from (Some j) = subst (WriterIs p.moves.items c.from) e (writer_is p.moves.items p.writers c.from g.writers ((g.sound).sources k there.within)) in
    count-some c.from p.moves.items p.moves.items (pending_in p) (r.before ++ r.after) p.counts.items j w
    (record { many = refl; to = λ i. refl; less = λ i lt. readers-less (move_at p.moves.items i).to (pending_in p) r.before r.after c r.whole }) g.counts

-- ---- what is done and what is left

-- ---- a move is taken from those that are free

-- one fewer is left
pub done-shorter : (p q : Pending) (k : ℕ) → IsCounted p → IsLeft p k → IsGone p q k → length (pending_in p) ≡ suc (length (pending_in q))
done-shorter p q k g there d =
    let r = split_in p k g there in
    ap length r.whole ∙ length-one (move_at p.moves.items k) r.before r.after ∙ ap (λ (l : List Move). suc (length l)) (sym (done-pending p q k g there d))

-- what is saved is then taken from the scratch
pub moved-from : (p q : Pending) (k : ℕ) → IsLeft p k → IsMoved p q k → from_at q k ≡ At (Reg p.scratch)
moved-from p q k there d =
    ap (λ (ms : List Move). (move_at ms k).from) d.moves
    ∙ ap (λ (m : Move). m.from) (get_or-set_same p.moves.items k (from_scratch p.scratch (move_at p.moves.items k)) _ there.within)
