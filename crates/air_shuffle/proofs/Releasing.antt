-- Counts and free moves once a move no longer reads its source.
use Rattle.std.proofs.Common.{◌≡◌, ◌≢◌, ℕ, ◌+◌, ◌-◌, ◌<◌, ◌⊎◌, inl, inr, true, false, Option, Some, None, List, length, arith, refl, sym, ap, ◌∙◌, subst}
use Rattle.std.specs.Prelude.{nat_eq, slice_set}
use Rattle.std.proofs.lemmas.Bool.{cases_eq}
use Rattle.std.proofs.lemmas.List.{get_or-set_other, get_or-set_same, length-set}
use Rattle.indexmap.specs.IndexMap as map
use Rattle.air_ir.specs.Operands.{same_home}
use Rattle.air_ir.specs.declared.operand.Home.{Home}
use Rattle.air_ir.specs.declared.operand.Home.TheVariants.{Reg}
use Rattle.air_ir.specs.declared.operand.Arg.{Arg}
use Rattle.air_ir.specs.declared.operand.Arg.TheVariants.{At, Imm, Addr, Index, FrameSlot}
use Rattle.air_ir.proofs.HomeLaws.{same_home-false, same_home-refl}
use Rattle.air_shuffle.specs.Moves.{IsSource, Move, reads}
use Rattle.air_shuffle.specs.Pending.{one_if, readers}
use Rattle.air_shuffle.specs.Waiting.{AreCounts, AreWriters, IsCounted, IsSequenceable, IsWriterBelow, changed, count_at, lowered, move_at, number_of, pending_in, raised, writer_of}
use Rattle.air_shuffle.specs.declared.pending.Pending.{Pending}

-- ---- the move that writes a source

-- the source is the home of the move at this place, or of no move
abbrev pub WriterIs : List Move → Arg → Option ℕ → Type 0
WriterIs ms from (Some k) = (k < length ms) × (from ≡ At (move_at ms k).to)
WriterIs ms from None = (k : ℕ) → k < length ms → reads (move_at ms k).to from ≡ false

home-writer : (ms : List Move) (h : Home) (w : Option ℕ) → IsWriterBelow (length ms) ms h w → WriterIs ms (At h) w
home-writer ms h (Some k) is = (is.0, ap At (sym is.1))
home-writer ms h None is = λ k lt. same_home-false h (move_at ms k).to (λ e. is k lt (sym e))

pub writer_is : {S : Type 0} (ms : List Move) (writers : map.IndexMap ℕ ℕ S) (from : Arg) → AreWriters ms writers → IsSource from → WriterIs ms from (writer_of writers from)
writer_is ms writers (At h) are is = home-writer ms h (map.get nat_eq writers (number_of h)) (are h)
writer_is ms writers (Imm word) are is = λ k lt. refl
writer_is ms writers (Addr base offset) are is = absurd is
writer_is ms writers (Index base index shift) are is = absurd is
writer_is ms writers (FrameSlot number) are is = absurd is

-- ---- counts

pub set-count : (counts : List ℕ) (j k v : ℕ) → j < length counts → ((k ≡ j) × (count_at (slice_set counts j v) k ≡ v)) ⊎ ((k ≢ j) × (count_at (slice_set counts j v) k ≡ count_at counts k))
set-count counts j k v lt = elim (cases_eq k j) [
  | inl e ↦ inl (e, ap (count_at (slice_set counts j v)) e ∙ get_or-set_same counts j v 0 lt)
  | inr ne ↦ inr (ne, get_or-set_other counts j k v 0 ne)
]

length-changed : (f : ℕ → ℕ) (w : Option ℕ) (counts : List ℕ) → length (changed f w counts) ≡ length counts
length-changed f (Some k) counts = length-set counts k (f (count_at counts k))
length-changed f None counts = refl

-- the count of the destination that is the source changes, and no other one
count-changed : (f : ℕ → ℕ) (from : Arg) (ms : List Move) (counts : List ℕ) (w : Option ℕ) → IsSequenceable ms → WriterIs ms from w → length counts ≡ length ms → (k : ℕ) → k < length ms
    → ((reads (move_at ms k).to from ≡ true) × (count_at (changed f w counts) k ≡ f (count_at counts k)))
    ⊎ ((reads (move_at ms k).to from ≡ false) × (count_at (changed f w counts) k ≡ count_at counts k))
count-changed f from ms counts None fine is many k lt = inr (is k lt, refl)
count-changed f from ms counts (Some j) fine is many k lt = elim (set-count counts j k (f (count_at counts j)) (let lt' = is.0 in omega arith)) [
  | inl here ↦ inl (
    ap (λ (a : Arg). reads (move_at ms k).to a) is.1 ∙ ap (λ (i : ℕ). same_home (move_at ms j).to (move_at ms i).to) here.0 ∙ same_home-refl (move_at ms j).to,
    here.1 ∙ ap (λ (i : ℕ). f (count_at counts i)) (sym here.0),
  )
  | inr there ↦ inr (
    ap (λ (a : Arg). reads (move_at ms k).to a) is.1 ∙ same_home-false (move_at ms j).to (move_at ms k).to (λ s. there.0 (sym (fine.differ j k is.0 lt s))),
    there.1,
  )
]

-- the destinations are the same, and the source is read once less
pub record IsLess (from : Arg) (ms ns : List Move) (pend rest : List Move) : Type 0 where
  pub many : length ns ≡ length ms
  pub to : (k : ℕ) → (move_at ns k).to ≡ (move_at ms k).to
  pub less : (k : ℕ) → k < length ms → readers (move_at ms k).to pend ≡ one_if (reads (move_at ms k).to from) + readers (move_at ms k).to rest

pub counts-less : (from : Arg) (ms ns pend rest : List Move) (counts : List ℕ) (w : Option ℕ) → IsSequenceable ms → WriterIs ms from w → IsLess from ms ns pend rest → AreCounts ms pend counts
    → AreCounts ns rest (lowered w counts)
counts-less from ms ns pend rest counts w fine is less are = record {
  many = length-changed (λ n. n - 1) w counts ∙ are.many ∙ sym less.many;
  are = λ k lt. less_at k (let many = less.many in omega arith) ∙ ap (λ (h : Home). readers h rest) (sym (less.to k));
}
  where
    less_at : (k : ℕ) → k < length ms → count_at (lowered w counts) k ≡ readers (move_at ms k).to rest
    less_at k lt =
        let e = are.are k lt in
        let l = less.less k lt in
        elim (count-changed (λ n. n - 1) from ms counts w fine is are.many k lt) [
          | inl is' ↦ let one : one_if (reads (move_at ms k).to from) ≡ 1 = ap one_if is'.0 in is'.1 ∙ omega arith
          | inr not ↦ let zero : one_if (reads (move_at ms k).to from) ≡ 0 = ap one_if not.0 in not.1 ∙ omega arith
        ]

-- and where it is read once more
pub counts-more : (from : Arg) (ms pend more : List Move) (counts : List ℕ) (w : Option ℕ) → IsSequenceable ms → WriterIs ms from w
    → ((h : Home) → readers h more ≡ readers h pend + one_if (reads h from)) → AreCounts ms pend counts → AreCounts ms more (raised w counts)
counts-more from ms pend more counts w fine is one are = record { many = length-changed (λ n. n + 1) w counts ∙ are.many; are = more_at }
  where
    more_at : (k : ℕ) → k < length ms → count_at (raised w counts) k ≡ readers (move_at ms k).to more
    more_at k lt =
        let e = are.are k lt in
        let l = one (move_at ms k).to in
        elim (count-changed (λ n. n + 1) from ms counts w fine is are.many k lt) [
          | inl is' ↦ let one' : one_if (reads (move_at ms k).to from) ≡ 1 = ap one_if is'.0 in is'.1 ∙ omega arith
          | inr not ↦ let zero : one_if (reads (move_at ms k).to from) ≡ 0 = ap one_if not.0 in not.1 ∙ omega arith
        ]

-- the count of what is read isn't 0
pub count-some : (from : Arg) (ms ns pend rest : List Move) (counts : List ℕ) (j : ℕ) → WriterIs ms from (Some j) → IsLess from ms ns pend rest → AreCounts ms pend counts
    → (j < length counts) × (0 < count_at counts j)
count-some from ms ns pend rest counts j is less are =
    let many = are.many in
    let e = are.are j is.0 in
    let l = less.less j is.0 in
    let yes : reads (move_at ms j).to from ≡ true = ap (λ (a : Arg). reads (move_at ms j).to a) is.1 ∙ same_home-refl (move_at ms j).to in
    let one : one_if (reads (move_at ms j).to from) ≡ 1 = ap one_if yes in
    let lt = is.0 in
    (omega arith, omega arith)

-- ---- both

-- what is left after a move that is left no longer reads its source
pub record Releases (from : Arg) (p q : Pending) : Type 0 where
  pub is : IsSource from
  pub scratch : q.scratch ≡ p.scratch
  pub less : IsLess from p.moves.items q.moves.items (pending_in p) (pending_in q)
  pub many : length q.left.items ≡ length p.left.items
  pub sources : (k : ℕ) → k < length p.moves.items → IsSource (move_at q.moves.items k).from
  pub writers : q.writers ≡ p.writers
  pub counts : q.counts.items ≡ lowered (writer_of p.writers from) p.counts.items

pub released-counted : (from : Arg) (p q : Pending) → IsCounted p → Releases from p q → IsCounted q
released-counted from p q g r =
    let less = r.less in
    let same = less.many in
    let to = less.to in
    record {
      many = r.many ∙ g.many ∙ sym same;
      sound = record {
        sources = λ k lt. r.sources k (omega arith);
        differ = λ i k lt lt' e. g.sound.differ i k (omega arith) (omega arith) (sym (to i) ∙ e ∙ to k);
      };
      apart = λ k lt e. g.apart k (omega arith) (sym (to k) ∙ e ∙ ap Reg r.scratch);
      writers = λ h. subst (λ m. IsWriterBelow (length q.moves.items) q.moves.items h (map.get nat_eq m (number_of h))) (sym r.writers)
          (turned p.moves.items q.moves.items h (map.get nat_eq p.writers (number_of h)) same to (g.writers h));
      counts = subst (AreCounts q.moves.items (pending_in q)) (sym r.counts)
          (counts-less from p.moves.items q.moves.items (pending_in p) (pending_in q) p.counts.items (writer_of p.writers from) g.sound
          (writer_is p.moves.items p.writers from g.writers r.is) less g.counts);
    }
  where
    turned : (ms ns : List Move) (h : Home) (w : Option ℕ) → length ns ≡ length ms → ((k : ℕ) → (move_at ns k).to ≡ (move_at ms k).to)
        → IsWriterBelow (length ms) ms h w → IsWriterBelow (length ns) ns h w
    turned ms ns h (Some k) same to is = ((let lt = is.0 in omega arith), to k ∙ is.1)
    turned ms ns h None same to is = λ k lt e. is k (omega arith) (sym (to k) ∙ e)
