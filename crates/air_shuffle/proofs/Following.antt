-- The code goes on as the list of moves in order does.
use Rattle.std.proofs.Common.{◌≡◌, ◌≢◌, ℕ, zero, suc, ◌+◌, ◌-◌, ◌*◌, ◌≤◌, ◌<◌, inl, inr, Bool, true, false, ◌&&◌, if◌then◌else◌, nat_eq, Option, Some, None, List, [], ◌∷◌, ◌++◌, length, arith, refl, sym, ap, ◌∙◌, subst, append_assoc, append-nil, eq-eqb, eqb-true}
use Rattle.std.specs.Prelude.{slice_index_or, slice_set, IfSome}
use Rattle.std.proofs.lemmas.Bool.{cases_eq, false≢true, false_from_ne_true, and_from}
use Rattle.std.proofs.lemmas.Bool.Decides.{nat_tests}
use Rattle.std.proofs.lemmas.Option.{same_Some}
use Rattle.b3_base.proofs.Booleans.{and_first, and_second}
use Rattle.b3_ir.specs.declared.value.Reg.{Reg as Register}
use Rattle.air_ir.specs.declared.operand.Home.{Home}
use Rattle.air_ir.specs.declared.operand.Home.TheVariants.{Reg}
use Rattle.air_ir.specs.declared.operand.Arg.{Arg}
use Rattle.air_ir.specs.declared.operand.Arg.TheVariants.{At, Imm}
use Rattle.air_ir.proofs.HomeLaws.{same_home-refl, same_home-false}
use Rattle.air_shuffle.specs.Following.{IsAt}
use Rattle.air_shuffle.specs.Moves.{IsSource, Move, from_scratch, reads, saved}
use Rattle.air_shuffle.specs.Pending.{Has, cost, costs, readers}
use Rattle.air_shuffle.specs.Sequenced.{Choice, Does, Saves, carried_out, choice, chosen, first_that, is_free, is_next, ordered, others_than, saves_first, sequenced}
use Rattle.air_shuffle.specs.Waiting.{IsCounted, count_at, is_left_at, left_of, lowered, move_at, pending_in, writer_of}
use Rattle.air_shuffle.specs.declared.pending.Pending.{Pending}
use Rattle.air_shuffle.proofs.Left.{differ_left, if_some, left_has, others, place_of}
use Rattle.air_shuffle.proofs.Releasing.{WriterIs, set-count, writer_is}
use Rattle.air_shuffle.proofs.Sequenced.{cost-one}
use Rattle.air_shuffle.proofs.Steps.{AreBlocked, blocked-unread, costs-one, reads-at}
use Rattle.air_shuffle.proofs.Taking.{IsDone, IsLeft, IsSaved, done-pending, from_at, saved-pending, split_in, still_left}

-- ---- the first that passes a test

-- no move passes before one that does
first_is : (test : Move → Bool) (before after : List Move) (c : Move) → ((d : Move) → Has d before → test d ≡ false) → test c ≡ true
    → (first_that test (before ++ c ∷ after) ≡ Some c) × (others_than test (before ++ c ∷ after) ≡ before ++ after)
unfolding first_that others_than Has
first_is test [] after c none t = (rw t refl, rw t refl)
first_is test (b ∷ before) after c none t =
    let rest = first_is test before after c (λ d h. none d (inr h)) t in
    let fails : test b ≡ false = none b (inl refl) in
    (rw fails rest.0, rw fails (ap (λ (l : List Move). b ∷ l) rest.1))

none_is : (test : Move → Bool) (cs : List Move) → ((d : Move) → Has d cs → test d ≡ false) → first_that test cs ≡ None
unfolding first_that Has
none_is test [] none = refl
none_is test (c ∷ cs) none = let fails : test c ≡ false = none c (inl refl) in rw fails (none_is test cs (λ d h. none d (inr h)))

not_free : (pending : List Move) (d : Move) → 0 < readers d.to pending → is_free pending d ≡ false
not_free pending d some = grind (arith, nat_tests)

yes_free : (pending : List Move) (d : Move) → readers d.to pending ≡ 0 → is_free pending d ≡ true
yes_free pending d none = eq-eqb (readers d.to pending) 0 none

fails_by : (a b : Bool) → (a ≡ true → b ≡ false) → (a && b) ≡ false
fails_by true b f = f refl
fails_by false b f = refl

-- ---- choices

choice_next : (last : Arg) (pending before after : List Move) (c : Move) → pending ≡ before ++ c ∷ after
    → ((d : Move) → Has d before → is_next pending last d ≡ false) → is_next pending last c ≡ true
    → choice last pending ≡ Does c (before ++ after)
choice_next last pending before after c split none t =
    let first = first_is (is_next pending last) before after c none t in
    let found : first_that (is_next pending last) pending ≡ Some c = ap (first_that (is_next pending last)) split ∙ first.0 in
    let rest : others_than (is_next pending last) pending ≡ before ++ after = ap (others_than (is_next pending last)) split ∙ first.1 in
    ap (λ (o : Option Move). chosen o (is_next pending last) pending (chosen (first_that (is_free pending) pending) (is_free pending) pending
    (saves_first pending))) found
    ∙ ap (Does c) rest

choice_later : (last : Arg) (pending : List Move) → ((d : Move) → Has d pending → reads d.to last ≡ true → 0 < readers d.to pending)
    → choice last pending ≡ chosen (first_that (is_free pending) pending) (is_free pending) pending (saves_first pending)
choice_later last pending none =
    ap (λ (o : Option Move). chosen o (is_next pending last) pending (chosen (first_that (is_free pending) pending) (is_free pending) pending
    (saves_first pending)))
    (none_is (is_next pending last) pending (λ d h. fails_by (reads d.to last) (is_free pending d) (λ t. not_free pending d (none d h t))))

choice_free : (last : Arg) (pending before after : List Move) (c : Move) → pending ≡ before ++ c ∷ after
    → ((d : Move) → Has d pending → reads d.to last ≡ true → 0 < readers d.to pending)
    → ((d : Move) → Has d before → 0 < readers d.to pending) → readers c.to pending ≡ 0 → choice last pending ≡ Does c (before ++ after)
choice_free last pending before after c split none earlier free =
    let first = first_is (is_free pending) before after c (λ d h. not_free pending d (earlier d h)) (yes_free pending c free) in
    choice_later last pending none
    ∙ ap (λ (o : Option Move). chosen o (is_free pending) pending (saves_first pending)) (ap (first_that (is_free pending)) split ∙ first.0)
    ∙ ap (Does c) (ap (others_than (is_free pending)) split ∙ first.1)

choice_saves : (last : Arg) (pending after : List Move) (c : Move) → pending ≡ c ∷ after → AreBlocked pending → choice last pending ≡ Saves c after
choice_saves last pending after c split blocked =
    choice_later last pending (λ d h t. blocked d h)
    ∙ ap (λ (o : Option Move). chosen o (is_free pending) pending (saves_first pending))
    (none_is (is_free pending) pending (λ d h. not_free pending d (blocked d h)))
    ∙ ap saves_first split

-- ---- places

counts_are : (p : Pending) (k : ℕ) → IsCounted p → k < length p.moves.items → count_at p.counts.items k ≡ readers (move_at p.moves.items k).to (pending_in p)
counts_are p k g lt = (g.counts).are k lt

-- where each place of those that are left is read, each destination is
all_blocked : (p : Pending) → IsCounted p → ((k : ℕ) → k < length p.moves.items → is_left_at p k ≡ true → 0 < count_at p.counts.items k)
    → AreBlocked (pending_in p)
all_blocked p g some c h =
    let r = place_of p.moves.items p.left.items c h in
    let counted = counts_are p r.at g r.within in
    let more = some r.at r.within r.left in
    let same : readers c.to (pending_in p) ≡ readers (move_at p.moves.items r.at).to (pending_in p) =
    ap (λ (m : Move). readers m.to (pending_in p)) r.is in
    omega arith

-- the move that writes what is read is the only one
linked_picks : (p : Pending) (from : Arg) (j : ℕ) → IsCounted p → IsSource from → writer_of p.writers from ≡ Some j → is_left_at p j ≡ true
    → count_at p.counts.items j ≡ 0
    → choice from (pending_in p) ≡ Does (move_at p.moves.items j) (left_of p.moves.items (slice_set p.left.items j false))
linked_picks p from j g is e left free =
    let w : WriterIs p.moves.items from (Some j) = subst (WriterIs p.moves.items from) e (writer_is p.moves.items p.writers from g.writers is) in
    let there : IsLeft p j = record { within = w.0; left = left } in
    let r = split_in p j g there in
    let c : Move = move_at p.moves.items j in
    let counted = counts_are p j g w.0 in
    let reads_it : reads c.to from ≡ true = ap (reads c.to) w.1 ∙ same_home-refl c.to in
    choice_next from (pending_in p) r.before r.after c r.whole
    (λ d h.
    let place = r.earlier d h in
    let lt = place.before in
    let apart : (move_at p.moves.items j).to ≢ (move_at p.moves.items place.at).to = λ same.
    let both = (g.sound).differ j place.at w.0 (let within = w.0 in omega arith) same in omega arith in
    let not : reads d.to from ≡ false = ap (λ (m : Move). reads m.to from) place.is ∙ ap (reads (move_at p.moves.items place.at).to) w.1
    ∙ same_home-false c.to (move_at p.moves.items place.at).to apart in
    fails_by (reads d.to from) (is_free (pending_in p) d) (λ t. absurd (false≢true (sym not ∙ t))))
    (and_from (reads c.to from) (is_free (pending_in p) c) reads_it (yes_free (pending_in p) c (sym counted ∙ free)))
    ∙ ap (Does c) (sym r.gone)

linked_rests : (p : Pending) (from : Arg) (w : Option ℕ) → IsCounted p → IsSource from → writer_of p.writers from ≡ w
    → ((j : ℕ) → w ≡ Some j → is_left_at p j ≡ true → 0 < count_at p.counts.items j)
    → (c : Move) → Has c (pending_in p) → reads c.to from ≡ true → 0 < readers c.to (pending_in p)
linked_rests p from (Some j) g is e some c h t =
    let w : WriterIs p.moves.items from (Some j) = subst (WriterIs p.moves.items from) e (writer_is p.moves.items p.writers from g.writers is) in
    let r = place_of p.moves.items p.left.items c h in
    let to : At (move_at p.moves.items j).to ≡ At (move_at p.moves.items r.at).to = sym w.1 ∙ reads-at c.to from t ∙ ap (λ (m : Move). At m.to) r.is in
    let same : j ≡ r.at = (g.sound).differ j r.at w.0 r.within (at_home _ _ to) in
    let more = some j refl (ap (is_left_at p) same ∙ r.left) in
    let counted = counts_are p j g w.0 in
    let is_it : readers c.to (pending_in p) ≡ readers (move_at p.moves.items j).to (pending_in p) =
    ap (λ (m : Move). readers m.to (pending_in p)) (r.is ∙ ap (move_at p.moves.items) (sym same)) in
    omega arith
  where
    at_home : (x y : Home) → At x ≡ At y → x ≡ y
    at_home x y e = cc
linked_rests p from None g is e some c h t =
    let w : WriterIs p.moves.items from None = subst (WriterIs p.moves.items from) e (writer_is p.moves.items p.writers from g.writers is) in
    let r = place_of p.moves.items p.left.items c h in
    absurd (false≢true (sym (w r.at r.within) ∙ ap (λ (m : Move). reads m.to from) (sym r.is) ∙ t))

-- another count stays
other_count : (w : Option ℕ) (counts : List ℕ) (k : ℕ) → ((j : ℕ) → w ≡ Some j → j < length counts) → w ≢ Some k
    → count_at (lowered w counts) k ≡ count_at counts k
other_count None counts k within ne = refl
other_count (Some j) counts k within ne = elim (set-count counts j k (count_at counts j - 1) (within j refl)) [
  | inl here ↦ absurd (ne (ap Some (sym here.0)))
  | inr there ↦ there.1
]

apart_in : (p : Pending) → IsCounted p → (c : Move) → Has c (pending_in p) → c.to ≢ Reg p.scratch
apart_in p g c h e = let r = place_of p.moves.items p.left.items c h in g.apart r.at r.within (sym (ap (λ (m : Move). m.to) r.is) ∙ e)

-- ---- on the way

module _ (whole : List Move) (bound : ℕ) where
  -- the move that is looked at isn't done: then none is looked at
  pub settles : (done : List Move) (p : Pending) (k : ℕ) → (is_left_at p k ≡ true → 0 < count_at p.counts.items k) → IsAt whole bound (Some k) done p
      → IsAt whole bound None done p
  settles done p k some a = record {
    last = a.last;
    fuel = a.fuel;
    enough = a.enough;
    goes = a.goes;
    passed = λ i lt left no. elim (cases_eq k i) [
      | inl e ↦ subst (λ (n : ℕ). 0 < count_at p.counts.items n) e (some (ap (is_left_at p) e ∙ left))
      | inr ne ↦ a.passed i lt left (λ s. ne (same_Some k i s))
    ];
    picks = λ j e. absurd cc;
    rests = λ none. a.rests (λ j e left. let same : k ≡ j = same_Some k j e in
        subst (λ (n : ℕ). 0 < count_at p.counts.items n) same (some (ap (is_left_at p) same ∙ left)));
  }

  -- a place is looked at
  pub looks : (done : List Move) (p : Pending) → IsCounted p → bound < length p.moves.items → IsAt whole bound None done p
      → IsAt whole (bound + 1) (Some bound) done p
  looks done p g within a =
      let still : (c : Move) → Has c (pending_in p) → reads c.to a.last ≡ true → 0 < readers c.to (pending_in p) = a.rests (λ j e. absurd cc) in
      record {
        last = a.last;
        fuel = a.fuel;
        enough = a.enough;
        goes = a.goes;
        passed = λ i lt left no. a.passed i (let other : bound ≢ i = λ e. no (ap Some e) in omega arith) left (λ e. cc);
        picks = λ j e left free.
            let same : bound ≡ j = same_Some bound j e in
            let there : IsLeft p j = record { within = subst (λ n. n < length p.moves.items) same within; left = left } in
            let r = split_in p j g there in
            let counted = counts_are p j g there.within in
            choice_free a.last (pending_in p) r.before r.after (move_at p.moves.items j) r.whole still
            (λ d h.
            let place = r.earlier d h in
            let lt = place.before in
            let more = a.passed place.at (omega arith) place.left (λ e. cc) in
            let its = counts_are p place.at g (let most = there.within in omega arith) in
            let is_it : readers d.to (pending_in p) ≡ readers (move_at p.moves.items place.at).to (pending_in p) =
            ap (λ (m : Move). readers m.to (pending_in p)) place.is in
            omega arith)
            (sym counted ∙ free)
            ∙ ap (Does (move_at p.moves.items j)) (sym r.gone);
        rests = λ none. still;
      }

  -- what is linked to a source that was just read
  module _ (done : List Move) (p q : Pending) (g : IsCounted p) (h : IsCounted q) (k : ℕ) (there : IsLeft p k) (same : q.writers ≡ p.writers)
      (counts : q.counts.items ≡ lowered (writer_of p.writers (from_at p k)) p.counts.items) (source : IsSource (from_at p k)) where
    written : (j : ℕ) → writer_of p.writers (from_at p k) ≡ Some j → j < length p.counts.items
    written j e =
        let w : WriterIs p.moves.items (from_at p k) (Some j) =
        subst (WriterIs p.moves.items (from_at p k)) e (writer_is p.moves.items p.writers (from_at p k) g.writers source) in
        let lt = w.0 in
        let many = (g.counts).many in
        omega arith

    linked : (n : ℕ) (after : List Move) → costs q.scratch (pending_in q) ≤ n → after ++ ordered n q.scratch (from_at p k) (pending_in q) ≡ whole
        → ((i : ℕ) → i < bound → is_left_at q i ≡ true → writer_of p.writers (from_at p k) ≢ Some i → 0 < count_at p.counts.items i)
        → IsAt whole bound (writer_of p.writers (from_at p k)) after q
    linked n after enough goes passed = record {
      last = from_at p k;
      fuel = n;
      enough = enough;
      goes = goes;
      passed = λ i lt left no.
          let more = passed i lt left no in
          let stays : count_at q.counts.items i ≡ count_at p.counts.items i =
          ap (λ (l : List ℕ). count_at l i) counts ∙ other_count (writer_of p.writers (from_at p k)) p.counts.items i written no in
          omega arith;
      picks = λ j e left free. linked_picks q (from_at p k) j h source (ap (λ m. writer_of m (from_at p k)) same ∙ e) left free;
      rests = linked_rests q (from_at p k) (writer_of p.writers (from_at p k)) h source (ap (λ m. writer_of m (from_at p k)) same);
    }

  ordered_more : (n : ℕ) (scratch : Register) (last : Arg) (pending rest done after : List Move) (c : Move) → choice last pending ≡ Does c rest
      → after ≡ done ++ c ∷ [] → done ++ ordered (suc n) scratch last pending ≡ whole → after ++ ordered n scratch c.from rest ≡ whole
  unfolding ordered
  ordered_more n scratch last pending rest done after c next e goes =
      ap (λ (l : List Move). l ++ ordered n scratch c.from rest) e ∙ append_assoc done (c ∷ []) (ordered n scratch c.from rest)
      ∙ ap (λ (h : Choice). done ++ carried_out scratch (ordered n scratch) h) (sym next) ∙ goes

  ordered_saved : (n : ℕ) (scratch : Register) (last : Arg) (pending rest done after : List Move) (c : Move) → choice last pending ≡ Saves c rest
      → after ≡ done ++ saved scratch c ∷ [] → done ++ ordered (suc n) scratch last pending ≡ whole
      → after ++ ordered n scratch c.from (from_scratch scratch c ∷ rest) ≡ whole
  unfolding ordered
  ordered_saved n scratch last pending rest done after c next e goes =
      let more : List Move = ordered n scratch c.from (from_scratch scratch c ∷ rest) in
      ap (λ (l : List Move). l ++ more) e ∙ append_assoc done (saved scratch c ∷ []) more
      ∙ ap (λ (h : Choice). done ++ carried_out scratch (ordered n scratch) h) (sym next) ∙ goes

  -- the move that is looked at is done
  pub goes_on : (done after : List Move) (p q : Pending) (k : ℕ) → IsCounted p → IsCounted q → IsLeft p k → IsDone p q k → count_at p.counts.items k ≡ 0
      → after ≡ done ++ move_at p.moves.items k ∷ [] → IsAt whole bound (Some k) done p → IsAt whole bound (writer_of p.writers (from_at p k)) after q
  goes_on done after p q k g h there d free e a =
      let c : Move = move_at p.moves.items k in
      let r = split_in p k g there in
      let rest : pending_in q ≡ r.before ++ r.after = done-pending p q k g there d.gone in
      let next : choice a.last (pending_in p) ≡ Does c (pending_in q) = a.picks k refl there.left free ∙ ap (Does c) (r.gone ∙ sym rest) in
      let least = cost-one p.scratch c in
      let sum : costs p.scratch (pending_in p) ≡ cost p.scratch c + costs p.scratch (pending_in q) =
      ap (costs p.scratch) r.whole ∙ costs-one p.scratch r.before r.after c ∙ ap (λ (l : List Move). cost p.scratch c + costs p.scratch l) (sym rest) in
      by a.fuel a.enough a.goes next (omega arith)
    where
      by : (n : ℕ) → costs p.scratch (pending_in p) ≤ n → done ++ ordered n p.scratch a.last (pending_in p) ≡ whole
          → choice a.last (pending_in p) ≡ Does (move_at p.moves.items k) (pending_in q)
          → 1 + costs p.scratch (pending_in q) ≤ costs p.scratch (pending_in p) → IsAt whole bound (writer_of p.writers (from_at p k)) after q
      by zero enough goes next less = absurd (omega arith)
      by (suc n) enough goes next less =
          linked done p q g h k there d.writers d.counts ((g.sound).sources k there.within) n after
          (subst (λ (x : Register). costs x (pending_in q) ≤ n) (sym d.scratch) (omega arith))
          (ap (λ (x : Register). after ++ ordered n x (from_at p k) (pending_in q)) d.scratch
          ∙ ordered_more n p.scratch a.last (pending_in p) (pending_in q) done after (move_at p.moves.items k) next e goes)
          (λ i lt left no.
          let was = still_left p q k i g there.within d.gone.left left in
          a.passed i lt was.1 (λ s. was.0 (sym (same_Some k i s))))

  nothing_before : (before : List Move) → ((d : Move) → Has d before → ⊥) → before ≡ []
  unfolding Has
  nothing_before [] none = refl
  nothing_before (d ∷ ds) none = absurd (none d (inl refl))

  -- the source of the first move that is left is saved, where none is free
  pub saves_one : (done after : List Move) (p q : Pending) (k : ℕ) → IsCounted p → IsCounted q → IsLeft p k → IsSaved p q k → bound ≡ length p.moves.items
      → ((i : ℕ) → i < k → is_left_at p i ≡ false) → after ≡ done ++ saved p.scratch (move_at p.moves.items k) ∷ []
      → IsAt whole bound None done p → IsAt whole bound (writer_of p.writers (from_at p k)) after q
  unfolding costs
  saves_one done after p q k g h there d all behind e a =
      let c : Move = move_at p.moves.items k in
      let r = split_in p k g there in
      let none : r.before ≡ [] = nothing_before r.before (λ m has.
      let place = r.earlier m has in false≢true (sym (behind place.at place.before) ∙ place.left)) in
      let split : pending_in p ≡ c ∷ r.after = r.whole ∙ ap (λ (l : List Move). l ++ c ∷ r.after) none in
      let now : pending_in q ≡ from_scratch p.scratch c ∷ r.after =
      saved-pending p q k g there d.moved ∙ ap (λ (l : List Move). l ++ from_scratch p.scratch c ∷ r.after) none in
      let blocked : AreBlocked (pending_in p) = all_blocked p g (λ i lt left. a.passed i (omega arith) left (λ e. cc)) in
      let next : choice a.last (pending_in p) ≡ Saves c r.after = choice_saves a.last (pending_in p) r.after c split blocked in
      by a.fuel a.enough a.goes r.after split now next
      (blocked-unread p.scratch (pending_in p) (differ_left p.moves.items p.left.items g.sound) (apart_in p g) blocked c
      (left_has p.moves.items p.left.items k there.within g.many there.left))
    where
      by : (n : ℕ) → costs p.scratch (pending_in p) ≤ n → done ++ ordered n p.scratch a.last (pending_in p) ≡ whole → (rest : List Move)
          → pending_in p ≡ move_at p.moves.items k ∷ rest → pending_in q ≡ from_scratch p.scratch (move_at p.moves.items k) ∷ rest
          → choice a.last (pending_in p) ≡ Saves (move_at p.moves.items k) rest → reads (Reg p.scratch) (from_at p k) ≡ false
          → IsAt whole bound (writer_of p.writers (from_at p k)) after q
      by zero enough goes rest split now next unread =
          let least = cost-one p.scratch (move_at p.moves.items k) in
          let sum : costs p.scratch (pending_in p) ≡ cost p.scratch (move_at p.moves.items k) + costs p.scratch rest = ap (costs p.scratch) split in
          absurd (omega arith)
      by (suc n) enough goes rest split now next unread =
          let c : Move = move_at p.moves.items k in
          let two : cost p.scratch c ≡ 2 = ap (λ (b : Bool). if b then 1 else 2) unread in
          let one : cost p.scratch (from_scratch p.scratch c) ≡ 1 = ap (λ (b : Bool). if b then 1 else 2) (same_home-refl (Reg p.scratch)) in
          let sum : costs p.scratch (pending_in p) ≡ cost p.scratch c + costs p.scratch rest = ap (costs p.scratch) split in
          let less : costs p.scratch (pending_in q) ≡ cost p.scratch (from_scratch p.scratch c) + costs p.scratch rest = ap (costs p.scratch) now in
          linked done p q g h k there d.writers d.counts ((g.sound).sources k there.within) n after
          (subst (λ (x : Register). costs x (pending_in q) ≤ n) (sym d.scratch) (omega arith))
          (ap (λ (x : Register). after ++ ordered n x (from_at p k) (pending_in q)) d.scratch
          ∙ ap (λ (l : List Move). after ++ ordered n p.scratch (from_at p k) l) now
          ∙ ordered_saved n p.scratch a.last (pending_in p) rest done after c next e goes)
          (λ i lt left no. a.passed i lt (ap (λ (ls : List Bool). slice_index_or ls i false) (sym d.moved.left) ∙ left) (λ e. cc))

  nothing_more : (n : ℕ) (scratch : Register) (last : Arg) → ordered n scratch last [] ≡ []
  unfolding ordered first_that
  nothing_more zero scratch last = refl
  nothing_more (suc n) scratch last = refl

  -- nothing is left
  pub ends : (done : List Move) (p : Pending) → pending_in p ≡ [] → IsAt whole bound None done p → done ≡ whole
  ends done p none a =
      sym (append-nil done) ∙ ap (λ (l : List Move). done ++ l) (sym (nothing_more a.fuel p.scratch a.last))
      ∙ ap (λ (l : List Move). done ++ ordered a.fuel p.scratch a.last l) (sym none) ∙ a.goes

-- ---- first and last

pub starts : (scratch : Register) (ms : List Move) (p : Pending) → p.scratch ≡ scratch → pending_in p ≡ left_of ms (others ms)
    → costs scratch (left_of ms (others ms)) ≤ 2 * length ms → IsAt (sequenced scratch ms) 0 None [] p
starts scratch ms p same first most = record {
  last = Imm 0;
  fuel = 2 * length ms;
  enough = rw (same, first) most;
  goes = ap (λ (x : Register). ordered (2 * length ms) x (Imm 0) (pending_in p)) same ∙ ap (ordered (2 * length ms) scratch (Imm 0)) first;
  passed = λ k lt left no. absurd (omega arith);
  picks = λ j e. absurd cc;
  rests = λ none c h t. absurd (false≢true t);
}

-- where none is free none that is left reads the scratch
pub scratch_unread : (whole done : List Move) (p : Pending) (k : ℕ) → IsCounted p → k < length p.moves.items → from_at p k ≡ At (Reg p.scratch)
    → IsAt whole (length p.moves.items) None done p → is_left_at p k ≡ false
scratch_unread whole done p k g lt from a = false_from_ne_true (is_left_at p k) (λ left.
    let blocked : AreBlocked (pending_in p) = all_blocked p g (λ i below l. a.passed i below l (λ e. cc)) in
    let unread = blocked-unread p.scratch (pending_in p) (differ_left p.moves.items p.left.items g.sound) (apart_in p g) blocked (move_at p.moves.items k)
    (left_has p.moves.items p.left.items k lt g.many left) in
    false≢true (sym unread ∙ ap (reads (Reg p.scratch)) from ∙ same_home-refl (Reg p.scratch)))

-- ---- places that are read

pub free_parts : (p : Pending) (k : ℕ) → (is_left_at p k && nat_eq (count_at p.counts.items k) 0) ≡ true
    → (is_left_at p k ≡ true) × (count_at p.counts.items k ≡ 0)
free_parts p k e = (and_first (is_left_at p k) _ e, eqb-true (count_at p.counts.items k) 0 (and_second (is_left_at p k) _ e))

pub next_within : (p : Pending) (from : Arg) → IsCounted p → IsSource from → IfSome (writer_of p.writers from) (λ j. j < length p.moves.items)
next_within p from g is = if_some (writer_of p.writers from) (λ j. j < length p.moves.items) (λ j e.
    let w : WriterIs p.moves.items from (Some j) = subst (WriterIs p.moves.items from) e (writer_is p.moves.items p.writers from g.writers is) in w.0)
