-- Each step of the ordering keeps what is done and pending, and takes from what the pending moves may cost.
use Rattle.std.proofs.Common.{◌≡◌, ◌≢◌, ℕ, zero, suc, ◌+◌, ◌*◌, ◌≤◌, ◌<◌, inl, inr, Bool, true, false, if◌then◌else◌, List, [], ◌∷◌, ◌++◌, length, arith, refl, sym, ap, ◌∙◌, subst}
use Rattle.std.proofs.lemmas.Bool.{cases_Bool, false≢true, false_from_ne_true}
use Rattle.b3_ir.specs.declared.value.Reg.{Reg as Register}
use Rattle.air_ir.specs.Operands.{Homes, put, same_home}
use Rattle.air_ir.specs.declared.operand.Home.{Home}
use Rattle.air_ir.specs.declared.operand.Home.TheVariants.{Reg}
use Rattle.air_ir.specs.declared.operand.Arg.{Arg}
use Rattle.air_ir.specs.declared.operand.Arg.TheVariants.{At, Imm, Addr, Index, FrameSlot}
use Rattle.air_ir.proofs.HomeLaws.{same_home-false, same_home-refl, same_home-true}
use Rattle.air_shuffle.specs.Moves.{IsSource, Move, from_scratch, is_self, reads, saved}
use Rattle.air_shuffle.specs.Pending.{AreReady, Differ, Going, Has, HasWord, IsDrawn, IsDue, Parallel, Runs, Up, cost, costs, one_if, readers, run, saves, taken}
use Rattle.air_shuffle.proofs.Lists.{each-other, each-then, has-rest, has-more, has-one, length-one, Alone, pigeonhole}
use Rattle.air_shuffle.proofs.Parallel.{parallel-first, parallel-saved, ready-first, ready-saved}

-- ---- lists of moves
run-then : (done : List Move) (c : Move) (s : Homes) → run (done ++ c ∷ []) s ≡ put (run done s) c.to (taken (run done s) c)
unfolding run
run-then [] c s = refl
run-then (d ∷ done) c s = run-then done c (put s d.to (taken s d))

runs-then : (done : List Move) (c : Move) (s : Homes) → Runs done s → HasWord (run done s) c → Runs (done ++ c ∷ []) s
unfolding Runs run
runs-then [] c s r w = (w, tt)
runs-then (d ∷ done) c s r w = (r.0, runs-then done c (put s d.to (taken s d)) r.1 w)

length-then : (done : List Move) (c : Move) → length (done ++ c ∷ []) ≡ suc (length done)
length-then [] c = refl
length-then (d ∷ done) c = ap suc (length-then done c)

saves-then : (scratch : Register) (done : List Move) (c : Move) → saves scratch (done ++ c ∷ []) ≡ saves scratch done + one_if (same_home c.to (Reg scratch))
unfolding saves
saves-then scratch [] c = omega arith
saves-then scratch (d ∷ done) c = let rest = saves-then scratch done c in omega arith

pub costs-one : (scratch : Register) (bs cs : List Move) (c : Move) → costs scratch (bs ++ c ∷ cs) ≡ cost scratch c + costs scratch (bs ++ cs)
unfolding costs
costs-one scratch [] cs c = refl
costs-one scratch (b ∷ bs) cs c = let rest = costs-one scratch bs cs c in omega arith

pub readers-one : (h : Home) (bs cs : List Move) (c : Move) → readers h (bs ++ c ∷ cs) ≡ one_if (reads h c.from) + readers h (bs ++ cs)
unfolding readers
readers-one h [] cs c = refl
readers-one h (b ∷ bs) cs c = let rest = readers-one h bs cs c in omega arith

differ-rest : (bs cs : List Move) (c : Move) → Differ (bs ++ c ∷ cs) → Differ (bs ++ cs)
unfolding Differ
differ-rest [] cs c d = d.1
differ-rest (b ∷ bs) cs c d = (λ m h. d.0 m (has-more m c bs cs h), differ-rest bs cs c d.1)

differ-one : (bs cs : List Move) (c : Move) → Differ (bs ++ c ∷ cs) → (m : Move) → Has m (bs ++ cs) → m.to ≢ c.to
unfolding Differ Has
differ-one [] cs c d m h = d.0 m h
differ-one (b ∷ bs) cs c d m (inl e) = λ same. d.0 c (has-one c bs cs) (sym (sym (ap (λ (k : Move). k.to) e) ∙ same))
differ-one (b ∷ bs) cs c d m (inr h) = differ-one bs cs c d.1 m h

-- another move with the same destination
differ-same : (bs cs : List Move) (c e : Move) → e.to ≡ c.to → Differ (bs ++ c ∷ cs) → Differ (bs ++ e ∷ cs)
unfolding Differ
differ-same [] cs c e same d = (λ m h eq. d.0 m h (eq ∙ same), d.1)
differ-same (b ∷ bs) cs c e same d = (
  λ m h. elim (has-rest m e bs cs h) [
    | inl is ↦ λ eq. d.0 c (has-one c bs cs) (sym same ∙ sym (ap (λ (k : Move). k.to) is) ∙ eq)
    | inr r ↦ d.0 m (has-more m c bs cs r)
  ],
  differ-same bs cs c e same d.1,
)

pub unread : (h : Home) (cs : List Move) → readers h cs ≡ 0 → (d : Move) → Has d cs → reads h d.from ≡ false
unfolding readers Has
unread h [] f d has = absurd has
unread h (c ∷ cs) f d (inl e) =
    false_from_ne_true (reads h d.from) (λ t.
    let one : one_if (reads h c.from) ≡ 1 = ap one_if (sym (ap (λ (k : Move). reads h k.from) e) ∙ t) in absurd (omega arith))
unread h (c ∷ cs) f d (inr has) = unread h cs (omega arith) d has

pub reads-at : (h : Home) (a : Arg) → reads h a ≡ true → a ≡ At h
reads-at h (At g) t = ap At (same_home-true g h t)
reads-at h (Imm word) t = absurd (false≢true t)
reads-at h (Addr base offset) t = absurd (false≢true t)
reads-at h (Index base index shift) t = absurd (false≢true t)
reads-at h (FrameSlot number) t = absurd (false≢true t)

reader : (h : Home) (cs : List Move) → 0 < readers h cs → (d : Move) × Has d cs × (d.from ≡ At h)
unfolding readers Has
reader h [] t = absurd (omega arith)
reader h (c ∷ cs) t = elim (cases_Bool (reads h c.from)) [
  | inl here ↦ (c, inl refl, reads-at h c.from here)
  | inr not ↦
      let none : one_if (reads h c.from) ≡ 0 = ap one_if not in
      let r = reader h cs (omega arith) in (r.0, inr r.1, r.2)
]

-- ---- where every destination is read, all are cycles
sources : List Move → List Arg
sources [] = []
sources (c ∷ cs) = c.from ∷ sources cs

ends : List Move → List Arg
ends [] = []
ends (c ∷ cs) = At c.to ∷ ends cs

lengths : (cs : List Move) → length (sources cs) ≡ length (ends cs)
unfolding sources ends
lengths [] = refl
lengths (c ∷ cs) = ap suc (lengths cs)

has-source : (c : Move) (cs : List Move) → Has c cs → Has c.from (sources cs)
unfolding sources Has
has-source c [] h = absurd h
has-source c (d ∷ cs) (inl e) = inl (ap (λ (k : Move). k.from) e)
has-source c (d ∷ cs) (inr h) = inr (has-source c cs h)

has-end : (a : Arg) (cs : List Move) → Has a (ends cs) → (c : Move) × Has c cs × (a ≡ At c.to)
unfolding ends Has
has-end a [] h = absurd h
has-end a (c ∷ cs) (inl e) = (c, inl refl, e)
has-end a (c ∷ cs) (inr h) = let r = has-end a cs h in (r.0, inr r.1, r.2)

at-same : (p q : Home) → At p ≡ At q → p ≡ q
at-same p q e = cc

ends-alone : (cs : List Move) → Differ cs → Alone (ends cs)
unfolding ends Differ Alone
ends-alone [] d = tt
ends-alone (c ∷ cs) d =
    (λ a h e. let r = has-end a cs h in d.0 r.0 r.1 (at-same r.0.to c.to (sym r.2 ∙ e)), ends-alone cs d.1)

-- every destination is read
abbrev pub AreBlocked : List Move → Type 0
AreBlocked cs = (c : Move) → Has c cs → 0 < readers c.to cs

pub cycles : (cs : List Move) → Differ cs → AreBlocked cs → (m : Move) → Has m cs → (r : Move) × Has r cs × (m.from ≡ At r.to)
cycles cs d blocked m h =
    has-end m.from cs (pigeonhole (ends cs) (sources cs) (ends-alone cs d)
    (λ a ha. let r = has-end a cs ha in let w = reader r.0.to cs (blocked r.0 r.1) in subst (λ (x : Arg). Has x (sources cs)) (w.2 ∙ sym r.2) (has-source w.0 cs w.1))
    (let e = lengths cs in omega arith) m.from (has-source m cs h))

-- so none of them reads the scratch
pub blocked-unread : (scratch : Register) (cs : List Move) → Differ cs → ((c : Move) → Has c cs → c.to ≢ Reg scratch) → AreBlocked cs
    → (m : Move) → Has m cs → reads (Reg scratch) m.from ≡ false
blocked-unread scratch cs d apart blocked m h =
    let r = cycles cs d blocked m h in
    false_from_ne_true (reads (Reg scratch) m.from) (λ t. apart r.0 r.1 (at-same r.0.to (Reg scratch) (sym r.2 ∙ reads-at (Reg scratch) m.from t)))

-- and they don't all go up
no-ascent : (rank : Home → ℕ) (cs : List Move) → Differ cs → AreBlocked cs → Up rank cs → (n : ℕ) (m : Move) → Has m cs → rank m.to < n → ⊥
no-ascent rank cs d blocked up zero m h lt = omega arith
no-ascent rank cs d blocked up (suc n) m h lt =
    let r = cycles cs d blocked m h in
    let less : rank r.0.to < rank m.to = up m h r.0.to r.2 in
    no-ascent rank cs d blocked up n r.0 r.1 (omega arith)

-- ---- what moves are made of
due-drawn : (scratch : Register) (whole : List Move) (c : Move) → IsDue scratch whole c → IsDrawn scratch whole c
due-drawn scratch whole c due = record {
  given = due.given;
  has = due.has;
  is = elim due.is [ inl e ↦ inl e | inr e ↦ inr (inr e) ];
  goes = due.goes;
}

-- a pending move that doesn't read the scratch is whole
due-whole : (scratch : Register) (whole : List Move) (c : Move) → reads (Reg scratch) c.from ≡ false → (due : IsDue scratch whole c) → c ≡ due.given
due-whole scratch whole c unread due = elim due.is [
  | inl e ↦ e
  | inr e ↦ absurd (false≢true (sym unread ∙ ap (λ (m : Move). reads (Reg scratch) m.from) e ∙ same_home-refl (Reg scratch)))
]

saved-drawn : (scratch : Register) (whole : List Move) (c : Move) → reads (Reg scratch) c.from ≡ false → IsDue scratch whole c → IsDrawn scratch whole (saved scratch c)
saved-drawn scratch whole c unread due =
    record { given = due.given; has = due.has; is = inr (inl (ap (saved scratch) (due-whole scratch whole c unread due))); goes = unread }

saved-due : (scratch : Register) (whole : List Move) (c : Move) → reads (Reg scratch) c.from ≡ false → c.to ≢ Reg scratch → IsDue scratch whole c → IsDue scratch whole (from_scratch scratch c)
saved-due scratch whole c unread apart due = record {
  given = due.given;
  has = due.has;
  is = inr (ap (from_scratch scratch) (due-whole scratch whole c unread due));
  goes = same_home-false (Reg scratch) c.to (λ e. apart (sym e));
}

-- ---- the steps
cost-some : (scratch : Register) (c : Move) → 1 ≤ cost scratch c
cost-some scratch c = elim (cases_Bool (reads (Reg scratch) c.from)) [ inl t ↦ rw t (omega arith) | inr f ↦ rw f (omega arith) ]

cost-most : (scratch : Register) (c : Move) → cost scratch c ≤ 2
cost-most scratch c = elim (cases_Bool (reads (Reg scratch) c.from)) [ inl t ↦ rw t (omega arith) | inr f ↦ rw f (omega arith) ]

costs-most : (scratch : Register) (cs : List Move) → costs scratch cs ≤ 2 * length cs
unfolding costs
costs-most scratch [] = omega arith
costs-most scratch (c ∷ cs) = let one = cost-most scratch c in let rest = costs-most scratch cs in omega arith

pub going-first : (scratch : Register) (whole : List Move) → Differ whole → ((c : Move) → Has c whole → c.to ≢ Reg scratch) → ((c : Move) → Has c whole → IsSource c.from)
    → ((c : Move) → Has c whole → is_self c ≡ false) → Going scratch whole [] whole
unfolding run Runs saves Has
going-first scratch whole d apart sources goes = record {
  means = λ s t p. p;
  runs = λ s ready. (tt, ready);
  bound = let m = costs-most scratch whole in omega arith;
  made = omega arith;
  plain = λ rank up. (refl, up);
  differ = d;
  apart = apart;
  sources = sources;
  drawn = λ c h. absurd h;
  due = λ c h. record { given = c; has = h; is = inl refl; goes = goes c h };
}

pub going-last : (scratch : Register) (whole done : List Move) → Going scratch whole done []
    → ((s : Homes) → Parallel scratch whole s (run done s)) × (length done ≤ 2 * length whole)
unfolding costs Has
going-last scratch whole done g =
    (λ s. g.means s (run done s) (record { arrived = λ c h. absurd h; kept = λ p ne un. refl }), (let b = g.bound in omega arith))

pub going-move : (scratch : Register) (whole done bs cs : List Move) (c : Move) → readers c.to (bs ++ cs) ≡ 0 → Going scratch whole done (bs ++ c ∷ cs)
    → Going scratch whole (done ++ c ∷ []) (bs ++ cs)
going-move scratch whole done bs cs c free g =
    let none = unread c.to (bs ++ cs) free in
    let from : (d : Move) → Has d (bs ++ cs) → IsSource d.from = λ d h. g.sources d (has-more d c bs cs h) in
    let apart = g.apart c (has-one c bs cs) in
    record {
      means = λ s t p. g.means s t (parallel-first scratch bs cs c (run done s) t apart (differ-one bs cs c g.differ) from none
          (subst (λ (u : Homes). Parallel scratch (bs ++ cs) u t) (run-then done c s) p));
      runs = λ s ready. let r = g.runs s ready in (
        runs-then done c s r.0 (r.1 c (has-one c bs cs)),
        subst (AreReady (bs ++ cs)) (sym (run-then done c s)) (ready-first bs cs c (run done s) from none r.1),
      );
      bound = let b = g.bound in let e = costs-one scratch bs cs c in let l = length-then done c in let k = cost-some scratch c in omega arith;
      made =
          let m = g.made in let l = length-then done c in let e = length-one c bs cs in let n = saves-then scratch done c in
          let zero : one_if (same_home c.to (Reg scratch)) ≡ 0 = ap one_if (same_home-false c.to (Reg scratch) apart) in omega arith;
      plain = λ rank up.
          let r = g.plain rank up in
          let n = saves-then scratch done c in
          let none : one_if (same_home c.to (Reg scratch)) ≡ 0 = ap one_if (same_home-false c.to (Reg scratch) apart) in
          let before = r.0 in
          (omega arith, λ d h. r.1 d (has-more d c bs cs h));
      differ = differ-rest bs cs c g.differ;
      apart = λ d h. g.apart d (has-more d c bs cs h);
      sources = from;
      drawn = each-then (IsDrawn scratch whole) c done (due-drawn scratch whole c (g.due c (has-one c bs cs))) (λ d h. g.drawn d h);
      due = λ d h. g.due d (has-more d c bs cs h);
    }

pub going-saved : (scratch : Register) (whole done bs cs : List Move) (c : Move) → AreBlocked (bs ++ c ∷ cs)
    → Going scratch whole done (bs ++ c ∷ cs) → Going scratch whole (done ++ saved scratch c ∷ []) (bs ++ from_scratch scratch c ∷ cs)
going-saved scratch whole done bs cs c blocked g =
    let none = blocked-unread scratch (bs ++ c ∷ cs) g.differ g.apart blocked in
    let free : (d : Move) → Has d (bs ++ cs) → reads (Reg scratch) d.from ≡ false = λ d h. none d (has-more d c bs cs h) in
    let c' : Move = from_scratch scratch c in
    let two : cost scratch c ≡ 2 = ap (λ (b : Bool). if b then 1 else 2) (none c (has-one c bs cs)) in
    let one : cost scratch c' ≡ 1 = ap (λ (b : Bool). if b then 1 else 2) (same_home-refl (Reg scratch)) in
    record {
      means = λ s t p. g.means s t (parallel-saved scratch bs cs c (run done s) t g.sources free
          (subst (λ (u : Homes). Parallel scratch (bs ++ c' ∷ cs) u t) (run-then done (saved scratch c) s) p));
      runs = λ s ready. let r = g.runs s ready in (
        runs-then done (saved scratch c) s r.0 (r.1 c (has-one c bs cs)),
        subst (AreReady (bs ++ c' ∷ cs)) (sym (run-then done (saved scratch c) s)) (ready-saved scratch bs cs c (run done s) g.sources free r.1),
      );
      bound = let b = g.bound in let e = costs-one scratch bs cs c in let e' = costs-one scratch bs cs c' in let l = length-then done (saved scratch c) in omega arith;
      made =
          let m = g.made in let l = length-then done (saved scratch c) in let e = length-one c bs cs in let e' = length-one c' bs cs in
          let n = saves-then scratch done (saved scratch c) in
          let more : one_if (same_home (Reg scratch) (Reg scratch)) ≡ 1 = ap one_if (same_home-refl (Reg scratch)) in omega arith;
      plain = λ rank up. absurd (no-ascent rank (bs ++ c ∷ cs) g.differ blocked (g.plain rank up).1 (suc (rank c.to)) c (has-one c bs cs) (omega arith));
      differ = differ-same bs cs c c' refl g.differ;
      apart = λ d h. elim (has-rest d c' bs cs h) [
        | inl e ↦ λ same. g.apart c (has-one c bs cs) (sym (ap (λ (k : Move). k.to) e) ∙ same)
        | inr r ↦ g.apart d (has-more d c bs cs r)
      ];
      sources = λ d h. elim (has-rest d c' bs cs h) [
        | inl e ↦ subst (λ (k : Move). IsSource k.from) (sym e) tt
        | inr r ↦ g.sources d (has-more d c bs cs r)
      ];
      drawn = each-then (IsDrawn scratch whole) (saved scratch c) done (saved-drawn scratch whole c (none c (has-one c bs cs)) (g.due c (has-one c bs cs))) (λ d h. g.drawn d h);
      due = each-other (IsDue scratch whole) c c' bs cs (saved-due scratch whole c (none c (has-one c bs cs)) (g.apart c (has-one c bs cs)) (g.due c (has-one c bs cs))) (λ d h. g.due d h);
    }
