-- The assignment of a colouring.
use Rattle.std.proofs.Common.{◌≡◌, ℕ, ◌+◌, ◌-◌, ◌<◌, inl, inr, true, Option, Some, None, List, length, map, take, get_or, arith, refl, sym, ap, ◌∙◌, subst}
use Rattle.std.specs.Prelude.{All, IfSome, slice_get}
use Rattle.std.proofs.lemmas.Bool.{cases_lt, false≢true, le-leb, le-ltb, lt-ltb}
use Rattle.std.proofs.lemmas.List.{get_or_default, get_or-map, get_or-take, get_or_past, length-map, length-take-le}
use Rattle.std.proofs.lemmas.Option.{get_or_from_slice_get, slice_get-get_or, slice_get_within, same_Some}
use Rattle.b3_ir.specs.declared.value.Reg.{Reg as Register}
use Rattle.stackmap.specs.Rules.{IsAllocatable}
use Rattle.air_ir.specs.declared.assignment.Assignment.{Assignment}
use Rattle.air_ir.specs.declared.operand.Home.{Home}
use Rattle.air_ir.specs.declared.operand.Home.TheVariants.{Tmp, Reg, Spill}
use Rattle.air_flow.specs.Interfere.{Interfere}
use Rattle.air_flow.specs.Proper.{IsProper, register_of}
use Rattle.air_graph.specs.Edges.{has_edge}
use Rattle.air_graph.specs.Homes.{above, edge_between, number_of, place_of, register_at}
use Rattle.air_graph.specs.declared.interference.Interference.{Interference}
use Rattle.air_graph.proofs.Numbers.{home_high, home_low, numbered, register_high, register_low}
use Rattle.air_colour.specs.Assigned.{IsBarred, IsColouringOf, as_register, class_of, graph_in, colours, moves_in, stands_in}
use Rattle.air_colour.specs.Classes.{classes_left, Joined}
use Rattle.air_colour.specs.Colouring.{IsBarredFrom, IsColouring}
use Rattle.air_colour.specs.Homes.{register_of as rank_of}
use Rattle.air_colour.specs.Interference.{IsIn}
use Rattle.air_colour.specs.Kept.{given_in}
use Rattle.air_ir.specs.declared.procedure.AirProc.{AirProc}
use Rattle.air_graph.specs.Graph.{IsInterferenceOf}

-- registers by their places
place_is : (j k : ℕ) → register_at j ≡ register_at k → j ≡ k
place_is j k e =
    elim (cases_lt j 15) [
      | inl lj ↦
          let rj = register_low j lj in
          elim (cases_lt k 15) [
            | inl lk ↦ let rk = register_low k lk in omega (arith, e, rj, rk)
            | inr lk ↦ let rk = register_high k lk in absurd (omega (arith, e, rj, rk, lj, lk))
          ]
      | inr lj ↦
          let rj = register_high j lj in
          elim (cases_lt k 15) [
            | inl lk ↦ let rk = register_low k lk in absurd (omega (arith, e, rj, rk, lj, lk))
            | inr lk ↦ let rk = register_high k lk in omega (arith, e, rj, rk)
          ]
    ]

allocatable : (k : ℕ) → k < 25 → IsAllocatable (record { 0 = register_at k })
allocatable k lt =
    elim (cases_lt k 15) [
      | inl low ↦ let r = register_low k low in inl (omega (arith, r, low))
      | inr high ↦ let r = register_high k high in inr (omega (arith, r, high), omega (arith, r, lt))
    ]

given_of : (o : Option ℕ) (reg : Register) → as_register o ≡ Some reg → (k : ℕ) × (o ≡ Some k) × (register_at k ≡ reg.0)
given_of (Some k) reg e = (k, refl, ap (λ (r : Register). r.0) (same_Some (record { 0 = register_at k }) reg e))
given_of None reg e = absurd (cc)

none_of : (o : Option ℕ) → as_register o ≡ None → o ≡ None
none_of (Some k) e = absurd (cc)
none_of None e = refl

-- which homes have numbers
has_number : (tmps : ℕ) (r : Register) → IsAllocatable r → number_of tmps (Reg r) ≡ None → ⊥
has_number tmps r (inl low) e =
    let at : place_of r.0 ≡ Some r.0 = rw (lt-ltb r.0 15 (omega (arith, low))) refl in
    let f : above tmps (Some r.0) ≡ None = sym (ap (above tmps) at) ∙ e in cc
has_number tmps r (inr high) e =
    let at : place_of r.0 ≡ Some (r.0 - 4) = rw (le-ltb r.0 15 (omega (arith, high)), le-ltb r.0 19 high.0, lt-ltb r.0 29 (omega (arith, high))) refl in
    let f : above tmps (Some (r.0 - 4)) ≡ None = sym (ap (above tmps) at) ∙ e in cc

edge_numbers : (g : Interference) (m n : Option ℕ) → edge_between g.edges m n ≡ true
    → (i : ℕ) × (j : ℕ) × (m ≡ Some i) × (n ≡ Some j) × (has_edge g.edges i j ≡ true)
edge_numbers g (Some i) (Some j) t = (i, j, refl, refl, t)
edge_numbers g (Some i) None t = absurd (false≢true t)
edge_numbers g None n t = absurd (false≢true t)

module _ (g : Interference) (given : List (Option ℕ)) (joins : List ℕ) (long : length given ≡ g.tmps + 25)
    (col : IsColouring colours (graph_in g) (rank_of g.tmps) (moves_in g) joins (given_in given))
    (a : Assignment) (homes : a.homes ≡ map as_register (take g.tmps given)) (joined : a.joins ≡ joins) where
  home : (n : ℕ) → n < g.tmps + 25 → IsIn (graph_in g) n
  home n lt = (lt, refl)

  front_long : length (take g.tmps given) ≡ g.tmps
  front_long = length-take-le g.tmps given (omega (arith, long))

  homes_long : length a.homes ≡ g.tmps
  homes_long = ap (λ (l : List (Option Register)). length l) homes ∙ length-map (take g.tmps given) as_register ∙ front_long

  at_home : (n : ℕ) → n < g.tmps → get_or a.homes n None ≡ as_register (given_in given n)
  at_home n lt =
      ap (λ (l : List (Option Register)). get_or l n None) homes
      ∙ get_or-map as_register (take g.tmps given) n None None (omega (arith, front_long, lt))
      ∙ ap as_register (get_or-take g.tmps given n None lt)

  stands_is : (n : ℕ) → n < g.tmps + 25 → stands_in g a n ≡ as_register (given_in given n)
  stands_is n lt =
      elim (cases_lt n g.tmps) [
        | inl low ↦ ap (register_of a) (home_low g.tmps n low) ∙ at_home n low
        | inr high ↦
            ap (register_of a) (home_high g.tmps n high)
            ∙ sym (ap as_register (col.itself n (home n lt) (le-leb g.tmps n high)))
      ]

  temporary : (number : ℕ) (r : Option Register) → slice_get a.homes number ≡ Some r → (number < g.tmps) × (as_register (given_in given number) ≡ r)
  temporary number r e =
      let lt : number < g.tmps = let l = slice_get_within a.homes number r e in omega (arith, l, homes_long) in
      (lt, sym (at_home number lt) ∙ get_or_from_slice_get a.homes number r None e)

  allocated : (number : ℕ) (reg : Register) → slice_get a.homes number ≡ Some (Some reg) → IsAllocatable reg
  allocated number reg e =
      let t = temporary number (Some reg) e in
      let k = given_of (given_in given number) reg t.1 in
      let below = col.below number k.0 (home number (omega (arith, t.0))) k.1 in
      subst (λ (x : ℕ). IsAllocatable (record { 0 = x })) k.2 (allocatable k.0 below)

  apart_by : (i j : ℕ) (reg : Register) → i < g.tmps + 25 → j < g.tmps + 25 → has_edge g.edges i j ≡ true
      → stands_in g a i ≡ Some reg → stands_in g a j ≡ Some reg → ⊥
  apart_by i j reg li lj t ei ej =
      let gi = given_of (given_in given i) reg (sym (stands_is i li) ∙ ei) in
      let gj = given_of (given_in given j) reg (sym (stands_is j lj) ∙ ej) in
      let same : gj.0 ≡ gi.0 = place_is gj.0 gi.0 (gj.2 ∙ sym gi.2) in
      col.proper i j gi.0 (home i li) (home j lj) t gi.1 (gj.1 ∙ ap (λ (k : ℕ). Some k) same)

  class_is : (n : ℕ) → class_of g a n ≡ classes_left (graph_in g) (moves_in g) joins n
  class_is n = ap (λ (l : List ℕ). classes_left (graph_in g) (moves_in g) l n) joined

  barred : (number k : ℕ) → number < g.tmps → given_in given number ≡ None → k < colours → IsBarred g a number k
  barred number k lt none below =
      let b : IsBarredFrom (graph_in g) (classes_left (graph_in g) (moves_in g) joins) (given_in given) number k =
      col.spilled number k (home number (omega (arith, lt))) none below in
      record {
        member = b.member;
        other = b.other;
        together = class_is b.member ∙ b.together ∙ sym (class_is number);
        meets = b.meets;
        stands = stands_is b.other b.other_in.0 ∙ ap as_register b.has;
      }

  pub assigned : IsColouringOf g a
  assigned = record {
    tmps = homes_long;
    registers = allocated;
    apart = λ x y reg t ex ey.
        let n = edge_numbers g (number_of g.tmps x) (number_of g.tmps y) t in
        let hx = numbered g.tmps x n.0 n.2 in
        let hy = numbered g.tmps y n.1 n.3 in
        apart_by n.0 n.1 reg hx.0 hy.0 n.4 (ap (register_of a) (sym hx.1) ∙ ex) (ap (register_of a) (sym hy.1) ∙ ey);
    joined = subst (λ (l : List ℕ). Joined colours (graph_in g) (moves_in g) l) (sym joined) col.joined;
    together = λ i j li lj e.
        stands_is i li ∙ ap as_register (col.together i j (home i li) (home j lj) (sym (class_is i) ∙ e ∙ class_is j)) ∙ sym (stands_is j lj);
    easy = λ easy number e.
        let t = temporary number None e in
        col.easy easy number (home number (omega (arith, t.0))) (none_of (given_in given number) t.1);
    spilled = λ number k e lt. let t = temporary number None e in barred number k t.0 (none_of (given_in given number) t.1) lt;
  }

if_some : (o : Option ℕ) → ((r : ℕ) → o ≡ Some r → r < 25) → IfSome o (λ k. k < 25)
if_some (Some r) below = below r refl
if_some None below = tt

pub few_given : (given : List (Option ℕ)) (tmps : ℕ) → length given ≡ tmps + 25 → ((u r : ℕ) → u < tmps + 25 → given_in given u ≡ Some r → r < 25)
    → All (λ g. IfSome g (λ k. k < 25)) (take tmps given)
few_given given tmps long below k d lt =
    let lt' : k < tmps = let l = length-take-le tmps given (omega (arith, long)) in omega (arith, lt, l) in
    let same : get_or (take tmps given) k d ≡ given_in given k =
    get_or-take tmps given k d lt' ∙ get_or_default given k d None (omega (arith, lt', long)) in
    subst (λ (o : Option ℕ). IfSome o (λ k. k < 25)) (sym same) (if_some (given_in given k) (λ r e. below k r (omega (arith, lt')) e))

-- ---- the condition of rewriting

module _ (g : Interference) (a : Assignment) (is : IsColouringOf g a) (p : AirProc) (of : IsInterferenceOf p g) where
  -- a home without a number has no register but its own
  itself : (x : Home) (reg : Register) → number_of p.tmps x ≡ None → register_of a x ≡ Some reg
      → (x ≡ Reg reg) × (number_of p.tmps (Reg reg) ≡ None)
  itself (Tmp m) reg e f =
      elim (cases_lt m p.tmps) [
        | inl lt ↦ absurd (let s : Some m ≡ None = sym (rw (lt-ltb m p.tmps lt) refl) ∙ e in cc)
        | inr le ↦
            let past : get_or a.homes m None ≡ None = get_or_past a.homes m None (omega (arith, le, is.tmps, of.tmps)) in
            absurd (let s : None ≡ Some reg = sym past ∙ f in cc)
      ]
  itself (Reg r) reg e f = let same : r ≡ reg = same_Some r reg f in (ap Reg same, subst (λ (s : Register). number_of p.tmps (Reg s) ≡ None) same e)
  itself (Spill m) reg e f = absurd (cc)

  -- one that has a register that values can't stand in is that register
  only_itself : (x : Home) (reg : Register) → number_of p.tmps (Reg reg) ≡ None → register_of a x ≡ Some reg → x ≡ Reg reg
  only_itself (Tmp m) reg none f =
      elim (cases_lt m (length a.homes)) [
        | inl lt ↦
            absurd (has_number p.tmps reg (is.registers m reg (slice_get-get_or a.homes m None lt ∙ ap (λ (o : Option Register). Some o) f)) none)
        | inr le ↦ absurd (let s : None ≡ Some reg = sym (get_or_past a.homes m None le) ∙ f in cc)
      ]
  only_itself (Reg r) reg none f = ap Reg (same_Some r reg f)
  only_itself (Spill m) reg none f = absurd (cc)

  apart : (x y : Home) (reg : Register) (m n : Option ℕ) → number_of p.tmps x ≡ m → number_of p.tmps y ≡ n → Interfere p x y
      → register_of a x ≡ Some reg → register_of a y ≡ Some reg → ⊥
  apart x y reg (Some i) (Some j) ex ey meet fx fy =
      let t : has_edge g.edges i j ≡ true = (of.meets x y i j ex ey).1 meet in
      let ex' : number_of g.tmps x ≡ Some i = ap (λ (k : ℕ). number_of k x) of.tmps ∙ ex in
      let ey' : number_of g.tmps y ≡ Some j = ap (λ (k : ℕ). number_of k y) of.tmps ∙ ey in
      is.apart x y reg (rw (ex', ey') t) fx fy
  apart x y reg None n ex ey meet fx fy =
      let i = itself x reg ex fx in
      meet.0 (i.0 ∙ sym (only_itself y reg i.1 fy))
  apart x y reg (Some i) None ex ey meet fx fy =
      let j = itself y reg ey fy in
      meet.0 (only_itself x reg j.1 fx ∙ sym j.0)

  pub proper : IsProper p a
  proper = record {
    tmps = is.tmps ∙ of.tmps;
    registers = is.registers;
    apart = λ x y reg meet fx fy. apart x y reg (number_of p.tmps x) (number_of p.tmps y) refl refl meet fx fy;
  }
