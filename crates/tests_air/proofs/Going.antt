-- Moves that may be put in order.
use Rattle.std.proofs.Common.{◌≡◌, ◌≢◌, Bool, true, false, ◌&&◌, List, [], ◌∷◌, length, All, arith, refl, sym, ap, ◌∙◌}
use Rattle.std.specs.Prelude.{AllPairs, not}
use Rattle.std.specs.List.{list_any}
use Rattle.std.proofs.lemmas.Bool.{and_parts, false≢true, not-true, or_left, or_right, false_from_ne_true}
use Rattle.std.proofs.lemmas.List.Elements.{All-cons, All-nil}
use Rattle.std.proofs.lemmas.List.Kept.{AllPairs-cons}
use Rattle.b3_ir.specs.declared.value.Reg.{Reg as Register}
use Rattle.air_ir.specs.Operands.{same_home}
use Rattle.air_ir.specs.declared.operand.Home.{Home}
use Rattle.air_ir.specs.declared.operand.Home.TheVariants.{Reg}
use Rattle.air_ir.specs.declared.operand.Arg.{Arg}
use Rattle.air_ir.specs.declared.operand.Arg.TheVariants.{At, Imm, Addr, Index, FrameSlot}
use Rattle.air_ir.proofs.HomeLaws.{same_home-refl}
use Rattle.air_shuffle.specs.Moves.{IsSource, writes}
use Rattle.air_shuffle.specs.declared.moves.Move.{Move}
use Rattle.tests_air.specs.Orderable.{goes_before, is_source, may_go}

pub may-none : (scratch : Register) (l : List Move) → length l ≡ 0 → may_go scratch l ≡ true
unfolding may_go
may-none scratch [] e = refl
may-none scratch (c ∷ cs) e = absurd (omega arith)

pub may-not : (scratch : Register) (l : List Move) (c : Move) (cs : List Move) → l ≡ c ∷ cs → goes_before scratch c cs ≡ false → may_go scratch l ≡ false
unfolding may_go
may-not scratch l c cs e f = ap (may_go scratch) e ∙ ap (λ (b : Bool). b && may_go scratch cs) f

pub may-later : (scratch : Register) (l : List Move) (c : Move) (cs : List Move) → l ≡ c ∷ cs → goes_before scratch c cs ≡ true → may_go scratch l ≡ may_go scratch cs
unfolding may_go
may-later scratch l c cs e t = ap (may_go scratch) e ∙ ap (λ (b : Bool). b && may_go scratch cs) t

source-is : (a : Arg) → is_source a ≡ true → IsSource a
source-is (At home) t = tt
source-is (Imm word) t = tt
source-is (Addr base offset) t = absurd (false≢true t)
source-is (Index base index shift) t = absurd (false≢true t)
source-is (FrameSlot number) t = absurd (false≢true t)

other-home : (g h : Home) → same_home g h ≡ false → g ≢ h
other-home g h f e = false≢true (sym f ∙ ap (same_home g) (sym e) ∙ same_home-refl g)

none-writes : (h : Home) (cs : List Move) → list_any (writes h) cs ≡ false → All (λ (d : Move). h ≢ d.to) cs
none-writes h [] f = All-nil (λ (d : Move). h ≢ d.to)
none-writes h (d ∷ cs) f =
    let here : writes h d ≡ false = false_from_ne_true (writes h d) (λ t. false≢true (sym f ∙ or_left (writes h d) (list_any (writes h) cs) t)) in
    let there : list_any (writes h) cs ≡ false = false_from_ne_true (list_any (writes h) cs) (λ t. false≢true (sym f ∙ or_right (writes h d) (list_any (writes h) cs) t)) in
    All-cons (λ (e : Move). h ≢ e.to) d cs (λ e. other-home d.to h here (sym e)) (none-writes h cs there)

-- what `sequence` asks
pub record MayGo (scratch : Register) (ms : List Move) : Type 0 where
  pub sources : All (λ (c : Move). IsSource c.from) ms
  pub differ : AllPairs (λ (c d : Move). c.to ≢ d.to) ms
  pub apart : All (λ (c : Move). c.to ≢ Reg scratch) ms

no-pairs : AllPairs (λ (c d : Move). c.to ≢ d.to) []
no-pairs i j d less lt = absurd (omega arith)

pub may : (scratch : Register) (ms : List Move) → may_go scratch ms ≡ true → MayGo scratch ms
unfolding may_go
may scratch [] t = record { sources = All-nil (λ (c : Move). IsSource c.from); differ = no-pairs; apart = All-nil (λ (c : Move). c.to ≢ Reg scratch) }
may scratch (c ∷ cs) t =
    let both = and_parts (goes_before scratch c cs) (may_go scratch cs) t in
    let parts = and_parts (is_source c.from) (not (same_home c.to (Reg scratch)) && not (list_any (writes c.to) cs)) both.0 in
    let own = and_parts (not (same_home c.to (Reg scratch))) (not (list_any (writes c.to) cs)) parts.1 in
    let rest = may scratch cs both.1 in
    record {
      sources = All-cons (λ (d : Move). IsSource d.from) c cs (source-is c.from parts.0) rest.sources;
      differ = AllPairs-cons (λ (d e : Move). d.to ≢ e.to) c cs (none-writes c.to cs (not-true (list_any (writes c.to) cs) own.1)) rest.differ;
      apart = All-cons (λ (d : Move). d.to ≢ Reg scratch) c cs (other-home c.to (Reg scratch) (not-true (same_home c.to (Reg scratch)) own.0)) rest.apart;
    }
