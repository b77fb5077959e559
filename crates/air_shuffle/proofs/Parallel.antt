-- The moves that are done and those that are pending are the whole, done at once.
use Rattle.std.proofs.Common.{◌≡◌, ◌≢◌, ℕ, inl, inr, false, Option, Some, List, ◌∷◌, ◌++◌, refl, sym, ap, ◌∙◌, subst}
use Rattle.std.proofs.lemmas.Bool.{false≢true}
use Rattle.b3_base.proofs.Widths.{low-low}
use Rattle.b3_base.specs.Arithmetic.{low}
use Rattle.b3_base.specs.declared.word.Width.{Width}
use Rattle.b3_base.specs.declared.word.Width.TheVariants.{W32, W64}
use Rattle.b3_ir.specs.declared.value.Reg.{Reg as Register}
use Rattle.air_ir.specs.Operands.{Held, Empty, Holds, Homes, put, read, same_home, word_of}
use Rattle.air_ir.specs.declared.operand.Home.{Home}
use Rattle.air_ir.specs.declared.operand.Home.TheVariants.{Reg}
use Rattle.air_ir.specs.declared.operand.Arg.{Arg}
use Rattle.air_ir.specs.declared.operand.Arg.TheVariants.{At, Imm, Addr, Index, FrameSlot}
use Rattle.air_ir.proofs.HomeLaws.{put-other, put-same, same_home-refl}
use Rattle.air_shuffle.specs.Moves.{IsSource, Move, from_scratch, reads}
use Rattle.air_shuffle.specs.Pending.{AreReady, Has, HasWord, Parallel, held, taken}
use Rattle.air_shuffle.proofs.Lists.{has-rest, has-more, has-one}

-- a source that doesn't read a home gives the same word after a write there
pub word-other : (s : Homes) (q : Home) (v : Held) (width : Width) (a : Arg) → IsSource a → reads q a ≡ false → word_of (put s q v) width a ≡ word_of s width a
unfolding word_of
word-other s q v width (At h) is f = ap (read width) (put-other s q h v (λ e. false≢true (sym f ∙ ap (λ g. same_home g q) e ∙ same_home-refl q)))
word-other s q v width (Imm word) is f = refl
word-other s q v width (Addr base offset) is f = absurd is
word-other s q v width (Index base index shift) is f = absurd is
word-other s q v width (FrameSlot number) is f = absurd is

read_held : (width : Width) (x : ℕ) → read width (Holds width x) ≡ Some (low width x)
unfolding read
read_held W32 x = refl
read_held W64 x = refl

read_again : (width : Width) (h : Held) → held width (read width (held width (read width h))) ≡ held width (read width h)
unfolding read
read_again W32 Empty = refl
read_again W64 Empty = refl
read_again W32 (Holds w x) = ap (Holds W32) (low-low W32 x)
read_again W64 (Holds W32 x) = refl
read_again W64 (Holds W64 x) = ap (Holds W64) (low-low W64 x)

-- what was taken is taken again from where it was put
pub taken_again : (s : Homes) (width : Width) (a : Arg) → IsSource a → held width (read width (held width (word_of s width a))) ≡ held width (word_of s width a)
unfolding word_of
taken_again s width (At h) is = read_again width (s h)
taken_again s width (Imm word) is = ap (held width) (read_held width (low width word)) ∙ ap (Holds width) (low-low width word)
taken_again s width (Addr base offset) is = absurd is
taken_again s width (Index base index shift) is = absurd is
taken_again s width (FrameSlot number) is = absurd is

-- a move whose destination no other reads may be done first
pub parallel-first : (scratch : Register) (bs cs : List Move) (c : Move) (s t : Homes) → c.to ≢ Reg scratch
    → ((d : Move) → Has d (bs ++ cs) → d.to ≢ c.to) → ((d : Move) → Has d (bs ++ cs) → IsSource d.from) → ((d : Move) → Has d (bs ++ cs) → reads c.to d.from ≡ false)
    → Parallel scratch (bs ++ cs) (put s c.to (taken s c)) t → Parallel scratch (bs ++ c ∷ cs) s t
parallel-first scratch bs cs c s t apart differ sources unread p =
    let v : Held = taken s c in
    let here : t c.to ≡ v = p.kept c.to apart (λ d h e. differ d h (sym e)) ∙ put-same s c.to c.to v refl in
    record {
      arrived = λ m h. elim (has-rest m c bs cs h) [
        | inl e ↦ subst (λ (k : Move). t k.to ≡ taken s k) (sym e) here
        | inr r ↦ p.arrived m r ∙ ap (held m.width) (word-other s c.to v m.width m.from (sources m r) (unread m r))
      ];
      kept = λ q ne un. p.kept q ne (λ d h. un d (has-more d c bs cs h)) ∙ put-other s c.to q v (un c (has-one c bs cs));
    }

pub ready-first : (bs cs : List Move) (c : Move) (s : Homes) → ((d : Move) → Has d (bs ++ cs) → IsSource d.from) → ((d : Move) → Has d (bs ++ cs) → reads c.to d.from ≡ false)
    → AreReady (bs ++ c ∷ cs) s → AreReady (bs ++ cs) (put s c.to (taken s c))
ready-first bs cs c s sources unread ready =
    λ d h. let r = ready d (has-more d c bs cs h) in (r.0, word-other s c.to (taken s c) d.width d.from (sources d h) (unread d h) ∙ r.1)

-- what is taken from the scratch is what was saved there
saved_word : (scratch : Register) (c : Move) (s : Homes) → word_of (put s (Reg scratch) (taken s c)) c.width (At (Reg scratch)) ≡ read c.width (taken s c)
unfolding word_of
saved_word scratch c s = ap (read c.width) (put-same s (Reg scratch) (Reg scratch) (taken s c) refl)

-- a source may be saved in the scratch that nobody reads, at its reader's width
pub parallel-saved : (scratch : Register) (bs cs : List Move) (c : Move) (s t : Homes)
    → ((d : Move) → Has d (bs ++ c ∷ cs) → IsSource d.from) → ((d : Move) → Has d (bs ++ cs) → reads (Reg scratch) d.from ≡ false)
    → Parallel scratch (bs ++ from_scratch scratch c ∷ cs) (put s (Reg scratch) (taken s c)) t → Parallel scratch (bs ++ c ∷ cs) s t
parallel-saved scratch bs cs c s t sources unread p =
    let v : Held = taken s c in
    let c' : Move = from_scratch scratch c in
    let was : t c.to ≡ held c.width (word_of (put s (Reg scratch) v) c.width (At (Reg scratch))) = p.arrived c' (has-one c' bs cs) in
    let is : t c.to ≡ v = was ∙ ap (held c.width) (saved_word scratch c s) ∙ taken_again s c.width c.from (sources c (has-one c bs cs)) in
    record {
      arrived = λ m h. elim (has-rest m c bs cs h) [
        | inl e ↦ subst (λ (k : Move). t k.to ≡ taken s k) (sym e) is
        | inr r ↦ p.arrived m (has-more m c' bs cs r) ∙ ap (held m.width) (word-other s (Reg scratch) v m.width m.from (sources m (has-more m c bs cs r)) (unread m r))
      ];
      kept = λ q ne un.
          p.kept q ne (λ d h. elim (has-rest d c' bs cs h) [
            | inl e ↦ λ same. un c (has-one c bs cs) (same ∙ ap (λ (k : Move). k.to) e)
            | inr r ↦ un d (has-more d c bs cs r)
          ]) ∙ put-other s (Reg scratch) q v ne;
    }

saved_there : (scratch : Register) (c : Move) (s : Homes) → HasWord s c → HasWord (put s (Reg scratch) (taken s c)) (from_scratch scratch c)
saved_there scratch c s r =
    let there : read c.width (taken s c) ≡ Some (low c.width r.0) = ap (λ (x : Option ℕ). read c.width (held c.width x)) r.1 ∙ read_held c.width r.0 in
    (low c.width r.0, saved_word scratch c s ∙ there)

pub ready-saved : (scratch : Register) (bs cs : List Move) (c : Move) (s : Homes)
    → ((d : Move) → Has d (bs ++ c ∷ cs) → IsSource d.from) → ((d : Move) → Has d (bs ++ cs) → reads (Reg scratch) d.from ≡ false)
    → AreReady (bs ++ c ∷ cs) s → AreReady (bs ++ from_scratch scratch c ∷ cs) (put s (Reg scratch) (taken s c))
ready-saved scratch bs cs c s sources unread ready =
    λ d h. elim (has-rest d (from_scratch scratch c) bs cs h) [
      | inl e ↦ subst (HasWord (put s (Reg scratch) (taken s c))) (sym e) (saved_there scratch c s (ready c (has-one c bs cs)))
      | inr r ↦
          let was = ready d (has-more d c bs cs r) in
          (was.0, word-other s (Reg scratch) (taken s c) d.width d.from (sources d (has-more d c bs cs r)) (unread d r) ∙ was.1)
    ]
