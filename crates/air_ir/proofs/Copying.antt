-- What the copies of a Move or a Shuffle leave by renamed homes, without those whose homes have become one.
use Rattle.std.proofs.Common.{◌≡◌, ◌≢◌, ℕ, ◌⊎◌, inl, inr, true, false, if◌then◌else◌, Option, Some, None, List, [], ◌∷◌, map, refl, sym, ap, ◌∙◌, subst}
use Rattle.std.proofs.lemmas.Bool.{cases_Bool, false≢true}
use Rattle.b3_base.specs.declared.word.Width.{Width}
use Rattle.air_ir.specs.Operands.{Held, Holds, Homes, Read, Target, and_word, put, put_all, read, same_home, targets, word_of, words}
use Rattle.air_ir.specs.Related.{AreFine, Gives, IsTarget, IsUsed, Refines}
use Rattle.air_ir.specs.Renaming.{Copy, copy_operands, is_joined, kept, rename_arg, rename_copy}
use Rattle.air_ir.specs.declared.operand.Home.{Home}
use Rattle.air_ir.specs.declared.operand.Arg.{Arg}
use Rattle.air_ir.specs.declared.operand.Arg.TheVariants.{At, Imm, Addr, Index, FrameSlot}
use Rattle.air_ir.proofs.HomeLaws.{Refines-at, Refines-same, cases_home, copy-refines, put-other, put-same, same_home-refl, same_home-true}
use Rattle.air_ir.proofs.Reading.{gives-word}

-- the words alone
abbrev pub plain : List Read → List ℕ
plain ws = map (λ (r : Read). r.1) ws

cases_source : (arg : Arg) (h : Home) → (arg ≡ At h) ⊎ (arg ≢ At h)
cases_source (At g) h = elim (cases_home g h) [ inl e ↦ inl (ap At e) | inr ne ↦ inr (λ e. ne (cc)) ]
cases_source (Imm word) h = inr (λ e. cc)
cases_source (Addr base offset) h = inr (λ e. cc)
cases_source (Index base index shift) h = inr (λ e. cc)
cases_source (FrameSlot number) h = inr (λ e. cc)

module _ (loc : Home → Home) where
  joined_home : (arg : Arg) (to : Home) → is_joined loc arg to ≡ true → (h : Home) × (arg ≡ At h) × (loc h ≡ loc to)
  joined_home (At h) to e = (h, refl, same_home-true (loc h) (loc to) e)
  joined_home (Imm word) to e = absurd (false≢true e)
  joined_home (Addr base offset) to e = absurd (false≢true e)
  joined_home (Index base index shift) to e = absurd (false≢true e)
  joined_home (FrameSlot number) to e = absurd (false≢true e)

  not_joined : (arg : Arg) (to h : Home) → is_joined loc arg to ≡ false → arg ≡ At h → loc h ≢ loc to
  not_joined arg to h f e same =
      let t : is_joined loc (At h) to ≡ true = ap (λ g. same_home g (loc to)) same ∙ same_home-refl (loc to) in
      false≢true (sym f ∙ ap (λ a. is_joined loc a to) e ∙ t)

  kept-joined : (c : Copy) (cs : List Copy) → is_joined loc c.from c.to ≡ true → kept loc (c ∷ cs) ≡ kept loc cs
  unfolding kept
  kept-joined c cs e = ap (λ b. if b then kept loc cs else rename_copy loc c ∷ kept loc cs) e

  kept-other : (c : Copy) (cs : List Copy) → is_joined loc c.from c.to ≡ false → kept loc (c ∷ cs) ≡ rename_copy loc c ∷ kept loc cs
  unfolding kept
  kept-other c cs e = ap (λ b. if b then kept loc cs else rename_copy loc c ∷ kept loc cs) e

  module _ (Live : Home → Type 0) (s₀ t₀ : Homes) where
    unfoldable pub After : Option (List Read) → Option (List Read) → List Target → List Target → Homes → Homes → Type 0
    After None low ts us s t = Unit {0}
    After (Some ws) low ts us s t =
        (vs : List Read) × (low ≡ Some vs) × ((h : Home) → Live h → Refines (put_all ts (plain ws) s h) (put_all us (plain vs) t (loc h)))

    after-kept : (rest lows : Option (List Read)) (ts us : List Target) (s t : Homes) (x : ℕ) (to : Home) (width : Width)
        → After rest lows ts us (put s to (Holds width x)) (put t (loc to) (Holds width x))
        → After (and_word width (Some x) rest) (and_word width (Some x) lows) (record { home = to; width = width } ∷ ts) (record { home = loc to; width = width } ∷ us) s t
    unfolding After put_all
    after-kept None lows ts us s t x to width r = tt
    after-kept (Some ws) lows ts us s t x to width r = ((width, x) ∷ r.0, rw r.1 refl, r.2)

    after-left_out : (rest lows : Option (List Read)) (ts us : List Target) (s t : Homes) (x : ℕ) (to : Home) (width : Width)
        → After rest lows ts us (put s to (Holds width x)) t
        → After (and_word width (Some x) rest) lows (record { home = to; width = width } ∷ ts) us s t
    unfolding After put_all
    after-left_out None lows ts us s t x to width r = tt
    after-left_out (Some ws) lows ts us s t x to width r = r

    -- the homes while the copies of a list are still to be made
    pub record Between (cs : List Copy) (s t : Homes) : Type 0 where
      pub done : (h : Home) → Live h → (IsTarget h (targets (copy_operands cs)) → ⊥) → Refines (s h) (t (loc h))
      pub untouched : (h : Home) → Live h → IsTarget h (targets (copy_operands cs)) → t (loc h) ≡ t₀ (loc h)

    between-left_out : (c : Copy) (cs : List Copy) (s t : Homes) (x : ℕ) → word_of t₀ c.width (rename_arg loc c.from) ≡ Some x
        → is_joined loc c.from c.to ≡ true → Between (c ∷ cs) s t → Between cs (put s c.to (Holds c.width x)) t
    unfolding copy_operands targets IsTarget word_of
    between-left_out c cs s t x g e b =
        let v : Held = Holds c.width x in
        let j = joined_home c.from c.to e in
        let is : read c.width (t₀ (loc j.0)) ≡ Some x = ap (λ a. word_of t₀ c.width (rename_arg loc a)) (sym j.1) ∙ g in
        record {
          done = λ h live rest. elim (cases_home h c.to) [
            | inl same ↦
                let at : t (loc h) ≡ t₀ (loc j.0) = b.untouched h live (inl same) ∙ ap t₀ (ap loc same ∙ sym j.2) in
                Refines-at (put s c.to v h) (t (loc h)) v (t₀ (loc j.0)) (put-same s c.to h v same) at (copy-refines c.width (t₀ (loc j.0)) x is)
            | inr ne ↦
                Refines-at (put s c.to v h) (t (loc h)) (s h) (t (loc h)) (put-other s c.to h v ne) refl
                (b.done h live (λ w. elim w [ inl here ↦ ne here | inr there ↦ rest there ]))
          ];
          untouched = λ h live w. b.untouched h live (inr w);
        }

    between-kept : (c : Copy) (cs : List Copy) (s t : Homes) (x : ℕ) → AreFine loc Live (c ∷ cs)
        → is_joined loc c.from c.to ≡ false → Between (c ∷ cs) s t → Between cs (put s c.to (Holds c.width x)) (put t (loc c.to) (Holds c.width x))
    unfolding copy_operands targets IsTarget
    between-kept c cs s t x fine f b =
        let v : Held = Holds c.width x in
        let apart : (h : Home) → Live h → h ≢ c.to → loc h ≢ loc c.to = λ h live ne.
        elim (cases_source c.from h) [ inl e ↦ not_joined c.from c.to h f e | inr other ↦ fine.1 h live ne other ] in
        record {
          done = λ h live rest. elim (cases_home h c.to) [
            | inl same ↦
                Refines-at (put s c.to v h) (put t (loc c.to) v (loc h)) v v (put-same s c.to h v same) (put-same t (loc c.to) (loc h) v (ap loc same)) (Refines-same v v refl)
            | inr ne ↦
                Refines-at (put s c.to v h) (put t (loc c.to) v (loc h)) (s h) (t (loc h)) (put-other s c.to h v ne) (put-other t (loc c.to) (loc h) v (apart h live ne))
                (b.done h live (λ w. elim w [ inl here ↦ ne here | inr there ↦ rest there ]))
          ];
          untouched = λ h live w.
              let ne : h ≢ c.to = λ same. fine.0 (subst (λ g. IsTarget g (targets (copy_operands cs))) same w) in
              put-other t (loc c.to) (loc h) v (apart h live ne) ∙ b.untouched h live (inr w);
        }

    copies-step : (c : Copy) (cs : List Copy) (s t : Homes) (x : Option ℕ) (rest : Option (List Read)) → Gives x (word_of t₀ c.width (rename_arg loc c.from)) → AreFine loc Live (c ∷ cs) → Between (c ∷ cs) s t
        → ((s' t' : Homes) → Between cs s' t' → After rest (words t₀ (copy_operands (kept loc cs))) (targets (copy_operands cs)) (targets (copy_operands (kept loc cs))) s' t')
        → After (and_word c.width x rest) (words t₀ (copy_operands (kept loc (c ∷ cs)))) (targets (copy_operands (c ∷ cs))) (targets (copy_operands (kept loc (c ∷ cs)))) s t
    unfolding After copy_operands words targets Gives
    copies-step c cs s t None rest g fine b more = tt
    copies-step c cs s t (Some x) rest g fine b more =
        let Goal : List Copy → Type 0 = λ ks. After (and_word c.width (Some x) rest) (words t₀ (copy_operands ks)) (targets (copy_operands (c ∷ cs))) (targets (copy_operands ks)) s t in
        let v : Held = Holds c.width x in
        elim (cases_Bool (is_joined loc c.from c.to)) [
          | inl e ↦ subst Goal (sym (kept-joined c cs e))
              (after-left_out rest (words t₀ (copy_operands (kept loc cs))) (targets (copy_operands cs)) (targets (copy_operands (kept loc cs))) s t x c.to c.width
              (more (put s c.to v) t (between-left_out c cs s t x g e b)))
          | inr f ↦ subst Goal (sym (kept-other c cs f))
              (rw g (after-kept rest (words t₀ (copy_operands (kept loc cs))) (targets (copy_operands cs)) (targets (copy_operands (kept loc cs))) s t x c.to c.width
              (more (put s c.to v) (put t (loc c.to) v) (between-kept c cs s t x fine f b))))
        ]

    pub copies-refine : (cs : List Copy) (s t : Homes) → AreFine loc Live cs → ((h : Home) → IsUsed h (copy_operands cs) → Refines (s₀ h) (t₀ (loc h))) → Between cs s t
        → After (words s₀ (copy_operands cs)) (words t₀ (copy_operands (kept loc cs))) (targets (copy_operands cs)) (targets (copy_operands (kept loc cs))) s t
    unfolding After copy_operands words targets kept IsUsed IsTarget put_all
    copies-refine [] s t fine uses b = ([], refl, λ h live. b.done h live (λ none. none))
    copies-refine (c ∷ cs) s t fine uses b =
        copies-step c cs s t (word_of s₀ c.width c.from) (words s₀ (copy_operands cs)) (gives-word loc s₀ t₀ c.width c.from (λ h u. uses h (inl u))) fine b
        (λ s' t' b'. copies-refine cs s' t' fine.2 (λ h u. uses h (inr (inr u))) b')
