-- Members of lists, and the pigeonhole that tells cycles.
use Rattle.std.proofs.Common.{◌≡◌, ◌≢◌, suc, ◌≤◌, ◌⊎◌, inl, inr, List, [], ◌∷◌, ◌++◌, length, arith, refl, sym, ap, ◌∙◌, subst}
use Rattle.air_shuffle.specs.Pending.{Has}

module _ {A : Type 0} where
  -- the place of x in a list is between two parts
  pub record Split (x : A) (l : List A) : Type 0 where
    pub before : List A
    pub after : List A
    pub whole : l ≡ before ++ x ∷ after

  pub has-split : (x : A) (l : List A) → Has x l → Split x l
  unfolding Has
  has-split x [] h = absurd h
  has-split x (y ∷ ys) (inl e) = record { before = []; after = ys; whole = ap (λ z. z ∷ ys) (sym e) }
  has-split x (y ∷ ys) (inr h) = let r = has-split x ys h in record { before = y ∷ r.before; after = r.after; whole = ap (λ l. y ∷ l) r.whole }

  -- a member of the whole is the one or stands in the rest
  pub has-rest : (m x : A) (bs cs : List A) → Has m (bs ++ x ∷ cs) → (m ≡ x) ⊎ Has m (bs ++ cs)
  unfolding Has
  has-rest m x [] cs h = h
  has-rest m x (b ∷ bs) cs (inl e) = inr (inl e)
  has-rest m x (b ∷ bs) cs (inr h) = elim (has-rest m x bs cs h) [ inl e ↦ inl e | inr r ↦ inr (inr r) ]

  pub has-more : (m x : A) (bs cs : List A) → Has m (bs ++ cs) → Has m (bs ++ x ∷ cs)
  unfolding Has
  has-more m x [] cs h = inr h
  has-more m x (b ∷ bs) cs (inl e) = inl e
  has-more m x (b ∷ bs) cs (inr h) = inr (has-more m x bs cs h)

  pub has-one : (x : A) (bs cs : List A) → Has x (bs ++ x ∷ cs)
  unfolding Has
  has-one x [] cs = inl refl
  has-one x (b ∷ bs) cs = inr (has-one x bs cs)

  -- each member has a property, once one more has it, or one in place of another
  pub each-then : (P : A → Type 0) (x : A) (xs : List A) → P x → ((y : A) → Has y xs → P y) → (y : A) → Has y (xs ++ x ∷ []) → P y
  unfolding Has
  each-then P x [] px all y (inl e) = subst P (sym e) px
  each-then P x [] px all y (inr h) = absurd h
  each-then P x (z ∷ xs) px all y (inl e) = all y (inl e)
  each-then P x (z ∷ xs) px all y (inr h) = each-then P x xs px (λ m hm. all m (inr hm)) y h

  pub each-other : (P : A → Type 0) (x x' : A) (bs cs : List A) → P x' → ((y : A) → Has y (bs ++ x ∷ cs) → P y) → (y : A) → Has y (bs ++ x' ∷ cs) → P y
  each-other P x x' bs cs px all y h = elim (has-rest y x' bs cs h) [ inl e ↦ subst P (sym e) px | inr r ↦ all y (has-more y x bs cs r) ]

  pub length-one : (x : A) (bs cs : List A) → length (bs ++ x ∷ cs) ≡ suc (length (bs ++ cs))
  length-one x [] cs = refl
  length-one x (b ∷ bs) cs = ap suc (length-one x bs cs)

  unfoldable pub Alone : List A → Type 0
  Alone [] = Unit {0}
  Alone (x ∷ xs) = ((y : A) → Has y xs → y ≢ x) × Alone xs

  -- differing members of ss, as many as ss has places, are all that ss has
  pub pigeonhole : (ds ss : List A) → Alone ds → ((d : A) → Has d ds → Has d ss) → length ss ≤ length ds → (x : A) → Has x ss → Has x ds
  unfolding Has Alone
  pigeonhole [] [] alone within le x h = h
  pigeonhole [] (s ∷ ss) alone within le x h = absurd (omega arith)
  pigeonhole (d ∷ ds) ss alone within le x h =
      let p = has-split d ss (within d (inl refl)) in
      let size : length ss ≡ suc (length (p.before ++ p.after)) = ap length p.whole ∙ length-one d p.before p.after in
      let rest : (y : A) → Has y ds → Has y (p.before ++ p.after) = λ y hy.
      elim (has-rest y d p.before p.after (subst (Has y) p.whole (within y (inr hy)))) [ inl e ↦ absurd (alone.0 y hy e) | inr r ↦ r ] in
      elim (has-rest x d p.before p.after (subst (Has x) p.whole h)) [
        | inl e ↦ inl e
        | inr r ↦ inr (pigeonhole ds (p.before ++ p.after) alone.1 rest (omega arith) x r)
      ]
