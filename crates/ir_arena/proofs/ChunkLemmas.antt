-- Lists of 64 items each, and the list that they make end to end.
use Rattle.std.proofs.Common.{◌≡◌, ℕ, zero, suc, ◌+◌, ◌*◌, ◌/◌, ◌%◌, ◌<◌, List, [], ◌∷◌, ◌++◌, length, get_or, set, slice_get, All, Some, refl, sym, ap, ◌∙◌, arith, length-append}
use Rattle.std.proofs.lemmas.List.{get_or_default}
use Rattle.std.proofs.lemmas.Option.{slice_get_within}
use Rattle.std.specs.List.{flat_map}

module _ {A : Type 0} where
  pub slice_get-append_left : (xs ys : List A) (i : ℕ) → i < length xs → slice_get (xs ++ ys) i ≡ slice_get xs i
  slice_get-append_left [] ys i h = absurd (omega arith)
  slice_get-append_left (x ∷ xs) ys zero h = refl
  slice_get-append_left (x ∷ xs) ys (suc i) h = slice_get-append_left xs ys i (omega arith)

  pub slice_get-append_right : (xs ys : List A) (n i : ℕ) → n ≡ length xs + i → slice_get (xs ++ ys) n ≡ slice_get ys i
  slice_get-append_right [] ys n i h = ap (slice_get ys) (omega arith)
  slice_get-append_right (x ∷ xs) ys zero i h = absurd (omega arith)
  slice_get-append_right (x ∷ xs) ys (suc n) i h = slice_get-append_right xs ys n i (omega arith)

  pub set-append_left : (xs ys : List A) (i : ℕ) (v : A) → i < length xs → set (xs ++ ys) i v ≡ set xs i v ++ ys
  set-append_left [] ys i v h = absurd (omega arith)
  set-append_left (x ∷ xs) ys zero v h = refl
  set-append_left (x ∷ xs) ys (suc i) v h = ap (λ (l : List A). x ∷ l) (set-append_left xs ys i v (omega arith))

  pub set-append_right : (xs ys : List A) (n i : ℕ) (v : A) → n ≡ length xs + i → set (xs ++ ys) n v ≡ xs ++ set ys i v
  set-append_right [] ys n i v h = ap (λ (k : ℕ). set ys k v) (omega arith)
  set-append_right (x ∷ xs) ys zero i v h = absurd (omega arith)
  set-append_right (x ∷ xs) ys (suc n) i v h = ap (λ (l : List A). x ∷ l) (set-append_right xs ys n i v (omega arith))

  pub slice_get-set_same : (xs : List A) (i : ℕ) (v : A) → i < length xs → slice_get (set xs i v) i ≡ Some v
  slice_get-set_same [] i v h = absurd (omega arith)
  slice_get-set_same (x ∷ xs) zero v h = refl
  slice_get-set_same (x ∷ xs) (suc i) v h = slice_get-set_same xs i v (omega arith)

  pub slice_get-set_other : (xs : List A) (i j : ℕ) (v : A) → (j ≡ i → ⊥) → slice_get (set xs i v) j ≡ slice_get xs j
  slice_get-set_other [] i j v h = refl
  slice_get-set_other (x ∷ xs) zero zero v h = absurd (h refl)
  slice_get-set_other (x ∷ xs) zero (suc j) v h = refl
  slice_get-set_other (x ∷ xs) (suc i) zero v h = refl
  slice_get-set_other (x ∷ xs) (suc i) (suc j) v h = slice_get-set_other xs i j v (λ e. h (ap suc e))

  pub slice_get-push : (xs : List A) (v : A) (n : ℕ) → n ≡ length xs → slice_get (xs ++ v ∷ []) n ≡ Some v
  slice_get-push xs v n h = slice_get-append_right xs (v ∷ []) n 0 (omega arith)

  -- what a list has at a place it has there after more is added
  pub slice_get-more : (xs ys : List A) (i : ℕ) (v : A) → slice_get xs i ≡ Some v → slice_get (xs ++ ys) i ≡ Some v
  slice_get-more xs ys i v h = slice_get-append_left xs ys i (slice_get_within xs i v h) ∙ h

  -- each of them has 64 items
  abbrev pub AllFull : List (List A) → Type 0
  AllFull cs = All (λ (c : List A). length c ≡ 64) cs

  abbrev pub joined : List (List A) → List A
  joined cs = flat_map (λ (c : List A). c) cs

  pub AllFull-rest : (c : List A) (cs : List (List A)) → AllFull (c ∷ cs) → AllFull cs
  AllFull-rest c cs full = λ k d h. full (suc k) d (omega arith)

  pub AllFull-first : (c : List A) (cs : List (List A)) → AllFull (c ∷ cs) → length c ≡ 64
  AllFull-first c cs full = full 0 c (omega arith)

  pub AllFull-push : (cs : List (List A)) (c : List A) → AllFull cs → length c ≡ 64 → (k : ℕ) (d : List A) → k < length (cs ++ c ∷ []) → length (get_or (cs ++ c ∷ []) k d) ≡ 64
  AllFull-push [] c full h zero d below = h
  AllFull-push [] c full h (suc k) d below = absurd (omega arith)
  AllFull-push (b ∷ cs) c full h zero d below = AllFull-first b cs full
  AllFull-push (b ∷ cs) c full h (suc k) d below = AllFull-push cs c (AllFull-rest b cs full) h k d (omega arith)

  pub length-joined : (cs : List (List A)) → AllFull cs → length (joined cs) ≡ 64 * length cs
  length-joined [] full = refl
  length-joined (c ∷ cs) full =
      let rest = length-joined cs (AllFull-rest c cs full) in
      let first = AllFull-first c cs full in
      let both = length-append c (joined cs) in
      omega arith

  pub slice_get-joined : (cs : List (List A)) → AllFull cs → (n q r : ℕ) → n ≡ 64 * q + r → r < 64 → slice_get (joined cs) n ≡ slice_get (get_or cs q []) r
  slice_get-joined [] full n q r e h = refl
  slice_get-joined (c ∷ cs) full n zero r e h =
      let first = AllFull-first c cs full in
      let same : n ≡ r = omega arith in
      slice_get-append_left c (joined cs) n (omega arith) ∙ ap (slice_get c) same
  slice_get-joined (c ∷ cs) full n (suc q) r e h =
      let first = AllFull-first c cs full in
      slice_get-append_right c (joined cs) n (64 * q + r) (omega arith) ∙ slice_get-joined cs (AllFull-rest c cs full) (64 * q + r) q r refl h

  pub set-joined : (cs : List (List A)) → AllFull cs → (n q r : ℕ) (v : A) → n ≡ 64 * q + r → r < 64 → joined (set cs q (set (get_or cs q []) r v)) ≡ set (joined cs) n v
  set-joined [] full n q r v e h = refl
  set-joined (c ∷ cs) full n zero r v e h =
      let first = AllFull-first c cs full in
      let same : r ≡ n = omega arith in
      sym (set-append_left c (joined cs) n v (omega arith) ∙ ap (λ (k : ℕ). set c k v ++ joined cs) (sym same))
  set-joined (c ∷ cs) full n (suc q) r v e h =
      let first = AllFull-first c cs full in
      ap (λ (l : List A). c ++ l) (set-joined cs (AllFull-rest c cs full) (64 * q + r) q r v refl h) ∙ sym (set-append_right c (joined cs) n (64 * q + r) v (omega arith))

  -- what place n of the whole is in the list that holds it
  pub record IsChunkOf (cs : List (List A)) (n : ℕ) (c : List A) : Type 0 where
    pub full : length c ≡ 64
    pub gets : slice_get (joined cs) n ≡ slice_get c (n % 64)
    pub sets : (v : A) → joined (set cs (n / 64) (set c (n % 64) v)) ≡ set (joined cs) n v

  pub chunk_of : (cs : List (List A)) → AllFull cs → (n : ℕ) (c : List A) → n < length (joined cs) → c ≡ get_or cs (n / 64) c → IsChunkOf cs n c
  chunk_of cs full n c h e =
      let all = length-joined cs full in
      let within : n / 64 < length cs = omega arith in
      let at : c ≡ get_or cs (n / 64) [] = e ∙ get_or_default cs (n / 64) c [] within in
      let parts : n ≡ 64 * (n / 64) + n % 64 = omega arith in
      let below : n % 64 < 64 = omega arith in
      record {
        full = rw at (full (n / 64) [] within);
        gets = slice_get-joined cs full n (n / 64) (n % 64) parts below ∙ ap (λ (l : List A). slice_get l (n % 64)) (sym at);
        sets = λ v. ap (λ (l : List A). joined (set cs (n / 64) (set l (n % 64) v))) at ∙ set-joined cs full n (n / 64) (n % 64) v parts below;
      }
