-- What was read is spelled so, and what is spelled so is read: fields, and rows of them.
use Rattle.std.proofs.Common.{◌≡◌, ℕ, zero, suc, ◌+◌, ◌*◌, ◌^◌, ◌%◌, ◌<◌, Bool, true, false, cond, eqb, List, [], ◌∷◌, ◌++◌, length, Result, Ok, Err, refl, sym, ap, subst, ◌∙◌, append_assoc}
use Rattle.std.specs.Prelude.{⊤, ◌&&◌}
use Rattle.b3_base.specs.Fields.{fields}
use Rattle.std.specs.List.{flat_map, AllByRecursion}
use Rattle.std.proofs.lemmas.Bool.{eqb-true, eq-eqb, and_parts}
use Rattle.std.proofs.lemmas.List.{nil_from_length}
use Rattle.std.proofs.lemmas.List.Concat.{flat_map-cons}
use Rattle.exit_table.specs.declared.fault.Cause.{Cause}
use Rattle.exit_table.specs.declared.fault.Cause.TheVariants.{Mark, Unlisted, Extent}
use Rattle.exit_table.specs.declared.fault.Fault.{Fault}
use Rattle.exit_table.specs.Reading.{Reader, and_then, check, placed, next, one, two, any, give, ◌>>=◌, is_mark, mark_at, is_zero, ended, whole, rows}

-- the value of a step that did not fail
pub and_then_ok : {A B : Type 0} (r : Result A Fault) (f : A → Result B Fault) (y : B) → and_then r f ≡ Ok y → (x : A) × (r ≡ Ok x) × (f x ≡ Ok y)
and_then_ok (Ok x) f y e = (x, refl, e)
and_then_ok (Err d) f y e = absurd cc

abbrev done : {A : Type 0} → A → Result A Fault
done x = Ok x

pub ok_is : {A : Type 0} (x y : A) → done x ≡ done y → x ≡ y
ok_is x y e = cc

-- a condition that was met
pub check_ok : {A : Type 0} (b : Bool) (cause : Cause) (x y : A) → check b cause x ≡ Ok y → (b ≡ true) × (x ≡ y)
check_ok true cause x y e = (refl, let same : x ≡ y = cc in same)
check_ok false cause x y e = absurd cc

-- a condition that was met, where another fault comes first
pub if_ok : {A : Type 0} (b : Bool) (then : Result A Cause) (cause : Cause) (y : A) → cond b then (Err cause) ≡ Ok y → (b ≡ true) × (then ≡ Ok y)
if_ok true then cause y e = (refl, e)
if_ok false then cause y e = absurd cc

-- one of the numbers of a list
pub listed : {A P : Type 0} (b : Bool) (x : A) (other : Result A Cause) (y : A) → cond b (Ok x) other ≡ Ok y → (b ≡ true → x ≡ y → P) → (other ≡ Ok y → P) → P
listed true x other y e this later = this refl (let same : x ≡ y = cc in same)
listed false x other y e this later = later e

abbrev refused : {A : Type 0} → Result A Cause
refused = Err Unlisted

-- no number of it
pub unlisted : {A P : Type 0} (y : A) → refused {A = A} ≡ Ok y → P
unlisted y e = absurd cc

placed_ok : {A : Type 0} (left : ℕ) (said : Result A Cause) (x : A) → placed left said ≡ Ok x → said ≡ Ok x
placed_ok {A} left (Ok y) x e = let same : y ≡ x = cc in let ok : A → Result A Cause = λ z. Ok z in ap ok same
placed_ok left (Err cause) x e = absurd cc

pub record IsOne {A : Type 0} (judge : ℕ → Result A Cause) (fields : List ℕ) (x : A) (rest : List ℕ) : Type 0 where
  pub number : ℕ
  pub is : fields ≡ number ∷ rest
  pub says : judge number ≡ Ok x

pub one_takes : {A : Type 0} (judge : ℕ → Result A Cause) (fields : List ℕ) (x : A × List ℕ) → one judge fields ≡ Ok x → IsOne judge fields x.0 x.1
one_takes judge [] x e = absurd cc
one_takes {A} judge (n ∷ rest) x e =
    let a = and_then_ok (placed (length (n ∷ rest)) (judge n)) (λ y. Ok (y, rest)) x e in
    subst (λ (z : A × List ℕ). IsOne judge (n ∷ rest) z.0 z.1) (ok_is (a.0, rest) x a.2) (record { number = n; is = refl; says = placed_ok (length (n ∷ rest)) (judge n) a.0 a.1 })

-- a field that may have any number
pub any_is : (n m : ℕ) → any n ≡ Ok m → n ≡ m
any_is n m e = cc

pub record IsTwo {A : Type 0} (judge : ℕ → Result A Cause) (fields : List ℕ) (x : A) (rest : List ℕ) : Type 0 where
  pub low : ℕ
  pub high : ℕ
  pub is : fields ≡ low ∷ high ∷ rest
  pub says : judge (low + 2 ^ 32 * high) ≡ Ok x

pub two_takes : {A : Type 0} (judge : ℕ → Result A Cause) (fields : List ℕ) (x : A × List ℕ) → two judge fields ≡ Ok x → IsTwo judge fields x.0 x.1
two_takes judge [] x e = absurd cc
two_takes judge (low ∷ []) x e = absurd cc
two_takes {A} judge (low ∷ high ∷ rest) x e =
    let n : ℕ = low + 2 ^ 32 * high in
    let a = and_then_ok (placed (length (low ∷ high ∷ rest)) (judge n)) (λ y. Ok (y, rest)) x e in
    subst (λ (z : A × List ℕ). IsTwo judge (low ∷ high ∷ rest) z.0 z.1) (ok_is (a.0, rest) x a.2) (record { low = low; high = high; is = refl; says = placed_ok (length (low ∷ high ∷ rest)) (judge n) a.0 a.1 })

-- numbers of 32 bits
abbrev pub AreSmall : List ℕ → Type 0
AreSmall ns = AllByRecursion (λ n. n < 2 ^ 32) ns

pub small_append : (xs ys : List ℕ) → AreSmall xs → AreSmall ys → AreSmall (xs ++ ys)
small_append [] ys h k = k
small_append (x ∷ xs) ys h k = (h.0, small_append xs ys h.1 k)

pub small_behind : (xs ys : List ℕ) → AreSmall (xs ++ ys) → AreSmall ys
small_behind [] ys h = h
small_behind (x ∷ xs) ys h = small_behind xs ys h.1

pub small_left : (all xs ys : List ℕ) → AreSmall all → all ≡ xs ++ ys → AreSmall ys
small_left all xs ys small e = small_behind xs ys (subst AreSmall e small)

-- A field that was read, and what was read behind it.
pub step : {A B P : Type 0} (judge : ℕ → Result A Cause) (next : A → Reader B) (section : List ℕ) (x : B × List ℕ) → AreSmall section → (one judge >>= next) section ≡ Ok x
    → ((n : ℕ) (y : A) (rest : List ℕ) → section ≡ n ∷ rest → judge n ≡ Ok y → n < 2 ^ 32 → AreSmall rest → next y rest ≡ Ok x → P) → P
step judge next [] x small e go = absurd cc
step {A} {B} judge next (n ∷ rest) x small e go =
    let a = and_then_ok (and_then (placed (length (n ∷ rest)) (judge n)) (λ y. Ok (y, rest))) (λ z. next z.0 z.1) x e in
    let b = and_then_ok (placed (length (n ∷ rest)) (judge n)) (λ y. Ok (y, rest)) a.0 a.1 in
    go n b.0 rest refl (placed_ok (length (n ∷ rest)) (judge n) b.0 b.1) small.0 small.1 (subst (λ (z : A × List ℕ). next z.0 z.1 ≡ Ok x) (sym (ok_is (b.0, rest) a.0 b.2)) a.2)

-- each row is good in the light of those before it
abbrev pub AllAfter : {K A : Type 0} → (K → A → Type 0) → (K → A → K) → K → List A → Type 0
AllAfter good after known [] = ⊤
AllAfter good after known (row ∷ rows) = good known row × AllAfter good after (after known row) rows

module _ {K A : Type 0} (row : K → Reader A) (after : K → A → K) (spell : A → List ℕ) (Good : K → A → Type 0) where
  -- these fields begin with the row's, and the row is good
  pub record IsRow (known : K) (fields : List ℕ) (x : A) (rest : List ℕ) : Type 0 where
    pub spelled : fields ≡ spell x ++ rest
    pub good : Good known x

  pub record AreRows (known : K) (n : ℕ) (fields : List ℕ) (xs : List A) (rest : List ℕ) : Type 0 where
    pub spelled : fields ≡ flat_map spell xs ++ rest
    pub count : length xs ≡ n
    pub good : AllAfter Good after known xs

  pub rows_take : ((known : K) (fields : List ℕ) (x : A × List ℕ) → AreSmall fields → row known fields ≡ Ok x → IsRow known fields x.0 x.1)
      → (n : ℕ) (known : K) (fields : List ℕ) (x : List A × List ℕ) → AreSmall fields → rows row after known n fields ≡ Ok x → AreRows known n fields x.0 x.1
  unfolding rows
  rows_take take zero known fields x small e = subst (λ (z : List A × List ℕ). AreRows known 0 fields z.0 z.1) (ok_is ([], fields) x e) (record { spelled = refl; count = refl; good = tt })
  rows_take take (suc n) known fields x small e =
      let a = and_then_ok (row known fields) (λ first. and_then (rows row after (after known first.0) n first.1) (λ others. Ok (first.0 ∷ others.0, others.1))) x e in
      let b = and_then_ok (rows row after (after known a.0.0) n a.0.1) (λ others. Ok (a.0.0 ∷ others.0, others.1)) x a.2 in
      let first = take known fields a.0 small a.1 in
      let others = rows_take take n (after known a.0.0) a.0.1 b.0 (small_left fields (spell a.0.0) a.0.1 small first.spelled) b.1 in
      let text : fields ≡ flat_map spell (a.0.0 ∷ b.0.0) ++ b.0.1 = first.spelled ∙ ap (λ (t : List ℕ). spell a.0.0 ++ t) others.spelled ∙ sym (append_assoc (spell a.0.0) (flat_map spell b.0.0) b.0.1) ∙ ap (λ (t : List ℕ). t ++ b.0.1) (sym (flat_map-cons spell a.0.0 b.0.0)) in
      subst (λ (z : List A × List ℕ). AreRows known (suc n) fields z.0 z.1) (ok_is (a.0.0 ∷ b.0.0, b.0.1) x b.2) (record { spelled = text; count = ap suc others.count; good = (first.good, others.good) })

  pub rows_again : ((known : K) (x : A) (rest : List ℕ) → Good known x → row known (spell x ++ rest) ≡ Ok (x, rest))
      → (known : K) (xs : List A) (rest : List ℕ) → AllAfter Good after known xs → rows row after known (length xs) (flat_map spell xs ++ rest) ≡ Ok (xs, rest)
  unfolding rows
  rows_again again known [] rest good = refl
  rows_again again known (x ∷ xs) rest good =
      let regrouped : flat_map spell (x ∷ xs) ++ rest ≡ spell x ++ (flat_map spell xs ++ rest) = ap (λ (t : List ℕ). t ++ rest) (flat_map-cons spell x xs) ∙ append_assoc (spell x) (flat_map spell xs) rest in
      ap (rows row after known (suc (length xs))) regrouped ∙ rw (again known x (flat_map spell xs ++ rest) good.0, rows_again again (after known x) xs rest good.1) refl

-- the first fields of a section
pub mark_takes : (mark : ℕ) (section : List ℕ) (x : ⊤ × List ℕ) → mark_at mark section ≡ Ok x → section ≡ mark ∷ 1 ∷ x.1
unfolding mark_at
mark_takes mark section x e =
    let a = and_then_ok (one (is_mark mark) section) (λ m. (one (is_mark 1) >>= λ v. give tt) m.1) x e in
    let b = and_then_ok (one (is_mark 1) a.0.1) (λ v. Ok (tt, v.1)) x a.2 in
    let m = one_takes (is_mark mark) section a.0 a.1 in
    let v = one_takes (is_mark 1) a.0.1 b.0 b.1 in
    let is_m = check_ok (eqb m.number mark) Mark m.number a.0.0 m.says in
    let is_v = check_ok (eqb v.number 1) Mark v.number b.0.0 v.says in
    m.is ∙ ap (λ (t : List ℕ). m.number ∷ t) v.is ∙ rw (eqb-true _ _ is_m.0, eqb-true _ _ is_v.0) (ap (λ (z : ⊤ × List ℕ). mark ∷ 1 ∷ z.1) (ok_is (tt, b.0.1) x b.2))

pub mark_again : (mark : ℕ) (rest : List ℕ) → mark_at mark (mark ∷ 1 ∷ rest) ≡ Ok (tt, rest)
unfolding mark_at
mark_again mark rest = rw (eq-eqb mark mark refl) refl

pub zero_takes : (section : List ℕ) (x : ℕ × List ℕ) → one is_zero section ≡ Ok x → section ≡ 0 ∷ x.1
zero_takes section x e =
    let z = one_takes is_zero section x e in
    let is = check_ok (eqb z.number 0) Unlisted z.number x.0 z.says in
    z.is ∙ ap (λ (n : ℕ). n ∷ x.1) (eqb-true _ _ is.0)

-- all of the bytes
pub record IsWhole {A : Type 0} (reader : Reader A) (bytes : List ℕ) (x : A) : Type 0 where
  pub read : reader (fields bytes) ≡ Ok (x, [])
  pub ends : length bytes % 4 ≡ 0

pub whole_takes : {A : Type 0} (reader : Reader A) (bytes : List ℕ) (x : A) → whole reader bytes ≡ Ok x → IsWhole reader bytes x
unfolding whole
whole_takes {A} reader bytes x e =
    let a = and_then_ok (reader (fields bytes)) (λ y. and_then (ended bytes y.1) (λ _. Ok y.0)) x e in
    let b = and_then_ok (ended bytes a.0.1) (λ _. Ok a.0.0) x a.2 in
    let said : Result ⊤ Cause = check ((eqb (length a.0.1) 0) && (eqb (length bytes % 4) 0)) Extent tt in
    let p = check_ok ((eqb (length a.0.1) 0) && (eqb (length bytes % 4) 0)) Extent tt b.0 (placed_ok (length a.0.1) said b.0 b.1) in
    let q = and_parts _ _ p.0 in
    let nothing : a.0.1 ≡ [] = nil_from_length a.0.1 (eqb-true _ _ q.0) in
    let ok : A → List ℕ → Result (A × List ℕ) Fault = λ y t. Ok (y, t) in
    record { read = a.1 ∙ ap (λ (t : List ℕ). ok a.0.0 t) nothing ∙ ap (λ (y : A). ok y []) (ok_is a.0.0 x b.2); ends = eqb-true _ _ q.1 }

pub whole_again : {A : Type 0} (reader : Reader A) (bytes : List ℕ) (x : A) → IsWhole reader bytes x → whole reader bytes ≡ Ok x
unfolding whole
whole_again reader bytes x is = rw (is.read, is.ends) refl
