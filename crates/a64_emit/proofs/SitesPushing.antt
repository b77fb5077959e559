-- How the sites of a list of instructions, or of blocks, grow by those of one more.
use Rattle.std.proofs.Common.{◌≡◌, ℕ, zero, suc, ◌+◌, ◌-◌, ◌<◌, ◌≤◌, Bool, true, false, List, [], ◌∷◌, ◌++◌, sym, ap, ◌∙◌, subst, arith, length, take, drop, get_or, append_assoc, append-nil, Some, refl}
use Rattle.std.specs.Prelude.{All, if◌then◌else◌, slice_get}
use Rattle.std.specs.List.{flat_map}
use Rattle.std.proofs.Math.Seq.{take-suc}
use Rattle.std.proofs.lemmas.List.Concat.{flat_map-append}
use Rattle.stackmap.specs.declared.site.Place.{Place}
use Rattle.a64_inst.specs.declared.inst.Inst.TheVariants.{Break}
use Rattle.a64_inst.specs.declared.item.Item.{Item}
use Rattle.a64_inst.specs.declared.item.Item.TheVariants.{Plain}
use Rattle.air_ir.specs.Operands.{is_read}
use Rattle.air_ir.specs.declared.frame.Frame.{Frame}
use Rattle.air_ir.specs.declared.operand.Operand.{Operand}
use Rattle.a64_emit.specs.Code.{breaks}
use Rattle.a64_emit.specs.Made.{and_place, places_read, with_home, with_written}
use Rattle.a64_code.specs.Places.{plains}
use Rattle.std.proofs.lemmas.List.Elements.{All-append, All-cons, All-nil}
use Rattle.b3_base.proofs.Lists.{drop_next, get_take}

one_more : (i : ℕ) → i + 1 ≡ suc i
one_more i = omega arith

-- a list that is gone through is this one
taken : {X : Type 0} (items xs : List X) (i : ℕ) (x : X) → items ≡ xs → i < length items → x ≡ get_or items i x
    → take (i + 1) xs ≡ take i xs ++ x ∷ []
taken items xs i x same lt is = subst (λ ys. take (i + 1) ys ≡ take i ys ++ x ∷ []) same (taken_here items i x lt is)
  where
    taken_here : {X : Type 0} (xs : List X) (i : ℕ) (x : X) → i < length xs → x ≡ get_or xs i x → take (i + 1) xs ≡ take i xs ++ x ∷ []
    taken_here xs i x lt is = ap (λ n. take n xs) (one_more i) ∙ take-suc xs i x lt ∙ ap (λ y. take i xs ++ y ∷ []) (sym is)

pub flat_grown : {X A : Type 0} (f : X → List A) (items xs : List X) (i : ℕ) (x : X) (before now after : List A) → items ≡ xs → i < length items
    → x ≡ get_or items i x → now ≡ before ++ flat_map f (take i xs) → after ≡ now ++ f x → after ≡ before ++ flat_map f (take (i + 1) xs)
flat_grown f items xs i x before now after same lt is was pushed =
    pushed ∙ ap (λ ys. ys ++ f x) was ∙ append_assoc before (flat_map f (take i xs)) (f x)
    ∙ ap (λ ys. before ++ (flat_map f (take i xs) ++ ys)) (sym (append-nil (f x)))
    ∙ ap (λ ys. before ++ ys) (sym (flat_map-append f (take i xs) (x ∷ [])))
    ∙ ap (λ ys. before ++ flat_map f ys) (sym (taken items xs i x same lt is))

pub all_grown : {X : Type 0} (P : X → Type 0) (items xs : List X) (i : ℕ) (x : X) → items ≡ xs → i < length items → x ≡ get_or items i x → P x
    → All P (take i xs) → All P (take (i + 1) xs)
all_grown P items xs i x same lt is here before =
    subst (All P) (sym (taken items xs i x same lt is)) (All-append P (take i xs) (x ∷ []) before (All-cons P x [] here (All-nil P)))

-- ---- the operands of a site

none_left : {X : Type 0} (xs : List X) (k : ℕ) → length xs ≤ k → drop k xs ≡ []
none_left [] zero le = refl
none_left [] (suc k) le = refl
none_left (a ∷ xs) zero le = absurd (omega arith)
none_left (a ∷ xs) (suc k) le = none_left xs k (omega arith)

and_place_front : (reads : Bool) (f : Frame) (o : Operand) (places : List Place) → and_place reads f o [] ++ places ≡ and_place reads f o places
and_place_front true f o places = refl
and_place_front false f o places = refl

pub places_next : (f : Frame) (os : List Operand) (k : ℕ) (o : Operand) (now after whole : List Place) → now ++ places_read f (drop k os) ≡ whole
    → slice_get os k ≡ Some o → after ≡ now ++ and_place (is_read o.role) f o [] → after ++ places_read f (drop (k + 1) os) ≡ whole
unfolding places_read
places_next f os k o now after whole left there pushed =
    let rest : List Place = places_read f (drop (k + 1) os) in
    ap (λ xs. xs ++ rest) pushed ∙ append_assoc now (and_place (is_read o.role) f o []) rest
    ∙ ap (λ xs. now ++ xs) (and_place_front (is_read o.role) f o rest ∙ ap (places_read f) (sym (drop_next os k o there))) ∙ left

pub places_done : (f : Frame) (os : List Operand) (k : ℕ) (now whole : List Place) → now ++ places_read f (drop k os) ≡ whole → length os ≤ k → now ≡ whole
unfolding places_read
places_done f os k now whole left le = sym (append-nil now) ∙ ap (λ xs. now ++ places_read f xs) (sym (none_left os k le)) ∙ left

few_taken : {X : Type 0} (xs : List X) (n : ℕ) → length (take n xs) ≤ n
few_taken [] zero = omega arith
few_taken [] (suc n) = omega arith
few_taken (x ∷ xs) zero = omega arith
few_taken (x ∷ xs) (suc n) = let rest = few_taken xs n in omega arith

pub written_next : (os : List Operand) (n k : ℕ) (o : Operand) (set after whole : ℕ) → with_written set (drop k (take n os)) ≡ whole → k < n
    → slice_get os k ≡ Some o → after ≡ (if is_read o.role then set else with_home set o.arg) → with_written after (drop (k + 1) (take n os)) ≡ whole
unfolding with_written
written_next os n k o set after whole left lt there is =
    ap (λ x. with_written x (drop (k + 1) (take n os))) is
    ∙ ap (with_written set) (sym (drop_next (take n os) k o (get_take os n k o lt there))) ∙ left

pub written_done : (os : List Operand) (n k : ℕ) (set whole : ℕ) → with_written set (drop k (take n os)) ≡ whole → n ≤ k → set ≡ whole
unfolding with_written
written_done os n k set whole left le =
    let few = few_taken os n in
    ap (with_written set) (sym (none_left (take n os) k (omega arith))) ∙ left

-- ---- the words of a patchpoint

pub breaks_next : (size i : ℕ) (now after whole : List Item) → now ++ plains (breaks (size - i)) ≡ whole → i < size → after ≡ now ++ Plain (Break 2) ∷ []
    → after ++ plains (breaks (size - (i + 1))) ≡ whole
unfolding breaks
breaks_next size i now after whole left lt pushed =
    let e : suc (size - (i + 1)) ≡ size - i = omega arith in
    ap (λ (xs : List Item). xs ++ plains (breaks (size - (i + 1)))) pushed
    ∙ append_assoc now (Plain (Break 2) ∷ []) (plains (breaks (size - (i + 1))))
    ∙ ap (λ n. now ++ plains (breaks n)) e ∙ left

pub breaks_done : (size i : ℕ) (now whole : List Item) → now ++ plains (breaks (size - i)) ≡ whole → size ≤ i → now ≡ whole
unfolding breaks
breaks_done size i now whole left le =
    let e : 0 ≡ size - i = omega arith in
    sym (append-nil now) ∙ ap (λ n. now ++ plains (breaks n)) e ∙ left
