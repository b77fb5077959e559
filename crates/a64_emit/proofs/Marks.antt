-- The marks of items are those of their sites, in order, each where the items are what its site asks for.
use Rattle.std.proofs.Common.{◌≡◌, ℕ, zero, suc, ◌+◌, ◌<◌, ◌≤◌, false, not, cond, List, [], ◌∷◌, ◌++◌, Some, length, refl, ap, ◌∙◌, subst, arith, eq-eqb}
use Rattle.std.specs.Prelude.{slice_get}
use Rattle.std.specs.List.{position_or_len}
use Rattle.std.proofs.lemmas.Bool.{ne_eqb}
use Rattle.b3_base.proofs.Lists.{get_front}
use Rattle.stackmap.specs.declared.site.Site.{Site}
use Rattle.stackmap.specs.declared.site.SiteKind.{SiteKind}
use Rattle.stackmap.specs.declared.site.SiteKind.TheVariants.{Call, Patchpoint, Exit, Trap}
use Rattle.a64_inst.specs.declared.inst.Inst.{Inst}
use Rattle.a64_inst.specs.declared.inst.Inst.TheVariants.{Break}
use Rattle.a64_inst.specs.declared.item.Item.{Item}
use Rattle.a64_inst.specs.declared.item.Item.TheVariants.{Mark, Plain}
use Rattle.a64_layout.specs.Text.{is_any_mark, is_mark, mark_count}
use Rattle.a64_code.specs.Places.{plains}
use Rattle.a64_emit.specs.Sites.{SuitsItems}
use Rattle.a64_emit.proofs.LabelCounts.{more_times}
use Rattle.a64_emit.proofs.Trees.{Each}

-- the marks of some items are the numbers from one on, one for each of some sites, in order
abbrev pub Marked : ℕ → List Item → List Site → Type 0
Marked n [] [] = Unit {0}
Marked n [] (site ∷ sites) = ⊥
Marked n (Mark mark ∷ items) [] = ⊥
Marked n (Mark mark ∷ items) (site ∷ sites) = (mark ≡ n) × SuitsItems items site.kind site.size 0 × Marked (suc n) items sites
Marked n (item ∷ items) sites = Marked n items sites

-- ---- items one after the other

suits_front : (xs ys : List Item) (kind : SiteKind) (size k : ℕ) → SuitsItems xs kind size k → SuitsItems (xs ++ ys) kind size k
suits_front xs ys Call size k h = (h.0, h.1, get_front xs ys k _ h.2)
suits_front xs ys Patchpoint size k h = λ i lt. get_front xs ys (k + i) _ (h i lt)
suits_front xs ys Exit size k h = get_front xs ys k _ h
suits_front xs ys Trap size k h = (h.0, get_front xs ys k _ h.1, h.2)

pub marked_append : (n m : ℕ) (xs ys : List Item) (ss ts : List Site) → m ≡ n + length ss → Marked n xs ss → Marked m ys ts → Marked n (xs ++ ys) (ss ++ ts)
marked_append n m [] ys [] ts e first rest = subst (λ k. Marked k ys ts) (omega arith) rest
marked_append n m [] ys (s ∷ ss) ts e first rest = absurd first
marked_append n m (Mark mark ∷ xs) ys [] ts e first rest = absurd first
marked_append n m (Mark mark ∷ xs) ys (s ∷ ss) ts e first rest =
    (first.0, suits_front xs ys s.kind s.size 0 first.1, marked_append (suc n) m xs ys ss ts (omega arith) first.2 rest)
marked_append n m (item ∷ xs) ys ss ts e first rest = marked_append n m xs ys ss ts e first rest

-- an item that is no mark
abbrev pub IsUnmarked : Item → Type 0
IsUnmarked item = is_any_mark item ≡ false

pub marked_none : (n : ℕ) (items : List Item) → Each IsUnmarked items → Marked n items []
marked_none n [] none = tt
marked_none n (Mark mark ∷ items) none = absurd cc
marked_none n (item ∷ items) none = marked_none n items none.1

pub plains_unmarked : (insts : List Inst) → Each IsUnmarked (plains insts)
plains_unmarked [] = tt
plains_unmarked (inst ∷ insts) = (refl, plains_unmarked insts)

-- ---- what is so of all marks

pub marks_counted : (n : ℕ) (items : List Item) (sites : List Site) → Marked n items sites → mark_count items ≡ length sites
marks_counted n [] [] h = refl
marks_counted n [] (s ∷ ss) h = absurd h
marks_counted n (Mark mark ∷ items) [] h = absurd h
marks_counted n (Mark mark ∷ items) (s ∷ ss) h =
    let more = more_times is_any_mark (Mark mark) items in
    let rest = marks_counted (suc n) items ss h.2 in
    omega arith
marks_counted n (item ∷ items) sites h =
    let more = more_times is_any_mark item items in
    let rest = marks_counted n items sites h in
    omega arith

-- each mark is the number of a site
pub mark_within : (n : ℕ) (items : List Item) (sites : List Site) → Marked n items sites → (k mark : ℕ) → slice_get items k ≡ Some (Mark mark)
    → (n ≤ mark) × (mark < n + length sites)
mark_within n [] sites h k mark there = absurd cc
mark_within n (Mark first ∷ items) [] h k mark there = absurd h
mark_within n (Mark first ∷ items) (s ∷ ss) h zero mark there = let same : first ≡ mark = cc in let is = h.0 in (omega arith, omega arith)
mark_within n (Mark first ∷ items) (s ∷ ss) h (suc k) mark there =
    let rest = mark_within (suc n) items ss h.2 k mark there in (omega (arith, rest.0), omega (arith, rest.1))
mark_within n (item ∷ items) sites h zero mark there = absurd cc
mark_within n (item ∷ items) sites h (suc k) mark there = mark_within n items sites h k mark there

pub mark_once : (n : ℕ) (items : List Item) (sites : List Site) → Marked n items sites → (i j mark : ℕ) → slice_get items i ≡ Some (Mark mark)
    → slice_get items j ≡ Some (Mark mark) → i ≡ j
mark_once n [] sites h i j mark there_i there_j = absurd cc
mark_once n (Mark first ∷ items) [] h i j mark there_i there_j = absurd h
mark_once n (Mark first ∷ items) (s ∷ ss) h zero zero mark there_i there_j = refl
mark_once n (Mark first ∷ items) (s ∷ ss) h zero (suc j) mark there_i there_j =
    let same : first ≡ mark = cc in let is = h.0 in
    let more = mark_within (suc n) items ss h.2 j mark there_j in absurd (omega (arith, more.0))
mark_once n (Mark first ∷ items) (s ∷ ss) h (suc i) zero mark there_i there_j =
    let same : first ≡ mark = cc in let is = h.0 in
    let more = mark_within (suc n) items ss h.2 i mark there_i in absurd (omega (arith, more.0))
mark_once n (Mark first ∷ items) (s ∷ ss) h (suc i) (suc j) mark there_i there_j = ap suc (mark_once (suc n) items ss h.2 i j mark there_i there_j)
mark_once n (item ∷ items) sites h zero j mark there_i there_j = absurd cc
mark_once n (item ∷ items) sites h (suc i) zero mark there_i there_j = absurd cc
mark_once n (item ∷ items) sites h (suc i) (suc j) mark there_i there_j = ap suc (mark_once n items sites h i j mark there_i there_j)

-- ---- where marks stand

first_mark : (mark : ℕ) (items : List Item) → position_or_len (is_mark mark) (Mark mark ∷ items) ≡ 0
first_mark mark items = ap (λ b. cond (not b) (1 + position_or_len (is_mark mark) items) 0) (eq-eqb mark mark refl)

later_mark : (mark : ℕ) (item : Item) (items : List Item) → is_mark mark item ≡ false
    → position_or_len (is_mark mark) (item ∷ items) ≡ suc (position_or_len (is_mark mark) items)
later_mark mark item items none = ap (λ b. cond (not b) (1 + position_or_len (is_mark mark) items) 0) none ∙ omega arith

later_suits : (item : Item) (items : List Item) (kind : SiteKind) (size k : ℕ) → SuitsItems items kind size k → SuitsItems (item ∷ items) kind size (suc k)
later_suits item items Call size k h = (h.0, h.1, h.2)
later_suits item items Patchpoint size k h = λ i lt. let e : suc (k + i) ≡ suc k + i = omega arith in
    subst (λ n. slice_get (item ∷ items) n ≡ Some (Plain (Break 2))) e (h i lt)
later_suits item items Exit size k h = h
later_suits item items Trap size k h = (h.0, h.1, h.2)

-- where the mark of a site stands, with what the site asks for behind it
pub record MarkStands (items : List Item) (mark : ℕ) (site : Site) : Type 0 where
  pub at : ℕ
  pub position : position_or_len (is_mark mark) items ≡ at
  pub there : slice_get items at ≡ Some (Mark mark)
  pub suits : SuitsItems items site.kind site.size (suc at)

stands_later : (item : Item) (items : List Item) (mark : ℕ) (site : Site) → is_mark mark item ≡ false → MarkStands items mark site
    → MarkStands (item ∷ items) mark site
stands_later item items mark site none m = record {
  at = suc m.at;
  position = later_mark mark item items none ∙ ap suc m.position;
  there = m.there;
  suits = later_suits item items site.kind site.size (suc m.at) m.suits;
}

pub mark_stands : (n : ℕ) (items : List Item) (sites : List Site) → Marked n items sites → (j : ℕ) (site : Site) → slice_get sites j ≡ Some site
    → MarkStands items (n + j) site
mark_stands n [] [] h j site there = absurd cc
mark_stands n [] (s ∷ ss) h j site there = absurd h
mark_stands n (Mark mark ∷ items) [] h j site there = absurd h
mark_stands n (Mark mark ∷ items) (s ∷ ss) h zero site there =
    let same : s ≡ site = cc in
    let e : mark ≡ n + 0 = let is = h.0 in omega arith in
    subst (λ k. MarkStands (Mark mark ∷ items) k site) e (record {
      at = 0;
      position = first_mark mark items;
      there = refl;
      suits = subst (λ (x : Site). SuitsItems (Mark mark ∷ items) x.kind x.size 1) same (later_suits (Mark mark) items s.kind s.size 0 h.1);
    })
mark_stands n (Mark mark ∷ items) (s ∷ ss) h (suc j) site there =
    let e : suc n + j ≡ n + suc j = omega arith in
    subst (λ k. MarkStands (Mark mark ∷ items) k site) e
    (stands_later (Mark mark) items (suc n + j) site (ne_eqb mark (suc n + j) (λ e. let is = h.0 in omega arith)) (mark_stands (suc n) items ss h.2 j site there))
mark_stands n (item ∷ items) sites h j site there = stands_later item items (n + j) site refl (mark_stands n items sites h j site there)

-- a later mark stands farther on
pub marks_rise : (n : ℕ) (items : List Item) (sites : List Site) → Marked n items sites → (j k : ℕ) → j < k → k < length sites
    → position_or_len (is_mark (n + j)) items < position_or_len (is_mark (n + k)) items
marks_rise n [] [] h j k lt within = absurd (omega arith)
marks_rise n [] (s ∷ ss) h j k lt within = absurd h
marks_rise n (Mark mark ∷ items) [] h j k lt within = absurd h
marks_rise n (Mark mark ∷ items) (s ∷ ss) h j zero lt within = absurd (omega arith)
marks_rise n (Mark mark ∷ items) (s ∷ ss) h zero (suc k) lt within =
    let e : mark ≡ n + 0 = let is = h.0 in omega arith in
    let first : position_or_len (is_mark (n + 0)) (Mark mark ∷ items) ≡ 0 =
    subst (λ m. position_or_len (is_mark m) (Mark mark ∷ items) ≡ 0) e (first_mark mark items) in
    let later = later_mark (n + suc k) (Mark mark) items (ne_eqb mark (n + suc k) (λ e. let is = h.0 in omega arith)) in
    omega arith
marks_rise n (Mark mark ∷ items) (s ∷ ss) h (suc j) (suc k) lt within =
    let a : suc n + j ≡ n + suc j = omega arith in
    let b : suc n + k ≡ n + suc k = omega arith in
    let rest : position_or_len (is_mark (n + suc j)) items < position_or_len (is_mark (n + suc k)) items =
    subst (λ x. position_or_len (is_mark x) items < position_or_len (is_mark (n + suc k)) items) a
    (subst (λ x. position_or_len (is_mark (suc n + j)) items < position_or_len (is_mark x) items) b
    (marks_rise (suc n) items ss h.2 j k (omega arith) (omega arith))) in
    let first = later_mark (n + suc j) (Mark mark) items (ne_eqb mark (n + suc j) (λ e. let is = h.0 in omega arith)) in
    let second = later_mark (n + suc k) (Mark mark) items (ne_eqb mark (n + suc k) (λ e. let is = h.0 in omega arith)) in
    omega arith
marks_rise n (item ∷ items) sites h j k lt within =
    let rest = marks_rise n items sites h j k lt within in
    let first = later_mark (n + j) item items refl in
    let second = later_mark (n + k) item items refl in
    omega arith
